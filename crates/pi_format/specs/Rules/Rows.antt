-- Class data: the members that a class lists, row by row.
use Rattle.std.specs.Prelude.{ℕ, zero, suc, ◌+◌, ◌&&◌, nat_lt, List, [], ◌∷◌, Option, Some, None, Result, Ok, Err, Bool, true, false, if◌then◌else◌}
use Rattle.pi_bytes.specs.declared.fault.ReadFault.{ReadFault}
use Rattle.pi_bytes.specs.Place.{Place}
use Rattle.pi_bytes.specs.Leb.{uleb_at}
use Rattle.pi_insn.specs.Chain.{◌>>=◌}
use Rattle.pi_format.specs.declared.lists.MemberList.{MemberList}
use Rattle.pi_format.specs.declared.lists.MemberList.TheVariants.{StaticFields, InstanceFields, DirectMethods, VirtualMethods}

-- a member that a class lists: its id, its flags, and the offset of its code, which is 0 where it has none
pub record MemberRow : Type 0 where
  pub id : ℕ
  pub flags : ℕ
  pub code : ℕ

-- what was read, if anything was
abbrev pub readable : {A : Type 0} → Result A ReadFault → Option A
readable (Ok x) = Some x
readable (Err fault) = None

-- the rows of methods have an offset of code
abbrev pub has_code : MemberList → Bool
has_code StaticFields = false
has_code InstanceFields = false
has_code DirectMethods = true
has_code VirtualMethods = true

abbrev pub code_offset : Bool → Place → Option (ℕ × Place)
code_offset false p = Some (0, p)
code_offset true p = readable (uleb_at p)

-- the id from which that of the next row is counted, and whether an id is behind that of the row before
abbrev pub counted_from : Option ℕ → ℕ
counted_from None = 0
counted_from (Some before) = before

abbrev pub is_behind : Option ℕ → ℕ → Bool
is_behind None id = true
is_behind (Some before) id = nat_lt before id

-- a row: the difference of its id to that of the row before it, its flags, and for a method the offset of its code
unfoldable pub member_row : MemberList → Option ℕ → Place → Option (MemberRow × Place)
member_row list before p = do
  difference ← readable (uleb_at p)
  flags ← readable (uleb_at difference.1)
  code ← code_offset (has_code list) flags.1
  Some (record { id = counted_from before + difference.0; flags = flags.0; code = code.0 }, code.1)

-- n rows one behind the other, with ids that rise, each of which holds
abbrev pub rows_from : (MemberRow → Bool) → MemberList → ℕ → Option ℕ → Place → Option (List MemberRow × Place)
rows_from holds list zero before p = Some ([], p)
rows_from holds list (suc n) before p = do
  first ← member_row list before p
  if is_behind before first.0.id && holds first.0 then (do
    others ← rows_from holds list n (Some first.0.id) first.1
    Some (first.0 ∷ others.0, others.1))
      else None
