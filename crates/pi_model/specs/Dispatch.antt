-- Which method a call by the receiver's type reaches. Restates the selection of methods of the virtual machine specification.
use Rattle.std.specs.Prelude.{ℕ, ◌&&◌, not, Option, Bool, codes}
use Rattle.pi_model.specs.declared.describe.MethodDesc.{MethodDesc}
use Rattle.pi_model.specs.declared.insn.MethodRef.{MethodRef}
use Rattle.pi_model.specs.Program.{Program}
use Rattle.pi_model.specs.Texts.{is_named}
use Rattle.pi_model.specs.Search.{Member, is_handed_down, lineage, first_in, method_passing}

-- a method that is found by the receiver's type: neither static nor private, and no constructor
unfoldable pub is_virtual : Program → MethodDesc → Bool
is_virtual p x = is_handed_down x && not (is_named p x.name (codes "<init>"))

-- The nearest class, from the given one upward, that has a virtual method of that name and prototype.
abbrev pub dispatch : Program → MethodRef → ℕ → Option Member
dispatch p m c = first_in (method_passing p (is_virtual p) m) (lineage p c)
