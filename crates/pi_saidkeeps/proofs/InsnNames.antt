-- What the instructions of a code name: each is one of the strings, types, fields or methods of the file.
use Rattle.std.proofs.Common.{◌≡◌, ℕ, List, [], ◌∷◌, map, Bool, true, None, refl, subst, sym}
use Rattle.std.specs.Prelude.{nat_lt}
use Rattle.std.specs.List.{list_all, flat_map}
use Rattle.std.proofs.lemmas.Bool.{and_from, ltb-true}
use Rattle.pi_model.specs.declared.numbers.NameNo.{NameNo}
use Rattle.pi_model.specs.declared.describe.Line.{Line}
use Rattle.pi_insn.specs.declared.raw.RawBody.{RawBody}
use Rattle.pi_insn.specs.declared.raw.RawBody.TheVariants.{ConstString, ConstClass, CheckCast, InstanceOf, NewInstance, NewArray, Filled, Iget, Iput, Sget, Sput, Invoke}
use Rattle.pi_format.specs.Tables.{count_at, type_ids, field_ids, method_ids}
use Rattle.pi_format.specs.Rules.Pieces.{Piece, What, Instruction, Payload, first_insn, index_holds}
use Rattle.pi_format.specs.Says.Names.{Named, field_ref, method_ref}
use Rattle.pi_format.specs.Says.Insns.{insn_of}
use Rattle.pi_format.specs.Says.Codes.{line_of, lines_of}
use Rattle.pi_format.proofs.Loops.{none_first}
use Rattle.pi_contents.specs.Contents.{FieldName, MethodName, OfField, OfMethod, LineContent}
use Rattle.pi_contents.specs.Named.{field_name, method_name, naming_of, line_content}
use Rattle.pi_contents.specs.Naming.{named_by_line}
use Rattle.pi_saidkeeps.proofs.Lists.{all_mapped, all_joined}
use Rattle.pi_saidkeeps.proofs.Spelled.{IsRead}
use Rattle.pi_saidkeeps.proofs.Entries.{field_read, method_read, naming_fits, names_type, names_field, names_method}

-- by the index of each instruction
field_named : (text : NameNo → List ℕ) (n : Named) → IsRead text n → (f : ℕ) → nat_lt f (count_at n.file field_ids) ≡ true → naming_fits (OfField (field_name text (field_ref n f))) ≡ true
field_named text n read f h =
    let lt = ltb-true f (count_at n.file field_ids) h in
    subst (λ (x : FieldName). naming_fits (OfField x) ≡ true) (sym (field_read text n read f lt)) (names_field n.file read.tables f lt)

method_named : (text : NameNo → List ℕ) (n : Named) → IsRead text n → (m : ℕ) → nat_lt m (count_at n.file method_ids) ≡ true → naming_fits (OfMethod (method_name text (method_ref n m))) ≡ true
method_named text n read m h =
    let lt = ltb-true m (count_at n.file method_ids) h in
    subst (λ (x : MethodName). naming_fits (OfMethod x) ≡ true) (sym (method_read text n read m lt)) (names_method n.file read.tables m lt)

insn_named : (text : NameNo → List ℕ) (n : Named) → IsRead text n → (pieces : List Piece) (at : ℕ) (body : RawBody) → index_holds n.file body ≡ true
    → naming_fits (naming_of text (insn_of n pieces at body)) ≡ true
unfolding insn_of naming_of
insn_named text n read pieces at (ConstString a s) h = refl
insn_named text n read pieces at (ConstClass a t) h = names_type text n read t (ltb-true t (count_at n.file type_ids) h)
insn_named text n read pieces at (CheckCast a t) h = names_type text n read t (ltb-true t (count_at n.file type_ids) h)
insn_named text n read pieces at (InstanceOf a b t) h = names_type text n read t (ltb-true t (count_at n.file type_ids) h)
insn_named text n read pieces at (NewInstance a t) h = names_type text n read t (ltb-true t (count_at n.file type_ids) h)
insn_named text n read pieces at (NewArray a b t) h = names_type text n read t (ltb-true t (count_at n.file type_ids) h)
insn_named text n read pieces at (Filled t regs) h = names_type text n read t (ltb-true t (count_at n.file type_ids) h)
insn_named text n read pieces at (Iget kind a b f) h = field_named text n read f h
insn_named text n read pieces at (Iput kind a b f) h = field_named text n read f h
insn_named text n read pieces at (Sget kind a f) h = field_named text n read f h
insn_named text n read pieces at (Sput kind a f) h = field_named text n read f h
insn_named text n read pieces at (Invoke how m regs) h = method_named text n read m h
insn_named text n read pieces at _ h = refl

-- the lines of pieces
abbrev line_fits : (NameNo → List ℕ) → Line → Bool
line_fits text l = naming_fits (naming_of text l.insn)

pieces_named : (text : NameNo → List ℕ) (n : Named) → IsRead text n → (all ps : List Piece) → first_insn (λ at i. index_holds n.file i.body) ps ≡ None
    → list_all (line_fits text) (flat_map (line_of n all) ps) ≡ true
pieces_named text n read all [] e = refl
pieces_named text n read all (p ∷ ps) e = by_what p.what refl (pieces_named text n read all ps)
  where
    by_what : (w : What) → p.what ≡ w
        → (first_insn (λ at i. index_holds n.file i.body) ps ≡ None → list_all (line_fits text) (flat_map (line_of n all) ps) ≡ true)
        → list_all (line_fits text) (flat_map (line_of n all) (p ∷ ps)) ≡ true
    by_what (Payload d) is rest = let later = rw is at e in rw is (rest later)
    by_what (Instruction i) is rest =
        let parts = none_first (index_holds n.file i.body) p.at (first_insn (λ at i. index_holds n.file i.body) ps) (rw is at e) in
        rw is (and_from (naming_fits (naming_of text (insn_of n all p.at i.body))) _ (insn_named text n read all p.at i.body parts.0) (rest parts.1))

pub lines_named : (text : NameNo → List ℕ) (n : Named) → IsRead text n → (pieces : List Piece) → first_insn (λ at i. index_holds n.file i.body) pieces ≡ None
    → list_all naming_fits (flat_map named_by_line (map (line_content text) (lines_of n pieces))) ≡ true
lines_named text n read pieces e =
    all_joined (λ (l : LineContent). naming_fits l.naming) naming_fits named_by_line (λ l h. and_from (naming_fits l.naming) true h refl) (map (line_content text) (lines_of n pieces))
    (all_mapped (line_fits text) (λ (l : LineContent). naming_fits l.naming) (line_content text) (λ l h. h) (lines_of n pieces) (pieces_named text n read pieces pieces e))
