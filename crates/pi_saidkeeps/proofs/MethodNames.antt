-- What the methods of a class and their codes name: methods, and what instructions and handlers name.
use Rattle.std.proofs.Common.{◌≡◌, ℕ, ◌<◌, List, [], ◌∷◌, map, Bool, true, false, Option, Some, None, refl, sym, ap, subst}
use Rattle.std.specs.Prelude.{◌==◌, nat_lt, option_map, if◌then◌else◌}
use Rattle.std.specs.List.{list_all, flat_map}
use Rattle.std.proofs.lemmas.Bool.{and_parts, and_from, eqb-true, ltb-true}
use Rattle.pi_model.specs.declared.numbers.NameNo.{NameNo}
use Rattle.pi_format.specs.Tables.{count_at, method_ids, class_defs}
use Rattle.pi_format.specs.Rules.Strings.{string_units, type_units}
use Rattle.pi_format.specs.Rules.Members.{member_entry}
use Rattle.pi_format.specs.Rules.Classes.{class_entry}
use Rattle.pi_format.specs.Rules.Rows.{MemberRow}
use Rattle.pi_format.specs.Rules.ClassData.{rows_of, methods_in, is_method_of}
use Rattle.pi_format.specs.Rules.CodeItems.{of_code, code_head, code_lists}
use Rattle.pi_format.specs.Rules.Pieces.{code_walk, unit_of, first_insn, index_holds}
use Rattle.pi_format.specs.Says.Names.{Named}
use Rattle.pi_format.specs.Says.Codes.{lines_of, catches_of, code_at, code_of}
use Rattle.pi_format.specs.Says.Classes.{method_desc}
use Rattle.pi_format.proofs.Held.{method_kept}
use Rattle.pi_said.proofs.Lists.{append_all}
use Rattle.pi_said.proofs.Members.{rows_fit}
use Rattle.pi_contents.specs.Contents.{MethodName, OfMethod}
use Rattle.pi_contents.specs.Named.{line_content, catch_content, code_content, method_content}
use Rattle.pi_contents.specs.Naming.{own_method, named_by_line, named_by_catch, named_by_code, named_by_method}
use Rattle.pi_saidkeeps.proofs.Spelled.{IsRead}
use Rattle.pi_saidkeeps.proofs.Lowest.{no_place, place_none, none_in_code}
use Rattle.pi_saidkeeps.proofs.Entries.{proto_of, method_of, proto_read, naming_fits, names_method}
use Rattle.pi_saidkeeps.proofs.InsnNames.{lines_named}
use Rattle.pi_saidkeeps.proofs.CatchNames.{catches_named}

-- the place of a row whose code has an instruction with an index of nothing
abbrev index_place : List ℕ → MemberRow → Option ℕ
index_place file row = unit_of row.code (first_insn (λ at i. index_holds file i.body) (code_walk file row.code).pieces)

unit_none : (at : ℕ) (o : Option ℕ) → unit_of at o ≡ None → o ≡ None
unit_none at None e = refl
unit_none at (Some x) e = cc

code_named : (text : NameNo → List ℕ) (n : Named) → IsRead text n → (row : MemberRow) → no_place (of_code (index_place n.file) row) ≡ true
    → list_all naming_fits (named_by_code (option_map (code_content text) (code_of n row.code))) ≡ true
unfolding code_at
code_named text n read row h = by_place (row.code == 0) h
  where
    by_place : (b : Bool) → no_place (if b then None else index_place n.file row) ≡ true
        → list_all naming_fits (named_by_code (option_map (code_content text) (if b then None else Some (code_at n row.code)))) ≡ true
    by_place true h = refl
    by_place false h =
        let pieces = (code_walk n.file row.code).pieces in
        let none = unit_none row.code (first_insn (λ at i. index_holds n.file i.body) pieces) (place_none (index_place n.file row) h) in
        append_all naming_fits (flat_map named_by_line (map (line_content text) (lines_of n pieces)))
        (flat_map named_by_catch (map (catch_content text) (catches_of n row.code (code_head n.file row.code) (code_lists n.file row.code))))
        (lines_named text n read pieces none) (catches_named text n read row.code)

own_name : (text : NameNo → List ℕ) (n : Named) → IsRead text n → (class : ℕ) (row : MemberRow) → is_method_of n.file class row.id ≡ true
    → own_method (type_units n.file class) (method_content text (method_desc n row)) ≡ method_of n.file row.id
own_name text n read class row own =
    let e = member_entry n.file method_ids row.id in
    let parts = and_parts (nat_lt row.id (count_at n.file method_ids)) (e.class == class) own in
    let same = eqb-true e.class class parts.1 in
    let fits = method_kept n.file row.id read.tables.methods (ltb-true row.id (count_at n.file method_ids) parts.0) in
    rw (read.each e.name fits.name, proto_read text n read e.kind fits.kind)
    (ap (λ (c : ℕ). record { class = type_units n.file c; name = string_units n.file e.name; proto = proto_of n.file e.kind }) (sym same))

rows_named : (text : NameNo → List ℕ) (n : Named) → IsRead text n → (class : ℕ) (rows : List MemberRow)
    → list_all (λ (row : MemberRow). is_method_of n.file class row.id) rows ≡ true → list_all (λ row. no_place (of_code (index_place n.file) row)) rows ≡ true
    → list_all naming_fits (flat_map (named_by_method (type_units n.file class)) (map (method_content text) (map (method_desc n) rows))) ≡ true
rows_named text n read class [] own places = refl
rows_named text n read class (row ∷ rows) own places =
    let here = and_parts (is_method_of n.file class row.id) _ own in
    let place = and_parts (no_place (of_code (index_place n.file) row)) _ places in
    let parts = and_parts (nat_lt row.id (count_at n.file method_ids)) ((member_entry n.file method_ids row.id).class == class) here.0 in
    let there = names_method n.file read.tables row.id (ltb-true row.id (count_at n.file method_ids) parts.0) in
    let m = method_content text (method_desc n row) in
    append_all naming_fits (named_by_method (type_units n.file class) m) (flat_map (named_by_method (type_units n.file class)) (map (method_content text) (map (method_desc n) rows)))
    (and_from (naming_fits (OfMethod (own_method (type_units n.file class) m))) (list_all naming_fits (named_by_code m.code))
    (subst (λ (x : MethodName). naming_fits (OfMethod x) ≡ true) (sym (own_name text n read class row here.0)) there)
    (code_named text n read row place.0))
    (rows_named text n read class rows here.1 place.1)

pub methods_named : (text : NameNo → List ℕ) (n : Named) → IsRead text n → (i : ℕ) → i < count_at n.file class_defs
    → list_all naming_fits (flat_map (named_by_method (type_units n.file (class_entry n.file i).class))
    (map (method_content text) (map (method_desc n) (methods_in (rows_of n.file i))))) ≡ true
methods_named text n read i lt =
    rows_named text n read (class_entry n.file i).class (methods_in (rows_of n.file i)) (rows_fit n.file i).own_methods
    (none_in_code n.file (index_place n.file) read.content.indices i lt)
