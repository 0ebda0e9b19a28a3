-- The code of each method has its argument words, and its handler table fits.
use Rattle.std.proofs.Common.{◌≡◌, ℕ, ◌+◌, List, [], ◌∷◌, map, Option, Some, None, Bool, true, refl, sym, ap, ◌∙◌, subst, arith}
use Rattle.std.specs.Prelude.{◌==◌, ◌&&◌, nat_lt, nat_le, is_some, sum_by, if◌then◌else◌, IsTrue}
use Rattle.std.specs.List.{list_all}
use Rattle.std.proofs.lemmas.Bool.{and_parts, and_from}
use Rattle.std.proofs.lemmas.List.Folds.{list_all-map}
use Rattle.std.proofs.lemmas.List.Sums.{sum_by-cons}
use Rattle.pi_model.specs.declared.numbers.NameNo.{NameNo}
use Rattle.pi_model.specs.Flags.{is_static}
use Rattle.pi_model.specs.Program.{Program}
use Rattle.pi_format.specs.Rules.{broken_rule}
use Rattle.pi_format.specs.Rules.Descriptors.{words_of_type}
use Rattle.pi_format.specs.Rules.Entries.{list_at}
use Rattle.pi_format.specs.Rules.Header.{unless}
use Rattle.pi_format.specs.Rules.Strings.{type_units, broken_types}
use Rattle.pi_format.specs.Rules.Members.{proto_entry, is_value_type}
use Rattle.pi_format.specs.Rules.Rows.{MemberRow}
use Rattle.pi_format.specs.Rules.ClassData.{method_proto}
use Rattle.pi_format.specs.Rules.CodeItems.{code_head, code_lies, HandlerList, code_lists, argument_words, code_holds}
use Rattle.pi_format.specs.Says.{named_file, with_said}
use Rattle.pi_format.specs.Says.Names.{Named, type_name, type_names}
use Rattle.pi_format.specs.Says.Codes.{catches_of, code_at}
use Rattle.pi_format.specs.Says.Classes.{classes_said, method_desc}
use Rattle.pi_format.proofs.Held.{rule_parts, TablesHold, tables_hold, content_holds, proto_kept, method_kept, value_there}
use Rattle.pi_said.proofs.Tables.{asked_last}
use Rattle.pi_contents.specs.Contents.{MethodContent}
use Rattle.pi_contents.specs.Named.{catch_content, code_content, method_content, text_in, content_in}
use Rattle.pi_contents.specs.Asked.{catch_fits, ranges_rise, body_fits, bodies_fit}
use Rattle.pi_contents.specs.Asked as asked
use Rattle.pi_saidkeeps.specs.Chains.{AreBytes}
use Rattle.pi_saidkeeps.proofs.Texts.{text_of_type}
use Rattle.pi_saidkeeps.proofs.Methods.{RowKept, each_method, with_code}
use Rattle.pi_saidkeeps.proofs.Ranges.{ranges_kept}
use Rattle.pi_saidkeeps.proofs.Catches.{catches_fit}

-- the words of types by their names and by their numbers
words_same : (p : Program) (file : List ℕ) (ts : List ℕ) → broken_types file ≡ None → list_all (is_value_type file) ts ≡ true
    → sum_by (λ t. words_of_type (type_units file t)) ts ≡ sum_by words_of_type (map (text_in (with_said p file)) (type_names (named_file p file) ts))
words_same p file [] kept all = refl
words_same p file (t ∷ ts) kept all =
    let parts = and_parts (is_value_type file t) (list_all (is_value_type file) ts) all in
    let text : List ℕ = text_in (with_said p file) (type_name (named_file p file) t) in
    let first : words_of_type (type_units file t) ≡ words_of_type text = ap words_of_type (sym (text_of_type p file t kept (value_there file t parts.0))) in
    let rest = words_same p file ts kept parts.1 in
    omega (
      arith,
      sum_by-cons (λ t. words_of_type (type_units file t)) t ts,
      sum_by-cons words_of_type text (map (text_in (with_said p file)) (type_names (named_file p file) ts)),
    )

-- the argument words of a method by what its row says and by its contents
arguments_same : (p : Program) (file : List ℕ) (row : MemberRow) (place : MemberRow → Option ℕ) → TablesHold file → RowKept file place row
    → argument_words file row ≡ asked.argument_words (method_content (text_in (with_said p file)) (method_desc (named_file p file) row))
arguments_same p file row place tables is =
    let proto = method_proto file row.id in
    let there = method_kept file row.id tables.methods is.id in
    let fits = proto_kept file proto tables.protos there.kind in
    ap (λ (n : ℕ). (if is_static row.flags then 0 else 1) + n) (words_same p file (list_at file (proto_entry file proto).params) tables.types fits.params)

-- a test of a handler table, where the lists of its code item hold
table_fits : (text : NameNo → List ℕ) (n : Named) (at : ℕ) (o : Option (List HandlerList)) → code_lists n.file at ≡ o → is_some o ≡ true
    → (list_all (catch_fits (code_head n.file at).units) (map (catch_content text) (catches_of n at (code_head n.file at) o))
    && ranges_rise (map (catch_content text) (catches_of n at (code_head n.file at) o))) ≡ true
table_fits text n at None is some = cc
table_fits text n at (Some lists) is some =
    let fit = catches_fit text n at (code_head n.file at) lists (ranges_kept n.file at lists is) in
    and_from _ _
    (list_all-map (catch_fits (code_head n.file at).units) (catch_content text) (catches_of n at (code_head n.file at) (Some lists)) ∙ fit.fit) fit.rise

code_is : (text : NameNo → List ℕ) (n : Named) (words at : ℕ) → code_holds n.file words at ≡ true → body_fits words (Some (code_content text (code_at n at))) ≡ true
unfolding code_holds code_at
code_is text n words at holds =
    let lists : Bool = is_some (code_lists n.file at) in
    let a = and_parts (code_lies n.file at) (((code_head n.file at).ins == words) && (nat_le words (code_head n.file at).registers && (nat_lt 0 (code_head n.file at).units && lists))) holds in
    let b = and_parts ((code_head n.file at).ins == words) (nat_le words (code_head n.file at).registers && (nat_lt 0 (code_head n.file at).units && lists)) a.1 in
    let c = and_parts (nat_le words (code_head n.file at).registers) (nat_lt 0 (code_head n.file at).units && lists) b.1 in
    let d = and_parts (nat_lt 0 (code_head n.file at).units) lists c.1 in
    let table = table_fits text n at (code_lists n.file at) refl d.1 in
    and_from _ _ b.0 (and_from _ _ c.0 (and_from _ _ d.0 table))

-- X20: of all methods
pub bodies_hold : (p : Program) (file : List ℕ) (number : ℕ) → AreBytes file → broken_rule file ≡ None
    → IsTrue (list_all bodies_fit (map (content_in (with_said p file)) (classes_said (named_file p file) number)))
bodies_hold p file number bytes kept =
    let rules = rule_parts file kept in
    let tables = tables_hold file rules.0 in
    let place : MemberRow → Option ℕ = λ row. unless (code_holds file (argument_words file row) row.code) row.code in
    let text : NameNo → List ℕ = text_in (with_said p file) in
    let n : Named = named_file p file in
    each_method p file number place (λ (m : MethodContent). body_fits (asked.argument_words m) m.code) (content_holds file rules.1).code
    (λ row is. with_code text n (body_fits (asked.argument_words (method_content text (method_desc n row)))) place row is.code refl
    (λ none. subst (λ (words : ℕ). body_fits words (Some (code_content text (code_at n row.code))) ≡ true) (arguments_same p file row place tables is)
    (code_is text n (argument_words file row) row.code (asked_last (code_holds file (argument_words file row) row.code) row.code none))))
