-- The keys of each switch follow each other or rise, and the items of each array fit their width.
use Rattle.std.proofs.Common.{◌≡◌, ℕ, ◌/◌, ◌^◌, ◌<◌, List, [], ◌∷◌, length, map, Option, Some, None, Bool, true, false, refl, ◌∙◌, subst, arith}
use Rattle.std.specs.Prelude.{◌==◌, ◌%◌, ◌&&◌, ◌||◌, nat_lt, pos, ◌+ℤ◌, if◌then◌else◌, IsTrue}
use Rattle.std.specs.List.{list_all, flat_map}
use Rattle.std.proofs.lemmas.Bool.{and_parts, and_from, or_left, or_right, eqb-true}
use Rattle.std.proofs.lemmas.List.Folds.{list_all-map}
use Rattle.pi_model.specs.declared.numbers.NameNo.{NameNo}
use Rattle.pi_model.specs.declared.describe.Line.{Line}
use Rattle.pi_model.specs.declared.insn.Case.{Case}
use Rattle.pi_model.specs.Program.{Program}
use Rattle.pi_insn.specs.declared.raw.RawBody.{RawBody}
use Rattle.pi_insn.specs.declared.raw.RawBody.TheVariants.{FillArray, Switch}
use Rattle.pi_insn.specs.Reading.{insn}
use Rattle.pi_insn.specs.Payloads.{Data, PackedData, SparseData, ArrayData, is_width}
use Rattle.pi_format.specs.Rules.{broken_rule}
use Rattle.pi_format.specs.Rules.Lowest.{tabulation}
use Rattle.pi_format.specs.Rules.Pieces.{Piece, What, Instruction, Payload, code_walk, unit_of, first_insn, address, payload_found, found_at, payload_of, payload_fits, points_well}
use Rattle.pi_format.specs.Rules.Pieces as pieces
use Rattle.pi_format.specs.Says.{named_file, with_said}
use Rattle.pi_format.specs.Says.Names.{Named}
use Rattle.pi_format.specs.Says.Insns.{cases_of, width_of, item_of, items_of, insn_of}
use Rattle.pi_format.specs.Says.Codes.{line_of, lines_of, code_at}
use Rattle.pi_format.specs.Says.Classes.{classes_said}
use Rattle.pi_format.proofs.Held.{rule_parts, content_holds}
use Rattle.pi_contents.specs.Contents.{MethodContent}
use Rattle.pi_contents.specs.Named.{bare, line_content, code_content, text_in, content_in}
use Rattle.pi_contents.specs.Asked.{follow_on, keys_rise, insn_fits, line_fits, lines_fit, codes_fit}
use Rattle.pi_saidkeeps.specs.Chains.{AreBytes}
use Rattle.pi_saidkeeps.proofs.Opcodes.{named_well}
use Rattle.pi_saidkeeps.proofs.Payloads.{are_units, fits_whole}
use Rattle.pi_saidkeeps.proofs.Keys.{packed_case, sparse_case, packed_follow, sparse_rise}
use Rattle.pi_saidkeeps.proofs.Items.{items_fit}
use Rattle.pi_saidkeeps.proofs.Pieces.{is_sound, piece_sound, pieces_sound}
use Rattle.pi_saidkeeps.proofs.Methods.{each_method, with_code}

-- a payload that is found among sound pieces is whole
found_first : (here : Bool) (w : What) (at units place : ℕ) (others : List Piece) (d : Data) → (at == place) ≡ here → is_sound w ≡ true
    → (payload_found others place ≡ Some d → fits_whole d ≡ true)
    → payload_found (record { at = at; units = units; what = w } ∷ others) place ≡ Some d → fits_whole d ≡ true
found_first true (Instruction i) at units place others d e sound later found = let none : None ≡ Some d = rw e at found in cc
found_first true (Payload x) at units place others d e sound later found =
    let is : Some x ≡ Some d = rw e at found in
    let same : x ≡ d = cc in
    subst (λ (y : Data). fits_whole y ≡ true) same sound
found_first false w at units place others d e sound later found = later (rw e at found)

found_whole : (all : List Piece) (place : ℕ) (d : Data) → list_all piece_sound all ≡ true → payload_found all place ≡ Some d → fits_whole d ≡ true
found_whole [] place d sound found = cc
found_whole (p ∷ others) place d sound found =
    let parts = and_parts (piece_sound p) (list_all piece_sound others) sound in
    found_first (p.at == place) p.what p.at p.units place others d refl parts.0 (found_whole others place d parts.1) found

at_whole : (all : List Piece) (o : Option ℕ) (d : Data) → list_all piece_sound all ≡ true → found_at all o ≡ Some d → fits_whole d ≡ true
at_whole all None d sound found = cc
at_whole all (Some place) d sound found = by_test (place % 2 == 0) found
  where
    by_test : (b : Bool) → (if b then payload_found all place else None) ≡ Some d → fits_whole d ≡ true
    by_test true e = found_whole all place d sound e
    by_test false e = cc

-- an opcode is one alone
one_opcode : (op a b : ℕ) → a < b → (op == a) ≡ true → (op == b) ≡ true → ⊥
one_opcode op a b less e f = let x = eqb-true op a e in let y = eqb-true op b f in absurd (omega arith)

-- the payload of an array, and that of a switch, by the opcode that points at it
array_fits : (o : Option Data) (op : ℕ) → (op == 0x26) ≡ true → payload_fits op o ≡ true → ((d : Data) → o ≡ Some d → fits_whole d ≡ true)
    → (is_width (width_of o) && list_all (λ x. nat_lt x (256 ^ width_of o)) (items_of o)) ≡ true
array_fits None op is fits whole = cc
array_fits (Some (PackedData first targets)) op is fits whole = absurd (one_opcode op 0x26 0x2b (omega arith) is fits)
array_fits (Some (SparseData keys targets)) op is fits whole =
    absurd (one_opcode op 0x26 0x2c (omega arith) is (and_parts (op == 0x2c) (pieces.keys_rise keys) fits).0)
array_fits (Some (ArrayData width size items)) op is fits whole =
    let parts = and_parts (is_width width) (are_units items) (whole (ArrayData width size items) refl) in
    and_from (is_width width) (list_all (λ x. nat_lt x (256 ^ width)) (tabulation (item_of width items) 0 size)) parts.0 (items_fit width size items parts.0 parts.1)

switch_fits : (o : Option Data) (at op : ℕ) → payload_fits op o ≡ true → ((d : Data) → o ≡ Some d → fits_whole d ≡ true)
    → (follow_on (cases_of at o) || keys_rise (cases_of at o)) ≡ true
switch_fits None at op fits whole = cc
switch_fits (Some (PackedData first targets)) at op fits whole =
    let cases : List Case = tabulation (packed_case at first targets) 0 (length targets / 2) in
    or_left (follow_on cases) (keys_rise cases) (packed_follow at first targets (length targets / 2))
switch_fits (Some (SparseData keys targets)) at op fits whole =
    let cases : List Case = tabulation (sparse_case at keys targets) 0 (length targets / 2) in
    let same = eqb-true (length keys) (length targets) (whole (SparseData keys targets) refl) in
    or_right (follow_on cases) (keys_rise cases) (sparse_rise at keys targets same (and_parts (op == 0x2c) (pieces.keys_rise keys) fits).1)
switch_fits (Some (ArrayData width size items)) at op fits whole = refl

-- an instruction that points well at sound pieces fits
insn_is : (n : Named) (all : List Piece) → list_all piece_sound all ≡ true → (at op : ℕ) (body : RawBody) → named_well op body ≡ true
    → points_well all at (insn op body) ≡ true → insn_fits (bare (insn_of n all at body)) ≡ true
unfolding insn_of bare
insn_is n all sound at op (FillArray a dist) named points =
    array_fits (payload_of all at dist) op named points (λ d found. at_whole all (address (pos at +ℤ dist)) d sound found)
insn_is n all sound at op (Switch a dist) named points =
    switch_fits (payload_of all at dist) at op points (λ d found. at_whole all (address (pos at +ℤ dist)) d sound found)
insn_is n all sound at op _ named points = refl

-- the test of the contents of a line
abbrev fits_line : (NameNo → List ℕ) → Line → Bool
fits_line text l = line_fits (line_content text l)

first_fits : (text : NameNo → List ℕ) (n : Named) (all : List Piece) → list_all piece_sound all ≡ true → (w : What) (at units : ℕ) (others : List Piece)
    → is_sound w ≡ true → first_insn (points_well all) (record { at = at; units = units; what = w } ∷ others) ≡ None
    → (first_insn (points_well all) others ≡ None → list_all (fits_line text) (flat_map (line_of n all) others) ≡ true)
    → list_all (fits_line text) (flat_map (line_of n all) (record { at = at; units = units; what = w } ∷ others)) ≡ true
first_fits text n all sound (Payload d) at units others here none later = later none
first_fits text n all sound (Instruction i) at units others here none later = by_test (points_well all at i) refl none
  where
    by_test : (b : Bool) → points_well all at i ≡ b → (if b then first_insn (points_well all) others else Some at) ≡ None
        → list_all (fits_line text) (flat_map (line_of n all) (record { at = at; units = units; what = Instruction i } ∷ others)) ≡ true
    by_test true e none =
        and_from (insn_fits (bare (insn_of n all at i.body))) (list_all (fits_line text) (flat_map (line_of n all) others))
        (insn_is n all sound at i.op i.body here e) (later none)
    by_test false e none = cc

fit_from : (text : NameNo → List ℕ) (n : Named) (all : List Piece) → list_all piece_sound all ≡ true → (some : List Piece) → list_all piece_sound some ≡ true
    → first_insn (points_well all) some ≡ None → list_all (fits_line text) (flat_map (line_of n all) some) ≡ true
fit_from text n all sound [] here none = refl
fit_from text n all sound (p ∷ others) here none =
    let parts = and_parts (piece_sound p) (list_all piece_sound others) here in
    first_fits text n all sound p.what p.at p.units others parts.0 none (fit_from text n all sound others parts.1)

no_unit : (at : ℕ) (o : Option ℕ) → unit_of at o ≡ None → o ≡ None
no_unit at None e = refl
no_unit at (Some unit) e = cc

code_is : (text : NameNo → List ℕ) (n : Named) (at : ℕ) → AreBytes n.file → first_insn (points_well (code_walk n.file at).pieces) (code_walk n.file at).pieces ≡ None
    → lines_fit (Some (code_content text (code_at n at))) ≡ true
unfolding code_at
code_is text n at bytes none =
    let all : List Piece = (code_walk n.file at).pieces in
    let sound : list_all piece_sound all ≡ true = pieces_sound n.file at bytes in
    list_all-map line_fits (line_content text) (lines_of n all) ∙ fit_from text n all sound all sound none

-- X23: so do those of the codes of all methods
pub switches_hold : (p : Program) (file : List ℕ) (number : ℕ) → AreBytes file → broken_rule file ≡ None
    → IsTrue (list_all codes_fit (map (content_in (with_said p file)) (classes_said (named_file p file) number)))
switches_hold p file number bytes kept =
    let content = content_holds file (rule_parts file kept).1 in
    let first : ℕ → Option ℕ = λ at. first_insn (points_well (code_walk file at).pieces) (code_walk file at).pieces in
    each_method p file number (λ row. unit_of row.code (first row.code)) (λ (m : MethodContent). lines_fit m.code) content.payloads
    (λ row is. with_code (text_in (with_said p file)) (named_file p file) lines_fit (λ row. unit_of row.code (first row.code)) row is.code refl
    (λ none. code_is (text_in (with_said p file)) (named_file p file) row.code bytes (no_unit row.code (first row.code) none)))
