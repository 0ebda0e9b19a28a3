-- The plain run of a small file from its start ends as the machine's does.
use Rattle.std.proofs.Common.{◌≡◌, inl, inr, ℕ, ◌-◌, ◌<◌, ◌≤◌, true, false, List, [], ◌∷◌, ◌++◌, length, map, Option, Some, None, refl, arith, sym, ◌∙◌, ap, subst, lit<}
use Rattle.std.proofs.lemmas.List.{length-replicate}
use Rattle.std.specs.Prelude.{is_some, nat_lt}
use Rattle.std.specs.List.{list_all}
use Rattle.pi_model.specs.declared.describe.ClassDesc.{ClassDesc}
use Rattle.pi_model.specs.declared.describe.MethodDesc.{MethodDesc}
use Rattle.pi_model.specs.declared.describe.Code.{Code}
use Rattle.pi_model.specs.declared.describe.Line.{Line}
use Rattle.pi_model.specs.Program.{Program, method_number}
use Rattle.pi_model.specs.Search.{class_at}
use Rattle.pi_model.specs.Texts.{same_text}
use Rattle.pi_format.specs.Core.{core_names, main_name, clinit_name}
use Rattle.pi_model.specs.Distinct.{all_distinct}
use Rattle.pi_duty.specs.Small.{class_fits, has_text, line_fits, ends_in_return, has_no_value}
use Rattle.pi_format.specs.Says.Facts.{laid_from, code_laid, code_small, method_laid, method_small}
use Rattle.pi_duty.specs.Shape.{small_chain, IsSmall, Brought}
use Rattle.pi_machine.specs.State.{Made}
use Rattle.pi_machine.specs.Start.{start_state, argument_bytes, argument_objects}
use Rattle.pi_machine.specs.Ends.{Finish, EndsFrom, first_tally}
use Rattle.pi_machine.specs.Codes.{code_in}
use Rattle.pi_duty.specs.Duty.{lazy_setting}
use Rattle.pi_machine.proofs.Truths.{some_same}
use Rattle.pi_top.specs.declared.plain.place.Stage.TheVariants.{Untouched}
use Rattle.pi_top.specs.SmallCall.{RunEnds}
use Rattle.pi_top.specs.Plain.{View, blank, clinit_words, plain_start, PlainEnds, FrameFits, ClinitFits, Fits}
use Rattle.pi_top.specs.Roles.{method_named, HasMain, SeesClass}
use Rattle.pi_top.proofs.Lists.{list_all-get}
use Rattle.pi_top.proofs.Lookups.{ClassIs, class_is, finds_method, finds_code}
use Rattle.pi_top.proofs.Roles.{ClinitAt, NoClinit, RolesOf, roles_of}
use Rattle.pi_top.proofs.Words.{lt_of}
use Rattle.pi_top.proofs.MachineSteps.{Found, ClinitCode, ClinitFound, Begun, state_at, counted}
use Rattle.pi_top.proofs.MachineStart.{bytes_at_start, statics_at_start, statuses_at_start, finds_main}
use Rattle.pi_top.proofs.MachineRuns.{machine_ends}

-- what is known of the class of a small file
pub record ClassFacts (text : List ℕ) (new : Brought) (d : ClassDesc) : Type 0 where
  pub fits : class_fits d ≡ true
  pub distinct : all_distinct same_text (core_names ++ new.names) ≡ true
  pub named : has_text (core_names ++ new.names) d.name text ≡ true
  pub laid : list_all method_laid d.methods ≡ true
  pub narrow : list_all method_small d.methods ≡ true
  pub no_values : list_all has_no_value d.fields ≡ true
  pub second : d.file.0 ≡ 1

facts_of : (text : List ℕ) (p : Program) (s : IsSmall text p) → ClassFacts text s.one.new s.one.class
facts_of text p s = record {
  fits = s.one.fits;
  distinct = s.one.distinct;
  named = s.one.named;
  laid = s.laid;
  narrow = s.narrow;
  no_values = s.zero_values;
  second = s.second;
}

-- a method's code where its description has it
code_facts : (m : MethodDesc) (code : Code) → m.code ≡ Some code → method_laid m ≡ true → method_small m ≡ true
    → (laid_from 0 code.insns ≡ true) × (code.regs < 65536)
code_facts m code e laid small =
    let a : code_laid (Some code) ≡ true = subst (λ (o : Option Code). code_laid o ≡ true) e laid in
    let b : code_small (Some code) ≡ true = subst (λ (o : Option Code). code_small o ≡ true) e small in
    (a, lt_of code.regs 65536 b)

-- a code can be run on from its first instruction with registers of zeros
some_of : (ls : List Line) → ends_in_return ls ≡ true → 0 < length ls
some_of [] e = cc
some_of (l ∷ ls) e = omega arith

blank_fits : (d : ClassDesc) (code : Code) (n : ℕ) → list_all (line_fits d n) code.insns ≡ true → ends_in_return code.insns ≡ true → FrameFits d code (blank n)
blank_fits d code n fits ends = record { stands = some_of code.insns ends; fits = rw (length-replicate {A = ℕ} n 0) fits; ends = ends }

module _ (text : List ℕ) (new : Brought) (v : View) (facts : ClassFacts text new v.class)
    (sees_main : code_in (method_named main_name v.class.methods) ≡ Some v.main) (sees_clinit : code_in (method_named clinit_name v.class.methods) ≡ v.clinit) where
  is : ClassIs v.class
  is = class_is v.class facts.fits

  roles : RolesOf new v.class v.class.methods
  roles = roles_of new v.class v.class.methods is.methods

  main_code : roles.main.code ≡ Some v.main
  main_code = sym (ap code_in roles.named) ∙ sees_main

  abbrev main_number : ℕ
  main_number = method_number (small_chain new v.class) 2 roles.place

  -- main's code is as its description says
  same_main : roles.is.code ≡ v.main
  same_main = some_same roles.is.code v.main (sym roles.is.coded ∙ main_code)

  main_facts : (laid_from 0 v.main.insns ≡ true) × (v.main.regs < 65536)
  main_facts = code_facts roles.main v.main main_code (list_all-get method_laid v.class.methods roles.place roles.main facts.laid roles.there)
      (list_all-get method_small v.class.methods roles.place roles.main facts.narrow roles.there)

  main_fits_blank : FrameFits v.class v.main (blank (v.main.regs - 1))
  main_fits_blank = subst (λ (c : Code). FrameFits v.class c (blank (c.regs - 1))) same_main
      (blank_fits v.class roles.is.code (roles.is.code.regs - 1) roles.is.fits roles.is.ends)

  -- the initialiser, where there is one
  pub record ClinitParts : Type 0 where
    pub number : ℕ
    pub found : ClinitFound new v.class number v.clinit
    pub fits : ClinitFits v.class v.clinit (blank (clinit_words v.clinit))

  clinit_there : ClinitAt new v.class v.class.methods → ClinitParts
  clinit_there a =
      let sees : v.clinit ≡ Some a.is.code = sym sees_clinit ∙ (ap code_in a.named ∙ a.is.coded) in
      let number : ℕ = method_number (small_chain new v.class) 2 a.place in
      let parts : (laid_from 0 a.is.code.insns ≡ true) × (a.is.code.regs < 65536) = code_facts a.method a.is.code a.is.coded
      (list_all-get method_laid v.class.methods a.place a.method facts.laid a.there) (list_all-get method_small v.class.methods a.place a.method facts.narrow a.there) in
      let code : ClinitCode new v.class number a.is.code = record {
        place = a.place;
        found = a.found;
        is_number = refl;
        coded = finds_code new v.class is a.place a.method a.there ∙ a.is.coded;
        words = a.is.words;
        laid = parts.0;
        narrow = parts.1;
      } in
      let whole : a.is.code.regs - 0 ≡ a.is.code.regs = omega arith in
      let blank_code : FrameFits v.class a.is.code (blank a.is.code.regs) = blank_fits v.class a.is.code a.is.code.regs (rw whole at a.is.fits) a.is.ends in
      record {
        number = number;
        found = subst (λ (o : Option Code). ClinitFound new v.class number o) (sym sees) code;
        fits = subst (λ (o : Option Code). ClinitFits v.class o (blank (clinit_words o))) (sym sees) blank_code;
      }

  clinit_not_there : NoClinit new v.class v.class.methods → ClinitParts
  clinit_not_there n =
      let sees : v.clinit ≡ None = sym sees_clinit ∙ ap code_in n.named in
      record {
        number = 0;
        found = subst (λ (o : Option Code). ClinitFound new v.class 0 o) (sym sees) n.found;
        fits = subst (λ (o : Option Code). ClinitFits v.class o (blank (clinit_words o))) (sym sees) tt;
      }

  clinit_parts : ClinitParts
  clinit_parts = elim (roles.clinit) [ inl a ↦ clinit_there a | inr n ↦ clinit_not_there n ]

  found : Found new v main_number clinit_parts.number
  found = record {
    class = is;
    no_values = facts.no_values;
    place = roles.place;
    method = finds_method new v.class is roles.place roles.main roles.there;
    coded = finds_code new v.class is roles.place roles.main roles.there ∙ main_code;
    words = ap (λ (c : Code). c.ins) (sym same_main) ∙ roles.is.words;
    laid = main_facts.0;
    narrow = main_facts.1;
    init = clinit_parts.found;
  }

  start_fits : Fits v (plain_start v)
  start_fits = record { statics = length-replicate (length v.class.fields) 0; clinit = clinit_parts.fits; main = main_fits_blank; initialises = λ e. cc }

  start_begun : Begun new v main_number clinit_parts.number (map (λ o. Made None o) (argument_objects (small_chain new v.class) 0 [])) (plain_start v) Untouched
  start_begun = record {
    clinit_blank = λ e. refl;
    main_blank = λ e. refl;
    clinit_size = length-replicate (clinit_words v.clinit) 0;
    main_size = length-replicate (v.main.regs - 1) 0;
  }

  -- nothing has run in either
  start_same : start_state (small_chain new v.class) main_number []
      ≡ state_at new v main_number clinit_parts.number (map (λ o. Made None o) (argument_objects (small_chain new v.class) 0 [])) (plain_start v) []
  start_same = rw (statics_at_start new v.class is.fields, statuses_at_start new v.class facts.second) refl

  tally_same : first_tally (small_chain new v.class) [] ≡ counted new v main_number clinit_parts.number (map (λ o. Made None o) (argument_objects (small_chain new v.class) 0 [])) 0
  tally_same = rw (bytes_at_start new v.class) refl

  run_ends : (limit : ℕ) (f : Finish) → PlainEnds v limit (plain_start v) 0 [] f → RunEnds (small_chain new v.class) text limit f
  run_ends limit f e =
      let x : EndsFrom (small_chain new v.class) (lazy_setting limit) (state_at new v main_number clinit_parts.number (map (λ o. Made None o) (argument_objects (small_chain new v.class) 0 [])) (plain_start v) [])
      (counted new v main_number clinit_parts.number (map (λ o. Made None o) (argument_objects (small_chain new v.class) 0 [])) 0) f =
      machine_ends new v main_number clinit_parts.number (map (λ o. Made None o) (argument_objects (small_chain new v.class) 0 [])) found limit e.count f (plain_start v) 0 [] e.ends start_fits start_begun in
      let y : EndsFrom (small_chain new v.class) (lazy_setting limit) (start_state (small_chain new v.class) main_number []) (first_tally (small_chain new v.class) []) f =
      rw (start_same, tally_same) x in
      let room : nat_lt 67108864 (argument_bytes (small_chain new v.class) []) ≡ false = rw (bytes_at_start new v.class) refl in
      record {
        method = main_number;
        found = finds_main new v.class text is facts.distinct facts.named roles.place roles.found;
        ends = rw room y;
      }

-- the class that the view sees is the small file's
same_class : (text : List ℕ) (p : Program) (s : IsSmall text p) (v : View) → SeesClass p v → s.one.class ≡ v.class
same_class text p s v sees = some_same s.one.class v.class (sym (ap (λ (q : Program). class_at q 2) s.one.chain) ∙ sees.class)

facts_seen : (text : List ℕ) (p : Program) (s : IsSmall text p) (v : View) → SeesClass p v → ClassFacts text s.one.new v.class
facts_seen text p s v sees = subst (ClassFacts text s.one.new) (same_class text p s v sees) (facts_of text p s)

pub small_fits : (text : List ℕ) (p : Program) (v : View) → IsSmall text p → SeesClass p v → Fits v (plain_start v)
small_fits text p v s sees = start_fits text s.one.new v (facts_seen text p s v sees) sees.main sees.clinit

pub small_run : (text : List ℕ) (p : Program) (v : View) (limit : ℕ) (f : Finish) → IsSmall text p → SeesClass p v → PlainEnds v limit (plain_start v) 0 [] f
    → RunEnds p text limit f
small_run text p v limit f s sees e =
    let r : RunEnds (small_chain s.one.new v.class) text limit f = run_ends text s.one.new v (facts_seen text p s v sees) sees.main sees.clinit limit f e in
    let same : small_chain s.one.new v.class ≡ p = ap (small_chain s.one.new) (sym (same_class text p s v sees)) ∙ sym s.one.chain in
    subst (λ (q : Program). RunEnds q text limit f) same r

-- the class of a small file has a main with code, which has a register for its argument
has_main : (new : Brought) (d : ClassDesc) → RolesOf new d d.methods → HasMain (small_chain new d)
has_main new d r =
    let e : code_in (method_named main_name d.methods) ≡ Some r.is.code = ap code_in r.named ∙ r.is.coded in
    ap is_some e

pub small_has_main : (text : List ℕ) (p : Program) → IsSmall text p → HasMain p
small_has_main text p s =
    subst HasMain (sym s.one.chain) (has_main s.one.new s.one.class (roles_of s.one.new s.one.class s.one.class.methods (class_is s.one.class s.one.fits).methods))

small_classes : (text : List ℕ) (p : Program) → IsSmall text p → 2 < length p.classes
small_classes text p s = subst (λ (q : Program). 2 < length q.classes) (sym s.one.chain) (lit< tt)

room_at : (text : List ℕ) (new : Brought) (v : View) → ClassFacts text new v.class → code_in (method_named main_name v.class.methods) ≡ Some v.main → 1 ≤ v.main.regs
room_at text new v facts sees =
    let r : RolesOf new v.class v.class.methods = roles_of new v.class v.class.methods (class_is v.class facts.fits).methods in
    let e : r.is.code ≡ v.main = some_same r.is.code v.main (sym r.is.coded ∙ (sym (ap code_in r.named) ∙ sees)) in
    subst (λ (c : Code). 1 ≤ c.regs) e r.is.room

pub small_room : (text : List ℕ) (p : Program) (v : View) → IsSmall text p → SeesClass p v → 1 ≤ v.main.regs
small_room text p v s sees = room_at text s.one.new v (facts_seen text p s v sees) sees.main
