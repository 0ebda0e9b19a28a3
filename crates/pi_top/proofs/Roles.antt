-- What is known of the methods of the class of a small file.
use Rattle.std.proofs.Common.{◌≡◌, ◌⊎◌, inl, inr, ℕ, ◌-◌, ◌≤◌, Bool, true, false, List, [], ◌∷◌, Option, Some, None, refl, arith, ap}
use Rattle.std.specs.Prelude.{nat_le, slice_get, if◌then◌else◌, ◌&&◌, ◌==◌, position}
use Rattle.std.specs.List.{list_all}
use Rattle.std.proofs.lemmas.Bool.Decides.{nat_tests}
use Rattle.pi_model.specs.declared.numbers.NameNo.{NameNo}
use Rattle.pi_model.specs.declared.describe.ClassDesc.{ClassDesc}
use Rattle.pi_model.specs.declared.describe.MethodDesc.{MethodDesc}
use Rattle.pi_model.specs.declared.describe.Code.{Code}
use Rattle.pi_model.specs.Flags.{is_static}
use Rattle.pi_model.specs.Program.{same_name}
use Rattle.pi_model.specs.Search.{same_names}
use Rattle.pi_format.specs.Core.{main_name, clinit_name, void_name, strings_name, core_names}
use Rattle.pi_duty.specs.Small.{line_fits, lies, is_empty, ends_in_return, code_fits, method_fits, main_fits, clinit_fits, methods_fit}
use Rattle.pi_duty.specs.Shape.{small_chain, Brought}
use Rattle.pi_machine.specs.Start.{is_main}
use Rattle.pi_machine.specs.Initialisation.{is_clinit}
use Rattle.pi_machine.proofs.Truths.{both, either, same_of}
use Rattle.pi_top.specs.Roles.{method_named}

same_number : (a b : NameNo) → a.0 ≡ b.0 → a ≡ b
same_number a b e = ap (λ (n : ℕ). let r : NameNo = record { 0 = n } in r) e

pub same_name-is : (a b : NameNo) → same_name a b ≡ true → a ≡ b
same_name-is a b e = same_number a b (same_of a.0 b.0 e)

both_if : (a b : Bool) → (if a then b else false) ≡ true → (a ≡ true) × (b ≡ true)
both_if true b e = (refl, e)
both_if false b e = cc

pub same_names-is : (xs ys : List NameNo) → same_names xs ys ≡ true → xs ≡ ys
same_names-is [] [] e = refl
same_names-is [] (y ∷ ys) e = cc
same_names-is (x ∷ xs) [] e = cc
same_names-is (x ∷ xs) (y ∷ ys) e =
    let h : (same_name x y ≡ true) × (same_names xs ys ≡ true) = both_if (same_name x y) (same_names xs ys) e in
    let a : x ≡ y = same_name-is x y h.0 in
    let b : xs ≡ ys = same_names-is xs ys h.1 in
    cc

-- a method of a small file: its name, its prototype, and a code whose instructions fit
pub record MethodIs (d : ClassDesc) (name : NameNo) (params : List NameNo) (ins : ℕ) (m : MethodDesc) : Type 0 where
  pub named : m.name ≡ name
  pub takes : m.params ≡ params
  pub gives : m.ret ≡ void_name
  pub static : is_static m.flags ≡ true
  pub code : Code
  pub coded : m.code ≡ Some code
  pub words : code.ins ≡ ins
  pub room : ins ≤ code.regs
  pub fits : list_all (line_fits d (code.regs - ins)) code.insns ≡ true
  pub ends : ends_in_return code.insns ≡ true

le-of : (a b : ℕ) → nat_le a b ≡ true → a ≤ b
le-of a b e = grind (arith, nat_tests)

method_with : (d : ClassDesc) (name : NameNo) (params : List NameNo) (ins : ℕ) (m : MethodDesc) (code : Option Code) → m.code ≡ code
    → m.name ≡ name → m.params ≡ params → m.ret ≡ void_name → is_static m.flags ≡ true → code_fits d ins code ≡ true → MethodIs d name params ins m
method_with d name params ins m None is a b c s e = cc
method_with d name params ins m (Some code) is a b c s e =
    let lines : Bool = list_all (line_fits d (code.regs - ins)) code.insns in
    let whole : Bool = lies 0 code.units code.insns && is_empty code.tries in
    let h : ((code.ins == ins) ≡ true) × ((nat_le ins code.regs && (lines && (ends_in_return code.insns && whole))) ≡ true) = both _ _ e in
    let i : (nat_le ins code.regs ≡ true) × ((lines && (ends_in_return code.insns && whole)) ≡ true) = both _ _ h.1 in
    let j : (lines ≡ true) × ((ends_in_return code.insns && whole) ≡ true) = both _ _ i.1 in
    let k : (ends_in_return code.insns ≡ true) × (whole ≡ true) = both _ _ j.1 in
    record {
      named = a;
      takes = b;
      gives = c;
      static = s;
      code = code;
      coded = is;
      words = same_of code.ins ins h.0;
      room = le-of ins code.regs i.0;
      fits = j.0;
      ends = k.0;
    }

method_is : (d : ClassDesc) (name : NameNo) (params : List NameNo) (ins : ℕ) (m : MethodDesc) → method_fits d name params ins m ≡ true → MethodIs d name params ins m
method_is d name params ins m e =
    let h : (same_name m.name name ≡ true) × ((same_names m.params params && (same_name m.ret void_name && (is_static m.flags && code_fits d ins m.code))) ≡ true) = both _ _ e in
    let i : (same_names m.params params ≡ true) × ((same_name m.ret void_name && (is_static m.flags && code_fits d ins m.code)) ≡ true) = both _ _ h.1 in
    let j : (same_name m.ret void_name ≡ true) × ((is_static m.flags && code_fits d ins m.code) ≡ true) = both _ _ i.1 in
    let k : (is_static m.flags ≡ true) × (code_fits d ins m.code ≡ true) = both _ _ j.1 in
    method_with d name params ins m m.code refl (same_name-is _ _ h.0) (same_names-is _ _ i.0) (same_name-is _ _ j.0) k.0 k.1

abbrev pub MainIs : ClassDesc → MethodDesc → Type 0
MainIs d m = MethodIs d main_name (strings_name ∷ []) 1 m

abbrev pub ClinitIs : ClassDesc → MethodDesc → Type 0
ClinitIs d m = MethodIs d clinit_name [] 0 m

module _ (new : Brought) (d : ClassDesc) where
  main_is_main : (m : MethodDesc) → MethodIs d main_name (strings_name ∷ []) 1 m → is_main (small_chain new d) m ≡ true
  unfolding is_main core_names
  main_is_main m s = rw (s.named, s.takes, s.gives, s.static, s.coded) refl

  clinit_is_no_main : (m : MethodDesc) → MethodIs d clinit_name [] 0 m → is_main (small_chain new d) m ≡ false
  unfolding is_main core_names
  clinit_is_no_main m s = rw (s.named) refl

  main_is_no_clinit : (m : MethodDesc) → MethodIs d main_name (strings_name ∷ []) 1 m → is_clinit (small_chain new d) m ≡ false
  unfolding is_clinit core_names
  main_is_no_clinit m s = rw (s.named) refl

  clinit_is_clinit : (m : MethodDesc) → MethodIs d clinit_name [] 0 m → is_clinit (small_chain new d) m ≡ true
  unfolding is_clinit core_names
  clinit_is_clinit m s = rw (s.named, s.takes) refl

  -- the initialiser among methods, or that there is none
  pub record ClinitAt (ms : List MethodDesc) : Type 0 where
    pub method : MethodDesc
    pub place : ℕ
    pub there : slice_get ms place ≡ Some method
    pub is : ClinitIs d method
    pub found : position (is_clinit (small_chain new d)) ms ≡ Some place
    pub named : method_named clinit_name ms ≡ Some method

  pub record NoClinit (ms : List MethodDesc) : Type 0 where
    pub found : position (is_clinit (small_chain new d)) ms ≡ None
    pub named : method_named clinit_name ms ≡ None

  -- main among methods, with the initialiser
  pub record RolesOf (ms : List MethodDesc) : Type 0 where
    pub main : MethodDesc
    pub place : ℕ
    pub there : slice_get ms place ≡ Some main
    pub is : MainIs d main
    pub found : position (is_main (small_chain new d)) ms ≡ Some place
    pub named : method_named main_name ms ≡ Some main
    pub clinit : ClinitAt ms ⊎ NoClinit ms

  one_method : (m : MethodDesc) → MainIs d m → RolesOf (m ∷ [])
  one_method m s = record {
    main = m;
    place = 0;
    there = refl;
    is = s;
    found = rw (main_is_main m s) refl;
    named = rw (s.named) refl;
    clinit = inr (record { found = rw (main_is_no_clinit m s) refl; named = rw (s.named) refl });
  }

  main_first : (a b : MethodDesc) → MainIs d a → ClinitIs d b → RolesOf (a ∷ b ∷ [])
  main_first a b s t = record {
    main = a;
    place = 0;
    there = refl;
    is = s;
    found = rw (main_is_main a s) refl;
    named = rw (s.named) refl;
    clinit = inl (record {
      method = b;
      place = 1;
      there = refl;
      is = t;
      found = rw (main_is_no_clinit a s, clinit_is_clinit b t) refl;
      named = rw (s.named, t.named) refl;
    });
  }

  clinit_first : (a b : MethodDesc) → ClinitIs d a → MainIs d b → RolesOf (a ∷ b ∷ [])
  clinit_first a b t s = record {
    main = b;
    place = 1;
    there = refl;
    is = s;
    found = rw (clinit_is_no_main a t, main_is_main b s) refl;
    named = rw (t.named, s.named) refl;
    clinit = inl (record {
      method = a;
      place = 0;
      there = refl;
      is = t;
      found = rw (clinit_is_clinit a t) refl;
      named = rw (t.named) refl;
    });
  }

  pub roles_of : (ms : List MethodDesc) → methods_fit d ms ≡ true → RolesOf ms
  roles_of [] e = cc
  roles_of (m ∷ []) e = one_method m (method_is d main_name (strings_name ∷ []) 1 m e)
  roles_of (a ∷ b ∷ []) e = elim (either (main_fits d a && clinit_fits d b) (clinit_fits d a && main_fits d b) e) [
    | inl h ↦ (let k : (main_fits d a ≡ true) × (clinit_fits d b ≡ true) = both _ _ h in
        main_first a b (method_is d main_name (strings_name ∷ []) 1 a k.0) (method_is d clinit_name [] 0 b k.1))
    | inr h ↦ (let k : (clinit_fits d a ≡ true) × (main_fits d b ≡ true) = both _ _ h in
        clinit_first a b (method_is d clinit_name [] 0 a k.0) (method_is d main_name (strings_name ∷ []) 1 b k.1))
  ]
  roles_of (a ∷ b ∷ c ∷ others) e = cc
