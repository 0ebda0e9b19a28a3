-- Static fields with their values, as they are filled.
use Rattle.std.proofs.Common.{◌≡◌, ℕ, zero, suc, ◌+◌, ◌<◌, ◌≤◌, List, [], ◌∷◌, ◌++◌, length, drop, get_or, refl, sym, ap, ◌∙◌, arith, append_assoc}
use Rattle.std.proofs.Math.ListN.{drop_of_length-le}
use Rattle.std.proofs.lemmas.List.{append-nil}
use Rattle.pi_model.specs.declared.describe.FieldDesc.{FieldDesc}
use Rattle.pi_model.specs.declared.describe.Init.TheVariants.{Zero}
use Rattle.pi_format.specs.Rules.Rows.{MemberRow}
use Rattle.pi_format.specs.Rules.Values.{EncodedValue}
use Rattle.pi_format.specs.Says.Names.{Named}
use Rattle.pi_format.specs.Says.Classes.{field_desc, static_fields, init_of}
use Rattle.pi_dex.specs.Ready.{init_at}

drop_nothing : (i : ℕ) (vs : List EncodedValue) → vs ≡ [] → drop i vs ≡ vs
drop_nothing zero vs e = refl
drop_nothing (suc i) [] e = refl
drop_nothing (suc i) (v ∷ vs) e = cc

-- static fields behind i of them begin with the next one, set by the value of its number
next_static : (n : Named) (rows : List MemberRow) (values : List EncodedValue) (i : ℕ) (d : MemberRow) → i < length rows
    → static_fields n (drop i rows) (drop i values)
    ≡ field_desc n (init_at n values i) (get_or rows i d) ∷ static_fields n (drop (suc i) rows) (drop (suc i) values)
next_static n [] values i d lt = absurd (omega arith)
next_static n (row ∷ rows) [] zero d lt = refl
next_static n (row ∷ rows) (v ∷ values) zero d lt = refl
next_static n (row ∷ rows) [] (suc i) d lt =
    ap (static_fields n (drop i rows)) (sym (drop_nothing i [] refl)) ∙ next_static n rows [] i d (omega arith)
next_static n (row ∷ rows) (v ∷ values) (suc i) d lt = next_static n rows values i d (omega arith)

pub statics_go : (n : Named) (done : List FieldDesc) (rows : List MemberRow) (values : List EncodedValue) (i : ℕ) (row : MemberRow) → i < length rows → row ≡ get_or rows i row
    → (done ++ field_desc n (init_at n values i) row ∷ []) ++ static_fields n (drop (i + 1) rows) (drop (i + 1) values)
    ≡ done ++ static_fields n (drop i rows) (drop i values)
statics_go n done rows values i row lt is =
    let next : i + 1 ≡ suc i = omega arith in
    let rest : List FieldDesc = static_fields n (drop (i + 1) rows) (drop (i + 1) values) in
    let all : static_fields n (drop i rows) (drop i values) ≡ field_desc n (init_at n values i) row ∷ rest =
    next_static n rows values i row lt
    ∙ ap (λ (r : MemberRow). field_desc n (init_at n values i) r ∷ static_fields n (drop (suc i) rows) (drop (suc i) values)) (sym is)
    ∙ ap (λ (k : ℕ). field_desc n (init_at n values i) row ∷ static_fields n (drop k rows) (drop k values)) (sym next) in
    append_assoc done (field_desc n (init_at n values i) row ∷ []) rest ∙ ap (λ fs. done ++ fs) (sym all)

pub statics_end : (n : Named) (done : List FieldDesc) (rows : List MemberRow) (values : List EncodedValue) (i : ℕ) → length rows ≤ i
    → done ++ static_fields n (drop i rows) values ≡ done
statics_end n done rows values i le = rw (drop_of_length-le rows le) (append-nil done)

-- what the value of a number sets a field to
pub init_there : (n : Named) (values : List EncodedValue) (i : ℕ) (v : EncodedValue) → i < length values → v ≡ get_or values i v → init_at n values i ≡ init_of n v
init_there n [] i v lt is = absurd (omega arith)
init_there n (w ∷ values) zero v lt is = ap (init_of n) (sym is)
init_there n (w ∷ values) (suc i) v lt is = init_there n values i v (omega arith) is

pub init_none : (n : Named) (values : List EncodedValue) (i : ℕ) → length values ≤ i → init_at n values i ≡ Zero
init_none n [] zero le = refl
init_none n [] (suc i) le = refl
init_none n (w ∷ values) zero le = absurd (omega arith)
init_none n (w ∷ values) (suc i) le = init_none n values i (omega arith)
