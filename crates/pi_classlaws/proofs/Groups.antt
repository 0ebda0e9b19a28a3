-- How an entry of a handler table joins the groups behind it, and what so holds of each group.
use Rattle.std.proofs.Common.{◌≡◌, ℕ, Bool, true, false, List, [], ◌∷◌, Option, Some, None, map, length, inl, inr, refl, sym, ap, ◌∙◌, subst}
use Rattle.std.specs.Prelude.{◌⊎◌, ◌==◌, ◌&&◌, is_some, All, if◌then◌else◌}
use Rattle.std.proofs.lemmas.Bool.{cases_Bool, and_parts, eqb-true}
use Rattle.std.proofs.lemmas.List.{length-map}
use Rattle.std.proofs.lemmas.List.Elements.{All-nil, All-cons, All-head, All-tail}
use Rattle.pi_dextables.specs.declared.tables.Catch.{Catch}
use Rattle.pi_dextables.specs.declared.tables.Catches.{Catches}
use Rattle.pi_contents.specs.Contents.{CatchContent}
use Rattle.pi_classtables.specs.Numbers.{Pools, type_no}
use Rattle.pi_classtables.specs.Ranges.{Group, with_entry, groups_of}

-- the handler of an entry that catches a type, and the group that an entry makes alone and with the one behind it
abbrev pub handler_of : Pools → CatchContent → List ℕ → Catch
handler_of p c t = record { ty = type_no p t; to = c.at }

abbrev pub handlers_alone : Pools → CatchContent → Option (List ℕ) → Catches
handlers_alone p c None = record { typed = []; last = Some c.at }
handlers_alone p c (Some t) = record { typed = handler_of p c t ∷ []; last = None }

abbrev pub group_alone : Pools → CatchContent → Group
group_alone p c = record { from = c.from; to = c.to; catches = handlers_alone p c c.ty }

abbrev pub group_joined : Catch → Group → Group
group_joined h g = record { from = g.from; to = g.to; catches = record { typed = h ∷ g.catches.typed; last = g.catches.last } }

-- it stands alone where it catches all, or where the group behind it is of another range
pub record StandsAlone (p : Pools) (c : CatchContent) (groups : List Group) : Type 0 where
  pub is : with_entry p c groups ≡ group_alone p c ∷ groups
  pub apart : (g : Group) (rest : List Group) → groups ≡ g ∷ rest → is_some c.ty ≡ true → ((g.from == c.from) && (g.to == c.to)) ≡ false

pub record Joins (p : Pools) (c : CatchContent) (groups : List Group) : Type 0 where
  pub ty : List ℕ
  pub caught : c.ty ≡ Some ty
  pub first : Group
  pub rest : List Group
  pub behind : groups ≡ first ∷ rest
  pub from : first.from ≡ c.from
  pub to : first.to ≡ c.to
  pub is : with_entry p c groups ≡ group_joined (handler_of p c ty) first ∷ rest

abbrev entry : ℕ → ℕ → Option (List ℕ) → ℕ → CatchContent
entry from to ty at = record { from = from; to = to; ty = ty; at = at }

by_range : (p : Pools) (from to : ℕ) (t : List ℕ) (at : ℕ) (g : Group) (gs : List Group) (b : Bool) → ((g.from == from) && (g.to == to)) ≡ b
    → StandsAlone p (entry from to (Some t) at) (g ∷ gs) ⊎ Joins p (entry from to (Some t) at) (g ∷ gs)
by_range p from to t at g gs true e =
    let parts = and_parts (g.from == from) (g.to == to) e in
    inr (record {
      ty = t;
      caught = refl;
      first = g;
      rest = gs;
      behind = refl;
      from = eqb-true g.from from parts.0;
      to = eqb-true g.to to parts.1;
      is = rw e refl;
    })
by_range p from to t at g gs false e = inl (record { is = rw e refl; apart = λ h rest same some. other h rest same })
  where
    other : (h : Group) (rest : List Group) → g ∷ gs ≡ h ∷ rest → ((h.from == from) && (h.to == to)) ≡ false
    other h rest same = (let is : g ≡ h = cc in subst (λ (x : Group). ((x.from == from) && (x.to == to)) ≡ false) is e)

by_type : (p : Pools) (from to : ℕ) (ty : Option (List ℕ)) (at : ℕ) (groups : List Group)
    → StandsAlone p (entry from to ty at) groups ⊎ Joins p (entry from to ty at) groups
by_type p from to None at groups = inl (record { is = refl; apart = λ g rest same some. cc })
by_type p from to (Some t) at [] = inl (record { is = refl; apart = λ g rest same some. cc })
by_type p from to (Some t) at (g ∷ gs) = by_range p from to t at g gs ((g.from == from) && (g.to == to)) refl

pub entered : (p : Pools) (c : CatchContent) (groups : List Group) → StandsAlone p c groups ⊎ Joins p c groups
entered p c groups = by_type p c.from c.to c.ty c.at groups

-- what holds of each group that an entry makes, alone or with a group of which it holds, holds of all
module _ (P : Group → Type 0) (C : CatchContent → Type 0) (p : Pools) (alone : (c : CatchContent) → C c → P (group_alone p c))
    (joined : (c : CatchContent) (t : List ℕ) (g : Group) → C c → c.ty ≡ Some t → g.from ≡ c.from → g.to ≡ c.to → P g → P (group_joined (handler_of p c t) g)) where
  entry_holds : (c : CatchContent) (groups : List Group) → C c → All P groups → StandsAlone p c groups ⊎ Joins p c groups → All P (with_entry p c groups)
  entry_holds c groups here all (inl a) = subst (All P) (sym a.is) (All-cons P (group_alone p c) groups (alone c here) all)
  entry_holds c groups here all (inr j) =
      let whole : All P (j.first ∷ j.rest) = subst (All P) j.behind all in
      let first : P (group_joined (handler_of p c j.ty) j.first) = joined c j.ty j.first here j.caught j.from j.to (All-head P j.first j.rest whole) in
      subst (All P) (sym j.is) (All-cons P (group_joined (handler_of p c j.ty) j.first) j.rest first (All-tail P j.first j.rest whole))

  pub groups_hold : (cs : List CatchContent) → All C cs → All P (groups_of p cs)
  groups_hold [] all = All-nil P
  groups_hold (c ∷ cs) all =
      let rest = groups_hold cs (All-tail C c cs all) in
      entry_holds c (groups_of p cs) (All-head C c cs all) rest (entered p c (groups_of p cs))

-- the first group has the range of the first entry
pub record Begins (c : CatchContent) (groups : List Group) : Type 0 where
  pub first : Group
  pub rest : List Group
  pub is : groups ≡ first ∷ rest
  pub from : first.from ≡ c.from
  pub to : first.to ≡ c.to

begun : (p : Pools) (c : CatchContent) (groups : List Group) → StandsAlone p c groups ⊎ Joins p c groups → Begins c (with_entry p c groups)
begun p c groups (inl a) = record { first = group_alone p c; rest = groups; is = a.is; from = refl; to = refl }
begun p c groups (inr j) = record { first = group_joined (handler_of p c j.ty) j.first; rest = j.rest; is = j.is; from = j.from; to = j.to }

pub groups_begin : (p : Pools) (c : CatchContent) (cs : List CatchContent) → Begins c (groups_of p (c ∷ cs))
groups_begin p c cs = begun p c (groups_of p cs) (entered p c (groups_of p cs))

-- the ranges of groups do not depend on the numbers of types
abbrev span_of : Group → ℕ × ℕ
span_of g = (g.from, g.to)

abbrev typed_span : CatchContent → List (ℕ × ℕ) → List (ℕ × ℕ)
typed_span c [] = (c.from, c.to) ∷ []
typed_span c (s ∷ spans) = if (s.0 == c.from) && (s.1 == c.to) then s ∷ spans else (c.from, c.to) ∷ s ∷ spans

abbrev with_span : CatchContent → List (ℕ × ℕ) → Option (List ℕ) → List (ℕ × ℕ)
with_span c spans None = (c.from, c.to) ∷ spans
with_span c spans (Some t) = typed_span c spans

abbrev spans_of : List CatchContent → List (ℕ × ℕ)
spans_of [] = []
spans_of (c ∷ cs) = with_span c (spans_of cs) c.ty

span_entered : (p : Pools) (from to : ℕ) (ty : Option (List ℕ)) (at : ℕ) (groups : List Group)
    → map span_of (with_entry p (entry from to ty at) groups) ≡ with_span (entry from to ty at) (map span_of groups) ty
span_entered p from to None at groups = refl
span_entered p from to (Some t) at [] = refl
span_entered p from to (Some t) at (g ∷ gs) =
    elim (cases_Bool ((g.from == from) && (g.to == to))) [
      | inl e ↦ rw e refl
      | inr e ↦ rw e refl
    ]

spans : (p : Pools) (cs : List CatchContent) → map span_of (groups_of p cs) ≡ spans_of cs
spans p [] = refl
spans p (c ∷ cs) = span_entered p c.from c.to c.ty c.at (groups_of p cs) ∙ ap (λ s. with_span c s c.ty) (spans p cs)

-- and so their number does not
pub groups_counted : (p q : Pools) (cs : List CatchContent) → length (groups_of p cs) ≡ length (groups_of q cs)
groups_counted p q cs =
    let same : map span_of (groups_of p cs) ≡ map span_of (groups_of q cs) = spans p cs ∙ sym (spans q cs) in
    sym (length-map (groups_of p cs) span_of) ∙ (ap length same ∙ length-map (groups_of q cs) span_of)
