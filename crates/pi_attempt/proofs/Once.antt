-- Each selected class is answered once.
use Rattle.std.proofs.Common.{◌≡◌, ◌⊎◌, inl, inr, ℕ, zero, suc, ◌+◌, ◌*◌, ◌≤◌, Bool, true, false, List, [], ◌∷◌, Option, Some, None, refl, arith, zero-add, sym, ◌∙◌, subst}
use Rattle.std.proofs.lemmas.List.Sums.{sum_by-append}
use Rattle.std.proofs.lemmas.List.Folds.{list_any-append}
use Rattle.std.specs.Prelude.{◌==◌, ◌||◌, not, cond, length, if◌then◌else◌, option_and_then, slice_get}
use Rattle.pi_model.specs.Program.{Program}
use Rattle.pi_machine.specs.Start.{first_state}
use Rattle.pi_machine.specs.Ends.{has}
use Rattle.pi_machine.proofs.Truths.{both, either, neither, not_false, or_true, same_of, same_self, some_same}
use Rattle.pi_attempt.specs.Watch.{Why, NeedsInit, EarlierImage, OtherStatics, NativeCall, Steps, Heap, Frames, Uncaught, Watched, Committed, Stopped, watch}
use Rattle.pi_attempt.specs.Fold.{Line, Answer, Verdict, Held, Lazy, Progress, begins, with_verdict, may_begin, first_needed, settle_lazy, settle_by, settle, is_done, first_attempt, select, select_all, over_lines, all_selected}
use Rattle.pi_attempt.specs.Laws.{answers_on, EachAnsweredOnce}

abbrev pub mark : ℕ → ℕ → ℕ
mark x c = cond (x == c) 1 0

-- how often a number stands in a list
abbrev pub number_of : List ℕ → ℕ → ℕ
number_of [] c = 0
number_of (x ∷ xs) c = mark x c + number_of xs c

none_of : (xs : List ℕ) (c : ℕ) → has xs c ≡ false → number_of xs c ≡ 0
none_of [] c e = refl
none_of (x ∷ xs) c e =
    let h : ((x == c) ≡ false) × (has xs c ≡ false) = neither (x == c) (has xs c) e in
    rw (h.0) (zero-add _ ∙ none_of xs c h.1)

some_by : (x c n : ℕ) (b : Bool) → (x == c) ≡ b → (b ≡ false → 1 ≤ n) → 1 ≤ mark x c + n
some_by x c n true is h = rw is (omega arith)
some_by x c n false is h = let k : 1 ≤ n = h refl in rw is (omega (arith, k))

some_of : (xs : List ℕ) (c : ℕ) → has xs c ≡ true → 1 ≤ number_of xs c
some_of [] c e = cc
some_of (x ∷ xs) c e = some_by x c (number_of xs c) (x == c) refl (λ f. some_of xs c (second (x == c) (has xs c) f e))
  where
    second : (a b : Bool) → a ≡ false → (a || b) ≡ true → b ≡ true
    second true b f e = cc
    second false b f e = e

-- so many classes have begun as were answered or wait, none twice, and all are selected
pub record Good (sel waiting : List ℕ) (w : Progress) : Type 0 where
  pub balance : (c : ℕ) → number_of w.begun c ≡ answers_on w c + number_of waiting c
  pub once : (c : ℕ) → number_of w.begun c ≤ 1
  pub within : (c : ℕ) → has w.begun c ≡ true → has sel c ≡ true

-- what has begun stays begun
pub record Grown (before after : Progress) : Type 0 where
  pub more : (c : ℕ) → has before.begun c ≡ true → has after.begun c ≡ true

pub record Settled (sel : List ℕ) (before after : Progress) : Type 0 where
  pub good : Good sel [] after
  pub grown : Grown before after

grown_on : (a b c : Progress) → Grown a b → Grown b c → Grown a c
grown_on a b c x y = record { more = λ d e. y.more d (x.more d e) }

answered_good : (sel waiting : List ℕ) (c : ℕ) (v : Verdict) (w : Progress) → Good sel (c ∷ waiting) w → Good sel waiting (with_verdict c v w)
answered_good sel waiting c v w g = record {
  balance = λ d.
      let a : number_of w.begun d ≡ answers_on w d + (mark c d + number_of waiting d) = g.balance d in
      let b : answers_on (with_verdict c v w) d ≡ answers_on w d + (0 + mark c d) = sum_by-append (λ (x : Answer). cond (x.class == d) 1 0) w.answers (record { class = c; verdict = v } ∷ []) in
      omega (arith, a, b);
  once = g.once;
  within = g.within;
}

begun_once : (d e : ℕ) (xs : List ℕ) (b : Bool) → (d == e) ≡ b → has xs d ≡ false → number_of xs e ≤ 1 → mark d e + number_of xs e ≤ 1
begun_once d e xs true is fresh once =
    let same : d ≡ e = same_of d e is in
    let none : number_of xs e ≡ 0 = none_of xs e (subst (λ x. has xs x ≡ false) same fresh) in
    rw (is, none) (omega arith)
begun_once d e xs false is fresh once = rw is (omega (arith, once))

begins_within : (sel xs : List ℕ) (d e : ℕ) → has sel d ≡ true → (has xs e ≡ true → has sel e ≡ true) → ((d == e) ≡ true) ⊎ (has xs e ≡ true) → has sel e ≡ true
begins_within sel xs d e s h (inl is) = subst (λ x. has sel x ≡ true) (same_of d e is) s
begins_within sel xs d e s h (inr is) = h is

begins_good : (sel waiting : List ℕ) (d : ℕ) (w : Progress) → has sel d ≡ true → has w.begun d ≡ false → Good sel waiting w → Good sel (d ∷ waiting) (begins d w)
begins_good sel waiting d w s fresh g = record {
  balance = λ e. let a : number_of w.begun e ≡ answers_on w e + number_of waiting e = g.balance e in omega (arith, a);
  once = λ e. begun_once d e w.begun (d == e) refl fresh (g.once e);
  within = λ e h. begins_within sel w.begun d e s (g.within e) (either (d == e) (has w.begun e) h);
}

begins_grown : (d : ℕ) (w : Progress) → Grown w (begins d w)
begins_grown d w = record { more = λ c e. or_true (d == c) (has w.begun c) e }

-- the class that is attempted first may begin
if_some : (b : Bool) (d e : ℕ) → (if b then Some d else None) ≡ Some e → (b ≡ true) × (d ≡ e)
if_some true d e h = (refl, some_same d e h)
if_some false d e h = cc

pub needed_may : (selected : List ℕ) (w : Progress) (why : Why) (d : ℕ) → first_needed selected w why ≡ Some d → may_begin selected w d ≡ true
needed_may selected w (NeedsInit c) d e =
    let h : (may_begin selected w c ≡ true) × (c ≡ d) = if_some (may_begin selected w c) c d e in
    subst (λ x. may_begin selected w x ≡ true) h.1 h.0
needed_may selected w (EarlierImage t) d e = cc
needed_may selected w (OtherStatics c) d e = cc
needed_may selected w (NativeCall m) d e = cc
needed_may selected w Steps d e = cc
needed_may selected w Heap d e = cc
needed_may selected w Frames d e = cc
needed_may selected w (Uncaught t) d e = cc

module _ (p : Program) (sel : List ℕ) (file : ℕ) (line : Line) (covered : (c : ℕ) → has line.selected c ≡ true → has sel c ≡ true) where
  abbrev pub Settles : (List ℕ → Progress → Option Progress) → Type 0
  Settles go = (waiting : List ℕ) (w after : Progress) → Good sel waiting w → go waiting w ≡ Some after → Settled sel w after

  through : (a b after : Progress) → Grown a b → Settled sel b after → Settled sel a after
  through a b after x y = record { good = y.good; grown = grown_on a b after x y.grown }

  settle_lazy_good : (go : List ℕ → Progress → Option Progress) → Settles go → (c : ℕ) (waiting : List ℕ) (w after : Progress) (why : Why) (d : Option ℕ)
      → first_needed line.selected w why ≡ d → Good sel (c ∷ waiting) w → settle_lazy go c waiting w why d ≡ Some after → Settled sel w after
  settle_lazy_good go h c waiting w after why None is g e =
      through w (with_verdict c (Lazy why) w) after (record { more = λ d x. x }) (h waiting (with_verdict c (Lazy why) w) after (answered_good sel waiting c (Lazy why) w g) e)
  settle_lazy_good go h c waiting w after why (Some d) is g e =
      let m : (has line.selected d ≡ true) × (not (has w.begun d) ≡ true) = both _ _ (needed_may line.selected w why d is) in
      let b : Good sel (d ∷ c ∷ waiting) (begins d w) = begins_good sel (c ∷ waiting) d w (covered d m.0) (not_false _ m.1) g in
      through w (begins d w) after (begins_grown d w) (h (d ∷ c ∷ waiting) (begins d w) after b e)

  settle_by_good : (go : List ℕ → Progress → Option Progress) → Settles go → (c : ℕ) (waiting : List ℕ) (w after : Progress) (o : Option Watched)
      → Good sel (c ∷ waiting) w → settle_by go line.selected c waiting w o ≡ Some after → Settled sel w after
  settle_by_good go h c waiting w after None g e = cc
  settle_by_good go h c waiting w after (Some (Committed s n)) g e =
      let v : Progress = record w { state = s } in
      let k : Good sel waiting (with_verdict c (Held n) v) = answered_good sel waiting c (Held n) v (record { balance = g.balance; once = g.once; within = g.within }) in
      through w (with_verdict c (Held n) v) after (record { more = λ d x. x }) (h waiting (with_verdict c (Held n) v) after k e)
  settle_by_good go h c waiting w after (Some (Stopped why)) g e =
      settle_lazy_good go h c waiting w after why (first_needed line.selected w why) refl g e

  settle_good : (turns : ℕ) → Settles (settle p file line turns)
  settle_good turns [] w after g e = subst (Settled sel w) (some_same w after (at_rest turns w after e)) (record { good = g; grown = record { more = λ d x. x } })
    where
      at_rest : (turns : ℕ) (w after : Progress) → settle p file line turns [] w ≡ Some after → Some w ≡ Some after
      at_rest zero w after e = e
      at_rest (suc n) w after e = e
  settle_good zero (c ∷ waiting) w after g e = cc
  settle_good (suc turns) (c ∷ waiting) w after g e =
      settle_by_good (settle p file line turns) (settle_good turns) c waiting w after (watch p c file line.budget w.state) g e

  -- after a class was selected, it has begun
  pub record Selected (c : ℕ) (before after : Progress) : Type 0 where
    pub settled : Settled sel before after
    pub has_begun : has after.begun c ≡ true

  begun_now : (c : ℕ) (w after : Progress) → Good sel [] w → has w.begun c ≡ false → has sel c ≡ true → Settled sel (begins c w) after → Selected c w after
  begun_now c w after g fresh s x = record {
    settled = record { good = x.good; grown = grown_on w (begins c w) after (begins_grown c w) x.grown };
    has_begun = x.grown.more c (rw (same_self c) refl);
  }

  attempt_good : (c : ℕ) (w after : Progress) (done : Bool) → Good sel [] w → has w.begun c ≡ false → has sel c ≡ true
      → first_attempt p file line c w done ≡ Some after → Selected c w after
  attempt_good c w after true g fresh s e =
      let b : Good sel (c ∷ []) (begins c w) = begins_good sel [] c w s fresh g in
      let k : Settled sel (begins c w) (with_verdict c (Held 0) (begins c w)) =
      record { good = answered_good sel [] c (Held 0) (begins c w) b; grown = record { more = λ d x. x } } in
      subst (Selected c w) (some_same (with_verdict c (Held 0) (begins c w)) after e) (begun_now c w (with_verdict c (Held 0) (begins c w)) g fresh s k)
  attempt_good c w after false g fresh s e =
      begun_now c w after g fresh s (settle_good (2 * length line.selected) (c ∷ []) (begins c w) after (begins_good sel [] c w s fresh g) e)

  select_by : (c : ℕ) (w after : Progress) (b done : Bool) → has w.begun c ≡ b → Good sel [] w → has sel c ≡ true
      → (if b then Some w else first_attempt p file line c w done) ≡ Some after → Selected c w after
  select_by c w after true done is g s e =
      subst (Selected c w) (some_same w after e) (record { settled = record { good = g; grown = record { more = λ d x. x } }; has_begun = is })
  select_by c w after false done is g s e = attempt_good c w after done g is s e

  -- all classes of a list have begun
  pub record AllBegun (cs : List ℕ) (before after : Progress) : Type 0 where
    pub settled : Settled sel before after
    pub each : (c : ℕ) → has cs c ≡ true → has after.begun c ≡ true

  and_then : (c : ℕ) (cs : List ℕ) (w after : Progress) (o : Option Progress) → Good sel [] w → has sel c ≡ true
      → ((v : Progress) → o ≡ Some v → Selected c w v)
      → ((v : Progress) → Good sel [] v → select_all p file line cs v ≡ Some after → AllBegun cs v after)
      → option_and_then (select_all p file line cs) o ≡ Some after → AllBegun (c ∷ cs) w after
  and_then c cs w after None g s first rest e = cc
  and_then c cs w after (Some v) g s first rest e =
      let x : Selected c w v = first v refl in
      let y : AllBegun cs v after = rest v x.settled.good e in
      record {
        settled = record { good = y.settled.good; grown = grown_on w v after x.settled.grown y.settled.grown };
        each = λ d h. by_place d (either (c == d) (has cs d) h) (λ is. subst (λ z. has after.begun z ≡ true) (same_of c d is) (y.settled.grown.more c x.has_begun)) (y.each d);
      }
    where
      by_place : (d : ℕ) → ((c == d) ≡ true) ⊎ (has cs d ≡ true) → ((c == d) ≡ true → has after.begun d ≡ true) → (has cs d ≡ true → has after.begun d ≡ true) → has after.begun d ≡ true
      by_place d (inl is) f g = f is
      by_place d (inr is) f g = g is

  select_all_good : (cs : List ℕ) (w after : Progress) → ((c : ℕ) → has cs c ≡ true → has sel c ≡ true) → Good sel [] w
      → select_all p file line cs w ≡ Some after → AllBegun cs w after
  select_all_good [] w after in_sel g e =
      subst (AllBegun [] w) (some_same w after e) (record { settled = record { good = g; grown = record { more = λ d x. x } }; each = λ c h. cc })
  select_all_good (c ∷ cs) w after in_sel g e =
      and_then c cs w after (select p file line c w) g (in_sel c (rw (same_self c) refl))
      (λ v is. select_by c w v (has w.begun c) (is_done (slice_get w.state.statuses c)) refl g (in_sel c (rw (same_self c) refl)) is)
      (λ v k is. select_all_good cs v after (λ d h. in_sel d (or_true (c == d) (has cs d) h)) k is)
      e

module _ (p : Program) (sel : List ℕ) where
  -- all classes that some lines select have begun
  pub record Covered (lines : List Line) (before after : Progress) : Type 0 where
    pub settled : Settled sel before after
    pub each : (c : ℕ) → has (all_selected lines) c ≡ true → has after.begun c ≡ true

  abbrev pub InSelected : List Line → Type 0
  InSelected lines = (c : ℕ) → has (all_selected lines) c ≡ true → has sel c ≡ true

  split : (line : Line) (lines : List Line) (c : ℕ) → has (all_selected (line ∷ lines)) c ≡ (has line.selected c || has (all_selected lines) c)
  split line lines c = list_any-append (λ x. x == c) line.selected (all_selected lines)

  in_first : (line : Line) (lines : List Line) → InSelected (line ∷ lines) → (c : ℕ) → has line.selected c ≡ true → has sel c ≡ true
  in_first line lines h c e = h c (split line lines c ∙ or_first (has line.selected c) (has (all_selected lines) c) e)
    where
      or_first : (a b : Bool) → a ≡ true → (a || b) ≡ true
      or_first true b e = refl
      or_first false b e = cc

  in_rest : (line : Line) (lines : List Line) → InSelected (line ∷ lines) → InSelected lines
  in_rest line lines h c e = h c (split line lines c ∙ or_true (has line.selected c) (has (all_selected lines) c) e)

  then_lines : (file : ℕ) (line : Line) (lines : List Line) (h : InSelected (line ∷ lines)) (w after : Progress) (o : Option Progress)
      → ((v : Progress) → o ≡ Some v → AllBegun p sel file line (in_first line lines h) line.selected w v)
      → ((v : Progress) → Good sel [] v → over_lines p (file + 1) lines v ≡ Some after → Covered lines v after)
      → option_and_then (over_lines p (file + 1) lines) o ≡ Some after → Covered (line ∷ lines) w after
  then_lines file line lines h w after None first rest e = cc
  then_lines file line lines h w after (Some v) first rest e =
      let x : AllBegun p sel file line (in_first line lines h) line.selected w v = first v refl in
      let y : Covered lines v after = rest v x.settled.good e in
      record {
        settled = record { good = y.settled.good; grown = grown_on w v after x.settled.grown y.settled.grown };
        each = λ c is. by_place c (either (has line.selected c) (has (all_selected lines) c) (sym (split line lines c) ∙ is))
            (λ is. y.settled.grown.more c (x.each c is)) (y.each c);
      }
    where
      by_place : (c : ℕ) → (has line.selected c ≡ true) ⊎ (has (all_selected lines) c ≡ true) → (has line.selected c ≡ true → has after.begun c ≡ true)
          → (has (all_selected lines) c ≡ true → has after.begun c ≡ true) → has after.begun c ≡ true
      by_place c (inl is) f g = f is
      by_place c (inr is) f g = g is

  lines_good : (lines : List Line) (file : ℕ) (w after : Progress) → InSelected lines → Good sel [] w → over_lines p file lines w ≡ Some after → Covered lines w after
  lines_good [] file w after h g e =
      subst (Covered [] w) (some_same w after e) (record { settled = record { good = g; grown = record { more = λ d x. x } }; each = λ c h. cc })
  lines_good (line ∷ lines) file w after h g e =
      then_lines file line lines h w after (select_all p file line line.selected w)
      (λ v is. select_all_good p sel file line (in_first line lines h) line.selected w v (in_first line lines h) g is)
      (λ v k is. lines_good lines (file + 1) v after (in_rest line lines h) k is)
      e

-- how often a class is answered, by whether it is selected
counted : (n a : ℕ) (selected : Bool) → n ≡ a + 0 → n ≤ 1 → (selected ≡ true → 1 ≤ n) → (selected ≡ false → n ≡ 0) → a ≡ (if selected then 1 else 0)
counted n a true balance once some none = let k : 1 ≤ n = some refl in omega (arith, balance, once, k)
counted n a false balance once some none = let k : n ≡ 0 = none refl in omega (arith, balance, k)

unselected : (sel xs : List ℕ) (c : ℕ) (b : Bool) → has xs c ≡ b → (has xs c ≡ true → has sel c ≡ true) → has sel c ≡ false → number_of xs c ≡ 0
unselected sel xs c false is h e = none_of xs c is
unselected sel xs c true is h e = let k : has sel c ≡ true = h is in let l : true ≡ false = sym k ∙ e in cc

nothing_begun : (sel : List ℕ) (p : Program) → Good sel [] (record { state = first_state p; answers = []; begun = [] })
nothing_begun sel p = record { balance = λ c. refl; once = λ c. omega arith; within = λ c h. cc }

pub answered_once : EachAnsweredOnce
answered_once p lines w c e =
    let sel : List ℕ = all_selected lines in
    let x : Covered p sel lines (record { state = first_state p; answers = []; begun = [] }) w =
    lines_good p sel lines 0 (record { state = first_state p; answers = []; begun = [] }) w (λ d h. h) (nothing_begun sel p) e in
    counted (number_of w.begun c) (answers_on w c) (has sel c) (x.settled.good.balance c) (x.settled.good.once c)
    (λ is. some_of w.begun c (x.each c is))
    (unselected sel w.begun c (has w.begun c) refl (x.settled.good.within c))
