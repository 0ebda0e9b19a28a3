-- The turns of the fold suffice: it has no result exactly where an attempt to which it comes is stuck.
use Rattle.std.proofs.Common.{◌≡◌, ℕ, zero, suc, ◌+◌, ◌*◌, ◌≤◌, Bool, true, false, List, [], ◌∷◌, ◌++◌, take, Option, Some, None, refl, arith, sym, ◌∙◌, ap, subst}
use Rattle.std.specs.Prelude.{◌==◌, ◌||◌, not, cond, length, slice_get, if◌then◌else◌, option_and_then}
use Rattle.pi_model.specs.Program.{Program}
use Rattle.pi_machine.specs.Ends.{has}
use Rattle.pi_machine.proofs.Truths.{both, not_false, or_true, same_of, same_self, some_same, turned}
use Rattle.pi_attempt.specs.Watch.{Why, Watched, Committed, Stopped, watch}
use Rattle.pi_attempt.specs.Fold.{Line, Held, Lazy, Progress, Waits, begins, with_verdict, first_needed, settle_lazy, settle_by, settle, turns_after, is_done, first_attempt, select, select_all, over_lines, no_progress, preinitialise}
use Rattle.pi_attempt.specs.Laws.{ComesTo, IsStuck, EndsUnlessStuck}
use Rattle.pi_attempt.proofs.Once.{needed_may}

-- how many of some classes have not begun
abbrev waits : List ℕ → List ℕ → ℕ
waits [] begun = 0
waits (c ∷ cs) begun = cond (has begun c) 0 1 + waits cs begun

fewer_of : (a b : Bool) → cond (a || b) 0 1 ≤ cond b 0 1
fewer_of true true = omega arith
fewer_of true false = omega arith
fewer_of false b = omega arith

not_more : (cs begun : List ℕ) (d : ℕ) → waits cs (d ∷ begun) ≤ waits cs begun
not_more [] begun d = omega arith
not_more (c ∷ cs) begun d =
    let a : cond ((d == c) || has begun c) 0 1 ≤ cond (has begun c) 0 1 = fewer_of (d == c) (has begun c) in
    let b : waits cs (d ∷ begun) ≤ waits cs begun = not_more cs begun d in
    omega (arith, a, b)

at_most : (cs begun : List ℕ) → waits cs begun ≤ length cs
at_most [] begun = omega arith
at_most (c ∷ cs) begun =
    let a : cond (has begun c) 0 1 ≤ 1 = one (has begun c) in
    let b : waits cs begun ≤ length cs = at_most cs begun in
    omega (arith, a, b)
  where
    one : (b : Bool) → cond b 0 1 ≤ 1
    one true = omega arith
    one false = omega arith

-- a class that begins and is one of them waits no longer
fewer : (cs begun : List ℕ) (d : ℕ) → has begun d ≡ false → has cs d ≡ true → waits cs (d ∷ begun) + 1 ≤ waits cs begun
fewer [] begun d fresh e = cc
fewer (c ∷ cs) begun d fresh e = by_first (c == d) refl e (fewer cs begun d fresh)
  where
    by_first : (b : Bool) → (c == d) ≡ b → (b || has cs d) ≡ true → (has cs d ≡ true → waits cs (d ∷ begun) + 1 ≤ waits cs begun)
        → waits (c ∷ cs) (d ∷ begun) + 1 ≤ waits (c ∷ cs) begun
    by_first true is h rest =
        let before : has begun c ≡ false = subst (λ z. has begun z ≡ false) (sym (same_of c d is)) fresh in
        let now : (d == c) ≡ true = turned c d true is in
        let a : waits cs (d ∷ begun) ≤ waits cs begun = not_more cs begun d in
        rw (now, before) (omega (arith, a))
    by_first false is h rest =
        let now : (d == c) ≡ false = turned c d false is in
        let a : waits cs (d ∷ begun) + 1 ≤ waits cs begun = rest h in
        rw now (omega (arith, a))

-- after some turns from a moment on, a selected class is next whose attempt is stuck
record StuckFrom (p : Program) (file : ℕ) (line : Line) (waiting : List ℕ) (w : Progress) : Type 0 where
  pub turns : ℕ
  pub class : ℕ
  pub others : List ℕ
  pub now : Progress
  pub is_next : turns_after p file line turns waiting w ≡ Some (record { waiting = class ∷ others; progress = now })
  pub selected : has line.selected class ≡ true
  pub stuck : watch p class file line.budget now.state ≡ None

-- within a line, from one of its classes on
record StuckWithin (p : Program) (file : ℕ) (line : Line) (cs : List ℕ) (w : Progress) : Type 0 where
  pub before : List ℕ
  pub first : ℕ
  pub others : List ℕ
  pub in_order : cs ≡ before ++ first ∷ others
  pub at_first : Progress
  pub classes_before : select_all p file line before w ≡ Some at_first
  pub not_begun : has at_first.begun first ≡ false
  pub not_done : is_done (slice_get at_first.state.statuses first) ≡ false
  pub from : StuckFrom p file line (first ∷ []) (begins first at_first)

-- within the lines of a job, from that of a file on
record StuckAmong (p : Program) (file : ℕ) (lines : List Line) (w : Progress) : Type 0 where
  pub ahead : ℕ
  pub at : ℕ
  pub is_at : at ≡ file + ahead
  pub line : Line
  pub of_job : slice_get lines ahead ≡ Some line
  pub at_line : Progress
  pub lines_before : over_lines p file (take ahead lines) w ≡ Some at_line
  pub within : StuckWithin p at line line.selected at_line

module _ (p : Program) (file : ℕ) (line : Line) where
  AllSelected : List ℕ → Type 0
  AllSelected waiting = (d : ℕ) → has waiting d ≡ true → has line.selected d ≡ true

  selected_behind : (c : ℕ) (waiting : List ℕ) → AllSelected (c ∷ waiting) → AllSelected waiting
  unfolding AllSelected
  selected_behind c waiting h d is = h d (or_true (c == d) (has waiting d) is)

  selected_before : (d : ℕ) (waiting : List ℕ) → has line.selected d ≡ true → AllSelected waiting → AllSelected (d ∷ waiting)
  unfolding AllSelected
  selected_before d waiting s h e is = by_first (d == e) refl is
    where
      by_first : (b : Bool) → (d == e) ≡ b → (b || has waiting e) ≡ true → has line.selected e ≡ true
      by_first true same k = subst (λ z. has line.selected z ≡ true) (same_of d e same) s
      by_first false same k = h e k

  -- one turn more
  one_more : (c : ℕ) (waiting : List ℕ) (w : Progress) (next : List ℕ) (v : Progress)
      → ((turns : ℕ) → turns_after p file line (suc turns) (c ∷ waiting) w ≡ turns_after p file line turns next v)
      → StuckFrom p file line next v → StuckFrom p file line (c ∷ waiting) w
  one_more c waiting w next v moves x = record {
    turns = suc x.turns;
    class = x.class;
    others = x.others;
    now = x.now;
    is_next = moves x.turns ∙ x.is_next;
    selected = x.selected;
    stuck = x.stuck;
  }

  abbrev EndsIn : ℕ → Type 0
  EndsIn turns = (waiting : List ℕ) (w : Progress) → AllSelected waiting → 2 * waits line.selected w.begun + length waiting ≤ turns
      → settle p file line turns waiting w ≡ None → StuckFrom p file line waiting w

  lazy_ends : (turns : ℕ) → EndsIn turns → (c : ℕ) (waiting : List ℕ) (w : Progress) (why : Why) (d : Option ℕ)
      → watch p c file line.budget w.state ≡ Some (Stopped why) → AllSelected (c ∷ waiting)
      → first_needed line.selected w why ≡ d → 2 * waits line.selected w.begun + (length waiting + 1) ≤ turns + 1
      → settle_lazy (settle p file line turns) c waiting w why d ≡ None → StuckFrom p file line (c ∷ waiting) w
  lazy_ends turns h c waiting w why None stops s is m e =
      one_more c waiting w waiting (with_verdict c (Lazy why) w) (λ n. rw (stops, is) refl)
      (h waiting (with_verdict c (Lazy why) w) (selected_behind c waiting s) (omega (arith, m)) e)
  lazy_ends turns h c waiting w why (Some d) stops s is m e =
      let k : (has line.selected d ≡ true) × (not (has w.begun d) ≡ true) = both _ _ (needed_may line.selected w why d is) in
      let f : waits line.selected (d ∷ w.begun) + 1 ≤ waits line.selected w.begun = fewer line.selected w.begun d (not_false _ k.1) k.0 in
      one_more c waiting w (d ∷ c ∷ waiting) (begins d w) (λ n. rw (stops, is) refl)
      (h (d ∷ c ∷ waiting) (begins d w) (selected_before d (c ∷ waiting) k.0 s) (omega (arith, m, f)) e)

  turn_ends : (turns : ℕ) → EndsIn turns → (c : ℕ) (waiting : List ℕ) (w : Progress) (o : Option Watched)
      → watch p c file line.budget w.state ≡ o → AllSelected (c ∷ waiting) → has line.selected c ≡ true
      → 2 * waits line.selected w.begun + (length waiting + 1) ≤ turns + 1
      → settle_by (settle p file line turns) line.selected c waiting w o ≡ None → StuckFrom p file line (c ∷ waiting) w
  turn_ends turns h c waiting w None is s own m e =
      record { turns = 0; class = c; others = waiting; now = w; is_next = refl; selected = own; stuck = is }
  turn_ends turns h c waiting w (Some (Committed after n)) is s own m e =
      one_more c waiting w waiting (with_verdict c (Held n) (record w { state = after })) (λ k. rw is refl)
      (h waiting (with_verdict c (Held n) (record w { state = after })) (selected_behind c waiting s) (omega (arith, m)) e)
  turn_ends turns h c waiting w (Some (Stopped why)) is s own m e = lazy_ends turns h c waiting w why (first_needed line.selected w why) is s refl m e

  settle_ends : (turns : ℕ) → EndsIn turns
  unfolding AllSelected
  settle_ends zero [] w s m e = cc
  settle_ends (suc turns) [] w s m e = cc
  settle_ends zero (c ∷ waiting) w s m e = absurd (omega (arith, m))
  settle_ends (suc turns) (c ∷ waiting) w s m e =
      turn_ends turns (settle_ends turns) c waiting w (watch p c file line.budget w.state) refl s (s c (rw (same_self c) refl)) (omega (arith, m)) e

  -- the first of the classes that are left is stuck, or one behind it
  stuck_first : (c : ℕ) (cs : List ℕ) (w : Progress) → has w.begun c ≡ false → is_done (slice_get w.state.statuses c) ≡ false
      → StuckFrom p file line (c ∷ []) (begins c w) → StuckWithin p file line (c ∷ cs) w
  stuck_first c cs w fresh left x = record {
    before = [];
    first = c;
    others = cs;
    in_order = refl;
    at_first = w;
    classes_before = refl;
    not_begun = fresh;
    not_done = left;
    from = x;
  }

  stuck_behind : (c : ℕ) (cs : List ℕ) (w v : Progress) → select p file line c w ≡ Some v → StuckWithin p file line cs v → StuckWithin p file line (c ∷ cs) w
  stuck_behind c cs w v is x = record {
    before = c ∷ x.before;
    first = x.first;
    others = x.others;
    in_order = ap (λ xs. c ∷ xs) x.in_order;
    at_first = x.at_first;
    classes_before = ap (option_and_then (select_all p file line x.before)) is ∙ x.classes_before;
    not_begun = x.not_begun;
    not_done = x.not_done;
    from = x.from;
  }

  attempt_ends : (c : ℕ) (cs : List ℕ) (w : Progress) (done : Bool) → has w.begun c ≡ false → is_done (slice_get w.state.statuses c) ≡ done
      → has line.selected c ≡ true → first_attempt p file line c w done ≡ None → StuckWithin p file line (c ∷ cs) w
  unfolding AllSelected
  attempt_ends c cs w true fresh is s e = cc
  attempt_ends c cs w false fresh is s e =
      let f : waits line.selected (c ∷ w.begun) + 1 ≤ waits line.selected w.begun = fewer line.selected w.begun c fresh s in
      let a : waits line.selected w.begun ≤ length line.selected = at_most line.selected w.begun in
      let only : AllSelected (c ∷ []) = selected_before c [] s (λ d k. cc) in
      stuck_first c cs w fresh is (settle_ends (2 * length line.selected) (c ∷ []) (begins c w) only (omega (arith, f, a)) e)

  select_ends : (c : ℕ) (cs : List ℕ) (w : Progress) (b done : Bool) → has w.begun c ≡ b → is_done (slice_get w.state.statuses c) ≡ done
      → has line.selected c ≡ true
      → (if b then Some w else first_attempt p file line c w done) ≡ None → StuckWithin p file line (c ∷ cs) w
  select_ends c cs w true done is left s e = cc
  select_ends c cs w false done is left s e = attempt_ends c cs w done is left s e

  next_ends : (c : ℕ) (cs : List ℕ) (w : Progress) (o : Option Progress) → select p file line c w ≡ o
      → (o ≡ None → StuckWithin p file line (c ∷ cs) w) → ((v : Progress) → select_all p file line cs v ≡ None → StuckWithin p file line cs v)
      → option_and_then (select_all p file line cs) o ≡ None → StuckWithin p file line (c ∷ cs) w
  next_ends c cs w None is first rest e = first refl
  next_ends c cs w (Some v) is first rest e = stuck_behind c cs w v is (rest v e)

  all_end : (cs : List ℕ) (w : Progress) → ((c : ℕ) → has cs c ≡ true → has line.selected c ≡ true)
      → select_all p file line cs w ≡ None → StuckWithin p file line cs w
  all_end [] w h e = cc
  all_end (c ∷ cs) w h e =
      let own : has line.selected c ≡ true = h c (rw (same_self c) refl) in
      next_ends c cs w (select p file line c w) refl
      (λ none. select_ends c cs w (has w.begun c) (is_done (slice_get w.state.statuses c)) refl refl own none)
      (λ v none. all_end cs v (λ d is. h d (or_true (c == d) (has cs d) is)) none)
      e

  -- and back: where a later turn is stuck there is no result, however many turns are allowed
  stuck_now : (n class : ℕ) (others : List ℕ) (now : Progress) → watch p class file line.budget now.state ≡ None
      → settle p file line n (class ∷ others) now ≡ None
  stuck_now zero class others now stuck = refl
  stuck_now (suc n) class others now stuck = rw stuck refl

  abbrev NeverSettles : ℕ → ℕ → Waits → Type 0
  NeverSettles n turns end = (waiting : List ℕ) (w : Progress) → turns_after p file line turns waiting w ≡ Some end → settle p file line n waiting w ≡ None

  never_lazy : (n turns : ℕ) (end : Waits) → NeverSettles n turns end → (c : ℕ) (waiting : List ℕ) (w : Progress) (why : Why) (d : Option ℕ)
      → settle_lazy (turns_after p file line turns) c waiting w why d ≡ Some end → settle_lazy (settle p file line n) c waiting w why d ≡ None
  never_lazy n turns end h c waiting w why None e = h waiting (with_verdict c (Lazy why) w) e
  never_lazy n turns end h c waiting w why (Some d) e = h (d ∷ c ∷ waiting) (begins d w) e

  never_by : (n turns : ℕ) (end : Waits) → NeverSettles n turns end → (c : ℕ) (waiting : List ℕ) (w : Progress) (o : Option Watched)
      → settle_by (turns_after p file line turns) line.selected c waiting w o ≡ Some end → settle_by (settle p file line n) line.selected c waiting w o ≡ None
  never_by n turns end h c waiting w None e = refl
  never_by n turns end h c waiting w (Some (Committed after k)) e = h waiting (with_verdict c (Held k) (record w { state = after })) e
  never_by n turns end h c waiting w (Some (Stopped why)) e = never_lazy n turns end h c waiting w why (first_needed line.selected w why) e

  never_settles : (class : ℕ) (others : List ℕ) (now : Progress) → watch p class file line.budget now.state ≡ None
      → (turns n : ℕ) → NeverSettles n turns (record { waiting = class ∷ others; progress = now })
  never_settles class others now stuck zero n waiting w e =
      subst (λ (x : Waits). settle p file line n x.waiting x.progress ≡ None)
      (sym (some_same (record { waiting = waiting; progress = w }) (record { waiting = class ∷ others; progress = now }) e)) (stuck_now n class others now stuck)
  never_settles class others now stuck (suc turns) n [] w e = cc
  never_settles class others now stuck (suc turns) zero (c ∷ waiting) w e = refl
  never_settles class others now stuck (suc turns) (suc n) (c ∷ waiting) w e =
      never_by n turns (record { waiting = class ∷ others; progress = now }) (never_settles class others now stuck turns n) c waiting w
      (watch p c file line.budget w.state) e

  none_behind : (before others : List ℕ) (first : ℕ) (w v : Progress) → select_all p file line before w ≡ Some v → select p file line first v ≡ None
      → select_all p file line (before ++ first ∷ others) w ≡ None
  none_behind [] others first w v e none =
      ap (option_and_then (select_all p file line others)) (subst (λ (x : Progress). select p file line first x ≡ None) (sym (some_same w v e)) none)
  none_behind (c ∷ cs) others first w v e none = by_first (select p file line c w) e (λ x k. none_behind cs others first x v k none)
    where
      by_first : (o : Option Progress) → option_and_then (select_all p file line cs) o ≡ Some v
          → ((x : Progress) → select_all p file line cs x ≡ Some v → select_all p file line (cs ++ first ∷ others) x ≡ None)
          → option_and_then (select_all p file line (cs ++ first ∷ others)) o ≡ None
      by_first None k rest = cc
      by_first (Some x) k rest = rest x k

none_among : (p : Program) (lines : List Line) (file ahead at : ℕ) (line : Line) (w v : Progress) → at ≡ file + ahead → slice_get lines ahead ≡ Some line
    → over_lines p file (take ahead lines) w ≡ Some v → select_all p at line line.selected v ≡ None → over_lines p file lines w ≡ None
none_among p [] file ahead at line w v is_at of_job e none = cc
none_among p (x ∷ lines) file zero at line w v is_at of_job e none =
    let same : at ≡ file = omega (arith, is_at) in
    let here : select_all p file x x.selected w ≡ None =
    subst (λ n. select_all p n x x.selected w ≡ None) same
    (subst (λ (y : Line). select_all p at y y.selected w ≡ None) (sym (some_same x line of_job))
    (subst (λ (y : Progress). select_all p at line line.selected y ≡ None) (sym (some_same w v e)) none)) in
    ap (option_and_then (over_lines p (file + 1) lines)) here
none_among p (x ∷ lines) file (suc ahead) at line w v is_at of_job e none =
    by_first (select_all p file x x.selected w) e (λ y k. none_among p lines (file + 1) ahead at line y v (omega (arith, is_at)) of_job k none)
  where
    by_first : (o : Option Progress) → option_and_then (over_lines p (file + 1) (take ahead lines)) o ≡ Some v
        → ((y : Progress) → over_lines p (file + 1) (take ahead lines) y ≡ Some v → over_lines p (file + 1) lines y ≡ None)
        → option_and_then (over_lines p (file + 1) lines) o ≡ None
    by_first None k rest = cc
    by_first (Some y) k rest = rest y k

none_where_stuck : (p : Program) (lines : List Line) → IsStuck p lines → preinitialise p lines ≡ None
none_where_stuck p lines x =
    let c : ComesTo p lines x.file x.line x.class x.now = x.comes in
    let never : settle p x.file x.line (2 * length x.line.selected) (c.first ∷ []) (begins c.first c.at_first) ≡ None =
    never_settles p x.file x.line x.class c.waiting x.now x.stuck c.turns (2 * length x.line.selected) (c.first ∷ []) (begins c.first c.at_first) c.is_next in
    let first : select p x.file x.line c.first c.at_first ≡ None = rw (c.not_begun, c.not_done) never in
    let within : select_all p x.file x.line x.line.selected c.at_line ≡ None =
    subst (λ cs. select_all p x.file x.line cs c.at_line ≡ None) (sym c.in_order)
    (none_behind p x.file x.line c.before c.others c.first c.at_line c.at_first c.classes_before first) in
    none_among p lines 0 x.file x.file x.line (no_progress p) c.at_line (omega arith) c.of_job c.lines_before within

lines_end : (p : Program) (lines : List Line) (file : ℕ) (w : Progress) → over_lines p file lines w ≡ None → StuckAmong p file lines w
lines_end p [] file w e = cc
lines_end p (line ∷ lines) file w e =
    next (select_all p file line line.selected w) refl (all_end p file line line.selected w (λ c is. is)) (lines_end p lines (file + 1)) e
  where
    here : StuckWithin p file line line.selected w → StuckAmong p file (line ∷ lines) w
    here x = record { ahead = 0; at = file; is_at = omega arith; line = line; of_job = refl; at_line = w; lines_before = refl; within = x }

    behind : (v : Progress) → select_all p file line line.selected w ≡ Some v → StuckAmong p (file + 1) lines v → StuckAmong p file (line ∷ lines) w
    behind v is x = record {
      ahead = suc x.ahead;
      at = x.at;
      is_at = let h : x.at ≡ file + 1 + x.ahead = x.is_at in omega (arith, h);
      line = x.line;
      of_job = x.of_job;
      at_line = x.at_line;
      lines_before = ap (option_and_then (over_lines p (file + 1) (take x.ahead lines))) is ∙ x.lines_before;
      within = x.within;
    }

    next : (o : Option Progress) → select_all p file line line.selected w ≡ o → (o ≡ None → StuckWithin p file line line.selected w)
        → ((v : Progress) → over_lines p (file + 1) lines v ≡ None → StuckAmong p (file + 1) lines v)
        → option_and_then (over_lines p (file + 1) lines) o ≡ None → StuckAmong p file (line ∷ lines) w
    next None is first rest k = here (first refl)
    next (Some v) is first rest k = behind v is (rest v k)

the_stuck : (p : Program) (lines : List Line) (at file : ℕ) (line : Line) (w : Progress) → at ≡ file → slice_get lines file ≡ Some line
    → over_lines p 0 (take file lines) (no_progress p) ≡ Some w → StuckWithin p at line line.selected w → IsStuck p lines
the_stuck p lines at file line w is of_job lines_before x = elim_at file is of_job lines_before
  where
    elim_at : (file : ℕ) → at ≡ file → slice_get lines file ≡ Some line → over_lines p 0 (take file lines) (no_progress p) ≡ Some w → IsStuck p lines
    elim_at file e o b = record {
      file = at;
      line = line;
      class = x.from.class;
      now = x.from.now;
      comes = record {
        of_job = subst (λ n. slice_get lines n ≡ Some line) (sym e) o;
        at_line = w;
        lines_before = subst (λ n. over_lines p 0 (take n lines) (no_progress p) ≡ Some w) (sym e) b;
        before = x.before;
        first = x.first;
        others = x.others;
        in_order = x.in_order;
        at_first = x.at_first;
        classes_before = x.classes_before;
        not_begun = x.not_begun;
        not_done = x.not_done;
        turns = x.from.turns;
        waiting = x.from.others;
        is_next = x.from.is_next;
      };
      selected = x.from.selected;
      stuck = x.from.stuck;
    }

stuck_where_none : (p : Program) (lines : List Line) → preinitialise p lines ≡ None → IsStuck p lines
stuck_where_none p lines e =
    let x : StuckAmong p 0 lines (no_progress p) = lines_end p lines 0 (no_progress p) e in
    let h : x.at ≡ 0 + x.ahead = x.is_at in
    the_stuck p lines x.at x.ahead x.line x.at_line (omega (arith, h)) x.of_job x.lines_before x.within

pub ends_unless_stuck : EndsUnlessStuck
ends_unless_stuck p lines = (stuck_where_none p lines, none_where_stuck p lines)
