-- The code of a method by texts: its head, its lines, and its handlers, range by range.
use Rattle.std.proofs.Common.{◌≡◌, ℕ, zero, suc, ◌+◌, ◌<◌, ◌≤◌, List, [], ◌∷◌, ◌++◌, length, map, get_or, Option, Some, None, Bool, true, false, refl, sym, ap, ◌∙◌, subst, add-zero, arith}
use Rattle.std.specs.Prelude.{◌==◌, All, IfSome, slice_get, slice_index, is_some, flat_map, option_map, if◌then◌else◌}
use Rattle.std.specs.List.{list_all}
use Rattle.std.proofs.lemmas.Bool.{false≢true}
use Rattle.std.proofs.lemmas.Bool.Decides.{nat_tests}
use Rattle.std.proofs.lemmas.List.{map-append, length-append}
use Rattle.std.proofs.lemmas.Option.{same_Some, slice_get_within}
use Rattle.pi_model.specs.declared.numbers.NameNo.{NameNo}
use Rattle.pi_model.specs.declared.describe.Catch.{Catch as Handled}
use Rattle.pi_insn.specs.Chain.{◌>>=◌}
use Rattle.pi_format.specs.Rules.Lowest.{tabulation}
use Rattle.pi_format.specs.Rules.CodeItems.{CodeHead, TryRange, HandlerList, code_head, lists_at, handler_lists, ranges_hold, ranges_have_lists, code_lists}
use Rattle.pi_format.specs.Rules.Pieces.{walk}
use Rattle.pi_format.specs.Says.Names.{Named}
use Rattle.pi_format.specs.Says.Codes.{lines_of, typed_catch, last_catch, range_catches, catches_at, catches_of, code_at, code_of}
use Rattle.pi_format.proofs.Every.{all_first, all_rest}
use Rattle.pi_parts.specs.Lebs.{uleb_bytes}
use Rattle.pi_parts.specs.Parts.{offsets}
use Rattle.pi_parts.proofs.ReadBack.{few_sleb, few_negative}
use Rattle.pi_dextables.specs.declared.tables.Body.{Body}
use Rattle.pi_dextables.specs.declared.tables.Catch.{Catch}
use Rattle.pi_dextables.specs.declared.tables.Catches.{Catches}
use Rattle.pi_dextables.specs.declared.tables.Range.{Range}
use Rattle.pi_dextables.specs.declared.tables.Tables.{Tables}
use Rattle.pi_dextables.specs.Codes.{size_bytes, catches_bytes, list_places, list_place, read_handler, read_lists}
use Rattle.pi_dextables.specs.Said.{held, handlers_hold, head_of, first_list, BodySaid, CodeSaid}
use Rattle.pi_dextables.specs.Writable.{RangeFits, BodyFits}
use Rattle.pi_dextables.proofs.Each.{all_got}
use Rattle.pi_contents.specs.Contents.{LineContent, CatchContent, CodeContent}
use Rattle.pi_contents.specs.Named.{line_content, catch_content, code_content}
use Rattle.pi_tablesaid.specs.Content.{lines_said, typed_said, last_said, list_said, no_catches, range_said, code_said}
use Rattle.pi_tablesaid.specs.Closed.{IsType, BodyCloses}
use Rattle.pi_tablesaid.proofs.TextsSaid.{Speaks, type_text}
use Rattle.pi_tablesaid.proofs.InsnsSaid.{lines_are}

-- each list has a byte
some_size : (n : ℕ) (last : Option ℕ) → 0 < length (size_bytes n last)
some_size n None = (few_sleb n).0
some_size n (Some to) = (few_negative n).0

catches_some : (l : Catches) → 0 < length (catches_bytes l)
unfolding catches_bytes
catches_some l = simp length-append (omega (arith, some_size (length l.typed) l.last))

-- so that each begins where its own bytes do, and all behind a list begin behind its beginning
first_place : (at : ℕ) (l : Catches) → (if length (catches_bytes l) == 0 then 0 else at) ≡ at
first_place at l =
    let some = catches_some l in
    let no : (length (catches_bytes l) == 0) ≡ false = grind (arith, nat_tests) in
    rw no refl

places_behind : (at : ℕ) (lists : List Catches) (k : ℕ) → k < length lists → at ≤ slice_index (offsets catches_bytes at lists) k
places_behind at [] k lt = absurd (omega arith)
places_behind at (l ∷ lists) zero lt = rw (first_place at l) (omega arith)
places_behind at (l ∷ lists) (suc k) lt = omega (arith, places_behind (at + length (catches_bytes l)) lists k (omega arith))

-- the entries that a list makes for a range
abbrev entries : Named → TryRange → Catches → List Handled
entries n r l = map (typed_catch n r) (map read_handler l.typed) ++ last_catch r l.last

-- the list that stands at a place is the one of that number
found_list : (n : Named) (r : TryRange) (begin base at : ℕ) (lists : List Catches) (k : ℕ) → begin ≡ base + at → k < length lists
    → range_catches n r (read_lists begin lists) (base + slice_index (offsets catches_bytes at lists) k) ≡ entries n r (get_or lists k no_catches)
found_list n r begin base at [] k e lt = absurd (omega arith)
found_list n r begin base at (l ∷ lists) zero e lt =
    let here : (begin == base + at) ≡ true = grind (arith, nat_tests) in
    rw (first_place at l, here) refl
found_list n r begin base at (l ∷ lists) (suc k) e lt =
    let next : ℕ = slice_index (offsets catches_bytes (at + length (catches_bytes l)) lists) k in
    let behind : at + length (catches_bytes l) ≤ next = places_behind (at + length (catches_bytes l)) lists k (omega arith) in
    let some = catches_some l in
    let other : (begin == base + next) ≡ false = grind (arith, nat_tests) in
    rw other (found_list n r (begin + length (catches_bytes l)) base (at + length (catches_bytes l)) lists k (omega arith) (omega arith))

-- the lists of a code that has ranges are those of its item
abbrev lists_by : List ℕ → ℕ → CodeHead → Option (List HandlerList)
lists_by file at head =
    if head.tries == 0 then Some [] else
    if ranges_hold file at head then (do
      lists ← handler_lists file head.units (lists_at at head)
      if ranges_have_lists file at head lists then Some lists else None)
    else None

lists_with : (file : List ℕ) (at : ℕ) (head : CodeHead) → code_head file at ≡ head → code_lists file at ≡ lists_by file at head
unfolding code_lists
lists_with file at head e = ap (lists_by file at) e

read_some : {X : Type 0} (untried test holds : Bool) (none x : X) (reading : Option X) (have : X → Bool) → untried ≡ false → reading ≡ held holds x
    → is_some (if untried then Some none else if test then (reading >>= (λ l. if have l then Some l else None)) else None) ≡ true
    → (if untried then Some none else if test then (reading >>= (λ l. if have l then Some l else None)) else None) ≡ Some x
read_some true test holds none x reading have tried e some = cc
read_some false false holds none x reading have tried e some = cc
read_some false true false none x reading have tried e some = (let never : false ≡ true = rw e at some in cc)
read_some false true true none x reading have tried e some = rw e (if_some (have x) x (rw e at some))
  where
    if_some : {X : Type 0} (b : Bool) (x : X) → is_some (if b then Some x else None) ≡ true → (if b then Some x else None) ≡ Some x
    if_some true x e = refl
    if_some false x e = cc

lists_known : (file : List ℕ) (at : ℕ) (b : Body) → BodySaid file at b → is_some (code_lists file at) ≡ true → 0 < length b.ranges
    → code_lists file at ≡ Some (read_lists (first_list b at) b.lists)
lists_known file at b says some lt =
    let head : CodeHead = head_of b in
    let is = lists_with file at head says.head in
    let lists : List HandlerList = read_lists (first_list b at) b.lists in
    let tried : (length b.ranges == 0) ≡ false = grind (arith, nat_tests) in
    is ∙ read_some (length b.ranges == 0) (ranges_hold file at head) (list_all (handlers_hold file (length b.units)) lists) [] lists
    (handler_lists file (length b.units) (lists_at at head)) (ranges_have_lists file at head) tried (says.lists lt)
    (ap is_some (sym is) ∙ some)

the_some : {X : Type 0} (o : Option X) → is_some o ≡ true → (x : X) × (o ≡ Some x)
the_some None e = absurd (false≢true e)
the_some (Some x) e = (x, refl)

-- what numbers give by lists, and what elements give
flat_numbered : {A B X : Type 0} (h : A → B) (f : ℕ → List A) (g : X → List B) (xs : List X) (i : ℕ)
    → ((k : ℕ) (x : X) → slice_get xs k ≡ Some x → map h (f (i + k)) ≡ g x) → map h (flat_map f (tabulation (λ k. k) i (length xs))) ≡ flat_map g xs
flat_numbered h f g [] i each = refl
flat_numbered h f g (x ∷ xs) i each =
    let first : map h (f i) ≡ g x = subst (λ (j : ℕ). map h (f j) ≡ g x) (add-zero i) (each 0 x refl) in
    let rest = flat_numbered h f g xs (i + 1) (λ k y is. (let place : i + suc k ≡ i + 1 + k = omega arith in subst (λ (j : ℕ). map h (f j) ≡ g y) place (each (suc k) y is))) in
    map-append h (f i) (flat_map f (tabulation (λ k. k) (i + 1) (length xs))) ∙ rw (first, rest) refl

-- the parts of a code
same_code : (a b c d : ℕ) (lines : List LineContent) (catches : List CatchContent) (code : CodeContent)
    → a ≡ code.regs → b ≡ code.ins → c ≡ code.outs → d ≡ code.units → lines ≡ code.lines → catches ≡ code.catches
    → record { regs = a; ins = b; outs = c; units = d; lines = lines; catches = catches } ≡ code
same_code a b c d lines catches code ea eb ec ed el eh = rw (ea, eb, ec, ed, el, eh) refl

module _ (t : Tables) (n : Named) (text : NameNo → List ℕ) (s : Speaks t n text) where
  -- the handlers of a list
  typed_are : (r : Range) (place : ℕ) (hs : List Catch) → All (λ (h : Catch). IsType t h.ty) hs
      → map (catch_content text) (map (typed_catch n (record { from = r.from; size = r.size; handlers = place })) (map read_handler hs)) ≡ map (typed_said t r) hs
  typed_are r place [] all = refl
  typed_are r place (h ∷ hs) all =
      rw (type_text t n text s h.ty (all_first (λ (h : Catch). IsType t h.ty) h hs all), typed_are r place hs (all_rest (λ (h : Catch). IsType t h.ty) h hs all)) refl

  last_is : (r : Range) (place : ℕ) (last : Option ℕ)
      → map (catch_content text) (last_catch (record { from = r.from; size = r.size; handlers = place }) last) ≡ last_said r last
  last_is r place None = refl
  last_is r place (Some to) = refl

  list_is : (r : Range) (place : ℕ) (l : Catches) → All (λ (h : Catch). IsType t h.ty) l.typed
      → map (catch_content text) (entries n (record { from = r.from; size = r.size; handlers = place }) l) ≡ list_said t r l
  list_is r place l all =
      let range : TryRange = record { from = r.from; size = r.size; handlers = place } in
      map-append (catch_content text) (map (typed_catch n range) (map read_handler l.typed)) (last_catch range l.last)
      ∙ rw (typed_are r place l.typed all, last_is r place l.last) refl

  -- the handlers of a range
  range_is : (at : ℕ) (b : Body) → BodySaid n.file at b → BodyFits b → BodyCloses t b → (k : ℕ) (r : Range) → slice_get b.ranges k ≡ Some r
      → map (catch_content text) (catches_at n at (head_of b) (read_lists (first_list b at) b.lists) k) ≡ range_said t b.lists r
  unfolding list_places
  range_is at b says fits closes k r is =
      let place : ℕ = list_place b.lists r.list in
      let there : r.list < length b.lists = (all_got (RangeFits b.lists) b.ranges k r fits.ranges is).list in
      let range : TryRange = record { from = r.from; size = r.size; handlers = place } in
      let found = found_list n range (first_list b at) (lists_at at (head_of b)) (length (uleb_bytes (length b.lists))) b.lists r.list refl there in
      let all : All (λ (h : Catch). IsType t h.ty) (get_or b.lists r.list no_catches).typed = closes.lists r.list no_catches there in
      let lists : List HandlerList = read_lists (first_list b at) b.lists in
      ap (λ (x : TryRange). map (catch_content text) (range_catches n x lists (lists_at at (head_of b) + x.handlers))) (says.ranges k r is)
      ∙ ap (map (catch_content text)) found
      ∙ list_is r place (get_or b.lists r.list no_catches) all

  -- all handlers of a code
  catches_are : (at : ℕ) (b : Body) → BodySaid n.file at b → BodyFits b → BodyCloses t b → (lists : List HandlerList)
      → (0 < length b.ranges → lists ≡ read_lists (first_list b at) b.lists)
      → map (catch_content text) (catches_of n at (head_of b) (Some lists)) ≡ flat_map (range_said t b.lists) b.ranges
  catches_are at b says fits closes lists read =
      flat_numbered (catch_content text) (catches_at n at (head_of b) lists) (range_said t b.lists) b.ranges 0 (λ k r is.
      (let some : 0 < length b.ranges = omega (arith, slice_get_within b.ranges k r is) in
      let first : 0 + k ≡ k = omega arith in
      ap (λ (j : ℕ). map (catch_content text) (catches_at n at (head_of b) lists j)) first
      ∙ ap (λ (ls : List HandlerList). map (catch_content text) (catches_at n at (head_of b) ls k)) (read some)
      ∙ range_is at b says fits closes k r is))

  -- a code
  code_is : (at : ℕ) (b : Body) → BodySaid n.file at b → BodyFits b → BodyCloses t b → is_some (code_lists n.file at) ≡ true
      → code_content text (code_at n at) ≡ code_said t b
  unfolding code_at code_said lines_said
  code_is at b says fits closes some =
      let known = the_some (code_lists n.file at) some in
      let lists : List HandlerList = known.0 in
      let read : 0 < length b.ranges → lists ≡ read_lists (first_list b at) b.lists =
      λ lt. same_Some lists (read_lists (first_list b at) b.lists) (sym known.1 ∙ lists_known n.file at b says some lt) in
      let lines = lines_are t n text s (walk b.units).pieces closes.insns in
      same_code _ _ _ _ _ _ (code_said t b)
      (ap (λ (h : CodeHead). h.registers) says.head) (ap (λ (h : CodeHead). h.ins) says.head) (ap (λ (h : CodeHead). h.outs) says.head)
      (ap (λ (h : CodeHead). h.units) says.head)
      (ap (λ (units : List ℕ). map (line_content text) (lines_of n (walk units).pieces)) says.units ∙ lines)
      (ap (λ (h : CodeHead). map (catch_content text) (catches_of n at h (code_lists n.file at))) says.head
      ∙ ap (λ (o : Option (List HandlerList)). map (catch_content text) (catches_of n at (head_of b) o)) known.1
      ∙ catches_are at b says fits closes lists read)

  -- the code of a method, where it has one
  pub code_of_is : (at : ℕ) (code : Option Body) → CodeSaid n.file at code → IfSome code BodyFits → IfSome code (BodyCloses t)
      → (0 < at → is_some (code_lists n.file at) ≡ true) → option_map (code_content text) (code_of n at) ≡ option_map (code_said t) code
  code_of_is at None says fits closes some = rw says refl
  code_of_is at (Some b) says fits closes some =
      let behind : 0 < at = says.behind in
      let no : (at == 0) ≡ false = grind (arith, nat_tests) in
      rw (no, code_is at b says fits closes (some behind)) refl
