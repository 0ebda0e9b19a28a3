-- Code items, as they are read from their bytes.
use Rattle.std.proofs.Common.{◌≡◌, ℕ, ◌+◌, ◌*◌, ◌%◌, ◌<◌, ◌≤◌, ◌^◌, true, false, List, [], ◌∷◌, ◌++◌, length, Option, Some, None, refl, sym, ap, subst, length-append, arith}
use Rattle.std.specs.Prelude.{◌==◌, All, slice_get}
use Rattle.std.specs.List.{flat_map, list_all}
use Rattle.std.proofs.lemmas.List.Elements.{All-cons, All-nil}
use Rattle.std.proofs.lemmas.Option.{slice_get_within}
use Rattle.std.proofs.lemmas.Bool.Decides.{nat_tests}
use Rattle.byteorder.specs.Endian.{little_bytes}
use Rattle.pi_bytes.specs.Numbers.{half_at, word_at, in_file, most_bytes}
use Rattle.pi_format.specs.Rules.CodeItems.{CodeHead, code_head, code_lies, tries_at, lists_at, try_range, handler_lists}
use Rattle.pi_parts.specs.Lebs.{uleb_bytes}
use Rattle.pi_parts.specs.Parts.{halves, words, zeros}
use Rattle.pi_parts.proofs.Stands.{Stands, stands_left, stands_right, stands_within, word_stands, half_stands, nth_stands, length_table, words_read, halves_read, length_words, length_halves, length_zeros}
use Rattle.pi_parts.proofs.ReadBack.{few_uleb, few_sleb, few_negative}
use Rattle.pi_dextables.specs.declared.tables.Body.{Body}
use Rattle.pi_dextables.specs.declared.tables.Catch.{Catch}
use Rattle.pi_dextables.specs.declared.tables.Catches.{Catches}
use Rattle.pi_dextables.specs.declared.tables.Range.{Range}
use Rattle.pi_dextables.specs.Codes.{catch_bytes, size_bytes, catches_bytes, lists_bytes, list_places, list_place, range_bytes, tries_bytes, code_item, read_lists}
use Rattle.pi_dextables.specs.Writable.{IsHalf, RangeFits, BodyFits}
use Rattle.pi_dextables.specs.Said.{held, handlers_hold, head_of, first_list, BodySaid}
use Rattle.pi_dextables.proofs.Each.{all_got}
use Rattle.pi_dextables.proofs.Counts.{many_always}
use Rattle.pi_dextables.proofs.HandlerLists.{lists_read}

-- the places of the lists of a code fit
abbrev pub ListsFit : Body → Type 0
ListsFit b = All (λ r. IsHalf (list_place b.lists r.list)) b.ranges

-- a number of 16 bits among others
half_read : (file xs : List ℕ) (at i x : ℕ) → Stands file at (halves xs) → slice_get xs i ≡ Some x → x < 2 ^ 16 → half_at file (at + 2 * i) ≡ x
half_read file xs at i x h g lt = half_stands file (at + 2 * i) x (nth_stands file (little_bytes 2) 2 (λ y. refl) xs at i x h g) lt

-- what stands where in a code item
record Parts (file : List ℕ) (at : ℕ) (b : Body) : Type 0 where
  head : Stands file at (halves (b.registers ∷ b.ins ∷ b.outs ∷ length b.ranges ∷ []))
  sizes : Stands file (at + 8) (words (0 ∷ length b.units ∷ []))
  units : Stands file (at + 16) (halves b.units)
  tries : Stands file (at + 16 + 2 * length b.units) (tries_bytes b)

item_long : (a b c d : List ℕ) (n : ℕ) → length a ≡ 8 → length b ≡ 8 → length c ≡ 2 * n → length (a ++ (b ++ (c ++ d))) ≡ 16 + 2 * n + length d
item_long a b c d n ea eb ec = simp length-append (omega (arith, ea, eb, ec))

length_item : (b : Body) → length (code_item b) ≡ 16 + 2 * length b.units + length (tries_bytes b)
unfolding code_item
length_item b = item_long (halves (b.registers ∷ b.ins ∷ b.outs ∷ length b.ranges ∷ [])) (words (0 ∷ length b.units ∷ [])) (halves b.units) (tries_bytes b) (length b.units)
    (length_halves (b.registers ∷ b.ins ∷ b.outs ∷ length b.ranges ∷ [])) (length_words (0 ∷ length b.units ∷ [])) (length_halves b.units)

parts : (file : List ℕ) (at : ℕ) (b : Body) → Stands file at (code_item b) → Parts file at b
unfolding code_item
parts file at b h =
    let head = halves (b.registers ∷ b.ins ∷ b.outs ∷ length b.ranges ∷ []) in
    let sizes = words (0 ∷ length b.units ∷ []) in
    let rest = halves b.units ++ tries_bytes b in
    let h2 = stands_right file head (sizes ++ rest) at (at + 8) (ap (λ n. at + n) (sym (length_halves (b.registers ∷ b.ins ∷ b.outs ∷ length b.ranges ∷ [])))) h in
    let e3 : at + 16 ≡ at + 8 + length sizes = (let n = length_words (0 ∷ length b.units ∷ []) in omega (arith, n)) in
    let h3 = stands_right file sizes rest (at + 8) (at + 16) e3 h2 in
    record {
      head = stands_left file head (sizes ++ rest) at h;
      sizes = stands_left file sizes rest (at + 8) h2;
      units = stands_left file (halves b.units) (tries_bytes b) (at + 16) h3;
      tries = stands_right file (halves b.units) (tries_bytes b) (at + 16) (at + 16 + 2 * length b.units) (ap (λ n. at + 16 + n) (sym (length_halves b.units))) h3;
    }

within : (file : List ℕ) (at : ℕ) (b : Body) → Stands file at (code_item b) → at + 16 + 2 * length b.units + length (tries_bytes b) ≤ length file
within file at b h =
    let n = length_item b in
    let w = stands_within file (code_item b) at (omega arith) h in
    omega arith

-- the head
head_reads : (file : List ℕ) (at : ℕ) (b : Body) → BodyFits b → length b.units < 2 ^ 32 → Parts file at b → code_head file at ≡ head_of b
head_reads file at b fits few p =
    let xs = b.registers ∷ b.ins ∷ b.outs ∷ length b.ranges ∷ [] in
    let registers : half_at file at ≡ b.registers = (let e : at + 2 * 0 ≡ at = omega arith in rw e at (half_read file xs at 0 b.registers p.head refl fits.registers)) in
    let ins : half_at file (at + 2) ≡ b.ins = half_read file xs at 1 b.ins p.head refl fits.ins in
    let outs : half_at file (at + 4) ≡ b.outs = half_read file xs at 2 b.outs p.head refl fits.outs in
    let tries : half_at file (at + 6) ≡ length b.ranges = half_read file xs at 3 (length b.ranges) p.head refl fits.tries in
    let units : word_at file (at + 12) ≡ length b.units = (let e : at + 8 + 4 * 1 ≡ at + 12 = omega arith in rw e at (words_read file (0 ∷ length b.units ∷ []) (at + 8) 1 (length b.units) p.sizes refl few)) in
    rw (registers, ins, outs, tries, units)

-- the ranges and the lists, where there are ranges
record Handlers (file : List ℕ) (at : ℕ) (b : Body) : Type 0 where
  ranges : Stands file (tries_at at (head_of b)) (flat_map (range_bytes (list_places b.lists)) b.ranges)
  lists : Stands file (lists_at at (head_of b)) (lists_bytes b.lists)
  within : lists_at at (head_of b) + length (lists_bytes b.lists) ≤ length file

some_tries : (b : Body) → 0 < length b.ranges
    → tries_bytes b ≡ zeros (2 * (length b.units % 2)) ++ (flat_map (range_bytes (list_places b.lists)) b.ranges ++ lists_bytes b.lists)
some_tries b some = (let no : (length b.ranges == 0) ≡ false = grind (arith, nat_tests) in rw no refl)

length_range : (places : List ℕ) (r : Range) → length (range_bytes places r) ≡ 8
unfolding range_bytes
length_range places r = refl

handlers : (file : List ℕ) (at : ℕ) (b : Body) → 0 < length b.ranges → Stands file at (code_item b) → Handlers file at b
handlers file at b some h =
    let n = length b.units in
    let pad = zeros (2 * (n % 2)) in
    let ranges = flat_map (range_bytes (list_places b.lists)) b.ranges in
    let lists = lists_bytes b.lists in
    let is = some_tries b some in
    let p = parts file at b h in
    let s : Stands file (at + 16 + 2 * n) (pad ++ (ranges ++ lists)) = subst (λ part. Stands file (at + 16 + 2 * n) part) is p.tries in
    let lp : length pad ≡ 2 * (n % 2) = length_zeros (2 * (n % 2)) in
    let lr : length ranges ≡ 8 * length b.ranges = length_table (range_bytes (list_places b.lists)) 8 (length_range (list_places b.lists)) b.ranges in
    let e1 : tries_at at (head_of b) ≡ at + 16 + 2 * n + length pad = omega (arith, lp) in
    let e2 : lists_at at (head_of b) ≡ tries_at at (head_of b) + length ranges = omega (arith, lr) in
    let s2 = stands_right file pad (ranges ++ lists) (at + 16 + 2 * n) (tries_at at (head_of b)) e1 s in
    let w = within file at b h in
    let all = simp length-append at (ap length is) in
    record {
      ranges = stands_left file ranges lists (tries_at at (head_of b)) s2;
      lists = stands_right file ranges lists (tries_at at (head_of b)) (lists_at at (head_of b)) e2 s2;
      within = simp length-append (omega (arith, w, all, e1, e2));
    }

-- a range
range_reads : (file : List ℕ) (begin k : ℕ) (lists : List Catches) (ranges : List Range) (r : Range)
    → Stands file begin (flat_map (range_bytes (list_places lists)) ranges) → slice_get ranges k ≡ Some r → RangeFits lists r → IsHalf (list_place lists r.list)
    → try_range file begin k ≡ record { from = r.from; size = r.size; handlers = list_place lists r.list }
unfolding range_bytes
range_reads file begin k lists ranges r h is fits half =
    let at = begin + 8 * k in
    let s : Stands file at (range_bytes (list_places lists) r) = nth_stands file (range_bytes (list_places lists)) 8 (length_range (list_places lists)) ranges begin k r h is in
    let a = little_bytes 4 r.from in
    let b = little_bytes 2 r.size in
    let c = little_bytes 2 (list_place lists r.list) in
    let s2 : Stands file (at + 4) (b ++ c) = stands_right file a (b ++ c) at (at + 4) refl s in
    let s3 : Stands file (at + 6) c = stands_right file b c (at + 4) (at + 6) (omega arith) s2 in
    let from : word_at file (begin + 8 * k) ≡ r.from = word_stands file at r.from (stands_left file a (b ++ c) at s) fits.from in
    let size : half_at file (begin + 8 * k + 4) ≡ r.size = half_stands file (at + 4) r.size (stands_left file b c (at + 4) s2) fits.size in
    let handlers : half_at file (begin + 8 * k + 6) ≡ list_place lists r.list = half_stands file (at + 6) (list_place lists r.list) s3 half in
    rw (from, size, handlers)

-- each handler and each list has a byte
catch_some : (h : Catch) → 0 < length (catch_bytes h)
catch_some h = simp length-append (omega (arith, few_uleb h.ty))

typed_long : (hs : List Catch) → length hs ≤ length (flat_map catch_bytes hs)
typed_long hs = many_always catch_bytes catch_some hs

some_size : (n : ℕ) (last : Option ℕ) → 0 < length (size_bytes n last)
some_size n None = (few_sleb n).0
some_size n (Some to) = (few_negative n).0

catches_long : (l : Catches) → length l.typed < length (catches_bytes l)
unfolding catches_bytes
catches_long l = simp length-append (omega (arith, some_size (length l.typed) l.last, typed_long l.typed))

catches_some : (l : Catches) → 0 < length (catches_bytes l)
catches_some l = omega (arith, catches_long l)

lists_long : (lists : List Catches) → length lists ≤ length (flat_map catches_bytes lists)
lists_long lists = many_always catches_bytes catches_some lists

typed_few : (n : ℕ) (lists : List Catches) → length (flat_map catches_bytes lists) ≤ n → All (λ l. length l.typed < n) lists
typed_few n [] le = All-nil (λ (l : Catches). length l.typed < n)
typed_few n (l ∷ lists) le =
    let sum = length-append (catches_bytes l) (flat_map catches_bytes lists) in
    All-cons (λ (l : Catches). length l.typed < n) l lists (omega (arith, catches_long l, sum)) (typed_few n lists (omega (arith, sum)))

lists_there : (file : List ℕ) (at : ℕ) (b : Body) → BodyFits b → length file ≤ most_bytes → Handlers file at b
    → handler_lists file (length b.units) (lists_at at (head_of b))
    ≡ held (list_all (handlers_hold file (length b.units)) (read_lists (first_list b at) b.lists)) (read_lists (first_list b at) b.lists)
lists_there file at b fits few h =
    let sum = length-append (uleb_bytes (length b.lists)) (flat_map catches_bytes b.lists) in
    let w = h.within in
    lists_read file (length b.units) (lists_at at (head_of b)) b.lists fits.lists (omega (arith, lists_long b.lists, sum, w, few))
    (typed_few (2 ^ 27) b.lists (omega (arith, sum, w, few))) h.lists

lies_there : (file : List ℕ) (at n : ℕ) → at % 4 ≡ 0 → word_at file (at + 12) ≡ n → at + 16 + 2 * n ≤ length file → code_lies file at ≡ true
unfolding code_lies
lies_there file at n even units le = rw units (grind (arith, nat_tests))

within_there : (file : List ℕ) (at n : ℕ) → at + n ≤ length file → in_file file at n ≡ true
within_there file at n le = grind (arith, nat_tests)

range_there : (file : List ℕ) (at : ℕ) (b : Body) → Stands file at (code_item b) → BodyFits b → ListsFit b
    → (k : ℕ) (r : Range) → slice_get b.ranges k ≡ Some r
    → try_range file (tries_at at (head_of b)) k ≡ record { from = r.from; size = r.size; handlers = list_place b.lists r.list }
range_there file at b h fits places k r is =
    let lt = slice_get_within b.ranges k r is in
    let some : 0 < length b.ranges = omega (arith, lt) in
    let one : RangeFits b.lists r = all_got (RangeFits b.lists) b.ranges k r fits.ranges is in
    let two : IsHalf (list_place b.lists r.list) = all_got (λ (r : Range). IsHalf (list_place b.lists r.list)) b.ranges k r places is in
    range_reads file (tries_at at (head_of b)) k b.lists b.ranges r (handlers file at b some h).ranges is one two

-- a code item says its code
pub body_said : (file : List ℕ) (at : ℕ) (b : Body) → Stands file at (code_item b) → BodyFits b
    → ListsFit b → at % 4 ≡ 0 → 0 < at → length file ≤ most_bytes → BodySaid file at b
body_said file at b h fits places even behind few =
    let w = within file at b h in
    let p = parts file at b h in
    let small : length b.units < 2 ^ 32 = omega (arith, w, few) in
    let head = head_reads file at b fits small p in
    let units : word_at file (at + 12) ≡ length b.units = ap (λ (c : CodeHead). c.units) head in
    record {
      behind = behind;
      lies = lies_there file at (length b.units) even units (omega (arith, w));
      head = head;
      units = rw units (halves_read file b.units (at + 16) p.units fits.units);
      within = λ some. (let x = (handlers file at b some h).within in within_there file (tries_at at (head_of b)) (8 * length b.ranges) (omega (arith, x)));
      ranges = λ k r is. range_there file at b h fits places k r is;
      lists = λ some. lists_there file at b fits few (handlers file at b some h);
    }
