-- What a file says whose map spells given items, and that these pass the tests on maps.
use Rattle.std.proofs.Common.{◌≡◌, ℕ, zero, suc, ◌+◌, ◌*◌, ◌-◌, ◌^◌, ◌<◌, ◌≤◌, List, [], ◌∷◌, length, get_or, Some, Bool, true, false, refl, sym, ap, ◌∙◌, subst, arith}
use Rattle.std.specs.List.{flat_map}
use Rattle.std.specs.Prelude.{◌==◌, ◌&&◌, ◌||◌, not, nat_lt, nat_le, slice_get}
use Rattle.std.proofs.lemmas.Option.{slice_get-get_or, slice_get_within}
use Rattle.std.proofs.lemmas.Bool.Decides.{nat_tests}
use Rattle.byteorder.specs.Endian.{little_bytes}
use Rattle.pi_bytes.specs.Numbers.{half_at, word_at}
use Rattle.pi_format.specs.Tables.{count_at, table_at}
use Rattle.pi_format.specs.Rules.Entries.{some_from}
use Rattle.pi_format.specs.Rules.Map.{item_count, item_type, item_size, item_offset, item_rises, item_is_new, has_item, lacks_item, table_mapped, width_of_item, item_ends, items_hold}
use Rattle.pi_parts.specs.Parts.{halves, words}
use Rattle.pi_parts.proofs.Stands.{Stands, stands_left, stands_right, half_stands, words_read, nth_stands}
use Rattle.pi_dextables.specs.Image.{MapItem, map_item, item_bytes, standing, where_some}
use Rattle.pi_dextables.proofs.Each.{each_true, some_false, some_true}
use Rattle.pi_dextables.proofs.Whole.{length_item}
use Rattle.pi_dextables.proofs.MapItems.{Follows, StandsIn, stands_in, misses, misses_nth, apart, apart_nth, absent}

-- an item of the map as the file says it
pub record ItemFits (i : MapItem) : Type 0 where
  pub kind : i.kind < 2 ^ 16
  pub count : i.count < 2 ^ 32
  pub offset : i.offset < 2 ^ 32

record ItemReads (file : List ℕ) (at : ℕ) (i : MapItem) : Type 0 where
  kind : half_at file at ≡ i.kind
  count : word_at file (at + 4) ≡ i.count
  offset : word_at file (at + 8) ≡ i.offset

item_reads : (file : List ℕ) (at : ℕ) (i : MapItem) → Stands file at (item_bytes i) → ItemFits i → ItemReads file at i
unfolding item_bytes
item_reads file at i h fits =
    let a = halves (i.kind ∷ 0 ∷ []) in
    let b = words (i.count ∷ i.offset ∷ []) in
    let first : Stands file at a = stands_left file a b at h in
    let second : Stands file (at + 4) b = stands_right file a b at (at + 4) refl h in
    let here : at + 4 + 4 * 0 ≡ at + 4 = omega arith in
    let next : at + 4 + 4 * 1 ≡ at + 8 = omega arith in
    record {
      kind = half_stands file at i.kind (stands_left file (little_bytes 2 i.kind) (little_bytes 2 0) at first) fits.kind;
      count = subst (λ z. word_at file z ≡ i.count) here (words_read file (i.count ∷ i.offset ∷ []) (at + 4) 0 i.count second refl fits.count);
      offset = subst (λ z. word_at file z ≡ i.offset) next (words_read file (i.count ∷ i.offset ∷ []) (at + 4) 1 i.offset second refl fits.offset);
    }

pub record ItemSaid (file : List ℕ) (k : ℕ) (i : MapItem) : Type 0 where
  pub kind : item_type file k ≡ i.kind
  pub count : item_size file k ≡ i.count
  pub offset : item_offset file k ≡ i.offset

pub record Mapped (file : List ℕ) (items : List MapItem) : Type 0 where
  pub count : item_count file ≡ length items
  pub item : (k : ℕ) (i : MapItem) → slice_get items k ≡ Some i → ItemSaid file k i

pub item_said : (file : List ℕ) (items : List MapItem) (m k : ℕ) (i : MapItem) → word_at file 52 ≡ m
    → Stands file (m + 4) (flat_map item_bytes items) → slice_get items k ≡ Some i → ItemFits i → ItemSaid file k i
item_said file items m k i at rows is fits =
    let r : ItemReads file (m + 4 + 12 * k) i = item_reads file (m + 4 + 12 * k) i (nth_stands file item_bytes 12 length_item items (m + 4) k i rows is) fits in
    let p4 : m + 4 + 12 * k + 4 ≡ m + 8 + 12 * k = omega arith in
    let p8 : m + 4 + 12 * k + 8 ≡ m + 12 + 12 * k = omega arith in
    record {
      kind = ap (λ z. half_at file (z + 4 + 12 * k)) at ∙ r.kind;
      count = ap (λ z. word_at file (z + 8 + 12 * k)) at ∙ subst (λ z. word_at file z ≡ i.count) p4 r.count;
      offset = ap (λ z. word_at file (z + 12 + 12 * k)) at ∙ subst (λ z. word_at file z ≡ i.offset) p8 r.offset;
    }

-- an item of those that stand, by its place
abbrev nth : List MapItem → ℕ → MapItem
nth items k = get_or items k (map_item 0 0 0)

nth_is : (items : List MapItem) (k : ℕ) → k < length items → slice_get items k ≡ Some (nth items k)
nth_is items k lt = slice_get-get_or items k (map_item 0 0 0) lt

-- items rise
rises : (file : List ℕ) (items : List MapItem) → Mapped file items
    → ((k : ℕ) (a b : MapItem) → slice_get items k ≡ Some a → slice_get items (suc k) ≡ Some b → Follows a b)
    → (k : ℕ) → k < length items → item_rises file k ≡ true
rises file items mapped up zero lt = refl
rises file items mapped up (suc k) lt =
    let before : suc k - 1 ≡ k = omega arith in
    let a : slice_get items k ≡ Some (nth items k) = nth_is items k (omega (arith, lt)) in
    let b : slice_get items (suc k) ≡ Some (nth items (suc k)) = nth_is items (suc k) lt in
    let f : Follows (nth items k) (nth items (suc k)) = up k (nth items k) (nth items (suc k)) a b in
    let oa : item_offset file k ≡ (nth items k).offset = (mapped.item k (nth items k) a).offset in
    let ob : item_offset file (suc k) ≡ (nth items (suc k)).offset = (mapped.item (suc k) (nth items (suc k)) b).offset in
    let below : item_offset file k < item_offset file (suc k) = (let r = f.rises in omega (arith, r, oa, ob)) in
    risen (suc k) (item_offset file (suc k - 1)) (item_offset file (suc k)) (subst (λ (z : ℕ). item_offset file z < item_offset file (suc k)) (sym before) below)
  where
    risen : (k x y : ℕ) → x < y → ((k == 0) || nat_lt x y) ≡ true
    risen k x y lt = grind (arith, nat_tests)

-- each is of a type of its own
is_new : (file : List ℕ) (items : List MapItem) → Mapped file items → apart items ≡ true
    → (k : ℕ) → k < length items → item_is_new file k ≡ true
is_new file items mapped apart k lt =
    let none : some_from (λ j. item_type file j == item_type file k) 0 k ≡ false = some_false (λ j. item_type file j == item_type file k) k (λ j less.
    (let inside : j < length items = omega (arith, less, lt) in
    let a : slice_get items j ≡ Some (nth items j) = nth_is items j inside in
    let b : slice_get items k ≡ Some (nth items k) = nth_is items k lt in
    let ta : item_type file j ≡ (nth items j).kind = (mapped.item j (nth items j) a).kind in
    let tb : item_type file k ≡ (nth items k).kind = (mapped.item k (nth items k) b).kind in
    let other : ((nth items j).kind == (nth items k).kind) ≡ false = apart_nth items j k (nth items j) (nth items k) apart less a b in
    rw (ta, tb) other)) in
    ap not none

-- no table reaches into the next item
ended : (k n offset width size next : ℕ) → (k + 1 < n → offset + width * size ≤ next)
    → (not (nat_lt (k + 1) n) || nat_le (offset + width * size) next || (width == 0)) ≡ true
ended k n offset width size next h = grind (arith, nat_tests, h)

ends : (file : List ℕ) (items : List MapItem) → Mapped file items
    → ((k : ℕ) (a b : MapItem) → slice_get items k ≡ Some a → slice_get items (suc k) ≡ Some b → Follows a b)
    → (k : ℕ) → k < length items → item_ends file k ≡ true
ends file items mapped up k lt =
    ended k (item_count file) (item_offset file k) (width_of_item (item_type file k)) (item_size file k) (item_offset file (k + 1)) (λ more.
    (let count = mapped.count in
    let one : k + 1 ≡ suc k = omega arith in
    let inside : suc k < length items = omega (arith, more, count) in
    let a : slice_get items k ≡ Some (nth items k) = nth_is items k lt in
    let b : slice_get items (suc k) ≡ Some (nth items (suc k)) = nth_is items (suc k) inside in
    let f : Follows (nth items k) (nth items (suc k)) = up k (nth items k) (nth items (suc k)) a b in
    let sa : ItemSaid file k (nth items k) = mapped.item k (nth items k) a in
    let sb : ItemSaid file (suc k) (nth items (suc k)) = mapped.item (suc k) (nth items (suc k)) b in
    rw (one, sa.kind, sa.count, sa.offset, sb.offset) f.ends))

all_three : (a b c : Bool) → a ≡ true → b ≡ true → c ≡ true → (a && (b && c)) ≡ true
all_three a b c ea eb ec = rw (ea, eb, ec) refl

pub hold : (file : List ℕ) (items : List MapItem) → Mapped file items
    → ((k : ℕ) (a b : MapItem) → slice_get items k ≡ Some a → slice_get items (suc k) ≡ Some b → Follows a b)
    → apart items ≡ true → items_hold file ≡ true
hold file items mapped up apart =
    each_true (λ k. item_rises file k && (item_is_new file k && item_ends file k)) (item_count file) (λ k less.
    (let count = mapped.count in
    let lt : k < length items = omega (arith, less, count) in
    all_three (item_rises file k) (item_is_new file k) (item_ends file k) (rises file items mapped up k lt) (is_new file items mapped apart k lt) (ends file items mapped up k lt)))

-- an item is there, and none of a type is
pub has : (file : List ℕ) (items : List MapItem) (k : ℕ) (i : MapItem) → Mapped file items → slice_get items k ≡ Some i
    → has_item file i.kind i.count i.offset ≡ true
unfolding has_item
has file items k i mapped is =
    let said : ItemSaid file k i = mapped.item k i is in
    let inside = slice_get_within items k i is in
    let count = mapped.count in
    some_true (λ j. (item_type file j == i.kind) && ((item_size file j == i.count) && (item_offset file j == i.offset))) (item_count file) k
    (omega (arith, inside, count)) (rw (said.kind, said.count, said.offset) (itself i.kind i.count i.offset))
  where
    itself : (a b c : ℕ) → ((a == a) && ((b == b) && (c == c))) ≡ true
    itself a b c = grind (arith, nat_tests)

pub lacks : (file : List ℕ) (items : List MapItem) (kind : ℕ) → Mapped file items → misses kind items ≡ true → lacks_item file kind ≡ true
unfolding lacks_item
lacks file items kind mapped none =
    ap not (some_false (λ j. item_type file j == kind) (item_count file) (λ j less.
    (let count = mapped.count in
    let a : slice_get items j ≡ Some (nth items j) = nth_is items j (omega (arith, less, count)) in
    let ta : item_type file j ≡ (nth items j).kind = (mapped.item j (nth items j) a).kind in
    rw ta (misses_nth kind items j (nth items j) none a))))

-- a table is named exactly where it is not empty
pub table : (file : List ℕ) (items : List MapItem) (p kind n at place : ℕ) → Mapped file (standing items) → apart items ≡ true
    → slice_get items p ≡ Some (map_item kind n at) → count_at file place ≡ n → table_at file place ≡ where_some n at
    → table_mapped file kind place ≡ true
unfolding table_mapped
table file items p kind zero at place mapped apart is count offset =
    rw count (lacks file (standing items) kind mapped (absent items p (map_item kind 0 at) apart is refl))
table file items p kind (suc n) at place mapped apart is count offset =
    let there : StandsIn items (map_item kind (suc n) at) = stands_in items p (map_item kind (suc n) at) is (omega arith) in
    let holds : has_item file kind (suc n) at ≡ true = has file (standing items) there.place (map_item kind (suc n) at) mapped there.is in
    let some : (suc n == 0) ≡ false = grind (arith, nat_tests) in
    rw (count, offset, some) holds
