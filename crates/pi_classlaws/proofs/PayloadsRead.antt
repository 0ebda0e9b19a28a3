-- The payloads of switches and of arrays are read again, with whatever follows them.
use Rattle.std.proofs.Common.{◌≡◌, ℕ, ◌+◌, ◌*◌, nat_lt, List, ◌++◌, length, Some, true, false, refl, arith, append_assoc}
use Rattle.std.proofs.lemmas.Bool.{le-ltb}
use Rattle.std.proofs.lemmas.List.{length-append}
use Rattle.pi_model.specs.declared.insn.Case.{Case}
use Rattle.pi_insn.specs.Numbers.{signed_number}
use Rattle.pi_insn.specs.Payloads.{PackedData, SparseData, ArrayData, packed_data, sparse, array, is_width, units_for, payload}
use Rattle.pi_insn.proofs.Again.{word_again}
use Rattle.pi_classtables.specs.Forms.{distance_bits}
use Rattle.pi_classtables.specs.Layout.{word_units, key_units, target_units, first_key, item_units, packed_units, sparse_units, array_units}
use Rattle.pi_classlaws.proofs.Blocks.{front_again, behind_again, length-words}
use Rattle.pi_classlaws.proofs.ItemsRead.{length-items}

-- what is long enough is there
packed_there : (first n : ℕ) (targets rest : List ℕ) → length targets ≡ 2 * n
    → packed_data n ((word_units first ++ targets) ++ rest) ≡ Some (PackedData (signed_number 2147483648 first) targets)
packed_there first n targets rest e =
    let long : nat_lt (length ((word_units first ++ targets) ++ rest)) (2 + 2 * n) ≡ false =
    le-ltb _ _ (omega (arith, length-append targets rest)) in
    rw (long, word_again first, front_again targets rest (2 * n) e) refl

sparse_there : (n : ℕ) (keys targets rest : List ℕ) → length keys ≡ 2 * n → length targets ≡ 2 * n
    → sparse n ((keys ++ targets) ++ rest) ≡ Some (SparseData keys targets)
sparse_there n keys targets rest e f =
    let long : nat_lt (length (keys ++ (targets ++ rest))) (4 * n) ≡ false =
    le-ltb _ _ (omega (arith, length-append keys (targets ++ rest), length-append targets rest)) in
    rw (
      append_assoc keys targets rest,
      long,
      front_again keys (targets ++ rest) (2 * n) e,
      behind_again keys (targets ++ rest) (2 * n) e,
      front_again targets rest (2 * n) f,
    ) refl

array_there : (width n : ℕ) (items rest : List ℕ) → is_width width ≡ true → length items ≡ units_for (width * n)
    → array width ((word_units n ++ items) ++ rest) ≡ Some (ArrayData width n items)
array_there width n items rest e f =
    let some : nat_lt (length ((word_units n ++ items) ++ rest)) 2 ≡ false = le-ltb _ _ (omega arith) in
    let long : nat_lt (length ((word_units n ++ items) ++ rest)) (2 + units_for (width * n)) ≡ false =
    le-ltb _ _ (omega (arith, length-append items rest)) in
    rw (e, word_again n, some, long, front_again items rest (units_for (width * n)) f) refl

-- so each payload is read
pub packed_read : (at : ℕ) (cases : List Case) (rest : List ℕ)
    → payload (packed_units at cases ++ rest) ≡ Some (PackedData (signed_number 2147483648 (first_key cases)) (target_units at cases))
unfolding payload packed_units
packed_read at cases rest =
    packed_there (first_key cases) (length cases) (target_units at cases) rest (length-words (λ (c : Case). distance_bits at c.to) cases)

pub sparse_read : (at : ℕ) (cases : List Case) (rest : List ℕ)
    → payload (sparse_units at cases ++ rest) ≡ Some (SparseData (key_units cases) (target_units at cases))
unfolding payload sparse_units
sparse_read at cases rest =
    sparse_there (length cases) (key_units cases) (target_units at cases) rest
    (length-words (λ (c : Case). c.key) cases) (length-words (λ (c : Case). distance_bits at c.to) cases)

pub array_read : (width : ℕ) (items rest : List ℕ) → is_width width ≡ true
    → payload (array_units width items ++ rest) ≡ Some (ArrayData width (length items) (item_units width items))
unfolding payload array_units
array_read width items rest e = array_there width (length items) (item_units width items) rest e (length-items width e items)
