-- Static values that stand in a file are read again.
use Rattle.std.proofs.Common.{◌≡◌, ℕ, ◌+◌, ◌*◌, ◌/◌, ◌%◌, ◌^◌, ◌<◌, List, [], ◌∷◌, length, map, Some, refl, arith}
use Rattle.std.specs.Prelude.{All}
use Rattle.std.specs.List.{flat_map}
use Rattle.std.proofs.lemmas.List.Elements.{All-head, All-tail}
use Rattle.byteorder.specs.Endian.{little_bytes}
use Rattle.pi_bytes.specs.Leb.{uleb_at}
use Rattle.pi_bytes.specs.Reading.{number_at}
use Rattle.pi_format.specs.Rules.Rows.{MemberRow}
use Rattle.pi_format.specs.Rules.Values.{value_bytes, encoded_value, value_fits, field_type, values_from, values_at}
use Rattle.pi_parts.specs.Lebs.{uleb_bytes}
use Rattle.pi_parts.proofs.Stands.{Stands, stands_left, stands_right}
use Rattle.pi_parts.proofs.ReadBack.{place, uleb_reads, number_reads}
use Rattle.pi_dextables.specs.declared.tables.Value.{Value}
use Rattle.pi_dextables.specs.Items.{encoded_bytes, array_item, read_value}
use Rattle.pi_dextables.specs.Said.{held, values_fit}
use Rattle.pi_dextables.specs.Writable.{ValueFits}
use Rattle.pi_dextables.proofs.Readers.{ReadsSome, held_map, held_if}

head_kind : (kind arg : ℕ) → kind < 32 → (arg * 32 + kind) % 32 ≡ kind
head_kind kind arg lt = omega arith

head_arg : (kind arg : ℕ) → kind < 32 → (arg * 32 + kind) / 32 ≡ arg
head_arg kind arg lt = omega arith

value_reads : (v : Value) → ValueFits v → ReadsSome encoded_value (encoded_bytes v) (read_value v)
unfolding encoded_value encoded_bytes
value_reads v fit file at s =
    let x : ℕ = v.arg * 32 + v.kind in
    let n : ℕ = value_bytes v.kind v.arg in
    let b : List ℕ = little_bytes n v.number in
    let low : x < 256 = omega (arith, fit.kind, fit.arg) in
    let same : x % 256 ≡ x = omega arith in
    let s1 : Stands file at (little_bytes 1 x) = rw same (stands_left file (x ∷ []) b at s) in
    let r1 : number_at 1 (place file at) ≡ _ = number_reads 1 x low file at s1 in
    let s2 : Stands file (at + 1) b = stands_right file (x ∷ []) b at (at + 1) refl s in
    let r2 : number_at n (place file (at + 1)) ≡ _ = number_reads n v.number fit.number file (at + 1) s2 in
    let long : at + 1 + length b ≡ at + length (x ∷ b) = omega arith in
    rw (r1, head_kind v.kind v.arg fit.kind, head_arg v.kind v.arg fit.kind, r2, long) refl

from_read : (file : List ℕ) (values : List Value) (fields : List MemberRow) (at : ℕ) → All ValueFits values → Stands file at (flat_map encoded_bytes values)
    → values_from file fields (length values) (place file at) ≡ held (values_fit file fields (map read_value values)) (map read_value values)
from_read file [] fields at fit s = refl
from_read file (v ∷ vs) [] at fit s = refl
from_read file (v ∷ vs) (field ∷ fields) at fit s =
    let a : List ℕ = encoded_bytes v in
    let b : List ℕ = flat_map encoded_bytes vs in
    let next : ℕ = at + length a in
    let one : encoded_value (place file at) ≡ Some (read_value v, place file next) =
    value_reads v (All-head ValueFits v vs fit) file at (stands_left file a b at s) in
    let two : values_from file fields (length vs) (place file next) ≡ held (values_fit file fields (map read_value vs)) (map read_value vs) =
    from_read file vs fields next (All-tail ValueFits v vs fit) (stands_right file a b at next refl s) in
    rw one (held_if (value_fits file (field_type file field.id) (read_value v)) (values_fit file fields (map read_value vs)) (map read_value (v ∷ vs)) _
    (held_map (values_fit file fields (map read_value vs)) (map read_value vs) (values_from file fields (length vs) (place file next)) (λ others. read_value v ∷ others) two))

pub values_read : (file : List ℕ) (fields : List MemberRow) (at : ℕ) (values : List Value) → All ValueFits values → length values < 2 ^ 32 → Stands file at (array_item values)
    → values_at file fields (place file at) ≡ held (values_fit file fields (map read_value values)) (map read_value values)
unfolding values_at array_item
values_read file fields at values fit few s =
    let a : List ℕ = uleb_bytes (length values) in
    let b : List ℕ = flat_map encoded_bytes values in
    let one : uleb_at (place file at) ≡ _ = uleb_reads (length values) few file at (stands_left file a b at s) in
    rw one (from_read file values fields (at + length a) fit (stands_right file a b at (at + length a) refl s))
