-- Where the tables begin, as it was worked out; and what is too long already.
use Rattle.std.specs.Prelude.{IfNone}
use Rattle.std.proofs.Common.{◌≡◌, ℕ, ◌+◌, ◌*◌, ◌<◌, ◌≤◌, length, Option, Some, None, sym, ap, subst, ◌∙◌, arith}
use Rattle.pi_bytes.specs.Numbers.{most_bytes}
use Rattle.pi_dextables.specs.declared.tables.Tables.{Tables}
use Rattle.pi_dextables.specs.Image.{types_begin, protos_begin, fields_begin, methods_begin, classes_begin, map_begin, file_end, image}
use Rattle.pi_dextables.proofs.Steps.{steps}
use Rattle.pi_dextables.proofs.Whole.{length_image}
use Rattle.pi_dextables.specs.Writable.{IsShort}

pub at_types : (t : Tables) (n end : ℕ) → n ≡ length t.strings → end ≡ 112 + 4 * n → end ≡ types_begin t
at_types t n end e h = h ∙ ap (λ k. 112 + 4 * k) e ∙ sym ((steps t).types)

pub at_protos : (t : Tables) (begin n end : ℕ) → begin ≡ types_begin t → n ≡ length t.types → end ≡ begin + 4 * n → end ≡ protos_begin t
at_protos t begin n end b e h = h ∙ ap (λ k. begin + 4 * k) e ∙ ap (λ k. k + 4 * length t.types) b ∙ sym ((steps t).protos)

pub at_fields : (t : Tables) (begin n end : ℕ) → begin ≡ protos_begin t → n ≡ length t.protos → end ≡ begin + 12 * n → end ≡ fields_begin t
at_fields t begin n end b e h = h ∙ ap (λ k. begin + 12 * k) e ∙ ap (λ k. k + 12 * length t.protos) b ∙ sym ((steps t).fields)

pub at_methods : (t : Tables) (begin n end : ℕ) → begin ≡ fields_begin t → n ≡ length t.fields → end ≡ begin + 8 * n → end ≡ methods_begin t
at_methods t begin n end b e h = h ∙ ap (λ k. begin + 8 * k) e ∙ ap (λ k. k + 8 * length t.fields) b ∙ sym ((steps t).methods)

pub at_classes : (t : Tables) (begin n end : ℕ) → begin ≡ methods_begin t → n ≡ length t.methods → end ≡ begin + 8 * n → end ≡ classes_begin t
at_classes t begin n end b e h = h ∙ ap (λ k. begin + 8 * k) e ∙ ap (λ k. k + 8 * length t.methods) b ∙ sym ((steps t).classes)

pub at_map : (t : Tables) (begin n end : ℕ) → begin ≡ classes_begin t → n ≡ length t.classes → end ≡ begin + 32 * n → end ≡ map_begin t
at_map t begin n end b e h = h ∙ ap (λ k. begin + 32 * k) e ∙ ap (λ k. k + 32 * length t.classes) b ∙ sym ((steps t).map)

-- what is behind the end of a part is behind the most bytes, where that end is
pub beyond : (n begin end most : ℕ) → n ≡ begin → begin ≤ end → most < n → most < end
beyond n begin end most e le lt = omega arith

pub any_none : {A : Type 0} (o : Option A) (P : Type 0) → P → IfNone o P
any_none None P p = p
any_none (Some x) P p = tt

-- the file is as long as its end says
pub too_long : (t : Tables) → most_bytes < file_end t → most_bytes < length (image t)
too_long t lt = subst (λ (n : ℕ). most_bytes < n) (sym (length_image t)) lt

pub is_short : (t : Tables) → file_end t ≤ most_bytes → IsShort t
is_short t le = subst (λ (n : ℕ). n ≤ most_bytes) (sym (length_image t)) le
