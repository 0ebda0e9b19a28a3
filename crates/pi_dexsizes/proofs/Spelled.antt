-- Whether a file can say a class does not depend on the texts of its names.
use Rattle.std.proofs.Common.{◌≡◌, ℕ, List, [], ◌∷◌, map, Option, Some, None, refl}
use Rattle.std.specs.Prelude.{◌&&◌, ◌||◌, not, IfSome, option_map}
use Rattle.std.specs.List.{All, list_all}
use Rattle.std.proofs.lemmas.List.Elements.{All-nil, All-cons, All-head, All-tail}
use Rattle.pi_model.specs.declared.describe.ClassDesc.{ClassDesc}
use Rattle.pi_model.specs.declared.describe.Code.{Code}
use Rattle.pi_model.specs.declared.describe.FieldDesc.{FieldDesc}
use Rattle.pi_model.specs.declared.describe.Init.{Init}
use Rattle.pi_model.specs.declared.describe.Init.TheVariants.{Zero, Word, Long, Str, Cls}
use Rattle.pi_model.specs.declared.describe.MethodDesc.{MethodDesc}
use Rattle.pi_model.specs.declared.numbers.NameNo.{NameNo}
use Rattle.pi_model.specs.Flags.{is_static}
use Rattle.pi_contents.specs.Asked.{has_init}
use Rattle.pi_contents.specs.Named.{code_content, init_content, field_content, method_content, class_content}
use Rattle.pi_classtables.specs.Whole.{methods_with}
use Rattle.pi_classtables.specs.Spelled.{init_spelled, field_spelled, IsLaid, MethodSpelled, IsSpelled}
use Rattle.pi_dexsizes.proofs.Layouts.{laid_again}

-- fields
same_init : (one other : NameNo → List ℕ) (flags : ℕ) (i : Init)
    → (init_spelled (init_content one i) && (is_static flags || not (has_init (init_content one i))))
    ≡ (init_spelled (init_content other i) && (is_static flags || not (has_init (init_content other i))))
same_init one other flags Zero = refl
same_init one other flags (Word w) = refl
same_init one other flags (Long l) = refl
same_init one other flags (Str s) = refl
same_init one other flags (Cls t) = refl

same_fields : (one other : NameNo → List ℕ) (fs : List FieldDesc)
    → list_all field_spelled (map (field_content one) fs) ≡ list_all field_spelled (map (field_content other) fs)
same_fields one other [] = refl
same_fields one other (f ∷ fs) = rw (same_init one other f.flags f.init, same_fields one other fs) refl

-- methods
code_again : (one other : NameNo → List ℕ) (listed : List ℕ) (o : Option Code)
    → IfSome (option_map (code_content one) o) (IsLaid listed) → IfSome (option_map (code_content other) o) (IsLaid listed)
code_again one other listed None h = tt
code_again one other listed (Some c) h = laid_again one other listed c h

methods_again : (one other : NameNo → List ℕ) (ms : List MethodDesc) (sparse : List (List ℕ))
    → All MethodSpelled (methods_with (map (method_content one) ms) sparse) → All MethodSpelled (methods_with (map (method_content other) ms) sparse)
methods_again one other [] sparse h = All-nil MethodSpelled
methods_again one other (m ∷ ms) [] h =
    All-cons MethodSpelled (record { content = method_content other m; sparse = [] }) (methods_with (map (method_content other) ms) [])
    (code_again one other [] m.code (All-head MethodSpelled (record { content = method_content one m; sparse = [] }) (methods_with (map (method_content one) ms) []) h))
    (methods_again one other ms [] (All-tail MethodSpelled (record { content = method_content one m; sparse = [] }) (methods_with (map (method_content one) ms) []) h))
methods_again one other (m ∷ ms) (s ∷ ss) h =
    All-cons MethodSpelled (record { content = method_content other m; sparse = s }) (methods_with (map (method_content other) ms) ss)
    (code_again one other s m.code (All-head MethodSpelled (record { content = method_content one m; sparse = s }) (methods_with (map (method_content one) ms) ss) h))
    (methods_again one other ms ss (All-tail MethodSpelled (record { content = method_content one m; sparse = s }) (methods_with (map (method_content one) ms) ss) h))

pub spelled_again : (one other : NameNo → List ℕ) (d : ClassDesc) (sparse : List (List ℕ))
    → IsSpelled (record { class = class_content one d; sparse = sparse }) → IsSpelled (record { class = class_content other d; sparse = sparse })
spelled_again one other d sparse h = record {
  fields = rw (same_fields other one d.fields) h.fields;
  codes = methods_again one other d.methods sparse h.codes;
}
