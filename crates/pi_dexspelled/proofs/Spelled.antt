-- The test of a class tells whether a file can say it.
use Rattle.std.proofs.Common.{◌≡◌, ℕ, ◌+◌, ◌<◌, length, get_or, drop, map, add-one, drop-cons, List, [], ◌∷◌, true, refl}
use Rattle.std.specs.Prelude.{◌&&◌, Option, Some, None, IfSome}
use Rattle.std.specs.List.{All, list_all}
use Rattle.std.proofs.lemmas.Bool.{and_from}
use Rattle.std.proofs.lemmas.List.Folds.{list_all-map}
use Rattle.pi_model.specs.declared.describe.FieldDesc.{FieldDesc}
use Rattle.pi_model.specs.declared.describe.MethodDesc.{MethodDesc}
use Rattle.pi_contents.specs.Named.{field_content, method_content}
use Rattle.pi_dexdata.specs.Numbers.{no_text}
use Rattle.std.proofs.lemmas.List.Elements.{All-nil, All-cons, All-head, All-tail}
use Rattle.pi_format.proofs.Held.{both}
use Rattle.pi_contents.specs.Contents.{CodeContent, MethodContent}
use Rattle.pi_classtables.specs.Spelled.{field_spelled, IsLaid, IsSpelled, MethodSpelled}
use Rattle.pi_classtables.specs.Whole.{Added, Method, added_methods, methods_with}
use Rattle.pi_dexspelled.specs.Tests.{optional_laid, method_laid, class_spelled, first_list, lists_behind}
use Rattle.pi_dexspelled.proofs.Laid.{laid_is, is_laid_of}

code_is : (listed : List ℕ) (code : Option CodeContent) → optional_laid listed code ≡ true → IfSome code (IsLaid listed)
code_is listed None e = tt
code_is listed (Some c) e = laid_is listed c e

is_code : (listed : List ℕ) (code : Option CodeContent) → IfSome code (IsLaid listed) → optional_laid listed code ≡ true
is_code listed None laid = refl
is_code listed (Some c) laid = is_laid_of listed c laid

methods_are : (ms : List Method) → list_all method_laid ms ≡ true → All MethodSpelled ms
methods_are [] e = All-nil MethodSpelled
methods_are (m ∷ ms) e =
    let (here, behind) = both (method_laid m) (list_all method_laid ms) e in
    All-cons MethodSpelled m ms (code_is m.sparse m.content.code here) (methods_are ms behind)

are_methods : (ms : List Method) → All MethodSpelled ms → list_all method_laid ms ≡ true
are_methods [] all = refl
are_methods (m ∷ ms) all =
    and_from (method_laid m) (list_all method_laid ms) (is_code m.sparse m.content.code (All-head MethodSpelled m ms all))
    (are_methods ms (All-tail MethodSpelled m ms all))

-- the test passes exactly where a file can say the class
pub spelled_is : (e : Added) → class_spelled e ≡ true → IsSpelled e
spelled_is e t =
    let (fields, codes) = both (list_all field_spelled e.class.fields) (list_all method_laid (added_methods e)) t in
    record { fields = fields; codes = methods_are (added_methods e) codes }

pub is_spelled_of : (e : Added) → IsSpelled e → class_spelled e ≡ true
is_spelled_of e spelled =
    and_from (list_all field_spelled e.class.fields) (list_all method_laid (added_methods e)) spelled.fields
    (are_methods (added_methods e) spelled.codes)

pub each_field : (fields : List FieldDesc) → list_all field_spelled (map (field_content no_text) fields) ≡ list_all (λ (f : FieldDesc). field_spelled (field_content no_text f)) fields
each_field fields = list_all-map field_spelled (field_content no_text) fields

-- the methods from a place on
pub methods_at : (ms : List MethodDesc) (i : ℕ) (m : MethodDesc) (ss : List (List ℕ)) → i < length ms → m ≡ get_or ms i m
    → list_all method_laid (methods_with (map (method_content no_text) (drop i ms)) ss)
    ≡ (method_laid (record { content = method_content no_text m; sparse = first_list ss })
    && list_all method_laid (methods_with (map (method_content no_text) (drop (i + 1) ms)) (lists_behind ss)))
methods_at ms i m ss h e =
    let here : drop i ms ≡ m ∷ drop (i + 1) ms = rw (add-one, drop-cons ms i m, ← e) refl in
    rw here (methods_by (method_content no_text m) (map (method_content no_text) (drop (i + 1) ms)) ss)
  where
    methods_by : (m : MethodContent) (ms : List MethodContent) (ss : List (List ℕ))
        → list_all method_laid (methods_with (m ∷ ms) ss)
        ≡ (method_laid (record { content = m; sparse = first_list ss }) && list_all method_laid (methods_with ms (lists_behind ss)))
    methods_by m ms [] = refl
    methods_by m ms (s ∷ ss) = refl
