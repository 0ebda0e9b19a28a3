-- What a value that fits the type of a field sets the field to fits the field.
use Rattle.std.proofs.Common.{◌≡◌, ℕ, suc, ◌+◌, ◌*◌, ◌^◌, ◌<◌, ◌≤◌, List, ◌∷◌, None, Bool, true, false, refl, sym, ◌∙◌, subst, arith}
use Rattle.std.specs.Prelude.{◌==◌, ◌&&◌, nat_lt, codes, is_some, if◌then◌else◌}
use Rattle.std.proofs.Math.Pow.{pow_mono}
use Rattle.std.proofs.lemmas.Bool.{and_parts, and_from, or_left, or_right, lt-ltb, ltb-true}
use Rattle.std.proofs.lemmas.Bool.Decides.{nat_tests}
use Rattle.byteorder.proofs.Bytes.{pow256}
use Rattle.pi_model.specs.declared.numbers.NameNo.{NameNo}
use Rattle.pi_model.specs.declared.describe.Init.TheVariants.{Zero, Word, Long}
use Rattle.pi_model.specs.Program.{Program}
use Rattle.pi_model.specs.Texts.{same_text}
use Rattle.pi_insn.specs.Numbers.{signed_extension, short_bits}
use Rattle.pi_format.specs.Tables.{count_at, type_ids}
use Rattle.pi_format.specs.Rules.Descriptors.{begins_with}
use Rattle.pi_format.specs.Rules.Strings.{type_units, broken_types}
use Rattle.pi_format.specs.Rules.Values.{EncodedValue, value_bytes, names_reference, value_fits}
use Rattle.pi_format.specs.Says.{named_file, with_said}
use Rattle.pi_format.specs.Says.Names.{Named, type_name}
use Rattle.pi_format.specs.Says.Classes.{word_init, long_init, init_of}
use Rattle.pi_contents.specs.Named.{init_content, text_in}
use Rattle.pi_contents.specs.Asked.{is_reference, is_number, word_fits, init_fits}
use Rattle.pi_saidkeeps.proofs.Texts.{text_of_type}
use Rattle.pi_saidkeeps.proofs.Fittings.{Fitting, OfByte, OfShort, OfChar, OfInt, OfLong, OfBoolean, OfString, OfClass, OfNull, fitting, letter_first}

-- bytes extended by their sign: how large the number is, and that it is one of the bits of a shorter one
bytes_double : (arg : ℕ) → 256 ^ (arg + 1) ≡ 2 * 2 ^ (8 * arg + 7)
bytes_double arg =
    let place : 8 * (arg + 1) ≡ suc (8 * arg + 7) = omega arith in
    pow256 (arg + 1) ∙ subst (λ (k : ℕ). 2 ^ k ≡ 2 * 2 ^ (8 * arg + 7)) (sym place) (double (8 * arg + 7))
  where
    double : (k : ℕ) → 2 ^ suc k ≡ 2 * 2 ^ k
    double k = grind arith

extended_small : (half range m : ℕ) → m < 2 * half → 2 * half ≤ range → signed_extension half range m < range
extended_small half range m less le = grind (arith, nat_tests)

extended_short : (half small range m : ℕ) → m < 2 * half → half ≤ small → 2 * small ≤ range → is_some (short_bits small range (signed_extension half range m)) ≡ true
extended_short half small range m less le fits = grind (arith, nat_tests)

positive : (n : ℕ) → (n == 0) ≡ false → nat_lt 0 n ≡ true
positive n e = grind (arith, nat_tests)

-- a number of 32 bits or of 64 bits is set, or else the type has a value by itself
word_is : (text : NameNo → List ℕ) (ty : List ℕ) (w : ℕ) → is_number ty ≡ true → word_fits ty w ≡ true → init_fits ty (init_content text (word_init w)) ≡ true
word_is text ty w is fits = by_zero (w == 0) refl
  where
    by_zero : (b : Bool) → (w == 0) ≡ b → init_fits ty (init_content text (if b then Zero else Word w)) ≡ true
    by_zero true e = or_left (is_number ty) (is_reference ty) is
    by_zero false e = and_from (nat_lt 0 w) (word_fits ty w) (positive w e) fits

long_is : (text : NameNo → List ℕ) (rest : List ℕ) (l : ℕ) → l < 2 ^ 64 → init_fits (74 ∷ rest) (init_content text (long_init l)) ≡ true
long_is text rest l less = by_zero (l == 0) refl
  where
    by_zero : (b : Bool) → (l == 0) ≡ b → init_fits (74 ∷ rest) (init_content text (if b then Zero else Long l)) ≡ true
    by_zero true e = refl
    by_zero false e = and_from (nat_lt 0 l) (nat_lt l (2 ^ 64) && true) (positive l e) (and_from (nat_lt l (2 ^ 64)) true (lt-ltb l (2 ^ 64) less) refl)

abbrev value : ℕ → ℕ → ℕ → EncodedValue
value kind arg number = record { kind = kind; arg = arg; number = number }

-- what a value of a kind sets a field of a type to, where its number has the bytes of its kind
abbrev Sets : (NameNo → List ℕ) → Named → ℕ → ℕ → List ℕ → ℕ → Type 0
Sets text n arg number ty kind = number < 256 ^ value_bytes kind arg → init_fits ty (init_content text (init_of n (value kind arg number))) ≡ true

byte_sets : (text : NameNo → List ℕ) (n : Named) (arg number : ℕ) (rest : List ℕ) → arg < 1 → Sets text n arg number (66 ∷ rest) 0x00
unfolding init_of
byte_sets text n arg number rest lt less =
    let half : 2 ^ (8 * arg + 7) ≤ 2 ^ 7 = pow_mono {i = 8 * arg + 7} {j = 7} (omega arith) in
    word_is text (66 ∷ rest) (signed_extension (2 ^ (8 * arg + 7)) (2 ^ 32) number) refl
    (extended_short (2 ^ (8 * arg + 7)) 128 (2 ^ 32) number (omega (arith, bytes_double arg)) half (omega arith))

short_sets : (text : NameNo → List ℕ) (n : Named) (arg number : ℕ) (rest : List ℕ) → arg < 2 → Sets text n arg number (83 ∷ rest) 0x02
unfolding init_of
short_sets text n arg number rest lt less =
    let half : 2 ^ (8 * arg + 7) ≤ 2 ^ 15 = pow_mono {i = 8 * arg + 7} {j = 15} (omega arith) in
    word_is text (83 ∷ rest) (signed_extension (2 ^ (8 * arg + 7)) (2 ^ 32) number) refl
    (extended_short (2 ^ (8 * arg + 7)) 32768 (2 ^ 32) number (omega (arith, bytes_double arg)) half (omega arith))

char_sets : (text : NameNo → List ℕ) (n : Named) (arg number : ℕ) (rest : List ℕ) → arg < 2 → Sets text n arg number (67 ∷ rest) 0x03
unfolding init_of
char_sets text n arg number rest lt less =
    let half : 2 ^ (8 * arg + 7) ≤ 2 ^ 15 = pow_mono {i = 8 * arg + 7} {j = 15} (omega arith) in
    word_is text (67 ∷ rest) number refl (lt-ltb number 65536 (omega (arith, bytes_double arg)))

int_sets : (text : NameNo → List ℕ) (n : Named) (arg number : ℕ) (rest : List ℕ) → arg < 4 → Sets text n arg number (73 ∷ rest) 0x04
unfolding init_of
int_sets text n arg number rest lt less =
    let half : 2 ^ (8 * arg + 7) ≤ 2 ^ 31 = pow_mono {i = 8 * arg + 7} {j = 31} (omega arith) in
    let w = signed_extension (2 ^ (8 * arg + 7)) (2 ^ 32) number in
    word_is text (73 ∷ rest) w refl (lt-ltb w (2 ^ 32) (extended_small (2 ^ (8 * arg + 7)) (2 ^ 32) number (omega (arith, bytes_double arg)) (omega arith)))

long_sets : (text : NameNo → List ℕ) (n : Named) (arg number : ℕ) (rest : List ℕ) → arg < 8 → Sets text n arg number (74 ∷ rest) 0x06
unfolding init_of
long_sets text n arg number rest lt less =
    let half : 2 ^ (8 * arg + 7) ≤ 2 ^ 63 = pow_mono {i = 8 * arg + 7} {j = 63} (omega arith) in
    long_is text rest (signed_extension (2 ^ (8 * arg + 7)) (2 ^ 64) number) (extended_small (2 ^ (8 * arg + 7)) (2 ^ 64) number (omega (arith, bytes_double arg)) (omega arith))

boolean_sets : (text : NameNo → List ℕ) (n : Named) (arg number : ℕ) (rest : List ℕ) → arg < 2 → Sets text n arg number (90 ∷ rest) 0x1f
unfolding init_of
boolean_sets text n arg number rest lt less = word_is text (90 ∷ rest) arg refl (lt-ltb arg 2 lt)

-- a value of a kind, at a type that begins with a letter
at_letter : (text : NameNo → List ℕ) (n : Named) (arg number letter at kind : ℕ) (ty : List ℕ) → kind ≡ at → begins_with letter ty ≡ true
    → ((rest : List ℕ) → Sets text n arg number (letter ∷ rest) at) → Sets text n arg number ty kind
at_letter text n arg number letter at kind ty same begins sets =
    let first = letter_first letter ty begins in
    subst (Sets text n arg number ty) (sym same) (subst (λ (t : List ℕ). Sets text n arg number t at) (sym first.1) (sets first.0))

class_sets : (p : Program) (file : List ℕ) (arg number : ℕ) (ty : List ℕ) → broken_types file ≡ None → same_text (codes "Ljava/lang/Class;") ty ≡ true → names_reference file number ≡ true
    → Sets (text_in (with_said p file)) (named_file p file) arg number ty 0x18
unfolding init_of
class_sets p file arg number ty kept is refers less =
    let parts = and_parts (nat_lt number (count_at file type_ids)) (is_reference (type_units file number)) refers in
    let text : List ℕ = text_in (with_said p file) (type_name (named_file p file) number) in
    let same : text ≡ type_units file number = text_of_type p file number kept (ltb-true number (count_at file type_ids) parts.0) in
    and_from (same_text (codes "Ljava/lang/Class;") ty) (is_reference text) is (subst (λ (t : List ℕ). is_reference t ≡ true) (sym same) parts.1)

string_sets : (text : NameNo → List ℕ) (n : Named) (arg number : ℕ) (ty : List ℕ) → same_text (codes "Ljava/lang/String;") ty ≡ true → Sets text n arg number ty 0x17
unfolding init_of
string_sets text n arg number ty is less = is

null_sets : (text : NameNo → List ℕ) (n : Named) (arg number : ℕ) (ty : List ℕ) → is_reference ty ≡ true → Sets text n arg number ty 0x1e
unfolding init_of
null_sets text n arg number ty is less = or_right (is_number ty) (is_reference ty) is

by_fitting : (p : Program) (file ty : List ℕ) (kind arg number : ℕ) → broken_types file ≡ None → Fitting file ty kind arg number
    → Sets (text_in (with_said p file)) (named_file p file) arg number ty kind
by_fitting p file ty kind arg number kept (OfByte is begins lt) = at_letter _ _ arg number 66 0x00 kind ty is begins (λ rest. byte_sets _ _ arg number rest lt)
by_fitting p file ty kind arg number kept (OfShort is begins lt) = at_letter _ _ arg number 83 0x02 kind ty is begins (λ rest. short_sets _ _ arg number rest lt)
by_fitting p file ty kind arg number kept (OfChar is begins lt) = at_letter _ _ arg number 67 0x03 kind ty is begins (λ rest. char_sets _ _ arg number rest lt)
by_fitting p file ty kind arg number kept (OfInt is begins lt) = at_letter _ _ arg number 73 0x04 kind ty is begins (λ rest. int_sets _ _ arg number rest lt)
by_fitting p file ty kind arg number kept (OfLong is begins lt) = at_letter _ _ arg number 74 0x06 kind ty is begins (λ rest. long_sets _ _ arg number rest lt)
by_fitting p file ty kind arg number kept (OfBoolean is begins lt) = at_letter _ _ arg number 90 0x1f kind ty is begins (λ rest. boolean_sets _ _ arg number rest lt)
by_fitting p file ty kind arg number kept (OfString is text) =
    subst (Sets (text_in (with_said p file)) (named_file p file) arg number ty) (sym is) (string_sets (text_in (with_said p file)) (named_file p file) arg number ty text)
by_fitting p file ty kind arg number kept (OfClass is text refers) =
    subst (Sets (text_in (with_said p file)) (named_file p file) arg number ty) (sym is) (class_sets p file arg number ty kept text refers)
by_fitting p file ty kind arg number kept (OfNull is refers) =
    subst (Sets (text_in (with_said p file)) (named_file p file) arg number ty) (sym is) (null_sets (text_in (with_said p file)) (named_file p file) arg number ty refers)

pub value_sets : (p : Program) (file ty : List ℕ) (v : EncodedValue) → broken_types file ≡ None → value_fits file ty v ≡ true → v.number < 256 ^ value_bytes v.kind v.arg
    → init_fits ty (init_content (text_in (with_said p file)) (init_of (named_file p file) v)) ≡ true
value_sets p file ty v kept fits less = by_fitting p file ty v.kind v.arg v.number kept (fitting file ty v fits) less
