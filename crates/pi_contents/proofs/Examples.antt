-- Worked instances: classes of which all that is asked holds, and ones that break a rule each.
use Rattle.std.proofs.Common.{◌≡◌, ℕ, List, [], ◌∷◌, Some, None, true, false, refl}
use Rattle.std.specs.Prelude.{codes}
use Rattle.pi_model.specs.declared.insn.Insn.TheVariants.{ReturnVoid, ConstString, Switch}
use Rattle.pi_model.specs.declared.numbers.NameNo.{NameNo}
use Rattle.pi_format.specs.Rules.Descriptors.{is_descriptor}
use Rattle.pi_format.specs.Rules.Descriptors as descriptors
use Rattle.pi_contents.specs.Contents.{Prototype, Naming, NoName, OfText, OfType, OfField, OfMethod, LineContent, CatchContent, CodeContent, WordInit, FieldContent, MethodContent, ClassContent}
use Rattle.pi_contents.specs.Named.{bare, naming_of, no_name}
use Rattle.pi_contents.specs.Naming.{named_by_class, short_form, types_named}
use Rattle.pi_contents.specs.Asked.{IsOfFormat, classes_fit, members_fit, inits_fit, bodies_fit, word_fits, ranges_rise, insn_fits}

-- a class without a superclass and members
object_class : ClassContent
object_class = record { name = codes "Ljava/lang/Object;"; flags = 1; parent = None; faces = []; fields = []; methods = [] }

-- a class below it, with a static field that is set and an initialiser that returns at once
counter : FieldContent
counter = record { name = codes "x"; ty = codes "I"; flags = 8; init = WordInit 5 }

void_proto : Prototype
void_proto = record { params = []; ret = codes "V" }

return_line : LineContent
return_line = record { at = 0; units = 1; insn = ReturnVoid; naming = NoName }

return_code : CodeContent
return_code = record { regs = 0; ins = 0; outs = 0; units = 1; lines = return_line ∷ []; catches = [] }

initialiser : MethodContent
initialiser = record { name = codes "<clinit>"; proto = void_proto; flags = 8; code = Some return_code }

sample : ClassContent
unfolding counter initialiser
sample = record {
  name = codes "LA;";
  flags = 1;
  parent = Some (codes "Ljava/lang/Object;");
  faces = [];
  fields = counter ∷ [];
  methods = initialiser ∷ [];
}

samples : List ClassContent
samples = object_class ∷ sample ∷ []

short_form_of_void : short_form void_proto ≡ codes "V"
unfolding void_proto
short_form_of_void = refl

types_of_the_sample : types_named (named_by_class sample)
    ≡ codes "LA;" ∷ codes "Ljava/lang/Object;" ∷ codes "LA;" ∷ codes "I" ∷ codes "LA;" ∷ codes "V" ∷ []
unfolding sample counter initialiser return_code return_line void_proto
types_of_the_sample = refl

all_holds : IsOfFormat samples
unfolding samples object_class sample counter initialiser return_code return_line void_proto descriptors.is_array_of descriptors.is_class_name
all_holds = record { x13 = refl; x14 = refl; x15 = refl; x16 = refl; x17 = refl; x18 = refl; x19 = refl; x20 = refl; x21 = refl; x23 = refl }

-- the superclass behind the class, and a class that is defined twice
superclass_behind : classes_fit (codes "LA;" ∷ codes "Ljava/lang/Object;" ∷ []) [] (sample ∷ object_class ∷ []) ≡ false
unfolding sample object_class counter initialiser return_code return_line void_proto
superclass_behind = refl

defined_twice : classes_fit (codes "Ljava/lang/Object;" ∷ codes "Ljava/lang/Object;" ∷ []) [] (object_class ∷ object_class ∷ []) ≡ false
unfolding object_class
defined_twice = refl

-- a field that stands twice
field_twice : members_fit (record sample { fields = counter ∷ counter ∷ [] }) ≡ false
unfolding sample counter initialiser return_code return_line void_proto
field_twice = refl

-- a boolean that is set to 5, and a byte that is set to -1
boolean_of_five : inits_fit (record sample { fields = record counter { ty = codes "Z" } ∷ [] }) ≡ false
unfolding sample counter initialiser return_code return_line void_proto
boolean_of_five = refl

byte_below_zero : word_fits (codes "B") 0xffffffff ≡ true
byte_below_zero = refl

byte_of_200 : word_fits (codes "B") 200 ≡ false
byte_of_200 = refl

-- an argument word that the code does not count
words_differ : bodies_fit (record sample { methods = record initialiser { flags = 0 } ∷ [] }) ≡ false
unfolding sample counter initialiser return_code return_line void_proto
words_differ = refl

-- a handler of the range of the one before it, which catches a type; and behind one that catches all
catch_of : Naming → CatchContent
catch_of (OfType t) = record { from = 0; to = 2; ty = Some t; at = 3 }
catch_of NoName = record { from = 0; to = 2; ty = None; at = 3 }
catch_of (OfText s) = record { from = 0; to = 2; ty = None; at = 3 }
catch_of (OfField f) = record { from = 0; to = 2; ty = None; at = 3 }
catch_of (OfMethod m) = record { from = 0; to = 2; ty = None; at = 3 }

one_range : ranges_rise (catch_of (OfType (codes "LA;")) ∷ catch_of NoName ∷ []) ≡ true
unfolding catch_of
one_range = refl

behind_all : ranges_rise (catch_of NoName ∷ catch_of (OfType (codes "LA;")) ∷ []) ≡ false
unfolding catch_of
behind_all = refl

-- keys that follow each other over the end of signed numbers, and keys that neither follow nor rise
keys_over_the_end : insn_fits (Switch 0 (record { key = 0x7fffffff; to = 4 } ∷ record { key = 0x80000000; to = 5 } ∷ [])) ≡ true
keys_over_the_end = refl

keys_fall : insn_fits (Switch 0 (record { key = 5; to = 4 } ∷ record { key = 3; to = 5 } ∷ [])) ≡ false
keys_fall = refl

-- an instruction without its names, and what it names
name_of : NameNo → List ℕ
name_of n = n.0 ∷ []

without_names : bare (ConstString 3 (record { 0 = 7 })) ≡ ConstString 3 no_name
unfolding bare
without_names = refl

named : naming_of name_of (ConstString 3 (record { 0 = 7 })) ≡ OfText (7 ∷ [])
unfolding naming_of name_of
named = refl
