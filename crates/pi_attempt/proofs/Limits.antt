-- Worked limits of an attempt on object bytes and frame words.
use Rattle.std.proofs.Common.{Some, None, ◌≡◌, ℕ, ◌+◌, false, List, [], ◌∷◌, Option, refl, arith}
use Rattle.std.specs.Prelude.{replicate, nat_lt}
use Rattle.std.proofs.lemmas.List.{length-replicate}
use Rattle.pi_model.specs.declared.insn.Insn.{Insn}
use Rattle.pi_model.specs.declared.insn.Insn.TheVariants.{ReturnVoid, Invoke}
use Rattle.pi_model.specs.declared.insn.How.TheVariants.{Static}
use Rattle.pi_model.specs.Known.{descriptor_of}
use Rattle.pi_model.specs.Dispatch.{is_virtual}
use Rattle.pi_model.specs.Program.{Program}
use Rattle.pi_model.specs.Values.{Word, Array}
use Rattle.pi_model.specs.Sizes.{array_bytes}
use Rattle.pi_model.specs.Search.{or_else}
use Rattle.pi_machine.specs.State.{State}
use Rattle.pi_machine.specs.Deeds.{Deed, Make, Jump}
use Rattle.pi_machine.specs.Natives.{native_table}
use Rattle.pi_machine.specs.Initialisation.{is_clinit}
use Rattle.pi_machine.specs.Start.{first_state}
use Rattle.pi_machine.proofs.Examples.{Same}
use Rattle.pi_machine.proofs.Sample.{chain, class, object, own, void, method, clinit_method, code, method_ref}
use Rattle.pi_attempt.specs.Watch.{Why, Heap, Frames, reason, reason_if, image_limit, entry_state}
use Rattle.pi_attempt.specs.Fold.{Held, Lazy}
use Rattle.pi_attempt.proofs.Helpers.{reports, second, names, one}

-- in the attempt of C: the step that makes an array of n ints
abbrev makes : ℕ → List Deed
makes n = Make (Array 36 (replicate n (Word 0))) ∷ Jump 2 ∷ []

-- C alone, entered with nothing made before
abbrev chain_of_c : Program
chain_of_c = one (ReturnVoid ∷ [])

abbrev in_c : State
in_c = entry_state 29 1 (first_state chain_of_c)

or_none : (o : Option Why) → or_else o None ≡ o
or_none None = refl
or_none (Some why) = refl

alone : (n : ℕ) → 0 + (n + 0) ≡ n
alone n = omega arith

-- the object bytes are those of the one array
made_bytes : (n : ℕ) → reason chain_of_c 29 1 false in_c (makes n) ≡ reason_if (nat_lt image_limit (array_bytes 4 n)) Heap
unfolding descriptor_of native_table is_virtual is_clinit
made_bytes n = rw (length-replicate n (Word 0), alone (array_bytes 4 n)) (or_none (reason_if (nat_lt image_limit (array_bytes 4 n)) Heap))

-- 8,388,604 ints with the header of sixteen bytes are all that an image may have
fits_exactly : reason chain_of_c 29 1 false in_c (makes 8388604) ≡ None
fits_exactly = made_bytes 8388604

one_more : reason chain_of_c 29 1 false in_c (makes 8388605) ≡ Some Heap
one_more = made_bytes 8388605

-- four frames of 65,531 registers below the initialiser's have all the words that an attempt may have, if that one has no
-- register
abbrev calls : ℕ → Insn
calls f = Invoke Static (method_ref (own 0) (own f) [] void) []

abbrev deep : ℕ → Program
deep registers = chain names (class 1 (own 0) 1 (Some object) [] []
    (clinit_method (code registers 0 (calls 4 ∷ ReturnVoid ∷ []) [])
    ∷ method (own 4) [] void 9 (code 65531 0 (calls 5 ∷ ReturnVoid ∷ []) [])
    ∷ method (own 5) [] void 9 (code 65531 0 (calls 6 ∷ ReturnVoid ∷ []) [])
    ∷ method (own 6) [] void 9 (code 65531 0 (calls 7 ∷ ReturnVoid ∷ []) [])
    ∷ method (own 7) [] void 9 (code 65531 0 (ReturnVoid ∷ []) [])
    ∷ []) ∷ [])

words : Same (
    reports (deep 0) (second 100 (29 ∷ [])) (Held 13 ∷ [])
    -- one word more does not do
    ∷ reports (deep 1) (second 100 (29 ∷ [])) (Lazy Frames ∷ [])
    ∷ [])
unfolding reports
words = refl
