-- Worked examples of commands by their words.
use Rattle.std.proofs.Common.{◌≡◌, [], ◌∷◌, Some, None, true, refl, codes}
use Rattle.pi_duty.specs.Command.{Lazy, command_of, writes_nothing}

-- `lazy f.dex LT; 11` is a lazy run
lazy_run : command_of (codes "lazy" ∷ codes "f.dex" ∷ codes "LT;" ∷ codes "11" ∷ []) ≡ Some (Lazy (record { file = codes "f.dex"; main = codes "LT;"; steps = 11 }))
lazy_run = refl

-- a number with a leading zero, an option, and no word at all are no command
leading_zero : command_of (codes "lazy" ∷ codes "f.dex" ∷ codes "LT;" ∷ codes "011" ∷ []) ≡ None
leading_zero = refl

option : command_of (codes "lazy" ∷ codes "-f" ∷ codes "LT;" ∷ codes "11" ∷ []) ≡ None
option = refl

no_word : command_of [] ≡ None
no_word = refl

-- neither writes anything
run_writes_nothing : writes_nothing (command_of (codes "lazy" ∷ codes "f.dex" ∷ codes "LT;" ∷ codes "11" ∷ [])) ≡ true
run_writes_nothing = refl

no_word_writes_nothing : writes_nothing (command_of []) ≡ true
no_word_writes_nothing = refl
