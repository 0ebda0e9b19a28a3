-- Texts, read by hand.
use Rattle.std.proofs.Common.{◌≡◌, [], ◌∷◌, ◌++◌, Some, None, Ok, Err, refl, inl}
use Rattle.std.specs.Prelude.{codes}
use Rattle.std.specs.Str.{is_utf8, chars}
use lib.Utf8.{encode}
use Rattle.pi_job.specs.Lines.{lines}
use Rattle.pi_job.specs.Numbers.{number_of, number_in, most_word}
use Rattle.pi_job.specs.Job.{job_of, IsWrongLine}

-- a newline ends a line, the last may lack it, and an empty line is one
last_line_with_newline : lines (97 ∷ 10 ∷ 10 ∷ 98 ∷ 10 ∷ []) ≡ (97 ∷ []) ∷ [] ∷ (98 ∷ []) ∷ []
last_line_with_newline = refl

last_line_without_newline : lines (97 ∷ 10 ∷ 10 ∷ 98 ∷ []) ≡ (97 ∷ []) ∷ [] ∷ (98 ∷ []) ∷ []
last_line_without_newline = refl

no_line : lines [] ≡ []
no_line = refl

-- numbers in both writings
decimal : number_of (codes "4096") ≡ Some 4096
decimal = refl

hexadecimal : number_of (codes "0x1f") ≡ Some 31
hexadecimal = refl

leading_zero : number_of (codes "07") ≡ None
leading_zero = refl

upper_case : number_of (codes "0x1F") ≡ None
upper_case = refl

nine_digits : number_of (codes "0x000000001") ≡ None
nine_digits = refl

base_of_33_bits : number_in 0 most_word (codes "4294967296") ≡ None
base_of_33_bits = refl

-- whole texts
short_job : job_of (codes "job") (codes "dex a" ++ 10 ∷ codes "heap 4096 16" ++ 10 ∷ codes "frames 0x10" ++ 10 ∷ codes "steps 7" ++ 10 ∷ codes "main M")
    ≡ Ok (record { images = []; dexes = codes "a" ∷ []; heap = record { 0 = 4096 }; bytes = 16; frames = 16; steps = 7; main = codes "M"; args = [] })
unfolding is_utf8 chars encode
short_job = refl

wrong_second_line : job_of (codes "job") (codes "dex a" ++ 10 ∷ codes "frames 16" ++ 10 ∷ []) ≡ Err 2
unfolding is_utf8 chars encode
wrong_second_line = refl

wanting_line : job_of (codes "job") (codes "dex a" ++ 10 ∷ codes "heap 0 16") ≡ Err 3
unfolding is_utf8 chars encode
wanting_line = refl

name_of_the_job : job_of (codes "job") (codes "image a job 0 0 - 1") ≡ Err 1
unfolding is_utf8 chars encode
name_of_the_job = refl

later_name : job_of (codes "job") (codes "image a i 0 0 - 1" ++ 10 ∷ 10 ∷ codes "dex i") ≡ Err 3
unfolding is_utf8 chars encode
later_name = refl

-- what is meant, at a text whose second line is the first wrong one
first_wrong_line : IsWrongLine (codes "job") (codes "dex a" ++ 10 ∷ codes "frames 16" ++ 10 ∷ codes "what") 2
unfolding is_utf8 chars encode
first_wrong_line = inl (1, refl, (refl, refl))
