-- The instructions of a code in two parts, and where their payloads end.
use Rattle.std.proofs.Common.{◌≡◌, ℕ, ◌≤◌, ◌^◌, ◌<◌, List, length, take, drop, false, refl}
use Rattle.std.specs.Prelude.{nat_le}
use Rattle.std.specs.List.{drop-map}
use Rattle.std.proofs.lemmas.Bool.{le-leb, lt-leb}
use Rattle.std.proofs.lemmas.List.{length-map, length-take-le}
use Rattle.std.proofs.Math.Bool.{and-false}
use Rattle.pi_model.specs.declared.describe.Code.{Code}
use Rattle.pi_model.specs.declared.describe.Line.{Line}
use Rattle.pi_contents.specs.Named.{line_content, code_content}
use Rattle.pi_classtables.specs.Layout.{front, lines_end}
use Rattle.pi_dexdata.specs.Numbers.{no_text}
use Rattle.pi_dexspelled.specs.Tests.{contents, ends_at, are_laid, behind_lines}

behind_are : (ls : List Line) (count : ℕ) → count ≤ length ls → front 0 (contents ls) ≡ contents (take count ls)
    → drop (length (front 0 (contents ls))) (contents ls) ≡ contents (drop count ls)
behind_are ls count h e =
    rw (e, length-map (take count ls) (line_content no_text), length-take-le count ls h, drop-map (line_content no_text) count ls) refl

-- where the instructions in front are so many, and end at that address
pub laid_by : (listed : List ℕ) (code : Code) (count end : ℕ) → front 0 (contents code.insns) ≡ contents (take count code.insns)
    → lines_end 0 (front 0 (contents code.insns)) ≡ end → count ≤ length code.insns → end ≤ 2 ^ 31 → code.units ≤ 2 ^ 31
    → are_laid listed (code_content no_text code)
    ≡ ends_at code.units (behind_lines listed end (contents (take count code.insns)) (contents (drop count code.insns)))
laid_by listed code count end lines behind within near units =
    rw (behind, behind_are code.insns count within lines, lines, le-leb end (2 ^ 31) near, le-leb code.units (2 ^ 31) units) refl

-- and where one of them is too far
pub too_far : (listed : List ℕ) (code : Code) (end : ℕ) → lines_end 0 (front 0 (contents code.insns)) ≡ end → 2 ^ 31 < end
    → are_laid listed (code_content no_text code) ≡ false
too_far listed code end behind far = rw (behind, lt-leb end (2 ^ 31) far) refl

pub too_long : (listed : List ℕ) (code : Code) → 2 ^ 31 < code.units → are_laid listed (code_content no_text code) ≡ false
too_long listed code far =
    rw (lt-leb code.units (2 ^ 31) far, and-false (nat_le (lines_end 0 (front 0 (contents code.insns))) (2 ^ 31))) refl
