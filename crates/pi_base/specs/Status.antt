use Rattle.std.specs.Prelude.{ℕ}
use Rattle.pi_base.specs.declared.status.Status.{Status}
use Rattle.pi_base.specs.declared.status.Status.TheVariants.{Done, Uncaught, Usage, Missing, ReadFault, WriteFault, Dex, Verify, Link, Image, Bases, Job, Asm, Steps, Heap, Frames, OutFault, TooLarge, Memory, NotBuilt, Unprintable, Rebase, Differs}

-- the number with which the program ends
abbrev pub code_of : Status → ℕ
code_of Done = 0
code_of Uncaught = 1
code_of Usage = 2
code_of Missing = 3
code_of ReadFault = 4
code_of WriteFault = 5
code_of Dex = 6
code_of Verify = 7
code_of Link = 8
code_of Image = 9
code_of Bases = 10
code_of Job = 11
code_of Asm = 12
code_of Steps = 13
code_of Heap = 14
code_of Frames = 15
code_of OutFault = 16
code_of TooLarge = 17
code_of Memory = 18
code_of NotBuilt = 19
code_of Unprintable = 20
code_of Rebase = 21
code_of Differs = 22
