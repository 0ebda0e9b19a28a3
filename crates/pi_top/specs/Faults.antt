-- Why the program of a file was not run, by what the reader answers.
use Rattle.pi_dexraw.specs.declared.fault.DexFault.{DexFault}
use Rattle.pi_dexraw.specs.declared.fault.DexFault.TheVariants as dex
use Rattle.pi_dexraw.specs.declared.fault.DexFault.TheVariants.{Rule}
use Rattle.pi_top.specs.declared.file.fault.FileFault.{FileFault}
use Rattle.pi_top.specs.declared.file.fault.FileFault.TheVariants.{OutOfMemory, Broken}

abbrev pub fault_of : DexFault → FileFault
fault_of dex.OutOfMemory = OutOfMemory
fault_of (Rule rule at) = Broken rule at
