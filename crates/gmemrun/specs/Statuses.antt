-- The numbers with which the program ends.
use Rattle.std.specs.Prelude.{ℕ}
use Rattle.gmemrun.specs.declared.status.Status.{Status}
use Rattle.gmemrun.specs.declared.status.Status.TheVariants.{Ok, BadScript, Usage, ReadFault, WriteFault, NoMemory, TooLong, BadHistory}

abbrev pub number_of : Status → ℕ
number_of Ok = 0
number_of BadScript = 1
number_of Usage = 2
number_of ReadFault = 3
number_of WriteFault = 4
number_of NoMemory = 5
number_of TooLong = 6
number_of BadHistory = 7
