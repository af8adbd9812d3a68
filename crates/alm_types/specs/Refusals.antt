-- The numbers of the refusals in reply lines.
use Rattle.std.specs.Prelude.{ℕ}
use Rattle.alm_types.specs.declared.refusal.Refusal.{Refusal}
use Rattle.alm_types.specs.declared.refusal.Refusal.TheVariants.{NoSuchAlarm, NotUnacknowledged, NotResettable, AlreadyShelved, NotShelved, ShelveLength, AlreadySet, NotSet, NoChange, ClockBack, WrongRole, Busy, BadLine, LineTooLong, Stopped, OutOfMemory, NoSuchList, Exhausted, PriorityRange, SameValue, Forgotten, AnnunciatedAgain}

abbrev pub number_of : Refusal → ℕ
number_of NoSuchAlarm = 1
number_of NotUnacknowledged = 2
number_of NotResettable = 3
number_of AlreadyShelved = 4
number_of NotShelved = 5
number_of ShelveLength = 6
number_of AlreadySet = 7
number_of NotSet = 8
number_of NoChange = 9
number_of ClockBack = 10
number_of WrongRole = 11
number_of Busy = 12
number_of BadLine = 13
number_of LineTooLong = 14
number_of Stopped = 15
number_of OutOfMemory = 16
number_of NoSuchList = 17
number_of Exhausted = 18
number_of PriorityRange = 19
number_of SameValue = 20
number_of Forgotten = 21
number_of AnnunciatedAgain = 22
