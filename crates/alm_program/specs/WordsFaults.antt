-- The fault of words that ask for nothing.
use Rattle.clap.specs.declared.error.kind.ErrorKind.{ErrorKind}
use Rattle.clap.specs.declared.error.kind.ErrorKind.TheVariants as kind
use Rattle.alm_program.specs.declared.words_fault.WordsFault.{WordsFault}
use Rattle.alm_program.specs.declared.words_fault.WordsFault.TheVariants.{Usage, OutOfMemory}

-- out of memory is reported as such, and each mistake in the words as wrong usage
abbrev pub fault_of_kind : ErrorKind → WordsFault
fault_of_kind kind.OutOfMemory = OutOfMemory
fault_of_kind _ = Usage
