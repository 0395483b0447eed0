-- Why a command has no answer, by why a call has told nothing. Assumes nothing.
use Rattle.printing.specs.declared.symbols.Untold.{Untold}
use Rattle.console.specs.declared.answer.Failure.TheVariants.{Refused}
use Rattle.console.specs.declared.answer.Unanswered.{Unanswered}

abbrev pub unanswered : Untold → Unanswered
unanswered (Untold.Refused r) = Unanswered.Failed (Refused r)
unanswered (Untold.OutOfMemory e) = Unanswered.OutOfMemory e
