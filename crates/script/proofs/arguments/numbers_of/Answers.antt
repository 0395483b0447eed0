-- A word reads as its text does.
use Rattle.script.specs.Numbers.{number}
use Rattle.script.proofs.Readings.{each_text}
use Rattle.script.proofs.arguments.numbers_of.Goals as goal

pub returns : goal.returns
returns c = rw (← each_text number c.args.words.now) c.each_of.ensures
