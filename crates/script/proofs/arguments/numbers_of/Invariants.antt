-- How a word reads.
use Rattle.script.specs.Numbers.{number}
use Rattle.script.proofs.arguments.numbers_of.Given as goal

abbrev pub ghost-each_of : goal.ghost-each_of
ghost-each_of a = λ w. number w.now
