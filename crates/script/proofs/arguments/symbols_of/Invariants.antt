-- How a number reads.
use Rattle.script.specs.Arguments.{symbol}
use Rattle.script.proofs.arguments.symbols_of.Given as goal

abbrev pub ghost-each_of : goal.ghost-each_of
ghost-each_of a = symbol
