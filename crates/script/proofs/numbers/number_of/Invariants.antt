-- What the loop keeps.
use Rattle.std.proofs.Common.{◌≡◌, ◌^◌, ◌<◌, drop}
use Rattle.script.specs.Numbers.{number, number_from}
use Rattle.script.proofs.numbers.number_of.Given as goal

-- what is left, after the value so far, gives the number
abbrev pub invariant-loop-b : goal.invariant-loop-b
invariant-loop-b l = (l.value < 2 ^ 32) × (number_from l.value (drop l.b-index l.word) ≡ number l.word)
