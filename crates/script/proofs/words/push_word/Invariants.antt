-- What the loop has written.
use Rattle.std.proofs.Common.{◌≡◌, ◌++◌, map, take, string_bytes}
use Rattle.script.specs.Echo.{shown}
use Rattle.script.proofs.words.push_word.Given as goal

abbrev pub invariant-loop-b : goal.invariant-loop-b
invariant-loop-b l = string_bytes l.echo ≡ string_bytes l.initial.echo ++ map shown (take l.b-index l.word)
