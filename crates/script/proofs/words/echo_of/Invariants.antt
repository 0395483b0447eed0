-- What the loop has written.
use Rattle.std.proofs.Common.{◌≡◌, ◌∷◌, take, string_bytes}
use Rattle.std.specs.List.{flat_map}
use Rattle.script.specs.Words.{texts}
use Rattle.script.specs.Echo.{spaced}
use Rattle.script.proofs.words.echo_of.Given as goal

abbrev pub invariant-loop-word : goal.invariant-loop-word
invariant-loop-word l = string_bytes l.echo ≡ 62 ∷ flat_map spaced (texts (take l.word-index l.word-items))
