-- What the loop has written.
use Rattle.std.proofs.Common.{◌≡◌, ◌++◌, take, string_bytes}
use Rattle.std.specs.List.{flat_map}
use Rattle.printing.specs.Texts.{spaced}
use Rattle.printing.proofs.symbols.listed.Given as goal

abbrev pub invariant-loop-symbol : goal.invariant-loop-symbol
invariant-loop-symbol l = string_bytes l.text ≡ string_bytes l.initial.text ++ flat_map spaced (take l.symbol-index l.rest)
