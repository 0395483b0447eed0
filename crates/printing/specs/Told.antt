-- The text that a call has told. Assumes nothing.
use Rattle.std.specs.Prelude.{ℕ, List, Ok, Err, Result}
use Rattle.refusal.specs.Printed.{printed_refusal}
use Rattle.printing.specs.declared.symbols.Untold.{Untold}
use Rattle.printing.specs.declared.symbols.Untold.TheVariants.{Refused, OutOfMemory}

-- P of the text, which is the refusal's own where the call was refused; nothing where memory ran out
abbrev pub IfTold : {S : Type 0} → (S → List ℕ) → Result S Untold → (List ℕ → Type 0) → Type 0
IfTold bytes (Ok s) P = P (bytes s)
IfTold bytes (Err (Refused r)) P = P (printed_refusal r)
IfTold bytes (Err (OutOfMemory e)) P = Unit {0}
