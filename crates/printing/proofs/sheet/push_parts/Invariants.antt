-- The parts below part i are added.
use Rattle.std.proofs.Common.{◌≡◌, ℕ, ◌+◌, ◌-◌, ◌≤◌, ◌++◌, List, IfOk, string_bytes}
use Rattle.code.specs.Numbers.{joined_to}
use Rattle.printing.proofs.sheet.push_parts.Given as goal

abbrev pub invariant-loop-i : goal.invariant-loop-i
invariant-loop-i g l =
    (l.i ≤ l.n + 1) × ((texts : ℕ → List ℕ) → ((i : ℕ) → 1 ≤ i → i ≤ l.n → (r : _) → goal.F-post g l.part i r → IfOk r (λ s. string_bytes s ≡ texts i))
    → string_bytes l.text ≡ string_bytes l.initial.text ++ joined_to texts (l.i - 1))
