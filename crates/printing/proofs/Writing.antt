-- One turn of the writing of a list. Assumes nothing.
use Rattle.std.proofs.Common.{◌≡◌, ℕ, ◌≤◌, List, ◌++◌, ap, ◌∙◌, append_assoc, zero, suc, ◌-◌, arith}
use Rattle.code.specs.Numbers.{joined_to}

-- part i after those below it
pub part_more : (front : List ℕ) {sofar next : List ℕ} (f : ℕ → List ℕ) (i k : ℕ) → 1 ≤ i → i ≡ k → sofar ≡ front ++ joined_to f (i - 1) → next ≡ sofar ++ f i → next ≡ front ++ joined_to f k
part_more front f zero k h e was is = absurd (omega (arith, h))
part_more front f (suc n) k h e was is =
    let back : suc n - 1 ≡ n = omega arith in
    is ∙ ap (λ s. s ++ f (suc n)) (was ∙ ap (λ j. front ++ joined_to f j) back) ∙ append_assoc front (joined_to f n) (f (suc n))
    ∙ ap (λ j. front ++ joined_to f j) e

-- n parts after a text
pub parts_whole : {begun all front : List ℕ} (f : ℕ → List ℕ) {n k : ℕ} → all ≡ begun ++ joined_to f n → begun ≡ front → n ≡ k → all ≡ front ++ joined_to f k
parts_whole {front = front} f {n} is was e = is ∙ ap (λ s. s ++ joined_to f n) was ∙ ap (λ j. front ++ joined_to f j) e
