-- What the test of a chain's kinds adds up. Assumes nothing.
use Rattle.std.proofs.Common.{◌≡◌, ℕ, ◌≤◌, take, drop, replicate, zip, leb, ◌&&◌, List, [], ◌∷◌, Ok, sym, refl, ap, ◌∙◌}
use Rattle.std.proofs.lemmas.List.{take-replicate}
use Rattle.field.specs.Meaning.{IsField}
use Rattle.field.specs.Meaning as fields
use Rattle.field.specs.Words.{totalled}
use Rattle.field.proofs.Accepted.{passed}
use Rattle.field.proofs.Unique.{one_small}
use Rattle.field.proofs.Vectors.{symbols_replicate}
use Rattle.std.specs.List.{list_all}
use Rattle.plain.specs.Kinds.{ones, rising}

-- the sum of the first m of 32 ones
pub ones_told : {F : fields.Meaning} → IsField F → (m : ℕ) → m ≤ 32 → totalled F (take m (replicate 32 1)) ≡ Ok (ones F m)
ones_told {F} lawful m small = ap (totalled F) (take-replicate m 32 1 small) ∙ sym (passed _ _ _ (symbols_replicate F.q m 1 (one_small lawful)) refl)

-- kinds that never fall are the pairs of neighbours of which none does
pub rising_pairs : (ks : List ℕ) → list_all (λ p. leb p.0 p.1) (zip ks (drop 1 ks)) ≡ rising ks
rising_pairs [] = refl
rising_pairs (k ∷ []) = refl
rising_pairs (k ∷ l ∷ ks) = ap (λ b. leb k l && b) (rising_pairs (l ∷ ks))
