-- What the exported calls answer and leave. Assumes nothing.
use Rattle.std.specs.Prelude.{◌≡◌, ℕ, List, Ok, Err, Result}
use Rattle.refusal.specs.declared.Refusal.{Refusal}
use Rattle.refusal.specs.Numbers.{refusal_number}
use Rattle.field.specs.Meaning as fields
use Rattle.chain.specs.Calls.{Encodes, Corrects, Strips}
use Rattle.chain.specs.Meaning.{Meaning}

-- 0, or the number of the refusal
abbrev pub number : Result (Unit {0}) Refusal → ℕ
number (Ok _) = 0
number (Err e) = refusal_number e

-- made is the kind of chain, over a field with m and the levels' numbers
module _ (made : fields.Meaning → ℕ → List ℕ → Meaning) where
  abbrev pub Encoded : Result fields.Meaning Refusal → ℕ → List ℕ → ℕ → List ℕ → List ℕ → ℕ → List ℕ → Type 0
  Encoded (Ok F) m ks i xs out r kept = (a : Result (Unit {0}) Refusal) × Encodes (made F m ks) i xs out a kept × (r ≡ number a)
  Encoded (Err e) m ks i xs out r kept = (r ≡ refusal_number e) × (kept ≡ out)

  abbrev pub Corrected : Result fields.Meaning Refusal → ℕ → List ℕ → ℕ → List ℕ → List ℕ → ℕ → List ℕ → List ℕ → Type 0
  Corrected (Ok F) m ks i b scratch r kept used = (a : Result (Unit {0}) Refusal) × Corrects (made F m ks) i b scratch a kept used × (r ≡ number a)
  Corrected (Err e) m ks i b scratch r kept used = (r ≡ refusal_number e) × (kept ≡ b) × (used ≡ scratch)

  abbrev pub Stripped : Result fields.Meaning Refusal → ℕ → List ℕ → ℕ → List ℕ → List ℕ → ℕ → List ℕ → Type 0
  Stripped (Ok F) m ks i b out r kept = (a : Result (Unit {0}) Refusal) × Strips (made F m ks) i b out a kept × (r ≡ number a)
  Stripped (Err e) m ks i b out r kept = (r ≡ refusal_number e) × (kept ≡ out)
