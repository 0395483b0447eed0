-- What a chain means, and the laws owed for it. Assumes nothing.
use Rattle.std.specs.Prelude.{◌≡◌, ℕ, suc, ◌-◌, ◌/◌, ◌<◌, ◌≤◌, T, List, [], length, Some, None, Option, ◌≢◌}
use Rattle.refusal.specs.declared.Refusal.{Refusal}
use Rattle.field.specs.Meaning.{IsField}
use Rattle.field.specs.Meaning as fields
use Rattle.field.specs.Places.{distance as differing}
use Rattle.field.specs.Words.{symbols, added, scaled}

-- A chain is a ladder of nested codes over one field: s levels, counted from 1, of words of m symbols.
-- Level i has a size and a distance, and encodes messages of as many symbols as its size.
-- A flaw is the reason why a chain that was made cannot be used.
pub record Meaning : Type 0 where
  pub flaw : Option Refusal
  pub field : fields.Meaning
  pub m : ℕ
  pub s : ℕ
  pub size : ℕ → ℕ
  pub distance : ℕ → ℕ
  pub encoding : ℕ → List ℕ → List ℕ

-- a word of n symbols
pub record Word (F : fields.Meaning) (n : ℕ) (xs : List ℕ) : Type 0 where
  pub long : length xs ≡ n
  pub all : T (symbols F.q xs)

pub record Level (C : Meaning) (i : ℕ) : Type 0 where
  pub from : 1 ≤ i
  pub to : i ≤ C.s

abbrev pub Message : Meaning → ℕ → List ℕ → Type 0
Message C i xs = Word C.field (C.size i) xs

-- w is a word of level i
abbrev pub OfLevel : Meaning → ℕ → List ℕ → Type 0
OfLevel C i w = (xs : List ℕ) × Message C i xs × (C.encoding i xs ≡ w)

-- the number of differences that a level of distance d corrects
abbrev pub radius : ℕ → ℕ
radius d = (d - 1) / 2

pub record IsChain (C : Meaning) : Type 0 where
  pub over_field : IsField C.field
  pub m_least : 1 ≤ C.m
  pub m_most : C.m ≤ 32
  pub s_least : 1 ≤ C.s
  pub s_most : C.s ≤ 4
  pub size_least : (i : ℕ) → Level C i → 1 ≤ C.size i
  pub size_most : (i : ℕ) → Level C i → C.size i ≤ C.m
  pub distance_least : (i : ℕ) → Level C i → 1 ≤ C.distance i
  pub distance_most : (i : ℕ) → Level C i → C.distance i ≤ C.m
  pub encodes : (i : ℕ) → Level C i → (xs : List ℕ) → Message C i xs → Word C.field C.m (C.encoding i xs)
  -- the encoding of a sum or a multiple is the sum or the multiple of the encodings
  pub of_sum : (i : ℕ) → Level C i → (xs ys : List ℕ) → Message C i xs → Message C i ys → C.encoding i (added C.field xs ys) ≡ added C.field (C.encoding i xs) (C.encoding i ys)
  pub of_multiple : (i : ℕ) → Level C i → (a : ℕ) (xs : List ℕ) → a < C.field.q → Message C i xs → C.encoding i (scaled C.field a xs) ≡ scaled C.field a (C.encoding i xs)
  -- different messages have different words
  pub injective : (i : ℕ) → Level C i → (xs ys : List ℕ) → Message C i xs → Message C i ys → C.encoding i xs ≡ C.encoding i ys → xs ≡ ys
  -- each word of a level is a word of the level before it
  pub nested : (i : ℕ) → Level C i → Level C (suc i) → (w : List ℕ) → OfLevel C (suc i) w → OfLevel C i w
  -- two different words of a level differ in at least as many places as its distance
  pub apart : (i : ℕ) → Level C i → (v w : List ℕ) → OfLevel C i v → OfLevel C i w → (v ≢ w) → C.distance i ≤ differing v w

-- what whoever supplies a chain owes: nothing for a chain with a flaw
abbrev pub Lawful : Meaning → Type 0
Lawful C = C.flaw ≡ None → IsChain C

-- a chain with a flaw, over its field; nothing else of it is ever told
abbrev pub flawed : fields.Meaning → Refusal → Meaning
flawed F r = record { flaw = Some r; field = F; m = 0; s = 0; size = λ _. 0; distance = λ _. 0; encoding = λ _ _. [] }
