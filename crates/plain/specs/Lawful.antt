-- The plain chain is a chain, at every field. Assumes nothing.
use Rattle.std.specs.Prelude.{◌≡◌, ℕ, zero, suc, ◌-◌, ◌<◌, ◌≤◌, Bool, true, false, not, ◌&&◌, ◌||◌, T, List, [], ◌∷◌, length, take, replicate, Some, None, Option, ◌==◌, ◌≢◌, nat_le, slice_index, slice_index_or, refl}
use Rattle.std.proofs.Common.{sym, ap, subst, ◌∙◌, le_of_suc-le-suc, arith, leb→le, eqb→eq}
use Rattle.std.proofs.Math.Dec.{eqb_refl}
use Rattle.std.specs.Option.{option_or}
use Rattle.refusal.specs.declared.Refusal.{Refusal}
use Rattle.refusal.specs.declared.Refusal.TheVariants.{ChainLength, LevelCount, LevelShape}
use Rattle.field.specs.Meaning.{IsField, opposite_of}
use Rattle.field.specs.Meaning as fields
use Rattle.field.specs.Places.{distance}
use Rattle.field.specs.Words.{symbols, total}
use Rattle.field.proofs.Laws.{product_zero}
use Rattle.field.proofs.Tests.{both_left, both_right}
use Rattle.field.proofs.Unique.{one_small}
use Rattle.field.proofs.Vectors.{scaled_replicate, total_scaled, symbols_replicate}
use Rattle.field.proofs.WordLaws.{symbol_at}
use Rattle.chain.specs.Answers.{unless}
use Rattle.chain.specs.Meaning.{IsChain, Lawful, Level, OfLevel, Word, flawed}
use Rattle.plain.specs.Kinds.{kind_of, kind_at, kind_size, kind_distance, kind_word, rising, has, ones, kinds_fit, plain_flaw, sound, sound_unless, plain}
use Rattle.plain.specs.Words.{fits}
use Rattle.plain.specs.declared.kinds.Kind.{Kind}
use Rattle.plain.specs.declared.kinds.Kind.TheVariants.{Every, ZeroSum, Repeated}
use Rattle.plain.specs.KindLaws as kinds

-- what the tests of a chain without a flaw say
pub record Shape (F : fields.Meaning) (m : ℕ) (ks : List ℕ) : Type 0 where
  pub m_least : 2 ≤ m
  pub m_most : m ≤ 32
  pub some : 1 ≤ length ks
  pub few : length ks ≤ 4
  pub known : T (symbols 3 ks)
  pub rises : T (rising ks)
  pub together : T (not (has 1 ks && has 2 ks) || ones F m == 0)

unless_passes : (a b c : Bool) (p q r : Refusal) → option_or (unless a p) (option_or (unless b q) (unless c r)) ≡ None → T a × T b × T c
unless_passes true true true p q r e = (tt, tt, tt)
unless_passes true true false p q r e = absurd (let z : ◌≡◌ {A = ℕ} 0 1 = cc in omega arith)
unless_passes true false c p q r e = absurd (let z : ◌≡◌ {A = ℕ} 0 1 = cc in omega arith)
unless_passes false b c p q r e = absurd (let z : ◌≡◌ {A = ℕ} 0 1 = cc in omega arith)

pub shape : (F : fields.Meaning) (m : ℕ) (ks : List ℕ) → plain_flaw F m ks ≡ None → Shape F m ks
shape F m ks e =
    let t = unless_passes (nat_le 2 m && nat_le m 32) (nat_le 1 (length ks) && nat_le (length ks) 4) (kinds_fit F m ks) ChainLength LevelCount LevelShape e in
    let u = both_left (symbols 3 ks && rising ks) (not (has 1 ks && has 2 ks) || ones F m == 0) t.2 in
    record {
      m_least = leb→le 2 m (both_left (nat_le 2 m) (nat_le m 32) t.0);
      m_most = leb→le m 32 (both_right (nat_le 2 m) (nat_le m 32) t.0);
      some = leb→le 1 (length ks) (both_left (nat_le 1 (length ks)) (nat_le (length ks) 4) t.1);
      few = leb→le (length ks) 4 (both_right (nat_le 1 (length ks)) (nat_le (length ks) 4) t.1);
      known = both_left (symbols 3 ks) (rising ks) u;
      rises = both_right (symbols 3 ks) (rising ks) u;
      together = both_right (symbols 3 ks && rising ks) (not (has 1 ks && has 2 ks) || ones F m == 0) t.2;
    }

-- neighbours in a list that never falls
rising_at : (ks : List ℕ) → T (rising ks) → (i : ℕ) → suc i < length ks → slice_index ks i ≤ slice_index ks (suc i)
rising_at [] t i h = absurd (omega arith)
rising_at (k ∷ []) t i h = absurd (omega arith)
rising_at (k ∷ l ∷ ks) t zero h = leb→le k l (both_left (nat_le k l) (rising (l ∷ ks)) t)
rising_at (k ∷ l ∷ ks) t (suc i) h = rising_at (l ∷ ks) (both_right (nat_le k l) (rising (l ∷ ks)) t) i (le_of_suc-le-suc h)

or_right : (a b : Bool) → T b → T (a || b)
or_right true b t = tt
or_right false b t = t

or_left : (a b : Bool) → T a → T (a || b)
or_left true b t = tt
or_left false b t = absurd t

has_at : (k : ℕ) (ks : List ℕ) (i : ℕ) → i < length ks → slice_index ks i ≡ k → T (has k ks)
has_at k [] i h e = absurd (omega arith)
has_at k (l ∷ ks) zero h e = or_left _ _ (subst (λ x. T (k == x)) (sym e) (eqb_refl k))
has_at k (l ∷ ks) (suc i) h e = or_right (k == l) _ (has_at k ks i (le_of_suc-le-suc h) e)

both_then : (a b c : Bool) → T (not (a && b) || c) → T a → T b → T c
both_then true true c t p q = t
both_then true false c t p q = absurd q
both_then false b c t p q = absurd p

-- a level's kind and the next one's: the same, or every word, or sums of 0 above repetitions that add to 0
data Above (F : fields.Meaning) (m : ℕ) : Kind → Kind → Type 0 where
  same : {k : Kind} → Above F m k k
  top : {k : Kind} → Above F m Every k
  adds : ones F m ≡ 0 → Above F m ZeroSum Repeated

above : (F : fields.Meaning) (m a b : ℕ) → a < 3 → b < 3 → a ≤ b → (a ≡ 1 → b ≡ 2 → ones F m ≡ 0) → Above F m (kind_of a) (kind_of b)
above F m zero b ha hb le z = top
above F m (suc zero) zero ha hb le z = absurd (omega arith)
above F m (suc zero) (suc zero) ha hb le z = same
above F m (suc zero) (suc (suc zero)) ha hb le z = adds (z refl refl)
above F m (suc zero) (suc (suc (suc b))) ha hb le z = absurd (omega arith)
above F m (suc (suc a)) zero ha hb le z = absurd (omega arith)
above F m (suc (suc a)) (suc zero) ha hb le z = absurd (omega arith)
above F m (suc (suc a)) (suc (suc b)) ha hb le z = same

module _ {F : fields.Meaning} (lawful : IsField F) (m : ℕ) (two : 2 ≤ m) where
  -- a symbol repeated m times adds to 0 where 1 does
  repeated_total : ones F m ≡ 0 → (x : ℕ) → x < F.q → total F (replicate m x) ≡ 0
  repeated_total z x h =
      ap (total F) (ap (replicate m) (sym (lawful.product_one x h)) ∙ sym (scaled_replicate F m x 1))
      ∙ total_scaled lawful x h (replicate m 1) (symbols_replicate F.q m 1 (one_small lawful)) ∙ ap (F.product x) z ∙ product_zero lawful x h

  -- a word of the next level fits the kind of this one
  above_fits : {k l : Kind} → Above F m k l → (xs : List ℕ) → Word F (kind_size m l) xs → T (fits F k (kind_word F m l xs))
  above_fits (same {k = k}) xs h = kinds.word_fits lawful m two k xs h
  above_fits top xs h = tt
  above_fits (adds z) xs h = subst (λ n. T (n == 0)) (sym (repeated_total z _ (symbol_at F.q xs h.all 0 (omega (arith, h.long))))) tt

pub is_chain : {F : fields.Meaning} → IsField F → (m : ℕ) (ks : List ℕ) → Shape F m ks → IsChain (sound F m ks)
is_chain {F} lawful m ks s =
    let two = s.m_least in
    record {
      over_field = lawful;
      m_least = omega (arith, two);
      m_most = s.m_most;
      s_least = s.some;
      s_most = s.few;
      size_least = λ i _. kinds.size_least lawful m two (kind_at ks i);
      size_most = λ i _. kinds.size_most lawful m two (kind_at ks i);
      distance_least = λ i _. kinds.distance_least lawful m two (kind_at ks i);
      distance_most = λ i _. kinds.distance_most lawful m two (kind_at ks i);
      encodes = λ i _ xs h. kinds.encodes lawful m two (kind_at ks i) xs h;
      of_sum = λ i _ xs ys hx hy. kinds.of_sum lawful m two (kind_at ks i) xs ys hx hy;
      of_multiple = λ i _ a xs ha hx. kinds.of_multiple lawful m two (kind_at ks i) a xs ha hx;
      injective = λ i _ xs ys hx hy e. kinds.injective lawful m two (kind_at ks i) xs ys hx hy e;
      nested = λ i li lj w h. nested i li lj w h;
      apart = λ i _ v w hv hw ne. apart i v w hv hw ne;
    }
  where
    -- the word of a message, at the two kinds
    down : (i : ℕ) → Level (sound F m ks) i → Level (sound F m ks) (suc i) → Above F m (kind_at ks i) (kind_at ks (suc i))
    down i li lj =
        let next : suc (i - 1) ≡ suc i - 1 = omega (arith, li.from) in
        let within : suc (i - 1) < length ks = omega (arith, li.from, lj.to) in
        let le : slice_index_or ks (i - 1) 0 ≤ slice_index_or ks (suc i - 1) 0 = subst (λ j. slice_index ks (i - 1) ≤ slice_index ks j) next (rising_at ks s.rises (i - 1) within) in
        above F m (slice_index ks (i - 1)) (slice_index ks (suc i - 1)) (symbol_at 3 ks s.known (i - 1) (omega (arith, within))) (symbol_at 3 ks s.known (suc i - 1) (omega (arith, lj.to))) le
        (λ ea eb. eqb→eq _ 0 (both_then (has 1 ks) (has 2 ks) _ s.together (has_at 1 ks (i - 1) (omega (arith, within)) ea) (has_at 2 ks (suc i - 1) (omega (arith, lj.to)) eb)))

    nested : (i : ℕ) → Level (sound F m ks) i → Level (sound F m ks) (suc i) → (w : List ℕ) → OfLevel (sound F m ks) (suc i) w → OfLevel (sound F m ks) i w
    nested i li lj w h =
        let k = kind_at ks i in
        let word : Word F m w = subst (Word F m) h.2 (kinds.encodes lawful m s.m_least (kind_at ks (suc i)) h.0 h.1) in
        let fit : T (fits F k w) = subst (λ v. T (fits F k v)) h.2 (above_fits lawful m s.m_least (down i li lj) h.0 h.1) in
        (take (kind_size m k) w, kinds.taken lawful m s.m_least k w word, kinds.fits_word lawful m s.m_least k w word fit)

    apart : (i : ℕ) (v w : List ℕ) → OfLevel (sound F m ks) i v → OfLevel (sound F m ks) i w → (v ≢ w) → kind_distance m (kind_at ks i) ≤ distance v w
    apart i v w hv hw ne =
        subst (λ x. kind_distance m (kind_at ks i) ≤ distance x w) hv.2
        (subst (λ y. kind_distance m (kind_at ks i) ≤ distance (kind_word F m (kind_at ks i) hv.0) y) hw.2
        (kinds.apart lawful m s.m_least (kind_at ks i) hv.0 hw.0 hv.1 hw.1 (λ e. ne (sym hv.2 ∙ e ∙ hw.2))))

-- without a flaw the chain is the sound one
pub plain_sound : (F : fields.Meaning) (m : ℕ) (ks : List ℕ) → plain_flaw F m ks ≡ None → plain F m ks ≡ sound F m ks
plain_sound F m ks e = ap (λ f. sound_unless f F m ks) e

pub plain_flawed : (F : fields.Meaning) (m : ℕ) (ks : List ℕ) (r : Refusal) → plain_flaw F m ks ≡ Some r → plain F m ks ≡ flawed F r
plain_flawed F m ks r e = ap (λ f. sound_unless f F m ks) e

-- the flaw of the chain is the one that was found
pub flaw_is : (F : fields.Meaning) (m : ℕ) (ks : List ℕ) (f : Option Refusal) → (sound_unless f F m ks).flaw ≡ f
flaw_is F m ks None = refl
flaw_is F m ks (Some r) = refl

pub field_is : (F : fields.Meaning) (m : ℕ) (ks : List ℕ) (f : Option Refusal) → (sound_unless f F m ks).field ≡ F
field_is F m ks None = refl
field_is F m ks (Some r) = refl

pub is_lawful : {F : fields.Meaning} → IsField F → (m : ℕ) (ks : List ℕ) → Lawful (plain F m ks)
is_lawful {F} lawful m ks none =
    let e : plain_flaw F m ks ≡ None = sym (flaw_is F m ks (plain_flaw F m ks)) ∙ none in
    subst IsChain (sym (plain_sound F m ks e)) (is_chain lawful m ks (shape F m ks e))
