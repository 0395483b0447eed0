-- The answers of a chain, by what its checks and its search found. Assumes nothing.
use Rattle.std.proofs.Common.{◌≡◌, ℕ, ◌<◌, ◌≤◌, Bool, true, false, ◌&&◌, T, eqb, leb, List, length, is_some, Some, None, Ok, Err, Option, unwrap_or, sym, refl, ap, ◌∙◌, subst, arith, le→leb, eqb→eq, leb→le}
use lib.Dec.{eqb_refl}
use Rattle.std.specs.Option.{option_map, option_or}
use Rattle.refusal.specs.declared.Refusal.{Refusal}
use Rattle.refusal.specs.declared.Refusal.TheVariants.{BadArgument, NoLevelWord, ShortScratch}
use Rattle.field.specs.Words.{symbols}
use Rattle.field.proofs.Accepted.{both_hold}
use Rattle.field.proofs.Tests.{both_left, both_right}
use Rattle.chain.specs.Answers.{answer, left, unless, is_level, is_word, encode_cause, early_cause, correct_cause, strip_cause, scratch_bytes, message_near, message_of, word_near}
use Rattle.chain.specs.Calls.{Encodes, Corrects, Strips}
use Rattle.chain.specs.Meaning.{Meaning, Level, Word}

-- the tests of the definitions say what they say
pub is_level_yes : (C : Meaning) (i : ℕ) → T (is_level C i) → Level C i
is_level_yes C i t = record { from = leb→le 1 i (both_left (leb 1 i) (leb i C.s) t); to = leb→le i C.s (both_right (leb 1 i) (leb i C.s) t) }

pub level_test : (C : Meaning) (i : ℕ) → Level C i → T (is_level C i)
level_test C i h = both_hold _ _ (le→leb 1 i h.from) (le→leb i C.s h.to)

pub is_word_yes : (C : Meaning) (n : ℕ) (xs : List ℕ) → T (is_word C n xs) → Word C.field n xs
is_word_yes C n xs t = record { long = eqb→eq (length xs) n (both_left (eqb (length xs) n) (symbols C.field.q xs) t); all = both_right (eqb (length xs) n) (symbols C.field.q xs) t }

pub word_test : (C : Meaning) (n : ℕ) (xs : List ℕ) → Word C.field n xs → T (is_word C n xs)
word_test C n xs h = both_hold _ _ (subst (λ k. T (eqb (length xs) k)) h.long (eqb_refl (length xs))) h.all

-- One statement for each way in which a call can end.

or_none : (f x : Option Refusal) → f ≡ None → option_or f x ≡ x
or_none f x e = ap (λ g. option_or g x) e

or_some : (f x : Option Refusal) (r : Refusal) → f ≡ Some r → option_or f x ≡ Some r
or_some f x r e = ap (λ g. option_or g x) e

passes : (b : Bool) (r : Refusal) → T b → unless b r ≡ None
passes true r t = refl
passes false r t = absurd t

fails : (b : Bool) (r : Refusal) → (T b → ⊥) → unless b r ≡ Some r
fails true r h = absurd (h tt)
fails false r h = refl

module _ (C : Meaning) (i : ℕ) where
  -- a cause decides answer and buffer
  encodes_by : (xs out : List ℕ) (cause : Option Refusal) → encode_cause C i xs (length out) ≡ cause → Encodes C i xs out (answer cause) (left cause (C.encoding i xs) out)
  encodes_by xs out cause e = record { result = sym (ap answer e); after = sym (ap (λ f. left f (C.encoding i xs) out) e) }

  pub encode_flawed : (r : Refusal) (xs out : List ℕ) → C.flaw ≡ Some r → Encodes C i xs out (Err r) out
  encode_flawed r xs out e = encodes_by xs out (Some r) (or_some _ _ r e)

  pub encode_bad : (xs out : List ℕ) → C.flaw ≡ None → (Level C i → Word C.field (C.size i) xs → length out ≡ C.m → ⊥) → Encodes C i xs out (Err BadArgument) out
  encode_bad xs out none h =
      encodes_by xs out (Some BadArgument)
      (or_none _ _ none
      ∙ fails _ BadArgument (λ t.
      let u = both_left (is_level C i && is_word C (C.size i) xs) (eqb (length out) C.m) t in
      h (is_level_yes C i (both_left (is_level C i) (is_word C (C.size i) xs) u)) (is_word_yes C _ xs (both_right (is_level C i) (is_word C (C.size i) xs) u))
      (eqb→eq _ _ (both_right (is_level C i && is_word C (C.size i) xs) (eqb (length out) C.m) t))))

  pub encode_done : (xs out : List ℕ) → C.flaw ≡ None → Level C i → Word C.field (C.size i) xs → length out ≡ C.m → Encodes C i xs out (Ok tt) (C.encoding i xs)
  encode_done xs out none level word long =
      encodes_by xs out None
      (or_none _ _ none
      ∙ passes _ BadArgument (both_hold _ _ (both_hold _ _ (level_test C i level) (word_test C _ xs word)) (subst (λ n. T (eqb (length out) n)) long (eqb_refl (length out)))))

  corrects_by : (b scratch used : List ℕ) (early cause : Option Refusal) → early_cause C i b (length scratch) ≡ early → correct_cause C i b (length scratch) ≡ cause → (is_some early ≡ true → used ≡ scratch) → Corrects C i b scratch (answer cause) (left cause (unwrap_or (word_near C i b) b) b) used
  corrects_by b scratch used early cause e f h = record {
    result = sym (ap answer f);
    after = sym (ap (λ x. left x (unwrap_or (word_near C i b) b) b) f);
    untouched = λ t. h (sym (ap is_some e) ∙ t);
  }

  -- refused before the search
  early_refused : (b scratch : List ℕ) (r : Refusal) → early_cause C i b (length scratch) ≡ Some r → Corrects C i b scratch (Err r) b scratch
  early_refused b scratch r e = corrects_by b scratch scratch (Some r) (Some r) e (or_some _ _ r e) (λ _. refl)

  pub correct_flawed : (r : Refusal) (b scratch : List ℕ) → C.flaw ≡ Some r → Corrects C i b scratch (Err r) b scratch
  correct_flawed r b scratch e = early_refused b scratch r (or_some _ _ r e)

  word_and_level : (b : List ℕ) → T (is_level C i && is_word C C.m b) → Level C i × Word C.field C.m b
  word_and_level b t = (is_level_yes C i (both_left (is_level C i) (is_word C C.m b) t), is_word_yes C _ b (both_right (is_level C i) (is_word C C.m b) t))

  pub correct_bad : (b scratch : List ℕ) → C.flaw ≡ None → (Level C i → Word C.field C.m b → ⊥) → Corrects C i b scratch (Err BadArgument) b scratch
  correct_bad b scratch none h =
      early_refused b scratch BadArgument
      (or_none _ _ none ∙ or_some _ _ BadArgument (fails _ BadArgument (λ t. let u = word_and_level b t in h u.0 u.1)))

  arguments_pass : (b : List ℕ) → Level C i → Word C.field C.m b → unless (is_level C i && is_word C C.m b) BadArgument ≡ None
  arguments_pass b level word = passes _ BadArgument (both_hold _ _ (level_test C i level) (word_test C _ b word))

  pub correct_short : (b scratch : List ℕ) → C.flaw ≡ None → Level C i → Word C.field C.m b → length scratch < scratch_bytes → Corrects C i b scratch (Err ShortScratch) b scratch
  correct_short b scratch none level word short =
      early_refused b scratch ShortScratch
      (or_none _ _ none ∙ or_none _ _ (arguments_pass b level word) ∙ fails _ ShortScratch (λ t. let h : scratch_bytes ≤ length scratch = leb→le _ _ t in omega arith))

  searches : (b scratch : List ℕ) → C.flaw ≡ None → Level C i → Word C.field C.m b → scratch_bytes ≤ length scratch → early_cause C i b (length scratch) ≡ None
  searches b scratch none level word enough =
      or_none _ _ none ∙ or_none _ _ (arguments_pass b level word) ∙ passes _ ShortScratch (le→leb _ _ enough)

  never : (used scratch : List ℕ) → ◌≡◌ {A = Bool} false true → used ≡ scratch
  never used scratch e = absurd (subst T (sym e) tt)

  pub correct_none : (b scratch used : List ℕ) → C.flaw ≡ None → Level C i → Word C.field C.m b → scratch_bytes ≤ length scratch → message_near C i b ≡ None → Corrects C i b scratch (Err NoLevelWord) b used
  correct_none b scratch used none level word enough e =
      let early = searches b scratch none level word enough in
      corrects_by b scratch used None (Some NoLevelWord) early
      (or_none _ _ early ∙ ap (λ o. unless (is_some (option_map (C.encoding i) o)) NoLevelWord) e) (never used scratch)

  pub correct_done : (b scratch used xs : List ℕ) → C.flaw ≡ None → Level C i → Word C.field C.m b → scratch_bytes ≤ length scratch → message_near C i b ≡ Some xs → Corrects C i b scratch (Ok tt) (C.encoding i xs) used
  correct_done b scratch used xs none level word enough e =
      let early = searches b scratch none level word enough in
      let found = ap (option_map (C.encoding i)) e in
      subst (λ w. Corrects C i b scratch (Ok tt) w used) (ap (λ o. unwrap_or o b) found)
      (corrects_by b scratch used None None early (or_none _ _ early ∙ ap (λ o. unless (is_some o) NoLevelWord) found) (never used scratch))

  strips_by : (b out : List ℕ) (cause : Option Refusal) → strip_cause C i b (length out) ≡ cause → Strips C i b out (answer cause) (left cause (unwrap_or (message_of C i b) out) out)
  strips_by b out cause e = record { result = sym (ap answer e); after = sym (ap (λ f. left f (unwrap_or (message_of C i b) out) out) e) }

  pub strip_flawed : (r : Refusal) (b out : List ℕ) → C.flaw ≡ Some r → Strips C i b out (Err r) out
  strip_flawed r b out e = strips_by b out (Some r) (or_some _ _ r e)

  pub strip_bad : (b out : List ℕ) → C.flaw ≡ None → (Level C i → Word C.field C.m b → length out ≡ C.size i → ⊥) → Strips C i b out (Err BadArgument) out
  strip_bad b out none h =
      strips_by b out (Some BadArgument)
      (or_none _ _ none
      ∙ or_some _ _ BadArgument (fails _ BadArgument (λ t.
      let u = word_and_level b (both_left (is_level C i && is_word C C.m b) (eqb (length out) (C.size i)) t) in
      h u.0 u.1 (eqb→eq _ _ (both_right (is_level C i && is_word C C.m b) (eqb (length out) (C.size i)) t)))))

  strip_arguments : (b out : List ℕ) → Level C i → Word C.field C.m b → length out ≡ C.size i → unless (is_level C i && is_word C C.m b && eqb (length out) (C.size i)) BadArgument ≡ None
  strip_arguments b out level word long =
      passes _ BadArgument (both_hold _ _ (both_hold _ _ (level_test C i level) (word_test C _ b word)) (subst (λ n. T (eqb (length out) n)) long (eqb_refl (length out))))

  pub strip_none : (b out : List ℕ) → C.flaw ≡ None → Level C i → Word C.field C.m b → length out ≡ C.size i → message_of C i b ≡ None → Strips C i b out (Err NoLevelWord) out
  strip_none b out none level word long e =
      strips_by b out (Some NoLevelWord)
      (or_none _ _ none ∙ or_none _ _ (strip_arguments b out level word long) ∙ ap (λ o. unless (is_some o) NoLevelWord) e)

  pub strip_done : (b out xs : List ℕ) → C.flaw ≡ None → Level C i → Word C.field C.m b → length out ≡ C.size i → message_of C i b ≡ Some xs → Strips C i b out (Ok tt) xs
  strip_done b out xs none level word long e =
      subst (λ w. Strips C i b out (Ok tt) w) (ap (λ o. unwrap_or o out) e)
      (strips_by b out None
      (or_none _ _ none ∙ or_none _ _ (strip_arguments b out level word long) ∙ ap (λ o. unless (is_some o) NoLevelWord) e))
