-- What the calls of a plain chain answer, from what its functions over words found. Assumes nothing.
use Rattle.std.proofs.Common.{◌≡◌, ℕ, ◌-◌, ◌≤◌, Bool, true, false, cond, nat_lt, T, slice_index, List, length, take, None, Ok, Err, Result, sym, refl, ap, ◌∙◌, subst, arith}
use Rattle.refusal.specs.declared.Refusal.{Refusal}
use Rattle.refusal.specs.declared.Refusal.TheVariants.{BadArgument, LevelShape, NoLevelWord}
use Rattle.field.specs.Meaning.{IsField}
use Rattle.field.specs.Meaning as fields
use Rattle.field.specs.Places.{distance}
use Rattle.chain.specs.Answers.{scratch_bytes}
use Rattle.chain.specs.Calls.{Corrects, Strips}
use Rattle.chain.specs.Meaning.{Meaning, Level, Word, radius}
use Rattle.chain.proofs.Causes.{is_level_yes, correct_none, correct_done, strip_none, strip_done}
use Rattle.chain.proofs.Facts.{message_near_is, message_near_none, message_of_is, message_of_none}
use Rattle.plain.specs.Kinds.{plain, plain_flaw, sound, kind_at, kind_size, kind_distance, kind_word, kind_of, kind_numbered, kind_told, is_kind}
use Rattle.plain.specs.Words.{fits, BlockCorrected, BlockStripped}
use Rattle.plain.specs.declared.kinds.Kind.{Kind}
use Rattle.plain.specs.KindLaws as kinds
use Rattle.plain.specs.Lawful.{Shape, shape, is_chain, plain_sound}

-- a level that is there, with its kind
there : (t : Bool) (n : ℕ) (k : Kind) → ◌≡◌ {A = Result Kind Refusal} (Ok k) (cond t (kind_numbered n) (Err BadArgument)) → T t × (k ≡ kind_of n)
there true n k e = (tt, numbered (nat_lt n 3) e)
  where
    numbered : (b : Bool) → ◌≡◌ {A = Result Kind Refusal} (Ok k) (cond b (Ok (kind_of n)) (Err LevelShape)) → k ≡ kind_of n
    numbered true d = cc
    numbered false d = absurd (let z : ◌≡◌ {A = ℕ} 0 1 = cc in omega arith)
there false n k e = absurd (let z : ◌≡◌ {A = ℕ} 0 1 = cc in omega arith)

module _ {F : fields.Meaning} (lawful : IsField F) (m : ℕ) (ks : List ℕ) (none : plain_flaw F m ks ≡ None) (i : ℕ) where
  -- what holds of the sound chain holds of the chain
  pub as_sound : (P : Meaning → Type 0) → P (sound F m ks) → P (plain F m ks)
  as_sound P h = subst P (sym (plain_sound F m ks none)) h

  formed : Shape F m ks
  formed = shape F m ks none

  pub two : 2 ≤ m
  two = formed.m_least

  module _ (k : Kind) (is : ◌≡◌ {A = Result Kind Refusal} (Ok k) (kind_told ks i)) where
    level : Level (sound F m ks) i
    level = is_level_yes (sound F m ks) i (there (is_kind ks i) (slice_index ks (i - 1)) k is).0

    same : k ≡ kind_at ks i
    same = (there (is_kind ks i) (slice_index ks (i - 1)) k is).1

    corrected_sound : (b scratch : List ℕ) → Word F m b → scratch_bytes ≤ length scratch → (r : Result (Unit {0}) Refusal) (kept : List ℕ) → BlockCorrected F (kind_at ks i) b r kept → Corrects (sound F m ks) i b scratch r kept scratch
    corrected_sound b scratch word enough (Ok _) kept near =
        let chain = is_chain lawful m ks formed in
        let message = subst (λ n. Word F (kind_size n (kind_at ks i)) near.message) word.long near.lawful in
        let is_word : kept ≡ kind_word F m (kind_at ks i) near.message = near.word ∙ ap (λ n. kind_word F n (kind_at ks i) near.message) word.long in
        let close = subst (λ n. distance kept b ≤ radius (kind_distance n (kind_at ks i))) word.long near.close in
        let found = message_near_is chain i level b near.message message (subst (λ v. distance v b ≤ radius (kind_distance m (kind_at ks i))) is_word close) in
        subst (λ v. Corrects (sound F m ks) i b scratch (Ok tt) v scratch) (sym is_word) (correct_done (sound F m ks) i b scratch scratch near.message refl level word enough found)
    corrected_sound b scratch word enough (Err e) kept (cause, stays, far) =
        let chain = is_chain lawful m ks formed in
        let long = word.long in
        let nothing = message_near_none chain i level b (λ xs hx close. far (kind_word F m (kind_at ks i) xs) (record {
          message = xs;
          lawful = subst (λ n. Word F (kind_size n (kind_at ks i)) xs) (sym long) hx;
          word = ap (λ n. kind_word F n (kind_at ks i) xs) (sym long);
          close = subst (λ n. distance (kind_word F m (kind_at ks i) xs) b ≤ radius (kind_distance n (kind_at ks i))) (sym long) close;
        })) in
        subst (λ x. Corrects (sound F m ks) i b scratch (Err x) kept scratch) (sym cause)
        (subst (λ v. Corrects (sound F m ks) i b scratch (Err NoLevelWord) v scratch) (sym stays) (correct_none (sound F m ks) i b scratch scratch refl level word enough nothing))

    pub corrected : (b scratch : List ℕ) → Word F m b → scratch_bytes ≤ length scratch → (r : Result (Unit {0}) Refusal) (kept : List ℕ) → BlockCorrected F k b r kept → Corrects (plain F m ks) i b scratch r kept scratch
    corrected b scratch word enough r kept h =
        as_sound (λ C. Corrects C i b scratch r kept scratch) (corrected_sound b scratch word enough r kept (subst (λ l. BlockCorrected F l b r kept) same h))

    stripped_sound : (b out : List ℕ) → Word F m b → length out ≡ kind_size m (kind_at ks i) → (r : Result (Unit {0}) Refusal) (kept : List ℕ) → BlockStripped F (kind_at ks i) b out r kept → Strips (sound F m ks) i b out r kept
    stripped_sound b out word long (Ok _) kept (fit, is_message) =
        let chain = is_chain lawful m ks formed in
        let size = kind_size m (kind_at ks i) in
        let message : kept ≡ take size b = is_message ∙ ap (λ n. take (kind_size n (kind_at ks i)) b) word.long in
        let found = message_of_is chain i level b (take size b) (kinds.taken lawful m two (kind_at ks i) b word) (kinds.fits_word lawful m two (kind_at ks i) b word fit) in
        subst (λ v. Strips (sound F m ks) i b out (Ok tt) v) (sym message) (strip_done (sound F m ks) i b out (take size b) refl level word long found)
    stripped_sound b out word long (Err e) kept (cause, stays, unfit) =
        let chain = is_chain lawful m ks formed in
        let nothing = message_of_none chain i level b (λ xs hx e. unfit (subst (λ v. T (fits F (kind_at ks i) v)) e (kinds.word_fits lawful m two (kind_at ks i) xs hx))) in
        subst (λ x. Strips (sound F m ks) i b out (Err x) kept) (sym cause)
        (subst (λ v. Strips (sound F m ks) i b out (Err NoLevelWord) v) (sym stays) (strip_none (sound F m ks) i b out refl level word long nothing))

    pub stripped : (b out : List ℕ) → Word F m b → length out ≡ kind_size m k → (r : Result (Unit {0}) Refusal) (kept : List ℕ) → BlockStripped F k b out r kept → Strips (plain F m ks) i b out r kept
    stripped b out word long r kept h =
        as_sound (λ C. Strips C i b out r kept) (stripped_sound b out word (long ∙ ap (kind_size m) same) r kept (subst (λ l. BlockStripped F l b out r kept) same h))
