-- From what the decoder found to what the chain's calls answer. Assumes nothing.
use Rattle.std.proofs.Common.{◌≡◌, ℕ, ◌-◌, ◌/◌, ◌≤◌, ◌&&◌, T, leb, List, length, Some, None, Option, Ok, Err, Result, sym, refl, ap, ◌∙◌, subst, arith}
use Rattle.std.specs.Option.{ok_or}
use Rattle.refusal.specs.declared.Refusal.{Refusal}
use Rattle.refusal.specs.declared.Refusal.TheVariants.{NoLevelWord}
use Rattle.field.specs.Answers.{provided}
use Rattle.field.specs.Meaning.{Meaning, IsField}
use Rattle.field.specs.Places.{distance}
use Rattle.field.specs.Words.{symbols}
use Rattle.chain.specs.Answers.{message_near, message_of}
use Rattle.chain.specs.Calls.{Corrects, Strips}
use Rattle.chain.specs.Meaning.{IsChain, Level, Word, radius}
use Rattle.chain.specs.Meaning as chains
use Rattle.chain.proofs.Causes.{is_level_yes, correct_done, correct_none, strip_done, strip_none}
use Rattle.chain.proofs.Facts.{message_near_is, message_near_none, message_of_is, message_of_none}
use Rattle.reed_solomon.specs.Code.{rs_word, flaw, size_of, sound, sound_unless, reed_solomon}
use Rattle.reed_solomon.specs.Decoding.{Message, Near, Nearest, Read}
use Rattle.reed_solomon.specs.Lawfulness.{sound_chain}
use Rattle.reed_solomon.specs.Sizes.{fit, provided_is}

module _ (F : Meaning) (laws : IsField F) (m : ℕ) (ks : List ℕ) (none : None ≡ flaw F m ks) (i k : ℕ) (size : ◌≡◌ {A = Result ℕ Refusal} (Ok k) (provided (leb 1 i && leb i (length ks)) (size_of ks i))) (b : List ℕ) (lb : length b ≡ m) (tb : T (symbols F.q b)) where
  abbrev S : chains.Meaning
  S = sound F m ks

  is_sound : S ≡ reed_solomon F m ks
  is_sound = ap (λ f. sound_unless f F m ks) none

  chain : IsChain S
  chain = sound_chain F laws m ks (fit F m ks (sym none))

  level : Level S i
  level = is_level_yes S i (provided_is (leb 1 i && leb i (length ks)) k _ size).0

  k_is : k ≡ size_of ks i
  k_is = (provided_is (leb 1 i && leb i (length ks)) k _ size).1

  word : Word F m b
  word = record { long = lb; all = tb }

  pub message_fits : (1 ≤ k) × (k ≤ length b)
  message_fits = (subst (λ j. 1 ≤ j) (sym k_is) (chain.size_least i level), subst (λ j. k ≤ j) (sym lb) (subst (λ j. j ≤ m) (sym k_is) (chain.size_most i level)))

  pub word_fits : (1 ≤ length b) × (length b ≤ 32) × (length b ≤ F.q)
  word_fits = let f = fit F m ks (sym none) in (subst (λ j. 1 ≤ j) (sym lb) f.m_least, subst (λ j. j ≤ 32) (sym lb) f.m_most, subst (λ j. j ≤ F.q) (sym lb) f.m_points)

  -- correct
  radius_is : (length b - k) / 2 ≡ radius (S.distance i)
  radius_is = ap (λ d. d / 2) (let e = k_is in let l = lb in omega arith)

  to_message : (xs : List ℕ) → Message F k xs → chains.Message S i xs
  to_message xs (l, t) = record { long = l ∙ k_is; all = t }

  from_message : (xs : List ℕ) → chains.Message S i xs → Message F k xs
  from_message xs h = (h.long ∙ sym k_is, h.all)

  word_at : (xs : List ℕ) → rs_word F (length b) xs ≡ rs_word F m xs
  word_at xs = ap (λ j. rs_word F j xs) lb

  found : (xs : List ℕ) → Near F k ((length b - k) / 2) b xs → message_near S i b ≡ Some xs
  found xs (hx, near) = message_near_is chain i level b xs (to_message xs hx) (subst (λ t. distance (rs_word F m xs) b ≤ t) radius_is (subst (λ w. distance w b ≤ (length b - k) / 2) (word_at xs) near))

  missing : ((xs : List ℕ) → Near F k ((length b - k) / 2) b xs → ⊥) → message_near S i b ≡ None
  missing far =
      message_near_none chain i level b
      (λ xs hx near. far xs (from_message xs hx, subst (λ w. distance w b ≤ (length b - k) / 2) (sym (word_at xs)) (subst (λ t. distance (rs_word F m xs) b ≤ t) (sym radius_is) near)))

  -- what the scratch holds after a search is open
  pub corrected : (scratch used w : List ℕ) → 4096 ≤ length scratch → Nearest F k ((length b - k) / 2) b (Some tt) w → Corrects (reed_solomon F m ks) i b scratch (Ok tt) w used
  corrected scratch used w h (xs, near, is) =
      subst (λ C. Corrects C i b scratch (Ok tt) w used) is_sound
      (subst (λ v. Corrects S i b scratch (Ok tt) v used) (sym (is ∙ word_at xs)) (correct_done S i b scratch used xs refl level word h (found xs near)))

  pub uncorrected : (scratch used w : List ℕ) → 4096 ≤ length scratch → Nearest F k ((length b - k) / 2) b None w → Corrects (reed_solomon F m ks) i b scratch (Err NoLevelWord) b used
  uncorrected scratch used w h far = subst (λ C. Corrects C i b scratch (Err NoLevelWord) b used) is_sound (correct_none S i b scratch used refl level word h (missing far))

  -- strip
  module _ (out : List ℕ) (lo : length out ≡ k) where
    read : (out' : List ℕ) → Read F b out (Some tt) out' → message_of S i b ≡ Some out'
    read out' ((l, t), e) = message_of_is chain i level b out' (to_message out' (l ∙ lo, t)) (sym (word_at out') ∙ e)

    unread : (out' : List ℕ) → Read F b out None out' → message_of S i b ≡ None
    unread out' (is, no_word) = message_of_none chain i level b (λ xs hx e. no_word xs (hx.long ∙ sym (lo ∙ k_is), hx.all) (word_at xs ∙ e))

    strip_yes : (out' : List ℕ) → Read F b out (Some tt) out' → Strips (reed_solomon F m ks) i b out (Ok tt) out'
    strip_yes out' h = subst (λ C. Strips C i b out (Ok tt) out') is_sound (strip_done S i b out out' refl level word (lo ∙ k_is) (read out' h))

    strip_no : (out' : List ℕ) → Read F b out None out' → Strips (reed_solomon F m ks) i b out (Err NoLevelWord) out'
    strip_no out' h =
        subst (λ C. Strips C i b out (Err NoLevelWord) out') is_sound
        (subst (λ w. Strips S i b out (Err NoLevelWord) w) (sym h.0) (strip_none S i b out refl level word (lo ∙ k_is) (unread out' h)))

    pub stripped : (o : Option (Unit {0})) (out' : List ℕ) → Read F b out o out' → Strips (reed_solomon F m ks) i b out (ok_or o NoLevelWord) out'
    stripped (Some u) out' h = strip_yes out' h
    stripped None out' h = strip_no out' h
