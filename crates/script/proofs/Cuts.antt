-- One turn of the cutting of a line into words. Assumes nothing.
use Rattle.std.proofs.Common.{◌≡◌, ℕ, ◌+◌, ◌<◌, ◌≤◌, true, false, cond, List, [], ◌∷◌, ◌++◌, length, get_or, drop, sym, refl, ap, ◌∙◌, subst, append_assoc, append-nil, arith, Bor}
use Rattle.std.specs.List.{between}
use Rattle.std.proofs.lemmas.List.{drop_more, drop_all, map_push}
use Rattle.std.proofs.lemmas.List.Edits.{between_more, between_none, length-between}
use Rattle.script.specs.Words.{white, then_words, words_from, words, texts}

-- the words that are found and those of what is left, of which the part from start to i is read, are the line's
abbrev pub Sofar : List ℕ → List (Bor (List ℕ)) → ℕ → ℕ → Type 0
Sofar line found start i = texts found ++ words_from (between start i line) (drop i line) ≡ words line

some_word : (w : List ℕ) (ws : List (List ℕ)) → 0 < length w → then_words w ws ≡ w ∷ ws
some_word [] ws h = absurd (omega arith)
some_word (b ∷ w) ws h = refl

no_word : (w : List ℕ) (ws : List (List ℕ)) → length w ≡ 0 → then_words w ws ≡ ws
no_word [] ws h = refl
no_word (b ∷ w) ws h = absurd (omega arith)

-- the words from a byte that is white
at_white : (w : List ℕ) (b : ℕ) (bs : List ℕ) → white b ≡ true → words_from w (b ∷ bs) ≡ then_words w (words_from [] bs)
at_white w b bs e = ap (λ t. cond t (then_words w (words_from [] bs)) (words_from (w ++ b ∷ []) bs)) e

at_dark : (w : List ℕ) (b : ℕ) (bs : List ℕ) → white b ≡ false → words_from w (b ∷ bs) ≡ words_from (w ++ b ∷ []) bs
at_dark w b bs e = ap (λ t. cond t (then_words w (words_from [] bs)) (words_from (w ++ b ∷ []) bs)) e

module _ (line : List ℕ) (found : List (Bor (List ℕ))) (start i : ℕ) (inside : i < length line) (ordered : start ≤ i) (sofar : Sofar line found start i) where
  pub dark_more : white (get_or line i 0) ≡ false → Sofar line found start (i + 1)
  dark_more e =
      ap (λ w. texts found ++ words_from w (drop (i + 1) line)) (between_more line start i 0 ordered inside)
      ∙ ap (λ ws. texts found ++ ws) (sym (at_dark (between start i line) (get_or line i 0) (drop (i + 1) line) e) ∙ ap (words_from (between start i line)) (sym (drop_more line i 0 inside)))
      ∙ sofar

  split : white (get_or line i 0) ≡ true → texts found ++ then_words (between start i line) (words_from [] (drop (i + 1) line)) ≡ words line
  split e =
      ap (λ ws. texts found ++ ws) (sym (at_white (between start i line) (get_or line i 0) (drop (i + 1) line) e) ∙ ap (words_from (between start i line)) (sym (drop_more line i 0 inside)))
      ∙ sofar

  none_yet : (fresh : List (List ℕ)) → fresh ++ words_from [] (drop (i + 1) line) ≡ words line → fresh ++ words_from (between (i + 1) (i + 1) line) (drop (i + 1) line) ≡ words line
  none_yet fresh h = ap (λ w. fresh ++ words_from w (drop (i + 1) line)) (between_none line (i + 1)) ∙ h

  pub gap_more : white (get_or line i 0) ≡ true → i ≤ start → Sofar line found (i + 1) (i + 1)
  gap_more e h = none_yet (texts found) (ap (λ ws. texts found ++ ws) (sym (no_word (between start i line) _ (length-between line start i (omega arith) ∙ omega arith))) ∙ split e)

  pub word_more : (word : Bor (List ℕ)) → white (get_or line i 0) ≡ true → start < i → word.now ≡ between start i line → Sofar line (found ++ word ∷ []) (i + 1) (i + 1)
  word_more word e h is =
      none_yet (texts (found ++ word ∷ []))
      (ap (λ ws. ws ++ words_from [] (drop (i + 1) line)) (map_push (λ r. r.now) found word)
      ∙ append_assoc (texts found) (word.now ∷ []) (words_from [] (drop (i + 1) line))
      ∙ ap (λ w. texts found ++ (w ∷ words_from [] (drop (i + 1) line))) is
      ∙ ap (λ ws. texts found ++ ws) (sym (some_word (between start i line) _ (omega (arith, length-between line start i (omega arith)))))
      ∙ split e)

-- at the end of the line
module _ (line : List ℕ) (found : List (Bor (List ℕ))) (start i : ℕ) (end : length line ≡ i) (sofar : Sofar line found start i) where
  last : texts found ++ then_words (between start i line) [] ≡ words line
  last = ap (λ bs. texts found ++ words_from (between start i line) bs) (sym (drop_all i line (omega arith))) ∙ sofar

  pub no_last : i ≤ start → texts found ≡ words line
  no_last h = sym (append-nil (texts found)) ∙ ap (λ ws. texts found ++ ws) (sym (no_word (between start i line) [] (length-between line start i (omega arith) ∙ omega arith))) ∙ last

  pub last_word : (word : Bor (List ℕ)) → start < i → word.now ≡ between start i line → texts (found ++ word ∷ []) ≡ words line
  last_word word h is =
      map_push (λ r. r.now) found word ∙ ap (λ w. texts found ++ (w ∷ [])) is
      ∙ ap (λ ws. texts found ++ ws) (sym (some_word (between start i line) [] (omega (arith, length-between line start i (omega arith))))) ∙ last

pub carried : (line : List ℕ) (i : ℕ) {f f' : List (Bor (List ℕ))} {s s' : ℕ} → f ≡ f' → s ≡ s' → (s' ≤ i) × Sofar line f' s' i → (s ≤ i) × Sofar line f s i
carried line i {f} {f'} {s} {s'} ef es h = subst (λ g. (s ≤ i) × Sofar line g s i) (sym ef) (subst (λ t. (t ≤ i) × Sofar line f' t i) (sym es) h)
