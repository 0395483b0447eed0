-- Two different codewords differ in at least d places. Assumes nothing.
use Rattle.std.proofs.Common.{◌≡◌, ℕ, zero, suc, ◌+◌, ◌-◌, ◌*◌, ◌<◌, ◌≤◌, eqb, ◌≢◌, ◌⊎◌, List, [], ◌∷◌, ◌++◌, map, length, replicate, None, sym, refl, ap, ◌∙◌, subst, ap₂, inl, inr, mul_comm, mul-le-mul, arith}
use lib.ListN.{length-map}
use Rattle.std.specs.List.{AllByRecursion}
use Rattle.field.specs.Meaning.{IsField}
use Rattle.field.specs.Meaning as fields
use Rattle.field.specs.Places.{distance}
use Rattle.field.specs.Words.{added, scaled}
use Rattle.field.proofs.Metric.{eqb_tells, distance_zero, nearest_only_half}
use Rattle.field.proofs.Vectors.{length_scaled}
use Rattle.algebra.specs.Distance.{weight}
use Rattle.algebra.specs.FieldOn.{Ops, FieldOn}
use Rattle.algebra.specs.Matrices.{Among, Nonsingular, NonsingularNumbers}
use Rattle.algebra.specs.Symbols.{numbers, Below, val}
use Rattle.algebra.specs.Vectors.{plus, times, minus, combination, plus_each, Zeros}
use Rattle.algebra.proofs.Blocks.{range, sum_of, blocks_weight}
use Rattle.algebra.proofs.Bridge.{over, to, val_to, vals_tos}
use Rattle.algebra.proofs.Crossing.{val_respects, plus_map, times_map, vals_distance}
use Rattle.algebra.proofs.Distance.{distance_weight}
use Rattle.algebra.proofs.Elimination.{nonsingular_val}
use Rattle.algebra.proofs.Vectors.{plus_nil, plus_assoc, length_plus, length_times, minus_itself}
use Rattle.chain.specs.Meaning.{IsChain, OfLevel, Word}
use Rattle.code.specs.Columns.{column}
use Rattle.code.specs.Meaning.{Meaning, entry_at}
use Rattle.code.specs.Numbers.{part, block_to, codeword, IsCodeword, k_of, d_of, Separated, Separates}
use Rattle.code.proofs.Combined.{combination_push, zeros_weight, less, less_minus, difference_weight, plus_each_listed, Last, find_last}
use Rattle.code.proofs.Levels.{part_word, part_is, part_encoded, block_word}
use Rattle.code.proofs.Listed.{listed, length_listed, all_listed, map_listed, column_listed, range_different, among_itself, length_range, sum_range, distance_joined}
use Rattle.code.proofs.Sentence.{symbols_all, nonsingular_columns, column_symbols}
use Rattle.code.proofs.Sound.{Sound, sound, entry_small}
use Rattle.code.proofs.Sums.{least_below, least_some}

-- on words of one length the sum is that of vectors
added_plus : (F : fields.Meaning) (xs ys : List ℕ) → length xs ≡ length ys → added F xs ys ≡ plus (numbers F) xs ys
added_plus F [] [] e = refl
added_plus F [] (y ∷ ys) e = absurd (omega arith)
added_plus F (x ∷ xs) [] e = absurd (omega arith)
added_plus F (x ∷ xs) (y ∷ ys) e = ap (λ l. F.sum x y ∷ l) (added_plus F xs ys (omega arith))

scaled_times : (F : fields.Meaning) (a : ℕ) (xs : List ℕ) → scaled F a xs ≡ times (numbers F) a xs
scaled_times F a [] = refl
scaled_times F a (x ∷ xs) = ap (λ l. F.product a x ∷ l) (scaled_times F a xs)

module _ (M : Meaning) (s : Sound M) (chain : IsChain M.chain) where
  abbrev F : fields.Meaning
  F = M.chain.field

  abbrev laws : IsField F
  laws = chain.over_field

  abbrev G : FieldOn (Below F.q)
  G = over F laws

  abbrev A : Ops (Below F.q)
  A = G.ops

  -- a column and the zero word over the field on the symbols
  abbrev columnK : ℕ → List (Below F.q)
  columnK k = map (to F laws) (column M.matrix k)

  abbrev zeroK : List (Below F.q)
  zeroK = replicate M.chain.m A.zero

  zeroK_zeros : (n : ℕ) → Zeros A (replicate n A.zero)
  zeroK_zeros zero = tt
  zeroK_zeros (suc n) = (refl, zeroK_zeros n)

  vals_zero : (n : ℕ) → map val (replicate n A.zero) ≡ replicate n 0
  vals_zero zero = refl
  vals_zero (suc n) = ap (λ l. 0 ∷ l) (vals_zero n)

  good : Nonsingular A M.chain.s columnK (Among (range 0 M.l))
  good =
      (nonsingular_val F laws M.chain.s columnK (Among (range 0 M.l))).1
      (subst (λ (c : ℕ → List ℕ). NonsingularNumbers F M.chain.s c (Among (range 0 M.l)))
      (λ i k. sym (vals_tos F laws (column M.matrix k) (column_symbols laws M.chain.s M.l M.matrix M.matrix s.words k)) i)
      (nonsingular_columns laws M.chain.s M.l M.matrix s.columns))

  module _ (xs : List ℕ) (word : Word F (k_of M) xs) where
    abbrev partK : ℕ → List (Below F.q)
    partK i = map (to F laws) (part M xs i)

    part_val : (i : ℕ) → i < M.chain.s → map val (partK (suc i)) ≡ part M xs (suc i)
    part_val i h = vals_tos F laws (part M xs (suc i)) (symbols_all F.q (part M xs (suc i)) (part_encoded M s chain xs word i h).all)

    part_length : (i : ℕ) → i < M.chain.s → length (partK (suc i)) ≡ M.chain.m
    part_length i h = length-map (part M xs (suc i)) (to F laws) ∙ (part_encoded M s chain xs word i h).long

    -- the entries of a column so far, and the block that they give
    abbrev entriesK : ℕ → ℕ → List (Below F.q)
    entriesK j n = listed (λ i. to F laws (entry_at M.matrix i j)) n

    abbrev blockK : ℕ → ℕ → List (Below F.q)
    blockK n j = plus A zeroK (combination A (entriesK j n) (listed partK n))

    block_val : (n : ℕ) → n ≤ M.chain.s → (j : ℕ) → block_to M xs n j ≡ map val (blockK n j)
    block_val zero h j = sym (ap (map val) (plus_nil G zeroK) ∙ vals_zero M.chain.m)
    block_val (suc n) h j =
        let e = entry_at M.matrix (suc n) j in
        let p = part M xs (suc n) in
        let small = entry_small laws M.matrix s.words (suc n) j in
        let before = block_word M s chain xs word n (omega arith) j in
        let long = (part_encoded M s chain xs word n h).long in
        added_plus F (block_to M xs n j) (scaled F e p) (before.long ∙ sym (length_scaled F e p ∙ long))
        ∙ ap₂ (plus (numbers F)) (block_val n (omega arith) j) (scaled_times F e p ∙ ap₂ (times (numbers F)) (sym (val_to F laws e small)) (sym (part_val n h)))
        ∙ ap (plus (numbers F) (map val (blockK n j))) (sym (times_map A (numbers F) val (val_respects F laws) (to F laws e) (partK (suc n))))
        ∙ sym (plus_map A (numbers F) val (val_respects F laws) (blockK n j) (times A (to F laws e) (partK (suc n))))
        ∙ ap (map val)
        (plus_assoc G zeroK (combination A (entriesK j n) (listed partK n)) (times A (to F laws e) (partK (suc n)))
        ∙ ap (plus A zeroK) (sym (combination_push G (entriesK j n) (listed partK n) (to F laws e) (partK (suc n)) (length_listed (λ i. to F laws (entry_at M.matrix i j)) n ∙ sym (length_listed partK n)))))

    -- block k + 1, by column k
    column_block : (k : ℕ) → block_to M xs M.chain.s (suc k) ≡ map val (plus A zeroK (combination A (columnK k) (listed partK M.chain.s)))
    column_block k =
        block_val M.chain.s (omega arith) (suc k)
        ∙ ap (λ c. map val (plus A zeroK (combination A c (listed partK M.chain.s))))
        (sym (map_listed (to F laws) (λ i. entry_at M.matrix i (suc k)) M.chain.s)
        ∙ ap (map (to F laws)) (ap (listed (λ i. entry_at M.matrix i (suc k))) (sym s.tall) ∙ column_listed M.matrix k))

    of_level : (i : ℕ) → i < M.chain.s → OfLevel M.chain (suc i) (part M xs (suc i))
    of_level i h = (_, part_word M s chain xs word i h, sym (part_is M s chain xs word i))

  module _ (xs ys : List ℕ) (wx : Word F (k_of M) xs) (wy : Word F (k_of M) ys) where
    -- the differences of the parts
    abbrev diffK : ℕ → List (Below F.q)
    diffK i = less G (partK xs wx i) (partK ys wy i)

    abbrev total : ℕ
    total = sum_of (λ k. weight G (combination A (columnK k) (listed diffK M.chain.s))) (range 0 M.l)

    vals_length : (xs : List (Below F.q)) → length (map val xs) ≡ length xs
    vals_length zs = length-map zs (val {q = F.q})

    block_distance : (k : ℕ) → distance (block_to M xs M.chain.s (suc k)) (block_to M ys M.chain.s (suc k)) ≡ weight G (combination A (columnK k) (listed diffK M.chain.s))
    block_distance k =
        let n = M.chain.s in
        let X = plus A zeroK (combination A (columnK k) (listed (partK xs wx) n)) in
        let Y = plus A zeroK (combination A (columnK k) (listed (partK ys wy) n)) in
        let ex = column_block xs wx k in
        let ey = column_block ys wy k in
        let long : length X ≡ length Y
        = sym (vals_length X) ∙ sym (ap length ex) ∙ (block_word M s chain xs wx n (omega arith) (suc k)).long ∙ sym (block_word M s chain ys wy n (omega arith) (suc k)).long ∙ ap length ey ∙ vals_length Y in
        ap₂ distance ex ey ∙ vals_distance F laws X Y
        ∙ difference_weight G zeroK (columnK k) (listed (partK xs wx) n) (listed (partK ys wy) n) (zeroK_zeros M.chain.m) long
        ∙ ap (λ ds. weight G (combination A (columnK k) ds))
        (ap (plus_each A (listed (partK xs wx) n)) (map_listed (times A (A.neg A.one)) (partK ys wy) n)
        ∙ plus_each_listed G (partK xs wx) (λ i. times A (A.neg A.one) (partK ys wy i)) n)

    codeword_distance : distance (codeword M xs) (codeword M ys) ≡ total
    codeword_distance =
        distance_joined M.chain.m (block_to M xs M.chain.s) (block_to M ys M.chain.s) M.l
        (λ j. (block_word M s chain xs wx M.chain.s (omega arith) j).long) (λ j. (block_word M s chain ys wy M.chain.s (omega arith) j).long)
        ∙ sum_range (λ j. distance (block_to M xs M.chain.s j) (block_to M ys M.chain.s j)) (λ k. weight G (combination A (columnK k) (listed diffK M.chain.s))) M.l (λ k h. block_distance k)

    total_zero : AllByRecursion (Zeros A) (listed diffK M.chain.s) → (ks : List ℕ) → sum_of (λ k. weight G (combination A (columnK k) (listed diffK M.chain.s))) ks ≡ 0
    total_zero z [] = refl
    total_zero z (k ∷ ks) = let a = zeros_weight G (columnK k) (listed diffK M.chain.s) z in let b = total_zero z ks in omega arith

    diff_length : (i : ℕ) → i < M.chain.s → length (diffK (suc i)) ≤ M.chain.m
    diff_length i h =
        let a = part_length xs wx i h in
        let b = part_length ys wy i h in
        let c = length_times G (A.neg A.one) (partK ys wy (suc i)) in
        let d = length_plus G (partK xs wx (suc i)) (times A (A.neg A.one) (partK ys wy (suc i))) in
        omega arith

    -- the words of a level whose difference is not zero differ in at least as many places as the level's distance
    level_weight : (i : ℕ) → i < M.chain.s → (Zeros A (diffK (suc i)) → ⊥) → M.chain.distance (suc i) ≤ weight G (diffK (suc i))
    level_weight i h n =
        let X = partK xs wx (suc i) in
        let Y = partK ys wy (suc i) in
        let far = chain.apart (suc i) (record { from = omega arith; to = h }) (part M xs (suc i)) (part M ys (suc i)) (of_level xs wx i h) (of_level ys wy i h)
        (λ e. n (subst (λ z. Zeros A z) (sym (less_minus G X Y ∙ ap (λ z. minus A X z) (ap (map (to F laws)) (sym e)))) (minus_itself G X))) in
        let w : distance (part M xs (suc i)) (part M ys (suc i)) ≡ weight G (diffK (suc i))
        = ap₂ distance (sym (part_val xs wx i h)) (sym (part_val ys wy i h)) ∙ vals_distance F laws X Y
        ∙ distance_weight G X Y (part_length xs wx i h ∙ sym (part_length ys wy i h)) ∙ ap (weight G) (sym (less_minus G X Y)) in
        omega arith

    far_enough : AllByRecursion (Zeros A) (listed diffK M.chain.s) ⊎ Last G diffK M.chain.s → codeword M xs ≢ codeword M ys → d_of M ≤ distance (codeword M xs) (codeword M ys)
    far_enough (inl z) n = absurd (n (distance_zero eqb eqb_tells _ _ (codeword_distance ∙ total_zero z (range 0 M.l))))
    far_enough (inr last) n =
        let r = last.before in
        let h = last.within in
        let js = range 0 M.l in
        let us = listed diffK r in
        let w = diffK (suc r) in
        let lu = length_listed diffK r in
        let lj = length_range 0 M.l in
        let fits : AllByRecursion (λ v. length v ≤ M.chain.m) (us ++ (w ∷ last.rest)) = subst (AllByRecursion (λ v. length v ≤ M.chain.m)) last.is (all_listed (λ v. length v ≤ M.chain.m) diffK M.chain.s diff_length) in
        let many = blocks_weight G M.chain.s columnK (Among js) good js (range_different 0 M.l) (among_itself js) M.chain.m us w last.rest (omega arith) last.zeros fits (diff_length r h) in
        let sums : sum_of (λ k. weight G (combination A (columnK k) (us ++ (w ∷ last.rest)))) js ≡ total = ap (λ ds. sum_of (λ k. weight G (combination A (columnK k) ds)) js) (sym last.is) in
        let least = least_below (λ i. (M.l - i + 1) * M.chain.distance i) M.chain.s (suc r) (omega arith) h in
        let narrow = s.narrow in
        let columns : M.l - suc r + 1 ≡ length js - length us = omega arith in
        let main : (M.l - suc r + 1) * M.chain.distance (suc r) ≤ (length js - length us) * weight G w
        = subst (λ a. (M.l - suc r + 1) * M.chain.distance (suc r) ≤ a * weight G w) columns (mul-le-mul (let z : M.l - suc r + 1 ≤ M.l - suc r + 1 = omega arith in z) (level_weight r h last.there)) in
        let swap = mul_comm (length js - length us) (weight G w) in
        let dist = codeword_distance in
        omega arith

  apart : (v w : List ℕ) → IsCodeword M v → IsCodeword M w → (v ≡ w → ⊥) → d_of M ≤ distance v w
  apart v w (xs, wx, ex) (ys, wy, ey) n =
      subst (λ a. d_of M ≤ distance a w) ex (subst (λ b. d_of M ≤ distance (codeword M xs) b) ey
      (far_enough xs ys wx wy (find_last G (diffK xs ys wx wy) M.chain.s) (λ e. n (sym ex ∙ e ∙ ey))))

  some : 0 < d_of M
  some =
      least_some (λ i. (M.l - i + 1) * M.chain.distance i) M.chain.s (positive 1 (omega arith) chain.s_least) positive
    where
      positive : (i : ℕ) → 1 ≤ i → i ≤ M.chain.s → 0 < (M.l - i + 1) * M.chain.distance i
      positive i l h =
          let a : 1 ≤ M.l - i + 1 = omega arith in
          let b : 1 ≤ M.chain.distance i = chain.distance_least i (record { from = l; to = h }) in
          let c : 1 * 1 ≤ (M.l - i + 1) * M.chain.distance i = mul-le-mul a b in
          omega arith

  pub separated : Separated M
  separated = record { apart = apart; one_near = λ b v w cv cw nv nw. nearest_only_half eqb eqb_tells (IsCodeword M) (d_of M) some apart b v w cv cw nv nw }

-- of every code without a flaw
pub separates : (M : Meaning) → (M.chain.flaw ≡ None → IsChain M.chain) → Separates M
separates M lawful e = let s = sound M e in separated M s (lawful s.none)
