-- The distance is a metric on words, and a word has at most one codeword within half the minimum distance. Assumes nothing.
use Rattle.std.proofs.Common.{◌≡◌, ℕ, suc, ◌+◌, ◌-◌, ◌/◌, ◌<◌, ◌≤◌, Bool, true, false, T, eqb, ◌≢◌, List, [], ◌∷◌, ◌++◌, map, length, sym, refl, ap, ◌∙◌, subst, ap₂, arith, eqb→eq}
use native.Mathlib.Decide.{ℕ_discrete}
use lib.Dec.{eqb_refl}
use Rattle.field.specs.Places.{unless, distance_by, Tells}

pub bool_path : (b c : Bool) → (T b → T c) → (T c → T b) → b ≡ c
bool_path true true f g = refl
bool_path true false f g = absurd (f tt)
bool_path false true f g = absurd (g tt)
bool_path false false f g = refl

-- the test of equality of symbols
pub eqb_tells : Tells eqb
eqb_tells = record { equal = eqb→eq; itself = eqb_refl }

pub unless_add : (b : Bool) (i j k : ℕ) → k ≡ i + j → unless b k ≡ unless b i + j
unless_add true i j k e = e
unless_add false i j k e = omega arith

pub none_step : (b : Bool) (n : ℕ) → unless b n ≡ 0 → T b × (n ≡ 0)
none_step true n e = (tt, e)
none_step false n e = absurd (omega arith)

most_step : (b : Bool) (i n : ℕ) → i ≤ n → unless b i ≤ suc n
most_step true i n l = omega arith
most_step false i n l = omega arith

module _ {X : Type 0} where
  pub distance_append : (same : X → X → Bool) (xs ys us vs : List X) → length xs ≡ length us → distance_by same (xs ++ ys) (us ++ vs) ≡ distance_by same xs us + distance_by same ys vs
  distance_append same [] ys [] vs e = omega arith
  distance_append same [] ys (u ∷ us) vs e = absurd (omega arith)
  distance_append same (x ∷ xs) ys [] vs e = absurd (omega arith)
  distance_append same (x ∷ xs) ys (u ∷ us) vs e = unless_add (same x u) _ _ _ (distance_append same xs ys us vs (omega arith))

  -- two words of one length differ in no more places than they have
  pub distance_most : (same : X → X → Bool) (xs ys : List X) → length xs ≡ length ys → distance_by same xs ys ≤ length xs
  distance_most same [] ys e = omega arith
  distance_most same (x ∷ xs) [] e = omega arith
  distance_most same (x ∷ xs) (y ∷ ys) e = most_step (same x y) _ _ (distance_most same xs ys (omega arith))

triangle_step : (a b c : Bool) (i j k : ℕ) → (T a → T b → T c) → k ≤ i + j → unless c k ≤ unless a i + unless b j
triangle_step true true true i j k f l = l
triangle_step true true false i j k f l = absurd (f tt tt)
triangle_step true false true i j k f l = omega arith
triangle_step true false false i j k f l = omega arith
triangle_step false true true i j k f l = omega arith
triangle_step false true false i j k f l = omega arith
triangle_step false false true i j k f l = omega arith
triangle_step false false false i j k f l = omega arith

surplus_step : (b : Bool) (i n m : ℕ) → n ≤ m + i → suc n ≤ suc m + unless b i
surplus_step true i n m l = omega arith
surplus_step false i n m l = omega arith

over_step : (b : Bool) (i n m : ℕ) → n ≤ i + m → suc n ≤ unless b i + suc m
over_step true i n m l = omega arith
over_step false i n m l = omega arith

between_step : (b : Bool) (k n m : ℕ) → k ≤ n + m → unless b k ≤ suc n + suc m
between_step true k n m l = omega arith
between_step false k n m l = omega arith

module _ {X : Type 0} (same : X → X → Bool) (tells : Tells same) where
  pub same_sym : (a b : X) → same a b ≡ same b a
  same_sym a b =
      bool_path (same a b) (same b a)
      (λ t. subst (λ z. T (same z a)) (tells.equal a b t) (tells.itself a))
      (λ t. subst (λ z. T (same z b)) (tells.equal b a t) (tells.itself b))

  pub distance_sym : (xs ys : List X) → distance_by same xs ys ≡ distance_by same ys xs
  distance_sym [] [] = refl
  distance_sym [] (y ∷ ys) = refl
  distance_sym (x ∷ xs) [] = refl
  distance_sym (x ∷ xs) (y ∷ ys) = ap (λ b. unless b (distance_by same xs ys)) (same_sym x y) ∙ ap (unless (same y x)) (distance_sym xs ys)

  -- distance 0 is equality
  pub distance_zero : (xs ys : List X) → distance_by same xs ys ≡ 0 → xs ≡ ys
  distance_zero [] [] e = refl
  distance_zero [] (y ∷ ys) e = absurd (omega arith)
  distance_zero (x ∷ xs) [] e = absurd (omega arith)
  distance_zero (x ∷ xs) (y ∷ ys) e =
      let s = none_step (same x y) (distance_by same xs ys) e in
      ap₂ ◌∷◌ (tells.equal x y s.0) (distance_zero xs ys s.1)

  itself_step : (b : Bool) (n : ℕ) → T b → n ≡ 0 → unless b n ≡ 0
  itself_step true n t e = e
  itself_step false n t e = absurd t

  pub distance_itself : (xs : List X) → distance_by same xs xs ≡ 0
  distance_itself [] = refl
  distance_itself (x ∷ xs) = itself_step (same x x) _ (tells.itself x) (distance_itself xs)

  nothing_between : (xs : List X) → distance_by same xs [] ≡ length xs
  nothing_between [] = refl
  nothing_between (x ∷ xs) = refl

  reach : (ys zs : List X) → length zs ≤ length ys + distance_by same ys zs
  reach [] zs = omega arith
  reach (y ∷ ys) [] = omega arith
  reach (y ∷ ys) (z ∷ zs) = surplus_step (same y z) _ _ _ (reach ys zs)

  reach_back : (xs ys : List X) → length xs ≤ distance_by same xs ys + length ys
  reach_back xs ys = let h = reach ys xs in let s = distance_sym xs ys in omega arith

  pub triangle : (xs ys zs : List X) → distance_by same xs zs ≤ distance_by same xs ys + distance_by same ys zs
  triangle [] ys zs = reach ys zs
  triangle (x ∷ xs) [] [] = omega arith
  triangle (x ∷ xs) [] (z ∷ zs) =
      let a = triangle xs [] zs in
      let b = nothing_between xs in
      between_step (same x z) _ _ _ (omega arith)
  triangle (x ∷ xs) (y ∷ ys) [] = over_step (same x y) _ _ _ (reach_back xs ys)
  triangle (x ∷ xs) (y ∷ ys) (z ∷ zs) =
      triangle_step (same x y) (same y z) (same x z) _ _ _
      (λ p q. subst (λ w. T (same x w)) (tells.equal y z q) p)
      (triangle xs ys zs)

  pub words_same? : (xs ys : List X) → Dec (xs ≡ ys)
  words_same? xs ys = go (ℕ_discrete (distance_by same xs ys) 0)
    where
      go : Dec (distance_by same xs ys ≡ 0) → Dec (xs ≡ ys)
      go (yes e) = yes (distance_zero xs ys e)
      go (no n) = no (λ e. n (subst (λ z. distance_by same xs z ≡ 0) e (distance_itself xs)))

  -- In a set of words whose different members have distance at least d, at most one lies within t of a word, if 2t < d.
  pub nearest_only : (C : List X → Type 0) (d t : ℕ) → ((u v : List X) → C u → C v → u ≢ v → d ≤ distance_by same u v) → t + t < d → (y u v : List X) → C u → C v → distance_by same u y ≤ t → distance_by same v y ≤ t → u ≡ v
  nearest_only C d t apart l y u v cu cv a b = go (words_same? u v)
    where
      go : Dec (u ≡ v) → u ≡ v
      go (yes e) = e
      go (no n) =
          let p = apart u v cu cv n in
          let q = triangle u y v in
          let s = distance_sym y v in
          absurd (omega arith)

  pub nearest_only_half : (C : List X → Type 0) (d : ℕ) → 0 < d → ((u v : List X) → C u → C v → u ≢ v → d ≤ distance_by same u v) → (y u v : List X) → C u → C v → distance_by same u y ≤ (d - 1) / 2 → distance_by same v y ≤ (d - 1) / 2 → u ≡ v
  nearest_only_half C d p apart y u v cu cv a b = nearest_only C d ((d - 1) / 2) apart (omega arith) y u v cu cv a b

-- a map that keeps different elements different keeps the distance
module _ {X Y : Type 0} (same : X → X → Bool) (tells : Tells same) (also : Y → Y → Bool) (tells_also : Tells also) (h : X → Y) (injective : (a b : X) → h a ≡ h b → a ≡ b) where
  same_map : (a b : X) → also (h a) (h b) ≡ same a b
  same_map a b =
      bool_path (also (h a) (h b)) (same a b)
      (λ t. subst (λ z. T (same a z)) (injective a b (tells_also.equal (h a) (h b) t)) (tells.itself a))
      (λ t. subst (λ z. T (also (h a) (h z))) (tells.equal a b t) (tells_also.itself (h a)))

  pub distance_map : (xs ys : List X) → distance_by also (map h xs) (map h ys) ≡ distance_by same xs ys
  distance_map [] [] = refl
  distance_map [] (y ∷ ys) = ap suc (distance_map [] ys)
  distance_map (x ∷ xs) [] = ap suc (sym (empty_right (map h xs)) ∙ distance_map xs [] ∙ empty_same xs)
    where
      empty_right : (zs : List Y) → distance_by also zs [] ≡ length zs
      empty_right [] = refl
      empty_right (z ∷ zs) = refl

      empty_same : (zs : List X) → distance_by same zs [] ≡ length zs
      empty_same [] = refl
      empty_same (z ∷ zs) = refl
  distance_map (x ∷ xs) (y ∷ ys) = ap (λ b. unless b (distance_by also (map h xs) (map h ys))) (same_map x y) ∙ ap (unless (same x y)) (distance_map xs ys)
