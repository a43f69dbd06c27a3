-- Pieces of n elements each, one behind the other, of which one is changed.
use Rattle.std.proofs.Common.{◌≡◌, ℕ, zero, suc, ◌+◌, ◌*◌, ◌<◌, ◌≤◌, List, [], ◌∷◌, ◌++◌, length, get_or, slice_set, take, refl, sym, ap, ◌∙◌, arith}
use Rattle.std.proofs.Math.Nat.{mul-suc}
use Rattle.std.proofs.lemmas.List.{get_or-append-add, get_or_append_left, length-append, set-append_left}
use Rattle.std.specs.List.{AllByRecursion, flat_map}

-- a place in a later piece, by the pieces' size s: p and q are the sizes of o and o + 1 of them
place_on : (p q n j s : ℕ) → q ≡ p + s → n ≡ s → n + (p + j) ≡ q + j
place_on p q n j s more long = omega (arith, more, long)

module _ {Y : Type 0} where
  pub set_behind : (xs ys : List Y) (i : ℕ) (x : Y)
      → slice_set (xs ++ ys) (length xs + i) x ≡ xs ++ slice_set ys i x
  set_behind [] ys i x = let z : 0 + i ≡ i = omega arith in ap (λ (n : ℕ). slice_set ys n x) z
  set_behind (y ∷ xs) ys i x =
      let z : suc (length xs) + i ≡ suc (length xs + i) = omega arith in
      ap (λ (n : ℕ). slice_set (y ∷ (xs ++ ys)) n x) z
      ∙ ap (λ (l : List Y). y ∷ l) (set_behind xs ys i x)

  pub take_set : (l : List Y) (n i : ℕ) (x : Y)
      → take n (slice_set l i x) ≡ slice_set (take n l) i x
  take_set [] zero i x = refl
  take_set [] (suc n) i x = refl
  take_set (y ∷ l) zero i x = by i
    where
      by : (i : ℕ) → take 0 (slice_set (y ∷ l) i x) ≡ slice_set (take 0 (y ∷ l)) i x
      by zero = refl
      by (suc i) = refl
  take_set (y ∷ l) (suc n) zero x = refl
  take_set (y ∷ l) (suc n) (suc i) x = ap (λ (m : List Y). y ∷ m) (take_set l n i x)

  -- one more is set and taken
  pub take_more : (l : List Y) (n : ℕ) (x : Y) → n < length l
      → take (suc n) (slice_set l n x) ≡ take n l ++ x ∷ []
  take_more [] n x within = absurd (omega (arith, within))
  take_more (y ∷ l) zero x within = refl
  take_more (y ∷ l) (suc n) x within =
      ap (λ (m : List Y). y ∷ m) (take_more l n x (omega (arith, within)))

  pub take_back : (xs ys : List Y) → take (length xs) (xs ++ ys) ≡ xs
  take_back [] ys = refl
  take_back (x ∷ xs) ys = ap (λ (m : List Y). x ∷ m) (take_back xs ys)

  pub take_less : (l : List Y) (n m : ℕ) → m ≤ n → take m (take n l) ≡ take m l
  take_less [] zero m less = refl
  take_less [] (suc n) m less = refl
  take_less (y ∷ l) zero zero less = refl
  take_less (y ∷ l) zero (suc m) less = absurd (omega (arith, less))
  take_less (y ∷ l) (suc n) zero less = refl
  take_less (y ∷ l) (suc n) (suc m) less =
      ap (λ (r : List Y). y ∷ r) (take_less l n m (omega (arith, less)))

-- pieces of so many that the functions f and g give
module _ {X Y : Type 0} (size : ℕ) (f g : X → List Y) where
  -- a piece of this length, which both give
  abbrev pub IsPiece : X → Type 0
  IsPiece z = (length (f z) ≡ size) × (g z ≡ f z)

  pub same_pieces : (xs : List X) → AllByRecursion IsPiece xs → flat_map g xs ≡ flat_map f xs
  same_pieces [] all = refl
  same_pieces (z ∷ xs) all = (λ i. all.0.1 i ++ same_pieces xs all.1 i)

  pub pieces_length : (xs : List X) → AllByRecursion IsPiece xs
      → length (flat_map f xs) ≡ size * length xs
  pieces_length [] all = let z : 0 ≡ size * 0 = omega arith in z
  pieces_length (z ∷ xs) all =
      length-append (f z) (flat_map f xs)
      ∙ both (length (f z)) (length (flat_map f xs)) (size * length xs) (size * suc (length xs))
      all.0.0 (pieces_length xs all.1) (mul-suc size (length xs))
    where
      both : (n m p q : ℕ) → n ≡ size → m ≡ p → q ≡ p + size → n + m ≡ q
      both n m p q a b e = omega (arith, a, b, e)

  pub set_piece : (xs : List X) (o j : ℕ) (x : Y) (y d : X) → AllByRecursion IsPiece xs
      → o < length xs → j < size → g y ≡ slice_set (f (get_or xs o d)) j x
      → flat_map g (slice_set xs o y) ≡ slice_set (flat_map f xs) (size * o + j) x
  set_piece [] o j x y d all within low is = absurd (omega (arith, within))
  set_piece (z ∷ xs) zero j x y d all within low is =
      let long = all.0.0 in
      (λ i. is i ++ same_pieces xs all.1 i)
      ∙ sym (set-append_left (f z) (flat_map f xs) j x (omega (arith, low, long)))
      ∙ (let e : j ≡ size * 0 + j = omega arith in
      ap (λ (n : ℕ). slice_set (f z ++ flat_map f xs) n x) e)
  set_piece (z ∷ xs) (suc o) j x y d all within low is =
      let long = all.0.0 in
      (λ i. all.0.1 i ++ set_piece xs o j x y d all.1 (omega (arith, within)) low is i)
      ∙ sym (set_behind (f z) (flat_map f xs) (size * o + j) x)
      ∙ ap (λ (n : ℕ). slice_set (f z ++ flat_map f xs) n x)
      (place_on (size * o) (size * suc o) (length (f z)) j size (mul-suc size o) long)

  -- the element at a place, in its piece
  pub get_piece : (xs : List X) (o j : ℕ) (d : X) (e : Y) → AllByRecursion IsPiece xs
      → o < length xs → j < size
      → get_or (flat_map f xs) (size * o + j) e ≡ get_or (f (get_or xs o d)) j e
  get_piece [] o j d e all within low = absurd (omega (arith, within))
  get_piece (z ∷ xs) zero j d e all within low =
      let long = all.0.0 in
      (let same : size * 0 + j ≡ j = omega arith in
      ap (λ (n : ℕ). get_or (f z ++ flat_map f xs) n e) same)
      ∙ get_or_append_left (f z) (flat_map f xs) e j (omega (arith, low, long))
  get_piece (z ∷ xs) (suc o) j d e all within low =
      let long = all.0.0 in
      ap (λ (n : ℕ). get_or (f z ++ flat_map f xs) n e)
      (sym (place_on (size * o) (size * suc o) (length (f z)) j size (mul-suc size o) long))
      ∙ get_or-append-add (f z) (flat_map f xs) (size * o + j) e
      ∙ get_piece xs o j d e all.1 (omega (arith, within)) low
