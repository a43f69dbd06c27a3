-- What the operations on blocks of bytes hold at each lane.
use Rattle.std.proofs.Common.{◌≡◌, ℕ, zero, suc, ◌+◌, ◌*◌, ◌/◌, ◌%◌, ◌^◌, ◌<◌, List, [], ◌∷◌, Bool, true, false, cond, eqb, length, get_or, map, replicate, refl, sym, ap, ◌∙◌, arith, w8, Fits, not, ◌↔◌, ◌≤◌, eq-eqb}
use Rattle.std.proofs.lemmas.Bool.{eqb-true, eqb-false}
use Rattle.std.proofs.lemmas.List.{length-map}
use Rattle.std.proofs.lemmas.Simd.{mask_l-mod}
use lib.Lanes.{mask_l, top}
use Rattle.std.specs.Simd.Lanes.{zip2, sel_l, Each1}
use Rattle.std.proofs.lemmas.Simd.{length-replicate, length-zip2, get_or-zip2, get_or-replicate, length-sel_l, get_or-sel_l, length-swz_l, get_or-swz_l_below, swz_l, SwzOk, SwzOk-from_below, Each1-from_get_or, Each1-get_or}
use Rattle.cb_gf256.specs.Lanes.{AreLanes, HasLanes}

-- an operator on two blocks
pub HasLanes-zip2 : {n : ℕ} (f : ℕ → ℕ → ℕ) (a b : List ℕ) → length a ≡ n → length b ≡ n → AreLanes n (zip2 f a b) (λ l. f (get_or a l 0) (get_or b l 0))
HasLanes-zip2 {n} f a b p q = record {
  count = length-zip2 f a b (p ∙ sym q) ∙ p;
  each = λ k l. get_or-zip2 f a b k 0 0 0 (omega arith) (omega arith);
}

-- an operator on a block and a splat
pub HasLanes-splat : {n : ℕ} (f : ℕ → ℕ → ℕ) (a : List ℕ) (x : ℕ) → length a ≡ n → AreLanes n (zip2 f a (replicate n x)) (λ l. f (get_or a l 0) x)
HasLanes-splat {n} f a x p =
    let h = HasLanes-zip2 f a (replicate n x) p (length-replicate n x) in
    record { count = h.count; each = λ k l. h.each k l ∙ ap (f (get_or a k 0)) (get_or-replicate n k x 0 l) }

-- a choice of two splats by the comparison of a splat with a block
pub HasLanes-select : (t : ℕ → ℕ → Bool) (a : List ℕ) (x y z : ℕ) → length a ≡ 32
    → AreLanes 32 (sel_l (zip2 t (replicate 32 x) a) (replicate 32 y) (replicate 32 z)) (λ l. cond (t x (get_or a l 0)) y z)
HasLanes-select t a x y z p =
    let long : length (zip2 t (replicate 32 x) a) ≡ 32 = length-zip2 t (replicate 32 x) a (sym p) in
    record {
      count = length-sel_l _ (replicate 32 y) (replicate 32 z) long long ∙ long;
      each = λ k l.
          get_or-sel_l _ (replicate 32 y) (replicate 32 z) k 0 (omega arith) l l
          ∙ (λ i. cond ((get_or-zip2 t (replicate 32 x) a k 0 0 false l (omega arith) ∙ ap (λ n. t n (get_or a k 0)) (get_or-replicate 32 k x 0 l)) i) (get_or-replicate 32 k y 0 l i) (get_or-replicate 32 k z 0 l i));
    }

pub lane_fits : {n : ℕ} (v : List ℕ) → length v ≡ n → Each1 (Fits w8) v → (l : ℕ) → l < n → get_or v l 0 < 256
lane_fits {n} v long fits l h = (Each1-get_or (Fits w8) v l 0 (omega arith) fits).fits

module _ (js : List ℕ) (f : ℕ → ℕ) (h : HasLanes js f) (small : (k : ℕ) → k < 64 → f k < 16) where
  -- positions below 16 may be looked up
  pub SwzOk-halves : SwzOk w8 16 64 0 js
  SwzOk-halves =
      let long = h.count in
      SwzOk-from_below w8 16 4 64 0 js refl (omega arith) (Each1-from_get_or (λ j. j < 16) js 0 (λ i l. omega (arith, h.each i (omega arith), small i (omega arith))))

  HasLanes-swz_l : (table : List ℕ) → HasLanes (swz_l w8 16 table 0 js) (λ k. get_or table (16 * (k / 16) + f k) 0)
  HasLanes-swz_l table =
      let long = h.count in
      record {
        count = length-swz_l w8 16 table 0 js ∙ long;
        each = λ k l.
            let e = h.each k l in
            get_or-swz_l_below w8 16 table 0 js k (omega arith) (omega (arith, small k l)) ∙ ap (λ j. get_or table j 0) (omega arith);
      }

  -- what the look-up gives, in a block that holds the table twice
  pub HasLanes-look_up : {wide : List ℕ} (table : List ℕ) → HasLanes wide (λ k. get_or table (k % 16) 0) → HasLanes (swz_l w8 16 wide 0 js) (λ k. get_or table (f k) 0)
  HasLanes-look_up {wide} table twice =
      let got = HasLanes-swz_l wide in
      record {
        count = got.count;
        each = λ k l.
            let below = small k l in
            got.each k l ∙ twice.each (16 * (k / 16) + f k) (omega arith) ∙ ap (λ j. get_or table j 0) (omega arith);
      }

-- ---- the test of a block for zeros
abbrev pub differs : ℕ → ℕ → ℕ
differs a b = cond (not (eqb a b)) 255 0

flag : (x : ℕ) → (◌≡◌ {A = ℕ} (cond (top 7 (differs x 0)) 1 0) 0) ↔ (x ≡ 0)
flag x = go (eqb x 0) refl
  where
    go : (t : Bool) → eqb x 0 ≡ t → (◌≡◌ {A = ℕ} (cond (top 7 (cond (not t) 255 0)) 1 0) 0) ↔ (x ≡ 0)
    go true e = (λ _. eqb-true _ _ e, λ _. refl)
    go false e = (λ q. absurd (omega arith), λ z. absurd (eqb-false _ _ e z))

none_differ : (xs : List ℕ) → (mask_l (map (top 7) (zip2 differs xs (replicate (length xs) 0))) ≡ 0) ↔ ((l : ℕ) → l < length xs → get_or xs l 0 ≡ 0)
none_differ [] = (λ _ l h. refl, λ _. refl)
none_differ (x ∷ xs) =
    let r = none_differ xs in (
      λ e. elim [ zero ↦ λ h. (flag x).0 (omega arith) | suc l ↦ λ h. r.0 (omega arith) l (omega arith) ],
      λ h. omega (arith, (flag x).1 (h 0 (omega arith)), r.1 (λ l k. h (suc l) (omega arith))),
    )

pub zero_of_mask : (xs : List ℕ) → length xs ≡ 64 → (eqb (mask_l (map (top 7) (zip2 differs xs (replicate 64 0))) % 2 ^ 64) 0 ≡ true) ↔ ((l : ℕ) → l < 64 → get_or xs l 0 ≡ 0)
zero_of_mask xs long =
    let size : length (map (top 7) (zip2 differs xs (replicate 64 0))) ≤ 64 = omega (arith, length-map (zip2 differs xs (replicate 64 0)) (top 7), length-zip2 differs xs (replicate 64 0) long) in
    let e = mask_l-mod _ 64 size ∙ ap (λ n. mask_l (map (top 7) (zip2 differs xs (replicate n 0)))) (sym long) in (
      λ t l h. (none_differ xs).0 (sym e ∙ eqb-true _ _ t) l (omega arith),
      λ z. eq-eqb _ _ (e ∙ (none_differ xs).1 (λ l h. z l (omega arith))),
    )
