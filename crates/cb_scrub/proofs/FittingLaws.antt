-- Syndromes that fit a position, one column or block after another.
use Rattle.std.proofs.Common.{◌≡◌, ℕ, zero, suc, ◌+◌, ◌-◌, ◌*◌, ◌<◌, ◌≤◌, Bool, true, false, IsTrue, ◌↔◌, List, [], ◌∷◌, get_or, sym, ap, ap₂, subst, ◌∙◌, ⊎_elim, arith}
use Rattle.std.proofs.Math.Nat.{mul-zero, mul-one}
use Rattle.std.proofs.lemmas.Bool.{cases_lt}
use Rattle.cb_gf256.specs.Sum.{◌⊕◌}
use Rattle.cb_gf256.specs.Product.{◌⊗◌}
use Rattle.cb_gf256.specs.Power.{power}
use Rattle.cb_gf256.specs.CodeWord.{syndrome}
use Rattle.cb_gf256.specs.Lanes.{HasLanes}
use Rattle.cb_gf256.proofs.PublicLaws.{same_from_zero_sum, sum_with_itself}
use Rattle.cb_scrub.specs.Fitting.{FitsAt, FitsColumns}

pub fits_more : (r p from at : ℕ) (rows : List (List ℕ)) → FitsColumns r rows p from at → FitsAt r rows p at → FitsColumns r rows p from (at + 1)
fits_more r p from at rows h here x l m =
    ⊎_elim (λ before. h x l before) (λ after. let same : at ≡ x = omega arith in subst (FitsAt r rows p) same here) (cases_lt x at)

pub fits_block : (r p from block : ℕ) (rows : List (List ℕ)) → FitsColumns r rows p from (block * 64) → FitsColumns r rows p (block * 64) (block * 64 + 64) → FitsColumns r rows p from ((block + 1) * 64)
fits_block r p from block rows h here x l m =
    ⊎_elim (λ before. h x l before) (λ after. here x after (omega arith)) (cases_lt x (block * 64))

-- a block by its lanes
pub fits_lanes : (r p at : ℕ) (rows : List (List ℕ)) → ((l j : ℕ) → l < 64 → 1 ≤ j → j < r → syndrome j rows (at + l) ≡ power 2 (p * j) ⊗ syndrome 0 rows (at + l)) → FitsColumns r rows p at (at + 64)
fits_lanes r p at rows h x from to j least below =
    let place : at + (x - at) ≡ x = omega arith in
    subst (λ column. syndrome j rows column ≡ power 2 (p * j) ⊗ syndrome 0 rows column) place (h (x - at) j (omega arith) least below)

-- the powers of a position's power of 2
pub powers_listed : (p a b c d : ℕ) → a ≡ power 2 0 → b ≡ power 2 p → c ≡ power 2 (p * 2) → d ≡ power 2 (p * 3) → (j : ℕ) → j < 4 → get_or (a ∷ b ∷ c ∷ d ∷ []) j 0 ≡ power 2 (p * j)
powers_listed p a b c d pa pb pc pd zero h = pa ∙ ap (power 2) (sym (mul-zero p))
powers_listed p a b c d pa pb pc pd (suc zero) h = pb ∙ ap (power 2) (sym (mul-one p))
powers_listed p a b c d pa pb pc pd (suc (suc zero)) h = pc
powers_listed p a b c d pa pb pc pd (suc (suc (suc zero))) h = pd
powers_listed p a b c d pa pb pc pd (suc (suc (suc (suc j)))) h = absurd (omega arith)

-- ---- one power in a block
pub lanes_fit : (j at c : ℕ) (rows : List (List ℕ)) (sum other product added : List ℕ) (clear : Bool) → HasLanes other (λ l. syndrome j rows (at + l)) → HasLanes product (λ l. c ⊗ get_or sum l 0)
    → HasLanes added (λ l. get_or other l 0 ⊕ get_or product l 0) → (IsTrue clear ↔ ((l : ℕ) → l < 64 → get_or added l 0 ≡ 0))
    → IsTrue clear ↔ ((l : ℕ) → l < 64 → syndrome j rows (at + l) ≡ c ⊗ get_or sum l 0)
lanes_fit j at c rows sum other product added clear o p a z = (
  λ t l k.
      sym (o.each l k) ∙ same_from_zero_sum (get_or other l 0) (get_or product l 0) (sym (a.each l k) ∙ z.0 t l k) ∙ p.each l k,
  λ h.
      z.1 (λ l k.
      a.each l k ∙ ap₂ ◌⊕◌ (o.each l k ∙ h l k) (p.each l k) ∙ sum_with_itself (c ⊗ get_or sum l 0)),
)

pub told_lane : (j p at l f : ℕ) (rows : List (List ℕ)) (sum : List ℕ) → HasLanes sum (λ x. syndrome 0 rows (at + x)) → f ≡ power 2 (p * j) → l < 64 → f ⊗ get_or sum l 0 ≡ power 2 (p * j) ⊗ syndrome 0 rows (at + l)
told_lane j p at l f rows sum h e k = ap₂ ◌⊗◌ e (h.each l k)

-- a test that fails refutes what would pass it
pub refuted : (b : Bool) (P : Type 0) → (P → b ≡ true) → b ≡ false → IsTrue false ↔ P
refuted b P h e = (λ t. absurd (differ t), λ p. absurd (differ (sym e ∙ h p)))
  where
    differ : false ≡ true → ⊥
    differ x = cc
