-- The table of weights as it is filled: the rows of the present positions, and then those of the lost ones.
use Rattle.std.proofs.Common.{◌≡◌, ℕ, zero, suc, ◌+◌, ◌<◌, ◌≤◌, ◌==◌, if◌then◌else◌, List, [], length, get_or, set, replicate, cond, All, refl, sym, ap, subst, ◌∙◌, ⊎_elim, arith}
use Rattle.std.specs.List.Sorted.{IsStrictlyIncreasing}
use Rattle.std.proofs.lemmas.Bool.{cases_eq, eq-eqb, ne_eqb}
use Rattle.std.proofs.lemmas.List.{get_or-set_same, get_or-set_other, length-set, length-replicate}
use Rattle.std.proofs.lemmas.List.Elements.{All-set, All-replicate}
use Rattle.cb_gf256.specs.Rows.{row_at, byte_at, HaveLength}
use Rattle.cb_gf256.specs.Lagrange.{IsLagrangeFactor}
use Rattle.cb_gf256.specs.Split.{Splits}
use Rattle.cb_gf256.proofs.PublicLaws.{ascending_apart}
use Rattle.cb_erase.proofs.Writes.{placed_more}

-- the row is 1 at place i and 0 elsewhere
abbrev pub IsUnit : ℕ → List ℕ → Type 0
IsUnit i row = (j : ℕ) → j < 16 → get_or row j 0 ≡ (if j == i then 1 else 0)

-- the row has the factors of the present rows for the lost position at e
abbrev pub HasFactors : List ℕ → List ℕ → ℕ → List ℕ → Type 0
HasFactors present lost e row = (i : ℕ) → i < length present → IsLagrangeFactor (length lost) (λ m. get_or lost m 0) e (get_or present i 0) (get_or row i 0)

-- the rows of the first i present positions are units
pub record Units (present : List ℕ) (table : List (List ℕ)) (i : ℕ) : Type 0 where
  pub height : length table ≡ 20
  pub width : HaveLength 16 table
  pub units : (m : ℕ) → m < i → IsUnit m (row_at table (get_or present m 0))

pub units_more : (present : List ℕ) (table : List (List ℕ)) (i : ℕ) (row : List ℕ) → IsStrictlyIncreasing present → All (λ p. p < 20) present → i < length present → Units present table i → length row ≡ 16 → IsUnit i row → Units present (set table (get_or present i 0) row) (i + 1)
units_more present table i row ascend below l h size unit =
    let p = get_or present i 0 in
    record {
      height = length-set table p row ∙ h.height;
      width = All-set (λ x. length x ≡ 16) table p row size h.width;
      units =
          placed_more IsUnit (λ m. get_or present m 0) table i row [] (omega (arith, h.height, below i 0 l))
          (λ m k same. omega (arith, ascending_apart present ascend m i k l)) h.units unit;
    }

-- the rows of the present positions are units, and those of the first e lost positions have their factors
pub record Filled (present lost : List ℕ) (table : List (List ℕ)) (e : ℕ) : Type 0 where
  pub height : length table ≡ 20
  pub width : HaveLength 16 table
  pub units : (i : ℕ) → i < length present → IsUnit i (row_at table (get_or present i 0))
  pub factors : (m : ℕ) → m < e → HasFactors present lost m (row_at table (get_or lost m 0))

pub filled_none : (present lost : List ℕ) (table : List (List ℕ)) → length table ≡ 20 → HaveLength 16 table → ((i j : ℕ) → i < length present → j < 16 → byte_at table (get_or present i 0) j ≡ (if j == i then 1 else 0)) → Filled present lost table 0
filled_none present lost table height width units = record {
  height = height;
  width = width;
  units = λ i l j m. units i j l m;
  factors = λ m l. absurd (omega arith);
}

pub filled_more : (k r : ℕ) (present lost : List ℕ) (table : List (List ℕ)) (e : ℕ) (row : List ℕ) → k + r ≤ 20 → length present ≡ k → length lost ≡ r → Splits (k + r) k r (λ i. get_or present i 0) (λ x. get_or lost x 0) → e < r → Filled present lost table e → length row ≡ 16 → HasFactors present lost e row → Filled present lost (set table (get_or lost e 0) row) (e + 1)
filled_more k r present lost table e row small pc lc split l h size factors =
    let p = get_or lost e 0 in
    record {
      height = length-set table p row ∙ h.height;
      width = All-set (λ x. length x ≡ 16) table p row size h.width;
      units = λ i m. subst (IsUnit i) (sym (get_or-set_other table p (get_or present i 0) row [] (split.apart i e (omega arith) l))) (h.units i m);
      factors =
          placed_more (HasFactors present lost) (λ m. get_or lost m 0) table e row [] (omega (arith, h.height, split.lost_below e l))
          (λ m k same. omega (arith, split.lost_ascend m e k l)) h.factors factors;
    }

-- ---- rows and tables of zeros
zeros : (n j : ℕ) → get_or {A = ℕ} (replicate n 0) j 0 ≡ 0
zeros zero j = refl
zeros (suc n) zero = refl
zeros (suc n) (suc j) = zeros n j

pub unit_of_zeros : (n i j : ℕ) → i < n → get_or {A = ℕ} (set (replicate n 0) i 1) j 0 ≡ (if j == i then 1 else 0)
unit_of_zeros n i j l =
    ⊎_elim
    (λ same.
    ap (λ k. get_or {A = ℕ} (set (replicate n 0) i 1) k 0) same
    ∙ get_or-set_same (replicate n 0) i 1 0 (omega (arith, length-replicate {A = ℕ} n 0)) ∙ sym (ap (λ b. cond b 1 0) (eq-eqb j i same)))
    (λ other. get_or-set_other (replicate n 0) i j 1 0 other ∙ zeros n j ∙ sym (ap (λ b. cond b 1 0) (ne_eqb j i other)))
    (cases_eq j i)

pub units_none : (present : List ℕ) → Units present (replicate 20 (replicate 16 0)) 0
units_none present = record {
  height = refl;
  width = All-replicate (λ row. length row ≡ 16) 20 (replicate 16 0) refl;
  units = λ m l. absurd (omega arith);
}
