-- Worked examples of an order and of its patched parities: a value that meets each definition, and
-- for each of its parts one that breaks that part alone.
use Rattle.std.proofs.Common.{◌≡◌, ℕ, zero, suc, ◌<◌, List, [], ◌∷◌, length, get_or, refl, sym, ap, arith}
use Rattle.cb_gf256.specs.Product.{◌⊗◌}
use Rattle.cb_gf256.specs.Row.{row_sum, scaled_row}
use Rattle.cb_gf256.specs.Rows.{byte_at, row_at}
use Rattle.cb_gf256.specs.Sum.{◌⊕◌}
use Rattle.cb_local.specs.Adding.{IsDeltaAdded}
use Rattle.cb_local.specs.Delta.{ArePatched, IsOrder, added_byte}
use Rattle.cb_local.specs.declared.order.DeltaOrder.{DeltaOrder}

abbrev pub order_of : ℕ → ℕ → List ℕ → List (List ℕ) → List (List ℕ) → List (List ℕ) → DeltaOrder
order_of k r taken old new parities = record {
  set = 7;
  taken = taken;
  old = old;
  new = new;
  parities = parities;
  k = k;
  r = r;
}

-- a row of one byte
abbrev row : ℕ → List ℕ
row x = x ∷ []

abbrev order : DeltaOrder
order = order_of 1 1 (0 ∷ []) (row 0x01 ∷ []) (row 0x03 ∷ []) (row 0x0A ∷ [])

pub is_order : IsOrder order
is_order = record {
  range = record {
    data_least = omega arith;
    data_most = omega arith;
    parities_least = omega arith;
    parities_most = omega arith;
  };
  ascend = λ k l. absurd (omega (arith, l));
  below = first;
  old_count = refl;
  new_count = refl;
  parity_count = refl;
  old_wide = old_wide;
  new_wide = new_wide;
  parities_wide = parities_wide;
}
  where
    first : (i d : ℕ) → i < 1 → get_or (0 ∷ []) i d < 1
    first zero d l = omega arith
    first (suc i) d l = absurd (omega (arith, l))

    old_wide : (i : ℕ) (d : List ℕ) → i < 1 → length (get_or (row 0x01 ∷ []) i d) ≡ 1
    old_wide zero d l = refl
    old_wide (suc i) d l = absurd (omega (arith, l))

    new_wide : (i : ℕ) (d : List ℕ) → i < 1 → length (get_or (row 0x03 ∷ []) i d) ≡ 1
    new_wide zero d l = refl
    new_wide (suc i) d l = absurd (omega (arith, l))

    parities_wide : (i : ℕ) (d : List ℕ) → i < 1 → length (get_or (row 0x0A ∷ []) i d) ≡ 1
    parities_wide zero d l = refl
    parities_wide (suc i) d l = absurd (omega (arith, l))

no_code_without_parities : IsOrder (order_of 1 0 [] [] [] []) → ⊥
no_code_without_parities x = let l = x.range.parities_least in omega (arith, l)

not_taken_twice : IsOrder (order_of 1 1 (0 ∷ 0 ∷ []) (row 1 ∷ row 1 ∷ []) (row 3 ∷ row 3 ∷ [])
    (row 10 ∷ [])) → ⊥
not_taken_twice x = let l : 0 < 0 = x.ascend 0 (omega arith) in omega (arith, l)

no_parity_taken : IsOrder (order_of 1 1 (1 ∷ []) (row 1 ∷ []) (row 3 ∷ []) (row 10 ∷ [])) → ⊥
no_parity_taken x = let l : 1 < 1 = x.below 0 0 (omega arith) in omega (arith, l)

no_old_row_missing : IsOrder (order_of 1 1 (0 ∷ []) [] (row 3 ∷ []) (row 10 ∷ [])) → ⊥
no_old_row_missing x = let e : 0 ≡ 1 = x.old_count in omega (arith, e)

no_new_row_missing : IsOrder (order_of 1 1 (0 ∷ []) (row 1 ∷ []) [] (row 10 ∷ [])) → ⊥
no_new_row_missing x = let e : 0 ≡ 1 = x.new_count in omega (arith, e)

no_parity_more : IsOrder (order_of 1 1 (0 ∷ []) (row 1 ∷ []) (row 3 ∷ []) (row 10 ∷ row 10 ∷ []))
    → ⊥
no_parity_more x = let e : 2 ≡ 1 = x.parity_count in omega (arith, e)

no_long_old_row : IsOrder (order_of 1 1 (0 ∷ []) ((1 ∷ 1 ∷ []) ∷ []) (row 3 ∷ []) (row 10 ∷ [])) → ⊥
no_long_old_row x = let e : 2 ≡ 1 = x.old_wide 0 [] (omega arith) in omega (arith, e)

no_long_new_row : IsOrder (order_of 1 1 (0 ∷ []) (row 1 ∷ []) ((3 ∷ 3 ∷ []) ∷ []) (row 10 ∷ [])) → ⊥
no_long_new_row x = let e : 2 ≡ 1 = x.new_wide 0 [] (omega arith) in omega (arith, e)

no_long_parity : IsOrder
    (order_of 1 2 (0 ∷ []) (row 1 ∷ []) (row 3 ∷ []) (row 10 ∷ (10 ∷ 10 ∷ []) ∷ [])) → ⊥
no_long_parity x = let e : 2 ≡ 1 = x.parities_wide 1 [] (omega arith) in omega (arith, e)

-- ---- the parities, where the coefficient is 2: 0A and 2 times the sum of 01 and 03 are 0E
abbrev table : List (List ℕ)
table = row 0x02 ∷ []

added : added_byte table order 1 0 0 ≡ 0x04
unfolding ◌⊗◌
added = refl

byte_is : 0x0A ⊕ added_byte table order 1 0 0 ≡ 0x0E
unfolding ◌⊗◌
byte_is = refl

pub are_patched : ArePatched table order (row 0x0E ∷ [])
are_patched = record { count = refl; wide = wide; bytes = bytes }
  where
    wide : (i : ℕ) (d : List ℕ) → i < 1 → length (get_or (row 0x0E ∷ []) i d) ≡ 1
    wide zero d l = refl
    wide (suc i) d l = absurd (omega (arith, l))

    bytes : (j column : ℕ) → j < 1 → column < 1 → byte_at (row 0x0E ∷ []) j column
        ≡ byte_at (row 0x0A ∷ []) j column ⊕ added_byte table order 1 j column
    bytes zero zero l m = sym byte_is
    bytes zero (suc column) l m = absurd (omega (arith, m))
    bytes (suc j) column l m = absurd (omega (arith, l))

no_patched_more : ArePatched table order (row 0x0E ∷ row 0x0E ∷ []) → ⊥
no_patched_more x = let e : 2 ≡ 1 = x.count in omega (arith, e)

no_patched_long : ArePatched table order ((0x0E ∷ 0x0E ∷ []) ∷ []) → ⊥
no_patched_long x = let e : 2 ≡ 1 = x.wide 0 [] (omega arith) in omega (arith, e)

no_other_patched : ArePatched table order (row 0x0A ∷ []) → ⊥
no_other_patched x =
    let e : 0x0A ≡ 0x0A ⊕ added_byte table order 1 0 0 = x.bytes 0 0 (omega arith) (omega arith) in
    let f = byte_is in omega (arith, e, f)

-- ---- one delta
abbrev summed : List ℕ
summed = row_sum (row 0x0A) (scaled_row 0x02 (row 0x02))

summed_is : get_or summed 0 0 ≡ 0x0E
unfolding ◌⊗◌
summed_is = refl

pub is_added : IsDeltaAdded table 0 (row 0x02) (row 0x0A ∷ []) (summed ∷ [])
is_added = record { count = refl; rows = rows }
  where
    rows : (j : ℕ) → j < 1 → row_at (summed ∷ []) j
        ≡ row_sum (row_at (row 0x0A ∷ []) j) (scaled_row (byte_at table j 0) (row 0x02))
    rows zero l = refl
    rows (suc j) l = absurd (omega (arith, l))

no_added_more : IsDeltaAdded table 0 (row 0x02) (row 0x0A ∷ []) (summed ∷ summed ∷ []) → ⊥
no_added_more x = let e : 2 ≡ 1 = x.count in omega (arith, e)

no_other_added : IsDeltaAdded table 0 (row 0x02) (row 0x0A ∷ []) (row 0x0A ∷ []) → ⊥
no_other_added x =
    let e = ap (λ (l : List ℕ). get_or l 0 0) (x.rows 0 (omega arith)) in
    let f = summed_is in omega (arith, e, f)
