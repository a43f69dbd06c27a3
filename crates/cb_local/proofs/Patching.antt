-- The deltas of the taken positions, added one after another.
use Rattle.std.proofs.Common.{◌≡◌, ℕ, suc, ◌+◌, ◌<◌, List, [], length, get_or, sym, ap, ap₂, ◌∙◌, subst, arith}
use Rattle.cb_gf256.specs.Product.{◌⊗◌}
use Rattle.cb_gf256.specs.Row.{row_sum, scaled_row}
use Rattle.cb_gf256.specs.Rows.{HaveLength, byte_at, row_at}
use Rattle.cb_gf256.specs.Sum.{◌⊕◌}
use Rattle.cb_gf256.proofs.PublicLaws.{at_default, row_sum_by_byte, row_sum_length, scaled_row_by_byte, scaled_row_length, sum_associates}
use Rattle.cb_local.specs.Adding.{IsDeltaAdded}
use Rattle.cb_local.specs.Delta.{IsOrder, added_byte, width}
use Rattle.cb_local.specs.declared.order.DeltaOrder.{DeltaOrder}

-- the first n taken positions are added
pub record ArePatchedTo (table : List (List ℕ)) (order : DeltaOrder) (rows : List (List ℕ))
    (change : List ℕ) (n : ℕ) : Type 0 where
  pub count : length rows ≡ order.r
  pub wide : HaveLength (width order) rows
  pub bytes : (j column : ℕ) → j < order.r → column < width order → byte_at rows j column
      ≡ byte_at order.parities j column ⊕ added_byte table order n j column
  pub room : length change ≡ width order

module _ (table : List (List ℕ)) (order : DeltaOrder) (is : IsOrder order) (n : ℕ)
    (below : n < length order.taken) where
  abbrev position : ℕ
  position = get_or order.taken n 0

  -- the rows of a position
  pub in_old : n < length order.old
  in_old = let e = is.old_count in omega (arith, e, below)

  pub in_new : n < length order.new
  in_new = let e = is.new_count in omega (arith, e, below)

  old_long : length (row_at order.old n) ≡ width order
  old_long = is.old_wide n [] in_old

  new_long : length (row_at order.new n) ≡ width order
  new_long = is.new_wide n [] in_new

  pub long_alike : length (row_at order.old n) ≡ length (row_at order.new n)
  long_alike = old_long ∙ sym new_long

  module _ (change : List ℕ)
      (made : change ≡ row_sum (row_at order.old n) (row_at order.new n)) where
    pub change_long : length change ≡ width order
    change_long = ap length made
        ∙ row_sum_length (row_at order.old n) (row_at order.new n) long_alike ∙ old_long

    pub one_patched : (rows next : List (List ℕ)) (before : List ℕ)
        → ArePatchedTo table order rows before n → IsDeltaAdded table position change rows next
        → ArePatchedTo table order next change (n + 1)
    one_patched rows next before x added =
        let more : suc n ≡ n + 1 = omega arith in
        subst (ArePatchedTo table order next change) more (record {
          count = added.count ∙ x.count;
          wide = λ j d l. ap length (at_default next j d [] l)
              ∙ row_long j (let e = added.count in omega (arith, e, l));
          bytes = λ j column l m. ap (λ (row : List ℕ). get_or row column 0)
              (added.rows j (let e = x.count in omega (arith, e, l)))
              ∙ row_sum_by_byte (row_at rows j) (scaled_row (byte_at table j position) change)
              column (lengths j (let e = x.count in omega (arith, e, l)))
              ∙ ap₂ ◌⊕◌ (x.bytes j column l m)
              (scaled_row_by_byte (byte_at table j position) change column
              ∙ ap (λ (v : ℕ). byte_at table j position ⊗ v)
              (ap (λ (row : List ℕ). get_or row column 0) made
              ∙ row_sum_by_byte (row_at order.old n) (row_at order.new n) column long_alike))
              ∙ sum_associates (byte_at order.parities j column) (added_byte table order n j column)
              (byte_at table j position
              ⊗ (byte_at order.old n column ⊕ byte_at order.new n column));
          room = change_long;
        })
      where
        lengths : (j : ℕ) → j < length rows
            → length (row_at rows j) ≡ length (scaled_row (byte_at table j position) change)
        lengths j l = x.wide j [] l ∙ sym (scaled_row_length (byte_at table j position) change
            ∙ change_long)

        row_long : (j : ℕ) → j < length rows → length (row_at next j) ≡ width order
        row_long j l = ap length (added.rows j l)
            ∙ row_sum_length (row_at rows j) (scaled_row (byte_at table j position) change)
            (lengths j l) ∙ x.wide j [] l
