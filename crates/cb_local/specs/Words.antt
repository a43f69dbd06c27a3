-- An order whose rows are those of the words of two sets.
use Rattle.std.specs.Prelude.{◌≡◌, ℕ, ◌+◌, ◌<◌, List, length, slice_index}
use Rattle.cb_gf256.specs.Rows.{row_at}
use Rattle.cb_world.specs.Merged.{IsMergedWord}
use Rattle.cb_world.specs.SetWord.{IsSpanWord}
use Rattle.cb_local.specs.declared.order.DeltaOrder.{DeltaOrder}

-- the old rows and the parities are those of one word of spans of so many pages, and the new rows
-- those of another one at the taken positions
pub record IsOfWords (order : DeltaOrder) (pages : ℕ) (wa wb : List (List ℕ)) : Type 0 where
  pub a_word : IsSpanWord pages order.k order.r wa
  pub b_word : IsSpanWord pages order.k order.r wb
  pub old_rows : (i : ℕ) → i < length order.taken
      → row_at order.old i ≡ row_at wa (slice_index order.taken i)
  pub new_rows : (i : ℕ) → i < length order.taken
      → row_at order.new i ≡ row_at wb (slice_index order.taken i)
  pub parity_rows : (j : ℕ) → j < order.r → row_at order.parities j ≡ row_at wa (order.k + j)

-- the rows are the parities of the word that has the second word's rows at the taken positions, and
-- the first word's at all others
abbrev pub AreMergedParities : DeltaOrder → List (List ℕ) → Type 0
AreMergedParities order rows = (pages : ℕ) (wa wb m : List (List ℕ)) → IsOfWords order pages wa wb
    → IsMergedWord pages order.k order.r order.taken wa wb m
    → (j : ℕ) → j < order.r → row_at rows j ≡ row_at m (order.k + j)
