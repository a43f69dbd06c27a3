-- Worked examples of an order for two sets whose words are the same: a value that meets each
-- definition, and for each of its parts one that breaks that part alone.
use Rattle.std.proofs.Common.{◌≡◌, ℕ, zero, suc, ◌+◌, ◌<◌, if◌then◌else◌, Bool, true, false, List, [], ◌∷◌, get_or, refl, sym, ap, ◌∙◌, arith, lit<, lit≤}
use Rattle.cb_gf256.specs.InRange.{IsInRange}
use Rattle.cb_gf256.specs.Rows.{row_at}
use Rattle.cb_member.specs.Membership.{Membership, NodeState, fresh_node}
use Rattle.cb_node.specs.NodesState.{empty_nodes}
use Rattle.cb_world.specs.Merged.{IsMergedWord, takes}
use Rattle.cb_world.specs.SetWord.{IsSpanWord}
use Rattle.cb_world.proofs.Laws.{is_word as worked_word, row, row_byte, row_long, rows, same_data}
use Rattle.cb_local.specs.Words.{AreMergedParities, IsOfWords}
use Rattle.cb_local.specs.declared.order.DeltaOrder.{DeltaOrder}
use Rattle.cb_local.proofs.WorkedOrder.{order_of}

abbrev crashed : NodeState
crashed = record { up = false; incarnation = 0; crashes = record { n = 1 } ∷ [] }

abbrev members : Membership
members = record {
  epoch = 1;
  nodes = fresh_node ∷ crashed ∷ fresh_node ∷ fresh_node ∷ fresh_node ∷ fresh_node ∷ [];
}

is_span_word : IsSpanWord 1 2 1 rows
is_span_word = (worked_word (empty_nodes 4 2) members 0 (record { live = false; slots = [] })
    (record { live = false; slots = [] }) (lit≤ tt) refl).code

-- the second of two positions is taken, and both sets have the same row there
abbrev order_with : ℕ → ℕ → ℕ → DeltaOrder
order_with old new parity =
    order_of 2 1 (1 ∷ []) (row old ∷ []) (row new ∷ []) (row parity ∷ [])

abbrev order : DeltaOrder
order = order_with 0 0 7

pub is_of_words : IsOfWords order 1 rows rows
is_of_words = record {
  a_word = is_span_word;
  b_word = is_span_word;
  old_rows = taken;
  new_rows = taken;
  parity_rows = parity;
}
  where
    taken : (i : ℕ) → i < 1 → row_at (row 0 ∷ []) i ≡ row_at rows (get_or (1 ∷ []) i 0)
    taken zero l = refl
    taken (suc i) l = absurd (omega (arith, l))

    parity : (j : ℕ) → j < 1 → row_at (row 7 ∷ []) j ≡ row_at rows (2 + j)
    parity zero l = refl
    parity (suc j) l = absurd (omega (arith, l))

-- rows of one page are none of spans of two
not_of_longer_spans : IsOfWords order 2 rows rows → ⊥
not_of_longer_spans x = let e : 4096 ≡ 8192 = sym (row_long 7) ∙ x.a_word.wide in omega (arith, e)

-- four rows are no word of three
abbrev four : List (List ℕ)
four = row 7 ∷ row 0 ∷ row 7 ∷ row 7 ∷ []

not_of_no_word : IsOfWords order 1 four rows → ⊥
not_of_no_word x = let e : 4 ≡ 3 = x.a_word.is_word.count in omega (arith, e)

not_to_no_word : IsOfWords order 1 rows four → ⊥
not_to_no_word x = let e : 4 ≡ 3 = x.b_word.is_word.count in omega (arith, e)

apart : row 7 ≡ row 0 → ⊥
apart e =
    let b = ap (λ (l : List ℕ). get_or l 0 0) e in let x = row_byte 7 0 (lit< tt) in
    let y = row_byte 0 0 (lit< tt) in omega (arith, b, x, y)

not_with_another_old_row : IsOfWords (order_with 7 0 7) 1 rows rows → ⊥
not_with_another_old_row x = apart (x.old_rows 0 (lit< tt))

not_with_another_new_row : IsOfWords (order_with 0 7 7) 1 rows rows → ⊥
not_with_another_new_row x = apart (x.new_rows 0 (lit< tt))

not_with_another_parity : IsOfWords (order_with 0 0 0) 1 rows rows → ⊥
not_with_another_parity x = apart (sym (x.parity_rows 0 (lit< tt)))

-- ---- the parity stays where the row that is taken is the same
in_range : IsInRange 2 1
in_range = record {
  data_least = lit≤ tt;
  data_most = lit≤ tt;
  parities_least = lit≤ tt;
  parities_most = lit≤ tt;
}

pub are_merged : AreMergedParities order (row 7 ∷ [])
are_merged pages wa wb m x merged zero l =
    x.parity_rows 0 (lit< tt) ∙ ap (λ (w : List (List ℕ)). row_at w 2)
    (sym (same_data 2 1 m wa in_range merged.word.is_word merged.word.bytes x.a_word.is_word
    x.a_word.bytes first))
  where
    first : (i : ℕ) → i < 2 → row_at m i ≡ row_at wa i
    first zero b = merged.chosen 0 (lit< tt)
    first (suc zero) b = merged.chosen 1 (lit< tt) ∙ sym (x.new_rows 0 (lit< tt))
        ∙ x.old_rows 0 (lit< tt)
    first (suc (suc i)) b = absurd (omega (arith, b))
are_merged pages wa wb m x merged (suc j) l = absurd (omega (arith, l))

merged_word : IsMergedWord 1 2 1 (1 ∷ []) rows rows rows
merged_word = record {
  word = is_span_word;
  chosen = λ i l. either (takes (1 ∷ []) i) (row_at rows i);
}
  where
    either : (b : Bool) (x : List ℕ) → x ≡ (if b then x else x)
    either true x = refl
    either false x = refl

no_other_is_merged : AreMergedParities order (row 0 ∷ []) → ⊥
no_other_is_merged x =
    apart (sym (x 1 rows rows rows is_of_words merged_word 0 (lit< tt)))
