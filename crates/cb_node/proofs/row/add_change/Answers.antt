use Rattle.std.proofs.Common.{◌≡◌, ◌≢◌, ℕ, List, length, get_or, ap, sym, ◌∙◌, arith, below_more, get_or-set_same, get_or-set_other}
use Rattle.std.proofs.lemmas.List.{ext_get_or}
use Rattle.cb_gf256.specs.Sum.{◌⊕◌}
use Rattle.cb_gf256.specs.Product.{◌⊗◌}
use Rattle.cb_gf256.specs.Row.{row_sum, scaled_row}
use Rattle.cb_gf256.proofs.PublicLaws.{row_sum_length, row_sum_by_byte, scaled_row_length, scaled_row_by_byte}
use Rattle.cb_node.proofs.row.add_change.Goals as goal

length-change : (row other : List ℕ) (c : ℕ) → length row ≡ length other
    → length (scaled_row c (row_sum row other)) ≡ length row
length-change row other c same =
    scaled_row_length c (row_sum row other) ∙ row_sum_length row other same

-- one byte of the row and its change
get_or-changed : (row other : List ℕ) (c i : ℕ) → length row ≡ length other
    → get_or (row_sum row (scaled_row c (row_sum row other))) i 0
    ≡ get_or row i 0 ⊕ (c ⊗ (get_or row i 0 ⊕ get_or other i 0))
get_or-changed row other c i same =
    row_sum_by_byte row (scaled_row c (row_sum row other)) i (sym (length-change row other c same))
    ∙ ap (λ x. get_or row i 0 ⊕ x)
    (scaled_row_by_byte c (row_sum row other) i
    ∙ ap (λ x. c ⊗ x) (row_sum_by_byte row other i same))

pub loop-i-preserved : goal.loop-i-preserved
loop-i-preserved c =
    let row = c.args.row.now in
    let other = c.args.other.now in
    let now = c.loop-i.row in
    let i = c.loop-i.i in
    let byte = c.loop-i.invariant.untouched i (omega arith) in
    let written : c.add-in-loop-i.result
    ≡ get_or (row_sum row (scaled_row c.args.c (row_sum row other))) i 0 =
    c.add-in-loop-i.ensures
    ∙ ap (λ x. get_or now i 0 ⊕ x) (c.mul.ensures ∙ ap (λ x. c.args.c ⊗ x) c.add.ensures)
    ∙ ap (λ b. b ⊕ (c.args.c ⊗ (b ⊕ get_or other i 0))) byte
    ∙ sym (get_or-changed row other c.args.c i c.requires) in
    record {
      changed = below_more _ _
          (λ k below. let apart : k ≢ i = omega arith in
          get_or-set_other now i k c.add-in-loop-i.result 0 apart
          ∙ c.loop-i.invariant.changed k below)
          (get_or-set_same now i c.add-in-loop-i.result 0 (omega arith) ∙ written);
      untouched = λ k above. let apart : k ≢ i = omega arith in
          get_or-set_other now i k c.add-in-loop-i.result 0 apart
          ∙ c.loop-i.invariant.untouched k (omega arith);
    }

pub returns : goal.returns
returns c =
    let row = c.args.row.now in
    let change = scaled_row c.args.c (row_sum row c.args.other.now) in
    let long : length (row_sum row change) ≡ length row =
    row_sum_length row change (sym (length-change row c.args.other.now c.args.c c.requires)) in
    ext_get_or 0 c.loop-i.row (row_sum row change) (omega arith)
    (λ k within. c.loop-i.invariant.changed k (omega arith))
