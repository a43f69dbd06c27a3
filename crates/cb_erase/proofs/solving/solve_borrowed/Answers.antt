use Rattle.std.proofs.Common.{◌≡◌, ℕ, List, [], ◌+◌, ◌≤◌, length, get_or, replicate, take, sym, ap, subst, ◌∙◌, arith}
use Rattle.std.proofs.lemmas.List.{get_or-take, length-take-le, length-replicate, get_or_default}
use Rattle.std.proofs.lemmas.List.Elements.{All-replicate}
use Rattle.cb_gf256.specs.Rows.{row_at, rows_at, byte_at, HaveLength}
use Rattle.cb_gf256.specs.Combination.{AreCombinations}
use Rattle.cb_gf256.specs.Corner.{corner}
use Rattle.cb_gf256.specs.Lagrange.{IsLagrangeFactor, AreFactors}
use Rattle.cb_gf256.specs.Split.{Splits}
use Rattle.cb_gf256.specs.InRange.{IsInRange}
use Rattle.cb_gf256.proofs.PublicLaws.{split_of_same, corner_count, corner_byte, corner_lengths}
use Rattle.cb_erase.proofs.Words.{IsWordSolved, made_solution, only_solution}
use Rattle.cb_erase.proofs.solving.solve_borrowed.Goals as goal

lost_count : (r : ℕ) (positions : List ℕ) → length positions ≡ 4 → r ≤ 4 → length (take r positions) ≡ r
lost_count r positions size few = length-take-le r positions (omega arith)

taken : (k r : ℕ) (present positions : List ℕ) → Splits (k + r) k r (λ i. get_or present i 0) (λ e. get_or positions e 0) → Splits (k + r) k r (λ i. get_or present i 0) (λ e. get_or (take r positions) e 0)
taken k r present positions split =
    split_of_same (k + r) k r (λ i. get_or present i 0) (λ e. get_or positions e 0) (λ e. get_or (take r positions) e 0) split (λ e l. get_or-take r positions e 0 l)

word_count : (n len : ℕ) (word : List (List ℕ)) → word ≡ replicate n (replicate len 0) → length word ≡ n
word_count n len word new = ap length new ∙ length-replicate n (replicate len 0)

pub restore-requires-clause-split : goal.restore-requires-clause-split
restore-requires-clause-split c =
    let k = c.args.k in
    let r = c.args.r in
    let present = c.args.present.now in
    let lost = take r c.lost_positions-positions.result in
    let split = taken k r present c.lost_positions-positions.result c.lost_positions-positions.ensures.split in
    let many : length lost ≡ r = lost_count r c.lost_positions-positions.result c.lost_positions-positions.ensures.size c.requires.in_range.parities_most in
    subst (λ m. Splits (m + length lost) m (length lost) (λ i. get_or present i 0) (λ e. get_or lost e 0)) (sym c.requires.positions.count)
    (subst (λ n. Splits (k + n) k n (λ i. get_or present i 0) (λ e. get_or lost e 0)) (sym many) split)

pub restore-requires-clause-factors : goal.restore-requires-clause-factors
restore-requires-clause-factors c =
    let k = c.args.k in
    let r = c.args.r in
    let present = c.args.present.now in
    let lost = take r c.lost_positions-positions.result in
    let many : length lost ≡ r = lost_count r c.lost_positions-positions.result c.lost_positions-positions.ensures.size c.requires.in_range.parities_most in
    subst (λ m. AreFactors m (length lost) (λ i. get_or present i 0) (λ e. get_or lost e 0) (byte_at c.lost_factors-table.result)) (sym c.requires.positions.count)
    (subst (λ n. AreFactors k n (λ i. get_or present i 0) (λ e. get_or lost e 0) (byte_at c.lost_factors-table.result)) (sym many) c.lost_factors-table.ensures.factors)

pub restore-requires-clause-in_range : goal.restore-requires-clause-in_range
restore-requires-clause-in_range c =
    let many = lost_count c.args.r c.lost_positions-positions.result c.lost_positions-positions.ensures.size c.requires.in_range.parities_most in
    subst (λ m. IsInRange m (length (take c.args.r c.lost_positions-positions.result))) (sym c.requires.positions.count) (subst (IsInRange c.args.k) (sym many) c.requires.in_range)

pub restore-requires-clause-width : goal.restore-requires-clause-width
restore-requires-clause-width c = c.lost_factors-table.ensures.width

pub restore-requires-clause-sources : goal.restore-requires-clause-sources
restore-requires-clause-sources c i d l = omega (arith, c.requires.positions.below i d l, c.requires.count)

pub restore-requires-clause-below : goal.restore-requires-clause-below
restore-requires-clause-below c = (
  λ i d l. omega (arith, word_count (c.args.k + c.args.r) c.row_len.result c.in_ok-word.word c.in_ok-word.ensures, c.requires.positions.below i d l),
  λ e d l.
      let lost = take c.args.r c.lost_positions-positions.result in
      omega (arith, word_count (c.args.k + c.args.r) c.row_len.result c.in_ok-word.word c.in_ok-word.ensures, get_or_default lost e d 0 l, (taken c.args.k c.args.r c.args.present.now c.lost_positions-positions.result c.lost_positions-positions.ensures.split).lost_below e (omega (arith, lost_count c.args.r c.lost_positions-positions.result c.lost_positions-positions.ensures.size c.requires.in_range.parities_most))),
)

pub restore-requires-clause-apart : goal.restore-requires-clause-apart
restore-requires-clause-apart c i e l m = (taken c.args.k c.args.r c.args.present.now c.lost_positions-positions.result c.lost_positions-positions.ensures.split).apart i e (omega (arith, c.requires.positions.count)) (omega (arith, lost_count c.args.r c.lost_positions-positions.result c.lost_positions-positions.ensures.size c.requires.in_range.parities_most))

pub restore-requires-clause-lengths : goal.restore-requires-clause-lengths
restore-requires-clause-lengths c =
    subst (HaveLength (length (row_at c.args.rows.now 0))) (sym c.in_ok-word.ensures)
    (All-replicate (λ row. length row ≡ length (row_at c.args.rows.now 0)) (c.args.k + c.args.r) (replicate c.row_len.result 0)
    (length-replicate c.row_len.result 0 ∙ sym (c.row_len.ensures.length 0 [] (omega (arith, c.requires.count, c.requires.in_range.data_least)))))

made : (c : goal.After-restore) → IsWordSolved c.args.k c.args.r c.args.present.now (take c.args.r c.lost_positions-positions.result) (corner c.args.k c.args.r c.lost_factors-table.result) c.args.rows.now c.restore.new.out
made c =
    let k = c.args.k in
    let r = c.args.r in
    let present = c.args.present.now in
    let table = c.lost_factors-table.result in
    let made_table = c.lost_factors-table.ensures in
    let lost = take r c.lost_positions-positions.result in
    let many : length lost ≡ r = lost_count r c.lost_positions-positions.result c.lost_positions-positions.ensures.size c.requires.in_range.parities_most in
    let inside : r ≤ length table = omega (arith, made_table.height, c.requires.in_range.parities_most) in
    record {
      range = c.requires.in_range;
      positions = c.requires.positions;
      lost_count = many;
      split = taken k r present c.lost_positions-positions.result c.lost_positions-positions.ensures.split;
      factors = record {
        factor = λ e i l m. subst (IsLagrangeFactor r (λ x. get_or lost x 0) e (get_or present i 0)) (sym (corner_byte k r table e i (omega (arith, corner_count k r table inside)) m)) (made_table.factors.factor e i l m);
      };
      height = corner_count k r table inside;
      width = corner_lengths k r 16 table c.requires.in_range.data_most inside made_table.width;
      rows_count = c.requires.count;
      are_rows = c.row_len.ensures.rows;
      count = c.restore.ensures.count ∙ word_count (k + r) c.row_len.result c.in_ok-word.word c.in_ok-word.ensures;
      lengths = c.restore.ensures.lengths;
      sums =
          subst (λ m. AreCombinations (corner m r table) (rows_at c.args.rows.now present) (rows_at c.restore.new.out lost)) c.requires.positions.count
          (subst (λ n. AreCombinations (corner (length present) n table) (rows_at c.args.rows.now present) (rows_at c.restore.new.out lost)) many c.restore.ensures.sums);
      kept = λ i l. c.restore.ensures.kept i (omega (arith, c.requires.positions.count));
    }

pub returns-clause-solution : goal.returns-clause-solution
returns-clause-solution c =
    made_solution c.args.k c.args.r c.args.present.now (take c.args.r c.lost_positions-positions.result) (corner c.args.k c.args.r c.lost_factors-table.result) c.args.rows.now c.restore.new.out (made c)

pub returns-clause-only : goal.returns-clause-only
returns-clause-only c other bytes solution =
    only_solution c.args.k c.args.r c.args.present.now (take c.args.r c.lost_positions-positions.result) (corner c.args.k c.args.r c.lost_factors-table.result) c.args.rows.now c.restore.new.out other (made c) bytes solution
