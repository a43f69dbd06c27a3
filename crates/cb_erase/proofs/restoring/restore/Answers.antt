use Rattle.std.proofs.Common.{◌≡◌, ◌*◌, ◌/◌, length, sym, subst, arith}
use Rattle.cb_gf256.specs.Rows.{row_at, rows_at, HaveLength}
use Rattle.cb_gf256.specs.Corner.{corner}
use Rattle.cb_gf256.specs.Placing.{Restored}
use Rattle.cb_gf256.proofs.PublicLaws.{corner_count, corner_lengths, kept_lengths, restored_combinations, restored_kept, source_rows}
use Rattle.cb_erase.proofs.restoring.restore.Goals as goal

pub restore-requires-clause-width : goal.restore-requires-clause-width
restore-requires-clause-width c =
    let k = length c.args.sources.now in
    let r = length c.args.targets.now in
    subst (HaveLength k) (sym c.of_table-factors.ensures)
    (corner_lengths k r 16 c.args.table.now c.requires.in_range.data_most (omega (arith, c.told-table, c.requires.in_range.parities_most)) c.requires.width)

-- all columns
made : (c : goal.After-restore_whole) → Restored (corner (length c.args.sources.now) (length c.args.targets.now) c.args.table.now) (rows_at c.args.rows.now c.args.sources.now) c.args.targets.now c.args.sources.now c.args.out.now c.restore_whole.new.out 0 c.row_len-len.result
made c =
    let len = c.row_len-len.result in
    let all : len / 64 * 64 ≡ len = omega (arith, c.if-len-eq0.true) in
    subst (Restored (corner (length c.args.sources.now) (length c.args.targets.now) c.args.table.now) (rows_at c.args.rows.now c.args.sources.now) c.args.targets.now c.args.sources.now c.args.out.now c.restore_whole.new.out 0) all c.restore_whole.ensures

pub returns-then-len-eq0-clause-lengths : goal.returns-then-len-eq0-clause-lengths
returns-then-len-eq0-clause-lengths c =
    kept_lengths (length (row_at c.args.rows.now 0)) c.args.out.now c.restore_whole.new.out c.restore_whole.ensures.count c.restore_whole.ensures.lengths c.requires.lengths

pub returns-then-len-eq0-clause-sums : goal.returns-then-len-eq0-clause-sums
returns-then-len-eq0-clause-sums c =
    let k = length c.args.sources.now in
    let r = length c.args.targets.now in
    let len = c.row_len-len.result in
    let firsts = source_rows c.args.rows.now c.args.sources.now len c.requires.in_range.data_least c.requires.sources c.row_len-len.ensures.length in
    restored_combinations (corner k r c.args.table.now) (rows_at c.args.rows.now c.args.sources.now) c.args.targets.now c.args.sources.now c.args.out.now c.restore_whole.new.out len
    (sym (corner_count k r c.args.table.now (omega (arith, c.told-table, c.requires.in_range.parities_most))))
    firsts.1 c.requires.below.1 (subst (λ n. HaveLength n c.args.out.now) firsts.0 c.requires.lengths) (made c)

pub returns-then-len-eq0-clause-kept : goal.returns-then-len-eq0-clause-kept
returns-then-len-eq0-clause-kept c =
    let k = length c.args.sources.now in
    let r = length c.args.targets.now in
    let len = c.row_len-len.result in
    let firsts = source_rows c.args.rows.now c.args.sources.now len c.requires.in_range.data_least c.requires.sources c.row_len-len.ensures.length in
    restored_kept (corner k r c.args.table.now) c.args.rows.now c.args.targets.now c.args.sources.now c.args.out.now c.restore_whole.new.out len
    c.requires.sources c.requires.below.0 c.row_len-len.ensures.length (subst (λ n. HaveLength n c.args.out.now) firsts.0 c.requires.lengths) (made c)
