use Rattle.std.proofs.Common.{◌≡◌, ◌+◌, ◌*◌, ◌<◌, length, ap, sym, ◌∙◌, subst, arith}
use Rattle.cb_gf256.specs.Rows.{HaveLength}
use Rattle.carbink_c.proofs.Cutting.{cut_count, cut_lengths}
use Rattle.carbink_c.proofs.Making.{mended_lengths, mended_made}
use Rattle.carbink_c.proofs.mending.put_mended.Goals as goal

pub mend-requires : goal.mend-requires
mend-requires c =
    let count = ap length c.in_ok-mending.ensures.value ∙ cut_count (c.args.k + c.args.r) c.args.len c.args.rows.now in
    omega (arith, count, c.requires.position)

pub put_rows-requires-clause-lengths : goal.put_rows-requires-clause-lengths
put_rows-requires-clause-lengths c =
    let n = c.args.k + c.args.r in
    let inside : c.args.position < length c.in_ok-mending.mending = omega (arith, ap length c.in_ok-mending.ensures.value, cut_count n c.args.len c.args.rows.now, c.requires.position) in
    mended_lengths c.args.len c.args.position c.in_ok-mending.mending c.mend.new.rows inside
    (subst (HaveLength c.args.len) (sym c.in_ok-mending.ensures.value) (cut_lengths n c.args.len c.args.rows.now c.requires.size)) c.mend.ensures.sum

pub put_rows-requires-clause-size : goal.put_rows-requires-clause-size
put_rows-requires-clause-size c =
    let count : length c.mend.new.rows ≡ c.args.k + c.args.r = c.mend.ensures.count ∙ ap length c.in_ok-mending.ensures.value ∙ cut_count (c.args.k + c.args.r) c.args.len c.args.rows.now in
    c.requires.size ∙ ap (λ n. n * c.args.len) (sym count)

pub returns-clause-made : goal.returns-clause-made
returns-clause-made c =
    mended_made c.args.k c.args.r c.args.len c.args.position c.args.rows.now c.put_rows.new.buffer c.in_ok-mending.mending c.mend.new.rows c.requires.in_range c.requires.size
    c.in_ok-mending.ensures.value c.in_ok-mending.ensures.bytes c.mend.ensures.sum c.mend.ensures.count c.mend.ensures.word c.mend.ensures.only c.put_rows.ensures
