use Rattle.std.proofs.Common.{◌≡◌, ◌+◌, ◌<◌, [], ◌∷◌, ◌++◌, take, refl, sym, ◌∙◌, rules, arith}
use Rattle.cb_cli.specs.Lanes.{lanes_of}
use Rattle.cb_cli.proofs.LaneCounts.{none_raised, raised, raised_before, lanes_more, counts_again, counts_new}
use Rattle.cb_cli.proofs.lanes.different_lanes.Goals as goal
use Rattle.cb_cli.proofs.lanes.different_lanes.Goals.{then-not-seen-lane, else-not-seen-lane}

pub loop-line-init : goal.loop-line-init
loop-line-init c = record { flags = none_raised; counted = refl; few = omega arith }

pub loop-line-preserved : goal.loop-line-preserved
loop-line-preserved c =
    let lines = c.args.lines.now in
    let i = c.loop-line.line-index in
    let l = c.line-item.result in
    let x = l.lane.n in
    let before = lanes_of (take i lines) in
    let more : lanes_of (take (i + 1) lines) ≡ before ++ x ∷ [] = lanes_more lines i l l (search rules) c.line-item.is in
    let flags = c.loop-line.invariant.flags in
    let low : x < 256 = search rules in
    elim c.if-not-seen-lane.branch [
      | then-not-seen-lane w ↦ rw (w.seen-is, w.count-is, more, c.from-lane.ensures) (record {
        flags = raised c.loop-line.seen before x low flags;
        counted = counts_new c.loop-line.seen before x c.loop-line.count low flags (rw c.from-lane.ensures at w.if-not-seen-lane.true) c.loop-line.invariant.counted;
        few = omega (arith, c.loop-line.invariant.few);
      })
      | else-not-seen-lane w ↦ rw (w.seen-is, w.count-is, more) (record {
        flags = raised_before c.loop-line.seen before x (sym (flags.each x low) ∙ (rw c.from-lane.ensures at w.if-not-seen-lane.false)) flags;
        counted = counts_again c.loop-line.seen before x c.loop-line.count low flags (rw c.from-lane.ensures at w.if-not-seen-lane.false) c.loop-line.invariant.counted;
        few = omega (arith, c.loop-line.invariant.few);
      })
    ]
