use Rattle.std.proofs.Common.{◌∙◌, rules}
use Rattle.cb_set.proofs.Masks.{flag_number, mask_step}
use Rattle.cb_set.proofs.span_set.mask_of.Goals as goal

pub overflow_add-mask : goal.overflow_add-mask
overflow_add-mask c =
    let step = mask_step c.args.positions.now c.loop-place.place _ c.index-positions-place.result
    c.loop-place.mask c.from.result c.loop-place-test.true c.requires
    (c.position.view_is ∙ c.index-positions-place.is) c.loop-place.invariant
    (c.from.ensures ∙ flag_number c.position.inside.live) in
    search (rules, step.1)

pub loop-place-preserved : goal.loop-place-preserved
loop-place-preserved c =
    let step = mask_step c.args.positions.now c.loop-place.place _ c.index-positions-place.result
    c.loop-place.mask c.from.result c.loop-place-test.true c.requires
    (c.position.view_is ∙ c.index-positions-place.is) c.loop-place.invariant
    (c.from.ensures ∙ flag_number c.position.inside.live) in
    step.0
