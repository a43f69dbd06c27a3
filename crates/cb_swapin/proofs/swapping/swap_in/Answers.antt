use Rattle.std.proofs.Common.{None}
use Rattle.std.proofs.lemmas.Result.{IfOk-weaker}
use Rattle.cb_swapin.proofs.Landed.{effect_swaps, performs_as}
use Rattle.cb_swapin.proofs.swapping.swap_in.Goals as goal

pub bring_in-requires-clause-given : goal.bring_in-requires-clause-given
bring_in-requires-clause-given g c = c.requires.given

pub bring_in-requires-clause-row : goal.bring_in-requires-clause-row
bring_in-requires-clause-row g c = tt

pub returns-clause-swap : goal.returns-clause-swap
returns-clause-swap g c = IfOk-weaker c.bring_in.result _ _
    (λ r x. performs_as (λ es rule. rule)
    (λ es s t z. effect_swaps None c.args.id.n c.args.position c.args.far.now c.bring_in.new.far r es s
    t z) x) c.bring_in.ensures.swap

pub returns-clause-desk : goal.returns-clause-desk
returns-clause-desk g c = c.bring_in.ensures.desk

pub returns-clause-far : goal.returns-clause-far
returns-clause-far g c = c.bring_in.ensures.far
