use Rattle.std.proofs.Common.{sym, ◌∙◌}
use Rattle.std.proofs.lemmas.Result.{IfOk-weaker, on_err_weaker}
use Rattle.cb_swapin.proofs.Landed.{decode_kept, lands_none, lands_outdated, lands_row, live_found, nothing_given, row_lands}
use Rattle.cb_swapin.proofs.landing.land.Goals as goal

pub returns-in_default-clause-land : goal.returns-in_default-clause-land
returns-in_default-clause-land g c =
    lands_none c.args.done c.args.far.now c.in_default.is (g.met.D.Desk.none _) (λ s k. k.1)

pub is_live_in-requires : goal.is_live_in-requires
is_live_in-requires g c = record { sound = (c.requires.kept.0, c.requires.kept.2.away.sound) }

pub returns-then-not-is_live_in-clause-land : goal.returns-then-not-is_live_in-clause-land
returns-then-not-is_live_in-clause-land g c =
    lands_outdated c.args.done c.args.far.now c.in-Some.done c.in-Some.is c.order.result.now
    c.order-2.result.now c.order.ensures c.order-2.ensures (sym c.is_live_in.ensures ∙ c.if-not-is_live_in.true) (g.met.D.Desk.none _)
    (λ s k. k.1)

pub bring_in-requires-clause-live : goal.bring_in-requires-clause-live
bring_in-requires-clause-live g c =
    live_found c.args.far.now c.order.result.now.set c.order-2.result.now.position (sym c.is_live_in.ensures ∙ c.if-not-is_live_in.false)

pub bring_in-requires-clause-sound : goal.bring_in-requires-clause-sound
bring_in-requires-clause-sound g c =
    (c.requires.kept.0, c.requires.kept.1, c.requires.kept.2)

pub bring_in-requires-clause-row : goal.bring_in-requires-clause-row
bring_in-requires-clause-row g c =
    let far = c.args.far.now in
    row_lands c.args.done far c.in-Some.done c.in-Some.is c.order.result.now c.order-2.result.now
    c.row.result c.order.ensures c.order-2.ensures
    (decode_kept c.args.done far c.in-Some.done c.in-Some.is c.requires.kept.0 c.requires.kept.3)
    c.row.ensures.done

pub bring_in-requires-clause-given : goal.bring_in-requires-clause-given
bring_in-requires-clause-given g c = tt

pub returns-clause-land : goal.returns-clause-land
returns-clause-land g c = IfOk-weaker c.bring_in.result _ _
    (λ r x. lands_row c.args.done c.args.far.now c.in-Some.done c.in-Some.is c.order.result.now
    c.order-2.result.now c.row.result c.bring_in.new.far r c.order.ensures c.order-2.ensures
    (sym c.is_live_in.ensures ∙ c.if-not-is_live_in.false) c.row.ensures.done x) c.bring_in.ensures.swap

pub returns-clause-desk : goal.returns-clause-desk
returns-clause-desk g c = c.bring_in.ensures.desk

pub returns-clause-far : goal.returns-clause-far
returns-clause-far g c =
    let live = live_found c.args.far.now c.order.result.now.set c.order-2.result.now.position (sym c.is_live_in.ensures ∙ c.if-not-is_live_in.false) in
    on_err_weaker c.bring_in.result (λ x. let y = x live.0 live.1 in
    nothing_given c.args.far.now c.bring_in.new.far y.0 y.1 y.2) c.bring_in.ensures.far
