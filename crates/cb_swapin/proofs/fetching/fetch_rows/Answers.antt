use Rattle.std.proofs.Common.{length, sym, ◌∙◌}
use Rattle.cb_swapin.proofs.FetchKeeps.{given_sound, order_kept}
use Rattle.cb_swapin.proofs.Swapped.{is_whole}
use Rattle.cb_swapin.proofs.fetching.fetch_rows.Goals as goal

pub returns-clause-sound : goal.returns-clause-sound
returns-clause-sound c s sound =
    let live = c.requires.live in
    given_sound s c.args.far.now c.order_of.new.far (length live.0.positions)
    (c.in_ok-order_of.ensures.order live.0 live.1).state sound

pub returns-clause-kept : goal.returns-clause-kept
returns-clause-kept c s sound =
    let far = c.args.far.now in let live = c.requires.live in let set = live.0 in
    order_kept s far c.args.id.n c.args.position set c.in_ok-order_of.field-0 c.order_of.new.far
    sound live.1 (is_whole far set (sym (c.in_ok-lost.ensures set live.1) ∙ c.in_default.is))
    (sym (c.is_lost_in.ensures set live.1) ∙ c.if-not-is_lost_in.false)
    (c.in_ok-order_of.ensures.order set live.1)
