use Rattle.std.proofs.Common.{ap, ◌∙◌}
use Rattle.cb_compact.specs.NowGoing.{with_keys}
use Rattle.cb_compact.specs.PartStep.{with_parted}
use Rattle.cb_compact.proofs.NowEnds.{gone_there}
use Rattle.cb_compact.proofs.compacting.go_through.Goals as goal

pub undo-requires : goal.undo-requires
undo-requires c =
    let s = c.requires.sound in let x = c.in-Err.ensures.error in
    record { there = gone_there s.0 c.args.far.now c.finish.new.far x.0 s.1 x.1 }

pub returns-in-Err-clause-error : goal.returns-in-Err-clause-error
returns-in-Err-clause-error c =
    let x = c.in-Err.ensures.error in
    c.undo.ensures x.1.pair x.1.fresh.was
    ∙ ap (with_keys (with_parted c.finish.new.far x.1.pair)) c.drawn_keys-keys.ensures
    ∙ x.1.back
