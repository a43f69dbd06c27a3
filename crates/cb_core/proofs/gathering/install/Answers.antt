use Rattle.cb_types.specs.declared.job.Job.TheVariants.{Install}
use Rattle.cb_core.proofs.Counting.{counted_sound}
use Rattle.cb_core.proofs.OrdersCounted.{counted_kept}
use Rattle.cb_core.proofs.OrderTurns.{install_leaves, install_refused, install_turned, install_worn}
use Rattle.cb_core.proofs.gathering.install.Goals as goal

pub install-requires : goal.install-requires
install-requires c = record {
  kept = let s = c.requires.kept in
      let is = (c.count_turn.ensures.done c.if-not-count_turn.false).1 in (
        s.0,
        counted_sound s.0 c.args.far.now c.count_turn.new.far Install is s.1,
        counted_kept s.0 c.args.far.now c.count_turn.new.far Install _ is s.2,
      );
}

pub returns-then-not-count_turn-clause-turned : goal.returns-then-not-count_turn-clause-turned
returns-then-not-count_turn-clause-turned c =
    let d = c.count_turn.ensures.worn c.if-not-count_turn.true in
    λ order asked. install_refused c.args.far.now c.count_turn.new.far order d.0 d.1

pub returns-then-not-count_turn-clause-leaves : goal.returns-then-not-count_turn-clause-leaves
returns-then-not-count_turn-clause-leaves c =
    let d = c.count_turn.ensures.worn c.if-not-count_turn.true in
    λ settings configured. install_worn settings c.args.far.now c.count_turn.new.far _
    c.requires.counted d.0 d.1 configured

pub returns-clause-turned : goal.returns-clause-turned
returns-clause-turned c =
    let d = c.count_turn.ensures.done c.if-not-count_turn.false in
    λ order asked. install_turned c.args.far.now c.count_turn.new.far c.install.new.far
    c.install.result _ order d.0 d.1 c.install.ensures.installed asked

pub returns-clause-leaves : goal.returns-clause-leaves
returns-clause-leaves c =
    let d = c.count_turn.ensures.done c.if-not-count_turn.false in
    λ settings configured. install_leaves settings c.args.far.now c.count_turn.new.far
    c.install.new.far c.install.result _ _ c.requires.counted d.0 d.1
    c.install.ensures.installed c.install.ensures.sound configured
