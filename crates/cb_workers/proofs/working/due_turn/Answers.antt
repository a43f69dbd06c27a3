use Rattle.cb_workers.proofs.Quiet.{gather_adds, gather_lacks}
use Rattle.cb_workers.proofs.Steps.{install_lacked}
use Rattle.cb_workers.proofs.working.due_turn.Goals as goal

pub returns-in-Gather-clause-adds : goal.returns-in-Gather-clause-adds
returns-in-Gather-clause-adds g c = gather_adds c.args.shared.now.config c.args.due.now _
    c.take_order.result _ _ c.in-Gather.is c.take_order.ensures.told c.gather.ensures.turn

pub returns-in-Gather-clause-lacks : goal.returns-in-Gather-clause-lacks
returns-in-Gather-clause-lacks g c = gather_lacks c.args.shared.now.config c.args.due.now _
    c.take_order.result _ _ c.in-Gather.is c.take_order.ensures.told c.gather.ensures.turn

pub returns-in-Install-clause-lacks : goal.returns-in-Install-clause-lacks
returns-in-Install-clause-lacks g c = install_lacked c.args.shared.now.config c.args.due.now c.install_parities.result
    c.args.pass.now c.install_parities.new.pass c.in-Install.is c.install_parities.ensures.same
