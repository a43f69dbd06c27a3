use Rattle.cb_app.proofs.commands.leave_ending.Goals as goal

pub returns-clause-told : goal.returns-clause-told
returns-clause-told c = (c.set.ensures, c.in_ok-text.ensures)
