use Rattle.std.proofs.Common.{List, subst}
use Rattle.cb_map_text.specs.declared.command.FarCommand.{FarCommand}
use Rattle.cb_app.specs.Mapped.{AreAnswered}
use Rattle.cb_app.proofs.Mapped.{if_mapped}
use Rattle.cb_app.proofs.mapping.answer_commands.Goals as goal

pub returns-clause-told : goal.returns-clause-told
returns-clause-told g c =
    let text = c.args.text in
    let left = c.in_ok-left.left in
    if_mapped text.config text.commands left
    (subst (λ (asks : List FarCommand). AreAnswered text.config asks left.saids left.world left.seal)
    c.as_slice.ensures.items c.in_ok-left.ensures.answered)
    c.leave_map.new.end c.leave_map.result c.leave_map.ensures.told c.leave_map.ensures.left
