use Rattle.std.proofs.Common.{◌<◌, length, ap, subst, arith}
use Rattle.cb_map_text.specs.Reading.{IsPushed}
use Rattle.cb_map_text.proofs.Front.{front_pushed}
use Rattle.cb_map_text.proofs.read.commands_of.Goals as goal

pub loop-rest-preserved : goal.loop-rest-preserved
loop-rest-preserved c =
    let few : length c.loop-rest.commands < 20000 = omega (arith, c.if-before-ge-MOST_COMMANDS.false, ap length c.as_slice-before.ensures.items) in
    front_pushed c.args.text.now c.loop-rest.commands c.loop-rest.rest.now c.loop-rest.invariant c.first_line.result.0.now
    c.first_line.result.1.now c.push_command.new.commands c.first_line.ensures.lines few
    (subst (IsPushed c.loop-rest.commands c.push_command.new.commands c.first_line.result.0.now) c.if-not-branch.false c.in_ok-push_command.ensures)
