use Rattle.cb_shared.proofs.Handed.{install_only}
use Rattle.cb_shared.proofs.asked.Outcome.into_installed.Goals as goal

pub unreachable-requires : goal.unreachable-requires
unreachable-requires c = install_only c.args.self c.requires c.in_default.not-Install
