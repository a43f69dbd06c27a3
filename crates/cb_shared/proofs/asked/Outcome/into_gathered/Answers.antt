use Rattle.cb_shared.proofs.Handed.{gather_only}
use Rattle.cb_shared.proofs.asked.Outcome.into_gathered.Goals as goal

pub unreachable-requires : goal.unreachable-requires
unreachable-requires c = gather_only c.args.self c.requires c.in_default.not-Gather
