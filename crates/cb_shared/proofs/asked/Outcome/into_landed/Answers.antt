use Rattle.cb_shared.proofs.Handed.{land_only}
use Rattle.cb_shared.proofs.asked.Outcome.into_landed.Goals as goal

pub unreachable-requires : goal.unreachable-requires
unreachable-requires c = land_only c.args.self c.requires c.in_default.not-Land
