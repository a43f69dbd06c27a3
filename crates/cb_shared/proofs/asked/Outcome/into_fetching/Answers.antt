use Rattle.cb_shared.proofs.Handed.{fetch_only}
use Rattle.cb_shared.proofs.asked.Outcome.into_fetching.Goals as goal

pub unreachable-requires : goal.unreachable-requires
unreachable-requires c = fetch_only c.args.self c.requires c.in_default.not-Fetch
