use Rattle.carbink_c.proofs.Worlds.{crash_byte, join_byte}
use Rattle.carbink_c.proofs.asking.event_of.Goals as goal

pub crash-job-requires : goal.crash-job-requires
crash-job-requires c = crash_byte c.args.config.now c.args.verb c.args.asked.now c.args.bytes.now c.in-Crash.is c.requires.accepted c.requires.may_come

pub join-job-requires : goal.join-job-requires
join-job-requires c = join_byte c.args.config.now c.args.verb c.args.asked.now c.args.bytes.now c.in-Join.is c.requires.accepted c.requires.may_come
