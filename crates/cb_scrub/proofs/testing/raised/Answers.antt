use Rattle.cb_scrub.proofs.ByRows.{raised_none}
use Rattle.cb_scrub.proofs.testing.raised.Goals as goal

pub returns-then-j-eq0 : goal.returns-then-j-eq0
returns-then-j-eq0 c = raised_none c.args.j c.args.block c.fits-block.0 c.fits-block.1 c.if-j-eq0.true
