use Rattle.cb_gf256.proofs.TableLemmas.{power-log, log-lt}
use Rattle.cb_gf256.proofs.tables.logarithm.Goals as goal

pub returns-clause-power : goal.returns-clause-power
returns-clause-power c = power-log c.args.a c.requires c.ranges.a.fits

pub returns-clause-least : goal.returns-clause-least
returns-clause-least c = log-lt c.args.a c.requires c.ranges.a.fits
