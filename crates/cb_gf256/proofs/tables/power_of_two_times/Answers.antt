use Rattle.cb_gf256.proofs.TableLemmas.{power_times_is, power_times_within}
use Rattle.cb_gf256.proofs.tables.power_of_two_times.Goals as goal

pub bounds-i : goal.bounds-i
bounds-i c = power_times_within c.args.i c.args.x c.requires c.ranges.x.fits

pub returns : goal.returns
returns c = power_times_is c.args.i c.args.x c.requires c.ranges.x.fits
