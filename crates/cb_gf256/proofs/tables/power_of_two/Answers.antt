use Rattle.cb_gf256.proofs.TableLemmas.{exp_is}
use Rattle.cb_gf256.proofs.tables.power_of_two.Goals as goal

pub returns : goal.returns
returns c = exp_is c.args.i c.requires
