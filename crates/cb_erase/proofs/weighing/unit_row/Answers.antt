use Rattle.cb_erase.proofs.Tables.{unit_of_zeros}
use Rattle.cb_erase.proofs.weighing.unit_row.Goals as goal

pub returns-clause-unit : goal.returns-clause-unit
returns-clause-unit c j l = unit_of_zeros 16 c.args.i j c.requires
