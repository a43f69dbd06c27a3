use Rattle.cb_code.proofs.Tables.{one_table}
use Rattle.cb_code.proofs.laws.coefficient_laws.Goals as goal

pub returns : goal.returns
returns c = record { one_table = one_table }
