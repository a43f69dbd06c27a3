use Rattle.cb_erase.proofs.Words.{one_table}
use Rattle.cb_erase.proofs.laws.weight_laws.Goals as goal

pub returns : goal.returns
returns c = record { one_table = one_table }
