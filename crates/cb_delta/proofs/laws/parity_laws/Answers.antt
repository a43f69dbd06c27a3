use Rattle.cb_delta.proofs.Patching.{sums_are_parities, one_parity}
use Rattle.cb_delta.proofs.laws.parity_laws.Goals as goal

pub returns-clause-sums_are_parities : goal.returns-clause-sums_are_parities
returns-clause-sums_are_parities c = sums_are_parities

pub returns-clause-one_parity : goal.returns-clause-one_parity
returns-clause-one_parity c = one_parity
