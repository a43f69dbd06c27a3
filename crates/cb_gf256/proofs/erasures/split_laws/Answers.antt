use Rattle.cb_gf256.proofs.PublicLaws.{split_of_none, split_with_present, split_with_lost, split_of_same, parities_split, position_is_at_most, ascending_apart}
use Rattle.cb_gf256.proofs.erasures.split_laws.Goals as goal

pub returns-clause-split_of_none : goal.returns-clause-split_of_none
returns-clause-split_of_none c = split_of_none

pub returns-clause-split_with_present : goal.returns-clause-split_with_present
returns-clause-split_with_present c = split_with_present

pub returns-clause-split_with_lost : goal.returns-clause-split_with_lost
returns-clause-split_with_lost c = split_with_lost

pub returns-clause-split_of_same : goal.returns-clause-split_of_same
returns-clause-split_of_same c = split_of_same

pub returns-clause-parities_split : goal.returns-clause-parities_split
returns-clause-parities_split c = parities_split

pub returns-clause-position_is_at_most : goal.returns-clause-position_is_at_most
returns-clause-position_is_at_most c = position_is_at_most

pub returns-clause-ascending_apart : goal.returns-clause-ascending_apart
returns-clause-ascending_apart c = ascending_apart
