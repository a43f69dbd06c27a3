use Rattle.cb_map_text.proofs.Counted.{counted}
use Rattle.cb_map_text.proofs.Objects.{fresh_tallied, look_tells_the_put, none_made, one_where_needed, put_tells_the_old, stays_tallied}
use Rattle.cb_map_text.proofs.laws.plain_laws.Goals as goal

pub returns-clause-look_tells_the_put : goal.returns-clause-look_tells_the_put
returns-clause-look_tells_the_put c = look_tells_the_put

pub returns-clause-put_tells_the_old : goal.returns-clause-put_tells_the_old
returns-clause-put_tells_the_old c = put_tells_the_old

pub returns-clause-none_made : goal.returns-clause-none_made
returns-clause-none_made c = none_made

pub returns-clause-one_where_needed : goal.returns-clause-one_where_needed
returns-clause-one_where_needed c = one_where_needed

pub returns-clause-fresh_tallied : goal.returns-clause-fresh_tallied
returns-clause-fresh_tallied c = fresh_tallied

pub returns-clause-stays_tallied : goal.returns-clause-stays_tallied
returns-clause-stays_tallied c = stays_tallied

pub returns-clause-counted : goal.returns-clause-counted
returns-clause-counted c = counted
