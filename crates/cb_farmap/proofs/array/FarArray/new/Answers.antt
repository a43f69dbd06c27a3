use Rattle.cb_farmap.proofs.Arrays.{fresh_array}
use Rattle.cb_farmap.proofs.array.FarArray.new.Goals as goal

pub returns-clause-array : goal.returns-clause-array
returns-clause-array c v = fresh_array v c.new.result c.new.ensures.empty
