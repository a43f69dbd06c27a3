use Rattle.cb_shared.specs.Passes.{record_of}
use Rattle.cb_shared_bench.proofs.far.slice_of_array.Goals as goal

pub time_array-requires-clause-array : goal.time_array-requires-clause-array
time_array-requires-clause-array g c = (c.new-array.ensures.array (record_of c.args.pass.now)).0
