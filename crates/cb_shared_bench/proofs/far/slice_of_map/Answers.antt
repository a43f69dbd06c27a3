use Rattle.cb_shared.specs.Passes.{record_of}
use Rattle.cb_shared_bench.proofs.far.slice_of_map.Goals as goal

pub time_map-requires-clause-map : goal.time_map-requires-clause-map
time_map-requires-clause-map g c = (c.in-Ok.ensures.map (record_of c.args.pass.now)).0
