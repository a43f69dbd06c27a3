use Rattle.cb_shared.specs.Passes.{record_of}
use Rattle.cb_shared.proofs.FarSteps.{way_found, way_has, way_stops, way_tries}
use Rattle.cb_shared.proofs.Fetches.{one_of}
use Rattle.cb_shared.proofs.Handed.{fetch_fits, fetch_handed}
use Rattle.cb_shared.proofs.runtime.Shared.find_way.Goals as goal

pub returns-clause-of : goal.returns-clause-of
returns-clause-of g c = c.fetch_within-fetching.ensures.of

pub returns-clause-tries : goal.returns-clause-tries
returns-clause-tries g c = way_tries c.args.self.now.config c.args.h.n c.again.result
    c.args.patience.now.brought c.way_of.new.patience.brought (record_of c.args.pass.now)
    (record_of c.fetch_within-fetching.new.pass) c.fetch_within-fetching.result c.way_of.result
    c.again.ensures c.fetch_within-fetching.ensures.turn c.way_of.ensures

pub returns-clause-way : goal.returns-clause-way
returns-clause-way g c = way_has c.args.self.now.config c.args.h.n c.again.result
    c.args.patience.now.brought c.way_of.new.patience.brought (record_of c.args.pass.now)
    (record_of c.fetch_within-fetching.new.pass) c.fetch_within-fetching.result c.way_of.result
    (fetch_handed c.fetch_within-fetching.result (record_of c.args.pass.now).order
    (record_of c.fetch_within-fetching.new.pass).order c.fetch_within-fetching.ensures.keeps)
    (fetch_fits c.fetch_within-fetching.result c.fetch_within-fetching.ensures.runs)
    c.way_of.ensures

pub returns-clause-error : goal.returns-clause-error
returns-clause-error g c = way_stops c.args.self.now.config c.args.h.n c.again.result
    c.args.patience.now.brought c.way_of.new.patience.brought (record_of c.args.pass.now)
    (record_of c.fetch_within-fetching.new.pass) c.fetch_within-fetching.result c.way_of.result
    c.fetch_within-fetching.ensures.turn c.way_of.ensures

pub returns-clause-one : goal.returns-clause-one
returns-clause-one g c = one_of c.args.self.now.config _ _ (record_of c.args.pass.now)
    (record_of c.fetch_within-fetching.new.pass) c.fetch_within-fetching.ensures.turn

pub returns-clause-found : goal.returns-clause-found
returns-clause-found g c = way_found c.args.self.now.config c.args.h.n c.again.result
    c.args.patience.now.brought c.way_of.new.patience.brought (record_of c.args.pass.now)
    (record_of c.fetch_within-fetching.new.pass) c.fetch_within-fetching.result c.way_of.result
    c.fetch_within-fetching.ensures.turn c.fetch_within-fetching.ensures.plain c.way_of.ensures
