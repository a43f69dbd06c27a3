use Rattle.std.specs.Prelude.{is_ok}
use Rattle.cb_shared_bench.specs.declared.crew.Part.{Part}
use Rattle.cb_shared_bench.specs.Callers.{IsCaller}
use Rattle.cb_shared_bench.proofs.Again.{pushed}
use Rattle.cb_shared_bench.proofs.crew.deal_same.Goals as goal

pub returns-in-Some-clause-callers : goal.returns-in-Some-clause-callers
returns-in-Some-clause-callers c = pushed
    (λ (x : Part). IsCaller c.args.shared.now x.handle x.pass) c.args.parts.now.items
    c.push.new.self.items c.in-Some.part (is_ok c.push.result) c.push.ensures.items
    c.requires.callers c.in-Some.ensures.caller
