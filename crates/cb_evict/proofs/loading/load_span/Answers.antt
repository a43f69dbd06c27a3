use Rattle.std.proofs.Common.{◌∙◌, arith}
use Rattle.cb_types.specs.declared.config.Field.TheVariants.{Frames}
use Rattle.cb_evict.proofs.Loads.{run_loaded}
use Rattle.cb_evict.proofs.loading.load_span.Goals as goal

pub returns : goal.returns
returns g c = record {
  loads = run_loaded _ _ c.args.frame c.args.pages _ c.load_run.ensures
      (λ es s ran b. (g.met.D.Desk.follows _ _ es s ran b).0);
  sized = c.load_run.auto.row ∙ c.requires.into;
}

pub load_run-requires-clause-numbered : goal.load_run-requires-clause-numbered
load_run-requires-clause-numbered g c = omega (arith, (c.requires.config Frames).1, c.requires.frames)
