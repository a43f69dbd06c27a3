use Rattle.std.proofs.Common.{sym, subst}
use Rattle.cb_world.specs.FarState.{FarState}
use Rattle.cb_evict.specs.Storing.{HasSpans}
use Rattle.cb_evict.proofs.storing.next_set.Goals as goal

pub make_set-requires : goal.make_set-requires
make_set-requires c = record {
  spans = subst (λ (far : FarState). HasSpans far.spans c.args.shards.now c.args.frames.now)
      (sym c.far.view_is) c.requires.spans;
}
