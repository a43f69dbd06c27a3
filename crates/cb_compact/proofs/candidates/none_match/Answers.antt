use Rattle.std.proofs.Common.{ap, subst}
use Rattle.cb_world.specs.FarState.{FarState}
use Rattle.cb_world.specs.Groups.{NoSetsMatch}
use Rattle.cb_compact.proofs.Learned.{none_can_join}
use Rattle.cb_compact.proofs.candidates.none_match.Goals as goal

pub returns-clause-none : goal.returns-clause-none
returns-clause-none c none =
    none_can_join c.args.far.now (subst NoSetsMatch (ap (λ (f : FarState). f.sets) c.far.view_is)
    (c.none_match.ensures.none none))
