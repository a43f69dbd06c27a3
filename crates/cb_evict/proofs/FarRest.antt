-- What no eviction and no step of a batch changes of the far state.
use Rattle.std.proofs.Common.{◌≡◌, ℕ, List, Option}
use Rattle.cb_member.specs.Membership.{Membership}
use Rattle.cb_world.specs.FarState.{FarState}
use Rattle.cb_world.specs.Joining.{JoiningState}
use Rattle.cb_world.proofs.Laws.{KeepsFar}

abbrev pub FarRest : Type 0
FarRest = ℕ × ℕ × Membership × Option JoiningState × ℕ × List ℕ

abbrev pub rest_of : FarState → FarRest
rest_of far =
    (far.first, far.made, far.members, far.joining, far.counts.turns, far.counts.by_job)

pub rest_kept : (far new : FarState) → rest_of new ≡ rest_of far → KeepsFar far new
rest_kept far new e = record {
  first = λ i. (e i).0;
  made = λ i. (e i).1;
  members = λ i. (e i).2;
  joining = λ i. (e i).3;
  turns = λ i. (e i).4;
  by_job = λ i. (e i).5;
}
