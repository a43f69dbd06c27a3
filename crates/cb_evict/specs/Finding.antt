-- The spans that can leave now.
use Rattle.std.specs.Prelude.{◌≡◌, ℕ, ◌+◌, ◌≤◌, true, List, is_some}
use Rattle.cb_world.specs.declared.access.Access.{Access}
use Rattle.cb_world.specs.declared.shown.Shown.{Shown}
use Rattle.cb_world.specs.Choices.{room_count}
use Rattle.cb_world.specs.FarState.{FarState}
use Rattle.cb_evict.specs.declared.eviction.Eviction.TheVariants.{Refused}
use Rattle.cb_evict.specs.declared.finding.Found.{Found}
use Rattle.cb_evict.specs.declared.finding.Found.TheVariants.{Few, Loose}
use Rattle.cb_evict.specs.Candidates.{candidates}
use Rattle.cb_evict.specs.declared.lengths.LengthCounts.{LengthCounts}
use Rattle.cb_evict.specs.Lengths.{AreLengthCounts, batch_pages}
use Rattle.cb_evict.specs.Looking.{LooksOver}
use Rattle.cb_evict.specs.Taking.{AreLooseNow, TakesFew}

-- by looks these spans are loose, so many of each length, which are enough of one, and so many nodes
-- have room, which are enough
pub record FindsLoose (runs : List Access → Type 0) (far : FarState) (loose : List ℕ)
    (counts : LengthCounts) (n : ℕ) : Type 0 where
  pub looks : LooksOver runs far.spans (candidates far) loose
  pub counted : AreLengthCounts far.spans loose counts
  pub enough : is_some (batch_pages far.code.k far.spans loose) ≡ true
  pub room : far.code.k + far.code.r ≤ room_count far.nodes far.members
  pub nodes : n ≡ room_count far.nodes far.members

-- by the answer: there is too little, or the spans are loose
abbrev pub FindsSpans : (List Access → Type 0) → (Shown → Type 0) → FarState → Found → Type 0
FindsSpans runs shows far (Few lack loose nodes) =
    TakesFew runs shows far (AreLooseNow far) (Refused lack loose nodes)
FindsSpans runs shows far (Loose frames counts nodes) =
    FindsLoose runs far frames.items counts nodes
