-- Where the object of a far word lies; and what is known where rows were given out in vain.
use Rattle.std.proofs.Common.{◌≡◌, ℕ, ◌+◌, Some, ap, ◌∙◌}
use Rattle.cb_set.specs.SetState.{SetState}
use Rattle.cb_world.specs.declared.homes.Home.{Home}
use Rattle.cb_world.specs.declared.shown.Shown.{Shown}
use Rattle.cb_world.specs.Homes.{home_at}
use Rattle.cb_world.specs.Now.{broken_home, broken_set, is_gone}
use Rattle.cb_world.specs.Plain.{Words}
use Rattle.cb_world.specs.Sets.{set_in}
use Rattle.cb_world.specs.SetWord.{is_broken}
use Rattle.cb_world.specs.FarState.{FarState}
use Rattle.cb_world.specs.World.{IsKnown}
use Rattle.cb_world.proofs.Laws.{recounted_sound}
use Rattle.cb_swapin.specs.Fetching.{far_given}

-- the object of a home is gone where the set of its home is broken
pub gone_is_broken : (far : FarState) (h : ℕ) (home : Home) (set : SetState)
    → home_at far.homes h ≡ Some home → set_in far.sets home.set ≡ Some set
    → is_gone far h ≡ is_broken far.members set
gone_is_broken far h home set at there =
    ap (broken_home far) at ∙ ap (broken_set far.members) there

-- ---- a swap-in that found no memory: its rows were given out, and nothing else was done
pub given_known : (x : Words) (far : FarState) (s : Shown) (n : ℕ) → IsKnown x far s
    → IsKnown x (far_given far n) s
given_known x far s n k = record {
  sized = k.sized;
  shows = k.shows;
  hots = k.hots;
  sound = recounted_sound s far far.counts.turns far.counts.by_job (far.nodes.given + n) k.sound;
  packed = k.packed;
  freed = k.freed;
}
