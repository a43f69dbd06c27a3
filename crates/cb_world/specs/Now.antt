-- Last complete contents.
use Rattle.std.specs.Prelude.{ℕ, zero, suc, Bool, false, List, Option, None, Some, if◌then◌else◌}
use Rattle.cb_member.specs.Membership.{Membership}
use Rattle.cb_set.specs.SetState.{SetState}
use Rattle.cb_world.specs.declared.object.Object.{Object}
use Rattle.cb_world.specs.declared.object.Object.TheVariants as is
use Rattle.cb_world.specs.declared.shown.Shown.{Shown}
use Rattle.cb_world.specs.declared.homes.Home.{Home}
use Rattle.cb_world.specs.Memory.{window, words_for, bytes_in}
use Rattle.cb_world.specs.Shown.{object_at, version_at}
use Rattle.cb_world.specs.Sets.{set_in}
use Rattle.cb_world.specs.SetWord.{is_broken}
use Rattle.cb_world.specs.Homes.{home_at}
use Rattle.cb_world.specs.FarState.{FarState}

pub data Now : Type 0 where
  never : Now
  freed : ℕ → Now
  held : ℕ → List ℕ → Now
  gone : ℕ → Now

abbrev pub broken_set : Membership → Option SetState → Bool
broken_set m None = false
broken_set m (Some set) = is_broken m set

abbrev pub broken_home : FarState → Option Home → Bool
broken_home far None = false
broken_home far (Some home) = broken_set far.members (set_in far.sets home.set)

-- the set of the object's home has lost more shards than it has parities
abbrev pub is_gone : FarState → ℕ → Bool
is_gone far h = broken_home far (home_at far.homes h)

abbrev pub now_as : Shown → ℕ → Bool → Object → Now
now_as s h lost (is.Empty zero) = never
now_as s h lost (is.Empty (suc v)) = freed (suc v)
now_as s h lost (is.Far len v words) = if lost then gone v else held v (bytes_in words len)
now_as s h lost (is.Here len place) =
    held (version_at s h) (bytes_in (window s.memory place (words_for len)) len)
now_as s h lost (is.Claimed len place v words) = held v (bytes_in words len)

abbrev pub now : Shown → FarState → ℕ → Now
now s far h = now_as s h (is_gone far h) (object_at s h)
