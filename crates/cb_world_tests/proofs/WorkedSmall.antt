-- Worked examples of the worlds that tests act on: the empty one, and for each part one that breaks
-- that part alone.
use Rattle.std.proofs.Common.{◌≡◌, [], refl, ap, lit≤, arith}
use Rattle.cb_types.specs.declared.config.Config.{Config}
use Rattle.cb_types.specs.declared.config.Field.TheVariants.{K, R, Nodes, Frames, Room, Handles, Turns}
use Rattle.cb_types.specs.Config.{IsAccepted}
use Rattle.cb_world.specs.World.{IsSoundWorld, empty_world}
use Rattle.cb_world.proofs.Laws.{empty_world_sound}
use Rattle.cb_world_tests.specs.Worlds.{IsSmallWorld, small}

accepted : IsAccepted small
accepted K = (lit≤ tt, lit≤ tt)
accepted R = (lit≤ tt, lit≤ tt)
accepted Nodes = (lit≤ tt, lit≤ tt)
accepted Frames = (lit≤ tt, lit≤ tt)
accepted Room = (lit≤ tt, lit≤ tt)
accepted Handles = (lit≤ tt, lit≤ tt)
accepted Turns = lit≤ tt

empty_is_small : IsSmallWorld (empty_world small)
empty_is_small = record { sound = empty_world_sound small accepted; settings = refl }

-- a world without seats is not sound
without_seats : IsSmallWorld (record (empty_world small) { seats = [] }) → ⊥
without_seats x = let e : 0 ≡ 64 = x.sound.pinned.count in absurd (omega (arith, e))

-- a sound world with a handle more
abbrev more : Config
more = record small { handles = 17 }

more_is_accepted : IsAccepted more
more_is_accepted K = (lit≤ tt, lit≤ tt)
more_is_accepted R = (lit≤ tt, lit≤ tt)
more_is_accepted Nodes = (lit≤ tt, lit≤ tt)
more_is_accepted Frames = (lit≤ tt, lit≤ tt)
more_is_accepted Room = (lit≤ tt, lit≤ tt)
more_is_accepted Handles = (lit≤ tt, lit≤ tt)
more_is_accepted Turns = lit≤ tt

more_is_sound : IsSoundWorld (empty_world more)
more_is_sound = empty_world_sound more more_is_accepted

with_more_handles : IsSmallWorld (empty_world more) → ⊥
with_more_handles x =
    let e : 17 ≡ 16 = ap (λ (c : Config). c.handles) x.settings in absurd (omega (arith, e))
