-- Worked examples of what a line leaves and when it is answered Unavailable: what meets each
-- definition, and for each of its parts what breaks that part alone.
use Rattle.std.proofs.Common.{◌≡◌, ℕ, ◌^◌, ◌<◌, List, [], ◌∷◌, length, Option, None, Some, refl}
use Rattle.std.proofs.Common.{arith}
use Rattle.cb_member.specs.declared.names.Loss.{Loss}
use Rattle.cb_types.specs.declared.handle.SetId.{SetId}
use Rattle.cb_types.specs.declared.request.Request.{Request}
use Rattle.cb_types.specs.declared.request.Request.TheVariants.{Read, Free, Pin}
use Rattle.cb_types.specs.declared.reply.Reply.{Reply}
use Rattle.cb_types.specs.declared.reply.Reply.TheVariants as answer
use Rattle.cb_world.specs.Seats.{pins_of_seat}
use Rattle.cb_world.specs.World.{WorldState, IsSoundWorld}
use Rattle.cb_core.specs.Unavailable.{IsLost}
use Rattle.cb_core.specs.Unmoved.{KeepsPinned}
use Rattle.cb_lanes.specs.LineTells.{BringsObject, LineLeaves, LineTells}

abbrev name : List ℕ
name = 97 ∷ []

-- a name without a handle is answered Unmade, and never Unavailable
unmade : (w : WorldState) → LineTells 1 None (Read name) w answer.Unmade
unmade w = record {
  only = λ id l e. absurd (let z : answer.Unmade ≡ answer.Unavailable id l = e in cc);
  each = λ h id l e brings few lost. absurd (let z : None ≡ Some h = e in cc);
}

of_no_object : (w : WorldState) (id : SetId) (l : List Loss)
    → LineTells 1 None (Read name) w (answer.Unavailable id l) → ⊥
of_no_object w id l t = let z = t.only id l refl in absurd (let e : None ≡ Some z.0 = z.1 in cc)

-- neither is an object whose set has lost no more than it can
of_a_whole_set : (w : WorldState) (h : ℕ) (id : SetId) (l : List Loss)
    → ((k : ℕ) → IsLost w k id l → ⊥) → LineTells 1 (Some h) (Read name) w (answer.Unavailable id l)
    → ⊥
of_a_whole_set w h id l whole t = let z = t.only id l refl in whole z.0 z.3

-- a line that brings nothing in
of_a_free : (w : WorldState) (h : ℕ) (id : SetId) (l : List Loss)
    → LineTells 1 (Some h) (Free name) w (answer.Unavailable id l) → ⊥
of_a_free w h id l t = (t.only id l refl).2

-- a lost object is told, and its set and losses; but not to a pin of a lane that has 16
lost_untold : (w : WorldState) (h : ℕ) (id : SetId) (l : List Loss) → IsLost w h id l
    → w.far.counts.turns < 2 ^ 40 → LineTells 1 (Some h) (Read name) w answer.Moving → ⊥
lost_untold w h id l lost few t =
    let e : answer.Moving ≡ answer.Unavailable id l = t.each h id l refl tt few lost in cc

full_scope : (w : WorldState) → length (pins_of_seat w.seats 1) ≡ 16 → BringsObject w 1 (Pin name)
    → ⊥
full_scope w full room = omega (arith, full, room)

-- ---- what a line leaves
module _ (w between rested : WorldState) (r : Reply) (request : Request) (handle : Option ℕ) where
  abbrev Leaves : Type 0
  Leaves = LineLeaves 1 handle request w r between rested

  unsound : (IsSoundWorld rested → ⊥) → Leaves → ⊥
  unsound not x = not x.sound

  moves_what_is_pinned : (KeepsPinned w between → ⊥) → Leaves → ⊥
  moves_what_is_pinned not x = not x.pinned

  moves_it_at_rest : (KeepsPinned between rested → ⊥) → Leaves → ⊥
  moves_it_at_rest not x = not x.resting

  tells_otherwise : (LineTells 1 handle request w r → ⊥) → Leaves → ⊥
  tells_otherwise not x = not x.unavailable
