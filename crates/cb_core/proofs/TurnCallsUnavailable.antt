-- A turn is answered Unavailable exactly where its object's set has lost more shards than it has parities.
use Rattle.std.proofs.Common.{◌≡◌, ℕ, true, ◌^◌, ◌<◌, List, [], length}
use Rattle.cb_member.specs.declared.names.Loss.{Loss}
use Rattle.cb_types.specs.declared.handle.SetId.{SetId}
use Rattle.cb_types.specs.declared.job.Job.{Job}
use Rattle.cb_types.specs.declared.job.Job.TheVariants as job
use Rattle.cb_types.specs.declared.request.Request.TheVariants.{Read, Write}
use Rattle.cb_types.specs.declared.reply.Reply.{Reply}
use Rattle.cb_types.specs.declared.reply.Reply.TheVariants as answer
use Rattle.cb_world.specs.FarState.{FarState}
use Rattle.cb_world.specs.Now.{is_gone}
use Rattle.cb_world.specs.World.{WorldState, IsSoundWorld}
use Rattle.cb_core.specs.Parts.{NeverDeclined}
use Rattle.cb_core.specs.Step.{StillRead, StillWrite, StillDecline, TurnStep}
use Rattle.cb_core.specs.Turned.{counted}
use Rattle.cb_core.proofs.TurnCalls.{held_at, held_then, is_done, known_at}
use Rattle.cb_core.proofs.TurnCallsFar.{IsLostFar}
use Rattle.cb_core.proofs.TurnCallsLost.{where_lost, where_gone}
use Rattle.cb_core.proofs.TurnCallsParts.{read_part, write_part}
use Rattle.cb_core.proofs.TurnCallsSwap.{swap_lost, swap_gone}

-- the reply tells the number of the object's set, and what that lost
pub record IsUnavailable (far : FarState) (h : ℕ) (r : Reply) : Type 0 where
  pub id : SetId
  pub losses : List Loss
  pub is : r ≡ answer.Unavailable id losses
  pub lost : IsLostFar far h id losses

-- a count of turns changes nothing of what sets have lost
lost_at : (w : WorldState) (j : Job) (h : ℕ) (id : SetId) (l : List Loss)
    → IsLostFar (counted w.far j) h id l → IsLostFar w.far h id l
lost_at w j h id l z = record {
  home = z.home;
  set = z.set;
  at = z.at;
  there = z.there;
  broken = z.broken;
  number = z.number;
  lost = z.lost;
}

gone_at : (w : WorldState) (j : Job) (h : ℕ) → is_gone w.far h ≡ true → is_gone (counted w.far j) h ≡ true
gone_at w j h e = e

told_at : (w : WorldState) (j : Job) (h : ℕ) (r : Reply)
    → (id : SetId) × (l : List Loss) × (r ≡ answer.Unavailable id l) × IsLostFar (counted w.far j) h id l
    → IsUnavailable w.far h r
told_at w j h r (id, l, e, lost) = record {
  id = id;
  losses = l;
  is = e;
  lost = lost_at w j h id l lost;
}

-- ---- a read
pub read_unavailable : (w new : WorldState) (h : ℕ) (id : SetId) (l : List Loss)
    → (before : IsSoundWorld w) → w.far.counts.turns < 2 ^ 40
    → TurnStep (job.Read (record { n = h })) w (answer.Unavailable id l) new → IsLostFar w.far h id l
read_unavailable w new h id l before few step =
    let j = job.Read (record { n = h }) in
    lost_at w j h id l (where_lost (StillRead h) NeverDeclined h (Read []) (read_part h []) (held_at w j)
    (held_then new) before.shown id l (known_at w j before) (is_done j w new (answer.Unavailable id l) few step))

pub read_gone : (w new : WorldState) (h : ℕ) (r : Reply) → (before : IsSoundWorld w)
    → w.far.counts.turns < 2 ^ 40 → is_gone w.far h ≡ true
    → TurnStep (job.Read (record { n = h })) w r new → IsUnavailable w.far h r
read_gone w new h r before few gone step =
    let j = job.Read (record { n = h }) in
    told_at w j h r (where_gone (StillRead h) NeverDeclined h (Read []) (read_part h [])
    (held_at w j) (held_then new) before.shown r (known_at w j before) (gone_at w j h gone) (is_done j w new r few step))

-- ---- a write
pub write_unavailable : (w new : WorldState) (h at : ℕ) (bytes : List ℕ) (id : SetId) (l : List Loss)
    → (before : IsSoundWorld w) → w.far.counts.turns < 2 ^ 40
    → TurnStep (job.Write (record { n = h }) at bytes) w (answer.Unavailable id l) new
    → IsLostFar w.far h id l
write_unavailable w new h at bytes id l before few step =
    let j = job.Write (record { n = h }) at bytes in
    lost_at w j h id l (where_lost (StillWrite h at bytes) (StillDecline h at (length bytes)) h
    (Write [] at bytes) (write_part h at bytes []) (held_at w j) (held_then new) before.shown id l
    (known_at w j before) (is_done j w new (answer.Unavailable id l) few step))

pub write_gone : (w new : WorldState) (h at : ℕ) (bytes : List ℕ) (r : Reply) → (before : IsSoundWorld w)
    → w.far.counts.turns < 2 ^ 40 → is_gone w.far h ≡ true
    → TurnStep (job.Write (record { n = h }) at bytes) w r new → IsUnavailable w.far h r
write_gone w new h at bytes r before few gone step =
    let j = job.Write (record { n = h }) at bytes in
    told_at w j h r (where_gone (StillWrite h at bytes) (StillDecline h at (length bytes))
    h (Write [] at bytes) (write_part h at bytes []) (held_at w j) (held_then new) before.shown r
    (known_at w j before) (gone_at w j h gone) (is_done j w new r few step))

-- ---- a swap
pub swap_unavailable : (w new : WorldState) (h : ℕ) (id : SetId) (l : List Loss)
    → (before : IsSoundWorld w) → w.far.counts.turns < 2 ^ 40
    → TurnStep (job.Swap (record { n = h })) w (answer.Unavailable id l) new → IsLostFar w.far h id l
swap_unavailable w new h id l before few step =
    let j = job.Swap (record { n = h }) in
    lost_at w j h id l (swap_lost (held_at w j) (held_then new) before.shown h id l (known_at w j before)
    (is_done j w new (answer.Unavailable id l) few step))

pub swap_is_gone : (w new : WorldState) (h : ℕ) (r : Reply) → (before : IsSoundWorld w)
    → w.far.counts.turns < 2 ^ 40 → is_gone w.far h ≡ true
    → TurnStep (job.Swap (record { n = h })) w r new → IsUnavailable w.far h r
swap_is_gone w new h r before few gone step =
    let j = job.Swap (record { n = h }) in
    told_at w j h r (swap_gone (held_at w j) (held_then new) before.shown h r
    (known_at w j before) (gone_at w j h gone) (is_done j w new r few step))
