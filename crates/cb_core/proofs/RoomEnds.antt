-- How an operation ends for which room is won, however many evictions that took.
use Rattle.std.proofs.Common.{◌≡◌, ℕ, suc, sym, subst}
use Rattle.cb_types.specs.declared.reply.Reply.{Reply}
use Rattle.cb_types.specs.declared.reply.Reply.TheVariants as answer
use Rattle.cb_evict.specs.declared.eviction.Eviction.{Eviction}
use Rattle.cb_evict.specs.declared.eviction.Eviction.TheVariants.{Refused}
use Rattle.cb_evict.specs.declared.eviction.Lack.{Lack}
use Rattle.cb_core.specs.Parts.{Holding, WithRoom, at_once, no_room, won}

-- as the operation does, from where the evictions led; or with no room, by an eviction that was
-- refused
pub data RoomEnds {D : Type 0} (frames : ℕ) (operation : Holding D → Reply → Holding D → Type 0)
    (eviction : Holding D → Eviction → Holding D → Type 0) (r : Reply) (b : Holding D)
    : Type 0 where
  operated : (n : Holding D) → operation n r b → (r ≡ answer.NoFrame → ⊥)
      → RoomEnds frames operation eviction r b
  was_refused : (m : Holding D) (why : Lack) (loose nodes : ℕ)
      → eviction m (Refused why loose nodes) b
      → r ≡ answer.NoRoom frames loose nodes → RoomEnds frames operation eviction r b

module _ {D : Type 0} (frames : ℕ) (operation : Holding D → Reply → Holding D → Type 0)
    (eviction : Holding D → Eviction → Holding D → Type 0) where
  pub room_ends : (left : ℕ) (a b : Holding D) (r : Reply)
      → WithRoom frames operation eviction left a r b → RoomEnds frames operation eviction r b
  room_ends left a b r (at_once o off) = operated a o off
  room_ends left a b r (no_room m why loose nodes o v is) = was_refused m why loose nodes v is
  room_ends (suc fewer) a b r (won m n id o v again) = room_ends fewer n b r again

  -- what is so of each reply of the operation but that there is no frame, and of each that there is
  -- no room, is so of the reply
  pub room_reply : (C : Reply → Type 0)
      → ((n b : Holding D) (r : Reply) → operation n r b → (r ≡ answer.NoFrame → ⊥) → C r)
      → ((loose nodes : ℕ) → C (answer.NoRoom frames loose nodes)) → (left : ℕ) (a b : Holding D)
      (r : Reply) → WithRoom frames operation eviction left a r b → C r
  room_reply C each none left a b r x = by (room_ends left a b r x)
    where
      by : RoomEnds frames operation eviction r b → C r
      by (operated n o off) = each n b r o off
      by (was_refused m why loose nodes v is) = subst C (sym is) (none loose nodes)
