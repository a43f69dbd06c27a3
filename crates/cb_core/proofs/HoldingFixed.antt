-- A taking and a giving of the far lock have one reply and lead to one world, and leave all but who
-- holds it.
use Rattle.std.proofs.Common.{◌≡◌, ℕ, List, sym, ap, ◌∙◌}
use Rattle.cb_types.specs.declared.reply.Reply.{Reply}
use Rattle.cb_types.specs.declared.reply.Reply.TheVariants as answer
use Rattle.cb_world.specs.OpenSteps.{NoneHolds}
use Rattle.cb_world.specs.Seats.{SeatState, AtMostOneHolds, Holds}
use Rattle.cb_world.specs.World.{WorldState}
use Rattle.cb_core.specs.Holding.{TakeStep, held, taken, GiveStep, not_held, given}

-- a seat holds the lock, or none does, and not both
pub none_and_one : (seats : List SeatState) (seat : ℕ) → NoneHolds seats → Holds seats seat → ⊥
none_and_one seats seat none holds = let e = sym (none seat) ∙ holds in cc

-- two holders are one
pub one_holder : (seats : List SeatState) (a b : ℕ) → AtMostOneHolds seats → Holds seats a
    → Holds seats b → answer.Held a ≡ answer.Held b
one_holder seats a b one x y = ap answer.Held (one a b x y)

module _ (seat : ℕ) (w a b : WorldState) (r q : Reply) (one : AtMostOneHolds w.seats) where
  pub take_fixed : TakeStep seat w r a → TakeStep seat w q b → (r ≡ q) × (a ≡ b)
  take_fixed (held k x e s) (held l y f t) = (e ∙ one_holder w.seats k l one x y ∙ sym f, s ∙ sym t)
  take_fixed (held k x e s) (taken n f t) = absurd (none_and_one w.seats k n x)
  take_fixed (taken n e s) (held l y f t) = absurd (none_and_one w.seats l n y)
  take_fixed (taken n e s) (taken m f t) = (e ∙ sym f, s ∙ sym t)

  pub give_fixed : GiveStep seat w r a → GiveStep seat w q b → (r ≡ q) × (a ≡ b)
  give_fixed (not_held n e s) (not_held m f t) = (e ∙ sym f, s ∙ sym t)
  give_fixed (not_held n e s) (given y f t) = absurd (n y)
  give_fixed (given x e s) (not_held n f t) = absurd (n x)
  give_fixed (given x e s) (given y f t) = (e ∙ sym f, s ∙ sym t)

-- ---- what stays

pub record LeavesWorld (w new : WorldState) : Type 0 where
  pub desk : new.desk ≡ w.desk
  pub far : new.far ≡ w.far

pub leaves_same : (w new : WorldState) → new ≡ w → LeavesWorld w new
leaves_same w new same = record {
  desk = ap (λ (v : WorldState). v.desk) same;
  far = ap (λ (v : WorldState). v.far) same;
}

module _ (w new : WorldState) (seat : ℕ) (r : Reply) where
  pub take_leaves : TakeStep seat w r new → LeavesWorld w new
  take_leaves (held k x e same) = leaves_same w new same
  take_leaves (taken none e same) = record {
    desk = ap (λ (v : WorldState). v.desk) same;
    far = ap (λ (v : WorldState). v.far) same;
  }

  pub give_leaves : GiveStep seat w r new → LeavesWorld w new
  give_leaves (not_held none e same) = leaves_same w new same
  give_leaves (given x e same) = record {
    desk = ap (λ (v : WorldState). v.desk) same;
    far = ap (λ (v : WorldState). v.far) same;
  }
