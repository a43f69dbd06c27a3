-- Orders that a pass was handed out can be run, and the pass keeps them until they are taken.
use Rattle.std.proofs.Common.{◌≡◌, ℕ, Result, Ok, Err, Option, None, Some, refl, ◌∙◌, subst}
use Rattle.std.specs.Prelude.{IfOk, IfSome}
use Rattle.cb_member.specs.declared.no_memory.NoMemory.{NoMemory}
use Rattle.cb_types.specs.declared.order.DecodeOrder.{DecodeOrder}
use Rattle.cb_types.specs.declared.order.EncodeOrder.{EncodeOrder}
use Rattle.cb_types.specs.declared.order.Kept.{Kept}
use Rattle.cb_types.specs.declared.order.Kept.TheVariants.{Encode, Decode}
use Rattle.cb_types.specs.declared.reply.Reply.{Reply}
use Rattle.cb_types.specs.declared.reply.Reply.TheVariants as answer
use Rattle.cb_types.specs.Orders.{IsDecodable, IsEncodable}
use Rattle.cb_evict.specs.declared.gathering.Gathered.{Gathered}
use Rattle.cb_evict.specs.declared.gathering.Gathered.TheVariants as gathered
use Rattle.cb_evict.specs.InstallRule.{kept_behind}
use Rattle.cb_swapin.specs.declared.fetching.Fetching.{Fetching}
use Rattle.cb_swapin.specs.declared.fetching.Fetching.TheVariants as fetching
use Rattle.cb_core.specs.OrderLeaves.{fetch_hands, gather_hands}
use Rattle.cb_core.specs.Ordered.{land_keeps}
use Rattle.cb_core.specs.OrderParts.{landed_order}
use Rattle.cb_shared.specs.Ordering.{CanRun}

pub gather_found : (r : Result Gathered NoMemory) (f : Result (Option EncodeOrder) NoMemory)
    (kept : Option Kept)
    → IfOk r (λ g. (o : EncodeOrder) → g ≡ gathered.Order o → kept ≡ Some (Encode o))
    → CanRun (gather_hands r) → IfOk f (λ found. IfSome found (λ o. r ≡ Ok (gathered.Order o)))
    → IfOk f (λ found. IfSome found (λ o. IsEncodable o × (kept ≡ Some (Encode o))))
gather_found r (Err e) kept handed runs is = tt
gather_found r (Ok None) kept handed runs is = tt
gather_found r (Ok (Some o)) kept handed runs is = (
  subst (λ (x : Result Gathered NoMemory). CanRun (gather_hands x)) is runs,
  subst (λ (x : Result Gathered NoMemory). IfOk x (λ g. (o : EncodeOrder) → g ≡ gathered.Order o
      → kept ≡ Some (Encode o))) is handed o refl,
)

pub fetch_found : (r : Result Fetching NoMemory) (f : Result (Option DecodeOrder) NoMemory)
    (kept : Option Kept)
    → IfOk r (λ g. (o : DecodeOrder) → g ≡ fetching.Order o → kept ≡ Some (Decode o))
    → CanRun (fetch_hands r) → IfOk f (λ found. IfSome found (λ o. r ≡ Ok (fetching.Order o)))
    → IfOk f (λ found. IfSome found (λ o. IsDecodable o × (kept ≡ Some (Decode o))))
fetch_found r (Err e) kept handed runs is = tt
fetch_found r (Ok None) kept handed runs is = tt
fetch_found r (Ok (Some o)) kept handed runs is = (
  subst (λ (x : Result Fetching NoMemory). CanRun (fetch_hands x)) is runs,
  subst (λ (x : Result Fetching NoMemory). IfOk x (λ g. (o : DecodeOrder) → g ≡ fetching.Order o
      → kept ≡ Some (Decode o))) is handed o refl,
)

-- an install that is refused leaves the order
pub install_left : (r : Reply) (order : Option Kept) → (r ≡ answer.Done → ⊥)
    → kept_behind r order ≡ order
install_left answer.Done order refused = absurd (refused refl)
install_left r order refused = refl

-- so does a landing
land_left : (r : Reply) (order : Option Kept) → ((frame : ℕ) → r ≡ answer.Swapped frame → ⊥)
    → landed_order order r ≡ order
land_left (answer.Swapped frame) order refused = absurd (refused frame refl)
land_left r order refused = refl

pub landing_left : (r : Result Reply NoMemory) (order kept : Option Kept) (k : Kept)
    → order ≡ Some k → kept ≡ land_keeps order r
    → IfOk r (λ reply. ((frame : ℕ) → reply ≡ answer.Swapped frame → ⊥) → kept ≡ Some k)
landing_left (Ok r) order kept k had is = λ refused. is ∙ land_left r order refused ∙ had
landing_left (Err e) order kept k had is = tt
