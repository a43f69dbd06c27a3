-- What a seat keeps behind a turn that hands an order out or takes one, and what the turn leaves.
use Rattle.std.proofs.Common.{◌≡◌, ◌⊎◌, ℕ, ◌^◌, ◌<◌, List, [], Option, None, Some, refl, sym, ap, subst, inl, inr}
use Rattle.std.specs.Prelude.{Result, Ok, Err, IfOk, OnErr}
use Rattle.cb_member.specs.declared.no_memory.NoMemory.{NoMemory}
use Rattle.cb_types.specs.declared.config.Config.{Config}
use Rattle.cb_types.specs.Config.{IsAccepted}
use Rattle.cb_types.specs.declared.handle.Handle.{Handle}
use Rattle.cb_types.specs.declared.job.Job.{Job}
use Rattle.cb_types.specs.declared.job.Job.TheVariants.{Fetch, Gather, Install, Land}
use Rattle.cb_types.specs.declared.order.Kept.{Kept}
use Rattle.cb_types.specs.declared.order.Kept.TheVariants.{Decode, Encode}
use Rattle.cb_types.specs.declared.order.DecodeOrder.{DecodeOrder}
use Rattle.cb_types.specs.declared.order.EncodeOrder.{EncodeOrder}
use Rattle.cb_types.specs.declared.reply.Reply.{Reply}
use Rattle.cb_types.specs.declared.reply.Reply.TheVariants as answer
use Rattle.cb_world.specs.declared.access.Access.{Access}
use Rattle.cb_world.specs.declared.shown.Shown.{Shown}
use Rattle.cb_world.specs.FarState.{FarState}
use Rattle.cb_world.specs.Orders.{KeepsOrder}
use Rattle.cb_world.specs.Played.{played}
use Rattle.cb_world.specs.Sound.{Sound}
use Rattle.cb_world.specs.World.{AreCounted, IsConfigured}
use Rattle.cb_world.proofs.Laws.{order_then}
use Rattle.cb_evict.specs.declared.gathering.Gathered.{Gathered}
use Rattle.cb_evict.specs.declared.gathering.Gathered.TheVariants as gathered
use Rattle.cb_evict.specs.Gathering.{gathered_order, gathered_reply}
use Rattle.cb_evict.specs.InstallRule.{InstallStep, kept_behind}
use Rattle.cb_swapin.specs.declared.fetching.Fetching.{Fetching}
use Rattle.cb_swapin.specs.declared.fetching.Fetching.TheVariants as fetching
use Rattle.cb_swapin.specs.FetchStep.{fetching_order, fetching_reply}
use Rattle.cb_core.specs.Jobs.{NeedsNoOrder}
use Rattle.cb_core.specs.Ordered.{EndsWith, InstallEnds, InstallTurn, StoppedWith, TurnedWith, fetch_answer, fetch_keeps, gather_answer, gather_keeps, land_keeps}
use Rattle.cb_core.specs.Ordered.InstallTurn.{done as install_done, worn as install_late}
use Rattle.cb_core.specs.Ordered.StopsAt.{in_part, in_run}
use Rattle.cb_core.specs.Ordered.TurnedWith.{worn}
use Rattle.cb_core.specs.OrderLeaves.{HandsOrder, InstallLeaves, LeavesWith, fetch_hands, gather_hands}
use Rattle.cb_core.specs.OrderParts.{decode_in, encode_in, landed_order}
use Rattle.cb_core.specs.Parts.{Holding}
use Rattle.cb_core.specs.Parts.RoomStops.{at_once as lacks_now}
use Rattle.cb_core.specs.TurnLeaves.{TurnLeaves}
use Rattle.cb_core.specs.Turned.{counted}
use Rattle.cb_core.proofs.InstallAtDesk.{install_at_desk, install_desk_leaves}
use Rattle.cb_core.proofs.OrdersLeave.{land_stops, worn_leaves}
use Rattle.cb_core.proofs.OrderTurns.{install_leaves, install_worn}
use Rattle.cb_core.proofs.TurnComes.{AreLaws, Good, WritesNothing}

-- ---- the orders
-- behind an install, and behind a landing, a seat keeps what it kept, or nothing
abbrev pub IsSameOrNone : Option Kept → Option Kept → Type 0
IsSameOrNone order keeps = (keeps ≡ order) ⊎ (keeps ≡ None)

installed_or : (r : Reply) (order : Option Kept) → IsSameOrNone order (kept_behind r order)
installed_or answer.Done order = inr refl
installed_or r order = inl refl

landed_or : (r : Reply) (order : Option Kept) → IsSameOrNone order (landed_order order r)
landed_or (answer.Swapped f) order = inr refl
landed_or r order = inl refl

lands_or : (q : Result Reply NoMemory) (order : Option Kept) → IsSameOrNone order (land_keeps order q)
lands_or (Ok r) order = landed_or r order
lands_or (Err e) order = inl refl

step_or : (far new : FarState) (r : Reply) (order keeps : Option Kept)
    → InstallStep far new r order keeps → IsSameOrNone order keeps
step_or far new r None keeps x = inl x.1
step_or far new r (Some (Decode o)) keeps x = inl x.1
step_or far new r (Some (Encode o)) keeps (inl x) = inl x.1
step_or far new r (Some (Encode o)) keeps (inr (inl x)) = inl x.1
step_or far new r (Some (Encode o)) keeps (inr (inr x)) = inr x.1

turn_or : (far new : FarState) (r : Reply) (order keeps : Option Kept)
    → InstallTurn far r order keeps new → IsSameOrNone order keeps
turn_or far new r order keeps (install_late end is same state) = inl same
turn_or far new r order keeps (install_done few step) =
    step_or (counted far Install) new r order keeps step

ends_or : (far new : FarState) (q : Result Reply NoMemory) (order keeps : Option Kept)
    → InstallEnds far order keeps q new → IsSameOrNone order keeps
ends_or far new (Ok r) order keeps x = turn_or far new r order keeps x
ends_or far new (Err e) order keeps x = inl x.0

-- what an install that was answered otherwise than Done leaves the seat
pub not_done : (r : Reply) (order : Option Kept) → (r ≡ answer.Done → ⊥) → kept_behind r order ≡ order
not_done answer.Done order off = absurd (off refl)
not_done r order off = refl

pub was_done : (r : Reply) (order : Option Kept) → r ≡ answer.Done → kept_behind r order ≡ None
was_done r order is = ap (λ (q : Reply). kept_behind q order) is

pub not_landed : (q : Result Reply NoMemory) (order : Option Kept)
    → ((f : ℕ) → q ≡ Ok (answer.Swapped f) → ⊥) → land_keeps order q ≡ order
not_landed (Ok (answer.Swapped f)) order off = absurd (off f refl)
not_landed (Ok r) order off = refl
not_landed (Err e) order off = refl

pub was_landed : (q : Result Reply NoMemory) (order : Option Kept) (f : ℕ)
    → q ≡ Ok (answer.Swapped f) → land_keeps order q ≡ None
was_landed q order f is = ap (λ (p : Result Reply NoMemory). land_keeps order p) is

module _ {D : Type 0} (run : D → List Access → D → Type 0) (shows : D → Shown → Type 0) (c : Config)
    (a b : Holding D) where
  -- what the seat keeps behind the turn is what it kept, or nothing
  pub same_left : (order keeps : Option Kept) → IsSameOrNone order keeps
      → TurnLeaves run shows c a b WritesNothing → LeavesWith run shows c a b order keeps
  same_left order keeps (inl same) z = record {
    leaves = z;
    kept = λ s shown sound was. subst (KeepsOrder (played z.events s) b.far) (sym same)
        (order_then s (played z.events s) a.far b.far order (z.after s shown sound).orders was);
  }
  same_left order keeps (inr none) z = record {
    leaves = z;
    kept = λ s shown sound was. subst (KeepsOrder (played z.events s) b.far) (sym none) tt;
  }

  -- the same by what the seat keeps and the outcome, where these are named otherwise
  pub ends_as : (job : Job) (order keeps also : Option Kept) (q p : Result Reply NoMemory)
      → also ≡ keeps → p ≡ q → EndsWith run shows c job order a keeps q b
      → EndsWith run shows c job order a also p b
  ends_as job order keeps also q p same is x =
      subst (λ (k : Option Kept). EndsWith run shows c job order a k p b) (sym same)
      (subst (λ (r : Result Reply NoMemory). EndsWith run shows c job order a keeps r b) (sym is) x)

  pub left_as : (order keeps also : Option Kept) → also ≡ keeps
      → LeavesWith run shows c a b order keeps → LeavesWith run shows c a b order also
  left_as order keeps also same x = subst (LeavesWith run shows c a b order) (sym same) x

  -- ---- a gather
  pub gather_ends : (order : Option Kept) (q : Result Gathered NoMemory)
      → IfOk q (λ g. (o : Option Kept) → TurnedWith run shows c Gather o a (gathered_reply g)
      (gathered_order o g) b)
      → OnErr q ((o : Option Kept) → StoppedWith run shows c Gather o a b)
      → EndsWith run shows c Gather order a (gather_keeps order q) (gather_answer q) b
  gather_ends order (Ok g) turned stopped = turned order
  gather_ends order (Err e) turned stopped = (refl, in_part (stopped order))

  pub gather_left : (order : Option Kept) (q : Result Gathered NoMemory)
      → HandsOrder run shows c a b (gather_hands q)
      → LeavesWith run shows c a b order (gather_keeps order q)
  gather_left order (Ok (gathered.Order o)) z =
      record { leaves = z.leaves; kept = λ s shown sound was. z.kept s shown sound }
  gather_left order (Ok (gathered.Answer r)) z = same_left order order (inl refl) z.leaves
  gather_left order (Err e) z = same_left order order (inl refl) z.leaves

  -- ---- a fetch
  pub fetch_ends : (h : Handle) (order : Option Kept) (q : Result Fetching NoMemory)
      → IfOk q (λ g. (o : Option Kept) → TurnedWith run shows c (Fetch h) o a (fetching_reply g)
      (fetching_order o g) b)
      → OnErr q ((o : Option Kept) → StoppedWith run shows c (Fetch h) o a b)
      → EndsWith run shows c (Fetch h) order a (fetch_keeps order q) (fetch_answer q) b
  fetch_ends h order (Ok g) turned stopped = turned order
  fetch_ends h order (Err e) turned stopped = (refl, in_part (stopped order))

  pub fetch_left : (order : Option Kept) (q : Result Fetching NoMemory)
      → HandsOrder run shows c a b (fetch_hands q)
      → LeavesWith run shows c a b order (fetch_keeps order q)
  fetch_left order (Ok (fetching.Order o)) z =
      record { leaves = z.leaves; kept = λ s shown sound was. z.kept s shown sound }
  fetch_left order (Ok (fetching.Answer r)) z = same_left order order (inl refl) z.leaves
  fetch_left order (Err e) z = same_left order order (inl refl) z.leaves

  -- ---- a landing
  pub land_ends : (order ran : Option Kept) (q : Result Reply NoMemory) → decode_in order ≡ ran
      → IfOk q (λ r. (o : Option Kept) → decode_in o ≡ ran
      → TurnedWith run shows c Land o a r (landed_order o r) b)
      → OnErr q ((o : Option Kept) → decode_in o ≡ ran → StoppedWith run shows c Land o a b)
      → EndsWith run shows c Land order a (land_keeps order q) q b
  land_ends order ran (Ok r) asked turned stopped = turned order asked
  land_ends order ran (Err e) asked turned stopped = (refl, in_part (stopped order asked))

  pub land_left : (order : Option Kept) (q : Result Reply NoMemory)
      → TurnLeaves run shows c a b WritesNothing
      → LeavesWith run shows c a b order (land_keeps order q)
  land_left order q z = same_left order (land_keeps order q) (lands_or q order) z

  -- ---- an install, at the desk
  pub install_ends : (order keeps : Option Kept) (q : Result Reply NoMemory) → run a.desk [] b.desk
      → InstallEnds a.far order keeps q b.far
      → EndsWith run shows c Install order a keeps q b
  install_ends order keeps (Ok r) ran x = install_at_desk run shows c a b ran r order keeps x
  install_ends order keeps (Err e) ran x = (x.0, in_run x.1 x.2 (ran, x.3))

  pub install_left : (order keeps : Option Kept) (q : Result Reply NoMemory) → run a.desk [] b.desk
      → InstallEnds a.far order keeps q b.far → InstallLeaves c a.far b.far (encode_in order)
      → ((s : Shown) → shows a.desk s → Sound s a.far → KeepsOrder s a.far order)
      → LeavesWith run shows c a b order keeps
  install_left order keeps q ran ends z kept = same_left order keeps (ends_or a.far b.far q order keeps ends)
      (install_desk_leaves run shows c a b ran (encode_in order) z
      (λ s shown sound. encoded s order (kept s shown sound)))
    where
      encoded : (s : Shown) (o : Option Kept) → KeepsOrder s a.far o → KeepsOrder s a.far (encode_in o)
      encoded s None k = tt
      encoded s (Some (Encode o)) k = k
      encoded s (Some (Decode o)) k = tt

pub installs_as : (far new : FarState) (order keeps also : Option Kept) (r : Reply)
    (p : Result Reply NoMemory) → also ≡ keeps → p ≡ Ok r → InstallTurn far r order keeps new
    → InstallEnds far order also p new
installs_as far new order keeps also r p same is x =
    subst (λ (k : Option Kept). InstallEnds far order k p new) (sym same)
    (subst (λ (q : Result Reply NoMemory). InstallEnds far order keeps q new) (sym is) x)

-- ---- an order that could not be run
abbrev pub NotRun : FarState → Job → Result Reply NoMemory → FarState → Type 0
NotRun far job (Ok r) new = (r ≡ answer.Worn) × (far.counts.turns ≡ 2 ^ 40) × (new ≡ far)
NotRun far job (Err e) new = (far.counts.turns < 2 ^ 40) × (new ≡ counted far job)

pub as_not_run : (far : FarState) (job : Job) (q : Result Reply NoMemory) (new : FarState)
    → IfOk q (λ r. (r ≡ answer.Worn) × (far.counts.turns ≡ 2 ^ 40) × (new ≡ far))
    → OnErr q ((far.counts.turns < 2 ^ 40) × (new ≡ counted far job)) → NotRun far job q new
as_not_run far job (Ok r) new late lacks = late
as_not_run far job (Err e) new late lacks = lacks

pub install_not_run : (far new : FarState) (o : EncodeOrder) (keeps : Option Kept)
    (q : Result Reply NoMemory) → keeps ≡ Some (Encode o) → NotRun far Install q new
    → InstallEnds far (Some (Encode o)) keeps q new
install_not_run far new o keeps (Ok r) same (is, end, state) = install_late end is same state
install_not_run far new o keeps (Err e) same (few, state) =
    (same, few, inl (o, refl, refl), state)

-- a turn that is counted, and of which nothing is done, leaves all that is known
pub counted_left : (c : Config) (far new : FarState) (order : Option Kept) → AreCounted far
    → far.counts.turns < 2 ^ 40 → new ≡ counted far Install → IsConfigured c far
    → InstallLeaves c far new order
counted_left c far new order counts few is configured = record {
  configured = z.configured;
  codes = z.codes;
  counted = z.counted;
  next = z.next;
  sound = λ s before kept. z.sound s before tt;
  orders = λ s before kept. z.orders s before tt;
}
  where
    z : InstallLeaves c far new None
    z = install_leaves c far (counted far Install) new answer.NoOrder None None counts few refl
        (record { reply = refl; state = is }, refl)
        (λ s sound kept. subst (Sound s) (sym is) sound) configured

pub not_run_leaves : (c : Config) (far new : FarState) (order : Option Kept)
    (q : Result Reply NoMemory) → AreCounted far → NotRun far Install q new → IsConfigured c far
    → InstallLeaves c far new order
not_run_leaves c far new order (Ok r) counts (is, end, state) configured =
    install_worn c far new order counts end state configured
not_run_leaves c far new order (Err e) counts (few, state) configured =
    counted_left c far new order counts few state configured

-- a landing whose order could not be run
module _ {D : Type 0} (run : D → List Access → D → Type 0) (shows : D → Shown → Type 0)
    (laws : AreLaws run shows) (c : Config) (accepted : IsAccepted c) (a b : Holding D) where
  pub land_not_run : (o : DecodeOrder) (keeps : Option Kept) (q : Result Reply NoMemory)
      → keeps ≡ Some (Decode o) → run a.desk [] b.desk → NotRun a.far Land q b.far
      → EndsWith run shows c Land (Some (Decode o)) a keeps q b
  land_not_run o keeps (Ok r) same ran (is, end, state) = worn end is same state ran
  land_not_run o keeps (Err e) same ran (few, state) =
      (same, in_run few (inr (o, refl, refl)) (ran, state))

  pub land_left_unrun : (o : DecodeOrder) (keeps : Option Kept) (q : Result Reply NoMemory)
      → Good shows c a → AreCounted a.far → keeps ≡ Some (Decode o) → run a.desk [] b.desk
      → NotRun a.far Land q b.far → LeavesWith run shows c a b (Some (Decode o)) keeps
  land_left_unrun o keeps (Ok r) good counts same ran (is, end, state) =
      same_left run shows c a b (Some (Decode o)) keeps (inl same)
      (worn_leaves run shows laws c accepted a b good counts end state ran)
  land_left_unrun o keeps (Err e) good counts same ran (few, state) =
      same_left run shows c a b (Some (Decode o)) keeps (inl same)
      (land_stops run shows laws c accepted None a b good counts few (lacks_now (ran, state)))

-- a job that is none of the four
pub no_order : (j : Job) → (j ≡ Gather → ⊥) → (j ≡ Install → ⊥)
    → ((h : Handle) → j ≡ Fetch h → ⊥) → (j ≡ Land → ⊥) → NeedsNoOrder j
no_order Gather a b c d = absurd (a refl)
no_order Install a b c d = absurd (b refl)
no_order (Fetch h) a b c d = absurd (c h refl)
no_order Land a b c d = absurd (d refl)
no_order j a b c d = tt
