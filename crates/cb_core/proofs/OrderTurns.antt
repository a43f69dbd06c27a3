-- A turn that hands an order out, or takes one, is counted and then does its job.
use Rattle.std.proofs.Common.{◌≡◌, ℕ, ◌^◌, ◌<◌, List, Option, None, Some, Result, Ok, Err, refl, sym, ap, ◌∙◌, subst, arith, inl, inr}
use Rattle.std.specs.Prelude.{IfOk, OnErr}
use Rattle.cb_member.specs.declared.no_memory.NoMemory.{NoMemory}
use Rattle.cb_types.specs.declared.config.Config.{Config}
use Rattle.cb_types.specs.Config.{IsAccepted}
use Rattle.cb_types.specs.declared.handle.Handle.{Handle}
use Rattle.cb_types.specs.declared.job.Job.TheVariants.{Fetch, Gather, Install, Land}
use Rattle.cb_types.specs.Jobs.{job_index}
use Rattle.cb_types.specs.declared.order.Kept.{Kept}
use Rattle.cb_types.specs.declared.order.Kept.TheVariants.{Decode, Encode}
use Rattle.cb_types.specs.declared.reply.Reply.{Reply}
use Rattle.cb_types.specs.declared.reply.Reply.TheVariants as answer
use Rattle.cb_world.specs.declared.access.Access.{Access}
use Rattle.cb_world.specs.declared.shown.Shown.{Shown}
use Rattle.cb_world.specs.FarState.{FarState}
use Rattle.cb_world.specs.Orders.{IsOrderKept, KeepsOrder}
use Rattle.cb_world.specs.Played.{Agree, played}
use Rattle.cb_world.specs.Sound.{Sound}
use Rattle.cb_world.specs.World.{AreCounted, IsConfigured}
use Rattle.cb_world.proofs.Laws.{codes_same, codes_stay, codes_then, recounted, rises_more, StaysIf}
use Rattle.cb_evict.specs.declared.gathering.Gathered.{Gathered}
use Rattle.cb_evict.specs.Gathering.{gathered_order, gathered_reply}
use Rattle.cb_evict.specs.InstallRule.{InstallStep, kept_behind}
use Rattle.cb_evict.proofs.Laws.{install_leaves_words, install_stays}
use Rattle.cb_swapin.specs.declared.fetching.Fetching.{Fetching}
use Rattle.cb_swapin.specs.FetchStep.{fetching_order, fetching_reply}
use Rattle.cb_core.specs.Ordered.{FetchRun, FetchStops, Gathers, InstallTurn, Lands, NothingDone, StoppedWith, TurnedWith, desk_orders}
use Rattle.cb_core.specs.Ordered.FetchRun.{not_far, was_far}
use Rattle.cb_core.specs.Ordered.InstallTurn.{done as install_done, worn as install_late}
use Rattle.cb_core.specs.Ordered.TurnedWith.{done}
use Rattle.cb_core.specs.OrderLeaves.{HandsOrder, InstallLeaves, fetch_hands, gather_hands}
use Rattle.cb_core.specs.OrderParts.{FetchesBy, decode_in, encode_in, landed_order}
use Rattle.cb_core.specs.OrderParts.FetchesBy.{not_far as was_near, was_far as was_away}
use Rattle.cb_core.specs.Parts.{Holding, RoomStops, WithRoom, most_evictions}
use Rattle.cb_core.specs.TurnLeaves.{TurnLeaves}
use Rattle.cb_core.specs.Unavailable.{LandTells, TurnTells}
use Rattle.cb_core.specs.Turned.{EvictLacks, FindsWhere, WinsRoom, counted, once_counted}
use Rattle.cb_core.proofs.Counting.{counted_sound, job_below}
use Rattle.cb_core.proofs.KeptParts.{counted_rises}
use Rattle.cb_core.proofs.Noted.{noted_after}
use Rattle.cb_core.proofs.LandTold.{land_told}
use Rattle.cb_core.proofs.OrdersCounted.{counted_kept, still_kept}
use Rattle.cb_core.proofs.OrdersLeave.{fetch_leaves, fetch_stops, gather_leaves, gather_stops, land_leaves, land_stops}
use Rattle.cb_core.proofs.TurnComes.{AreLaws, Good, WritesNothing}
use Rattle.cb_core.proofs.WordsTold.{far_orders}
use Rattle.cb_core.proofs.TurnUnavailable.{fetch_tells}

-- ---- by the result
pub ok_map : {X : Type 0} (P Q : X → Type 0) (r : Result X NoMemory) → IfOk r Q
    → ((x : X) → Q x → P x) → IfOk r P
ok_map P Q (Ok x) q f = f x q
ok_map P Q (Err e) q f = tt

pub lack_map : {X : Type 0} (P Q : Type 0) (r : Result X NoMemory) → OnErr r Q → (Q → P)
    → OnErr r P
lack_map P Q (Ok x) q f = tt
lack_map P Q (Err e) q f = f q

-- ---- an install
-- of what a seat keeps, an install sees orders to encode alone
install_any : (order : Option Kept) (far new : FarState) (r : Reply)
    → InstallStep far new r (encode_in order) (kept_behind r (encode_in order))
    → InstallStep far new r order (kept_behind r order)
install_any None far new r x = x
install_any (Some (Encode o)) far new r x = x
install_any (Some (Decode o)) far new r x =
    (x.0, ap (λ (q : Reply). kept_behind q (Some (Decode o))) x.0.reply)

pub install_turned : (far mid new : FarState) (r : Reply) (run_order order : Option Kept)
    → far.counts.turns < 2 ^ 40 → mid ≡ counted far Install
    → InstallStep mid new r run_order (kept_behind r run_order) → encode_in order ≡ run_order
    → InstallTurn far r order (kept_behind r order) new
install_turned far mid new r run_order order few is step asked = install_done few
    (install_any order (counted far Install) new r
    (subst (λ (o : Option Kept). InstallStep (counted far Install) new r o (kept_behind r o)) (sym asked)
    (subst (λ (f : FarState). InstallStep f new r run_order (kept_behind r run_order)) is step)))

pub install_refused : (far new : FarState) (order : Option Kept) → far.counts.turns ≡ 2 ^ 40
    → new ≡ far → InstallTurn far answer.Worn order (kept_behind answer.Worn order) new
install_refused far new order end same = install_late end refl refl same

-- ---- the others
module _ {D : Type 0} (run : D → List Access → D → Type 0) (shows : D → Shown → Type 0) (c : Config)
    (a b : Holding D) where
  abbrev on : FarState → Holding D
  on far = record { desk = a.desk; far = far }

  -- ---- a gather
  pub gather_turned : (mid : FarState) (result : Result Gathered NoMemory)
      → a.far.counts.turns < 2 ^ 40 → mid ≡ counted a.far Gather
      → IfOk result (λ g. Gathers run shows (on mid) g b)
      → IfOk result (λ g. (order : Option Kept) → TurnedWith run shows c Gather order a
      (gathered_reply g) (gathered_order order g) b)
  gather_turned mid (Ok g) few is x = λ order. done few
      (g, subst (λ (f : FarState). Gathers run shows (on f) g b) is x, refl, refl)
  gather_turned mid (Err e) few is x = tt

  pub gather_stopped : (mid : FarState) (result : Result Gathered NoMemory)
      → a.far.counts.turns < 2 ^ 40 → mid ≡ counted a.far Gather
      → OnErr result (EvictLacks run shows (on mid) b)
      → OnErr result ((order : Option Kept) → StoppedWith run shows c Gather order a b)
  gather_stopped mid (Ok g) few is x = tt
  gather_stopped mid (Err e) few is x = λ order. record {
    few = few;
    stops = subst (λ (f : FarState). EvictLacks run shows (on f) b) is x;
  }

  pub lacks_both : (mid : FarState) (X : Type 0) (result : Result X NoMemory) (P : Type 0)
      → OnErr result P → OnErr result (b.far ≡ mid) → OnErr result ((b.far ≡ mid) × P)
  lacks_both mid X (Ok x) P p same = tt
  lacks_both mid X (Err e) P p same = (same, p)

  -- ---- a fetch
  fetched_by : (h : ℕ) (order : Option Kept) (d : Holding D) (g : Fetching)
      → FetchRun run shows h d g b → FetchesBy (desk_orders run shows c) h order d (fetching_reply g)
      (fetching_order order g) b
  fetched_by h order d g (not_far r is find off) =
      let reply : r ≡ fetching_reply g = ap fetching_reply (sym is) in
      was_near (subst (λ (q : Reply). FindsWhere run shows h d q b) reply find)
      (λ e. off (reply ∙ e)) (ap (fetching_order order) is)
  fetched_by h order d g (was_far m find rows) = was_away m g find rows refl refl

  pub fetch_turned : (h : Handle) (mid : FarState) (result : Result Fetching NoMemory)
      → a.far.counts.turns < 2 ^ 40 → mid ≡ counted a.far (Fetch h)
      → IfOk result (λ g. FetchRun run shows h.n (on mid) g b)
      → IfOk result (λ g. (order : Option Kept) → TurnedWith run shows c (Fetch h) order a
      (fetching_reply g) (fetching_order order g) b)
  fetch_turned h mid (Ok g) few is x = λ order. done few (fetched_by h.n order (once_counted a (Fetch h)) g
      (subst (λ (f : FarState). FetchRun run shows h.n (on f) g b) is x))
  fetch_turned h mid (Err e) few is x = tt

  pub fetch_stopped : (h : Handle) (mid : FarState) (result : Result Fetching NoMemory)
      → a.far.counts.turns < 2 ^ 40 → mid ≡ counted a.far (Fetch h)
      → OnErr result (FetchStops run shows h.n (on mid) b)
      → OnErr result ((order : Option Kept) → StoppedWith run shows c (Fetch h) order a b)
  fetch_stopped h mid (Ok g) few is x = tt
  fetch_stopped h mid (Err e) few is x = λ order. record {
    few = few;
    stops = subst (λ (f : FarState). FetchStops run shows h.n (on f) b) is x;
  }

  -- ---- a landing
  abbrev LandsBy : Option Kept → Holding D → Reply → Type 0
  LandsBy order d r =
      WithRoom c.frames (Lands run shows order) (WinsRoom run shows c) most_evictions d r b

  abbrev LandStops : Option Kept → Holding D → Type 0
  LandStops order d = RoomStops (Lands run shows order) (NothingDone run) (WinsRoom run shows c)
      (EvictLacks run shows) most_evictions d b

  -- of what a seat keeps, a landing sees orders to decode alone
  land_any : (order : Option Kept) (d : Holding D) (r : Reply) → LandsBy (decode_in order) d r
      → LandsBy order d r
  land_any None d r x = x
  land_any (Some (Decode o)) d r x = x
  land_any (Some (Encode o)) d r x = x

  land_any_stops : (order : Option Kept) (d : Holding D) → LandStops (decode_in order) d
      → LandStops order d
  land_any_stops None d x = x
  land_any_stops (Some (Decode o)) d x = x
  land_any_stops (Some (Encode o)) d x = x

  pub land_turned : (run_order : Option Kept) (mid : FarState) (result : Result Reply NoMemory)
      → a.far.counts.turns < 2 ^ 40 → mid ≡ counted a.far Land
      → IfOk result (λ r. LandsBy run_order (on mid) r)
      → IfOk result (λ r. (order : Option Kept) → decode_in order ≡ run_order
      → TurnedWith run shows c Land order a r (landed_order order r) b)
  land_turned run_order mid (Ok r) few is x = λ order asked. done few (
    land_any order (once_counted a Land) r
        (subst (λ (o : Option Kept). LandsBy o (once_counted a Land) r) (sym asked)
        (subst (λ (f : FarState). LandsBy run_order (on f) r) is x)),
    refl,
  )
  land_turned run_order mid (Err e) few is x = tt

  pub land_stopped : (run_order : Option Kept) (mid : FarState) (result : Result Reply NoMemory)
      → a.far.counts.turns < 2 ^ 40 → mid ≡ counted a.far Land
      → OnErr result (LandStops run_order (on mid))
      → OnErr result ((order : Option Kept) → decode_in order ≡ run_order
      → StoppedWith run shows c Land order a b)
  land_stopped run_order mid (Ok r) few is x = tt
  land_stopped run_order mid (Err e) few is x = λ order asked. record {
    few = few;
    stops = land_any_stops order (once_counted a Land)
        (subst (λ (o : Option Kept). LandStops o (once_counted a Land)) (sym asked)
        (subst (λ (f : FarState). LandStops run_order (on f)) is x));
  }

  -- ---- what is told of lost sets
  module _ (follows : (d e : D) (es : List Access) (s : Shown) → run d es e → shows d s
      → Agree s es × shows e (played es s)) where
    pub fetch_told : (h : Handle) (mid : FarState) (result : Result Fetching NoMemory)
        → mid ≡ counted a.far (Fetch h) → (s : Shown) × shows a.desk s × Sound s a.far
        → IfOk result (λ g. FetchRun run shows h.n (on mid) g b)
        → IfOk result (λ g. TurnTells (Fetch h) a.far (fetching_reply g))
    fetch_told h mid result is known x = ok_map _ _ result x (λ g run_by. fetch_tells run shows follows c h
        a b g known (subst (λ (f : FarState). FetchRun run shows h.n (on f) g b) is run_by))

    pub lands_told : (order : Option Kept) (mid : FarState) (result : Result Reply NoMemory)
        → mid ≡ counted a.far Land → (s : Shown) × shows a.desk s × Sound s a.far
        → IfOk result (λ r. LandsBy order (on mid) r)
        → IfOk result (λ r. LandTells order a.far r)
    lands_told order mid result is known x = ok_map _ _ result x (λ r lands. land_told run shows follows c
        order a b r known (subst (λ (f : FarState). LandsBy order (on f) r) is lands))

  -- ---- what they leave, whatever their outcome
  module _ (laws : AreLaws run shows) (accepted : IsAccepted c) (good : Good shows c a)
      (counts : AreCounted a.far) (few : a.far.counts.turns < 2 ^ 40) (mid : FarState) where
    pub gather_outcome : (result : Result Gathered NoMemory) → mid ≡ counted a.far Gather
        → IfOk result (λ g. Gathers run shows (on mid) g b)
        → OnErr result (EvictLacks run shows (on mid) b)
        → HandsOrder run shows c a b (gather_hands result)
    gather_outcome (Ok g) is x y = gather_leaves run shows laws c accepted a b g good counts few
        (subst (λ (f : FarState). Gathers run shows (on f) g b) is x)
    gather_outcome (Err e) is x y = gather_stops run shows laws c accepted a b good counts few
        (subst (λ (f : FarState). EvictLacks run shows (on f) b) is y)

    pub fetch_outcome : (h : Handle) (result : Result Fetching NoMemory)
        → mid ≡ counted a.far (Fetch h)
        → IfOk result (λ g. FetchRun run shows h.n (on mid) g b)
        → OnErr result (FetchStops run shows h.n (on mid) b)
        → IfOk result (λ g. (s : Shown) → Sound s mid → KeepsOrder s b.far (fetching_order None g))
        → HandsOrder run shows c a b (fetch_hands result)
    fetch_outcome h (Ok g) is x y kept = fetch_leaves run shows laws c accepted h a b g good counts few
        (subst (λ (f : FarState). FetchRun run shows h.n (on f) g b) is x)
        (λ s sound. kept s (subst (Sound s) (sym is) sound))
    fetch_outcome h (Err e) is x y kept = fetch_stops run shows laws c accepted h a b good counts few
        (subst (λ (f : FarState). FetchStops run shows h.n (on f) b) is y)

    pub land_outcome : (order : Option Kept) (result : Result Reply NoMemory)
        → mid ≡ counted a.far Land → IfOk result (λ r. LandsBy order (on mid) r)
        → OnErr result (LandStops order (on mid)) → TurnLeaves run shows c a b WritesNothing
    land_outcome order (Ok r) is x y = land_leaves run shows laws c accepted order a b r good counts few
        (subst (λ (f : FarState). LandsBy order (on f) r) is x)
    land_outcome order (Err e) is x y = land_stops run shows laws c accepted order a b good counts few
        (subst (λ (f : FarState). LandStops order (on f)) is y)

-- ---- what an install leaves
pub install_leaves : (c : Config) (far mid new : FarState) (r : Reply) (order keeps : Option Kept)
    → AreCounted far → far.counts.turns < 2 ^ 40 → mid ≡ counted far Install
    → InstallStep mid new r order keeps
    → ((s : Shown) → Sound s mid → KeepsOrder s mid order → Sound s new)
    → IsConfigured c far → InstallLeaves c far new order
install_leaves c far mid new r order keeps counts few is step sound configured =
    let first = recounted c far (counted far Install).counts configured in
    let z = subst (λ (f : FarState). StaysIf c 1 f new) is
    (install_stays c mid new r order keeps step) first in record {
      configured = z.configured;
      codes = codes_then far (counted far Install) new
          (codes_stay far (counted far Install) refl refl refl refl) z.codes;
      counted = counted_rises far (counted far Install) new (job_index Install) counts few
          (job_below Install) refl
          (rises_more 1 (2 ^ 20) (counted far Install) new (omega arith) z.rises)
          (noted_after Install 1 far new counts z.rises);
      next = inl (few, z.rises.turns);
      sound = λ s before kept. sound s (counted_sound s far mid Install is before)
          (counted_kept s far mid Install order is kept);
      orders = λ s before kept o was. let now = counted_sound s far mid Install is before in
          far_orders s mid new now (sound s now (counted_kept s far mid Install order is kept))
          (install_leaves_words mid new r order keeps step) o
          (subst (λ (f : FarState). IsOrderKept s f o) (sym is) (still_kept s far Install o was));
    }

-- one that is refused for its number
pub install_worn : (c : Config) (far new : FarState) (order : Option Kept) → AreCounted far
    → far.counts.turns ≡ 2 ^ 40 → new ≡ far → IsConfigured c far → InstallLeaves c far new order
install_worn c far new order counts end same configured = record {
  configured = subst (IsConfigured c) (sym same) configured;
  codes = codes_same far new same;
  counted = subst AreCounted (sym same) counts;
  next = inr (end, same);
  sound = λ s before kept. subst (Sound s) (sym same) before;
  orders = λ s before kept o was. subst (λ (f : FarState). IsOrderKept s f o) (sym same) was;
}
