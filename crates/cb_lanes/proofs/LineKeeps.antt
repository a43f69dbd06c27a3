-- What turns, pins and the ends of pins keep, lines keep too.
use Rattle.std.proofs.Common.{◌≡◌, ℕ, zero, suc, List, [], ◌∷◌, map, Option, Some, inl, inr, sym}
use Rattle.std.proofs.Common.{subst}
use Rattle.cb_types.specs.declared.job.Job.{Job}
use Rattle.cb_types.specs.declared.job.Job.TheVariants as job
use Rattle.cb_types.specs.declared.request.Request.{Request}
use Rattle.cb_types.specs.declared.reply.Reply.{Reply}
use Rattle.cb_world.specs.declared.seats.SeatPin.{SeatPin}
use Rattle.cb_world.specs.World.{WorldState}
use Rattle.cb_core.specs.declared.event.Event.TheVariants.{Turn}
use Rattle.cb_core.specs.Jobs.{NeedsNoOrder}
use Rattle.cb_core.specs.Pinning.{PinStep, UnpinStep}
use Rattle.cb_core.specs.Step.{Leads, Step, TurnStep, held as other_holds, free, ordered}
use Rattle.cb_core.proofs.Laws.{MakesWithin}
use Rattle.cb_lanes.specs.GivingBack.{unpin_event, GivesAll, Rests}
use Rattle.cb_lanes.specs.LineGoes.{Ask, Calls, Leaves, Peeks, Pins, Unpins, job_of}
use Rattle.cb_lanes.specs.LineStep.{LineStep, PeekStep, PinLine, SwapEvent, TurnAt, at_once}
use Rattle.cb_lanes.specs.LineStep.{goes_at, not_pinned, shown, stays_far, swapped_in}
use Rattle.cb_lanes.specs.declared.side.Side.{Side}
use Rattle.cb_lanes.proofs.ByAsk.{IsAskOf, of_line}
use Rattle.cb_lanes.proofs.LineJobs.{IsCallOf, by_line_job, by_object_job, call_alone}
use Rattle.cb_lanes.proofs.Recounting.{IsRecounted, turn_beside}

-- the job is one of a line on an object
abbrev pub IsObjectJob : Job → Type 0
IsObjectJob (job.Make bytes) = Unit {0}
IsObjectJob (job.Read handle) = Unit {0}
IsObjectJob (job.Write handle at bytes) = Unit {0}
IsObjectJob (job.Free handle) = Unit {0}
IsObjectJob (job.Swap handle) = Unit {0}
IsObjectJob (job.Filter handle) = Unit {0}
IsObjectJob j = ⊥

pub line_within : (most : ℕ) (request : Request) (j : Job) → job_of request ≡ Some j
    → MakesWithin most j
line_within most = by_line_job (λ (q : Request) (i : Job). MakesWithin most i) tt tt tt tt tt tt tt
    tt tt tt tt (λ node. tt) (λ node. tt)

-- P is kept by each turn whose job may be, among them those on objects, by pins and their ends, and
-- where rows given and keys drawn are counted otherwise
pub record IsKeptByTurns (P : WorldState → Type 0) (May : Job → Type 0) : Type 0 where
  pub object : (j : Job) → IsObjectJob j → May j
  pub turn : (j : Job) (w new : WorldState) (r : Reply) → May j → TurnStep j w r new → P w → P new
  pub pin : (seat h : ℕ) (w new : WorldState) (r : Reply) → PinStep seat h w r new → P w → P new
  pub unpin : (seat h : ℕ) (w new : WorldState) (r : Reply) → UnpinStep seat h w r new → P w → P new
  pub recount : (w new : WorldState) → IsRecounted w new → P w → P new

-- the job of a line about no object may be
abbrev pub MayBe : (Job → Type 0) → Request → Type 0
MayBe May request = (j : Job) → job_of request ≡ Some j → May j

module _ (P : WorldState → Type 0) (May : Job → Type 0) (k : IsKeptByTurns P May) where
  same_kept : (w new : WorldState) → new ≡ w → P w → P new
  same_kept w new same p = subst P (sym same) p

  event_kept : (seat : ℕ) (j : Job) (w new : WorldState) (r : Reply) → May j → NeedsNoOrder j
      → Step w (Turn seat j) r new → P w → P new
  event_kept seat j w new r may alone (other_holds holder off holds is same) p =
      same_kept w new same p
  event_kept seat j w new r may alone (free none step) p = k.turn j w new r may step p
  event_kept seat j w new r may alone (ordered keeps needs none turn seats) p =
      absurd (needs alone)

  turn_kept : (side : Side) (seat : ℕ) (j : Job) (w new : WorldState) (r : Reply) → May j
      → NeedsNoOrder j → TurnAt j side seat w r new → P w → P new
  turn_kept side seat j w new r may alone x p = let z = turn_beside j side seat w new r x in
      k.recount z.mid new z.counts (event_kept seat j w z.mid r may alone z.step p)

  swap_kept : (seat h : ℕ) (w new : WorldState) (r : Reply) → SwapEvent seat h w r new → P w → P new
  swap_kept seat h w new r swap p = let j = job.Swap (record { n = h }) in
      event_kept seat j w new r (k.object j tt) tt swap p

  pin_kept : (seat h : ℕ) (w new : WorldState) (r : Reply) → PinLine seat h w r new → P w → P new
  pin_kept seat h w new r (at_once pin never) p = k.pin seat h w new r pin p
  pin_kept seat h w new r (stays_far away swap off) p =
      swap_kept seat h w new r swap p
  pin_kept seat h w new r (swapped_in m q away swap is again) p =
      k.pin seat h m new r again (swap_kept seat h w m q swap p)

  peek_kept : (seat h : ℕ) (w new : WorldState) (r : Reply) → PeekStep seat h w r new → P w → P new
  peek_kept seat h w new r (not_pinned none is same) p = same_kept w new same p
  peek_kept seat h w new r (shown at newest is same) p = same_kept w new same p

  gives_kept : (seat : ℕ) (pins : List SeatPin) (replies : List Reply) (w new : WorldState)
      → Leads w (map (unpin_event seat) pins) replies new → P w → P new
  gives_kept seat [] [] w new leads p = same_kept w new leads p
  gives_kept seat [] (r ∷ replies) w new leads p = absurd leads
  gives_kept seat (pin ∷ pins) [] w new leads p = absurd leads
  gives_kept seat (pin ∷ pins) (r ∷ replies) w new (mid, step, rest) p =
      gives_kept seat pins replies mid new rest (k.unpin seat pin.handle w mid r step p)

  -- the pins of a seat are given back
  pub all_kept : (seat : ℕ) (w new : WorldState) → GivesAll seat w new → P w → P new
  all_kept seat w new leads p = gives_kept seat _ _ w new leads p

  -- what a line asks for
  call_may : (handle : Option ℕ) (request : Request) (j : Job) → MayBe May request
      → IsCallOf handle request j → May j
  call_may handle request j may (inl (name, bytes, e, is)) =
      k.object j (subst IsObjectJob (sym is) tt)
  call_may handle request j may (inr (inl (h, named, e))) = k.object j (by_object_job h
      (λ (q : Request) (i : Job). IsObjectJob i) (λ name. tt) (λ name at bytes. tt) (λ name. tt)
      (λ name. tt) request j e)
  call_may handle request j may (inr (inr e)) = may j e

  ask_kept : (side : Side) (seat : ℕ) (handle : Option ℕ) (request : Request) (ask : Ask)
      (w new : WorldState) (r : Reply) → MayBe May request → IsAskOf handle request ask
      → goes_at side seat ask w r new → P w → P new
  ask_kept side seat handle request (Calls j) w new r may is x p = turn_kept side seat j w new r
      (call_may handle request j may is) (call_alone handle request j is) x p
  ask_kept side seat handle request (Pins h) w new r may is x p = pin_kept seat h w new r x p
  ask_kept side seat handle request (Peeks h) w new r may is x p = peek_kept seat h w new r x p
  ask_kept side seat handle request (Unpins h) w new r may is x p = k.unpin seat h w new r x p
  ask_kept side seat handle request Leaves w new r may is x p = all_kept seat w new x.1 p

  -- a line
  pub line_kept : (side : Side) (seat : ℕ) (handle : Option ℕ) (request : Request)
      (w new : WorldState) (r : Reply) → MayBe May request
      → LineStep side seat handle request w r new → P w → P new
  line_kept side seat handle request w new r may x p =
      of_line (goes_at side seat) w new r (P new) handle request
      (λ ask is y. ask_kept side seat handle request ask w new r may is y p)
      (λ unmade same. same_kept w new same p) x

  -- a lane that rests
  pub rests_kept : (left seat : ℕ) (w new : WorldState) → Rests left seat w new → P w → P new
  rests_kept zero seat w new x p = all_kept seat w new x p
  rests_kept (suc left) seat w new x p = same_kept w new x p
