-- What a script at ease keeps from line to line: no batch is leaving and no pair is joining, no
-- node has crashed but those that its lines name, and no seat has an open write.
use Rattle.std.proofs.Common.{◌≡◌, ℕ, true, false, List, replicate, Contains, Option, refl}
use Rattle.std.proofs.Common.{sym, ap, ◌∙◌, subst, inl, inr, eq-eqb}
use Rattle.std.proofs.lemmas.Bool.{cases_lt, false≢true}
use Rattle.std.proofs.lemmas.List.{get_or-replicate, get_or_past}
use Rattle.cb_types.specs.declared.config.Config.{Config}
use Rattle.cb_types.specs.declared.job.Job.{Job}
use Rattle.cb_types.specs.declared.job.Job.TheVariants as job
use Rattle.cb_types.specs.declared.request.Request.{Request}
use Rattle.cb_types.specs.declared.reply.Reply.{Reply}
use Rattle.cb_script.specs.Roomy.{is_crash, is_step}
use Rattle.cb_world.specs.declared.seats.SeatPin.{SeatPin}
use Rattle.cb_world.specs.FarState.{FarState}
use Rattle.cb_world.specs.Seats.{SeatState, idle_seat, seat_at, with_pins}
use Rattle.cb_world.specs.World.{WorldState, empty_world}
use Rattle.cb_world.proofs.Laws.{seat_beside}
use Rattle.cb_core.specs.Pinning.{PinStep, UnpinStep, given, not_pinned, refused, scope_full, taken}
use Rattle.cb_core.proofs.Laws.{CrashedAmong, IsIdle, IsWholeJob, NamesAmong, none_crashed, pin_far}
use Rattle.cb_core.proofs.Laws.{turn_crashed, turn_idle, unpin_far}
use Rattle.cb_lanes.specs.GivingBack.{Rests}
use Rattle.cb_lanes.specs.LineStep.{LineStep}
use Rattle.cb_lanes.specs.declared.side.Side.{Side}
use Rattle.cb_lanes.proofs.LineJobs.{by_line_job}
use Rattle.cb_lanes.proofs.LineKeeps.{IsKeptByTurns, IsObjectJob, MayBe, line_kept, rests_kept}
use Rattle.cb_lanes.proofs.Lone.{turn_seats}
use Rattle.cb_lanes.proofs.LooseSpans.{NoClaims}

-- what is kept
pub record IsIdleAmong (nodes : List ℕ) (w : WorldState) : Type 0 where
  pub idle : IsIdle w.far
  pub crashed : CrashedAmong nodes w.far.members
  pub claims : NoClaims w.seats

-- the job is no step of a batch or of a pair, and crashes none but these nodes
record IsEasyJob (nodes : List ℕ) (j : Job) : Type 0 where
  whole : IsWholeJob j
  named : NamesAmong nodes j

object_job : (nodes : List ℕ) (j : Job) → IsObjectJob j → IsEasyJob nodes j
object_job nodes (job.Make bytes) is = record { whole = tt; named = tt }
object_job nodes (job.Read handle) is = record { whole = tt; named = tt }
object_job nodes (job.Write handle at bytes) is = record { whole = tt; named = tt }
object_job nodes (job.Free handle) is = record { whole = tt; named = tt }
object_job nodes (job.Swap handle) is = record { whole = tt; named = tt }
object_job nodes (job.Filter handle) is = record { whole = tt; named = tt }
object_job nodes j is = absurd is

-- a pin and its end
pins_claims : (seats : List SeatState) (seat : ℕ) (pins : List SeatPin) → NoClaims seats
    → NoClaims (with_pins seats seat pins)
pins_claims seats seat pins none k = seat_beside (λ (x : SeatState). x.claims) seats seat
    (record (seat_at seats seat) { pins = pins }) refl k ∙ none k

pin_claims : (seat h : ℕ) (w new : WorldState) (r : Reply) → PinStep seat h w r new
    → NoClaims w.seats → NoClaims new.seats
pin_claims seat h w new r (scope_full full is same) none =
    subst (λ (v : WorldState). NoClaims v.seats) (sym same) none
pin_claims seat h w new r (refused room never is same) none =
    subst (λ (v : WorldState). NoClaims v.seats) (sym same) none
pin_claims seat h w new r (taken room may is t) none =
    subst NoClaims (sym t.pins) (pins_claims w.seats seat _ none)

unpin_claims : (seat h : ℕ) (w new : WorldState) (r : Reply) → UnpinStep seat h w r new
    → NoClaims w.seats → NoClaims new.seats
unpin_claims seat h w new r (not_pinned none is same) claims =
    subst (λ (v : WorldState). NoClaims v.seats) (sym same) claims
unpin_claims seat h w new r (given is t) claims =
    subst NoClaims (sym t.pins) (pins_claims w.seats seat _ claims)

-- the far state stays
rest_by : (nodes : List ℕ) (w new : WorldState) → new.far ≡ w.far → NoClaims new.seats
    → IsIdleAmong nodes w → IsIdleAmong nodes new
rest_by nodes w new far claims rest = record {
  idle = subst IsIdle (sym far) rest.idle;
  crashed = subst (λ (f : FarState). CrashedAmong nodes f.members) (sym far) rest.crashed;
  claims = claims;
}

rest_kept : (nodes : List ℕ) → IsKeptByTurns (IsIdleAmong nodes) (IsEasyJob nodes)
rest_kept nodes = record {
  object = object_job nodes;
  turn = λ j w new r easy step rest. record {
    idle = turn_idle w new j r easy.whole step rest.idle;
    crashed = turn_crashed nodes w new j r easy.named step rest.crashed;
    claims = subst NoClaims (sym (turn_seats j w new r step)) rest.claims;
  };
  pin = λ seat h w new r step rest. rest_by nodes w new (pin_far w new seat h r step)
      (pin_claims seat h w new r step rest.claims) rest;
  unpin = λ seat h w new r step rest. rest_by nodes w new (unpin_far w new seat h r step)
      (unpin_claims seat h w new r step rest.claims) rest;
  recount = λ w new same rest. record {
    idle = subst IsIdle (sym same.far) rest.idle;
    crashed = subst (λ (f : FarState). CrashedAmong nodes f.members) (sym same.far) rest.crashed;
    claims = subst NoClaims (sym same.seats) rest.claims;
  };
}

-- ---- lines
-- the request is no step of a batch or of a pair, and crashes none but these nodes
pub record IsEasyLine (nodes : List ℕ) (request : Request) : Type 0 where
  pub step : is_step request ≡ false
  pub crash : (n : ℕ) → is_crash n request ≡ true → Contains nodes n

no_step : (T : Type 0) → true ≡ false → T
no_step T e = absurd (false≢true (sym e))

job_easy : (nodes : List ℕ) (request : Request) → IsEasyLine nodes request
    → MayBe (IsEasyJob nodes) request
job_easy nodes request easy j e =
    by_line_job (λ (q : Request) (i : Job). IsEasyLine nodes q → IsEasyJob nodes i)
    (λ x. record { whole = tt; named = tt }) (λ x. no_step _ x.step) (λ x. no_step _ x.step)
    (λ x. no_step _ x.step) (λ x. no_step _ x.step) (λ x. no_step _ x.step)
    (λ x. no_step _ x.step) (λ x. no_step _ x.step) (λ x. no_step _ x.step)
    (λ x. record { whole = tt; named = tt }) (λ x. record { whole = tt; named = tt })
    (λ node x. record { whole = tt; named = x.crash node.n (eq-eqb node.n node.n refl) })
    (λ node x. record { whole = tt; named = tt }) request j e easy

pub job_whole : (nodes : List ℕ) (request : Request) → IsEasyLine nodes request
    → MayBe IsWholeJob request
job_whole nodes request easy j e = (job_easy nodes request easy j e).whole

-- a line of a script at ease, and a lane that rests behind one
pub line_at_rest : (nodes : List ℕ) (side : Side) (seat : ℕ) (handle : Option ℕ)
    (request : Request) (w new : WorldState) (r : Reply) → IsEasyLine nodes request
    → LineStep side seat handle request w r new → IsIdleAmong nodes w → IsIdleAmong nodes new
line_at_rest nodes side seat handle request w new r easy =
    line_kept (IsIdleAmong nodes) (IsEasyJob nodes) (rest_kept nodes) side seat handle request w new
    r
    (job_easy nodes request easy)

pub rests_at_rest : (nodes : List ℕ) (left seat : ℕ) (w new : WorldState) → Rests left seat w new
    → IsIdleAmong nodes w → IsIdleAmong nodes new
rests_at_rest nodes = rests_kept (IsIdleAmong nodes) (IsEasyJob nodes) (rest_kept nodes)

-- so it is at first
pub empty_at_rest : (nodes : List ℕ) (c : Config) → IsIdleAmong nodes (empty_world c)
empty_at_rest nodes c = record {
  idle = (refl, refl);
  crashed = none_crashed nodes c.nodes;
  claims = λ k. elim (cases_lt k 64) [
    | inl low ↦ ap (λ (x : SeatState). x.claims) (get_or-replicate 64 k idle_seat idle_seat low)
    | inr past ↦ ap (λ (x : SeatState). x.claims)
        (get_or_past (replicate 64 idle_seat) k idle_seat past)
  ];
}
