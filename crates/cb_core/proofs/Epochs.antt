-- What a turn leaves of the members, of the batch that is leaving and of the pair that is joining.
-- No event makes the epoch fall: a crash and a join that take place begin the next one, and all else
-- leaves the members as they are.
use Rattle.std.proofs.Common.{◌≡◌, ℕ, ◌+◌, ◌≤◌, List, [], ◌∷◌, refl, sym, ap, subst, arith, inl, inr}
use Rattle.cb_member.specs.Membership.{Membership}
use Rattle.cb_types.specs.declared.job.Job.{Job}
use Rattle.cb_types.specs.declared.job.Job.TheVariants.{Crash, Join}
use Rattle.cb_types.specs.declared.reply.Reply.{Reply}
use Rattle.cb_world.specs.FarState.{FarState}
use Rattle.cb_world.specs.Plain.{Words}
use Rattle.cb_world.specs.Seats.{order_of}
use Rattle.cb_world.specs.World.{WorldState}
use Rattle.cb_core.specs.declared.event.Atomic.TheVariants.{Load, Pin, Unpin, Claim, Store, Settle, Take, Give}
use Rattle.cb_core.specs.declared.event.Event.{Event}
use Rattle.cb_core.specs.declared.event.Event.TheVariants as event
use Rattle.cb_core.specs.Parts.{Holding}
use Rattle.cb_core.specs.Pinning.{PinStep, scope_full, refused, taken, UnpinStep, not_pinned, given}
use Rattle.cb_core.specs.Step.{Leads, StillWorks, TurnStep, worn, done, held, free, holding_of, ordered, Step}
use Rattle.cb_core.specs.Turned.{counted}
use Rattle.cb_core.proofs.HoldingFixed.{take_leaves, give_leaves}
use Rattle.cb_core.proofs.OpenFrame.{claim_leaves, store_leaves, settle_leaves}
use Rattle.cb_core.proofs.OrderedKeeps.{order_members}
use Rattle.cb_core.proofs.FarJobs.{far_job}
use Rattle.cb_core.proofs.NodesStay.{MembersAfter, MembersStand, stands_same}
use Rattle.cb_core.proofs.PartsStay.{Steady, works_left}

-- the members that stay are those behind a job
stay : (job : Job) (old new : Membership) → new ≡ old → MembersAfter job old new
stay (Crash node) old new e = inl e
stay (Join node) old new e = inl e
stay job old new e = e

works_stand : (job : Job) (a b : Holding Words) (r : Reply) → StillWorks job a r b
    → MembersStand job a.far b.far
works_stand job a b r step = elim (works_left job a b r step) [
  | inl e ↦ stands_same job (stay job) a.far b.far (λ i. ((e i).0.1, (e i).1, (e i).2))
  | inr (inl e) ↦ record {
    members = stay job a.far.members b.far.members (ap (λ (x : Steady). x.1) e.1);
    idle = λ whole. absurd (e.0 whole);
  }
  | inr (inr e) ↦ (far_job job).stands a.far b.far e.0 e.2
]

-- where 2^40 turns were counted all stays
pub turn_stands : (w new : WorldState) (job : Job) (r : Reply) → TurnStep job w r new
    → MembersStand job w.far new.far
turn_stands w new job r (worn end reply same) =
    subst (λ (v : WorldState). MembersStand job w.far v.far)
    (sym same) (record { members = stay job w.far.members w.far.members refl; idle = λ whole idle. idle })
turn_stands w new job r (done few works seats) =
    let z = works_stand job (record { desk = w.desk; far = counted w.far job })
    (record { desk = new.desk; far = new.far }) r works in
    record { members = z.members; idle = z.idle }

-- ---- the epoch
-- the epoch did not fall
abbrev EpochRises : FarState → FarState → Type 0
EpochRises far new = far.members.epoch ≤ new.members.epoch

rises_by : (far new : FarState) → new.members ≡ far.members → EpochRises far new
rises_by far new same = let e = ap (λ (m : Membership). m.epoch) same in omega (arith, e)

rises_one : (far new : FarState) → new.members.epoch ≡ far.members.epoch + 1 → EpochRises far new
rises_one far new e = omega (arith, e)

stands_rise : (job : Job) (far new : FarState) → MembersAfter job far.members new.members
    → EpochRises far new
stands_rise (Crash node) far new (inl same) = rises_by far new same
stands_rise (Crash node) far new (inr next) =
    rises_one far new (ap (λ (m : Membership). m.epoch) next)
stands_rise (Join node) far new (inl same) = rises_by far new same
stands_rise (Join node) far new (inr next) =
    rises_one far new (ap (λ (m : Membership). m.epoch) next)
stands_rise job far new same = rises_by far new same

-- ---- events
turn_rises : (w new : WorldState) (job : Job) (r : Reply) → TurnStep job w r new
    → EpochRises w.far new.far
turn_rises w new job r step = stands_rise job w.far new.far (turn_stands w new job r step).members

pub pin_far : (w new : WorldState) (seat h : ℕ) (r : Reply) → PinStep seat h w r new
    → new.far ≡ w.far
pin_far w new seat h r (scope_full full reply same) = ap (λ (v : WorldState). v.far) same
pin_far w new seat h r (refused room not reply same) = ap (λ (v : WorldState). v.far) same
pin_far w new seat h r (taken room may reply t) = t.far

pub unpin_far : (w new : WorldState) (seat h : ℕ) (r : Reply) → UnpinStep seat h w r new
    → new.far ≡ w.far
unpin_far w new seat h r (not_pinned none reply same) = ap (λ (v : WorldState). v.far) same
unpin_far w new seat h r (given reply t) = t.far

same_rises : (w new : WorldState) → new.far ≡ w.far → EpochRises w.far new.far
same_rises w new e = rises_by w.far new.far (ap (λ (f : FarState). f.members) e)

pub step_rises : (w new : WorldState) (e : Event) (r : Reply) → Step w e r new
    → w.far.members.epoch ≤ new.far.members.epoch
step_rises w new (event.Turn seat job) r (held holder off holds reply same) =
    same_rises w new (ap (λ (v : WorldState). v.far) same)
step_rises w new (event.Turn seat job) r (free none step) = turn_rises w new job r step
step_rises w new (event.Turn seat job) r (ordered keeps off none turn seats) = rises_by w.far new.far
    (order_members job (order_of w.seats seat) keeps (holding_of w) (holding_of new) r turn)
step_rises w new (event.Step seat (Load handle)) r step =
    same_rises w new (ap (λ (v : WorldState). v.far) step.1)
step_rises w new (event.Step seat (Pin handle)) r step =
    same_rises w new (pin_far w new seat handle.n r step)
step_rises w new (event.Step seat (Unpin handle)) r step =
    same_rises w new (unpin_far w new seat handle.n r step)
step_rises w new (event.Step seat (Claim handle at bytes)) r step =
    same_rises w new (claim_leaves w new seat handle.n at bytes r step).far
step_rises w new (event.Step seat (Store handle)) r step =
    same_rises w new (store_leaves w new seat handle.n r step).far
step_rises w new (event.Step seat (Settle handle)) r step =
    same_rises w new (settle_leaves w new seat handle.n r step).far
step_rises w new (event.Step seat Take) r step = same_rises w new (take_leaves w new seat r step).far
step_rises w new (event.Step seat Give) r step = same_rises w new (give_leaves w new seat r step).far

-- events one after another
pub lead_rises : (w new : WorldState) (events : List Event) (replies : List Reply)
    → Leads w events replies new → w.far.members.epoch ≤ new.far.members.epoch
lead_rises w new [] [] leads = same_rises w new (ap (λ (v : WorldState). v.far) leads)
lead_rises w new [] (r ∷ rs) leads = absurd leads
lead_rises w new (e ∷ es) [] leads = absurd leads
lead_rises w new (e ∷ es) (r ∷ rs) (between, step, rest) =
    let one = step_rises w between e r step in let more = lead_rises between new es rs rest in
    omega (arith, one, more)
