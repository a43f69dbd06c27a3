-- No event changes the configuration.
use Rattle.std.proofs.Common.{◌≡◌, ℕ, Option, ap, inl, inr}
use Rattle.cb_types.specs.declared.job.Job.{Job}
use Rattle.cb_types.specs.declared.reply.Reply.{Reply}
use Rattle.cb_world.specs.Joining.{JoiningState}
use Rattle.cb_world.specs.Leaving.{LeavingState}
use Rattle.cb_world.specs.Plain.{Words}
use Rattle.cb_world.specs.Seats.{order_of}
use Rattle.cb_world.specs.World.{WorldState}
use Rattle.cb_core.specs.declared.event.Atomic.TheVariants.{Load, Pin, Unpin, Claim, Store, Settle, Take, Give}
use Rattle.cb_core.specs.declared.event.Event.{Event}
use Rattle.cb_core.specs.declared.event.Event.TheVariants as event
use Rattle.cb_core.specs.Parts.{Holding}
use Rattle.cb_core.specs.Pinning.{PinStep, scope_full, refused, taken, UnpinStep, not_pinned, given}
use Rattle.cb_core.specs.Step.{StillWorks, TurnStep, worn, done, held, free, holding_of, ordered, Step}
use Rattle.cb_core.specs.Turned.{counted}
use Rattle.cb_core.proofs.HoldingFixed.{take_leaves, give_leaves}
use Rattle.cb_core.proofs.OpenFrame.{claim_leaves, store_leaves, settle_leaves}
use Rattle.cb_core.proofs.OrderedKeeps.{order_settings}
use Rattle.cb_core.proofs.PartsStay.{Steady, works_left}

works_settings : (job : Job) (a b : Holding Words) (r : Reply) → StillWorks job a r b
    → b.desk.settings ≡ a.desk.settings
works_settings job a b r step = elim (works_left job a b r step) [
  | inl e ↦ ap (λ (x : Steady × Option LeavingState × Option JoiningState). x.0.0) e
  | inr (inl e) ↦ ap (λ (x : Steady). x.0) e.1
  | inr (inr e) ↦ ap (λ (x : Words). x.settings) e.1
]

-- ---- events
pub turn_settings : (w new : WorldState) (job : Job) (r : Reply) → TurnStep job w r new
    → new.desk.settings ≡ w.desk.settings
turn_settings w new job r (worn end reply same) = ap (λ (v : WorldState). v.desk.settings) same
turn_settings w new job r (done few works seats) =
    works_settings job (record { desk = w.desk; far = counted w.far job })
    (record { desk = new.desk; far = new.far }) r works

pin_settings : (w new : WorldState) (seat h : ℕ) (r : Reply) → PinStep seat h w r new
    → new.desk.settings ≡ w.desk.settings
pin_settings w new seat h r (scope_full full reply same) = ap (λ (v : WorldState). v.desk.settings) same
pin_settings w new seat h r (refused room not reply same) =
    ap (λ (v : WorldState). v.desk.settings) same
pin_settings w new seat h r (taken room may reply t) = ap (λ (z : Words). z.settings) t.word.words

unpin_settings : (w new : WorldState) (seat h : ℕ) (r : Reply) → UnpinStep seat h w r new
    → new.desk.settings ≡ w.desk.settings
unpin_settings w new seat h r (not_pinned none reply same) =
    ap (λ (v : WorldState). v.desk.settings) same
unpin_settings w new seat h r (given reply t) = ap (λ (z : Words). z.settings) t.word.words

pub step_settings : (w new : WorldState) (e : Event) (r : Reply) → Step w e r new
    → new.desk.settings ≡ w.desk.settings
step_settings w new (event.Turn seat job) r (held holder off holds reply same) =
    ap (λ (v : WorldState). v.desk.settings) same
step_settings w new (event.Turn seat job) r (free none step) = turn_settings w new job r step
step_settings w new (event.Turn seat job) r (ordered keeps off none turn seats) =
    order_settings job (order_of w.seats seat) keeps (holding_of w) (holding_of new) r turn
step_settings w new (event.Step seat (Load handle)) r step =
    ap (λ (v : WorldState). v.desk.settings) step.1
step_settings w new (event.Step seat (Pin handle)) r step = pin_settings w new seat handle.n r step
step_settings w new (event.Step seat (Unpin handle)) r step = unpin_settings w new seat handle.n r step
step_settings w new (event.Step seat (Claim handle at bytes)) r step =
    (claim_leaves w new seat handle.n at bytes r step).settings
step_settings w new (event.Step seat (Store handle)) r step =
    (store_leaves w new seat handle.n r step).settings
step_settings w new (event.Step seat (Settle handle)) r step =
    (settle_leaves w new seat handle.n r step).settings
step_settings w new (event.Step seat Take) r step =
    ap (λ (z : Words). z.settings) (take_leaves w new seat r step).desk
step_settings w new (event.Step seat Give) r step =
    ap (λ (z : Words). z.settings) (give_leaves w new seat r step).desk
