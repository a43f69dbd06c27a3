-- Each event is answered Unavailable exactly where it is to be.
use Rattle.std.proofs.Common.{◌≡◌, ℕ, Bool, true, false, zero, suc, ◌+◌, ◌-◌, ◌^◌, List, [], ◌∷◌, length, refl, sym, ◌∙◌, subst, Some, inl, inr}
use Rattle.std.specs.Prelude.{nat_lt, ◌==◌, if◌then◌else◌}
use Rattle.std.specs.List.{AllByRecursion}
use Rattle.cb_ptr.specs.declared.word.State.{State}
use Rattle.cb_ptr.specs.declared.word.State.TheVariants as state
use Rattle.cb_ptr.specs.Word.{state_of, len_of, pins_of}
use Rattle.cb_types.specs.declared.config.Config.{Config}
use Rattle.cb_member.specs.declared.names.Loss.{Loss}
use Rattle.cb_types.specs.declared.handle.SetId.{SetId}
use Rattle.cb_types.specs.declared.job.Job.{Job}
use Rattle.cb_types.specs.declared.reply.Reply.{Reply}
use Rattle.cb_types.specs.declared.reply.Reply.TheVariants as answer
use Rattle.cb_world.specs.StillWords.{stamp_at}
use Rattle.cb_world.specs.World.{WorldState, IsSoundWorld, word_at}
use Rattle.cb_mutate.specs.StillReplies.{reply_as, write_reply, empty_reply, next_reply, change_reply}
use Rattle.cb_core.specs.declared.event.Atomic.{Atomic}
use Rattle.cb_core.specs.declared.event.Atomic.TheVariants.{Load, Pin, Unpin, Claim, Store, Settle, Take, Give}
use Rattle.cb_core.specs.declared.event.Event.{Event}
use Rattle.cb_core.specs.declared.event.Event.TheVariants as event
use Rattle.cb_core.specs.Claiming.{claim_reply, refused as claim_refused, taken as claim_taken, not_claimed, nothing_left, stored, stamped, not_stored, settled}
use Rattle.cb_core.specs.Events.{IsEvent}
use Rattle.cb_core.specs.Holding.{not_held}
use Rattle.cb_core.specs.Holding.TakeStep.{held as lock_held, taken as lock_taken}
use Rattle.cb_core.specs.Holding.GiveStep.{given as lock_given}
use Rattle.cb_core.specs.Jobs.{IsJob}
use Rattle.cb_core.specs.Pinning.{pin_refusal, scope_full, refused as pin_refused, taken, not_pinned, given}
use Rattle.cb_core.specs.Run.{LeadsSoundly}
use Rattle.cb_core.specs.Step.{AtomicStep, SeatTurn, Step}
use Rattle.cb_core.specs.Step.SeatTurn.{held as is_held, free as is_free, ordered}
use Rattle.cb_core.specs.Unavailable.{IsLandLost, IsLost, LeadsTelling, TellsUnavailable, asked_by}
use Rattle.cb_core.proofs.OrderedTells.{ordered_tells}
use Rattle.cb_core.proofs.Settings.{step_settings}
use Rattle.cb_core.proofs.Unavailables.{IsNever, never_tells, turn_tells}

pub seat_tells : (j : Job) (w new : WorldState) (seat : ℕ) (r : Reply) → IsSoundWorld w
    → IsSoundWorld new → IsJob w.desk.settings j → SeatTurn seat j w r new
    → TellsUnavailable w (event.Turn seat j) r
seat_tells j w new seat r sound after ok (is_held holder other holds is same) = record {
  only = λ id l e. absurd (held_never id l (sym is ∙ e));
  each = λ h id l asked made z. absurd (other (made.0 holder holds));
  landed = λ id l made z. absurd (other (made.0 holder holds));
}
  where
    held_never : IsNever (answer.Held holder)
    held_never id l e = cc
seat_tells j w new seat r sound after ok (is_free none step) =
    turn_tells j w new seat r sound after ok step
seat_tells j w new seat r sound after ok (ordered keeps needs none turn seats) =
    ordered_tells j w new seat r keeps sound needs turn

-- ---- atomic steps
empty_never : (v : ℕ) → IsNever (empty_reply v)
empty_never zero id l e = cc
empty_never (suc v) id l e = cc

pin_never : (q : State) (v pins : ℕ) → IsNever (pin_refusal q v pins)
pin_never state.Empty v pins id l e = empty_never v id l e
pin_never state.Far v pins id l e = cc
pin_never state.Moving v pins id l e = cc
pin_never state.Here v pins id l e = cc

claim_never : (word v at count : ℕ) → IsNever (claim_reply (write_reply word v at count))
claim_never word v at count id l = by (state_of word) v
  where
    next : (b : Bool) → claim_reply (if b then answer.Worn else answer.Version (v + 1))
        ≡ answer.Unavailable id l → ⊥
    next true e = cc
    next false e = cc

    change : (b : Bool) → claim_reply (if b then next_reply v else answer.Pinned (pins_of word))
        ≡ answer.Unavailable id l → ⊥
    change true e = next (v == 2 ^ 64 - 1) e
    change false e = cc

    here : (b : Bool) → claim_reply (if b then answer.Range (len_of word) else change_reply word v)
        ≡ answer.Unavailable id l → ⊥
    here true e = cc
    here false e = change (pins_of word == 0) e

    by : (q : State) (n : ℕ) → claim_reply (reply_as q n
        (if nat_lt (len_of word) (at + count) then answer.Range (len_of word) else change_reply word v))
        ≡ answer.Unavailable id l → ⊥
    by state.Empty zero e = cc
    by state.Empty (suc n) e = cc
    by state.Far n e = cc
    by state.Moving n e = cc
    by state.Here n e = here (nat_lt (len_of word) (at + count)) e

-- what is answered so is never Unavailable
like : (r q : Reply) → r ≡ q → IsNever q → IsNever r
like r q same never id l e = never id l (sym same ∙ e)

atomic_never : (seat : ℕ) (atomic : Atomic) (w new : WorldState) (r : Reply)
    → AtomicStep seat atomic w r new → IsNever r
atomic_never seat (Load handle) w new r step = like r _ step.0 (λ id l e. cc)
atomic_never seat (Pin handle) w new r (scope_full full is same) = like r _ is (λ id l e. cc)
atomic_never seat (Pin handle) w new r (pin_refused room off is same) = like r _ is
    (pin_never (state_of (word_at w.desk handle.n)) (stamp_at w.desk handle.n)
    (pins_of (word_at w.desk handle.n)))
atomic_never seat (Pin handle) w new r (taken room may is t) = like r _ is (λ id l e. cc)
atomic_never seat (Unpin handle) w new r (not_pinned none is same) = like r _ is (λ id l e. cc)
atomic_never seat (Unpin handle) w new r (given is t) = like r _ is (λ id l e. cc)
atomic_never seat (Claim handle at bytes) w new r (claim_refused off is same) = like r _ is
    (claim_never (word_at w.desk handle.n) (stamp_at w.desk handle.n) at (length bytes))
atomic_never seat (Claim handle at bytes) w new r (claim_taken may is reply t) =
    like r _ is (λ id l e. cc)
atomic_never seat (Store handle) w new r (not_claimed off is same) = like r _ is (λ id l e. cc)
atomic_never seat (Store handle) w new r (nothing_left at x none is same) =
    like r _ is (λ id l e. cc)
atomic_never seat (Store handle) w new r (stored at x two is m n) = like r _ is (λ id l e. cc)
atomic_never seat (Store handle) w new r (stamped at x last is m n) = like r _ is (λ id l e. cc)
atomic_never seat (Settle handle) w new r (not_claimed off is same) = like r _ is (λ id l e. cc)
atomic_never seat (Settle handle) w new r (not_stored at x left is same) =
    like r _ is (λ id l e. cc)
atomic_never seat (Settle handle) w new r (settled at x none is t) = like r _ is (λ id l e. cc)
atomic_never seat Take w new r (lock_held holder holds is same) = like r _ is (λ id l e. cc)
atomic_never seat Take w new r (lock_taken none is same) = like r _ is (λ id l e. cc)
atomic_never seat Give w new r (not_held off is same) = like r _ is (λ id l e. cc)
atomic_never seat Give w new r (lock_given holds is same) = like r _ is (λ id l e. cc)

-- ---- events, and events one after another
pub step_tells : (e : Event) (w new : WorldState) (r : Reply) → IsSoundWorld w → IsSoundWorld new
    → IsEvent w.desk.settings e → Step w e r new → TellsUnavailable w e r
step_tells (event.Turn seat j) w new r sound after ok step =
    seat_tells j w new seat r sound after ok.1 step
step_tells (event.Step seat atomic) w new r sound after ok step =
    never_tells w (event.Step seat atomic) r refl (atomic_never seat atomic w new r step) (λ id l z. z)

-- what an event tells that lands no order of a lost set
pub brought_only : (w : WorldState) (e : Event) (r : Reply) → TellsUnavailable w e r
    → ((id : SetId) (l : List Loss) → IsLandLost w e id l → ⊥) → (id : SetId) (l : List Loss)
    → r ≡ answer.Unavailable id l → (h : ℕ) × (asked_by e ≡ Some h) × IsLost w h id l
brought_only w e r t off id l is = elim (t.only id l is) [
  | inl x ↦ x
  | inr x ↦ absurd (off id l x)
]

pub leads_telling : (events : List Event) (replies : List Reply) (w new : WorldState)
    → LeadsSoundly w events replies new → AllByRecursion (IsEvent w.desk.settings) events
    → IsSoundWorld w → LeadsTelling w events replies new
leads_telling [] [] w new leads ok sound = leads
leads_telling [] (r ∷ rs) w new leads ok sound = absurd leads
leads_telling (e ∷ es) [] w new leads ok sound = absurd leads
leads_telling (e ∷ es) (r ∷ rs) w new (between, step, after, rest) ok sound = (
  between,
  step,
  step_tells e w between r sound after ok.0 step,
  leads_telling es rs between new rest
      (subst (λ (c : Config). AllByRecursion (IsEvent c) es) (sym (step_settings w between e r step)) ok.1)
      after,
)
