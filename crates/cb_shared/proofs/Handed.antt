-- A turn that hands an order out, or takes one, as it stands in the record of its pass at its end.
use Rattle.std.proofs.Common.{◌≡◌, ℕ, ◌<◌, false, Option, None, Some, Result, Ok, Err, refl}
use Rattle.std.proofs.Common.{sym, ap, ◌∙◌, subst}
use Rattle.std.specs.Prelude.{IfOk}
use Rattle.cb_member.specs.declared.no_memory.NoMemory.{NoMemory}
use Rattle.cb_types.specs.declared.config.Config.{Config}
use Rattle.cb_types.specs.declared.job.Job.{Job}
use Rattle.cb_types.specs.declared.job.Job.TheVariants as jobs
use Rattle.cb_types.specs.declared.order.DecodeOrder.{DecodeOrder}
use Rattle.cb_types.specs.declared.order.EncodeOrder.{EncodeOrder}
use Rattle.cb_types.specs.declared.order.Kept.{Kept}
use Rattle.cb_types.specs.declared.order.Kept.TheVariants.{Encode, Decode}
use Rattle.cb_types.specs.declared.reply.Reply.{Reply}
use Rattle.cb_types.specs.declared.reply.Reply.TheVariants as answer
use Rattle.cb_types.specs.Orders.{IsDecodable}
use Rattle.cb_world.specs.FarState.{FarState}
use Rattle.cb_evict.specs.declared.gathering.Gathered.{Gathered}
use Rattle.cb_evict.specs.declared.gathering.Gathered.TheVariants as gathered
use Rattle.cb_evict.specs.Gathering.{gathered_order}
use Rattle.cb_swapin.specs.declared.fetching.Fetching.{Fetching}
use Rattle.cb_swapin.specs.declared.fetching.Fetching.TheVariants as fetching
use Rattle.cb_swapin.specs.FetchStep.{fetching_order}
use Rattle.cb_core.specs.OrderLeaves.{fetch_hands}
use Rattle.cb_core.specs.Ordered.{fetch_answer, fetch_keeps, gather_answer, gather_keeps}
use Rattle.cb_core.specs.OrderParts.{decode_in}
use Rattle.cb_rule.specs.declared.view.View.{View}
use Rattle.cb_rule.specs.Slot.{Sat}
use Rattle.cb_rule.specs.TriesAgain.{is_to_try_again, job_pages, order_pages}
use Rattle.cb_record.specs.Parts.{nothing_more}
use Rattle.cb_shared.specs.declared.asked.Asked.{Asked}
use Rattle.cb_shared.specs.declared.asked.Asked.TheVariants as asks
use Rattle.cb_shared.specs.declared.asked.Outcome.{Outcome}
use Rattle.cb_shared.specs.declared.asked.Outcome.TheVariants as ends
use Rattle.cb_shared.specs.Ordering.{CanRun, IsAnswered, IsFetched, IsGathered, IsInstalled}
use Rattle.cb_shared.specs.Ordering.{IsLanded, IsNoWant, MayAsk, fetched_of, job_of, order_run, told}
use Rattle.cb_shared.specs.Seats.{SeatAt, record_at}
use Rattle.cb_shared.specs.Turning.{answer_of, freed_of, object_of}
use Rattle.cb_shared.specs.UnderLock.{FreedMoves, IsBelow, TurnedBy}
use Rattle.cb_shared.proofs.DidAlone.{tried_as}
use Rattle.cb_shared.proofs.ReadParts.{grown_nothing}

no_object : (k : Asked) → object_of (job_of k) ≡ None
no_object asks.Gather = refl
no_object (asks.Install done) = refl
no_object (asks.Fetch handle) = refl
no_object (asks.Land done) = refl

none_freed : (k : Asked) (r : Result Reply NoMemory) → freed_of (job_of k) r ≡ None
none_freed k (Ok answer.Freed) = no_object k
none_freed k r = refl

-- no freed entry is looked for under the lock
pub stays_put : (c : Config) (k : Asked) (r : Result Reply NoMemory) (p : SeatAt)
    → FreedMoves c (freed_of (job_of k) r) p p
stays_put c k r p = subst (λ (o : Option ℕ). FreedMoves c o p p) (sym (none_freed k r)) (
  nothing_more,
  (
    refl,
    refl,
    ap (λ (x : View). let z : Sat = (x, p.me.1) in z) (grown_nothing (record_at p)),
  ),
  (refl, refl),
  tt,
  refl,
)

-- what the record keeps then
pub keeps_then : (c : Config) (job : Job) (r : Result Reply NoMemory) (keeps : Option Kept)
    (v w : View) → TurnedBy c job r keeps v w → w.order ≡ keeps
keeps_then c job r keeps v w t = ap (λ (x : View). x.order) t.left ∙ t.keeps_is

-- that is the order that was handed out
pub gather_handed : (r : Result Gathered NoMemory) (order new : Option Kept)
    → new ≡ gather_keeps order r
    → IfOk r (λ g. (o : EncodeOrder) → g ≡ gathered.Order o → new ≡ Some (Encode o))
gather_handed (Ok g) order new is = λ o e. is ∙ ap (gathered_order order) e
gather_handed (Err x) order new is = tt

pub fetch_handed : (r : Result Fetching NoMemory) (order new : Option Kept)
    → new ≡ fetch_keeps order r
    → IfOk r (λ g. (o : DecodeOrder) → g ≡ fetching.Order o → new ≡ Some (Decode o))
fetch_handed (Ok g) order new is = λ o e. is ∙ ap (fetching_order order) e
fetch_handed (Err x) order new is = tt

-- an order that was handed out, and can be run, is in range with its rows
pub fetch_fits : (r : Result Fetching NoMemory) → CanRun (fetch_hands r)
    → IfOk r (λ g. (o : DecodeOrder) → g ≡ fetching.Order o → IsDecodable o)
fetch_fits (Ok g) runs = λ o e. subst (λ (z : Fetching). CanRun (fetch_hands (Ok z))) e runs
fetch_fits (Err x) runs = tt

-- the object that is looked at behind a fetch is in range
pub fetched_below : (c : Config) (h : ℕ) (r : Result Reply NoMemory) → h < c.handles
    → IsBelow c (fetched_of h r)
fetched_below c h (Ok answer.Freed) below = below
fetched_below c h r below = tt

-- ---- whether such a turn is made again
-- one that was not refused for want of room is not
no_want_tried : (far : FarState) (order : Option Kept) (job : Job) (r : Result Reply NoMemory)
    → IfOk r IsNoWant → false ≡ is_to_try_again far order job (answer_of r)
no_want_tried far order job (Ok (answer.NoRoom frames loose nodes)) none =
    absurd (none frames loose nodes refl)
no_want_tried far order job (Ok r) none = refl
no_want_tried far order job (Err e) none = refl

-- a landing is by its reply, and the three others are not
pub tried_none : (far : FarState) (k : Asked) (o : Outcome) → IsAnswered k o
    → ((r : Result Reply NoMemory) → o ≡ ends.Land r → ⊥)
    → false ≡ is_to_try_again far (order_run k) (job_of k) (answer_of (told o))
tried_none far asks.Gather (ends.Gather r) kind not =
    no_want_tried far None jobs.Gather (gather_answer r) kind.1
tried_none far (asks.Install done) (ends.Install r) kind not =
    no_want_tried far (Some (Encode done.now.order)) jobs.Install (Ok r) kind
tried_none far (asks.Fetch handle) (ends.Fetch r) kind not =
    no_want_tried far None (jobs.Fetch handle) (fetch_answer r) kind.1
tried_none far (asks.Land done) (ends.Land r) kind not = absurd (not r refl)
tried_none far k o kind not = absurd kind

tried_land : (far : FarState) (k : Asked) (r : Result Reply NoMemory) → IsAnswered k (ends.Land r)
    → is_to_try_again far (decode_in (order_run k)) jobs.Land (answer_of r)
    ≡ is_to_try_again far (order_run k) (job_of k) (answer_of r)
tried_land far (asks.Land done) r kind = refl
tried_land far k r kind = absurd kind

pub tried_by : (far : FarState) (order : Option Kept) (k : Asked) (o : Outcome)
    (r : Result Reply NoMemory) → order ≡ decode_in (order_run k) → o ≡ ends.Land r → IsAnswered k o
    → is_to_try_again far order jobs.Land (answer_of r)
    ≡ is_to_try_again far (order_run k) (job_of k) (answer_of (told o))
tried_by far order k o r same is kind =
    ap (λ (x : Option Kept). is_to_try_again far x jobs.Land (answer_of r)) same
    ∙ tried_land far k r (subst (IsAnswered k) is kind)
    ∙ ap (λ (z : Outcome). is_to_try_again far (order_run k) (job_of k) (answer_of (told z))) (sym is)

-- by the order that was run, as by the one with which it may be asked
pub tried_run : (c : Config) (far : FarState) (order : Option Kept) (k : Asked) (r : Option Reply)
    → MayAsk c order k
    → is_to_try_again far (order_run k) (job_of k) r ≡ is_to_try_again far order (job_of k) r
tried_run c far order k r may =
    tried_as far (order_run k) order (job_of k) r (same_pages k may)
  where
    same_pages : (k : Asked) → MayAsk c order k
        → job_pages far (order_run k) (job_of k) ≡ job_pages far order (job_of k)
    same_pages asks.Gather may = refl
    same_pages (asks.Install done) may = refl
    same_pages (asks.Fetch handle) may = refl
    same_pages (asks.Land done) may = ap (order_pages far) (sym may)

-- ---- what is answered is what was asked for
pub gather_only : (o : Outcome) → IsGathered o
    → ((r : Result Gathered NoMemory) → o ≡ ends.Gather r → ⊥) → ⊥
gather_only (ends.Gather r) kind not = not r refl
gather_only o kind not = kind

pub install_only : (o : Outcome) → IsInstalled o
    → ((r : Reply) → o ≡ ends.Install r → ⊥) → ⊥
install_only (ends.Install r) kind not = not r refl
install_only o kind not = kind

pub fetch_only : (o : Outcome) → IsFetched o
    → ((r : Result Fetching NoMemory) → o ≡ ends.Fetch r → ⊥) → ⊥
fetch_only (ends.Fetch r) kind not = not r refl
fetch_only o kind not = kind

pub land_only : (o : Outcome) → IsLanded o
    → ((r : Result Reply NoMemory) → o ≡ ends.Land r → ⊥) → ⊥
land_only (ends.Land r) kind not = not r refl
land_only o kind not = kind

pub land_frames : (o : Outcome) (r : Result Reply NoMemory)
    → o ≡ ends.Land r → IsLanded o → IfOk r (λ q. q ≡ answer.NoFrame → ⊥)
land_frames o r is kind = subst IsLanded is kind

-- an order that is handed out, and want of memory, are not Freed
pub not_freed : (h : ℕ) (r : Result Fetching NoMemory)
    → ((q : Reply) → r ≡ Ok (fetching.Answer q) → ⊥) → None ≡ fetched_of h (fetch_answer r)
not_freed h (Ok (fetching.Order o)) not = refl
not_freed h (Ok (fetching.Answer q)) not = absurd (not q refl)
not_freed h (Err e) not = refl
