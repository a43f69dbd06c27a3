-- A job that needs no order is done alone, whatever order its seat keeps.
use Rattle.std.proofs.Common.{◌≡◌, ℕ, List, [], Option, None, Some, Result, Ok, Err, refl, ap, inl, inr}
use Rattle.std.specs.Prelude.{IfOk}
use Rattle.cb_member.specs.declared.no_memory.NoMemory.{NoMemory}
use Rattle.cb_types.specs.declared.config.Config.{Config}
use Rattle.cb_types.specs.declared.job.Job.{Job}
use Rattle.cb_types.specs.declared.job.Job.TheVariants.{Gather, Install, Fetch, Land}
use Rattle.cb_types.specs.declared.order.Kept.{Kept}
use Rattle.cb_types.specs.declared.reply.Reply.{Reply}
use Rattle.cb_types.specs.declared.reply.Reply.TheVariants.{NoRoom}
use Rattle.cb_world.specs.declared.access.Access.{Access}
use Rattle.cb_world.specs.declared.shown.Shown.{Shown}
use Rattle.cb_world.specs.FarState.{FarState}
use Rattle.cb_world.specs.Played.{played}
use Rattle.cb_core.specs.Jobs.{NeedsNoOrder}
use Rattle.cb_core.specs.OrderParts.{DoesWithBy, OrderLacks, OrderParts, StopsWithBy}
use Rattle.cb_core.specs.Ordered.{desk_order_lacks, desk_orders}
use Rattle.cb_core.specs.Ordered.TurnedWith.{done as done_with, worn as worn_with}
use Rattle.cb_core.specs.Parts.{Holding}
use Rattle.cb_core.specs.Turned.{once_counted, worn}
use Rattle.cb_core.specs.Unavailable.{TurnTells}
use Rattle.cb_rule.specs.declared.turn.Turn.{Turn}
use Rattle.cb_rule.specs.TriesAgain.{is_to_try_again, job_pages, may_come_loose}
use Rattle.cb_shared.specs.Turning.{Did, DidAs, DidBy, DidWith, Slate, TellsLost, held_by}
use Rattle.cb_shared.specs.Turning.{slate_run, slate_shows}

does_none : (p : OrderParts Slate) (job : Job) (order : Option Kept) (a : Holding Slate) (r : Reply)
    (keeps : Option Kept) (b : Holding Slate) → NeedsNoOrder job
    → DoesWithBy p job order a r keeps b → ⊥
does_none p Gather order a r keeps b alone does = absurd alone
does_none p Install order a r keeps b alone does = absurd alone
does_none p (Fetch handle) order a r keeps b alone does = absurd alone
does_none p Land order a r keeps b alone does = absurd alone
does_none p job order a r keeps b alone does = does

stops_none : (p : OrderParts Slate) (l : OrderLacks Slate) (job : Job) (order : Option Kept)
    (a b : Holding Slate) → NeedsNoOrder job → StopsWithBy p l job order a b → ⊥
stops_none p l Gather order a b alone stops = absurd alone
stops_none p l Install order a b alone stops = absurd alone
stops_none p l (Fetch handle) order a b alone stops = absurd alone
stops_none p l Land order a b alone stops = absurd alone
stops_none p l job order a b alone stops = stops

with_alone : (c : Config) (job : Job) (order : Option Kept) (reply : Option Reply)
    (keeps : Option Kept) (start : Shown) (es : List Access) (took gave : FarState)
    → NeedsNoOrder job → DidWith c job order reply keeps start es took gave
    → DidAs c job reply start es took gave
with_alone c job order (Some r) keeps start es took gave alone (worn_with last is kept same ran) =
    worn last is same ran
with_alone c job order (Some r) keeps start es took gave alone (done_with few does) =
    absurd (does_none (desk_orders slate_run slate_shows c) job order
    (once_counted (held_by start [] took) job) r keeps (held_by (played es start) es gave) alone does)
with_alone c job order None keeps start es took gave alone (x, same) =
    absurd (stops_none (desk_orders slate_run slate_shows c) (desk_order_lacks slate_run slate_shows) job
    order (once_counted (held_by start [] took) job) (held_by (played es start) es gave) alone x.stops)

-- what such a job did
pub did_alone : (c : Config) (job : Job) (order : Option Kept) (reply : Option Reply)
    (keeps : Option Kept) (start : Shown) (es : List Access) (took gave : FarState)
    → NeedsNoOrder job → DidBy c job order reply keeps start es took gave
    → DidAs c job reply start es took gave
did_alone c job order reply keeps start es took gave alone (inl x) = x.0
did_alone c job order reply keeps start es took gave alone (inr x) =
    with_alone c job order reply keeps start es took gave alone x

-- so of a turn in a record
pub turn_alone : (c : Config) (t : Turn) → NeedsNoOrder t.job → Did c t
    → DidAs c t.job t.reply t.start t.acts t.took t.gave
turn_alone c t alone did =
    did_alone c t.job t.order t.reply t.keeps t.start t.acts t.took t.gave alone did

pub kept_alone : (c : Config) (job : Job) (order : Option Kept) (reply : Option Reply)
    (keeps : Option Kept) (start : Shown) (es : List Access) (took gave : FarState)
    → NeedsNoOrder job → DidWith c job order reply keeps start es took gave → keeps ≡ order
kept_alone c job order (Some r) keeps start es took gave alone (worn_with last is kept same ran) =
    kept
kept_alone c job order (Some r) keeps start es took gave alone (done_with few does) =
    absurd (does_none (desk_orders slate_run slate_shows c) job order
    (once_counted (held_by start [] took) job) r keeps (held_by (played es start) es gave) alone does)
kept_alone c job order None keeps start es took gave alone (x, same) = same

-- and its seat keeps what it kept
pub turn_keeps_order : (c : Config) (t : Turn) → NeedsNoOrder t.job → Did c t → t.keeps ≡ t.order
turn_keeps_order c t alone (inl x) = x.1
turn_keeps_order c t alone (inr x) =
    kept_alone c t.job t.order t.reply t.keeps t.start t.acts t.took t.gave alone x

told_alone : (job : Job) (order : Option Kept) (far : FarState) (r : Reply) → NeedsNoOrder job
    → TurnTells job far r → TellsLost job order far r
told_alone Land order far r alone tells = absurd alone
told_alone job order far r alone tells = tells

-- it is answered Unavailable by its object alone
pub tells_alone : (job : Job) (order : Option Kept) (far : FarState) (r : Result Reply NoMemory)
    → NeedsNoOrder job → IfOk r (λ reply. TurnTells job far reply)
    → IfOk r (λ reply. TellsLost job order far reply)
tells_alone job order far (Ok r) alone tells = told_alone job order far r alone tells
tells_alone job order far (Err e) alone tells = tt

-- ---- nor is it by an order that it is made again
-- the pages of the span for which a job needs frames are all that it is by
pub tried_as : (far : FarState) (o p : Option Kept) (job : Job) (r : Option Reply)
    → job_pages far o job ≡ job_pages far p job
    → is_to_try_again far o job r ≡ is_to_try_again far p job r
tried_as far o p job (Some (NoRoom frames loose nodes)) same =
    ap (λ (pages : ℕ). may_come_loose far pages frames loose) same
tried_as far o p job (Some r) same = refl
tried_as far o p job None same = refl

pages_alone : (far : FarState) (o p : Option Kept) (job : Job) → NeedsNoOrder job
    → job_pages far o job ≡ job_pages far p job
pages_alone far o p Land alone = absurd alone
pages_alone far o p job alone = refl

pub tried_alone : (far : FarState) (o p : Option Kept) (job : Job) (r : Option Reply)
    → NeedsNoOrder job → is_to_try_again far o job r ≡ is_to_try_again far p job r
tried_alone far o p job r alone = tried_as far o p job r (pages_alone far o p job alone)
