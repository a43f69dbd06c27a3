-- What each of the four jobs does over any desk that hands an order out or takes one.
use Rattle.std.proofs.Common.{◌≡◌, ◌⊎◌, ℕ, zero, suc, List, [], Bool, true, false, Option, None, Some}
use Rattle.std.proofs.Common.{Result, Ok, Err, refl, sym, ap, ◌∙◌, subst, inl, inr, ⊎_elim, arith}
use Rattle.std.specs.Borrow.{Bor}
use Rattle.std.specs.Prelude.{IfOk, OnErr, if◌then◌else◌}
use Rattle.cb_member.specs.declared.names.Loss.{Loss}
use Rattle.cb_member.specs.declared.no_memory.NoMemory.{NoMemory}
use Rattle.cb_ptr.specs.declared.word.State.{State}
use Rattle.cb_ptr.specs.declared.word.State.TheVariants as word
use Rattle.cb_ptr.specs.Word.{state_of}
use Rattle.cb_set.specs.SetState.{SetState}
use Rattle.cb_types.specs.declared.config.Config.{Config}
use Rattle.cb_types.specs.declared.handle.Handle.{Handle}
use Rattle.cb_types.specs.declared.handle.SetId.{SetId}
use Rattle.cb_types.specs.declared.job.Job.{Job}
use Rattle.cb_types.specs.declared.job.Job.TheVariants as jobs
use Rattle.cb_types.specs.declared.order.DecodeOrder.{DecodeOrder}
use Rattle.cb_types.specs.declared.order.Kept.{Kept}
use Rattle.cb_types.specs.declared.order.Kept.TheVariants.{Encode, Decode}
use Rattle.cb_types.specs.declared.reply.Reply.{Reply}
use Rattle.cb_types.specs.declared.reply.Reply.TheVariants as answer
use Rattle.cb_orders.specs.Done.{DecodeDoneState, EncodeDoneState}
use Rattle.cb_world.specs.declared.entry.Entry.{Entry}
use Rattle.cb_world.specs.declared.access.Access.{Access}
use Rattle.cb_world.specs.declared.shown.Shown.{Shown}
use Rattle.cb_world.specs.FarState.{FarState}
use Rattle.cb_world.specs.Orders.{KeepsOrder}
use Rattle.cb_world.specs.SetWord.{is_broken}
use Rattle.cb_world.specs.Sound.{Sound}
use Rattle.cb_mutate.specs.Answered.{AnsweredAs, EmptyAnswer}
use Rattle.cb_evict.specs.declared.gathering.Gathered.{Gathered}
use Rattle.cb_evict.specs.declared.gathering.Gathered.TheVariants as gathered
use Rattle.cb_evict.specs.BeginRule.{BeginsBy}
use Rattle.cb_evict.specs.Gathering.{HandsOut, gathered_order, gathered_reply, order_for}
use Rattle.cb_evict.specs.InstallRule.{InstallStep, kept_behind}
use Rattle.cb_swapin.specs.declared.fetching.Fetching.{Fetching}
use Rattle.cb_swapin.specs.declared.fetching.Fetching.TheVariants as fetching
use Rattle.cb_swapin.specs.FetchStep.{FetchFar, fetching_order, fetching_reply}
use Rattle.cb_core.specs.Ordered.{InstallTurn, StoppedWith, TurnedWith}
use Rattle.cb_core.specs.Ordered.InstallTurn.{done as installed, worn as install_worn}
use Rattle.cb_core.specs.Ordered.TurnedWith.{done as done_with, worn as worn_with}
use Rattle.cb_core.specs.OrderLeaves.{HandsOrder, InstallLeaves, fetch_hands, gather_hands}
use Rattle.cb_core.specs.OrderParts.{decode_in, encode_in, landed_order}
use Rattle.cb_core.specs.OrderParts.FetchesBy.{not_far, was_far}
use Rattle.cb_core.specs.Parts.{Holding}
use Rattle.cb_core.specs.TurnLeaves.{OutcomeWrites, TurnLeaves}
use Rattle.cb_core.specs.Turned.{counted, once_counted}
use Rattle.cb_core.specs.Unavailable.{LandTells, TurnTells, brought_by}
use Rattle.cb_rule.specs.declared.view.View.{View}
use Rattle.cb_shared.specs.declared.asked.Asked.{Asked}
use Rattle.cb_shared.specs.declared.asked.Asked.TheVariants as asks
use Rattle.cb_shared.specs.declared.asked.Outcome.{Outcome}
use Rattle.cb_shared.specs.declared.asked.Outcome.TheVariants as ends
use Rattle.cb_shared.specs.Ordering.{AsksBelow, AsksDesk, CanRun, IsNoWant, IsPlainFetch}
use Rattle.cb_shared.specs.Ordering.{IsPlainGather, MayAsk, handed_by, job_of, keeps_of, order_run}
use Rattle.cb_shared.specs.Turning.{CountsPins}
use Rattle.cb_shared.specs.UnderLock.{IsNoRead}

-- ---- what is kept behind such a turn
kept_less : (P : Option Kept → Type 0) → P None → (order : Option Kept) → P order → (r : Reply)
    → P (kept_behind r order)
kept_less P none order kept answer.Done = none
kept_less P none order kept r = kept

landed_less : (P : Option Kept → Type 0) → P None → (order : Option Kept) → P order → (r : Reply)
    → P (landed_order order r)
landed_less P none order kept (answer.Swapped f) = none
landed_less P none order kept r = kept

-- it is what was kept before, the order that was handed out, or none
pub keeps_by : (P : Option Kept → Type 0) → P None → (order : Option Kept) → (o : Outcome) → P order
    → P (handed_by o) → P (keeps_of o order)
keeps_by P none order (ends.Gather (Ok (gathered.Order x))) kept handed = handed
keeps_by P none order (ends.Gather (Ok (gathered.Answer r))) kept handed = kept
keeps_by P none order (ends.Gather (Err e)) kept handed = kept
keeps_by P none order (ends.Install r) kept handed = kept_less P none order kept r
keeps_by P none order (ends.Fetch (Ok (fetching.Order x))) kept handed = handed
keeps_by P none order (ends.Fetch (Ok (fetching.Answer r))) kept handed = kept
keeps_by P none order (ends.Fetch (Err e)) kept handed = kept
keeps_by P none order (ends.Land (Ok r)) kept handed = landed_less P none order kept r
keeps_by P none order (ends.Land (Err e)) kept handed = kept

-- none of them writes a version
pub writes_none : (asked : Asked) (r : Result Reply NoMemory) (more : List Entry) → more ≡ []
    → OutcomeWrites (job_of asked) r more
writes_none asks.Gather (Ok r) more none = none
writes_none (asks.Install done) (Ok r) more none = none
writes_none (asks.Fetch handle) (Ok r) more none = none
writes_none (asks.Land done) (Ok r) more none = none
writes_none asked (Err e) more none = none

-- ---- which replies tell of an order, of a set that is lost, and of no room
abbrev pub kind_of : Reply → ℕ
kind_of (answer.Batch id) = 1
kind_of (answer.Unavailable id losses) = 2
kind_of (answer.Fetched id p) = 3
kind_of (answer.NoRoom frames loose nodes) = 4
kind_of r = 0

no_want : (r : Reply) → (kind_of r ≡ 4 → ⊥) → IsNoWant r
no_want r not frames loose nodes e = not (ap kind_of e)

pub plain_gather : (g : Gathered) → (kind_of (gathered_reply g) ≡ 1 → ⊥) → IsPlainGather (Ok g)
plain_gather (gathered.Order o) not = tt
plain_gather (gathered.Answer r) not = λ id e. not (ap kind_of e)

pub plain_fetch : (g : Fetching) → (kind_of (fetching_reply g) ≡ 3 → ⊥) → IsPlainFetch (Ok g)
plain_fetch (fetching.Order o) not = tt
plain_fetch (fetching.Answer r) not = λ id p e. not (ap kind_of e)

-- one that was kept was handed out
pub gather_kept : (g : Gathered) (x : Kept) → gathered_order None g ≡ Some x → IsPlainGather (Ok g)
gather_kept (gathered.Order o) x e = tt
gather_kept (gathered.Answer r) x e = absurd (cc)

pub fetch_kept : (g : Fetching) (x : Kept) → fetching_order None g ≡ Some x → IsPlainFetch (Ok g)
fetch_kept (fetching.Order o) x e = tt
fetch_kept (fetching.Answer r) x e = absurd (cc)

-- a turn is not answered Unavailable that brings nothing in
never_lost : (job : Job) (far : FarState) (r : Reply) → (kind_of r ≡ 2 → ⊥)
    → ((h : ℕ) → brought_by job ≡ Some h → ⊥) → TurnTells job far r
never_lost job far r not none = record {
  only = λ id losses e. absurd (not (ap kind_of e));
  each = λ h id losses e few lost. absurd (none h e);
}

none_some : (h : ℕ) → (let x : Option ℕ = None in x) ≡ Some h → ⊥
none_some h e = cc

-- the reply of a begin is a refusal, or Batch, where so much is so of some rows
pub record IsBatchOf (so : List (List ℕ) → Type 0) (r : Reply) : Type 0 where
  pub kind : kind_of r ≡ 1
  pub rows : List (List ℕ)
  pub given : so rows

pub begun_kind : (far new : FarState) (made : Bool) (so : List (List ℕ) → Type 0) (r : Reply)
    (es : List Access) → BeginsBy far new made so r es → (kind_of r ≡ 0) ⊎ IsBatchOf so r
begun_kind far new made so r es (inl x) = inl (ap kind_of x.reply)
begun_kind far new made so r es (inr x) = elim x.answered [
  | inl few ↦ inl (ap kind_of few.reply)
  | inr (inl few) ↦ inl (ap kind_of few.reply)
  | inr (inr both) ↦ inr (record {
    kind = ap kind_of both.reply;
    rows = both.begun.rows;
    given = both.given;
  })
]

install_kind : (far new : FarState) (r : Reply) (order keeps : Option Kept)
    → InstallStep far new r order keeps → kind_of r ≡ 0
install_kind far new r None keeps x = ap kind_of x.0.reply
install_kind far new r (Some (Decode o)) keeps x = ap kind_of x.0.reply
install_kind far new r (Some (Encode o)) keeps x = elim x [
  | inl y ↦ ap kind_of y.0.reply
  | inr (inl y) ↦ ap kind_of y.0.reply
  | inr (inr y) ↦ ap kind_of y.0.reply
]

install_turn_kind : (far new : FarState) (r : Reply) (order keeps : Option Kept)
    → InstallTurn far r order keeps new → kind_of r ≡ 0
install_turn_kind far new r order keeps (install_worn last is kept same) = ap kind_of is
install_turn_kind far new r order keeps (installed few step) =
    install_kind (counted far jobs.Install) new r order keeps step

empty_kind : (v : ℕ) (r : Reply) → EmptyAnswer v r → kind_of r ≡ 0
empty_kind zero r e = ap kind_of e
empty_kind (suc v) r e = ap kind_of e

pub find_kind : (state : State) (w h : ℕ) (es : List Access) (r : Reply)
    → AnsweredAs state (λ w. r ≡ answer.Stays) w h es r → kind_of r ≡ 0
find_kind word.Empty w h es r x = empty_kind x.0 r x.2
find_kind word.Far w h es r x = ap kind_of x
find_kind word.Here w h es r x = ap kind_of x
find_kind word.Moving w h es r x = ap kind_of x

unfetched_kind : (broken : Bool) (id : SetId) (losses : List Loss) (r : Reply)
    → r ≡ (if broken then answer.Unavailable id losses else answer.Direct)
    → (kind_of r ≡ 0) ⊎ (kind_of r ≡ 2)
unfetched_kind true id losses r e = inr (ap kind_of e)
unfetched_kind false id losses r e = inl (ap kind_of e)

pub fetched_kind : (id p : ℕ) (far new : FarState) (set : SetState) (g : Fetching)
    → FetchFar far new id p set g
    → ((kind_of (fetching_reply g) ≡ 0) ⊎ (kind_of (fetching_reply g) ≡ 2))
    ⊎ ((o : DecodeOrder) × (g ≡ fetching.Order o))
fetched_kind id p far new set (fetching.Order o) x = inr (o, refl)
fetched_kind id p far new set (fetching.Answer r) x =
    inl (unfetched_kind (is_broken far.members set) _ _ r x.0)

-- ---- each of the four
-- what is told by the reply of a gather, and of a fetch
record GatherSaid (g : Gathered) : Type 0 where
  pub plain : IsPlainGather (Ok g)
  pub room : kind_of (gathered_reply g) ≡ 4 → ⊥
  pub lost : kind_of (gathered_reply g) ≡ 2 → ⊥

record FetchSaid (g : Fetching) : Type 0 where
  pub plain : IsPlainFetch (Ok g)
  pub room : kind_of (fetching_reply g) ≡ 4 → ⊥

refused_gather : (g : Gathered) → kind_of (gathered_reply g) ≡ 0 → GatherSaid g
refused_gather g is = record {
  plain = plain_gather g (λ e. omega (arith, is, e));
  room = λ e. omega (arith, is, e);
  lost = λ e. omega (arith, is, e);
}

refused_fetch : (g : Fetching) → kind_of (fetching_reply g) ≡ 0 → FetchSaid g
refused_fetch g is = record {
  plain = plain_fetch g (λ e. omega (arith, is, e));
  room = λ e. omega (arith, is, e);
}

lost_fetch : (g : Fetching) → kind_of (fetching_reply g) ≡ 2 → FetchSaid g
lost_fetch g is = record {
  plain = plain_fetch g (λ e. omega (arith, is, e));
  room = λ e. omega (arith, is, e);
}

handed_gather : (g : Gathered) (x : Kept) → gathered_order None g ≡ Some x
    → kind_of (gathered_reply g) ≡ 1 → GatherSaid g
handed_gather g x kept is = record {
  plain = gather_kept g x kept;
  room = λ e. omega (arith, is, e);
  lost = λ e. omega (arith, is, e);
}

handed_fetch : (g : Fetching) (x : Kept) → fetching_order None g ≡ Some x
    → kind_of (fetching_reply g) ≡ 3 → FetchSaid g
handed_fetch g x kept is = record {
  plain = fetch_kept g x kept;
  room = λ e. omega (arith, is, e);
}

module _ {D : Type 0} (run : D → List Access → D → Type 0) (shows : D → Shown → Type 0) (c : Config)
    (a b : Holding D) where
  gather_said : (g : Gathered)
      → TurnedWith run shows c jobs.Gather None a (gathered_reply g) (gathered_order None g) b
      → GatherSaid g
  gather_said g (worn_with last is kept same ran) = refused_gather g (ap kind_of is)
  gather_said g (done_with few (m, p, is, kept)) = ⊎_elim
      (λ (e : kind_of (gathered_reply m) ≡ 0). refused_gather g (ap kind_of is ∙ e))
      (λ (x : IsBatchOf (HandsOut (once_counted a jobs.Gather).far m) (gathered_reply m)).
      handed_gather g (Encode (order_for (once_counted a jobs.Gather).far x.rows))
      (kept ∙ ap (gathered_order None) x.given) (ap kind_of is ∙ x.kind))
      (begun_kind (once_counted a jobs.Gather).far b.far false
      (HandsOut (once_counted a jobs.Gather).far m) (gathered_reply m) p.events p.rule)

  fetch_said : (handle : Handle) (g : Fetching)
      → TurnedWith run shows c (jobs.Fetch handle) None a (fetching_reply g) (fetching_order None g) b
      → FetchSaid g
  fetch_said handle g (worn_with last is kept same ran) = refused_fetch g (ap kind_of is)
  fetch_said handle g (done_with few (not_far find away kept)) = let x = find.rule.1 in
      refused_fetch g (find_kind (state_of x.word) x.word handle.n find.events (fetching_reply g)
      x.answer)
  fetch_said handle g (done_with few (was_far m h find (home, at, ran, step) is kept)) =
      elim (fetched_kind home.set home.position m.far b.far step.set h step.state) [
        | inl (inl e) ↦ refused_fetch g (ap kind_of is ∙ e)
        | inl (inr e) ↦ lost_fetch g (ap kind_of is ∙ e)
        | inr x ↦ handed_fetch g _ (kept ∙ ap (fetching_order None) x.1)
            (ap kind_of is ∙ ap (λ (z : Fetching). kind_of (fetching_reply z)) x.1)
      ]

  pub gather_asks : (k : Asked) → k ≡ asks.Gather → (r : Result Gathered NoMemory)
      → IfOk r (λ g. (order : Option Kept) → TurnedWith run shows c jobs.Gather order a
      (gathered_reply g) (gathered_order order g) b)
      → OnErr r ((order : Option Kept) → StoppedWith run shows c jobs.Gather order a b)
      → HandsOrder run shows c a b (gather_hands r) → AsksDesk run shows c k (ends.Gather r) a b
  gather_asks k is r turned stopped leaves =
      subst (λ (z : Asked). AsksDesk run shows c z (ends.Gather r) a b) (sym is)
      (by r turned stopped leaves)
    where
      by : (r : Result Gathered NoMemory)
          → IfOk r (λ g. (order : Option Kept) → TurnedWith run shows c jobs.Gather order a
          (gathered_reply g) (gathered_order order g) b)
          → OnErr r ((order : Option Kept) → StoppedWith run shows c jobs.Gather order a b)
          → HandsOrder run shows c a b (gather_hands r)
          → AsksDesk run shows c asks.Gather (ends.Gather r) a b
      by (Ok g) turned stopped leaves = let said = gather_said g (turned None) in record {
        turned = λ order may. turned order;
        stopped = λ order may. tt;
        leaves = leaves;
        kind = (said.plain, no_want (gathered_reply g) said.room);
        tells = λ order may. never_lost jobs.Gather a.far (gathered_reply g) said.lost none_some;
      }
      by (Err e) turned stopped leaves = record {
        turned = λ order may. tt;
        stopped = λ order may. (stopped order, refl);
        leaves = leaves;
        kind = (tt, tt);
        tells = λ order may. tt;
      }

  pub fetch_asks : (k : Asked) (handle : Handle) → k ≡ asks.Fetch handle
      → (r : Result Fetching NoMemory)
      → IfOk r (λ g. (order : Option Kept) → TurnedWith run shows c (jobs.Fetch handle) order a
      (fetching_reply g) (fetching_order order g) b)
      → IfOk r (λ g. TurnTells (jobs.Fetch handle) a.far (fetching_reply g))
      → OnErr r ((order : Option Kept) → StoppedWith run shows c (jobs.Fetch handle) order a b)
      → HandsOrder run shows c a b (fetch_hands r) → AsksDesk run shows c k (ends.Fetch r) a b
  fetch_asks k handle is r turned tells stopped leaves =
      subst (λ (z : Asked). AsksDesk run shows c z (ends.Fetch r) a b) (sym is)
      (by r turned tells stopped leaves)
    where
      by : (r : Result Fetching NoMemory)
          → IfOk r (λ g. (order : Option Kept) → TurnedWith run shows c (jobs.Fetch handle) order a
          (fetching_reply g) (fetching_order order g) b)
          → IfOk r (λ g. TurnTells (jobs.Fetch handle) a.far (fetching_reply g))
          → OnErr r ((order : Option Kept) → StoppedWith run shows c (jobs.Fetch handle) order a b)
          → HandsOrder run shows c a b (fetch_hands r)
          → AsksDesk run shows c (asks.Fetch handle) (ends.Fetch r) a b
      by (Ok g) turned tells stopped leaves = let said = fetch_said handle g (turned None) in record {
        turned = λ order may. turned order;
        stopped = λ order may. tt;
        leaves = leaves;
        kind = (said.plain, no_want (fetching_reply g) said.room);
        tells = λ order may. tells;
      }
      by (Err e) turned tells stopped leaves = record {
        turned = λ order may. tt;
        stopped = λ order may. (stopped order, refl);
        leaves = leaves;
        kind = (tt, tt);
        tells = λ order may. tt;
      }

  -- an order that is not handed out is none
  hands_none : TurnLeaves run shows c a b (λ more. more ≡ []) → HandsOrder run shows c a b None
  hands_none leaves = record { leaves = leaves; kept = λ s shown sound. tt }

  pub land_asks : (k : Asked) (done : Bor DecodeDoneState) → k ≡ asks.Land done
      → (r : Result Reply NoMemory)
      → IfOk r (λ q. (order : Option Kept) → decode_in order ≡ Some (Decode done.now.order)
      → TurnedWith run shows c jobs.Land order a q (landed_order order q) b)
      → IfOk r (λ q. q ≡ answer.NoFrame → ⊥)
      → IfOk r (λ q. LandTells (Some (Decode done.now.order)) a.far q)
      → OnErr r ((order : Option Kept) → decode_in order ≡ Some (Decode done.now.order)
      → StoppedWith run shows c jobs.Land order a b)
      → TurnLeaves run shows c a b (λ more. more ≡ []) → AsksDesk run shows c k (ends.Land r) a b
  land_asks k done is r turned frames tells stopped leaves =
      subst (λ (z : Asked). AsksDesk run shows c z (ends.Land r) a b) (sym is)
      (by r turned frames tells stopped)
    where
      by : (r : Result Reply NoMemory)
          → IfOk r (λ q. (order : Option Kept) → decode_in order ≡ Some (Decode done.now.order)
          → TurnedWith run shows c jobs.Land order a q (landed_order order q) b)
          → IfOk r (λ q. q ≡ answer.NoFrame → ⊥)
          → IfOk r (λ q. LandTells (Some (Decode done.now.order)) a.far q)
          → OnErr r ((order : Option Kept) → decode_in order ≡ Some (Decode done.now.order)
          → StoppedWith run shows c jobs.Land order a b)
          → AsksDesk run shows c (asks.Land done) (ends.Land r) a b
      by (Ok q) turned frames tells stopped = record {
        turned = λ order may. turned order (ap decode_in may);
        stopped = λ order may. tt;
        leaves = hands_none leaves;
        kind = frames;
        tells = λ order may. subst (λ (o : Option Kept). LandTells o a.far q)
            (sym (ap decode_in may)) tells;
      }
      by (Err e) turned frames tells stopped = record {
        turned = λ order may. tt;
        stopped = λ order may. (stopped order (ap decode_in may), refl);
        leaves = hands_none leaves;
        kind = tt;
        tells = λ order may. tt;
      }

  install_ran : (order keeps : Option Kept) (r : Reply) → run a.desk [] b.desk
      → InstallTurn a.far r order keeps b.far → TurnedWith run shows c jobs.Install order a r keeps b
  install_ran order keeps r ran (install_worn last is kept same) = worn_with last is kept same ran
  install_ran order keeps r ran (installed few step) = done_with few (ran, step)

  pub install_asks : (k : Asked) (done : Bor EncodeDoneState) → k ≡ asks.Install done → (r : Reply)
      → run a.desk [] b.desk
      → ((order : Option Kept) → encode_in order ≡ Some (Encode done.now.order)
      → InstallTurn a.far r order (kept_behind r order) b.far)
      → InstallLeaves c a.far b.far (Some (Encode done.now.order))
      → ((s : Shown) → shows a.desk s → Sound s a.far
      → KeepsOrder s a.far (Some (Encode done.now.order)))
      → AsksDesk run shows c k (ends.Install r) a b
  install_asks k done is r ran turned leaves kept =
      let none = install_turn_kind a.far b.far r _ _ (turned (Some (Encode done.now.order)) refl) in
      subst (λ (z : Asked). AsksDesk run shows c z (ends.Install r) a b) (sym is) record {
        turned = λ order may. install_ran order (kept_behind r order) r ran
            (turned order (ap encode_in may));
        stopped = λ order may. tt;
        leaves = hands_none (record {
          events = [];
          ran = ran;
          configured = leaves.configured;
          codes = leaves.codes;
          counted = leaves.counted;
          next = leaves.next;
          after = λ s shown sound. record {
            sound = leaves.sound s sound (kept s shown sound);
            orders = leaves.orders s sound (kept s shown sound);
            more = [];
            wrote = refl;
            writes_them = λ old. refl;
          };
        });
        kind = no_want r (λ e. omega (arith, none, e));
        tells = λ order may. never_lost jobs.Install a.far r (λ e. omega (arith, none, e)) none_some;
      }

-- an order that is kept can be run
pub kept_runs : (s : Shown) (far : FarState) (order : Option Kept) → KeepsOrder s far order
    → CanRun order
kept_runs s far None kept = tt
kept_runs s far (Some (Encode o)) kept = kept.fits
kept_runs s far (Some (Decode o)) kept = kept.fits

-- ---- at a seat that keeps such an order
pub run_kept : (s : Shown) (far : FarState) (c : Config) (order : Option Kept) (k : Asked)
    → MayAsk c order k → KeepsOrder s far order → KeepsOrder s far (order_run k)
run_kept s far c order asks.Gather may kept = tt
run_kept s far c order (asks.Install done) may kept = subst (KeepsOrder s far) may kept
run_kept s far c order (asks.Fetch handle) may kept = tt
run_kept s far c order (asks.Land done) may kept = subst (KeepsOrder s far) may kept

pub asks_below : (c : Config) (order : Option Kept) (k : Asked) → MayAsk c order k → AsksBelow c k
asks_below c order asks.Gather may = tt
asks_below c order (asks.Install done) may = tt
asks_below c order (asks.Fetch handle) may = may
asks_below c order (asks.Land done) may = tt

-- none of them reads, or tells of pins
pub asks_no_read : (k : Asked) → IsNoRead (job_of k)
asks_no_read asks.Gather = tt
asks_no_read (asks.Install done) = tt
asks_no_read (asks.Fetch handle) = tt
asks_no_read (asks.Land done) = tt

pub asks_no_pins : (k : Asked) (r : Result Reply NoMemory) (v : View) → CountsPins (job_of k) r v
asks_no_pins asks.Gather r v = tt
asks_no_pins (asks.Install done) r v = tt
asks_no_pins (asks.Fetch handle) r v = tt
asks_no_pins (asks.Land done) r v = tt
