-- A turn that hands an order out or takes one is answered Unavailable exactly where it is to be, at the
-- still desk.
use Rattle.std.proofs.Common.{◌≡◌, ◌≢◌, ℕ, zero, suc, ◌<◌, Bool, true, List, Option, None, Some, refl, sym, ap, ◌∙◌, subst, arith, inl, inr}
use Rattle.cb_member.specs.declared.names.Loss.{Loss}
use Rattle.cb_ptr.specs.declared.word.State.{State}
use Rattle.cb_ptr.specs.declared.word.State.TheVariants as state
use Rattle.cb_ptr.specs.Word.{state_of}
use Rattle.cb_set.specs.Lost.{lost}
use Rattle.cb_set.specs.SetState.{SetState}
use Rattle.cb_types.specs.declared.handle.Handle.{Handle}
use Rattle.cb_types.specs.declared.handle.SetId.{SetId}
use Rattle.cb_types.specs.declared.job.Job.{Job}
use Rattle.cb_types.specs.declared.job.Job.TheVariants as job
use Rattle.cb_types.specs.declared.order.DecodeOrder.{DecodeOrder}
use Rattle.cb_types.specs.declared.order.Kept.{Kept}
use Rattle.cb_types.specs.declared.order.Kept.TheVariants.{Decode, Encode}
use Rattle.cb_types.specs.declared.reply.Reply.{Reply}
use Rattle.cb_types.specs.declared.reply.Reply.TheVariants as answer
use Rattle.cb_world.specs.declared.access.Access.{Access}
use Rattle.cb_world.specs.declared.shown.Shown.{Shown}
use Rattle.cb_world.specs.FarState.{FarState}
use Rattle.cb_world.specs.Plain.{Words, IsSized}
use Rattle.cb_world.specs.Played.{Agree, played}
use Rattle.cb_world.specs.Seats.{order_of}
use Rattle.cb_world.specs.Sets.{set_in}
use Rattle.cb_world.specs.StillDesk.{plain_follows}
use Rattle.cb_world.specs.StillWords.{stamp_at}
use Rattle.cb_world.specs.World.{WorldState, IsKnown, IsSoundWorld, word_at}
use Rattle.cb_mutate.specs.StillReplies.{reply_as}
use Rattle.cb_evict.specs.declared.eviction.Eviction.TheVariants.{Set}
use Rattle.cb_evict.specs.BeginStep.{BeginsTo, begins, few_nodes, few_spans, is_leaving}
use Rattle.cb_evict.specs.EvictStep.{IsEvictStep, made as evicts, few_nodes as evict_few_nodes, few_spans as evict_few_spans}
use Rattle.cb_evict.specs.InstallRule.{InstallStep}
use Rattle.cb_swapin.specs.FetchStep.{fetching_reply}
use Rattle.cb_swapin.specs.LandRule.{live_in}
use Rattle.cb_swapin.specs.LandStep.{IsLandStep}
use Rattle.cb_core.specs.declared.event.Event.TheVariants as event
use Rattle.cb_core.specs.Jobs.{NeedsNoOrder}
use Rattle.cb_core.specs.OrderParts.{FetchesBy}
use Rattle.cb_core.specs.OrderParts.FetchesBy.{not_far, was_far}
use Rattle.cb_core.specs.Parts.{Holding, WithRoom, at_once, no_room, won, most_evictions}
use Rattle.cb_core.specs.Step.{OrderTurn, StillFind, StillLand, StillRoom, StillWith, holding_of, still_orders}
use Rattle.cb_core.specs.Step.OrderTurn.{late, made}
use Rattle.cb_core.specs.Turned.{counted, once_counted}
use Rattle.cb_core.specs.Unavailable.{IsInLost, IsSetLost, LandTells, TellsUnavailable}
use Rattle.cb_core.proofs.LandTold.{HasNoLost, IsLostOf, Says, broke, encode_says, fine, landed_says, like, no_frame_never, none_says, outdated_says, said}
use Rattle.cb_core.proofs.OrderedKeeps.{kept_land}
use Rattle.cb_core.proofs.SetsStay.{others_stay}
use Rattle.cb_core.proofs.StepFixed.{land_refuses}
use Rattle.cb_core.proofs.StillOrders.{Ran, SaysAll}
use Rattle.cb_core.proofs.TurnCallsKept.{kept_room, once_known}
use Rattle.cb_core.proofs.TurnUnavailable.{Tells, rows_tell, tells_each, tells_only}
use Rattle.cb_core.proofs.Unavailables.{IsNever, in_far, late_tells, lost_is, never_tells}

follows : (d e : Words) (es : List Access) (s : Shown) → Ran d es e → SaysAll d s
    → Agree s es × SaysAll e (played es s)
follows d e es s ran shown = let z = plain_follows es d e s ran.0 shown.1 in
    (z.0, (ran.1 shown.0, z.1))

-- ---- a gather and an install tell of no set
begin_never : (x y : Words) (far new : FarState) (m : Bool) (so : List (List ℕ) → Type 0) (q : Reply)
    → BeginsTo x y far new m so q → IsNever q
begin_never x y far new m so q (is_leaving batch there is same words) = like q _ is (λ id l e. cc)
begin_never x y far new m so q (few_spans none few words) = like q _ few.reply (λ id l e. cc)
begin_never x y far new m so q (few_nodes none few words) = like q _ few.reply (λ id l e. cc)
begin_never x y far new m so q (begins z) = like q _ z.reply (λ id l e. cc)

install_never : (far new : FarState) (r : Reply) (order keeps : Option Kept)
    → InstallStep far new r order keeps → IsNever r
install_never far new r None keeps x = like r _ x.0.reply (λ id l e. cc)
install_never far new r (Some (Decode o)) keeps x = like r _ x.0.reply (λ id l e. cc)
install_never far new r (Some (Encode o)) keeps (inl x) = like r _ x.0.reply (λ id l e. cc)
install_never far new r (Some (Encode o)) keeps (inr (inl x)) = like r _ x.0.reply (λ id l e. cc)
install_never far new r (Some (Encode o)) keeps (inr (inr x)) = like r _ x.0.reply (λ id l e. cc)

-- ---- a fetch
find_never : (q : State) (v : ℕ) → IsNever (reply_as q v answer.Stays)
find_never state.Empty zero id l e = cc
find_never state.Empty (suc v) id l e = cc
find_never state.Far v id l e = cc
find_never state.Moving v id l e = cc
find_never state.Here v id l e = cc

uncounted : (far : FarState) (j : Job) (h : ℕ) (id : SetId) (l : List Loss)
    → IsInLost (counted far j) h id l → IsInLost far h id l
uncounted far j h id l z = record {
  home = z.home;
  set = z.set;
  at = z.at;
  there = z.there;
  number = z.number;
  all = z.all;
  many = z.many;
}

when_counted : (far : FarState) (j : Job) (h : ℕ) (id : SetId) (l : List Loss)
    → IsInLost far h id l → IsInLost (counted far j) h id l
when_counted far j h id l z = record {
  home = z.home;
  set = z.set;
  at = z.at;
  there = z.there;
  number = z.number;
  all = z.all;
  many = z.many;
}

fetch_no_land : (handle : Handle) → job.Fetch handle ≡ job.Land → ⊥
fetch_no_land handle e = cc

same_asked : (h k : ℕ) → Some h ≡ Some k → k ≡ h
same_asked h k e = cc

module _ (w new : WorldState) (seat : ℕ) (handle : Handle) (r : Reply) (order keeps : Option Kept)
    (sound : IsSoundWorld w) where
  abbrev h : ℕ
  h = handle.n

  abbrev j : Job
  j = job.Fetch handle

  near_tells : StillFind h (once_counted (holding_of w) j) r (holding_of new)
      → (r ≡ answer.NotHere → ⊥) → TellsUnavailable w (event.Turn seat j) r
  near_tells find off = record {
    only = λ id l e. absurd (find_never (state_of (word_at w.desk h)) (stamp_at w.desk h) id l
        (sym find.0 ∙ e));
    each = λ k id l asked turn z. absurd (off (find.0 ∙ ap (λ (q : State).
        reply_as q (stamp_at w.desk h) answer.Stays)
        (subst (λ (i : ℕ). state_of (word_at w.desk i) ≡ state.Far) (same_asked h k asked) z.away)));
    landed = λ id l turn z. absurd (fetch_no_land handle z.1);
  }

  away_tells : Tells (counted w.far j) h r → TellsUnavailable w (event.Turn seat j) r
  away_tells t = record {
    only = λ id l e. inl (
      h,
      refl,
      lost_is w sound.shown h id l sound.known
          (in_far w.far h id l
          (uncounted w.far j h id l (tells_only (counted w.far j) h r id l t e))),
    );
    each = λ k id l asked turn z. tells_each (counted w.far j) h r id l t
        (when_counted w.far j h id l
        (subst (λ (i : ℕ). IsInLost w.far i id l) (same_asked h k asked) z.home));
    landed = λ id l turn z. absurd (fetch_no_land handle z.1);
  }

  fetch_tells : FetchesBy still_orders h order (once_counted (holding_of w) j) r keeps
      (holding_of new)
      → TellsUnavailable w (event.Turn seat j) r
  fetch_tells (not_far find off keep) = near_tells find off
  fetch_tells (was_far m g find rows is keep) =
      away_tells (subst (Tells (counted w.far j) h) (sym is)
      (subst (λ (f : FarState). Tells f h (fetching_reply g)) (ap (λ (x : Holding Words). x.far) find.1)
      (rows_tell Ran SaysAll follows w.desk.settings m (holding_of new) h g
      (rows.0, rows.1, (rows.2, λ z. subst IsSized (sym rows.2) z), rows.3))))

-- ---- a landing
spans_set : (n : ℕ) (id : SetId) → answer.NoSpans n ≡ answer.Set id → ⊥
spans_set n id e = cc

nodes_set : (n : ℕ) (id : SetId) → answer.NoNodes n ≡ answer.Set id → ⊥
nodes_set n id e = cc

-- an eviction leaves the sets that there are, and the members
sets_left : (a n : Holding Words) (id : SetId) → StillRoom a (Set id) n → (k : ℕ)
    → k < a.far.counts.sets
    → (set_in n.far.sets k ≡ set_in a.far.sets k) × (n.far.members ≡ a.far.members)
sets_left a n id (step, hold) k below = by (answer.Set id) refl step.step
  where
    by : (r : Reply) → r ≡ answer.Set id → IsEvictStep a.desk n.desk a.far n.far r
        → (set_in n.far.sets k ≡ set_in a.far.sets k) × (n.far.members ≡ a.far.members)
    by r is (evict_few_spans few same) = absurd (spans_set _ id (sym few.reply ∙ is))
    by r is (evict_few_nodes few same) = absurd (nodes_set _ id (sym few.reply ∙ is))
    by r is (evicts z) =
        let off : k ≢ a.far.counts.sets = (λ same. omega (arith, same, below)) in (
          ap (λ (q : FarState). set_in q.sets k) z.evicted.state
              ∙ others_stay a.far.sets a.far.counts.sets k _ off,
          ap (λ (q : FarState). q.members) z.evicted.state,
        )

lands_say : (order : Option Kept) (a b : Holding Words) (r : Reply) → StillLand order a r b
    → Says order a.far r
lands_say None a b r (step, hold) = none_says a.far r step.reply
lands_say (Some (Encode p)) a b r (step, hold) = encode_says p a.far r step.reply
lands_say (Some (Decode p)) a b r (inl x, hold) = outdated_says p a.far r x.gone x.refused.reply
lands_say (Some (Decode p)) a b r (inr x, hold) =
    landed_says p a.far x.brings.set r x.live x.brings.there x.brings.reply

changed_full : (id : SetId) → answer.NoFrame ≡ answer.Changed id → ⊥
changed_full id e = cc

-- where a landing found no frame, its order's set is there
set_there : (o : DecodeOrder) (a b : Holding Words)
    → IsLandStep a.desk b.desk a.far b.far (Some (Decode o)) answer.NoFrame
    → (set : SetState) × (set_in a.far.sets o.set ≡ Some set)
    × (live_in a.far o.set o.position ≡ true)
set_there o a b (inl x) = absurd (changed_full (record { n = o.set }) x.refused.reply)
set_there o a b (inr x) = (x.brings.set, x.brings.there, x.live)

says_off : (order : Option Kept) (far : FarState) → Says order far answer.NoFrame
    → HasNoLost order far
says_off order far (broke o l e z is) = absurd (no_frame_never _ l is)
says_off order far (fine off never) = off

-- what is lost behind an eviction was lost before
was_lost : (order : Option Kept) (a m n : Holding Words) (id : SetId) (o : DecodeOrder)
    (l : List Loss) (s : Shown) → IsKnown a.desk a.far s → order ≡ Some (Decode o)
    → StillLand order a answer.NoFrame m → StillRoom m (Set id) n → IsLostOf n.far o l
    → IsLostOf a.far o l
was_lost order a m n id o l s k is land evict z =
    let there = set_there o a m (subst (λ (p : Option Kept).
    IsLandStep a.desk m.desk a.far m.far p answer.NoFrame) is land.0) in
    let below = k.sound.away.sound.sets.numbered o.set there.0 there.1 in
    let kept = sets_left a n id (subst (λ (x : Holding Words). StillRoom x (Set id) n)
    (land_refuses order a m land) evict) o.set below in (
      there.2,
      record {
        set = z.1.set;
        there = sym kept.0 ∙ z.1.there;
        all = z.1.all ∙ ap (λ (x : _). lost x z.1.set.shards) kept.1;
        many = z.1.many;
      },
    )

says_behind : (order : Option Kept) (frames left : ℕ) (a b : Holding Words) (r : Reply) (s : Shown)
    → IsKnown a.desk a.far s → WithRoom frames (StillLand order) StillRoom left a r b
    → Says order a.far r
says_behind order frames left a b r s k (at_once land off) = lands_say order a b r land
says_behind order frames left a b r s k (no_room m why loose nodes land evict is) =
    fine (says_off order a.far (lands_say order a m answer.NoFrame land))
    (like r _ is (λ id l e. cc))
says_behind order frames (suc fewer) a b r s k (won m n id land evict again) =
    let one = kept_land order a m answer.NoFrame s k land in
    let two = kept_room m n (Set id) one.shown one.known evict in
    by (says_behind order frames fewer n b r two.shown two.known again)
  where
    off : HasNoLost order a.far
    off = says_off order a.far (lands_say order a m answer.NoFrame land)

    by : Says order n.far r → Says order a.far r
    by (fine other never) = fine off never
    by (broke o l is z e) =
        absurd (off o l is (was_lost order a m n id o l s k is land evict z))

none_asked : (k : ℕ) → None ≡ Some k → ⊥
none_asked k e = cc

land_tells : (w : WorldState) (seat : ℕ) (r : Reply) → LandTells (order_of w.seats seat) w.far r
    → TellsUnavailable w (event.Turn seat job.Land) r
land_tells w seat r t = record {
  only = λ id l e. let z = t.only id l e in inr (z.0, refl, z.1, z.2, z.3, z.4);
  each = λ k id l asked turn z. absurd (none_asked k asked);
  landed = λ id l turn z.
      t.each z.0 l z.2 turn.1 z.4 (subst (λ (i : SetId). IsSetLost w.far i l) z.3 z.5)
      ∙ (λ i. answer.Unavailable (sym z.3 i) l);
}

-- ---- each of them
gather_no_land : job.Gather ≡ job.Land → ⊥
gather_no_land e = cc

install_no_land : job.Install ≡ job.Land → ⊥
install_no_land e = cc

with_tells : (j : Job) (w new : WorldState) (seat : ℕ) (r : Reply) (keeps : Option Kept)
    → IsSoundWorld w → (NeedsNoOrder j → ⊥)
    → StillWith j (order_of w.seats seat) (once_counted (holding_of w) j) r keeps (holding_of new)
    → TellsUnavailable w (event.Turn seat j) r
with_tells job.Gather w new seat r keeps sound off (g, (step, hold), is, same) =
    never_tells w (event.Turn seat job.Gather) r refl
    (like r _ is (begin_never w.desk new.desk (counted w.far job.Gather) new.far _ _ _ step))
    (λ id l z. gather_no_land z.1)
with_tells job.Install w new seat r keeps sound off (same, step, hold) =
    never_tells w (event.Turn seat job.Install) r refl
    (install_never (counted w.far job.Install) new.far r (order_of w.seats seat) keeps step)
    (λ id l z. install_no_land z.1)
with_tells (job.Fetch handle) w new seat r keeps sound off x =
    fetch_tells w new seat handle r (order_of w.seats seat) keeps sound x
with_tells job.Land w new seat r keeps sound off (land, same) = land_tells w seat r
    (said (order_of w.seats seat) w.far r (says_behind (order_of w.seats seat) w.desk.settings.frames
    most_evictions (once_counted (holding_of w) job.Land) (holding_of new) r sound.shown
    (once_known w job.Land sound.shown sound.known) land))
with_tells j w new seat r keeps sound off x = absurd (off tt)

pub ordered_tells : (j : Job) (w new : WorldState) (seat : ℕ) (r : Reply) (keeps : Option Kept)
    → IsSoundWorld w → (NeedsNoOrder j → ⊥)
    → OrderTurn j (order_of w.seats seat) (holding_of w) r keeps (holding_of new)
    → TellsUnavailable w (event.Turn seat j) r
ordered_tells j w new seat r keeps sound off (late end is same stays) = late_tells w seat j r end is
ordered_tells j w new seat r keeps sound off (made few x) =
    with_tells j w new seat r keeps sound off x
