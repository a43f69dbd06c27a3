-- What an event leaves that found no memory, and what a run leaves.
use Rattle.std.proofs.Common.{◌≡◌, ◌⊎◌, ℕ, zero, suc, ◌^◌, ◌<◌, ◌+◌, List, [], length, take, drop, get_or, Option, Some, None, refl, sym, ap, ◌∙◌, subst, inl, inr}
use Rattle.cb_ptr.specs.declared.word.State.{State}
use Rattle.cb_ptr.specs.declared.word.State.TheVariants as state
use Rattle.cb_ptr.specs.Word.{state_of}
use Rattle.cb_types.specs.declared.handle.Handle.{Handle}
use Rattle.cb_types.specs.declared.handle.SetId.{SetId}
use Rattle.cb_types.specs.declared.job.Job.{Job}
use Rattle.cb_types.specs.declared.job.Job.TheVariants as job
use Rattle.cb_types.specs.declared.order.Kept.{Kept}
use Rattle.cb_types.specs.declared.reply.Reply.{Reply}
use Rattle.cb_types.specs.declared.reply.Reply.TheVariants as answer
use Rattle.cb_world.specs.declared.shown.Shown.{Shown}
use Rattle.cb_world.specs.FarState.{FarState}
use Rattle.cb_world.specs.Now.{now}
use Rattle.cb_world.specs.Plain.{Words}
use Rattle.cb_world.specs.Seats.{SeatState, order_of}
use Rattle.cb_world.specs.Sound.{Sound}
use Rattle.cb_world.specs.StillWords.{stamp_at}
use Rattle.cb_world.specs.World.{WorldState, IsConfigured, IsKnown, IsSoundWorld, word_at}
use Rattle.cb_world.proofs.Laws.{recounted, recounted_sound}
use Rattle.cb_mutate.specs.StillReplies.{reply_as}
use Rattle.cb_evict.specs.declared.eviction.Eviction.TheVariants.{Set}
use Rattle.cb_core.specs.declared.event.Atomic.{Atomic}
use Rattle.cb_core.specs.declared.event.Atomic.TheVariants.{Claim}
use Rattle.cb_core.specs.declared.event.Event.{Event}
use Rattle.cb_core.specs.declared.event.Event.TheVariants as event
use Rattle.cb_core.specs.FarJobs.{FarLacks}
use Rattle.cb_core.specs.Holding.{NoOtherHolds}
use Rattle.cb_core.specs.Jobs.{NeedsNoOrder}
use Rattle.cb_core.specs.NowIn.{claim_on, now_in}
use Rattle.cb_core.specs.OrderParts.{StopsWithBy}
use Rattle.cb_core.specs.Parts.{Holding, RoomStops, WithRoom, at_once, most_evictions, was_far, won}
use Rattle.cb_core.specs.Parts.WithRoom.{no_room}
use Rattle.cb_core.specs.Parts.RoomStops.{at_once as lacks_at_once, evicting, after as lacks_after}
use Rattle.cb_core.specs.Parts.CallStops.{near, far as was_away, after as call_after}
use Rattle.cb_core.specs.Run.{but_counts, HoldsAsBefore, MakesEvictions, last, one_more, MakesRoom, nothing, evicts, brings, LeavesAsBefore, LeavesPrefix}
use Rattle.cb_core.specs.Step.{Step, EventStops, AtomicStops, StillBring, StillBringLacks, StillEvictLacks, StillFarLacks, StillFind, StillMake, StillMakeLacks, StillRoom, StillStops, StillSwap, StillSwapLacks, StillWorks, StillLand, OrderStops, TurnStops, holding_of, in_part, in_run, still_order_lacks, still_orders, done}
use Rattle.cb_core.specs.Step.SeatTurn.{free}
use Rattle.cb_core.specs.Turned.{counted, once_counted}
use Rattle.cb_core.specs.Unavailable.{brought_by}
use Rattle.cb_core.proofs.FarJobs.{far_job}
use Rattle.cb_core.proofs.NowIn.{in_same}
use Rattle.cb_core.proofs.Rejobbed.{held_as, room_evicts, bring_as}
use Rattle.cb_core.proofs.Runs.{Going, next_at, split_at}
use Rattle.cb_core.proofs.StepFixed.{land_refuses, swap_refuses}
use Rattle.cb_core.proofs.StillFarJobs.{known_after}
use Rattle.cb_core.proofs.TurnCalls.{held_at, held_then}
use Rattle.cb_core.proofs.TurnCallsKept.{HasKept, kept_all, kept_bring, kept_room, kept_then, once_known, same_holding}
use Rattle.cb_core.proofs.TurnCallsLost.{home_far}
use Rattle.cb_core.proofs.TurnCallsMake.{make_crammed}
use Rattle.cb_core.proofs.TurnCallsParts.{read_part, write_part}

-- ---- what was done in vain
-- It is the same but for counts, and all that was known of it is known.
record IsLeft (a b : Holding Words) : Type 0 where
  desk : b.desk ≡ a.desk
  far : but_counts b.far ≡ but_counts a.far
  known : (s : Shown) → IsKnown a.desk a.far s → IsKnown b.desk b.far s

left_same : (a b : Holding Words) → b ≡ a → IsLeft a b
left_same a b same = record {
  desk = ap (λ (x : Holding Words). x.desk) same;
  far = ap (λ (x : Holding Words). but_counts x.far) same;
  known = λ s k. subst (λ (x : Holding Words). IsKnown x.desk x.far s) (sym same) k;
}

-- rows were given out
left_given : (a b : Holding Words) (h : ℕ) → StillSwapLacks h a b → IsLeft a b
left_given a b h (same, (home, set, n, at, there, few, is)) = record {
  desk = same;
  far = ap but_counts is;
  known = λ s k. known_after a b s same k (subst (Sound s) (sym is)
      (recounted_sound s a.far a.far.counts.turns a.far.counts.by_job (a.far.nodes.given + n) k.sound));
}

-- a job at the far state alone
far_left : (j : Job) (far new : FarState) → FarLacks j far new → but_counts new ≡ but_counts far
far_left job.Pair far new same = ap but_counts same
far_left job.Patch far new same = ap but_counts same
far_left job.Merge far new same = ap but_counts same
far_left job.Compact far new same = ap but_counts same
far_left job.Rebuild far new (id, set, n, first, few, is) = ap but_counts is
far_left (job.Crash node) far new (same, up) = ap but_counts same
far_left j far new lacks = absurd lacks

left_far : (j : Job) (a b : Holding Words) → IsConfigured a.desk.settings a.far
    → StillFarLacks (FarLacks j) a b → IsLeft a b
left_far j a b configured (same, lacks) = record {
  desk = same;
  far = far_left j a.far b.far lacks;
  known = λ s k. known_after a b s same k
      ((far_job j).lacks a.desk.settings s a.far b.far configured k.sound lacks).sound;
}

-- ---- what room was made before
-- evictions one after another, at least one and so many at the most
data AreEvicted : ℕ → Holding Words → Holding Words → Type 0 where
  the_last : {fewer : ℕ} {a b : Holding Words} (n : Holding Words) (id : SetId)
      → StillRoom a (Set id) n → IsLeft n b → AreEvicted (suc fewer) a b
  and_more : {fewer : ℕ} {a b : Holding Words} (n : Holding Words) (id : SetId)
      → StillRoom a (Set id) n → AreEvicted fewer n b → AreEvicted (suc fewer) a b

data HasRoom (a b : Holding Words) (asked : Option ℕ) : Type 0 where
  none : IsLeft a b → HasRoom a b asked
  evicted : AreEvicted most_evictions a b → HasRoom a b asked
  came : (o : Holding Words) (handle : Handle) (f : ℕ) → asked ≡ Some handle.n
      → StillBring handle.n a (answer.Swapped f) o → IsLeft o b → HasRoom a b asked

-- an operation that changes nothing where it finds no frame, and nothing that counts where it finds
-- no memory
left_behind : (P : Holding Words → Reply → Holding Words → Type 0)
    (L : Holding Words → Holding Words → Type 0)
    → ((a m : Holding Words) → P a answer.NoFrame m → m ≡ a)
    → ((a b : Holding Words) → L a b → IsLeft a b) → (left : ℕ) (a b : Holding Words)
    → RoomStops P L StillRoom StillEvictLacks left a b → IsLeft a b ⊎ AreEvicted left a b
left_behind P L full lacking left a b (lacks_at_once lacks) = inl (lacking a b lacks)
left_behind P L full lacking left a b (evicting m o same) = inl (left_same a b (same ∙ full a m o))
left_behind P L full lacking (suc fewer) a b (lacks_after m n id o evict rest) =
    let first = subst (λ (x : Holding Words). StillRoom x (Set id) n) (full a m o) evict in
    elim (left_behind P L full lacking fewer n b rest) [
      | inl z ↦ inr (the_last n id first z)
      | inr more ↦ inr (and_more n id first more)
    ]

has_room : (a b : Holding Words) (asked : Option ℕ) → IsLeft a b ⊎ AreEvicted most_evictions a b
    → HasRoom a b asked
has_room a b asked (inl z) = none z
has_room a b asked (inr more) = evicted more

make_room : (a b : Holding Words) (bytes : List ℕ) (asked : Option ℕ)
    → StillStops (job.Make bytes) a b → HasRoom a b asked
make_room a b bytes asked stops = has_room a b asked (left_behind (StillMake bytes)
    (StillMakeLacks bytes)
    (λ a m make. let back = make_crammed a.desk m.desk a.far m.far bytes make in
    same_holding a m back.1 back.2)
    (λ a b lacks. left_same a b lacks.0) most_evictions a b stops)

bring_room : (a b : Holding Words) (h : ℕ) (asked : Option ℕ) → StillBringLacks h a b → HasRoom a b asked
bring_room a b h asked stops = has_room a b asked (left_behind (StillSwap h) (StillSwapLacks h)
    (λ a m swap. swap_refuses h a m swap) (λ a b lacks. left_given a b h lacks) most_evictions a b
    stops)

read_room : (a b : Holding Words) (handle : Handle) → StillStops (job.Read handle) a b
    → HasRoom a b (Some handle.n)
read_room a b handle (near (same, here)) = none (left_same a b same)
read_room a b handle (was_away m n c look lacks) =
    let back = (read_part handle.n []).looks m n None look ∙ (read_part handle.n []).nothing a m c in
    bring_room a b handle.n (Some handle.n)
    (subst (λ (x : Holding Words). StillBringLacks handle.n x b) back lacks)
read_room a b handle (call_after m n o f c look bring (same, here)) =
    let back = (read_part handle.n []).looks m n None look ∙ (read_part handle.n []).nothing a m c in
    came o handle f refl
    (subst (λ (x : Holding Words). StillBring handle.n x (answer.Swapped f) o) back bring)
    (left_same o b same)

write_room : (a b : Holding Words) (handle : Handle) (at : ℕ) (bytes : List ℕ)
    → StillStops (job.Write handle at bytes) a b → HasRoom a b (Some handle.n)
write_room a b handle at bytes (near never) = absurd never
write_room a b handle at bytes (was_away m n c look lacks) =
    let part = write_part handle.n at bytes [] in
    let back = part.looks m n None look ∙ part.nothing a m c in
    bring_room a b handle.n (Some handle.n)
    (subst (λ (x : Holding Words). StillBringLacks handle.n x b) back lacks)
write_room a b handle at bytes (call_after m n o f c look bring never) = absurd never

stop_room : (j : Job) (a b : Holding Words) → IsConfigured a.desk.settings a.far → StillStops j a b
    → HasRoom a b (brought_by j)
stop_room (job.Make bytes) a b is stops = make_room a b bytes None stops
stop_room (job.Read handle) a b is stops = read_room a b handle stops
stop_room (job.Write handle at bytes) a b is stops = write_room a b handle at bytes stops
stop_room (job.Swap handle) a b is (m, found, lacks) = bring_room a b handle.n (Some handle.n)
    (subst (λ (x : Holding Words). StillBringLacks handle.n x b) found.1 lacks)
stop_room (job.Filter handle) a b is (same, needs) = none (left_same a b same)
stop_room job.Evict a b is same = none (left_same a b same)
stop_room job.Begin a b is same = none (left_same a b same)
stop_room job.Ship a b is same = none (left_same a b same)
stop_room (job.Free handle) a b is stops = absurd stops
stop_room job.Commit a b is stops = absurd stops
stop_room job.Abort a b is stops = absurd stops
stop_room j a b is stops = none (left_far j a b is stops)

-- ---- a turn that hands an order out or takes one
-- where its order could not be run, or a part found no memory
part_room : (j : Job) (order : Option Kept) (a b : Holding Words) (asked : Option ℕ)
    → StopsWithBy still_orders still_order_lacks j order a b → HasRoom a b asked
part_room job.Gather order a b asked same = none (left_same a b same)
part_room (job.Fetch handle) order a b asked (m, find, same) =
    none (left_same a b (same ∙ find.1))
part_room job.Land order a b asked stops = has_room a b asked (left_behind (StillLand order)
    StillEvictLacks (land_refuses order) (λ a b same. left_same a b same) most_evictions a b stops)
part_room j order a b asked never = absurd never

order_room : (j : Job) (order : Option Kept) (a b : Holding Words) (asked : Option ℕ)
    → OrderStops j order a b → HasRoom (once_counted a j) b asked
order_room j order a b asked (in_run runs same) = none (left_same (once_counted a j) b same)
order_room j order a b asked (in_part stops) = part_room j order (once_counted a j) b asked stops

-- a job that hands no order out and takes none stops as it does itself
none_stop : (j : Job) (order : Option Kept) (a b : Holding Words) → NeedsNoOrder j
    → StopsWithBy still_orders still_order_lacks j order a b → ⊥
none_stop job.Gather order a b ok stops = ok
none_stop job.Install order a b ok stops = ok
none_stop (job.Fetch handle) order a b ok stops = ok
none_stop job.Land order a b ok stops = ok
none_stop j order a b ok stops = stops

pub stops_alone : (j : Job) (w new : WorldState) (seat : ℕ) → NeedsNoOrder j
    → EventStops w (event.Turn seat j) new → TurnStops j w new
stops_alone j w new seat ok (alone, inl stops) = stops
stops_alone j w new seat ok (alone, inr (few, seats, in_run (inl (o, is, at)) same)) =
    absurd (subst NeedsNoOrder is ok)
stops_alone j w new seat ok (alone, inr (few, seats, in_run (inr (o, is, at)) same)) =
    absurd (subst NeedsNoOrder is ok)
stops_alone j w new seat ok (alone, inr (few, seats, in_part stops)) =
    absurd (none_stop j (order_of w.seats seat) (once_counted (holding_of w) j) (holding_of new) ok stops)

-- ---- in the world
left_now : (a b : Holding Words) (s : Shown) (h : ℕ) → IsLeft a b → now s b.far h ≡ now s a.far h
left_now a b s h z = ap (λ (f : FarState). now s f h) z.far

bring_home : (a b : Holding Words) (s : Shown) (h f : ℕ) → IsKnown a.desk a.far s
    → StillBring h a (answer.Swapped f) b → state_of (word_at a.desk h) ≡ state.Far
bring_home a b s h f k bring = by most_evictions (answer.Swapped f) bring
  where
    by : (left : ℕ) (r : Reply) → WithRoom a.desk.settings.frames (StillSwap h) StillRoom left a r b
        → state_of (word_at a.desk h) ≡ state.Far
    by left r (at_once (home, at, step, hold) never) = home_far a.desk a.far s h home k at
    by left r (no_room m why loose nodes (home, at, step, hold) evict e) =
        home_far a.desk a.far s h home k at
    by (suc fewer) r (won m n id (home, at, step, hold) evict again) =
        home_far a.desk a.far s h home k at

module _ (w new : WorldState) (seat : ℕ) (j : Job) (alone : NoOtherHolds w.seats seat)
    (few : w.far.counts.turns < 2 ^ 40) (seats : new.seats ≡ w.seats) where
  -- the world at a holding, where as many turns were counted as before, and where one more was
  abbrev counted_as : Job → Holding Words → Holding Words
  counted_as other n =
      held_as (counted w.far other).counts.turns (counted w.far other).counts.by_job n

  abbrev with_held : Holding Words → WorldState
  with_held n = record { desk = n.desk; far = n.far; seats = w.seats }

  abbrev uncounted : Holding Words → WorldState
  uncounted n = with_held (held_as w.far.counts.turns w.far.counts.by_job n)

  -- a turn of another job that does its work from there on
  other_turn : (other : Job) (r : Reply) (n o : Holding Words)
      → StillWorks other (counted_as other n) r (counted_as other o)
      → Step (uncounted n) (event.Turn seat other) r (with_held (counted_as other o))
  other_turn other r n o works = free alone (done few works refl)

  evict_turn : (n o : Holding Words) (id : SetId) → StillRoom n (Set id) o
      → Step (uncounted n) (event.Turn seat job.Evict) (answer.Set id)
      (with_held (counted_as job.Evict o))
  evict_turn n o id evict = let counts = (counted w.far job.Evict).counts in
      other_turn job.Evict (answer.Set id) n o (room_evicts counts.turns counts.by_job n o id evict)

  find_far : (other : Job) (h : ℕ) → state_of (word_at w.desk h) ≡ state.Far
      → StillFind h (held_at w other) answer.NotHere (held_at w other)
  find_far other h away = (
    sym (ap (λ (q : State). reply_as q (stamp_at w.desk h) answer.Stays) away),
    refl,
  )

  world_evicts : (left : ℕ) (n : Holding Words) → AreEvicted left n (held_then new)
      → MakesEvictions seat left (uncounted n) new
  world_evicts zero n never = elim never [ ]
  world_evicts (suc fewer) n (the_last o id evict z) = last (with_held (counted_as job.Evict o)) id
      (evict_turn n o id evict) (record { desk = z.desk; far = z.far; seats = seats })
  world_evicts (suc fewer) n (and_more o id evict rest) =
      one_more (with_held (counted_as job.Evict o)) (uncounted o) id (evict_turn n o id evict)
      (record { desk = refl; far = refl; seats = refl }) (world_evicts fewer o rest)

  world_room : (s : Shown) → IsKnown w.desk w.far s → HasRoom (held_at w j) (held_then new) (brought_by j)
      → MakesRoom w (event.Turn seat j) new
  world_room s k (none z) = nothing (record { desk = z.desk; far = z.far; seats = seats })
  world_room s k (evicted more) = evicts (world_evicts most_evictions (held_at w j) more)
  world_room s k (came o handle f asked bring z) =
      let swap = job.Swap handle in let counts = (counted w.far swap).counts in
      let away = bring_home (held_at w j) o s handle.n f (once_known w j s k) bring in
      brings (with_held (counted_as swap o)) handle f asked
      (other_turn swap (answer.Swapped f) (held_at w j) o (was_far (held_at w swap)
      (find_far swap handle.n away)
      (bring_as counts.turns counts.by_job (held_at w j) o handle.n f bring)))
      (record { desk = z.desk; far = z.far; seats = seats })

  claims : (h : ℕ) → claim_on new.seats h ≡ claim_on w.seats h
  claims h = ap (λ (all : List SeatState). claim_on all h) seats

  kept_left : (n : Holding Words) (s : Shown) → (kept : HasKept (held_at w j) n s)
      → IsLeft n (held_then new)
      → (t : Shown) × IsKnown new.desk new.far t × ((h : ℕ) → now_in new t h ≡ now_in w s h)
  kept_left n s kept z = (
    kept.shown,
    z.known kept.shown kept.known,
    λ h. in_same w new s kept.shown claims h
        (left_now n (held_then new) kept.shown h z ∙ kept.same_now h),
  )

  -- what all evictions kept
  evictions_kept : (left : ℕ) (n : Holding Words) (s : Shown) → (kept : HasKept (held_at w j) n s)
      → AreEvicted left n (held_then new)
      → (t : Shown) × IsKnown new.desk new.far t × ((h : ℕ) → now_in new t h ≡ now_in w s h)
  evictions_kept zero n s kept never = elim never [ ]
  evictions_kept (suc fewer) n s kept (the_last o id evict z) = kept_left o s
      (kept_then (held_at w j) n o s kept (kept_room n o (Set id) kept.shown kept.known evict)) z
  evictions_kept (suc fewer) n s kept (and_more o id evict rest) = evictions_kept fewer o s
      (kept_then (held_at w j) n o s kept (kept_room n o (Set id) kept.shown kept.known evict)) rest

  world_holds : HasRoom (held_at w j) (held_then new) (brought_by j) → HoldsAsBefore w new
  world_holds (none z) s k = (
    s,
    z.known s (once_known w j s k),
    λ h. in_same w new s s claims h (left_now (held_at w j) (held_then new) s h z),
  )
  world_holds (evicted more) s k = evictions_kept most_evictions (held_at w j) s
      (kept_all (held_at w j) s (once_known w j s k)) more
  world_holds (came o handle f asked bring z) s k = kept_left o s
      (kept_bring (held_at w j) o handle.n (answer.Swapped f) s (once_known w j s k) bring) z

-- ---- an event
leaves_same : (w new : WorldState) (e : Event) → new ≡ w → LeavesAsBefore w e new
leaves_same w new e same = record {
  room = nothing (record {
    desk = ap (λ (v : WorldState). v.desk) same;
    far = ap (λ (v : WorldState). but_counts v.far) same;
    seats = ap (λ (v : WorldState). v.seats) same;
  });
  holds = λ s k. subst (λ (v : WorldState).
      (t : Shown) × IsKnown v.desk v.far t × ((h : ℕ) → now_in v t h ≡ now_in w s h))
      (sym same) (s, k, λ h. refl);
  seats = ap (λ (v : WorldState). v.seats) same;
}

atomic_leaves : (seat : ℕ) (atomic : Atomic) (w new : WorldState) → AtomicStops atomic w new
    → LeavesAsBefore w (event.Step seat atomic) new
atomic_leaves seat (Claim handle at bytes) w new same =
    leaves_same w new (event.Step seat (Claim handle at bytes)) same
atomic_leaves seat atomic w new never = absurd never

pub stop_leaves : (e : Event) (w new : WorldState) → IsSoundWorld w → EventStops w e new
    → LeavesAsBefore w e new
stop_leaves (event.Step seat atomic) w new sound stops = atomic_leaves seat atomic w new stops
stop_leaves (event.Turn seat j) w new sound (alone, inr (few, seats, stops)) =
    let room = order_room j (order_of w.seats seat) (holding_of w) (holding_of new) (brought_by j) stops in
    record {
      room = world_room w new seat j alone few seats sound.shown sound.known room;
      holds = world_holds w new seat j alone few seats room;
      seats = seats;
    }
stop_leaves (event.Turn seat j) w new sound (alone, inl (few, seats, stops)) =
    let room = stop_room j (held_at w j) (held_then new)
    (recounted w.desk.settings w.far (counted w.far j).counts sound.configured) stops in record {
      room = world_room w new seat j alone few seats sound.shown sound.known room;
      holds = world_holds w new seat j alone few seats room;
      seats = seats;
    }

-- ---- a run
pub prefix_stops : (start : WorldState) (events : List Event) (i : ℕ) (replies : List Reply)
    (w new : WorldState) (e : Event) → Going start events i replies w → i < length events
    → e ≡ get_or events i e → EventStops w e new → LeavesPrefix start events new
prefix_stops start events i replies w new e g lt at stops =
    let z = stop_leaves e w new g.sound stops in record {
      before = take i events;
      after = drop i events;
      replies = replies;
      reached = w;
      are = split_at i events;
      leads = g.leads;
      left = inr (e, drop (i + 1) events, next_at i events e lt at, z.room);
      holds = z.holds;
      seats = z.seats;
    }

pub prefix_ends : (start : WorldState) (events : List Event) (i : ℕ) (replies : List Reply)
    (w : WorldState) → Going start events i replies w → LeavesPrefix start events w
prefix_ends start events i replies w g = record {
  before = take i events;
  after = drop i events;
  replies = replies;
  reached = w;
  are = split_at i events;
  leads = g.leads;
  left = inl (record { desk = refl; far = refl; seats = refl });
  holds = λ s k. (s, k, λ h. refl);
  seats = refl;
}
