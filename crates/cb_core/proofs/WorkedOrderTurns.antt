-- Worked examples of turns that hand an order out or take one, at the still desk, and of where they
-- stop: what meets each definition, and what breaks one part.
use Rattle.std.proofs.Common.{◌≡◌, ℕ, zero, suc, ◌+◌, ◌^◌, ◌<◌, true, false, List, [], ◌∷◌, replicate, Option, None, Some, refl, sym, ap, ◌∙◌, lit<, arith, inl, inr}
use Rattle.std.specs.Option.{option_map_or}
use Rattle.cb_member.specs.declared.names.Loss.{Loss}
use Rattle.cb_set.specs.SetState.{SetState, live_at}
use Rattle.cb_types.specs.declared.handle.SetId.{SetId}
use Rattle.cb_types.specs.declared.job.Job.{Job}
use Rattle.cb_types.specs.declared.job.Job.TheVariants.{Gather, Install, Fetch, Land, Evict}
use Rattle.cb_types.specs.declared.order.DecodeOrder.{DecodeOrder}
use Rattle.cb_types.specs.declared.order.EncodeOrder.{EncodeOrder}
use Rattle.cb_types.specs.declared.order.Kept.{Kept}
use Rattle.cb_types.specs.declared.order.Kept.TheVariants.{Decode, Encode}
use Rattle.cb_types.specs.declared.reply.Reply.TheVariants as answer
use Rattle.cb_world.specs.FarState.{FarState}
use Rattle.cb_world.specs.Leaving.{LeavingState}
use Rattle.cb_world.specs.Plain.{Words}
use Rattle.cb_world.specs.Seats.{SeatState, order_of, with_order}
use Rattle.cb_world.specs.World.{WorldState}
use Rattle.cb_evict.specs.BeginStep.{is_leaving}
use Rattle.cb_evict.specs.declared.gathering.Gathered.TheVariants as gathered
use Rattle.cb_swapin.specs.LandRule.{live_in}
use Rattle.cb_core.specs.declared.event.Atomic.{Atomic}
use Rattle.cb_core.specs.declared.event.Event.TheVariants as event
use Rattle.cb_core.specs.Holding.{NoOtherHolds}
use Rattle.cb_core.specs.OrderParts.{RunsOrder}
use Rattle.cb_core.specs.OrderParts.FetchesBy.{not_far, was_far}
use Rattle.cb_core.specs.Parts.{Holding, at_once}
use Rattle.cb_core.specs.Step.{EventStops, HoldOn, OrderStops, OrderTurn, SeatTurn, done, free, held, holding_of, ordered, worn}
use Rattle.cb_core.specs.Step.OrderStops.{in_part, in_run}
use Rattle.cb_core.specs.Step.OrderTurn.{late, made}
use Rattle.cb_core.specs.Turned.{counted, once_counted}
use Rattle.cb_core.specs.Unavailable.{IsLandLost, TellsUnavailable}
use Rattle.cb_core.proofs.WorkedOrders.{lost_set, tells_one_of_two}
use Rattle.cb_core.proofs.WorkedPins.{away, calm, desk, seat_with}
use Rattle.cb_core.proofs.WorkedRoom.{counts}
use Rattle.cb_core.proofs.WorkedTurns.{far, handle, three, world}
use Rattle.cb_core.proofs.WorkedUnavailable.{both_down, both_lost, far as lost_far, five, loss, there}

stays : (a : Holding Words) → HoldOn a a
stays a s k = (s, k, (λ h. refl), (λ seats ongoing. ongoing), λ o kept. kept)

-- ---- an install of a seat that keeps no order
installs_nothing : (a : Holding Words) → a.far.counts.turns < 2 ^ 40
    → OrderTurn Install None a answer.NoOrder None (once_counted a Install)
installs_nothing a few = made few
    (refl, (record { reply = refl; state = refl }, refl), stays (once_counted a Install))

answers_done : (a b : Holding Words) → OrderTurn Install None a answer.Done None b → ⊥
answers_done a b (late end is same keep) = cc
answers_done a b (made few (same, (x, keeps), hold)) = let e = x.reply in cc

finds_an_order : (a b : Holding Words) (o : Kept)
    → OrderTurn Install None a answer.NoOrder (Some o) b → ⊥
finds_an_order a b o (late end is same keep) = cc
finds_an_order a b o (made few (same, (x, keeps), hold)) = cc

abbrev one_more : Holding Words → Holding Words
one_more a = record { desk = a.desk; far = record (counted a.far Install) { made = a.far.made + 1 } }

makes_an_object : (a : Holding Words) → OrderTurn Install None a answer.NoOrder None (one_more a) → ⊥
makes_an_object a (late end is same keep) = cc
makes_an_object a (made few (same, (x, keeps), hold)) =
    let e : a.far.made + 1 ≡ a.far.made = ap (λ (f : FarState). f.made) x.state in omega (arith, e)

-- one that comes too late is not counted, and the seat keeps what it kept
too_late : (a : Holding Words) (order : Option Kept) → a.far.counts.turns ≡ 2 ^ 40
    → OrderTurn Install order a answer.Worn order a
too_late a order end = late end refl refl refl

too_late_and_taken : (a : Holding Words) (o : Kept) → a.far.counts.turns ≡ 2 ^ 40
    → OrderTurn Install (Some o) a answer.Worn None a → ⊥
too_late_and_taken a o end (late last is same keep) = cc
too_late_and_taken a o end (made few x) = omega (arith, end, few)

-- ---- a landing of a seat that keeps no order, or one to encode
lands_nothing : (a : Holding Words) → a.far.counts.turns < 2 ^ 40
    → OrderTurn Land None a answer.NoOrder None (once_counted a Land)
lands_nothing a few = made few (
  at_once (record { reply = refl; words = refl; same = refl }, stays (once_counted a Land)) (λ e. cc),
  refl,
)

lands_parities : (a : Holding Words) (o : EncodeOrder) → a.far.counts.turns < 2 ^ 40
    → OrderTurn Land (Some (Encode o)) a answer.NoOrder (Some (Encode o)) (once_counted a Land)
lands_parities a o few = made few (
  at_once (record { reply = refl; words = refl; same = refl }, stays (once_counted a Land)) (λ e. cc),
  refl,
)

lands_parities_and_takes : (a b : Holding Words) (o : EncodeOrder)
    → OrderTurn Land (Some (Encode o)) a answer.NoOrder None b → ⊥
lands_parities_and_takes a b o (late end is same keep) = cc
lands_parities_and_takes a b o (made few (land, same)) = cc

-- ---- a seat that keeps an order to decode
abbrev decode : DecodeOrder
decode = record { set = 5; position = 0; k = 1; r = 1; present = 1 ∷ []; rows = [] }

abbrev mine : Option Kept
mine = Some (Decode decode)

abbrev keeping : Option Kept → List SeatState
keeping order = record (seat_with []) { order = order } ∷ seat_with [] ∷ []

-- object 0 is here
abbrev here : WorldState
here = world (far three) calm (keeping mine)

abbrev counted_here : Job → Option Kept → WorldState
counted_here job order = world (counted (far three) job) calm (keeping order)

none_kept : None ≡ mine → ⊥
none_kept e = cc

-- ---- a fetch of an object that is here
fetch_stays : OrderTurn (Fetch (handle 0)) mine (holding_of here) answer.Stays mine
    (holding_of (counted_here (Fetch (handle 0)) mine))
fetch_stays = made (lit< tt) (not_far (refl, refl) (λ e. cc) refl)

fetch_takes : OrderTurn (Fetch (handle 0)) mine (holding_of here) answer.Stays None
    (holding_of (counted_here (Fetch (handle 0)) None)) → ⊥
fetch_takes (late end is same keep) = none_kept same
fetch_takes (made few (not_far find off same)) = none_kept same
fetch_takes (made few (was_far m g find rows is same)) = absurd (let e = find.0 in cc)

-- ---- a gather beside a batch that is leaving
abbrev batch : LeavingState
batch = record {
  set = 7;
  pages = 1;
  frames = [];
  words = [];
  made = true;
  parities = [];
  shards = [];
}

abbrev leaving : Holding Words
leaving = record { desk = desk calm 3; far = record (far three) { leaving = Some batch } }

gather_refused : OrderTurn Gather mine leaving (answer.Leaving (record { n = 7 })) mine
    (once_counted leaving Gather)
gather_refused = made (lit< tt) (
  gathered.Answer (answer.Leaving (record { n = 7 })),
  (is_leaving batch refl refl refl refl, stays (once_counted leaving Gather)),
  refl,
  refl,
)

gather_forgets : OrderTurn Gather mine leaving (answer.Leaving (record { n = 7 })) None
    (once_counted leaving Gather) → ⊥
gather_forgets (late end is same keep) = none_kept same
gather_forgets (made few (gathered.Order o, x, is, same)) = cc
gather_forgets (made few (gathered.Answer r, x, is, same)) = none_kept same

-- an eviction is none of them
evicts_by_an_order : (a b : Holding Words) (order keeps : Option Kept) (id : SetId)
    → OrderTurn Evict order a (answer.Set id) keeps b → ⊥
evicts_by_an_order a b order keeps id (late end is same keep) = cc
evicts_by_an_order a b order keeps id (made few x) = x

-- ---- no memory
stops_in_its_run : (a : Holding Words) (o : EncodeOrder)
    → OrderStops Install (Some (Encode o)) a (once_counted a Install)
stops_in_its_run a o = in_run (inl (o, refl, refl)) refl

lands_and_stops : (a : Holding Words) (o : DecodeOrder)
    → OrderStops Land (Some (Decode o)) a (once_counted a Land)
lands_and_stops a o = in_run (inr (o, refl, refl)) refl

-- of an order of the other kind there is nothing to run
runs_the_other : (o : DecodeOrder) → RunsOrder Install (Some (Decode o)) → ⊥
runs_the_other o (inl (p, same, is)) = cc
runs_the_other o (inr (p, same, is)) = cc

runs_none : RunsOrder Land None → ⊥
runs_none (inl (p, same, is)) = cc
runs_none (inr (p, same, is)) = cc

stops_and_makes : (a : Holding Words) (o : EncodeOrder)
    → OrderStops Install (Some (Encode o)) a (one_more a) → ⊥
stops_and_makes a o (in_run runs same) =
    let e : a.far.made + 1 ≡ a.far.made = ap (λ (x : Holding Words). x.far.made) same in
    omega (arith, e)
stops_and_makes a o (in_part never) = never

-- ---- a lost set
step_lands : (w : WorldState) (atomic : Atomic) (id : SetId) (l : List Loss)
    → IsLandLost w (event.Step 0 atomic) id l → ⊥
step_lands w atomic id l x = x

gather_lands : (w : WorldState) (id : SetId) (l : List Loss)
    → IsLandLost w (event.Turn 0 Gather) id l → ⊥
gather_lands w id l x = let e = x.1 in cc

-- ---- turns of the seat
nobody : (order : Option Kept) → NoOtherHolds (keeping order) 0
nobody order zero holds = refl
nobody order (suc zero) holds = absurd cc
nobody order (suc (suc other)) holds = absurd cc

-- an install finds no order to encode, and the seat keeps its own
seat_installs : SeatTurn 0 Install here answer.NoOrder (counted_here Install mine)
seat_installs = ordered mine (λ z. z) (nobody mine) (made (lit< tt)
    (refl, (record { reply = refl; state = refl }, refl), stays (once_counted (holding_of here) Install)))
    refl

-- what it comes to
came : (new : WorldState) → SeatTurn 0 Install here answer.NoOrder new
    → (new.seats ≡ keeping mine) × (new.far ≡ counted (far three) Install)
came new (held holder off holds is same) = absurd (let e = is in cc)
came new (free none (worn end is same)) = absurd (let e = is in cc)
came new (free none (done few works seats)) = absurd works.1
came new (ordered keeps needs none (late end is same keep) seats) = absurd (let e = is in cc)
came new (ordered keeps needs none (made few (same, (x, kept), hold)) seats) =
    (seats ∙ ap (with_order here.seats 0) kept, x.state)

forgotten : keeping None ≡ keeping mine → ⊥
forgotten same = none_kept (ap (λ (seats : List SeatState). order_of seats 0) same)

seat_forgets : SeatTurn 0 Install here answer.NoOrder (counted_here Install None) → ⊥
seat_forgets turn = forgotten (came (counted_here Install None) turn).0

seat_uncounted : SeatTurn 0 Install here answer.NoOrder here → ⊥
seat_uncounted turn = let e : 3 ≡ 4 = ap (λ (f : FarState). f.counts.turns) (came here turn).1 in
    omega (arith, e)

-- beside another seat that holds the far lock
abbrev locked : List SeatState
locked = record (seat_with []) { order = mine } ∷ record (seat_with []) { holds = true } ∷ []

beside_a_lock : NoOtherHolds locked 0 → ⊥
beside_a_lock none = let e : 1 ≡ 0 = none 1 refl in omega (arith, e)

seat_runs_beside : (new : WorldState)
    → SeatTurn 0 Install (world (far three) calm locked) answer.NoOrder new → ⊥
seat_runs_beside new (held holder off holds is same) = absurd (let e = is in cc)
seat_runs_beside new (free none turn) = beside_a_lock none
seat_runs_beside new (ordered keeps needs none turn seats) = beside_a_lock none

-- ---- the order can't be run: the turn is counted, and the seat keeps its order
stops : EventStops here (event.Turn 0 Land) (counted_here Land mine)
stops = (nobody mine, inr (lit< tt, refl, in_run (inr (decode, refl, refl)) refl))

stops_and_forgets : EventStops here (event.Turn 0 Land) (counted_here Land None) → ⊥
stops_and_forgets (none, inl (few, seats, x)) = forgotten seats
stops_and_forgets (none, inr (few, seats, x)) = forgotten seats

abbrev worn_out : WorldState
worn_out = world (far (counts (2 ^ 40) (0 ∷ 2 ^ 40 ∷ replicate 17 0))) calm (keeping mine)

stops_late : (new : WorldState) → EventStops worn_out (event.Turn 0 Land) new → ⊥
stops_late new (none, inl (few, seats, x)) = omega (arith, few)
stops_late new (none, inr (few, seats, x)) = omega (arith, few)

stops_beside : (new : WorldState)
    → EventStops (world (far three) calm locked) (event.Turn 0 Land) new → ⊥
stops_beside new (none, x) = beside_a_lock none

-- ---- a landing of a lost set
abbrev lost : Option Kept → WorldState
lost order = record { desk = desk away 3; far = lost_far both_down; seats = keeping order }

live : live_in (lost_far both_down) 5 0 ≡ true
live = ap (λ (o : Option SetState). option_map_or (λ s. live_at s 0) o false) (there both_down)

lands_lost : IsLandLost (lost mine) (event.Turn 0 Land) five both_lost
lands_lost = (decode, refl, refl, refl, live, lost_set)

lands_none : (id : SetId) (l : List Loss) → IsLandLost (lost None) (event.Turn 0 Land) id l → ⊥
lands_none id l x = let e = x.2 in cc

lands_to_encode : (o : EncodeOrder) (id : SetId) (l : List Loss)
    → IsLandLost (lost (Some (Encode o))) (event.Turn 0 Land) id l → ⊥
lands_to_encode o id l x = let e = x.2 in cc

abbrev set_of_kept : Option Kept → ℕ
set_of_kept (Some (Decode o)) = o.set
set_of_kept (Some (Encode o)) = 0
set_of_kept None = 0

abbrev position_of_kept : Option Kept → ℕ
position_of_kept (Some (Decode o)) = o.position
position_of_kept (Some (Encode o)) = 0
position_of_kept None = 0

lands_another : IsLandLost (lost mine) (event.Turn 0 Land) (record { n = 4 }) both_lost → ⊥
lands_another x = let e : 4 ≡ 5 = ap (λ (id : SetId). id.n) x.3 ∙ sym (ap set_of_kept x.2) in
    omega (arith, e)

-- a position that is not live
abbrev dead : DecodeOrder
dead = record decode { position = 1 }

lands_dead : (l : List Loss)
    → IsLandLost (lost (Some (Decode dead))) (event.Turn 0 Land) five l → ⊥
lands_dead l x = false_true (sym off ∙ at ∙ x.4)
  where
    off : live_in (lost_far both_down) 5 1 ≡ false
    off = ap (λ (o : Option SetState). option_map_or (λ s. live_at s 1) o false) (there both_down)

    at : live_in (lost_far both_down) 5 1 ≡ live_in (lost_far both_down) x.0.set x.0.position
    at = λ i. live_in (lost_far both_down) (ap set_of_kept x.2 i) (ap position_of_kept x.2 i)

    false_true : false ≡ true → ⊥
    false_true e = cc

lands_one_of_two : IsLandLost (lost mine) (event.Turn 0 Land) five (loss 0 1 ∷ []) → ⊥
lands_one_of_two x = tells_one_of_two x.5

-- the answer tells that set
not_told : TellsUnavailable (lost mine) (event.Turn 0 Land) answer.NoOrder → ⊥
not_told t = let e = t.landed five both_lost (nobody mine, lit< tt) lands_lost in cc
