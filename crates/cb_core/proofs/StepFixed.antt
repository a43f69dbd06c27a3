-- An event leads from a sound world to one reply and one world; and so do events one after another.
use Rattle.std.proofs.Common.{◌≡◌, ℕ, List, [], ◌∷◌, length, Option, None, Some, refl, sym, ap, ◌∙◌, subst, arith, inl, inr}
use Rattle.std.specs.List.{remove}
use Rattle.std.proofs.lemmas.Bool.{cases_order}
use Rattle.std.proofs.lemmas.List.{set-get_or}
use Rattle.cb_member.specs.declared.names.Code.{Code}
use Rattle.cb_types.specs.declared.handle.Handle.{Handle}
use Rattle.cb_types.specs.declared.handle.SetId.{SetId}
use Rattle.cb_types.specs.declared.job.Job.{Job}
use Rattle.cb_types.specs.declared.job.Job.TheVariants.{Make, Read, Write, Free, Swap, Filter, Evict, Begin, Ship, Commit, Abort, Fetch, Gather, Install, Land}
use Rattle.cb_types.specs.declared.order.EncodeOrder.{EncodeOrder}
use Rattle.cb_types.specs.declared.order.Kept.{Kept}
use Rattle.cb_types.specs.declared.order.Kept.TheVariants.{Encode}
use Rattle.cb_types.specs.declared.reply.Reply.{Reply}
use Rattle.cb_types.specs.declared.reply.Reply.TheVariants as answer
use Rattle.cb_types.specs.Orders.{IsEncodable}
use Rattle.cb_gf256.specs.InRange.{IsInRange}
use Rattle.cb_world.specs.declared.homes.Home.{Home}
use Rattle.cb_world.specs.declared.seats.SeatPin.{SeatPin}
use Rattle.cb_world.specs.declared.shown.Shown.{Shown}
use Rattle.cb_world.specs.FarState.{FarState}
use Rattle.cb_world.specs.Orders.{KeepsOrder}
use Rattle.cb_world.specs.Pinned.{with_word}
use Rattle.cb_world.specs.Plain.{Words}
use Rattle.cb_world.specs.Seats.{IsNewestOf, SeatState, idle_seat, order_of, pins_of_seat, with_order, with_pins}
use Rattle.cb_world.specs.Sound.{Sound}
use Rattle.cb_world.specs.World.{WorldState, IsSoundWorld}
use Rattle.cb_world.proofs.Laws.{IsOneEnd, home_same}
use Rattle.cb_mutate.proofs.Laws.{free_step_fixes, make_step_fixes, read_step_fixes, write_step_fixes}
use Rattle.cb_evict.specs.declared.eviction.Eviction.TheVariants.{Set}
use Rattle.cb_evict.specs.EvictStep.{IsEvictStep, few_spans, few_nodes, made}
use Rattle.cb_evict.specs.Gathering.{gathered_order, gathered_reply}
use Rattle.cb_evict.proofs.Laws.{gather_step_fixes, install_step_fixes, abort_step_fixes, begin_step_fixes, commit_step_fixes, evict_step_fixes, counted_step_fixes, ship_step_fixes}
use Rattle.cb_filter.proofs.Laws.{filter_step_fixes}
use Rattle.cb_swapin.specs.SwapStep.{IsSwapStep}
use Rattle.cb_swapin.specs.declared.fetching.Fetching.{Fetching}
use Rattle.cb_swapin.specs.FetchStep.{FetchStep, fetching_order, fetching_reply}
use Rattle.cb_swapin.proofs.Laws.{fetch_fixes, land_cases, land_step_fixes, swap_step_fixes}
use Rattle.cb_core.specs.declared.event.Atomic.{Atomic}
use Rattle.cb_core.specs.declared.event.Atomic.TheVariants.{Load, Pin as PinOn, Unpin, Claim, Store, Settle, Take, Give}
use Rattle.cb_core.specs.declared.event.Event.{Event}
use Rattle.cb_core.specs.declared.event.Event.TheVariants as event
use Rattle.cb_core.specs.Jobs.{NeedsNoOrder}
use Rattle.cb_core.specs.OrderParts.{FetchesBy, landed_order}
use Rattle.cb_core.specs.OrderParts.FetchesBy.{not_far, was_far}
use Rattle.cb_core.specs.Parts.{Holding, NeverDeclined, most_evictions}
use Rattle.cb_core.specs.Pinning.{IsPinGiven, IsPinTaken, PinStep, scope_full, refused, taken, UnpinStep, not_pinned, given}
use Rattle.cb_core.specs.Run.{IsOnlyRun, IsOnlyStep, LeadsSoundly}
use Rattle.cb_core.specs.Step.{AtomicStep, Leads, OrderTurn, late as too_late, made as was_made, SeatTurn, held, free, holding_of, ordered, Step, still_orders, StillFetch, StillLand, StillWith, Works, StillBring, StillDecline, StillFind, StillMake, StillRead, StillRoom, StillSwap, StillWorks, StillWrite, TurnStep, worn, done}
use Rattle.cb_core.specs.Turned.{counted, once_counted}
use Rattle.cb_core.proofs.Counting.{counted_sound}
use Rattle.cb_core.proofs.FarJobs.{far_job}
use Rattle.cb_core.proofs.HoldingFixed.{give_fixed, one_holder, take_fixed}
use Rattle.cb_core.proofs.OpenFixed.{claim_fixed, store_fixed, settle_fixed}
use Rattle.cb_core.proofs.PartsFixed.{AreOne, IsFixed, PartLeavesAll, brings_in_fixed, where_it_is_fixed, with_room_fixed}
use Rattle.cb_core.proofs.TurnCallsKept.{same_holding}

-- the ends of an operation, as those of a part
both : (r q : Reply) (b c : Holding Words) → IsOneEnd r q b.desk c.desk b.far c.far → AreOne r q b c
both r q b c e = (e.reply, λ i. record { desk = e.words i; far = e.far i })

-- ---- calls on objects
make_fixed : (bytes : List ℕ) (a : Holding Words) → IsFixed (StillMake bytes) a
make_fixed bytes a r q b c x y =
    both r q b c (make_step_fixes a.desk b.desk c.desk a.far b.far c.far bytes r q x y)

not_made : (h : Handle) (v : ℕ) → answer.NoFrame ≡ answer.Made h v → ⊥
not_made h v e = cc

make_refuses : (bytes : List ℕ) → PartLeavesAll (StillMake bytes) answer.NoFrame
make_refuses bytes a b (inl x) = same_holding a b x.2 x.3
make_refuses bytes a b (inr x) = elim x.1 [
  | inl y ↦ same_holding a b y.2 y.3
  | inr y ↦ absurd (not_made (record { n = a.far.made }) a.far.first y.0)
]

read_fixed : (h : ℕ) (a : Holding Words) → IsFixed (StillRead h) a
read_fixed h a r q b c x y = both r q b c
    (read_step_fixes a.desk b.desk c.desk a.far b.far c.far h r q x.0 x.1 y.0 y.1)

read_refuses : (h : ℕ) → PartLeavesAll (StillRead h) answer.NotHere
read_refuses h a b x = same_holding a b x.0.change x.1

write_fixed : (h at : ℕ) (bytes : List ℕ) (a : Holding Words) → IsFixed (StillWrite h at bytes) a
write_fixed h at bytes a r q b c x y = both r q b c
    (write_step_fixes a.desk b.desk c.desk a.far b.far c.far h at bytes r q x.0 x.1 y.0 y.1)

write_refuses : (h at : ℕ) (bytes : List ℕ) → PartLeavesAll (StillWrite h at bytes) answer.NotHere
write_refuses h at bytes a b x = same_holding a b x.0.change x.1

find_fixed : (h : ℕ) (a : Holding Words) → IsFixed (StillFind h) a
find_fixed h a r q b c x y = (x.0 ∙ sym y.0, x.1 ∙ sym y.1)

find_refuses : (h : ℕ) → PartLeavesAll (StillFind h) answer.NotHere
find_refuses h a b x = x.1

decline_fixed : (h at count : ℕ) (a : Holding Words) → IsFixed (StillDecline h at count) a
decline_fixed h at count a r q b c x y = (x.0 ∙ sym y.0, x.1 ∙ sym y.1)

decline_stays : (h at count : ℕ) → PartLeavesAll (StillDecline h at count) None
decline_stays h at count a b x = x.1

never_fixed : (a : Holding Words) → IsFixed (NeverDeclined {D = Words}) a
never_fixed a r q b c x y = (x.0 ∙ sym y.0, x.1 ∙ sym y.1)

never_stays : PartLeavesAll (NeverDeclined {D = Words}) None
never_stays a b x = x.1

-- ---- far objects
swap_fixed : (h : ℕ) (a : Holding Words) → IsFixed (StillSwap h) a
swap_fixed h a r q b c x y =
    let homes : x.0 ≡ y.0 = home_same x.0 y.0 (sym x.1 ∙ y.1) in
    both r q b c (swap_step_fixes a.desk b.desk c.desk a.far b.far c.far y.0.set y.0.position r q
    (subst (λ (home : Home). IsSwapStep a.desk b.desk a.far b.far home.set home.position r) homes x.2)
    y.2)

pub swap_refuses : (h : ℕ) → PartLeavesAll (StillSwap h) answer.NoFrame
swap_refuses h a b x = same_holding a b x.2.change.0 x.2.change.1

room_fixed : (a : Holding Words) → IsInRange a.far.code.k a.far.code.r → IsFixed StillRoom a
room_fixed a ok e f b c x y =
    let ends = counted_step_fixes a.desk b.desk c.desk a.far b.far c.far e f ok x.0 y.0 in
    (ends.answer, λ i. record { desk = ends.words i; far = ends.far i })

-- the code in force is built, which an eviction keeps
abbrev HasRange : Holding Words → Type 0
HasRange a = IsInRange a.far.code.k a.far.code.r

room_range : (a b : Holding Words) (id : SetId) → HasRange a → StillRoom a (Set id) b → HasRange b
room_range a b id ok x =
    subst (λ (code : Code). IsInRange code.k code.r) (sym (by (answer.Set id) x.0.step)) ok
  where
    by : (r : Reply) → IsEvictStep a.desk b.desk a.far b.far r → b.far.code ≡ a.far.code
    by r (few_spans few same) = ap (λ (f : FarState). f.code) few.state
    by r (few_nodes few same) = ap (λ (f : FarState). f.code) few.state
    by r (made m) = ap (λ (f : FarState). f.code) m.evicted.state

bring_fixed : (h : ℕ) (a : Holding Words) → HasRange a → IsFixed (StillBring h) a
bring_fixed h a ok = with_room_fixed a.desk.settings.frames (StillSwap h) StillRoom HasRange
    (swap_fixed h) (swap_refuses h) room_fixed room_range most_evictions a ok

-- where the words stay and the far state is one, the ends are one
still : (r q : Reply) (a b c : Holding Words) → b.desk ≡ a.desk → c.desk ≡ a.desk
    → (r ≡ q) × (b.far ≡ c.far) → AreOne r q b c
still r q a b c e f same =
    both r q b c (record { reply = same.0; words = e ∙ sym f; far = same.1 })

-- ---- a job
-- what its part rests on: a code in force that is built, and a sound far state
pub record IsReadyToWork (a : Holding Words) : Type 0 where
  pub range : IsInRange a.far.code.k a.far.code.r
  pub shown : Shown
  pub sound : Sound shown a.far

pub works_fixed : (job : Job) (a : Holding Words) → IsReadyToWork a → IsFixed (StillWorks job) a
works_fixed (Make bytes) a ready r q b c x y =
    with_room_fixed a.desk.settings.frames (StillMake bytes) StillRoom HasRange (make_fixed bytes)
    (make_refuses bytes) room_fixed room_range most_evictions a ready.range r q b c x y
works_fixed (Read handle) a ready r q b c x y = where_it_is_fixed (StillRead handle.n) NeverDeclined
    (StillBring handle.n) (read_fixed handle.n) (read_refuses handle.n) never_fixed never_stays a
    (bring_fixed handle.n a ready.range) r q b c x y
works_fixed (Write handle at bytes) a ready r q b c x y = where_it_is_fixed (StillWrite handle.n at bytes)
    (StillDecline handle.n at (length bytes)) (StillBring handle.n) (write_fixed handle.n at bytes)
    (write_refuses handle.n at bytes) (decline_fixed handle.n at (length bytes))
    (decline_stays handle.n at (length bytes)) a (bring_fixed handle.n a ready.range) r q b c x y
works_fixed (Free handle) a ready r q b c x y = both r q b c
    (free_step_fixes ready.shown a.desk b.desk c.desk a.far b.far c.far handle.n ready.sound.here r q x y)
works_fixed (Swap handle) a ready r q b c x y = brings_in_fixed (StillFind handle.n) (StillBring handle.n) a
    (find_fixed handle.n a) (find_refuses handle.n) (bring_fixed handle.n a ready.range) r q b c x y
works_fixed (Filter handle) a ready r q b c x y = both r q b c
    (filter_step_fixes ready.shown a.desk b.desk c.desk a.far b.far c.far handle.n r q ready.sound.here
    x.0 y.0)
works_fixed Evict a ready r q b c x y = both r q b c
    (evict_step_fixes a.desk b.desk c.desk a.far b.far c.far r q ready.range x.0 y.0)
works_fixed Begin a ready r q b c x y = both r q b c
    (begin_step_fixes a.desk b.desk c.desk a.far b.far c.far r q ready.range x.0 y.0)
works_fixed Ship a ready r q b c x y =
    both r q b c (ship_step_fixes a.desk b.desk c.desk a.far b.far c.far r q x.0 y.0)
works_fixed Commit a ready r q b c x y =
    both r q b c (commit_step_fixes a.desk b.desk c.desk a.far b.far c.far r q x.0 y.0)
works_fixed Abort a ready r q b c x y =
    both r q b c (abort_step_fixes a.desk b.desk c.desk a.far b.far c.far r q x.0 y.0)
works_fixed job a ready r q b c x y =
    still r q a b c x.0 y.0 ((far_job job).fixes ready.shown a.far b.far c.far r q ready.sound x.1 y.1)

-- ---- a turn
-- the world that the words and the far state of a job are part of
turned : (a b : WorldState) → a.desk ≡ b.desk → a.far ≡ b.far → a.seats ≡ b.seats → a ≡ b
turned a b desks fars seats = λ i. record { desk = desks i; far = fars i; seats = seats i }

turn_ready : (w : WorldState) (job : Job) → IsSoundWorld w
    → IsReadyToWork (record { desk = w.desk; far = counted w.far job })
turn_ready w job sound = record {
  range = sound.configured.codes.force.range;
  shown = sound.shown;
  sound = counted_sound sound.shown w.far (counted w.far job) job refl sound.known.sound;
}

turn_fixed : (job : Job) (w a b : WorldState) (r q : Reply) → IsSoundWorld w → TurnStep job w r a
    → TurnStep job w q b → (r ≡ q) × (a ≡ b)
turn_fixed job w a b r q sound (worn end e s) (worn end' f t) = (e ∙ sym f, s ∙ sym t)
turn_fixed job w a b r q sound (worn end e s) (done few works seats) =
    absurd (omega (arith, end, few))
turn_fixed job w a b r q sound (done few works seats) (worn end f t) =
    absurd (omega (arith, end, few))
turn_fixed job w a b r q sound (done few x s) (done few' y t) =
    let same = works_fixed job (record { desk = w.desk; far = counted w.far job })
    (turn_ready w job sound) r q (record { desk = a.desk; far = a.far })
    (record { desk = b.desk; far = b.far }) x y in (
      same.0,
      turned a b (ap (λ (h : Holding Words). h.desk) same.1) (ap (λ (h : Holding Words). h.far) same.1)
          (s ∙ sym t),
    )

-- ---- a turn that hands an order out or takes one
-- two such turns have one reply and one end, and the seat keeps the same behind them
record IsOneOrdered (r q : Reply) (keeps also : Option Kept) (b c : Holding Words) : Type 0 where
  reply : r ≡ q
  kept : keeps ≡ also
  ends : b ≡ c

land_fixed : (order : Option Kept) (a : Holding Words) → IsFixed (StillLand order) a
land_fixed order a r q b c x y =
    both r q b c (land_step_fixes a.desk b.desk c.desk a.far b.far c.far order r q x.0 y.0)

pub land_refuses : (order : Option Kept) → PartLeavesAll (StillLand order) answer.NoFrame
land_refuses order a b x = land_cases (b ≡ a) a.desk b.desk a.far b.far order answer.NoFrame x.0
    (λ same. same_holding a b same.0 same.1)
    (λ o at brings. same_holding a b brings.change.0 brings.change.1)

-- the rows of one position are one order
rows_fixed : (h : ℕ) (a b c : Holding Words) (g f : Fetching) → StillFetch h a g b
    → StillFetch h a f c → (g ≡ f) × (b ≡ c)
rows_fixed h a b c g f x y =
    let homes : x.0 ≡ y.0 = home_same x.0 y.0 (sym x.1 ∙ y.1) in
    let z = fetch_fixes y.0.set y.0.position a.far b.far c.far g f
    (subst (λ (home : Home). FetchStep home.set home.position a.far b.far g) homes x.3) y.3 in
    (z.0, λ i. record { desk = (x.2 ∙ sym y.2) i; far = z.1 i })

fetch_fixed : (h : ℕ) (order keeps also : Option Kept) (a b c : Holding Words) (r q : Reply)
    → FetchesBy still_orders h order a r keeps b → FetchesBy still_orders h order a q also c
    → IsOneOrdered r q keeps also b c
fetch_fixed h order keeps also a b c r q (not_far find off same) (not_far seek on other) =
    let z = find_fixed h a r q b c find seek in
    record { reply = z.0; kept = same ∙ sym other; ends = z.1 }
fetch_fixed h order keeps also a b c r q (not_far find off same) (was_far n f seek rows is keep) =
    absurd (off (find_fixed h a r answer.NotHere b n find seek).0)
fetch_fixed h order keeps also a b c r q (was_far m g find rows is keep) (not_far seek off same) =
    absurd (off (find_fixed h a q answer.NotHere c m seek find).0)
fetch_fixed h order keeps also a b c r q (was_far m g find rows is keep)
    (was_far n f seek others also_is hold) =
    let z = rows_fixed h a b c g f (subst (λ (d : Holding Words). StillFetch h d g b) find.1 rows)
    (subst (λ (d : Holding Words). StillFetch h d f c) seek.1 others) in record {
      reply = is ∙ ap fetching_reply z.0 ∙ sym also_is;
      kept = keep ∙ ap (fetching_order order) z.0 ∙ sym hold;
      ends = z.1;
    }

with_fixed : (job : Job) (order keeps also : Option Kept) (a b c : Holding Words) (r q : Reply)
    → IsReadyToWork a → ((o : EncodeOrder) → order ≡ Some (Encode o) → IsEncodable o)
    → StillWith job order a r keeps b → StillWith job order a q also c
    → IsOneOrdered r q keeps also b c
with_fixed Gather order keeps also a b c r q ready fits (g, x, is, same) (f, y, also_is, other) =
    let z = gather_step_fixes a.desk b.desk c.desk a.far b.far c.far g f ready.range x.0 y.0 in record {
      reply = is ∙ ap gathered_reply z.1 ∙ sym also_is;
      kept = same ∙ ap (gathered_order order) z.1 ∙ sym other;
      ends = λ i. record { desk = z.0.words i; far = z.0.far i };
    }
with_fixed Install order keeps also a b c r q ready fits (same, x, hold) (other, y, on) =
    let z = install_step_fixes a.far b.far c.far r q order keeps also fits x y in record {
      reply = z.reply;
      kept = z.kept;
      ends = λ i. record { desk = (same ∙ sym other) i; far = z.far i };
    }
with_fixed (Fetch handle) order keeps also a b c r q ready fits x y =
    fetch_fixed handle.n order keeps also a b c r q x y
with_fixed Land order keeps also a b c r q ready fits (x, same) (y, other) =
    let z = with_room_fixed a.desk.settings.frames (StillLand order) StillRoom HasRange
    (land_fixed order) (land_refuses order) room_fixed room_range most_evictions a ready.range r q b c
    x y in record {
      reply = z.0;
      kept = same ∙ ap (landed_order order) z.0 ∙ sym other;
      ends = z.1;
    }
with_fixed job order keeps also a b c r q ready fits never other = absurd never

-- an order to encode that is kept can be run
encodable : (s : Shown) (far : FarState) (order : Option Kept) → KeepsOrder s far order
    → (o : EncodeOrder) → order ≡ Some (Encode o) → IsEncodable o
encodable s far order kept o is =
    (subst (KeepsOrder s far) is kept).fits

order_fixed : (job : Job) (w : WorldState) (seat : ℕ) (keeps also : Option Kept)
    (b c : Holding Words) (r q : Reply) → IsSoundWorld w
    → OrderTurn job (order_of w.seats seat) (holding_of w) r keeps b
    → OrderTurn job (order_of w.seats seat) (holding_of w) q also c
    → IsOneOrdered r q keeps also b c
order_fixed job w seat keeps also b c r q sound (too_late end e k s) (too_late last f l t) =
    record { reply = e ∙ sym f; kept = k ∙ sym l; ends = s ∙ sym t }
order_fixed job w seat keeps also b c r q sound (too_late end e k s) (was_made few y) =
    absurd (omega (arith, end, few))
order_fixed job w seat keeps also b c r q sound (was_made few x) (too_late end f l t) =
    absurd (omega (arith, end, few))
order_fixed job w seat keeps also b c r q sound (was_made few x) (was_made more y) =
    with_fixed job (order_of w.seats seat) keeps also (once_counted (holding_of w) job) b c r q
    (turn_ready w job sound)
    (encodable sound.shown w.far (order_of w.seats seat) (sound.orders seat)) x y

-- none of the other jobs does what such a turn does
none_works : (job : Job) (w a : WorldState) (r : Reply) → (NeedsNoOrder job → ⊥)
    → Works w.desk (counted w.far job) job r a.desk a.far → ⊥
none_works Gather w a r off x = x.1
none_works Install w a r off x = x.1
none_works (Fetch handle) w a r off x = x.1
none_works Land w a r off x = x.1
none_works job w a r off x = off tt

-- where it is refused for its number, it is refused as any other turn
pub order_same : (seats : List SeatState) (seat : ℕ)
    → with_order seats seat (order_of seats seat) ≡ seats
order_same seats seat = set-get_or seats seat idle_seat

free_ordered : (job : Job) (seat : ℕ) (w a b : WorldState) (r q : Reply) (also : Option Kept)
    → (NeedsNoOrder job → ⊥) → TurnStep job w r a
    → OrderTurn job (order_of w.seats seat) (holding_of w) q also (holding_of b)
    → b.seats ≡ with_order w.seats seat also → (r ≡ q) × (a ≡ b)
free_ordered job seat w a b r q also off (worn end e s) (too_late last f k t) seats = (
  e ∙ sym f,
  s ∙ sym (turned b w (ap (λ (h : Holding Words). h.desk) t) (ap (λ (h : Holding Words). h.far) t)
      (seats ∙ ap (with_order w.seats seat) k ∙ order_same w.seats seat)),
)
free_ordered job seat w a b r q also off (worn end e s) (was_made few y) seats =
    absurd (omega (arith, end, few))
free_ordered job seat w a b r q also off (done few works same) turn seats =
    absurd (none_works job w a r off works)

-- a turn of a seat, by who holds the far lock
seat_fixed : (seat : ℕ) (job : Job) (w a b : WorldState) (r q : Reply) → IsSoundWorld w
    → SeatTurn seat job w r a → SeatTurn seat job w q b → (r ≡ q) × (a ≡ b)
seat_fixed seat job w a b r q sound (held k off x e s) (held l out y f t) =
    (e ∙ one_holder w.seats k l sound.one x y ∙ sym f, s ∙ sym t)
seat_fixed seat job w a b r q sound (held k off x e s) (free none y) = absurd (off (none k x))
seat_fixed seat job w a b r q sound (free none x) (held l out y f t) = absurd (out (none l y))
seat_fixed seat job w a b r q sound (free none x) (free m y) = turn_fixed job w a b r q sound x y
seat_fixed seat job w a b r q sound (held k off x e s) (ordered also needs none y t) =
    absurd (off (none k x))
seat_fixed seat job w a b r q sound (ordered keeps needs none x s) (held k off y f t) =
    absurd (off (none k y))
seat_fixed seat job w a b r q sound (free none x) (ordered also needs m y t) =
    free_ordered job seat w a b r q also needs x y t
seat_fixed seat job w a b r q sound (ordered keeps needs none x s) (free m y) =
    let z = free_ordered job seat w b a q r keeps needs y x s in (sym z.0, sym z.1)
seat_fixed seat job w a b r q sound (ordered keeps needs none x s) (ordered also off m y t) =
    let z = order_fixed job w seat keeps also (holding_of a) (holding_of b) r q sound x y in (
      z.reply,
      turned a b (ap (λ (h : Holding Words). h.desk) z.ends)
          (ap (λ (h : Holding Words). h.far) z.ends)
          (s ∙ ap (with_order w.seats seat) z.kept ∙ sym t),
    )

-- ---- a pin and its end
-- the newest pin on an object is one
pub newest_fixed : (pins : List SeatPin) (h i j : ℕ) → IsNewestOf pins h i → IsNewestOf pins h j → i ≡ j
newest_fixed pins h i j x y = elim (cases_order i j) [
  | inl e ↦ e
  | inr apart ↦ elim apart [
    | inl less ↦ absurd (x.newest j y.pin less y.there y.on)
    | inr more ↦ absurd (y.newest i x.pin more x.there x.on)
  ]
]

module _ (seat h : ℕ) (w a b : WorldState) where
  pinned_fixed : IsPinTaken seat h w a → IsPinTaken seat h w b → a ≡ b
  pinned_fixed x y =
      let p = x.word.takes.number in let q = y.word.takes.number in
      let words : x.word.word ≡ y.word.word = omega (arith, p, q) in
      turned a b (x.word.words ∙ ap (with_word w.desk h) words ∙ sym y.word.words) (x.far ∙ sym y.far)
      (x.pins ∙ sym y.pins)

  pub pin_fixed : (r q : Reply) → PinStep seat h w r a → PinStep seat h w q b → (r ≡ q) × (a ≡ b)
  pin_fixed r q (scope_full m e s) (scope_full n f t) = (e ∙ sym f, s ∙ sym t)
  pin_fixed r q (scope_full m e s) (refused n off f t) = absurd (omega (arith, m, n))
  pin_fixed r q (scope_full m e s) (taken n may f t) = absurd (omega (arith, m, n))
  pin_fixed r q (refused m off e s) (scope_full n f t) = absurd (omega (arith, m, n))
  pin_fixed r q (taken m may e s) (scope_full n f t) = absurd (omega (arith, m, n))
  pin_fixed r q (refused m gone e s) (refused n off f t) = (e ∙ sym f, s ∙ sym t)
  pin_fixed r q (refused m off e s) (taken n may f t) = absurd (off may)
  pin_fixed r q (taken m may e s) (refused n off f t) = absurd (off may)
  pin_fixed r q (taken m may e s) (taken n can f t) = (e ∙ sym f, pinned_fixed s t)

  given_fixed : IsPinGiven seat h w a → IsPinGiven seat h w b → a ≡ b
  given_fixed x y =
      let at = newest_fixed (pins_of_seat w.seats seat) h x.at y.at x.newest y.newest in
      let p = x.word.gives.number in let q = y.word.gives.number in
      let words : x.word.word ≡ y.word.word = omega (arith, p, q) in
      turned a b (x.word.words ∙ ap (with_word w.desk h) words ∙ sym y.word.words) (x.far ∙ sym y.far)
      (x.pins
      ∙ ap (λ (i : ℕ). with_pins w.seats seat (remove (pins_of_seat w.seats seat) i)) at
      ∙ sym y.pins)

  pub unpin_fixed : (r q : Reply) → UnpinStep seat h w r a → UnpinStep seat h w q b → (r ≡ q) × (a ≡ b)
  unpin_fixed r q (not_pinned n e s) (not_pinned m f t) = (e ∙ sym f, s ∙ sym t)
  unpin_fixed r q (not_pinned n e s) (given f t) =
      absurd (n t.at t.newest.pin t.newest.there t.newest.on)
  unpin_fixed r q (given e s) (not_pinned n f t) =
      absurd (n s.at s.newest.pin s.newest.there s.newest.on)
  unpin_fixed r q (given e s) (given f t) = (e ∙ sym f, given_fixed s t)

-- ---- an event
pub atomic_fixed : (seat : ℕ) (atomic : Atomic) (w a b : WorldState) (r q : Reply) → IsSoundWorld w
    → AtomicStep seat atomic w r a → AtomicStep seat atomic w q b → (r ≡ q) × (a ≡ b)
atomic_fixed seat (Load handle) w a b r q sound x y = (x.0 ∙ sym y.0, x.1 ∙ sym y.1)
atomic_fixed seat (PinOn handle) w a b r q sound x y = pin_fixed seat handle.n w a b r q x y
atomic_fixed seat (Unpin handle) w a b r q sound x y = unpin_fixed seat handle.n w a b r q x y
atomic_fixed seat (Claim handle at bytes) w a b r q sound x y =
    claim_fixed w a b sound seat handle.n at bytes r q x y
atomic_fixed seat (Store handle) w a b r q sound x y = store_fixed w a b sound seat handle.n r q x y
atomic_fixed seat (Settle handle) w a b r q sound x y = settle_fixed w a b sound seat handle.n r q x y
atomic_fixed seat Take w a b r q sound x y = take_fixed seat w a b r q sound.one x y
atomic_fixed seat Give w a b r q sound x y = give_fixed seat w a b r q sound.one x y

-- An event has one reply, and leads from a sound world to one world: every word of local memory, every
-- row at the nodes and all else of it.
pub step_fixes : (w a b : WorldState) (e : Event) (r q : Reply) → IsSoundWorld w → Step w e r a
    → Step w e q b → (r ≡ q) × (a ≡ b)
step_fixes w a b (event.Step seat atomic) r q sound x y =
    atomic_fixed seat atomic w a b r q sound x y
step_fixes w a b (event.Turn seat job) r q sound x y = seat_fixed seat job w a b r q sound x y

pub only_step : (w new : WorldState) (e : Event) (r : Reply) → IsSoundWorld w → Step w e r new
    → IsOnlyStep w e r new
only_step w new e r sound x q v y = let z = step_fixes w new v e r q sound x y in (sym z.0, sym z.1)

-- ---- events one after another
-- Where a run is sound all along, whatever leads by its events has its replies and ends in its world.
pub run_fixes : (w a b : WorldState) (events : List Event) (rs qs : List Reply) → IsSoundWorld w
    → LeadsSoundly w events rs a → Leads w events qs b → (rs ≡ qs) × (a ≡ b)
run_fixes w a b [] [] [] sound x y = (refl, x ∙ sym y)
run_fixes w a b [] [] (q ∷ qs) sound x y = absurd y
run_fixes w a b [] (r ∷ rs) qs sound x y = absurd x
run_fixes w a b (e ∷ es) [] qs sound x y = absurd x
run_fixes w a b (e ∷ es) (r ∷ rs) [] sound x y = absurd y
run_fixes w a b (e ∷ es) (r ∷ rs) (q ∷ qs) sound x y =
    let same = step_fixes w x.0 y.0 e r q sound x.1 y.1 in
    let rest = run_fixes x.0 a b es rs qs x.2 x.3
    (subst (λ (v : WorldState). Leads v es qs b) (sym same.1) y.2) in
    ((λ i. same.0 i ∷ rest.0 i), rest.1)

pub only_run : (w new : WorldState) (events : List Event) (rs : List Reply) → IsSoundWorld w
    → LeadsSoundly w events rs new → IsOnlyRun w events rs new
only_run w new events rs sound x qs v y =
    let z = run_fixes w new v events rs qs sound x y in (sym z.0, sym z.1)
