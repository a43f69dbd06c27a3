-- Worked examples of the table over the jobs, over a desk that is a number and parts that are equations:
-- what each job does by them and where it stops, and what it does not.
use Rattle.std.proofs.Common.{◌≡◌, ℕ, zero, suc, ◌+◌, ◌*◌, List, [], ◌∷◌, length, Option, None, Some, refl, sym, ap, ◌∙◌}
use Rattle.cb_types.specs.declared.handle.Handle.{Handle}
use Rattle.cb_types.specs.declared.handle.SetId.{SetId}
use Rattle.cb_types.specs.declared.job.Job.{Job}
use Rattle.cb_types.specs.declared.job.Job.TheVariants as job
use Rattle.cb_types.specs.declared.reply.Reply.{Reply}
use Rattle.cb_types.specs.declared.reply.Reply.TheVariants as answer
use Rattle.cb_types.specs.Jobs.{job_index}
use Rattle.cb_world.specs.FarState.{FarState}
use Rattle.cb_evict.specs.declared.eviction.Eviction.TheVariants.{Refused, Set}
use Rattle.cb_evict.specs.declared.eviction.Lack.TheVariants.{Spans}
use Rattle.cb_core.specs.JobParts.{BringsBy, BringStopsBy, ComeStopsBy, DoesBy, JobParts, PartLacks, StopsBy}
use Rattle.cb_core.specs.Parts.{Holding}
use Rattle.cb_core.specs.Parts.WithRoom.{at_once, no_room, won}
use Rattle.cb_core.specs.Parts.WhereItIs.{near, declined, stays_far, brought}
use Rattle.cb_core.specs.Parts.BringsIn.{not_far, was_far}
use Rattle.cb_core.specs.Parts.RoomStops.{at_once as lacks_at_once, evicting, after as lacks_after}
use Rattle.cb_core.specs.Parts.CallStops.{near as lacks_near, far as lacks_far, after as lacks_once_in}

set_five : SetId
set_five = record { n = 5 }

abbrev one : Handle
one = record { n = 1 }

abbrev two_bytes : List ℕ
two_bytes = 7 ∷ 8 ∷ []

-- ---- replies that differ
full_frame : {n : ℕ} → answer.Full n ≡ answer.NoFrame → ⊥
full_frame e = cc

full_shipped : {n m : ℕ} → answer.Shipped n ≡ answer.Full m → ⊥
full_shipped e = cc

frame_shipped : {n : ℕ} → answer.Shipped n ≡ answer.NoFrame → ⊥
frame_shipped e = cc

swapped_frame : {n : ℕ} → answer.Swapped n ≡ answer.NoFrame → ⊥
swapped_frame e = cc

word_far : {n : ℕ} → answer.NotHere ≡ answer.Word n → ⊥
word_far e = cc

version_far : {n : ℕ} → answer.NotHere ≡ answer.Version n → ⊥
version_far e = cc

some_version : {n m : ℕ} → Some (answer.Version n) ≡ Some (answer.Range m) → ⊥
some_version e = cc

some_none : {r : Reply} → None ≡ Some r → ⊥
some_none e = cc

-- ---- At desk 0 the object is far and there is no frame for it. At desk 1 it is far and there is one,
-- but writes are declined. At every other desk it is here.
abbrev where_framed : Reply → ℕ → Reply
where_framed r zero = answer.NoFrame
where_framed r (suc n) = r

abbrev where_here : Reply → ℕ → Reply
where_here r zero = answer.NotHere
where_here r (suc zero) = answer.NotHere
where_here r (suc (suc n)) = r

abbrev where_declined : Reply → ℕ → Option Reply
where_declined r zero = None
where_declined r (suc n) = Some r

-- a swap of a far object that has a frame leads two desks on
abbrev swapped : ℕ → ℕ
swapped zero = zero
swapped (suc n) = suc (suc (suc n))

-- a number of a handle, a place and a length
abbrev of_three : ℕ → ℕ → ℕ → ℕ
of_three h place count = h + 10 * place + 100 * count

module _ (far : FarState) where
  abbrev at : ℕ → Holding ℕ
  at n = record { desk = n; far = far }

  abbrev parts : JobParts ℕ
  parts = record {
    frames = λ a. 9;
    makes = λ bytes a r b. (r ≡ where_framed (answer.Full (length bytes)) a.desk) × (b ≡ a);
    writes = λ h place bytes a r b.
        (r ≡ where_here (answer.Version (of_three h place (length bytes))) a.desk) × (b ≡ a);
    finds = λ h a r b. (r ≡ where_here (answer.Word h) a.desk) × (b ≡ a);
    declines = λ h place count a r b.
        (r ≡ where_declined (answer.Range (of_three h place count)) a.desk) × (b ≡ a);
    swaps = λ h a r b.
        (r ≡ where_framed (answer.Swapped h) a.desk) × (b ≡ at (swapped a.desk));
    wins = λ a e b. (e ≡ Set set_five) × (b ≡ at (a.desk + 1));
    alone = λ j a r b. (r ≡ answer.Shipped (job_index j)) × (b ≡ a);
  }

  -- with evictions that are refused
  abbrev refused : JobParts ℕ
  refused = record parts { wins = λ a e b. (e ≡ Refused Spans 1 4) × (b ≡ a) }

  abbrev reads : ℕ → Holding ℕ → Reply → Holding ℕ → Type 0
  reads h a r b = (r ≡ answer.Stored h) × (b ≡ a)

  abbrev Does : Job → Holding ℕ → Reply → Holding ℕ → Type 0
  Does j a r b = DoesBy parts reads j a r b

  -- ---- a far object is brought in, and room is won for it
  brings : BringsBy parts 1 (at 0) (answer.Swapped 1) (at 3)
  brings = won (at 0) (at 1) set_five (refl, refl) (refl, refl) (at_once (refl, refl) swapped_frame)

  brings_none : BringsBy refused 1 (at 0) (answer.NoRoom 9 1 4) (at 0)
  brings_none = no_room (at 0) Spans 1 4 (refl, refl) (refl, refl) refl

  -- ---- what each job does
  makes : Does (job.Make two_bytes) (at 0) (answer.Full 2) (at 1)
  makes = won (at 0) (at 1) set_five (refl, refl) (refl, refl) (at_once (refl, refl) full_frame)

  makes_none : DoesBy refused reads (job.Make two_bytes) (at 0) (answer.NoRoom 9 1 4) (at 0)
  makes_none = no_room (at 0) Spans 1 4 (refl, refl) (refl, refl) refl

  reads_one : Does (job.Read one) (at 0) (answer.Stored 1) (at 0)
  reads_one = (refl, refl)

  writes_here : Does (job.Write one 3 two_bytes) (at 2) (answer.Version 231) (at 2)
  writes_here = near (refl, refl) (λ e. version_far (sym e))

  writes_far : Does (job.Write one 3 two_bytes) (at 0) (answer.Version 231) (at 3)
  writes_far = brought (at 0) (at 0) (at 3) 1 (refl, refl) (refl, refl) brings (refl, refl)

  declines : Does (job.Write one 3 two_bytes) (at 1) (answer.Range 231) (at 1)
  declines = declined (at 1) (refl, refl) (refl, refl)

  finds : Does (job.Swap one) (at 2) (answer.Word 1) (at 2)
  finds = not_far (refl, refl) (λ e. word_far (sym e))

  swaps : Does (job.Swap one) (at 0) (answer.Swapped 1) (at 3)
  swaps = was_far (at 0) (refl, refl) brings

  frees : Does (job.Free one) (at 0) (answer.Shipped 3) (at 0)
  frees = (refl, refl)

  evicts : Does job.Evict (at 0) (answer.Shipped 6) (at 0)
  evicts = (refl, refl)

  -- ---- and what it does not
  makes_alone : (b : Holding ℕ) → Does (job.Make two_bytes) (at 1) (answer.Shipped 0) b → ⊥
  makes_alone b (at_once x none) = full_shipped x.0
  makes_alone b (no_room m why loose nodes x y is) = full_frame (sym x.0)
  makes_alone b (won m n id x y z) = full_frame (sym x.0)

  reads_alone : (b : Holding ℕ) → Does (job.Read one) (at 2) (answer.Shipped 1) b → ⊥
  reads_alone b x = absurd (let e = x.0 in cc)

  -- a declined write is not made
  writes_declined : (n : ℕ) (b : Holding ℕ) → Does (job.Write one 3 two_bytes) (at 1) (answer.Version n) b → ⊥
  writes_declined n b (near x here) = version_far (sym x.0)
  writes_declined n b (declined m x y) = some_version
      (y.0 ∙ ap (λ (a : Holding ℕ). where_declined (answer.Range 231) a.desk) x.1)
  writes_declined n b (stays_far m k x y z left) =
      some_none (y.0 ∙ ap (λ (a : Holding ℕ). where_declined (answer.Range 231) a.desk) x.1)
  writes_declined n b (brought m k o f x y z w) =
      some_none (y.0 ∙ ap (λ (a : Holding ℕ). where_declined (answer.Range 231) a.desk) x.1)

  -- ---- want of memory: each part that lacks it leads to desks of its own
  abbrev lacks : PartLacks ℕ
  lacks = record {
    makes = λ bytes a b. b ≡ at (a.desk + 20 + length bytes);
    swaps = λ h a b. b ≡ at (a.desk + 40 + h);
    evicts = λ a b. b ≡ at (a.desk + 60);
    alone = λ j a b. b ≡ at (a.desk + 80 + job_index j);
  }

  abbrev read_lacks : ℕ → Holding ℕ → Holding ℕ → Type 0
  read_lacks h a b = b ≡ at (a.desk + 200 + h)

  abbrev Stops : Job → Holding ℕ → Holding ℕ → Type 0
  Stops j a b = StopsBy parts lacks read_lacks j a b

  brings_and_stops : BringStopsBy parts lacks 1 (at 0) (at 42)
  brings_and_stops = lacks_after (at 0) (at 1) set_five (refl, refl) (refl, refl)
      (lacks_at_once refl)

  stops_making : Stops (job.Make two_bytes) (at 0) (at 22)
  stops_making = lacks_at_once refl

  stops_making_room : Stops (job.Make two_bytes) (at 0) (at 60)
  stops_making_room = evicting (at 0) (refl, refl) refl

  stops_making_after : Stops (job.Make two_bytes) (at 0) (at 23)
  stops_making_after =
      lacks_after (at 0) (at 1) set_five (refl, refl) (refl, refl) (lacks_at_once refl)

  stops_reading : Stops (job.Read one) (at 0) (at 201)
  stops_reading = refl

  stops_bringing_to_write : Stops (job.Write one 3 two_bytes) (at 0) (at 42)
  stops_bringing_to_write = lacks_far (at 0) (at 0) (refl, refl) (refl, refl) brings_and_stops

  comes_and_stops : ComeStopsBy parts lacks 1 (at 0) (at 42)
  comes_and_stops = (at 0, (refl, refl), brings_and_stops)

  stops_swapping : Stops (job.Swap one) (at 0) (at 42)
  stops_swapping = comes_and_stops

  stops_evicting : Stops job.Evict (at 0) (at 86)
  stops_evicting = refl

  -- a write lacks none itself, neither where the object is here nor where it is declined
  no_stop_here : (b : Holding ℕ) → Stops (job.Write one 3 two_bytes) (at 2) b → ⊥
  no_stop_here b (lacks_near x) = x
  no_stop_here b (lacks_far m n x y z) = version_far x.0
  no_stop_here b (lacks_once_in m n o f x y z w) = w

  no_stop_declined : (b : Holding ℕ) → Stops (job.Write one 3 two_bytes) (at 1) b → ⊥
  no_stop_declined b (lacks_near x) = x
  no_stop_declined b (lacks_far m n x y z) =
      some_none (y.0 ∙ ap (λ (a : Holding ℕ). where_declined (answer.Range 231) a.desk) x.1)
  no_stop_declined b (lacks_once_in m n o f x y z w) = w

  -- an object that is here does not come
  comes_from_here : (b : Holding ℕ) → ComeStopsBy parts lacks 1 (at 2) b → ⊥
  comes_from_here b (m, x, z) = word_far x.0
