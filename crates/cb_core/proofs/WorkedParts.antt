-- Worked examples of the parts of a turn, over a desk that is a number: what meets each definition,
-- and what breaks one of its parts alone.
use Rattle.std.proofs.Common.{◌≡◌, ◌⊎◌, ℕ, zero, suc, ◌+◌, ◌-◌, ◌^◌, ◌≤◌, true, false, Option, None, Some, refl, sym, ap, ◌∙◌, arith, inl, inr}
use Rattle.cb_types.specs.declared.handle.SetId.{SetId}
use Rattle.cb_types.specs.declared.reply.Reply.{Reply}
use Rattle.cb_types.specs.declared.reply.Reply.TheVariants as answer
use Rattle.cb_world.specs.FarState.{FarState}
use Rattle.cb_core.specs.Declining.{far_refusal, write_refusal}
use Rattle.cb_evict.specs.declared.eviction.Eviction.{Eviction}
use Rattle.cb_evict.specs.declared.eviction.Eviction.TheVariants.{Refused, Set}
use Rattle.cb_evict.specs.declared.eviction.Lack.{Lack}
use Rattle.cb_evict.specs.declared.eviction.Lack.TheVariants.{Spans}
use Rattle.cb_core.specs.Parts.{Holding, WithRoom, WhereItIs, NeverDeclined, BringsIn, RoomStops, CallStops, NeverLacks}
use Rattle.cb_core.specs.Parts.WithRoom.{at_once, no_room, won}
use Rattle.cb_core.specs.Parts.WhereItIs.{near, declined, stays_far, brought}
use Rattle.cb_core.specs.Parts.BringsIn.{not_far, was_far}
use Rattle.cb_core.specs.Parts.RoomStops.{at_once as lacks_at_once, evicting, after as lacks_after}
use Rattle.cb_core.specs.Parts.CallStops.{near as lacks_near, far as lacks_far, after as lacks_once_in}
use Rattle.cb_core.proofs.PartsFixed.{AreOne, IsFixed, PartLeavesAll, with_room_fixed}

-- ---- replies that differ
set_five : SetId
set_five = record { n = 5 }

frames_done : (r : Reply) → r ≡ answer.Done → r ≡ answer.NoFrame → ⊥
frames_done r a b = cc

rooms_done : (r : Reply) (a b c : ℕ) → r ≡ answer.Done → r ≡ answer.NoRoom a b c → ⊥
rooms_done r a b c e f = cc

rooms_frames : (r : Reply) (a b c : ℕ) → r ≡ answer.NoFrame → r ≡ answer.NoRoom a b c → ⊥
rooms_frames r a b c e f = cc

done_unmade : (r : Reply) → r ≡ answer.Done → r ≡ answer.Unmade → ⊥
done_unmade r a b = cc

refused_set : (e : Eviction) (id : SetId) (why : Lack) (n m : ℕ) → Refused why n m ≡ e → e ≡ Set id → ⊥
refused_set e id why n m a b = cc

-- the numbers of a reply, and of a refusal
abbrev frames_of : Reply → ℕ
frames_of (answer.NoRoom frames loose nodes) = frames
frames_of r = 0

abbrev loose_of : Reply → ℕ
loose_of (answer.NoRoom frames loose nodes) = loose
loose_of r = 0

abbrev nodes_of : Reply → ℕ
nodes_of (answer.NoRoom frames loose nodes) = nodes
nodes_of r = 0

here_done : (r : Reply) → r ≡ answer.Done → r ≡ answer.NotHere → ⊥
here_done r a b = cc

here_unmade : (r : Reply) → r ≡ answer.Unmade → r ≡ answer.NotHere → ⊥
here_unmade r a b = cc

here_range : (r : Reply) (n : ℕ) → r ≡ answer.Range n → r ≡ answer.NotHere → ⊥
here_range r n a b = cc

here_worn : (r : Reply) → r ≡ answer.Worn → r ≡ answer.NotHere → ⊥
here_worn r a b = cc

here_swapped : (r : Reply) (f : ℕ) → r ≡ answer.Swapped f → r ≡ answer.NotHere → ⊥
here_swapped r f a b = cc

done_swapped : (r : Reply) (f : ℕ) → r ≡ answer.Swapped f → r ≡ answer.Done → ⊥
done_swapped r f a b = cc

frame_swapped : (r : Reply) (f : ℕ) → r ≡ answer.Swapped f → r ≡ answer.NoFrame → ⊥
frame_swapped r f a b = cc

some_none : (o : Option Reply) (r : Reply) → o ≡ Some r → o ≡ None → ⊥
some_none o r a b = cc

some_same : (a b : Reply) → Some a ≡ Some b → a ≡ b
some_same a b e = cc

range_done : (r : Reply) → r ≡ answer.Done → r ≡ answer.Range 3 → ⊥
range_done r a b = cc

worn_range : (r : Reply) → r ≡ answer.Worn → r ≡ answer.Range 3 → ⊥
worn_range r a b = cc

-- ---- the desk is a number, and the far state is one
module _ (far : FarState) where
  abbrev at : ℕ → Holding ℕ
  at n = record { desk = n; far = far }

  desks : (a b : ℕ) → at a ≡ at b → a ≡ b
  desks a b e = ap (λ (h : Holding ℕ). h.desk) e

  -- ---- room: an operation finds a frame at desk 3 and behind it alone
  abbrev told : ℕ → Reply
  told zero = answer.NoFrame
  told (suc zero) = answer.NoFrame
  told (suc (suc zero)) = answer.NoFrame
  told (suc (suc (suc n))) = answer.Done

  abbrev works : Holding ℕ → Reply → Holding ℕ → Type 0
  works a r b = (r ≡ told a.desk) × (b ≡ a)

  -- an eviction that makes a set, and leads to the next desk
  abbrev evicts : Holding ℕ → Eviction → Holding ℕ → Type 0
  evicts a e b = (e ≡ Set set_five) × (b ≡ at (a.desk + 1))

  -- One that does so at the first two desks, and behind them is refused for want of spans: so many
  -- are loose as the desk's number says, and four nodes have room.
  abbrev found : ℕ → Eviction
  found zero = Set set_five
  found (suc zero) = Set set_five
  found (suc (suc n)) = Refused Spans (suc (suc n)) 4

  abbrev next : ℕ → ℕ
  next zero = 1
  next (suc zero) = 2
  next (suc (suc n)) = suc (suc n)

  abbrev refuses : Holding ℕ → Eviction → Holding ℕ → Type 0
  refuses a e b = (e ≡ found a.desk) × (b ≡ at (next a.desk))

  -- of nine frames: by no eviction, by one, and by three
  done_at_once : (left : ℕ) → WithRoom 9 works evicts left (at 3) answer.Done (at 3)
  done_at_once left = at_once (refl, refl) (frames_done answer.Done refl)

  done_after_one : (left : ℕ) → WithRoom 9 works evicts (suc left) (at 2) answer.Done (at 3)
  done_after_one left = won (at 2) (at 3) set_five (refl, refl) (refl, refl) (done_at_once left)

  done_after_three : (left : ℕ) → WithRoom 9 works evicts (suc (suc (suc left))) (at 0) answer.Done
      (at 3)
  done_after_three left = won (at 0) (at 1) set_five (refl, refl) (refl, refl)
      (won (at 1) (at 2) set_five (refl, refl) (refl, refl) (done_after_one left))

  -- no room at once, and behind two evictions: the counts are those that the third one found
  refused : (left : ℕ) → WithRoom 9 works refuses left (at 2) (answer.NoRoom 9 2 4) (at 2)
  refused left = no_room (at 2) Spans 2 4 (refl, refl) (refl, refl) refl

  refused_behind_two : (left : ℕ)
      → WithRoom 9 works refuses (suc (suc left)) (at 0) (answer.NoRoom 9 2 4) (at 2)
  refused_behind_two left = won (at 0) (at 1) set_five (refl, refl) (refl, refl)
      (won (at 1) (at 2) set_five (refl, refl) (refl, refl) (refused left))

  -- each of these has one answer and one end, and so have both together
  one_work : (a : Holding ℕ) → IsFixed works a
  one_work a r q b c x y = (x.0 ∙ sym y.0, x.1 ∙ sym y.1)

  works_stays : PartLeavesAll works answer.NoFrame
  works_stays a b x = x.1

  only_done : (left n : ℕ) (r q : Reply) (b c : Holding ℕ) → WithRoom 9 works evicts left (at n) r b
      → WithRoom 9 works evicts left (at n) q c → AreOne r q b c
  only_done left n = with_room_fixed 9 works evicts (λ a. Unit {0}) one_work works_stays
      (λ a good e f b c x y. (x.0 ∙ sym y.0, x.1 ∙ sym y.1)) (λ a n id good x. tt) left (at n) tt

  only_refused : (left n : ℕ) (r q : Reply) (b c : Holding ℕ)
      → WithRoom 9 works refuses left (at n) r b
      → WithRoom 9 works refuses left (at n) q c → AreOne r q b c
  only_refused left n = with_room_fixed 9 works refuses (λ a. Unit {0}) one_work works_stays
      (λ a good e f b c x y. (x.0 ∙ sym y.0, x.1 ∙ sym y.1)) (λ a n id good x. tt) left (at n) tt

  -- a reply that is not the operation's
  not_told : (left : ℕ) → WithRoom 9 works evicts left (at 3) answer.Unmade (at 3) → ⊥
  not_told left z = done_unmade answer.Unmade
      (only_done left 3 answer.Unmade answer.Done (at 3) (at 3) z (done_at_once left)).0 refl

  -- an eviction though there is a frame
  not_wanted : (left : ℕ) → WithRoom 9 works evicts left (at 3) answer.Done (at 4) → ⊥
  not_wanted left z = let e = desks 4 3
      (only_done left 3 answer.Done answer.Done (at 4) (at 3) z (done_at_once left)).1 in omega
      (arith, e)

  -- no room, and no eviction was tried, or but one, though each makes a set
  not_tried : (left : ℕ) → WithRoom 9 works evicts (suc (suc (suc left))) (at 0)
      (answer.NoRoom 9 2 4) (at 0) → ⊥
  not_tried left z = rooms_done answer.Done 9 2 4 refl
      (sym (only_done (suc (suc (suc left))) 0 (answer.NoRoom 9 2 4) answer.Done (at 0) (at 3) z
      (done_after_three left)).0)

  not_tried_again : (left : ℕ)
      → WithRoom 9 works evicts (suc (suc (suc left))) (at 0) (answer.NoRoom 9 2 4) (at 1) → ⊥
  not_tried_again left z = rooms_done answer.Done 9 2 4 refl
      (sym (only_done (suc (suc (suc left))) 0 (answer.NoRoom 9 2 4) answer.Done (at 1) (at 3) z
      (done_after_three left)).0)

  -- the desk is not that which the last eviction left
  not_after : (left : ℕ) → WithRoom 9 works evicts (suc (suc (suc left))) (at 0) answer.Done (at 2)
      → ⊥
  not_after left z = let e = desks 2 3
      (only_done (suc (suc (suc left))) 0 answer.Done answer.Done (at 2) (at 3) z
      (done_after_three left)).1 in
      omega (arith, e)

  -- three evictions, of which there are but two
  at_least : (left : ℕ) (a b : Holding ℕ) (r : Reply) → WithRoom 9 works evicts left a r b
      → 3 ≤ a.desk + left
  at_least left a b r (at_once x none) =
      let z = by a.desk (λ e. none (x.0 ∙ e)) in omega (arith, z)
    where
      by : (n : ℕ) → (told n ≡ answer.NoFrame → ⊥) → 3 ≤ n
      by zero off = absurd (off refl)
      by (suc zero) off = absurd (off refl)
      by (suc (suc zero)) off = absurd (off refl)
      by (suc (suc (suc n))) off = omega arith
  at_least left a b r (no_room m why loose nodes x y is) =
      absurd (refused_set _ set_five why loose nodes refl y.0)
  at_least (suc fewer) a b r (won m n id x y z) =
      let rest = at_least fewer n b r z in
      let p = ap (λ (h : Holding ℕ). h.desk) x.1 in let q = ap (λ (h : Holding ℕ). h.desk) y.1 in
      omega (arith, rest, p, q)

  not_so_many : (r : Reply) (b : Holding ℕ) → WithRoom 9 works evicts 2 (at 0) r b → ⊥
  not_so_many r b z = let e : 3 ≤ 2 = at_least 2 (at 0) b r z in omega (arith, e)

  -- the eviction was refused, and the operation is said to be done
  not_refused : (left : ℕ) → WithRoom 9 works refuses (suc (suc left)) (at 0) answer.Done (at 2) → ⊥
  not_refused left z = rooms_done answer.Done 9 2 4 refl
      (only_refused (suc (suc left)) 0 answer.Done (answer.NoRoom 9 2 4) (at 2) (at 2) z
      (refused_behind_two left)).0

  -- the eviction was refused, and there is said to be no frame
  not_no_frame : (left : ℕ) → WithRoom 9 works refuses left (at 2) answer.NoFrame (at 2) → ⊥
  not_no_frame left z = rooms_frames answer.NoFrame 9 2 4 refl
      (only_refused left 2 answer.NoFrame (answer.NoRoom 9 2 4) (at 2) (at 2) z (refused left)).0

  -- the numbers are not those of the refusal: the loose spans and the nodes stand in each other's place
  not_swapped : (left : ℕ) → WithRoom 9 works refuses left (at 2) (answer.NoRoom 9 4 2) (at 2) → ⊥
  not_swapped left z = let e : 4 ≡ 2 = ap loose_of
      (only_refused left 2 (answer.NoRoom 9 4 2) (answer.NoRoom 9 2 4) (at 2) (at 2) z
      (refused left)).0 in
      omega (arith, e)

  -- nor another count of nodes, or of frames
  not_other_nodes : (left : ℕ) → WithRoom 9 works refuses left (at 2) (answer.NoRoom 9 2 3) (at 2)
      → ⊥
  not_other_nodes left z = let e : 3 ≡ 4 = ap nodes_of
      (only_refused left 2 (answer.NoRoom 9 2 3) (answer.NoRoom 9 2 4) (at 2) (at 2) z
      (refused left)).0 in
      omega (arith, e)

  not_other_frames : (left : ℕ) → WithRoom 9 works refuses left (at 2) (answer.NoRoom 8 2 4) (at 2)
      → ⊥
  not_other_frames left z = let e : 8 ≡ 9 = ap frames_of
      (only_refused left 2 (answer.NoRoom 8 2 4) (answer.NoRoom 9 2 4) (at 2) (at 2) z
      (refused left)).0 in
      omega (arith, e)

  -- the loose spans are not those that there were where the evictions began, nor behind one more
  not_counted_before : (left : ℕ)
      → WithRoom 9 works refuses (suc (suc left)) (at 0) (answer.NoRoom 9 0 4) (at 2) → ⊥
  not_counted_before left z = let e : 0 ≡ 2 = ap loose_of
      (only_refused (suc (suc left)) 0 (answer.NoRoom 9 0 4) (answer.NoRoom 9 2 4) (at 2) (at 2) z
      (refused_behind_two left)).0 in omega (arith, e)

  not_behind_three : (left : ℕ)
      → WithRoom 9 works refuses (suc (suc left)) (at 0) (answer.NoRoom 9 2 4) (at 3) → ⊥
  not_behind_three left z = let e = desks 3 2
      (only_refused (suc (suc left)) 0 (answer.NoRoom 9 2 4) (answer.NoRoom 9 2 4) (at 3) (at 2) z
      (refused_behind_two left)).1 in omega (arith, e)

  -- ---- want of memory: of the operation leads 10 desks on, that of the eviction 20
  abbrev lacks : Holding ℕ → Holding ℕ → Type 0
  lacks a b = b ≡ at (a.desk + 10)

  abbrev also_lacks : Holding ℕ → Holding ℕ → Type 0
  also_lacks a b = b ≡ at (a.desk + 20)

  stops_first : (left : ℕ) → RoomStops works lacks evicts also_lacks left (at 0) (at 10)
  stops_first left = lacks_at_once refl

  stops_evicting : (left : ℕ) → RoomStops works lacks evicts also_lacks left (at 0) (at 20)
  stops_evicting left = evicting (at 0) (refl, refl) refl

  stops_after : (left : ℕ) → RoomStops works lacks evicts also_lacks (suc left) (at 0) (at 11)
  stops_after left = lacks_after (at 0) (at 1) set_five (refl, refl) (refl, refl)
      (lacks_at_once refl)

  -- behind two evictions, at the third one, and behind that
  stops_at_third : (left : ℕ) → RoomStops works lacks evicts also_lacks (suc (suc left)) (at 0)
      (at 22)
  stops_at_third left = lacks_after (at 0) (at 1) set_five (refl, refl) (refl, refl)
      (lacks_after (at 1) (at 2) set_five (refl, refl) (refl, refl)
      (evicting (at 2) (refl, refl) refl))

  stops_after_three : (left : ℕ) → RoomStops works lacks evicts also_lacks (suc (suc (suc left)))
      (at 0) (at 13)
  stops_after_three left = lacks_after (at 0) (at 1) set_five (refl, refl) (refl, refl)
      (lacks_after (at 1) (at 2) set_five (refl, refl) (refl, refl)
      (lacks_after (at 2) (at 3) set_five (refl, refl) (refl, refl) (lacks_at_once refl)))

  -- where there is a frame no eviction is tried, so none can lack memory
  not_evicting : (left : ℕ) → RoomStops works lacks evicts also_lacks left (at 3) (at 23) → ⊥
  not_evicting left (lacks_at_once x) = let e = desks 23 13 x in omega (arith, e)
  not_evicting left (evicting m x y) = frames_done answer.NoFrame x.0 refl
  not_evicting (suc left) (lacks_after m n id x y z) = frames_done answer.NoFrame x.0 refl

  -- where the eviction is refused the operation is not done again, so it can't lack memory then
  not_again : (left : ℕ) → RoomStops works lacks refuses also_lacks left (at 2) (at 13) → ⊥
  not_again left (lacks_at_once x) = let e = desks 13 12 x in omega (arith, e)
  not_again left (evicting m x y) =
      let e = ap (λ (h : Holding ℕ). h.desk) (y ∙ ap (λ (h : Holding ℕ). at (h.desk + 20)) x.1) in
      omega (arith, e)
  not_again (suc left) (lacks_after m n id x y z) = refused_set _ id Spans 2 4
      (sym (y.0 ∙ ap (λ (h : Holding ℕ). found h.desk) x.1)) refl

  -- behind three evictions, of which there are but two
  stops_within : (left : ℕ) (a b : Holding ℕ) → RoomStops works lacks evicts also_lacks left a b
      → (b.desk ≤ a.desk + left + 10) ⊎ (a.desk + 20 ≤ b.desk)
  stops_within left a b (lacks_at_once x) =
      let e = ap (λ (h : Holding ℕ). h.desk) x in inl (omega (arith, e))
  stops_within left a b (evicting m x y) =
      let e = ap (λ (h : Holding ℕ). h.desk) y in let f = ap (λ (h : Holding ℕ). h.desk) x.1 in
      inr (omega (arith, e, f))
  stops_within (suc fewer) a b (lacks_after m n id x y z) =
      let e = ap (λ (h : Holding ℕ). h.desk) y.1 in let f = ap (λ (h : Holding ℕ). h.desk) x.1 in
      elim (stops_within fewer n b z) [
        | inl less ↦ inl (omega (arith, e, f, less))
        | inr more ↦ inr (omega (arith, e, f, more))
      ]

  not_after_three : RoomStops works lacks evicts also_lacks 2 (at 0) (at 13) → ⊥
  not_after_three z = elim (stops_within 2 (at 0) (at 13) z) [
    | inl less ↦ let e : 13 ≤ 12 = less in omega (arith, e)
    | inr more ↦ let e : 20 ≤ 13 = more in omega (arith, e)
  ]

  -- ---- where an object is: at desk 0 it is far, at every other it is here
  abbrev placed : ℕ → Reply
  placed zero = answer.NotHere
  placed (suc n) = answer.Done

  abbrev calls : Holding ℕ → Reply → Holding ℕ → Type 0
  calls a r b = (r ≡ placed a.desk) × (b ≡ a)

  -- a look that declines the call
  abbrev past_end : Holding ℕ → Option Reply → Holding ℕ → Type 0
  past_end a refusal b = (refusal ≡ Some (answer.Range 3)) × (b ≡ a)

  -- a bringing in that leads to the next desk; and one that finds no frame
  abbrev comes : Holding ℕ → Reply → Holding ℕ → Type 0
  comes a r b = (r ≡ answer.Swapped 7) × (b ≡ at (a.desk + 1))

  abbrev stays : Holding ℕ → Reply → Holding ℕ → Type 0
  stays a r b = (r ≡ answer.NoFrame) × (b ≡ a)

  no_swap : (f : ℕ) → answer.NoFrame ≡ answer.Swapped f → ⊥
  no_swap f e = frame_swapped answer.NoFrame f e refl

  called_near : WhereItIs calls NeverDeclined comes (at 1) answer.Done (at 1)
  called_near = near (refl, refl) (here_done answer.Done refl)

  called_declined : WhereItIs calls past_end comes (at 0) (answer.Range 3) (at 0)
  called_declined = declined (at 0) (refl, refl) (refl, refl)

  called_far : WhereItIs calls NeverDeclined stays (at 0) answer.NoFrame (at 0)
  called_far = stays_far (at 0) (at 0) (refl, refl) (refl, refl) (refl, refl) no_swap

  called_in : WhereItIs calls NeverDeclined comes (at 0) answer.Done (at 1)
  called_in = brought (at 0) (at 0) (at 1) 7 (refl, refl) (refl, refl) (refl, refl) (refl, refl)

  -- a reply that is not the call's
  not_called : WhereItIs calls NeverDeclined comes (at 1) answer.Unmade (at 1) → ⊥
  not_called (near x here) = done_unmade answer.Unmade x.0 refl
  not_called (declined m x y) = here_done answer.NotHere x.0 refl
  not_called (stays_far m n x y z left) = here_done answer.NotHere x.0 refl
  not_called (brought m n o f x y z w) = here_done answer.NotHere x.0 refl

  -- a far object that is left far, with the reply that it is
  not_left : WhereItIs calls NeverDeclined comes (at 0) answer.NotHere (at 0) → ⊥
  not_left (near x here) = here refl
  not_left (declined m x y) = some_none (Some answer.NotHere) answer.NotHere refl y.0
  not_left (stays_far m n x y z left) = left 7 z.0
  not_left (brought m n o f x y z w) =
      let e = ap (λ (h : Holding ℕ). h.desk) (w.1 ∙ z.1) in omega (arith, e)

  -- a call that the look declines, with another refusal
  not_declined : WhereItIs calls past_end comes (at 0) answer.Worn (at 0) → ⊥
  not_declined (near x here) = here_worn answer.Worn refl x.0
  not_declined (declined m x y) =
      worn_range answer.Worn refl (some_same answer.Worn (answer.Range 3) y.0)
  not_declined (stays_far m n x y z left) = some_none None (answer.Range 3) y.0 refl
  not_declined (brought m n o f x y z w) = some_none None (answer.Range 3) y.0 refl

  -- a call that the look declines, and that was made though
  not_made : WhereItIs calls past_end comes (at 0) answer.Done (at 1) → ⊥
  not_made (near x here) = here_done answer.Done refl x.0
  not_made (declined m x y) = range_done answer.Done refl (some_same answer.Done (answer.Range 3) y.0)
  not_made (stays_far m n x y z left) = some_none None (answer.Range 3) y.0 refl
  not_made (brought m n o f x y z w) = some_none None (answer.Range 3) y.0 refl

  -- an object that came in, and the call was not made once more
  not_once_more : WhereItIs calls NeverDeclined comes (at 0) (answer.Swapped 7) (at 1) → ⊥
  not_once_more (near x here) = here_swapped (answer.Swapped 7) 7 refl x.0
  not_once_more (declined m x y) = some_none (Some (answer.Swapped 7)) (answer.Swapped 7) refl y.0
  not_once_more (stays_far m n x y z left) = left 7 refl
  not_once_more (brought m n o f x y z w) = done_swapped (answer.Swapped 7) 7 refl
      (w.0 ∙ ap (λ (h : Holding ℕ). placed h.desk) (z.1
      ∙ ap (λ (h : Holding ℕ). at (h.desk + 1)) (y.1 ∙ x.1)))

  -- ---- a call that is never declined
  goes_on : NeverDeclined (at 0) None (at 0)
  goes_on = (refl, refl)

  not_on : NeverDeclined (at 0) (Some answer.Worn) (at 0) → ⊥
  not_on x = some_none (Some answer.Worn) answer.Worn refl x.0

  not_still : NeverDeclined (at 0) None (at 1) → ⊥
  not_still x = let e = desks 1 0 x.1 in omega (arith, e)

  -- ---- an object is brought in
  told_here : BringsIn calls comes (at 1) answer.Done (at 1)
  told_here = not_far (refl, refl) (here_done answer.Done refl)

  came : BringsIn calls comes (at 0) (answer.Swapped 7) (at 1)
  came = was_far (at 0) (refl, refl) (refl, refl)

  not_so_told : BringsIn calls comes (at 1) answer.Unmade (at 1) → ⊥
  not_so_told (not_far x here) = done_unmade answer.Unmade x.0 refl
  not_so_told (was_far m x y) = here_done answer.NotHere x.0 refl

  -- a far object is not brought in
  not_brought : BringsIn calls comes (at 0) answer.NotHere (at 0) → ⊥
  not_brought (not_far x here) = here refl
  not_brought (was_far m x y) = here_swapped answer.NotHere 7 y.0 refl

  -- an object that is here is brought in
  not_here : BringsIn calls comes (at 1) (answer.Swapped 7) (at 2) → ⊥
  not_here (not_far x here) = done_swapped (answer.Swapped 7) 7 refl x.0
  not_here (was_far m x y) = here_done answer.NotHere x.0 refl

  -- ---- want of memory of a call: of the call 10 desks on, of the bringing in 20
  stops_near : CallStops calls lacks NeverDeclined comes also_lacks (at 1) (at 11)
  stops_near = lacks_near refl

  stops_far : CallStops calls lacks NeverDeclined comes also_lacks (at 0) (at 20)
  stops_far = lacks_far (at 0) (at 0) (refl, refl) (refl, refl) refl

  stops_once_in : CallStops calls lacks NeverDeclined comes also_lacks (at 0) (at 11)
  stops_once_in = lacks_once_in (at 0) (at 0) (at 1) 7 (refl, refl) (refl, refl) (refl, refl) refl

  -- an object that is here is not brought in, so no bringing in lacks memory
  not_far_lacks : CallStops calls lacks NeverDeclined comes also_lacks (at 1) (at 21) → ⊥
  not_far_lacks (lacks_near x) = let e = desks 21 11 x in omega (arith, e)
  not_far_lacks (lacks_far m n x y z) = here_done answer.NotHere x.0 refl
  not_far_lacks (lacks_once_in m n o f x y z w) = here_done answer.NotHere x.0 refl

  -- a call that is declined brings nothing in
  not_declined_lacks : CallStops calls lacks past_end comes also_lacks (at 0) (at 20) → ⊥
  not_declined_lacks (lacks_near x) = let e = desks 20 10 x in omega (arith, e)
  not_declined_lacks (lacks_far m n x y z) = some_none None (answer.Range 3) y.0 refl
  not_declined_lacks (lacks_once_in m n o f x y z w) = some_none None (answer.Range 3) y.0 refl

  -- an object that stays far is not called once more
  not_in_lacks : CallStops calls lacks NeverDeclined stays also_lacks (at 0) (at 11) → ⊥
  not_in_lacks (lacks_near x) = let e = desks 11 10 x in omega (arith, e)
  not_in_lacks (lacks_far m n x y z) =
      let e = ap (λ (h : Holding ℕ). h.desk)
      (z ∙ ap (λ (h : Holding ℕ). at (h.desk + 20)) (y.1 ∙ x.1)) in omega (arith, e)
  not_in_lacks (lacks_once_in m n o f x y z w) = frame_swapped (answer.Swapped f) f refl z.0

  not_lacking : NeverLacks (at 0) (at 0) → ⊥
  not_lacking x = x

-- ---- why a write to a far object of four bytes is declined
whole_write : far_refusal 4 1 0 4 ≡ None
whole_write = refl

past_its_end : far_refusal 4 1 1 4 ≡ Some (answer.Range 4)
past_its_end = refl

last_version : far_refusal 4 (2 ^ 64 - 1) 0 4 ≡ Some answer.Worn
last_version = refl

-- the end comes first
both_reasons : far_refusal 4 (2 ^ 64 - 1) 1 4 ≡ Some (answer.Range 4)
both_reasons = refl

-- where the set is broken nothing is declined
broken_first : write_refusal true 4 (2 ^ 64 - 1) 1 4 ≡ None
broken_first = refl

then_as_far : write_refusal false 4 1 1 4 ≡ Some (answer.Range 4)
then_as_far = refl

may_write : write_refusal false 4 1 0 4 ≡ None
may_write = refl
