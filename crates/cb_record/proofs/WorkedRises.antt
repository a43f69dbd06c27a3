-- Worked lanes, and what is upheld: what meets each definition, and what breaks one part alone.
use Rattle.std.proofs.Common.{◌≡◌, ◌≢◌, ℕ, true, false, [], ◌∷◌, Some, None, sym, refl, ap, ◌∙◌, inl, inr, ⊎_elim, true≢false, arith}
use Rattle.cb_world.specs.declared.entry.Entry.{Entry}
use Rattle.cb_world.specs.Written.{entry, gone}
use Rattle.cb_rule.specs.declared.view.Seen.{Seen}
use Rattle.cb_rule.specs.declared.view.View.{View}
use Rattle.cb_rule.specs.Lists.{Has}
use Rattle.cb_model.specs.Called.{Called}
use Rattle.cb_model.specs.Event.Subject.{Contents}
use Rattle.cb_model.specs.Event.Event.{Makes, Shows, Pins, Writes, FindsFull, FindsUnmade, FindsFreed, FindsEnd, Refused, Wrong}
use Rattle.cb_record.specs.Rises.{RiseTogether, HasAllOf, HasVersion, MayPrecede, IsBehind, IsKnownTo, RisesAlone, IsOnRecord, LaneCalls, MayFollowVersion, RisesFrom}
use Rattle.cb_record.specs.Upheld.{IsLong, IsSeenLong, IsUpheld, OneLength}

abbrev seen_two : Seen
seen_two = record { handle = 3; version = 2; len = 4; freed = false; words = 5 ∷ [] }

-- a call of lane 1 on object 3
abbrev pins_at : ℕ → Called
pins_at version = record { lane = 1; handle = Some 3; event = Pins version }

-- ---- behind version 2, which was read
behind_two : MayFollowVersion 2 false (Pins 2)
behind_two = omega arith

below_two : MayFollowVersion 2 false (Pins 1) → ⊥
below_two le = omega (arith, le)

written_two : MayFollowVersion 2 false (Writes 0 [] 2) → ⊥
written_two lt = omega (arith, lt)

-- behind the freed one no version is answered
behind_freed : MayFollowVersion 2 true FindsFreed
behind_freed = refl

version_behind_freed : MayFollowVersion 2 true (Pins 3) → ⊥
version_behind_freed none = let e = none in absurd cc

module _ (v : View) where
  abbrev reader : View
  reader = record v { written = []; seen = seen_two ∷ [] }

  has_two : HasVersion reader 3 2 false
  has_two = inr (seen_two, inl refl, refl, refl, refl)

  has_three : HasVersion reader 3 3 false → ⊥
  has_three h = ⊎_elim
      (λ (w : (e : Entry) × Has e [] × (e.handle ≡ 3) × (e.version ≡ 3) × (e.freed ≡ false)). w.1)
      (λ (s : (x : Seen) × Has x (seen_two ∷ []) × (x.handle ≡ 3) × (x.version ≡ 3) × (x.freed ≡ false)).
      ⊎_elim (λ (e : seen_two ≡ s.0).
      let n = ap (λ (x : Seen). x.version) e in let m = s.3 in omega (arith, n, m))
      (λ (none : ⊥). none) s.1) h

  pinned_behind : IsBehind reader (pins_at 2)
  pinned_behind h version freed on has = ⊎_elim
      (λ (w : (e : Entry) × Has e [] × (e.handle ≡ h) × (e.version ≡ version) × (e.freed ≡ freed)).
      absurd w.1)
      (λ (s : (x : Seen) × Has x (seen_two ∷ []) × (x.handle ≡ h) × (x.version ≡ version) × (x.freed ≡ freed)).
      ⊎_elim (λ (e : seen_two ≡ s.0).
      let n : 2 ≡ version = ap (λ (x : Seen). x.version) e ∙ s.3 in
      let f : false ≡ freed = ap (λ (x : Seen). x.freed) e ∙ s.4 in
      rw (← n, ← f) (omega arith)) (λ (none : ⊥). absurd none) s.1) has

  pinned_below : IsBehind reader (pins_at 1) → ⊥
  pinned_below b = let le = b 3 2 false refl has_two in omega (arith, le)

  rises : RisesFrom reader (pins_at 2 ∷ [])
  rises = record { behind = (pinned_behind, tt); rising = (tt, tt) }

  -- each is behind the record, and the second below the first
  falls : RisesFrom (record v { written = []; seen = [] }) (pins_at 3 ∷ pins_at 2 ∷ []) → ⊥
  falls r = let le = r.rising.0.0 3 (inl refl) refl refl 3 refl in omega (arith, le)

  falls_behind : RisesFrom reader (pins_at 1 ∷ []) → ⊥
  falls_behind r = pinned_below r.behind.0

  -- ---- what was told stands in the record
  known_two : IsKnownTo reader 3 (Pins 2)
  known_two n is = let e : 2 ≡ n = cc in rw (← e) (false, has_two)

  unknown_three : IsKnownTo reader 3 (Pins 3) → ⊥
  unknown_three k = let z = k 3 refl in ⊎_elim
      (λ (w : (e : Entry) × Has e [] × (e.handle ≡ 3) × (e.version ≡ 3) × (e.freed ≡ z.0)). w.1)
      (λ (s : (x : Seen) × Has x (seen_two ∷ []) × (x.handle ≡ 3) × (x.version ≡ 3) × (x.freed ≡ z.0)).
      ⊎_elim (λ (e : seen_two ≡ s.0).
      let n = ap (λ (x : Seen). x.version) e in let m = s.3 in omega (arith, n, m))
      (λ (none : ⊥). none) s.1) z.1

  -- ---- lanes
  abbrev lane_one : LaneCalls
  lane_one = record { number = 1; start = reader; calls = pins_at 2 ∷ [] }

  is_lane : RisesAlone lane_one
  is_lane = record { own = (refl, tt); rises = rises }

  of_another_lane : RisesAlone (record lane_one { number = 2 }) → ⊥
  of_another_lane l = let e = l.own.0 in omega (arith, e)

  are_lanes : RiseTogether reader (lane_one ∷ [])
  are_lanes = (is_lane, (λ e. omega (arith, e)), (λ h version freed has. has), tt, tt)

  one_number_twice : RiseTogether reader (lane_one ∷ lane_one ∷ []) → ⊥
  one_number_twice l = l.3.0 refl

  with_lane_zero : RiseTogether reader (record lane_one { number = 0 } ∷ []) → ⊥
  with_lane_zero l = l.1 refl

  -- a lane that started from a record without what lane 0 read
  without_it : HasAllOf reader (record v { written = []; seen = [] }) → ⊥
  without_it all = ⊎_elim
      (λ (w : (e : Entry) × Has e [] × (e.handle ≡ 3) × (e.version ≡ 2) × (e.freed ≡ false)). w.1)
      (λ (s : (x : Seen) × Has x [] × (x.handle ≡ 3) × (x.version ≡ 2) × (x.freed ≡ false)). s.1)
      (all 3 2 false has_two)

  -- a call of lane 2 may come before one of lane 1; one of lane 0 has to be on its record
  lane_two_before : MayPrecede lane_one (record { lane = 2; handle = Some 3; event = Pins 7 })
  lane_two_before = inl ((λ e. omega (arith, e)), (λ e. omega (arith, e)))

  lane_zero_before : MayPrecede lane_one (record { lane = 0; handle = Some 3; event = Pins 3 }) → ⊥
  lane_zero_before b = ⊎_elim
      (λ (o : (0 ≢ 1) × (0 ≢ 0)). o.1 refl)
      (λ (on : IsOnRecord reader (record { lane = 0; handle = Some 3; event = Pins 3 })).
      unknown_three (on 3 refl)) b

  -- ---- what is upheld beside a record of one object of four bytes, whose first version is 1
  abbrev writer : View
  writer = record v { written = entry 3 1 4 [] (5 ∷ []) ∷ []; seen = seen_two ∷ [] }

  four_long : IsLong writer.written 3 4
  four_long = (entry 3 1 4 [] (5 ∷ []), inl refl, refl, refl, refl)

  five_long : IsLong writer.written 3 5 → ⊥
  five_long l = ⊎_elim (λ (e : entry 3 1 4 [] (5 ∷ []) ≡ l.0).
      let n = ap (λ (x : Entry). x.len) e in let m = l.4 in omega (arith, n, m))
      (λ (none : ⊥). none) l.1

  makes : IsUpheld 1 8 [] writer (Some 3) (Makes [] 1)
  makes = (omega arith, refl)

  makes_past_all : IsUpheld 1 3 [] writer (Some 3) (Makes [] 1) → ⊥
  makes_past_all u = let lt = u.0 in omega (arith, lt)

  makes_later : IsUpheld 1 8 [] writer (Some 3) (Makes [] 2) → ⊥
  makes_later u = let e = u.1 in omega (arith, e)

  shows : IsUpheld 1 8 [] writer (Some 3) (Shows 2 (1 ∷ 2 ∷ 3 ∷ 4 ∷ []))
  shows = inl (refl, refl, refl, refl)

  shows_too_few : IsUpheld 1 8 [] writer (Some 3) (Shows 2 (1 ∷ 2 ∷ 3 ∷ [])) → ⊥
  shows_too_few u = ⊎_elim (λ (s : IsSeenLong 3 2 3 seen_two). let e = s.3 in omega (arith, e))
      (λ (none : ⊥). none) u

  finds_end : IsUpheld 1 8 [] writer (Some 3) (FindsEnd 4 (7 ∷ []) 4)
  finds_end = (four_long, omega arith)

  finds_end_within : IsUpheld 1 8 [] writer (Some 3) (FindsEnd 3 (7 ∷ []) 4) → ⊥
  finds_end_within u = let lt = u.1 in omega (arith, lt)

  finds_another_end : IsUpheld 1 8 [] writer (Some 3) (FindsEnd 6 [] 5) → ⊥
  finds_another_end u = five_long u.0

  full : IsUpheld 1 0 [] writer None (FindsFull 0)
  full = (refl, refl)

  full_too_soon : IsUpheld 1 2 [] writer None (FindsFull 2) → ⊥
  full_too_soon u = let e = u.0 in omega (arith, e)

  full_of_another : IsUpheld 1 0 [] writer None (FindsFull 2) → ⊥
  full_of_another u = let e = u.1 in omega (arith, e)

  unmade : IsUpheld 1 8 [] writer None FindsUnmade
  unmade = tt

  unmade_yet_made : IsUpheld 1 8 [] writer (Some 3) FindsUnmade → ⊥
  unmade_yet_made u = u

  read_unmade : IsUpheld 1 8 [] writer None (Shows 1 []) → ⊥
  read_unmade u = u

  wrong : IsUpheld 1 8 [] writer (Some 3) Wrong → ⊥
  wrong u = u

  refused : IsUpheld 1 8 [] writer (Some 3) (Refused Contents)
  refused = tt

-- ---- one length
one_long : OneLength (entry 3 1 4 [] (5 ∷ []) ∷ [])
one_long e x he hx on ke kx = ⊎_elim
    (λ (p : entry 3 1 4 [] (5 ∷ []) ≡ e). ⊎_elim
    (λ (q : entry 3 1 4 [] (5 ∷ []) ≡ x). ap (λ (y : Entry). y.len) (sym p ∙ q))
    (λ (none : ⊥). absurd none) hx) (λ (none : ⊥). absurd none) he

two_long : OneLength (entry 3 2 5 (5 ∷ []) (6 ∷ []) ∷ entry 3 1 4 [] (5 ∷ []) ∷ []) → ⊥
two_long l = let e : 5 ≡ 4 =
    l (entry 3 2 5 (5 ∷ []) (6 ∷ [])) (entry 3 1 4 [] (5 ∷ [])) (inl refl) (inr (inl refl)) refl refl refl in
    omega (arith, e)

-- but the freed version has none
freed_none : (e x : Entry) → e ≡ gone 3 2 (5 ∷ []) → e.freed ≡ false → ⊥
freed_none e x is kept = true≢false (sym (ap (λ (y : Entry). y.freed) is) ∙ kept)
