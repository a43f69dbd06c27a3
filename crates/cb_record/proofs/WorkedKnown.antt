-- Worked examples of what records know of versions and of lengths, and of lanes in a row: what meets
-- each definition, and what breaks one part alone.
use Rattle.std.proofs.Common.{◌≡◌, ℕ, Bool, true, false, [], ◌∷◌, Some, None, sym, refl, ap, ◌∙◌, inl, inr, ⊎_elim, true≢false, arith}
use Rattle.cb_world.specs.declared.entry.Entry.{Entry}
use Rattle.cb_world.specs.Written.{entry, gone}
use Rattle.cb_rule.specs.declared.view.Seen.{Seen}
use Rattle.cb_rule.specs.declared.view.View.{View}
use Rattle.cb_model.specs.Called.{Called}
use Rattle.cb_model.specs.Event.Event.{Makes, Shows, Pins, Writes, Frees, FindsFreed, Refused, Wrong}
use Rattle.cb_model.specs.Event.Subject.{Contents, NewObject, Nothing}
use Rattle.cb_record.specs.Rises.{RiseTogether, HasVersion, IsKnownTo, IsOnRecord, LaneCalls, MayPrecede, RisesAlone}
use Rattle.cb_record.specs.Upheld.{IsLong, IsSeenLong, IsUpheld, OneLength, Upholds}

module _ (v : View) where
  -- ---- a record that wrote object 3 at version 1, and read it at version 2
  abbrev made : Entry
  made = entry 3 1 4 [] (5 ∷ [])

  abbrev read : Seen
  read = record { handle = 3; version = 2; len = 4; freed = false; words = 6 ∷ [] }

  abbrev knower : View
  knower = record v { written = made ∷ []; seen = read ∷ [] }

  has_what_it_wrote : HasVersion knower 3 1 false
  has_what_it_wrote = inl (made, inl refl, refl, refl, refl)

  has_what_it_read : HasVersion knower 3 2 false
  has_what_it_read = inr (read, inl refl, refl, refl, refl)

  -- what it has is of object 3, is version 1 or 2, and is not freed
  has_only : (h version : ℕ) (freed : Bool) → HasVersion knower h version freed
      → (3 ≡ h) × (false ≡ freed)
  has_only h version freed (inl (e, inl is, on, at, so)) =
      (ap (λ (x : Entry). x.handle) is ∙ on, ap (λ (x : Entry). x.freed) is ∙ so)
  has_only h version freed (inl (e, inr off, on, at, so)) = absurd off
  has_only h version freed (inr (s, inl is, on, at, so)) =
      (ap (λ (x : Seen). x.handle) is ∙ on, ap (λ (x : Seen). x.freed) is ∙ so)
  has_only h version freed (inr (s, inr off, on, at, so)) = absurd off

  has_of_another : HasVersion knower 4 1 false → ⊥
  has_of_another has = let e = (has_only 4 1 false has).0 in omega (arith, e)

  has_as_freed : HasVersion knower 3 1 true → ⊥
  has_as_freed has = true≢false (sym (has_only 3 1 true has).1)

  -- ---- what was told of an object
  knows_freed : IsKnownTo record v { written = gone 3 2 (5 ∷ []) ∷ []; seen = [] } 3 FindsFreed
  knows_freed = (2, inl (gone 3 2 (5 ∷ []), inl refl, refl, refl, refl))

  knows_no_freed : IsKnownTo knower 3 FindsFreed → ⊥
  knows_no_freed k = true≢false (sym (has_only 3 k.0 true k.1).1)

  abbrev call : ℕ → Called
  call lane = record { lane = lane; handle = Some 3; event = FindsFreed }

  not_on_record : IsOnRecord knower (call 1) → ⊥
  not_on_record on = knows_no_freed (on 3 refl)

  about_none : IsOnRecord knower record (call 1) { handle = None }
  about_none h e = absurd (cc)

  -- ---- lane 1, which starts from this record and has no calls yet
  abbrev lane : ℕ → LaneCalls
  lane n = record { number = n; start = knower; calls = [] }

  starts : (n : ℕ) → RisesAlone (lane n)
  starts n = record { own = tt; rises = record { behind = tt; rising = tt } }

  abbrev falls : LaneCalls
  falls = record {
    number = 1;
    start = knower;
    calls = record { lane = 1; handle = Some 3; event = Pins 1 } ∷ [];
  }

  falls_below_its_start : RisesAlone falls → ⊥
  falls_below_its_start r = let low = r.rises.behind.0 3 2 false refl has_what_it_read in
      omega (arith, low)

  two_lanes : RiseTogether knower (lane 1 ∷ lane 2 ∷ [])
  two_lanes = (
    starts 1,
    (λ e. omega (arith, e)),
    (λ h version freed has. has),
    ((λ e. omega (arith, e)), tt),
    (starts 2, (λ e. omega (arith, e)), (λ h version freed has. has), tt, tt),
  )

  -- the first or the second falls, starts from less, or is lane 0
  with_one_that_falls : RiseTogether knower (falls ∷ []) → ⊥
  with_one_that_falls r = falls_below_its_start r.0

  with_a_second_that_falls : RiseTogether knower (lane 2 ∷ falls ∷ []) → ⊥
  with_a_second_that_falls r = falls_below_its_start r.4.0

  with_one_that_starts_from_less : RiseTogether knower
      (record (lane 1) { start = record v { written = made ∷ []; seen = [] } } ∷ []) → ⊥
  with_one_that_starts_from_less r = only_one (r.2 3 2 false has_what_it_read)
    where
      only_one : HasVersion record v { written = made ∷ []; seen = [] } 3 2 false → ⊥
      only_one (inl (e, inl is, on, at, so)) = let n : 1 ≡ 2 =
          ap (λ (x : Entry). x.version) is ∙ at in omega (arith, n)
      only_one (inl (e, inr off, on, at, so)) = off
      only_one (inr (s, off, on, at, so)) = off

  -- a call of the lane itself comes before none of it that is not on its record
  its_own_before : MayPrecede (lane 1) (call 1) → ⊥
  its_own_before m = ⊎_elim (λ o. o.0 refl) not_on_record m

  lane_zero_on_record : MayPrecede (lane 1)
      record (call 0) { event = Pins 2 }
  lane_zero_on_record = inr (λ h on version is. (false, known h version on is))
    where
      known : (h version : ℕ) → Some 3 ≡ Some h → Some 2 ≡ Some version
          → HasVersion knower h version false
      known h version on is = let a : 3 ≡ h = cc in let b : 2 ≡ version = cc in
          rw (← a, ← b) has_what_it_read

  -- ---- lengths
  long_of_another : IsLong (made ∷ []) 4 4 → ⊥
  long_of_another (e, inl is, on, kept, len) = let n : 3 ≡ 4 =
      ap (λ (x : Entry). x.handle) is ∙ on in omega (arith, n)
  long_of_another (e, inr off, on, kept, len) = off

  long_and_freed : IsLong (gone 3 2 [] ∷ []) 3 0 → ⊥
  long_and_freed (e, inl is, on, kept, len) =
      true≢false (ap (λ (x : Entry). x.freed) is ∙ kept)
  long_and_freed (e, inr off, on, kept, len) = off

  seen_long : IsSeenLong 3 2 4 read
  seen_long = (refl, refl, refl, refl)

  seen_of_another : IsSeenLong 4 2 4 read → ⊥
  seen_of_another s = let e = s.0 in omega (arith, e)

  seen_at_another : IsSeenLong 3 1 4 read → ⊥
  seen_at_another s = let e = s.1 in omega (arith, e)

  seen_freed : IsSeenLong 3 2 4 record read { freed = true } → ⊥
  seen_freed s = true≢false s.2

  -- the freed version is of another length; so is another object
  freed_besides : OneLength (gone 3 2 (5 ∷ []) ∷ made ∷ [])
  freed_besides e x (inl is) hx on ke kx =
      absurd (true≢false (ap (λ (y : Entry). y.freed) is ∙ ke))
  freed_besides e x (inr he) (inl is) on ke kx =
      absurd (true≢false (ap (λ (y : Entry). y.freed) is ∙ kx))
  freed_besides e x (inr (inl p)) (inr (inl q)) on ke kx =
      ap (λ (y : Entry). y.len) (sym p ∙ q)
  freed_besides e x (inr (inl p)) (inr (inr off)) on ke kx = absurd off
  freed_besides e x (inr (inr off)) (inr hx) on ke kx = absurd off

  another_besides : OneLength (entry 4 1 5 [] [] ∷ made ∷ [])
  another_besides e x (inl p) (inl q) on ke kx = ap (λ (y : Entry). y.len) (sym p ∙ q)
  another_besides e x (inl p) (inr (inl q)) on ke kx = absurd (let n : 4 ≡ 3 =
      ap (λ (y : Entry). y.handle) p ∙ on ∙ ap (λ (y : Entry). y.handle) (sym q) in
      omega (arith, n))
  another_besides e x (inl p) (inr (inr off)) on ke kx = absurd off
  another_besides e x (inr (inl p)) (inl q) on ke kx = absurd (let n : 3 ≡ 4 =
      ap (λ (y : Entry). y.handle) p ∙ on ∙ ap (λ (y : Entry). y.handle) (sym q) in
      omega (arith, n))
  another_besides e x (inr (inl p)) (inr (inl q)) on ke kx = ap (λ (y : Entry). y.len) (sym p ∙ q)
  another_besides e x (inr (inl p)) (inr (inr off)) on ke kx = absurd off
  another_besides e x (inr (inr off)) hx on ke kx = absurd off

  -- ---- what is upheld of an object, and of none
  upheld_of_one : IsUpheld 1 8 [] knower (Some 3) (Pins 9)
      × IsUpheld 1 8 [] knower (Some 3) (Writes 0 [] 9) × IsUpheld 1 8 [] knower (Some 3) (Frees 9)
      × IsUpheld 1 8 [] knower (Some 3) FindsFreed
      × IsUpheld 1 8 [] knower (Some 3) (Refused NewObject)
      × IsUpheld 1 8 [] knower (Some 3) (Refused Nothing)
  upheld_of_one = (tt, tt, tt, tt, tt, tt)

  upheld_of_none : IsUpheld 1 8 [] knower None (Refused NewObject)
      × IsUpheld 1 8 [] knower None (Refused Nothing)
  upheld_of_none = (tt, tt)

  makes_of_none : IsUpheld 1 8 [] knower None (Makes [] 1) → ⊥
  makes_of_none u = u

  pins_of_none : IsUpheld 1 8 [] knower None (Pins 1) → ⊥
  pins_of_none u = u

  refuses_of_none : IsUpheld 1 8 [] knower None (Refused Contents) → ⊥
  refuses_of_none u = u

  wrong_of_none : IsUpheld 1 8 [] knower None Wrong → ⊥
  wrong_of_none u = u

  -- the last handle is made, and none behind it
  makes_the_last : IsUpheld 1 4 [] knower (Some 3) (Makes [] 1)
  makes_the_last = (omega arith, refl)

  calls_uphold : Upholds 1 8 [] knower record (call 1) { event = Shows 2 (1 ∷ 2 ∷ 3 ∷ 4 ∷ []) }
  calls_uphold = inl seen_long

  calls_uphold_no_longer : Upholds 1 8 [] knower
      record (call 1) { event = Shows 2 (1 ∷ 2 ∷ 3 ∷ 4 ∷ 5 ∷ []) } → ⊥
  calls_uphold_no_longer u = ⊎_elim
      (λ (s : IsSeenLong 3 2 5 read). let e = s.3 in omega (arith, e)) (λ (n : ⊥). n) u

  calls_uphold_no_other : Upholds 1 8 [] knower
      record (call 1) { handle = None; event = Shows 2 (1 ∷ 2 ∷ 3 ∷ 4 ∷ []) } → ⊥
  calls_uphold_no_other u = u
