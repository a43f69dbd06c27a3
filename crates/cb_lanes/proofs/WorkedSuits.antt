-- Worked answers that suit the handle of their name and what was read, and what breaks that.
use Rattle.std.proofs.Common.{◌≡◌, false, [], ◌∷◌, None, Some, inl, refl, ⊎_elim, arith}
use Rattle.std.specs.Prelude.{codes}
use Rattle.cb_types.specs.declared.reply.Reply.TheVariants.{Bytes, Freed, Full, NotPinned, Unmade}
use Rattle.cb_types.specs.declared.request.Request.TheVariants.{Evict, Make, Peek, Read}
use Rattle.cb_rule.specs.declared.view.Seen.{Seen}
use Rattle.cb_record.specs.Upheld.{IsSeenLong}
use Rattle.cb_lanes.specs.Suits.{AreSuited, IsSuited}

-- version 2 of object 3 was read, of two bytes
abbrev seen_two : Seen
seen_two = record { handle = 3; version = 2; len = 2; freed = false; words = 5 ∷ [] }

-- a name without a handle is told so
unmade : IsSuited [] (record { handle = None; request = Read (codes "a"); reply = Unmade })
unmade = tt

-- and nothing else
freed_without_a_handle : IsSuited []
    (record { handle = None; request = Read (codes "a"); reply = Freed }) → ⊥
freed_without_a_handle x = x

-- a name with one is never told so
unmade_with_a_handle : IsSuited (seen_two ∷ [])
    (record { handle = Some 3; request = Read (codes "a"); reply = Unmade }) → ⊥
unmade_with_a_handle x = x

freed : IsSuited [] (record { handle = Some 3; request = Read (codes "a"); reply = Freed })
freed = tt

-- bytes are shown that are as long as those that were read
shown : IsSuited (seen_two ∷ [])
    (record { handle = Some 3; request = Peek (codes "a"); reply = Bytes 2 (5 ∷ 0 ∷ []) })
shown = inl (refl, refl, refl, refl)

shown_too_long : IsSuited (seen_two ∷ [])
    (record { handle = Some 3; request = Peek (codes "a"); reply = Bytes 2 (5 ∷ 0 ∷ 0 ∷ []) }) → ⊥
shown_too_long x = ⊎_elim
    (λ (s : IsSeenLong 3 2 3 seen_two). let e : 2 ≡ 3 = s.3 in omega (arith, e))
    (λ (none : ⊥). none) x

-- so is the version
shown_another_version : IsSuited (seen_two ∷ [])
    (record { handle = Some 3; request = Peek (codes "a"); reply = Bytes 1 (5 ∷ 0 ∷ []) }) → ⊥
shown_another_version x =
    ⊎_elim (λ (s : IsSeenLong 3 1 2 seen_two). let e : 2 ≡ 1 = s.1 in omega (arith, e))
    (λ (none : ⊥). none) x

-- no line has a reply that it may not have
a_wrong_reply : IsSuited [] (record { handle = None; request = Evict; reply = Freed }) → ⊥
a_wrong_reply x = x

-- all of them
full_and_not_pinned : AreSuited []
    (record { handle = None; request = Make (codes "a") (1 ∷ []); reply = Full 4 }
    ∷ record { handle = Some 3; request = Peek (codes "b"); reply = NotPinned } ∷ [])
full_and_not_pinned = (tt, (tt, tt))
