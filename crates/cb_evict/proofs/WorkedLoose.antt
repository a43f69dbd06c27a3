-- Worked examples of spans that may leave and of loose ones: values that meet a definition, and for
-- each of its parts one that breaks that part alone.
use Rattle.std.proofs.Common.{◌≡◌, ℕ, zero, suc, ◌<◌, List, [], ◌∷◌, Option, None, Some, refl, sym, subst, lit<, arith, inl, inr}
use Rattle.cb_ptr.specs.declared.word.State.TheVariants.{Here, Moving}
use Rattle.cb_span.specs.declared.temp.Temp.{Temp}
use Rattle.cb_span.specs.declared.temp.Temp.TheVariants.{Hot, Cold}
use Rattle.cb_span.specs.Contents.{Contents, span_of}
use Rattle.cb_world.specs.declared.access.Access.{Access}
use Rattle.cb_world.specs.declared.access.Access.TheVariants.{Looked, Loaded, Stored, Settled}
use Rattle.cb_world.specs.Looks.{IsFound}
use Rattle.cb_world.specs.Grasped.{IsFree}
use Rattle.cb_evict.specs.Candidates.{candidates_of, SpanNames, IsLoose, IsHeldUp, AreLoose, AreUnique}
use Rattle.cb_evict.specs.Events.{TouchesOnly, OnlyLooks}
use Rattle.cb_evict.proofs.Options.{none_some}

-- slots of 1,024 bytes, of which the second has an object
abbrev span_with : Temp → ℕ → Option Contents
span_with temp h = Some (span_of (record { index = 11 }) temp (None ∷ Some h ∷ None ∷ None ∷ []))

-- a hot span, two cold ones, and between them a free frame
abbrev spans : List (Option Contents)
spans = span_with Hot 0 ∷ span_with Cold 1 ∷ None ∷ span_with Cold 2 ∷ []

-- ---- which spans may leave
-- the cold ones come first, and then the hot one; a free frame is none of them
cold_first : candidates_of spans [] ≡ 1 ∷ 3 ∷ 0 ∷ []
cold_first = refl

-- a span of the batch that is leaving is none of them
but_leaving : candidates_of spans (3 ∷ []) ≡ 1 ∷ 0 ∷ []
but_leaving = refl

-- ---- which of them are loose
-- the words of an object that is here, without a pin and with one
free_word : IsFree 2
free_word = (refl, refl)

pinned_word : IsFree 14 → ⊥
pinned_word e = let p = e.1 in absurd (omega (arith, p))

-- a word that moves can't be claimed either
moving_word : IsFree 3 → ⊥
moving_word e = let e : Moving ≡ Here = e.0 in cc

abbrev looks : List Access
looks = Looked 1 2 ∷ Looked 0 14 ∷ []

-- the only object that a span names
one_is : (h : ℕ) → Some 1 ≡ Some h → h ≡ 1
one_is h e = cc

only_one : (h : ℕ) → SpanNames spans 1 h → h ≡ 1
only_one h (zero, e) = absurd (none_some h e)
only_one h (suc zero, e) = one_is h e
only_one h (suc (suc zero), e) = absurd (none_some h e)
only_one h (suc (suc (suc zero)), e) = absurd (none_some h e)
only_one h (suc (suc (suc (suc n))), e) = absurd (none_some h e)

found_free : IsFound 1 2 looks
found_free =
    inr ((refl, refl), ((λ w e. let k : 0 ≡ 1 = e.0 in absurd (omega (arith, k))), tt))

-- the last look at it found this word
word_is : (w : ℕ) → IsFound 1 w looks → 2 ≡ w
word_is w (inl (inl f)) = absurd f
word_is w (inl (inr f)) = let k = f.0.0 in absurd (omega (arith, k))
word_is w (inr f) = f.0.1

not_held : IsHeldUp looks spans 1 → ⊥
not_held a = let b = a.barred in b.4 (subst IsFree
    (word_is b.1 (subst (λ (k : ℕ). IsFound k b.1 looks) (only_one b.0 b.2) b.3)) free_word)

is_loose : IsLoose looks spans 1
is_loose h named = (2, subst (λ (k : ℕ). IsFound k 2 looks) (sym (only_one h named)) found_free, free_word)

zero_is : (h : ℕ) → Some 0 ≡ Some h → h ≡ 0
zero_is h e = cc

only_zero : (h : ℕ) → SpanNames spans 0 h → h ≡ 0
only_zero h (zero, e) = absurd (none_some h e)
only_zero h (suc zero, e) = zero_is h e
only_zero h (suc (suc zero), e) = absurd (none_some h e)
only_zero h (suc (suc (suc zero)), e) = absurd (none_some h e)
only_zero h (suc (suc (suc (suc n))), e) = absurd (none_some h e)

found_pinned : IsFound 0 14 looks
found_pinned = inl (inr ((refl, refl), tt))

is_held_up : IsHeldUp looks spans 0
is_held_up = record {
  seen = λ h named. (14, subst (λ (k : ℕ). IsFound k 14 looks) (sym (only_zero h named)) found_pinned);
  barred = (0, 14, (1, refl), found_pinned, pinned_word);
}

-- a span that is left at its first object that can't be claimed is not held up: each is looked at
abbrev two_objects : List (Option Contents)
two_objects = Some (span_of (record { index = 11 }) Cold (Some 0 ∷ Some 1 ∷ None ∷ None ∷ [])) ∷ []

not_left_at_the_first : IsHeldUp (Looked 0 14 ∷ []) two_objects 0 → ⊥
not_left_at_the_first a = let x = a.seen 1 (1, refl) in unseen x.0 x.1
  where
    unseen : (w : ℕ) → IsFound 1 w (Looked 0 14 ∷ []) → ⊥
    unseen w (inl f) = f
    unseen w (inr f) = let k : 0 ≡ 1 = f.0.0 in absurd (omega (arith, k))

are_loose : AreLoose looks spans (1 ∷ 0 ∷ []) (1 ∷ [])
are_loose = inr (is_loose, refl, (is_held_up, tt))

-- a span at which no one looked is not loose
not_unseen : IsLoose [] spans 1 → ⊥
not_unseen a = (a 1 (1, refl)).1

-- the last look counts: the object was pinned in the meantime
not_pinned_since : IsLoose (Looked 1 2 ∷ Looked 1 14 ∷ []) spans 1 → ⊥
not_pinned_since a = let x = a 1 (1, refl) in go x.0 x.1 x.2
  where
    go : (w : ℕ) → IsFound 1 w (Looked 1 2 ∷ Looked 1 14 ∷ []) → IsFree w → ⊥
    go w (inl (inl f)) free = f
    go w (inl (inr f)) free = pinned_word (subst IsFree (sym f.0.1) free)
    go w (inr f) free = f.1.0 14 (refl, refl)

-- a span with a pinned object is none of the loose ones
not_held_up : AreLoose looks spans (1 ∷ 0 ∷ []) (1 ∷ 0 ∷ []) → ⊥
not_held_up (inl a) = not_held a.0
not_held_up (inr (a, e, inl b)) = b.1
not_held_up (inr (a, e, inr b)) = let x = b.0 0 (1, refl) in pinned x.0 x.1 x.2
  where
    pinned : (w : ℕ) → IsFound 0 w looks → IsFree w → ⊥
    pinned w (inl (inl f)) free = f
    pinned w (inl (inr f)) free = pinned_word (subst IsFree (sym f.0.1) free)
    pinned w (inr f) free = let k = f.0.0 in absurd (omega (arith, k))

-- a loose one is not left out
not_left_out : AreLoose looks spans (1 ∷ []) [] → ⊥
not_left_out a = not_held a.0

-- ---- each object in one slot of one span
not_in_two_frames : AreUnique (span_with Hot 1 ∷ span_with Cold 1 ∷ []) 2 → ⊥
not_in_two_frames a = let e = a.one_frame 0 1 1 (1, refl) (1, refl) in absurd (omega (arith, e))

not_in_two_slots : AreUnique (Some (span_of (record { index = 11 }) Cold (Some 1 ∷ Some 1 ∷ [])) ∷ []) 2 → ⊥
not_in_two_slots a = let e = a.one_slot 0 0 1 1 refl refl in absurd (omega (arith, e))

not_unmade : AreUnique (span_with Hot 1 ∷ []) 1 → ⊥
not_unmade a = let l = a.below 0 1 (1, refl) in absurd (omega (arith, l))

-- ---- what events are about
touches : TouchesOnly (λ h. h ≡ 1) (λ p. p < 512) (Looked 1 2 ∷ Loaded 511 7 ∷ Settled 1 2 ∷ [])
touches = (refl, (lit< tt, (refl, tt)))

not_another : TouchesOnly (λ h. h ≡ 1) (λ p. p < 512) (Looked 0 2 ∷ []) → ⊥
not_another a = let e = a.0 in absurd (omega (arith, e))

not_elsewhere : TouchesOnly (λ h. h ≡ 1) (λ p. p < 512) (Loaded 512 7 ∷ []) → ⊥
not_elsewhere a = let l = a.0 in absurd (omega (arith, l))

not_stored : TouchesOnly (λ h. h ≡ 1) (λ p. p < 512) (Stored 0 7 ∷ []) → ⊥
not_stored a = a

only_looks : OnlyLooks looks
only_looks = tt

not_only_looks : OnlyLooks (Looked 1 2 ∷ Settled 1 2 ∷ []) → ⊥
not_only_looks a = a
