-- Worked answers of lanes beside others: names that are one to one with handles, and what is told
-- of pins.
use Rattle.std.proofs.Common.{◌≡◌, ℕ, List, [], ◌∷◌, ◌++◌, length, replicate, Option, Some, None}
use Rattle.std.proofs.Common.{◌⊎◌, inl, inr, refl, sym, ap, ◌∙◌, arith}
use Rattle.std.specs.Prelude.{if◌then◌else◌}
use Rattle.std.proofs.lemmas.Bool.{eqb-false}
use Rattle.cb_types.specs.declared.answer.Answer.{Answer}
use Rattle.cb_types.specs.declared.request.Request.{Request}
use Rattle.cb_types.specs.declared.request.Request.TheVariants.{Make, Write, Pin, Peek, Unpin}
use Rattle.cb_types.specs.declared.request.Request.TheVariants.{Leave}
use Rattle.cb_types.specs.declared.reply.Reply.{Reply}
use Rattle.cb_types.specs.declared.reply.Reply.TheVariants.{Made, Version, Bytes, Done, Left}
use Rattle.cb_types.specs.declared.reply.Reply.TheVariants.{Unmade, Full, Pinned, ScopeFull}
use Rattle.cb_types.specs.declared.reply.Reply.TheVariants.{NotPinned}
use Rattle.cb_model.specs.Called.{handle_made}
use Rattle.cb_lanes.specs.declared.body.Named.{Named}
use Rattle.cb_lanes.specs.Scoped.{AreOneToOne, AreScoped, HaveOneHandle, IsMadeAs, LaneScoped}
use Rattle.cb_lanes.specs.Scopes.{KeepScopes, scope_of}
use Rattle.cb_lanes.proofs.LaneScopes.{made_as_left, made_as_right}
use Rattle.cb_lanes.proofs.PinLists.{name_cases}

abbrev a : List ℕ
a = 97 ∷ []

abbrev b : List ℕ
b = 98 ∷ []

abbrev by : ℕ → Request → Reply → Answer
by lane request reply = record
    { lane = record { n = lane }; line = 2; request = request; reply = reply }

abbrev made : List ℕ → ℕ → Answer
made name h = by 0 (Make name (7 ∷ [])) (Made (record { n = h }) 1)

abbrev one_pin : Answer
one_pin = by 1 (Pin a) (Version 1)

-- ---- names and handles
some_some : {g h : ℕ} → ◌≡◌ {A = Option ℕ} (Some g) (Some h) → g ≡ h
some_some e = cc

is_made : IsMadeAs (made a 5 ∷ made b 6 ∷ []) b 6
is_made = inr (inl refl)

of_another_handle : IsMadeAs (made a 5 ∷ []) a 6 → ⊥
of_another_handle (inl e) = eqb-false 5 6 refl (some_some e)
of_another_handle (inr none) = absurd none

of_another_name : IsMadeAs (made a 5 ∷ []) b 5 → ⊥
of_another_name (inl e) = absurd cc
of_another_name (inr none) = absurd none

of_a_refused_make : IsMadeAs (by 0 (Make a (7 ∷ [])) (Full 5) ∷ []) a 5 → ⊥
of_a_refused_make (inl e) = absurd cc
of_a_refused_make (inr none) = absurd none

not_a : (a ≡ b) → ⊥
not_a e = let n : 97 ≡ 98 = ap (λ (x : List ℕ). first x) e in omega (arith, n)
  where
    first : List ℕ → ℕ
    first [] = 0
    first (x ∷ xs) = x

-- what a make tells
one_made : (name x : List ℕ) (h g : ℕ)
    → handle_made x (Make name (7 ∷ [])) (Made (record { n = h }) 1) ≡ Some g
    → (x ≡ name) × (g ≡ h)
one_made name x h g is = elim (name_cases name x) [
  | inl same ↦ (sym same.1, some_some (sym is ∙ ap (λ t. if t then Some h else None) same.0))
  | inr other ↦ absurd (
      let e : Some g ≡ None = sym is ∙ ap (λ t. if t then Some h else None) other.0 in cc)
]

two_made : (x : List ℕ) (g : ℕ) → IsMadeAs (made a 5 ∷ made b 6 ∷ []) x g
    → ((x ≡ a) × (g ≡ 5)) ⊎ ((x ≡ b) × (g ≡ 6))
two_made x g (inl is) = inl (one_made a x 5 g is)
two_made x g (inr (inl is)) = inr (one_made b x 6 g is)
two_made x g (inr (inr none)) = absurd none

are_one_to_one : AreOneToOne (made a 5 ∷ made b 6 ∷ [])
are_one_to_one x y g h p q = each (two_made x g p) (two_made y h q)
  where
    each : ((x ≡ a) × (g ≡ 5)) ⊎ ((x ≡ b) × (g ≡ 6)) → ((y ≡ a) × (h ≡ 5)) ⊎ ((y ≡ b) × (h ≡ 6))
        → (x ≡ y → g ≡ h) × (g ≡ h → x ≡ y)
    each (inl p) (inl q) = (λ e. p.1 ∙ sym q.1, λ e. p.0 ∙ sym q.0)
    each (inr p) (inr q) = (λ e. p.1 ∙ sym q.1, λ e. p.0 ∙ sym q.0)
    each (inl p) (inr q) = (
      λ e. absurd (not_a (sym p.0 ∙ e ∙ q.0)),
      λ e. absurd (eqb-false 5 6 refl (sym p.1 ∙ e ∙ q.1)),
    )
    each (inr p) (inl q) = (
      λ e. absurd (not_a (sym q.0 ∙ sym e ∙ p.0)),
      λ e. absurd (eqb-false 5 6 refl (sym q.1 ∙ sym e ∙ p.1)),
    )

a_name_of_two_handles : AreOneToOne (made a 5 ∷ made a 6 ∷ []) → ⊥
a_name_of_two_handles one =
    eqb-false 5 6 refl ((one a a 5 6 (inl refl) (inr (inl refl))).0 refl)

a_handle_of_two_names : AreOneToOne (made a 5 ∷ made b 5 ∷ []) → ⊥
a_handle_of_two_names one = not_a ((one a b 5 5 (inl refl) (inr (inl refl))).1 refl)

-- ---- what is told of pins, behind the make of a
abbrev run : List Answer
run = made a 5 ∷ one_pin ∷ by 1 (Peek a) (Bytes 1 (7 ∷ [])) ∷ by 1 (Unpin a) Done
    ∷ by 1 (Unpin a) NotPinned ∷ by 1 Leave (Left 0) ∷ []

keeps : KeepScopes [] run
keeps = (
  tt,
  (
    (
      λ e. absurd (let f : Version 1 ≡ ScopeFull = e in cc),
      λ e. absurd (let f : ◌≡◌ {A = ℕ} 0 16 = e in omega (arith, f)),
    ),
    ((7 ∷ [], refl), (refl, (refl, (refl, tt)))),
  ),
)

full_with_no_pin : KeepScopes (made a 5 ∷ []) (by 1 (Pin a) ScopeFull ∷ []) → ⊥
full_with_no_pin keep =
    absurd (let e : ◌≡◌ {A = ℕ} 0 16 = keep.0.0 refl in omega (arith, e))

a_seventeenth_pin : KeepScopes (made a 5 ∷ replicate 16 one_pin) (one_pin ∷ []) → ⊥
a_seventeenth_pin keep = absurd (let e : Version 1 ≡ ScopeFull = keep.0.1 refl in cc)

a_peek_at_another_version : KeepScopes (made a 5 ∷ one_pin ∷ []) (by 1 (Peek a) (Bytes 2 []) ∷ [])
    → ⊥
a_peek_at_another_version keep = absurd (let e = keep.0.1 in cc)

a_peek_under_no_pin : KeepScopes (made a 5 ∷ []) (by 1 (Peek a) (Bytes 1 []) ∷ []) → ⊥
a_peek_under_no_pin keep = absurd (let e : Bytes 1 [] ≡ NotPinned = keep.0 in cc)

a_pin_that_is_not_given_back : KeepScopes (made a 5 ∷ one_pin ∷ []) (by 1 (Unpin a) NotPinned ∷ [])
    → ⊥
a_pin_that_is_not_given_back keep = absurd (let e : NotPinned ≡ Done = keep.0 in cc)

a_pin_that_is_not_counted : KeepScopes (made a 5 ∷ one_pin ∷ []) (by 1 Leave (Left 0) ∷ []) → ⊥
a_pin_that_is_not_counted keep = absurd (let e : Left 0 ≡ Left 1 = keep.0 in cc)

a_name_without_a_handle : KeepScopes [] (by 1 (Peek a) NotPinned ∷ []) → ⊥
a_name_without_a_handle keep = absurd (let e : NotPinned ≡ Unmade = keep.0 in cc)

-- the pins of another lane are none of this one
another_lanes_pin : KeepScopes (made a 5 ∷ one_pin ∷ []) (by 2 (Peek a) NotPinned ∷ [])
another_lanes_pin = (refl, tt)

-- a write that is held up tells the lane's own pin at least
abbrev held_up : List Answer
held_up = by 1 (Write a 0 (7 ∷ [])) (Pinned 0) ∷ []

told_past_its_pin : KeepScopes (made a 5 ∷ one_pin ∷ []) held_up → ⊥
told_past_its_pin keep = omega (arith, (keep.0 0 refl).0)

-- ---- once names and handles are one to one
no_name : (r : Reply) → AreOneToOne (by 1 Leave r ∷ [])
no_name r x y g h (inl e) q = absurd cc
no_name r x y g h (inr none) q = absurd none

scoped : AreScoped [] run
scoped one = keeps

tells_of_no_pin : AreScoped [] (by 1 Leave (Left 1) ∷ []) → ⊥
tells_of_no_pin is = absurd (let e : Left 1 ≡ Left 0 = (is (no_name (Left 1))).0 in cc)

-- else nothing is said
of_names_made_twice : AreScoped [] (made a 5 ∷ made a 6 ∷ by 1 Leave (Left 1) ∷ [])
of_names_made_twice one = absurd (
    eqb-false 5 6 refl ((one a a 5 6 (inl refl) (inr (inl refl))).0 refl))

-- ---- a lane, behind whatever answers gave the names
abbrev name_a : List Named
name_a = record { name = a; handle = Some (record { n = 5 }) } ∷ []

lane_scoped : LaneScoped 1 name_a (by 1 Leave (Left 0) ∷ [])
lane_scoped given are none one each = (ap (λ scope. Left (length scope)) (sym none), tt)

lane_tells_of_no_pin : LaneScoped 1 [] (by 1 Leave (Left 1) ∷ []) → ⊥
lane_tells_of_no_pin is = tells_of_no_pin (λ one. is [] (λ name. refl) refl none_given
    (λ p g h is_p is_q. (one p p g h is_p is_q).0 refl))
  where
    none_given : AreOneToOne []
    none_given p q g h is_p is_q = absurd is_p

peeked : AreOneToOne (made a 5 ∷ by 1 (Peek a) Unmade ∷ [])
peeked x y g h p q = each (only x g p) (only y h q)
  where
    only : (x : List ℕ) (g : ℕ) → IsMadeAs (made a 5 ∷ by 1 (Peek a) Unmade ∷ []) x g
        → (x ≡ a) × (g ≡ 5)
    only x g (inl is) = one_made a x 5 g is
    only x g (inr (inl e)) = absurd cc
    only x g (inr (inr none)) = absurd none

    each : (x ≡ a) × (g ≡ 5) → (y ≡ a) × (h ≡ 5) → (x ≡ y → g ≡ h) × (g ≡ h → x ≡ y)
    each p q = (λ e. p.1 ∙ sym q.1, λ e. p.0 ∙ sym q.0)

-- a name that it was given has a handle
lane_hides_a_name : LaneScoped 1 name_a (by 1 (Peek a) Unmade ∷ []) → ⊥
lane_hides_a_name is =
    absurd (let e : Unmade ≡ NotPinned = (is (made a 5 ∷ []) (λ name. refl) refl
    (λ x y g h p q. peeked x y g h (first_made x g p) (first_made y h q))
    (λ x g h p q. (peeked x x g h p q).0 refl)).0 in cc)
  where
    first_made : (x : List ℕ) (g : ℕ) → IsMadeAs (made a 5 ∷ []) x g
        → IsMadeAs (made a 5 ∷ by 1 (Peek a) Unmade ∷ []) x g
    first_made x g (inl is) = inl is
    first_made x g (inr none) = absurd none

-- nothing is said where a name is given a second handle
abbrev made_again : List Answer
made_again = by 1 (Make a (7 ∷ [])) (Made (record { n = 6 }) 1) ∷ by 1 (Peek a) Unmade ∷ []

a_name_made_again : (given : List Answer) → IsMadeAs given a 5 → HaveOneHandle (given ++ made_again)
    → ⊥
a_name_made_again given made_a each = eqb-false 5 6 refl (each a 5 6
    (made_as_left given made_again a 5 made_a) (made_as_right given made_again a 6 (inl refl)))

one_handle : HaveOneHandle (made a 5 ∷ made b 6 ∷ [])
one_handle name g h p q = (are_one_to_one name name g h p q).0 refl

-- of a lane that has a pin by the answers before nothing is said
a_lane_with_a_pin : scope_of 1 (made a 5 ∷ one_pin ∷ []) ≡ [] → ⊥
a_lane_with_a_pin none = absurd cc
