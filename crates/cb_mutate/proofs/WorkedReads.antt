-- Worked examples of a read that finds no memory, and of the room for a reply: what meets each, and
-- what breaks one part alone.
use Rattle.std.proofs.Common.{◌≡◌, ℕ, List, [], ◌∷◌, ap, ◌∙◌, arith, refl, length}
use Rattle.cb_ptr.specs.Word.{state_number, state_of}
use Rattle.cb_world.specs.declared.access.Access.{Access}
use Rattle.cb_world.specs.declared.access.Access.TheVariants.{Looked, Settled}
use Rattle.cb_world.specs.declared.grasp.Grasp.TheVariants.{Claimed, Left}
use Rattle.cb_mutate.specs.ReadRule.{IsSeenHere}
use Rattle.cb_mutate.specs.Reaches.{HasReadRoom}

-- words of an object of two bytes at place 0: here, here and hot, and far
abbrev calm : ℕ
calm = 16386

abbrev hot : ℕ
hot = 16390

abbrev away : ℕ
away = 16385

abbrev looked_at : List Access → ℕ
looked_at (Looked h w ∷ es) = h
looked_at es = 9

abbrev word_seen : List Access → ℕ
word_seen (Looked h w ∷ es) = w
word_seen es = 0

seen_here : IsSeenHere 0 (Looked 0 calm ∷ [])
seen_here = (calm, refl, refl)

seen_and_settled : IsSeenHere 0 (Looked 0 calm ∷ Settled 0 hot ∷ []) → ⊥
seen_and_settled x = let e : 2 ≡ 1 = ap length x.1 in omega (arith, e)

seen_another : IsSeenHere 0 (Looked 1 calm ∷ []) → ⊥
seen_another x = let e : 1 ≡ 0 = ap looked_at x.1 in omega (arith, e)

seen_far : IsSeenHere 0 (Looked 0 away ∷ []) → ⊥
seen_far x = let e : 1 ≡ 2 =
    ap (λ (es : List Access). state_number (state_of (word_seen es))) x.1 ∙ ap state_number x.2 in
    omega (arith, e)

has_room : HasReadRoom (Claimed calm) (0 ∷ 0 ∷ [])
has_room = refl

has_little : HasReadRoom (Claimed calm) (0 ∷ []) → ⊥
has_little x = let e : 1 ≡ 2 = x in omega (arith, e)

left_room : HasReadRoom (Left calm) (0 ∷ 0 ∷ [])
left_room here = refl

left_little : HasReadRoom (Left calm) (0 ∷ []) → ⊥
left_little x = let e : 1 ≡ 2 = x refl in omega (arith, e)

left_far : HasReadRoom (Left away) []
left_far here = let e : 1 ≡ 2 = ap state_number here in absurd (omega (arith, e))
