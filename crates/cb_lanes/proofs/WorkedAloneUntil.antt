-- Worked examples: what a lane's own lines are answered up to the first one that lacks something.
use Rattle.std.proofs.Common.{◌≡◌, ℕ, List, [], ◌∷◌, true, false, refl}
use Rattle.cb_types.specs.declared.answer.Answer.{Answer}
use Rattle.cb_types.specs.declared.request.Request.{Request}
use Rattle.cb_types.specs.declared.request.Request.TheVariants.{Make, Read, Write}
use Rattle.cb_types.specs.declared.reply.Reply.{Reply}
use Rattle.cb_types.specs.declared.reply.Reply.TheVariants.{Made, Bytes, Full, NoRoom, Freed}
use Rattle.cb_types.specs.declared.reply.Reply.TheVariants.{Unavailable, Pinned, Worn, Range}
use Rattle.cb_types.specs.declared.reply.Reply.TheVariants.{ScopeFull, NotPinned, Unmade}
use Rattle.cb_script.specs.declared.script.Line.{Line}
use Rattle.cb_lanes.specs.Alone.{fresh_lane}
use Rattle.cb_lanes.specs.AloneUntil.{KeepAloneUntil, is_lack, lacks}

abbrev a : List ℕ
a = 97 ∷ []

abbrev b : List ℕ
b = 98 ∷ []

abbrev by : ℕ → Request → Line
by lane request = record { lane = record { n = lane }; line = 2; request = request }

abbrev lane_answer : ℕ → Request → Reply → Answer
lane_answer lane request reply =
    record { lane = record { n = lane }; line = 2; request = request; reply = reply }

abbrev made : ℕ → Reply
made h = Made (record { n = h }) 1

-- lane 0 makes a, lane 1 makes b
abbrev lines : List Line
lines = by 0 (Make a (1 ∷ [])) ∷ by 1 (Make b (2 ∷ [])) ∷ []

-- ---- what lacks
full_handles : is_lack (Full 3) ≡ true
full_handles = refl

no_room : is_lack (NoRoom 8 1 2) ≡ true
no_room = refl

unavailable : is_lack (Unavailable (record { n = 0 }) []) ≡ true
unavailable = refl

worn : is_lack Worn ≡ true
worn = refl

pinned_is_none : is_lack (Pinned 2) ≡ false
pinned_is_none = refl

past_the_end_is_none : is_lack (Range 2) ≡ false
past_the_end_is_none = refl

a_full_scope_is_none : is_lack ScopeFull ≡ false
a_full_scope_is_none = refl

no_pin_is_none : is_lack NotPinned ≡ false
no_pin_is_none = refl

unmade_is_none : is_lack Unmade ≡ false
unmade_is_none = refl

freed_is_none : is_lack Freed ≡ false
freed_is_none = refl

an_own_line_lacks : lacks lines 1 (lane_answer 1 (Read b) (NoRoom 8 1 2)) ≡ true
an_own_line_lacks = refl

a_line_on_a_shared_name_does_not : lacks lines 1 (lane_answer 1 (Read a) (NoRoom 8 1 2)) ≡ false
a_line_on_a_shared_name_does_not = refl

an_answered_line_does_not : lacks lines 1 (lane_answer 1 (Read b) Freed) ≡ false
an_answered_line_does_not = refl

-- ---- the answers to a lane's own lines

-- lane 1 makes b, reads a in vain, reads b, is refused a write of it for want of room, and reads
-- what no one wrote
kept : KeepAloneUntil lines 1 fresh_lane (lane_answer 1 (Make b (2 ∷ [])) (made 1)
    ∷ lane_answer 1 (Read a) (NoRoom 8 1 2) ∷ lane_answer 1 (Read b) (Bytes 1 (2 ∷ []))
    ∷ lane_answer 1 (Write b 0 (4 ∷ [])) (NoRoom 8 1 2) ∷ lane_answer 1 (Read b)
    (Bytes 9 (7 ∷ [])) ∷ [])
kept _ = (
  λ e. (record { n = 1 }, refl),
  λ _. (
    λ e. absurd cc,
    λ _. (λ e. refl, λ none. absurd cc),
  ),
)

-- before a lack a read shows what the lane wrote
wrong_before_the_lack : KeepAloneUntil lines 1 fresh_lane (lane_answer 1 (Make b (2 ∷ [])) (made 1)
    ∷ lane_answer 1 (Read b) (Bytes 9 (7 ∷ [])) ∷ lane_answer 1 (Write b 0 (4 ∷ []))
    (NoRoom 8 1 2) ∷ []) → ⊥
wrong_before_the_lack are = absurd (let e = ((are refl).1 refl).0 refl in cc)

-- what lacks on a shared name ends nothing
wrong_behind_a_shared_lack : KeepAloneUntil lines 1 fresh_lane
    (lane_answer 1 (Make b (2 ∷ [])) (made 1)
    ∷ lane_answer 1 (Read a) (NoRoom 8 1 2) ∷ lane_answer 1 (Read b) (Bytes 9 (7 ∷ [])) ∷ []) → ⊥
wrong_behind_a_shared_lack are = absurd (let e = (((are refl).1 refl).1 refl).0 refl in cc)
