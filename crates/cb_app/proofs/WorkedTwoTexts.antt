-- Worked examples: the text of a lane's own lines, and when two lists of answers tell it alike.
use Rattle.std.proofs.Common.{◌≡◌, ℕ, List, [], ◌∷◌, ◌++◌, length, map, get_or, refl, ap, arith}
use Rattle.std.specs.Fmt.{digits}
use Rattle.std.specs.Prelude.{codes}
use Rattle.cb_types.specs.declared.answer.Answer.{Answer}
use Rattle.cb_types.specs.declared.reply.Reply.{Reply}
use Rattle.cb_types.specs.declared.reply.Reply.TheVariants.{Bytes, Left, Made, Moved, Same, Version}
use Rattle.cb_types.specs.declared.request.Request.{Request}
use Rattle.cb_types.specs.declared.request.Request.TheVariants.{Filter, Leave, Make, Read, Write}
use Rattle.cb_script.specs.declared.script.Line.{Line}
use Rattle.cb_lanes.specs.Alone.{HasOwnLines}
use Rattle.cb_lanes.specs.Asked.{asked}
use Rattle.cb_app.specs.TwoTexts.{TellAlike, own_text}

abbrev answer : ℕ → Request → Reply → Answer
answer lane request reply =
    record { lane = record { n = lane }; line = 2; request = request; reply = reply }

abbrev a : List ℕ
a = 97 ∷ []

abbrev b : List ℕ
b = 98 ∷ []

-- lane 1 makes `a`, writes it, reads the name `b` of another lane, filters `a` and leaves; lane 2
-- makes `c`
abbrev with_handle : ℕ → ℕ → Reply → List Answer
with_handle h version filtered =
    answer 1 (Make a (7 ∷ [])) (Made (record { n = h }) 1)
    ∷ answer 1 (Write a 0 (8 ∷ [])) (Version version) ∷ answer 1 (Read b) (Bytes 1 (9 ∷ []))
    ∷ answer 1 (Filter a) filtered ∷ answer 1 Leave (Left 0) ∷ []

abbrev of_lane_2 : Answer
of_lane_2 = answer 2 (Make (99 ∷ []) []) (Made (record { n = 5 }) 1)

abbrev one : List Answer
one = of_lane_2 ∷ with_handle 1 2 Moved

abbrev lines : List Line
lines = map asked one

-- its make and its write are told: no other name, no filter and no leave,
-- and no line of another lane
told : own_text lines 1 one ≡ codes "1 make a v1\n1 write a v2\n"
unfolding digits
told = refl

told_of_lane_2 : own_text lines 2 one ≡ codes "2 make c v1\n"
unfolding digits
told_of_lane_2 = refl

-- another handle, another answer of a filter and another order of lanes are told alike
alike : (own_text lines 1 one
    ≡ own_text lines 1 (with_handle 3 2 Same ++ of_lane_2 ∷ []))
    × (own_text lines 2 one
    ≡ own_text lines 2 (with_handle 3 2 Same ++ of_lane_2 ∷ []))
alike = (refl, refl)

has_lines : HasOwnLines lines 1
has_lines = record { from_one = omega arith; pins = refl }

-- another version of an own name is not
other_version : TellAlike lines one (with_handle 1 3 Moved ++ of_lane_2 ∷ []) → ⊥
unfolding digits
other_version same = let e : 50 ≡ 51 = ap (λ (t : List ℕ). get_or t 23 0) (same 1 has_lines) in
    omega (arith, e)

-- nor is an own line that is left out
left_out : TellAlike lines one (of_lane_2 ∷ []) → ⊥
unfolding digits
left_out same = let e : 25 ≡ 0 = ap (λ (t : List ℕ). length t) (same 1 has_lines) in
    omega (arith, e)
