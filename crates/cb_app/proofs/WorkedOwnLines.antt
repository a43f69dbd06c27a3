-- Worked examples: all answers of a script, and what is said of own lines once they are told. Each
-- part of a definition is broken alone.
use Rattle.std.proofs.Common.{◌≡◌, ℕ, List, [], ◌∷◌, map, inl, inr, refl, sym, subst, arith}
use Rattle.cb_types.specs.declared.answer.Answer.{Answer}
use Rattle.cb_types.specs.declared.handle.Handle.{Handle}
use Rattle.cb_types.specs.declared.reply.Reply.{Reply}
use Rattle.cb_types.specs.declared.reply.Reply.TheVariants.{Left, Made}
use Rattle.cb_types.specs.declared.request.Request.{Request}
use Rattle.cb_types.specs.declared.request.Request.TheVariants.{Leave, Make}
use Rattle.cb_script.specs.declared.script.Line.{Line}
use Rattle.cb_lanes.specs.Alone.{fresh_lane}
use Rattle.cb_lanes.specs.Asked.{asked}
use Rattle.cb_lanes.proofs.Laws.{none_until}
use Rattle.cb_app.specs.OwnLines.{AreAllOf, AreAmong, KeepAloneWith, to_lane}
use Rattle.cb_app.proofs.OfLane.{lane_cases}

abbrev a : List ℕ
a = 97 ∷ []

abbrev answer : ℕ → Request → Reply → Answer
answer lane request reply =
    record { lane = record { n = lane }; line = 2; request = request; reply = reply }

abbrev left : Answer
left = answer 2 Leave (Left 0)

-- ---- the answers of a lane, and answers among others
answers_of_lane_1 : to_lane 1 (answer 1 Leave (Left 0) ∷ left ∷ answer 1 Leave (Left 3) ∷ [])
    ≡ answer 1 Leave (Left 0) ∷ answer 1 Leave (Left 3) ∷ []
answers_of_lane_1 = refl

one_among_two : AreAmong (left ∷ []) (answer 1 Leave (Left 0) ∷ left ∷ [])
one_among_two x (inl is) = inr (inl is)
one_among_two x (inr none) = absurd none

one_left_out : AreAmong (left ∷ []) [] → ⊥
one_left_out are = are left (inl refl)

-- ---- all answers of a script
abbrev leave : Line
leave = asked left

module _ (nodes : ℕ) where
  are_all : AreAllOf nodes (leave ∷ []) (left ∷ [])
  are_all = record {
    script = (
      record {
        lane = record { low = omega arith; first = λ zero. absurd (omega (arith, zero)) };
        line = refl;
        request = tt;
        known = tt;
      },
      tt,
    );
    lines_are = refl;
  }

  a_wrong_number : AreAllOf nodes (record leave { line = 7 } ∷ []) (record left { line = 7 } ∷ []) → ⊥
  a_wrong_number are = let e : 7 ≡ 2 = are.script.0.line in absurd (omega (arith, e))

  a_line_left_out : AreAllOf nodes (leave ∷ []) [] → ⊥
  a_line_left_out are = absurd (let e = are.lines_are in cc)

-- ---- what is said of own lines
-- lane 1 makes a: the first version is that of an object that it alone makes
abbrev makes : ℕ → List Answer
makes version = answer 1 (Make a (1 ∷ [])) (Made (record { n = 3 }) version) ∷ []

abbrev its_lines : List Line
its_lines = map asked (makes 1)

made_twice : (h : Handle) → Made (record { n = 3 }) 2 ≡ Made h 1 → ⊥
made_twice h is = absurd cc

module _ (nodes : ℕ) where
  the_first_version : KeepAloneWith nodes [] (makes 1)
  the_first_version ls all whole among lane own same room = (λ mine. (record { n = 3 }, refl), tt)

  another_version : AreAllOf nodes its_lines (makes 2) → KeepAloneWith nodes [] (makes 2) → ⊥
  another_version whole keep =
      let z = (keep its_lines (makes 2) whole (λ x has. has) 1
      (record { from_one = omega arith; pins = refl }) refl refl).0 refl in made_twice z.0 z.1

  -- nothing is said of answers that are not among all of a script
  among_none : ((ls : List Line) (all : List Answer) → AreAllOf nodes ls all
      → AreAmong (left ∷ makes 2) all → ⊥) → KeepAloneWith nodes (left ∷ []) (makes 2)
  among_none none ls all whole among lane own same = absurd (none ls all whole among)

  -- nor of lane 0, nor of a lane with other answers
  of_lane_0 : KeepAloneWith nodes [] (answer 0 (Make a (1 ∷ [])) (Made (record { n = 3 }) 2) ∷ [])
  of_lane_0 ls all whole among lane own same = none_until ls lane fresh_lane
      (answer 0 (Make a (1 ∷ [])) (Made (record { n = 3 }) 2) ∷ [])
      ((λ is. let low = own.from_one in absurd (omega (arith, low, is))), tt)

  of_more_answers : ((ls : List Line) (all : List Answer) → AreAllOf nodes ls all
      → makes 2 ≡ to_lane 1 all → ⊥) → KeepAloneWith nodes [] (makes 2)
  of_more_answers none ls all whole among lane own same = elim (lane_cases 1 lane) [
    | inl is ↦ absurd (none ls all whole (subst (λ (n : ℕ). to_lane n (makes 2) ≡ to_lane n all) (sym is) same))
    | inr off ↦ none_until ls lane fresh_lane (makes 2) (off, tt)
  ]
