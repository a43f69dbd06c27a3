-- Worked examples: what a lane beside others promises of its own lines, and of which lines and
-- names it does.
use Rattle.std.proofs.Common.{◌≡◌, ◌⊎◌, ℕ, ◌<◌, ◌≤◌, Bool, true, false, ◌||◌, List, [], ◌∷◌, ◌++◌}
use Rattle.std.proofs.Common.{get_or, None, Some, inl, inr, refl, sym, ap, ◌∙◌, subst, arith, lit≤}
use Rattle.std.proofs.Common.{nat_eq, if◌then◌else◌}
use Rattle.std.specs.List.{AllByRecursion}
use Rattle.std.specs.Str.{bytes_eq}
use Rattle.std.proofs.lemmas.Bool.{cases_Bool, eqb-true}
use Rattle.std.proofs.lemmas.List.Elements.{All-cons, All-nil}
use Rattle.std.proofs.lemmas.Slice.Eq.{bytes_eq-Decides}
use Rattle.cb_types.specs.declared.answer.Answer.{Answer}
use Rattle.cb_types.specs.declared.request.Request.{Request}
use Rattle.cb_types.specs.declared.request.Request.TheVariants.{Make, Read, Leave}
use Rattle.cb_types.specs.declared.reply.Reply.{Reply}
use Rattle.cb_types.specs.declared.reply.Reply.TheVariants.{Made, Bytes}
use Rattle.cb_model.specs.Called.{first_of}
use Rattle.cb_script.specs.declared.script.Line.{Line}
use Rattle.cb_script.specs.Form.{AreLines, IsContents, IsName, IsNameByte, IsNameMade}
use Rattle.cb_lanes.specs.declared.body.Named.{Named}
use Rattle.cb_lanes.specs.Alone.{HasOwnLines, alone_after, fresh_lane, is_maker, now_named}
use Rattle.cb_lanes.specs.Alone.{read_alone}
use Rattle.cb_lanes.specs.AloneUntil.{AreShared, LaneKeepsAlone}
use Rattle.cb_lanes.specs.Bodies.{handle_among, of_lane}
use Rattle.cb_lanes.proofs.AloneLines.{maker_of, one_maker}
use Rattle.cb_lanes.proofs.LaneForm.{made_among}

abbrev a : List ℕ
a = 97 ∷ []

abbrev b : List ℕ
b = 98 ∷ []

abbrev by : ℕ → ℕ → Request → Line
by lane line request = record { lane = record { n = lane }; line = line; request = request }

abbrev lane_answer : ℕ → ℕ → Request → Reply → Answer
lane_answer lane line request reply =
    record { lane = record { n = lane }; line = line; request = request; reply = reply }

-- lane 0 makes a, lane 1 makes b and reads it
abbrev script : List Line
script = by 0 2 (Make a (1 ∷ [])) ∷ by 1 3 (Make b (2 ∷ [])) ∷ by 1 4 (Read b) ∷ []

abbrev own : List Line
own = by 1 3 (Make b (2 ∷ [])) ∷ by 1 4 (Read b) ∷ []

-- ---- the lines of a lane
lines_of_lane_1 : of_lane 1 script ≡ own
lines_of_lane_1 = refl

lane_2_has_none : of_lane 2 script ≡ []
lane_2_has_none = refl

-- ---- shared names
abbrev named : List ℕ → ℕ → List Named
named name h = record { name = name; handle = Some (record { n = h }) } ∷ []

only : (name p : List ℕ) (h k : ℕ) → handle_among (named name h) p ≡ Some k → name ≡ p
only name p h k is = from (cases_Bool (bytes_eq name p))
  where
    from : (bytes_eq name p ≡ true) ⊎ (bytes_eq name p ≡ false) → name ≡ p
    from (inl e) = (bytes_eq-Decides name p).0 e
    from (inr e) = absurd (let z : None ≡ Some k =
        sym (ap (λ (t : Bool). first_of None (if t then Some h else None)) e) ∙ is in cc)

a_name_of_lane_0 : AreShared script (named a 0)
a_name_of_lane_0 p h is =
    subst (λ (q : List ℕ). is_maker script 0 q ≡ true) (only a p 0 h is) refl

no_names : AreShared script []
no_names p h is = absurd cc

a_name_of_lane_1 : AreShared script (named b 3) → ⊥
a_name_of_lane_1 are = absurd (let e = are b 3 refl in cc)

-- ---- a script
one_letter : (letter : ℕ) → 97 ≤ letter → letter ≤ 122 → IsName (letter ∷ [])
one_letter letter low high = record {
  some = omega arith;
  few = omega arith;
  each = All-cons IsNameByte letter [] (inl (low, high)) (All-nil IsNameByte);
}

one_byte : (n : ℕ) → n < 256 → IsContents (n ∷ [])
one_byte n low = record {
  some = omega arith;
  few = omega arith;
  each = All-cons (λ m. m < 256) n [] low (All-nil (λ m. m < 256));
}

new_b : (lane : ℕ) → IsNameMade (by 0 2 (Make a (1 ∷ [])) ∷ []) lane b → ⊥
new_b lane (inl made) = let e : 97 ≡ 98 = ap (λ (p : List ℕ). get_or p 0 0) made.1 in
    absurd (omega (arith, e))
new_b lane (inr none) = none

is_script : AreLines 2 [] script
is_script = (
  record {
    lane = record { low = omega arith; first = λ zero. tt };
    line = refl;
    request = (one_letter 97 (omega arith) (omega arith), one_byte 1 (omega arith));
    known = λ lane none. none;
  },
  (
    record {
      lane = record { low = omega arith; first = λ zero. (refl, tt) };
      line = refl;
      request = (one_letter 98 (omega arith) (omega arith), one_byte 2 (omega arith));
      known = new_b;
    },
    (
      record {
        lane = record { low = omega arith; first = λ zero. absurd (omega (arith, zero)) };
        line = refl;
        request = one_letter 98 (omega arith) (omega arith);
        known = inl (inr (inl (refl, refl)));
      },
      tt,
    ),
  ),
)

has_own : HasOwnLines script 1
has_own = record { from_one = lit≤ tt; pins = refl }

-- what holds of all lines holds of those of a lane
of_each : (P : Line → Type 0) (lane : ℕ) (ls : List Line) → AllByRecursion P ls
    → AllByRecursion P (of_lane lane ls)
of_each P lane [] all = tt
of_each P lane (l ∷ ls) all = from (nat_eq l.lane.n lane) (of_each P lane ls all.1)
  where
    from : (t : Bool) → AllByRecursion P (of_lane lane ls)
        → AllByRecursion P (if t then l ∷ of_lane lane ls else of_lane lane ls)
    from true rest = (all.0, rest)
    from false rest = rest

own_number : (lane : ℕ) (ls : List Line)
    → AllByRecursion (λ (l : Line). l.lane.n ≡ lane) (of_lane lane ls)
own_number lane [] = tt
own_number lane (l ∷ ls) = from (cases_Bool (nat_eq l.lane.n lane)) (own_number lane ls)
  where
    from : (nat_eq l.lane.n lane ≡ true) ⊎ (nat_eq l.lane.n lane ≡ false)
        → AllByRecursion (λ (k : Line). k.lane.n ≡ lane) (of_lane lane ls)
        → AllByRecursion (λ (k : Line). k.lane.n ≡ lane) (of_lane lane (l ∷ ls))
    from (inl e) rest = subst (λ (t : Bool). AllByRecursion (λ (k : Line). k.lane.n ≡ lane)
        (if t then l ∷ of_lane lane ls else of_lane lane ls)) (sym e)
        (eqb-true l.lane.n lane e, rest)
    from (inr e) rest = subst (λ (t : Bool). AllByRecursion (λ (k : Line). k.lane.n ≡ lane)
        (if t then l ∷ of_lane lane ls else of_lane lane ls)) (sym e) rest

numbered : (nodes : ℕ) (before ls : List Line) → AreLines nodes before ls
    → AllByRecursion (λ (l : Line). 2 ≤ l.line) ls
numbered nodes before [] are = tt
numbered nodes before (l ∷ ls) are =
    (let e = are.0.line in omega (arith, e), numbered nodes (before ++ l ∷ []) ls are.1)

-- ---- what the lane promises
abbrev made : Answer
made = lane_answer 1 3 (Make b (2 ∷ [])) (Made (record { n = 1 }) 1)

abbrev answers : ℕ → List Answer
answers n = made ∷ lane_answer 1 4 (Read b) (Bytes 1 (n ∷ [])) ∷ []

maker_is : (all : List Line) → own ≡ of_lane 1 all → is_maker all 1 b ≡ true
maker_is all is = maker_of all 1 b
    (made_among 1 all 1 b (subst (λ (ls : List Line). IsNameMade ls 1 b) is (inl (refl, refl))))

-- the read shows what the lane wrote
right : LaneKeepsAlone 2 1 (named a 0) own (answers 2)
right all are has is shared = λ room. (
  λ mine. (record { n = 1 }, refl),
  λ room. (
    λ mine. subst (λ (t : Bool). Bytes 1 (2 ∷ []) ≡ read_alone (now_named b
        (if t || false then alone_after fresh_lane made.request
        made.reply else fresh_lane).objects))
        (sym (maker_is all is)) refl,
    tt,
  ),
)

-- and not what it did not
wrong : LaneKeepsAlone 2 1 (named a 0) own (answers 7) → ⊥
wrong promised = absurd (
    let e = ((promised script is_script has_own refl a_name_of_lane_0 refl).1 refl).0 refl in cc)

-- unless lane 0, whose names are shared, answers
lane_0 : LaneKeepsAlone 2 0 (named a 0) own (answers 7)
lane_0 all are has is shared = absurd (let low = has.from_one in omega (arith, low))

-- or the lines are those of another lane, or of no script
another_lane : LaneKeepsAlone 2 1 (named a 0) (by 2 3 Leave ∷ []) (answers 7)
another_lane all are has is shared = absurd (let two : 2 ≡ 1 =
    (subst (λ (ls : List Line). AllByRecursion (λ (l : Line). l.lane.n ≡ 1) ls) (sym is)
    (own_number 1 all)).0 in omega (arith, two))

no_script : LaneKeepsAlone 2 1 (named a 0) (by 1 0 Leave ∷ []) (answers 7)
no_script all are has is shared = absurd (let low : 2 ≤ 0 =
    (subst (λ (ls : List Line). AllByRecursion (λ (l : Line). 2 ≤ l.line) ls) (sym is)
    (of_each (λ (l : Line). 2 ≤ l.line) 1 all (numbered 2 [] all are))).0 in omega (arith, low))

-- or the lane was given a name that it makes itself
an_own_name : LaneKeepsAlone 2 1 (named b 3) own (answers 7)
an_own_name all are has is shared = absurd (let same : 0 ≡ 1 =
    one_maker 2 [] all 0 1 b are (shared b 3 refl) (maker_is all is) in omega (arith, same))
