-- The lines and the answers of one lane among all of them.
use Rattle.std.proofs.Common.{◌≡◌, ◌⊎◌, ℕ, zero, suc, ◌<◌, ◌≤◌, Bool, true, false, List, [], ◌∷◌, ◌++◌, map, inl, inr, refl, sym, ap, ◌∙◌, subst, arith, eq-eqb, ne_eqb, if◌then◌else◌}
use Rattle.std.specs.Prelude.{nat_eq}
use Rattle.std.specs.List.{AllByRecursion}
use Rattle.std.proofs.lemmas.Bool.{cases_Bool, cases_lt, eqb-true}
use Rattle.std.proofs.lemmas.List.{append-nil}
use Rattle.std.proofs.lemmas.List.Elements.{filter-append}
use Rattle.cb_types.specs.declared.answer.Answer.{Answer}
use Rattle.cb_script.specs.declared.script.Line.{Line}
use Rattle.cb_script.specs.Form.{AreLines, IsNameMade, MakesName}
use Rattle.cb_rule.specs.Lists.{Has}
use Rattle.cb_lanes.specs.Asked.{asked}
use Rattle.cb_lanes.proofs.Laws.{AreOfLane, NoneOfLane}
use Rattle.cb_app.specs.ByLane.{by_lane, lanes_up_to, of_lane}
use Rattle.cb_app.specs.OwnLines.{to_lane}
use Rattle.cb_app.proofs.Lanes.{IsOfLane, lanes_made, made_in_both, of_lane_made, of_lane_own}

-- ---- answers
pub has_either : {A : Type 0} (x : A) (xs ys : List A) → Has x (xs ++ ys) → Has x xs ⊎ Has x ys
has_either x [] ys has = inr has
has_either x (y ∷ xs) ys (inl here) = inl (inl here)
has_either x (y ∷ xs) ys (inr later) = by (has_either x xs ys later)
  where
    by : Has x xs ⊎ Has x ys → Has x (y ∷ xs) ⊎ Has x ys
    by (inl front) = inl (inr front)
    by (inr back) = inr back

answer_hit : (lane : ℕ) (a : Answer) (xs : List Answer) → a.lane.n ≡ lane
    → to_lane lane (a ∷ xs) ≡ a ∷ to_lane lane xs
answer_hit lane a xs same = ap (λ (b : Bool). if b then a ∷ to_lane lane xs else to_lane lane xs)
    (eq-eqb a.lane.n lane same)

answer_past : (lane : ℕ) (a : Answer) (xs : List Answer) → (a.lane.n ≡ lane → ⊥)
    → to_lane lane (a ∷ xs) ≡ to_lane lane xs
answer_past lane a xs off = ap (λ (b : Bool). if b then a ∷ to_lane lane xs else to_lane lane xs)
    (ne_eqb a.lane.n lane off)

pub lane_cases : (m n : ℕ) → (m ≡ n) ⊎ (m ≡ n → ⊥)
lane_cases m n = by (cases_Bool (nat_eq m n))
  where
    by : (nat_eq m n ≡ true) ⊎ (nat_eq m n ≡ false) → (m ≡ n) ⊎ (m ≡ n → ⊥)
    by (inl is) = inl (eqb-true m n is)
    by (inr is) = inr (λ same. let e : true ≡ false = sym (eq-eqb m n same) ∙ is in absurd cc)

pub all_to_lane : (lane : ℕ) (xs : List Answer) → AreOfLane lane xs → to_lane lane xs ≡ xs
all_to_lane lane [] all = refl
all_to_lane lane (a ∷ xs) all =
    answer_hit lane a xs all.0 ∙ ap (λ (l : List Answer). a ∷ l) (all_to_lane lane xs all.1)

pub none_to_lane : (lane : ℕ) (xs : List Answer) → NoneOfLane lane xs → to_lane lane xs ≡ []
none_to_lane lane [] none = refl
none_to_lane lane (a ∷ xs) none = answer_past lane a xs none.0 ∙ none_to_lane lane xs none.1

-- whether some are the lane's
pub record HasLaneAnswer (lane : ℕ) (xs : List Answer) : Type 0 where
  pub answer : Answer
  pub there : Has answer xs
  pub own : answer.lane.n ≡ lane

pub some_or_none : (lane : ℕ) (xs : List Answer) → HasLaneAnswer lane xs ⊎ NoneOfLane lane xs
some_or_none lane [] = inr tt
some_or_none lane (a ∷ xs) = by (lane_cases a.lane.n lane) (some_or_none lane xs)
  where
    by : (a.lane.n ≡ lane) ⊎ (a.lane.n ≡ lane → ⊥) → HasLaneAnswer lane xs ⊎ NoneOfLane lane xs
        → HasLaneAnswer lane (a ∷ xs) ⊎ NoneOfLane lane (a ∷ xs)
    by (inl same) rest = inl (record { answer = a; there = inl refl; own = same })
    by (inr off) (inl some) =
        inl (record { answer = some.answer; there = inr some.there; own = some.own })
    by (inr off) (inr none) = inr (off, none)

pub of_each : (P : Answer → Type 0) (xs : List Answer) (a : Answer) → AllByRecursion P xs → Has a xs
    → P a
of_each P [] a all has = absurd has
of_each P (x ∷ xs) a all (inl is) = subst P is all.0
of_each P (x ∷ xs) a all (inr later) = of_each P xs a all.1 later

-- ---- lines
line_hit : (lane : ℕ) (l : Line) (ls : List Line) → l.lane.n ≡ lane
    → of_lane lane (l ∷ ls) ≡ l ∷ of_lane lane ls
line_hit lane l ls same = ap (λ (b : Bool). if b then l ∷ of_lane lane ls else of_lane lane ls)
    (eq-eqb l.lane.n lane same)

line_past : (lane : ℕ) (l : Line) (ls : List Line) → (l.lane.n ≡ lane → ⊥)
    → of_lane lane (l ∷ ls) ≡ of_lane lane ls
line_past lane l ls off = ap (λ (b : Bool). if b then l ∷ of_lane lane ls else of_lane lane ls)
    (ne_eqb l.lane.n lane off)

-- the lines of a lane's answers are those of the lane
pub asked_to_lane : (lane : ℕ) (xs : List Answer)
    → map asked (to_lane lane xs) ≡ of_lane lane (map asked xs)
asked_to_lane lane [] = refl
asked_to_lane lane (a ∷ xs) = by (asked_to_lane lane xs) (lane_cases a.lane.n lane)
  where
    by : map asked (to_lane lane xs) ≡ of_lane lane (map asked xs)
        → (a.lane.n ≡ lane) ⊎ (a.lane.n ≡ lane → ⊥)
        → map asked (to_lane lane (a ∷ xs)) ≡ of_lane lane (map asked (a ∷ xs))
    by rest (inl same) = ap (map asked) (answer_hit lane a xs same)
        ∙ ap (λ (l : List Line). asked a ∷ l) rest
        ∙ sym (line_hit lane (asked a) (map asked xs) same)
    by rest (inr off) = ap (map asked) (answer_past lane a xs off) ∙ rest
        ∙ sym (line_past lane (asked a) (map asked xs) off)

all_of_lane : (lane : ℕ) (ls : List Line) → AllByRecursion (IsOfLane lane) ls → of_lane lane ls ≡ ls
all_of_lane lane [] all = refl
all_of_lane lane (l ∷ ls) all =
    line_hit lane l ls all.0 ∙ ap (λ (k : List Line). l ∷ k) (all_of_lane lane ls all.1)

none_of_lane : (lane n : ℕ) (ls : List Line) → (n ≡ lane → ⊥) → AllByRecursion (IsOfLane n) ls
    → of_lane lane ls ≡ []
none_of_lane lane n [] off all = refl
none_of_lane lane n (l ∷ ls) off all = line_past lane l ls (λ same. off (sym all.0 ∙ same))
    ∙ none_of_lane lane n ls off all.1

of_lanes : (lane : ℕ) (xs ys : List Line)
    → of_lane lane (xs ++ ys) ≡ of_lane lane xs ++ of_lane lane ys
of_lanes lane xs ys = filter-append (λ (l : Line). nat_eq l.lane.n lane) xs ys

lanes_below : (lane n : ℕ) (ls : List Line) → n < lane → of_lane lane (lanes_up_to n ls) ≡ []
lanes_below lane zero ls low = refl
lanes_below lane (suc n) ls low = of_lanes lane (lanes_up_to n ls) (of_lane (suc n) ls)
    ∙ (λ i. lanes_below lane n ls (omega (arith, low)) i
    ++ none_of_lane lane (suc n) (of_lane (suc n) ls) (λ same. omega (arith, low, same))
    (of_lane_own (suc n) ls) i)

lanes_from : (lane n : ℕ) (ls : List Line) → 1 ≤ lane → lane ≤ n
    → of_lane lane (lanes_up_to n ls) ≡ of_lane lane ls
lanes_from lane zero ls some high = absurd (omega (arith, some, high))
lanes_from lane (suc n) ls some high =
    by (λ low. lanes_from lane n ls some low) (lane_cases (suc n) lane)
  where
    by : (lane ≤ n → of_lane lane (lanes_up_to n ls) ≡ of_lane lane ls)
        → (suc n ≡ lane) ⊎ (suc n ≡ lane → ⊥) → of_lane lane (lanes_up_to (suc n) ls) ≡ of_lane lane ls
    by rest (inl same) = of_lanes lane (lanes_up_to n ls) (of_lane (suc n) ls)
        ∙ ap (λ (k : List Line). k ++ of_lane lane (of_lane (suc n) ls))
        (lanes_below lane n ls (omega (arith, same)))
        ∙ ap (λ (m : ℕ). of_lane lane (of_lane m ls)) same
        ∙ all_of_lane lane (of_lane lane ls) (of_lane_own lane ls)
    by rest (inr off) = of_lanes lane (lanes_up_to n ls) (of_lane (suc n) ls)
        ∙ ap (λ (k : List Line). of_lane lane (lanes_up_to n ls) ++ k)
        (none_of_lane lane (suc n) (of_lane (suc n) ls) off (of_lane_own (suc n) ls))
        ∙ append-nil (of_lane lane (lanes_up_to n ls))
        ∙ rest (below (cases_lt lane (suc n)))
      where
        below : (lane < suc n) ⊎ (suc n ≤ lane) → lane ≤ n
        below (inl less) = omega (arith, less)
        below (inr more) = absurd (off (omega (arith, more, high)))

none_above : (nodes lane : ℕ) (before ls : List Line) → AreLines nodes before ls → 15 < lane
    → of_lane lane ls ≡ []
none_above nodes lane before [] are high = refl
none_above nodes lane before (l ∷ ls) are high =
    let low = are.0.lane.low in
    line_past lane l ls (λ same. omega (arith, low, high, same))
    ∙ none_above nodes lane (before ++ l ∷ []) ls are.1 high

-- by lane, the lines of a lane stand as they do in the script
pub lane_by_lane : (nodes lane : ℕ) (ls : List Line) → AreLines nodes [] ls → 1 ≤ lane
    → of_lane lane (by_lane ls) ≡ of_lane lane ls
lane_by_lane nodes lane ls are some = of_lanes lane (of_lane 0 ls) (lanes_up_to 15 ls)
    ∙ ap (λ (k : List Line). k ++ of_lane lane (lanes_up_to 15 ls))
    (none_of_lane lane 0 (of_lane 0 ls) (λ zero. omega (arith, some, zero)) (of_lane_own 0 ls))
    ∙ by (cases_lt 15 lane)
  where
    by : (15 < lane) ⊎ (lane ≤ 15) → of_lane lane (lanes_up_to 15 ls) ≡ of_lane lane ls
    by (inl high) = lanes_below lane 15 ls high ∙ sym (none_above nodes lane [] ls are high)
    by (inr low) = lanes_from lane 15 ls some low

-- ---- what a line among them is about
pub made_here : (ls : List Line) (l : Line) (name : List ℕ) → Has l ls → MakesName l.request name
    → IsNameMade ls l.lane.n name
made_here [] l name has makes = absurd has
made_here (k ∷ ls) l name (inl is) makes =
    inl (
      ap (λ (z : Line). z.lane.n) is,
      subst (λ (z : Line). MakesName z.request name) (sym is)
          makes,
    )
made_here (k ∷ ls) l name (inr later) makes = inr (made_here ls l name later makes)

-- a lane that makes a name by lane makes it in the script
pub made_in_script : (ls : List Line) (lane : ℕ) (name : List ℕ) → IsNameMade (by_lane ls) lane name
    → IsNameMade ls lane name
made_in_script ls lane name made = by (made_in_both (of_lane 0 ls) (lanes_up_to 15 ls) lane name made)
  where
    by : IsNameMade (of_lane 0 ls) lane name ⊎ IsNameMade (lanes_up_to 15 ls) lane name → IsNameMade ls lane name
    by (inl first) = (of_lane_made 0 ls lane name first).0
    by (inr other) = (lanes_made 15 ls lane name other).0

pub has_asked : (xs : List Answer) (a : Answer) → Has a xs → Has (asked a) (map asked xs)
has_asked [] a has = absurd has
has_asked (x ∷ xs) a (inl is) = inl (ap asked is)
has_asked (x ∷ xs) a (inr later) = inr (has_asked xs a later)
