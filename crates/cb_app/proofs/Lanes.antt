-- The lines of a lane, and that a name that one lane made and uses was made by no other.
use Rattle.std.proofs.Common.{◌≡◌, ℕ, zero, suc, ◌≤◌, Bool, cond, List, [], ◌∷◌, ◌++◌, ◌⊎◌, inl, inr, true, sym, ap, ◌∙◌, subst, append_assoc, arith}
use Rattle.std.specs.Prelude.{nat_eq}
use Rattle.std.specs.List.{AllByRecursion}
use Rattle.std.proofs.lemmas.Bool.{cases_Bool}
use Rattle.std.proofs.lemmas.List.{append-nil}
use Rattle.cb_types.specs.declared.request.Request.{Request}
use Rattle.cb_types.specs.declared.request.Request.TheVariants.{Make, Read, Write, Free, Pin, Peek, Unpin, Filter}
use Rattle.cb_script.specs.declared.script.Line.{Line}
use Rattle.cb_script.specs.Form.{AreLines, IsNameKnown, IsNameMade, IsNameNew, KnowsName, MakesName, MayFollow}
use Rattle.cb_script.proofs.PublicLaws.{made_cases}
use Rattle.cb_model.specs.Legal.{WasTold}
use Rattle.cb_app.specs.ByLane.{AreLanesApart, AreOfOthers, IsApart, IsUsed, Uses, by_lane, flat, lanes_up_to, of_lane}
use Rattle.cb_lanes.proofs.Laws.{all_both, all_map, made_in_front}

-- ---- lists of lines, one behind the other

pub made_in_both : (xs ys : List Line) (lane : ℕ) (name : List ℕ) → IsNameMade (xs ++ ys) lane name
    → IsNameMade xs lane name ⊎ IsNameMade ys lane name
made_in_both [] ys lane name is = inr is
made_in_both (x ∷ xs) ys lane name (inl here) = inl (inl here)
made_in_both (x ∷ xs) ys lane name (inr later) =
    elim (made_in_both xs ys lane name later) [ inl p ↦ inl (inr p) | inr q ↦ inr q ]

-- ---- one lane

one_lane : (lane : ℕ) (l : Line) → nat_eq l.lane.n lane ≡ true → l.lane.n ≡ lane
one_lane lane l is = grind (arith, is)

pub of_lane_made : (n : ℕ) (lines : List Line) (lane : ℕ) (name : List ℕ)
    → IsNameMade (of_lane n lines) lane name → IsNameMade lines lane name × (lane ≡ n)
of_lane_made n [] lane name is = absurd is
of_lane_made n (l ∷ lines) lane name is = elim (cases_Bool (nat_eq l.lane.n n)) [
  | inl same ↦
      let is' : IsNameMade (l ∷ of_lane n lines) lane name =
      subst (λ (b : Bool). IsNameMade (cond b (l ∷ of_lane n lines) (of_lane n lines)) lane name) same is in
      elim is' [
        | inl here ↦ (inl here, sym here.0 ∙ one_lane n l same)
        | inr later ↦ let e = of_lane_made n lines lane name later in (inr e.0, e.1)
      ]
  | inr other ↦
      let is' : IsNameMade (of_lane n lines) lane name =
      subst (λ (b : Bool). IsNameMade (cond b (l ∷ of_lane n lines) (of_lane n lines)) lane name) other is in
      let e = of_lane_made n lines lane name is' in (inr e.0, e.1)
]

pub lanes_made : (n : ℕ) (lines : List Line) (lane : ℕ) (name : List ℕ)
    → IsNameMade (lanes_up_to n lines) lane name → IsNameMade lines lane name × (1 ≤ lane)
    × (lane ≤ n)
lanes_made zero lines lane name is = absurd is
lanes_made (suc n) lines lane name is =
    elim (made_in_both (lanes_up_to n lines) (of_lane (suc n) lines) lane name is) [
      | inl before ↦ let e = lanes_made n lines lane name before in (e.0, e.1, omega (arith, e.2))
      | inr here ↦ let e = of_lane_made (suc n) lines lane name here in
          (e.0, omega (arith, e.1), omega (arith, e.1))
    ]

-- ---- a name that a line uses is known to its lane

uses_known : (before : List Line) (lane : ℕ) (r : Request) (name : List ℕ)
    → IsNameKnown before lane r
    → Uses r name → KnowsName before lane name
uses_known before lane (Make made bytes) name is uses = absurd uses
uses_known before lane (Read q) name is uses = let e : q ≡ name = cc in subst (KnowsName before lane) e is
uses_known before lane (Write q at bytes) name is uses = let e : q ≡ name = cc in subst (KnowsName before lane) e is
uses_known before lane (Free q) name is uses = let e : q ≡ name = cc in subst (KnowsName before lane) e is
uses_known before lane (Pin q) name is uses = let e : q ≡ name = cc in subst (KnowsName before lane) e is
uses_known before lane (Peek q) name is uses = let e : q ≡ name = cc in subst (KnowsName before lane) e is
uses_known before lane (Unpin q) name is uses = let e : q ≡ name = cc in subst (KnowsName before lane) e is
uses_known before lane (Filter q) name is uses = let e : q ≡ name = cc in subst (KnowsName before lane) e is
uses_known before lane _ name is uses = absurd cc

known_in_front : (xs ys : List Line) (lane : ℕ) (name : List ℕ) → KnowsName xs lane name
    → KnowsName (xs ++ ys) lane name
known_in_front xs ys lane name (inl own) = inl (made_in_front xs ys lane name own)
known_in_front xs ys lane name (inr shared) = inr (made_in_front xs ys 0 name shared)

pub used_known : (nodes n : ℕ) (before after : List Line) (name : List ℕ) → AreLines nodes before after
    → IsUsed (of_lane n after) name → KnowsName (before ++ after) n name
used_known nodes n before [] name are used = absurd used
used_known nodes n before (l ∷ after) name are used =
    let later : IsUsed (of_lane n after) name → KnowsName (before ++ l ∷ after) n name =
    λ q. subst (λ (xs : List Line). KnowsName xs n name) (append_assoc before (l ∷ []) after)
    (used_known nodes n (before ++ l ∷ []) after name are.1 q) in
    elim (cases_Bool (nat_eq l.lane.n n)) [
      | inl same ↦
          let used' : IsUsed (l ∷ of_lane n after) name =
          subst (λ (b : Bool). IsUsed (cond b (l ∷ of_lane n after) (of_lane n after)) name) same used in
          elim used' [
            | inl here ↦ subst (λ (m : ℕ). KnowsName (before ++ l ∷ after) m name) (one_lane n l same)
                (known_in_front before (l ∷ after) l.lane.n name (uses_known before l.lane.n l.request name are.0.known here))
            | inr q ↦ later q
          ]
      | inr other ↦
          later (subst (λ (b : Bool). IsUsed (cond b (l ∷ of_lane n after) (of_lane n after)) name) other used)
    ]

-- ---- a name has one maker

abbrev pub HaveOneMaker : List Line → Type 0
HaveOneMaker lines = (name : List ℕ) (m n : ℕ) → IsNameMade lines m name → IsNameMade lines n name
    → m ≡ n

pub new_name : (before : List Line) (lane : ℕ) (r : Request) (name : List ℕ)
    → IsNameKnown before lane r
    → MakesName r name → IsNameNew before name
new_name before lane (Make made bytes) name is makes = subst (IsNameNew before) makes is
new_name before lane _ name is makes = absurd makes

one_maker_more : (nodes : ℕ) (before : List Line) (l : Line) → HaveOneMaker before
    → MayFollow nodes before l → HaveOneMaker (before ++ l ∷ [])
one_maker_more nodes before l one follows name m n p q =
    elim (made_cases before l m name p) [
      | inl m_before ↦ elim (made_cases before l n name q) [
        | inl n_before ↦ one name m n m_before n_before
        | inr n_here ↦ absurd (new_name before l.lane.n l.request name follows.known n_here.1 m m_before)
      ]
      | inr m_here ↦ elim (made_cases before l n name q) [
        | inl n_before ↦ absurd (new_name before l.lane.n l.request name follows.known m_here.1 n n_before)
        | inr n_here ↦ sym m_here.0 ∙ n_here.0
      ]
    ]

one_maker_behind : (nodes : ℕ) (before after : List Line) → AreLines nodes before after
    → HaveOneMaker before → HaveOneMaker (before ++ after)
one_maker_behind nodes before [] are one = subst HaveOneMaker (sym (append-nil before)) one
one_maker_behind nodes before (l ∷ after) are one =
    subst HaveOneMaker (append_assoc before (l ∷ []) after)
    (one_maker_behind nodes (before ++ l ∷ []) after are.1 (one_maker_more nodes before l one are.0))

pub one_maker : (nodes : ℕ) (lines : List Line) → AreLines nodes [] lines → HaveOneMaker lines
one_maker nodes lines are = one_maker_behind nodes [] lines are (λ name m n p q. absurd p)

-- ---- so the lines of a lane are about no name that a lane between 0 and this one made

pub lane_is_apart : (nodes n : ℕ) (lines : List Line) → AreLines nodes [] lines
    → IsApart (lanes_up_to n lines) (of_lane (suc n) lines)
lane_is_apart nodes n lines are name used lane made =
    let at = lanes_made n lines lane name made in
    elim (used_known nodes (suc n) [] lines name are used) [
      | inl own ↦ absurd (let e : lane ≡ suc n = one_maker nodes lines are name lane (suc n) at.0 own in omega (arith, e, at.2))
      | inr shared ↦ absurd (let e : lane ≡ 0 = one_maker nodes lines are name lane 0 at.0 shared in omega (arith, e, at.1))
    ]

pub no_lines_apart : (before : List Line) → IsApart before []
no_lines_apart before name used lane made = absurd used

-- ---- nor was the lane told what those lanes were answered

abbrev pub IsOfLane : ℕ → Line → Type 0
IsOfLane n l = l.lane.n ≡ n

abbrev IsUpTo : ℕ → Line → Type 0
IsUpTo n l = (1 ≤ l.lane.n) × (l.lane.n ≤ n)

pub of_lane_own : (n : ℕ) (lines : List Line) → AllByRecursion (IsOfLane n) (of_lane n lines)
of_lane_own n [] = tt
of_lane_own n (l ∷ lines) = elim (cases_Bool (nat_eq l.lane.n n)) [
  | inl same ↦ let at = one_lane n l same in let later = of_lane_own n lines in rw same (at, later)
  | inr other ↦ let later = of_lane_own n lines in rw other later
]

own_up_to : (n : ℕ) (l : Line) → IsOfLane (suc n) l → IsUpTo (suc n) l
own_up_to n l is = (omega (arith, is), omega (arith, is))

up_to_more : (n : ℕ) (l : Line) → IsUpTo n l → IsUpTo (suc n) l
up_to_more n l is = let below = is.1 in (is.0, omega (arith, below))

lanes_low : (n : ℕ) (lines : List Line) → AllByRecursion (IsUpTo n) (lanes_up_to n lines)
lanes_low zero lines = tt
lanes_low (suc n) lines = all_both (IsUpTo (suc n)) (lanes_up_to n lines) (of_lane (suc n) lines)
    (all_map (IsUpTo n) (IsUpTo (suc n)) (lanes_up_to n lines) (up_to_more n) (lanes_low n lines))
    (all_map (IsOfLane (suc n)) (IsUpTo (suc n)) (of_lane (suc n) lines) (own_up_to n)
    (of_lane_own (suc n) lines))

not_told : (n : ℕ) (b l : Line) → IsUpTo n b → IsOfLane (suc n) l → WasTold b.lane.n l.lane.n → ⊥
not_told n b l low own (inl same) = let below = low.1 in omega (arith, below, own, same)
not_told n b l low own (inr first) = let above = low.0 in omega (arith, above, first)

pub lane_is_of_others : (n : ℕ) (lines : List Line)
    → AreOfOthers (lanes_up_to n lines) (of_lane (suc n) lines)
lane_is_of_others n lines = all_map (IsUpTo n)
    (λ b. AllByRecursion (λ (l : Line). WasTold b.lane.n l.lane.n → ⊥) (of_lane (suc n) lines))
    (lanes_up_to n lines)
    (λ b low. all_map (IsOfLane (suc n)) (λ l. WasTold b.lane.n l.lane.n
    → ⊥) (of_lane (suc n) lines)
    (λ l own. not_told n b l low own) (of_lane_own (suc n) lines)) (lanes_low n lines)

pub no_lines_of_others : (before : List Line) → AreOfOthers before []
no_lines_of_others [] = tt
no_lines_of_others (b ∷ before) = (tt, no_lines_of_others before)

-- ---- what holds of all lines holds of them by lane

of_lane_all : (P : Line → Type 0) (n : ℕ) (lines : List Line) → AllByRecursion P lines
    → AllByRecursion P (of_lane n lines)
of_lane_all P n [] all = tt
of_lane_all P n (l ∷ lines) all = elim (cases_Bool (nat_eq l.lane.n n)) [
  | inl same ↦ let at = all.0 in let later = of_lane_all P n lines all.1 in rw same (at, later)
  | inr other ↦ let later = of_lane_all P n lines all.1 in rw other later
]

lanes_all : (P : Line → Type 0) (n : ℕ) (lines : List Line) → AllByRecursion P lines
    → AllByRecursion P (lanes_up_to n lines)
lanes_all P zero lines all = tt
lanes_all P (suc n) lines all = all_both P (lanes_up_to n lines) (of_lane (suc n) lines)
    (lanes_all P n lines all) (of_lane_all P (suc n) lines all)

pub by_lane_all : (P : Line → Type 0) (lines : List Line) → AllByRecursion P lines
    → AllByRecursion P (by_lane lines)
by_lane_all P lines all = all_both P (of_lane 0 lines) (lanes_up_to 15 lines)
    (of_lane_all P 0 lines all) (lanes_all P 15 lines all)

-- ---- one list of lines more

pub flat-push : (lists : List (List Line)) (xs : List Line) → flat (lists ++ xs ∷ []) ≡ flat lists ++ xs
flat-push [] xs = append-nil xs
flat-push (ys ∷ lists) xs =
    ap (λ (zs : List Line). ys ++ zs) (flat-push lists xs) ∙ sym (append_assoc ys (flat lists) xs)

pub apart-push : (before : List Line) (lists : List (List Line)) (xs : List Line) → AreLanesApart before lists
    → IsApart (before ++ flat lists) xs → AreOfOthers (before ++ flat lists) xs
    → AreLanesApart before (lists ++ xs ∷ [])
apart-push before [] xs are is others = (
  subst (λ (ls : List Line). IsApart ls xs) (append-nil before) is,
  subst (λ (ls : List Line). AreOfOthers ls xs) (append-nil before) others,
  tt,
)
apart-push before (ys ∷ lists) xs are is others = (
  are.0,
  are.1,
  apart-push (before ++ ys) lists xs are.2
      (subst (λ (ls : List Line). IsApart ls xs) (sym (append_assoc before ys (flat lists))) is)
      (subst (λ (ls : List Line). AreOfOthers ls xs) (sym (append_assoc before ys (flat lists))) others),
)
