-- The own lines of lanes are answered as if each lane were alone, once all answers of the script are
-- known.
use Rattle.std.proofs.Common.{◌≡◌, ◌⊎◌, ℕ, ◌≤◌, List, [], ◌∷◌, ◌++◌, map, inl, inr, refl, sym, ap, ◌∙◌, subst, arith}
use Rattle.std.specs.List.{AllByRecursion}
use Rattle.std.proofs.lemmas.List.{append-nil}
use Rattle.std.proofs.lemmas.List.Elements.{filter-append}
use Rattle.cb_types.specs.declared.answer.Answer.{Answer}
use Rattle.cb_types.specs.declared.config.Config.{Config}
use Rattle.cb_script.specs.declared.script.Line.{Line}
use Rattle.cb_script.specs.Form.{IsNameMade, MakesName}
use Rattle.cb_rule.specs.Lists.{Has}
use Rattle.cb_model.specs.Legal.{WasTold}
use Rattle.cb_record.proofs.Laws.{has_left, has_right}
use Rattle.cb_lanes.specs.declared.body.Named.{Named}
use Rattle.cb_lanes.specs.Alone.{HasOwnLines, fresh_lane}
use Rattle.cb_lanes.specs.AloneUntil.{AreShared, KeepAloneUntil, LaneKeepsAlone}
use Rattle.cb_lanes.specs.Asked.{asked}
use Rattle.cb_lanes.specs.Bodies.{AreNamesOf}
use Rattle.cb_lanes.specs.Scoped.{IsMadeAs}
use Rattle.cb_lanes.proofs.Laws.{AreOfLane, NoneOfLane, handle_is_made, maker_of, none_until, until_before, until_behind, made_request}
use Rattle.cb_app.specs.ByLane.{AreOfOthers, of_lane}
use Rattle.cb_app.specs.Crew.{AreFirst}
use Rattle.cb_app.specs.OwnLines.{AreAllOf, AreAmong, KeepAloneWith, to_lane}
use Rattle.cb_app.proofs.OfLane.{HasLaneAnswer, all_to_lane, asked_to_lane, has_asked, has_either, lane_by_lane, lane_cases, made_here, made_in_script, none_to_lane, of_each, some_or_none}

-- ---- answers behind those of other lanes
none_both : (lane : ℕ) (xs ys : List Answer) → NoneOfLane lane xs → NoneOfLane lane ys
    → NoneOfLane lane (xs ++ ys)
none_both lane [] ys a b = b
none_both lane (x ∷ xs) ys a b = (a.0, none_both lane xs ys a.1 b)

first_are_none : (lane : ℕ) (given : List Answer) → AreFirst given → 1 ≤ lane → NoneOfLane lane given
first_are_none lane [] first some = tt
first_are_none lane (a ∷ given) first some = (
  λ same. let zero = first.0 in absurd (omega (arith, zero, same, some)),
  first_are_none lane given first.1 some,
)

line_at : (P : Line → Type 0) (xs : List Answer) (a : Answer) → AllByRecursion P (map asked xs)
    → Has a xs → P (asked a)
line_at P [] a all has = absurd has
line_at P (x ∷ xs) a all (inl is) = subst (λ (z : Answer). P (asked z)) is all.0
line_at P (x ∷ xs) a all (inr later) = line_at P xs a all.1 later

others_are_none : (lane : ℕ) (others after : List Answer)
    → AreOfOthers (map asked others) (map asked after) → HasLaneAnswer lane after
    → NoneOfLane lane others
others_are_none lane [] after none some = tt
others_are_none lane (o ∷ others) after none some = (
  λ same. line_at (λ l. WasTold o.lane.n l.lane.n → ⊥) after some.answer none.0 some.there
      (inl (same ∙ sym some.own)),
  others_are_none lane others after none.1 some,
)

pub alone_joined : (nodes : ℕ) (given others after answers : List Answer)
    → answers ≡ given ++ others → AreFirst given → AreOfOthers (map asked others) (map asked after)
    → KeepAloneWith nodes [] answers → KeepAloneWith nodes given after
    → KeepAloneWith nodes [] (answers ++ after)
alone_joined nodes given others after answers are first none old new lines all whole among
    lane own same = by (some_or_none lane after)
  where
    split : to_lane lane (answers ++ after) ≡ to_lane lane answers ++ to_lane lane after
    split = filter-append _ answers after

    behind : AreAmong (given ++ after) all
    behind a has = among a (to (has_either a given after has))
      where
        to : Has a given ⊎ Has a after → Has a (answers ++ after)
        to (inl front) =
            has_left a answers after (subst (Has a) (sym are) (has_left a given others front))
        to (inr back) = has_right a answers after back

    by : HasLaneAnswer lane after ⊎ NoneOfLane lane after
        → KeepAloneUntil lines lane fresh_lane (answers ++ after)
    by (inr off) = until_before lines lane fresh_lane answers after off
        (old lines all whole (λ a has. among a (has_left a answers after has))
        lane own (sym (split ∙ ap (λ (l : List Answer). to_lane lane answers ++ l)
        (none_to_lane lane after off) ∙ append-nil (to_lane lane answers)) ∙ same))
    by (inl some) =
        let off : NoneOfLane lane answers = subst (NoneOfLane lane) (sym are)
        (none_both lane given others (first_are_none lane given first own.from_one)
        (others_are_none lane others after none some)) in
        until_behind lines lane fresh_lane answers after off
        (new lines all whole behind lane own
        (sym (split ∙ ap (λ (l : List Answer). l ++ to_lane lane after)
        (none_to_lane lane answers off)) ∙ same))

-- a worker answers nothing
pub none_alone : (nodes : ℕ) (given answers : List Answer) → answers ≡ []
    → KeepAloneWith nodes given answers
none_alone nodes given answers none =
    subst (KeepAloneWith nodes given) (sym none) (λ lines all whole among lane own same. tt)

-- ---- a lane
-- the answer that made a name
record HasMaker (xs : List Answer) (name : List ℕ) : Type 0 where
  answer : Answer
  there : Has answer xs
  makes : MakesName answer.request name

maker_in : (xs : List Answer) (name : List ℕ) (h : ℕ) → IsMadeAs xs name h → HasMaker xs name
maker_in [] name h made = absurd made
maker_in (x ∷ xs) name h (inl here) =
    record { answer = x; there = inl refl; makes = made_request name x.request x.reply h here }
maker_in (x ∷ xs) name h (inr later) =
    let z = maker_in xs name h later in
    record { answer = z.answer; there = inr z.there; makes = z.makes }

-- a lane among all lanes
module _ (c : Config) (lane : ℕ) (given answers : List Answer) (of : AreOfLane lane answers)
    (first : AreFirst given) (lines : List Line) (all : List Answer)
    (whole : AreAllOf c.nodes lines all) (among : AreAmong (given ++ answers) all) where
  -- what an answer makes its lane makes in the script
  made_by_line : (a : Answer) (name : List ℕ) → Has a all → MakesName a.request name
      → IsNameMade lines a.lane.n name
  made_by_line a name has makes = made_in_script lines a.lane.n name
      (subst (λ (l : List Line). IsNameMade l a.lane.n name) whole.lines_are
      (made_here (map asked all) (asked a) name (has_asked all a has) makes))

  -- the names that it was given lane 0 makes
  shared : (names : List Named) → AreNamesOf names given → AreShared lines names
  shared names named p h is = let z = maker_in given p h (handle_is_made given p h (named p ∙ is)) in
      maker_of lines 0 p (subst (λ (n : ℕ). IsNameMade lines n p)
      (of_each (λ a. a.lane.n ≡ 0) given z.answer first z.there)
      (made_by_line z.answer p (among z.answer (has_left z.answer given answers z.there)) z.makes))

  -- and its lines are all that the script has of it
  lines_are : 1 ≤ lane → to_lane lane answers ≡ to_lane lane all
      → map asked answers ≡ of_lane lane lines
  lines_are some same = ap (map asked) (sym (all_to_lane lane answers of) ∙ same)
      ∙ asked_to_lane lane all ∙ ap (of_lane lane) whole.lines_are
      ∙ lane_by_lane c.nodes lane lines whole.script some

pub lane_alone_with : (c : Config) (lane : ℕ) (names : List Named) (given answers : List Answer)
    (lines : List Line) → AreOfLane lane answers → map asked answers ≡ lines
    → LaneKeepsAlone c.nodes lane names lines answers → AreNamesOf names given → AreFirst given
    → KeepAloneWith c.nodes given answers
lane_alone_with c lane names given answers lines of are alone named first ls all whole among n own
    same = by (lane_cases lane n)
  where
    other : (lane ≡ n → ⊥) → (xs : List Answer) → AreOfLane lane xs → NoneOfLane n xs
    other off [] of = tt
    other off (x ∷ xs) of = (λ is. off (sym of.0 ∙ is), other off xs of.1)

    mine : (m : ℕ) → lane ≡ m → HasOwnLines ls m → to_lane m answers ≡ to_lane m all
        → KeepAloneUntil ls m fresh_lane answers
    mine m is has eq = subst (λ (k : ℕ). KeepAloneUntil ls k fresh_lane answers) is
        (let has_own : HasOwnLines ls lane = subst (HasOwnLines ls) (sym is) has in
        let to_own : to_lane lane answers ≡ to_lane lane all =
        subst (λ (k : ℕ). to_lane k answers ≡ to_lane k all) (sym is) eq in
        alone ls whole.script has_own
        (sym are ∙ lines_are c lane given answers of first ls all whole among has_own.from_one to_own)
        (shared c lane given answers of first ls all whole among names named))

    by : (lane ≡ n) ⊎ (lane ≡ n → ⊥) → KeepAloneUntil ls n fresh_lane answers
    by (inl is) = mine n is own same
    by (inr off) = none_until ls n fresh_lane answers (other off answers of)
