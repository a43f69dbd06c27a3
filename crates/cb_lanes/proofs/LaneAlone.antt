-- A lane's own lines are answered beside other lanes as if the lane were alone, up to the first one
-- that lacks something.
use Rattle.std.proofs.Common.{◌≡◌, ◌⊎◌, ℕ, Bool, true, false, ◌&&◌, ◌||◌, List, [], ◌∷◌, ◌++◌}
use Rattle.std.proofs.Common.{Option, None, Some, inl, inr, sym, refl, ap, ◌∙◌, subst, eq-eqb}
use Rattle.std.proofs.Common.{if◌then◌else◌}
use Rattle.std.proofs.lemmas.Bool.{cases_Bool}
use Rattle.std.proofs.lemmas.Option.{none-some}
use Rattle.cb_types.specs.declared.answer.Answer.{Answer}
use Rattle.cb_types.specs.declared.config.Config.{Config}
use Rattle.cb_types.specs.Requests.{name_of}
use Rattle.cb_model.specs.Called.{first_of, handle_made, handle_of}
use Rattle.cb_model.proofs.Laws.{handle_of-push}
use Rattle.cb_script.specs.declared.script.Line.{Line}
use Rattle.cb_rule.specs.declared.view.View.{View}
use Rattle.cb_rule.specs.Lists.{Has}
use Rattle.cb_record.proofs.Laws.{has_right}
use Rattle.cb_shared.specs.Joining.{unpinned_all}
use Rattle.cb_lanes.specs.declared.body.Named.{Named}
use Rattle.cb_lanes.specs.Alone.{AloneSays, LaneState, alone_after, alone_more, fresh_lane}
use Rattle.cb_lanes.specs.Alone.{is_leave, is_maker, is_maker_of, is_own, leaves, own_name}
use Rattle.cb_lanes.specs.AloneUntil.{KeepAloneUntil, is_lack, lacks}
use Rattle.cb_lanes.specs.Bodies.{KnowsNames, LinesGo, handle_among, handle_behind}
use Rattle.cb_lanes.specs.KeepsOwn.{KeepsOwn}
use Rattle.cb_lanes.specs.LineGoes.{LineGoes}
use Rattle.cb_lanes.specs.Passing.{goes_in}
use Rattle.cb_lanes.proofs.ByAsk.{line_less}
use Rattle.cb_lanes.proofs.LineParts.{LineAdds, about, line_adds, told_as}
use Rattle.cb_lanes.proofs.LinesBack.{first_assoc, lines_add}
use Rattle.cb_lanes.proofs.NamesAmong.{among_known}
use Rattle.cb_lanes.proofs.OwnLine.{LeadsTo}
use Rattle.cb_lanes.proofs.OwnLines.{IsLaneLine, LineStepsOn, line_steps}
use Rattle.cb_lanes.proofs.OwnSays.{goes_own}
use Rattle.cb_lanes.proofs.OwnStands.{LanePinsStand, LaneStands, ObjectStands}
use Rattle.cb_lanes.proofs.OwnSteps.{Grew, OwnMore, grew_by, line_own}

-- each answer is to a line of the lane
abbrev pub AreLaneLines : List Line → ℕ → List Named → List Answer → List Answer → Type 0
AreLaneLines lines lane names before [] = Unit {0}
AreLaneLines lines lane names before (a ∷ after) = (a.lane.n ≡ lane)
    × IsLaneLine lines lane (λ p. handle_behind names before (Some p)) a.request a.reply
    × AreLaneLines lines lane names (before ++ a ∷ []) after

-- a lane that is told so of its own objects
abbrev pub LaneGoesOwn : Config → List Named → View → List Answer → View → Type 0
LaneGoesOwn c names v answers w = (between : View)
    × LinesGo (goes_own c) names [] v answers between × (w ≡ unpinned_all between)

-- ---- all lines
lines_old : (c : Config) (names : List Named) (before after : List Answer) (v w : View)
    → LinesGo (goes_own c) names before v after w → LinesGo (goes_in c) names before v after w
lines_old c names before [] v w x = x
lines_old c names before (a ∷ after) v w (m, one, rest) = (
  m,
  line_less (goes_own c) (goes_in c) v m a.reply (λ ask y. y.0)
      (handle_behind names before (name_of a.request)) a.request one,
  lines_old c names (before ++ a ∷ []) after m w rest,
)

lines_own : (c : Config) (names : List Named) (before after : List Answer) (v w : View)
    → LinesGo (goes_in c) names before v after w → OwnMore v w
lines_own c names before [] v w is k has = subst (λ (z : View). Has k z.own) (sym is) has
lines_own c names before (a ∷ after) v w (m, one, rest) k has =
    lines_own c names (before ++ a ∷ []) after m w rest k
    (line_own c (handle_behind names before (name_of a.request)) a.request a.reply v m one k has)

lines_lead : (c : Config) (names : List Named) (before after : List Answer) (v w : View)
    → KeepsOwn w
    → LinesGo (goes_in c) names before v after w → LeadsTo v w
lines_lead c names before after v w keeps x = let y =
    lines_add c names before after v w x in record {
      keeps = keeps;
      rest = y.0.written;
      grows = ap (λ (z : View). z.written) y.1;
      seen = λ s has. subst (λ (z : View). Has s z.seen) (sym y.1)
          (has_right s y.0.seen v.seen has);
      looks = λ l has. subst (λ (z : View). Has l z.looks) (sym y.1)
          (has_right l y.0.looks v.looks has);
      turns = λ t has. subst (λ (z : View). Has t z.turns) (sym y.1)
          (has_right t y.0.turns v.turns has);
      own = lines_own c names before after v w x;
    }

-- ---- the handle of a name after one line more
handle_more : (names : List Named) (before : List Answer) (a : Answer) (p : List ℕ)
    → handle_behind names (before ++ a ∷ []) (Some p)
    ≡ first_of (handle_made p a.request a.reply) (handle_behind names before (Some p))
handle_more names before a p = ap (λ (o : Option ℕ). first_of o (handle_among names p))
    (handle_of-push p before a)
    ∙ first_assoc (handle_made p a.request a.reply) (handle_of before p) (handle_among names p)

module _ (c : Config) (lines : List Line) (lane : ℕ) (names : List Named) where
  abbrev StandsBehind : List Answer → LaneState → View → Type 0
  StandsBehind before state v =
      LaneStands lines lane (λ p. handle_behind names before (Some p)) state v

  -- ---- whose a line is
  own_is : (a : Answer) → a.lane.n ≡ lane → is_own lines lane a ≡ is_maker_of lines lane
      (own_name a.request)
  own_is a same =
      ap (λ (b : Bool). b && is_maker_of lines lane (own_name a.request))
      (eq-eqb a.lane.n lane same)

  leave_is : (a : Answer) → a.lane.n ≡ lane → leaves lane a ≡ is_leave a.request
  leave_is a same = ap (λ (b : Bool). b && is_leave a.request) (eq-eqb a.lane.n lane same)

  -- ---- one line
  module _ (before : List Answer) (a : Answer) (state : LaneState) (v m w : View)
      (z : StandsBehind before state v) (same : a.lane.n ≡ lane) (leads : LeadsTo m w)
      (grew : Grew v m)
      (steps : LineStepsOn c lines lane (handle_behind names before)
      (λ p. handle_behind names (before ++ a ∷ []) (Some p)) state v m w z leads grew a.request
      a.reply)
      (room : lacks lines lane a ≡ false) where
    calm : is_own lines lane a ≡ true → is_lack a.reply ≡ false
    calm own = sym (ap (λ (b : Bool). b && is_lack a.reply) own) ∙ room

    says : is_own lines lane a ≡ true → AloneSays state a.request a.reply
    says own = (steps.own (sym (own_is a same) ∙ own) (calm own)).0

    moved : (is_own lines lane a || leaves lane a) ≡ true
        → StandsBehind (before ++ a ∷ []) (alone_after state a.request a.reply) m
        → StandsBehind (before ++ a ∷ []) (alone_more lines lane state a) m
    moved e y = subst (λ (b : Bool). StandsBehind (before ++ a ∷ [])
        (if b then alone_after state a.request a.reply else state) m) (sym e) y

    stands : StandsBehind (before ++ a ∷ []) (alone_more lines lane state a) m
    stands = by (cases_Bool (is_own lines lane a)) (cases_Bool (leaves lane a))
      where
        by : (is_own lines lane a ≡ true) ⊎ (is_own lines lane a ≡ false)
            → (leaves lane a ≡ true) ⊎ (leaves lane a ≡ false)
            → StandsBehind (before ++ a ∷ []) (alone_more lines lane state a) m
        by (inl own) leaving = moved (ap (λ (b : Bool). b || leaves lane a) own)
            (steps.own (sym (own_is a same) ∙ own) (calm own)).1
        by (inr not) (inl leaving) = moved (λ i. (not i) || (leaving i))
            (steps.leave (sym (leave_is a same) ∙ leaving))
        by (inr not) (inr off) = subst (λ (b : Bool). StandsBehind (before ++ a ∷ [])
            (if b then alone_after state a.request a.reply else state) m)
            (sym (λ i. (not i) || (off i)))
            (steps.other (sym (own_is a same) ∙ not) (sym (leave_is a same) ∙ off))

  -- ---- and those behind it
  keeps_until : (before after : List Answer) (state : LaneState) (v w : View) → KeepsOwn w
      → StandsBehind before state v → LinesGo (goes_own c) names before v after w
      → AreLaneLines lines lane names before after → KeepAloneUntil lines lane state after
  keeps_until before [] state v w keeps z goes are = tt
  keeps_until before (a ∷ after) state v w keeps z (m, one, rest) (same, is, others) = λ room. (
    says before a state v m w z same leads grew steps room,
    keeps_until (before ++ a ∷ []) after (alone_more lines lane state a) m w keeps
        (stands before a state v m w z same leads grew steps room) rest others,
  )
    where
      old : LineGoes (goes_in c) (handle_behind names before (name_of a.request)) a.request v
          a.reply m
      old = line_less (goes_own c) (goes_in c) v m a.reply (λ ask y. y.0)
          (handle_behind names before (name_of a.request)) a.request one

      adds : LineAdds v m (told_as
          (about (handle_behind names before (name_of a.request)) a.request a.reply)
          a.request a.reply)
      adds = line_adds c (handle_behind names before (name_of a.request)) a.request a.reply v m old

      grew : Grew v m
      grew = grew_by v m adds.0 adds.1
          (line_own c (handle_behind names before (name_of a.request)) a.request a.reply v m old)

      leads : LeadsTo m w
      leads = lines_lead c names (before ++ a ∷ []) after m w keeps
          (lines_old c names (before ++ a ∷ []) after m w rest)

      steps : LineStepsOn c lines lane (handle_behind names before)
          (λ p. handle_behind names (before ++ a ∷ []) (Some p)) state v m w z leads grew a.request
          a.reply
      steps = line_steps c lines lane (handle_behind names before)
          (λ p. handle_behind names (before ++ a ∷ []) (Some p)) state v m w z leads grew a.request
          a.reply one adds is
          (handle_more names before a)

  -- ---- the start
  begins : (v : View) → v.pins ≡ [] → v.fresh ≡ [] → KnowsNames v names
      → ((p : List ℕ) → is_maker lines lane p ≡ true → handle_among names p ≡ None)
      → StandsBehind [] fresh_lane v
  begins v none fresh knows own = record {
    fresh = fresh;
    knows = λ p h is. among_known names v p h knows is;
    apart = λ p q h mine at there. absurd (none-some h (sym (own p mine) ∙ at));
    objects = λ p mine. subst (λ (o : Option ℕ). ObjectStands o v None) (sym (own p mine)) refl;
    pins = subst (LanePinsStand lines lane (λ p. handle_behind names [] (Some p)) v.written [])
        (sym none) tt;
  }

  -- A lane whose pass has no pins at the start, and whose own names were not made before: its own
  -- lines are answered as if it were alone, up to the first one that lacks something.
  pub lane_alone_until : (answers : List Answer) (v w : View) → v.pins ≡ [] → v.fresh ≡ []
      → KnowsNames v names
      → ((p : List ℕ) → is_maker lines lane p ≡ true → handle_among names p ≡ None)
      → LaneGoesOwn c names v answers w → KeepsOwn w → AreLaneLines lines lane names [] answers
      → KeepAloneUntil lines lane fresh_lane answers
  lane_alone_until answers v w none fresh knows own (m, goes, is) keeps are =
      keeps_until [] answers fresh_lane v m
      (let kept = subst KeepsOwn is keeps in
      record { order = kept.order; read = kept.read; long = kept.long; makes = kept.makes })
      (begins v none fresh knows own) goes are
