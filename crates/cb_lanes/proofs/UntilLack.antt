-- What a lane's own lines are answered until one lacks something: among answers of other lanes, and
-- where none lacks anything.
use Rattle.std.proofs.Common.{◌≡◌, ℕ, Bool, true, false, ◌&&◌, ◌||◌, List, [], ◌∷◌, ◌++◌, refl, sym}
use Rattle.std.proofs.Common.{ap, ◌∙◌, subst, ne_eqb, if◌then◌else◌}
use Rattle.std.specs.List.{AllByRecursion}
use Rattle.std.proofs.lemmas.Bool.{true≢false}
use Rattle.cb_types.specs.declared.answer.Answer.{Answer}
use Rattle.cb_script.specs.declared.script.Line.{Line}
use Rattle.cb_lanes.specs.Alone.{KeepAlone, LaneState, alone_after, alone_more}
use Rattle.cb_lanes.specs.Alone.{is_leave, is_maker_of, is_own, leaves, own_name}
use Rattle.cb_lanes.specs.AloneUntil.{KeepAloneUntil, is_lack, lacks}

-- none of the answers is of the lane
abbrev pub NoneOfLane : ℕ → List Answer → Type 0
NoneOfLane lane answers = AllByRecursion (λ (a : Answer). a.lane.n ≡ lane → ⊥) answers

-- ---- answers of other lanes
module _ (lines : List Line) (lane : ℕ) where
  not_own : (a : Answer) → (a.lane.n ≡ lane → ⊥) → is_own lines lane a ≡ false
  not_own a off = ap (λ (b : Bool). b && is_maker_of lines lane (own_name a.request))
      (ne_eqb a.lane.n lane off)

  not_left : (a : Answer) → (a.lane.n ≡ lane → ⊥) → leaves lane a ≡ false
  not_left a off = ap (λ (b : Bool). b && is_leave a.request) (ne_eqb a.lane.n lane off)

  not_moved : (state : LaneState) (a : Answer) → (a.lane.n ≡ lane → ⊥)
      → alone_more lines lane state a ≡ state
  not_moved state a off = ap
      (λ (b : Bool). if b then alone_after state a.request a.reply else state)
      (λ i. not_own a off i || not_left a off i)

  -- behind such answers
  pub until_behind : (state : LaneState) (others own : List Answer) → NoneOfLane lane others
      → KeepAloneUntil lines lane state own → KeepAloneUntil lines lane state (others ++ own)
  until_behind state [] own none keep = keep
  until_behind state (a ∷ others) own none keep = λ room. (
    λ mine. absurd (true≢false (sym mine ∙ not_own a none.0)),
    subst (λ (z : LaneState). KeepAloneUntil lines lane z (others ++ own))
        (sym (not_moved state a none.0)) (until_behind state others own none.1 keep),
  )

  pub none_until : (state : LaneState) (others : List Answer) → NoneOfLane lane others
      → KeepAloneUntil lines lane state others
  none_until state [] none = tt
  none_until state (a ∷ others) none = λ room. (
    λ mine. absurd (true≢false (sym mine ∙ not_own a none.0)),
    subst (λ (z : LaneState). KeepAloneUntil lines lane z others)
        (sym (not_moved state a none.0)) (none_until state others none.1),
  )

  -- and before them
  pub until_before : (state : LaneState) (own others : List Answer) → NoneOfLane lane others
      → KeepAloneUntil lines lane state own → KeepAloneUntil lines lane state (own ++ others)
  until_before state [] others none keep = none_until state others none
  until_before state (a ∷ own) others none keep = λ room.
      let z = keep room in
      (z.0, until_before (alone_more lines lane state a) own others none z.1)

  -- ---- where no own line lacks anything
  pub keep_alone : (state : LaneState) (answers : List Answer)
      → AllByRecursion (λ a. lacks lines lane a ≡ false) answers
      → KeepAloneUntil lines lane state answers → KeepAlone lines lane state answers
  keep_alone state [] room keep = tt
  keep_alone state (a ∷ answers) room keep =
      let z = keep room.0 in
      (z.0, keep_alone (alone_more lines lane state a) answers room.1 z.1)

  no_lack : (a : Answer) → is_lack a.reply ≡ false → lacks lines lane a ≡ false
  no_lack a none = ap (λ (b : Bool). is_own lines lane a && b) none ∙ by (is_own lines lane a)
    where
      by : (b : Bool) → (b && false) ≡ false
      by true = refl
      by false = refl

  pub none_lacks : (answers : List Answer) → AllByRecursion (λ a. is_lack a.reply ≡ false) answers
      → AllByRecursion (λ a. lacks lines lane a ≡ false) answers
  none_lacks [] none = tt
  none_lacks (a ∷ answers) none = (no_lack a none.0, none_lacks answers none.1)
