-- The lines of a lane of a script are such as are known of a lane's lines.
use Rattle.std.proofs.Common.{◌≡◌, ◌⊎◌, ℕ, ◌≤◌, Bool, true, false, ◌&&◌, List, [], ◌∷◌, ◌++◌, map}
use Rattle.std.proofs.Common.{Option, None, Some, inl, inr, sym, refl, ap, ◌∙◌, subst, eq-eqb}
use Rattle.std.proofs.Common.{nat_eq, append_assoc, arith, if◌then◌else◌}
use Rattle.std.specs.List.{AllByRecursion, list_any}
use Rattle.std.specs.Str.{bytes_eq}
use Rattle.std.proofs.lemmas.Bool.{cases_Bool, eqb-true, true≢false, or_parts}
use Rattle.std.proofs.lemmas.List.{append-nil, map_push}
use Rattle.std.proofs.lemmas.List.Elements.{filter-append}
use Rattle.std.proofs.lemmas.Slice.Eq.{bytes_eq-Decides}
use Rattle.cb_types.specs.declared.answer.Answer.{Answer}
use Rattle.cb_types.specs.declared.config.Config.{Config}
use Rattle.cb_types.specs.declared.request.Request.{Request}
use Rattle.cb_types.specs.declared.request.Request.TheVariants.{Make, Pin}
use Rattle.cb_types.specs.declared.reply.Reply.{Reply}
use Rattle.cb_types.specs.declared.reply.Reply.TheVariants as answer
use Rattle.cb_types.specs.Requests.{name_of}
use Rattle.cb_model.specs.Called.{first_of, handle_made, handle_of}
use Rattle.cb_script.specs.declared.script.Line.{Line}
use Rattle.cb_script.specs.Form.{AreLines, IsNameKnown, IsNameMade, IsNameNew, KnowsName, MakesName}
use Rattle.cb_rule.specs.declared.view.View.{View}
use Rattle.cb_lanes.specs.declared.body.Named.{Named}
use Rattle.cb_lanes.specs.Alone.{HasOwnLines, fresh_lane, is_maker, pins_shared}
use Rattle.cb_lanes.specs.AloneUntil.{KeepAloneUntil, LaneKeepsAlone}
use Rattle.cb_lanes.specs.Asked.{HasLineReply, asked}
use Rattle.cb_lanes.specs.Bodies.{KnowsNames, LaneGoes, LinesGo, handle_among, handle_behind}
use Rattle.cb_lanes.specs.Bodies.{of_lane}
use Rattle.cb_lanes.specs.KeepsOwn.{KeepsOwn}
use Rattle.cb_lanes.specs.Passing.{goes_in}
use Rattle.cb_lanes.proofs.AloneLines.{maker_of, one_maker}
use Rattle.cb_lanes.proofs.ByAsk.{line_less}
use Rattle.cb_lanes.proofs.LaneAlone.{AreLaneLines, LaneGoesOwn, lane_alone_until}
use Rattle.cb_lanes.proofs.Lists.{all_push, heads_same}
use Rattle.cb_lanes.proofs.OwnLines.{IsLaneLine}
use Rattle.cb_lanes.proofs.OwnSays.{goes_own}
use Rattle.cb_lanes.proofs.OwnTold.{ask_tells}

no_line : (l : Line) (xs : List Line) → l ∷ xs ≡ [] → ⊥
no_line l xs e = absurd cc

-- ---- names that are made
pub made_in_front : (front back : List Line) (k : ℕ) (p : List ℕ) → IsNameMade front k p
    → IsNameMade (front ++ back) k p
made_in_front [] back k p made = absurd made
made_in_front (l ∷ front) back k p (inl x) = inl x
made_in_front (l ∷ front) back k p (inr x) = inr (made_in_front front back k p x)

made_at : (front back : List Line) (l : Line) (p : List ℕ) → MakesName l.request p
    → IsNameMade (front ++ l ∷ back) l.lane.n p
made_at [] back l p makes = inl (refl, makes)
made_at (k ∷ front) back l p makes = inr (made_at front back l p makes)

pub made_request : (name : List ℕ) (q : Request) (r : Reply) (h : ℕ) → handle_made name q r ≡ Some h
    → MakesName q name
made_request name (Make made bytes) (answer.Made hd version) h is =
    by (cases_Bool (bytes_eq made name))
  where
    by : (bytes_eq made name ≡ true) ⊎ (bytes_eq made name ≡ false) → made ≡ name
    by (inl e) = (bytes_eq-Decides made name).0 e
    by (inr e) = absurd (let z : None ≡ Some h =
        sym (ap (λ (b : Bool). if b then Some hd.n else None) e) ∙ is in cc)
made_request name (Make made bytes) r h is = absurd cc
made_request name q r h is = absurd cc

-- a name with a handle was made by the lines that were answered
handle_makes : (p : List ℕ) (h : ℕ) (before : List Answer) → handle_of before p ≡ Some h
    → (lane : ℕ) → AllByRecursion (λ (a : Answer). a.lane.n ≡ lane) before
    → IsNameMade (map asked before) lane p
handle_makes p h [] is lane of = absurd cc
handle_makes p h (a ∷ before) is lane of =
    by (handle_of before p) refl (λ k e. handle_makes p k before e lane of.1)
  where
    by : (o : Option ℕ) → handle_of before p ≡ o
        → ((k : ℕ) → handle_of before p ≡ Some k → IsNameMade (map asked before) lane p)
        → IsNameMade (map asked (a ∷ before)) lane p
    by (Some k) e rest = inr (rest k e)
    by None e rest = inl (
      of.0,
      made_request p a.request a.reply h
          (sym (ap (λ (o : Option ℕ). first_of o (handle_made p a.request a.reply)) e) ∙ is),
    )

line_hit : (lane : ℕ) (l : Line) (ls : List Line) → nat_eq l.lane.n lane ≡ true
    → of_lane lane (l ∷ ls) ≡ l ∷ of_lane lane ls
line_hit lane l ls e = ap (λ (b : Bool). if b then l ∷ of_lane lane ls else of_lane lane ls) e

line_past : (lane : ℕ) (l : Line) (ls : List Line) → nat_eq l.lane.n lane ≡ false
    → of_lane lane (l ∷ ls) ≡ of_lane lane ls
line_past lane l ls e = ap (λ (b : Bool). if b then l ∷ of_lane lane ls else of_lane lane ls) e

pub made_among : (lane : ℕ) (front : List Line) (k : ℕ) (p : List ℕ)
    → IsNameMade (of_lane lane front) k p
    → IsNameMade front k p
made_among lane [] k p made = absurd made
made_among lane (l ∷ front) k p made = by (cases_Bool (nat_eq l.lane.n lane))
    (made_among lane front k p)
  where
    by : (nat_eq l.lane.n lane ≡ true) ⊎ (nat_eq l.lane.n lane ≡ false)
        → (IsNameMade (of_lane lane front) k p → IsNameMade front k p) → IsNameMade (l ∷ front) k p
    by (inl e) rest = elim (subst (λ (ls : List Line). IsNameMade ls k p)
        (line_hit lane l front e) made) [
          | inl x ↦ inl x
          | inr x ↦ inr (rest x)
        ]
    by (inr e) rest = inr (rest
        (subst (λ (ls : List Line). IsNameMade ls k p) (line_past lane l front e) made))

any_off : (t : Line → Bool) (front back : List Line) (l : Line)
    → list_any t (front ++ l ∷ back) ≡ false
    → t l ≡ false
any_off t [] back l none = (or_parts (t l) (list_any t back) none).0
any_off t (k ∷ front) back l none =
    any_off t front back l (or_parts (t k) (list_any t (front ++ l ∷ back)) none).1

module _ (nodes : ℕ) (all : List Line) (lane : ℕ) (names : List Named) (has : HasOwnLines all lane)
    (apart : (p : List ℕ) → is_maker all lane p ≡ true → handle_among names p ≡ None) where
  -- one of them, behind those of the script before it
  one_line : (front back : List Line) (before : List Answer) (a : Answer)
      → all ≡ front ++ asked a ∷ back
      → IsNameKnown front lane a.request → a.lane.n ≡ lane → map asked before ≡ of_lane lane front
      → AllByRecursion (λ (b : Answer). b.lane.n ≡ lane) before → HasLineReply a
      → IsLaneLine all lane (λ p. handle_behind names before (Some p)) a.request a.reply
  one_line front back before a split known same were of line = record {
    line = line;
    makes = λ p bytes e. (
      own p bytes e,
      fresh p (own p bytes e)
          (subst (IsNameKnown front lane) e known),
    );
    pins = λ p e. pinned p e (subst (IsNameKnown front lane) e known);
  }
    where
      own : (p bytes : List ℕ) → a.request ≡ Make p bytes → is_maker all lane p ≡ true
      own p bytes e = maker_of all lane p
          (subst (λ (ls : List Line). IsNameMade ls lane p) (sym split)
          (subst (λ (k : ℕ). IsNameMade (front ++ asked a ∷ back) k p) same
          (made_at front back (asked a) p (subst (λ (q : Request). MakesName q p) (sym e) refl))))

      fresh : (p : List ℕ) → is_maker all lane p ≡ true → IsNameNew front p
          → handle_behind names before (Some p) ≡ None
      fresh p mine new = by (handle_of before p) refl
        where
          by : (o : Option ℕ) → handle_of before p ≡ o
              → first_of (handle_of before p) (handle_among names p) ≡ None
          by None e = ap (λ (o : Option ℕ). first_of o (handle_among names p)) e ∙ apart p mine
          by (Some h) e = absurd (new lane (made_among lane front lane p
              (subst (λ (ls : List Line). IsNameMade ls lane p) were
              (handle_makes p h before e lane of))))

      pinned : (p : List ℕ) → a.request ≡ Pin p → KnowsName front lane p
          → is_maker all lane p ≡ true
      pinned p e (inl made) = maker_of all lane p
          (subst (λ (ls : List Line). IsNameMade ls lane p) (sym split)
          (made_in_front front (asked a ∷ back) lane p made))
      pinned p e (inr made) = absurd (true≢false
          (sym (λ i. (eq-eqb a.lane.n lane same i) && (shared i))
          ∙ any_off (λ l. nat_eq l.lane.n lane && pins_shared all l.request) front back (asked a)
          (subst (λ (ls : List Line). list_any
          (λ l. nat_eq l.lane.n lane && pins_shared all l.request) ls ≡ false)
          split has.pins)))
        where
          shared : pins_shared all a.request ≡ true
          shared = ap (pins_shared all) e ∙ maker_of all 0 p
              (subst (λ (ls : List Line). IsNameMade ls 0 p) (sym split)
              (made_in_front front (asked a ∷ back) 0 p made))

  ends : (before after : List Answer) → map asked after ≡ []
      → AreLaneLines all lane names before after
  ends before [] none = tt
  ends before (a ∷ after) none = absurd (no_line (asked a) (map asked after) none)

  -- and all of them
  lane_lines : (front back : List Line) → all ≡ front ++ back → AreLines nodes front back
      → (before after : List Answer) → map asked before ≡ of_lane lane front
      → map asked after ≡ of_lane lane back
      → AllByRecursion (λ (b : Answer). b.lane.n ≡ lane) before → AllByRecursion HasLineReply after
      → AreLaneLines all lane names before after
  lane_lines front [] split are before after were will of line = ends before after will
  lane_lines front (l ∷ back) split are before after were will of line =
      by (cases_Bool (nat_eq l.lane.n lane))
      (λ xs ys were_ will_ of_ line_. lane_lines (front ++ l ∷ []) back
      (split ∙ sym (append_assoc front (l ∷ []) back)) are.1 xs ys were_ will_ of_ line_)
    where
      Rest : Type 0
      Rest = (xs ys : List Answer) → map asked xs ≡ of_lane lane (front ++ l ∷ [])
          → map asked ys ≡ of_lane lane back
          → AllByRecursion (λ (b : Answer). b.lane.n ≡ lane) xs → AllByRecursion HasLineReply ys
          → AreLaneLines all lane names xs ys

      one : (after : List Answer) → map asked after ≡ l ∷ of_lane lane back
          → nat_eq l.lane.n lane ≡ true
          → AllByRecursion HasLineReply after → Rest → AreLaneLines all lane names before after
      one [] is e line rest = absurd (no_line l (of_lane lane back) (sym is))
      one (a ∷ after) is e line rest =
          let z = heads_same (asked a) l (map asked after) (of_lane lane back) is in
          let same : a.lane.n ≡ lane = ap (λ (k : Line). k.lane.n) z.0
          ∙ eqb-true l.lane.n lane e in (
            same,
            one_line front back before a (split ∙ ap (λ (k : Line). front ++ k ∷ back) (sym z.0))
                (subst (λ (k : Line). IsNameKnown front lane k.request) (sym z.0)
                (subst (λ (k : ℕ). IsNameKnown front k l.request)
                (eqb-true l.lane.n lane e) are.0.known)) same were of line.0,
            rest (before ++ a ∷ []) after
                (map_push asked before a ∙ (λ i. were i ++ z.0 i ∷ [])
                ∙ sym (filter-append (λ k. nat_eq k.lane.n lane) front (l ∷ [])
                ∙ ap (λ (ls : List Line). of_lane lane front ++ ls) (line_hit lane l [] e)))
                z.1 (all_push (λ (b : Answer). b.lane.n ≡ lane) before a of same) line.1,
          )

      by : (nat_eq l.lane.n lane ≡ true) ⊎ (nat_eq l.lane.n lane ≡ false) → Rest
          → AreLaneLines all lane names before after
      by (inl e) rest = one after (will ∙ line_hit lane l back e) e line rest
      by (inr e) rest = rest before after
          (were ∙ sym (filter-append (λ k. nat_eq k.lane.n lane) front (l ∷ [])
          ∙ ap (λ (ls : List Line). of_lane lane front ++ ls) (line_past lane l [] e)
          ∙ append-nil (of_lane lane front)))
          (will ∙ line_past lane l back e) of line

-- ---- a lane of a script
-- its own names are none of those that lane 0 made
pub names_apart : (nodes : ℕ) (all : List Line) (lane : ℕ) (names : List Named)
    → AreLines nodes [] all → 1 ≤ lane
    → ((p : List ℕ) (h : ℕ) → handle_among names p ≡ Some h → is_maker all 0 p ≡ true)
    → (p : List ℕ) → is_maker all lane p ≡ true → handle_among names p ≡ None
names_apart nodes all lane names are some_one shared p mine = by (handle_among names p) refl
  where
    by : (o : Option ℕ) → handle_among names p ≡ o → handle_among names p ≡ None
    by None e = e
    by (Some h) e = absurd (let same = one_maker nodes [] all 0 lane p are (shared p h e) mine in
        omega (arith, some_one, same))

-- where its lines were answered, each is one of a lane's lines
pub lane_form : (nodes : ℕ) (all : List Line) (lane : ℕ) (names : List Named)
    (answers : List Answer)
    → AreLines nodes [] all → HasOwnLines all lane
    → ((p : List ℕ) (h : ℕ) → handle_among names p ≡ Some h → is_maker all 0 p ≡ true)
    → map asked answers ≡ of_lane lane all → AllByRecursion HasLineReply answers
    → AreLaneLines all lane names [] answers
lane_form nodes all lane names answers are has shared will line =
    lane_lines nodes all lane names has
    (names_apart nodes all lane names are has.from_one shared) [] all refl are
    [] answers refl will tt line

-- The own lines of a lane of a script, which runs with a pass that has no pins at its start, are
-- answered as if the lane were alone, up to the first one that lacks something.
pub own_lines_alone : (c : Config) (nodes : ℕ) (all : List Line) (lane : ℕ) (names : List Named)
    (answers : List Answer) (v w : View) → AreLines nodes [] all → HasOwnLines all lane
    → ((p : List ℕ) (h : ℕ) → handle_among names p ≡ Some h → is_maker all 0 p ≡ true)
    → map asked answers ≡ of_lane lane all → AllByRecursion HasLineReply answers
    → v.pins ≡ [] → v.fresh ≡ [] → KnowsNames v names → LaneGoesOwn c names v answers w → KeepsOwn w
    → KeepAloneUntil all lane fresh_lane answers
own_lines_alone c nodes all lane names answers v w are has shared will line none fresh knows goes
    keeps =
    lane_alone_until c all lane names answers v w none fresh knows
    (names_apart nodes all lane names are has.from_one shared) goes keeps
    (lane_form nodes all lane names answers are has shared will line)

-- ---- what a lane goes by tells of its own objects
lines_tell : (c : Config) (names : List Named) (before after : List Answer) (v w : View)
    → LinesGo (goes_in c) names before v after w → LinesGo (goes_own c) names before v after w
lines_tell c names before [] v w x = x
lines_tell c names before (a ∷ after) v w (m, one, rest) = (
  m,
  line_less (goes_in c) (goes_own c) v m a.reply (λ ask y. (y, ask_tells c ask v a.reply m y))
      (handle_behind names before (name_of a.request)) a.request one,
  lines_tell c names (before ++ a ∷ []) after m w rest,
)

pub lane_keeps_alone : (c : Config) (nodes lane : ℕ) (names : List Named) (lines : List Line)
    (answers : List Answer) (v w : View) → v.pins ≡ [] → v.fresh ≡ [] → KnowsNames v names
    → LaneGoes c names v answers w → map asked answers ≡ lines
    → AllByRecursion HasLineReply answers → KeepsOwn w
    → LaneKeepsAlone nodes lane names lines answers
lane_keeps_alone c nodes lane names lines answers v w none fresh knows
    (m, goes, left) are line keeps all
    script has by_lane shared =
    own_lines_alone c nodes all lane names answers v w script has shared
    (are ∙ by_lane) line none fresh
    knows (m, lines_tell c names [] answers v m goes, left) keeps
