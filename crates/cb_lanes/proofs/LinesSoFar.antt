-- The lines of a lane that were answered so far.
use Rattle.std.proofs.Common.{◌≡◌, ℕ, zero, suc, ◌+◌, ◌<◌, List, [], ◌∷◌, ◌++◌, length, take, drop}
use Rattle.std.proofs.Common.{get_or, map, Option, refl, sym, ap, ◌∙◌, subst, arith}
use Rattle.std.proofs.Common.{take-append-drop}
use Rattle.std.proofs.lemmas.List.{take_more, map_push}
use Rattle.cb_types.specs.declared.answer.Answer.{Answer}
use Rattle.cb_types.specs.declared.config.Config.{Config}
use Rattle.cb_types.specs.Requests.{name_of}
use Rattle.cb_rule.specs.declared.view.Stand.{Stand}
use Rattle.cb_rule.specs.declared.view.View.{View}
use Rattle.cb_shared.specs.declared.pass.Pin.{Pin}
use Rattle.cb_script.specs.declared.script.Line.{Line}
use Rattle.cb_lanes.specs.declared.body.Named.{Named}
use Rattle.cb_lanes.specs.Asked.{answer_to, asked}
use Rattle.cb_lanes.specs.Bodies.{AnswersOne, AreLinesOf, IsFront, IsLineOf, KeepHandles, KnowsKept}
use Rattle.cb_lanes.specs.Bodies.{KnowsNames, LinesGo}
use Rattle.cb_lanes.specs.LineGoes.{LineGoes}
use Rattle.cb_lanes.specs.Names.{KeptNames}
use Rattle.cb_lanes.specs.Passing.{AreHeld, goes_in, mark_in, marks_of}
use Rattle.cb_lanes.proofs.LinesBack.{handle_kept, handles_push, kept_known, lines_push}
use Rattle.cb_lanes.proofs.NamesAmong.{names_known}

-- the first lines of a lane were answered, and the handles of all names up to here are kept and
-- known
pub record LinesSoFar (c : Config) (names : List Named) (lines : List Line) (first : View) (i : ℕ)
    (kept : KeptNames) (answers : List Answer) (v : View) : Type 0 where
  pub keep : KeepHandles kept names answers
  pub knows : KnowsKept kept v
  pub goes : LinesGo (goes_in c) names [] first answers v
  pub front : map asked answers ≡ take i lines

pub none_so_far : (c : Config) (names given : List Named) (lines : List Line) (kept : KeptNames)
    (answers : List Answer) (v : View) → KnowsNames v names → given ≡ names
    → KeepHandles kept given [] → answers ≡ [] → LinesSoFar c names lines v 0 kept answers v
none_so_far c names given lines kept answers v knows is keep none =
    subst (λ (l : List Answer). LinesSoFar c names lines v 0 kept l v) (sym none) (record {
      keep = keeps;
      knows = names_known names kept v knows keeps;
      goes = refl;
      front = refl;
    })
  where
    keeps : KeepHandles kept names []
    keeps = subst (λ (l : List Named). KeepHandles kept l []) is keep

pub one_more : (c : Config) (names : List Named) (lines : List Line) (first : View) (i : ℕ)
    (l : Line) (kept later : KeptNames) (answers all : List Answer) (v w : View)
    → i < length lines → l ≡ get_or lines i l → LinesSoFar c names lines first i kept answers v
    → AnswersOne c l kept later answers all v w
    → LinesSoFar c names lines first (i + 1) later all w
one_more c names lines first i l kept later answers all v w lt at x one = record {
  keep = subst (λ (z : List Answer). KeepHandles later names z) (sym one.answer)
      (handles_push names kept later answers a x.keep one.keeps);
  knows = kept_known c l kept later answers all v w x.knows one;
  goes = subst (λ (z : List Answer). LinesGo (goes_in c) names [] first z w) (sym one.answer)
      (lines_push (goes_in c) names [] answers a first v w x.goes
      (subst (λ (o : Option ℕ). LineGoes (goes_in c) o l.request v one.reply w)
      (handle_kept names kept answers (name_of l.request) x.keep) one.goes));
  front = ap (map asked) one.answer ∙ map_push asked answers a
      ∙ ap (λ (ls : List Line). ls ++ l ∷ []) x.front
      ∙ ap (λ (y : Line). take i lines ++ y ∷ []) at ∙ sym (take_more lines i l lt);
}
  where
    a : Answer
    a = answer_to l l.request one.reply

-- ---- they stand at the front of all lines
pub front_taken : (lines : List Line) (i : ℕ) (answers : List Answer)
    → map asked answers ≡ take i lines → IsFront (map asked answers) lines
front_taken lines i answers are = (
  drop i lines,
  sym (take-append-drop i lines) ∙ ap (λ (l : List Line). l ++ drop i lines) (sym are),
)

pub front_none : (lines : List Line) (answers : List Answer) → answers ≡ []
    → IsFront (map asked answers) lines
front_none lines answers none = (lines, ap (λ (l : List Answer). map asked l ++ lines) (sym none))

-- ---- a line of the lane
pub line_of : (nodes lane : ℕ) (lines : List Line) (i : ℕ) (l : Line) → AreLinesOf nodes lane lines
    → i < length lines → l ≡ get_or lines i l → IsLineOf nodes lane l
line_of nodes lane [] i l are lt at = absurd (omega (arith, lt))
line_of nodes lane (x ∷ lines) zero l are lt at = subst (IsLineOf nodes lane) (sym at) are.0
line_of nodes lane (x ∷ lines) (suc i) l are lt at =
    line_of nodes lane lines i l are.1 (omega (arith, lt)) at

-- ---- a lane without pins
pub held_none : (ps : List Pin) (v : View) → v.pins ≡ [] → ps ≡ [] → AreHeld ps v
held_none ps v none is = ap marks_of is ∙ ap (λ (l : List Stand). map mark_in l) (sym none)
