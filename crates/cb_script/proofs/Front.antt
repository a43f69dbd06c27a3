-- Lines that were read one after the other.
use Rattle.std.proofs.Common.{◌≡◌, ℕ, ◌+◌, ◌<◌, ◌≤◌, List, [], ◌∷◌, ◌++◌, length, map, inl, inr, refl, sym, ap, ◌∙◌, subst, append_assoc, arith}
use Rattle.std.specs.List.{AllByRecursion}
use Rattle.std.proofs.lemmas.List.{append-nil, length_push, map_push}
use Rattle.cb_types.specs.declared.handle.Lane.{Lane}
use Rattle.cb_script.specs.declared.fault.Reason.{Reason}
use Rattle.cb_script.specs.declared.fault.Reason.TheVariants as reasons
use Rattle.cb_script.specs.declared.fault.Refusal.{Refusal}
use Rattle.cb_script.specs.declared.fault.Refusal.TheVariants.{Broken, NoMemory}
use Rattle.cb_script.specs.declared.script.Line.{Line}
use Rattle.cb_script.specs.declared.script.Mode.{Mode}
use Rattle.cb_script.specs.Form.{MayFollow, AreLines, AreInMode, FitsMode}
use Rattle.cb_script.specs.Phrase.{phrase_of}
use Rattle.cb_script.specs.Reading.{ComesNext, FaultIs, HasBadLine, IsLeastLane, RefusesBy, fault_at}
use Rattle.cb_script.specs.Rules.{IsLeast, RuleHolds}
use Rattle.cb_script.specs.Spelling.{lines_of, script_line}
use Rattle.cb_script.proofs.Least.{least_lines}

pub AreLines-push : (nodes : ℕ) (before front : List Line) (l : Line) → AreLines nodes before front → MayFollow nodes (before ++ front) l → AreLines nodes before (front ++ l ∷ [])
AreLines-push nodes before [] l are follows = (subst (λ (ls : List Line). MayFollow nodes ls l) (append-nil before) follows, tt)
AreLines-push nodes before (m ∷ front) l are follows =
    (are.0, AreLines-push nodes (before ++ m ∷ []) front l are.1 (subst (λ (ls : List Line). MayFollow nodes ls l) (sym (append_assoc before (m ∷ []) front)) follows))

pub each_push : (P : Line → Type 0) (front : List Line) (l : Line) → AllByRecursion P front → P l → AllByRecursion P (front ++ l ∷ [])
each_push P [] l are is = (is, tt)
each_push P (m ∷ front) l are is = (are.0, each_push P front l are.1 is)

pub each_front : (P : Line → Type 0) (front : List Line) (l : Line) → AllByRecursion P (front ++ l ∷ []) → AllByRecursion P front
each_front P [] l are = tt
each_front P (m ∷ front) l are = (are.0, each_front P front l are.1)

pub each_last : (P : Line → Type 0) (front : List Line) (l : Line) → AllByRecursion P (front ++ l ∷ []) → P l
each_last P [] l are = are.0
each_last P (m ∷ front) l are = each_last P front l are.1

-- ---- the least lane

abbrev IsShared : Line → Type 0
IsShared l = l.lane.n ≡ 0

pub another_lane : (before : List Line) (l : Line) (lane : Lane) → l.lane ≡ lane → 0 < lane.n → IsLeastLane (before ++ l ∷ []) 1
another_lane before l lane same above = inr (refl, λ all. omega (arith, above, ap (λ (x : Lane). x.n) same, each_last IsShared before l all))

pub lane_0 : (before : List Line) (least : ℕ) (l : Line) (lane : Lane) → IsLeastLane before least → l.lane ≡ lane → lane.n ≤ 0 → IsLeastLane (before ++ l ∷ []) least
lane_0 before least l lane (inl shared) same none = inl (shared.0, each_push IsShared before l shared.1 (omega (arith, none, ap (λ (x : Lane). x.n) same)))
lane_0 before least l lane (inr other) same none = inr (other.0, λ all. other.1 (each_front IsShared before l all))

-- ---- what was read of a text

-- the lines are read, and the rest of the text is left
pub record FrontIsRead (mode : Mode) (nodes : ℕ) (text : List ℕ) (lines : List Line) (rest : List ℕ) : Type 0 where
  pub are : AreLines nodes [] lines
  pub allowed : AreInMode mode lines
  pub few : length lines ≤ 20000
  pub read : lines_of text ≡ map script_line lines ++ lines_of rest

module _ (mode : Mode) (nodes : ℕ) (text : List ℕ) (lines : List Line) (rest : List ℕ) (front : FrontIsRead mode nodes text lines rest) where
  -- the next line of the rest
  next_text : (line behind : List ℕ) → lines_of rest ≡ line ∷ lines_of behind → lines_of text ≡ map script_line lines ++ line ∷ lines_of behind
  next_text line behind cut = front.read ∙ ap (λ (texts : List (List ℕ)). map script_line lines ++ texts) cut

  pub front_more : (line behind : List ℕ) (l : Line) → lines_of rest ≡ line ∷ lines_of behind → length lines < 20000 → ComesNext (record { mode = mode; nodes = nodes; before = lines }) line l → FrontIsRead mode nodes text (lines ++ l ∷ []) behind
  front_more line behind l cut few next = record {
    are = AreLines-push nodes [] lines l front.are next.follows;
    allowed = each_push (λ (m : Line). FitsMode (phrase_of m.request) mode) lines l front.allowed next.allowed;
    few = omega (arith, few, length_push lines l);
    read = next_text line behind cut ∙ ap (λ (t : List ℕ). map script_line lines ++ t ∷ lines_of behind) next.spelled
        ∙ sym (append_assoc (map script_line lines) (script_line l ∷ []) (lines_of behind)) ∙ ap (λ (ts : List (List ℕ)). ts ++ lines_of behind) (sym (map_push script_line lines l));
  }

  pub has_bad_line : (line behind : List ℕ) (number : ℕ) (reason : Reason) → lines_of rest ≡ line ∷ lines_of behind → number ≡ length lines + 2 → IsLeast (RuleHolds (record { mode = mode; nodes = nodes; before = lines }) line) reason
      → HasBadLine mode nodes (lines_of text) number reason
  has_bad_line line behind number reason cut numbered least = record {
    before = lines;
    are = front.are;
    allowed = front.allowed;
    few = front.few;
    text = line;
    after = lines_of behind;
    read = next_text line behind cut;
    number = numbered;
    least = least;
  }

  -- the line after 20,000 others
  pub has_lines_fault : (line behind : List ℕ) (number : ℕ) → lines_of rest ≡ line ∷ lines_of behind → number ≡ length lines + 2 → 20000 ≤ length lines → HasBadLine mode nodes (lines_of text) number reasons.Lines
  has_lines_fault line behind number cut numbered many =
      has_bad_line line behind number reasons.Lines cut numbered
      (least_lines (RuleHolds (record { mode = mode; nodes = nodes; before = lines }) line) (λ l p low is. tt) (λ l p low is. tt) (λ l p low is. tt) (λ (few : length lines < 20000). omega (arith, few, many)))

  pub line_fault : (line behind : List ℕ) (number : ℕ) (e : Refusal) → lines_of rest ≡ line ∷ lines_of behind → number ≡ length lines + 2 → RefusesBy e (IsLeast (RuleHolds (record { mode = mode; nodes = nodes; before = lines }) line))
      → FaultIs (fault_at number e) (HasBadLine mode nodes (lines_of text))
  line_fault line behind number (Broken reason) cut numbered least = has_bad_line line behind number reason cut numbered least
  line_fault line behind number NoMemory cut numbered least = tt
