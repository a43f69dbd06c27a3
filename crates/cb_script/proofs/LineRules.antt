-- A line of a script against the rules of its place.
use Rattle.std.proofs.Common.{◌≡◌, ℕ, ◌+◌, ◌<◌, ◌≤◌, List, ◌∷◌, length, inl, inr, sym, ap, ◌∙◌, subst, Bor, arith}
use Rattle.std.specs.Fmt.{decimal}
use Rattle.std.specs.List.{join_with_byte, AllByRecursion}
use Rattle.std.proofs.lemmas.Bool.{cases_lt}
use Rattle.std.proofs.lemmas.Fmt.{decimal_injective}
use Rattle.std.proofs.lemmas.List.Splits.{join_with_byte-slice_split}
use Rattle.cb_types.specs.declared.handle.Lane.{Lane}
use Rattle.cb_types.specs.declared.request.Request.{Request}
use Rattle.cb_script.specs.declared.fault.Reason.{Reason}
use Rattle.cb_script.specs.declared.fault.Reason.TheVariants as reasons
use Rattle.cb_script.specs.declared.fault.Refusal.{Refusal}
use Rattle.cb_script.specs.declared.fault.Refusal.TheVariants.{Broken, NoMemory}
use Rattle.cb_script.specs.declared.script.Line.{Line}
use Rattle.cb_script.specs.Cut.{texts}
use Rattle.cb_script.specs.Form.{FitsMode, IsLane, IsNameKnown}
use Rattle.cb_script.specs.Phrase.{Phrase, phrase_words}
use Rattle.cb_script.specs.Reading.{ComesNext, IsLeastLane, MayStand, RefusesBy}
use Rattle.cb_script.specs.Rules.{LinePlace, Rule, RuleHolds, HasLane, IsLeast, IsLineShaped}
use Rattle.cb_script.specs.Spelling.{words_of, line_words}
use Rattle.cb_script.proofs.Least.{least_lane}
use Rattle.cb_script.proofs.Phrases.{phrase_injective}

-- a line has one shape
pub shaped_same : (text a b : List ℕ) (p q : Phrase) → IsLineShaped text a p → IsLineShaped text b q → (a ≡ b) × (p ≡ q)
shaped_same text a b p q x y =
    let both : a ∷ phrase_words p ≡ b ∷ phrase_words q = sym x.words ∙ y.words in
    let lanes : a ≡ b = cc in
    let words : phrase_words p ≡ phrase_words q = cc in
    (lanes, phrase_injective p q words)

module _ (place : LinePlace) (text : List ℕ) (few : length place.before < 20000) where
  pub lane_fault : (lane : List ℕ) (phrase : Phrase) → IsLineShaped text lane phrase → (HasLane place lane → ⊥) → IsLeast (RuleHolds place text) reasons.Lane
  lane_fault lane phrase shaped none = least_lane (RuleHolds place text) (λ l p low is. tt) (λ l p low is. tt) (λ l p low is. tt) few (lane, phrase, shaped) (λ holds. none (holds lane phrase shaped))

  -- ---- a line of a lane that may stand here

  module _ (lane : ℕ) (phrase : Phrase) (shaped : IsLineShaped text (decimal lane) phrase) (is_lane : IsLane place.before lane) where
    same_rule : (reason : Reason) → Rule place lane phrase reason → (l : ℕ) (p : Phrase) → l ≤ 15 → IsLineShaped text (decimal l) p → Rule place l p reason
    same_rule reason rule l p low is =
        let same = shaped_same text (decimal lane) (decimal l) phrase p shaped is in
        let lanes : lane ≡ l = decimal_injective lane l (omega (arith, is_lane.low)) (omega arith) same.0 in
        subst (λ (q : Phrase). Rule place l q reason) same.1 (subst (λ (n : ℕ). Rule place n phrase reason) lanes rule)

    pub line_holds : (reason : Reason) → Rule place lane phrase reason → RuleHolds place text reason
    line_holds reasons.Lines rule = few
    line_holds reasons.Shape rule = (decimal lane, phrase, shaped)
    line_holds reasons.Lane rule = λ l p is.
        let same = shaped_same text l (decimal lane) p phrase is shaped in
        (lane, (omega (arith, is_lane.low), same.0), is_lane)
    line_holds reason rule = same_rule reason rule

    line_breaks : (reason : Reason) → (Rule place lane phrase reason → ⊥) → RuleHolds place text reason → ⊥
    line_breaks reasons.Lines broken holds = broken tt
    line_breaks reasons.Shape broken holds = broken tt
    line_breaks reasons.Lane broken holds = broken tt
    line_breaks reason broken holds = broken (holds lane phrase is_lane.low shaped)

    least_line : (reason : Reason) → IsLeast (Rule place lane phrase) reason → IsLeast (RuleHolds place text) reason
    least_line reason least = record { broken = line_breaks reason least.broken; lesser = λ other below. line_holds other (least.lesser other below) }

    pub line_refused : (e : Refusal) → RefusesBy e (IsLeast (Rule place lane phrase)) → RefusesBy e (IsLeast (RuleHolds place text))
    line_refused (Broken reason) least = least_line reason least
    line_refused NoMemory least = tt

    pub line_stands : (number : ℕ) (at : Lane) (r : Request) → at.n ≡ lane → number ≡ length place.before + 2 → MayStand place lane phrase r → ComesNext place text (record { lane = at; line = number; request = r })
    line_stands number at r same numbered stands =
        let l : Line = record { lane = at; line = number; request = r } in
        let words : words_of text ≡ line_words l = shaped.words ∙ ap (λ (n : ℕ). decimal n ∷ phrase_words phrase) (sym same) ∙ ap (λ (p : Phrase). decimal at.n ∷ phrase_words p) (sym stands.spelled) in
        record {
          follows = record {
            lane = subst (IsLane place.before) (sym same) is_lane;
            line = numbered;
            request = stands.request;
            known = subst (λ (n : ℕ). IsNameKnown place.before n r) (sym same) stands.known;
          };
          allowed = subst (λ (p : Phrase). FitsMode p place.mode) (sym stands.spelled) stands.allowed;
          spelled = sym (join_with_byte-slice_split 32 text) ∙ ap (join_with_byte 32) words;
        }

-- ---- lanes

module _ (before : List Line) (least : ℕ) (is_least : IsLeastLane before least) where
  pub lane_stands : (lane : ℕ) → least ≤ lane → lane ≤ 15 → IsLane before lane
  lane_stands lane high low = record {
    low = low;
    first = λ zero_lane. elim is_least [ inl shared ↦ shared.1 | inr other ↦ absurd (omega (arith, other.0)) ];
  }

  pub lane_falls : (lane : ℕ) → IsLane before lane → least ≤ lane
  lane_falls lane is =
      elim is_least [
        | inl shared ↦ omega (arith, shared.0)
        | inr other ↦ elim (cases_lt 0 lane) [ inl above ↦ omega (arith, other.0) | inr none ↦ absurd (other.1 (is.first (omega arith))) ]
      ]

-- ---- the words of a line, as code reads them

pub shaped_of : (text : List ℕ) (words : List (Bor (List ℕ))) (first : Bor (List ℕ)) (others : List (Bor (List ℕ))) (phrase : Phrase) → texts words ≡ words_of text → words ≡ first ∷ others → AllByRecursion (λ word. 0 < length word) (texts words)
    → texts others ≡ phrase_words phrase → IsLineShaped text first.now phrase
shaped_of text words first others phrase cut is full spelled = record {
  words = sym cut ∙ ap texts is ∙ ap (λ (ws : List (List ℕ)). first.now ∷ ws) spelled;
  full = subst (λ (ws : List (List ℕ)). AllByRecursion (λ word. 0 < length word) ws) cut full;
}

pub shaped_lane : (text a b : List ℕ) (phrase : Phrase) → a ≡ b → IsLineShaped text a phrase → IsLineShaped text b phrase
shaped_lane text a b phrase same shaped = subst (λ (lane : List ℕ). IsLineShaped text lane phrase) same shaped
