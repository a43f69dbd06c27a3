-- Flags that tell which lanes lines have.
use Rattle.std.proofs.Common.{◌≡◌, ℕ, ◌+◌, ◌<◌, Bool, true, false, ◌||◌, List, [], ◌∷◌, ◌++◌, length, get_or, set, take, replicate, inl, inr, refl, sym, ap, ◌∙◌, subst, arith}
use Rattle.std.specs.Prelude.{nat_eq}
use Rattle.std.proofs.lemmas.Bool.{cases_eq, eq-eqb, ne_eqb}
use Rattle.std.proofs.lemmas.List.{get_or-set_same, get_or-set_other, length-set, get_or-replicate, take_more}
use Rattle.std.proofs.lemmas.List.Folds.{list_any-append}
use Rattle.cb_script.specs.declared.script.Line.{Line}
use Rattle.cb_app.specs.ByLane.{has_lines}

or_false : (b : Bool) → (b || (false || false)) ≡ b
or_false true = refl
or_false false = refl

or_true : (b : Bool) → (b || (true || false)) ≡ true
or_true true = refl
or_true false = refl

-- there is a flag for each number that a byte has, and it is raised where lines are of that lane
pub record FlagsOfLanes (used : List Bool) (lines : List Line) : Type 0 where
  pub all : length used ≡ 256
  pub each : (lane : ℕ) → lane < 256 → get_or used lane false ≡ has_lines lane lines

pub none_raised : FlagsOfLanes (replicate 256 false) []
none_raised = record { all = refl; each = λ lane below. get_or-replicate 256 lane false false below }

-- one more line
raised_behind : (used : List Bool) (before : List Line) (l : Line) → l.lane.n < 256
    → FlagsOfLanes used before → FlagsOfLanes (set used l.lane.n true) (before ++ l ∷ [])
raised_behind used before l low flags = record {
  all = length-set used l.lane.n true ∙ flags.all;
  each = λ lane below. elim (cases_eq l.lane.n lane) [
    | inl e ↦ rw (
      ← e,
      list_any-append (λ (k : Line). nat_eq k.lane.n l.lane.n) before (l ∷ []),
      eq-eqb l.lane.n l.lane.n refl,
      or_true (has_lines l.lane.n before),
    ) (get_or-set_same used l.lane.n true false (omega (arith, low, flags.all)))
    | inr other ↦ rw (
      list_any-append (λ (k : Line). nat_eq k.lane.n lane) before (l ∷ []),
      ne_eqb l.lane.n lane other,
      or_false (has_lines lane before),
    ) (get_or-set_other used l.lane.n lane true false (λ e. other (sym e)) ∙ flags.each lane below)
  ];
}

pub raised : (used : List Bool) (lines : List Line) (i : ℕ) (l d : Line) → i < length lines
    → l ≡ get_or lines i d → l.lane.n < 256 → FlagsOfLanes used (take i lines)
    → FlagsOfLanes (set used l.lane.n true) (take (i + 1) lines)
raised used lines i l d within at low flags =
    let more : take (i + 1) lines ≡ take i lines ++ l ∷ [] =
    take_more lines i d within ∙ ap (λ (m : Line). take i lines ++ m ∷ []) (sym at) in
    subst (FlagsOfLanes (set used l.lane.n true)) (sym more) (raised_behind used (take i lines) l low flags)
