-- A whole input: its header, and the lines behind it.
use Rattle.std.proofs.Common.{◌≡◌, ℕ, ◌≤◌, List, [], ◌∷◌, length, refl, sym, ap, ◌∙◌, subst, arith}
use Rattle.std.proofs.lemmas.List.{nil_from_length}
use Rattle.cb_types.specs.Config.{IsAccepted}
use Rattle.cb_types.specs.declared.config.Config.{Config}
use Rattle.cb_script.specs.declared.fault.Reason.{Reason}
use Rattle.cb_script.specs.declared.fault.Reason.TheVariants as reasons
use Rattle.cb_script.specs.declared.fault.ScriptFault.{ScriptFault}
use Rattle.cb_script.specs.declared.fault.ScriptFault.TheVariants as script_faults
use Rattle.cb_script.specs.declared.script.Mode.{Mode}
use Rattle.cb_script.specs.First.{First, IsBadLine}
use Rattle.cb_script.specs.Form.{AreLines}
use Rattle.cb_script.specs.Reading.{FaultIs, HasBadLine}
use Rattle.cb_script.specs.Rules.{IsLeast, RuleHolds}
use Rattle.cb_script.specs.Spelling.{lines_of, header_line}

-- an input of no bytes
pub no_header : (bytes : List ℕ) (mode : Mode) → length bytes ≡ 0 → First bytes mode 1 reasons.Header
no_header bytes mode none =
    let nothing : bytes ≡ [] = nil_from_length bytes none in
    (refl, omega (arith, none), λ c has. let lines : [] ≡ header_line c ∷ has.others = ap lines_of (sym nothing) ∙ has.text in absurd cc)

module _ (bytes : List ℕ) (mode : Mode) (header : List ℕ) (others : List (List ℕ)) (short : length bytes ≤ 1048576) (cut : lines_of bytes ≡ header ∷ others) where
  module _ (c : Config) (accepted : IsAccepted c) (is_header : header ≡ header_line c) (nodes : ℕ) (same : nodes ≡ c.nodes) where
    lines_are : lines_of bytes ≡ header_line c ∷ others
    lines_are = cut ∙ ap (λ (text : List ℕ). text ∷ others) is_header

    bad_found : (line : ℕ) (reason : Reason) → HasBadLine mode nodes others line reason → IsBadLine bytes mode line reason
    bad_found line reason bad = record {
      before = record { config = c; lines = bad.before };
      form = record { config = accepted; few = bad.few; lines = subst (λ (n : ℕ). AreLines n [] bad.before) same bad.are };
      allowed = bad.allowed;
      text = bad.text;
      after = bad.after;
      lines = lines_are ∙ ap (λ (texts : List (List ℕ)). header_line c ∷ texts) bad.read;
      number = bad.number;
      least = subst (λ (n : ℕ). IsLeast (RuleHolds (record { mode = mode; nodes = n; before = bad.before }) bad.text) reason) same bad.least;
    }

    bad_first : (line : ℕ) (reason : Reason) → HasBadLine mode nodes others line reason → First bytes mode line reason
    bad_first line reasons.TooLong bad = absurd (bad.least.broken (λ l p low is. tt))
    bad_first line reasons.Header bad = absurd (bad.least.broken (λ l p low is. tt))
    bad_first line reasons.Config bad = absurd (bad.least.broken (λ l p low is. tt))
    bad_first line reason bad = (short, bad_found line reason bad)

    pub fault_first : (e : ScriptFault) → FaultIs e (HasBadLine mode nodes others) → FaultIs e (First bytes mode)
    fault_first script_faults.NoMemory bad = tt
    fault_first (script_faults.Bad line reason) bad = bad_first line reason bad
