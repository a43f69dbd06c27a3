-- The first pin of a list, which is given back.
use Rattle.std.proofs.Common.{◌≡◌, ℕ, suc, ◌+◌, ◌<◌, ◌≤◌, Bool, cond, List, [], ◌∷◌, length, get_or}
use Rattle.std.proofs.Common.{sym, refl, ap, subst, arith, eq-eqb}
use Rattle.cb_types.specs.declared.config.Config.{Config}
use Rattle.cb_rule.specs.declared.view.Stand.{Stand}
use Rattle.cb_rule.specs.Lists.{Each, removed, times}
use Rattle.cb_rule.specs.Seats.{pins_it}
use Rattle.cb_shared.specs.Handles.{handles_of}
use Rattle.cb_shared.specs.Passes.{PinFits}

abbrev head_of : List ℕ → ℕ
head_of [] = 0
head_of (x ∷ xs) = x

-- its handle is in range and is pinned, and without it the list is shorter
pub record IsFirstPin (c : Config) (ps : List Stand) (h : ℕ) : Type 0 where
  pub below : h < c.handles
  pub held : 0 < times (pins_it h) ps
  pub shorter : length (handles_of (removed (pins_it h) ps)) < length (handles_of ps)

pub first_pin : (c : Config) (ps : List Stand) (h : ℕ) (rest : List ℕ) → Each (PinFits c) ps
    → handles_of ps ≡ h ∷ rest → IsFirstPin c ps h
first_pin c [] h rest each e = absurd (let z : 0 ≡ suc (length rest) = ap length e in omega (arith, z))
first_pin c (p ∷ ps) h rest each e =
    let here : p.handle ≡ h = ap head_of e in
    let same = eq-eqb p.handle h here in record {
      below = subst (λ (n : ℕ). n < c.handles) here each.0.0;
      held = subst (λ (b : Bool). 0 < cond {A = ℕ} b 1 0 + times (pins_it h) ps) (sym same)
          (omega arith);
      shorter = subst (λ (b : Bool).
          length (handles_of (cond b ps (p ∷ removed (pins_it h) ps))) < length (handles_of (p ∷ ps)))
          (sym same) (let z : length (handles_of ps) < suc (length (handles_of ps)) = omega arith in z);
    }

-- no handles, no pins
pub none_pinned : (ps : List Stand) → handles_of ps ≡ [] → ps ≡ []
none_pinned [] e = refl
none_pinned (p ∷ ps) e =
    absurd (let z : suc (length (handles_of ps)) ≡ 0 = ap length e in omega (arith, z))

-- a list that is not empty is its first element and the rest
abbrev pub rest_of : List ℕ → List ℕ
rest_of [] = []
rest_of (x ∷ xs) = xs

pub starts_with : (l : List ℕ) → 1 ≤ length l → l ≡ get_or l 0 0 ∷ rest_of l
starts_with [] some = absurd (omega (arith, some))
starts_with (x ∷ xs) some = refl
