-- The newest pin of an object among the handles of a pass.
use Rattle.std.proofs.Common.{◌≡◌, ◌≢◌, ℕ, zero, suc, ◌+◌, ◌<◌, Bool, cond, List, [], ◌∷◌, get_or}
use Rattle.std.proofs.Common.{ap, ◌∙◌, subst, arith, ne_eqb, eq-eqb}
use native.Mathlib.Decide.{ℕ_discrete}
use Rattle.std.specs.List.{remove}
use Rattle.cb_rule.specs.declared.view.Stand.{Stand}
use Rattle.cb_rule.specs.Lists.{removed, times}
use Rattle.cb_rule.specs.Seats.{pins_it}
use Rattle.cb_shared.specs.Handles.{IsFirstAt, handles_of}

pub handles_removed : (ps : List Stand) (h at : ℕ) → IsFirstAt (handles_of ps) h at
    → handles_of (removed (pins_it h) ps) ≡ remove (handles_of ps) at
handles_removed [] h at f = absurd (let z = f.within in omega (arith, z))
handles_removed (p ∷ ps) h zero f =
    ap (λ (b : Bool). handles_of (cond b ps (p ∷ removed (pins_it h) ps))) (eq-eqb p.handle h f.here)
handles_removed (p ∷ ps) h (suc at) f =
    let other : p.handle ≢ h = f.before 0 (omega arith) in
    ap (λ (b : Bool). handles_of (cond b ps (p ∷ removed (pins_it h) ps))) (ne_eqb p.handle h other)
    ∙ ap (λ (l : List ℕ). p.handle ∷ l) (handles_removed ps h at (record {
      within = let z = f.within in omega (arith, z);
      here = f.here;
      before = λ i less. f.before (suc i) (omega (arith, less));
    }))

below_next : (p : Stand) (ps : List Stand) (h at : ℕ) → p.handle ≢ h
    → IsFirstAt (handles_of ps) h at → IsFirstAt (handles_of (p ∷ ps)) h (suc at)
below_next p ps h at other f = record {
  within = let z = f.within in omega (arith, z);
  here = f.here;
  before = before;
}
  where
    before : (i : ℕ) → i < suc at → get_or (handles_of (p ∷ ps)) i 0 ≢ h
    before zero less = other
    before (suc i) less = f.before i (omega (arith, less))

first_of : (p : Stand) (ps : List Stand) (h : ℕ) → Dec (p.handle ≡ h)
    → (0 < times (pins_it h) ps → (at : ℕ) × IsFirstAt (handles_of ps) h at)
    → 0 < times (pins_it h) (p ∷ ps) → (at : ℕ) × IsFirstAt (handles_of (p ∷ ps)) h at
first_of p ps h (yes same) later some = (
  0,
  record {
    within = omega arith;
    here = same;
    before = λ i less. absurd (omega (arith, less));
  },
)
first_of p ps h (no other) later some =
    let more : 0 < 0 + times (pins_it h) ps =
    subst (λ (b : Bool). 0 < cond {A = ℕ} b 1 0 + times (pins_it h) ps) (ne_eqb p.handle h other) some in
    let rest = later (omega (arith, more)) in (suc rest.0, below_next p ps h rest.0 other rest.1)

pub first_there : (ps : List Stand) (h : ℕ) → 0 < times (pins_it h) ps
    → (at : ℕ) × IsFirstAt (handles_of ps) h at
first_there [] h some = absurd (omega (arith, some))
first_there (p ∷ ps) h some =
    first_of p ps h (ℕ_discrete p.handle h) (first_there ps h) some
