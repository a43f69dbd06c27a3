-- An object that is freed had its make before: its version is above the first one.
use Rattle.std.proofs.Common.{◌≡◌, ◌⊎◌, ℕ, zero, suc, ◌<◌, ◌≤◌, Bool, true, false, List, [], ◌∷◌, refl, sym, ap, ◌∙◌, subst, arith, inl, inr, true≢false}
use native.Mathlib.Decide.{ℕ_discrete}
use Rattle.cb_world.specs.declared.entry.Entry.{Entry}
use Rattle.cb_world.specs.declared.object.Object.TheVariants as is
use Rattle.cb_world.specs.Packed.{IsFreedLater}
use Rattle.cb_rule.specs.History.{Follows, IsEntryHistory, Value, newest, no_value, top, value_of}
use Rattle.cb_rule.proofs.Histories.{newest_else, newest_same, top_else, top_same}

-- it is there at no version below the first, and freed, if it ever was made, above it
abbrev HasBegun : ℕ → ℕ → Value → Type 0
HasBegun first n value = ((value.freed ≡ true) × ((n ≡ 0) ⊎ (first < n)))
    ⊎ ((value.freed ≡ false) × (first ≤ n))

next_begun : (first version : ℕ) (value : Value) (e : Entry) → HasBegun first version value
    → Follows first version value e → HasBegun first e.version (value_of e)
next_begun first version value e b (inl made) =
    let n = made.number in inr (made.kept, omega (arith, n))
next_begun first version value e (inl (freed, x)) (inr changed) =
    absurd (true≢false (sym freed ∙ changed.there))
next_begun first version value e (inr (there, low)) (inr changed) = by e.freed refl
  where
    by : (b : Bool) → e.freed ≡ b → HasBegun first e.version (value_of e)
    by true is = let n = changed.number in inl (is, inr (omega (arith, n, low)))
    by false is = let n = changed.number in inr (is, omega (arith, n, low))

begun : (first : ℕ) (es : List Entry) (h : ℕ) → IsEntryHistory first es
    → HasBegun first (top es h) (newest es h)
begun first [] h ok = inl (refl, inl refl)
begun first (e ∷ es) h ok = elim (ℕ_discrete h e.handle) [
  | yes same ↦
      subst (λ (i : ℕ). HasBegun first (top (e ∷ es) i) (newest (e ∷ es) i)) (sym same)
      (subst (λ (n : ℕ). HasBegun first n (newest (e ∷ es) e.handle)) (sym (top_same e es))
      (subst (HasBegun first e.version) (sym (newest_same e es))
      (next_begun first (top es e.handle) (newest es e.handle) e (begun first es e.handle ok.1)
      ok.0)))
  | no off ↦
      subst (λ (n : ℕ). HasBegun first n (newest (e ∷ es) h)) (sym (top_else e es h off))
      (subst (HasBegun first (top es h)) (sym (newest_else e es h off)) (begun first es h ok.1))
]

-- what is known as freed is freed later than the first version
pub freed_later : (first : ℕ) (es : List Entry) (h v : ℕ) → IsEntryHistory first es
    → top es h ≡ v → newest es h ≡ no_value → IsFreedLater first (is.Empty v)
freed_later first es h zero ok at has = tt
freed_later first es h (suc v) ok at has = by (begun first es h ok)
  where
    by : HasBegun first (top es h) (newest es h) → first < suc v
    by (inl (freed, inl none)) = omega (arith, at, none)
    by (inl (freed, inr above)) = omega (arith, at, above)
    by (inr (there, low)) =
        absurd (true≢false (sym (ap (λ (x : Value). x.freed) has) ∙ there))
