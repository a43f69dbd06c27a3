-- The runtime at the start.
use Rattle.std.proofs.Common.{◌≡◌, ℕ, zero, suc, ◌≤◌, List, length, get_or, replicate, refl, ap}
use Rattle.std.proofs.Common.{◌∙◌, arith}
use Rattle.cb_types.specs.declared.config.Config.{Config}
use Rattle.cb_rule.specs.Steps.{opener}
use Rattle.cb_shared.specs.OrdersKept.{begun}
use Rattle.cb_shared.specs.Passes.{IsAtRest}

same_each : (n i z : ℕ) → get_or (replicate n z) i z ≡ z
same_each zero i z = refl
same_each (suc n) zero z = refl
same_each (suc n) (suc i) z = same_each n i z

long : {A : Type 0} (n : ℕ) (z : A) → length (replicate n z) ≡ n
long zero z = refl
long (suc n) z = ap suc (long n z)

pub zeros_at : (ws : List ℕ) (n z i : ℕ) → ws ≡ replicate n z → get_or ws i z ≡ z
zeros_at ws n z i e = ap (λ (l : List ℕ). get_or l i z) e ∙ same_each n i z

pub long_zeros : (ws : List ℕ) (n z : ℕ) → ws ≡ replicate n z → length ws ≡ n
long_zeros ws n z e = ap length e ∙ long n z

pub rest_opener : (c : Config) → IsAtRest c (opener c)
rest_opener c = record {
  config = refl;
  live = let z : 1 ≤ 64 = omega arith in z;
  most = let z : 64 ≤ 64 = omega arith in z;
  claims = refl;
  out = (refl, refl, refl, refl, refl, refl, refl, refl, refl, refl);
  fresh = refl;
  written = tt;
  seen = tt;
  pins = tt;
  orders = begun;
}
