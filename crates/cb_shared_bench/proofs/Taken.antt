-- A pin that was taken is one of its pass.
use Rattle.std.proofs.Common.{ℕ, sym, subst, inl}
use Rattle.cb_rule.specs.declared.view.View.{View}
use Rattle.cb_rule.specs.Lists.{Has}
use Rattle.cb_shared.specs.declared.answers.PinAnswer.{PinAnswer}
use Rattle.cb_shared.specs.declared.answers.PinAnswer.TheVariants as pins
use Rattle.cb_shared.specs.declared.pass.Pin.{Pin}
use Rattle.cb_shared.specs.Passes.{IsPinOf, stand_of}
use Rattle.cb_shared.specs.Pinning.{IsPinnedHere, PinGives}
use Rattle.cb_shared_bench.specs.Callers.{IfPinned}

pin_is_of : (h : ℕ) (p : Pin) (v w : View) → IsPinnedHere h p v w → IsPinOf p w
pin_is_of h p v w g = (
  g.words,
  subst (λ (x : View). Has (stand_of p g.words) x.pins) (sym g.left) (inl (λ i. stand_of record p {
    handle = record { n = sym g.handle i };
    len = sym g.len i;
    place = sym g.place i;
  } g.words)),
)

pub pinned_is : (h : ℕ) (a : PinAnswer) (v w : View) → PinGives h a v w
    → IfPinned a (λ p. IsPinOf p w)
pinned_is h (pins.Pinned p) v w g = pin_is_of h p v w g
pinned_is h pins.ScopeFull v w g = tt
pinned_is h pins.Freed v w g = tt
pinned_is h pins.NotHere v w g = tt
pinned_is h pins.Moving v w g = tt
pinned_is h pins.Crowded v w g = tt
pinned_is h (pins.Raced saw found) v w g = tt
