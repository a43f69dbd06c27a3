-- The turns of a pin come in the order in which they bring its object in.
use Rattle.std.proofs.Common.{◌≡◌, ℕ, Bool, [], Option, None, Result, ap}
use Rattle.std.specs.Result.{IfOk}
use Rattle.std.proofs.lemmas.Result.{IfOk-weaker}
use Rattle.cb_member.specs.declared.no_memory.NoMemory.{NoMemory}
use Rattle.cb_types.specs.declared.reply.Reply.{Reply}
use Rattle.cb_rule.specs.declared.view.View.{View}
use Rattle.cb_shared.specs.declared.answers.PinAnswer.{PinAnswer}
use Rattle.cb_shared.specs.declared.answers.PinAnswer.TheVariants as found
use Rattle.cb_shared.specs.Fetching.{AreBringing, AreBringingTo, AreOneTry, AreTried, GetsTurns}
use Rattle.cb_shared.specs.Pinning.{PinGives}
use Rattle.cb_shared.proofs.Laws.{bringing_then, gets_bringing, gets_tried, none_tried, tried_then}

-- ---- a pin makes no turn
pin_turns : (h : ℕ) (a : PinAnswer) (v w : View) → PinGives h a v w → w.turns ≡ v.turns
pin_turns h (found.Pinned pin) v w x = ap (λ (z : View). z.turns) x.left
pin_turns h found.ScopeFull v w x = ap (λ (z : View). z.turns) x.1
pin_turns h found.Freed v w x = ap (λ (z : View). z.turns) x.4
pin_turns h found.NotHere v w x = ap (λ (z : View). z.turns) x.2
pin_turns h found.Moving v w x = ap (λ (z : View). z.turns) x.2
pin_turns h found.Crowded v w x = ap (λ (z : View). z.turns) x.2
pin_turns h (found.Raced saw other) v w x = ap (λ (z : View). z.turns) x.1

pub pin_none : (h : ℕ) (a : PinAnswer) (v w : View) → PinGives h a v w → GetsTurns (AreTried h) v w
pin_none h a v w x = none_tried h v w (pin_turns h a v w x)

pub pin_no_turn : (h : ℕ) (a : PinAnswer) (v w : View) → PinGives h a v w
    → GetsTurns (AreBringing h) v w
pin_no_turn h a v w x = ([], pin_turns h a v w x, tt)

-- ---- turns that bring the object in, behind a pin that found it far
module _ (h : ℕ) (a : PinAnswer) (v m w : View) (pin : PinGives h a v m) where
  pub brings_behind : GetsTurns (AreOneTry h) m w → GetsTurns (AreBringing h) v w
  brings_behind x = bringing_then h v m w (pin_none h a v m pin) (gets_bringing h m w x)

  pub tries_behind : (b n : Bool) (result : Result (Option Reply) NoMemory)
      → IfOk result (λ o. o ≡ None → GetsTurns (AreBringingTo h b n) m w)
      → IfOk result (λ o. o ≡ None → GetsTurns (AreTried h) v w)
  tries_behind b n result x = IfOk-weaker result _ _
      (λ o y none. tried_then h v m w (pin_none h a v m pin) (gets_tried h b n m w (y none))) x
