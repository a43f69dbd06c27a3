use Rattle.std.proofs.Common.{◌≡◌, None, true, length, get_or, is_none, refl, arith, inl, inr}
use Rattle.std.specs.List.{position_or_len}
use Rattle.std.proofs.lemmas.Bool.{cases_lt, le-ltb, lt-ltb}
use Rattle.std.proofs.lemmas.List.Sums.{passes_at_first, position_or_len_is}
use Rattle.cb_span.proofs.Laws.{test_from_none}
use Rattle.cb_span.proofs.span.least_none.Goals as goal

pub returns-then-is_none : goal.returns-then-is_none
returns-then-is_none c =
    let slots = c.args.slots.now in
    let i = c.loop-i.i in
    let empty : is_none (get_or slots i None) ≡ true =
    test_from_none (get_or slots i None) c.if-is_none.ensures in
    let place : position_or_len is_none slots ≡ i =
    position_or_len_is is_none slots i None (omega arith) c.loop-i.invariant (λ _. empty) in
    rw (place, lt-ltb i (length slots) c.loop-i-test.true) refl

pub returns : goal.returns
returns c =
    let slots = c.args.slots.now in
    let place = position_or_len is_none slots in
    elim (cases_lt place (length slots)) [
      | inl inside ↦ absurd
          (let here : is_none (get_or slots place None) ≡ true =
          passes_at_first is_none slots None inside in
          let before = c.loop-i.invariant place (omega arith) in cc)
      | inr past ↦ rw (le-ltb place (length slots) past) refl
    ]
