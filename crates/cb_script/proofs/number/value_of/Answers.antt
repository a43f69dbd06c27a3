use Rattle.std.proofs.Common.{get_or, arith, rules}
use Rattle.std.specs.Int.{IsInRange}
use Rattle.std.proofs.lemmas.List.{take_all}
use Rattle.std.proofs.lemmas.Str.Parse.{digit_at}
use Rattle.cb_script.proofs.Decimals.{value_step, too_many}
use Rattle.cb_script.proofs.number.value_of.Goals as goal
use Rattle.cb_script.proofs.number.value_of.Goals.{then-not-is_ascii_digit-via-then-not-is_ascii_digit, then-not-is_ascii_digit-via-else-not-is_ascii_digit+then-value-ge100000000}

pub returns-then-not-is_ascii_digit : goal.returns-then-not-is_ascii_digit
returns-then-not-is_ascii_digit c = λ n is.
    let digits = is.1 in
    elim c.then-not-is_ascii_digit.branch [
      | then-not-is_ascii_digit-via-then-not-is_ascii_digit w ↦
          let digit : IsInRange 48 57 (get_or c.args.word.now c.loop-byte.byte-index 0) = digit_at c.args.word.now c.loop-byte.byte-index digits c.loop-byte-test.true in
          search rules
      | then-not-is_ascii_digit-via-else-not-is_ascii_digit+then-value-ge100000000 w ↦
          too_many c.args.word.now c.loop-byte.byte-index c.loop-byte.value c.loop-byte-test.true c.loop-byte.invariant.value (search rules) (omega (arith, is.0, is.2))
    ]

pub loop-byte-preserved : goal.loop-byte-preserved
loop-byte-preserved c =
    let digit : IsInRange 48 57 (get_or c.args.word.now c.loop-byte.byte-index 0) = search rules in
    let step = value_step c.args.word.now c.loop-byte.byte-index c.loop-byte.value c.from.result c.loop-byte-test.true c.loop-byte.invariant.digits c.loop-byte.invariant.value digit (omega (arith, digit, c.from.ensures)) in
    record { digits = step.0; value = step.1; small = omega (arith, digit, c.from.ensures) }

pub returns : goal.returns
returns c =
    let all = take_all c.loop-byte.byte-index c.args.word.now c.loop-byte-test.false in
    (c.loop-byte.invariant.small, rw all at c.loop-byte.invariant.digits, rw all at c.loop-byte.invariant.value)
