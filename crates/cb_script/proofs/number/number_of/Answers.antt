use Rattle.std.proofs.Common.{◌≡◌, ◌<◌, length, get_or, arith, rules}
use Rattle.cb_script.proofs.Decimals.{IsCanonical, empty_is_none, leading_is_none, number_from_value}
use Rattle.cb_script.proofs.number.number_of.Goals as goal
use Rattle.cb_script.proofs.number.number_of.Goals.{else-word-gt1-via-then-word-gt1+else-word-eq48, else-word-gt1-via-else-word-gt1}

pub returns-then-is_empty : goal.returns-then-is_empty
returns-then-is_empty c = empty_is_none c.args.word.now (search rules)

pub returns-then-word-eq48 : goal.returns-then-word-eq48
returns-then-word-eq48 c = leading_is_none c.args.word.now (search rules) (search rules)

pub returns : goal.returns
returns c =
    let some : 0 < length c.args.word.now = search rules in
    let leading : get_or c.args.word.now 0 0 ≡ 48 → length c.args.word.now ≡ 1 =
    elim c.else-word-gt1.branch [
      | else-word-gt1-via-then-word-gt1+else-word-eq48 w ↦ λ h. absurd (w.if-word-eq48.false h)
      | else-word-gt1-via-else-word-gt1 w ↦ λ h. omega arith
    ] in
    let canonical : IsCanonical c.args.word.now = record { some = some; leading = leading } in
    number_from_value c.args.word.now c.value_of.result canonical c.value_of.ensures
