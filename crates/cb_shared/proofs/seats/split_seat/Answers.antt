use Rattle.std.proofs.Common.{ℕ, [], ap, ◌∙◌, arith}
use Rattle.cb_rule.specs.Slot.{Sat}
use Rattle.cb_rule.specs.Steps.{left_of, right_of}
use Rattle.cb_shared.specs.Seats.{record_at}
use Rattle.cb_shared.proofs.SeatsAlone.{splits_at}
use Rattle.cb_shared.proofs.seats.split_seat.Goals as goal

pub split_seat-requires : goal.split_seat-requires
split_seat-requires g c = (
  c.requires.of.table,
  (let z = c.requires.of.words in omega arith),
  splits_at c.args.top.now.key.first c.args.top.now.key.config _ _ c.args.share _ c.requires.picks
      c.requires.share.0 c.requires.share.1 c.requires.fresh,
)

pub returns-clause-left : goal.returns-clause-left
returns-clause-left g c = let s = c.split_seat.ensures in (
  s.0,
  s.1,
  s.2 ∙ ap (λ (n : ℕ). let m : Sat =
      (left_of n (record_at c.args.seat.now), c.args.seat.now.me.1) in m) c.requires.picks,
)

pub returns-clause-right : goal.returns-clause-right
returns-clause-right g c = let s = c.split_seat.ensures in (
  s.3,
  s.4 ∙ ap (λ (n : ℕ). let m : Sat = (right_of n (record_at c.args.seat.now), []) in m)
      c.requires.picks,
)
