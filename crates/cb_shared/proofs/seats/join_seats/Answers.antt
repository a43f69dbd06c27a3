use Rattle.std.proofs.Common.{arith}
use Rattle.cb_shared.proofs.SeatsAlone.{joins_at}
use Rattle.cb_shared.proofs.seats.join_seats.Goals as goal

pub join_seat-requires : goal.join_seat-requires
join_seat-requires g c = let o = c.requires.other in (
  c.requires.of.table,
  o.table,
  o.carries,
  (let z = c.requires.of.words in omega arith),
  joins_at c.args.top.now.key.first c.args.config.now _ _ _ _ _ _ c.requires.of.key
      c.requires.picks c.requires.of.live o.free o.no_pins
      c.requires.fresh c.requires.out,
)

pub returns : goal.returns
returns g c = c.join_seat.ensures
