use Rattle.std.proofs.Common.{refl, arith}
use Rattle.cb_shared.proofs.PinsAlone.{gives_pins_at}
use Rattle.cb_shared.proofs.pins.give_pin.Goals as goal

pub fetch_sub-requires : goal.fetch_sub-requires
fetch_sub-requires c = let o = c.requires.of in (
  o.table,
  (let z = o.words in let l = c.requires.handle in omega arith),
  gives_pins_at c.args.top.now.key.first c.args.config.now _ o.key _ _ _ o.live _
      c.requires.handle c.requires.held,
)

pub returns : goal.returns
returns c = (c.fetch_sub.ensures.0, c.fetch_sub.ensures.1, c.fetch_sub.ensures.2 c.args.h refl)
