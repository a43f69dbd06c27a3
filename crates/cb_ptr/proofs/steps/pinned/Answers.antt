use Rattle.std.proofs.Common.{◌+◌, arith, bit_or}
use Rattle.cb_ptr.proofs.Bits.{or_four}
use Rattle.cb_ptr.proofs.Laws.{flag_number-hot_of, takes_pin}
use Rattle.cb_ptr.proofs.steps.pinned.Goals as goal

pub returns : goal.returns
returns c =
    let w = c.args.w in
    takes_pin w (bit_or (w + 8) 4) c.requires.here c.requires.room
    (omega (arith, or_four (w + 8), flag_number-hot_of w))
