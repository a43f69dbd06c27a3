use Rattle.std.proofs.Common.{arith}
use Rattle.cb_class.proofs.Laws.{slots_at_most}
use Rattle.cb_span.proofs.span.Span.from_slots.Goals as goal

pub taken_count-live-requires : goal.taken_count-live-requires
taken_count-live-requires c =
    omega (arith, c.requires.sized, slots_at_most c.args.class c.requires.class)
