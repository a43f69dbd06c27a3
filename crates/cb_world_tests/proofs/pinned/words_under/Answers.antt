use Rattle.std.proofs.Common.{arith}
use Rattle.cb_world_tests.proofs.Calling.{caller_keeps}
use Rattle.cb_shared.proofs.Laws.{peek_has, peek_keeps}
use Rattle.cb_world_tests.proofs.pinned.words_under.Goals as goal

pub peek-word-requires-clause-index : goal.peek-word-requires-clause-index
peek-word-requires-clause-index c =
    omega (arith, c.loop-index-test.true, c.div_ceil-index-end.ensures, c.len.ensures)

pub loop-index-preserved : goal.loop-index-preserved
loop-index-preserved c = (
  caller_keeps c.args.shared.now c.args.objects.now c.loop-index.pass c.peek-word.new.pass
      c.loop-index.invariant.0 c.peek-word.ensures.of
      (peek_keeps c.args.pin.now.handle.n c.args.pin.now.version c.loop-index.index
      c.peek-word.result _ _ c.peek-word.ensures.peeked),
  peek_has c.args.pin.now c.args.pin.now.handle.n c.args.pin.now.version c.loop-index.index
      c.peek-word.result _ _ c.peek-word.ensures.peeked c.loop-index.invariant.1,
)
