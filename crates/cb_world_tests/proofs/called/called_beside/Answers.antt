use Rattle.cb_world_tests.proofs.Calling.{caller_keeps}
use Rattle.cb_shared.proofs.Laws.{pin_keeps, unpin_keeps}
use Rattle.cb_world_tests.proofs.called.called_beside.Goals as goal

pub words_under-before-requires-clause-caller : goal.words_under-before-requires-clause-caller
words_under-before-requires-clause-caller g c = caller_keeps c.args.shared.now c.args.objects.now c.args.second.now c.pin.new.pass
    c.requires.second c.pin.ensures.of (pin_keeps c.args.h.n c.pin.result _ _ c.pin.ensures.pin)

pub returns-in-Pinned-clause-second : goal.returns-in-Pinned-clause-second
returns-in-Pinned-clause-second g c = caller_keeps c.args.shared.now c.args.objects.now
    c.words_under-behind.new.pass c.unpin.new.pass c.words_under-behind.ensures.caller
    c.unpin.ensures.of (unpin_keeps c.in-Pinned.pin.handle.n _ _ c.unpin.ensures.unpinned)

pub returns-in_default : goal.returns-in_default
returns-in_default g c = record {
  caller = c.requires.caller;
  second = caller_keeps c.args.shared.now c.args.objects.now c.args.second.now c.pin.new.pass
      c.requires.second c.pin.ensures.of (pin_keeps c.args.h.n c.pin.result _ _ c.pin.ensures.pin);
}
