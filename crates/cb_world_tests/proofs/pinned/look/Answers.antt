use Rattle.cb_world_tests.proofs.Calling.{caller_keeps}
use Rattle.cb_shared.proofs.Laws.{pin_keeps, unpin_keeps}
use Rattle.cb_world_tests.proofs.pinned.look.Goals as goal

pub words_under-told-requires-clause-caller : goal.words_under-told-requires-clause-caller
words_under-told-requires-clause-caller c = caller_keeps c.args.shared.now c.args.objects.now c.args.pass.now c.pin.new.pass
    c.requires.caller c.pin.ensures.of
    (pin_keeps c.args.h.n c.pin.result _ _ c.pin.ensures.pin)

pub returns-else-is_kept : goal.returns-else-is_kept
returns-else-is_kept c = record {
  caller = caller_keeps c.args.shared.now c.args.objects.now c.words_under-told.new.pass
      c.unpin.new.pass c.words_under-told.ensures.caller c.unpin.ensures.of
      (unpin_keeps c.in-Pinned.pin.handle.n _ _ c.unpin.ensures.unpinned);
}

pub returns-in-Freed : goal.returns-in-Freed
returns-in-Freed c = record {
  caller = caller_keeps c.args.shared.now c.args.objects.now c.args.pass.now c.pin.new.pass
      c.requires.caller c.pin.ensures.of
      (pin_keeps c.args.h.n c.pin.result _ _ c.pin.ensures.pin);
}

pub returns-in-ScopeFull : goal.returns-in-ScopeFull
returns-in-ScopeFull c = record {
  caller = caller_keeps c.args.shared.now c.args.objects.now c.args.pass.now c.pin.new.pass
      c.requires.caller c.pin.ensures.of
      (pin_keeps c.args.h.n c.pin.result _ _ c.pin.ensures.pin);
}

pub returns-in-NotHere : goal.returns-in-NotHere
returns-in-NotHere c = record {
  caller = caller_keeps c.args.shared.now c.args.objects.now c.args.pass.now c.pin.new.pass
      c.requires.caller c.pin.ensures.of
      (pin_keeps c.args.h.n c.pin.result _ _ c.pin.ensures.pin);
}

pub returns-in-Moving : goal.returns-in-Moving
returns-in-Moving c = record {
  caller = caller_keeps c.args.shared.now c.args.objects.now c.args.pass.now c.pin.new.pass
      c.requires.caller c.pin.ensures.of
      (pin_keeps c.args.h.n c.pin.result _ _ c.pin.ensures.pin);
}
