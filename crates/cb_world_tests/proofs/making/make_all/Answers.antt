use Rattle.std.proofs.Common.{subst}
use Rattle.std.specs.Prelude.{Option, IfSome}
use Rattle.cb_types.specs.declared.handle.Handle.{Handle}
use Rattle.cb_rule.specs.Steps.{Knows}
use Rattle.cb_world_tests.proofs.Calling.{caller_more, caller_of}
use Rattle.cb_world_tests.proofs.making.make_all.Goals as goal

pub loop-i-preserved : goal.loop-i-preserved
loop-i-preserved g c = caller_more c.args.shared.now c.loop-i.objects.items c.push.new.self.items
    c.in-Some.h c.make_one.new.pass
    (caller_of c.args.shared.now c.as_slice-known.result.now c.loop-i.objects.items
    c.make_one.new.pass c.as_slice-known.ensures.value c.make_one.ensures.caller)
    (subst (λ (r : Option Handle). IfSome r (λ h. Knows h.n c.make_one.new.pass.seat.me.0))
    c.in-Some.is c.in_ok-h.ensures.knows)
    c.in_ok-push.ensures.items
