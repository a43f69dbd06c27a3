use Rattle.cb_set.proofs.Survivors.{Found}
use Rattle.cb_set.proofs.span_set.SpanSet.survivors.Given as goal

abbrev pub invariant-loop-p : goal.invariant-loop-p
invariant-loop-p l = Found l.m l.self.shards l.p l.present l.count
