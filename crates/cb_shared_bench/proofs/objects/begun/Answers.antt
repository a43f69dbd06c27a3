use Rattle.std.proofs.lemmas.Result.{IfOk-weaker}
use Rattle.cb_shared_bench.proofs.objects.begun.Goals as goal

pub returns : goal.returns
returns c = record { of = IfOk-weaker c.new.result _ _ (λ r b. b.of) c.new.ensures.begun }
