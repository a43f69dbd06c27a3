use Rattle.std.proofs.lemmas.Result.{IfOk-weaker}
use Rattle.cb_world_tests.proofs.Calling.{first_caller}
use Rattle.cb_world_tests.proofs.making.begun.Goals as goal

pub returns-then-is_worn : goal.returns-then-is_worn
returns-then-is_worn c = record {
  caller = IfOk-weaker c.with_first_version.result _ _ (λ r b. first_caller r.0 r.1 b.of)
      c.with_first_version.ensures.begun;
}

pub returns-else-is_worn : goal.returns-else-is_worn
returns-else-is_worn c = record {
  caller = IfOk-weaker c.new.result _ _ (λ r b. first_caller r.0 r.1 b.of) c.new.ensures.begun;
}
