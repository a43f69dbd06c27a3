-- A make leaves its pass one that knows the object.
use Rattle.std.proofs.Common.{ℕ, Result, Option, None, Some, List, subst}
use Rattle.std.specs.Prelude.{IfOk, IfSome}
use Rattle.cb_member.specs.declared.no_memory.NoMemory.{NoMemory}
use Rattle.cb_types.specs.declared.handle.Handle.{Handle}
use Rattle.cb_types.specs.declared.job.Job.TheVariants as jobs
use Rattle.cb_types.specs.declared.reply.Reply.{Reply}
use Rattle.cb_shared.specs.declared.pass.Pass.{Pass}
use Rattle.cb_shared.specs.declared.runtime.Shared.{Shared}
use Rattle.cb_shared.specs.Calls.{TurnGives}
use Rattle.cb_shared.specs.Passes.{IsPassOf}
use Rattle.cb_shared.proofs.Laws.{call_made}
use Rattle.cb_shared_bench.specs.Callers.{IsCaller, IsToldMade}

pub call_makes : (s : Shared) (bytes : List ℕ) (r : Result Reply NoMemory) (o : Option Handle)
    (p q : Pass) → IsPassOf s q
    → IfOk r (λ x. TurnGives s.config (jobs.Make bytes) x p.seat.me.0 q.seat.me.0)
    → IfSome o (IsToldMade r) → IfSome o (λ h. IsCaller s h q)
call_makes s bytes r None p q of given is = tt
call_makes s bytes r (Some h) p q of given is = record {
  of = of;
  knows = call_made s.config bytes h is.0 p.seat.me.0 q.seat.me.0
      (subst (λ (x : Result Reply NoMemory). IfOk x (λ y. TurnGives s.config (jobs.Make bytes) y
      p.seat.me.0 q.seat.me.0)) is.1 given);
}
