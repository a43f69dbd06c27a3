-- What a caller knows it knows behind a turn that hands an order out or takes one.
use Rattle.std.proofs.Common.{Result}
use Rattle.cb_member.specs.declared.no_memory.NoMemory.{NoMemory}
use Rattle.cb_types.specs.declared.handle.Handle.{Handle}
use Rattle.cb_types.specs.declared.job.Job.{Job}
use Rattle.cb_types.specs.declared.reply.Reply.{Reply}
use Rattle.cb_shared.specs.declared.pass.Pass.{Pass}
use Rattle.cb_shared.specs.declared.runtime.Shared.{Shared}
use Rattle.cb_shared.specs.Ordering.{FetchFinds}
use Rattle.cb_shared.specs.Passes.{IsPassOf, record_of}
use Rattle.cb_shared.specs.Turning.{TurnBy}
use Rattle.cb_shared.proofs.Laws.{fetch_keeps, turned_keeps}
use Rattle.cb_shared_bench.specs.Callers.{IsCaller}

pub turned_caller : (s : Shared) (h : Handle) (job : Job) (r : Result Reply NoMemory) (p q : Pass)
    → IsCaller s h p → IsPassOf s q → TurnBy s.config job r (record_of p) (record_of q)
    → IsCaller s h q
turned_caller s h job r p q caller of turn = record {
  of = of;
  knows = turned_keeps s.config job r (record_of p) (record_of q) turn h.n caller.knows;
}

pub fetched_caller : (s : Shared) (h far : Handle) (r : Result Reply NoMemory) (p q : Pass)
    → IsCaller s h p → IsPassOf s q
    → FetchFinds s.config far r (record_of p) (record_of q) → IsCaller s h q
fetched_caller s h far r p q caller of turn = record {
  of = of;
  knows = fetch_keeps s.config far r (record_of p) (record_of q) turn h.n caller.knows;
}
