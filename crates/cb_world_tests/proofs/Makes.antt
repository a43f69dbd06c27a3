-- A make leaves a record that knows the object that it tells of.
use Rattle.std.proofs.Common.{ℕ, Result, Ok, Err, Option, None, Some, List, subst}
use Rattle.std.specs.Prelude.{IfOk, IfSome}
use Rattle.cb_member.specs.declared.no_memory.NoMemory.{NoMemory}
use Rattle.cb_types.specs.declared.config.Config.{Config}
use Rattle.cb_types.specs.declared.handle.Handle.{Handle}
use Rattle.cb_types.specs.declared.job.Job.TheVariants as jobs
use Rattle.cb_types.specs.declared.reply.Reply.{Reply}
use Rattle.cb_rule.specs.declared.view.View.{View}
use Rattle.cb_rule.specs.Steps.{Knows}
use Rattle.cb_shared.specs.Calls.{TurnGives}
use Rattle.cb_shared.specs.Seeking.{TurnFinds}
use Rattle.cb_shared.proofs.Laws.{call_made, turn_made}
use Rattle.cb_world_tests.specs.Callers.{TellsMade}

pub turn_makes : (c : Config) (bytes : List ℕ) (r : Result Reply NoMemory)
    (o : Result (Option Handle) NoMemory) (v w : View) → TurnFinds c (jobs.Make bytes) r v w
    → IfOk o (λ found. IfSome found (TellsMade r))
    → IfOk o (λ found. IfSome found (λ h. Knows h.n w))
turn_makes c bytes r (Err e) v w t is = tt
turn_makes c bytes r (Ok None) v w t is = tt
turn_makes c bytes r (Ok (Some h)) v w t is = turn_made c bytes h is.0 v w
    (subst (λ (x : Result Reply NoMemory). TurnFinds c (jobs.Make bytes) x v w) is.1 t)

pub call_makes : (c : Config) (bytes : List ℕ) (r : Result Reply NoMemory)
    (o : Result (Option Handle) NoMemory) (v w : View)
    → IfOk r (λ x. TurnGives c (jobs.Make bytes) x v w)
    → IfOk o (λ found. IfSome found (TellsMade r))
    → IfOk o (λ found. IfSome found (λ h. Knows h.n w))
call_makes c bytes r (Err e) v w t is = tt
call_makes c bytes r (Ok None) v w t is = tt
call_makes c bytes r (Ok (Some h)) v w t is = call_made c bytes h is.0 v w
    (subst (λ (x : Result Reply NoMemory). IfOk x (λ y. TurnGives c (jobs.Make bytes) y v w)) is.1 t)
