-- What a turn of a record did, by its job and its reply, where the job needs no order.
use Rattle.std.proofs.Common.{◌≡◌, Option, subst}
use Rattle.cb_types.specs.declared.config.Config.{Config}
use Rattle.cb_types.specs.declared.job.Job.{Job}
use Rattle.cb_types.specs.declared.reply.Reply.{Reply}
use Rattle.cb_core.specs.Jobs.{NeedsNoOrder}
use Rattle.cb_rule.specs.declared.turn.Turn.{Turn}
use Rattle.cb_shared.specs.Turning.{Did, DidAs, DidBy}
use Rattle.cb_shared.proofs.DidAlone.{did_alone}

pub asked_alone : (c : Config) (t : Turn) (job : Job) (reply : Option Reply) → NeedsNoOrder job
    → t.job ≡ job → t.reply ≡ reply → Did c t → DidAs c job reply t.start t.acts t.took t.gave
asked_alone c t job reply alone asked told did =
    did_alone c job t.order reply t.keeps t.start t.acts t.took t.gave alone
    (subst (λ (j : Job). DidBy c j t.order reply t.keeps t.start t.acts t.took t.gave) asked
    (subst (λ (o : Option Reply). DidBy c t.job t.order o t.keeps t.start t.acts t.took t.gave) told
    did))
