-- Of the jobs of the worker that evicts, a gather alone is answered that a batch began.
use Rattle.std.proofs.Common.{◌≡◌, Bool, true, false, List, Option, Some, Result, Ok, Err, IfOk}
use Rattle.std.proofs.Common.{sym, ap, ◌∙◌, inl, inr}
use Rattle.std.proofs.lemmas.Bool.{false≢true}
use Rattle.cb_member.specs.declared.no_memory.NoMemory.{NoMemory}
use Rattle.cb_types.specs.declared.config.Config.{Config}
use Rattle.cb_types.specs.declared.job.Job.{Job}
use Rattle.cb_types.specs.declared.job.Job.TheVariants as job
use Rattle.cb_types.specs.declared.reply.Reply.{Reply}
use Rattle.cb_types.specs.declared.reply.Reply.TheVariants as answer
use Rattle.cb_world.specs.declared.access.Access.{Access}
use Rattle.cb_world.specs.declared.shown.Shown.{Shown}
use Rattle.cb_world.specs.FarState.{FarState}
use Rattle.cb_evict.specs.AbortRule.{AbortRule}
use Rattle.cb_evict.specs.CommitRule.{CommitRule}
use Rattle.cb_evict.specs.ShipRule.{ShipRule}
use Rattle.cb_core.specs.Jobs.{NeedsNoOrder}
use Rattle.cb_core.specs.Parts.{Holding}
use Rattle.cb_core.specs.Turned.{Does, Turned, done, once_counted, worn}
use Rattle.cb_rule.specs.declared.view.View.{View}
use Rattle.cb_shared.proofs.Laws.{asked_alone}
use Rattle.cb_shared.specs.Turning.{DidAs, ReadsByPin, Slate, TurnBy, slate_run, slate_shows}
use Rattle.cb_workers.specs.Bodies.{TellsNoBatch}
use Rattle.cb_workers.specs.Rules.{owner}
use Rattle.cb_workers.specs.declared.worker.Worker.{Worker}
use Rattle.cb_workers.specs.declared.worker.Worker.TheVariants as worker

abbrev tells_batch : Reply → Bool
tells_batch (answer.Batch set) = true
tells_batch reply = false

no_batch : (r : Reply) → tells_batch r ≡ false → TellsNoBatch r
no_batch r none set is = false≢true (sym none ∙ ap tells_batch is)

-- ---- by the rule of each
shipped : (far new : FarState) (r : Reply) (es : List Access) → ShipRule far new r es
    → tells_batch r ≡ false
shipped far new r es a = elim a.ships [
  | inl x ↦ ap tells_batch x.reply
  | inr (inl x) ↦ ap tells_batch x.reply
  | inr (inr (inl x)) ↦ ap tells_batch x.reply
  | inr (inr (inr x)) ↦ ap tells_batch x.reply
]

committed : (far new : FarState) (r : Reply) (es : List Access) → CommitRule far new r es
    → tells_batch r ≡ false
committed far new r es a = elim a.answered [
  | inl x ↦ ap tells_batch x.reply
  | inr (inl x) ↦ ap tells_batch x.reply
  | inr (inr x) ↦ ap tells_batch x.reply
]

aborted : (far new : FarState) (r : Reply) (es : List Access) → AbortRule far new r es
    → tells_batch r ≡ false
aborted far new r es a = elim a.answered [
  | inl x ↦ ap tells_batch x.reply
  | inr x ↦ ap tells_batch x.reply
]

-- ---- by what a turn did
turn_told : (c : Config) (work : Job) (r : Reply) (a b : Holding Slate)
    → (Does slate_run slate_shows ReadsByPin c work (once_counted a work) r b
    → tells_batch r ≡ false)
    → Turned slate_run slate_shows ReadsByPin c work a r b → tells_batch r ≡ false
turn_told c work r a b may (worn last is same ran) = ap tells_batch is
turn_told c work r a b may (done few does) = may does

abbrev is_evict : Option Worker → Bool
is_evict (Some worker.Evict) = true
is_evict other = false

alone_told : (c : Config) (work : Job) (r : Reply) (start : Shown) (es : List Access)
    (took gave : FarState) → owner work ≡ Some worker.Evict → NeedsNoOrder work
    → DidAs c work (Some r) start es took gave → tells_batch r ≡ false
alone_told c job.Ship r start es took gave own alone did =
    turn_told c job.Ship r _ _ (λ does. shipped _ _ r does.events does.rule) did
alone_told c job.Commit r start es took gave own alone did =
    turn_told c job.Commit r _ _ (λ does. committed _ _ r does.events does.rule) did
alone_told c job.Abort r start es took gave own alone did =
    turn_told c job.Abort r _ _ (λ does. aborted _ _ r does.events does.rule) did
alone_told c job.Gather r start es took gave own alone did = absurd alone
alone_told c job.Install r start es took gave own alone did = absurd alone
alone_told c work r start es took gave own alone did = absurd (false≢true (ap is_evict own))

-- such a turn tells of no batch
pub begins_none : (c : Config) (work : Job) (r : Result Reply NoMemory) (v w : View)
    → NeedsNoOrder work → TurnBy c work r v w
    → IfOk r (λ reply. owner work ≡ Some worker.Evict → TellsNoBatch reply)
begins_none c work (Ok reply) v w alone (d, adds, grows) = λ own. no_batch reply (alone_told c work
    reply adds.turn.start adds.turn.acts adds.turn.took adds.turn.gave own alone
    (asked_alone c adds.turn work (Some reply) alone adds.job_is adds.reply_is adds.did))
begins_none c work (Err e) v w alone by_turn = tt
