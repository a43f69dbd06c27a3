-- The losses of a run.
use Rattle.std.specs.Prelude.{◌<◌, List, [], ◌∷◌, Option, None, Some}
use Rattle.std.specs.List.{AllByRecursion, filter_map}
use Rattle.cb_member.specs.declared.names.Loss.{Loss}
use Rattle.cb_types.specs.declared.answer.Answer.{Answer}
use Rattle.cb_types.specs.declared.request.Request.{Request}
use Rattle.cb_types.specs.declared.request.Request.TheVariants.{Crash}
use Rattle.cb_types.specs.declared.reply.Reply.{Reply}
use Rattle.cb_types.specs.declared.reply.Reply.TheVariants.{EpochAt}

-- the node of a crash that took place, with its epoch
abbrev pub told_loss : Request → Reply → Option Loss
told_loss (Crash node) (EpochAt epoch) = Some (record { node = node; epoch = epoch })
told_loss request reply = None

-- the crashes that took place, in the order of the answers
abbrev pub losses_of : List Answer → List Loss
losses_of answers = filter_map (λ a. told_loss a.request a.reply) answers

-- each loss has an earlier epoch than all after it
abbrev pub AreInOrder : List Loss → Type 0
AreInOrder [] = Unit {0}
AreInOrder (loss ∷ later) =
    AllByRecursion (λ next. loss.epoch.n < next.epoch.n) later × AreInOrder later
