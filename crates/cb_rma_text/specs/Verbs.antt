-- The verbs in front of one number.
use Rattle.std.specs.Prelude.{ℕ, List, codes}
use Rattle.cb_rma.specs.declared.order.Order.TheVariants as order
use Rattle.cb_rma.specs.declared.step.Step.{Step}
use Rattle.cb_rma.specs.declared.step.Step.TheVariants as step
use Rattle.cb_rma_text.specs.declared.verb.Verb.{Verb}
use Rattle.cb_rma_text.specs.declared.verb.Verb.TheVariants.{Drop, Send, Ask, Ack, Show}

-- the word of each
abbrev pub verb_word : Verb → List ℕ
verb_word Drop = codes "drop"
verb_word Send = codes "send"
verb_word Ask = codes "ask"
verb_word Ack = codes "ack"
verb_word Show = codes "show"

-- the event of a verb and its number
abbrev pub numbered : Verb → ℕ → Step
numbered Drop n = step.Submit (order.Drop n)
numbered Send n = step.Send n
numbered Ask n = step.Ask n
numbered Ack n = step.Ack n
numbered Show n = step.Show n
