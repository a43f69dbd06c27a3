-- What a make tells of the object that it made.
use Rattle.std.specs.Prelude.{◌≡◌, ℕ, Option, None, Some}
use Rattle.atomic_table.specs.Table.{Step}
use Rattle.cb_types.specs.declared.job.Job.{Job}
use Rattle.cb_types.specs.declared.job.Job.TheVariants.{Make}
use Rattle.cb_types.specs.declared.reply.Reply.{Reply}
use Rattle.cb_types.specs.declared.reply.Reply.TheVariants as answer
use Rattle.cb_rule.specs.declared.view.View.{View}
use Rattle.cb_rule.specs.LockSteps.{took}
use Rattle.cb_rule.specs.Slot.{LockSlot, Sat}
use Rattle.cb_rule.specs.Steps.{Knows}

-- an exchange of the lock's word that takes the lock, or finds another word, as the rule tells it.
-- Where it takes the lock, it is known which version makes give.
abbrev pub took_first : ℕ → Step LockSlot → Sat → ℕ → Sat → Type 0
took_first first st m n m' = took st m n m' × (n ≡ st.first → m'.0.known.first ≡ first)

-- A make that is answered Made gave this first version, to an object that the record did not know.
abbrev pub MakesNew : ℕ → Job → Reply → View → Type 0
MakesNew first (Make bytes) (answer.Made handle version) v =
    (version ≡ first) × (Knows handle.n v → ⊥)
MakesNew first job r v = Unit {0}

-- so where one try answers the call
abbrev pub TriesNew : ℕ → Job → Option Reply → View → Type 0
TriesNew first job (Some r) v = MakesNew first job r v
TriesNew first job None v = Unit {0}
