-- What holds of each reply that tells why an object can't be brought in.
use Rattle.std.proofs.Common.{ℕ, Bool, List}
use Rattle.cb_member.specs.declared.names.Loss.{Loss}
use Rattle.cb_types.specs.declared.handle.SetId.{SetId}
use Rattle.cb_types.specs.declared.reply.Reply.{Reply}
use Rattle.cb_types.specs.declared.reply.Reply.TheVariants as answer
use Rattle.cb_shared.specs.Calls.{IsLack}

pub by_lack : (P : Reply → Type 0)
    → ((set : SetId) (lost : List Loss) → P (answer.Unavailable set lost))
    → ((frames loose nodes : ℕ) → P (answer.NoRoom frames loose nodes)) → P answer.Worn
    → (again : Bool) (r : Reply) → IsLack again r → P r
by_lack P away room worn again (answer.Unavailable set lost) x = away set lost
by_lack P away room worn again (answer.NoRoom frames loose nodes) x = room frames loose nodes
by_lack P away room worn again answer.Worn x = worn
by_lack P away room worn again r x = absurd x
