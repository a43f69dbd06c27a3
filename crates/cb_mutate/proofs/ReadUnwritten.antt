-- A read writes no version.
use Rattle.std.proofs.Common.{ℕ, List, []}
use Rattle.cb_types.specs.declared.reply.Reply.{Reply}
use Rattle.cb_types.specs.declared.reply.Reply.TheVariants as answer
use Rattle.cb_world.specs.declared.access.Access.{Access}
use Rattle.cb_world.specs.declared.shown.Shown.{Shown}
use Rattle.cb_world.specs.Written.{Writes}
use Rattle.cb_mutate.specs.ReadRule.{ReadEffect}

pub read_unwritten : (h : ℕ) (r : Reply) (es : List Access) (s t : Shown) → ReadEffect h r es s t
    → Writes es s []
read_unwritten h (answer.Bytes v bytes) es s t x = x.nothing
read_unwritten h r es s t x = x.nothing
