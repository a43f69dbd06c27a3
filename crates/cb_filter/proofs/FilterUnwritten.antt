-- A filter writes no version.
use Rattle.std.proofs.Common.{ℕ, List, []}
use Rattle.cb_types.specs.declared.reply.Reply.{Reply}
use Rattle.cb_types.specs.declared.reply.Reply.TheVariants as answer
use Rattle.cb_world.specs.declared.access.Access.{Access}
use Rattle.cb_world.specs.declared.shown.Shown.{Shown}
use Rattle.cb_world.specs.FarState.{FarState}
use Rattle.cb_world.specs.Written.{Writes}
use Rattle.cb_filter.specs.FilterEffect.{FilterChange, FilterEffect}

pub filter_unwritten : (h : ℕ) (far new : FarState) (r : Reply) (es : List Access) (s t : Shown)
    → FilterEffect h far new r es s t → Writes es s []
filter_unwritten h far new r es s t x = by r x.change
  where
    by : (q : Reply) → FilterChange h far new q es s t → Writes es s []
    by answer.Moved z = z.nothing
    by answer.Same z = z.nothing
    by q z = z.nothing
