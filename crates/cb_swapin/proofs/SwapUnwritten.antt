-- A swap-in writes no version.
use Rattle.std.proofs.Common.{ℕ, List, [], refl, sym, subst}
use Rattle.cb_set.specs.SetState.{SetState}
use Rattle.cb_types.specs.declared.reply.Reply.{Reply}
use Rattle.cb_types.specs.declared.reply.Reply.TheVariants as answer
use Rattle.cb_world.specs.declared.access.Access.{Access}
use Rattle.cb_world.specs.declared.shown.Shown.{Shown}
use Rattle.cb_world.specs.FarState.{FarState}
use Rattle.cb_world.specs.Written.{Writes}
use Rattle.cb_swapin.specs.SwapEffect.{SwapEffect}
use Rattle.cb_swapin.specs.SwapRule.{BringsFar, BringsRule}

pub swap_unwritten : {rows : SetState → ℕ} (id p : ℕ) (far new : FarState) (r : Reply) (es : List Access) (s t : Shown)
    → BringsRule rows id p far new r es → SwapEffect id p far new r es s t → Writes es s []
swap_unwritten {rows = rows} id p far new r es s t rule x = by r rule.state x
  where
    by : (q : Reply) → BringsFar (rows rule.set) far new id p rule.set es q → SwapEffect id p far new q es s t
        → Writes es s []
    by (answer.Swapped f) z y = y.nothing
    by q z y = subst (λ (l : List Access). Writes l s []) (sym z.1) (λ old. refl)
