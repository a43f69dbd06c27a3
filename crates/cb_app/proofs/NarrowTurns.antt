-- Where no turn of a closed record made a long object, no far state that a turn took or gave has a
-- span or a set of several pages.
use Rattle.std.proofs.Common.{ℕ, suc, ◌<◌, List, [], ◌∷◌, Option, None, Some, refl, inl, inr}
use Rattle.cb_types.specs.declared.config.Config.{Config}
use Rattle.cb_types.specs.declared.job.Job.{Job}
use Rattle.cb_types.specs.declared.order.Kept.{Kept}
use Rattle.cb_types.specs.declared.reply.Reply.{Reply}
use Rattle.cb_world.specs.declared.access.Access.{Access}
use Rattle.cb_world.specs.declared.shown.Shown.{Shown}
use Rattle.cb_world.specs.FarState.{FarState}
use Rattle.cb_world.specs.Played.{played}
use Rattle.cb_world.specs.World.{IsConfigured}
use Rattle.cb_core.specs.Narrow.{IsLongMadeIf, IsNarrow}
use Rattle.cb_core.proofs.Laws.{empty_narrow, ordered_narrow, ordered_stops_narrow, stopped_narrow, turned_narrow}
use Rattle.cb_rule.specs.declared.turn.Turn.{Turn}
use Rattle.cb_rule.specs.declared.view.View.{View}
use Rattle.cb_rule.specs.Lists.{Has}
use Rattle.cb_rule.specs.Locking.{turn_number}
use Rattle.cb_rule.specs.OneHistory.{IsOneHistory, Made}
use Rattle.cb_shared.specs.Turning.{Did, DidBy, held_by, PinLacks, ReadsByPin, slate_run, slate_shows}
use Rattle.cb_app.proofs.TurnHistory.{at_gave, at_last, at_turn, lacks_same, pins_same}

-- one turn
did_narrow : (c : Config) (j : Job) (order : Option Kept) (reply : Option Reply) (keeps : Option Kept)
    (start : Shown) (es : List Access) (took gave : FarState) → IsConfigured c took
    → (IsLongMadeIf j reply → ⊥) → DidBy c j order reply keeps start es took gave → IsNarrow took
    → IsNarrow gave
did_narrow c j order (Some r) keeps start es took gave is short (inl (did, same)) =
    turned_narrow slate_run slate_shows c ReadsByPin pins_same PinLacks lacks_same j
    (held_by start [] took) (held_by (played es start) es gave) r is short did
did_narrow c j order None keeps start es took gave is short (inl (did, same)) =
    stopped_narrow slate_run slate_shows c ReadsByPin pins_same PinLacks lacks_same j
    (held_by start [] took) (held_by (played es start) es gave) is did
did_narrow c j order (Some r) keeps start es took gave is short (inr did) =
    ordered_narrow slate_run slate_shows c j order keeps (held_by start [] took)
    (held_by (played es start) es gave) r is did
did_narrow c j order None keeps start es took gave is short (inr did) =
    ordered_stops_narrow slate_run slate_shows c j order (held_by start [] took)
    (held_by (played es start) es gave) is did.0

module _ (first : ℕ) (c : Config) (v : View) (count : ℕ) (last : FarState)
    (one : IsOneHistory Did first c (v ∷ []) count last)
    (short : (t : Turn) → Has t v.turns → IsLongMadeIf t.job t.reply → ⊥) where
  abbrev Narrow : ℕ → FarState → Type 0
  Narrow n far = IsNarrow far

  step : (t : Turn) → Has t v.turns → turn_number t < count → Narrow (turn_number t) t.took
      → Narrow (suc (turn_number t)) t.gave
  step t there low is = let in_all : Made (v ∷ []) t = (v, (0, refl), there) in
      did_narrow c t.job t.order t.reply t.keeps t.start t.acts t.took t.gave (one.sound t in_all).configured
      (short t there) (one.did t in_all) is

  pub found_narrow : (t : Turn) → Has t v.turns → IsNarrow t.took
  found_narrow t there = at_turn first c v count last one Narrow (empty_narrow first c) step t there

  pub gave_narrow : (t : Turn) → Has t v.turns → IsNarrow t.gave
  gave_narrow t there =
      at_gave first c v count last one Narrow (empty_narrow first c) step IsNarrow (λ n far is. is) t there

  pub last_narrow : IsNarrow last
  last_narrow = at_last first c v count last one Narrow (empty_narrow first c) step
