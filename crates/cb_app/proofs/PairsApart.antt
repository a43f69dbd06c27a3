-- A pair that a turn of a closed record finds joining began with the shards of a set, so these
-- stand on different nodes.
use Rattle.std.proofs.Common.{ℕ, suc, ◌<◌, [], ◌∷◌, refl, sym, subst, inl, inr}
use Rattle.std.proofs.lemmas.Option.{none-some}
use Rattle.cb_set.specs.Nodes.{OnDistinctNodes}
use Rattle.cb_types.specs.declared.config.Config.{Config}
use Rattle.cb_types.specs.Config.{IsAccepted}
use Rattle.cb_world.specs.Empty.{empty_far}
use Rattle.cb_world.specs.FarState.{FarState}
use Rattle.cb_core.proofs.Laws.{AreSetsApart, JoinsApart, PairGoes}
use Rattle.cb_rule.specs.declared.turn.Turn.{Turn}
use Rattle.cb_rule.specs.declared.view.View.{View}
use Rattle.cb_rule.specs.Lists.{Has}
use Rattle.cb_rule.specs.Locking.{turn_number}
use Rattle.cb_rule.specs.OneHistory.{IsOneHistory}
use Rattle.cb_shared.specs.Turning.{Did}
use Rattle.cb_app.proofs.TurnHistory.{at_gave, each_leaves, sets_apart}

joins_after : (far new : FarState) → PairGoes far new → AreSetsApart far → JoinsApart far
    → JoinsApart new
joins_after far new goes sets before pair there = elim (goes pair there) [
  | inl was ↦ subst OnDistinctNodes (sym was.same) (before was.old was.there)
  | inr begins ↦ subst OnDistinctNodes (sym begins.same) (sets begins.id begins.set begins.there)
]

module _ (first : ℕ) (c : Config) (ok : IsAccepted c) (v : View) (count : ℕ) (last : FarState)
    (one : IsOneHistory Did first c (v ∷ []) count last) where
  abbrev Joins : ℕ → FarState → Type 0
  Joins n far = JoinsApart far

  start : Joins 0 (empty_far first c)
  start pair there = absurd (none-some pair there)

  step : (t : Turn) → Has t v.turns → turn_number t < count → Joins (turn_number t) t.took
      → Joins (suc (turn_number t)) t.gave
  step t there low before =
      joins_after t.took t.gave (each_leaves first c v count last one t there).pair
      (sets_apart c t.start t.took (one.sound t (v, (0, refl), there))) before

  pub given_joins : (t : Turn) → Has t v.turns → JoinsApart t.gave
  given_joins t there = at_gave first c v count last one Joins start step JoinsApart
      (λ n far apart. apart) t there
