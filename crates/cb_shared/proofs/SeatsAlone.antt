-- Seats are split and joined by the rule of the table, whose key has the configuration.
use Rattle.std.proofs.Common.{◌≡◌, ℕ, ◌<◌, ◌≤◌, [], false, sym, subst}
use Rattle.atomic_table.specs.Table.{Splits, Joins}
use Rattle.cb_types.specs.declared.config.Config.{Config}
use Rattle.cb_rule.specs.declared.view.View.{View}
use Rattle.cb_rule.specs.Locking.{Locked}
use Rattle.cb_rule.specs.Ruled.{Ruled}
use Rattle.cb_rule.specs.Steps.{blank, joined, left_of, right_of}
use Rattle.cb_rule.proofs.Laws.{joins, locked_steady, splits}
use Rattle.cb_shared.specs.Turning.{Did}

pub splits_at : (first : ℕ) (c : Config) (id : ℕ) (v : View) (given picked : ℕ) → picked ≡ given
    → 1 ≤ given → given < v.share → v.fresh ≡ []
    → Splits (Ruled (Locked Did) first c) id v (left_of picked v) (right_of picked v)
splits_at first c id v given picked is some less fresh =
    subst (λ (n : ℕ). Splits (Ruled (Locked Did) first c) id v (left_of n v) (right_of n v)) (sym is)
    (splits (Locked Did) (locked_steady Did) first c id v given some less fresh)

pub joins_at : (first : ℕ) (c k picked : Config) (id : ℕ) (v : View) (other : ℕ) (w : View)
    → k ≡ c → picked ≡ c → 1 ≤ v.share → w.holds ≡ false → w.pins ≡ [] → v.fresh ≡ []
    → v.holds ≡ false
    → Joins (Ruled (Locked Did) first k) id v other w (joined v w) (blank picked)
joins_at first c k picked id v other w key is live quiet bare fresh out =
    subst (λ (x : Config). Joins (Ruled (Locked Did) first x) id v other w (joined v w) (blank picked))
    (sym key) (subst (λ (x : Config).
    Joins (Ruled (Locked Did) first c) id v other w (joined v w) (blank x)) (sym is)
    (joins (Locked Did) (locked_steady Did) first c id v other w live quiet bare fresh out))
