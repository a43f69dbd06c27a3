-- The rule tells what a record has of objects, what its makes told, and that its turns are one
-- history where it has the whole share.
use Rattle.std.proofs.Common.{◌≡◌, ℕ, [], ◌∷◌, sym, subst}
use mathlib.Core.Option.{none, some}
use lib.ListN.{get_elem?}
use Rattle.atomic_table.specs.Table.{step, Allows}
use Rattle.cb_types.specs.declared.config.Config.{Config}
use Rattle.cb_rule.specs.Locking.{Locked}
use Rattle.cb_rule.specs.declared.view.View.{View}
use Rattle.cb_rule.specs.OneHistory.{IsOneHistory}
use Rattle.cb_rule.specs.Ruled.{Ruled}
use Rattle.cb_rule.specs.Slot.{Sat, Table}
use Rattle.cb_rule.proofs.Laws.{one_history, stands_alone, stands_by_itself, whole_history}
use Rattle.cb_shared.specs.Recalls.{Recalls, recalled}
use Rattle.cb_shared.specs.Turning.{Did}
use Rattle.cb_shared.proofs.MadeFirst.{turns_first}
use Rattle.cb_shared.proofs.Tallying.{loads_same}

recalls : (first : ℕ) (k : Config) (s : Table) (id : ℕ) (u : View) → Ruled (Locked Did) first k s
    → get_elem? s.views id ≡ some u → Recalls first u
recalls first k s id u r at = record {
  own = stands_alone (Locked Did) first k s r id u at;
  makes = turns_first first k s.views r.far.count (r.far.chain r.far.count)
      (one_history Did first k s r) u (id, at);
  stands = stands_by_itself (Locked Did) first k s r id u at;
  whole = λ share idle. (
    r.far.count,
    r.far.chain r.far.count,
    subst (λ (c : Config).
        IsOneHistory Did first c (u ∷ []) r.far.count (r.far.chain r.far.count))
        (sym (r.kept.seats id u at).same_config) (whole_history Did first k s r id u at share),
  );
}

pub recalls_at : (first one : ℕ) → one ≡ first → (k : Config) (slots id i : ℕ) (me : Sat)
    → Allows (Ruled (Locked Did) first k) slots id me i (λ n. n)
    (recalled one (step slots i 0 0 none) me)
recalls_at first one is k slots id i me = loads_same first k slots id i me (Recalls one me.0)
    (λ s r at. subst (λ (n : ℕ). Recalls n me.0) (sym is) (recalls first k s id me.0 r at))
