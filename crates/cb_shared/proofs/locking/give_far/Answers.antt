use Rattle.std.proofs.Common.{◌≤◌, ◌∙◌, ◌*◌, ℕ, List, ◌∷◌, None, Some, ap, sym, subst, arith}
use Rattle.atomic_table.specs.Table.{rest}
use Rattle.cb_rule.specs.declared.view.View.{View}
use Rattle.cb_rule.specs.Slot.{LockSlot, Sat}
use Rattle.cb_shared.specs.UnderLock.{IsEnding}
use Rattle.cb_shared.proofs.LockAlone.{gives_far, gives_from, gives_lock_at}
use Rattle.cb_shared.proofs.locking.give_far.Goals as goal

pub exchange-requires : goal.exchange-requires
exchange-requires g c = let s = c.requires.slot in (
  c.requires.of.table,
  (
    None,
    s ∙ sym (ap (λ (l : List (ℕ × LockSlot)). let k : List (ℕ × LockSlot) = (0, None) ∷ rest l in k)
        s),
  ),
)

pub store-requires : goal.store-requires
store-requires g c = let x = c.exchange.ensures in let o = c.requires.of in let far = c.args.far in
    let v = ap (λ (m : Sat). m.0) x.3 in (
      x.0 ∙ o.table,
      (let z = o.words in omega arith),
      gives_lock_at c.args.top.now.key.first c.args.config.now _ o.key _ _ _ g.W.Deed.job
          g.W.Deed.reply g.W.Deed.keeps far _
          (subst (λ (u : View). 1 ≤ u.share) (sym v) o.live)
          (ap (λ (m : Sat). m.1) x.3 ∙ ap (λ (l : List (ℕ × LockSlot)).
          let k : List (ℕ × LockSlot) = (0, Some far) ∷ rest l in
          k) c.requires.slot)
          (subst (IsEnding c.args.config.now g.W.Deed.job g.W.Deed.reply g.W.Deed.keeps far) (sym v)
          c.requires.ends) (ap (λ (n : ℕ). 2 * n) c.turns_of-word.ensures),
    )

pub returns : goal.returns
returns g c = let x = c.exchange.ensures in let far = c.args.far in let y = c.store.ensures in
    let v = ap (λ (m : Sat). m.0) x.3 in
    gives_from c.args.config.now g.W.Deed.job g.W.Deed.reply g.W.Deed.keeps far c.args.seat.now
    c.exchange.new.seat c.store.new.seat x.0 x.1 v
    (gives_far c.args.config.now g.W.Deed.job g.W.Deed.reply g.W.Deed.keeps far
    c.exchange.new.seat c.store.new.seat (ap (λ (u : View). u.config) v ∙ c.requires.of.config)
    y.0 y.1 (y.2 far (ap (λ (m : Sat). m.1) x.3 ∙ ap (λ (l : List (ℕ × LockSlot)).
    let k : List (ℕ × LockSlot) = (0, Some far) ∷ rest l in k) c.requires.slot)))
