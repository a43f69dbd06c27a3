use Rattle.std.proofs.Common.{◌∙◌, ℕ, List, ◌∷◌, Some, ap, sym, subst, arith}
use Rattle.atomic_table.specs.Table.{rest}
use Rattle.cb_rule.specs.LockSteps.{HasTaken}
use Rattle.cb_rule.specs.Slot.{LockSlot, Sat}
use Rattle.cb_shared.proofs.LockAlone.{none_taken, takes_far, takes_lock_at}
use Rattle.cb_shared.proofs.locking.take_far.Goals as goal

pub compare_exchange-found-requires : goal.compare_exchange-found-requires
compare_exchange-found-requires g c = let o = c.requires.of in (
  o.table,
  (let z = o.words in omega arith),
  takes_lock_at c.args.top.now.key.first _ c.requires.picks c.args.config.now _ o.key _ _
      c.args.word _ o.live c.requires.even,
)

pub exchange-requires : goal.exchange-requires
exchange-requires g c = let x = c.compare_exchange-found.ensures in
    let t = x.2.0.0 c.if-found-word.false in
    let e = ap (λ (m : Sat). m.1) t.taken in (
      x.0 ∙ c.requires.of.table,
      (
        Some t.far,
        e ∙ sym (ap (λ (l : List (ℕ × LockSlot)).
            let k : List (ℕ × LockSlot) = (0, Some t.far) ∷ rest l in
            k) e),
      ),
    )

pub returns-then-found-word-clause-lost : goal.returns-then-found-word-clause-lost
returns-then-found-word-clause-lost g c none = let x = c.compare_exchange-found.ensures in
    (x.0, x.1, x.2.0.1 c.if-found-word.true)

pub returns-clause-took : goal.returns-clause-took
returns-clause-took g c far is = let x = c.compare_exchange-found.ensures in let y = c.exchange.ensures in
    takes_far c.args.config.now c.args.word far c.args.seat.now c.compare_exchange-found.new.seat
    c.exchange.new.seat c.requires.of.config (
      x.0,
      x.1,
      subst (λ (n : ℕ).
          HasTaken c.args.seat.now.me n c.compare_exchange-found.new.seat.me) c.if-found-word.false
          (x.2.0.0 c.if-found-word.false),
    ) (y.0, y.1, y.3)
    (y.2 ∙ ap (λ (s : LockSlot). let k : List (ℕ × LockSlot) =
    (0, s) ∷ rest c.compare_exchange-found.new.seat.me.1 in k) is)

pub returns-clause-first : goal.returns-clause-first
returns-clause-first g c far is = ap (λ (m : Sat). m.0.known.first) c.exchange.ensures.3
    ∙ c.compare_exchange-found.ensures.2.1 c.if-found-word.false ∙ c.requires.picks

pub returns-clause-lost : goal.returns-clause-lost
returns-clause-lost g c none = absurd (none_taken c.args.seat.now.me _ c.compare_exchange-found.new.seat.me
    (c.compare_exchange-found.ensures.2.0.0 c.if-found-word.false)
    (c.exchange.ensures.2 ∙ ap (λ (s : LockSlot). let k : List (ℕ × LockSlot) =
    (0, s) ∷ rest c.compare_exchange-found.new.seat.me.1 in k) none))
