-- Turns come one after another: one had ended when the next one began.
use Rattle.std.proofs.Common.{◌≡◌, ℕ, zero, suc, ◌+◌, ◌-◌, ◌<◌, ◌≤◌, length, ap, ◌∙◌, subst, arith}
use Rattle.std.proofs.Common.{eqb-true}
use Rattle.cb_types.specs.declared.config.Config.{Config}
use Rattle.cb_rule.specs.declared.turn.Turn.{Turn}
use Rattle.cb_rule.specs.Locking.{Deeds, IsTimed, Locked, is_turn, turn_number, turns_on}
use Rattle.cb_rule.specs.Locking.{when_ended}
use Rattle.cb_rule.specs.OneHistory.{Made}
use Rattle.cb_rule.specs.Records.{TurnOk}
use Rattle.cb_rule.specs.Ruled.{Ruled}
use Rattle.cb_rule.specs.Slot.{Table}
use Rattle.cb_rule.proofs.Members.{each_has, has_times, total_some}
use Rattle.cb_rule.proofs.Turns.{not_past}

module _ (deeds : Deeds) (first : ℕ) (c : Config) (s : Table)
    (r : Ruled (Locked deeds) first c s) where
  abbrev lock : Locked deeds c s r.known
  lock = r.far

  is_timed : (t : Turn) → Made s.views t → IsTimed lock.count lock.ends t
  is_timed t m = each_has (IsTimed lock.count lock.ends) t m.0.turns
      (lock.timed m.1.0 m.0 m.1.1) m.2

  turn_ok : (t : Turn) → Made s.views t → TurnOk c r.known.first r.history t
  turn_ok t m = each_has (TurnOk c r.known.first r.history) t m.0.turns
      (r.kept.seats m.1.0 m.0 m.1.1).lasting.past m.2

  -- each number that was counted is that of a turn
  at_number : (k : ℕ) → k < lock.count → (t : Turn) × Made s.views t × (turn_number t ≡ k)
  at_number k less = let one = lock.once k less in
      let seat = total_some (turns_on k) s.views (omega (arith, one)) in
      let found = has_times (is_turn k) seat.1.turns seat.3 in (
        found.0,
        (seat.1, (seat.0, seat.2), found.1),
        eqb-true (turn_number found.0) k found.2,
      )

  ended_at : (t : Turn) → Made s.views t → (k : ℕ) → k < lock.count → turn_number t ≡ k
      → t.until ≡ lock.ends k
  ended_at t m k less number =
      (is_timed t m).ended (omega (arith, less, number)) ∙ ap lock.ends number

  -- the history is at least as long as when the last turn had ended
  pub last_end : when_ended lock.ends lock.count ≤ length r.history
  last_end = go lock.count (omega arith)
    where
      go : (n : ℕ) → n ≤ lock.count → when_ended lock.ends n ≤ length r.history
      go zero le = omega arith
      go (suc k) le = let x = at_number k (omega (arith, le)) in
          let e = ended_at x.0 x.1 k (omega (arith, le)) x.2 in
          let low = (turn_ok x.0 x.1).reached in omega (arith, e, low)

  -- and it only grew from turn to turn
  grows : (i : ℕ) → i < lock.count → when_ended lock.ends i ≤ lock.ends i
  grows i less = let x = at_number i less in let e = ended_at x.0 x.1 i less x.2 in
      let low = (turn_ok x.0 x.1).lasted in
      let began = subst (λ (k : ℕ). when_ended lock.ends k ≤ x.0.since) x.2 (is_timed x.0 x.1).began in
      omega (arith, e, low, began)

  grows_to : (i d : ℕ) → i + d ≤ lock.count
      → when_ended lock.ends i ≤ when_ended lock.ends (i + d)
  grows_to i zero le = let e : when_ended lock.ends (i + 0) ≡ when_ended lock.ends i =
      ap (when_ended lock.ends) (omega arith) in omega (arith, e)
  grows_to i (suc d) le = let low = grows_to i d (omega (arith, le)) in
      let up = grows (i + d) (omega (arith, le)) in
      let next : i + suc d ≡ suc (i + d) = omega arith in
      let e : when_ended lock.ends (i + suc d) ≡ lock.ends (i + d) =
      ap (when_ended lock.ends) next in omega (arith, low, up, e)

  pub in_order : (t u : Turn) → Made s.views t → Made s.views u → turn_number t < turn_number u
      → t.until ≤ u.since
  in_order t u mt mu less = let past = not_past deeds first c s r u mu in
      let ended = (is_timed t mt).ended (omega (arith, less, past)) in
      let began = (is_timed u mu).began in
      let d = turn_number u - suc (turn_number t) in
      let same : suc (turn_number t) + d ≡ turn_number u = omega (arith, less) in
      let up = grows_to (suc (turn_number t)) d (omega (arith, same, past)) in
      let at : when_ended lock.ends (suc (turn_number t) + d)
      ≡ when_ended lock.ends (turn_number u) = ap (when_ended lock.ends) same in
      omega (arith, ended, began, up, at)
