-- The rule says what stands of the lock, the slot of the far state and the turns alone.
use Rattle.std.proofs.Common.{◌≡◌, ℕ, ◌+◌, ◌^◌, ◌<◌, ◌≤◌, sym, ap, ◌∙◌, inl, inr, ⊎_elim, arith}
use Rattle.cb_types.specs.declared.config.Config.{Config}
use Rattle.cb_world.specs.Empty.{empty_far, empty_shown}
use Rattle.cb_world.specs.FarState.{FarState}
use Rattle.cb_rule.specs.declared.turn.Turn.{Turn}
use Rattle.cb_rule.specs.Locking.{Deeds, IsHandedOn, Locked, TurnStands, turn_number}
use Rattle.cb_rule.specs.OneHistory.{HasTurnNumber, IsOneHistory, Made, TurnsStand}
use Rattle.cb_rule.specs.Ruled.{Ruled}
use Rattle.cb_rule.specs.Slot.{Table}
use Rattle.cb_rule.proofs.Members.{each_has}

module _ (deeds : Deeds) (first : ℕ) (c : Config) (s : Table)
    (r : Ruled (Locked deeds) first c s) where
  abbrev lock : Locked deeds c s r.known
  lock = r.far

  begins : lock.chain 0 ≡ empty_far first c
  begins = lock.empty ∙ ap (λ (n : ℕ). empty_far n c) r.starts

  turn_stands : (t : Turn) → Made s.views t → TurnStands deeds c lock.count lock.chain t
  turn_stands t m = each_has (TurnStands deeds c lock.count lock.chain) t m.0.turns
      (lock.turns m.1.0 m.0 m.1.1) m.2

  pub handed_on : (t : Turn) → Made s.views t → IsHandedOn lock.knew t
  handed_on t m = each_has (IsHandedOn lock.knew) t m.0.turns (lock.handed m.1.0 m.0 m.1.1) m.2

  has_number : (t : Turn) → Made s.views t → HasTurnNumber lock.count t
  has_number t m = ⊎_elim
      (λ (a : (turn_number t < lock.count) × (t.gave ≡ lock.chain (turn_number t + 1))). inl a.0)
      (λ (a : (turn_number t ≡ 2 ^ 40) × (lock.count ≡ 2 ^ 40) × (t.gave ≡ t.took)). inr a)
      (turn_stands t m).gave

  pub not_past : (t : Turn) → Made s.views t → turn_number t ≤ lock.count
  not_past t m = ⊎_elim (λ (less : turn_number t < lock.count). omega (arith, less))
      (λ (a : (turn_number t ≡ 2 ^ 40) × (lock.count ≡ 2 ^ 40) × (t.gave ≡ t.took)).
      let e = a.0 in let f = a.1 in omega (arith, e, f)) (has_number t m)

  -- what a turn gave, where its number is not the last
  gave_next : (t : Turn) → Made s.views t → turn_number t + 1 ≤ lock.count
      → t.gave ≡ lock.chain (turn_number t + 1)
  gave_next t m le = ⊎_elim
      (λ (a : (turn_number t < lock.count) × (t.gave ≡ lock.chain (turn_number t + 1))). a.1)
      (λ (a : (turn_number t ≡ 2 ^ 40) × (lock.count ≡ 2 ^ 40) × (t.gave ≡ t.took)).
      absurd (let e = a.0 in let f = a.1 in omega (arith, e, f, le))) (turn_stands t m).gave

  starts : (t : Turn) → Made s.views t → t.gave.first ≡ first
  starts t m = ⊎_elim
      (λ (a : (turn_number t < lock.count) × (t.gave ≡ lock.chain (turn_number t + 1))).
      let less = a.0 in ap (λ (f : FarState). f.first) a.1
      ∙ lock.starts (turn_number t + 1) (omega (arith, less)) ∙ r.starts)
      (λ (a : (turn_number t ≡ 2 ^ 40) × (lock.count ≡ 2 ^ 40) × (t.gave ≡ t.took)).
      ap (λ (f : FarState). f.first) (a.2 ∙ (turn_stands t m).took)
      ∙ lock.starts (turn_number t) (not_past t m) ∙ r.starts) (turn_stands t m).gave

  pub one_history : IsOneHistory deeds first c s.views lock.count (lock.chain lock.count)
  one_history = record {
    counted = lock.reached;
    once = lock.once;
    none = λ z. ap lock.chain z ∙ begins;
    begins = λ t m z. (turn_stands t m).took ∙ ap lock.chain z ∙ begins;
    follows = λ t u mt mu next. (turn_stands u mu).took ∙ ap lock.chain next
        ∙ sym (gave_next t mt (let le = not_past u mu in omega (arith, le, next)));
    ends = λ t m last. gave_next t m (omega (arith, last)) ∙ ap lock.chain last;
    numbers = has_number;
    unknown = λ t m z. (handed_on t m).began (omega (arith, z)) ∙ ap lock.knew z ∙ lock.unknown
        ∙ ap (λ (n : ℕ). empty_shown n c) r.starts;
    knows = λ t u mt mu next few. (handed_on u mu).began few ∙ ap lock.knew next
        ∙ sym ((handed_on t mt).left (omega (arith, next, few)));
    sound = λ t m. (turn_stands t m).stood;
    starts = starts;
    kept = λ t m. (turn_stands t m).kept;
    did = λ t m. (turn_stands t m).did;
  }

  pub turns_stand : TurnsStand deeds first c s
  turns_stand = record {
    one = r.kept.one;
    held = λ one. lock.held (omega (arith, one));
    free = λ none. let f = lock.free none in record {
      count = lock.count;
      last = lock.chain lock.count;
      word = f.word;
      home = f.home;
      history = one_history;
    };
  }
