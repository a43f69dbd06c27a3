-- The pass with the whole share closes the runtime.
use Rattle.std.proofs.Common.{◌≡◌, ◌≢◌, ℕ, ◌+◌, ◌^◌, ◌<◌, Bool, false, cond, List, [], ◌∷◌, Some, replicate}
use Rattle.std.proofs.Common.{sym, refl, ap, ◌∙◌, subst, arith}
use mathlib.Core.Option.{some}
use lib.ListN.{get_elem?}
use Rattle.atomic_table.specs.Table.{Final, Seen}
use Rattle.cb_types.specs.declared.config.Config.{Config}
use Rattle.cb_types.specs.Config.{IsAccepted}
use Rattle.cb_world.specs.declared.entry.Entry.{Entry}
use Rattle.cb_world.specs.declared.shown.Shown.{Shown}
use Rattle.cb_world.specs.Empty.{empty_shown}
use Rattle.cb_world.specs.FarState.{FarState}
use Rattle.cb_world.specs.Seats.{idle_seat}
use Rattle.cb_world.specs.StillDesk.{window_length}
use Rattle.cb_world.specs.World.{WorldState}
use Rattle.cb_rule.specs.declared.turn.Turn.{Turn}
use Rattle.cb_rule.specs.declared.view.View.{View}
use Rattle.cb_rule.specs.Closing.{AreAsKnown, HoldsEntries, IsClosed, KeepsLeft, desk_of}
use Rattle.cb_rule.specs.Lists.{times, total}
use Rattle.cb_rule.specs.Locking.{Deeds, IsUnlocked, Locked, left_known, turn_number}
use Rattle.cb_rule.specs.OneHistory.{IsOneHistory, Made}
use Rattle.cb_rule.specs.Promised.{EntriesStand}
use Rattle.cb_rule.specs.Rule.{RuleKept}
use Rattle.cb_rule.specs.Ruled.{Ruled}
use Rattle.cb_rule.specs.Seats.{claims_it, claims_on, holding, pins_it, pins_on}
use Rattle.cb_rule.specs.ShownWorld.{ShowsWorld}
use Rattle.cb_rule.specs.Slot.{LockSlot, Table}
use Rattle.cb_rule.specs.Steps.{blank}
use Rattle.cb_rule.proofs.ClosedWorld.{as_known, closed_sound}
use Rattle.cb_rule.proofs.ShownWorld.{world_shown}
use Rattle.cb_rule.proofs.Lone.{is_last, lone_entries, lone_told, lone_total, lone_turns, unmade}
use Rattle.cb_rule.proofs.Lone.{wrote}
use Rattle.cb_rule.proofs.Newest.{others_spent}
use Rattle.cb_rule.proofs.Told.{are_told}
use Rattle.cb_rule.proofs.Turns.{handed_on, one_history}
use Rattle.cb_rule.proofs.Promising.{entries_stand}

-- A view with the whole share that has no pin, no claim and not the lock.
pub record IsAtEnd (v : View) : Type 0 where
  pub whole : v.share ≡ 64
  pub no_pins : v.pins ≡ []
  pub no_claims : v.claims ≡ []
  pub no_lock : v.holds ≡ false

-- The far state at home, and that the view closes the words with it.
pub record ViewCloses (deeds : Deeds) (first : ℕ) (c : Config) (s : Table) (v : View) : Type 0 where
  pub far : FarState
  pub home : get_elem? s.homes 0 ≡ some (some (Some far))
  pub closed : IsClosed deeds first c v record {
    desk = desk_of c s.words;
    far = far;
    seats = replicate 64 idle_seat;
  }

module _ (deeds : Deeds) (first : ℕ) (c : Config) (accepted : IsAccepted c) (s : Table)
    (r : Ruled (Locked deeds) first c s) (id : ℕ) (v : View) (at : get_elem? s.views id ≡ some v)
    (end : IsAtEnd v) where
  abbrev k : RuleKept c s.words s.views r.known r.history
  k = r.kept

  abbrev es : List Entry
  es = r.history

  spent : (j : ℕ) (u : View) → j ≢ id → get_elem? s.views j ≡ some u → u ≡ blank c
  spent j u ne there = others_spent c s.views id j v u r.shares at end.whole ne there

  none_of : (f : View → ℕ) → f (blank c) ≡ 0 → f v ≡ 0 → total f s.views ≡ 0
  none_of f none mine = let e = lone_total c s.views id v at spent f none in
      omega (arith, e, mine)

  unpinned : (h : ℕ) → total (pins_on h) s.views ≡ 0
  unpinned h = none_of (pins_on h) refl
      (ap (times (pins_it h)) end.no_pins)

  unclaimed : (h : ℕ) → total (claims_on h) s.views ≡ 0
  unclaimed h = none_of (claims_on h) refl
      (ap (times (claims_it h)) end.no_claims)

  abbrev far : FarState
  far = r.far.chain r.far.count

  nobody : total holding s.views ≡ 0
  nobody = none_of holding refl (ap (λ (b : Bool). cond {A = ℕ} b 1 0) end.no_lock)

  free : IsUnlocked c s r.known r.far.count far
  free = r.far.free nobody

  abbrev w : WorldState
  w = record { desk = desk_of c s.words; far = far; seats = replicate 64 idle_seat }

  holds : ShowsWorld c s far → HoldsEntries (v ∷ []) w
  holds x = record {
    shown = x.shown;
    known = x.known;
    last = λ e last. x.last e (is_last c s.views id v at spent e last) (unclaimed e.handle);
    none = λ h below none. x.none h
        (subst (λ (n : ℕ). h < n) (window_length s.words 1 c.handles) below)
        (λ e w. none e (wrote c s.views id v at spent e w));
  }

  -- the words are as is known, and that is what the newest turn left
  known_words : AreAsKnown r.known (desk_of c s.words)
  known_words = as_known c s.words s.views r.known es k far free.stood

  left_words : (t : Turn) → Made (v ∷ []) t → turn_number t + 1 ≡ far.counts.turns
      → far.counts.turns < 2 ^ 40 → r.known ≡ left_known t
  left_words t made next few = let count = r.far.reached in
      r.far.known_now nobody (omega (arith, few, count))
      ∙ ap r.far.knew (sym count ∙ sym next)
      ∙ sym ((handed_on deeds first c s r t (unmade c s.views id v at spent t made)).left
      (omega (arith, next, few)))

  left : KeepsLeft first c (v ∷ []) w
  left = record {
    newest = λ t made next few. subst (λ (known : Shown). AreAsKnown known (desk_of c s.words))
        (left_words t made next few) known_words;
    unturned = λ z. let count = r.far.reached in
        subst (λ (known : Shown). AreAsKnown known (desk_of c s.words))
        (r.far.known_now nobody (omega (arith, z, count)) ∙ ap r.far.knew (sym count ∙ z)
        ∙ r.far.unknown ∙ ap (λ (n : ℕ). empty_shown n c) r.starts) known_words;
  }

  pub closing : ViewCloses deeds first c s v
  closing = record {
    far = far;
    home = free.home;
    closed = record {
      settings = refl;
      begins = sym free.stood.sound.here.known.first ∙ r.starts;
      idle = refl;
      sound = closed_sound c s.words s.views r.known es k far free.stood unpinned unclaimed
          accepted;
      calm = r.own.idle id v at end.no_lock;
      entries = subst (λ (n : ℕ). EntriesStand n (v ∷ [])) r.starts
          (lone_entries c s.views id v at spent r.known.first
          (entries_stand c s.words s.views r.known es k));
      told = lone_told c s.views id v at spent first
          (are_told deeds first c s r);
      holds = holds (world_shown deeds first c s r nobody);
      turns = subst (λ (n : ℕ). IsOneHistory deeds first c (v ∷ []) n far) (sym r.far.reached)
          (lone_turns c s.views id v at spent deeds first r.far.count far
          (one_history deeds first c s r));
      left = left;
    };
  }

-- The far state stands in the first of these slots, and the view closes these words with it.
pub record EndsIn (deeds : Deeds) (first : ℕ) (c : Config) (v : View) (ws : List ℕ)
    (slots : List LockSlot) : Type 0 where
  pub far : FarState
  pub there : get_elem? slots 0 ≡ some (Some far)
  pub closed : IsClosed deeds first c v record {
    desk = desk_of c ws;
    far = far;
    seats = replicate 64 idle_seat;
  }

-- so of the words and slots of a table that is closed with the seat of that view
pub closes_table : (deeds : Deeds) (first : ℕ) (c : Config) → IsAccepted c → (id : ℕ) (v : View)
    → IsAtEnd v → (ws : List ℕ) (slots : List LockSlot)
    → Final (Seen (Ruled (Locked deeds) first c) id v) ws slots
    → EndsIn deeds first c v ws slots
closes_table deeds first c accepted id v end ws slots f =
    let k = closing deeds first c accepted f.0 f.1.0 id v f.1.1 end in record {
      far = k.far;
      there = f.4 0 (Some k.far) k.home;
      closed = subst (λ (l : List ℕ). IsClosed deeds first c v record {
        desk = desk_of c l;
        far = k.far;
        seats = replicate 64 idle_seat;
      }) f.2 k.closed;
    }
