-- The steps on a claim are allowed by the rule of the table, whose key has the configuration.
use Rattle.std.proofs.Common.{◌≡◌, ℕ, ◌+◌, ◌<◌, ◌≤◌, true, List, length, eqb}
use mathlib.Core.Option.{none}
use prog.Atomic.{either}
use Rattle.atomic_table.specs.Table.{step, Allows}
use Rattle.cb_types.specs.declared.config.Config.{Config}
use Rattle.cb_ptr.specs.declared.word.State.TheVariants as state
use Rattle.cb_ptr.specs.Word.{state_of, hot_of, pins_of}
use Rattle.cb_world.specs.declared.object.Object.TheVariants as is
use Rattle.cb_world.specs.Memory.{words_for}
use Rattle.cb_world.specs.Shown.{Fits}
use Rattle.cb_world.specs.Write.{IsWrite}
use Rattle.cb_rule.specs.declared.view.Held.{Held}
use Rattle.cb_rule.specs.Lists.{Has}
use Rattle.cb_rule.specs.Locking.{Locked}
use Rattle.cb_rule.specs.Ruled.{Ruled}
use Rattle.cb_rule.specs.Slot.{Sat}
use Rattle.cb_rule.specs.Steps.{Knows, claimed_here, read_held, stored_here, stamped_here}
use Rattle.cb_rule.specs.Steps.{settled_here, put_back}
use Rattle.cb_rule.specs.Words.{base, stamps}
use Rattle.cb_rule.proofs.Laws.{claims_here, locked_steady, puts_back, reads_held, settles_here}
use Rattle.cb_rule.proofs.Laws.{stamps_here, stores_here}
use Rattle.cb_shared.specs.Turning.{Did}
use Rattle.cb_shared.proofs.Alone.{at_key}

module _ (first : ℕ) (c k : Config) (key : k ≡ c) (slots id : ℕ) (me : Sat)
    (live : 1 ≤ me.0.share) (same : me.0.config ≡ c) where
  pub claims_here_at : (h old new : ℕ) → h < c.handles → Knows h me.0 → state_of old ≡ state.Here
      → pins_of old ≡ 0 → new ≡ old + 1
      → Allows (Ruled (Locked Did) first k) slots id me (1 + h) (λ x. either (eqb x old) new x)
      (claimed_here (step slots (1 + h) old new none) me)
  claims_here_at h old new l knows here bare one =
      at_key first c k slots id me (1 + h) (λ x. either (eqb x old) new x)
      (claimed_here (step slots (1 + h) old new none) me) key
      (claims_here (Locked Did) (locked_steady Did) first c slots id me live same h old new
      l knows here bare one)

  pub reads_held_at : (i : ℕ) → Allows (Ruled (Locked Did) first k) slots id me i (λ n. n)
      (read_held (step slots i 0 0 none) me)
  reads_held_at i = at_key first c k slots id me i (λ n. n) (read_held (step slots i 0 0 none) me)
      key (reads_held (Locked Did) (locked_steady Did) first c slots id me i)

  module _ (x : Held) (there : Has x me.0.claims) where
    pub stores_here_at : (j y : ℕ) → j < words_for x.len
        → Allows (Ruled (Locked Did) first k) slots id me (base c + x.place + j) (λ _. y)
        (λ _. stored_here (step slots (base c + x.place + j) y 0 none) me y)
    stores_here_at j y lt = at_key first c k slots id me (base c + x.place + j) (λ _. y)
        (λ _. stored_here (step slots (base c + x.place + j) y 0 none) me y) key
        (stores_here (Locked Did) (locked_steady Did) first c slots id me live same x there j y lt)

    pub stamps_here_at : (y : ℕ) → x.version ≤ y
        → Allows (Ruled (Locked Did) first k) slots id me (stamps c + x.handle) (λ _. y)
        (λ _. stamped_here (step slots (stamps c + x.handle) y 0 none) me y)
    stamps_here_at y low = at_key first c k slots id me (stamps c + x.handle) (λ _. y)
        (λ _. stamped_here (step slots (stamps c + x.handle) y 0 none) me y) key
        (stamps_here (Locked Did) (locked_steady Did) first c slots id me live same x there y low)

    pub settles_here_at : (w at' : ℕ) (bytes : List ℕ) → x.stamp ≡ x.version + 1
        → IsWrite x.old at' bytes x.memory → at' + length bytes ≤ x.len
        → state_of w ≡ state.Here → pins_of w ≡ 0 → hot_of w ≡ true
        → Fits (is.Here x.len x.place) w
        → Allows (Ruled (Locked Did) first k) slots id me (1 + x.handle) (λ _. w)
        (λ _. settled_here (step slots (1 + x.handle) w 0 none) me w)
    settles_here_at w at' bytes up write inside here bare hot fits =
        at_key first c k slots id me (1 + x.handle) (λ _. w)
        (λ _. settled_here (step slots (1 + x.handle) w 0 none) me w) key
        (settles_here (Locked Did) (locked_steady Did) first c slots id me live same x there w at' bytes up write
        inside here bare hot fits)

    pub puts_back_at : x.stamp ≡ x.version → x.memory ≡ x.old
        → Allows (Ruled (Locked Did) first k) slots id me (1 + x.handle) (λ _. x.word)
        (λ _. put_back (step slots (1 + x.handle) x.word 0 none) me x.word)
    puts_back_at same_stamp same_memory = at_key first c k slots id me (1 + x.handle) (λ _. x.word)
        (λ _. put_back (step slots (1 + x.handle) x.word 0 none) me x.word) key
        (puts_back (Locked Did) (locked_steady Did) first c slots id me live same x there same_stamp same_memory)
