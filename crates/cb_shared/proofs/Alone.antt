-- Each step is allowed by the rule of the table, whose key has the configuration.
use Rattle.std.proofs.Common.{◌≡◌, ℕ, ◌+◌, ◌*◌, ◌<◌, ◌≤◌, true, sym, subst, eqb}
use mathlib.Core.Option.{none}
use prog.Atomic.{either}
use Rattle.atomic_table.specs.Table.{step, Allows}
use Rattle.cb_types.specs.declared.config.Config.{Config}
use Rattle.cb_ptr.specs.declared.word.State.TheVariants as state
use Rattle.cb_ptr.specs.Word.{state_of, pins_of}
use Rattle.cb_world.specs.Settling.{MaySettle}
use Rattle.cb_world.specs.Shown.{Owns, IsHeld, object_at}
use Rattle.cb_rule.specs.Locking.{Locked}
use Rattle.cb_rule.specs.Own.{MayWrite}
use Rattle.cb_rule.specs.Ruled.{Ruled}
use Rattle.cb_rule.specs.Slot.{Sat}
use Rattle.cb_rule.specs.Steps.{looked, told, loaded, claimed, stored, stamped, settled}
use Rattle.cb_rule.specs.Steps.{handle_count}
use Rattle.cb_rule.specs.Words.{base, stamps}
use Rattle.cb_rule.proofs.Laws.{loads, locked_steady, looks, settles, stamps_version, stores}
use Rattle.cb_rule.proofs.Laws.{takes_claim, tells}
use Rattle.cb_shared.specs.Turning.{Did}

pub at_key : (first : ℕ) (c k : Config) (slots id : ℕ) (me : Sat) (i : ℕ) (f : ℕ → ℕ)
    (then : ℕ → Sat → Type 0) → k ≡ c → Allows (Ruled (Locked Did) first c) slots id me i f then
    → Allows (Ruled (Locked Did) first k) slots id me i f then
at_key first c k slots id me i f then e a =
    subst (λ (x : Config). Allows (Ruled (Locked Did) first x) slots id me i f then) (sym e) a

module _ (first : ℕ) (c k : Config) (key : k ≡ c) (slots id : ℕ) (me : Sat) (live : 1 ≤ me.0.share)
    (holds : me.0.holds ≡ true) where
  pub looks_at : (h : ℕ) → h < c.handles
      → Allows (Ruled (Locked Did) first k) slots id me (1 + h) (λ n. n)
      (looked (step slots (1 + h) 0 0 none) me)
  looks_at h l = at_key first c k slots id me (1 + h) (λ n. n)
      (looked (step slots (1 + h) 0 0 none) me) key
      (looks (Locked Did) (locked_steady Did) first c slots id me live holds h l)

  pub tells_at : (h : ℕ) → h < c.handles → handle_count me ≡ c.handles
      → Allows (Ruled (Locked Did) first k) slots id me (stamps c + h) (λ n. n)
      (told (step slots (stamps c + h) 0 0 none) me)
  tells_at h l sized = at_key first c k slots id me (stamps c + h) (λ n. n)
      (told (step slots (stamps c + h) 0 0 none) me) key
      (tells (Locked Did) (locked_steady Did) first c slots id me live holds h l sized)

  pub loads_at : (p : ℕ) → handle_count me ≡ c.handles
      → Allows (Ruled (Locked Did) first k) slots id me (base c + p) (λ n. n)
      (loaded (step slots (base c + p) 0 0 none) me)
  loads_at p sized = at_key first c k slots id me (base c + p) (λ n. n)
      (loaded (step slots (base c + p) 0 0 none) me) key
      (loads (Locked Did) (locked_steady Did) first c slots id me live holds p sized)

  pub stores_at : (p y : ℕ) → p < 512 * c.frames → handle_count me ≡ c.handles → Owns me.0.known p
      → Allows (Ruled (Locked Did) first k) slots id me (base c + p) (λ _. y)
      (λ _. stored (step slots (base c + p) y 0 none) me y)
  stores_at p y l sized own = at_key first c k slots id me (base c + p) (λ _. y)
      (λ _. stored (step slots (base c + p) y 0 none) me y) key
      (stores (Locked Did) (locked_steady Did) first c slots id me live holds p y l sized own)

  pub stamps_at : (h y : ℕ) → h < c.handles → handle_count me ≡ c.handles
      → IsHeld (object_at me.0.known h) → MayWrite h me.0.known me.0
      → Allows (Ruled (Locked Did) first k) slots id me (stamps c + h) (λ _. y)
      (λ _. stamped (step slots (stamps c + h) y 0 none) me y)
  stamps_at h y l sized held may = at_key first c k slots id me (stamps c + h) (λ _. y)
      (λ _. stamped (step slots (stamps c + h) y 0 none) me y) key
      (stamps_version (Locked Did) (locked_steady Did) first c slots id me live holds h y l sized
      held may)

  pub settles_at : (h w : ℕ) → h < c.handles → MaySettle me.0.known h w
      → Allows (Ruled (Locked Did) first k) slots id me (1 + h) (λ _. w)
      (λ _. settled (step slots (1 + h) w 0 none) me w)
  settles_at h w l may = at_key first c k slots id me (1 + h) (λ _. w)
      (λ _. settled (step slots (1 + h) w 0 none) me w) key
      (settles (Locked Did) (locked_steady Did) first c slots id me live holds h w l may)

  pub takes_claim_at : (h old new : ℕ) → h < c.handles → state_of old ≡ state.Here
      → pins_of old ≡ 0 → new ≡ old + 1
      → Allows (Ruled (Locked Did) first k) slots id me (1 + h) (λ x. either (eqb x old) new x)
      (claimed (step slots (1 + h) old new none) me)
  takes_claim_at h old new l here bare is =
      at_key first c k slots id me (1 + h) (λ x. either (eqb x old) new x)
      (claimed (step slots (1 + h) old new none) me) key
      (takes_claim (Locked Did) (locked_steady Did) first c slots id me live holds h old new l here bare is)
