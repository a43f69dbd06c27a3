-- What the table tells whoever closes it with the seat of the pass that has the whole share.
use Rattle.std.proofs.Common.{◌≡◌, ◌∙◌, ℕ, List, None, Some, replicate, refl, sym, ap, subst}
use mathlib.Core.Option.{some, some-injective}
use lib.ListN.{get_elem?}
use Rattle.atomic_table.specs.Table.{Final, Seen}
use Rattle.cb_types.specs.declared.config.Config.{Config}
use Rattle.cb_types.specs.Config.{IsAccepted}
use Rattle.cb_world.specs.FarState.{FarState}
use Rattle.cb_world.specs.Seats.{idle_seat}
use Rattle.cb_world.specs.World.{WorldState}
use Rattle.cb_rule.specs.declared.view.View.{View}
use Rattle.cb_rule.specs.Closing.{IsClosed, desk_of}
use Rattle.cb_rule.specs.Locking.{Locked}
use Rattle.cb_rule.specs.Ruled.{Ruled}
use Rattle.cb_rule.specs.Slot.{LockSlot}
use Rattle.cb_rule.proofs.Laws.{EndsIn, IsAtEnd, closes_table}
use Rattle.cb_shared.specs.declared.setup.Setup.{Setup}
use Rattle.cb_shared.specs.Joining.{unpinned_all}
use Rattle.cb_shared.specs.Passes.{IsAtRest}
use Rattle.cb_shared.specs.Turning.{Did}

-- a pass between its calls that has the whole share, and gives its pins back
at_end : (c : Config) (v : View) → IsAtRest c v → v.share ≡ 64 → IsAtEnd (unpinned_all v)
at_end c v rest whole = record {
  whole = whole;
  no_pins = refl;
  no_claims = rest.claims;
  no_lock = rest.out.0;
}

-- the last state of the table, whose key has the configuration, and in which the view u of the pass
-- is its record without pins
pub ends_in : (k : Setup) (c : Config) → k.config ≡ c → IsAccepted c → (v u : View)
    → IsAtRest c v → v.share ≡ 64 → u ≡ unpinned_all v → (id : ℕ) (ws : List ℕ)
    (slots : List LockSlot) → Final (Seen (Ruled (Locked Did) k.first k.config) id u) ws slots
    → EndsIn Did k.first c (unpinned_all v) ws slots
ends_in k c key ok v u rest whole back id ws slots f =
    closes_table Did k.first c ok id (unpinned_all v) (at_end c v rest whole) ws slots
    (subst (λ (x : View). Final (Seen (Ruled (Locked Did) k.first c) id x) ws slots) back
    (subst (λ (d : Config). Final (Seen (Ruled (Locked Did) k.first d) id u) ws slots) key f))

-- the far state in a slot, or else this one
abbrev far_of : FarState → LockSlot → FarState
far_of other None = other
far_of other (Some far) = far

-- a world with these words, the far state of that slot and idle seats is closed
pub is_closed : (first : ℕ) (c : Config) (v : View) (ws : List ℕ) (slots : List LockSlot)
    → EndsIn Did first c v ws slots → (w : WorldState) → w.desk ≡ desk_of c ws
    → get_elem? slots 0 ≡ some (Some w.far) → w.seats ≡ replicate 64 idle_seat
    → IsClosed Did first c v w
is_closed first c v ws slots k w desk home seats =
    let far : k.far ≡ w.far = ap (far_of w.far) (some-injective _ _ (sym k.there ∙ home)) in
    subst (IsClosed Did first c v) (λ i. record {
      desk = sym desk i;
      far = far i;
      seats = sym seats i;
    }) k.closed
