-- What a change of anything else leaves of the batch that is leaving and of the set kept for it.
use Rattle.std.proofs.Common.{◌≡◌, ◌≢◌, ℕ, suc, ◌+◌, ◌≤◌, false, List, [], ◌∷◌, Option, Some, None, Contains, get_or, map as mapped, sym, refl, ap, ◌∙◌, arith}
use Rattle.std.specs.FinMap as map
use Rattle.cb_member.specs.declared.names.Shard.{Shard}
use Rattle.cb_set.specs.SetState.{PositionState, SetState, set_of}
use Rattle.cb_span.specs.Contents.{Contents, handle_at}
use Rattle.cb_world.specs.declared.shown.Shown.{Shown}
use Rattle.cb_world.specs.FarState.{FarState, span_in, handle_in}
use Rattle.cb_world.specs.Leaving.{LeavingState}
use Rattle.cb_world.specs.Reserved.{IsReserved, IsUnpaired, position_for}
use Rattle.cb_world.specs.Sets.{Kept, set_in, if_committed}
use Rattle.cb_world.specs.Sound.{AreNoted, IsNoted}

-- the spans of the frames that are leaving, the set that is kept for them and the numbers stay
pub record KeepsReserved (far new : FarState) (batch : LeavingState) : Type 0 where
  pub spans : (f : ℕ) → Contains batch.frames f → span_in new.spans f ≡ span_in far.spans f
  pub sets : map.get new.sets batch.set ≡ map.get far.sets batch.set
  pub drawn : far.counts.sets ≤ new.counts.sets
  pub unpaired : IsUnpaired far batch.set → IsUnpaired new batch.set

same_positions : (xs ys : List (Option Contents)) (fs : List ℕ)
    → ((f : ℕ) → Contains fs f → span_in ys f ≡ span_in xs f)
    → mapped (position_for ys) fs ≡ mapped (position_for xs) fs
same_positions xs ys [] same = refl
same_positions xs ys (f ∷ fs) same =
    ap (λ (o : Option Contents).
    position_for (o ∷ []) 0 ∷ mapped (position_for ys) fs) (same f (0, omega arith, refl))
    ∙ ap (λ (l : List PositionState). position_for xs f ∷ l)
    (same_positions xs ys fs (λ g c. same g (c.0 + 1, omega (arith, c.1), later fs f g c)))
  where
    later : (fs : List ℕ) (f g : ℕ) → (c : Contains fs g) → get_or (f ∷ fs) (c.0 + 1) g ≡ g
    later fs f g c = ap (λ (i : ℕ). get_or (f ∷ fs) i g) (let e : c.0 + 1 ≡ suc c.0 = omega arith in e) ∙ c.2

abbrev kept_with : ℕ → ℕ → List Shard → List PositionState → Kept
kept_with id pages blank positions = record {
  set = set_of id pages blank positions;
  committed = false;
}

pub reserved_kept : (far new : FarState) (batch : LeavingState) → KeepsReserved far new batch
    → IsReserved far batch → IsReserved new batch
reserved_kept far new batch k x = record {
  drawn = omega (arith, x.drawn, k.drawn);
  unpaired = k.unpaired x.unpaired;
  range = x.range;
  blank = x.blank;
  places = x.places;
  kept = k.sets ∙ x.kept
      ∙ ap (λ (l : List PositionState). Some (kept_with batch.set batch.pages x.blank l))
      (sym (same_positions far.spans new.spans batch.frames k.spans));
}

-- where each of its objects is noted as it was, all is noted
pub noted_by : (s t : Shown) (far new : FarState) (batch : LeavingState)
    → KeepsReserved far new batch
    → ((f slot h : ℕ) (span : Contents) → Contains batch.frames f → span_in far.spans f ≡ Some span
    → handle_at span slot ≡ Some h → IsNoted s batch h → IsNoted t batch h)
    → AreNoted s far batch → AreNoted t new batch
noted_by s t far new batch k objects x = record {
  apart = x.apart;
  held = λ f leaves. let y = x.held f leaves in (y.0, k.spans f leaves ∙ y.1, y.2);
  each = λ f slot h span leaves there named. let was = sym (k.spans f leaves) ∙ there in
      objects f slot h span leaves was named (x.each f slot h span leaves was named);
  only = λ i former below. let y = x.only i former below in (
    y.0,
    y.1,
    y.2,
    ap (λ (o : Option Contents). handle_in o y.1) (k.spans y.0 y.2) ∙ y.3,
  );
  each_once = x.each_once;
  reserved = reserved_kept far new batch k x.reserved;
}

-- the set of the batch is not committed
pub reserved_uncommitted : (far : FarState) (batch : LeavingState) → IsReserved far batch
    → set_in far.sets batch.set ≡ None
reserved_uncommitted far batch x = ap if_committed x.kept

-- so a committed set has another number
pub reserved_is_other : (far : FarState) (batch : LeavingState) (id : ℕ) (set : SetState)
    → IsReserved far batch → set_in far.sets id ≡ Some set → batch.set ≢ id
reserved_is_other far batch id set x there same = none_some set
    (sym (reserved_uncommitted far batch x) ∙ ap (set_in far.sets) same ∙ there)
  where
    none_some : (c : SetState) → None ≡ Some c → ⊥
    none_some c e = cc
