-- The version word of an object is the version that the map has of it.
use Rattle.std.proofs.Common.{◌≡◌, ℕ, zero, suc, Bool, true, false, List, slice_index, None, Some}
use Rattle.std.proofs.Common.{refl, sym, ap, ◌∙◌}
use Rattle.cb_model.specs.declared.object.Object.TheVariants.{Held, Freed}
use Rattle.cb_model.specs.Now.{MapNow}
use Rattle.cb_world.specs.declared.object.Object.{Object}
use Rattle.cb_world.specs.declared.object.Object.TheVariants as is
use Rattle.cb_world.specs.declared.shown.Shown.{Shown}
use Rattle.cb_world.specs.FarState.{FarState}
use Rattle.cb_world.specs.LocalSound.{IsStamped}
use Rattle.cb_world.specs.Now.{Now, is_gone, now, now_as}
use Rattle.cb_world.specs.Now.Now.{never, freed, held, gone}
use Rattle.cb_world.specs.Plain.{Words}
use Rattle.cb_world.specs.Shown.{object_at, version_at}
use Rattle.cb_world.specs.StillWords.{stamp_at}
use Rattle.cb_world.specs.World.{IsKnown}
use Rattle.cb_mutate.specs.MapCalls.{IsValue}

-- the version that the map has of an object: 0 of one that was never made
abbrev pub version_had : MapNow → ℕ
version_had None = 0
version_had (Some (Held version bytes)) = version
version_had (Some (Freed version)) = version

-- and that of what is known of one
abbrev version_in : Now → ℕ
version_in never = 0
version_in (freed version) = version
version_in (held version bytes) = version
version_in (gone version) = version

value_version : (m : MapNow) (n : Now) → IsValue m n → version_in n ≡ version_had m
value_version None never is = refl
value_version None (freed v) is = absurd is
value_version None (held v bytes) is = absurd is
value_version None (gone v) is = absurd is
value_version (Some (Freed u)) never is = absurd is
value_version (Some (Freed u)) (freed v) is = is
value_version (Some (Freed u)) (held v bytes) is = absurd is
value_version (Some (Freed u)) (gone v) is = absurd is
value_version (Some (Held u b)) never is = absurd is
value_version (Some (Held u b)) (freed v) is = absurd is
value_version (Some (Held u b)) (held v bytes) is = is.0
value_version (Some (Held u b)) (gone v) is = is

now_version : (s : Shown) (h : ℕ) (lost : Bool) (o : Object) → IsStamped o (version_at s h)
    → version_at s h ≡ version_in (now_as s h lost o)
now_version s h lost (is.Empty zero) stamp = stamp
now_version s h lost (is.Empty (suc v)) stamp = stamp
now_version s h true (is.Far len v words) stamp = stamp
now_version s h false (is.Far len v words) stamp = stamp
now_version s h lost (is.Here len place) stamp = refl
now_version s h lost (is.Claimed len place v words) stamp = stamp

pub stamp_had : (x : Words) (far : FarState) (s : Shown) (h : ℕ) → IsKnown x far s → (m : MapNow)
    → IsValue m (now s far h) → stamp_at x h ≡ version_had m
stamp_had x far s h known m value =
    sym (ap (λ (versions : List ℕ). slice_index versions h) known.shows.versions)
    ∙ now_version s h (is_gone far h) (object_at s h) (known.sound.here.known.stamped h)
    ∙ value_version m (now s far h) value
