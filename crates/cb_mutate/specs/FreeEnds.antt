-- How a free of a claimed object ends.
use Rattle.std.specs.Prelude.{◌≡◌, ◌⊎◌, ℕ, false, ◌+◌, ◌-◌, ◌^◌, ◌<◌, List, [], ◌∷◌, slice_set}
use Rattle.cb_types.specs.declared.reply.Reply.{Reply}
use Rattle.cb_types.specs.declared.reply.Reply.TheVariants as answer
use Rattle.cb_world.specs.declared.object.Object.TheVariants as is
use Rattle.cb_world.specs.declared.access.Access.{Access}
use Rattle.cb_world.specs.declared.access.Access.TheVariants.{Told, Stamped, Settled}
use Rattle.cb_world.specs.declared.shown.Shown.{Shown}
use Rattle.cb_world.specs.Written.{Writes, gone}
use Rattle.cb_mutate.specs.WriteEnds.{IsBack}

-- the object is empty with the next version
abbrev pub with_emptied : Shown → ℕ → ℕ → Shown
with_emptied s h v = record s {
  objects = slice_set s.objects h (is.Empty (v + 1));
  hots = slice_set s.hots h false;
  versions = slice_set s.versions h (v + 1);
}

pub record IsEmptied (s : Shown) (h v : ℕ) (words : List ℕ) (es : List Access) (t : Shown)
    : Type 0 where
  pub settled : t ≡ with_emptied s h v
  pub one : Writes es s (gone h (v + 1) words ∷ [])

-- with no next version it goes back; else it is emptied
abbrev pub FreeEnds : ℕ → ℕ → Reply → List Access → Shown → ℕ → List ℕ → Shown → Type 0
FreeEnds h word r es s v words t =
    ((v ≡ 2 ^ 64 - 1) × (r ≡ answer.Worn) × IsBack s h word es t)
    ⊎ ((v < 2 ^ 64 - 1) × (r ≡ answer.Version (v + 1)) × IsEmptied s h v words es t)

-- the version word of a far object was told: with no next version nothing is done; else the next
-- one is stored, and the object is empty
abbrev pub FreesFar : (List Access → Type 0) → ℕ → ℕ → Reply → Type 0
FreesFar runs h v r =
    ((v ≡ 2 ^ 64 - 1) × (r ≡ answer.Worn) × runs (Told h v ∷ []))
    ⊎ ((v < 2 ^ 64 - 1) × (r ≡ answer.Version (v + 1))
    × runs (Told h v ∷ Stamped h (v + 1) ∷ Settled h 0 ∷ []))
