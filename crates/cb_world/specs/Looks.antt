-- What the events of a call tell: the words that were found, and the contents.
use Rattle.std.specs.Prelude.{◌≡◌, ◌⊎◌, ℕ, List, [], ◌∷◌, slice_set}
use Rattle.cb_ptr.specs.Word.{hot_of, place_of}
use Rattle.cb_world.specs.declared.access.Access.{Access}
use Rattle.cb_world.specs.declared.access.Access.TheVariants.{Looked, Claimed, Told, Stored, Stamped, Settled}
use Rattle.cb_world.specs.declared.shown.Shown.{Shown}
use Rattle.cb_world.specs.Memory.{put}

-- the event is a look at the object that found this word; a claim found the word that it claimed
abbrev pub IsLook : ℕ → ℕ → Access → Type 0
IsLook h w (Looked k x) = (k ≡ h) × (x ≡ w)
IsLook h w (Claimed k x v words) = (k ≡ h) × (x ≡ w)
IsLook h w _ = ⊥

-- no event is a look at the object
abbrev pub NoLook : ℕ → List Access → Type 0
NoLook h [] = Unit {0}
NoLook h (e ∷ es) = ((w : ℕ) → IsLook h w e → ⊥) × NoLook h es

-- the last look at the object found this word
abbrev pub IsFound : ℕ → ℕ → List Access → Type 0
IsFound h w [] = ⊥
IsFound h w (e ∷ es) = IsFound h w es ⊎ (IsLook h w e × NoLook h es)

-- the object was claimed, with this version and these words
abbrev pub IsTaken : ℕ → ℕ → List ℕ → List Access → Type 0
IsTaken h v words [] = ⊥
IsTaken h v words (Claimed k x u xs ∷ es) =
    IsTaken h v words es ⊎ ((k ≡ h) × (u ≡ v) × (xs ≡ words))
IsTaken h v words (e ∷ es) = IsTaken h v words es

-- the version word of the object was read, and was this one
abbrev pub IsTold : ℕ → ℕ → List Access → Type 0
IsTold h v [] = ⊥
IsTold h v (Told k u ∷ es) = IsTold h v es ⊎ ((k ≡ h) × (u ≡ v))
IsTold h v (e ∷ es) = IsTold h v es

-- what is known once the events have told of it, and changed nothing
abbrev pub told_by : List Access → Shown → Shown
told_by [] s = s
told_by (Looked h w ∷ es) s = told_by es (record s { hots = slice_set s.hots h (hot_of w) })
told_by (Claimed h w v words ∷ es) s = told_by es (record s {
  hots = slice_set s.hots h (hot_of w);
  versions = slice_set s.versions h v;
  memory = put s.memory (place_of w) words;
})
told_by (e ∷ es) s = told_by es s

-- every event is a look at the object
abbrev pub AreLooks : ℕ → List Access → Type 0
AreLooks h [] = Unit {0}
AreLooks h (Looked k w ∷ es) = (k ≡ h) × AreLooks h es
AreLooks h (e ∷ es) = ⊥

-- no event claims an object
abbrev pub NoClaim : List Access → Type 0
NoClaim [] = Unit {0}
NoClaim (Claimed h w v words ∷ es) = ⊥
NoClaim (e ∷ es) = NoClaim es

-- each object is looked at before it is changed, and claimed before any word is stored
abbrev pub LooksFirst : List Access → Type 0
LooksFirst [] = Unit {0}
LooksFirst (Claimed h w v words ∷ es) = NoLook h es × LooksFirst es
LooksFirst (Stored p x ∷ es) = NoClaim es × LooksFirst es
LooksFirst (Stamped h v ∷ es) = NoClaim es × LooksFirst es
LooksFirst (Settled h w ∷ es) = NoLook h es × LooksFirst es
LooksFirst (e ∷ es) = LooksFirst es
