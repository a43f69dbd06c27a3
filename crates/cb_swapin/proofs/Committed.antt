-- What is known of a committed set of a sound world.
use Rattle.std.proofs.Common.{◌≡◌, ℕ, ◌<◌, refl, IfNone, IsSome, true, Option, Some, None, Bor, length, sym, ap, ◌∙◌, inl, inr}
use Rattle.std.specs.Option.{option_map}
use Rattle.std.proofs.lemmas.Bool.{cases_lt, false≢true}
use Rattle.std.proofs.lemmas.List.{get_or_past}
use Rattle.cb_class.specs.declared.class.Class.{Class}
use Rattle.cb_class.specs.Class.{IsClass, IsClassOfSpan, pages_of, slots_of}
use Rattle.cb_set.specs.SetState.{PositionState, SetState, dead_position, live_at, position_of}
use Rattle.cb_world.specs.declared.shown.Shown.{Shown}
use Rattle.cb_world.specs.Sets.{set_in}
use Rattle.cb_world.specs.FarState.{FarState}
use Rattle.cb_world.specs.FarSound.{AwaySound}
use Rattle.cb_world.proofs.Laws.{live_names}

pub set_same : (a b : SetState) → Some a ≡ Some b → a ≡ b
set_same a b e = cc

-- the set that was looked up is the one that is there
pub found_set : (o : Option (Bor SetState)) (b : Bor SetState) (x : Option SetState)
    (set : SetState) → option_map (λ s. s.now) o ≡ x → o ≡ Some b → x ≡ Some set → b.now ≡ set
found_set o b x set e f there =
    set_same b.now set (sym (ap (λ q. option_map (λ s. s.now) q) f) ∙ e ∙ there)

-- a live position names an object, whose words are in the set's row; the length of the set and its
-- count of slots are those of a class
pub record IsLivePosition (s : Shown) (far : FarState) (id p : ℕ) (set : SetState) : Type 0 where
  pub within : p < length set.positions
  pub class : Class
  pub in_table : IsClass class
  pub paged : set.pages ≡ pages_of class
  pub sized : length (position_of set p).slots ≡ slots_of class

pub live_within : (set : SetState) (p : ℕ) → live_at set p ≡ true → p < length set.positions
live_within set p live = elim (cases_lt p (length set.positions)) [
  | inl within ↦ within
  | inr past ↦ absurd (false≢true (sym (ap (λ (c : PositionState). c.live)
      (get_or_past set.positions p dead_position past)) ∙ live))
]

pub live_position : (s : Shown) (far : FarState) (id p : ℕ) (set : SetState) → AwaySound s far
    → set_in far.sets id ≡ Some set → live_at set p ≡ true → IsLivePosition s far id p set
live_position s far id p set sound there live =
    let x = live_names (position_of set p).slots (sym (sound.sets.live id p set there) ∙ live) in
    let y = (sound.sets.worded id set there).1.holds p x.0 x.1 x.2 in record {
      within = live_within set p live;
      class = y.class;
      in_table = y.fits.in_table;
      paged = y.paged;
      sized = y.sized;
    }

-- a length and a count of slots that some class has are found
pub class_found : (o : Option Class) (pages n : ℕ)
    → IfNone o ((c : Class) → IsClassOfSpan pages n c → ⊥)
    → (c : Class) → IsClass c → pages ≡ pages_of c → n ≡ slots_of c → IsSome o
class_found None pages n none c valid long e =
    absurd (none c (record { in_table = valid; paged = sym long; counted = sym e }))
class_found (Some x) pages n none c valid long e = refl
