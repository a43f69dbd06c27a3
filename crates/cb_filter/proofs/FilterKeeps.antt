-- What a step of a filter keeps.
use Rattle.std.proofs.Common.{◌≡◌, ℕ, false, ◌≤◌, List, length, get_or, set, refl, sym, ap, ◌∙◌, subst, arith, get_or-set_same, get_or-set_other, length-set}
use native.Mathlib.Decide.{ℕ_discrete}
use Rattle.cb_ptr.specs.declared.word.State.{State}
use Rattle.cb_ptr.specs.declared.word.State.TheVariants as state
use Rattle.cb_ptr.specs.Word.{state_of, place_of, pins_of, len_of, word_of}
use Rattle.cb_types.specs.declared.reply.Reply.{Reply}
use Rattle.cb_world.specs.FarState.{FarState}
use Rattle.cb_world.specs.Grasped.{IsFree}
use Rattle.cb_world.specs.Placed.{place_in}
use Rattle.cb_world.specs.Plain.{Words}
use Rattle.cb_world.specs.World.{word_at}
use Rattle.cb_world.proofs.Laws.{KeepsFar, KeepsPins, StepKeeps, far_same, keeps_same}
use Rattle.cb_filter.specs.FilterStep.{IsFilterStep, cool_word, with_carried_to, with_cooled, refused, cools, without_slot, moves}
use Rattle.cb_filter.proofs.FilterStep.{in_range}

-- a free object that is not hot, here or at another place, has no pins
here_pins : (q : State) (pins len place : ℕ) → q ≡ state.Here → pins ≡ 0
    → pins_of (word_of (record { state = q; hot = false; pins = pins; len = len; place = place })) ≡ 0
here_pins state.Empty pins len place here none = absurd (let z : ⊥ = cc in z)
here_pins state.Far pins len place here none = absurd (let z : ⊥ = cc in z)
here_pins state.Here pins len place here none = omega (arith, none)
here_pins state.Moving pins len place here none = absurd (let z : ⊥ = cc in z)

-- one word is changed, of an object that was free
cooled_keeps : (x y : Words) (h place : ℕ) → IsFree (word_at x h) → y.settings ≡ x.settings
    → y.words ≡ set x.words h (cool_word (word_at x h) place) → y.versions ≡ x.versions → KeepsPins x y
cooled_keeps x y h place free settings words versions = record {
  settings = settings;
  count = ap length words ∙ length-set x.words h w;
  versions = versions;
  pins = λ k. pins k (ℕ_discrete k h);
  pinned = λ k some. other k (λ e. let none = free.1 in
      let one = subst (λ (i : ℕ). 1 ≤ pins_of (word_at x i)) e some in omega (arith, none, one));
}
  where
    w : ℕ
    w = cool_word (word_at x h) place

    at : (k : ℕ) → word_at y k ≡ get_or (set x.words h w) k 0
    at k = ap (λ (l : List ℕ). get_or l k 0) words

    other : (k : ℕ) → (k ≡ h → ⊥) → word_at y k ≡ word_at x k
    other k off = at k ∙ get_or-set_other x.words h k w 0 off

    none : pins_of w ≡ 0
    none = here_pins (state_of (word_at x h)) (pins_of (word_at x h)) (len_of (word_at x h)) place free.0 free.1

    pins : (k : ℕ) → Dec (k ≡ h) → pins_of (word_at y k) ≡ pins_of (word_at x k)
    pins k (no off) = ap pins_of (other k off)
    pins k (yes e) = subst (λ (i : ℕ). pins_of (word_at y i) ≡ pins_of (word_at x i)) (sym e)
        (ap pins_of (at h ∙ get_or-set_same x.words h w 0 (in_range x h free.0)) ∙ none ∙ sym free.1)

pub filter_keeps : (x y : Words) (far new : FarState) (h : ℕ) (r : Reply)
    → IsFilterStep x y far new h r → StepKeeps x y far new
filter_keeps x y far new h r (refused why same state) = keeps_same x y far new same state
filter_keeps x y far new h r (without_slot seat is none same) = keeps_same x y far new same none.state
filter_keeps x y far new h r (cools seat is place same) = record {
  far = subst (KeepsFar far) (sym place.state) (far_same far);
  words = subst (KeepsPins x) (sym same)
      (cooled_keeps x (with_cooled x h) h (place_of (word_at x h)) is.free refl refl refl);
}
filter_keeps x y far new h r (moves seat slot is gets same) = record {
  far = subst (KeepsFar far) (sym gets.state) (record {
    first = refl;
    made = refl;
    members = refl;
    joining = refl;
    turns = refl;
    by_job = refl;
  });
  words = subst (KeepsPins x) (sym same)
      (cooled_keeps x (with_carried_to x h (place_in slot)) h (place_in slot) is.free refl refl refl);
}
