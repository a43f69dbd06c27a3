-- What the calls on an array tell, by what those on one object told.
use Rattle.std.proofs.Common.{◌≡◌, ℕ, ◌*◌, ◌/◌, ◌%◌, ◌<◌, ◌≤◌, Bool, true, false, eq-eqb, ne_eqb, if◌then◌else◌, List, length, Option, Result, Ok, Err, IfOk, OnOk, sym, ap, ◌∙◌, subst, arith}
use Rattle.byteorder.specs.Endian.{little_bytes}
use Rattle.cb_types.specs.declared.config.Config.{Config}
use Rattle.cb_world.specs.declared.entry.Entry.{Entry}
use Rattle.cb_rule.specs.declared.view.View.{View}
use Rattle.cb_farmap.specs.declared.kept.Cannot.{Cannot}
use Rattle.cb_farmap.specs.declared.kept.KeptObject.{KeptObject}
use Rattle.cb_farmap.specs.Arrays.{PutsNumber, WritesNumber, bytes_with, is_full, make_plan, push_plan, set_plan, with_written}
use Rattle.cb_farmap.specs.Calls.{Goes, trouble}
use Rattle.cb_farmap.specs.Changes.{Makes, Rewrites, with_next}
use Rattle.cb_farmap.specs.Numbers.{number_at}
use Rattle.cb_farmap.specs.Objects.{IsObject, bytes_at, object_at}
use Rattle.cb_farmap.proofs.Arrays.{object_long}

-- ---- a number that was read
pub long_told : (es : List Entry) (k : KeptObject) → IsObject es k → (r : Result (List ℕ) Cannot)
    → IfOk r (λ b. b ≡ bytes_at es k) → IfOk r (λ b. length b ≡ 1024)
long_told es k o (Ok b) is = ap length is ∙ object_long es k o
long_told es k o (Err e) is = tt

pub number_told : (es : List Entry) (k : KeptObject) (j : ℕ) (r : Result (List ℕ) Cannot)
    (q : Result ℕ Cannot) → IfOk r (λ b. b ≡ bytes_at es k) → trouble q ≡ trouble r
    → IfOk q (λ x. IfOk r (λ b. x ≡ number_at b j)) → IfOk q (λ x. x ≡ number_at (bytes_at es k) j)
number_told es k j r (Err e) is same told = tt
number_told es k j (Ok b) (Ok x) is same told = told ∙ ap (λ (l : List ℕ). number_at l j) is
number_told es k j (Err e) (Ok x) is same told = absurd cc

-- ---- one that was written
pub wrote_told : (ks : List KeptObject) (i x : ℕ) (bytes : List ℕ) (later : List KeptObject)
    (v w : View) (q : Result (Unit {0}) Cannot) → bytes ≡ little_bytes 8 x
    → OnOk q (Rewrites v.written (object_at ks (i / 128)) (with_next (object_at ks (i / 128)))
    (8 * (i % 128)) bytes w.written) → OnOk q (later ≡ with_written ks i)
    → OnOk q (WritesNumber ks i x later v w)
wrote_told ks i x bytes later v w (Err e) is wrote done = tt
wrote_told ks i x bytes later v w (Ok u) is wrote done = record {
  kept = done;
  wrote = subst (λ (l : List ℕ). Rewrites v.written (object_at ks (i / 128))
      (with_next (object_at ks (i / 128))) (8 * (i % 128)) l w.written) is wrote;
}

-- ---- one that was put behind so many: all objects are full exactly where the next place is past
-- them
module _ (c : Config) (first : ℕ) (ks : List KeptObject) (len x : ℕ) (within : len ≤ 128 * length ks)
    (later : List KeptObject) (v w : View) where
  pub full_is : len / 128 ≡ length ks → is_full ks len ≡ true
  full_is at = eq-eqb len (128 * length ks) (omega (arith, within, at))

  pub room_is : (len / 128 ≡ length ks → ⊥) → is_full ks len ≡ false
  room_is off = ne_eqb len (128 * length ks) (λ e. off (omega (arith, e)))

  pub goes_full : (t : Option Cannot) → len / 128 ≡ length ks → Goes c first (make_plan x) t v w
      → Goes c first (push_plan ks len x) t v w
  goes_full t at goes = subst (λ (b : Bool). Goes c first
      (if b then make_plan x else set_plan ks len x) t v w) (sym (full_is at)) goes

  pub goes_room : (t : Option Cannot) → (len / 128 ≡ length ks → ⊥)
      → Goes c first (set_plan ks len x) t v w → Goes c first (push_plan ks len x) t v w
  goes_room t off goes = subst (λ (b : Bool). Goes c first
      (if b then make_plan x else set_plan ks len x) t v w) (sym (room_is off)) goes

  pub put_full : (r : Result (Unit {0}) Cannot) → len / 128 ≡ length ks
      → IfOk r (λ _. Makes v.written ks later (bytes_with x) w.written)
      → IfOk r (λ _. PutsNumber (is_full ks len) ks len x later v w)
  put_full r at made = subst (λ (b : Bool). IfOk r (λ _. PutsNumber b ks len x later v w))
      (sym (full_is at)) made

  pub put_room : (r : Result (Unit {0}) Cannot) → (len / 128 ≡ length ks → ⊥)
      → IfOk r (λ _. WritesNumber ks len x later v w)
      → IfOk r (λ _. PutsNumber (is_full ks len) ks len x later v w)
  put_room r off wrote = subst (λ (b : Bool). IfOk r (λ _. PutsNumber b ks len x later v w))
      (sym (room_is off)) wrote

  pub place_is : (len / 128 ≡ length ks → ⊥) → len / 128 < length ks
  place_is off = omega (arith, within, off)
