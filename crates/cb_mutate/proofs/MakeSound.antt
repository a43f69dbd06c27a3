-- The world after a make.
use Rattle.std.proofs.Common.{◌≡◌, ◌≢◌, ℕ, ◌+◌, ◌^◌, ◌<◌, ◌≤◌, List, length, sym, refl, ap, ◌∙◌, subst, arith, get_or-set_other, get_or-set_same}
use Rattle.cb_types.specs.Config.{most_bytes}
use Rattle.cb_class.specs.declared.class.Class.{Class}
use Rattle.cb_class.specs.Class.{IsClassOf}
use Rattle.cb_span.specs.declared.temp.Temp.TheVariants.{Hot}
use Rattle.cb_world.specs.declared.access.Access.{Access}
use Rattle.cb_world.specs.declared.shown.Shown.{Shown}
use Rattle.cb_world.specs.Shown.{object_at, never}
use Rattle.cb_world.specs.Played.{played}
use Rattle.cb_world.specs.Allowed.{Allowed}
use Rattle.cb_world.specs.FarState.{FarState}
use Rattle.cb_world.specs.Sound.{Sound}
use Rattle.cb_world.specs.Placed.{Slot, IsChosen, place_in, with_object}
use Rattle.cb_world.proofs.Laws.{length_put, IsEmptySlot, chosen_empty, chosen_class, chosen_stays, IsCountedMade, next_counted, slot_bounds, may_lie, sound_brought, put_beside}
use Rattle.cb_mutate.specs.WordsOf.{AreWordsOf}
use Rattle.cb_mutate.specs.MakeRule.{IsMade, make_events, with_made}
use Rattle.cb_mutate.specs.MakeEnds.{IsNewAt}
use Rattle.cb_mutate.proofs.NewObject.{with_new, well_made}

-- where not all handles were made there is a next one
pub some_left : (s : Shown) (far : FarState) (made handles count : ℕ) → Sound s far
    → length s.objects ≡ handles → count ≡ handles → made ≡ far.made → (made ≡ count → ⊥)
    → made < handles
some_left s far made handles count sound sized all same other =
    let z : made ≢ count = other in omega (arith, sound.here.known.bounded, sized, all, same, z)

-- What holds where the next handle is made in the slot that its bytes get.
pub record IsReadyToMake (s : Shown) (far : FarState) (class : Class) (slot : Slot)
    (h version len : ℕ)
    : Type 0 where
  pub sound : Sound s far
  pub range : h < length s.objects
  pub stamp : h < length s.versions
  pub memory : length s.memory ≤ 2 ^ 21
  pub short : len ≤ most_bytes
  pub some_byte : 1 ≤ len
  pub fits : IsClassOf len class
  pub chosen : IsChosen far class Hot slot
  pub next : h ≡ far.made
  pub first : version ≡ far.first

empty_slot : (s : Shown) (far : FarState) (class : Class) (slot : Slot) (h version len : ℕ)
    → IsReadyToMake s far class slot h version len → IsEmptySlot far slot
empty_slot s far class slot h version len x =
    chosen_empty far class Hot slot x.sound.here.frames x.fits.in_table x.chosen

class_fits : (s : Shown) (far : FarState) (class : Class) (slot : Slot) (h version len : ℕ)
    → IsReadyToMake s far class slot h version len → IsClassOf len slot.span.class
class_fits s far class slot h version len x =
    subst (IsClassOf len) (sym (chosen_class far class Hot slot x.chosen)) x.fits

never_was : (s : Shown) (far : FarState) (class : Class) (slot : Slot) (h version len : ℕ)
    → IsReadyToMake s far class slot h version len → object_at s h ≡ never
never_was s far class slot h version len x =
    (x.sound.here.known.made h x.range).0 (let e : h ≡ far.made = x.next in omega (arith, e))

pub new_at : (s : Shown) (far : FarState) (class : Class) (slot : Slot) (h version len : ℕ)
    → IsReadyToMake s far class slot h version len → IsNewAt s h version (place_in slot) len
new_at s far class slot h version len x =
    let free = empty_slot s far class slot h version len x in
    let fits = class_fits s far class slot h version len x in
    let ends = slot_bounds far slot len free fits in record {
      never_made = never_was s far class slot h version len x;
      first = x.first ∙ sym x.sound.here.known.first;
      stamp = x.stamp;
      within = omega (arith, ends.1, free.stands.within, x.sound.here.placed.memory);
      alone = λ p covers. may_lie far s slot h len (far.made + 1) 0 p x.sound.here
          (never_was s far class slot h version len x) x.range x.stamp free fits
          (subst (IsCountedMade far.made (far.made + 1)) (sym x.next) (next_counted far.made))
          covers;
    }

-- What holds after a make.
pub record IsMakeDone (s t : Shown) (es : List Access) (far new : FarState) (h version : ℕ)
    (bytes : List ℕ) : Type 0 where
  pub allowed : Allowed s es
  pub sound : Sound t new
  pub effect : IsMade h version bytes far new es s t

pub make_done : (s : Shown) (far new : FarState) (class : Class) (slot : Slot) (h version : ℕ)
    (bytes words : List ℕ) → IsReadyToMake s far class slot h version (length bytes)
    → AreWordsOf bytes words → new ≡ with_made far slot
    → IsMakeDone s (played (make_events h version (length bytes) (place_in slot) words) s)
    (make_events h version (length bytes) (place_in slot) words) far new h version bytes
make_done s far new class slot h version bytes words x packed left =
    let len = length bytes in let place = place_in slot in
    let es = make_events h version len place words in
    let at = new_at s far class slot h version len x in
    let made = well_made s h version place len words at packed.count packed.packed
    (omega (arith, x.short)) (omega (arith, at.within, x.memory, x.some_byte)) in
    let u = with_new s h version place len words in record {
      allowed = made.allowed;
      sound = subst (Sound (played es s)) (sym left)
          (subst (λ (q : Shown). Sound q (with_made far slot)) (sym made.ends)
          (subst (λ (i : ℕ). Sound u (let q : FarState =
          record (with_object far slot i) { made = far.made + 1 } in q)) x.next
          (sound_brought far s u slot h len (far.made + 1) 0 x.sound
          (never_was s far class slot h version len x) x.range
          (empty_slot s far class slot h version len x)
          (λ batch there leaves. chosen_stays s far class Hot slot batch x.sound
          x.fits.in_table x.chosen there leaves)
          (class_fits s far class slot h version len x)
          (subst (IsCountedMade far.made (far.made + 1)) (sym x.next) (next_counted far.made))
          (record {
            first = refl;
            objects = refl;
            versions = λ k off. get_or-set_other s.versions h k version 0 off;
            version = (let now = get_or-set_same s.versions h version 0 x.stamp in
                let first = x.sound.here.known.first in omega (arith, now, x.first, first));
            memory = length_put s.memory place words;
          })
          (put_beside s.memory words place len packed.count))));
      effect = record {
        make = record {
          class = class;
          slot = slot;
          words = words;
          next = x.next;
          first = x.first;
          fits = x.fits;
          chosen = x.chosen;
          state = left;
          packed = packed;
          done = refl;
        };
        objects = ap (λ (q : Shown). q.objects) made.ends;
        hots = ap (λ (q : Shown). q.hots) made.ends;
        versions = ap (λ (q : Shown). q.versions) made.ends;
        memory = ap (λ (q : Shown). q.memory) made.ends;
        one = made.one;
      };
    }
