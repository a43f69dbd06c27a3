-- The world once an object that was here is in another slot.
use Rattle.std.proofs.Common.{◌≡◌, ◌≢◌, ◌⊎◌, ℕ, ◌+◌, ◌*◌, ◌<◌, ◌≤◌, List, Option, Some, None, length, get_or, set, if◌then◌else◌, sym, refl, ap, ◌∙◌, subst, arith, inl, inr, length-set, get_or-set_other, get_or-set_same}
use Rattle.std.proofs.lemmas.Bool.{cases_lt}
use Rattle.std.proofs.lemmas.List.{set-set, set_comm}
use Rattle.cb_class.specs.Class.{IsClassOf, pages_of}
use Rattle.cb_span.specs.declared.temp.Temp.{Temp}
use Rattle.cb_span.specs.Contents.{Contents, with_cleared, with_placed}
use Rattle.cb_world.specs.declared.object.Object.{Object}
use Rattle.cb_world.specs.declared.object.Object.TheVariants as is
use Rattle.cb_world.specs.declared.shown.Shown.{Shown}
use Rattle.cb_world.specs.Memory.{put, words_for}
use Rattle.cb_world.specs.Shown.{Covers, Avoids, MayLie, object_at, version_at, never}
use Rattle.cb_world.specs.FarState.{FarState, span_in}
use Rattle.cb_world.specs.LocalSound.{HasSlot}
use Rattle.cb_world.specs.Sound.{Sound}
use Rattle.cb_world.specs.Placed.{Slot, IsChosen, place_in}
use Rattle.cb_world.specs.Released.{is_last, frames_without, with_released}
use Rattle.cb_world.proofs.Laws.{slot_inside, slot_lies, stands_released, length_put, lies, put_beside, sound_gone, IsEmptySlot, chosen_empty, chosen_class, chosen_stays, IsCountedMade, made_counted, slot_bounds, may_lie, sound_brought, with_made}
use Rattle.cb_filter.specs.Seats.{Seat, with_moved}
use Rattle.cb_filter.specs.Plans.{LiesAtPlace}
use Rattle.cb_filter.proofs.Berths.{apart_frame}

-- the slot of an object that is here
pub slot_here : (far : FarState) (s : Shown) (h len place : ℕ) → Sound s far
    → object_at s h ≡ is.Here len place → HasSlot far.spans h len place
slot_here far s h len place sound here =
    sound.here.placed.placed h len place (lies s h len place here)

-- as a slot of its span
abbrev pub seat_of : (spans : List (Option Contents)) (h len place : ℕ)
    → HasSlot spans h len place → Seat
seat_of spans h len place c = record { frame = c.frame; number = c.slot; span = c.span }

pub seat_lies : (far : FarState) (s : Shown) (h len place : ℕ) → Sound s far
    → (c : HasSlot far.spans h len place) → LiesAtPlace far place (seat_of far.spans h len place c)
seat_lies far s h len place sound c = slot_lies far h len place sound.here.frames c

-- What holds where an object that is here gets another slot.
pub record IsReadyToMove (s : Shown) (far : FarState) (h len place : ℕ) (temp : Temp) (slot : Slot)
    : Type 0 where
  pub sound : Sound s far
  pub here : object_at s h ≡ is.Here len place
  pub range : h < length s.objects
  pub stamp : h < length s.versions
  pub c : HasSlot far.spans h len place
  pub other : c.span.temp ≢ temp
  pub chosen : IsChosen far c.span.class temp slot

module _ (s : Shown) (far : FarState) (h len place : ℕ) (temp : Temp) (slot : Slot)
    (x : IsReadyToMove s far h len place temp slot) where
  -- the spans are two
  frames_apart : x.c.frame ≢ slot.frame
  frames_apart = apart_frame far temp slot place
      (seat_of far.spans h len place x.c) x.chosen (seat_lies far s h len place x.sound x.c) x.other

  frames_off : slot.frame ≢ x.c.frame
  frames_off e = frames_apart (sym e)

  free : IsEmptySlot far slot
  free = chosen_empty far x.c.span.class temp slot x.sound.here.frames x.c.fits.in_table x.chosen

  -- no frame of one is one of the other's
  runs_apart : (x.c.frame + pages_of x.c.span.class ≤ slot.frame)
      ⊎ (slot.frame + pages_of slot.span.class ≤ x.c.frame)
  runs_apart = free.stands.apart x.c.frame x.c.span x.c.there frames_apart

  fits : IsClassOf len slot.span.class
  fits = subst (IsClassOf len) (sym (chosen_class far x.c.span.class temp slot x.chosen)) x.c.fits

  -- the far state without the object, and the slot there
  abbrev between : FarState
  between = with_released far x.c.frame x.c.slot x.c.span

  abbrev again : Slot
  again = record slot { free = frames_without slot.free x.c.frame x.c.slot x.c.span }

  abbrev left_over : Option Contents
  left_over = if is_last x.c.span x.c.slot then None else Some (with_cleared x.c.span x.c.slot)

  else_same : span_in between.spans slot.frame ≡ span_in far.spans slot.frame
  else_same = get_or-set_other far.spans x.c.frame slot.frame left_over None frames_off

  free_again : IsEmptySlot between again
  free_again = record {
    within = subst (λ (n : ℕ). slot.frame < n) (sym (length-set far.spans x.c.frame left_over))
        free.within;
    valid = free.valid;
    inside = free.inside;
    empty = free.empty;
    before = elim free.before [
      | inl there ↦ inl (else_same ∙ there)
      | inr none ↦ inr (else_same ∙ none.0, none.1)
    ];
    stands = stands_released far x.c.frame x.c.slot x.c.span x.sound.here.frames x.c.there
        slot.frame (pages_of slot.span.class) slot.free free.stands frames_apart;
  }

  -- both ways round the far state is one
  same_far : with_made between again h far.made
      ≡ with_moved far (seat_of far.spans h len place x.c) slot h
  same_far = ap (λ (l : List (Option Contents)). let q : FarState = record far {
    frames = frames_without slot.free x.c.frame x.c.slot x.c.span;
    spans = l;
  } in q) (set_comm far.spans x.c.frame slot.frame left_over
      (Some (with_placed slot.span slot.number h)) frames_apart)

  -- what would be known if the object were freed
  abbrev freed_at : ℕ → List ℕ → Shown
  freed_at v words = record s {
    objects = set s.objects h (is.Empty (v + 1));
    versions = set s.versions h (v + 1);
    memory = put s.memory place words;
  }

  sound_between : (v : ℕ) (words : List ℕ) → length words ≡ words_for len → version_at s h ≤ v
      → Sound (freed_at v words) between
  sound_between v words count newer = sound_gone far s (freed_at v words) h len place v x.c x.sound
      x.here x.range x.stamp (omega (arith, newer)) (record {
        first = refl;
        objects = refl;
        versions = refl;
        memory = length_put s.memory place words;
      }) (put_beside s.memory words place len count)

  empty_at : (v : ℕ) (words : List ℕ) → object_at (freed_at v words) h ≡ is.Empty (v + 1)
  empty_at v words = get_or-set_same s.objects h (is.Empty (v + 1)) never x.range

  here_never : is.Here len place ≡ never → ⊥
  here_never e = subst IsAt e tt
    where
      IsAt : Object → Type 0
      IsAt (is.Here l p) = Unit {0}
      IsAt _ = ⊥

  counted : IsCountedMade far.made far.made h
  counted = made_counted far.made h (by (cases_lt h far.made))
    where
      by : (h < far.made) ⊎ (far.made ≤ h) → h < far.made
      by (inl below) = below
      by (inr most) = absurd (here_never (sym x.here
          ∙ (x.sound.here.known.made h x.range).0 most))

  range_at : (v : ℕ) → h < length (set s.objects h (is.Empty (v + 1)))
  range_at v = subst (λ (n : ℕ). h < n) (sym (length-set s.objects h (is.Empty (v + 1)))) x.range

  -- the object may lie in its new slot, whose words it has not
  stamp_at : (v : ℕ) → h < length (set s.versions h (v + 1))
  stamp_at v = subst (λ (n : ℕ). h < n) (sym (length-set s.versions h (v + 1))) x.stamp

  pub vacant_at : (v : ℕ) (words : List ℕ) (t : Shown) → length words ≡ words_for len
      → version_at s h ≤ v
      → ((k : ℕ) → k ≢ h → object_at t k ≡ object_at s k) → length t.memory ≡ length s.memory
      → (place_in slot + words_for len ≤ length t.memory)
      × ((p : ℕ) → Covers (place_in slot) len p → MayLie t h p)
      × ((p : ℕ) → Covers (place_in slot) len p → Covers place len p → ⊥)
  vacant_at v words t count newer others memory =
      let ends = slot_bounds far slot len free fits in
      let old = slot_inside far s h len place x.sound.here x.c in (
        omega (arith, ends.1, free.stands.within, x.sound.here.placed.memory, memory),
        λ p covers. let may = may_lie between (freed_at v words) again h len far.made (v + 1) p
            (sound_between v words count newer).here (empty_at v words) (range_at v) (stamp_at v)
            free_again fits counted covers in (
              omega (arith, may.0, memory, length_put s.memory place words),
              λ k off. subst (Avoids p)
                  (get_or-set_other s.objects h k (is.Empty (v + 1)) never off
                  ∙ sym (others k off)) (may.1 k off),
            ),
        λ p mine yours. two_runs p runs_apart ends old mine yours,
      )
    where
      two_runs : (p : ℕ)
          → (x.c.frame + pages_of x.c.span.class ≤ slot.frame)
          ⊎ (slot.frame + pages_of slot.span.class ≤ x.c.frame)
          → (512 * slot.frame ≤ place_in slot)
          × (place_in slot + words_for len ≤ 512 * (slot.frame + pages_of slot.span.class))
          → (512 * x.c.frame ≤ place)
          × (place + words_for len ≤ 512 * (x.c.frame + pages_of x.c.span.class))
          → Covers (place_in slot) len p → Covers place len p → ⊥
      two_runs p (inl less) ends old mine yours =
          omega (arith, less, ends.0, old.1, mine.0, yours.1)
      two_runs p (inr more) ends old mine yours =
          omega (arith, more, ends.1, old.0, mine.1, yours.0)

  -- the world stays sound where the object is in its new slot
  pub sound_moved : (t : Shown) (v : ℕ) (words : List ℕ) → length words ≡ words_for len
      → version_at s h ≤ v → t.first ≡ s.first → t.objects ≡ set s.objects h (is.Here len (place_in slot))
      → t.versions ≡ set s.versions h v
      → t.memory ≡ put (put s.memory place words) (place_in slot) words
      → Sound t (with_moved far (seat_of far.spans h len place x.c) slot h)
  sound_moved t v words count newer first objects versions memory =
      subst (Sound t) same_far
      (sound_brought between (freed_at v words) t again h len far.made (v + 1)
      (sound_between v words count newer) (empty_at v words) (range_at v) free_again
      (λ batch there leaves. chosen_stays s far x.c.span.class temp slot batch x.sound
      x.c.fits.in_table x.chosen there leaves) fits counted
      (record {
        first = first;
        objects = objects
            ∙ sym (set-set s.objects h (is.Empty (v + 1)) (is.Here len (place_in slot)));
        versions = λ k off. ap (λ (l : List ℕ). get_or l k 0) versions
            ∙ get_or-set_other s.versions h k v 0 off
            ∙ sym (get_or-set_other s.versions h k (v + 1) 0 off);
        version = (let now = ap (λ (l : List ℕ). get_or l h 0) versions
            ∙ get_or-set_same s.versions h v 0 x.stamp in let known = x.sound.here.known in
            let made : h < far.made = counted.mine in
            omega (arith, now, first, known.first, known.versioned h made, newer));
        memory = ap length memory ∙ length_put (put s.memory place words) (place_in slot) words;
      })
      (λ p beside. ap (λ (l : List ℕ). get_or l p 0) memory
      ∙ put_beside (put s.memory place words) words (place_in slot) len count p beside))
