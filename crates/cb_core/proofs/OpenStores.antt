-- A store of a memory word of an open write leaves the world sound.
use Rattle.std.proofs.Common.{◌≡◌, ◌≢◌, ℕ, zero, suc, ◌+◌, ◌*◌, ◌/◌, ◌<◌, ◌≤◌, List, length, get_or, set, sym, refl, ap, ◌∙◌, subst, arith, inl, inr, length-set, get_or-set_other}
use Rattle.cb_ptr.specs.declared.word.State.TheVariants as state
use Rattle.cb_ptr.specs.Word.{state_of, len_of, place_of}
use Rattle.cb_world.specs.declared.object.Object.{Object}
use Rattle.cb_world.specs.declared.object.Object.TheVariants as is
use Rattle.cb_world.specs.declared.shown.Shown.{Shown}
use Rattle.cb_world.specs.Memory.{IsPacked, window, put, words_for}
use Rattle.cb_world.specs.OpenWrites.{IsOpen, touched}
use Rattle.cb_world.specs.Orders.{LeavesOrders}
use Rattle.cb_world.specs.Packed.{IsPackedAs}
use Rattle.cb_world.specs.Plain.{Words}
use Rattle.cb_world.specs.Seats.{OpenWriteState, IsClaimAt}
use Rattle.cb_world.specs.Shown.{Fits, object_at}
use Rattle.cb_world.specs.StillDesk.{here_is, put_window, window_length}
use Rattle.cb_world.specs.StillWords.{contents_at}
use Rattle.cb_world.specs.World.{WorldState, IsKnown, IsSoundWorld, word_at}
use Rattle.cb_world.specs.Write.{IsWriteBelow}
use Rattle.cb_world.proofs.Laws.{IsOutside, apart, beside_orders, lies, lies_within, open_here, set_put, sound_beside, window_at, window_put, window_same}
use Rattle.cb_mutate.specs.Merged.{IsWordMerged}
use Rattle.cb_mutate.proofs.Laws.{write_more}

-- the window of a memory in which one of its words was set
window_set : (ms : List ℕ) (p n i y : ℕ) → i < n → p + n ≤ length ms
    → window (set ms (p + i) y) p n ≡ set (window ms p n) i y
window_set ms p n i y less fits =
    let l = window_length ms p n in
    ap (λ m. window (set m (p + i) y) p n) (sym (put_window ms p n))
    ∙ ap (λ m. window m p n) (set_put ms p (window ms p n) i y (omega (arith, less, l)))
    ∙ ap (λ k. window (put ms p (set (window ms p n) i y)) p k) (sym (length-set (window ms p n) i y ∙ l))
    ∙ window_put ms p (set (window ms p n) i y)
    (let s = length-set (window ms p n) i y in omega (arith, s, l, fits))

module _ (w : WorldState) (seat place m : ℕ) (c : OpenWriteState) (sound : IsSoundWorld w)
    (there : IsClaimAt w.seats seat place c) (less : c.stored < touched c.at (length c.bytes)) where
  abbrev pub s : Shown
  s = sound.shown

  abbrev pub h : ℕ
  h = c.handle

  abbrev pub old : ℕ
  old = word_at w.desk h

  abbrev pub i : ℕ
  i = c.at / 8 + c.stored

  abbrev pub p : ℕ
  p = place_of old + i

  o : IsOpen w.desk c
  o = sound.ongoing.each seat place c there

  here : object_at s h ≡ is.Here (len_of old) (place_of old)
  here = open_here w.desk w.far s w.seats seat place c sound.known sound.ongoing there

  touches : (at n len : ℕ) → at + n ≤ len → (k : ℕ) → k < touched at n → at / 8 + k < words_for len
  touches at zero len fits k less = absurd (omega (arith, less))
  touches at (suc n) len fits k less = omega (arith, fits, less)

  inside : i < words_for (len_of old)
  inside = touches c.at (length c.bytes) (len_of old)
      (let a = o.inside in let b = o.len in omega (arith, a, b)) c.stored less

  within : place_of old + words_for (len_of old) ≤ length s.memory
  within = (lies_within w.far s h (len_of old) (place_of old) sound.known.sound.here
      (lies s h (len_of old) (place_of old) here)).0

  fits : place_of old + words_for (len_of old) ≤ length w.desk.memory
  fits = let e = ap (λ l. length l) sound.known.shows.memory in omega (arith, within, e)

  abbrev pub desk : Words
  desk = record w.desk { memory = set w.desk.memory p m }

  abbrev pub t : Shown
  t = record s { memory = set s.memory p m }

  -- a word beside the object is another one than that which is stored
  pub other_word : (q : ℕ) → IsOutside (place_of old) (len_of old) q → q ≢ p
  other_word q (inl before) e = omega (arith, before, e)
  other_word q (inr behind) e = omega (arith, behind, e, inside)

  beside : (q : ℕ) → IsOutside (place_of old) (len_of old) q → get_or t.memory q 0 ≡ get_or s.memory q 0
  beside q side = get_or-set_other s.memory p q m 0 (other_word q side)

  -- the object is not one that is leaving
  pub stored_orders : LeavesOrders s w.far t w.far
  stored_orders = beside_orders w.far s t h (len_of old) (place_of old) sound.known.sound here beside

  pub stored_known : IsKnown desk w.far t
  stored_known = record {
    sized = record {
      words = sound.known.sized.words;
      versions = sound.known.sized.versions;
      memory = length-set w.desk.memory p m ∙ sound.known.sized.memory;
    };
    shows = record {
      objects = sound.known.shows.objects;
      versions = sound.known.shows.versions;
      hots = sound.known.shows.hots;
      hot = sound.known.shows.hot;
      memory = ap (λ l. set l p m) sound.known.shows.memory;
      fit = sound.known.shows.fit;
    };
    hots = sound.known.hots;
    sound = sound_beside w.far s t h (len_of old) (place_of old) sound.known.sound here refl refl
        (length-set s.memory p m) (λ k off. refl) (omega arith) beside;
    packed = λ k below. packs k below (object_at s k) refl (sound.known.packed k below);
    freed = sound.known.freed;
  }
    where
      -- an object whose word is Here is another one, and lies beside it
      packs : (k : ℕ) → k < length w.desk.words → (o : Object) → object_at s k ≡ o
          → IsPackedAs s (word_at w.desk k) o → IsPackedAs t (word_at w.desk k) o
      packs k below (is.Empty v) e x = tt
      packs k below (is.Far len v words) e x = x
      packs k below (is.Claimed len at v words) e x = x
      packs k below (is.Here len at) e x = λ calm.
          let fit = subst (λ (o : Object). Fits o (word_at w.desk k)) e
          (sound.known.shows.fit k below) in
          subst (IsPacked len) (sym (window_same (set s.memory p m) s.memory at (words_for len)
          (λ q low high. get_or-set_other s.memory p q m 0 (λ same.
          apart w.far s k len at h (len_of old) (place_of old) q sound.known.sound.here
          (lies s k len at e) (lies s h (len_of old) (place_of old) here)
          (λ one. let f = sym calm ∙ ap (λ (i : ℕ). state_of (word_at w.desk i)) one ∙ o.moving in cc)
          (low, high) (omega (arith, same), omega (arith, same, inside)))))) (x calm)

  -- the object's words have one more of the write
  pub stored_contents : IsWordMerged (get_or w.desk.memory p 0) (8 * i) c.at c.bytes m
      → IsWriteBelow (8 * (i + 1)) c.words c.at c.bytes (contents_at desk h)
  stored_contents merged =
      let ws = window w.desk.memory (place_of old) (words_for (len_of old)) in
      let l = window_length w.desk.memory (place_of old) (words_for (len_of old)) in
      subst (IsWriteBelow (8 * (i + 1)) c.words c.at c.bytes)
      (sym (window_set w.desk.memory (place_of old) (words_for (len_of old)) i m inside fits))
      (write_more c.words ws i c.at c.bytes m o.contents
      (let z = o.contents.sized in omega (arith, inside, l, z))
      (subst (λ x. IsWordMerged x (8 * i) c.at c.bytes m)
      (sym (window_at w.desk.memory (place_of old) (words_for (len_of old)) i inside)) merged))

  -- the words of another object that is here are as they were
  stays_at : (k : ℕ) → object_at s k ≡ is.Here (len_of (word_at w.desk k)) (place_of (word_at w.desk k))
      → k ≢ h → contents_at desk k ≡ contents_at w.desk k
  stays_at k at off =
      let v = word_at w.desk k in
      window_same (set w.desk.memory p m) w.desk.memory (place_of v) (words_for (len_of v))
      (λ q low high. get_or-set_other w.desk.memory p q m 0 (λ e.
      apart w.far s k (len_of v) (place_of v) h (len_of old) (place_of old) q
      sound.known.sound.here (lies s k (len_of v) (place_of v) at)
      (lies s h (len_of old) (place_of old) here) off (low, high)
      (omega (arith, e), omega (arith, e, inside))))

  pub others_stay : (other at : ℕ) (d : OpenWriteState) → IsClaimAt w.seats other at d → d.handle ≢ h
      → contents_at desk d.handle ≡ contents_at w.desk d.handle
  others_stay other at d is off = stays_at d.handle
      (open_here w.desk w.far s w.seats other at d sound.known sound.ongoing is) off

  pub others_here : (k : ℕ) → k < length w.desk.words → state_of (word_at w.desk k) ≡ state.Here
      → contents_at desk k ≡ contents_at w.desk k
  others_here k below here_k = stays_at k
      (here_is (object_at s k) (word_at w.desk k) (sound.known.shows.fit k below) here_k)
      (λ e. let f = sym here_k ∙ ap (λ (i : ℕ). state_of (word_at w.desk i)) e ∙ o.moving in cc)
