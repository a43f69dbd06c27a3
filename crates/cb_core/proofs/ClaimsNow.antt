-- What the steps of open writes change of what objects hold: the settling alone, at its object.
use Rattle.std.proofs.Common.{◌≡◌, ◌≢◌, ℕ, ◌+◌, ◌*◌, ◌/◌, ◌<◌, List, [], ◌∷◌, ◌++◌, None, Some, true, length, set, refl, sym, ap, ◌∙◌, subst, arith, inr, length-set, get_or-set_same, get_or-set_other}
use Rattle.std.specs.Prelude.{slice_get}
use Rattle.std.specs.List.{remove}
use Rattle.std.proofs.lemmas.List.{set-get_or}
use native.Mathlib.Decide.{ℕ_discrete}
use Rattle.cb_ptr.specs.declared.word.State.TheVariants as state
use Rattle.cb_ptr.specs.Steps.{Settles}
use Rattle.cb_ptr.specs.Word.{state_of, len_of, place_of}
use Rattle.cb_types.specs.declared.request.Request.TheVariants.{Write}
use Rattle.cb_types.specs.declared.reply.Reply.TheVariants as answer
use Rattle.cb_model.specs.Now.{overwritten}
use Rattle.cb_world.specs.declared.shown.Shown.{Shown}
use Rattle.cb_world.specs.FarState.{FarState}
use Rattle.cb_world.specs.Memory.{bytes_in, window, words_for}
use Rattle.cb_world.specs.Now.{Now, now}
use Rattle.cb_world.specs.Now.Now.{held}
use Rattle.cb_world.specs.OpenSteps.{next_word, stored_once}
use Rattle.cb_world.specs.OpenWrites.{IsOpen, stores_left, touched}
use Rattle.cb_world.specs.Pinned.{with_word}
use Rattle.cb_world.specs.Plain.{Words}
use Rattle.cb_world.specs.Seats.{SeatState, OpenWriteState, IsClaimAt, claims_of_seat, seat_at, with_claims}
use Rattle.cb_world.specs.Shown.{object_at}
use Rattle.cb_world.specs.StillDesk.{here_is, window_length}
use Rattle.cb_world.specs.StillWords.{stamp_at, contents_at}
use Rattle.cb_world.specs.World.{WorldState, IsSoundWorld, word_at}
use Rattle.cb_world.specs.Write.{IsWrite, IsWriteBelow}
use Rattle.cb_world.proofs.Laws.{KeepsBeside, lies, open_here}
use Rattle.cb_mutate.specs.MapCalls.{IsMapCall, IsCallBetween}
use Rattle.cb_mutate.proofs.Laws.{AreKnownBoth, ChangesAt, bytes_length, here_near, keeps_same, near_held, others_hold, write_by, write_bytes}
use Rattle.cb_core.specs.Claiming.{MayClaim, IsClaimTaken, IsCounted, opened}
use Rattle.cb_core.specs.NowIn.{claim_on, now_in, now_with}
use Rattle.cb_core.proofs.ClaimOn.{claim_is, claim_set, first_push, first_remove, first_set}
use Rattle.cb_core.proofs.NowIn.{in_words, in_write, not_claimed}
use Rattle.cb_core.proofs.OpenChanges.{claims_same, set_same}
use Rattle.cb_core.proofs.OpenKeptSteps.{with_stamp, with_stored}
use Rattle.cb_core.proofs.OpenStamped.{is_zero, lies_in}
use Rattle.cb_core.proofs.OpenSteps.{get_last, here_moving}
use Rattle.cb_core.proofs.OpenStores.{other_word}

both_known : (w new : WorldState) → (before : IsSoundWorld w) → (after : IsSoundWorld new)
    → AreKnownBoth w.desk new.desk w.far new.far before.shown after.shown
both_known w new before after = record { before = before.known; afterwards = after.known }

seats_within : (w : WorldState) (seat : ℕ) → IsSoundWorld w → seat < 64 → seat < length w.seats
seats_within w seat sound lt = let n = sound.pinned.count in omega (arith, n, lt)

-- ---- a claim
pub claimed_in : (seat h at : ℕ) (bytes : List ℕ) (w new : WorldState) → (before : IsSoundWorld w)
    → (after : IsSoundWorld new) → seat < 64 → h < length w.desk.words
    → MayClaim w.desk h at (length bytes) → IsClaimTaken seat h at bytes w new
    → (k : ℕ) → now_in new after.shown k ≡ now_in w before.shown k
claimed_in seat h at bytes w new before after lt below may t k = by (ℕ_discrete k h)
  where
    s : Shown
    s = before.shown

    old : ℕ
    old = word_at w.desk h

    cs : List OpenWriteState
    cs = claims_of_seat w.seats seat

    mine : OpenWriteState
    mine = opened w.desk h at bytes

    there : IsClaimAt new.seats seat (length cs) mine
    there = ap (λ (l : List SeatState). slice_get (claims_of_seat l seat) (length cs)) t.seats
        ∙ ap (λ (l : List OpenWriteState). slice_get l (length cs))
        (claims_same w.seats seat (cs ++ mine ∷ []) (seats_within w seat before lt))
        ∙ get_last cs mine

    own : now_in new after.shown h ≡ now_in w s h
    own = in_write new after.shown h mine
        (claim_is new.desk new.far new.seats seat (length cs) mine after.ongoing there)
        ∙ sym (in_words w s h (not_claimed w.desk w.far w.seats h before.ongoing
        (here_moving old may.free.0))
        ∙ near_held w.desk w.far s h before.known below (here_near old may.free.0))

    same : k ≢ h → claim_on new.seats k ≡ claim_on w.seats k
    same off = ap (λ (l : List SeatState). claim_on l k) t.seats
        ∙ claim_set w.seats seat (record (seat_at w.seats seat) { claims = cs ++ mine ∷ [] }) k
        (first_push k cs mine (λ e. off (sym e)))

    stays : k ≢ h → now after.shown new.far k ≡ now s w.far k
    stays off = others_hold w.desk new.desk w.far new.far s after.shown h (len_of old) (place_of old)
        t.word.word (stamp_at w.desk h) k w.desk.memory (both_known w new before after)
        (keeps_same w.far new.far t.far)
        (lies s h (len_of old) (place_of old)
        (here_is (object_at s h) old (before.known.shows.fit h below) may.free.0))
        (record {
          words = ap (λ (x : Words). x.words) t.word.words;
          versions = ap (λ (x : Words). x.versions) t.word.words ∙ sym (set-get_or w.desk.versions h 0);
          stored = ap (λ (x : Words). x.memory) t.word.words;
        })
        (λ p side. refl) off

    by : Dec (k ≡ h) → now_in new after.shown k ≡ now_in w s k
    by (yes e) = subst (λ (i : ℕ). now_in new after.shown i ≡ now_in w s i) (sym e) own
    by (no off) = λ i. now_with (same off i) (stays off i)

-- ---- a store
-- the object's words changed, and its open write has one word more stored
module _ (seat at : ℕ) (c : OpenWriteState) (w new : WorldState) (before : IsSoundWorld w)
    (after : IsSoundWorld new) (lt : seat < 64) (there : IsClaimAt w.seats seat at c)
    (n : IsCounted seat at c w new) where
  abbrev pub h : ℕ
  h = c.handle

  abbrev pub cs : List OpenWriteState
  cs = claims_of_seat w.seats seat

  then_there : IsClaimAt new.seats seat at (stored_once c)
  then_there = ap (λ (l : List SeatState). slice_get (claims_of_seat l seat) at) n.seats
      ∙ ap (λ (l : List OpenWriteState). slice_get l at)
      (claims_same w.seats seat (set cs at (stored_once c)) (seats_within w seat before lt))
      ∙ set_same cs at (stored_once c) c there

  own : now_in new after.shown h ≡ now_in w before.shown h
  own = in_write new after.shown h (stored_once c)
      (claim_is new.desk new.far new.seats seat at (stored_once c) after.ongoing then_there)
      ∙ sym (in_write w before.shown h c
      (claim_is w.desk w.far w.seats seat at c before.ongoing there))

  same : (k : ℕ) → k ≢ h → claim_on new.seats k ≡ claim_on w.seats k
  same k off = ap (λ (l : List SeatState). claim_on l k) n.seats
      ∙ claim_set w.seats seat (record (seat_at w.seats seat) { claims = set cs at (stored_once c) }) k
      (first_set k cs at (stored_once c) c there (λ e. off (sym e)) (λ e. off (sym e)))

  counted_in : (v : ℕ) (memory : List ℕ)
      → ChangesAt w.desk new.desk h (word_at w.desk h) v memory
      → KeepsBeside w.desk.memory memory (place_of (word_at w.desk h)) (len_of (word_at w.desk h))
      → (k : ℕ) → now_in new after.shown k ≡ now_in w before.shown k
  counted_in v memory changes keeps k = by (ℕ_discrete k h)
    where
      by : Dec (k ≡ h) → now_in new after.shown k ≡ now_in w before.shown k
      by (yes e) = subst (λ (i : ℕ). now_in new after.shown i ≡ now_in w before.shown i) (sym e) own
      by (no off) = let old = word_at w.desk h in
          let stays = others_hold w.desk new.desk w.far new.far before.shown after.shown h (len_of old)
          (place_of old) old v k memory (both_known w new before after)
          (keeps_same w.far new.far n.far)
          (lies before.shown h (len_of old) (place_of old)
          (open_here w.desk w.far before.shown w.seats seat at c before.known before.ongoing there))
          changes keeps off in
          λ i. now_with (same k off i) (stays i)

  -- a memory word
  pub stored_in : (word : ℕ) → c.stored < touched c.at (length c.bytes)
      → new.desk ≡ with_stored w.desk (next_word c) word h
      → (k : ℕ) → now_in new after.shown k ≡ now_in w before.shown k
  stored_in word less changed =
      let p = place_of (word_at w.desk h) + next_word c in
      counted_in (stamp_at w.desk h) (set w.desk.memory p word) (record {
        words = ap (λ (x : Words). x.words) changed ∙ sym (set-get_or w.desk.words h 0);
        versions = ap (λ (x : Words). x.versions) changed ∙ sym (set-get_or w.desk.versions h 0);
        stored = ap (λ (x : Words). x.memory) changed;
      })
      (λ q side. get_or-set_other w.desk.memory p q word 0
      (other_word w seat at word c before there less q side))

  -- the version word
  pub stamped_in : new.desk ≡ with_stamp w.desk (c.version + 1) h
      → (k : ℕ) → now_in new after.shown k ≡ now_in w before.shown k
  stamped_in changed = counted_in (c.version + 1) w.desk.memory (record {
    words = ap (λ (x : Words). x.words) changed ∙ sym (set-get_or w.desk.words h 0);
    versions = ap (λ (x : Words). x.versions) changed;
    stored = ap (λ (x : Words). x.memory) changed;
  }) (λ p side. refl)

-- ---- a settling
-- a write that is done as far as its last byte is done
all_written : (n : ℕ) (old : List ℕ) (at : ℕ) (bytes new : List ℕ)
    → ((i : ℕ) → i < length bytes → at + i < n) → IsWriteBelow n old at bytes new
    → IsWrite old at bytes new
all_written n old at bytes new all w = record {
  sized = w.sized;
  inside = λ i below. w.inside i below (all i below);
  outside = λ p below side. w.outside p below (inr side);
}

module _ (seat at v : ℕ) (c : OpenWriteState) (w new : WorldState) (before : IsSoundWorld w)
    (after : IsSoundWorld new) (lt : seat < 64) (there : IsClaimAt w.seats seat at c)
    (done : stores_left c ≡ 0) (settles : Settles (word_at w.desk c.handle)
    (place_of (word_at w.desk c.handle)) true v) (changed : new.desk ≡ with_word w.desk c.handle v)
    (seats : new.seats ≡ with_claims w.seats seat (remove (claims_of_seat w.seats seat) at))
    (far : new.far ≡ w.far) where
  o : IsOpen w.desk c
  o = before.ongoing.each seat at c there

  abbrev pub x : Words
  x = w.desk

  abbrev pub old_bytes : List ℕ
  old_bytes = bytes_in c.words c.len

  word : word_at new.desk c.handle ≡ v
  word = ap (λ (y : Words). word_at y c.handle) changed ∙ get_or-set_same x.words c.handle v 0 o.below

  here : state_of (word_at new.desk c.handle) ≡ state.Here
  here = ap state_of word ∙ settles.state

  len : len_of (word_at new.desk c.handle) ≡ c.len
  len = ap len_of word ∙ settles.len ∙ o.len

  stamp : stamp_at new.desk c.handle ≡ c.version + 1
  stamp = ap (λ (y : Words). stamp_at y c.handle) changed ∙ o.stamp
      ∙ is_zero (stores_left c) (c.version + 1) c.version done

  contents : contents_at new.desk c.handle ≡ contents_at x c.handle
  contents = λ i. window (ap (λ (y : Words). y.memory) changed i)
      ((ap place_of word ∙ settles.place) i) (words_for ((ap len_of word ∙ settles.len) i))

  written : bytes_in (contents_at x c.handle) c.len ≡ overwritten old_bytes c.at c.bytes
  written = write_bytes c.words (contents_at x c.handle) c.at c.len c.bytes
      (all_written (8 * (c.at / 8 + c.stored)) c.words c.at c.bytes (contents_at x c.handle)
      (λ i below. let z = lies_in c.at (length c.bytes) i below in omega (arith, z, done)) o.contents)
      o.inside
      (let n = window_length x.memory (place_of (word_at x c.handle))
      (words_for (len_of (word_at x c.handle))) in let m = o.contents.sized in let l = o.len in
      omega (arith, n, m, l))

  off_claims : claim_on new.seats c.handle ≡ None
  off_claims = not_claimed new.desk new.far new.seats c.handle after.ongoing
      (here_moving (word_at new.desk c.handle) here)

  within : c.handle < length new.desk.words
  within = let n = length-set x.words c.handle v in let m = ap (λ (y : Words). length y.words) changed in
      let b = o.below in omega (arith, n, m, b)

  holds : now_in new after.shown c.handle ≡ held (c.version + 1) (overwritten old_bytes c.at c.bytes)
  holds = in_words new after.shown c.handle off_claims
      ∙ near_held new.desk new.far after.shown c.handle after.known within
      (here_near (word_at new.desk c.handle) here)
      ∙ (λ i. held (stamp i) (bytes_in (contents i) (len i)))
      ∙ ap (held (c.version + 1)) written

  same_claims : (k : ℕ) → k ≢ c.handle → claim_on new.seats k ≡ claim_on w.seats k
  same_claims k off = ap (λ (l : List SeatState). claim_on l k) seats
      ∙ claim_set w.seats seat
      (record (seat_at w.seats seat) { claims = remove (claims_of_seat w.seats seat) at }) k
      (first_remove k (claims_of_seat w.seats seat) at c there (λ e. off (sym e)))

  stays : (k : ℕ) → k ≢ c.handle → now after.shown new.far k ≡ now before.shown w.far k
  stays k off = let old = word_at x c.handle in
      others_hold x new.desk w.far new.far before.shown after.shown c.handle (len_of old) (place_of old)
      v (stamp_at x c.handle) k x.memory (both_known w new before after) (keeps_same w.far new.far far)
      (lies before.shown c.handle (len_of old) (place_of old)
      (open_here x w.far before.shown w.seats seat at c before.known before.ongoing there))
      (record {
        words = ap (λ (y : Words). y.words) changed;
        versions = ap (λ (y : Words). y.versions) changed ∙ sym (set-get_or x.versions c.handle 0);
        stored = ap (λ (y : Words). y.memory) changed;
      })
      (λ p side. refl) off

  -- the write of which it is the end
  pub settled_in : IsCallBetween w.far.first w.desk.settings.handles w.far.made new.far.made
      (λ k. now_in w before.shown k) (λ k. now_in new after.shown k) c.handle
      (Write [] c.at c.bytes) (answer.Version (c.version + 1))
  settled_in = record {
    own = subst (λ (n : Now). C n (now_in new after.shown c.handle))
        (sym (in_write w before.shown c.handle c
        (claim_is w.desk w.far w.seats seat at c before.ongoing there)))
        (subst (C (held c.version old_bytes)) (sym holds)
        (write_by c.version c.at old_bytes c.bytes w.far.first w.desk.settings.handles w.far.made
        (Some c.handle) [] (answer.Version (c.version + 1))
        (let n = bytes_length c.words c.len in let b = o.inside in omega (arith, n, b)) refl));
    others = λ k off. λ i. now_with (same_claims k off i) (stays k off i);
    counted = let made = ap (λ (f : FarState). f.made) far in omega (arith, made);
  }
    where
      C : Now → Now → Type 0
      C a b = IsMapCall w.far.first w.desk.settings.handles w.far.made (Some c.handle)
          (Write [] c.at c.bytes) (answer.Version (c.version + 1)) a b
