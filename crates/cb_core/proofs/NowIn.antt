-- What the objects of a world hold, where seats have open writes on some.
use Rattle.std.proofs.Common.{◌≡◌, ◌⊎◌, ℕ, zero, suc, Bool, true, false, ◌%◌, ◌<◌, ◌≤◌, List, Option, None, Some, length, get_or, refl, sym, ap, ◌∙◌, subst, arith, inl, inr}
use Rattle.std.proofs.lemmas.Bool.{cases_lt}
use Rattle.std.proofs.lemmas.List.{get_or_past}
use Rattle.cb_ptr.specs.declared.word.State.{State}
use Rattle.cb_ptr.specs.declared.word.State.TheVariants as state
use Rattle.cb_ptr.specs.Word.{state_of, len_of}
use Rattle.cb_types.specs.declared.request.Request.{Request}
use Rattle.cb_types.specs.declared.request.Request.TheVariants.{Make}
use Rattle.cb_types.specs.declared.reply.Reply.{Reply}
use Rattle.cb_types.specs.declared.reply.Reply.TheVariants as answer
use Rattle.cb_model.specs.declared.object.Object.TheVariants.{Held, Freed}
use Rattle.cb_model.specs.Called.{Called, value}
use Rattle.cb_model.specs.Event.{event_of}
use Rattle.cb_model.specs.Event.Event.{Refused}
use Rattle.cb_model.specs.Event.Subject.{Contents}
use Rattle.cb_model.specs.Now.{MapNow}
use Rattle.cb_model.specs.Replies.{MapReplies}
use Rattle.cb_world.specs.declared.object.Object.{Object}
use Rattle.cb_world.specs.declared.object.Object.TheVariants as is
use Rattle.cb_world.specs.declared.shown.Shown.{Shown}
use Rattle.cb_world.specs.FarState.{FarState}
use Rattle.cb_world.specs.LocalSound.{IsStamped}
use Rattle.cb_world.specs.Memory.{bytes_in}
use Rattle.cb_world.specs.Now.{Now, is_gone, now, now_as}
use Rattle.cb_world.specs.Now.Now.{never, held, gone}
use Rattle.cb_world.specs.OpenWrites.{AreOpen}
use Rattle.cb_world.specs.Plain.{Words}
use Rattle.cb_world.specs.Seats.{SeatState, OpenWriteState}
use Rattle.cb_world.specs.Shown.{object_at, version_at, never as no_object}
use Rattle.cb_world.specs.Sound.{Sound}
use Rattle.cb_world.specs.StillWords.{stamp_at, contents_at}
use Rattle.cb_world.specs.World.{WorldState, IsKnown, word_at}
use Rattle.cb_world.proofs.Laws.{empty_now, empty_value, far_object}
use Rattle.cb_mutate.specs.MapBeside.{IsMapOf}
use Rattle.cb_mutate.specs.MapCalls.{IsValue, IsMapCall, IsCallBetween, IsCallOn, IsMakeCall}
use Rattle.cb_mutate.proofs.Laws.{here_near, map_kept, map_same, moving_near, near_held, refused_by, was_made}
use Rattle.cb_core.specs.NowIn.{AreGone, IsLostAt, claim_on, now_in, now_with}
use Rattle.cb_core.proofs.CallsBeside.{AreMadeBelow, IsMakeBetween}
use Rattle.cb_core.proofs.ClaimOn.{claim_found}
use Rattle.cb_core.proofs.TurnCallsMap.{IsSameMap}
use Rattle.cb_core.proofs.TurnCallsNodes.{IsMapLost}

-- ---- a claimed object
-- is one of those that there are, and its word is Moving
pub claimed_moves : (desk : Words) (far : FarState) (seats : List SeatState) (h : ℕ)
    (c : OpenWriteState) → AreOpen desk far seats → claim_on seats h ≡ Some c
    → (h < length desk.words) × (state_of (word_at desk h) ≡ state.Moving)
claimed_moves desk far seats h c ongoing e =
    let z = claim_found seats h c e in let o = ongoing.each z.0 z.1 c z.2 in
    subst (λ (k : ℕ). (k < length desk.words) × (state_of (word_at desk k) ≡ state.Moving)) z.3
    (o.below, o.moving)

-- so one whose word is not Moving is not claimed
pub not_claimed : (desk : Words) (far : FarState) (seats : List SeatState) (h : ℕ)
    → AreOpen desk far seats → (state_of (word_at desk h) ≡ state.Moving → ⊥)
    → claim_on seats h ≡ None
not_claimed desk far seats h ongoing still = by (claim_on seats h) refl
  where
    by : (o : Option OpenWriteState) → claim_on seats h ≡ o → claim_on seats h ≡ None
    by None e = e
    by (Some c) e = absurd (still (claimed_moves desk far seats h c ongoing e).1)

-- what it holds is in its open write, and what one that is not claimed holds is in its words
pub in_write : (w : WorldState) (s : Shown) (h : ℕ) (c : OpenWriteState)
    → claim_on w.seats h ≡ Some c → now_in w s h ≡ held c.version (bytes_in c.words c.len)
in_write w s h c e = ap (λ (o : Option OpenWriteState). now_with o (now s w.far h)) e

pub in_words : (w : WorldState) (s : Shown) (h : ℕ) → claim_on w.seats h ≡ None
    → now_in w s h ≡ now s w.far h
in_words w s h e = ap (λ (o : Option OpenWriteState). now_with o (now s w.far h)) e

-- ---- which objects were made
not_made : (s : Shown) (far : FarState) (h : ℕ) → Sound s far → far.made ≤ h → now s far h ≡ never
not_made s far h sound past =
    ap (now_as s h (is_gone far h)) (by (cases_lt h (length s.objects)))
  where
    by : (h < length s.objects) ⊎ (length s.objects ≤ h) → object_at s h ≡ no_object
    by (inl below) = (sound.here.known.made h below).0 past
    by (inr out) = get_or_past s.objects h no_object out

held_never : (v : ℕ) (bytes : List ℕ) → held v bytes ≡ never → ⊥
held_never v bytes e = cc

-- a claimed object was made
claimed_made : (w : WorldState) (s : Shown) (h : ℕ) (c : OpenWriteState) → IsKnown w.desk w.far s
    → AreOpen w.desk w.far w.seats → claim_on w.seats h ≡ Some c → w.far.made ≤ h → ⊥
claimed_made w s h c k ongoing e past =
    let m = claimed_moves w.desk w.far w.seats h c ongoing e in
    held_never (stamp_at w.desk h) (bytes_in (contents_at w.desk h) (len_of (word_at w.desk h)))
    (sym (near_held w.desk w.far s h k m.0 (moving_near (word_at w.desk h) m.1))
    ∙ not_made s w.far h k.sound past)

pub are_made : (w : WorldState) (s : Shown) → IsKnown w.desk w.far s
    → AreOpen w.desk w.far w.seats → AreMadeBelow w.far.made (λ h. now_in w s h)
are_made w s k ongoing = record {
  past = λ h past. past_by h past (claim_on w.seats h) refl;
  below = λ h less e. below_by h less e (claim_on w.seats h) refl;
}
  where
    past_by : (h : ℕ) → w.far.made ≤ h → (o : Option OpenWriteState) → claim_on w.seats h ≡ o
        → now_in w s h ≡ never
    past_by h past None e = in_words w s h e ∙ not_made s w.far h k.sound past
    past_by h past (Some c) e = absurd (claimed_made w s h c k ongoing e past)

    below_by : (h : ℕ) → h < w.far.made → now_in w s h ≡ never → (o : Option OpenWriteState)
        → claim_on w.seats h ≡ o → ⊥
    below_by h less e None f = was_made s w.far h k.sound less (sym (in_words w s h f) ∙ e)
    below_by h less e (Some c) f =
        held_never c.version (bytes_in c.words c.len) (sym (in_write w s h c f) ∙ e)

-- of an object that was held the version alone is known once it is gone
pub lost_value : (m : MapNow) (v : ℕ) (bytes : List ℕ) → IsValue m (held v bytes) → IsValue m (gone v)
lost_value None v bytes i = absurd i
lost_value (Some (Freed u)) v bytes i = absurd i
lost_value (Some (Held u b)) v bytes i = i.0

-- ---- where the claims stay, what holds of the words holds of the world
module _ (w new : WorldState) (s t : Shown)
    (claims : (h : ℕ) → claim_on new.seats h ≡ claim_on w.seats h) where
  pub in_same : (h : ℕ) → now t new.far h ≡ now s w.far h → now_in new t h ≡ now_in w s h
  in_same h e = λ i. now_with (claims h i) (e i)

  pub same_in : (before : List Called) → IsMapOf before w.far.made (λ h. now_in w s h)
      → IsSameMap s t w.far new.far → IsMapOf before new.far.made (λ h. now_in new t h)
  same_in before map same = map_kept 0 0 w.far.made new.far.made (λ h. now_in w s h)
      (λ h. now_in new t h) before map same.made (λ h. in_same h (same.now h))

  pub lost_in : (before : List Called) → IsMapOf before w.far.made (λ h. now_in w s h)
      → IsMapLost s t w.far new.far → IsMapOf before new.far.made (λ h. now_in new t h)
  lost_in before map lost = record {
    made = map.made ∙ sym lost.made;
    values = λ h. by h (claim_on w.seats h) refl (lost.now h);
  }
    where
      m : ℕ → MapNow
      m h = value before h

      by : (h : ℕ) (o : Option OpenWriteState) → claim_on w.seats h ≡ o
          → (now t new.far h ≡ now s w.far h)
          ⊎ ((v : ℕ) × (bytes : List ℕ) × (now s w.far h ≡ held v bytes) × (now t new.far h ≡ gone v))
          → IsValue (m h) (now_in new t h)
      by h o e (inl same) = subst (IsValue (m h)) (sym (in_same h same)) (map.values h)
      by h None e (inr (v, bytes, was, later)) =
          subst (IsValue (m h)) (sym (in_words new t h (claims h ∙ e) ∙ later))
          (lost_value (m h) v bytes (subst (IsValue (m h)) (in_words w s h e ∙ was) (map.values h)))
      by h (Some c) e (inr lost) =
          subst (IsValue (m h)) (in_write w s h c e ∙ sym (in_write new t h c (claims h ∙ e)))
          (map.values h)

  -- a call on an object, which is refused where that is claimed
  pub call_in : (handles h : ℕ) (q : Request) (r : Reply) → IsCallOn handles s t w.far new.far h q r
      → ((c : OpenWriteState) → claim_on w.seats h ≡ Some c → event_of q r ≡ Refused Contents)
      → IsCallBetween w.far.first handles w.far.made new.far.made (λ k. now_in w s k)
      (λ k. now_in new t k) h q r
  call_in handles h q r call refuses = record {
    own = by (claim_on w.seats h) refl;
    others = λ k off. in_same k (call.others k off);
    counted = call.counted;
  }
    where
      C : Now → Now → Type 0
      C a b = IsMapCall w.far.first handles w.far.made (Some h) q r a b

      by : (o : Option OpenWriteState) → claim_on w.seats h ≡ o → C (now_in w s h) (now_in new t h)
      by None e = subst (λ (n : Now). C n (now_in new t h)) (sym (in_words w s h e))
          (subst (C (now s w.far h)) (sym (in_words new t h (claims h ∙ e))) call.own)
      by (Some c) e = let n = held c.version (bytes_in c.words c.len) in
          subst (λ (m : Now). C m (now_in new t h)) (sym (in_write w s h c e))
          (subst (C n) (sym (in_write new t h c (claims h ∙ e)))
          (map_same w.far.first handles w.far.made (Some h) q r n (Refused Contents) (refuses c e) refl
          (refused_by n tt w.far.first handles w.far.made (Some h))))

  -- a make
  pub make_in : (handles : ℕ) (bytes name : List ℕ) (r : Reply) → IsKnown w.desk w.far s
      → AreOpen w.desk w.far w.seats → IsMakeCall handles s t w.far new.far (Make name bytes) r
      → IsMakeBetween w.far.first handles w.far.made new.far.made (λ k. now_in w s k)
      (λ k. now_in new t k) (Make name bytes) r
  make_in handles bytes name r k ongoing (inl (h, v, made, call)) =
      inl (h, v, made, call_in handles h.n (Make name bytes) r call (λ c e. absurd (fresh c e)))
    where
      next : (m : MapNow) → MapReplies w.far.first handles w.far.made (Some h.n) m
          (event_of (Make name bytes) (answer.Made h v)) → w.far.made ≤ h.n
      next m reply = let same : h.n ≡ w.far.made = same_handle h.n w.far.made reply.0 in
          omega (arith, same)
        where
          same_handle : (a b : ℕ) → Some a ≡ Some b → a ≡ b
          same_handle a b e = cc

      fresh : (c : OpenWriteState) → claim_on w.seats h.n ≡ Some c → ⊥
      fresh c e =
          let m = claimed_moves w.desk w.far w.seats h.n c ongoing e in
          let is = near_held w.desk w.far s h.n k m.0 (moving_near (word_at w.desk h.n) m.1) in
          let was = Some (Held (stamp_at w.desk h.n)
          (bytes_in (contents_at w.desk h.n) (len_of (word_at w.desk h.n)))) in
          claimed_made w s h.n c k ongoing e (next was
          (subst (λ (q : Reply). MapReplies w.far.first handles w.far.made (Some h.n) was
          (event_of (Make name bytes) q)) made
          (call.own.reply was (subst (IsValue was) (sym is) (refl, refl)))))
  make_in handles bytes name r k ongoing (inr call) = inr (record {
    reply = call.reply;
    silent = call.silent;
    others = λ h. in_same h (call.others h);
    counted = call.counted;
  })

-- ---- an object is gone exactly where it is lost
module _ (w : WorldState) (s : Shown) (k : IsKnown w.desk w.far s)
    (ongoing : AreOpen w.desk w.far w.seats) where
  -- a far object, by whether its set is broken
  far_now : (h : ℕ) → h < length w.desk.words → state_of (word_at w.desk h) ≡ state.Far
      → (words : List ℕ) × (now s w.far h
      ≡ now_as s h (is_gone w.far h) (is.Far (len_of (word_at w.desk h)) (stamp_at w.desk h) words))
  far_now h below away =
      let o = far_object (object_at s h) (word_at w.desk h) (k.shows.fit h below) away in
      let stamp : version_at s h ≡ o.0 =
      subst (λ (p : Object). IsStamped p (version_at s h)) o.2 (k.sound.here.known.stamped h) in
      let same : o.0 ≡ stamp_at w.desk h =
      sym stamp ∙ ap (λ (l : List ℕ). get_or l h 0) k.shows.versions in (
        o.1,
        ap (now_as s h (is_gone w.far h)) o.2
            ∙ ap (λ (v : ℕ). now_as s h (is_gone w.far h) (is.Far (len_of (word_at w.desk h)) v o.1)) same,
      )

  gone_at : (h v n len : ℕ) (words : List ℕ) (lost : Bool) → is_gone w.far h ≡ lost
      → now_as s h lost (is.Far len n words) ≡ gone v → (is_gone w.far h ≡ true) × (n ≡ v)
  gone_at h v n len words true is e = (is, same_gone n v e)
    where
      same_gone : (a b : ℕ) → gone a ≡ gone b → a ≡ b
      same_gone a b f = cc
  gone_at h v n len words false is e = absurd (whole e)
    where
      whole : held n (bytes_in words len) ≡ gone v → ⊥
      whole f = cc

  empty_gone : (n v : ℕ) → empty_value n ≡ gone v → ⊥
  empty_gone zero v e = cc
  empty_gone (suc n) v e = cc

  held_gone : (n v : ℕ) (bytes : List ℕ) → held n bytes ≡ gone v → ⊥
  held_gone n v bytes e = cc

  words_gone : (h v : ℕ) → now s w.far h ≡ gone v → IsLostAt w h v
  words_gone h v e = elim (cases_lt h (length w.desk.words)) [
    | inl below ↦ by below (state_of (word_at w.desk h)) refl
    | inr past ↦ absurd (none (sym (ap (now_as s h (is_gone w.far h))
        (get_or_past s.objects h no_object (let n = k.shows.objects in omega (arith, n, past)))) ∙ e))
  ]
    where
      none : never ≡ gone v → ⊥
      none f = cc

      near : h < length w.desk.words → 2 ≤ word_at w.desk h % 4 → IsLostAt w h v
      near below is = absurd (held_gone (stamp_at w.desk h) v
          (bytes_in (contents_at w.desk h) (len_of (word_at w.desk h)))
          (sym (near_held w.desk w.far s h k below is) ∙ e))

      by : h < length w.desk.words → (q : State) → state_of (word_at w.desk h) ≡ q → IsLostAt w h v
      by below state.Empty at = absurd (empty_gone (stamp_at w.desk h) v
          (sym (empty_now w.desk w.far s h k.shows k.sound below at) ∙ e))
      by below state.Far at = let f = far_now h below at in
          let z = gone_at h v (stamp_at w.desk h) (len_of (word_at w.desk h)) f.0 (is_gone w.far h) refl
          (sym f.1 ∙ e) in (at, z.0, z.1)
      by below state.Here at = near below (here_near (word_at w.desk h) at)
      by below state.Moving at = near below (moving_near (word_at w.desk h) at)

  pub are_gone : AreGone w s
  are_gone = record {
    lost = λ h v e. lost_by h v e (claim_on w.seats h) refl;
    told = λ h v lost. in_words w s h (not_claimed w.desk w.far w.seats h ongoing
        (λ moving. far_moving (sym lost.0 ∙ moving)))
        ∙ (let f = far_now h (within h lost.0) lost.0 in f.1
        ∙ ap (λ (b : Bool). now_as s h b
        (is.Far (len_of (word_at w.desk h)) (stamp_at w.desk h) f.0)) lost.1)
        ∙ ap gone lost.2;
  }
    where
      far_moving : state.Far ≡ state.Moving → ⊥
      far_moving e = cc

      empty_far : state.Empty ≡ state.Far → ⊥
      empty_far e = cc

      within : (h : ℕ) → state_of (word_at w.desk h) ≡ state.Far → h < length w.desk.words
      within h at = elim (cases_lt h (length w.desk.words)) [
        | inl below ↦ below
        | inr past ↦ absurd (empty_far
            (sym (ap state_of (get_or_past w.desk.words h 0 past)) ∙ at))
      ]

      lost_by : (h v : ℕ) → now_in w s h ≡ gone v → (o : Option OpenWriteState)
          → claim_on w.seats h ≡ o → IsLostAt w h v
      lost_by h v e None f = words_gone h v (sym (in_words w s h f) ∙ e)
      lost_by h v e (Some c) f = absurd (held_gone c.version v (bytes_in c.words c.len)
          (sym (in_write w s h c f) ∙ e))
