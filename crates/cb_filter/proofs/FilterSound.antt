-- The world after a filter.
use Rattle.std.proofs.Common.{◌≡◌, ℕ, zero, suc, Bool, false, ◌<◌, List, ◌++◌, length, set, sym, refl, ap, ◌∙◌, subst, arith, inl, inr, get_or-set_other}
use Rattle.std.proofs.lemmas.List.{set-set}
use Rattle.cb_ptr.specs.declared.word.State.{State}
use Rattle.cb_ptr.specs.declared.word.State.TheVariants as state
use Rattle.cb_ptr.specs.Word.{hot_of, len_of, place_of, pins_of}
use Rattle.cb_span.specs.declared.temp.Temp.{Temp}
use Rattle.cb_span.specs.Contents.{Contents}
use Rattle.cb_types.specs.declared.reply.Reply.{Reply}
use Rattle.cb_types.specs.declared.reply.Reply.TheVariants as answer
use Rattle.cb_world.specs.declared.object.Object.TheVariants as is
use Rattle.cb_world.specs.declared.access.Access.{Access}
use Rattle.cb_world.specs.declared.shown.Shown.{Shown}
use Rattle.cb_world.specs.Memory.{window, put, words_for}
use Rattle.cb_world.specs.Shown.{never}
use Rattle.cb_world.specs.Played.{played}
use Rattle.cb_world.specs.Looks.{IsFound, IsTaken, told_by}
use Rattle.cb_world.specs.Grasped.{IsFree}
use Rattle.cb_world.specs.Still.{IsStill}
use Rattle.cb_world.specs.FarState.{FarState}
use Rattle.cb_world.specs.LocalSound.{HasSlot}
use Rattle.cb_world.specs.Now.{is_gone, now}
use Rattle.cb_world.specs.Sound.{Sound}
use Rattle.cb_world.specs.Placed.{Slot, IsChosen, place_in}
use Rattle.cb_world.proofs.Laws.{window_put, length_put, claimed_from, IsAfterClaim, told_before}
use Rattle.cb_filter.specs.Seats.{Seat, IsSeatOf, temp_for}
use Rattle.cb_filter.specs.FilterRule.{EmptyToFilter, GetsSlot, FilterHere, FilterAs, NeedsMemory}
use Rattle.cb_filter.specs.FilterEffect.{FilterEffect}
use Rattle.cb_filter.specs.Refused.{RefusedAs}
use Rattle.cb_filter.specs.Plans.{Wants}
use Rattle.cb_filter.specs.Copies.{IsVacant}
use Rattle.cb_filter.specs.ClaimEnds.{IsKnownAt, IsCarried, with_carried, SeatEnds}
use Rattle.cb_filter.proofs.Berths.{one_span}
use Rattle.cb_filter.proofs.Moved.{IsReadyToMove, seat_of, seat_lies, vacant_at, sound_moved}
use Rattle.cb_filter.proofs.Settled.{claimed_words, told_objects, settled_well, back_now, is_cooled, is_still, still_now, moved_now}

-- What holds where a filter begins with a claim.
pub record IsFilterBegun (far : FarState) (s : Shown) (first done : List Access) (h w v : ℕ)
    (words : List ℕ) : Type 0 where
  pub sound : Sound s far
  pub claim : IsAfterClaim s h w v words first done
  pub free : IsFree w
  pub found : IsFound h w (first ++ done)
  pub taken : IsTaken h v words (first ++ done)
  pub range : h < length s.objects
  pub stamp : h < length s.versions
  pub c : HasSlot far.spans h (len_of w) (place_of w)

-- What holds after it.
pub record IsFilterDone (frames : ℕ) (far new : FarState) (s t : Shown) (es : List Access) (h w : ℕ)
    (r : Reply) : Type 0 where
  pub sound : Sound t new
  pub effect : FilterEffect h far new r es s t
  pub rule : FilterHere frames h w far new r es

module _ (far : FarState) (s : Shown) (first done : List Access) (h w v : ℕ) (words : List ℕ)
    (b : IsFilterBegun far s first done h w v words) where
  abbrev es : List Access
  es = first ++ done

  abbrev pub seat : Seat
  seat = seat_of far.spans h (len_of w) (place_of w) b.c

  count : length words ≡ words_for (len_of w)
  count = claimed_words (played first s) h w v words b.claim.claimed

  stands : IsSeatOf far h seat
  stands = record { there = b.c.there; named = b.c.named }

  abbrev ready : (slot : Slot) (r : Reply) (new : FarState)
      → GetsSlot far new (temp_for (hot_of w)) seat h slot r
      → IsReadyToMove s far h (len_of w) (place_of w) (temp_for (hot_of w)) slot
  ready slot r new x = record {
    sound = b.sound;
    here = b.claim.here;
    range = b.range;
    stamp = b.stamp;
    c = b.c;
    other = x.other;
    chosen = x.chosen;
  }

  -- the object moves
  moved_done : (frames : ℕ) (new : FarState) (t : Shown) (slot : Slot) (r : Reply)
      → GetsSlot far new (temp_for (hot_of w)) seat h slot r
      → IsCarried (played first s) h w (place_in slot) words done t
      → IsFilterDone frames far new s t es h w r
  moved_done frames new t slot r x moved =
      let to = place_in slot in
      let temp = temp_for (hot_of w) in
      let go = ready slot r new x in
      let u = with_carried (claimed_from s b.claim.hots h w v words) h w to words in
      let all : t ≡ u = moved.settled
      ∙ ap (λ (q : Shown). with_carried q h w to words) b.claim.at_claim in
      let objects : u.objects ≡ set s.objects h (is.Here (len_of w) to) =
      set-set s.objects h (is.Claimed (len_of w) (place_of w) v words) (is.Here (len_of w) to) in
      let vacant = vacant_at s far h (len_of w) (place_of w) temp slot go v words s count
      b.claim.newer (λ k off. refl) refl in
      let within = vacant.0 in
      let memory = b.claim.memory in
      let place_within = b.claim.claimed.within in
      let at_claim = ap (λ (q : Shown). length q.memory) b.claim.at_claim in
      let q = told_by es s in
      subst (λ (z : Shown). IsFilterDone frames far new s z es h w r) (sym all) (record {
        sound = subst (Sound u) (sym x.state)
            (sound_moved s far h (len_of w) (place_of w) temp slot go u v words count
            b.claim.newer refl objects refl refl);
        effect = subst (λ (z : Reply). FilterEffect h far new z es s u) (sym x.reply) (record {
          change = record {
            word = w;
            version = v;
            words = words;
            seat = seat;
            slot = slot;
            found = b.found;
            taken = b.taken;
            stood = stands;
            other = x.other;
            chosen = x.chosen;
            state = x.state;
            objects = objects;
            hots = ap (λ (l : List Bool). set l h false) (sym b.claim.told_hots);
            versions = sym b.claim.versions;
            memory = ap (λ (l : List ℕ). put l to words) (sym memory);
            nothing = λ old. b.claim.writes old ∙ moved.nothing old;
          };
          same_now = λ k. moved_now s q u far new h (len_of w) (place_of w) to words k (record {
            here = b.claim.here;
            range = b.range;
            told = told_objects es s;
            objects = objects;
            versions = sym b.claim.versions;
            memory = ap (λ (l : List ℕ). put l to words) (sym memory);
            contents = ap (λ (l : List ℕ). window l (place_of w) (words_for (len_of w))) memory
                ∙ ap (window (put s.memory (place_of w) words) (place_of w)) (sym count)
                ∙ window_put s.memory (place_of w) words (omega (
                  arith,
                  count,
                  place_within,
                  at_claim,
                  length_put s.memory (place_of w) words,
                ));
            count = count;
            within = omega (
              arith,
              within,
              ap length memory,
              length_put s.memory (place_of w) words,
            );
            alone = λ p k covers off. (vacant.1 p covers).1 k off;
          }) (ap (λ (n : FarState). is_gone n k) x.state);
        });
        rule = inr ((b.free.1, (v, words, b.taken)), (seat, stands, inr (inr (slot, x))));
      })

  pub filter_done : (frames : ℕ) (new : FarState) (t : Shown) (r : Reply)
      → SeatEnds frames far new h w seat r done (played first s) t words
      → IsFilterDone frames far new s t es h w r
  filter_done frames new t r (inl x) =
      let y = settled_well far s t first done h w v words false b.sound b.claim x.1 in record {
        sound = subst (Sound t) (sym x.0.state) y.sound;
        effect = subst (λ (z : Reply). FilterEffect h far new z es s t) (sym x.0.reply) (record {
          change = is_cooled far s t es h y;
          same_now = λ k. ap (λ (n : FarState). now t n k) x.0.state
              ∙ back_now far s t es h k _ y;
        });
        rule = inr ((b.free.1, (v, words, b.taken)), (seat, stands, inl x.0));
      }
  filter_done frames new t r (inr (inl x)) =
      let y = settled_well far s t first done h w v words (hot_of w) b.sound b.claim x.1 in record {
        sound = subst (Sound t) (sym x.0.state) y.sound;
        effect = subst (λ (z : Reply). FilterEffect h far new z es s t) (sym x.0.reply) (record {
          change = is_still far s t first done h w v words b.claim y;
          same_now = λ k. ap (λ (n : FarState). now t n k) x.0.state
              ∙ back_now far s t es h k _ y;
        });
        rule = inr ((b.free.1, (v, words, b.taken)), (seat, stands, inr (inl x.0)));
      }
  filter_done frames new t r (inr (inr (slot, x, moved))) =
      moved_done frames new t slot r x moved

  -- there was no memory for a new span
  pub no_memory : (new : FarState) → Wants far (temp_for (hot_of w)) seat → new ≡ far
      → NeedsMemory h far new es
  no_memory new wants same = record {
    word = w;
    found = b.found;
    claimed = (b.free.1, (v, words, b.taken));
    seat = seat;
    stands = stands;
    other = wants.0;
    needs = wants.1;
    state = same;
  }

-- the claimed object may lie in each slot that it could get
pub known_at : (far : FarState) (s : Shown) (first done : List Access) (h w v : ℕ) (words : List ℕ)
    → IsFilterBegun far s first done h w v words → IsKnownAt (played first s) far h w v words
known_at far s first done h w v words b = record {
  claimed = b.claim.claimed;
  vacant = λ other slot at warm chosen.
      let same = one_span far (place_of w) other mine at
      (seat_lies far s h (len_of w) (place_of w) b.sound b.c) in
      let go : IsReadyToMove s far h (len_of w) (place_of w) temp slot = record {
        sound = b.sound;
        here = b.claim.here;
        range = b.range;
        stamp = b.stamp;
        c = b.c;
        other = λ e. warm (ap (λ (y : Contents). y.temp) same ∙ e);
        chosen = subst (λ (y : Contents). IsChosen far y.class temp slot) same chosen;
      } in
      let x = vacant_at s far h (len_of w) (place_of w) temp slot go v words t
      (claimed_words (played first s) h w v words b.claim.claimed) b.claim.newer
      (λ k off. get_or-set_other s.objects h k (is.Claimed (len_of w) (place_of w) v words) never
      off) (length_put s.memory (place_of w) words) in
      subst (λ (q : Shown). IsVacant q h w (place_in slot)) (sym b.claim.at_claim)
      (record { within = x.0; alone = x.1; apart = x.2 });
}
  where
    temp : Temp
    temp = temp_for (hot_of w)

    mine : Seat
    mine = seat_of far.spans h (len_of w) (place_of w) b.c

    t : Shown
    t = claimed_from s b.claim.hots h w v words

-- a filter that found no free word changes nothing
still_effect : (h : ℕ) (far : FarState) (es : List Access) (s t : Shown) (r q : Reply) → r ≡ q
    → FilterEffect h far far q es s t → FilterEffect h far far r es s t
still_effect h far es s t r q e x =
    subst (λ (z : Reply). FilterEffect h far far z es s t) (sym e) x

empty_effect : (v h : ℕ) (far : FarState) (es : List Access) (s t : Shown) (r : Reply)
    → EmptyToFilter v r → IsStill es s t → FilterEffect h far far r es s t
empty_effect zero h far es s t r e x = still_effect h far es s t r answer.Unmade e (record {
  change = x;
  same_now = λ k. still_now far s t es k x;
})
empty_effect (suc v) h far es s t r e x = still_effect h far es s t r answer.NotHere e (record {
  change = x;
  same_now = λ k. still_now far s t es k x;
})

pub refused_effect : (q : State) (h w : ℕ) (far : FarState) (reads es : List Access) (s t : Shown)
    (r : Reply) → RefusedAs q h w reads r → IsStill es s t → FilterEffect h far far r es s t
refused_effect state.Empty h w far reads es s t r a x = empty_effect a.0 h far es s t r a.2 x
refused_effect state.Far h w far reads es s t r a x =
    still_effect h far es s t r answer.NotHere a (record {
      change = x;
      same_now = λ k. still_now far s t es k x;
    })
refused_effect state.Here h w far reads es s t r a x =
    still_effect h far es s t r (answer.Pinned (pins_of w)) a.1 (record {
      change = x;
      same_now = λ k. still_now far s t es k x;
    })
refused_effect state.Moving h w far reads es s t r a x =
    still_effect h far es s t r answer.Moving a (record {
      change = x;
      same_now = λ k. still_now far s t es k x;
    })

pub refused_rule : (q : State) (frames h w : ℕ) (far : FarState) (first reads : List Access)
    (r : Reply) → RefusedAs q h w reads r → FilterAs q frames h w far far r (first ++ reads)
refused_rule state.Empty frames h w far first reads r a =
    ((a.0, told_before h a.0 first reads a.1, a.2), refl)
refused_rule state.Far frames h w far first reads r a = (a, refl)
refused_rule state.Here frames h w far first reads r a = inl (a.0, a.1, refl)
refused_rule state.Moving frames h w far first reads r a = (a, refl)
