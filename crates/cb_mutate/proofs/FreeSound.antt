-- The world after a free.
use Rattle.std.proofs.Common.{◌≡◌, ◌≢◌, ℕ, zero, suc, Bool, false, ◌+◌, ◌<◌, List, ◌++◌, length, set, sym, refl, ap, ◌∙◌, subst, arith, inl, inr}
use Rattle.std.proofs.lemmas.List.{set-set}
use Rattle.cb_ptr.specs.declared.word.State.{State}
use Rattle.cb_ptr.specs.declared.word.State.TheVariants as state
use Rattle.cb_ptr.specs.Word.{len_of, place_of, pins_of}
use Rattle.cb_types.specs.declared.reply.Reply.{Reply}
use Rattle.cb_types.specs.declared.reply.Reply.TheVariants as answer
use Rattle.cb_world.specs.declared.object.Object.TheVariants as is
use Rattle.cb_world.specs.declared.access.Access.{Access}
use Rattle.cb_world.specs.declared.shown.Shown.{Shown}
use Rattle.cb_world.specs.Shown.{object_at}
use Rattle.cb_world.specs.Played.{played}
use Rattle.cb_world.specs.Looks.{IsTaken}
use Rattle.cb_world.specs.Grasped.{IsFree}
use Rattle.cb_world.specs.Reads.{AreReads}
use Rattle.cb_world.specs.Still.{IsStill}
use Rattle.cb_world.specs.FarState.{FarState}
use Rattle.cb_world.specs.LocalSound.{HasSlot}
use Rattle.cb_world.specs.Sound.{Sound}
use Rattle.cb_world.specs.Released.{IsSlotAt, with_released}
use Rattle.cb_world.proofs.Laws.{length_put, claimed_from, slot_lies, lies, IsAfterClaim, taken_before, put_beside, sound_gone}
use Rattle.cb_mutate.specs.Answered.{EmptyAnswer, AnsweredAs}
use Rattle.cb_mutate.specs.FreeRule.{FreeAs, FreeHere, FreeFar, FreeEffect, IsGone, LeavesPlace}
use Rattle.cb_mutate.specs.FreeEnds.{with_emptied, IsEmptied, FreeEnds}
use Rattle.cb_mutate.proofs.WriteSound.{back_well, claimed_words, absent_before, no_taken}

-- the slot of an object that is here
pub slot_here : (far : FarState) (s : Shown) (h len place : ℕ) → Sound s far
    → object_at s h ≡ is.Here len place → HasSlot far.spans h len place
slot_here far s h len place sound here =
    sound.here.placed.placed h len place (lies s h len place here)

pub slot_at : (far : FarState) (s : Shown) (h len place : ℕ) → Sound s far
    → (c : HasSlot far.spans h len place)
    → IsSlotAt far.frames far.spans place c.frame c.slot c.span
slot_at far s h len place sound c = slot_lies far h len place sound.here.frames c

-- What holds after a free that began with a claim.
pub record IsFreeDone (far new : FarState) (s t : Shown) (es : List Access) (h w : ℕ) (r : Reply)
    : Type 0 where
  pub sound : Sound t new
  pub effect : FreeEffect h r es s t
  pub rule : FreeHere h es r w
  pub state : FreeFar w h r far new

emptied_well : (far new : FarState) (s t : Shown) (first done : List Access) (h w v : ℕ)
    (words : List ℕ) → Sound s far → (c : HasSlot far.spans h (len_of w) (place_of w))
    → IsAfterClaim s h w v words first done → IsTaken h v words (first ++ done)
    → h < length s.objects → h < length s.versions
    → IsEmptied (played first s) h v words done t
    → new ≡ with_released far c.frame c.slot c.span
    → Sound t new × IsGone h (v + 1) (first ++ done) s t
emptied_well far new s t first done h w v words sound c a taken range stamp x left =
    let u = with_emptied (claimed_from s a.hots h w v words) h v in
    let all : t ≡ u = x.settled ∙ ap (λ (q : Shown). with_emptied q h v) a.at_claim in
    let count = claimed_words (played first s) h w v words a.claimed in
    let objects : u.objects ≡ set s.objects h (is.Empty (v + 1)) =
    set-set s.objects h (is.Claimed (len_of w) (place_of w) v words) (is.Empty (v + 1)) in
    let versions : u.versions ≡ set s.versions h (v + 1) = set-set s.versions h v (v + 1) in
    subst (λ (q : Shown). Sound q new × IsGone h (v + 1) (first ++ done) s q) (sym all) (
      subst (Sound u) (sym left)
          (sound_gone far s u h (len_of w) (place_of w) v c sound a.here range stamp (omega (arith, a.newer))
          (record {
            first = refl;
            objects = objects;
            versions = versions;
            memory = length_put s.memory (place_of w) words;
          })
          (put_beside s.memory words (place_of w) (len_of w) count)),
      record {
        version = v;
        words = words;
        last = inl taken;
        next = refl;
        objects = objects;
        hots = ap (λ (l : List Bool). set l h false) (sym a.told_hots);
        versions = ap (λ (l : List ℕ). set l h (v + 1)) (sym a.versions);
        memory = sym a.memory;
        one = λ old. a.writes old ∙ x.one old;
      },
    )

pub free_done : (far new : FarState) (s t : Shown) (first done : List Access) (h w v : ℕ)
    (words : List ℕ) (r : Reply) → Sound s far → (c : HasSlot far.spans h (len_of w) (place_of w))
    → IsAfterClaim s h w v words first done → IsFree w → IsTaken h v words (first ++ done)
    → h < length s.objects → h < length s.versions
    → (r ≡ answer.Worn → new ≡ far)
    → ((n : ℕ) → r ≡ answer.Version n → new ≡ with_released far c.frame c.slot c.span)
    → FreeEnds h w r done (played first s) v words t
    → IsFreeDone far new s t (first ++ done) h w r
free_done far new s t first done h w v words r sound c a free taken range stamp stays left
    (inl x) =
    let y = back_well far s t first done h w v words sound a x.2 in
    let same = stays x.1 in record {
      sound = subst (Sound t) (sym same) y.0;
      effect = subst (λ (q : Reply). FreeEffect h q (first ++ done) s t) (sym x.1) y.1;
      rule = inr (free.1, (v, words, taken, inl (x.0, x.1)));
      state = subst (λ (q : Reply). FreeFar w h q far new) (sym x.1) same;
    }
free_done far new s t first done h w v words r sound c a free taken range stamp stays left
    (inr x) =
    let gone = left (v + 1) x.1 in
    let y = emptied_well far new s t first done h w v words sound c a taken range stamp x.2 gone in
    record {
      sound = y.0;
      effect = subst (λ (q : Reply). FreeEffect h q (first ++ done) s t) (sym x.1) y.1;
      rule = inr (free.1, (v, words, taken, inr (x.0, x.1)));
      state = subst (λ (q : Reply). FreeFar w h q far new) (sym x.1)
          (subst (λ (q : State). LeavesPlace q far new h) (sym free.0) (record {
            frame = c.frame;
            slot = c.slot;
            span = c.span;
            there = c.there;
            named = c.named;
            left = gone;
          }));
    }

free_here_before : (h w : ℕ) (es fs : List Access) (r : Reply) → FreeHere h fs r w
    → FreeHere h (es ++ fs) r w
free_here_before h w es fs r (inl a) = inl a
free_here_before h w es fs r (inr a) =
    inr (a.0, (a.1.0, a.1.1, taken_before h a.1.0 a.1.1 es fs a.1.2, a.1.3))

-- a refusal is by what was told after the look too
pub free_before : (q : State) (h w : ℕ) (es fs : List Access) (r : Reply) → q ≢ state.Far
    → AnsweredAs q (FreeHere h fs r) w h fs r → FreeAs q w h (es ++ fs) r
free_before state.Here h w es fs r near a = free_here_before h w es fs r a
free_before state.Empty h w es fs r near a = absent_before state.Empty h es fs r a
free_before state.Far h w es fs r near a = absurd (near refl)
free_before state.Moving h w es fs r near a = a

-- A free that found no free word changes nothing.
pub record IsFreeRefused (h w : ℕ) (far : FarState) (es : List Access) (s t : Shown) (r : Reply)
    : Type 0 where
  pub effect : FreeEffect h r es s t
  pub state : FreeFar w h r far far

refused_by : (h w : ℕ) (far : FarState) (es : List Access) (s t : Shown) (r q : Reply) → r ≡ q
    → FreeEffect h q es s t → FreeFar w h q far far → IsFreeRefused h w far es s t r
refused_by h w far es s t r q e effect state = record {
  effect = subst (λ (z : Reply). FreeEffect h z es s t) (sym e) effect;
  state = subst (λ (z : Reply). FreeFar w h z far far) (sym e) state;
}

empty_refused : (v h w : ℕ) (far : FarState) (es : List Access) (s t : Shown) (r : Reply)
    → EmptyAnswer v r → IsStill es s t → IsFreeRefused h w far es s t r
empty_refused zero h w far es s t r e still =
    refused_by h w far es s t r answer.Unmade e still refl
empty_refused (suc v) h w far es s t r e still =
    refused_by h w far es s t r answer.Freed e still refl

pub free_refused : (q : State) (h w : ℕ) (far : FarState) (reads es : List Access) (s t : Shown)
    (r : Reply) → q ≢ state.Far → AreReads h reads
    → AnsweredAs q (FreeHere h reads r) w h reads r → IsStill es s t
    → IsFreeRefused h w far es s t r
free_refused state.Empty h w far reads es s t r near told a still =
    empty_refused a.0 h w far es s t r a.2 still
free_refused state.Far h w far reads es s t r near told a still = absurd (near refl)
free_refused state.Moving h w far reads es s t r near told a still =
    refused_by h w far es s t r answer.Moving a still refl
free_refused state.Here h w far reads es s t r near told (inl a) still =
    refused_by h w far es s t r (answer.Pinned (pins_of w)) a.1 still refl
free_refused state.Here h w far reads es s t r near told (inr a) still =
    absurd (no_taken h a.1.0 a.1.1 reads told a.1.2)
