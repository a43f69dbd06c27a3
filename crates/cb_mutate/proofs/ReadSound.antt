-- The world after a read.
use Rattle.std.proofs.Common.{◌≡◌, ℕ, zero, suc, Bool, true, ◌+◌, List, [], ◌∷◌, ◌++◌, length, set, slice_index, sym, refl, ap, ◌∙◌, subst, arith, inl, inr, get_or-set_other}
use Rattle.cb_ptr.specs.declared.word.State.{State}
use Rattle.cb_ptr.specs.declared.word.State.TheVariants as state
use Rattle.cb_ptr.specs.Word.{state_of, len_of, place_of}
use Rattle.cb_ptr.proofs.Laws.{here_bits}
use Rattle.cb_types.specs.declared.reply.Reply.{Reply}
use Rattle.cb_world.specs.declared.object.Object.{Object}
use Rattle.cb_world.specs.declared.object.Object.TheVariants as is
use Rattle.cb_world.specs.declared.access.Access.{Access}
use Rattle.cb_world.specs.declared.access.Access.TheVariants.{Looked, Loaded}
use Rattle.cb_world.specs.declared.shown.Shown.{Shown}
use Rattle.cb_world.specs.Shown.{Fits, object_at}
use Rattle.cb_world.specs.Played.{Agree, Agrees, played}
use Rattle.cb_world.specs.Looks.{IsFound, IsTaken, AreLooks}
use Rattle.cb_world.specs.Grasped.{IsFree}
use Rattle.cb_world.specs.Still.{IsStill}
use Rattle.cb_world.specs.FarState.{FarState}
use Rattle.cb_world.specs.Sound.{Sound}
use Rattle.cb_world.specs.Claimed.{with_settled}
use Rattle.cb_world.proofs.Laws.{length_put, agree_last, looks_played, claimed_from, lies_within, lies, IsAfterClaim, look_after, told_before, taken_before, sound_beside, put_beside}
use Rattle.cb_mutate.specs.Answered.{EmptyAnswer, AnsweredAs}
use Rattle.cb_mutate.specs.ReadRule.{IsLoaded, ReadHere, ReadEffect, IsShown}
use Rattle.cb_mutate.specs.ReadEnds.{ReadEnds, LiesInMemory}
use Rattle.cb_mutate.proofs.WriteSound.{objects_back, claimed_words, claimed_version, absent_before}

-- a claimed object that is settled hot is what it was
hot_well : (far : FarState) (s t : Shown) (first done : List Access) (h w v : ℕ) (words : List ℕ)
    (r : Reply) → Sound s far → IsAfterClaim s h w v words first done
    → IsFree w → IsFound h w (first ++ done) → ReadEnds h w r done (played first s) v words t
    → Sound t far × IsShown h (first ++ done) s t
hot_well far s t first done h w v words r sound a free found x =
    let u = with_settled (claimed_from s a.hots h w v words) h w true in
    let all : t ≡ u = x.settled ∙ ap (λ (q : Shown). with_settled q h w true) a.at_claim in
    let objects = objects_back s a.hots h w v words true a.here in
    let count = claimed_words (played first s) h w v words a.claimed in
    subst (λ (q : Shown). Sound q far × IsShown h (first ++ done) s q) (sym all) (
      sound_beside far s u h (len_of w) (place_of w) sound a.here refl objects
          (length_put s.memory (place_of w) words)
          (λ k other. get_or-set_other s.versions h k v 0 other)
          (claimed_version s (played first s) a.hots h w v words a.newer a.at_claim a.claimed)
          (put_beside s.memory words (place_of w) (len_of w) count),
      record {
        word = w;
        found = found;
        hot = λ none. ap (λ (l : List Bool). set l h true) (sym a.told_hots);
        pinned = λ some. absurd (omega (arith, some, free.1));
        objects = objects;
        versions = sym a.versions;
        memory = sym a.memory;
        nothing = λ old. a.writes old ∙ x.nothing old;
      },
    )

-- What holds after a read that began with a claim.
pub record IsReadDone (far : FarState) (s t : Shown) (es : List Access) (h w : ℕ) (r : Reply)
    : Type 0 where
  pub sound : Sound t far
  pub effect : ReadEffect h r es s t
  pub rule : ReadHere h es r w

pub read_done : (far : FarState) (s t : Shown) (first done : List Access) (h w v : ℕ)
    (words : List ℕ) (r : Reply) → Sound s far → IsAfterClaim s h w v words first done → IsFree w
    → IsFound h w (first ++ done) → IsTaken h v words (first ++ done)
    → ReadEnds h w r done (played first s) v words t
    → IsReadDone far s t (first ++ done) h w r
read_done far s t first done h w v words r sound a free found taken x =
    let y = hot_well far s t first done h w v words r sound a free found x in record {
      sound = y.0;
      effect = subst (λ (q : Reply). ReadEffect h q (first ++ done) s t) (sym x.shown) y.1;
      rule = inl (free.1, (v, words, taken, x.shown));
    }

loaded_later : (p x : ℕ) (es fs : List Access) → IsLoaded p x fs → IsLoaded p x (es ++ fs)
loaded_later p x [] fs a = a
loaded_later p x (Loaded q y ∷ es) fs a = inl (loaded_later p x es fs a)
loaded_later p x (e ∷ es) fs a = loaded_later p x es fs a

-- what is seen of a word that is not free is by what was told after the look too
pub read_before : (q : State) (h w : ℕ) (es fs : List Access) (r : Reply)
    → AnsweredAs q (ReadHere h fs r) w h fs r
    → AnsweredAs q (ReadHere h (es ++ fs) r) w h (es ++ fs) r
read_before state.Empty h w es fs r a = absent_before state.Empty h es fs r a
read_before state.Far h w es fs r a = a
read_before state.Moving h w es fs r a = a
read_before state.Here h w es fs r (inl a) =
    inl (a.0, (a.1.0, a.1.1, taken_before h a.1.0 a.1.1 es fs a.1.2, a.1.3))
read_before state.Here h w es fs r (inr a) = inr (
  a.0,
  (
    a.1.0,
    a.1.1,
    told_before h a.1.0 es fs a.1.2,
    a.1.3,
    (λ i below. loaded_later (place_of w + i) (slice_index a.1.1 i) es fs (a.1.4 i below)),
    a.1.5,
  ),
)

read_empty : (v h : ℕ) (es : List Access) (s t : Shown) (r : Reply) → EmptyAnswer v r
    → IsStill es s t → ReadEffect h r es s t
read_empty zero h es s t r e still = subst (λ (q : Reply). ReadEffect h q es s t) (sym e) still
read_empty (suc v) h es s t r e still = subst (λ (q : Reply). ReadEffect h q es s t) (sym e) still

-- a read that found no free word changes nothing
pub left_effect : (q : State) (h w : ℕ) (reads es : List Access) (s t : Shown) (r : Reply)
    → state_of w ≡ q → (IsFree w → ⊥) → IsFound h w es
    → AnsweredAs q (ReadHere h reads r) w h reads r → IsStill es s t → ReadEffect h r es s t
left_effect state.Empty h w reads es s t r e busy found a still = read_empty a.0 h es s t r a.2 still
left_effect state.Far h w reads es s t r e busy found a still =
    subst (λ (q : Reply). ReadEffect h q es s t) (sym a) still
left_effect state.Moving h w reads es s t r e busy found a still =
    subst (λ (q : Reply). ReadEffect h q es s t) (sym a) still
left_effect state.Here h w reads es s t r e busy found (inl a) still = absurd (busy (e, a.0))
left_effect state.Here h w reads es s t r e busy found (inr a) still =
    subst (λ (q : Reply). ReadEffect h q es s t) (sym a.1.5) (record {
      word = w;
      found = found;
      hot = λ none. absurd (busy (e, none));
      pinned = λ some. still.hots;
      objects = still.objects;
      versions = still.versions;
      memory = still.memory;
      nothing = still.nothing;
    })

empty_here : state.Empty ≡ state.Here → ⊥
empty_here e = cc

moving_here : state.Moving ≡ state.Here → ⊥
moving_here e = cc

-- an object whose word was found here is here
pub fits_here : (o : Object) (w : ℕ) → Fits o w → state_of w ≡ state.Here
    → o ≡ is.Here (len_of w) (place_of w)
fits_here (is.Empty v) w f e = absurd (empty_here (ap state_of (sym f) ∙ e))
fits_here (is.Far len v words) w f e =
    let bits = here_bits w e in absurd (omega (arith, f.0, bits))
fits_here (is.Here len place) w f e = λ i. is.Here (sym f.1 i) (sym f.2 i)
fits_here (is.Claimed len place v words) w f e = absurd (moving_here (sym f.4 ∙ e))

-- a word that was seen here names words of the memory
pub seen_within : (far : FarState) (s : Shown) (before : List Access) (h w size : ℕ) → Sound s far
    → AreLooks h before → Agree s (look_after before h w) → state_of w ≡ state.Here
    → length s.memory ≡ size → LiesInMemory w size
seen_within far s before h w size sound looks agree here sized =
    let p = looks_played h before s looks in
    let a : Agrees (record s { hots = p.0 }) (Looked h w) =
    subst (λ (t : Shown). Agrees t (Looked h w)) p.2 (agree_last before (Looked h w ∷ []) s agree).0
    in
    let object : object_at s h ≡ is.Here (len_of w) (place_of w) =
    fits_here (object_at s h) w a.0 here in
    let x = lies_within far s h (len_of w) (place_of w) sound.here
    (lies s h (len_of w) (place_of w) object) in record {
      short = x.1;
      inside = omega (arith, x.0, sized);
    }
