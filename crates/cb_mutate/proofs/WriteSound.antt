-- The world after a write.
use Rattle.std.proofs.Common.{◌≡◌, ◌⊎◌, ℕ, zero, suc, Bool, true, ◌+◌, ◌-◌, ◌^◌, ◌<◌, ◌≤◌, List, [], ◌∷◌, ◌++◌, length, get_or, set, sym, refl, ap, ◌∙◌, subst, arith, inl, inr, get_or-set_other, get_or-set_same}
use Rattle.std.proofs.lemmas.List.{set-set}
use Rattle.cb_ptr.specs.declared.word.State.{State}
use Rattle.cb_ptr.specs.declared.word.State.TheVariants as state
use Rattle.cb_ptr.specs.Word.{hot_of, len_of, place_of, pins_of}
use Rattle.cb_types.specs.declared.reply.Reply.{Reply}
use Rattle.cb_types.specs.declared.reply.Reply.TheVariants as answer
use Rattle.cb_world.specs.declared.object.Object.TheVariants as is
use Rattle.cb_world.specs.declared.access.Access.{Access}
use Rattle.cb_world.specs.declared.access.Access.TheVariants.{Told, Loaded}
use Rattle.cb_world.specs.Reads.{AreReads}
use Rattle.cb_world.specs.declared.shown.Shown.{Shown}
use Rattle.cb_world.specs.Memory.{put, words_for}
use Rattle.cb_world.specs.Shown.{object_at, version_at}
use Rattle.cb_world.specs.Played.{played}
use Rattle.cb_world.specs.Looks.{IsFound, IsTaken}
use Rattle.cb_world.specs.Grasped.{IsFree}
use Rattle.cb_world.specs.Still.{IsStill}
use Rattle.cb_world.specs.FarState.{FarState}
use Rattle.cb_world.specs.Sound.{Sound}
use Rattle.cb_world.specs.Claimed.{IsClaimedAt, with_settled}
use Rattle.cb_world.proofs.Laws.{length_put, claimed_from, set_back, IsAfterClaim, told_before, taken_before, sound_beside, put_beside, put_twice_beside}
use Rattle.cb_world.specs.StillDesk.{window_length}
use Rattle.cb_mutate.specs.Answered.{EmptyAnswer, AbsentAs, AnsweredAs}
use Rattle.cb_mutate.specs.WriteRule.{NextVersion, WriteHere, IsWritten, WriteEffect}
use Rattle.cb_mutate.specs.WriteEnds.{IsBack, IsRewritten, with_rewritten, WriteEnds}

-- an object that is settled where it was is what it was
pub objects_back : (s : Shown) (hots : List Bool) (h w v : ℕ) (words : List ℕ) (hot : Bool)
    → object_at s h ≡ is.Here (len_of w) (place_of w)
    → (with_settled (claimed_from s hots h w v words) h w hot).objects ≡ s.objects
objects_back s hots h w v words hot here =
    set_back s.objects h (is.Claimed (len_of w) (place_of w) v words) (len_of w) (place_of w) here

-- how many words the claimed object has
pub claimed_words : (t : Shown) (h w v : ℕ) (words : List ℕ) → IsClaimedAt t h w v words
    → length words ≡ words_for (len_of w)
claimed_words t h w v words c =
    ap length (sym c.contents) ∙ window_length _ (place_of w) (words_for (len_of w))

-- the version that a claim told is none below the one that was known
pub claimed_version : (s t : Shown) (hots : List Bool) (h w v : ℕ) (words : List ℕ)
    → version_at s h ≤ v → t ≡ claimed_from s hots h w v words → IsClaimedAt t h w v words
    → version_at s h ≤ version_at (claimed_from s hots h w v words) h
claimed_version s t hots h w v words newer same c =
    let told = sym (ap (λ (q : Shown). version_at q h) same) ∙ c.version in
    omega (arith, newer, told)

next_version : (s t : Shown) (hots : List Bool) (h w v : ℕ) (words : List ℕ)
    → version_at s h ≤ v → t ≡ claimed_from s hots h w v words → IsClaimedAt t h w v words
    → version_at s h ≤ get_or (set (set s.versions h v) h (v + 1)) h 0
next_version s t hots h w v words newer same c =
    let stamp : h < length (set s.versions h v) =
    subst (λ (q : Shown). h < length q.versions) same c.stamp in
    let now = get_or-set_same (set s.versions h v) h (v + 1) 0 stamp in omega (arith, newer, now)

-- a claim that is given back changes nothing
pub back_well : (far : FarState) (s t : Shown) (first done : List Access) (h w v : ℕ)
    (words : List ℕ) → Sound s far → IsAfterClaim s h w v words first done
    → IsBack (played first s) h w done t → Sound t far × IsStill (first ++ done) s t
back_well far s t first done h w v words sound a back =
    let u = with_settled (claimed_from s a.hots h w v words) h w (hot_of w) in
    let all : t ≡ u = back.settled ∙ ap (λ (q : Shown). with_settled q h w (hot_of w)) a.at_claim in
    let objects = objects_back s a.hots h w v words (hot_of w) a.here in
    let count = claimed_words (played first s) h w v words a.claimed in
    subst (λ (q : Shown). Sound q far × IsStill (first ++ done) s q) (sym all) (
      sound_beside far s u h (len_of w) (place_of w) sound a.here refl objects
          (length_put s.memory (place_of w) words)
          (λ k other. get_or-set_other s.versions h k v 0 other)
          (claimed_version s (played first s) a.hots h w v words a.newer a.at_claim a.claimed)
          (put_beside s.memory words (place_of w) (len_of w) count),
      record {
        objects = objects;
        hots = set-set a.hots h (hot_of w) (hot_of w) ∙ sym a.told_hots;
        versions = sym a.versions;
        memory = sym a.memory;
        nothing = λ old. a.writes old ∙ back.nothing old;
      },
    )

rewritten_well : (far : FarState) (s t : Shown) (first done : List Access) (h w v at : ℕ)
    (words bytes : List ℕ) → Sound s far → IsAfterClaim s h w v words first done
    → IsFound h w (first ++ done) → IsTaken h v words (first ++ done)
    → at + length bytes ≤ len_of w → IsRewritten (played first s) h w v at words bytes done t
    → Sound t far × IsWritten h (v + 1) at bytes (first ++ done) s t
rewritten_well far s t first done h w v at words bytes sound a found taken inside x =
    let u = with_rewritten (claimed_from s a.hots h w v words) h w v x.new in
    let all : t ≡ u = x.settled ∙ ap (λ (q : Shown). with_rewritten q h w v x.new) a.at_claim in
    let objects = objects_back s a.hots h w v words true a.here in
    let count = claimed_words (played first s) h w v words a.claimed in
    subst (λ (q : Shown). Sound q far × IsWritten h (v + 1) at bytes (first ++ done) s q) (sym all) (
      sound_beside far s u h (len_of w) (place_of w) sound a.here refl objects
          (length_put (put s.memory (place_of w) words) (place_of w) x.new
          ∙ length_put s.memory (place_of w) words)
          (λ k other. get_or-set_other (set s.versions h v) h k (v + 1) 0 other
          ∙ get_or-set_other s.versions h k v 0 other)
          (next_version s (played first s) a.hots h w v words a.newer a.at_claim a.claimed)
          (put_twice_beside s.memory words x.new (place_of w) (len_of w) count
          (x.write.sized ∙ count)),
      record {
        word = w;
        version = v;
        words = words;
        new = x.new;
        found = found;
        room = inside;
        taken = taken;
        next = refl;
        write = x.write;
        wordwise = x.wordwise;
        objects = objects;
        hots = ap (λ (l : List Bool). set l h true) (sym a.told_hots);
        versions = ap (λ (l : List ℕ). set l h (v + 1)) (sym a.versions);
        memory = ap (λ (l : List ℕ). put l (place_of w) x.new) (sym a.memory);
        one = λ old. a.writes old ∙ x.one old;
      },
    )

-- What holds after a write that began with a claim.
pub record IsWriteDone (far : FarState) (s t : Shown) (es : List Access) (h w at : ℕ)
    (bytes : List ℕ) (r : Reply) : Type 0 where
  pub sound : Sound t far
  pub effect : WriteEffect h at bytes r es s t
  pub rule : WriteHere h at bytes es r w

pub write_done : (far : FarState) (s t : Shown) (first done : List Access) (h w v at : ℕ)
    (words bytes : List ℕ) (r : Reply) → Sound s far → IsAfterClaim s h w v words first done
    → IsFree w → IsFound h w (first ++ done) → IsTaken h v words (first ++ done)
    → WriteEnds h w at bytes r done (played first s) v words t
    → IsWriteDone far s t (first ++ done) h w at bytes r
write_done far s t first done h w v at words bytes r sound a free found taken (inl x) =
    let y = back_well far s t first done h w v words sound a x.2 in record {
      sound = y.0;
      effect = subst (λ (q : Reply). WriteEffect h at bytes q (first ++ done) s t) (sym x.1) y.1;
      rule = inl (x.0, x.1);
    }
write_done far s t first done h w v at words bytes r sound a free found taken (inr x) =
    ending x.0 x.1
  where
    ending : at + length bytes ≤ len_of w
        → ((v ≡ 2 ^ 64 - 1) × (r ≡ answer.Worn) × IsBack (played first s) h w done t)
        ⊎ ((v < 2 ^ 64 - 1) × (r ≡ answer.Version (v + 1))
        × IsRewritten (played first s) h w v at words bytes done t)
        → IsWriteDone far s t (first ++ done) h w at bytes r
    ending inside (inl z) = let y = back_well far s t first done h w v words sound a z.2 in record {
      sound = y.0;
      effect = subst (λ (q : Reply). WriteEffect h at bytes q (first ++ done) s t) (sym z.1) y.1;
      rule = inr (inside, inr (free.1, (v, words, taken, inl (z.0, z.1))));
    }
    ending inside (inr z) =
        let y = rewritten_well far s t first done h w v at words bytes sound a found taken inside z.2
        in
        record {
          sound = y.0;
          effect = subst (λ (q : Reply). WriteEffect h at bytes q (first ++ done) s t) (sym z.1)
              y.1;
          rule = inr (inside, inr (free.1, (v, words, taken, inr (z.0, z.1))));
        }

-- an object that is not here is answered by what was told after the look too
pub absent_before : (q : State) (h : ℕ) (es fs : List Access) (r : Reply) → AbsentAs q h fs r
    → AbsentAs q h (es ++ fs) r
absent_before state.Empty h es fs r a = (a.0, told_before h a.0 es fs a.1, a.2)
absent_before state.Far h es fs r a = a
absent_before state.Here h es fs r a = a
absent_before state.Moving h es fs r a = a

write_here_before : (h w at : ℕ) (bytes : List ℕ) (es fs : List Access) (r : Reply)
    → WriteHere h at bytes fs r w → WriteHere h at bytes (es ++ fs) r w
write_here_before h w at bytes es fs r (inl a) = inl a
write_here_before h w at bytes es fs r (inr a) = inr (a.0, pinned a.1)
  where
    pinned : ((1 ≤ pins_of w) × (r ≡ answer.Pinned (pins_of w)))
        ⊎ ((pins_of w ≡ 0) × ((v : ℕ) × (words : List ℕ) × IsTaken h v words fs × NextVersion v r))
        → ((1 ≤ pins_of w) × (r ≡ answer.Pinned (pins_of w)))
        ⊎ ((pins_of w ≡ 0)
        × ((v : ℕ) × (words : List ℕ) × IsTaken h v words (es ++ fs) × NextVersion v r))
    pinned (inl b) = inl b
    pinned (inr b) =
        inr (b.0, (b.1.0, b.1.1, taken_before h b.1.0 b.1.1 es fs b.1.2, b.1.3))

-- a refusal is by what was told after the look too
pub write_before : (q : State) (h w at : ℕ) (bytes : List ℕ) (es fs : List Access) (r : Reply)
    → AnsweredAs q (WriteHere h at bytes fs r) w h fs r
    → AnsweredAs q (WriteHere h at bytes (es ++ fs) r) w h (es ++ fs) r
write_before state.Here h w at bytes es fs r a = write_here_before h w at bytes es fs r a
write_before state.Empty h w at bytes es fs r a = absent_before state.Empty h es fs r a
write_before state.Far h w at bytes es fs r a = a
write_before state.Moving h w at bytes es fs r a = a

pub no_taken : (h v : ℕ) (words : List ℕ) (es : List Access) → AreReads h es → IsTaken h v words es → ⊥
no_taken h v words [] reads taken = taken
no_taken h v words (Told k u ∷ es) reads taken = no_taken h v words es reads.1 taken
no_taken h v words (Loaded p x ∷ es) reads taken = no_taken h v words es reads taken
no_taken h v words (e ∷ es) reads taken = reads

empty_effect : (v h at : ℕ) (bytes : List ℕ) (es : List Access) (s t : Shown) (r : Reply)
    → EmptyAnswer v r → IsStill es s t → WriteEffect h at bytes r es s t
empty_effect zero h at bytes es s t r e still =
    subst (λ (q : Reply). WriteEffect h at bytes q es s t) (sym e) still
empty_effect (suc v) h at bytes es s t r e still =
    subst (λ (q : Reply). WriteEffect h at bytes q es s t) (sym e) still

-- a write that found no free word changes nothing
pub refused_effect : (q : State) (h w at : ℕ) (bytes : List ℕ) (reads es : List Access)
    (s t : Shown) (r : Reply) → AreReads h reads
    → AnsweredAs q (WriteHere h at bytes reads r) w h reads r → IsStill es s t
    → WriteEffect h at bytes r es s t
refused_effect state.Empty h w at bytes reads es s t r told a still =
    empty_effect a.0 h at bytes es s t r a.2 still
refused_effect state.Far h w at bytes reads es s t r told a still =
    subst (λ (q : Reply). WriteEffect h at bytes q es s t) (sym a) still
refused_effect state.Moving h w at bytes reads es s t r told a still =
    subst (λ (q : Reply). WriteEffect h at bytes q es s t) (sym a) still
refused_effect state.Here h w at bytes reads es s t r told (inl a) still =
    subst (λ (q : Reply). WriteEffect h at bytes q es s t) (sym a.1) still
refused_effect state.Here h w at bytes reads es s t r told (inr a) still = pinned a.1
  where
    pinned : ((1 ≤ pins_of w) × (r ≡ answer.Pinned (pins_of w)))
        ⊎ ((pins_of w ≡ 0)
        × ((v : ℕ) × (words : List ℕ) × IsTaken h v words reads × NextVersion v r))
        → WriteEffect h at bytes r es s t
    pinned (inl b) = subst (λ (q : Reply). WriteEffect h at bytes q es s t) (sym b.1) still
    pinned (inr b) = absurd (no_taken h b.1.0 b.1.1 reads told b.1.2)
