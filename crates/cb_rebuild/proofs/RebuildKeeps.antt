-- A rebuild keeps the world sound, last complete contents and every set's word.
use Rattle.std.specs.Prelude.{◌≡◌, ◌≤◌, ◌+◌, ℕ, length, Result, Ok, Err, IfOk, OnErr, None}
use Rattle.std.proofs.Common.{refl, sym, ap, ◌∙◌, subst, arith, inl, inr}
use Rattle.cb_member.specs.declared.no_memory.NoMemory.{NoMemory}
use Rattle.cb_set.specs.SetState.{SetState}
use Rattle.cb_types.specs.declared.reply.Reply.{Reply}
use Rattle.cb_world.specs.declared.shown.Shown.{Shown}
use Rattle.cb_world.specs.Now.{now}
use Rattle.cb_world.specs.FarState.{FarState}
use Rattle.cb_world.specs.Orders.{LeavesWords}
use Rattle.cb_world.specs.Sound.{Sound}
use Rattle.cb_world.specs.Surveyed.{IsSurvey, gone_below}
use Rattle.cb_world.proofs.Laws.{alike_leaves_words, recounted_sound, retold_sound, words_left_twice, words_stay}
use Rattle.cb_rebuild.specs.declared.finding.Found.{Found}
use Rattle.cb_rebuild.specs.declared.finding.Found.TheVariants as found
use Rattle.cb_rebuild.specs.Finding.{with_found}
use Rattle.cb_rebuild.specs.RebuildStep.{FindsNone, IsFirstWeak, IsRebuilt, KeepWords, RebuildStep, Restores, far_given, gone_count, surveyed}
use Rattle.cb_rebuild.proofs.RebuildSound.{IsRestored, stood_leaves, stood_now, stood_sound, word_stays}

-- what a change of the far state keeps
pub record RebuildKeeps (s : Shown) (far new : FarState) : Type 0 where
  pub sound : Sound s new
  pub same_now : (h : ℕ) → now s new h ≡ now s far h
  pub words : KeepWords far new
  pub left : LeavesWords far new

keeps_all : (s : Shown) (far : FarState) → Sound s far → RebuildKeeps s far far
keeps_all s far sound = record {
  sound = sound;
  same_now = λ h. refl;
  words = λ id set rows there word. (set, there, word);
  left = words_stay far;
}

-- one change after another
keeps_both : (s : Shown) (far mid new : FarState) → RebuildKeeps s far mid → RebuildKeeps s mid new
    → RebuildKeeps s far new
keeps_both s far mid new x y = record {
  sound = y.sound;
  same_now = λ h. y.same_now h ∙ x.same_now h;
  words = λ id set rows there word. let a = x.words id set rows there word in
      y.words id a.0 rows a.1 a.2;
  left = words_left_twice x.left y.left;
}

-- ---- the survey
survey_first : (s : Shown) (far : FarState) (id : ℕ) (set : SetState) → Sound s far
    → IsFirstWeak far id set → IsSurvey far (record { below = id; gone = gone_below far id; no_pair = None })
survey_first s far id set sound first = record {
  drawn = let l = sound.away.sound.sets.numbered id set first.there in omega (arith, l);
  none = λ j other l there. first.least j other l there;
  counted = refl;
}

keeps_survey : (s : Shown) (far : FarState) (n : ℕ) → Sound s far
    → IsSurvey far (record { below = n; gone = gone_below far n; no_pair = None }) → RebuildKeeps s far (surveyed far n)
keeps_survey s far n sound holds = record {
  sound = retold_sound s far far.counts.turns far.counts.by_job far.nodes.given
      (record { below = n; gone = gone_below far n; no_pair = None }) holds sound;
  same_now = λ h. refl;
  words = λ id set rows there word.
      (set, there, record { code = word.code; survive = word.survive });
  left = alike_leaves_words far (surveyed far n) refl refl refl refl (λ id p shard of. refl);
}

pub keeps_first : (s : Shown) (far : FarState) (id : ℕ) (set : SetState) → Sound s far
    → IsFirstWeak far id set → RebuildKeeps s far (surveyed far id)
keeps_first s far id set sound first =
    keeps_survey s far id sound (survey_first s far id set sound first)

pub keeps_none : (s : Shown) (far new : FarState) (r : Reply) → Sound s far → FindsNone far new r
    → RebuildKeeps s far new
keeps_none s far new r sound x = subst (RebuildKeeps s far) (sym x.state)
    (keeps_survey s far far.counts.sets sound (record {
      drawn = omega arith;
      none = λ id set l there. x.none id set there;
      counted = refl;
    }))

-- the set is the first that is weak also once those before it were looked at
pub first_still : (far : FarState) (id n : ℕ) (set : SetState) → IsFirstWeak far id set
    → IsFirstWeak (surveyed far n) id set
first_still far id n set first =
    record { there = first.there; weak = first.weak; least = first.least }

keeps_given : (s : Shown) (far new : FarState) (n : ℕ) → Sound s far
    → new ≡ far_given far n → RebuildKeeps s far new
keeps_given s far new n sound e = subst (RebuildKeeps s far) (sym e) (record {
  sound = recounted_sound s far far.counts.turns far.counts.by_job (far.nodes.given + n) sound;
  same_now = λ h. refl;
  words = λ id set rows there word.
      (set, there, record { code = word.code; survive = word.survive });
  left = alike_leaves_words far (far_given far n) refl refl refl refl (λ id p shard of. refl);
})

keeps_rebuilt : (s : Shown) (far new : FarState) (id : ℕ) (set : SetState) (r : Reply)
    → Sound s far → IsFirstWeak far id set → IsRebuilt far id set new r → RebuildKeeps s far new
keeps_rebuilt s far new id set r sound first x =
    let stands : IsRestored s far id set x.position x.shard x.row = record {
      sound = sound.away.sound;
      there = first.there;
      weak = first.weak;
      lost = x.lost;
      named = x.named;
      of_word = x.of_word;
    } in
    subst (RebuildKeeps s far) (sym x.state) (record {
      sound = stood_sound s far id set x.position x.shard x.row sound stands;
      same_now = λ h. stood_now s far id set x.position x.shard x.row stands h;
      words = λ j c rows there word.
          word_stays s far id set x.position x.shard x.row stands j c rows there word;
      left = stood_leaves s far id set x.position x.shard x.row stands;
    })

keeps_restored : (s : Shown) (far new : FarState) (id : ℕ) (set : SetState) (r : Reply)
    → Sound s far → IsFirstWeak far id set → Restores far id set new r → RebuildKeeps s far new
keeps_restored s far new id set r sound first (inl x) =
    subst (RebuildKeeps s far) (sym x.same) (keeps_all s far sound)
keeps_restored s far new id set r sound first (inr x) =
    keeps_rebuilt s far new id set r sound first x

-- what the restoring of the first weak set ends in
pub record RestoringEnds (far new : FarState) (id : ℕ) (r : Result Reply NoMemory) : Type 0 where
  pub step : IfOk r (λ reply. (set : SetState) → IsFirstWeak far id set
      → Restores far id set new reply)
  pub error : OnErr r ((set : SetState) → IsFirstWeak far id set → (n : ℕ)
      × (n ≤ length set.positions) × (new ≡ far_given far n))

keeps_ends : (s : Shown) (far new : FarState) (id : ℕ) (set : SetState)
    (r : Result Reply NoMemory) → Sound s far → IsFirstWeak far id set → RestoringEnds far new id r
    → RebuildKeeps s far new
keeps_ends s far new id set (Ok reply) sound first x =
    keeps_restored s far new id set reply sound first (x.step set first)
keeps_ends s far new id set (Err e) sound first x = let y = x.error set first in
    keeps_given s far new y.0 sound y.2

-- once the sets before it were looked at
pub keeps : (s : Shown) (far new : FarState) (id : ℕ) (r : Result Reply NoMemory) → Sound s far
    → ((set : SetState) × IsFirstWeak far id set) → RestoringEnds (surveyed far id) new id r
    → RebuildKeeps s far new
keeps s far new id r sound first x = let before = keeps_first s far id first.0 sound first.1 in
    keeps_both s far (surveyed far id) new before
    (keeps_ends s (surveyed far id) new id first.0 r before.sound
    (first_still far id id first.0 first.1) x)

-- whatever the step was
pub keeps_step : (s : Shown) (far new : FarState) (r : Reply) → Sound s far
    → RebuildStep far new r → RebuildKeeps s far new
keeps_step s far new r sound (inl none) = keeps_none s far new r sound none
keeps_step s far new r sound (inr z) =
    let before = keeps_first s far z.id z.set sound z.first in
    keeps_both s far (surveyed far z.id) new before
    (keeps_restored s (surveyed far z.id) new z.id z.set r before.sound
    (first_still far z.id z.id z.set z.first) z.restores)

-- ---- what was found, as it is kept
pub found_weak : (far new : FarState) (f : Found) (id gone : ℕ) → new ≡ with_found far f
    → f ≡ found.Weak id gone → gone ≡ gone_below far id → new ≡ surveyed far id
found_weak far new f id gone kept is counted = kept ∙ ap (with_found far) is
    ∙ ap (λ (n : ℕ). record far { survey = record { below = id; gone = n; no_pair = None } }) counted

pub found_whole : (far new : FarState) (f : Found) (gone : ℕ) → new ≡ with_found far f
    → f ≡ found.Whole gone → gone ≡ gone_count far → new ≡ surveyed far far.counts.sets
found_whole far new f gone kept is counted = kept ∙ ap (with_found far) is
    ∙ ap (λ (n : ℕ). record far { survey = record { below = far.counts.sets; gone = n; no_pair = None } }) counted

-- ---- the step, and what an error leaves
pub steps_first : (far new : FarState) (id : ℕ) (r : Result Reply NoMemory)
    → ((set : SetState) × IsFirstWeak far id set) → RestoringEnds (surveyed far id) new id r
    → IfOk r (λ reply. RebuildStep far new reply)
steps_first far new id (Ok reply) first x = inr (record {
  id = id;
  set = first.0;
  first = first.1;
  restores = x.step first.0 (first_still far id id first.0 first.1);
})
steps_first far new id (Err e) first x = x.step

pub error_first : (far new : FarState) (id : ℕ) (r : Result Reply NoMemory)
    → ((set : SetState) × IsFirstWeak far id set) → RestoringEnds (surveyed far id) new id r
    → OnErr r ((j : ℕ) × (set : SetState) × (n : ℕ) × IsFirstWeak far j set
    × (n ≤ length set.positions) × (new ≡ far_given (surveyed far j) n))
error_first far new id (Ok reply) first x = x.error
error_first far new id (Err e) first x =
    let y = x.error first.0 (first_still far id id first.0 first.1) in
    (id, first.0, y.0, first.1, y.1, y.2)
