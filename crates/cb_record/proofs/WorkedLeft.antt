-- Worked examples: what a world has of an object behind the calls on it, and what it has not.
use Rattle.std.proofs.Common.{◌≡◌, ◌≢◌, ℕ, ◌<◌, Bool, true, false, List, [], ◌∷◌, length, Some, None, nat_eq, cond, refl, sym, ap, ◌∙◌, subst, arith, lit≤}
use Rattle.std.proofs.lemmas.Bool.{eqb-true, eq-eqb}
use Rattle.cb_ptr.specs.declared.word.State.TheVariants as state
use Rattle.cb_ptr.specs.Word.{state_of}
use Rattle.cb_types.specs.declared.answer.Answer.{Answer}
use Rattle.cb_types.specs.declared.config.Config.{Config}
use Rattle.cb_types.specs.declared.config.Field.TheVariants.{Nodes}
use Rattle.cb_types.specs.Config.{IsAccepted}
use Rattle.cb_types.specs.declared.reply.Reply.{Reply}
use Rattle.cb_types.specs.declared.reply.Reply.TheVariants.{Made, Version}
use Rattle.cb_types.specs.declared.request.Request.{Request}
use Rattle.cb_types.specs.declared.request.Request.TheVariants.{Free, Make, Write}
use Rattle.cb_world.specs.declared.shown.Shown.{Shown}
use Rattle.cb_world.specs.Empty.{empty_far, empty_shown, empty_words}
use Rattle.cb_world.specs.Now.{is_gone, now}
use Rattle.cb_world.specs.Now.Now.{never, freed, held, gone}
use Rattle.cb_world.specs.World.{IsKnown, WorldState, empty_world, word_at}
use Rattle.cb_world.proofs.Laws.{empty_never, empty_shows, empty_sound, empty_world_sound, now_same}
use Rattle.cb_model.specs.Now.{MapNow}
use Rattle.cb_model.specs.declared.object.Object.TheVariants.{Held}
use Rattle.cb_model.specs.Called.{calls_of, history}
use Rattle.cb_model.specs.History.{left_by}
use Rattle.cb_record.specs.Left.{HasHistoryEnds, now_left}

abbrev a : List ℕ
a = 97 ∷ []

abbrev answer : ℕ → Request → Reply → Answer
answer lane request reply = record {
  lane = record { n = lane };
  line = 2;
  request = request;
  reply = reply;
}

-- object 3 was made in lane 1, and lane 2 wrote the byte 5 and then 6 at its place 1
abbrev made : Answer
made = answer 1 (Make a (1 ∷ 2 ∷ [])) (Made (record { n = 3 }) 1)

abbrev two_writes : List Answer
two_writes = made ∷ answer 2 (Write a 1 (6 ∷ [])) (Version 3)
    ∷ answer 1 (Write a 1 (5 ∷ [])) (Version 2) ∷ []

abbrev then_freed : List Answer
then_freed = made ∷ answer 2 (Free a) (Version 2) ∷ []

of_two_writes : left_by (history (calls_of two_writes) 3) ≡ Some (Held 3 (1 ∷ 6 ∷ []))
of_two_writes = refl

-- the last one by version, and not by place
not_the_last_answer :
    now_left false (left_by (history (calls_of two_writes) 3)) ≡ held 2 (1 ∷ 5 ∷ []) → ⊥
not_the_last_answer is = absurd cc

where_whole : now_left false (left_by (history (calls_of two_writes) 3)) ≡ held 3 (1 ∷ 6 ∷ [])
where_whole = refl

where_lost : now_left true (left_by (history (calls_of two_writes) 3)) ≡ gone 3
where_lost = refl

of_a_free : (b : Bool) → now_left b (left_by (history (calls_of then_freed) 3)) ≡ freed 2
of_a_free b = refl

another_object : (b : Bool) → now_left b (left_by (history (calls_of then_freed) 4)) ≡ never
another_object b = refl

-- ---- worlds
never_gone : (v : ℕ) → never ≡ gone v → ⊥
never_gone v is = cc

held_gone : (n v : ℕ) (bytes : List ℕ) → held n bytes ≡ gone v → ⊥
held_gone n v bytes is = cc

-- the empty one has what is left where there were no calls
module _ (c : Config) (ok : IsAccepted c) where
  empty_is : (shown : Shown) → IsKnown (empty_words c) (empty_far 1 c) shown → (h : ℕ)
      → now shown (empty_far 1 c) h ≡ never
  empty_is shown known h =
      now_same (empty_words c) (empty_shown 1 c) shown (empty_far 1 c) h (empty_shows 1 c)
      (empty_sound 1 c (lit≤ tt) (let n = (ok Nodes).1 in omega (arith, n))) known.shows known.sound
      ∙ empty_never 1 c h

  empty_has : HasHistoryEnds [] (empty_world c)
  empty_has = let sound = empty_world_sound c ok in record {
    shown = sound.shown;
    known = sound.known;
    last = λ h low. empty_is sound.shown sound.known h;
    far = λ h v low is. absurd (never_gone v (sym (empty_is sound.shown sound.known h) ∙ is));
  }

-- object 3 alone has a history
abbrev left_at : ℕ → MapNow
left_at h = left_by (history (calls_of two_writes) h)

left_if : (h : ℕ) (b : Bool) → nat_eq h 3 ≡ b
    → left_at h ≡ cond b (Some (Held 3 (1 ∷ 6 ∷ []))) None
left_if h true is = rw is refl
left_if h false is = rw is refl

-- a world with it and no other object, which is near
has_two : (w : WorldState) (shown : Shown) → IsKnown w.desk w.far shown → is_gone w.far 3 ≡ false
    → now shown w.far 3 ≡ held 3 (1 ∷ 6 ∷ []) → ((h : ℕ) → h ≢ 3 → now shown w.far h ≡ never)
    → HasHistoryEnds two_writes w
has_two w shown known whole it none = record {
  shown = shown;
  known = known;
  last = λ h low. last_by h (nat_eq h 3) refl;
  far = λ h v low is. far_by h v is (nat_eq h 3) refl;
}
  where
    off : (h : ℕ) → nat_eq h 3 ≡ false → h ≢ 3
    off h no_3 is = absurd (let e = sym (eq-eqb h 3 is) ∙ no_3 in cc)

    last_by : (h : ℕ) (b : Bool) → nat_eq h 3 ≡ b
        → now shown w.far h ≡ now_left (is_gone w.far h) (left_at h)
    last_by h true is = subst (λ (k : ℕ). now shown w.far k ≡ now_left (is_gone w.far k) (left_at k))
        (sym (eqb-true h 3 is))
        (it ∙ ap (λ (b : Bool). now_left b (Some (Held 3 (1 ∷ 6 ∷ [])))) (sym whole))
    last_by h false is = none h (off h is)
        ∙ ap (now_left (is_gone w.far h)) (sym (left_if h false is))

    far_by : (h v : ℕ) → now shown w.far h ≡ gone v → (b : Bool) → nat_eq h 3 ≡ b
        → state_of (word_at w.desk h) ≡ state.Far
    far_by h v is true at = absurd (held_gone 3 v (1 ∷ 6 ∷ []) (sym it
        ∙ subst (λ (k : ℕ). now shown w.far k ≡ gone v) (eqb-true h 3 at) is))
    far_by h v is false at = absurd (never_gone v (sym (none h (off h at)) ∙ is))

module _ (w : WorldState) (has : HasHistoryEnds two_writes w)
    (inside : 3 < length w.desk.words) where
  is_left : (lost : Bool) → is_gone w.far 3 ≡ lost
      → now has.shown w.far 3 ≡ now_left lost (Some (Held 3 (1 ∷ 6 ∷ [])))
  is_left lost is =
      subst (λ (b : Bool). now has.shown w.far 3 ≡ now_left b (Some (Held 3 (1 ∷ 6 ∷ [])))) is
      (has.last 3 inside)

  -- one that still has the first write
  an_older_one : is_gone w.far 3 ≡ false → now has.shown w.far 3 ≡ held 2 (1 ∷ 5 ∷ []) → ⊥
  an_older_one whole old = absurd (let e = sym old ∙ is_left false whole in cc)

  -- or its bytes at the last version
  older_bytes : is_gone w.far 3 ≡ false → now has.shown w.far 3 ≡ held 3 (1 ∷ 5 ∷ []) → ⊥
  older_bytes whole old = absurd (let e = sym old ∙ is_left false whole in cc)

  -- one that has lost what was made
  never_made : (lost : Bool) → is_gone w.far 3 ≡ lost → now has.shown w.far 3 ≡ never → ⊥
  never_made false is none = absurd (let e = sym none ∙ is_left false is in cc)
  never_made true is none = absurd (let e = sym none ∙ is_left true is in cc)

  -- one in which the object is gone, where its set has not lost too much
  gone_for_nothing : is_gone w.far 3 ≡ false → now has.shown w.far 3 ≡ gone 3 → ⊥
  gone_for_nothing whole is = absurd (let e = sym is ∙ is_left false whole in cc)

  -- or is not, where it has
  held_though_lost : is_gone w.far 3 ≡ true → now has.shown w.far 3 ≡ held 3 (1 ∷ 6 ∷ []) → ⊥
  held_though_lost lost is = absurd (let e = sym is ∙ is_left true lost in cc)

  -- or is gone at an earlier version
  gone_too_early : is_gone w.far 3 ≡ true → now has.shown w.far 3 ≡ gone 2 → ⊥
  gone_too_early lost is = absurd (let e = sym is ∙ is_left true lost in cc)

  -- or is gone and near
  gone_and_here : state_of (word_at w.desk 3) ≡ state.Here → now has.shown w.far 3 ≡ gone 3 → ⊥
  gone_and_here here is = absurd (let e = sym here ∙ has.far 3 3 inside is in cc)

  -- one with an object that no answer is about
  of_no_call : (v : ℕ) (bytes : List ℕ) → 4 < length w.desk.words
      → now has.shown w.far 4 ≡ held v bytes → ⊥
  of_no_call v bytes low is = absurd (let e = sym is ∙ has.last 4 low in cc)

  -- one with words of more objects than are configured
  too_many_words : w.desk.settings.handles ≡ 3 → ⊥
  too_many_words few =
      let n = has.known.sized.words in omega (arith, n, few, inside)

-- one that still holds what was freed, or that freed it at another version
module _ (w : WorldState) (has : HasHistoryEnds then_freed w)
    (inside : 3 < length w.desk.words) where
  held_though_freed : (v : ℕ) (bytes : List ℕ) → now has.shown w.far 3 ≡ held v bytes → ⊥
  held_though_freed v bytes is = absurd (let e = sym is ∙ has.last 3 inside in cc)

  freed_too_early : now has.shown w.far 3 ≡ freed 1 → ⊥
  freed_too_early is = absurd (let e = sym is ∙ has.last 3 inside in cc)
