-- A far object is freed.
use Rattle.std.proofs.Common.{◌≡◌, ℕ, Bool, false, ◌+◌, ◌-◌, ◌^◌, ◌<◌, List, [], ◌∷◌, ◌++◌, Option, Some, None, length, set, sym, refl, ap, ◌∙◌, subst, inl, inr, get_or-set_same}
use Rattle.std.proofs.lemmas.Bool.{cases_lt}
use Rattle.std.proofs.lemmas.List.{get_or_past}
use Rattle.cb_ptr.specs.declared.word.State.{State}
use Rattle.cb_ptr.specs.declared.word.State.TheVariants as state
use Rattle.cb_ptr.specs.Word.{state_of, len_of, place_of}
use Rattle.cb_set.specs.SetState.{SetState}
use Rattle.cb_types.specs.declared.reply.Reply.{Reply}
use Rattle.cb_types.specs.declared.reply.Reply.TheVariants as answer
use Rattle.cb_world.specs.declared.homes.Home.{Home}
use Rattle.cb_world.specs.declared.entry.Entry.{Entry}
use Rattle.cb_world.specs.declared.object.Object.{Object}
use Rattle.cb_world.specs.declared.object.Object.TheVariants as is
use Rattle.cb_world.specs.declared.access.Access.{Access}
use Rattle.cb_world.specs.declared.access.Access.TheVariants.{Looked, Told, Stamped, Settled}
use Rattle.cb_world.specs.declared.shown.Shown.{Shown}
use Rattle.cb_world.specs.Shown.{Fits, IsHeld, object_at, version_at}
use Rattle.cb_world.specs.Settling.{MaySettle, MayFree}
use Rattle.cb_world.specs.Played.{Agree, after, played}
use Rattle.cb_world.specs.Looks.{AreLooks, IsFound, LooksFirst, told_by}
use Rattle.cb_world.specs.Touches.{SettlesLast, Touches}
use Rattle.cb_world.specs.Allowed.{Allowed}
use Rattle.cb_world.specs.Written.{Writes, adds_as, gone, written_by}
use Rattle.cb_world.specs.Homes.{home_at}
use Rattle.cb_world.specs.FarState.{FarState}
use Rattle.cb_world.specs.LeftOver.{LiesIn, without_far}
use Rattle.cb_world.specs.LocalSound.{IsStamped}
use Rattle.cb_world.specs.Sound.{Sound}
use Rattle.cb_world.proofs.Laws.{look_after, look_allowed, look_first, look_found, look_sound, look_still, told_before, sound_far_gone, far_object, look_settles_last, look_touches, agree_last, found_last, found_more, looks_played, looks_written, played_append, told_append, written_append, allowed_append}
use Rattle.cb_mutate.specs.FreeRule.{FreeAs, FreeEffect, FreeFar, LeavesPlace}
use Rattle.cb_mutate.specs.FreeEnds.{with_emptied}
use Rattle.cb_mutate.proofs.Emptied.{with_stamped}

-- ---- the word that was found
pub one_look_more : (h w : ℕ) (es : List Access) → AreLooks h es → AreLooks h (look_after es h w)
one_look_more h w [] a = (refl, tt)
one_look_more h w (Looked k x ∷ es) a = (a.0, one_look_more h w es a.1)
one_look_more h w (e ∷ es) a = absurd a

pub found_far : (s : Shown) (before : List Access) (h w : ℕ) → AreLooks h before
    → Agree s (look_after before h w) → state_of w ≡ state.Far
    → (len v : ℕ) × (words : List ℕ) × (object_at s h ≡ is.Far len v words)
found_far s before h w looks agree far =
    let p = looks_played h before s looks in
    let o = far_object (object_at s h) w (subst (λ (t : Shown). Fits (object_at t h) w) p.2
    (agree_last before (Looked h w ∷ []) s agree).0.0) far in (len_of w, o.0, o.1, o.2)

-- ---- the home
-- where a far object lies
pub record IsHome (s : Shown) (far : FarState) (h : ℕ) : Type 0 where
  pub home : Home
  pub set : SetState
  pub lies : LiesIn far h home set

pub its_home : (s : Shown) (far : FarState) (h len v : ℕ) (words : List ℕ) → Sound s far
    → object_at s h ≡ is.Far len v words → IsHome s far h
its_home s far h len v words sound away =
    let x = sound.away.sound.away.away h len v words away in
    let y = sound.away.sound.away.home h x.0 x.1 in
    record { home = x.0; set = y.0; lies = record { at = x.1; there = y.1 } }

pub home_known : (far : FarState) (h : ℕ) (home : Home) → home_at far.homes h ≡ Some home
    → h < length far.homes
home_known far h home at = elim (cases_lt h (length far.homes)) [
  | inl within ↦ within
  | inr past ↦ absurd (none_some (home_at far.homes h) (get_or_past far.homes h None past) at)
]
  where
    none_some : (o : Option Home) → o ≡ None → o ≡ Some home → ⊥
    none_some o e f = cc

-- ---- the events
pub far_held : (s : Shown) (h len v : ℕ) (words : List ℕ) → object_at s h ≡ is.Far len v words
    → IsHeld (object_at s h)
far_held s h len v words away = subst IsHeld (sym away) tt

-- the version that was told is the object's
pub far_told : (s : Shown) (far : FarState) (h len v x : ℕ) (words : List ℕ) → Sound s far
    → object_at s h ≡ is.Far len v words → (IsHeld (object_at s h) → x ≡ version_at s h) → x ≡ v
far_told s far h len v x words sound away told =
    told (far_held s h len v words away)
    ∙ subst (λ (o : Object). IsStamped o (version_at s h)) away (sound.here.known.stamped h)

pub far_may_free : (s : Shown) (h len v x : ℕ) (words : List ℕ) → h < length s.versions
    → object_at s h ≡ is.Far len v words → x ≡ v
    → MaySettle (with_stamped s h (x + 1)) h 0
far_may_free s h len v x words stamp away same = (
  refl,
  subst (MayFree (with_stamped s h (x + 1)) h) (sym away)
      (get_or-set_same s.versions h (x + 1) 0 stamp ∙ ap (λ (i : ℕ). i + 1) same),
)

-- the events of a far object that has a next version
abbrev pub far_events : ℕ → ℕ → List Access
far_events h v = Told h v ∷ Stamped h (v + 1) ∷ Settled h 0 ∷ []

far_emptied : (s : Shown) (h v : ℕ) → h < length s.versions
    → played (far_events h v) s ≡ with_emptied s h v
far_emptied s h v stamp = ap (λ (i : ℕ). let q : Shown = record s {
  objects = set s.objects h (is.Empty i);
  hots = set s.hots h false;
  versions = set s.versions h (v + 1);
} in q) (get_or-set_same s.versions h (v + 1) 0 stamp)

far_emptied_once : (s : Shown) (h len v : ℕ) (words : List ℕ) → h < length s.versions
    → object_at s h ≡ is.Far len v words
    → Writes (far_events h v) s (gone h (v + 1) words ∷ [])
far_emptied_once s h len v words stamp away old =
    ap (λ (o : Object). adds_as state.Empty (with_stamped s h (v + 1)) h 0 o ++ old) away
    ∙ ap (λ (i : ℕ). gone h i words ∷ old) (get_or-set_same s.versions h (v + 1) 0 stamp)

-- the object is far at the version that was told
pub far_at : (s : Shown) (far : FarState) (before : List Access) (h w x : ℕ) → Sound s far
    → AreLooks h before → Agree s (look_after before h w) → state_of w ≡ state.Far
    → (IsHeld (object_at (played (look_after before h w) s) h)
    → x ≡ version_at (played (look_after before h w) s) h)
    → (len : ℕ) × (words : List ℕ) × (object_at s h ≡ is.Far len x words)
far_at s far before h w x sound looks agree is_far told =
    let y = found_far s before h w looks agree is_far in
    let p = looks_played h (look_after before h w) s (one_look_more h w before looks) in
    let same : x ≡ y.1 = far_told s far h y.0 y.1 x y.2 sound y.3
    (subst (λ (t : Shown). IsHeld (object_at t h) → x ≡ version_at t h) p.2 told) in (
      y.0,
      y.2,
      y.3 ∙ ap (λ (v : ℕ). is.Far y.0 v y.2) (sym same),
    )

-- ---- looks, and then these
then_first : (h : ℕ) (es fs : List Access) → AreLooks h es → LooksFirst fs → LooksFirst (es ++ fs)
then_first h [] fs a b = b
then_first h (Looked k w ∷ es) fs a b = then_first h es fs a.1 b
then_first h (e ∷ es) fs a b = absurd a

then_last : (h : ℕ) (es fs : List Access) → AreLooks h es → SettlesLast fs → SettlesLast (es ++ fs)
then_last h [] fs a b = b
then_last h (Looked k w ∷ es) fs a b = then_last h es fs a.1 b
then_last h (e ∷ es) fs a b = absurd a

looks_allowed : (h : ℕ) (es : List Access) (s : Shown) → AreLooks h es → Allowed s es
looks_allowed h [] s a = tt
looks_allowed h (Looked k w ∷ es) s a = (tt, looks_allowed h es (after (Looked k w) s) a.1)
looks_allowed h (e ∷ es) s a = absurd a

looks_tell : (h : ℕ) (es : List Access) (s : Shown) → AreLooks h es → told_by es s ≡ played es s
looks_tell h [] s a = refl
looks_tell h (Looked k w ∷ es) s a = looks_tell h es (after (Looked k w) s) a.1
looks_tell h (e ∷ es) s a = absurd a

-- What holds of a free of a far object, whatever is known.
pub record IsFarAnswered (far new : FarState) (h w : ℕ) (es : List Access) (r : Reply)
    : Type 0 where
  pub looks_first : LooksFirst es
  pub found : IsFound h w es
  pub touches : Touches h (place_of w) (len_of w) es
  pub settles_last : SettlesLast es
  pub answer : FreeAs (state_of w) w h es r
  pub state : FreeFar w h r far new

-- And what holds of it by what is known.
pub record IsFarDone (new : FarState) (h : ℕ) (es : List Access) (s : Shown) (r : Reply)
    : Type 0 where
  pub allowed : Allowed s es
  pub sound : Sound (played es s) new
  pub effect : FreeEffect h r es s (played es s)

-- with no next version nothing is done
pub far_worn : (far new : FarState) (before : List Access) (h w x : ℕ) (r : Reply)
    → AreLooks h before → state_of w ≡ state.Far → x ≡ 2 ^ 64 - 1 → r ≡ answer.Worn → new ≡ far
    → IsFarAnswered far new h w (look_after before h w ++ Told h x ∷ []) r
far_worn far new before h w x r looks is_far last worn same = record {
  looks_first = look_first before reads h w looks (refl, tt);
  found = look_found before reads h w (refl, tt);
  touches = look_touches h w (place_of w) (len_of w) before reads looks (refl, tt);
  settles_last = look_settles_last h w before reads looks (refl, tt);
  answer = subst (λ (q : State). FreeAs q w h (look_after before h w ++ reads) r) (sym is_far)
      (x, told_before h x (look_after before h w) reads (inr (refl, refl)), inl (last, worn));
  state = subst (λ (q : Reply). FreeFar w h q far new) (sym worn) same;
}
  where
    reads : List Access
    reads = Told h x ∷ []

pub far_worn_done : (far new : FarState) (s : Shown) (before : List Access) (h w x : ℕ) (r : Reply)
    → Sound s far → AreLooks h before → r ≡ answer.Worn → new ≡ far
    → IsFarDone new h (look_after before h w ++ Told h x ∷ []) s r
far_worn_done far new s before h w x r sound looks worn same =
    let es = look_after before h w ++ Told h x ∷ [] in record {
      allowed = look_allowed before (Told h x ∷ []) h w s looks (refl, tt);
      sound = subst (Sound (played es s)) (sym same)
          (look_sound far s before (Told h x ∷ []) h w sound looks (refl, tt));
      effect = subst (λ (q : Reply). FreeEffect h q es s (played es s)) (sym worn)
          (look_still s before (Told h x ∷ []) h w looks (refl, tt));
    }

-- with a next version the object is empty
pub far_freed : (far new : FarState) (before : List Access) (h w x : ℕ) (r : Reply) (s : Shown)
    → AreLooks h before → state_of w ≡ state.Far → x < 2 ^ 64 - 1 → r ≡ answer.Version (x + 1)
    → (k : IsHome s far h) → new ≡ without_far far h k.home k.set
    → IsFarAnswered far new h w (look_after before h w ++ far_events h x) r
far_freed far new before h w x r s looks is_far below next k left = record {
  looks_first = then_first h first done all (tt, (tt, tt));
  found = found_more h w first done (found_last h w before (Looked h w) (refl, refl))
      ((λ u e. e), ((λ u e. e), ((λ u e. e), tt)));
  touches = look_touches h w (place_of w) (len_of w) before done looks
      (refl, (refl, (refl, tt)));
  settles_last = then_last h first done all (tt, tt, (tt, tt, tt, tt));
  answer = subst (λ (q : State). FreeAs q w h (first ++ done) r) (sym is_far)
      (x, told_before h x first done (inr (refl, refl)), inr (below, next));
  state = subst (λ (q : Reply). FreeFar w h q far new) (sym next)
      (subst (λ (q : State). LeavesPlace q far new h) (sym is_far)
      (record { home = k.home; set = k.set; lies = k.lies; left = left }));
}
  where
    first : List Access
    first = look_after before h w

    done : List Access
    done = far_events h x

    all : AreLooks h first
    all = one_look_more h w before looks

pub far_freed_done : (far new : FarState) (s : Shown) (before : List Access) (h w len x : ℕ)
    (words : List ℕ) (r : Reply) → Sound s far → AreLooks h before
    → object_at s h ≡ is.Far len x words → h < length s.objects → h < length s.versions
    → r ≡ answer.Version (x + 1) → (k : IsHome s far h)
    → new ≡ without_far far h k.home k.set
    → IsFarDone new h (look_after before h w ++ far_events h x) s r
far_freed_done far new s before h w len x words r sound looks away range stamp next k left = record {
  allowed = allowed_append first done s (looks_allowed h first s all) (
    tt,
    (
      subst (λ (t : Shown). IsHeld (object_at t h)) (sym p.2) (far_held s h len x words away),
      (
        subst (λ (t : Shown). MaySettle (with_stamped t h (x + 1)) h 0) (sym p.2)
            (far_may_free q h len x x words stamp away refl),
        tt,
      ),
    ),
  );
  sound = subst (Sound (played (first ++ done) s)) (sym left)
      (subst (λ (t : Shown). Sound t (without_far far h k.home k.set)) (sym at_end)
      (sound_far_gone s (with_emptied q h x) far h len x words k.home k.set (record {
        sound = sound;
        away = away;
        lies = k.lies;
        freed = record { first = refl; objects = refl; versions = refl; memory = refl };
        memory = refl;
        range = range;
        stamp = stamp;
      })));
  effect = subst (λ (a : Reply). FreeEffect h a (first ++ done) s (played (first ++ done) s))
      (sym next) (record {
        version = x;
        words = words;
        last = inr (len, away);
        next = refl;
        objects = ap (λ (t : Shown). t.objects) at_end;
        hots = ap (λ (t : Shown). t.hots) at_end
            ∙ ap (λ (t : Shown). set t.hots h false) (sym told);
        versions = ap (λ (t : Shown). t.versions) at_end
            ∙ ap (λ (t : Shown). set t.versions h (x + 1)) (sym told);
        memory = ap (λ (t : Shown). t.memory) at_end ∙ ap (λ (t : Shown). t.memory) (sym told);
        one = λ old. written_append first done s old
            ∙ ap (λ (l : List Entry). written_by done (played first s) l)
            (looks_written h first s old all)
            ∙ ap (λ (t : Shown). written_by done t old) p.2
            ∙ far_emptied_once q h len x words stamp away old;
      });
}
  where
    first : List Access
    first = look_after before h w

    done : List Access
    done = far_events h x

    all : AreLooks h first
    all = one_look_more h w before looks

    p : (hots : List Bool) × (length hots ≡ length s.hots)
        × (played first s ≡ record s { hots = hots })
    p = looks_played h first s all

    q : Shown
    q = record s { hots = p.0 }

    at_end : played (first ++ done) s ≡ with_emptied q h x
    at_end = played_append first done s ∙ ap (played done) p.2 ∙ far_emptied q h x stamp

    told : told_by (first ++ done) s ≡ q
    told = told_append first done s ∙ ap (told_by done) (looks_tell h first s all ∙ p.2)

pub no_more : (es : List Access) → es ++ [] ≡ es
no_more [] = refl
no_more (e ∷ es) = ap (λ (l : List Access). e ∷ l) (no_more es)
