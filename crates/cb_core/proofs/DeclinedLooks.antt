-- Looks at an object, and at the version word of it, over any desk.
use Rattle.std.proofs.Common.{◌≡◌, ℕ, zero, suc, true, false, ◌+◌, ◌-◌, ◌^◌, ◌==◌, ◌<◌, ◌≤◌, List, [], ◌∷◌, Option, None, Some, get_or, refl, sym, ap, ◌∙◌, subst, inl, inr, if◌then◌else◌, lt-ltb, le-ltb, eq-eqb, ne_eqb}
use Rattle.cb_ptr.specs.declared.word.State.{State}
use Rattle.cb_ptr.specs.declared.word.State.TheVariants as state
use Rattle.cb_ptr.specs.Word.{state_of, len_of, place_of}
use Rattle.cb_types.specs.declared.reply.Reply.{Reply}
use Rattle.cb_types.specs.declared.reply.Reply.TheVariants as answer
use Rattle.cb_world.specs.declared.access.Access.{Access}
use Rattle.cb_world.specs.declared.access.Access.TheVariants.{Looked, Told}
use Rattle.cb_world.specs.declared.object.Object.{Object}
use Rattle.cb_world.specs.declared.shown.Shown.{Shown}
use Rattle.cb_world.specs.FarState.{FarState}
use Rattle.cb_world.specs.Now.{is_gone}
use Rattle.cb_world.specs.Performs.{Performs}
use Rattle.cb_world.specs.Played.{Agree, played}
use Rattle.cb_world.specs.Reads.{AreReads}
use Rattle.cb_world.specs.Shown.{never}
use Rattle.cb_world.specs.Sound.{Sound}
use Rattle.cb_world.specs.Still.{IsStill}
use Rattle.cb_world.specs.Touches.{Touches}
use Rattle.cb_world.proofs.Laws.{look_allowed, look_first, look_found, look_sound, look_still, look_settles_last, look_touches}
use Rattle.cb_mutate.specs.Answered.{AnsweredAs, EmptyAnswer}
use Rattle.cb_mutate.specs.WriteRule.{WriteEffect, WriteRule}
use Rattle.cb_core.specs.Declining.{write_refusal}
use Rattle.cb_core.specs.Turned.{Declines, FindsWhere}
use Rattle.cb_core.proofs.FarLooks.{IsFarNow, found_away}

-- ---- why a write is declined
pub past_end : (w version at count len : ℕ) → len ≡ len_of w → len < at + count
    → Some (answer.Range len) ≡ write_refusal false (len_of w) version at count
past_end w version at count len is past =
    ap (λ (n : ℕ). Some (answer.Range n)) is
    ∙ sym (ap (λ b. if b then Some (answer.Range (len_of w))
    else if version == 2 ^ 64 - 1 then Some answer.Worn else None)
    (lt-ltb (len_of w) (at + count) (subst (λ (n : ℕ). n < at + count) is past)))

within : (w version at count len : ℕ) → len ≡ len_of w → at + count ≤ len
    → (if version == 2 ^ 64 - 1 then Some answer.Worn else None)
    ≡ write_refusal false (len_of w) version at count
within w version at count len is fits = sym (ap (λ b. if b then Some (answer.Range (len_of w))
    else if version == 2 ^ 64 - 1 then Some answer.Worn else None)
    (le-ltb (len_of w) (at + count) (subst (λ (n : ℕ). at + count ≤ n) is fits)))

pub no_next : (w version at count len : ℕ) → len ≡ len_of w → at + count ≤ len
    → version ≡ 2 ^ 64 - 1 → Some answer.Worn ≡ write_refusal false (len_of w) version at count
no_next w version at count len is fits last =
    sym (ap (λ b. if b then Some answer.Worn else None) (eq-eqb version (2 ^ 64 - 1) last))
    ∙ within w version at count len is fits

pub may_go_on : (w version at count len : ℕ) → len ≡ len_of w → at + count ≤ len
    → (version ≡ 2 ^ 64 - 1 → ⊥) → None ≡ write_refusal false (len_of w) version at count
may_go_on w version at count len is fits next =
    sym (ap (λ b. if b then Some answer.Worn else None) (ne_eqb version (2 ^ 64 - 1) next))
    ∙ within w version at count len is fits

-- ---- the word of a far object
-- an object that is known to be far has the word of one
pub far_word : (shows : Shown → Type 0) (h w : ℕ) → ((s : Shown) × shows s × IsFarNow s h)
    → ((s : Shown) → shows s → Agree s (Looked h w ∷ [])) → state_of w ≡ state.Far
far_word shows h w (s, shown, away) agree =
    found_away (Looked h w ∷ []) s h w away (agree s shown) tt (inr ((refl, refl), tt))

-- one that a write found far is known to be so behind it
pub away_after : (runs : List Access → Type 0) (shows then_shows : Shown → Type 0)
    (far new : FarState) (h at : ℕ) (bytes : List ℕ) (r : Reply)
    → Performs runs (λ s. shows s × Sound s far) (WriteRule h at bytes r) (λ t. Sound t new)
    (WriteEffect h at bytes r) → r ≡ answer.NotHere
    → ((es : List Access) (s : Shown) → runs es → shows s → then_shows (played es s))
    → ((s : Shown) × shows s × Sound s far) → ((s : Shown) → shows s → IsFarNow s h)
    → (s : Shown) × then_shows s × IsFarNow s h
away_after runs shows then_shows far new h at bytes r p is follows (s, shown, sound) away =
    let t = played p.events s in
    let still : IsStill p.events s t =
    subst (λ (q : Reply). WriteEffect h at bytes q p.events s t) is (p.effect s (shown, sound)) in
    let a = away s shown in (
      t,
      follows p.events s p.ran shown,
      (a.0, a.1, a.2, ap (λ (os : List Object). get_or os h never) still.objects ∙ a.3),
    )

-- ---- a look, and a look at the version word
module _ {D : Type 0} (run : D → List Access → D → Type 0) (shows : D → Shown → Type 0) (h : ℕ)
    (x y : D) (far : FarState) where
  pub declines_gone : (at count : ℕ) → run x [] y → is_gone far h ≡ true
      → Declines run shows h at count (record { desk = x; far = far }) None
      (record { desk = y; far = far })
  declines_gone at count ran gone = (
    refl,
    record {
      events = [];
      ran = ran;
      looks_first = tt;
      rule = inl (gone, refl, refl);
      allowed = λ s k. tt;
      sound_after = λ s k. k.1;
      effect = λ s k. record {
        objects = refl;
        hots = refl;
        versions = refl;
        memory = refl;
        nothing = λ old. refl;
      };
    },
  )

  pub declines_by : (at count w v : ℕ) (declined : Option Reply)
      → run x (Looked h w ∷ Told h v ∷ []) y → is_gone far h ≡ false → state_of w ≡ state.Far
      → declined ≡ write_refusal false (len_of w) v at count
      → Declines run shows h at count (record { desk = x; far = far }) declined
      (record { desk = y; far = far })
  declines_by at count w v declined ran there away is = let es = Told h v ∷ [] in (
    refl,
    record {
      events = Looked h w ∷ Told h v ∷ [];
      ran = ran;
      looks_first = look_first [] es h w tt (refl, tt);
      rule = inr (there, (w, v, look_found [] es h w (refl, tt), away, inr (refl, refl), tt, is));
      allowed = λ s k. look_allowed [] es h w s tt (refl, tt);
      sound_after = λ s k. look_sound far s [] es h w k.1 tt (refl, tt);
      effect = λ s k. look_still s [] es h w tt (refl, tt);
    },
  )

  pub finds_by : (es : List Access) (w : ℕ) (r : Reply) → run x (Looked h w ∷ es) y → AreReads h es
      → Touches h (place_of w) (len_of w) es
      → AnsweredAs (state_of w) (λ v. r ≡ answer.Stays) w h (Looked h w ∷ es) r
      → FindsWhere run shows h (record { desk = x; far = far }) r (record { desk = y; far = far })
  finds_by es w r ran reads touches is = record {
    events = Looked h w ∷ es;
    ran = ran;
    looks_first = look_first [] es h w tt reads;
    rule = (
      refl,
      record {
        word = w;
        found = look_found [] es h w reads;
        touches = look_touches h w (place_of w) (len_of w) [] es tt touches;
        settles_last = look_settles_last h w [] es tt reads;
        answer = is;
      },
    );
    allowed = λ s k. look_allowed [] es h w s tt reads;
    sound_after = λ s k. look_sound far s [] es h w k.1 tt reads;
    effect = λ s k. look_still s [] es h w tt reads;
  }

-- ---- the answers of a look
pub is_here : (w h : ℕ) (es : List Access) → state_of w ≡ state.Here
    → AnsweredAs (state_of w) (λ v. answer.Stays ≡ answer.Stays) w h es answer.Stays
is_here w h es e = subst (λ (q : State). AnsweredAs q (λ v. answer.Stays ≡ answer.Stays) w h es answer.Stays)
    (sym e) refl

pub is_far : (w h : ℕ) (es : List Access) → state_of w ≡ state.Far
    → AnsweredAs (state_of w) (λ v. answer.NotHere ≡ answer.Stays) w h es answer.NotHere
is_far w h es e =
    subst (λ (q : State). AnsweredAs q (λ v. answer.NotHere ≡ answer.Stays) w h es answer.NotHere) (sym e)
    refl

pub is_moving : (w h : ℕ) (es : List Access) → state_of w ≡ state.Moving
    → AnsweredAs (state_of w) (λ v. answer.Moving ≡ answer.Stays) w h es answer.Moving
is_moving w h es e =
    subst (λ (q : State). AnsweredAs q (λ v. answer.Moving ≡ answer.Stays) w h es answer.Moving) (sym e)
    refl

pub is_empty : (w h v : ℕ) (r : Reply) → state_of w ≡ state.Empty → EmptyAnswer v r
    → AnsweredAs (state_of w) (λ u. r ≡ answer.Stays) w h (Looked h w ∷ Told h v ∷ []) r
is_empty w h v r e a = subst (λ (q : State). AnsweredAs q (λ u. r ≡ answer.Stays) w h
    (Looked h w ∷ Told h v ∷ []) r) (sym e) (v, inr (refl, refl), a)

pub never_made : (v : ℕ) → v ≡ 0 → EmptyAnswer v answer.Unmade
never_made v e = subst (λ (n : ℕ). EmptyAnswer n answer.Unmade) (sym e) refl

pub was_freed : (v : ℕ) → (v ≡ 0 → ⊥) → EmptyAnswer v answer.Freed
was_freed zero e = absurd (e refl)
was_freed (suc v) e = refl
