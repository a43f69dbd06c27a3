-- Calls that are each answered as the map answers them are legal.
use Rattle.std.proofs.Common.{◌≡◌, ℕ, ◌+◌, ◌<◌, ◌≤◌, cond, eqb, List, [], ◌∷◌, ◌++◌, length, Option, Some, None, refl, sym, ap, ◌∙◌, append_assoc, arith, inl, inr}
use Rattle.std.specs.List.{AllByRecursion, fold}
use Rattle.std.proofs.lemmas.Bool.{cases_Bool, eqb-true, eq-eqb}
use Rattle.std.proofs.lemmas.List.{append-nil}
use Rattle.std.proofs.lemmas.List.Concat.{flat_map-append}
use Rattle.std.proofs.lemmas.List.Sums.{fold-append}
use Rattle.cb_types.specs.declared.answer.Answer.{Answer}
use Rattle.cb_model.specs.declared.object.Object.TheVariants.{Held, Freed}
use Rattle.cb_model.specs.Now.{MapNow, Change, changed}
use Rattle.cb_model.specs.Event.{Event, change_of}
use Rattle.cb_model.specs.Event.Subject.{NewObject, Contents, Other, Nothing}
use Rattle.cb_model.specs.Event.Event.{Makes, Shows, Pins, Writes, Frees, FindsFull, FindsUnmade, FindsFreed, FindsEnd, Refused, Wrong}
use Rattle.cb_model.specs.History.{IsHistory, IsMadeWith, left_by, at_version}
use Rattle.cb_model.specs.Replies.{MapReplies, ObjectReplies}
use Rattle.cb_model.specs.Called.{Called, calls_of, change_to, changes_to, is_about, value, value_at, history, makes, made_by}
use Rattle.cb_model.specs.Legal.{IsTrueOf, NeverFalls, Rising, AreLegal, IsMapReply, IsUnmadeRight, Follow, IsLegalInOrder}
use Rattle.cb_model.proofs.Growing.{sorted, held_front, freed_front}
use Rattle.cb_model.proofs.Moves.{FitsAll, IsUnmade, fits, more_history, CoversAnswer, covers, still_covers, may_follow}

-- the changes of calls and of those behind them
pub changes_to-append : (h : ℕ) (xs ys : List Called)
    → changes_to h (xs ++ ys) ≡ changes_to h xs ++ changes_to h ys
changes_to-append h xs ys = flat_map-append (change_to h) xs ys

pub changes_to-push : (h : ℕ) (before : List Called) (call : Called)
    → changes_to h (before ++ call ∷ []) ≡ changes_to h before ++ change_to h call
changes_to-push h before call =
    changes_to-append h before (call ∷ []) ∙ ap (λ (cs : List (ℕ × Change)). changes_to h before ++ cs) (append-nil (change_to h call))

-- what the map has after one more call
pub value-push : (before : List Called) (call : Called) (h : ℕ)
    → value (before ++ call ∷ []) h ≡ fold changed (value before h) (change_to h call)
value-push before call h =
    ap left_by (changes_to-push h before call) ∙ fold-append changed None (changes_to h before) (change_to h call)

pub makes-append : (xs ys : List Called) → makes (xs ++ ys) ≡ makes xs + makes ys
makes-append [] ys = omega arith
makes-append (x ∷ xs) ys = omega (arith, makes-append xs ys)

pub makes-push : (before : List Called) (call : Called)
    → makes (before ++ call ∷ []) ≡ makes before + made_by call.event
makes-push before call = omega (arith, makes-append before (call ∷ []))

-- What holds of calls that followed the map: each handle has a history, and those not made have none.
pub record KeptHistories (first : ℕ) (calls : List Called) : Type 0 where
  pub histories : (h : ℕ) → IsHistory first (changes_to h calls)
  pub fresh : (h : ℕ) → makes calls ≤ h → changes_to h calls ≡ []

pub is_fresh : (first : ℕ) (calls : List Called) (h : ℕ) → KeptHistories first calls
    → IsUnmade (makes calls) h (value calls h)
is_fresh first calls h kept = λ le. ap left_by (kept.fresh h le)

-- the change of a call at a handle may come next there
pub fits_at : (first handles : ℕ) (before : List Called) (handle : Option ℕ) (event : Event) (h : ℕ)
    → KeptHistories first before
    → MapReplies first handles (makes before) handle (value_at before handle) event
    → FitsAll first (value before h) (cond (is_about h handle) (change_of event) [])
fits_at first handles before None event h kept m = tt
fits_at first handles before (Some k) event h kept m =
    elim (cases_Bool (eqb h k)) [
      | inl same ↦
          let one : h ≡ k = eqb-true h k same in
          rw (same, one) (fits first handles (makes before) k (value before k) event (is_fresh first before k kept) m)
      | inr differs ↦ rw differs tt
    ]

unchanged : (made : ℕ) (now : MapNow) (first handles k : ℕ) (event : Event) → now ≡ None
    → made + made_by event ≤ k → MapReplies first handles made (Some k) now event
    → change_of event ≡ []
unchanged made now first handles k (Makes bytes version) none le m =
    let at : k ≡ made = (let e = m.0 in cc) in absurd (omega arith)
unchanged made now first handles k (Writes at new version) none le m = absurd (rw none at m)
unchanged made now first handles k (Frees version) none le m = absurd (rw none at m)
unchanged made now first handles k (Shows version bytes) none le m = refl
unchanged made now first handles k (Pins version) none le m = refl
unchanged made now first handles k (FindsFull number) none le m = refl
unchanged made now first handles k FindsUnmade none le m = refl
unchanged made now first handles k FindsFreed none le m = refl
unchanged made now first handles k (FindsEnd at bytes len) none le m = refl
unchanged made now first handles k (Refused subject) none le m = refl
unchanged made now first handles k Wrong none le m = refl

fresh_at : (first handles : ℕ) (before : List Called) (handle : Option ℕ) (event : Event) (h : ℕ)
    → KeptHistories first before → makes before + made_by event ≤ h
    → MapReplies first handles (makes before) handle (value_at before handle) event
    → cond (is_about h handle) (change_of event) [] ≡ []
fresh_at first handles before None event h kept le m = refl
fresh_at first handles before (Some k) event h kept le m =
    elim (cases_Bool (eqb h k)) [
      | inl same ↦
          let one : h ≡ k = eqb-true h k same in
          let low : makes before + made_by event ≤ k = omega (arith, le, one) in
          rw same (unchanged (makes before) (value before k) first handles k event (ap left_by (kept.fresh k (omega (arith, low)))) low m)
      | inr differs ↦ rw differs refl
    ]

pub Kept-push : (first handles : ℕ) (before : List Called) (call : Called)
    → KeptHistories first before
    → IsMapReply first handles before call → KeptHistories first (before ++ call ∷ [])
Kept-push first handles before call kept reply = record {
  histories =
      λ h. rw (changes_to-push h before call) (more_history first (changes_to h before) (change_to h call) (kept.histories h) (fits_at first handles before call.handle call.event h kept reply.reply));
  fresh = λ h le.
      let count = makes-push before call in
      let none = kept.fresh h (omega (arith, le, count)) in
      let rest = fresh_at first handles before call.handle call.event h kept (omega (arith, le, count)) reply.reply in
      rw (changes_to-push h before call, none, rest) refl;
}

pub Kept-append : (first handles : ℕ) (before after : List Called) → KeptHistories first before
    → Follow first handles before after → KeptHistories first (before ++ after)
Kept-append first handles before [] kept follow = rw (append-nil before) kept
Kept-append first handles before (call ∷ after) kept follow =
    rw (← append_assoc before (call ∷ []) after) (Kept-append first handles (before ++ call ∷ []) after (Kept-push first handles before call kept follow.0) follow.1)

made_within : (first handles made : ℕ) (handle : Option ℕ) (now : MapNow) (event : Event)
    → made ≤ handles → MapReplies first handles made handle now event
    → made + made_by event ≤ handles
made_within first handles made handle now (Makes bytes version) le m = omega (arith, m.1)
made_within first handles made handle now (Writes at new version) le m = omega (arith, le)
made_within first handles made handle now (Frees version) le m = omega (arith, le)
made_within first handles made handle now (Shows version bytes) le m = omega (arith, le)
made_within first handles made handle now (Pins version) le m = omega (arith, le)
made_within first handles made handle now (FindsFull number) le m = omega (arith, le)
made_within first handles made handle now FindsUnmade le m = omega (arith, le)
made_within first handles made handle now FindsFreed le m = omega (arith, le)
made_within first handles made handle now (FindsEnd at bytes len) le m = omega (arith, le)
made_within first handles made handle now (Refused subject) le m = omega (arith, le)
made_within first handles made handle now Wrong le m = omega (arith, le)

-- no more are made than there are handles
pub makes-le : (first handles : ℕ) (before after : List Called) → makes before ≤ handles
    → Follow first handles before after → makes (before ++ after) ≤ handles
makes-le first handles before [] le follow = rw (append-nil before) le
makes-le first handles before (call ∷ after) le follow =
    let reply = follow.0 in
    let within = made_within first handles (makes before) call.handle (value_at before call.handle) call.event le reply.reply in
    rw (← append_assoc before (call ∷ []) after) (makes-le first handles (before ++ call ∷ []) after (omega (arith, makes-push before call, within)) follow.1)

-- what was answered on an object is true of a history that goes on from there
shows_on : (first h v : ℕ) (b : List ℕ) (front rest : List (ℕ × Change))
    → IsHistory first (front ++ rest) → (now : MapNow) → left_by front ≡ now
    → ObjectReplies now (Shows v b) → at_version (front ++ rest) v ≡ Some (Held v b)
shows_on first h v b front rest history None e m = absurd m
shows_on first h v b front rest history (Some (Held w c)) e m =
    rw (m.0, m.1) (held_front first front rest w c history e).0
shows_on first h v b front rest history (Some (Freed w)) e m = absurd m

pins_on : (first v : ℕ) (front rest : List (ℕ × Change)) → IsHistory first (front ++ rest)
    → (now : MapNow) → left_by front ≡ now → ObjectReplies now (Pins v)
    → (bytes : List ℕ) × (at_version (front ++ rest) v ≡ Some (Held v bytes))
pins_on first v front rest history None e m = absurd m
pins_on first v front rest history (Some (Held w c)) e m =
    (c, rw m (held_front first front rest w c history e).0)
pins_on first v front rest history (Some (Freed w)) e m = absurd m

ends_on : (first at len : ℕ) (new : List ℕ) (front rest : List (ℕ × Change))
    → IsHistory first (front ++ rest) → (now : MapNow) → left_by front ≡ now
    → ObjectReplies now (FindsEnd at new len)
    → IsMadeWith (front ++ rest) len × (len < at + length new)
ends_on first at len new front rest history None e m = absurd m
ends_on first at len new front rest history (Some (Held w c)) e m =
    (rw m.1 (held_front first front rest w c history e).1, omega (arith, m.0, m.1))
ends_on first at len new front rest history (Some (Freed w)) e m = absurd m

freed_on : (first : ℕ) (front rest : List (ℕ × Change)) → IsHistory first (front ++ rest)
    → (now : MapNow) → left_by front ≡ now → ObjectReplies now FindsFreed
    → (version : ℕ) × (left_by (front ++ rest) ≡ Some (Freed version))
freed_on first front rest history None e m = absurd m
freed_on first front rest history (Some (Held w c)) e m = absurd m
freed_on first front rest history (Some (Freed w)) e m =
    (w, rw (freed_front first front rest w history e, append-nil front) e)

wrong_never : (now : MapNow) → ObjectReplies now Wrong → ⊥
wrong_never None m = m
wrong_never (Some (Held v b)) m = m
wrong_never (Some (Freed v)) m = m

-- the history of a handle goes on from its changes so far
abbrev pub GoesOnFrom : ℕ → List Called → List Called → ℕ → Type 0
GoesOnFrom first before all h =
    (rest : List (ℕ × Change)) × (history all h ≡ changes_to h before ++ rest) × IsHistory first (changes_to h before ++ rest)

-- an answer of the map is true of all calls
true_of : (first handles : ℕ) (before all : List Called) (handle : Option ℕ) (event : Event)
    → makes before ≤ makes all → makes all ≤ handles → ((h : ℕ) → GoesOnFrom first before all h)
    → MapReplies first handles (makes before) handle (value_at before handle) event
    → IsUnmadeRight handle event → IsTrueOf handles all handle event
true_of first handles before all (Some h) (Makes bytes version) more few on m right =
    let at : h ≡ makes before = (let e = m.0 in cc) in omega (arith, at, m.1)
true_of first handles before all None (Makes bytes version) more few on m right =
    absurd (let e = m.0 in cc)
true_of first handles before all None (FindsFull number) more few on m right =
    (omega (arith, more, few, m.0), m.1)
true_of first handles before all (Some h) (FindsFull number) more few on m right =
    (omega (arith, more, few, m.0), m.1)
true_of first handles before all None (Refused NewObject) more few on m right = tt
true_of first handles before all (Some h) (Refused NewObject) more few on m right = tt
true_of first handles before all None (Refused Nothing) more few on m right = tt
true_of first handles before all (Some h) (Refused Nothing) more few on m right = tt
true_of first handles before all None (Refused Contents) more few on m right = absurd m
true_of first handles before all (Some h) (Refused Contents) more few on m right = tt
true_of first handles before all None (Refused Other) more few on m right = absurd m
true_of first handles before all (Some h) (Refused Other) more few on m right = tt
true_of first handles before all None FindsUnmade more few on m right = tt
true_of first handles before all (Some h) FindsUnmade more few on m right = absurd right
true_of first handles before all None (Shows version bytes) more few on m right = absurd m
true_of first handles before all (Some h) (Shows version bytes) more few on m right =
    let f = on h in rw f.1 (shows_on first h version bytes (changes_to h before) f.0 f.2 (value before h) refl m)
true_of first handles before all None (Pins version) more few on m right = absurd m
true_of first handles before all (Some h) (Pins version) more few on m right =
    let f = on h in rw f.1 (pins_on first version (changes_to h before) f.0 f.2 (value before h) refl m)
true_of first handles before all None (Writes at new version) more few on m right = absurd m
true_of first handles before all (Some h) (Writes at new version) more few on m right = tt
true_of first handles before all None (Frees version) more few on m right = absurd m
true_of first handles before all (Some h) (Frees version) more few on m right = tt
true_of first handles before all None FindsFreed more few on m right = absurd m
true_of first handles before all (Some h) FindsFreed more few on m right =
    let f = on h in rw f.1 (freed_on first (changes_to h before) f.0 f.2 (value before h) refl m)
true_of first handles before all None (FindsEnd at new len) more few on m right = absurd m
true_of first handles before all (Some h) (FindsEnd at new len) more few on m right =
    let f = on h in rw f.1 (ends_on first at len new (changes_to h before) f.0 f.2 (value before h) refl m)
true_of first handles before all None Wrong more few on m right = absurd m
true_of first handles before all (Some h) Wrong more few on m right =
    absurd (wrong_never (value before h) m)

goes_on_from : (first : ℕ) (before after : List Called) (h : ℕ)
    → KeptHistories first (before ++ after)
    → GoesOnFrom first before (before ++ after) h
goes_on_from first before after h kept =
    let split = changes_to-append h before after in
    let whole : IsHistory first (changes_to h before ++ changes_to h after) = rw split at (kept.histories h) in
    (changes_to h after, sorted first (changes_to h (before ++ after)) (kept.histories h) ∙ split, whole)

-- so is each answer that follows
all_true : (first handles : ℕ) (all before after : List Called) → all ≡ before ++ after
    → KeptHistories first all → makes all ≤ handles → Follow first handles before after
    → AllByRecursion (λ call. IsTrueOf handles all call.handle call.event) after
all_true first handles all before [] e kept few follow = tt
all_true first handles all before (call ∷ after) e kept few follow =
    let on : (h : ℕ) → GoesOnFrom first before all h = λ h. rw e (goes_on_from first before (call ∷ after) h (rw e at kept)) in
    let more : makes before ≤ makes all = omega (arith, ap makes e, makes-append before (call ∷ after)) in (
      true_of first handles before all call.handle call.event more few on follow.0.reply follow.0.unmade,
      all_true first handles all (before ++ call ∷ []) after (e ∙ sym (append_assoc before (call ∷ []) after)) kept few follow.1,
    )

one_handle : (h k : ℕ) → Some h ≡ Some k → h ≡ k
one_handle h k e = cc

-- each later call may follow one that was told of what the map has
none_falls : (first handles h : ℕ) (call : Called) (before after : List Called)
    → call.handle ≡ Some h → CoversAnswer call.event (value before h) → KeptHistories first before
    → Follow first handles before after → AllByRecursion (NeverFalls call) after
none_falls first handles h call before [] about told kept follow = tt
none_falls first handles h call before (b ∷ after) about told kept follow = (
  λ k teller earlier later.
      let one : h ≡ k = one_handle h k (sym about ∙ earlier) in
      let m : MapReplies first handles (makes before) (Some k) (value before k) b.event = rw later at follow.0.reply in
      may_follow first handles (makes before) k (value before k) call.event b.event (rw one at told) (is_fresh first before k kept) m,
  none_falls first handles h call (before ++ b ∷ []) after about
      (rw (value-push before b h) (still_covers first call.event (value before h) (change_to h b) told (fits_at first handles before b.handle b.event h kept follow.0.reply)))
      (Kept-push first handles before b kept follow.0) follow.1,
)

-- a call on no handle bounds no other
unbound : (call : Called) (after : List Called) → call.handle ≡ None
    → AllByRecursion (NeverFalls call) after
unbound call [] none = tt
unbound call (b ∷ after) none =
    (λ k teller earlier later. let both : None ≡ Some k = sym none ∙ earlier in absurd cc, unbound call after none)

told_now : (first handles h : ℕ) (before : List Called) (call : Called) → call.handle ≡ Some h
    → MapReplies first handles (makes before) call.handle (value_at before call.handle) call.event
    → CoversAnswer call.event (value (before ++ call ∷ []) h)
told_now first handles h before call about m =
    let m_here : MapReplies first handles (makes before) (Some h) (value before h) call.event = rw about at m in
    let here : change_to h call ≡ change_of call.event = rw (about, eq-eqb h h refl) refl in
    rw (value-push before call h, here) (covers first handles (makes before) h (value before h) call.event m_here)

falls_behind : (first handles : ℕ) (before : List Called) (call : Called) (after : List Called) (handle : Option ℕ)
    → call.handle ≡ handle → KeptHistories first before → IsMapReply first handles before call
    → Follow first handles (before ++ call ∷ []) after → AllByRecursion (NeverFalls call) after
falls_behind first handles before call after None about kept reply follow = unbound call after about
falls_behind first handles before call after (Some h) about kept reply follow =
    none_falls first handles h call (before ++ call ∷ []) after about (told_now first handles h before call about reply.reply) (Kept-push first handles before call kept reply) follow

rises : (first handles : ℕ) (before after : List Called) → KeptHistories first before
    → Follow first handles before after → Rising after
rises first handles before [] kept follow = tt
rises first handles before (call ∷ after) kept follow = (
  falls_behind first handles before call after call.handle refl kept follow.0 follow.1,
  rises first handles (before ++ call ∷ []) after (Kept-push first handles before call kept follow.0) follow.1,
)

pub none_yet : (first : ℕ) → KeptHistories first []
none_yet first = record { histories = λ h. tt; fresh = λ h le. refl }

pub Follow-AreLegal : (first handles : ℕ) (calls : List Called) → Follow first handles [] calls
    → AreLegal first handles calls
Follow-AreLegal first handles calls follow =
    let kept = Kept-append first handles [] calls (none_yet first) follow in
    let few = makes-le first handles [] calls (omega arith) follow in
    record {
      histories = λ h. rw (sorted first (changes_to h calls) (kept.histories h)) (kept.histories h);
      told = all_true first handles calls [] calls refl kept few follow;
      rising = rises first handles [] calls (none_yet first) follow;
    }

-- Answers that are each the map's reply after those before it are legal: the handles have histories,
-- each answer is true of them, and no version falls.
pub legal_in_order : (first handles : ℕ) (answers : List Answer)
    → Follow first handles [] (calls_of answers) → IsLegalInOrder first handles answers
legal_in_order first handles answers follow = record { legal = Follow-AreLegal first handles (calls_of answers) follow; in_order = follow }
