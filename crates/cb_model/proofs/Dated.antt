-- Legal answers whose times tell versions are shown by their history.
use Rattle.std.proofs.Common.{◌≡◌, ℕ, zero, suc, ◌+◌, true, cond, eqb, List, [], ◌∷◌, ◌++◌, length, take, Option, Some, None, refl, sym, ap, ◌∙◌, append_assoc, arith, inl, inr}
use Rattle.std.specs.Prelude.{◌⊎◌, nat_le}
use Rattle.std.specs.List.{AllByRecursion, filter}
use Rattle.std.proofs.lemmas.Bool.{cases_Bool, eq-eqb, eqb-true}
use Rattle.std.proofs.lemmas.List.{append-nil}
use Rattle.std.proofs.lemmas.List.Concat.{flat_map-append}
use Rattle.std.proofs.lemmas.List.Sums.{fold-append}
use Rattle.cb_types.specs.declared.answer.Answer.{Answer}
use Rattle.std.specs.Str.{bytes_eq}
use Rattle.cb_types.specs.declared.request.Request.{Request}
use Rattle.cb_types.specs.declared.request.Request.TheVariants.{Make}
use Rattle.cb_types.specs.declared.reply.Reply.{Reply}
use Rattle.cb_types.specs.declared.reply.Reply.TheVariants.{Made}
use Rattle.cb_types.specs.Requests.{name_of}
use Rattle.cb_model.specs.declared.object.Object.TheVariants.{Held, Freed}
use Rattle.cb_model.specs.Now.{MapNow, Change, changed}
use Rattle.cb_model.specs.Now.Change.{Create, Overwrite, Remove}
use Rattle.cb_model.specs.Event.{Event, event_of, change_of}
use Rattle.cb_model.specs.Event.Subject.{NewObject, Contents, Other, Nothing}
use Rattle.cb_model.specs.Event.Event.{Makes, Shows, Pins, Writes, Frees, FindsFull, FindsUnmade, FindsFreed, FindsEnd, Refused, Wrong}
use Rattle.cb_model.specs.History.{IsHistory, at_version, by_version, left_by, placed}
use Rattle.cb_model.specs.Replies.{MapReplies}
use Rattle.cb_model.specs.Called.{Called, first_of, handle_for, handle_made, handle_named, handle_of, called, calls_of, calls_behind, change_to, changes_to, history, is_about}
use Rattle.cb_model.specs.Legal.{IsTrueOf, IsUnmadeRight}
use Rattle.cb_model.proofs.Order.{changes_to-append}
use Rattle.cb_model.specs.Serial.{IsSerial}
use Rattle.cb_model.specs.Times.{Timed, untimed, is_change, changes, changes_at, changed_before}
use Rattle.cb_model.specs.Shown.{HandleChange, EachCallHolds, change_at, changes_of, left_at, next_of, objects_made}
use Rattle.cb_model.specs.Dated.{newer, newest, newest_at, HasVersion, IsLive, IsRemoval, TellsTime, IsDated, AreDated}
use Rattle.cb_model.proofs.Stages.{weaker}
use Rattle.cb_model.proofs.Following.{passing, its_time}
use Rattle.cb_model.proofs.Shown.{HasSame, HoldsThen, IsNext, IsShownThen, same_at, holds_then, change_is, take_next, serial_shown}
use Rattle.cb_model.proofs.Versions.{In, IsLater, made_at, left_at_next, held_before, freed_at, kept_at, one_length, IsHeldAt}

-- ---- a call's change stands in the history of its object
in_left : (c : ℕ × Change) (xs ys : List (ℕ × Change)) → In c xs → In c (xs ++ ys)
in_left c [] ys is = absurd is
in_left c (x ∷ xs) ys (inl e) = inl e
in_left c (x ∷ xs) ys (inr is) = inr (in_left c xs ys is)

in_right : (c : ℕ × Change) (xs ys : List (ℕ × Change)) → In c ys → In c (xs ++ ys)
in_right c [] ys is = is
in_right c (x ∷ xs) ys is = inr (in_right c xs ys is)

further : (c d x : ℕ × Change) (xs : List (ℕ × Change))
    → ((c ≡ d) ⊎ In c xs → In c (placed d xs)) → (c ≡ d) ⊎ In c (x ∷ xs)
    → In c (x ∷ placed d xs)
further c d x xs on (inl e) = inr (on (inl e))
further c d x xs on (inr (inl e)) = inl e
further c d x xs on (inr (inr is)) = inr (on (inr is))

in_placed : (c d : ℕ × Change) (ds : List (ℕ × Change)) → (c ≡ d) ⊎ In c ds → In c (placed d ds)
in_placed c d [] is = is
in_placed c d (x ∷ xs) is =
    elim (cases_Bool (nat_le d.0 x.0)) [
      | inl le ↦ rw le is
      | inr gt ↦ rw gt (further c d x xs (in_placed c d xs) is)
    ]

in_sorted : (c : ℕ × Change) (ds : List (ℕ × Change)) → In c ds → In c (by_version ds)
in_sorted c [] is = is
in_sorted c (d ∷ ds) (inl e) = in_placed c d (by_version ds) (inl e)
in_sorted c (d ∷ ds) (inr is) = in_placed c d (by_version ds) (inr (in_sorted c ds is))

in_history : (done rest : List Called) (call : Called) (h : ℕ) (c : ℕ × Change)
    → call.handle ≡ Some h → change_of call.event ≡ c ∷ []
    → In c (history (done ++ call ∷ rest) h)
in_history done rest call h c about is =
    let here : change_to h call ≡ c ∷ [] = rw (about, eq-eqb h h refl) is in
    let there : In c (change_to h call) = rw here (inl refl) in
    let among : In c (changes_to h done ++ changes_to h (call ∷ rest)) = in_right c (changes_to h done) (changes_to h (call ∷ rest)) (in_left c (change_to h call) (changes_to h rest) there) in
    in_sorted c (changes_to h (done ++ call ∷ rest)) (rw (changes_to-append h done (call ∷ rest)) among)

-- ---- what is known of each call
record IsFact (handles : ℕ) (log : List HandleChange) (calls : List Called) (time : ℕ) (call : Called)
    : Type 0 where
  pub dated : IsDated handles log time call
  pub told : IsTrueOf handles calls call.handle call.event
  pub there : (h : ℕ) (c : ℕ × Change) → call.handle ≡ Some h → change_of call.event ≡ c ∷ []
      → In c (history calls h)

facts : (handles : ℕ) (log : List HandleChange) (calls done : List Called) (before : List Answer) (ts : List Timed)
    → calls ≡ done ++ calls_behind before (untimed ts)
    → AllByRecursion (λ (call : Called). IsTrueOf handles calls call.handle call.event) (calls_behind before (untimed ts))
    → EachCallHolds (IsDated handles log) before ts → EachCallHolds (IsFact handles log calls) before ts
facts handles log calls done before [] e told dated = tt
facts handles log calls done before (t ∷ ts) e told dated =
    let call = called before t.answer in
    let rest = calls_behind (before ++ t.answer ∷ []) (untimed ts) in (
      record { dated = dated.0; told = told.0; there = λ h c about is. rw e (in_history done rest call h c about is) },
      facts handles log calls (done ++ call ∷ []) (before ++ t.answer ∷ []) ts (e ∙ sym (append_assoc done (call ∷ []) rest)) told.1 dated.1,
    )

-- ---- what the changes leave is what the object had at the version of the newest
abbrev value_by : List (ℕ × Change) → Option (ℕ × Change) → MapNow
value_by all None = None
value_by all (Some c) = at_version all c.0

record SoFar (all cs : List (ℕ × Change)) : Type 0 where
  pub value : left_by cs ≡ value_by all (newest cs)
  pub there : (c : ℕ × Change) → newest cs ≡ Some c → In c all

newest-push : (cs : List (ℕ × Change)) (c : ℕ × Change) → newest (cs ++ c ∷ []) ≡ Some c
newest-push [] c = refl
newest-push (d ∷ cs) c = ap (λ (last : Option (ℕ × Change)). newer d last) (newest-push cs c)

left_by-push : (cs : List (ℕ × Change)) (c : ℕ × Change)
    → left_by (cs ++ c ∷ []) ≡ changed (left_by cs) c
left_by-push cs c = fold-append changed None cs (c ∷ [])

of_version : (all : List (ℕ × Change)) (last : Option (ℕ × Change)) (w : ℕ) → HasVersion w last
    → value_by all last ≡ at_version all w
of_version all None w is = absurd is
of_version all (Some c) w is = ap (λ (v : ℕ). at_version all v) is

one_of : (c d : ℕ × Change) → Some c ≡ Some d → c ≡ d
one_of c d e = cc

pushed : (all cs : List (ℕ × Change)) (c : ℕ × Change) → changed (left_by cs) c ≡ at_version all c.0
    → In c all → SoFar all (cs ++ c ∷ [])
pushed all cs c value is = record {
  value = left_by-push cs c ∙ value ∙ ap (λ (last : Option (ℕ × Change)). value_by all last) (sym (newest-push cs c));
  there = λ d e. (let same : c ≡ d = one_of c d (sym (newest-push cs c) ∙ e) in rw same at is);
}

grow_later : (first : ℕ) (all cs : List (ℕ × Change)) (v w : ℕ) (c : Change) → IsHistory first all
    → SoFar all cs → HasVersion w (newest cs) → v ≡ w + 1 → IsLater c → In (v, c) all
    → SoFar all (cs ++ (v, c) ∷ [])
grow_later first all cs v w c h so last up later is =
    pushed all cs (v, c) (ap (λ (now : MapNow). changed now (v, c)) (so.value ∙ of_version all (newest cs) w last) ∙ sym (left_at_next first v w c all h is later up)) is

grow : (first handles made k : ℕ) (all cs : List (ℕ × Change)) (event : Event) → IsHistory first all
    → SoFar all cs → is_change event ≡ true → TellsTime handles made (Some k) (newest cs) event
    → ((c : ℕ × Change) → change_of event ≡ c ∷ [] → In c all)
    → SoFar all (cs ++ change_of event)
grow first handles made k all cs (Makes bytes version) h so is tells there =
    let m = made_at first version bytes all h (there (version, Create bytes) refl) in
    let none : left_by cs ≡ None = so.value ∙ ap (λ (last : Option (ℕ × Change)). value_by all last) tells.1 in
    pushed all cs (version, Create bytes) (sym m.1) (there (version, Create bytes) refl)
grow first handles made k all cs (Writes at bytes version) h so is tells there =
    grow_later first all cs version tells.0 (Overwrite at bytes) h so tells.1 tells.2 tt (there (version, Overwrite at bytes) refl)
grow first handles made k all cs (Frees version) h so is tells there =
    grow_later first all cs version tells.0 Remove h so tells.1 tells.2 tt (there (version, Remove) refl)
grow first handles made k all cs (Shows version bytes) h so is tells there = absurd cc
grow first handles made k all cs (Pins version) h so is tells there = absurd cc
grow first handles made k all cs (FindsFull number) h so is tells there = absurd cc
grow first handles made k all cs FindsUnmade h so is tells there = absurd cc
grow first handles made k all cs FindsFreed h so is tells there = absurd cc
grow first handles made k all cs (FindsEnd at bytes len) h so is tells there = absurd cc
grow first handles made k all cs (Refused subject) h so is tells there = absurd cc
grow first handles made k all cs Wrong h so is tells there = absurd cc

-- at each handle
grow_at : (first handles made h : ℕ) (calls : List Called) (cs : List (ℕ × Change)) (handle : Option ℕ) (event : Event)
    → IsHistory first (history calls h) → SoFar (history calls h) cs → is_change event ≡ true
    → (handle ≡ Some h → TellsTime handles made handle (newest cs) event)
    → ((c : ℕ × Change) → handle ≡ Some h → change_of event ≡ c ∷ [] → In c (history calls h))
    → SoFar (history calls h) (cs ++ cond (is_about h handle) (change_of event) [])
grow_at first handles made h calls cs None event is so change tells there = rw (append-nil cs) so
grow_at first handles made h calls cs (Some k) event is so change tells there =
    elim (cases_Bool (eqb h k)) [
      | inl same ↦
          let one : Some k ≡ Some h = ap (λ (n : ℕ). Some n) (sym (eqb-true h k same)) in
          rw same (grow first handles made k (history calls h) cs event is so change (tells one) (λ c e. there c one e))
      | inr differs ↦ rw (differs, append-nil cs) so
    ]

-- ---- after so many changes of the history
abbrev FactThen : ℕ → List HandleChange → List Called → List Timed → Timed → Type 0
FactThen handles log calls ts t = HoldsThen (IsFact handles log calls) ts t

so_more : (first handles n h : ℕ) (log : List HandleChange) (calls : List Called) (call : Called)
    → IsHistory first (history calls h) → SoFar (history calls h) (changes_of h (take n log))
    → is_change call.event ≡ true → IsFact handles log calls n call
    → SoFar (history calls h) (changes_of h (take n log ++ next_of n log))
so_more first handles n h log calls call is so change fact =
    let part = take n log in
    let tells : call.handle ≡ Some h → TellsTime handles (objects_made part) call.handle (newest (changes_of h part)) call.event =
    λ about. (let at : newest_at part call.handle ≡ newest (changes_of h part) = rw about refl in rw at at fact.dated.tells) in
    let more = grow_at first handles (objects_made part) h calls (changes_of h part) call.handle call.event is so change tells (λ c about e. fact.there h c about e) in
    rw (flat_map-append (change_at h) part (next_of n log), ← fact.dated.next change) (rw (change_is h call.handle call.event) at more)

so_all : (first handles n h : ℕ) (log : List HandleChange) (calls : List Called) (xs : List Answer) (ts : List Timed)
    → IsHistory first (history calls h) → SoFar (history calls h) (changes_of h (take n log))
    → length ts ≡ length (next_of n log)
    → AllByRecursion (λ (t : Timed). (is_change (event_of t.answer.request t.answer.reply) ≡ true) × IsFact handles log calls n (called xs t.answer)) ts
    → SoFar (history calls h) (changes_of h (take n log ++ next_of n log))
so_all first handles n h log calls xs [] is so few all = nothing_next (next_of n log) few where
  nothing_next : (next : List HandleChange) → 0 ≡ length next
      → SoFar (history calls h) (changes_of h (take n log ++ next))
  nothing_next [] e = rw (append-nil (take n log)) so
  nothing_next (s ∷ next) e = absurd (omega (arith, e))
so_all first handles n h log calls xs (t ∷ ts) is so few all =
    so_more first handles n h log calls (called xs t.answer) is so all.0.0 all.0.1

fact_then : (handles n : ℕ) (log : List HandleChange) (calls : List Called) (ts : List Timed) (t : Timed)
    → (changes_at n t ≡ true) × FactThen handles log calls ts t
    → (is_change (event_of t.answer.request t.answer.reply) ≡ true) × IsFact handles log calls n (called (untimed (changed_before n ts)) t.answer)
fact_then handles n log calls ts t is =
    let at = its_time n t (changes t) is.0 in (at.1, rw at.0 at is.1)

so_far : (first handles : ℕ) (log : List HandleChange) (calls : List Called) (ts : List Timed)
    → ((h : ℕ) → IsHistory first (history calls h))
    → ((n : ℕ) → length (filter (changes_at n) ts) ≡ length (next_of n log))
    → AllByRecursion (FactThen handles log calls ts) ts → (n h : ℕ)
    → SoFar (history calls h) (changes_of h (take n log))
so_far first handles log calls ts are each all zero h = record { value = refl; there = λ c e. absurd cc }
so_far first handles log calls ts are each all (suc n) h =
    let xs = untimed (changed_before n ts) in
    let then = weaker (λ (t : Timed). (changes_at n t ≡ true) × FactThen handles log calls ts t) (λ (t : Timed). (is_change (event_of t.answer.request t.answer.reply) ≡ true) × IsFact handles log calls n (called xs t.answer)) (fact_then handles n log calls ts) (filter (changes_at n) ts) (passing (changes_at n) (FactThen handles log calls ts) ts all) in
    rw (take_next n log) (so_all first handles n h log calls xs (filter (changes_at n) ts) (are h) (so_far first handles log calls ts are each all n h) (each n) then)

-- ---- so each call was answered as the map answers it then
kept_now : (first : ℕ) (all cs : List (ℕ × Change)) (last : Option (ℕ × Change)) → IsHistory first all
    → SoFar all cs → newest cs ≡ last → IsLive last
    → (v : ℕ) × (at : IsHeldAt all v) × (left_by cs ≡ Some (Held v at.bytes))
kept_now first all cs None h so e kept = absurd kept
kept_now first all cs (Some (v, Remove)) h so e kept = absurd kept
kept_now first all cs (Some (v, Create b)) h so e kept =
    let at = kept_at first v (Create b) all h (so.there (v, Create b) e) (λ same. absurd cc) in
    (v, at, so.value ∙ ap (λ (last : Option (ℕ × Change)). value_by all last) e ∙ at.held)
kept_now first all cs (Some (v, Overwrite place b)) h so e kept =
    let at = kept_at first v (Overwrite place b) all h (so.there (v, Overwrite place b) e) (λ same. absurd cc) in
    (v, at, so.value ∙ ap (λ (last : Option (ℕ × Change)). value_by all last) e ∙ at.held)

freed_now : (first : ℕ) (all cs : List (ℕ × Change)) (last : Option (ℕ × Change)) → IsHistory first all
    → SoFar all cs → newest cs ≡ last → IsRemoval last → (v : ℕ) × (left_by cs ≡ Some (Freed v))
freed_now first all cs None h so e is = absurd is
freed_now first all cs (Some (v, Create b)) h so e is = absurd is
freed_now first all cs (Some (v, Overwrite place b)) h so e is = absurd is
freed_now first all cs (Some (v, Remove)) h so e is =
    (v, so.value ∙ ap (λ (last : Option (ℕ × Change)). value_by all last) e ∙ freed_at first v all h (so.there (v, Remove) e))

abbrev IsThere : Option (ℕ × Change) → Type 0
IsThere None = ⊥
IsThere (Some c) = Unit {0}

there_now : (first handles made k : ℕ) (all cs : List (ℕ × Change)) (last : Option (ℕ × Change))
    → IsHistory first all → SoFar all cs → newest cs ≡ last → IsThere last
    → MapReplies first handles made (Some k) (left_by cs) (Refused Other)
there_now first handles made k all cs None h so e is = absurd is
there_now first handles made k all cs (Some (v, Remove)) h so e is =
    let freed = freed_now first all cs (Some (v, Remove)) h so e tt in rw freed.1 tt
there_now first handles made k all cs (Some (v, Create b)) h so e is =
    let kept = kept_now first all cs (Some (v, Create b)) h so e tt in rw kept.2 tt
there_now first handles made k all cs (Some (v, Overwrite place b)) h so e is =
    let kept = kept_now first all cs (Some (v, Overwrite place b)) h so e tt in rw kept.2 tt

one_handle : (h k : ℕ) → Some h ≡ Some k → h ≡ k
one_handle h k e = cc

-- the part of the answer that a handle has
reply_at : (first handles made h : ℕ) (calls : List Called) (cs : List (ℕ × Change)) (event : Event)
    → IsHistory first (history calls h) → SoFar (history calls h) cs
    → IsTrueOf handles calls (Some h) event → TellsTime handles made (Some h) (newest cs) event
    → ((c : ℕ × Change) → change_of event ≡ c ∷ [] → In c (history calls h))
    → (event ≡ Refused Other → IsThere (newest cs))
    → MapReplies first handles made (Some h) (left_by cs) event
reply_at first handles made h calls cs (Makes bytes version) is so told tells there other =
    let m = made_at first version bytes (history calls h) is (there (version, Create bytes) refl) in
    (tells.0, omega (arith, told, one_handle h made tells.0), m.0)
reply_at first handles made h calls cs (Shows version bytes) is so told tells there other =
    rw (so.value ∙ of_version (history calls h) (newest cs) version tells ∙ told) (refl, refl)
reply_at first handles made h calls cs (Pins version) is so told tells there other =
    rw (so.value ∙ of_version (history calls h) (newest cs) version tells ∙ told.1) refl
reply_at first handles made h calls cs (Writes at bytes version) is so told tells there other =
    let x = held_before first version tells.0 (Overwrite at bytes) (history calls h) is (there (version, Overwrite at bytes) refl) tt tells.2 in
    let before = x.2 in
    rw (so.value ∙ of_version (history calls h) (newest cs) tells.0 tells.1 ∙ before.held) (omega (arith, before.within, before.long), tells.2)
reply_at first handles made h calls cs (Frees version) is so told tells there other =
    let x = held_before first version tells.0 Remove (history calls h) is (there (version, Remove) refl) tt tells.2 in
    let before = x.2 in
    rw (so.value ∙ of_version (history calls h) (newest cs) tells.0 tells.1 ∙ before.held) tells.2
reply_at first handles made h calls cs (FindsFull number) is so told tells there other = (tells, told.1)
reply_at first handles made h calls cs FindsUnmade is so told tells there other = absurd told
reply_at first handles made h calls cs FindsFreed is so told tells there other =
    let freed = freed_now first (history calls h) cs (newest cs) is so refl tells in rw freed.1 tt
reply_at first handles made h calls cs (FindsEnd at bytes len) is so told tells there other =
    let kept = kept_now first (history calls h) cs (newest cs) is so refl tells in
    let same : len ≡ length kept.1.bytes = one_length (history calls h) len (length kept.1.bytes) told.0 kept.1.long in
    rw kept.2 (omega (arith, same, told.1), same)
reply_at first handles made h calls cs (Refused NewObject) is so told tells there other = tells
reply_at first handles made h calls cs (Refused Contents) is so told tells there other =
    let kept = kept_now first (history calls h) cs (newest cs) is so refl tells in rw kept.2 tt
reply_at first handles made h calls cs (Refused Other) is so told tells there other =
    there_now first handles made h (history calls h) cs (newest cs) is so refl (other refl)
reply_at first handles made h calls cs (Refused Nothing) is so told tells there other = tt
reply_at first handles made h calls cs Wrong is so told tells there other = absurd told

-- and that of a call on no handle
reply_none : (first handles made : ℕ) (calls : List Called) (event : Event)
    → IsTrueOf handles calls None event → TellsTime handles made None None event
    → MapReplies first handles made None None event
reply_none first handles made calls (Makes bytes version) told tells = absurd told
reply_none first handles made calls (Shows version bytes) told tells = absurd told
reply_none first handles made calls (Pins version) told tells = absurd told
reply_none first handles made calls (Writes at bytes version) told tells = absurd told
reply_none first handles made calls (Frees version) told tells = absurd told
reply_none first handles made calls (FindsFull number) told tells = (tells, told.1)
reply_none first handles made calls FindsUnmade told tells = tt
reply_none first handles made calls FindsFreed told tells = absurd told
reply_none first handles made calls (FindsEnd at bytes len) told tells = absurd told
reply_none first handles made calls (Refused NewObject) told tells = tells
reply_none first handles made calls (Refused Contents) told tells = absurd told
reply_none first handles made calls (Refused Other) told tells = absurd told
reply_none first handles made calls (Refused Nothing) told tells = tt
reply_none first handles made calls Wrong told tells = absurd told

-- no call on a handle is told unmade
unmade_right : (handles : ℕ) (calls : List Called) (handle : Option ℕ) (event : Event)
    → IsTrueOf handles calls handle event → IsUnmadeRight handle event
unmade_right handles calls (Some h) FindsUnmade told = absurd told
unmade_right handles calls (Some h) (Makes bytes version) told = tt
unmade_right handles calls (Some h) (Shows version bytes) told = tt
unmade_right handles calls (Some h) (Pins version) told = tt
unmade_right handles calls (Some h) (Writes at bytes version) told = tt
unmade_right handles calls (Some h) (Frees version) told = tt
unmade_right handles calls (Some h) (FindsFull number) told = tt
unmade_right handles calls (Some h) FindsFreed told = tt
unmade_right handles calls (Some h) (FindsEnd at bytes len) told = tt
unmade_right handles calls (Some h) (Refused subject) told = tt
unmade_right handles calls (Some h) Wrong told = tt
unmade_right handles calls None event told = tt

reply_then : (first handles made : ℕ) (calls : List Called) (part : List HandleChange) (handle : Option ℕ) (event : Event)
    → ((h : ℕ) → IsHistory first (history calls h))
    → ((h : ℕ) → SoFar (history calls h) (changes_of h part))
    → IsTrueOf handles calls handle event → TellsTime handles made handle (newest_at part handle) event
    → ((h : ℕ) (c : ℕ × Change) → handle ≡ Some h → change_of event ≡ c ∷ [] → In c (history calls h))
    → ((h : ℕ) → handle ≡ Some h → event ≡ Refused Other → IsThere (newest (changes_of h part)))
    → MapReplies first handles made handle (left_at part handle) event
reply_then first handles made calls part None event are so told tells there other =
    reply_none first handles made calls event told tells
reply_then first handles made calls part (Some h) event are so told tells there other =
    reply_at first handles made h calls (changes_of h part) event (are h) (so h) told tells (λ c e. there h c refl e) (other h refl)

-- ---- a name with a handle was made, so its object is there
in_there : (c : ℕ × Change) (cs : List (ℕ × Change)) → In c cs → IsThere (newest cs)
in_there c [] is = is
in_there c (d ∷ cs) is = some (newest cs) where
  some : (last : Option (ℕ × Change)) → IsThere (newer d last)
  some None = tt
  some (Some e) = tt

made_here : (h : ℕ) (name : List ℕ) (before : List Answer) (a : Answer) (request : Request) (reply : Reply)
    → handle_made name request reply ≡ Some h
    → (c : ℕ × Change) × In c (cond (is_about h (handle_for before request reply)) (change_of (event_of request reply)) [])
made_here h name before a (Make made bytes) (Made handle version) is =
    elim (cases_Bool (bytes_eq made name)) [
      | inl same ↦
          let one : handle.n ≡ h = one_handle handle.n h (rw same at is) in
          ((version, Create bytes), rw (eq-eqb h handle.n (sym one)) (inl refl))
      | inr differs ↦ absurd (let e : None ≡ Some h = rw differs at is in cc)
    ]
made_here h name before a (Make made bytes) reply is = absurd (let e : None ≡ Some h = is in cc)
made_here h name before a request reply is = absurd (let e : None ≡ Some h = is in cc)

made_among : (h : ℕ) (name : List ℕ) (before xs : List Answer) → handle_of xs name ≡ Some h
    → (c : ℕ × Change) × In c (changes_to h (calls_behind before xs))
made_among h name before [] is = absurd (let e : None ≡ Some h = is in cc)
made_among h name before (a ∷ xs) is = by_case (handle_of xs name) refl is (λ e. made_among h name (before ++ a ∷ []) xs e) where
  by_case : (later : Option ℕ) → handle_of xs name ≡ later
      → first_of later (handle_made name a.request a.reply) ≡ Some h
      → (handle_of xs name ≡ Some h → (c : ℕ × Change) × In c (changes_to h (calls_behind (before ++ a ∷ []) xs)))
      → (c : ℕ × Change) × In c (changes_to h (calls_behind before (a ∷ xs)))
  by_case None e is on =
      let here = made_here h name before a a.request a.reply is in
      (here.0, in_left here.0 (change_to h (called before a)) (changes_to h (calls_behind (before ++ a ∷ []) xs)) here.1)
  by_case (Some k) e is on =
      let there = on (e ∙ is) in
      (there.0, in_right there.0 (change_to h (called before a)) (changes_to h (calls_behind (before ++ a ∷ []) xs)) there.1)

named_among : (h : ℕ) (used : Option (List ℕ)) (xs : List Answer) → handle_named xs used ≡ Some h
    → (c : ℕ × Change) × In c (changes_to h (calls_of xs))
named_among h None xs is = absurd cc
named_among h (Some name) xs is = made_among h name [] xs is

other_among : (h : ℕ) (xs : List Answer) (request : Request) (reply : Reply)
    → handle_for xs request reply ≡ Some h → event_of request reply ≡ Refused Other
    → (c : ℕ × Change) × In c (changes_to h (calls_of xs))
other_among h xs (Make name bytes) (Made handle version) is other = absurd cc
other_among h xs (Make name bytes) reply is other = absurd (let e : None ≡ Some h = is in cc)
other_among h xs request reply is other = named_among h (name_of request) xs is

shown_by : (first handles : ℕ) (log : List HandleChange) (calls : List Called) (ts : List Timed) (t : Timed)
    → ((h : ℕ) → IsHistory first (history calls h))
    → ((n h : ℕ) → SoFar (history calls h) (changes_of h (take n log)))
    → ((n : ℕ) → HasSame (untimed (changed_before n ts)) (take n log))
    → FactThen handles log calls ts t → IsShownThen first handles log ts t
shown_by first handles log calls ts t are so same fact =
    let xs = untimed (changed_before t.time ts) in
    let call = called xs t.answer in
    let part = take t.time log in
    let other : (h : ℕ) → call.handle ≡ Some h → call.event ≡ Refused Other → IsThere (newest (changes_of h part)) =
    λ h about is. (let among = other_among h xs t.answer.request t.answer.reply about is in in_there among.0 (changes_of h part) (rw ((same t.time).changed h) at among.1)) in
    record {
      reply = reply_then first handles (objects_made part) calls part call.handle call.event are (so t.time) fact.told fact.dated.tells fact.there other;
      unmade = unmade_right handles calls call.handle call.event fact.told;
      next = fact.dated.next;
    }

-- Legal answers whose times tell versions are those of one order, which is legal in order.
pub serial_by_versions : (first handles : ℕ) (log : List HandleChange) (ts : List Timed)
    → AreDated first handles log ts → IsSerial first handles (untimed ts)
serial_by_versions first handles log ts by =
    let calls = calls_of (untimed ts) in
    let each = facts handles log calls [] [] ts refl by.legal.told by.dated in
    let all = holds_then (IsFact handles log calls) ts [] ts refl by.in_program_order by.names.once by.names.known each in
    let so = so_far first handles log calls ts by.legal.histories by.each all in
    let next = weaker (FactThen handles log calls ts) (HoldsThen (IsNext log) ts) (λ t fact. fact.dated.next) ts all in
    let same = same_at log ts by.each next in
    let shown = weaker (FactThen handles log calls ts) (IsShownThen first handles log ts) (λ t fact. shown_by first handles log calls ts t by.legal.histories so same fact) ts all in
    serial_shown first handles log ts by.each shown by.in_program_order by.zero_first
