-- A history that shows answers gives one order of them.
use Rattle.std.proofs.Common.{◌≡◌, ℕ, zero, suc, ◌≤◌, true, cond, eqb, List, [], ◌∷◌, ◌++◌, length, take, drop, Option, Some, None, refl, sym, ap, ◌∙◌, append_assoc, arith, inl, inr}
use Rattle.std.specs.List.{AllByRecursion, filter}
use Rattle.std.proofs.lemmas.Bool.{cases_Bool}
use Rattle.std.proofs.lemmas.List.{append-nil}
use Rattle.std.proofs.lemmas.List.Concat.{flat_map-append}
use Rattle.std.proofs.lemmas.List.Sums.{sum_by-append}
use Rattle.cb_types.specs.declared.answer.Answer.{Answer}
use Rattle.cb_model.specs.Now.{Change}
use Rattle.cb_model.specs.Event.{Event, event_of, change_of}
use Rattle.cb_model.specs.Event.Event.{Makes, Shows, Pins, Writes, Frees, FindsFull, FindsUnmade, FindsFreed, FindsEnd, Refused, Wrong}
use Rattle.cb_model.specs.History.{left_by}
use Rattle.cb_model.specs.Called.{Called, called, calls_of, handle_for, value_at, makes, made_by, changes_to, is_about}
use Rattle.cb_model.proofs.Order.{changes_to-push}
use Rattle.cb_model.proofs.Naming.{calls_of-push}
use Rattle.cb_model.proofs.Order.{makes-push}
use Rattle.cb_model.specs.Serial.{IsSerial}
use Rattle.cb_model.specs.Times.{Timed, untimed, is_change, changes, changes_at, changed_before, AreInProgramOrder, IsReplyThen, IsZeroFirst}
use Rattle.cb_model.specs.Shown.{HandleChange, EachCallHolds, change_at, changes_of, left_at, made_in, objects_made, next_of, settled_at_handle, settled_by_call, ShowsCall, makes_name, KnowNames, AreShownBy}
use Rattle.cb_model.proofs.Stages.{weaker}
use Rattle.cb_model.proofs.Following.{untimed-append, passing, its_time}
use Rattle.cb_model.proofs.Named.{handle_agrees}
use Rattle.cb_model.proofs.Serial.{serial}

-- ---- each call has the property, with the handle of its name by the changes before it
abbrev pub HoldsThen : (ℕ → Called → Type 0) → List Timed → Timed → Type 0
HoldsThen holds ts t = holds t.time (called (untimed (changed_before t.time ts)) t.answer)

abbrev pub IsShownThen : (first handles : ℕ) → List HandleChange → List Timed → Timed → Type 0
IsShownThen first handles history ts t = HoldsThen (ShowsCall first handles history) ts t

pub holds_then : (holds : ℕ → Called → Type 0) (ts before after : List Timed) → ts ≡ before ++ after
    → AreInProgramOrder ts
    → ((name : List ℕ) → length (filter (λ (a : Answer). makes_name name a.request) (untimed ts)) ≤ 1)
    → KnowNames (untimed before) (untimed after) → EachCallHolds holds (untimed before) after
    → AllByRecursion (HoldsThen holds ts) after
holds_then holds ts before [] e turn once known each = tt
holds_then holds ts before (t ∷ after) e turn once known each =
    let handle = handle_agrees ts before after t e turn once known.0 in
    let call : called (untimed before) t.answer ≡ called (untimed (changed_before t.time ts)) t.answer = λ i. record { lane = t.answer.lane.n; handle = handle i; event = event_of t.answer.request t.answer.reply } in
    let more : untimed (before ++ t ∷ []) ≡ untimed before ++ t.answer ∷ [] = untimed-append before (t ∷ []) in (
      rw call at each.0,
      holds_then holds ts (before ++ t ∷ []) after (e ∙ sym (append_assoc before (t ∷ []) after)) turn once (rw more known.1) (rw more each.1),
    )

-- ---- the changes before a time are the first ones of the history
pub record HasSame (xs : List Answer) (part : List HandleChange) : Type 0 where
  pub changed : (h : ℕ) → changes_to h (calls_of xs) ≡ changes_of h part
  pub made : makes (calls_of xs) ≡ objects_made part

of_handle : (h k : ℕ) (cs : List (ℕ × Change))
    → cond (eqb h k) cs [] ≡ changes_of h (settled_at_handle (Some k) cs)
of_handle h k [] = elim (cases_Bool (eqb h k)) [ inl is ↦ rw is refl | inr fails ↦ rw fails refl ]
of_handle h k (c ∷ cs) =
    elim (cases_Bool (eqb h k)) [
      | inl is ↦ rw is (ap (λ (ds : List (ℕ × Change)). c ∷ ds) (rw is at (of_handle h k cs)))
      | inr fails ↦ rw fails (rw fails at (of_handle h k cs))
    ]

pub change_is : (h : ℕ) (handle : Option ℕ) (e : Event)
    → cond (is_about h handle) (change_of e) [] ≡ changes_of h (settled_at_handle handle (change_of e))
change_is h None e = refl
change_is h (Some k) e = of_handle h k (change_of e)

made_is : (k : ℕ) (e : Event) → made_by e ≡ objects_made (settled_at_handle (Some k) (change_of e))
made_is k (Makes bytes version) = refl
made_is k (Writes at bytes version) = refl
made_is k (Frees version) = refl
made_is k (Shows version bytes) = refl
made_is k (Pins version) = refl
made_is k (FindsFull handles) = refl
made_is k FindsUnmade = refl
made_is k FindsFreed = refl
made_is k (FindsEnd at bytes len) = refl
made_is k (Refused subject) = refl
made_is k Wrong = refl

-- where something was changed, it was at a handle
made_there : (handle : Option ℕ) (e : Event) → length (settled_at_handle handle (change_of e)) ≡ 1
    → made_by e ≡ objects_made (settled_at_handle handle (change_of e))
made_there None e one = absurd (omega (arith, one))
made_there (Some k) e one = made_is k e

same_more : (xs : List Answer) (part next : List HandleChange) (a : Answer) → HasSame xs part
    → length next ≡ 1 → settled_by_call (called xs a) ≡ next → HasSame (xs ++ a ∷ []) (part ++ next)
same_more xs part next a same one is =
    let call = called xs a in
    record {
      changed = λ h. ap (λ (calls : List Called). changes_to h calls) (calls_of-push xs a) ∙ changes_to-push h (calls_of xs) call
          ∙ rw (same.changed h, flat_map-append (change_at h) part next, ← is) (ap (λ (cs : List (ℕ × Change)). changes_of h part ++ cs) (change_is h call.handle call.event));
      made = ap (λ (calls : List Called). makes calls) (calls_of-push xs a) ∙ makes-push (calls_of xs) call
          ∙ rw (sum_by-append (λ (s : HandleChange). made_in s.change) part next, ← is) (omega (arith, same.made, made_there call.handle call.event (ap (λ (ss : List HandleChange). length ss) is ∙ one)));
    }

same_all : (xs : List Answer) (part next : List HandleChange) (ts : List Timed) → HasSame xs part
    → length ts ≡ length next → length next ≤ 1
    → AllByRecursion (λ (t : Timed). settled_by_call (called xs t.answer) ≡ next) ts
    → HasSame (xs ++ untimed ts) (part ++ next)
same_all xs part [] [] same few one all = rw (append-nil xs, append-nil part) same
same_all xs part (s ∷ next) [] same few one all = absurd (omega (arith, few))
same_all xs part next (t ∷ []) same few one all = same_more xs part next t.answer same (sym few) all.0
same_all xs part next (t ∷ u ∷ ts) same few one all = absurd (omega (arith, few, one))

pub take_next : {X : Type 0} (n : ℕ) (xs : List X) → take (suc n) xs ≡ take n xs ++ take 1 (drop n xs)
take_next {X} zero xs = refl
take_next {X} (suc n) [] = refl
take_next {X} (suc n) (x ∷ xs) = ap (λ (ys : List X). x ∷ ys) (take_next n xs)

pub next_few : (n : ℕ) (history : List HandleChange) → length (next_of n history) ≤ 1
next_few n history = few (drop n history) where
  few : (ss : List HandleChange) → length (take 1 ss) ≤ 1
  few [] = omega arith
  few (s ∷ ss) = omega arith

-- where a call changed something, that is the next change
abbrev pub IsNext : List HandleChange → ℕ → Called → Type 0
IsNext history time call = is_change call.event ≡ true → settled_by_call call ≡ next_of time history

next_then : (n : ℕ) (history : List HandleChange) (ts : List Timed) (t : Timed)
    → (changes_at n t ≡ true) × HoldsThen (IsNext history) ts t
    → settled_by_call (called (untimed (changed_before n ts)) t.answer) ≡ next_of n history
next_then n history ts t is =
    let at = its_time n t (changes t) is.0 in rw at.0 at (is.1 at.1)

pub same_at : (history : List HandleChange) (ts : List Timed)
    → ((n : ℕ) → length (filter (changes_at n) ts) ≡ length (next_of n history))
    → AllByRecursion (HoldsThen (IsNext history) ts) ts → (n : ℕ)
    → HasSame (untimed (changed_before n ts)) (take n history)
same_at history ts each next zero = record { changed = λ h. refl; made = refl }
same_at history ts each next (suc n) =
    let xs = untimed (changed_before n ts) in
    let all = weaker (λ (t : Timed). (changes_at n t ≡ true) × HoldsThen (IsNext history) ts t) (λ (t : Timed). settled_by_call (called xs t.answer) ≡ next_of n history) (next_then n history ts) (filter (changes_at n) ts) (passing (changes_at n) (HoldsThen (IsNext history) ts) ts next) in
    let more = same_all xs (take n history) (next_of n history) (filter (changes_at n) ts) (same_at history ts each next n) (each n) (next_few n history) all in
    rw (untimed-append (changed_before n ts) (filter (changes_at n) ts), take_next n history) more

-- ---- so the answers have times
same_value : (xs : List Answer) (part : List HandleChange) (handle : Option ℕ) → HasSame xs part
    → value_at (calls_of xs) handle ≡ left_at part handle
same_value xs part None same = refl
same_value xs part (Some h) same = ap left_by (same.changed h)

reply_then : (first handles : ℕ) (history : List HandleChange) (ts : List Timed) (t : Timed)
    → HasSame (untimed (changed_before t.time ts)) (take t.time history)
    → IsShownThen first handles history ts t → IsReplyThen first handles ts t
reply_then first handles history ts t same shown =
    let xs = untimed (changed_before t.time ts) in
    record {
      reply = rw (same_value xs (take t.time history) (handle_for xs t.answer.request t.answer.reply) same, same.made) shown.reply;
      unmade = shown.unmade;
    }

pub serial_shown : (first handles : ℕ) (history : List HandleChange) (ts : List Timed)
    → ((n : ℕ) → length (filter (changes_at n) ts) ≡ length (next_of n history))
    → AllByRecursion (IsShownThen first handles history ts) ts → AreInProgramOrder ts → IsZeroFirst ts
    → IsSerial first handles (untimed ts)
serial_shown first handles history ts each shown turn zero_first =
    let next = weaker (IsShownThen first handles history ts) (HoldsThen (IsNext history) ts) (λ t s. s.next) ts shown in
    serial first handles ts (record {
      one = λ n. omega (arith, each n, next_few n history);
      replies = weaker (IsShownThen first handles history ts) (IsReplyThen first handles ts) (λ t s. reply_then first handles history ts t (same_at history ts each next t.time) s) ts shown;
      in_program_order = turn;
      zero_first = zero_first;
    })

-- Answers that a history of changes shows are those of one order, which is legal in order.
pub serial_by_history : (first handles : ℕ) (history : List HandleChange) (ts : List Timed)
    → AreShownBy first handles history ts → IsSerial first handles (untimed ts)
serial_by_history first handles history ts by =
    let shown = holds_then (ShowsCall first handles history) ts [] ts refl by.in_program_order by.names.once by.names.known by.shown in
    serial_shown first handles history ts by.each shown by.in_program_order by.zero_first
