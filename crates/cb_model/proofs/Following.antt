-- The answers up to a time follow the map.
use Rattle.std.proofs.Common.{◌≡◌, ℕ, zero, suc, ◌≤◌, Bool, true, false, cond, eqb, List, [], ◌∷◌, ◌++◌, length, Option, Some, None, refl, ap, ◌∙◌, append_assoc, arith, inl, inr}
use Rattle.std.specs.Prelude.{◌&&◌, not}
use Rattle.std.specs.List.{AllByRecursion, filter, fold}
use Rattle.std.proofs.lemmas.Bool.{cases_Bool, eqb-true}
use Rattle.std.proofs.lemmas.List.{append-nil, map-append}
use Rattle.cb_types.specs.declared.answer.Answer.{Answer}
use Rattle.cb_types.specs.declared.request.Request.{Request}
use Rattle.cb_types.specs.declared.request.Request.TheVariants.{Make}
use Rattle.cb_types.specs.declared.reply.Reply.{Reply}
use Rattle.cb_types.specs.declared.reply.Reply.TheVariants.{Made}
use Rattle.cb_types.specs.Requests.{name_of}
use Rattle.cb_model.specs.Now.{changed}
use Rattle.cb_model.specs.Event.{Event, event_of, change_of}
use Rattle.cb_model.specs.Event.Event.{Makes, Shows, Pins, Writes, Frees, FindsFull, FindsUnmade, FindsFreed, FindsEnd, Refused, Wrong}
use Rattle.cb_model.specs.Called.{Called, called, calls_of, handle_made, handle_of, handle_for, handle_named, value, value_at, makes, made_by, change_to, is_about}
use Rattle.cb_model.specs.Legal.{IsMapReply, Follow}
use Rattle.cb_model.proofs.Naming.{Follow-push, calls_of-push, handle_of-push}
use Rattle.cb_model.proofs.Order.{makes-push, value-push}
use Rattle.cb_model.specs.Times.{Timed, untimed, is_change, changes, changes_at, tells_at, changed_before, IsReplyThen}
use Rattle.cb_model.proofs.Stages.{up_to, weaker}

-- After these answers the map has the same as after those: at each handle and name, and as many makes.
pub record SameMap (xs ys : List Answer) : Type 0 where
  pub values : (h : ℕ) → value (calls_of xs) h ≡ value (calls_of ys) h
  pub made : makes (calls_of xs) ≡ makes (calls_of ys)
  pub names : (name : List ℕ) → handle_of xs name ≡ handle_of ys name

-- ---- an answer that changes nothing
pub no_change : (e : Event) → is_change e ≡ false → (change_of e ≡ []) × (made_by e ≡ 0)
no_change (Makes bytes version) fails = absurd cc
no_change (Writes at bytes version) fails = absurd cc
no_change (Frees version) fails = absurd cc
no_change (Shows version bytes) fails = (refl, refl)
no_change (Pins version) fails = (refl, refl)
no_change (FindsFull handles) fails = (refl, refl)
no_change FindsUnmade fails = (refl, refl)
no_change FindsFreed fails = (refl, refl)
no_change (FindsEnd at bytes len) fails = (refl, refl)
no_change (Refused subject) fails = (refl, refl)
no_change Wrong fails = (refl, refl)

pub no_name : (name : List ℕ) (request : Request) (reply : Reply)
    → is_change (event_of request reply) ≡ false → handle_made name request reply ≡ None
no_name name (Make made bytes) (Made handle version) fails = absurd cc
no_name name (Make made bytes) reply fails = refl
no_name name request reply fails = refl

no_change_to : (h : ℕ) (handle : Option ℕ) (e : Event) → change_of e ≡ []
    → cond (is_about h handle) (change_of e) [] ≡ []
no_change_to h handle e none =
    elim (cases_Bool (is_about h handle)) [ inl is ↦ rw is none | inr fails ↦ rw fails refl ]

pub same_still : (xs ys : List Answer) (a : Answer) → SameMap xs ys
    → is_change (event_of a.request a.reply) ≡ false → SameMap (xs ++ a ∷ []) ys
same_still xs ys a same fails =
    let none = no_change (event_of a.request a.reply) fails in
    record {
      values = λ h. rw (calls_of-push xs a, value-push (calls_of xs) (called xs a) h, no_change_to h (called xs a).handle (event_of a.request a.reply) none.0) (same.values h);
      made = rw (calls_of-push xs a) (makes-push (calls_of xs) (called xs a) ∙ omega (arith, none.1, same.made));
      names = λ name. handle_of-push name xs a ∙ rw (no_name name a.request a.reply fails) (same.names name);
    }

-- ---- the same answer behind both
same_named : (xs ys : List Answer) (name : Option (List ℕ))
    → ((n : List ℕ) → handle_of xs n ≡ handle_of ys n) → handle_named xs name ≡ handle_named ys name
same_named xs ys None names = refl
same_named xs ys (Some name) names = names name

same_for : (xs ys : List Answer) (request : Request) (reply : Reply)
    → ((n : List ℕ) → handle_of xs n ≡ handle_of ys n)
    → handle_for xs request reply ≡ handle_for ys request reply
same_for xs ys (Make name bytes) (Made handle version) names = refl
same_for xs ys (Make name bytes) reply names = refl
same_for xs ys request reply names = same_named xs ys (name_of request) names

pub same_called : (xs ys : List Answer) (a : Answer) → SameMap xs ys → called xs a ≡ called ys a
same_called xs ys a same =
    let handle = same_for xs ys a.request a.reply same.names in
    λ i. record { lane = a.lane.n; handle = handle i; event = event_of a.request a.reply }

pub same_more : (xs ys : List Answer) (a : Answer) → SameMap xs ys
    → SameMap (xs ++ a ∷ []) (ys ++ a ∷ [])
same_more xs ys a same =
    let call = same_called xs ys a same in
    record {
      values = λ h. rw (calls_of-push xs a, calls_of-push ys a, value-push (calls_of xs) (called xs a) h, value-push (calls_of ys) (called ys a) h, same.values h) (ap (λ (c : Called). fold changed (value (calls_of ys) h) (change_to h c)) call);
      made = rw (calls_of-push xs a, calls_of-push ys a) (omega (arith, ap (λ (c : Called). made_by c.event) call, makes-push (calls_of xs) (called xs a), makes-push (calls_of ys) (called ys a), same.made));
      names = λ name. rw (handle_of-push name xs a, handle_of-push name ys a, same.names name) refl;
    }

-- ---- the map's reply is the same where the map is
same_value : (xs ys : List Answer) (handle : Option ℕ) → SameMap xs ys
    → value_at (calls_of xs) handle ≡ value_at (calls_of ys) handle
same_value xs ys None same = refl
same_value xs ys (Some h) same = same.values h

pub same_reply : (first handles : ℕ) (xs ys : List Answer) (a : Answer) → SameMap xs ys
    → IsMapReply first handles (calls_of ys) (called ys a)
    → IsMapReply first handles (calls_of xs) (called xs a)
same_reply first handles xs ys a same is =
    let handle = same_for xs ys a.request a.reply same.names in
    let value = same_value xs ys (handle_for ys a.request a.reply) same in
    record {
      reply = rw (handle, value, same.made) is.reply;
      unmade = rw handle is.unmade;
    }

-- one answer more follows
pub follow_more : (first handles : ℕ) (xs : List Answer) (a : Answer)
    → Follow first handles [] (calls_of xs)
    → IsMapReply first handles (calls_of xs) (called xs a)
    → Follow first handles [] (calls_of (xs ++ a ∷ []))
follow_more first handles xs a follow is =
    rw (calls_of-push xs a) (Follow-push first handles [] (calls_of xs) (called xs a) follow is)

-- ---- up to a time

-- answers that change nothing, each the map's reply after ys
abbrev pub TellsOnly : (first handles : ℕ) → List Answer → Timed → Type 0
TellsOnly first handles ys t =
    (changes t ≡ false) × IsMapReply first handles (calls_of ys) (called ys t.answer)

-- the answers follow, and leave the same as these
pub record FollowsAs (first handles : ℕ) (xs ys : List Answer) : Type 0 where
  pub follows : Follow first handles [] (calls_of xs)
  pub same : SameMap xs ys

tell_one : (first handles : ℕ) (xs ys : List Answer) (t : Timed) → FollowsAs first handles xs ys
    → TellsOnly first handles ys t → FollowsAs first handles (xs ++ t.answer ∷ []) ys
tell_one first handles xs ys t so tells = record {
  follows = follow_more first handles xs t.answer so.follows (same_reply first handles xs ys t.answer so.same tells.1);
  same = same_still xs ys t.answer so.same tells.0;
}

tell_all : (first handles : ℕ) (xs ys : List Answer) (ts : List Timed) → FollowsAs first handles xs ys
    → AllByRecursion (TellsOnly first handles ys) ts → FollowsAs first handles (xs ++ untimed ts) ys
tell_all first handles xs ys [] so all = rw (append-nil xs) so
tell_all first handles xs ys (t ∷ ts) so all =
    let on = tell_all first handles (xs ++ t.answer ∷ []) ys ts (tell_one first handles xs ys t so all.0) all.1 in
    rw (append_assoc xs (t.answer ∷ []) (untimed ts)) at on

-- and one at the most that changes something
change_one : (first handles : ℕ) (xs ys : List Answer) (ts : List Timed) → FollowsAs first handles xs ys
    → length ts ≤ 1
    → AllByRecursion (λ (t : Timed). IsMapReply first handles (calls_of ys) (called ys t.answer)) ts
    → FollowsAs first handles (xs ++ untimed ts) (ys ++ untimed ts)
change_one first handles xs ys [] so one all = rw (append-nil xs, append-nil ys) so
change_one first handles xs ys (t ∷ []) so one all = record {
  follows = follow_more first handles xs t.answer so.follows (same_reply first handles xs ys t.answer so.same all.0);
  same = same_more xs ys t.answer so.same;
}
change_one first handles xs ys (t ∷ u ∷ ts) so one all = absurd (omega (arith, one))

-- what holds of those that pass
pub passing : {X : Type 0} (p : X → Bool) (P : X → Type 0) (xs : List X) → AllByRecursion P xs
    → AllByRecursion (λ x. (p x ≡ true) × P x) (filter p xs)
passing p P [] all = tt
passing p P (x ∷ xs) all =
    elim (cases_Bool (p x)) [
      | inl is ↦ rw is ((is, all.0), passing p P xs all.1)
      | inr fails ↦ rw fails (passing p P xs all.1)
    ]

at_that : (first handles n : ℕ) (ts : List Timed) (t : Timed) → t.time ≡ n
    → IsReplyThen first handles ts t
    → IsMapReply first handles (calls_of (untimed (changed_before n ts))) (called (untimed (changed_before n ts)) t.answer)
at_that first handles n ts t e is = rw e at is

pub its_time : (n : ℕ) (t : Timed) (b : Bool) → (eqb t.time n && b) ≡ true → (t.time ≡ n) × (b ≡ true)
its_time n t b is =
    elim (cases_Bool (eqb t.time n)) [
      | inl same ↦ (eqb-true t.time n same, rw same at is)
      | inr fails ↦ absurd (let e : false ≡ true = rw fails at is in cc)
    ]

not_true : (b : Bool) → not b ≡ true → b ≡ false
not_true true e = absurd cc
not_true false e = refl

tells_then : (first handles n : ℕ) (ts : List Timed) (t : Timed)
    → (tells_at n t ≡ true) × IsReplyThen first handles ts t
    → TellsOnly first handles (untimed (changed_before n ts)) t
tells_then first handles n ts t is =
    let at = its_time n t (not (changes t)) is.0 in
    (not_true (changes t) at.1, at_that first handles n ts t at.0 is.1)

changes_then : (first handles n : ℕ) (ts : List Timed) (t : Timed)
    → (changes_at n t ≡ true) × IsReplyThen first handles ts t
    → IsMapReply first handles (calls_of (untimed (changed_before n ts))) (called (untimed (changed_before n ts)) t.answer)
changes_then first handles n ts t is =
    let at = its_time n t (changes t) is.0 in at_that first handles n ts t at.0 is.1

pub untimed-append : (xs ys : List Timed) → untimed (xs ++ ys) ≡ untimed xs ++ untimed ys
untimed-append xs ys = map-append (λ (t : Timed). t.answer) xs ys

-- so they follow up to each time, and leave the same as the changes alone
pub follows_up_to : (first handles : ℕ) (ts : List Timed)
    → ((n : ℕ) → length (filter (changes_at n) ts) ≤ 1)
    → AllByRecursion (IsReplyThen first handles ts) ts → (n : ℕ)
    → FollowsAs first handles (untimed (up_to n ts)) (untimed (changed_before n ts))
follows_up_to first handles ts one replies zero = record {
  follows = tt;
  same = record { values = λ h. refl; made = refl; names = λ name. refl };
}
follows_up_to first handles ts one replies (suc n) =
    let xs = untimed (up_to n ts) in
    let ys = untimed (changed_before n ts) in
    let tells = weaker (λ (t : Timed). (tells_at n t ≡ true) × IsReplyThen first handles ts t) (TellsOnly first handles ys) (tells_then first handles n ts) (filter (tells_at n) ts) (passing (tells_at n) (IsReplyThen first handles ts) ts replies) in
    let change = weaker (λ (t : Timed). (changes_at n t ≡ true) × IsReplyThen first handles ts t) (λ (t : Timed). IsMapReply first handles (calls_of ys) (called ys t.answer)) (changes_then first handles n ts) (filter (changes_at n) ts) (passing (changes_at n) (IsReplyThen first handles ts) ts replies) in
    let told = tell_all first handles xs ys (filter (tells_at n) ts) (follows_up_to first handles ts one replies n) tells in
    let more = change_one first handles (xs ++ untimed (filter (tells_at n) ts)) ys (filter (changes_at n) ts) told (one n) change in
    rw (untimed-append (up_to n ts) (filter (tells_at n) ts ++ filter (changes_at n) ts), untimed-append (filter (tells_at n) ts) (filter (changes_at n) ts), untimed-append (changed_before n ts) (filter (changes_at n) ts))
    (rw append_assoc at more)
