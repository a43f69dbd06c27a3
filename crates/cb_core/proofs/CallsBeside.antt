-- One answered request beside the plain map.
use Rattle.std.proofs.Common.{◌≡◌, ◌⊎◌, ℕ, ◌<◌, ◌≤◌, Bool, true, false, if◌then◌else◌, List, [], ◌∷◌, ◌++◌, Option, None, Some, refl, sym, ap, ◌∙◌, subst, arith, inl, inr, fold, lt-ltb, le-ltb}
use Rattle.std.proofs.lemmas.Bool.{cases_lt}
use Rattle.std.proofs.lemmas.List.{append-nil}
use native.Mathlib.Decide.{ℕ_discrete}
use Rattle.cb_types.specs.declared.handle.Handle.{Handle}
use Rattle.cb_types.specs.declared.request.Request.{Request}
use Rattle.cb_types.specs.declared.request.Request.TheVariants.{Make, Read, Write, Free, Pin}
use Rattle.cb_types.specs.declared.reply.Reply.{Reply}
use Rattle.cb_types.specs.declared.reply.Reply.TheVariants as answer
use Rattle.cb_types.specs.Table.{IsReplyOf}
use Rattle.cb_model.specs.declared.object.Object.TheVariants.{Held, Freed}
use Rattle.cb_model.specs.Event.{Event, event_of, change_of}
use Rattle.cb_model.specs.Event.Subject.{NewObject, Contents, Other, Nothing}
use Rattle.cb_model.specs.Event.Event.{Makes, Shows, Pins, Writes, Frees, FindsFull, FindsUnmade, FindsFreed, FindsEnd, Refused, Wrong}
use Rattle.cb_model.specs.Called.{Called, makes, made_by, value, change_to, is_about}
use Rattle.cb_model.specs.Legal.{Follow, IsMapReply}
use Rattle.cb_model.specs.Now.{MapNow, Change, changed}
use Rattle.cb_model.specs.Now.Change.{Create}
use Rattle.cb_model.specs.Replies.{MapReplies}
use Rattle.cb_model.proofs.Laws.{value-push, makes-push}
use Rattle.cb_world.specs.Now.{Now}
use Rattle.cb_world.specs.Now.Now.{never}
use Rattle.cb_mutate.specs.MapCalls.{IsValue, IsCallBetween, IsRefusedBetween}
use Rattle.cb_mutate.specs.MapBeside.{IsMapOf}
use Rattle.cb_mutate.proofs.Laws.{FollowsOf, between_follows, is_make_of, is_reply_of, refused_between}
use Rattle.cb_core.specs.Called.{handle_on, handle_given, says_nothing, call_of}

-- ---- what comes of an event: its calls are the map's, and the map has afterwards what is told
pub record CallsCome (first handles : ℕ) (before more : List Called) (count : ℕ) (holds : ℕ → Now) : Type 0
  where
    pub follow : Follow first handles before more
    pub beside : IsMapOf (before ++ more) count holds

-- no call
pub comes_none : (first handles : ℕ) (before : List Called) (count : ℕ) (holds : ℕ → Now)
    → IsMapOf before count holds → CallsCome first handles before [] count holds
comes_none first handles before count holds map = record {
  follow = tt;
  beside = subst (λ (cs : List Called). IsMapOf cs count holds) (sym (append-nil before)) map;
}

-- one call
comes_one : (first handles : ℕ) (before : List Called) (c : Called) (count : ℕ) (holds : ℕ → Now)
    → IsMapReply first handles before c → IsMapOf (before ++ c ∷ []) count holds
    → CallsCome first handles before (c ∷ []) count holds
comes_one first handles before c count holds reply map =
    record { follow = (reply, tt); beside = map }

-- ---- requests on an object

-- what was answered changes nothing of the map
abbrev pub IsQuietEvent : Event → Type 0
IsQuietEvent e = (change_of e ≡ []) × (made_by e ≡ 0)

-- it is told of one object, and no make
abbrev pub IsOfOneObject : Event → Type 0
IsOfOneObject (Makes bytes version) = ⊥
IsOfOneObject (FindsFull number) = ⊥
IsOfOneObject (Refused NewObject) = ⊥
IsOfOneObject (Refused Nothing) = ⊥
IsOfOneObject e = Unit {0}

-- the request is on an object
pub record IsObjectCall (q : Request) : Type 0 where
  pub quiet : (r : Reply) → says_nothing r ≡ true → IsQuietEvent (event_of q r)
  pub own : (r : Reply) → IsOfOneObject (event_of q r)

read_quiet : (name : List ℕ) (r : Reply) → says_nothing r ≡ true
    → IsQuietEvent (event_of (Read name) r)
read_quiet name answer.Worn e = (refl, refl)
read_quiet name answer.ScopeFull e = (refl, refl)
read_quiet name (answer.Held seat) e = (refl, refl)
read_quiet name answer.Claimed e = (refl, refl)
read_quiet name r e = absurd cc

read_own : (name : List ℕ) (r : Reply) → IsOfOneObject (event_of (Read name) r)
read_own name answer.Worn = tt
read_own name r = tt

pub on_read : (name : List ℕ) → IsObjectCall (Read name)
on_read name = record { quiet = read_quiet name; own = read_own name }

write_quiet : (name : List ℕ) (at : ℕ) (bytes : List ℕ) (r : Reply) → says_nothing r ≡ true
    → IsQuietEvent (event_of (Write name at bytes) r)
write_quiet name at bytes answer.Worn e = (refl, refl)
write_quiet name at bytes answer.ScopeFull e = (refl, refl)
write_quiet name at bytes (answer.Held seat) e = (refl, refl)
write_quiet name at bytes answer.Claimed e = (refl, refl)
write_quiet name at bytes r e = absurd cc

write_own : (name : List ℕ) (at : ℕ) (bytes : List ℕ) (r : Reply)
    → IsOfOneObject (event_of (Write name at bytes) r)
write_own name at bytes answer.Worn = tt
write_own name at bytes r = tt

pub on_write : (name : List ℕ) (at : ℕ) (bytes : List ℕ) → IsObjectCall (Write name at bytes)
on_write name at bytes = record { quiet = write_quiet name at bytes; own = write_own name at bytes }

free_quiet : (name : List ℕ) (r : Reply) → says_nothing r ≡ true
    → IsQuietEvent (event_of (Free name) r)
free_quiet name answer.Worn e = (refl, refl)
free_quiet name answer.ScopeFull e = (refl, refl)
free_quiet name (answer.Held seat) e = (refl, refl)
free_quiet name answer.Claimed e = (refl, refl)
free_quiet name r e = absurd cc

free_own : (name : List ℕ) (r : Reply) → IsOfOneObject (event_of (Free name) r)
free_own name answer.Worn = tt
free_own name r = tt

pub on_free : (name : List ℕ) → IsObjectCall (Free name)
on_free name = record { quiet = free_quiet name; own = free_own name }

pin_quiet : (name : List ℕ) (r : Reply) → says_nothing r ≡ true
    → IsQuietEvent (event_of (Pin name) r)
pin_quiet name answer.Worn e = (refl, refl)
pin_quiet name answer.ScopeFull e = (refl, refl)
pin_quiet name (answer.Held seat) e = (refl, refl)
pin_quiet name answer.Claimed e = (refl, refl)
pin_quiet name r e = absurd cc

pin_own : (name : List ℕ) (r : Reply) → IsOfOneObject (event_of (Pin name) r)
pin_own name answer.Worn = tt
pin_own name r = tt

pub on_pinned : (name : List ℕ) → IsObjectCall (Pin name)
on_pinned name = record { quiet = pin_quiet name; own = pin_own name }

-- ---- what the map has

-- a call that changes nothing of the map leaves it as it is
quiet_beside : (first handles count more : ℕ) (old new : ℕ → Now) (calls : List Called) (h : ℕ)
    (q : Request) (r : Reply) → IsMapOf calls count old
    → IsCallBetween first handles count more old new h q r → IsQuietEvent (event_of q r)
    → IsMapOf calls more new
quiet_beside first handles count more old new calls h q r map call quiet = record {
  made = let made = map.made in let counted = call.counted in let none = quiet.1 in
      omega (arith, made, counted, none);
  values = λ k. each k (ℕ_discrete k h);
}
  where
    each : (k : ℕ) → Dec (k ≡ h) → IsValue (value calls k) (new k)
    each k (yes e) = subst (λ (i : ℕ). IsValue (value calls i) (new i)) (sym e)
        (subst (λ (l : List (ℕ × Change)). IsValue (fold changed (value calls h) l) (new h)) quiet.0
        (call.own.value (value calls h) (map.values h)))
    each k (no off) = subst (IsValue (value calls k)) (sym (call.others k off)) (map.values k)

change_none : (c : Called) (k : ℕ) → c.handle ≡ None → change_to k c ≡ []
change_none c k about = ap (λ (o : Option ℕ). if is_about k o then change_of c.event else []) about

-- a call about no object leaves it there
unmade_beside : (calls : List Called) (c : Called) (count : ℕ) (holds : ℕ → Now)
    → IsMapOf calls count holds → c.handle ≡ None → made_by c.event ≡ 0
    → IsMapOf (calls ++ c ∷ []) count holds
unmade_beside calls c count holds map about none = record {
  made = let made = map.made in omega (arith, makes-push calls c, none, made);
  values = λ k. subst (λ (m : MapNow). IsValue m (holds k)) (sym (value-push calls c k
      ∙ ap (λ (l : List (ℕ × Change)). fold changed (value calls k) l) (change_none c k about)))
      (map.values k);
}

-- objects from the count on were never made, and those below it were
pub record AreMadeBelow (count : ℕ) (holds : ℕ → Now) : Type 0 where
  pub past : (h : ℕ) → count ≤ h → holds h ≡ never
  pub below : (h : ℕ) → h < count → holds h ≡ never → ⊥

has_none : (m : MapNow) → IsValue m never → m ≡ None
has_none None i = refl
has_none (Some (Freed u)) i = absurd i
has_none (Some (Held u b)) i = absurd i

-- is told so by every call on it
finds_unmade : (first handles made : ℕ) (handle : Option ℕ) (e : Event) → IsOfOneObject e
    → MapReplies first handles made handle None e → e ≡ FindsUnmade
finds_unmade first handles made handle (Makes bytes version) on m = absurd on
finds_unmade first handles made handle (Shows version bytes) on m = absurd m
finds_unmade first handles made handle (Pins version) on m = absurd m
finds_unmade first handles made handle (Writes at bytes version) on m = absurd m
finds_unmade first handles made handle (Frees version) on m = absurd m
finds_unmade first handles made handle (FindsFull n) on m = absurd on
finds_unmade first handles made handle FindsUnmade on m = refl
finds_unmade first handles made handle FindsFreed on m = absurd m
finds_unmade first handles made handle (FindsEnd at bytes len) on m = absurd m
finds_unmade first handles made handle (Refused NewObject) on m = absurd on
finds_unmade first handles made handle (Refused Contents) on m = absurd m
finds_unmade first handles made handle (Refused Other) on m = absurd m
finds_unmade first handles made handle (Refused Nothing) on m = absurd on
finds_unmade first handles made handle Wrong on m = absurd m

-- ---- a make

-- one that changed nothing was given no handle
no_handle : (name bytes : List ℕ) (r : Reply) → IsReplyOf (Make name bytes) r
    → change_of (event_of (Make name bytes) r) ≡ [] → handle_given r ≡ None
no_handle name bytes (answer.Made handle version) line silent = absurd (one silent)
  where
    one : ◌≡◌ {A = List (ℕ × Change)} ((version, Create bytes) ∷ []) [] → ⊥
    one e = cc
no_handle name bytes r line silent = refl

made_quiet : (name bytes : List ℕ) (r : Reply) → says_nothing r ≡ true
    → (event_of (Make name bytes) r ≡ Refused NewObject) × (handle_given r ≡ None)
made_quiet name bytes answer.Worn e = (refl, refl)
made_quiet name bytes answer.ScopeFull e = (refl, refl)
made_quiet name bytes (answer.Held seat) e = (refl, refl)
made_quiet name bytes answer.Claimed e = (refl, refl)
made_quiet name bytes r e = absurd cc

-- a make: a call on the handle that it was answered, or refused
abbrev pub IsMakeBetween : (first handles count more : ℕ) (old new : ℕ → Now) → Request → Reply
    → Type 0
IsMakeBetween first handles count more old new q r =
    ((h : Handle) × (v : ℕ) × (r ≡ answer.Made h v)
    × IsCallBetween first handles count more old new h.n q r)
    ⊎ IsRefusedBetween first handles count more old new q r

-- ---- one request

module _ (first handles seat count more : ℕ) (before : List Called) (old new : ℕ → Now)
    (map : IsMapOf before count old) where
  -- on an object
  pub call_comes : (h : ℕ) (q : Request) (r : Reply) → AreMadeBelow count old
      → IsCallBetween first handles count more old new h q r → IsObjectCall q
      → CallsCome first handles before (call_of seat (handle_on (makes before) h) q r) more new
  call_comes h q r are call on = by (says_nothing r) refl
    where
      c : Option ℕ → Called
      c o = record { lane = seat; handle = o; event = event_of q r }

      P : Bool → Option ℕ → Type 0
      P b o = CallsCome first handles before (if b then [] else c o ∷ []) more new

      told : (o : Option ℕ) → handle_on (makes before) h ≡ o → P false o
          → P false (handle_on (makes before) h)
      told o e p = subst (P false) (sym e) p

      some : h < makes before → P false (Some h)
      some less =
          let follows = between_follows first handles count more old new before map (c (Some h)) h q r
          call (record { about = refl; event = refl }) in
          let made = map.made in
          comes_one first handles before (c (Some h)) more new
          (is_reply_of first handles count more old new before (c (Some h)) h follows map
          (are.below h (omega (arith, made, less))) refl) follows.beside

      none : makes before ≤ h → P false None
      none past =
          let made = map.made in
          let value_none : value before h ≡ None = has_none (value before h)
          (subst (IsValue (value before h)) (are.past h (omega (arith, made, past)))
          (map.values h)) in
          let e : event_of q r ≡ FindsUnmade = finds_unmade first handles count (Some h) (event_of q r)
          (on.own r)
          (subst (λ (m : MapNow). MapReplies first handles count (Some h) m (event_of q r)) value_none
          (call.own.reply (value before h) (map.values h))) in
          comes_one first handles before (c None) more new
          (record {
            reply = subst (MapReplies first handles (makes before) None None) (sym e) tt;
            unmade = tt;
          })
          (unmade_beside before (c None) more new
          (quiet_beside first handles count more old new before h q r map call
          (ap change_of e, ap made_by e)) refl (ap made_by e))

      by : (b : Bool) → says_nothing r ≡ b → P (says_nothing r) (handle_on (makes before) h)
      by true e = subst (λ (b : Bool). P b (handle_on (makes before) h)) (sym e)
          (comes_none first handles before more new
          (quiet_beside first handles count more old new before h q r map call (on.quiet r e)))
      by false e = subst (λ (b : Bool). P b (handle_on (makes before) h)) (sym e)
          (elim (cases_lt h (makes before)) [
            | inl less ↦ told (Some h)
                (ap (λ (b : Bool). if b then Some h else None) (lt-ltb h (makes before) less))
                (some less)
            | inr past ↦ told None
                (ap (λ (b : Bool). if b then Some h else None) (le-ltb h (makes before) past))
                (none past)
          ])

  -- ---- a make
  pub make_comes : (bytes name : List ℕ) (r : Reply)
      → IsMakeBetween first handles count more old new (Make name bytes) r
      → IsReplyOf (Make name bytes) r
      → CallsCome first handles before (call_of seat (handle_given r) (Make name bytes) r) more new
  make_comes bytes name r (inl (h, v, is, call)) line =
      subst (λ (q : Reply).
      CallsCome first handles before (call_of seat (handle_given q) (Make name bytes) q) more new)
      (sym is) (comes_one first handles before c more new
      (is_make_of first handles before c more new follows (λ e. cc)) follows.beside)
    where
      c : Called
      c = record { lane = seat; handle = Some h.n; event = Makes bytes v }

      follows : FollowsOf first handles before c more new
      follows = between_follows first handles count more old new before map c h.n (Make name bytes)
          (answer.Made h v)
          (subst (IsCallBetween first handles count more old new h.n (Make name bytes)) is call)
          (record { about = refl; event = refl })
  make_comes bytes name r (inr call) line = by (says_nothing r) refl
    where
      c : Called
      c = record { lane = seat; handle = handle_given r; event = event_of (Make name bytes) r }

      none : handle_given r ≡ None
      none = no_handle name bytes r line call.silent

      follows : FollowsOf first handles before c more new
      follows = refused_between first handles count more old new before map c (Make name bytes) r call
          (record { about = none; event = refl })

      P : Bool → Type 0
      P b = CallsCome first handles before (if b then [] else c ∷ []) more new

      by : (b : Bool) → says_nothing r ≡ b → P (says_nothing r)
      by true e = subst P (sym e) (comes_none first handles before more new (record {
        made = let made = map.made in let counted = call.counted in
            let same = ap made_by (made_quiet name bytes r e).0 in omega (arith, made, counted, same);
        values = λ k. subst (IsValue (value before k)) (sym (call.others k)) (map.values k);
      }))
      by false e = subst P (sym e) (comes_one first handles before c more new
          (record { reply = follows.reply; unmade = rw none tt }) follows.beside)
