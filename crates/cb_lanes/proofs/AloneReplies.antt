-- Each reply to a lane's own line is that of the map and of the lane's scope.
use Rattle.std.proofs.Common.{◌≡◌, ◌≢◌, ℕ, ◌+◌, ◌<◌, ◌≤◌, Bool, List, length, Option, None, Some}
use Rattle.std.proofs.Common.{refl, sym, ap, ◌∙◌, subst, arith, eq-eqb, ne_eqb, if◌then◌else◌}
use Rattle.std.proofs.Common.{nat_le}
use Rattle.std.proofs.lemmas.Bool.{le-leb, lt-leb}
use Rattle.cb_types.specs.declared.handle.Handle.{Handle}
use Rattle.cb_types.specs.declared.request.Request.{Request}
use Rattle.cb_types.specs.declared.request.Request.TheVariants.{Make, Read, Write, Free, Pin, Peek}
use Rattle.cb_types.specs.declared.request.Request.TheVariants.{Unpin}
use Rattle.cb_types.specs.declared.reply.Reply.{Reply}
use Rattle.cb_types.specs.declared.reply.Reply.TheVariants as answer
use Rattle.cb_types.specs.Table.{IsReplyOf}
use Rattle.cb_model.specs.declared.object.Object.{Object}
use Rattle.cb_model.specs.declared.object.Object.TheVariants.{Held, Freed}
use Rattle.cb_model.specs.Now.{MapNow}
use Rattle.cb_model.specs.Event.{event_of}
use Rattle.cb_model.specs.Replies.{MapReplies}
use Rattle.cb_model.specs.Legal.{IsUnmadeRight}
use Rattle.cb_lanes.specs.Alone.{IsCalmReply, change_alone, free_alone, peek_alone, pin_alone}
use Rattle.cb_lanes.specs.Alone.{pin_object, read_alone, unpin_alone, write_alone}
use Rattle.cb_lanes.specs.Scopes.{PeekSays, PinnedSays, UnpinSays}

-- ---- what a change tells of the pins on its object

-- refused as pinned it tells so many, and where it is done there are none
pub record ChangeTells (own : ℕ) (r : Reply) : Type 0 where
  pub pinned : (count : ℕ) → r ≡ answer.Pinned count → count ≡ own
  pub done : (version : ℕ) → r ≡ answer.Version version → own ≡ 0

-- and a write that is refused so does not go past the object's end
abbrev pub StaysWithin : MapNow → ℕ → Reply → Type 0
StaysWithin now past r = (count version : ℕ) (bytes : List ℕ) → r ≡ answer.Pinned count
    → now ≡ Some (Held version bytes) → past ≤ length bytes

abbrev pub PinsTell : MapNow → ℕ → Request → Reply → Type 0
PinsTell now own (Write name at bytes) r = ChangeTells own r × StaysWithin now (at + length bytes) r
PinsTell now own (Free name) r = ChangeTells own r
PinsTell now own request r = Unit {0}

-- ---- by the reply and what the map has

pub make_says : (name bytes : List ℕ) (handles made : ℕ) (handle : Option ℕ) (now : MapNow)
    (r : Reply)
    → MapReplies 1 handles made handle now (event_of (Make name bytes) r)
    → IsReplyOf (Make name bytes) r
    → IsCalmReply r → (given : Handle) × (r ≡ answer.Made given 1)
make_says name bytes handles made handle now (answer.Made given v) m line calm =
    (given, ap (answer.Made given) m.2)
make_says name bytes handles made handle now (answer.Full n) m line calm = absurd calm
make_says name bytes handles made handle now (answer.NoRoom f l n) m line calm = absurd calm
make_says name bytes handles made handle now answer.Worn m line calm = absurd calm
make_says name bytes handles made handle now r m line calm = absurd line

pub read_says : (name : List ℕ) (handles made : ℕ) (handle : Option ℕ) (now : MapNow) (r : Reply)
    → MapReplies 1 handles made handle now (event_of (Read name) r) → IsReplyOf (Read name) r
    → IsCalmReply r → r ≡ read_alone now
read_says name handles made handle None (answer.Bytes v b) m line calm = absurd m
read_says name handles made handle (Some (Held u c)) (answer.Bytes v b) m line calm =
    λ i. answer.Bytes (m.0 i) (m.1 i)
read_says name handles made handle (Some (Freed u)) (answer.Bytes v b) m line calm = absurd m
read_says name handles made handle None answer.Unmade m line calm = refl
read_says name handles made handle (Some (Held u c)) answer.Unmade m line calm = absurd m
read_says name handles made handle (Some (Freed u)) answer.Unmade m line calm = absurd m
read_says name handles made handle None answer.Freed m line calm = absurd m
read_says name handles made handle (Some (Held u c)) answer.Freed m line calm = absurd m
read_says name handles made handle (Some (Freed u)) answer.Freed m line calm = refl
read_says name handles made handle now (answer.NoRoom f l n) m line calm = absurd calm
read_says name handles made handle now answer.Moving m line calm = absurd calm
read_says name handles made handle now (answer.Unavailable i l) m line calm = absurd calm
read_says name handles made handle now answer.Worn m line calm = absurd calm
read_says name handles made handle now r m line calm = absurd line

-- a change that is done, and one that is refused as pinned
pub changed_alone : (u v own : ℕ) → v ≡ u + 1 → own ≡ 0 → answer.Version v ≡ change_alone u own
changed_alone u v own next none = ap answer.Version next
    ∙ sym (ap (λ (b : Bool). if b then answer.Version (u + 1) else answer.Pinned own)
    (eq-eqb own 0 none))

pub pinned_alone : (u count own : ℕ) → count ≡ own → 1 ≤ count
    → answer.Pinned count ≡ change_alone u own
pinned_alone u count own same some = ap answer.Pinned same
    ∙ sym (ap (λ (b : Bool). if b then answer.Version (u + 1) else answer.Pinned own)
    (ne_eqb own 0 (λ e. absurd (omega (arith, e, same, some)))))

pub within_alone : (u own past : ℕ) (c : List ℕ) (r : Reply) → past ≤ length c
    → r ≡ change_alone u own
    → r ≡ (if nat_le past (length c) then change_alone u own else answer.Range (length c))
within_alone u own past c r within is = is
    ∙ sym (ap (λ (b : Bool). if b then change_alone u own else answer.Range (length c))
    (le-leb past (length c) within))

pub past_alone : (u own past len : ℕ) (c : List ℕ) → length c < past → len ≡ length c
    → answer.Range len ≡ (if nat_le past (length c) then change_alone u own else answer.Range
    (length c))
past_alone u own past len c over is = ap answer.Range is
    ∙ sym (ap (λ (b : Bool). if b then change_alone u own else answer.Range (length c))
    (lt-leb past (length c) over))

pub write_says : (name : List ℕ) (at : ℕ) (bytes : List ℕ) (handles made : ℕ) (handle : Option ℕ)
    (now : MapNow) (own : ℕ) (r : Reply)
    → MapReplies 1 handles made handle now (event_of (Write name at bytes) r)
    → IsReplyOf (Write name at bytes) r → IsCalmReply r → PinsTell now own (Write name at bytes) r
    → PinnedSays own r → r ≡ write_alone now own at (length bytes)
write_says name at bytes handles made handle None own (answer.Version v) m line calm tells some =
    absurd m
write_says name at bytes handles made handle (Some (Held u c)) own
    (answer.Version v) m line calm tells some =
    within_alone u own (at + length bytes) c (answer.Version v) m.0
    (changed_alone u v own m.1 (tells.0.done v refl))
write_says name at bytes handles made handle (Some (Freed u)) own
    (answer.Version v) m line calm tells some = absurd m
write_says name at bytes handles made handle None own (answer.Pinned n) m line calm tells some =
    absurd m
write_says name at bytes handles made handle (Some (Held u c)) own
    (answer.Pinned n) m line calm tells some =
    within_alone u own (at + length bytes) c (answer.Pinned n) (tells.1 n u c refl refl)
    (pinned_alone u n own (tells.0.pinned n refl) (some n refl).0)
write_says name at bytes handles made handle (Some (Freed u)) own
    (answer.Pinned n) m line calm tells some = absurd m
write_says name at bytes handles made handle None own (answer.Range n) m line calm tells some =
    absurd m
write_says name at bytes handles made handle (Some (Held u c)) own
    (answer.Range n) m line calm tells some =
    past_alone u own (at + length bytes) n c m.0 m.1
write_says name at bytes handles made handle (Some (Freed u)) own
    (answer.Range n) m line calm tells some = absurd m
write_says name at bytes handles made handle None own answer.Unmade m line calm tells some = refl
write_says name at bytes handles made handle
    (Some (Held u c)) own answer.Unmade m line calm tells some = absurd m
write_says name at bytes handles made handle
    (Some (Freed u)) own answer.Unmade m line calm tells some = absurd m
write_says name at bytes handles made handle None own answer.Freed m line calm tells some = absurd m
write_says name at bytes handles made handle
    (Some (Held u c)) own answer.Freed m line calm tells some = absurd m
write_says name at bytes handles made handle
    (Some (Freed u)) own answer.Freed m line calm tells some = refl
write_says name at bytes handles made handle now own (answer.NoRoom f l n) m line calm tells some =
    absurd calm
write_says name at bytes handles made handle now own answer.Moving m line calm tells some =
    absurd calm
write_says name at bytes handles made handle now own
    (answer.Unavailable i l) m line calm tells some = absurd calm
write_says name at bytes handles made handle now own answer.Worn m line calm tells some =
    absurd calm
write_says name at bytes handles made handle now own r m line calm tells some = absurd line

pub free_says : (name : List ℕ) (handles made : ℕ) (handle : Option ℕ) (now : MapNow) (own : ℕ)
    (r : Reply)
    → MapReplies 1 handles made handle now (event_of (Free name) r) → IsReplyOf (Free name) r
    → IsCalmReply r → ChangeTells own r → PinnedSays own r → r ≡ free_alone now own
free_says name handles made handle None own (answer.Version v) m line calm tells some = absurd m
free_says name handles made handle (Some (Held u c)) own (answer.Version v) m line calm tells some =
    changed_alone u v own m (tells.done v refl)
free_says name handles made handle (Some (Freed u)) own (answer.Version v) m line calm tells some =
    absurd m
free_says name handles made handle None own (answer.Pinned n) m line calm tells some = absurd m
free_says name handles made handle (Some (Held u c)) own (answer.Pinned n) m line calm tells some =
    pinned_alone u n own (tells.pinned n refl) (some n refl).0
free_says name handles made handle (Some (Freed u)) own (answer.Pinned n) m line calm tells some =
    absurd m
free_says name handles made handle None own answer.Unmade m line calm tells some = refl
free_says name handles made handle (Some (Held u c)) own answer.Unmade m line calm tells some =
    absurd m
free_says name handles made handle (Some (Freed u)) own answer.Unmade m line calm tells some =
    absurd m
free_says name handles made handle None own answer.Freed m line calm tells some = absurd m
free_says name handles made handle (Some (Held u c)) own answer.Freed m line calm tells some =
    absurd m
free_says name handles made handle (Some (Freed u)) own answer.Freed m line calm tells some = refl
free_says name handles made handle now own answer.Moving m line calm tells some = absurd calm
free_says name handles made handle now own answer.Worn m line calm tells some = absurd calm
free_says name handles made handle now own r m line calm tells some = absurd line

-- ---- by the scope

pub full_pin : (object : Object) (pins : ℕ) → pins ≡ 16
    → answer.ScopeFull ≡ pin_alone (Some object) pins
full_pin object pins full =
    sym (ap (λ (b : Bool). if b then answer.ScopeFull else pin_object object) (eq-eqb pins 16 full))

pub room_pin : (object : Object) (pins : ℕ) (r : Reply) → pins ≢ 16 → r ≡ pin_object object
    → r ≡ pin_alone (Some object) pins
room_pin object pins r room is = is
    ∙ sym (ap (λ (b : Bool). if b then answer.ScopeFull else pin_object object)
    (ne_eqb pins 16 room))

not_full : (r : Reply) (pins : ℕ) → (r ≡ answer.ScopeFull → ⊥) → (pins ≡ 16 → r ≡ answer.ScopeFull)
    → pins ≢ 16
not_full r pins off says full = off (says full)

version_full : (v : ℕ) → answer.Version v ≡ answer.ScopeFull → ⊥
version_full v e = cc

freed_full : answer.Freed ≡ answer.ScopeFull → ⊥
freed_full e = cc

pub pin_says : (name : List ℕ) (handles made h : ℕ) (now : MapNow) (pins : ℕ) (r : Reply)
    → MapReplies 1 handles made (Some h) now (event_of (Pin name) r)
    → IsUnmadeRight (Some h) (event_of (Pin name) r) → IsReplyOf (Pin name) r → IsCalmReply r
    → (r ≡ answer.ScopeFull → pins ≡ 16) → (pins ≡ 16 → r ≡ answer.ScopeFull)
    → r ≡ pin_alone now pins
pin_says name handles made h None pins (answer.Version v) m right line calm full says = absurd m
pin_says name handles made h (Some (Held u c)) pins (answer.Version v) m right line calm full says =
    room_pin (Held u c) pins (answer.Version v)
    (not_full (answer.Version v) pins (version_full v) says)
    (ap answer.Version m)
pin_says name handles made h (Some (Freed u)) pins (answer.Version v) m right line calm full says =
    absurd m
pin_says name handles made h None pins answer.ScopeFull m right line calm full says = absurd m
pin_says name handles made h (Some (Held u c)) pins answer.ScopeFull m right line calm full says =
    full_pin (Held u c) pins (full refl)
pin_says name handles made h (Some (Freed u)) pins answer.ScopeFull m right line calm full says =
    full_pin (Freed u) pins (full refl)
pin_says name handles made h None pins answer.Freed m right line calm full says = absurd m
pin_says name handles made h (Some (Held u c)) pins answer.Freed m right line calm full says =
    absurd m
pin_says name handles made h (Some (Freed u)) pins answer.Freed m right line calm full says =
    room_pin (Freed u) pins answer.Freed (not_full answer.Freed pins freed_full says) refl
pin_says name handles made h now pins answer.Unmade m right line calm full says = absurd right
pin_says name handles made h now pins (answer.NoRoom f l n) m right line calm full says =
    absurd calm
pin_says name handles made h now pins answer.Moving m right line calm full says = absurd calm
pin_says name handles made h now pins (answer.Unavailable i l) m right line calm full says =
    absurd calm
pin_says name handles made h now pins answer.Worn m right line calm full says = absurd calm
pin_says name handles made h now pins r m right line calm full says = absurd line

-- a peek shows what the map has, at the version that the scope tells
peek_shows : (name : List ℕ) (handles made h : ℕ) (now : MapNow) (version : ℕ) (bytes : List ℕ)
    → MapReplies 1 handles made (Some h) now (event_of (Peek name) (answer.Bytes version bytes))
    → answer.Bytes version bytes ≡ peek_alone now (Some version)
peek_shows name handles made h None version bytes m = absurd m
peek_shows name handles made h (Some (Held u c)) version bytes m = λ i. answer.Bytes version (m.1 i)
peek_shows name handles made h (Some (Freed u)) version bytes m = absurd m

peek_refused : (name : List ℕ) (handles made h : ℕ) (now : MapNow)
    → MapReplies 1 handles made (Some h) now (event_of (Peek name) answer.NotPinned)
    → answer.NotPinned ≡ peek_alone now None
peek_refused name handles made h None m = absurd m
peek_refused name handles made h (Some (Held u c)) m = refl
peek_refused name handles made h (Some (Freed u)) m = refl

pub peek_says : (name : List ℕ) (handles made h : ℕ) (now : MapNow) (pinned : Option ℕ) (r : Reply)
    → MapReplies 1 handles made (Some h) now (event_of (Peek name) r) → PeekSays pinned r
    → r ≡ peek_alone now pinned
peek_says name handles made h now None r m says = says ∙ peek_refused name handles made h now
    (subst (λ (q : Reply). MapReplies 1 handles made (Some h) now (event_of (Peek name) q)) says m)
peek_says name handles made h now (Some v) r m (bytes, says) = says
    ∙ peek_shows name handles made h now v bytes
    (subst (λ (q : Reply). MapReplies 1 handles made (Some h) now (event_of (Peek name) q)) says m)

unpin_refused : (name : List ℕ) (handles made h : ℕ) (now : MapNow)
    → MapReplies 1 handles made (Some h) now (event_of (Unpin name) answer.NotPinned)
    → answer.NotPinned ≡ unpin_alone now None
unpin_refused name handles made h None m = absurd m
unpin_refused name handles made h (Some o) m = refl

unpin_done : (name : List ℕ) (handles made h : ℕ) (now : MapNow) (v : ℕ)
    → MapReplies 1 handles made (Some h) now (event_of (Unpin name) answer.Done)
    → answer.Done ≡ unpin_alone now (Some v)
unpin_done name handles made h None v m = absurd m
unpin_done name handles made h (Some o) v m = refl

pub unpin_says : (name : List ℕ) (handles made h : ℕ) (now : MapNow) (pinned : Option ℕ) (r : Reply)
    → MapReplies 1 handles made (Some h) now (event_of (Unpin name) r) → UnpinSays pinned r
    → r ≡ unpin_alone now pinned
unpin_says name handles made h now None r m says = says ∙ unpin_refused name handles made h now
    (subst (λ (q : Reply). MapReplies 1 handles made (Some h) now (event_of (Unpin name) q)) says m)
unpin_says name handles made h now (Some v) r m says = says ∙ unpin_done name handles made h now v
    (subst (λ (q : Reply). MapReplies 1 handles made (Some h) now (event_of (Unpin name) q)) says m)
