-- No turn answers that there is no frame: where an operation finds none, room is won, or the answer is
-- that there is no room.
use Rattle.std.proofs.Common.{◌≡◌, ◌⊎◌, ℕ, zero, suc, ◌+◌, ◌-◌, ◌^◌, ◌==◌, nat_lt, if◌then◌else◌, Bool, true, false, List, length, Option, None, Some, refl, sym, ap, ◌∙◌, inl, inr}
use Rattle.std.proofs.lemmas.Bool.{false≢true}
use Rattle.cb_member.specs.declared.names.Loss.{Loss}
use Rattle.cb_ptr.specs.declared.word.State.{State}
use Rattle.cb_ptr.specs.declared.word.State.TheVariants as word
use Rattle.cb_ptr.specs.Word.{state_of, len_of}
use Rattle.cb_types.specs.declared.config.Config.{Config}
use Rattle.cb_types.specs.declared.handle.SetId.{SetId}
use Rattle.cb_types.specs.declared.job.Job.{Job}
use Rattle.cb_types.specs.declared.job.Job.TheVariants.{Make, Read, Write, Free, Swap, Filter, Evict, Begin, Ship, Commit, Abort}
use Rattle.cb_types.specs.declared.reply.Reply.{Reply}
use Rattle.cb_types.specs.declared.reply.Reply.TheVariants as answer
use Rattle.cb_world.specs.declared.access.Access.{Access}
use Rattle.cb_world.specs.declared.shown.Shown.{Shown}
use Rattle.cb_world.specs.FarState.{FarState}
use Rattle.cb_mutate.specs.Answered.{AbsentAs, AnsweredAs, EmptyAnswer}
use Rattle.cb_mutate.specs.FreeRule.{FreeAs, FreeHere, FreeRule}
use Rattle.cb_mutate.specs.ReadRule.{ReadHere, ReadRule}
use Rattle.cb_mutate.specs.WriteRule.{NextVersion, WriteHere, WriteRule}
use Rattle.cb_evict.specs.AbortRule.{AbortRule, HasNoBatch, HasGivenUp}
use Rattle.cb_evict.specs.BeginRule.{BeginRule, HasBatch}
use Rattle.cb_evict.specs.CommitRule.{CommitRule, HasShort, HasCommitted}
use Rattle.cb_evict.specs.EvictRule.{EvictRule, HasBoth, HasFewNodes, HasFewSpans}
use Rattle.cb_evict.specs.ShipRule.{ShipRule}
use Rattle.cb_evict.specs.declared.eviction.Eviction.{Eviction}
use Rattle.cb_filter.specs.FilterRule.{EmptyToFilter, FilterAs, FilterHere, FilterRule}
use Rattle.cb_core.specs.Parts.{Holding, WithRoom, at_once, no_room, won, WhereItIs, near, declined, stays_far, brought, BringsIn, not_far, was_far}
use Rattle.cb_core.specs.OnceHere.{OnceHere, away, here as once_in}
use Rattle.cb_core.specs.Turned.{ComesIn, Does, IsDeclined, Reads}
use Rattle.cb_core.proofs.FarJobs.{never_framed}

-- whether a reply is that there is no frame, or that a set is lost
abbrev says_lack : Reply → Bool
says_lack answer.NoFrame = true
says_lack (answer.Unavailable id lost) = true
says_lack r = false

-- the reply is neither
abbrev pub SaysNoLack : Reply → Type 0
SaysNoLack r = says_lack r ≡ false

-- the reply is not that there is no frame
abbrev pub Never : Reply → Type 0
Never r = r ≡ answer.NoFrame → ⊥

off : (r q : Reply) → says_lack q ≡ false → r ≡ q → SaysNoLack r
off r q other is = ap says_lack is ∙ other

pub stays_plain : (r : Reply) → r ≡ answer.Stays → SaysNoLack r
stays_plain r is = off r answer.Stays refl is

never : (r : Reply) → SaysNoLack r → Never r
never r plain e = false≢true (sym plain ∙ ap says_lack e)

pub whole : (r : Reply) → SaysNoLack r → (id : SetId) (l : List Loss) → r ≡ answer.Unavailable id l
    → ⊥
whole r plain id l e = false≢true (sym plain ∙ ap says_lack e)

-- ---- calls on objects
absent : (q : State) (h : ℕ) (es : List Access) (r : Reply) → AbsentAs q h es r → SaysNoLack r
absent word.Empty h es r (v, told, e) = by v e
  where
    by : (v : ℕ) → EmptyAnswer v r → SaysNoLack r
    by zero e = off r answer.Unmade refl e
    by (suc n) e = off r answer.Freed refl e
absent word.Far h es r e = off r answer.NotHere refl e
absent word.Here h es r e = absurd e
absent word.Moving h es r e = off r answer.Moving refl e

pub answered : (here : ℕ → Type 0) (q : State) (w h : ℕ) (es : List Access) (r : Reply)
    → (here w → SaysNoLack r) → AnsweredAs q here w h es r → SaysNoLack r
answered here word.Here w h es r f a = f a
answered here word.Empty w h es r f a = absent word.Empty h es r a
answered here word.Far w h es r f a = absent word.Far h es r a
answered here word.Moving w h es r f a = absent word.Moving h es r a

next_plain : (v : ℕ) (r : Reply) → NextVersion v r → SaysNoLack r
next_plain v r (inl (e, is)) = off r answer.Worn refl is
next_plain v r (inr (l, is)) = off r (answer.Version (v + 1)) refl is

pub read_plain : (h : ℕ) (r : Reply) (es : List Access) → ReadRule h r es → SaysNoLack r
read_plain h r es a =
    answered (ReadHere h es r) (state_of a.word) a.word h es r (by a.word) a.answer
  where
    by : (w : ℕ) → ReadHere h es r w → SaysNoLack r
    by w (inl (none, (v, words, taken, is))) = off r _ refl is
    by w (inr (some, (v, words, told, count, loaded, is))) = off r _ refl is

pub write_plain : (h at : ℕ) (bytes : List ℕ) (r : Reply) (es : List Access) → WriteRule h at bytes r es
    → SaysNoLack r
write_plain h at bytes r es a =
    answered (WriteHere h at bytes es r) (state_of a.word) a.word h es r (by a.word) a.answer
  where
    by : (w : ℕ) → WriteHere h at bytes es r w → SaysNoLack r
    by w (inl (past, is)) = off r (answer.Range (len_of w)) refl is
    by w (inr (fits, inl (some, is))) = off r _ refl is
    by w (inr (fits, inr (none, (v, words, taken, next)))) = next_plain v r next

pub free_plain : (h : ℕ) (far new : FarState) (r : Reply) (es : List Access) → FreeRule h far new r es
    → SaysNoLack r
free_plain h far new r es a = by (state_of a.reply.word) a.reply.word a.reply.answer
  where
    here : (w : ℕ) → FreeHere h es r w → SaysNoLack r
    here w (inl (some, is)) = off r _ refl is
    here w (inr (none, (v, words, taken, next))) = next_plain v r next

    by : (q : State) (w : ℕ) → FreeAs q w h es r → SaysNoLack r
    by word.Far w (v, told, next) = next_plain v r next
    by word.Here w x = here w x
    by word.Empty w x = absent word.Empty h es r x
    by word.Moving w x = absent word.Moving h es r x

pub filter_plain : (frames h : ℕ) (far new : FarState) (r : Reply) (es : List Access)
    → FilterRule frames h far new r es → SaysNoLack r
filter_plain frames h far new r es a = by (state_of a.word) a.word a.answer
  where
    empty : (v : ℕ) → EmptyToFilter v r → SaysNoLack r
    empty zero e = off r answer.Unmade refl e
    empty (suc n) e = off r answer.NotHere refl e

    here : (w : ℕ) → FilterHere frames h w far new r es → SaysNoLack r
    here w (inl (some, is, same)) = off r _ refl is
    here w (inr (claimed, (seat, at, inl x))) = off r _ refl x.reply
    here w (inr (claimed, (seat, at, inr (inl x)))) = off r _ refl x.reply
    here w (inr (claimed, (seat, at, inr (inr (slot, x))))) = off r _ refl x.reply

    by : (q : State) (w : ℕ) → FilterAs q frames h w far new r es → SaysNoLack r
    by word.Here w x = here w x
    by word.Empty w ((v, told, e), same) = empty v e
    by word.Far w (e, same) = off r answer.NotHere refl e
    by word.Moving w (e, same) = off r answer.Moving refl e

-- ---- evictions
pub evict_plain : (c : Config) (far new : FarState) (r : Reply) (es : List Access)
    → EvictRule far new r es → SaysNoLack r
evict_plain c far new r es a = by a.answered
  where
    by : HasFewSpans far new r a.loose ⊎ (HasFewNodes far new r a.loose
        ⊎ HasBoth far new r a.loose es) → SaysNoLack r
    by (inl x) = off r _ refl x.reply
    by (inr (inl x)) = off r _ refl x.reply
    by (inr (inr x)) = off r _ refl x.reply

pub begin_plain : (c : Config) (far new : FarState) (r : Reply) (es : List Access)
    → BeginRule far new r es → SaysNoLack r
begin_plain c far new r es (inl a) = off r _ refl a.reply
begin_plain c far new r es (inr a) = by a.answered
  where
    by : HasFewSpans far new r a.loose ⊎ (HasFewNodes far new r a.loose
        ⊎ HasBatch far new true (λ rows. Unit {0}) r a.loose es) → SaysNoLack r
    by (inl x) = off r _ refl x.reply
    by (inr (inl x)) = off r _ refl x.reply
    by (inr (inr x)) = off r _ refl x.reply

pub ship_plain : (far new : FarState) (r : Reply) (es : List Access) → ShipRule far new r es → SaysNoLack r
ship_plain far new r es a = elim a.ships [
  | inl x ↦ off r _ refl x.reply
  | inr (inl x) ↦ off r _ refl x.reply
  | inr (inr (inl x)) ↦ off r _ refl x.reply
  | inr (inr (inr x)) ↦ off r _ refl x.reply
]

pub commit_plain : (far new : FarState) (r : Reply) (es : List Access) → CommitRule far new r es → SaysNoLack r
commit_plain far new r es a = by a.answered
  where
    by : HasNoBatch far new r ⊎ (HasShort far new r ⊎ HasCommitted far new r) → SaysNoLack r
    by (inl x) = off r _ refl x.reply
    by (inr (inl x)) = off r _ refl x.reply
    by (inr (inr x)) = off r _ refl x.reply

pub abort_plain : (far new : FarState) (r : Reply) (es : List Access) → AbortRule far new r es → SaysNoLack r
abort_plain far new r es a = by a.answered
  where
    by : HasNoBatch far new r ⊎ HasGivenUp far new r → SaysNoLack r
    by (inl x) = off r _ refl x.reply
    by (inr x) = off r _ refl x.reply

-- ---- a write that is declined
some_none : (r : Reply) → Some r ≡ None → ⊥
some_none r e = cc

some_same : (a b : Reply) → Some a ≡ Some b → a ≡ b
some_same a b e = cc

pub declined_plain : (h at count : ℕ) (far : FarState) (r : Reply) (es : List Access)
    → IsDeclined h at count far (Some r) es → SaysNoLack r
declined_plain h at count far r es (inl (gone, none, nothing)) = absurd (some_none r none)
declined_plain h at count far r es (inr (stays, (w, v, found, far_word, told, last, is))) =
    by (nat_lt (len_of w) (at + count)) (v == 2 ^ 64 - 1) is
  where
    by : (past worn : Bool) → Some r ≡ (if past then Some (answer.Range (len_of w))
        else if worn then Some answer.Worn else None) → SaysNoLack r
    by true worn e = off r (answer.Range (len_of w)) refl (some_same _ _ e)
    by false true e = off r answer.Worn refl (some_same _ _ e)
    by false false e = absurd (some_none r e)

-- ---- the parts one after another
-- no reply of a part is so
abbrev pub AllNever : {D : Type 0} → (Holding D → Reply → Holding D → Type 0) → Type 0
AllNever {D = D} P = (a b : Holding D) (r : Reply) → P a r b → Never r

pub room_never : {D : Type 0} (frames : ℕ) (P : Holding D → Reply → Holding D → Type 0)
    (E : Holding D → Eviction → Holding D → Type 0) (left : ℕ) → AllNever (WithRoom frames P E left)
room_never frames P E left a b r (at_once o off) = off
room_never frames P E left a b r (no_room m why loose nodes o v is) = never r (off r _ refl is)
room_never frames P E (suc fewer) a b r (won m n id o v again) =
    room_never frames P E fewer n b r again

where_never : {D : Type 0} (P : Holding D → Reply → Holding D → Type 0)
    (L : Holding D → Option Reply → Holding D → Type 0) (E : Holding D → Reply → Holding D → Type 0)
    → AllNever P → ((a b : Holding D) (r : Reply) → L a (Some r) b → Never r) → AllNever E
    → AllNever (WhereItIs P L E)
where_never P L E p l e a b r (near o off) = p a b r o
where_never P L E p l e a b r (declined m o d) = l m b r d
where_never P L E p l e a b r (stays_far m n o d v off) = e n b r v
where_never P L E p l e a b r (brought m n q f o d v again) = p q b r again

brings_never : {D : Type 0} (P E : Holding D → Reply → Holding D → Type 0) → AllNever P
    → AllNever E → AllNever (BringsIn P E)
brings_never P E p e a b r (not_far o off) = p a b r o
brings_never P E p e a b r (was_far m o v) = e m b r v

once_never : {D : Type 0} (P E : Holding D → Reply → Holding D → Type 0) → AllNever P → AllNever E
    → AllNever (OnceHere P E)
once_never P E p e a b r (away o off) = p a b r o
once_never P E p e a b r (once_in m place o there call) = e m b r call

-- ---- a job, and a turn
-- a bringing in, and a read at the desk
module _ {D : Type 0} (run : D → List Access → D → Type 0) (shows : D → Shown → Type 0) (c : Config)
  where
    pub comes_never : (h : ℕ) → AllNever (ComesIn run shows c h)
    comes_never h a b r come = brings_never _ _
        (λ a b r x. never r (answered _ (state_of x.rule.1.word) x.rule.1.word h x.events r
        (λ is. off r answer.Stays refl is) x.rule.1.answer)) (room_never _ _ _ _) a b r come

    pub reads_never : (h : ℕ) → AllNever (Reads run shows h)
    reads_never h a b r x = never r (read_plain h r x.events x.rule.1)

module _ {D : Type 0} (run : D → List Access → D → Type 0) (shows : D → Shown → Type 0)
    (reads : ℕ → Holding D → Reply → Holding D → Type 0) (read : (h : ℕ) → AllNever (reads h))
    (c : Config) where
  pub does_never : (job : Job) (a b : Holding D) (r : Reply) → Does run shows reads c job a r b
      → Never r
  does_never (Make bytes) a b r does = room_never _ _ _ _ a b r does
  does_never (Read handle) a b r does = once_never (ComesIn run shows c handle.n) (reads handle.n)
      (comes_never run shows c handle.n) (read handle.n) a b r does
  does_never (Write handle at bytes) a b r does = where_never _ _ _
      (λ a b r x. never r (write_plain handle.n at bytes r x.events x.rule.1))
      (λ a b r x. never r (declined_plain handle.n at (length bytes) a.far r x.1.events x.1.rule))
      (room_never _ _ _ _) a b r does
  does_never (Free handle) a b r does =
      never r (free_plain handle.n a.far b.far r does.events does.rule)
  does_never (Swap handle) a b r does = comes_never run shows c handle.n a b r does
  does_never (Filter handle) a b r does =
      never r (filter_plain c.frames handle.n a.far b.far r does.events does.rule)
  does_never Evict a b r does = never r (evict_plain c a.far b.far r does.events does.rule)
  does_never Begin a b r does = never r (begin_plain c a.far b.far r does.events does.rule)
  does_never Ship a b r does = never r (ship_plain a.far b.far r does.events does.rule)
  does_never Commit a b r does = never r (commit_plain a.far b.far r does.events does.rule)
  does_never Abort a b r does = never r (abort_plain a.far b.far r does.events does.rule)
  does_never job a b r does = never_framed job a.far b.far r does.1 (λ none. none)
