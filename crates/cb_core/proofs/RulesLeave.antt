-- What each operation leaves of the handles made, the members and the pair that is joining, and
-- what its reply never tells of: a lost set, want of room, or that all turns are counted.
use Rattle.std.proofs.Common.{◌≡◌, ◌⊎◌, ℕ, zero, suc, ◌+◌, ◌-◌, ◌^◌, ◌≤◌, ◌==◌, nat_lt, if◌then◌else◌, Bool, true, false, List, Option, None, Some, refl, sym, ap, ◌∙◌, subst, inl, inr, arith}
use Rattle.std.proofs.lemmas.Option.{same_Some, none-some}
use Rattle.cb_member.specs.Membership.{Membership}
use Rattle.cb_ptr.specs.declared.word.State.{State}
use Rattle.cb_ptr.specs.declared.word.State.TheVariants as word
use Rattle.cb_ptr.specs.Word.{state_of, len_of}
use Rattle.cb_types.specs.declared.config.Config.{Config}
use Rattle.cb_types.specs.declared.job.Job.{Job}
use Rattle.cb_types.specs.declared.job.Job.TheVariants as job
use Rattle.cb_types.specs.declared.order.Kept.{Kept}
use Rattle.cb_types.specs.declared.order.Kept.TheVariants.{Decode, Encode}
use Rattle.cb_types.specs.declared.reply.Reply.{Reply}
use Rattle.cb_types.specs.declared.reply.Reply.TheVariants as answer
use Rattle.cb_world.specs.declared.access.Access.{Access}
use Rattle.cb_world.specs.FarState.{FarState}
use Rattle.cb_world.specs.Joining.{JoiningState}
use Rattle.cb_mutate.specs.Answered.{AbsentAs, AnsweredAs, EmptyAnswer}
use Rattle.cb_mutate.specs.FreeRule.{FreeAs, FreeFar, FreeHere, FreeRule, LeavesPlace}
use Rattle.cb_mutate.specs.MakeRule.{MakeRule}
use Rattle.cb_mutate.specs.WriteRule.{NextVersion, WriteHere, WriteRule}
use Rattle.cb_evict.specs.AbortRule.{AbortRule, HasNoBatch, HasGivenUp}
use Rattle.cb_evict.specs.BeginRule.{BeginRule, BeginsBy, HasBatch}
use Rattle.cb_evict.specs.CommitRule.{CommitRule, HasShort, HasCommitted}
use Rattle.cb_evict.specs.EvictRule.{EvictRule, HasBoth, HasFewNodes, HasFewSpans}
use Rattle.cb_evict.specs.declared.gathering.Gathered.{Gathered}
use Rattle.cb_evict.specs.Gathering.{GatherRule, HandsOut, gathered_reply}
use Rattle.cb_evict.specs.InstallRule.{InstallStep}
use Rattle.cb_evict.specs.ShipRule.{ShipRule}
use Rattle.cb_filter.specs.FilterRule.{EmptyToFilter, FilterAs, FilterHere, FilterRule}
use Rattle.cb_set.specs.Lost.{lost}
use Rattle.cb_set.specs.SetState.{SetState}
use Rattle.cb_types.specs.declared.handle.SetId.{SetId}
use Rattle.cb_world.specs.SetWord.{is_broken}
use Rattle.cb_compact.specs.CompactStep.{CompactStep, PairEnds}
use Rattle.cb_rebuild.specs.RebuildStep.{RebuildStep, Restores, surveyed}
use Rattle.cb_swapin.specs.declared.fetching.Fetching.{Fetching}
use Rattle.cb_swapin.specs.declared.fetching.Fetching.TheVariants.{Answer, Order}
use Rattle.cb_swapin.specs.FetchStep.{FetchFar, fetching_reply}
use Rattle.cb_swapin.specs.SwapRule.{BringsFar}
use Rattle.cb_core.specs.Turned.{IsDeclined}

-- whether a reply tells of a lost set, or of want of room
abbrev tells_lack : Reply → Bool
tells_lack (answer.Unavailable id lost) = true
tells_lack (answer.NoRoom frames loose nodes) = true
tells_lack r = false

abbrev pub is_worn : Reply → Bool
is_worn answer.Worn = true
is_worn r = false

-- the reply is neither
abbrev pub TellsNoLack : Reply → Type 0
TellsNoLack r = tells_lack r ≡ false

-- it is another one than Worn
abbrev pub Unworn : Reply → Type 0
Unworn r = is_worn r ≡ false

abbrev Telling : Type 0
Telling = Bool × Bool

abbrev pub telling : Reply → Telling
telling r = (tells_lack r, is_worn r)

-- it is none of the three
abbrev pub IsPlain : Reply → Type 0
IsPlain r = telling r ≡ (false, false)

pub lack_off : (r : Reply) → IsPlain r → TellsNoLack r
lack_off r plain = ap (λ (x : Telling). x.0) plain

pub worn_off : (r : Reply) → IsPlain r → Unworn r
worn_off r plain = ap (λ (x : Telling). x.1) plain

-- it is this one
pub off : (r q : Reply) → IsPlain q → r ≡ q → IsPlain r
off r q other is = ap telling is ∙ other

abbrev MembersAndPair : Type 0
MembersAndPair = Membership × Option JoiningState

-- the members, and the pair that is joining
abbrev pub standing : FarState → MembersAndPair
standing far = (far.members, far.joining)

abbrev Census : Type 0
Census = ℕ × MembersAndPair

-- the handles made, and these
abbrev pub census : FarState → Census
census far = (far.made, standing far)

-- the members and the pair are as they were
abbrev pub StandsAs : FarState → FarState → Type 0
StandsAs far new = standing new ≡ standing far

-- and as many handles are made
abbrev pub SameCensus : FarState → FarState → Type 0
SameCensus far new = census new ≡ census far

pub members_of : (far new : FarState) → StandsAs far new → new.members ≡ far.members
members_of far new same = ap (λ (x : MembersAndPair). x.0) same

pub joining_of : (far new : FarState) → StandsAs far new → new.joining ≡ far.joining
joining_of far new same = ap (λ (x : MembersAndPair). x.1) same

pub made_of : (far new : FarState) → SameCensus far new → new.made ≡ far.made
made_of far new same = ap (λ (x : Census). x.0) same

pub stands_of : (far new : FarState) → SameCensus far new → StandsAs far new
stands_of far new same = ap (λ (x : Census). x.1) same

pub same_census : (far new : FarState) → new ≡ far → SameCensus far new
same_census far new same = ap census same

-- so behind an operation with a plain reply
pub record StaysPlain (far new : FarState) (r : Reply) : Type 0 where
  pub same : SameCensus far new
  pub plain : IsPlain r

-- nothing changed, with this reply
stays : (far new : FarState) (r q : Reply) → IsPlain q → r ≡ q → new ≡ far → StaysPlain far new r
stays far new r q other is same =
    record { same = same_census far new same; plain = off r q other is }

-- or the far state is this one
comes : (far new next : FarState) (r q : Reply) → IsPlain q → r ≡ q → new ≡ next
    → SameCensus far next → StaysPlain far new r
comes far new next r q other is same keeps = record {
  same = same_census next new same ∙ keeps;
  plain = off r q other is;
}

-- ---- calls on objects
pub absent : (q : State) (h : ℕ) (es : List Access) (r : Reply) → AbsentAs q h es r → IsPlain r
absent word.Empty h es r (v, told, e) = by v e
  where
    by : (v : ℕ) → EmptyAnswer v r → IsPlain r
    by zero e = off r answer.Unmade refl e
    by (suc n) e = off r answer.Freed refl e
absent word.Far h es r e = off r answer.NotHere refl e
absent word.Here h es r e = absurd e
absent word.Moving h es r e = off r answer.Moving refl e

pub answered : (here : ℕ → Type 0) (q : State) (w h : ℕ) (es : List Access) (r : Reply)
    → (here w → IsPlain r) → AnsweredAs q here w h es r → IsPlain r
answered here word.Here w h es r f a = f a
answered here word.Empty w h es r f a = absent word.Empty h es r a
answered here word.Far w h es r f a = absent word.Far h es r a
answered here word.Moving w h es r f a = absent word.Moving h es r a

next_plain : (v : ℕ) (r : Reply) → NextVersion v r → TellsNoLack r
next_plain v r (inl (e, is)) = ap tells_lack is
next_plain v r (inr (l, is)) = ap tells_lack is

-- how many handles a job with this reply made
abbrev pub made_by : Job → Option Reply → ℕ
made_by (job.Make bytes) (Some (answer.Made handle version)) = 1
made_by j r = 0

-- a make that is answered Made makes one handle more, of which there were fewer than there are
pub record MakeLeaves (handles : ℕ) (bytes : List ℕ) (far new : FarState) (r : Reply) : Type 0
  where
    pub made : new.made ≡ far.made + made_by (job.Make bytes) (Some r)
    pub few : far.made ≤ handles → new.made ≤ handles
    pub stands : StandsAs far new
    pub plain : IsPlain r

-- so one that is refused makes none
make_none : (handles : ℕ) (bytes : List ℕ) (far new : FarState) (r : Reply)
    → made_by (job.Make bytes) (Some r) ≡ 0 → IsPlain r → new ≡ far
    → MakeLeaves handles bytes far new r
make_none handles bytes far new r none plain same =
    let e : new.made ≡ far.made = ap (λ (f : FarState). f.made) same in record {
      made = omega (arith, none, e);
      few = λ le. omega (arith, le, e);
      stands = ap standing same;
      plain = plain;
    }

pub make_leaves : (handles : ℕ) (bytes : List ℕ) (far new : FarState) (r : Reply) (es : List Access)
    → MakeRule handles bytes far new r es → MakeLeaves handles bytes far new r
make_leaves handles bytes far new (answer.Full n) es x =
    make_none handles bytes far new (answer.Full n) refl refl x.2.0
make_leaves handles bytes far new answer.NoFrame es x =
    make_none handles bytes far new answer.NoFrame refl refl x.2.0
make_leaves handles bytes far new (answer.Made h version) es x =
    let e : new.made ≡ far.made + 1 = ap (λ (f : FarState). f.made) x.1.state in record {
      made = e;
      few = λ le. let low = x.0 in omega (arith, e, low);
      stands = ap standing x.1.state;
      plain = refl;
    }
make_leaves handles bytes far new r es x = absurd x

pub write_plain : (h at : ℕ) (bytes : List ℕ) (r : Reply) (es : List Access)
    → WriteRule h at bytes r es → TellsNoLack r
write_plain h at bytes r es a = by (state_of a.word) a.word a.answer
  where
    here : (w : ℕ) → WriteHere h at bytes es r w → TellsNoLack r
    here w (inl (past, is)) = ap tells_lack is
    here w (inr (fits, inl (some, is))) = ap tells_lack is
    here w (inr (fits, inr (none, (v, words, taken, next)))) = next_plain v r next

    by : (q : State) (w : ℕ) → AnsweredAs q (WriteHere h at bytes es r) w h es r → TellsNoLack r
    by word.Here w x = here w x
    by word.Empty w x = lack_off r (absent word.Empty h es r x)
    by word.Far w x = lack_off r (absent word.Far h es r x)
    by word.Moving w x = lack_off r (absent word.Moving h es r x)

pub free_plain : (h : ℕ) (far new : FarState) (r : Reply) (es : List Access)
    → FreeRule h far new r es → TellsNoLack r
free_plain h far new r es a = by (state_of a.reply.word) a.reply.word a.reply.answer
  where
    here : (w : ℕ) → FreeHere h es r w → TellsNoLack r
    here w (inl (some, is)) = ap tells_lack is
    here w (inr (none, (v, words, taken, next))) = next_plain v r next

    by : (q : State) (w : ℕ) → FreeAs q w h es r → TellsNoLack r
    by word.Far w (v, told, next) = next_plain v r next
    by word.Here w x = here w x
    by word.Empty w x = lack_off r (absent word.Empty h es r x)
    by word.Moving w x = lack_off r (absent word.Moving h es r x)

leaves_place : (q : State) (far new : FarState) (h : ℕ) → LeavesPlace q far new h
    → SameCensus far new
leaves_place word.Here far new h x = ap census x.left
leaves_place word.Far far new h x = ap census x.left
leaves_place word.Empty far new h x = absurd x
leaves_place word.Moving far new h x = absurd x

pub free_far : (w h : ℕ) (r : Reply) (far new : FarState) → FreeFar w h r far new
    → SameCensus far new
free_far w h (answer.Version n) far new x = leaves_place (state_of w) far new h x
free_far w h r far new x = same_census far new x

pub filter_plain : (frames h : ℕ) (far new : FarState) (r : Reply) (es : List Access)
    → FilterRule frames h far new r es → StaysPlain far new r
filter_plain frames h far new r es a = by (state_of a.word) a.word a.answer
  where
    empty : (v : ℕ) → EmptyToFilter v r → IsPlain r
    empty zero e = off r answer.Unmade refl e
    empty (suc n) e = off r answer.NotHere refl e

    here : (w : ℕ) → FilterHere frames h w far new r es → StaysPlain far new r
    here w (inl (some, is, same)) = stays far new r _ refl is same
    here w (inr (claimed, (seat, at, inl x))) = stays far new r _ refl x.reply x.state
    here w (inr (claimed, (seat, at, inr (inl x)))) = stays far new r _ refl x.reply x.state
    here w (inr (claimed, (seat, at, inr (inr (slot, x))))) =
        comes far new _ r answer.Moved refl x.reply x.state refl

    by : (q : State) (w : ℕ) → FilterAs q frames h w far new r es → StaysPlain far new r
    by word.Here w x = here w x
    by word.Empty w ((v, told, e), same) =
        record { same = same_census far new same; plain = empty v e }
    by word.Far w (e, same) = stays far new r answer.NotHere refl e same
    by word.Moving w (e, same) = stays far new r answer.Moving refl e same

-- ---- evictions
pub evict_plain : (c : Config) (far new : FarState) (r : Reply) (es : List Access)
    → EvictRule far new r es → StaysPlain far new r
evict_plain c far new r es a = by a.answered
  where
    by : HasFewSpans far new r a.loose ⊎ (HasFewNodes far new r a.loose
        ⊎ HasBoth far new r a.loose es) → StaysPlain far new r
    by (inl x) = stays far new r _ refl x.reply x.state
    by (inr (inl x)) = stays far new r _ refl x.reply x.state
    by (inr (inr x)) = comes far new _ r _ refl x.reply x.evicted.state refl

begins_plain : (far new : FarState) (made : Bool) (so : List (List ℕ) → Type 0) (r : Reply)
    (es : List Access) → BeginsBy far new made so r es → StaysPlain far new r
begins_plain far new made so r es (inl a) = stays far new r _ refl a.reply a.state
begins_plain far new made so r es (inr a) = by a.answered
  where
    by : HasFewSpans far new r a.loose ⊎ (HasFewNodes far new r a.loose
        ⊎ HasBatch far new made so r a.loose es) → StaysPlain far new r
    by (inl x) = stays far new r _ refl x.reply x.state
    by (inr (inl x)) = stays far new r _ refl x.reply x.state
    by (inr (inr x)) = comes far new _ r _ refl x.reply x.begun.state refl

pub begin_plain : (c : Config) (far new : FarState) (r : Reply) (es : List Access)
    → BeginRule far new r es → StaysPlain far new r
begin_plain c far new r es x = begins_plain far new true (λ rows. Unit {0}) r es x

pub gather_plain : (far new : FarState) (g : Gathered) (es : List Access) → GatherRule far new g es
    → StaysPlain far new (gathered_reply g)
gather_plain far new g es x =
    begins_plain far new false (HandsOut far g) (gathered_reply g) es x

-- the parities of an order come to the batch of its number, or nothing changes
pub install_plain : (far new : FarState) (r : Reply) (order keeps : Option Kept)
    → InstallStep far new r order keeps → StaysPlain far new r
install_plain far new r None keeps (x, same) = stays far new r answer.NoOrder refl x.reply x.state
install_plain far new r (Some (Decode o)) keeps (x, same) =
    stays far new r answer.NoOrder refl x.reply x.state
install_plain far new r (Some (Encode o)) keeps x = elim x [
  | inl none ↦ stays far new r answer.NoBatch refl none.0.reply none.0.state
  | inr (inl other) ↦ stays far new r _ refl other.0.reply other.0.state
  | inr (inr z) ↦ comes far new _ r answer.Done refl z.0.reply z.0.state refl
]

pub ship_plain : (far new : FarState) (r : Reply) (es : List Access) → ShipRule far new r es
    → StaysPlain far new r
ship_plain far new r es a = elim a.ships [
  | inl x ↦ stays far new r answer.NoBatch refl x.reply x.state
  | inr (inl x) ↦ stays far new r answer.AllShipped refl x.reply x.state
  | inr (inr (inl x)) ↦ stays far new r answer.NoNode refl x.reply x.state
  | inr (inr (inr x)) ↦ comes far new _ r (answer.Shipped x.position) refl x.reply x.state refl
]

pub commit_plain : (far new : FarState) (r : Reply) (es : List Access) → CommitRule far new r es
    → StaysPlain far new r
commit_plain far new r es a = by a.answered
  where
    by : HasNoBatch far new r ⊎ (HasShort far new r ⊎ HasCommitted far new r) → StaysPlain far new r
    by (inl x) = stays far new r _ refl x.reply x.state
    by (inr (inl x)) = stays far new r _ refl x.reply x.state
    by (inr (inr x)) = comes far new _ r _ refl x.reply x.state refl

pub abort_plain : (far new : FarState) (r : Reply) (es : List Access) → AbortRule far new r es
    → StaysPlain far new r
abort_plain far new r es a = by a.answered
  where
    by : HasNoBatch far new r ⊎ HasGivenUp far new r → StaysPlain far new r
    by (inl x) = stays far new r _ refl x.reply x.state
    by (inr x) = comes far new _ r _ refl x.reply x.state refl

-- ---- jobs at the far state alone
restored_plain : (far new : FarState) (id : ℕ) (set : SetState) (r : Reply)
    → Restores (surveyed far id) id set new r → StaysPlain far new r
restored_plain far new id set r (inl stuck) =
    record { same = ap census stuck.same; plain = off r _ refl stuck.reply }
restored_plain far new id set r (inr z) =
    record { same = ap census z.state; plain = off r _ refl z.reply }

pub rebuild_plain : (far new : FarState) (r : Reply) → RebuildStep far new r → StaysPlain far new r
rebuild_plain far new r (inl none) =
    record { same = ap census none.state; plain = off r _ refl none.reply }
rebuild_plain far new r (inr z) = restored_plain far new z.id z.set r z.restores

pair_ends : (far new : FarState) (r : Reply) → PairEnds far new r → Unworn r
pair_ends far new r (inl full) = ap is_worn full.reply
pair_ends far new r (inr merged) = ap is_worn merged.reply

-- nor does a compaction tell that all turns are counted
pub compact_unworn : (far new : FarState) (r : Reply) → CompactStep far new r → Unworn r
compact_unworn far new r (inl x) = ap is_worn x.reply
compact_unworn far new r (inr (inl x)) = ap is_worn x.reply
compact_unworn far new r (inr (inr x)) = pair_ends x.stepped new r x.ends

-- ---- a position that is brought in
pub brings_census : (n : ℕ) (far new : FarState) (id p : ℕ) (set : SetState) (es : List Access)
    (r : Reply) → BringsFar n far new id p set es r → SameCensus far new
brings_census n far new id p set es (answer.Swapped f) x = ap census x.0.rest
brings_census n far new id p set es r x = ap census x.0

pub brings_kinds : (n : ℕ) (far new : FarState) (id p : ℕ) (set : SetState) (es : List Access)
    (r : Reply) → BringsFar n far new id p set es r → new.counts.by_job ≡ far.counts.by_job
brings_kinds n far new id p set es (answer.Swapped f) x =
    ap (λ (q : FarState). q.counts.by_job) x.0.rest
brings_kinds n far new id p set es r x = ap (λ (q : FarState). q.counts.by_job) x.0

-- rows that are fetched are handed out, or too many are lost, or the object's own is not
pub fetch_told : (P : Reply → Type 0) → ((id : SetId) (p : ℕ) → P (answer.Fetched id p))
    → (far new : FarState) (id p : ℕ) (set : SetState) (g : Fetching)
    → (is_broken far.members set ≡ true → P (answer.Unavailable (record { n = id })
    (lost far.members set.shards))) → P answer.Direct
    → FetchFar far new id p set g → P (fetching_reply g)
fetch_told P rows far new id p set (Order o) gone near x = rows (record { n = o.set }) o.position
fetch_told P rows far new id p set (Answer r) gone near x =
    subst P (sym x.0) (by (is_broken far.members set) refl)
  where
    by : (b : Bool) → is_broken far.members set ≡ b → P (if b
        then answer.Unavailable (record { n = id }) (lost far.members set.shards)
        else answer.Direct)
    by true broken = gone broken
    by false whole = near

-- ---- a write that is declined
pub declined_plain : (h at count : ℕ) (far : FarState) (r : Reply) (es : List Access)
    → IsDeclined h at count far (Some r) es → TellsNoLack r
declined_plain h at count far r es (inl (gone, none, nothing)) = absurd (none-some r (sym none))
declined_plain h at count far r es (inr (stays, (w, v, found, far_word, told, last, is))) =
    by (nat_lt (len_of w) (at + count)) (v == 2 ^ 64 - 1) is
  where
    by : (past worn : Bool) → Some r ≡ (if past then Some (answer.Range (len_of w))
        else if worn then Some answer.Worn else None) → TellsNoLack r
    by true worn e = ap tells_lack (same_Some r (answer.Range (len_of w)) e)
    by false true e = ap tells_lack (same_Some r answer.Worn e)
    by false false e = absurd (none-some r (sym e))
