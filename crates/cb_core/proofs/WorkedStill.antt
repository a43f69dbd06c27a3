-- Worked examples of the parts of a turn at the still desk: what meets each, and what breaks one of
-- its parts alone.
use Rattle.std.proofs.Common.{◌≡◌, ℕ, zero, suc, ◌+◌, ◌<◌, ◌≤◌, Bool, true, false, List, [], ◌∷◌, Option, None, Some, length, get_or, unwrap_or, refl, ap, sym, ◌∙◌, subst, inl, inr, lit<, lit≤, arith}
use Rattle.std.specs.FinMap as map
use Rattle.std.specs.Ordering.{nat_cmp}
use Rattle.cb_class.specs.Class.{IsClassOf, bytes_of}
use Rattle.cb_frame.specs.Runs.{least_run}
use Rattle.cb_member.specs.declared.names.Shard.{Shard}
use Rattle.cb_member.specs.Membership.{fresh_members}
use Rattle.cb_ptr.specs.Word.{state_number}
use Rattle.cb_set.specs.SetState.{SetState, set_of}
use Rattle.cb_span.specs.Contents.{Contents}
use Rattle.cb_span.specs.declared.temp.Temp.TheVariants.{Hot, Cold}
use Rattle.cb_types.specs.declared.config.Field.TheVariants.{K, R, Nodes, Frames, Room, Handles, Turns}
use Rattle.cb_types.specs.declared.handle.SetId.{SetId}
use Rattle.cb_types.specs.declared.job.Job.TheVariants.{Read, Write, Swap, Rebuild}
use Rattle.cb_types.specs.declared.order.Kept.{Kept}
use Rattle.cb_types.specs.declared.reply.Reply.{Reply}
use Rattle.cb_types.specs.declared.reply.Reply.TheVariants as answer
use Rattle.cb_types.specs.Config.{IsAccepted}
use Rattle.cb_world.specs.declared.access.Access.{Access}
use Rattle.cb_world.specs.declared.homes.Home.{Home}
use Rattle.cb_world.specs.declared.shown.Shown.{Shown}
use Rattle.cb_world.specs.FarState.{FarState, span_in}
use Rattle.cb_world.specs.Leaving.{LeavingState}
use Rattle.cb_world.specs.Memory.{bytes_in, window}
use Rattle.cb_world.specs.Now.{now, is_gone, broken_set}
use Rattle.cb_world.specs.OpenWrites.{AreOpen}
use Rattle.cb_world.specs.Orders.{IsOrderKept}
use Rattle.cb_world.specs.Placed.{HasRoom}
use Rattle.cb_world.specs.Plain.{Words}
use Rattle.cb_world.specs.Seats.{SeatState}
use Rattle.cb_world.specs.Sets.{if_committed, set_in}
use Rattle.cb_world.specs.World.{IsKnown, empty_world}
use Rattle.cb_world.proofs.Laws.{now_same, empty_world_sound}
use Rattle.cb_evict.specs.AbortStep.{no_batch as none_to_abort, given_up}
use Rattle.cb_evict.specs.BeginStep.{IsBeginStep, is_leaving, few_spans as few_to_begin, few_nodes as few_to_take, begins}
use Rattle.cb_evict.specs.CommitStep.{no_batch as none_to_commit, short, committed}
use Rattle.cb_evict.specs.EvictStep.{few_spans, few_nodes, made}
use Rattle.cb_evict.specs.ShipRule.{ShipsRow}
use Rattle.cb_evict.specs.Waiting.{waiting, least_waiting}
use Rattle.cb_evict.specs.Lengths.{batch_pages, most_loose}
use Rattle.cb_evict.proofs.Laws.{longest_within, some_within, calm as wide_calm, desk as wide_desk, far as wide_far, known as wide_shown, after as wide_after, all_known as wide_known, step as wide_step, none_known}
use Rattle.cb_filter.specs.FilterStep.{refused, cools, without_slot, moves}
use Rattle.cb_filter.specs.Seats.{Seat}
use Rattle.cb_world.specs.SetWord.{IsWeak}
use Rattle.cb_rebuild.specs.RebuildStep.{IsFirstWeak, RebuildStep}
use Rattle.cb_swapin.specs.Fetching.{far_given}
use Rattle.cb_core.specs.Declining.{write_refusal}
use Rattle.cb_evict.specs.declared.eviction.Eviction.TheVariants.{Refused}
use Rattle.cb_evict.specs.declared.eviction.Lack.TheVariants.{Spans}
use Rattle.cb_core.specs.Parts.{Holding, no_room, declined, stays_far, not_far, was_far}
use Rattle.cb_core.specs.Step.{StillRead, StillWrite, StillFind, StillDecline, HoldOn, StillEvict, StillRoom, StillBegin, StillShip, StillCommit, StillAbort, StillSwap, StillBring, StillFar, StillFilter, StillWorks, StillMakeLacks, StillReadLacks, StillEvictLacks, StillShipLacks, StillSwapLacks, StillFarLacks, StillFilterLacks}
use Rattle.cb_core.specs.FarJobs.{FarLacks, FarStep, IsWeakGiven}
use Rattle.cb_core.specs.Turned.{AtFar, AtFarLacks}
use Rattle.cb_core.proofs.WorkedPins.{settings, desk, away, calm, hot, pinned, moving}
use Rattle.cb_core.proofs.WorkedRoom.{counts, far_of, first_down, of_four, one_page, one_small_page, span_with, two_open, words_are}

-- ---- two frames, of which none is free, and whose spans have object 1; object 0 has its home in set
-- 5, which has a live position
abbrev shard : ℕ → Shard
shard n = record { node = record { n = n }; incarnation = 0; key = n }

abbrev set : SetState
set = set_of 5 1 (shard 0 ∷ shard 1 ∷ [])
    (record { live = true; slots = Some 0 ∷ None ∷ None ∷ None ∷ [] } ∷ [])

abbrev home : Home
home = record { set = 5; position = 0; slot = 0 }

abbrev near : FarState
near = far_of (span_with (Some 1) None) (span_with None (Some 1)) None (fresh_members 2) (counts 0 [])

abbrev away_far : FarState
away_far = record near {
  sets = map.insert map.empty 5 (record { set = set; committed = true });
  homes = Some home ∷ None ∷ [];
}

there : set_in away_far.sets 5 ≡ Some set
there = grind (arith, map.gets)

-- its set has lost no shard
not_gone : is_gone away_far 0 ≡ false
not_gone = ap (λ (o : Option SetState). broken_set away_far.members o) there

abbrev more : FarState → FarState
more far = record far { made = far.made + 1 }

abbrev holds : ℕ → FarState → Holding Words
holds word far = record { desk = desk word 3; far = far }

abbrev word_of : Holding Words → ℕ
word_of d = get_or d.desk.words 0 0

abbrev made_of : FarState → ℕ
made_of far = far.made

-- ---- a read and a write keep the far state
reads : StillRead 0 (holds calm near) (answer.Bytes 3 (10 ∷ 11 ∷ [])) (holds hot near)
unfolding bytes_in window
reads = (record { reply = refl; change = refl }, refl)

reads_another : StillRead 0 (holds calm near) (answer.Bytes 4 (10 ∷ 11 ∷ [])) (holds hot near) → ⊥
unfolding bytes_in window
reads_another step = let e : 4 ≡ 3 = ap version_of step.0.reply in omega (arith, e)
  where
    version_of : Reply → ℕ
    version_of (answer.Bytes v bytes) = v
    version_of r = 0

reads_and_makes : StillRead 0 (holds calm near) (answer.Bytes 3 (10 ∷ 11 ∷ [])) (holds hot (more near))
    → ⊥
reads_and_makes step = let e : 2 ≡ 1 = ap made_of step.1 in omega (arith, e)

not_here : StillWrite 0 1 (7 ∷ []) (holds away near) answer.NotHere (holds away near)
not_here = (record { reply = refl; change = refl }, refl)

not_here_is_not_moving : StillWrite 0 1 (7 ∷ []) (holds away near) answer.Moving (holds away near)
    → ⊥
not_here_is_not_moving step = moving_away step.0.reply
  where
    moving_away : answer.Moving ≡ answer.NotHere → ⊥
    moving_away e = cc

not_here_and_warms : StillWrite 0 1 (7 ∷ []) (holds away near) answer.NotHere (holds hot near) → ⊥
not_here_and_warms step = let e : 16390 ≡ 16385 =
    ap (λ (x : Words). get_or x.words 0 0) step.0.change in omega (arith, e)

not_here_and_makes : StillWrite 0 1 (7 ∷ []) (holds away near) answer.NotHere (holds away (more near))
    → ⊥
not_here_and_makes step = let e : 2 ≡ 1 = ap made_of step.1 in omega (arith, e)

-- ---- a look at where an object is
stays : StillFind 0 (holds calm near) answer.Stays (holds calm near)
stays = (refl, refl)

is_far : StillFind 0 (holds away near) answer.NotHere (holds away near)
is_far = (refl, refl)

is_moving : StillFind 0 (holds moving near) answer.Moving (holds moving near)
is_moving = (refl, refl)

was_freed : StillFind 0 (holds 0 near) answer.Freed (holds 0 near)
was_freed = (refl, refl)

never_made : StillFind 1 (holds calm near) answer.Unmade (holds calm near)
never_made = (refl, refl)

far_and_stays : StillFind 0 (holds away near) answer.Stays (holds away near) → ⊥
far_and_stays step = let e = step.0 in absurd cc

finds_and_warms : StillFind 0 (holds calm near) answer.Stays (holds hot near) → ⊥
finds_and_warms step = let e : 16390 ≡ 16386 = ap word_of step.1 in omega (arith, e)

-- ---- a look before a write: object 0 has two bytes
abbrev refusal_by : Bool → ℕ → Option Reply
refusal_by lost count = write_refusal lost 2 3 1 count

goes_on : StillDecline 0 1 1 (holds away away_far) None (holds away away_far)
goes_on = (ap (λ (b : Bool). refusal_by b 1) (sym not_gone), refl)

past_its_end : StillDecline 0 1 2 (holds away away_far) (Some (answer.Range 2)) (holds away away_far)
past_its_end = (ap (λ (b : Bool). refusal_by b 2) (sym not_gone), refl)

none_some : (r : Reply) → None ≡ Some r → ⊥
none_some r e = cc

goes_on_past_its_end : StillDecline 0 1 2 (holds away away_far) None (holds away away_far) → ⊥
goes_on_past_its_end step =
    none_some (answer.Range 2) (step.0 ∙ ap (λ (b : Bool). refusal_by b 2) not_gone)

looks_and_warms : StillDecline 0 1 1 (holds away away_far) None (holds hot away_far) → ⊥
looks_and_warms step = let e : 16390 ≡ 16385 = ap word_of step.1 in omega (arith, e)

-- ---- what every object holds
same_holds : (a : Holding Words) → HoldOn a a
same_holds a s k = (s, k, (λ h. refl), (λ seats ongoing. ongoing), λ o kept. kept)

-- words that are lost are not known
abbrev emptied : Holding Words
emptied = record {
  desk = record { settings = settings; words = []; versions = []; memory = [] };
  far = (empty_world settings).far;
}

accepted : IsAccepted settings
accepted K = (lit≤ tt, lit≤ tt)
accepted R = (lit≤ tt, lit≤ tt)
accepted Nodes = (lit≤ tt, lit≤ tt)
accepted Frames = (lit≤ tt, lit≤ tt)
accepted Room = (lit≤ tt, lit≤ tt)
accepted Handles = (lit≤ tt, lit≤ tt)
accepted Turns = lit≤ tt

words_are_lost : HoldOn (record { desk = (empty_world settings).desk; far = (empty_world settings).far }) emptied
    → ⊥
words_are_lost hold =
    let sound = empty_world_sound settings accepted in
    let after = hold sound.shown sound.known in
    let e : 0 ≡ 2 = after.1.sized.words in omega (arith, e)

-- nor does it hold on where all is known before and after, and one object holds something else
holds_another : (a b : Holding Words) (s t : Shown) (h : ℕ) → IsKnown a.desk a.far s
    → IsKnown b.desk b.far t → (now t b.far h ≡ now s a.far h → ⊥) → HoldOn a b → ⊥
holds_another a b s t h k l off hold =
    let after = hold s k in
    off (now_same b.desk after.0 t b.far h after.1.shows after.1.sound l.shows l.sound ∙ after.2 h)

-- nor where an open write of a seat does not stay open
closes_a_write : (a b : Holding Words) (s : Shown) (seats : List SeatState) → IsKnown a.desk a.far s
    → AreOpen a.desk a.far seats → (AreOpen b.desk b.far seats → ⊥) → HoldOn a b → ⊥
closes_a_write a b s seats k ongoing off hold = off ((hold s k).3 seats ongoing)

-- nor where an order that was kept is not kept
forgets_an_order : (a b : Holding Words) (s : Shown) (o : Kept) → IsKnown a.desk a.far s
    → IsOrderKept s a.far o → ((t : Shown) → IsKnown b.desk b.far t → IsOrderKept t b.far o → ⊥)
    → HoldOn a b → ⊥
forgets_an_order a b s o k kept off hold = let z = hold s k in off z.0 z.1 (z.4 o kept)

-- ---- an eviction: both objects have pins
abbrev crowd : Holding Words
crowd = record {
  desk = words_are pinned pinned;
  far = far_of (span_with (Some 0) None) (span_with (Some 1) None) None (fresh_members 2) (counts 0 []);
}

no_spans : StillEvict crowd (answer.NoSpans 0) crowd
unfolding batch_pages most_loose
no_spans = (
  few_spans (record { few = refl; reply = refl; state = refl }) refl,
  same_holds crowd,
)

abbrev spans_of : Reply → ℕ
spans_of (answer.NoSpans n) = n
spans_of r = 9

one_span : StillEvict crowd (answer.NoSpans 1) crowd → ⊥
unfolding most_loose
one_span (few_spans a e, hold) =
    let z : 1 ≡ 0 = ap spans_of a.reply in absurd (omega (arith, z))
one_span (few_nodes a e, hold) = let n : 1 ≤ 0 = some_within _ _ _ a.enough in absurd (omega (arith, n))
one_span (made m, hold) = let n : 1 ≤ 0 = longest_within _ _ _ _ m.longest in absurd (omega (arith, n))

-- ---- the steps of a batch: where none is leaving, and where one is whose rows were not put
abbrev batch : LeavingState
batch = record {
  set = 4;
  pages = 1;
  frames = 1 ∷ [];
  words = [];
  made = true;
  parities = [];
  shards = None ∷ None ∷ [];
}

abbrev beside : Holding Words
beside = record { desk = crowd.desk; far = record crowd.far { leaving = Some batch } }

none_batch : (b : LeavingState) → None ≡ Some b → ⊥
none_batch b e = cc

some_batch : Some batch ≡ None → ⊥
some_batch e = cc

batch_same : (b : LeavingState) → Some batch ≡ Some b → b ≡ batch
batch_same b e = cc

-- ---- a begin
begins_none : StillBegin crowd (answer.NoSpans 0) crowd
unfolding batch_pages most_loose
begins_none = (
  few_to_begin refl (record { few = refl; reply = refl; state = refl }) refl,
  same_holds crowd,
)

begins_one : StillBegin crowd (answer.NoSpans 1) crowd → ⊥
unfolding most_loose
begins_one (is_leaving b there reply state e, hold) = none_batch b there
begins_one (few_to_begin none a e, hold) =
    let z : 1 ≡ 0 = ap spans_of a.reply in absurd (omega (arith, z))
begins_one (few_to_take none a e, hold) = let n : 1 ≤ 0 = some_within _ _ _ a.enough in absurd (omega (arith, n))
begins_one (begins m, hold) = let n : 1 ≤ 0 = longest_within _ _ _ _ m.longest in absurd (omega (arith, n))

begins_again : StillBegin beside (answer.Leaving (record { n = 4 })) beside
begins_again = (is_leaving batch refl refl refl refl, same_holds beside)

-- where a batch is leaving nothing is looked at
begins_beside : StillBegin beside (answer.NoSpans 0) beside → ⊥
begins_beside (is_leaving b there reply state e, hold) = spans_leaving (record { n = b.set }) reply
  where
    spans_leaving : (id : SetId) → answer.NoSpans 0 ≡ answer.Leaving id → ⊥
    spans_leaving id e = cc
begins_beside (few_to_begin none a e, hold) = some_batch none
begins_beside (few_to_take none a e, hold) = some_batch none
begins_beside (begins m, hold) = some_batch m.none

-- a step that is a begin: all is known before it, and nothing after it
abbrev wide : Holding Words
wide = record { desk = wide_desk wide_calm; far = wide_far }

abbrev widened : Holding Words
widened = record { desk = wide_desk (wide_calm + 1); far = wide_after }

begins_as_it_is : IsBeginStep wide.desk widened.desk wide.far widened.far (answer.Batch (record { n = 0 }))
begins_as_it_is = wide_step

begins_and_loses : StillBegin wide (answer.Batch (record { n = 0 })) widened → ⊥
begins_and_loses (step, hold) =
    let after = hold wide_shown wide_known in none_known after.0 after.1

-- ---- a ship: the rows of both positions were put
abbrev put : LeavingState
put = record batch { shards = Some (shard 0) ∷ Some (shard 1) ∷ [] }

abbrev whole : Holding Words
whole = record { desk = crowd.desk; far = record crowd.far { leaving = Some put } }

ships_none : StillShip crowd answer.NoBatch crowd
ships_none = (
  record { words = refl; ships = inl (record { none = refl; reply = refl; state = refl }) },
  same_holds crowd,
)

ships_all : StillShip whole answer.AllShipped whole
ships_all = (
  record {
    words = refl;
    ships = inr (inl (record { batch = put; there = refl; none = refl; reply = refl; state = refl }));
  },
  same_holds whole,
)

-- where positions wait
ships_all_of_none : StillShip beside answer.AllShipped beside → ⊥
ships_all_of_none (step, hold) = by _ step.ships
  where
    some_none : (p : ℕ) → Some p ≡ None → ⊥
    some_none p e = cc

    all_no_node : answer.AllShipped ≡ answer.NoNode → ⊥
    all_no_node e = cc

    all_shipped : (p : ℕ) → answer.AllShipped ≡ answer.Shipped p → ⊥
    all_shipped p e = cc

    by : (row : LeavingState → List (List ℕ)) → ShipsRow beside.far beside.far answer.AllShipped row
        → ⊥
    by row (inl n) = some_batch n.none
    by row (inr (inl all)) =
        some_none 0 (ap (λ (b : LeavingState). least_waiting crowd.far.members b.shards)
        (sym (batch_same all.batch all.there)) ∙ all.none)
    by row (inr (inr (inl n))) = all_no_node n.reply
    by row (inr (inr (inr z))) = all_shipped z.position z.reply

ships_all_and_warms : StillShip whole answer.AllShipped
    (record { desk = words_are hot pinned; far = whole.far }) → ⊥
ships_all_and_warms (step, hold) = let w : 16390 ≡ 16398 =
    ap (λ (x : Words). get_or x.words 0 0) step.words in omega (arith, w)

-- ---- a commit
commits_none : StillCommit crowd answer.NoBatch crowd
commits_none = (
  none_to_commit (record { none = refl; reply = refl; state = refl }) refl,
  same_holds crowd,
)

commits_short : StillCommit beside (answer.Short (0 ∷ 1 ∷ [])) beside
commits_short = (
  short (record { batch = batch; there = refl; some = lit≤ tt; reply = refl; state = refl }) refl,
  same_holds beside,
)

-- both positions wait
commits_short_of_one : StillCommit beside (answer.Short (0 ∷ [])) beside → ⊥
commits_short_of_one (none_to_commit n e, hold) = some_batch n.none
commits_short_of_one (short z e, hold) =
    let m = crowd.far.members in
    let one : 1 ≡ length (waiting m z.batch.shards) =
    ap (λ (r : Reply). length (positions_in r)) z.reply in
    let two : length (waiting m z.batch.shards) ≡ 2 =
    ap (λ (b : LeavingState). length (waiting m b.shards)) (batch_same z.batch z.there) in
    omega (arith, one, two)
  where
    positions_in : Reply → List ℕ
    positions_in (answer.Short positions) = positions
    positions_in r = []
commits_short_of_one (committed c away, hold) = short_set (record { n = c.batch.set }) c.reply
  where
    short_set : (id : SetId) → answer.Short (0 ∷ []) ≡ answer.Set id → ⊥
    short_set id e = cc

commits_short_and_warms : StillCommit beside (answer.Short (0 ∷ 1 ∷ []))
    (record { desk = words_are hot pinned; far = beside.far }) → ⊥
commits_short_and_warms (none_to_commit n e, hold) = some_batch n.none
commits_short_and_warms (short z e, hold) = let w : 16390 ≡ 16398 =
    ap (λ (x : Words). get_or x.words 0 0) e in omega (arith, w)
commits_short_and_warms (committed c away, hold) = short_set (record { n = c.batch.set }) c.reply
  where
    short_set : (id : SetId) → answer.Short (0 ∷ 1 ∷ []) ≡ answer.Set id → ⊥
    short_set id e = cc

-- ---- an abort
aborts_none : StillAbort crowd answer.NoBatch crowd
aborts_none = (
  none_to_abort (record { none = refl; reply = refl; state = refl }) refl,
  same_holds crowd,
)

aborts_nothing : StillAbort crowd answer.Done crowd → ⊥
aborts_nothing (none_to_abort n e, hold) = done_none n.reply
  where
    done_none : answer.Done ≡ answer.NoBatch → ⊥
    done_none e = cc
aborts_nothing (given_up g back, hold) = none_batch g.batch g.there

-- the batch is not leaving any more
aborts_and_keeps : StillAbort beside answer.Done beside → ⊥
aborts_and_keeps (none_to_abort n e, hold) = some_batch n.none
aborts_and_keeps (given_up g back, hold) = some_batch (ap (λ (f : FarState). f.leaving) g.state)

-- ---- a swap-in: no frame is free
no_frame : StillSwap 0 (holds away away_far) answer.NoFrame (holds away away_far)
no_frame = (
  home,
  refl,
  record { set = set; there = there; reply = refl; change = (refl, refl) },
  same_holds (holds away away_far),
)

-- an object without a home
no_home : (r : Reply) (b : Holding Words) → StillSwap 1 (holds away away_far) r b → ⊥
no_home r b (h, at, step, hold) = none_some h at
  where
    none_some : (h : Home) → None ≡ Some h → ⊥
    none_some h e = cc

no_frame_and_warms : StillSwap 0 (holds away away_far) answer.NoFrame (holds hot away_far) → ⊥
no_frame_and_warms (h, at, step, hold) = let e : 16390 ≡ 16385 =
    ap (λ (x : Words). get_or x.words 0 0) step.change.0 in omega (arith, e)

-- ---- parts one after another
abbrev start : Holding Words
start = holds away away_far

write_off : StillWrite 0 1 (7 ∷ 7 ∷ []) start answer.NotHere start
write_off = (record { reply = refl; change = refl }, refl)

-- a write past the end of a far object is declined, and brings nothing in
declines : StillWorks (Write (record { n = 0 }) 1 (7 ∷ 7 ∷ [])) start (answer.Range 2) start
declines = declined start write_off past_its_end

-- object 1 is not in local memory, so no span is loose
none_loose : StillEvict start (answer.NoSpans 0) start
unfolding batch_pages most_loose
none_loose = (
  few_spans (record { few = refl; reply = refl; state = refl }) refl,
  same_holds start,
)

-- and two nodes have room
none_told : StillRoom start (Refused Spans 0 2) start
unfolding most_loose
none_told = (record { step = none_loose.0; counts = (refl, sym two_open) }, none_loose.1)

-- another number of nodes
other_told : StillRoom start (Refused Spans 0 1) start → ⊥
other_told a = let e = a.0.counts.1 in absurd (omega (arith, e, two_open))

room_swapped : (f : ℕ) → answer.NoRoom 2 0 2 ≡ answer.Swapped f → ⊥
room_swapped f e = cc

stays_out : StillBring 0 start (answer.NoRoom 2 0 2) start
stays_out = no_room start Spans 0 2 no_frame none_told refl

swaps : StillWorks (Swap (record { n = 0 })) start (answer.NoRoom 2 0 2) start
swaps = was_far start is_far_away stays_out
  where
    is_far_away : StillFind 0 start answer.NotHere start
    is_far_away = (refl, refl)

reads_in : StillWorks (Read (record { n = 0 })) start (answer.NoRoom 2 0 2) start
reads_in = stays_far start start (record { reply = refl; change = refl }, refl) (refl, refl) stays_out
    room_swapped

-- an object that is here is not brought in
swaps_none : StillWorks (Swap (record { n = 0 })) (holds calm near) answer.Stays (holds calm near)
swaps_none = not_far stays (λ e. stays_away e)
  where
    stays_away : answer.Stays ≡ answer.NotHere → ⊥
    stays_away e = cc

-- ---- no memory
smallest : IsClassOf 1 (record { index = 0 })
unfolding bytes_of
smallest = record {
  in_table = lit< tt;
  holds = lit≤ tt;
  least = λ smaller less. absurd (omega (arith, less));
}

abbrev kind : Option ℕ → ℕ
kind found = unwrap_or found 1

-- a frame is free, and the spans are of another class
abbrev open_far : FarState
open_far = record near { frames = false ∷ true ∷ []; spans = span_with (Some 0) None ∷ None ∷ [] }

none_has_room : (f : ℕ) → HasRoom open_far (record { index = 0 }) Hot f → ⊥
none_has_room zero room = let e : 22 ≡ 0 = ap kind room.0 in omega (arith, e)
none_has_room (suc zero) room = let e : 1 ≡ 0 = ap kind room.0 in omega (arith, e)
none_has_room (suc (suc f)) room = let e : 1 ≡ 0 = ap kind room.0 in omega (arith, e)

make_stops : StillMakeLacks (7 ∷ []) (holds calm open_far) (holds calm open_far)
make_stops = (
  refl,
  (
    lit< tt,
    (
      record { index = 0 },
      smallest,
      record {
        full = none_has_room;
        first = 1;
        some_free = ap (least_run open_far.frames) one_small_page;
      },
    ),
  ),
)

make_stops_and_warms : StillMakeLacks (7 ∷ []) (holds calm open_far) (holds hot open_far) → ⊥
make_stops_and_warms stops = let e : 16390 ≡ 16386 = ap word_of stops.0 in omega (arith, e)

-- where all handles were made, no memory is lacked
full_stops : StillMakeLacks (7 ∷ []) (holds calm (more open_far)) (holds calm (more open_far)) → ⊥
full_stops stops = let e = stops.1.0 in omega (arith, e)

read_stops : StillReadLacks 0 (holds calm near) (holds calm near)
read_stops = (refl, refl)

read_stops_and_makes : StillReadLacks 0 (holds calm near) (holds calm (more near)) → ⊥
read_stops_and_makes stops = let e : 2 ≡ 1 = ap (λ (a : Holding Words). a.far.made) stops.0 in
    omega (arith, e)

-- a read whose bytes find no memory leaves the hot bit as it was
read_stops_and_warms : StillReadLacks 0 (holds calm near) (holds hot near) → ⊥
read_stops_and_warms stops = let e : 16390 ≡ 16386 = ap word_of stops.0 in omega (arith, e)

read_stops_at_a_far_one : StillReadLacks 0 (holds away near) (holds away near) → ⊥
read_stops_at_a_far_one stops = let e : 1 ≡ 2 = ap state_number stops.1 in omega (arith, e)

evict_stops : StillEvictLacks crowd crowd
evict_stops = refl

evict_stops_and_warms : StillEvictLacks (holds calm near) (holds hot near) → ⊥
evict_stops_and_warms stops = let e : 16390 ≡ 16386 = ap word_of stops in omega (arith, e)

ship_stops : StillShipLacks crowd crowd
ship_stops = refl

ship_stops_and_warms : StillShipLacks (holds calm near) (holds hot near) → ⊥
ship_stops_and_warms stops = let e : 16390 ≡ 16386 = ap word_of stops in omega (arith, e)

-- one row was given out of the one data position, and not two
set_same : (a b : SetState) → Some a ≡ Some b → a ≡ b
set_same a b e = cc

swap_stops : StillSwapLacks 0 (holds away away_far) (holds away (far_given away_far 1))
swap_stops = (refl, (home, set, 1, refl, there, lit≤ tt, refl))

swap_stops_and_warms : StillSwapLacks 0 (holds away away_far) (holds hot (far_given away_far 1)) → ⊥
swap_stops_and_warms stops = let e : 16390 ≡ 16385 =
    ap (λ (x : Words). get_or x.words 0 0) stops.0 in omega (arith, e)

two_rows_too_many : StillSwapLacks 0 (holds away away_far) (holds away (far_given away_far 2)) → ⊥
two_rows_too_many (same, (h, s, n, at, in_sets, few, state)) =
    let its_set = set_same s set (sym in_sets
    ∙ ap (λ (x : Home). set_in away_far.sets x.set) (sym (home_same home h at)) ∙ there) in
    let most : n ≤ 1 = subst (λ (x : SetState). n ≤ length x.positions) its_set few in
    let e : 2 ≡ 0 + n = ap (λ (f : FarState). f.nodes.given) state in omega (arith, e, most)
  where
    home_same : (p q : Home) → Some p ≡ Some q → p ≡ q
    home_same p q e = cc

-- ---- a filter: object 0 has a pin
filters : StillFilter 0 (holds pinned near) (answer.Pinned 1) (holds pinned near)
filters = (refused (lit≤ tt, refl) refl refl, same_holds (holds pinned near))

filters_with_more_pins : StillFilter 0 (holds pinned near) (answer.Pinned 2) (holds pinned near) → ⊥
filters_with_more_pins (refused why same state, hold) = let e : 2 ≡ 1 = ap pins_in why.1 in omega (arith, e)
  where
    pins_in : Reply → ℕ
    pins_in (answer.Pinned n) = n
    pins_in r = 0
filters_with_more_pins (cools seat is place same, hold) = let e : 1 ≡ 0 = is.free.1 in omega (arith, e)
filters_with_more_pins (without_slot seat is none same, hold) =
    let e : 1 ≡ 0 = is.free.1 in omega (arith, e)
filters_with_more_pins (moves seat slot is gets same, hold) =
    let e : 1 ≡ 0 = is.free.1 in omega (arith, e)

filters_and_makes : StillFilter 0 (holds pinned near) (answer.Pinned 1) (holds pinned (more near)) → ⊥
filters_and_makes (refused why same state, hold) = let e : 2 ≡ 1 = ap made_of state in omega (arith, e)
filters_and_makes (cools seat is place same, hold) = let e : 1 ≡ 0 = is.free.1 in omega (arith, e)
filters_and_makes (without_slot seat is none same, hold) = let e : 1 ≡ 0 = is.free.1 in omega (arith, e)
filters_and_makes (moves seat slot is gets same, hold) = let e : 1 ≡ 0 = is.free.1 in omega (arith, e)

-- ---- a rebuild: no set was made
no_set : (id : ℕ) (s : SetState) → set_in near.sets id ≡ Some s → ⊥
no_set id s at = none_set s (sym (ap if_committed (map.get-empty nat_cmp id)) ∙ at)
  where
    none_set : (s : SetState) → None ≡ Some s → ⊥
    none_set s e = cc

none_weak : RebuildStep near near (answer.Whole 0)
none_weak = inl (record { none = λ id s at weak. no_set id s at; reply = refl; state = refl })

rebuilds : StillFar (FarStep Rebuild) (holds calm near) (answer.Whole 0) (holds calm near)
rebuilds = (refl, none_weak, same_holds (holds calm near))

-- no set is gone
one_gone : RebuildStep near near (answer.Whole 1) → ⊥
one_gone (inl z) = let e : 1 ≡ 0 = ap gone_in z.reply in omega (arith, e)
  where
    gone_in : Reply → ℕ
    gone_in (answer.Whole n) = n
    gone_in r = 0
one_gone (inr z) = no_set z.id z.set z.first.there

rebuilds_with_one_gone : StillFar (FarStep Rebuild) (holds calm near) (answer.Whole 1) (holds calm near) → ⊥
rebuilds_with_one_gone step = one_gone step.1

rebuilds_and_warms : StillFar (FarStep Rebuild) (holds calm near) (answer.Whole 0) (holds hot near) → ⊥
rebuilds_and_warms step = let e : 16390 ≡ 16386 =
    ap (λ (x : Words). get_or x.words 0 0) step.0 in omega (arith, e)

-- over a desk that is a number, and which runs nothing
abbrev waits : ℕ → List Access → ℕ → Type 0
waits d es e = e ≡ d

over_a_number : AtFar waits (FarStep Rebuild) (record { desk = 3; far = near }) (answer.Whole 0)
    (record { desk = 3; far = near })
over_a_number = (refl, none_weak)

over_another_number : AtFar waits (FarStep Rebuild) (record { desk = 3; far = near }) (answer.Whole 0)
    (record { desk = 4; far = near }) → ⊥
over_another_number x = let e : 4 ≡ 3 = x.0 in omega (arith, e)

over_a_number_with_one_gone : AtFar waits (FarStep Rebuild) (record { desk = 3; far = near }) (answer.Whole 1)
    (record { desk = 3; far = near }) → ⊥
over_a_number_with_one_gone x = one_gone x.1

-- ---- a filter that found no memory: object 0 lies in a hot span and is cold, and one frame is free
abbrev seat : Seat
seat = record {
  frame = 0;
  number = 0;
  span = record {
    class = of_four;
    temp = Hot;
    slots = Some 0 ∷ None ∷ None ∷ None ∷ [];
  };
}

none_cold : (f : ℕ) → HasRoom open_far of_four Cold f → ⊥
none_cold zero room = let e : 22 ≡ 23 = ap kind room.0 in omega (arith, e)
none_cold (suc zero) room = let e : 1 ≡ 23 = ap kind room.0 in omega (arith, e)
none_cold (suc (suc f)) room = let e : 1 ≡ 23 = ap kind room.0 in omega (arith, e)

hot_cold : Hot ≡ Cold → ⊥
hot_cold e = cc

filter_stops : StillFilterLacks 0 (holds calm open_far) (holds calm open_far)
filter_stops = (
  refl,
  (
    seat,
    record { free = (refl, refl); stands = record { there = refl; named = refl } },
    (
      hot_cold,
      record {
        full = none_cold;
        first = 1;
        some_free = ap (least_run open_far.frames) one_page;
      },
    ),
  ),
)

filter_stops_and_warms : StillFilterLacks 0 (holds calm open_far) (holds hot open_far) → ⊥
filter_stops_and_warms stops = let e : 16390 ≡ 16386 = ap word_of stops.0 in omega (arith, e)

-- one with a pin is refused, and needs no memory
filter_stops_at_a_pin : StillFilterLacks 0 (holds pinned open_far) (holds pinned open_far) → ⊥
filter_stops_at_a_pin stops = let e : 1 ≡ 0 = stops.1.1.free.1 in omega (arith, e)

-- a hot object stays in its span
filter_stops_in_its_span : StillFilterLacks 0 (holds hot open_far) (holds hot open_far) → ⊥
filter_stops_in_its_span stops =
    by stops.1.0.frame stops.1.0.span stops.1.1.stands.there stops.1.2.0
  where
    span_same : (p q : Contents) → Some p ≡ Some q → p ≡ q
    span_same p q e = cc

    none_span : (p : Contents) → None ≡ Some p → ⊥
    none_span p e = cc

    by : (f : ℕ) (span : Contents) → span_in open_far.spans f ≡ Some span → (span.temp ≡ Hot → ⊥) → ⊥
    by zero span there off =
        off (ap (λ (p : Contents). p.temp) (sym (span_same seat.span span there)))
    by (suc zero) span there off = none_span span there
    by (suc (suc f)) span there off = none_span span there

-- ---- a rebuild that found no memory: set 0 lost the shard on node 0, and one row was given out
abbrev weak_far : FarState
weak_far = record near {
  sets = map.insert map.empty 0 (record { set = set; committed = true });
  members = first_down;
}

weak_there : set_in weak_far.sets 0 ≡ Some set
weak_there = grind (arith, map.gets)

is_weak : IsWeak weak_far.members set
is_weak = record { some_lost = lit≤ tt; few_lost = lit≤ tt }

first_weak : IsFirstWeak weak_far 0 set
first_weak = record {
  there = weak_there;
  weak = is_weak;
  least = λ j other less at weak. absurd (omega (arith, less));
}

given_one : IsWeakGiven weak_far (far_given weak_far 1)
given_one = (0, set, 1, first_weak, lit≤ tt, refl)

rebuild_stops : StillFarLacks (FarLacks Rebuild) (holds calm weak_far) (holds calm (far_given weak_far 1))
rebuild_stops = (refl, given_one)

rebuild_stops_and_warms : StillFarLacks (FarLacks Rebuild) (holds calm weak_far) (holds hot (far_given weak_far 1))
    → ⊥
rebuild_stops_and_warms stops = let e : 16390 ≡ 16386 =
    ap (λ (x : Words). get_or x.words 0 0) stops.0 in omega (arith, e)

-- two rows of one data position; and where no set is weak
given_two : IsWeakGiven weak_far (far_given weak_far 2) → ⊥
given_two (id, s, n, first, few, state) = by id first.there (λ less. first.least 0 set less weak_there)
  where
    by : (i : ℕ) → set_in weak_far.sets i ≡ Some s → (0 < i → IsWeak weak_far.members set → ⊥) → ⊥
    by zero there least =
        let few_one : n ≤ 1 = subst (λ (x : SetState). n ≤ length x.positions)
        (set_same s set (sym there ∙ weak_there)) few in
        let e : 2 ≡ 0 + n = ap (λ (f : FarState). f.nodes.given) state in omega (arith, e, few_one)
    by (suc i) there least = least (omega arith) is_weak

given_of_none : IsWeakGiven near (far_given near 1) → ⊥
given_of_none (id, s, n, first, few, state) = no_set id s first.there

-- more than rows were given out
given_and_made : IsWeakGiven weak_far (more (far_given weak_far 1)) → ⊥
given_and_made (id, s, n, first, few, state) =
    let e : 2 ≡ 1 = ap made_of state in omega (arith, e)

number_stops : AtFarLacks waits (FarLacks Rebuild) (record { desk = 3; far = weak_far })
    (record { desk = 3; far = far_given weak_far 1 })
number_stops = (refl, given_one)

another_number_stops : AtFarLacks waits (FarLacks Rebuild) (record { desk = 3; far = weak_far })
    (record { desk = 4; far = far_given weak_far 1 }) → ⊥
another_number_stops x = let e : 4 ≡ 3 = x.0 in omega (arith, e)

number_stops_with_two : AtFarLacks waits (FarLacks Rebuild) (record { desk = 3; far = weak_far })
    (record { desk = 3; far = far_given weak_far 2 }) → ⊥
number_stops_with_two x = given_two x.1
