-- The parts of a ship, and what they leave.
use Rattle.std.proofs.Common.{◌≡◌, ℕ, ◌-◌, ◌*◌, ◌<◌, ◌≤◌, Bool, true, false, List, [], ◌++◌, length, get_or, replicate, slice_set, Option, Some, None, IfSome, refl, sym, ap, ◌∙◌, subst, arith, inl, inr, length-set}
use Rattle.std.specs.List.{Contains, slice_get}
use Rattle.std.proofs.lemmas.Bool.{cases_lt}
use Rattle.std.proofs.lemmas.List.{get_or-append_right, get_or_append_left, get_or-map, get_or_past, get_or-set_same, length-replicate}
use Rattle.std.proofs.lemmas.Option.{slice_get-get_or, slice_get_within, get_or_from_slice_get}
use Rattle.cb_gf256.specs.Rows.{row_at}
use Rattle.cb_member.specs.declared.names.Shard.{Shard}
use Rattle.cb_node.specs.NodesState.{NodesState}
use Rattle.cb_span.specs.Contents.{Contents}
use Rattle.cb_types.specs.declared.reply.Reply.{Reply}
use Rattle.cb_types.specs.declared.reply.Reply.TheVariants as answer
use Rattle.cb_world.specs.declared.access.Access.{Access}
use Rattle.cb_world.specs.declared.shown.Shown.{Shown}
use Rattle.cb_world.specs.FarSound.{AreShardRows, of_leaving}
use Rattle.cb_world.specs.FarState.{FarState, pages_at, span_in}
use Rattle.cb_world.specs.FrameWords.{LiesInRun}
use Rattle.cb_world.specs.Leaving.{LeavingState, ParitiesState, shown_rows}
use Rattle.cb_world.specs.Memory.{window}
use Rattle.cb_world.specs.Performs.{Performs}
use Rattle.cb_world.specs.Placed.{leaving_frames}
use Rattle.cb_world.specs.Played.{played}
use Rattle.cb_world.specs.RowWords.{row_of}
use Rattle.cb_world.specs.SetWord.{IsSpanWord}
use Rattle.cb_world.specs.Sound.{Sound}
use Rattle.cb_world.proofs.Laws.{batch_owned}
use Rattle.cb_world.specs.Still.{IsStill}
use Rattle.cb_evict.specs.BeginRule.{no_parities}
use Rattle.cb_evict.specs.InstallRule.{with_made, with_parities}
use Rattle.cb_evict.specs.Loading.{AreOfLength, LiesInOne, LiesInRuns, LoadsRun, LoadsRuns, OnlyLoads}
use Rattle.cb_evict.specs.ShipRule.{AreMadeOf, IsShardFor, MadeFor, ReadsLeaving, ShipEffect, ShipRule, ShipsRow, is_data, made_before, made_here, with_noted, with_shipped}
use Rattle.cb_evict.specs.Shipping.{IsParityDue, LoadsAny, OwnsBatch, PutsMade, PutsNothing, PutsRow}
use Rattle.cb_evict.specs.Waiting.{PutAtMembers, least_waiting}
use Rattle.cb_evict.proofs.BeginEnd.{shown_blank}
use Rattle.cb_evict.proofs.Events.{are_reads, loads_more, told_words}
use Rattle.cb_evict.proofs.InstallSound.{made_sound, rows_count, rows_known}
use Rattle.cb_evict.proofs.Loads.{reads_spans}
use Rattle.cb_evict.proofs.ShipSound.{put_sound}
use Rattle.cb_evict.proofs.TakenGroup.{rows_read}
use Rattle.cb_evict.proofs.Options.{none_some, some_same}
use Rattle.cb_evict.proofs.Still.{does_nothing}

-- ---- the batch
-- the nodes of its rows are among the members
pub put_at_members : (far : FarState) (batch : LeavingState) → AreShardRows far
    → far.leaving ≡ Some batch → PutAtMembers far.members batch.shards
put_at_members far batch rows there k d l = by (get_or batch.shards k d) refl
  where
    by : (o : Option Shard) → get_or batch.shards k d ≡ o
        → IfSome o (λ shard. shard.node.n < length far.members.nodes)
    by None e = tt
    by (Some a) e = (rows.current (of_leaving k) a
        (batch, there, slice_get-get_or batch.shards k d l ∙ ap Some e)).0

-- it has at most 20 positions
pub few_positions : (s : Shown) (far : FarState) (batch : LeavingState) → Sound s far
    → far.leaving ≡ Some batch → length batch.shards ≤ 20
few_positions s far batch sound there =
    let range = (sound.noted batch there).reserved.range in
    let count = (sound.away.sound.batch batch there).count in
    omega (arith, count, range.data_most, range.parities_most)

pub span_within : (spans : List (Option Contents)) (f : ℕ) (span : Contents)
    → span_in spans f ≡ Some span → f < length spans
span_within spans f span e = elim (cases_lt f (length spans)) [
  | inl below ↦ below
  | inr past ↦ absurd (none_some (sym (get_or_past spans f None past) ∙ e))
]
  where
    none_some : None ≡ Some span → ⊥
    none_some e = cc

-- ---- its rows
pub contains_at : (xs : List ℕ) (p x : ℕ) → slice_get xs p ≡ Some x → Contains xs x
contains_at xs p x at = (p, slice_get_within xs p x at, get_or_from_slice_get xs p x x at)

pub past_end : (xs : List ℕ) (p : ℕ) → slice_get xs p ≡ None → length xs ≤ p
past_end xs p none = elim (cases_lt p (length xs)) [
  | inl below ↦ absurd (none_some (get_or xs p 0) (sym none ∙ slice_get-get_or xs p 0 below))
  | inr past ↦ past
]

abbrev frame_row : Shown → ℕ → ℕ → List ℕ
frame_row s pages f = row_of (window s.memory (512 * f) (512 * pages))

data_row : (s : Shown) (batch : LeavingState) (p f : ℕ) → slice_get batch.frames p ≡ Some f
    → row_at (rows_known s batch ++ batch.parities) p ≡ frame_row s batch.pages f
data_row s batch p f at =
    let l = slice_get_within batch.frames p f at in
    let n = rows_count s batch in
    get_or_append_left (rows_known s batch) batch.parities [] p (omega (arith, l, n))
    ∙ get_or-map (frame_row s batch.pages) batch.frames p 0 [] l
    ∙ ap (frame_row s batch.pages) (get_or_from_slice_get batch.frames p f 0 at)

-- rows of which that of one position alone was read
abbrev one_row : ℕ → ℕ → List ℕ → List (List ℕ)
one_row k p row = slice_set (replicate k []) p row

blank_rows : (k : ℕ) → length (replicate {A = List ℕ} k []) ≡ k
blank_rows k = length-replicate k []

one_count : (k p : ℕ) (row : List ℕ) → length (one_row k p row) ≡ k
one_count k p row = length-set (replicate k []) p row ∙ blank_rows k

one_row_at : (k p : ℕ) (row : List ℕ) (parities : List (List ℕ)) → p < k
    → row_at (one_row k p row ++ parities) p ≡ row
one_row_at k p row parities below =
    let n = blank_rows k in let m = one_count k p row in
    get_or_append_left (one_row k p row) parities [] p (omega (arith, below, m))
    ∙ get_or-set_same (replicate k []) p row [] (omega (arith, below, n))

-- a parity stands behind as many data rows as there are
parity_at : (rows parities : List (List ℕ)) (k p : ℕ) → length rows ≡ k → k ≤ p
    → row_at (rows ++ parities) p ≡ row_at parities (p - k)
parity_at rows parities k p count behind =
    get_or-append_right rows parities k p [] count behind

-- ---- a row is put
frame_reads : (far : FarState) (batch : LeavingState) (p f : ℕ) (es : List Access)
    → far.leaving ≡ Some batch → slice_get batch.frames p ≡ Some f
    → pages_at far.spans f ≡ batch.pages → OnlyLoads (LiesInRun f batch.pages) es
    → ReadsLeaving far es
frame_reads far batch p f es there at long loads =
    subst (λ (o : Option LeavingState). OnlyLoads (LiesInOne far.spans (leaving_frames o)) es)
    (sym there)
    (loads_more (LiesInRun f batch.pages) (LiesInOne far.spans batch.frames) es
    (λ i lies. (
      f,
      contains_at batch.frames p f at,
      (lies.0, omega (arith, lies.1, long)),
    )) loads)

pub puts_data : (runs : List Access → Type 0) (showsA showsB : Shown → Type 0) (far new : FarState)
    (batch : LeavingState) (p f : ℕ) (shard : Shard) (row : List ℕ) → far.leaving ≡ Some batch
    → slice_get batch.frames p ≡ Some f → pages_at far.spans f ≡ batch.pages
    → LoadsRun runs showsA f batch.pages row → ((s : Shown) → showsB s → showsA s)
    → new ≡ with_shipped far batch p shard row → PutsRow runs showsB far new batch p shard
puts_data runs showsA showsB far new batch p f shard row there at long x back state = record {
  events = x.events;
  ran = x.ran;
  reads = frame_reads far batch p f x.events there at long x.loads;
  rows = one_row (length batch.frames) p row;
  count = one_count (length batch.frames) p row;
  ready = batch;
  made = is_data (slice_get_within batch.frames p f at) refl;
  state = state ∙ ap (with_shipped far batch p shard)
      (sym (one_row_at (length batch.frames) p row batch.parities
      (slice_get_within batch.frames p f at)));
  of_batch = λ s shown owns. record {
    made = is_data (slice_get_within batch.frames p f at) refl;
    row = one_row_at (length batch.frames) p row batch.parities
        (slice_get_within batch.frames p f at)
        ∙ x.made.made
        ∙ ap row_of (x.made.contents s (back s shown) (owns f (contains_at batch.frames p f at)))
        ∙ sym (data_row s batch p f at);
  };
}

pub puts_nothing : (runs : List Access → Type 0) (shows : Shown → Type 0) (far : FarState)
    (batch : LeavingState) (p f : ℕ) (row : List ℕ) → far.leaving ≡ Some batch
    → slice_get batch.frames p ≡ Some f → pages_at far.spans f ≡ batch.pages
    → LoadsRun runs shows f batch.pages row → PutsNothing runs far
puts_nothing runs shows far batch p f row there at long x =
    (x.events, x.ran, frame_reads far batch p f x.events there at long x.loads)

pub puts_parity : (runs : List Access → Type 0) (shows : Shown → Type 0) (far new : FarState)
    (batch : LeavingState) (p : ℕ) (shard : Shard) → batch.made ≡ true → length batch.frames ≤ p
    → runs [] → new ≡ with_shipped far batch p shard (row_at batch.parities (p - length batch.frames))
    → PutsRow runs shows far new batch p shard
puts_parity runs shows far new batch p shard made behind ran state =
    let k = length batch.frames in
    let at = parity_at (replicate k []) batch.parities k p (blank_rows k) behind in record {
      events = [];
      ran = ran;
      reads = tt;
      rows = replicate k [];
      count = blank_rows k;
      ready = batch;
      made = made_before made refl;
      state = state ∙ ap (with_shipped far batch p shard) (sym at);
      of_batch = λ s shown owns. record {
        made = made_before made refl;
        row = at ∙ sym (parity_at (rows_known s batch) batch.parities k p (rows_count s batch)
            behind);
      };
    }

-- the rows that are read of all spans of a batch are those that stand in memory
rows_all : (runs : List Access → Type 0) (shows : Shown → Type 0) (batch : LeavingState)
    (rows : List (List ℕ)) → length rows ≡ length batch.frames
    → LoadsRuns runs shows batch.pages batch.frames rows → (s : Shown) → shows s
    → OwnsBatch s batch → rows ≡ rows_known s batch
rows_all runs shows batch rows count x s shown owns =
    rows_read s batch.pages batch.frames rows count (λ p f at. let m = x.made p f at in
    m.made ∙ ap row_of (m.contents s shown (owns f (contains_at batch.frames p f at))))

-- the reads of all spans of a batch
batch_reads : (runs : List Access → Type 0) (far : FarState) (batch : LeavingState)
    (es : List Access) → far.leaving ≡ Some batch → AreOfLength far.spans batch.pages batch.frames
    → OnlyLoads (LiesInRuns batch.pages batch.frames) es → ReadsLeaving far es
batch_reads runs far batch es there long loads =
    subst (λ (o : Option LeavingState). OnlyLoads (LiesInOne far.spans (leaving_frames o)) es)
    (sym there) (reads_spans far.spans batch.pages batch.frames long es loads)

pub reads_batch : (runs : List Access → Type 0) (far : FarState) (batch : LeavingState)
    → far.leaving ≡ Some batch → AreOfLength far.spans batch.pages batch.frames
    → LoadsAny runs batch.pages batch.frames → PutsNothing runs far
reads_batch runs far batch there long x =
    (x.0, x.1, batch_reads runs far batch x.0 there long x.2)

-- a batch with the parities that are seen of these
abbrev pub seen_batch : LeavingState → ParitiesState → LeavingState
seen_batch batch p = record batch { made = p.made; parities = shown_rows p.made p.rows }

-- of parities that are not made their number is seen alone
pub unmade_same : (batch : LeavingState) (p q : ParitiesState) → p.made ≡ false → q.made ≡ false
    → length p.rows ≡ length q.rows → seen_batch batch p ≡ seen_batch batch q
unmade_same batch p q a b count =
    let made : p.made ≡ q.made = a ∙ sym b in
    let rows : shown_rows p.made p.rows ≡ shown_rows q.made q.rows =
    ap (λ (m : Bool). shown_rows m p.rows) a ∙ shown_blank p.rows ∙ ap no_parities count
    ∙ sym (shown_blank q.rows) ∙ sym (ap (λ (m : Bool). shown_rows m q.rows) b) in
    λ i. record batch { made = made i; parities = rows i }

-- the batch that is leaving is the one that was asked for
pub due_for : (frames : ℕ) (far : FarState) (batch other : LeavingState) (p : ℕ)
    → far.leaving ≡ Some batch → far.leaving ≡ Some other
    → IsParityDue frames far.spans batch p → IsParityDue frames far.spans other p
due_for frames far batch other p a b due =
    subst (λ (x : LeavingState). IsParityDue frames far.spans x p) (some_same batch other (sym a ∙ b))
    due

-- the parities are made, and one of them is put
pub puts_made : (runs : List Access → Type 0) (shows : Shown → Type 0) (far new : FarState)
    (frames : ℕ) (batch then_batch : LeavingState) (nodes : NodesState) (p : ℕ) (shard : Shard)
    → far.leaving ≡ Some batch → IsParityDue frames far.spans batch p → batch.made ≡ false
    → PutsMade runs shows far.nodes nodes batch then_batch p shard
    → new ≡ with_noted (record far { leaving = Some then_batch; nodes = nodes }) then_batch p shard
    → PutsRow runs shows far new batch p shard
puts_made runs shows far new frames batch then_batch nodes p shard there due unmade x state =
    let k = length batch.frames in let rows = x.loads.rows in
    let ready = with_parities batch x.parities in
    let at = parity_at rows x.parities k p x.loads.count due.behind in
    let made = λ (rows : List (List ℕ))
    (word : IsSpanWord batch.pages k (length x.parities) (rows ++ x.parities)).
    made_now batch rows p x.parities unmade due.behind
    (record { range = due.range; count = x.count; word = word }) in
    record {
      events = x.loads.loads.events;
      ran = x.loads.loads.ran;
      reads = batch_reads runs far batch x.loads.loads.events there due.long x.loads.loads.loads;
      rows = rows;
      count = x.loads.count;
      ready = ready;
      made = made rows x.loads.word;
      state = state
          ∙ (λ i. with_noted (record far { nodes = x.nodes_then i }) (x.batch_then i) p shard)
          ∙ ap (with_shipped far ready p shard) (sym at);
      of_batch = λ s shown owns.
          let same = rows_all runs shows batch rows x.loads.count x.loads.loads s shown owns in record {
            made = made (rows_known s batch)
                (subst (λ (l : List (List ℕ)).
                IsSpanWord batch.pages k (length x.parities) (l ++ x.parities)) same x.loads.word);
            row = ap (λ (l : List (List ℕ)). row_at (l ++ x.parities) p) same;
          };
    }
  where
    made_now : (batch : LeavingState) (rows : List (List ℕ)) (p : ℕ) (parities : List (List ℕ))
        → batch.made ≡ false → length batch.frames ≤ p → AreMadeOf batch rows parities
        → MadeFor batch rows p (with_parities batch parities)
    made_now batch rows p parities bare behind x = made_here bare behind parities x refl

-- ---- the whole
still : (far : FarState) (es : List Access) (s : Shown) → ReadsLeaving far es
    → IsStill es s (played es s)
still far es s reads =
    let x = are_reads (LiesInOne far.spans (leaving_frames far.leaving)) es reads in
    let words =
    told_words (λ h. ⊥) (LiesInOne far.spans (leaving_frames far.leaving)) es s s x.touches refl refl
    in
    record {
      objects = ap (λ (t : Shown). t.objects) (x.stays s);
      hots = (x.steady s).hots;
      versions = words.0;
      memory = words.1;
      nothing = (x.steady s).nothing;
    }

-- nothing but reads, and no change of the far state
pub reads_alone : (runs : List Access → Type 0) (knows : Shown → Type 0) (far new : FarState)
    → new ≡ far → PutsNothing runs far
    → Performs runs (λ s. knows s × Sound s far) (ReadsLeaving far) (λ t. Sound t new) IsStill
reads_alone runs knows far new same q =
    let x = are_reads (LiesInOne far.spans (leaving_frames far.leaving)) q.0 q.2 in record {
      events = q.0;
      ran = q.1;
      looks_first = x.first;
      rule = q.2;
      allowed = λ s k. (x.steady s).allowed;
      sound_after = λ s k. subst (λ (t : Shown). Sound t new) (sym (x.stays s))
          (subst (Sound s) (sym same) k.1);
      effect = λ s k. still far q.0 s q.2;
    }

-- a refusal
pub refused : (runs : List Access → Type 0) (knows : Shown → Type 0) (far new : FarState) (r : Reply)
    → runs [] → new ≡ far
    → ((rows : LeavingState → List (List ℕ)) → ShipsRow far new r rows)
    → Performs runs (λ s. knows s × Sound s far) (ShipRule far new r) (λ t. Sound t new)
    (ShipEffect far new r)
refused runs knows far new r ran same ships =
    does_nothing runs knows far new (ShipRule far new r) (ShipEffect far new r) ran same
    (record { rows = λ b. []; ships = ships (λ b. []); reads = tt })
    (λ s. record { still = still far [] s tt; ships = ships (λ b. rows_known s b) })

-- ---- a row that is put
is_shipped : (far new : FarState) (batch ready : LeavingState) (p : ℕ) (shard : Shard)
    (rows : LeavingState → List (List ℕ)) → far.leaving ≡ Some batch
    → least_waiting far.members batch.shards ≡ Some p → IsShardFor far batch p shard
    → length (rows batch) ≡ length batch.frames → MadeFor batch (rows batch) p ready
    → new ≡ with_shipped far ready p shard (row_at (rows batch ++ ready.parities) p)
    → ShipsRow far new (answer.Shipped p) rows
is_shipped far new batch ready p shard rows there least named count made is =
    inr (inr (inr (record {
      batch = batch;
      there = there;
      position = p;
      shard = shard;
      least = least;
      named = named;
      reply = refl;
      count = count;
      ready = ready;
      made = made;
      state = is;
    })))

true_false : true ≡ false → ⊥
true_false e = cc

-- the world is sound with a row of the batch as it was
as_it_was : (s : Shown) (far : FarState) (batch ready : LeavingState) (p : ℕ) (shard : Shard)
    (row : List ℕ) → Sound s far → far.leaving ≡ Some batch
    → least_waiting far.members batch.shards ≡ Some p → IsShardFor far batch p shard
    → ready ≡ batch → (batch.made ≡ false → p < length batch.frames)
    → row ≡ row_at (rows_known s batch ++ ready.parities) p
    → Sound s (with_shipped far ready p shard row)
as_it_was s far batch ready p shard row sound there least named is bare same =
    subst (λ (b : LeavingState). Sound s (with_shipped far b p shard row)) (sym is)
    (put_sound s far batch p shard row sound (record {
      sound = sound.away.sound;
      there = there;
      least = least;
      named = named;
      of_batch = same
          ∙ ap (λ (b : LeavingState). row_at (rows_known s batch ++ b.parities) p) is;
      bare = bare;
    }))

-- the world is sound with the row, whether the parities are made for it or not
ready_sound : (s : Shown) (far : FarState) (batch ready : LeavingState) (p : ℕ) (shard : Shard)
    (row : List ℕ) → Sound s far → far.leaving ≡ Some batch
    → least_waiting far.members batch.shards ≡ Some p → IsShardFor far batch p shard
    → MadeFor batch (rows_known s batch) p ready
    → row ≡ row_at (rows_known s batch ++ ready.parities) p
    → Sound s (with_shipped far ready p shard row)
ready_sound s far batch ready p shard row sound there least named (made_before was is) same =
    as_it_was s far batch ready p shard row sound there least named is
    (λ not. absurd (true_false (sym was ∙ not))) same
ready_sound s far batch ready p shard row sound there least named (is_data below is) same =
    as_it_was s far batch ready p shard row sound there least named is (λ not. below) same
ready_sound s far batch ready p shard row sound there least named
    (made_here bare behind parities x is) same =
    let rest = with_parities batch parities in
    subst (λ (b : LeavingState). Sound s (with_shipped far b p shard row)) (sym is)
    (put_sound s (with_made far batch parities) rest p shard row
    (made_sound s far batch parities sound there x) (record {
      sound = (made_sound s far batch parities sound there x).away.sound;
      there = refl;
      least = least;
      named = record {
        node = named.node;
        incarnation = named.incarnation;
        key = named.key;
      };
      of_batch = same
          ∙ ap (λ (b : LeavingState). row_at (rows_known s batch ++ b.parities) p) is;
      bare = λ not. absurd (true_false not);
    }))

pub shipped : (runs : List Access → Type 0) (knows : Shown → Type 0) (far new : FarState)
    (batch : LeavingState) (p : ℕ) (shard : Shard) → far.leaving ≡ Some batch
    → least_waiting far.members batch.shards ≡ Some p → IsShardFor far batch p shard
    → PutsRow runs knows far new batch p shard
    → Performs runs (λ s. knows s × Sound s far) (ShipRule far new (answer.Shipped p))
    (λ t. Sound t new) (ShipEffect far new (answer.Shipped p))
shipped runs knows far new batch p shard there least named q =
    let x = are_reads (LiesInOne far.spans (leaving_frames far.leaving)) q.events q.reads in
    let of_batch = λ (s : Shown) (k : knows s × Sound s far).
    q.of_batch s k.0 (λ f leaves p inside. let held = (k.1.noted batch there).held f leaves in
    batch_owned s far batch k.1 there f held.0 leaves held.1 p
    (inside.0, omega (arith, inside.1, held.2))) in
    record {
      events = q.events;
      ran = q.ran;
      looks_first = x.first;
      rule = record {
        rows = λ b. q.rows;
        ships = is_shipped far new batch q.ready p shard (λ b. q.rows) there least named q.count
            q.made q.state;
        reads = q.reads;
      };
      allowed = λ s k. (x.steady s).allowed;
      sound_after = λ s k. subst (λ (t : Shown). Sound t new) (sym (x.stays s))
          (subst (Sound s) (sym q.state) (ready_sound s far batch q.ready p shard
          (row_at (q.rows ++ q.ready.parities) p) k.1 there least named (of_batch s k).made
          (of_batch s k).row));
      effect = λ s k. record {
        still = still far q.events s q.reads;
        ships = is_shipped far new batch q.ready p shard (λ b. rows_known s b) there least named
            (rows_count s batch) (of_batch s k).made
            (q.state ∙ ap (with_shipped far q.ready p shard) (of_batch s k).row);
      };
    }
