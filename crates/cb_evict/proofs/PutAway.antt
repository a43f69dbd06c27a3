-- A claimed group is put away: its objects are away, its spans are gone, and its rows stand under
-- shards as the set of its number.
use Rattle.std.proofs.Common.{◌≡◌, ◌≢◌, ◌⊎◌, ℕ, ◌+◌, ◌*◌, ◌<◌, ◌≤◌, false, List, length, get_or, All, Option, None, Some, sym, refl, ap, ◌∙◌, subst, arith, inl, inr}
use Rattle.std.specs.List.{Contains, slice_get}
use Rattle.std.specs.FinMap as map
use Rattle.std.proofs.lemmas.Bool.{cases_order}
use Rattle.std.proofs.lemmas.List.{get_or_default}
use Rattle.std.proofs.lemmas.List.Elements.{All-contains}
use Rattle.std.proofs.lemmas.Option.{slice_get-get_or}
use Rattle.cb_class.specs.Class.{pages_of, words_of}
use Rattle.cb_class.proofs.Laws.{pages_few}
use Rattle.cb_gf256.specs.InRange.{IsInRange}
use Rattle.cb_gf256.specs.Rows.{row_at}
use Rattle.cb_member.specs.declared.names.NodeId.{NodeId}
use Rattle.cb_member.specs.declared.names.Shard.{Shard}
use Rattle.cb_node.specs.NodesState.{NodesState, row_under}
use Rattle.cb_ptr.specs.Word.{len_of, place_of}
use Rattle.cb_set.specs.Lost.{is_lost}
use Rattle.cb_set.specs.Nodes.{OnDistinctNodes}
use Rattle.cb_set.specs.SetState.{SetState, PositionState, position_of, parities, slot_at}
use Rattle.cb_span.specs.Contents.{Contents, handle_at}
use Rattle.cb_world.specs.declared.homes.Home.{Home}
use Rattle.cb_world.specs.declared.object.Object.{Object}
use Rattle.cb_world.specs.declared.object.Object.TheVariants as is
use Rattle.cb_world.specs.declared.shown.Shown.{Shown}
use Rattle.cb_world.specs.Shown.{object_at, version_at, never}
use Rattle.cb_world.specs.Counts.{CountsState}
use Rattle.cb_world.specs.FarSound.{HoldsObject, IsShardOf, Owner, batch_rows}
use Rattle.cb_world.specs.FarState.{FarState, span_in, resident, handle_in}
use Rattle.cb_world.specs.Homes.{home_at}
use Rattle.cb_world.specs.Leaving.{LeavingState}
use Rattle.cb_world.specs.LocalSound.{LiesAt, IsStamped}
use Rattle.cb_world.specs.Memory.{window, words_for}
use Rattle.cb_world.specs.Now.{broken_set, broken_home, now}
use Rattle.cb_world.specs.Reserved.{IsUnpaired, set_from, table_of}
use Rattle.cb_world.specs.RowWords.{words_in}
use Rattle.cb_world.specs.Rooms.{KeepRoom}
use Rattle.cb_world.specs.SetAdded.{is_far, IsMovedIntoSet, IsSetAdded}
use Rattle.cb_world.specs.Stored.{NoKey}
use Rattle.cb_world.specs.Sets.{Kept, SetMap, if_committed, set_in}
use Rattle.cb_world.specs.SetWord.{AreCurrent, IsSpanWord}
use Rattle.cb_world.specs.Sound.{AreNoted, IsLeaving, IsNoted, Sound}
use Rattle.cb_world.proofs.Laws.{frame_in_range, put_away_now, now_kept, added_whole, noted_by}
use Rattle.cb_evict.specs.Candidates.{SpanNames}
use Rattle.cb_evict.specs.Claims.{IsNone}
use Rattle.cb_evict.specs.Closing.{HaveHomes, with_homes}
use Rattle.cb_evict.specs.Looking.{IsIn}
use Rattle.cb_evict.specs.Sending.{IsSent, AreSent}
use Rattle.cb_evict.proofs.Gone.{LeftMemory, sound_gone}
use Rattle.cb_evict.proofs.Group.{IsGroup, here_beside, claimed_not_far, unique, at_place, either, not_in, lies_here, in_row, row_is, noted_still}
use Rattle.cb_evict.proofs.Homing.{closed_else}
use Rattle.cb_evict.proofs.NewSet.{set_count, position_at, slot_is, slot_named, set_lives, set_live}
use Rattle.cb_evict.proofs.Standing.{named_at, names_span}
use Rattle.cb_evict.proofs.Options.{none_some, some_same}

-- the set of a group under these shards
abbrev pub put_set : FarState → LeavingState → List Shard → SetState
put_set far batch shards = set_from batch.set batch.pages shards far.spans batch.frames

-- the far state then
abbrev pub away_far : FarState → LeavingState → SetMap → NodesState → CountsState
    → List (Option Home) → FarState
away_far far batch sets nodes counts homes =
    with_homes (record far { sets = sets; nodes = nodes; counts = counts }) batch.frames homes

-- the objects of the group are away, and the rows, which are a word, stand under the shards
pub record IsGroupPutAway (t u : Shown) (far : FarState) (batch : LeavingState)
    (shards : List Shard)
    (sets : SetMap) (nodes : NodesState) (counts : CountsState) (homes : List (Option Home))
    : Type 0 where
  pub group : IsGroup t far batch
  pub sent : AreSent t u batch.words
  pub homed : HaveHomes far.spans batch.frames batch.set far.homes homes
  pub range : IsInRange (length batch.frames) (length batch.parities)
  pub word : IsSpanWord batch.pages (length batch.frames) (length batch.parities) (batch_rows t batch)
  pub count : length shards ≡ length batch.frames + length batch.parities
  pub distinct : OnDistinctNodes shards
  pub current : AreCurrent far.members shards
  pub added : set_in sets batch.set ≡ Some (put_set far batch shards)
  pub fresh : set_in far.sets batch.set ≡ None
  pub other_batch : (b : LeavingState) → far.leaving ≡ Some b → b.set ≢ batch.set
  pub other_sets : (j : ℕ) → j ≢ batch.set → map.get sets j ≡ map.get far.sets j
  pub drawn : (batch.set < counts.sets) × (far.counts.sets ≤ counts.sets)
  pub keys : (p : ℕ) (shard : Shard) → slice_get shards p ≡ Some shard → shard.key < counts.keys
  pub fresh_keys : (o : Owner) (a : Shard) → IsShardOf far o a → NoKey shards a.key
  pub more_keys : far.counts.keys ≤ counts.keys
  pub keys_apart : (p q : ℕ) (a b : Shard) → slice_get shards p ≡ Some a
      → slice_get shards q ≡ Some b → a.key ≡ b.key → p ≡ q
  pub up : (p : ℕ) (shard : Shard) → slice_get shards p ≡ Some shard
      → is_lost far.members shard ≡ false
  pub put : (p : ℕ) (shard : Shard) → slice_get shards p ≡ Some shard
      → row_under nodes shard.node shard.key ≡ Some (row_at (batch_rows t batch) p)
  pub stay : (node : NodeId) (key : ℕ) → NoKey shards key
      → row_under nodes node key ≡ row_under far.nodes node key
  pub only : (node : NodeId) (key : ℕ) (row : List ℕ) → row_under nodes node key ≡ Some row
      → (row_under far.nodes node key ≡ Some row)
      ⊎ ((p : ℕ) × (shard : Shard) × (slice_get shards p ≡ Some shard)
      × (shard.node.n ≡ node.n) × (shard.key ≡ key))
  pub same_nodes : length nodes.nodes ≡ length far.nodes.nodes
  pub room : KeepRoom far.nodes nodes
  pub unpaired : IsUnpaired far batch.set

module _ (t u : Shown) (far : FarState) (batch : LeavingState) (shards : List Shard)
    (sets : SetMap) (nodes : NodesState) (counts : CountsState) (homes : List (Option Home))
    (d : IsGroupPutAway t u far batch shards sets nodes counts homes) where
  pub is_sent : (h : ℕ) → (n : IsNoted t batch h)
      → object_at u h ≡ is.Far (len_of n.former.word) n.version n.words
  is_sent h n =
      let b = All-contains (IsSent t u) batch.words n.former d.sent.changed n.noted in
      let e : is.Claimed (len_of n.former.word) (place_of n.former.word) b.version b.words
      ≡ is.Claimed (len_of n.former.word) (place_of n.former.word) n.version n.words =
      sym b.before ∙ ap (object_at t) n.handle ∙ n.claimed in
      sym (ap (object_at u) n.handle) ∙ b.after ∙ ap put_off e
    where
      -- a claimed object as it is once it is away
      put_off : Object → Object
      put_off (is.Empty v) = is.Empty v
      put_off (is.Far len v words) = is.Far len v words
      put_off (is.Here len place) = is.Here len place
      put_off (is.Claimed len place v words) = is.Far len v words

  is_away : (h : ℕ) → (x : IsIn far.spans batch.frames h)
      → object_at u h ≡ is.Far (len_of (d.group.each h x).former.word) (d.group.each h x).version
      (d.group.each h x).words
  is_away h x = is_sent h (d.group.each h x)

  -- ---- the set
  holds : (p slot h : ℕ) → slot_at (put_set far batch shards) p slot ≡ Some h
      → HoldsObject u batch.pages (row_at (batch_rows t batch) p)
      (length (position_of (put_set far batch shards) p).slots) slot h
  holds p slot h named =
      let m = slot_named far batch.pages shards batch.frames p slot h named in
      let f = get_or batch.frames p 0 in
      let c = at_place t far batch d.group p m.0 in
      let n = d.group.each h (f, c, (slot, m.1)) in
      let span = names_span far.spans f h (slot, m.1) in
      let here = named_at far.spans f slot h span.0 span.1 m.1 in
      let l = lies_here t far batch d.group f slot h span.0 n span.1 here in
      record {
        len = len_of n.former.word;
        version = n.version;
        words = n.words;
        class = span.0.class;
        away = is_sent h n;
        fits = l.fits;
        paged = sym (let held = d.group.held f c in
            ap (λ (y : Contents). pages_of y.class)
            (some_same span.0 held.0 (sym span.1 ∙ held.1)) ∙ held.2);
        sized = ap (λ (y : PositionState). length y.slots)
            (position_at far batch.pages shards batch.frames p m.0)
            ∙ ap (λ (o : Option Contents). length (table_of o)) span.1
            ∙ (d.group.here.frames.valid f span.0 span.1).sized;
        contents = in_row t far batch d.group f slot h span.0 n c span.1 here
            ∙ ap (λ (row : List ℕ). window (words_in row) (slot * words_of span.0.class)
            (words_for (len_of n.former.word))) (sym (row_is t far batch d.group p m.0));
      }

  moved : (h : ℕ) → IsIn far.spans batch.frames h
      → IsMovedIntoSet t u far (away_far far batch sets nodes counts homes) batch.set
      (put_set far batch shards) (batch_rows t batch) h
  moved h (f, (p, within, at), (slot, is)) =
      let n = d.group.each h (f, (p, within, at), (slot, is)) in
      let once = unique t far batch d.group in
      let frame : get_or batch.frames p 0 ≡ f = get_or_default batch.frames p 0 f within ∙ at in
      let there : slice_get batch.frames p ≡ Some f =
      slice_get-get_or batch.frames p 0 within ∙ ap (λ (i : ℕ). Some i) frame in
      let named : slot_at (put_set far batch shards) p slot ≡ Some h =
      slot_is far batch.pages shards batch.frames p slot within
      ∙ ap (λ (i : ℕ). resident far.spans i slot) frame ∙ is in
      record {
        position = p;
        slot = slot;
        named = named;
        once = λ q i e.
            let m = slot_named far batch.pages shards batch.frames q i h e in
            let same = once.one_frame (get_or batch.frames q 0) f h (i, m.1) (slot, is) in (
              frame_once q p m.0 within (same ∙ sym frame),
              once.one_slot f i slot h (subst (λ (k : ℕ). resident far.spans k i ≡ Some h) same
                  m.1) is,
            );
        home = d.homed.here p f slot h there is;
        before = claimed_not_far (object_at t h) _ _ n.version n.words n.claimed;
        holds = holds p slot h named;
      }
    where
      frame_once : (q p : ℕ) → q < length batch.frames → p < length batch.frames
          → get_or batch.frames q 0 ≡ get_or batch.frames p 0 → q ≡ p
      frame_once q p l m e = elim (cases_order q p) [
        | inl same ↦ same
        | inr differ ↦ elim differ [
          | inl less ↦ absurd (d.group.apart q p 0 less m e)
          | inr more ↦ absurd (d.group.apart p q 0 more l (sym e))
        ]
      ]

  pub set_is_added : IsSetAdded t u far (away_far far batch sets nodes counts homes) batch.set
      (put_set far batch shards) (batch_rows t batch)
  set_is_added =
      let k : length (put_set far batch shards).positions ≡ length batch.frames =
      set_count far batch.pages shards batch.frames in
      let r : parities (put_set far batch shards) ≡ length batch.parities =
      omega (arith, k, d.count) in
      let some : 1 ≤ length batch.frames = d.range.data_least in
      let head = d.group.held (get_or batch.frames 0 0)
      (at_place t far batch d.group 0 (omega (arith, some))) in
      record {
        shape = record {
          range = subst (λ (i : ℕ). IsInRange i (parities (put_set far batch shards))) (sym k)
              (subst (λ (i : ℕ). IsInRange (length batch.frames) i) (sym r) d.range);
          data_first = omega (arith, k, d.count);
          pages = (let most = pages_few head.0.class (d.group.here.frames.valid _ head.0 head.1).in_table in
              omega (arith, most, head.2));
          distinct = d.distinct;
          current = d.current;
        };
        code = subst (λ (i : ℕ). IsSpanWord batch.pages i (parities (put_set far batch shards))
            (batch_rows t batch))
            (sym k) (subst (λ (i : ℕ). IsSpanWord batch.pages (length batch.frames) i (batch_rows t batch))
            (sym r)
            d.word);
        lives = set_lives far batch.pages shards batch.frames;
        some_live = (0, set_live far batch.pages t shards batch.frames head.0 d.group.here some head.1);
        added = d.added;
        fresh = d.fresh;
        others = d.other_sets;
        drawn = d.drawn;
        keys = d.keys;
        fresh_keys = d.fresh_keys;
        more_keys = d.more_keys;
        keys_apart = d.keys_apart;
        up = d.up;
        put = d.put;
        stay = d.stay;
        only = d.only;
        nodes = d.same_nodes;
        room = d.room;
        members = refl;
        leaving = refl;
        joining = refl;
        survey = refl;
        batch = λ b there. ap (λ (ms : List ℕ). batch_rows (record t { memory = ms }) b)
            d.sent.memory;
        unpaired = d.unpaired;
        each = λ h. elim (either t far batch d.group h) [
          | inl x ↦ inr (moved h x)
          | inr none ↦ inl (record {
            object = d.sent.others h none;
            home = d.homed.others h (λ f y named. not_in t far batch d.group h none (f, y, named));
            absent = λ p slot named. let m = slot_named far batch.pages shards batch.frames p slot h named in
                not_in t far batch d.group h none
                (get_or batch.frames p 0, at_place t far batch d.group p m.0, (slot, m.1));
          })
        ];
      }

  -- ---- local memory
  version_same : (h : ℕ) → version_at u h ≡ version_at t h
  version_same h = ap (λ (l : List ℕ). get_or l h 0) d.sent.versions

  far_never : (len v : ℕ) (words : List ℕ) → is.Far len v words ≡ never → ⊥
  far_never len v words e = subst is_far e tt

  stamped : (h : ℕ) → IsStamped (object_at u h) (version_at u h)
  stamped h = elim (either t far batch d.group h) [
    | inl x ↦ let n = d.group.each h x in
        subst (λ (o : Object). IsStamped o (version_at u h)) (sym (is_away h x)) (version_same h
        ∙ subst (λ (o : Object). IsStamped o (version_at t h)) n.claimed
        (d.group.here.known.stamped h))
    | inr none ↦ subst (λ (o : Object). IsStamped o (version_at u h)) (sym (d.sent.others h none))
        (subst (IsStamped (object_at t h)) (sym (version_same h)) (d.group.here.known.stamped h))
  ]

  left_memory : LeftMemory t u far.spans batch.frames
  left_memory = record {
    first = d.sent.first;
    memory = ap (λ (l : List ℕ). length l) d.sent.memory;
    objects = d.sent.objects;
    stamped = stamped;
    risen = λ h. omega (arith, version_same h);
    each = λ h. elim (either t far batch d.group h) [
      | inl x ↦ let n = d.group.each h x in inr (record {
        named = x;
        gone = λ len place lies. subst (λ (y : Object). LiesAt y len place) (is_away h x) lies;
        made = λ z. far_never (len_of n.former.word) n.version n.words (sym (is_away h x) ∙ z);
      })
      | inr none ↦ inl (record {
        object = d.sent.others h none;
        absent = not_in t far batch d.group h none;
      })
    ];
  }

  -- ---- a batch that is leaving
  all_out : (f : ℕ) → (Contains batch.frames f → ⊥) → All (λ g. g ≢ f) batch.frames
  all_out f not k e l same = not (k, l, get_or_default batch.frames k f e l ∙ same)

  span_stays : (b : LeavingState) → far.leaving ≡ Some b → (f : ℕ) → Contains b.frames f
      → span_in (away_far far batch sets nodes counts homes).spans f ≡ span_in far.spans f
  span_stays b there f leaves =
      closed_else far.spans batch.frames f (all_out f (d.group.out b there f leaves))

  -- an object of its spans is none of the group
  leaving_none : (b : LeavingState) → far.leaving ≡ Some b → (f slot h : ℕ) (span : Contents)
      → Contains b.frames f → span_in far.spans f ≡ Some span → handle_at span slot ≡ Some h
      → IsNone batch.words h
  leaving_none b there f slot h span leaves at named = elim (either t far batch d.group h) [
    | inl x ↦
        let mine : SpanNames far.spans f h =
        (slot, ap (λ (o : Option Contents). handle_in o slot) at ∙ named) in
        absurd (d.group.out b there f leaves (subst (Contains batch.frames)
        ((unique t far batch d.group).one_frame x.0 f h x.2 mine) x.1))
    | inr none ↦ none
  ]

  noted : (b : LeavingState) → far.leaving ≡ Some b
      → AreNoted u (away_far far batch sets nodes counts homes) b
  noted b there =
      let was = d.group.noted b there in
      noted_by t u far (away_far far batch sets nodes counts homes) b (record {
        spans = span_stays b there;
        sets = d.other_sets b.set (d.other_batch b there);
        drawn = d.drawn.1;
        unpaired = λ apart. apart;
      }) (λ f slot h span leaves at named. noted_still t u b b h refl
      (d.sent.others h (leaving_none b there f slot h span leaves at named))) was

  -- a claimed object stands in a frame that is leaving, as before
  claimed_then : (h len place v : ℕ) (words : List ℕ) → object_at u h ≡ is.Claimed len place v words
      → IsLeaving u (away_far far batch sets nodes counts homes) h len place words
  claimed_then h len place v words e = elim (either t far batch d.group h) [
    | inl x ↦ let n = d.group.each h x in
        absurd (far_claimed (len_of n.former.word) n.version n.words (sym (is_away h x) ∙ e))
    | inr none ↦
        let x = d.group.others h len place v words none (sym (d.sent.others h none) ∙ e) in record {
          batch = x.batch;
          there = x.there;
          slot = record {
            frame = x.slot.frame;
            slot = x.slot.slot;
            span = x.slot.span;
            there = span_stays x.batch x.there x.slot.frame x.leaves ∙ x.slot.there;
            named = x.slot.named;
            at = x.slot.at;
            fits = x.slot.fits;
          };
          leaves = x.leaves;
          contents = x.contents
              ∙ sym (ap (λ (ms : List ℕ). window ms place (words_for len)) d.sent.memory);
        }
  ]
    where
      far_claimed : (l w : ℕ) (ws : List ℕ) → is.Far l w ws ≡ is.Claimed len place v words → ⊥
      far_claimed l w ws e = cc

  -- the world is sound then
  pub sound_away : Sound u (away_far far batch sets nodes counts homes)
  sound_away = record {
    here = sound_gone (record far { sets = sets; nodes = nodes; counts = counts }) t u batch.frames
        homes
        (here_beside t far sets nodes far.leaving counts d.group.here)
        (λ f c. let x = d.group.held f c in frame_in_range far.spans f x.0 x.1) left_memory;
    noted = noted;
    claimed = claimed_then;
    away = added_whole t u far (away_far far batch sets nodes counts homes) batch.set
        (put_set far batch shards) (batch_rows t batch) d.group.away set_is_added;
  }

  -- ---- last complete contents
  -- the set of an object that was away is another one, and stays
  other_home : (h : ℕ) → (o : Option Home) → home_at far.homes h ≡ o
      → broken_home (away_far far batch sets nodes counts homes) o ≡ broken_home far o
  other_home h None e = refl
  other_home h (Some home) e =
      let x = d.group.away.sound.away.home h home e in
      ap (λ (o : Option Kept). broken_set far.members (if_committed o))
      (d.other_sets home.set
      (λ same. none_some x.0 (sym d.fresh ∙ ap (set_in far.sets) (sym same) ∙ x.1)))

  -- and so they stay
  pub now_away : (h : ℕ) → now u (away_far far batch sets nodes counts homes) h ≡ now t far h
  now_away h = elim (either t far batch d.group h) [
    | inl x ↦ let m = moved h x in let n = d.group.each h x in
        put_away_now t u far (away_far far batch sets nodes counts homes) batch.set
        (put_set far batch shards) (batch_rows t batch) h m.position m.slot (len_of n.former.word)
        n.version (place_of n.former.word) n.words set_is_added m.home n.claimed (is_away h x)
    | inr none ↦ now_kept t u far (away_far far batch sets nodes counts homes) h
        (d.sent.others h none) (version_same h)
        (λ len place at. ap (λ (ms : List ℕ). window ms place (words_for len)) d.sent.memory)
        (ap (broken_home (away_far far batch sets nodes counts homes))
        (d.homed.others h (λ f y named. not_in t far batch d.group h none (f, y, named)))
        ∙ other_home h (home_at far.homes h) refl)
  ]
