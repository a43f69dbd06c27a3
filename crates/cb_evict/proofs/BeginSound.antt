-- Claimed spans begin to leave.
use Rattle.std.proofs.Common.{◌≡◌, ◌≢◌, ℕ, ◌+◌, ◌*◌, ◌<◌, Bool, true, false, cond, List, [], ◌++◌, length, get_or, replicate, Option, None, Some, sym, refl, ap, ◌∙◌, subst, arith, inl, inr}
use Rattle.std.specs.List.{Contains, slice_get}
use Rattle.std.specs.FinMap as map
use Rattle.std.specs.Cmp.{nat_cmp_total}
use Rattle.std.specs.Ordering.{nat_cmp, eq_by_cmp}
use Rattle.std.proofs.lemmas.Bool.{cases_eq}
use Rattle.std.proofs.lemmas.Bool.Decides.{nat_tests}
use Rattle.std.proofs.lemmas.List.{get_or_append_left, get_or-map, length-map, length-replicate, get_or-replicate}
use Rattle.std.proofs.lemmas.Option.{slice_get_within, get_or_from_slice_get}
use Rattle.cb_member.specs.declared.names.Shard.{Shard}
use Rattle.cb_set.specs.SetState.{SetState}
use Rattle.cb_span.specs.Contents.{Contents}
use Rattle.cb_world.specs.declared.access.Access.{Access}
use Rattle.cb_world.specs.declared.homes.Home.{Home}
use Rattle.cb_world.specs.declared.leaving.Former.{Former}
use Rattle.cb_world.specs.declared.object.Object.{Object}
use Rattle.cb_world.specs.declared.object.Object.TheVariants as is
use Rattle.cb_world.specs.declared.shown.Shown.{Shown}
use Rattle.cb_world.specs.Shown.{object_at}
use Rattle.cb_world.specs.FarState.{FarState, handle_in}
use Rattle.cb_world.specs.FarSound.{IsShardOf, Owner, of_set, of_leaving, of_joining, AwaySound, FarSound, IsBatch, rows_in}
use Rattle.cb_world.specs.Homes.{home_at}
use Rattle.cb_world.specs.Join.{IsFresh}
use Rattle.cb_world.specs.Joining.{JoiningState}
use Rattle.cb_world.specs.Leaving.{LeavingState}
use Rattle.cb_world.specs.LocalSound.{LiesAt}
use Rattle.cb_world.specs.Looks.{NoLook, told_by}
use Rattle.cb_world.specs.Memory.{window}
use Rattle.cb_world.specs.Now.{broken_set, broken_home, now_as}
use Rattle.cb_world.specs.Orders.{IsEncodeKept}
use Rattle.cb_world.specs.Reserved.{IsReserved, set_from}
use Rattle.cb_world.specs.RowWords.{row_of}
use Rattle.cb_world.specs.StillDesk.{window_length}
use Rattle.cb_world.specs.Sets.{Kept, SetMap, set_in, if_committed}
use Rattle.cb_world.specs.Sound.{Sound, AreNoted, IsLeaving}
use Rattle.cb_world.specs.Written.{Writes}
use Rattle.cb_world.proofs.Laws.{some_same, found_more, row_length, stands_still, survey_stays}
use Rattle.cb_evict.specs.BeginRule.{blank_shards, blank_shard, new_batch, no_parities, with_batch, HasBegun}
use Rattle.cb_evict.specs.BeginEffect.{IsBatchBegun}
use Rattle.cb_evict.specs.Gathering.{order_for}
use Rattle.cb_evict.proofs.Group.{either, here_beside, out_none, unique}
use Rattle.cb_evict.proofs.TakenGroup.{AreRowsCoded, frame_rows, group_range, group_word, now_told, row_at_frame, rows_told, span_word, taken_group, told_one}
use Rattle.cb_evict.proofs.Options.{none_some}

-- ---- a set that is not committed
by_cmp-other : (q k : ℕ) → q ≢ k → eq_by_cmp nat_cmp q k ≡ false
by_cmp-other q k other = grind (arith, nat_tests)

by_cmp-same : (k : ℕ) → eq_by_cmp nat_cmp k k ≡ true
by_cmp-same k = grind (arith, nat_tests)

abbrev pub kept_only : SetState → Kept
kept_only set = record { set = set; committed = false }

pub reserved_kept : (sets : SetMap) (id : ℕ) (set : SetState)
    → map.get (map.insert sets id (kept_only set)) id ≡ Some (kept_only set)
reserved_kept sets id set = map.get-insert nat_cmp_total sets id (kept_only set) id
    ∙ ap (λ (b : Bool). cond b (Some (kept_only set)) (map.get sets id)) (by_cmp-same id)

pub reserved_others : (sets : SetMap) (id j : ℕ) (set : SetState) → j ≢ id
    → set_in (map.insert sets id (kept_only set)) j ≡ set_in sets j
reserved_others sets id j set off =
    ap if_committed (map.get-insert nat_cmp_total sets id (kept_only set) j
    ∙ ap (λ (b : Bool). cond b (Some (kept_only set)) (map.get sets j)) (by_cmp-other j id off))

-- a committed set was there before
reserved_back : (sets : SetMap) (id j : ℕ) (set other : SetState)
    → set_in (map.insert sets id (kept_only set)) j ≡ Some other → set_in sets j ≡ Some other
reserved_back sets id j set other e = elim (cases_eq j id) [
  | inl same ↦ absurd (none_some other (sym (ap if_committed (reserved_kept sets id set))
      ∙ ap (set_in (map.insert sets id (kept_only set))) (sym same) ∙ e))
  | inr off ↦ sym (reserved_others sets id j set off) ∙ e
]

-- ---- the far part
-- the far state with a batch that leaves under the next set number
abbrev pub begun_far : FarState → SetState → LeavingState → FarState
begun_far far set batch = record far {
  sets = map.insert far.sets far.counts.sets (kept_only set);
  leaving = Some batch;
  counts = record far.counts { sets = far.counts.sets + 1 };
}

-- no shard is named
abbrev pub NoneNamed : LeavingState → Type 0
NoneNamed batch = (p : ℕ) (shard : Shard) → slice_get batch.shards p ≡ Some (Some shard) → ⊥

module _ (t : Shown) (far : FarState) (set : SetState) (batch : LeavingState)
    (none : far.leaving ≡ None) (unput : NoneNamed batch) where
  back : (id : ℕ) (other : SetState) → set_in (begun_far far set batch).sets id ≡ Some other
      → set_in far.sets id ≡ Some other
  back id other e = reserved_back far.sets far.counts.sets id set other e

  shard_back : (o : Owner) (a : Shard) → IsShardOf (begun_far far set batch) o a
      → IsShardOf far o a
  shard_back (of_set id p) a (other, there, at) = (other, back id other there, at)
  shard_back (of_leaving p) a (b, there, at) =
      absurd (unput p a (ap (λ (x : LeavingState). slice_get x.shards p) (some_same batch b there)
      ∙ at))
  shard_back (of_joining p) a x = x

  -- the far part is sound with it
  away_begun : FarSound t far → IsBatch t (begun_far far set batch) batch
      → FarSound t (begun_far far set batch)
  away_begun sound is_batch = record {
    sound = record {
      sets = record {
        shaped = λ id other there. x.sets.shaped id other (back id other there);
        worded = λ id other there. x.sets.worded id other (back id other there);
        live = λ id p other there. x.sets.live id p other (back id other there);
        kept = λ id other there. x.sets.kept id other (back id other there);
        numbered = λ id other there. let less = x.sets.numbered id other (back id other there) in
            omega (arith, less);
      };
      away = record {
        away = x.away.away;
        home = λ h home e. let y = x.away.home h home e in (y.0, forth home.set y.0 y.1, y.2);
        named = λ id p slot h other there e. x.away.named id p slot h other (back id other there) e;
      };
      rows = record {
        members = x.rows.members;
        counted = x.rows.counted;
        room = x.rows.room;
        owned = λ node key row e. let o = x.rows.owned node key row e in
            (o.0, o.1, shard_forth o.0 o.1 o.2, o.3, o.4, o.5);
        one = λ o q a b p r. x.rows.one o q a b (shard_back o a p) (shard_back q b r);
        drawn = λ o a p. x.rows.drawn o a (shard_back o a p);
        current = λ o a p. x.rows.current o a (shard_back o a p);
      };
      batch = λ b there. subst (IsBatch t (begun_far far set batch)) (some_same batch b there)
          is_batch;
    };
    survey = survey_stays far (begun_far far set batch) refl (omega arith)
        (λ id l. stands_still far.members far.members (set_in far.sets id)
        (set_in (begun_far far set batch).sets id) refl
        (reserved_others far.sets far.counts.sets id set
        (λ same. let d = sound.survey.drawn in omega (arith, l, d, same)))) sound.survey;
    join = λ pair there. let j = sound.join pair there in record {
      pages = j.pages;
      k = j.k;
      r = j.r;
      range = j.range;
      taken = j.taken;
      a_count = j.a_count;
      b_count = j.b_count;
      count = j.count;
      apart = j.apart;
      drawn = (
        let less = j.drawn.0 in omega (arith, less),
        let less =
            j.drawn.1 in omega (arith, less),
      );
      a_keys = j.a_keys;
      b_keys = j.b_keys;
      steps = j.steps;
      beside = j.beside;
      fit = λ a b f. j.fit a b (fresh_back pair a b f);
      word = λ a b f. let w = j.word a b (fresh_back pair a b f) in (
        w.0,
        record {
          word = w.1.word;
          a_rows = w.1.a_rows;
          b_rows = w.1.b_rows;
          new_rows = w.1.new_rows;
        },
      );
    };
  }
    where
      x : AwaySound t far
      x = sound.sound

      forth : (id : ℕ) (other : SetState) → set_in far.sets id ≡ Some other
          → set_in (begun_far far set batch).sets id ≡ Some other
      forth id other e =
          let less = x.sets.numbered id other e in
          reserved_others far.sets far.counts.sets id set (λ same. omega (arith, less, same)) ∙ e

      shard_forth : (o : Owner) (a : Shard) → IsShardOf far o a
          → IsShardOf (begun_far far set batch) o a
      shard_forth (of_set id p) a (other, there, at) = (other, forth id other there, at)
      shard_forth (of_leaving p) a (b, there, at) = absurd (none_some b (sym none ∙ there))
      shard_forth (of_joining p) a y = y

      fresh_back : (pair : JoiningState) (a b : SetState)
          → IsFresh (begun_far far set batch) pair a b → IsFresh far pair a b
      fresh_back pair a b f = record {
        a_there = back pair.a a f.a_there;
        b_there = back pair.b b f.b_there;
        a_shards = f.a_shards;
        b_shards = f.b_shards;
        a_whole = f.a_whole;
        b_whole = f.b_whole;
      }

-- ---- the batch
module _ (far : FarState) (frames : List ℕ) (formers : List Former) (made : Bool)
    (parities : List (List ℕ)) (before : List Access) (s t : Shown)
    (d : AreRowsCoded far frames formers made parities before s t) (none : far.leaving ≡ None) where
  no_shard : NoneNamed (new_batch far d.taken.pages frames formers made parities)
  no_shard p shard at =
      let n = far.code.k + far.code.r in
      let all : List (Option Shard) = replicate n None in
      let within = slice_get_within all p (Some shard) at in
      let count : length all ≡ n = length-replicate n None in
      none_some shard (sym (get_or-replicate n p None None (omega (arith, within, count)))
      ∙ get_or_from_slice_get all p (Some shard) None at)

  is_batch : IsBatch t (with_batch far d.taken.pages frames formers made parities)
      (new_batch far d.taken.pages frames formers made parities)
  is_batch = record {
    word = group_word far frames formers made parities before s t d;
    bare = λ yet p shard at. absurd (no_shard p shard at);
    count = let n : length (new_batch far d.taken.pages frames formers made parities).shards ≡ far.code.k + far.code.r =
        length-replicate {A = Option Shard} (far.code.k + far.code.r) None in
        omega (arith, n, d.taken.count, d.few);
    put = λ p shard at lost. absurd (no_shard p shard at);
    apart = λ p q a b at there same. absurd (no_shard p a at);
  }

  reserved : IsReserved (with_batch far d.taken.pages frames formers made parities)
      (new_batch far d.taken.pages frames formers made parities)
  reserved = record {
    drawn = omega arith;
    unpaired = λ pair there. let less = (d.sound.away.join pair there).drawn in
        (λ same. omega (arith, less.0, same), λ same. omega (arith, less.1, same));
    range = group_range far frames formers made parities before s t d;
    blank = blank_shards (far.code.k + far.code.r);
    places = length-replicate (far.code.k + far.code.r) blank_shard
        ∙ sym (length-replicate {A = Option Shard} (far.code.k + far.code.r) None);
    kept = reserved_kept far.sets far.counts.sets
        (set_from far.counts.sets d.taken.pages (blank_shards (far.code.k + far.code.r)) far.spans frames);
  }

  noted : AreNoted t (with_batch far d.taken.pages frames formers made parities)
      (new_batch far d.taken.pages frames formers made parities)
  noted = let g = taken_group far frames formers made parities before s t d in record {
    apart = d.taken.apart;
    held = g.held;
    each = λ f slot h span x there named.
        g.each h (f, x, (slot, ap (λ (o : Option Contents). handle_in o slot) there ∙ named));
    only = λ k e l. let x = d.taken.of.only k e l in (x.0, x.2.0, x.1, x.2.1);
    each_once = d.taken.each_once;
    reserved = reserved;
  }

  -- a claimed object stands in one of the frames
  leaves_one : (h len place v : ℕ) (words : List ℕ) → object_at t h ≡ is.Claimed len place v words
      → IsLeaving t (with_batch far d.taken.pages frames formers made parities) h len place words
  leaves_one h len place v words e =
      let batch = new_batch far d.taken.pages frames formers made parities in
      let g = taken_group far frames formers made parities before s t d in
      elim (either t far batch g h) [
        | inl x ↦
            let lies : LiesAt (object_at t h) len place =
            subst (λ (o : Object). LiesAt o len place) (sym e) (refl, refl) in
            let seat = d.here.placed.placed h len place lies in
            let frame : seat.frame ≡ x.0 = (unique t far batch g).one_frame seat.frame x.0 h (
              seat.slot,
              ap (λ (o : Option Contents). handle_in o seat.slot) seat.there
                  ∙ seat.named,
            ) x.2 in
            record {
              batch = new_batch far d.taken.pages frames formers made parities;
              there = refl;
              slot = seat;
              leaves = subst (Contains frames) (sym frame) x.1;
              contents = g.contents h len place v words x e;
            }
        | inr off ↦ let x = g.others h len place v words off e in
            absurd (none_some x.batch (sym none ∙ x.there))
      ]

  -- the world is sound then
  pub sound_begun : Sound t (with_batch far d.taken.pages frames formers made parities)
  sound_begun = record {
    here = here_beside t far _ far.nodes _ _ d.here;
    noted = λ b there. subst (AreNoted t (with_batch far d.taken.pages frames formers made parities))
        (some_same (new_batch far d.taken.pages frames formers made parities) b there) noted;
    claimed = leaves_one;
    away = away_begun t far (set_from far.counts.sets d.taken.pages (blank_shards (far.code.k + far.code.r)) far.spans frames)
        (new_batch far d.taken.pages frames formers made parities) none no_shard
        (taken_group far frames formers made parities before s t d).away is_batch;
  }

  -- ---- last complete contents
  -- the set of an object that is away is another one, and stays
  other_home : (o : Option Home) (h : ℕ) → home_at far.homes h ≡ o
      → broken_home (with_batch far d.taken.pages frames formers made parities) o ≡ broken_home far o
  other_home None h e = refl
  other_home (Some home) h e =
      let x = d.sound.away.sound.away.home h home e in
      let less = d.sound.away.sound.sets.numbered home.set x.0 x.1 in
      ap (λ (o : Option SetState). broken_set far.members o)
      (reserved_others far.sets far.counts.sets home.set
      (set_from far.counts.sets d.taken.pages (blank_shards (far.code.k + far.code.r)) far.spans frames)
      (λ same. omega (arith, less, same)))

  -- ---- the rule
  abbrev pub rule_begun : (made ≡ false → parities ≡ no_parities far.code.r) → (events : List Access)
      → ((k : ℕ) → NoLook k events)
      → HasBegun far (with_batch far d.taken.pages frames formers made parities) made frames
      (before ++ events)
  rule_begun bare events quiet =
      let n = length-map frames
      (λ (f : ℕ). row_of (window t.memory (512 * f) (512 * d.taken.pages))) in record {
        pages = d.taken.pages;
        long = d.taken.long;
        words = formers;
        rows = frame_rows t d.taken.pages frames;
        parities = parities;
        of = d.taken.of;
        order = d.taken.order;
        each_once = d.taken.each_once;
        found = λ k e l. let f = get_or formers k e in
            found_more f.handle f.word before events (d.claimed.taken k e l).found (quiet f.handle);
        contents = rows_told far frames formers made parities before s t d events quiet
            (frame_rows t d.taken.pages frames)
            (λ p f at. let within = slice_get_within frames p f at in
            sym (get_or_append_left (frame_rows t d.taken.pages frames) parities [] p (omega (arith, n, within)))
            ∙ row_at_frame far frames formers made parities before s t d p f at);
        counts = (n ∙ d.taken.count, d.few);
        word = span_word far frames formers made parities before s t d;
        bare = bare;
        state = refl;
      }

  -- ---- the order
  row_long : (p : ℕ) (e : List ℕ) → p < length frames
      → length (get_or (frame_rows t d.taken.pages frames) p e) ≡ 4096 * d.taken.pages
  row_long p e within =
      let count = 512 * d.taken.pages in
      let row = λ (f : ℕ). row_of (window t.memory (512 * f) count) in
      let ws = window t.memory (512 * get_or frames p 0) count in
      ap (λ (l : List ℕ). length l) (get_or-map row frames p 0 e within)
      ∙ row_length ws ∙ ap (λ (i : ℕ). 8 * i) (window_length t.memory (512 * get_or frames p 0) count)
      ∙ (let e : 8 * (512 * d.taken.pages) ≡ 4096 * d.taken.pages = omega arith in e)

  -- the order of its rows is kept then
  pub order_kept : IsEncodeKept t (with_batch far d.taken.pages frames formers made parities)
      (order_for far (frame_rows t d.taken.pages frames))
  order_kept =
      let row = λ (f : ℕ). row_of (window t.memory (512 * f) (512 * d.taken.pages)) in
      let n = length-map frames row in
      let batch = new_batch far d.taken.pages frames formers made parities in
      record {
        fits = record {
          range = d.range;
          count = n ∙ d.taken.count;
          lengths = λ p e l. row_long p e (omega (arith, l, n))
              ∙ sym (row_long 0 [] (omega (arith, l, n)));
        };
        drawn = omega arith;
        code = λ b there same. let e = some_same batch b there in (
          sym d.taken.count ∙ ap (λ (x : LeavingState). length x.frames) e,
          sym d.few ∙ ap (λ (x : LeavingState). length x.parities) e,
        );
        rows = λ b there same. ap (λ (x : LeavingState). rows_in t x.pages x.frames)
            (some_same batch b there);
      }

  -- ---- the effect
  pub effect_begun : (events : List Access) → ((k : ℕ) → NoLook k events)
      → t.hots ≡ (told_by (before ++ events) s).hots
      → (told_by (before ++ events) s).objects ≡ s.objects
      → t.versions ≡ (told_by (before ++ events) s).versions
      → t.memory ≡ (told_by (before ++ events) s).memory
      → Writes (before ++ events) s []
      → IsBatchBegun far (with_batch far d.taken.pages frames formers made parities) (before ++ events) s t
  effect_begun events quiet hots objects versions memory nothing = record {
    claimed = λ h x. let g = told_one far frames formers made parities before s t d events quiet h
        x in record {
          word = g.noted.former.word;
          version = g.noted.version;
          words = g.noted.words;
          found = g.found;
          told = g.told;
          was = g.was;
          object = g.noted.claimed;
        };
    others = λ h out. d.claimed.others h (out_none t far (new_batch far d.taken.pages frames formers made parities)
        (taken_group far frames formers made parities before s t d) h out);
    hots = hots;
    first = d.claimed.keeps.first;
    objects = d.claimed.keeps.objects;
    versions = versions;
    memory = memory;
    nothing = nothing;
    same_now = λ h.
        ap (λ (b : Bool). now_as t h b (object_at t h)) (other_home (home_at far.homes h) h refl)
        ∙ now_told far frames formers made parities before s t d (told_by (before ++ events) s) h
        objects
        versions memory;
  }
