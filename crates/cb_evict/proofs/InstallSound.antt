-- The sound world once the parities of the batch that is leaving are made.
use Rattle.std.proofs.Common.{◌≡◌, ℕ, ◌*◌, Bool, true, false, List, [], ◌++◌, length, Some, refl, sym, ap, ◌∙◌, subst, arith}
use Rattle.std.specs.List.{Contains, slice_get}
use Rattle.std.proofs.lemmas.List.{get_or_append_left, length-map}
use Rattle.cb_gf256.specs.InRange.{IsInRange}
use Rattle.cb_gf256.specs.Rows.{row_at}
use Rattle.cb_member.specs.declared.names.Shard.{Shard}
use Rattle.cb_set.specs.SetState.{SetState}
use Rattle.cb_world.specs.declared.shown.Shown.{Shown}
use Rattle.cb_world.specs.FarSound.{AwaySound, IsBatch, IsShardOf, Owner, batch_rows, of_joining, of_leaving, of_set, rows_in}
use Rattle.cb_world.specs.FarState.{FarState}
use Rattle.cb_world.specs.Join.{IsFresh, IsJoin}
use Rattle.cb_world.specs.Joining.{JoiningState}
use Rattle.cb_world.specs.Leaving.{LeavingState}
use Rattle.cb_world.specs.Memory.{window}
use Rattle.cb_world.specs.RowWords.{row_of}
use Rattle.cb_world.specs.SetWord.{IsSpanWord}
use Rattle.cb_world.specs.Sound.{AreNoted, IsLeaving, Sound}
use Rattle.cb_world.proofs.Laws.{local_stays, pair_kept, survey_same}
use Rattle.cb_evict.specs.InstallRule.{with_made, with_parities}
use Rattle.cb_evict.specs.ShipRule.{AreMadeOf}
use Rattle.cb_evict.proofs.BeginFixed.{parities_fixed}
use Rattle.cb_evict.proofs.Group.{noted_still}
use Rattle.cb_evict.proofs.Options.{some_same}

-- the rows of a batch as they stand in memory
abbrev pub rows_known : Shown → LeavingState → List (List ℕ)
rows_known s batch = rows_in s batch.pages batch.frames

pub rows_count : (s : Shown) (batch : LeavingState)
    → length (rows_known s batch) ≡ length batch.frames
rows_count s batch =
    length-map batch.frames (λ f. row_of (window s.memory (512 * f) (512 * batch.pages)))

module _ (s : Shown) (far : FarState) (batch : LeavingState) (parities : List (List ℕ))
    (sound : Sound s far) (there : far.leaving ≡ Some batch)
    (made : AreMadeOf batch (rows_known s batch) parities) where
  abbrev new : FarState
  new = with_made far batch parities

  abbrev rest : LeavingState
  rest = with_parities batch parities

  was : IsBatch s far batch
  was = sound.away.sound.batch batch there

  -- ---- who names a row
  forth : (o : Owner) (a : Shard) → IsShardOf far o a → IsShardOf new o a
  forth (of_set id p) a is = is
  forth (of_joining p) a is = is
  forth (of_leaving p) a is = (
    rest,
    refl,
    ap (λ (b : LeavingState). slice_get b.shards p) (some_same batch is.0 (sym there ∙ is.1))
        ∙ is.2,
  )

  back : (o : Owner) (a : Shard) → IsShardOf new o a → IsShardOf far o a
  back (of_set id p) a is = is
  back (of_joining p) a is = is
  back (of_leaving p) a is = (
    batch,
    there,
    ap (λ (b : LeavingState). slice_get b.shards p) (some_same rest is.0 is.1) ∙ is.2,
  )

  -- ---- the batch
  -- a row that was put is that of the batch still: a data row, or one of parities that were made
  row_stays : (p : ℕ) (shard : Shard) → slice_get batch.shards p ≡ Some (Some shard)
      → row_at (batch_rows s batch) p ≡ row_at (batch_rows s rest) p
  row_stays p shard at = by batch.made refl
    where
      by : (b : Bool) → batch.made ≡ b
          → row_at (batch_rows s batch) p ≡ row_at (batch_rows s rest) p
      by true e =
          let k = length batch.frames in
          let word = subst (λ (n : ℕ). IsSpanWord batch.pages k n (batch_rows s rest)) made.count
          made.word in
          let same : batch.parities ≡ parities =
          parities_fixed batch.pages k (length batch.parities) (rows_known s batch) batch.parities
          parities made.range (rows_count s batch) (was.word e) word in
          ap (λ (l : List (List ℕ)). row_at (rows_known s batch ++ l) p) same
      by false e =
          let below = was.bare e p shard at in
          let n = rows_count s batch in
          get_or_append_left (rows_known s batch) batch.parities [] p (omega (arith, below, n))
          ∙ sym (get_or_append_left (rows_known s batch) parities [] p (omega (arith, below, n)))

  true_false : true ≡ false → ⊥
  true_false e = cc

  is_batch : IsBatch s new rest
  is_batch = record {
    word = λ same. made.word;
    bare = λ not. absurd (true_false not);
    count = let count = was.count in let n = made.count in omega (arith, count, n);
    put = λ p shard at up. was.put p shard at up
        ∙ ap (λ (row : List ℕ). Some row) (row_stays p shard at);
    apart = was.apart;
  }

  -- ---- the far part
  away_made : AwaySound s new
  away_made = let x = sound.away.sound in record {
    sets = record {
      shaped = x.sets.shaped;
      worded = x.sets.worded;
      live = x.sets.live;
      kept = x.sets.kept;
      numbered = x.sets.numbered;
    };
    away = record { away = x.away.away; home = x.away.home; named = x.away.named };
    rows = record {
      members = x.rows.members;
      counted = x.rows.counted;
      room = x.rows.room;
      owned = λ node key row at. let y = x.rows.owned node key row at in
          (y.0, y.1, forth y.0 y.1 y.2, y.3, y.4, y.5);
      one = λ o q a b y z same. x.rows.one o q a b (back o a y) (back q b z) same;
      drawn = λ o a y. x.rows.drawn o a (back o a y);
      current = λ o a y. x.rows.current o a (back o a y);
    };
    batch = λ b at. subst (IsBatch s new) (some_same rest b at) is_batch;
  }

  pair_made : (pair : JoiningState) → IsJoin far pair → IsJoin new pair
  pair_made pair j = pair_kept far new pair (record {
    more_sets = omega arith;
    more_keys = omega arith;
    fresh = λ c d f. (c, d, before c d f, λ pages k fit. fit);
    a_stay = λ c d f p shard at. refl;
    b_stay = λ c d f p shard at. refl;
    new_stay = λ c d f p shard at. refl;
  }) j
    where
      before : (c d : SetState) → IsFresh new pair c d → IsFresh far pair c d
      before c d f = record {
        a_there = f.a_there;
        b_there = f.b_there;
        a_shards = f.a_shards;
        b_shards = f.b_shards;
        a_whole = f.a_whole;
        b_whole = f.b_whole;
      }

  -- ---- its objects
  noted_made : AreNoted s new rest
  noted_made = let n = sound.noted batch there in record {
    apart = n.apart;
    held = n.held;
    each = λ f slot h span c at named.
        noted_still s s batch rest h refl refl (n.each f slot h span c at named);
    only = n.only;
    each_once = n.each_once;
    reserved = record {
      drawn = n.reserved.drawn;
      unpaired = n.reserved.unpaired;
      range = subst (IsInRange (length batch.frames)) (sym made.count) n.reserved.range;
      blank = n.reserved.blank;
      places = n.reserved.places;
      kept = n.reserved.kept;
    };
  }

  claimed_made : (h len place : ℕ) (words : List ℕ) → IsLeaving s far h len place words
      → IsLeaving s new h len place words
  claimed_made h len place words y = record {
    batch = rest;
    there = refl;
    slot = y.slot;
    leaves = subst (λ (b : LeavingState). Contains b.frames y.slot.frame)
        (some_same y.batch batch (sym y.there ∙ there)) y.leaves;
    contents = y.contents;
  }

  -- the whole world
  pub made_sound : Sound s new
  made_sound = record {
    here = local_stays s far new refl refl refl refl sound.here;
    noted = λ b at. subst (AreNoted s new) (some_same rest b at) noted_made;
    claimed = λ h len place v words at. claimed_made h len place words
        (sound.claimed h len place v words at);
    away = record {
      sound = away_made;
      join = λ pair at. pair_made pair (sound.away.join pair at);
      survey = survey_same far new refl refl (omega arith) (λ id. refl) sound.away.survey;
    };
  }
