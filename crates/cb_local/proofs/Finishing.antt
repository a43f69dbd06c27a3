-- A pair whose rows are all put, and what want of memory leaves of it.
use Rattle.std.proofs.Common.{◌≡◌, ℕ, ◌+◌, ◌≤◌, length, Some, None, refl, sym, ap, ◌∙◌, subst, arith}
use Rattle.std.specs.Prelude.{Ok}
use Rattle.cb_set.specs.SetState.{SetState, parities}
use Rattle.cb_types.specs.declared.reply.Reply.{Reply}
use Rattle.cb_world.specs.declared.shown.Shown.{Shown}
use Rattle.cb_world.specs.FarState.{FarState}
use Rattle.cb_world.specs.Joining.{JoiningState}
use Rattle.cb_world.specs.Reserved.{put_shards}
use Rattle.cb_world.specs.Sound.{Sound}
use Rattle.cb_world.specs.Stored.{AreThere, all_dropped}
use Rattle.cb_compact.specs.MergeStep.{IsMerged, replaced_shards}
use Rattle.cb_compact.specs.Merging.{IsReadyToMerge}
use Rattle.cb_compact.specs.NowGoing.{HasGone, with_keys, without_pair}
use Rattle.cb_compact.specs.PairStep.{set_numbered}
use Rattle.cb_compact.specs.MergeStep.{moved_count}
use Rattle.cb_compact.specs.PartStep.{IsFreshPair, with_parted}
use Rattle.cb_compact.proofs.Laws.{dropped_given, ends_merged, fresh_code, gone_all, gone_sets, gone_there, none_gone, taken_few}
use Rattle.cb_local.specs.Delta.{DoneState}
use Rattle.cb_local.specs.Fetching.{AreParitiesMade, far_given, rows_given}
use Rattle.cb_local.specs.LocalGoing.{EndsMergedHere, HasGoneGiving, IsBegunPair, IsJoinStopped}
use Rattle.cb_local.specs.Putting.{ArePut, with_count}
use Rattle.cb_local.proofs.Counted.{dropped_counted, fresh_counted, merged_counted, sound_counted}
use Rattle.cb_local.specs.Rooms.{AllHaveRoom}
use Rattle.cb_local.proofs.Taking.{none_taken, taken_below, taken_sound}

-- how many rows are given at most
pub rows_few : (s : Shown) (begun : FarState) (pair : JoiningState) (a b : SetState)
    → Sound s begun → IsFreshPair begun pair a b → rows_given pair.taken (parities a) ≤ 36
rows_few s begun pair a b sound fresh =
    let c = fresh_code s begun pair a b sound.away fresh in
    let l = taken_few (length a.positions) pair.taken c.taken in
    let k = c.range.data_most in let r = c.range.parities_most in omega (arith, l, k, r)

module _ (done : DoneState) (s : Shown) (begun : FarState) (first : JoiningState) (a b : SetState)
    (far : FarState) (n : ℕ) (x : ArePut done s begun first a b far n) where
  -- the far state as it would be if no row had been given
  abbrev plain : FarState
  plain = with_count far begun.nodes.given

  pub put_sound : Sound s far
  put_sound = sound_counted s plain far.nodes.given
      (taken_sound s begun first a b plain n x.sound x.taken)

  pub put_fresh : IsFreshPair far x.taken.pair a b
  put_fresh = fresh_counted plain far.nodes.given x.taken.pair a b x.taken.fresh

  pub put_sets : far.counts.sets ≡ begun.counts.sets
  put_sets = gone_sets begun plain n x.taken.gone

  pub put_stops : IsFreshPair begun first a b → HasGoneGiving begun far
  put_stops fresh = record {
    n = n;
    gone = x.taken.gone;
    rows = rows_given first.taken (parities a);
    few = rows_few s begun first a b x.sound fresh;
    given = x.given;
  }

  pub put_ready : length first.steps ≤ n → IsReadyToMerge s far x.taken.pair a b
  put_ready past = record {
    sound = put_sound.away;
    fresh = put_fresh;
    done = λ p l. taken_below s begun first a b plain n x.sound x.taken p
        (let e = x.taken.count in omega (arith, l, e, past));
  }

  -- the set is made
  pub put_ends : (new : FarState) (r : Reply) → begun.joining ≡ Some first
      → length first.steps ≤ n → ((pair : JoiningState) (c d : SetState)
      → IsFreshPair far pair c d → IsMerged far pair c d new r)
      → EndsMergedHere begun new first a r
  put_ends new r there past merged =
      let m = merged x.taken.pair a b put_fresh in
      let given : new.nodes.given ≡ begun.nodes.given + rows_given first.taken (parities a) =
      ap (λ (f : FarState). f.nodes.given) m.state
      ∙ dropped_given (all_dropped far.nodes x.taken.pair.shards_b)
      (replaced_shards x.taken.pair.steps x.taken.pair.shards_a)
      ∙ dropped_given far.nodes x.taken.pair.shards_b ∙ x.given in record {
        mid = with_count new begun.nodes.given;
        set = set_numbered far.counts.sets;
        moved = moved_count x.taken.pair b;
        reply = m.reply;
        ends = ends_merged begun plain (with_count new begun.nodes.given) (Ok r)
            (gone_all begun plain n first x.taken.gone there past)
            (λ pair c d fresh. merged_counted far new begun.nodes.given pair c d r
            (merged pair c d (fresh_counted plain far.nodes.given pair c d fresh)));
        state = ap (with_count new) given;
      }

-- ---- want of memory
pub stopped_there : (s : Shown) (begun far : FarState) → Sound s begun
    → (x : HasGoneGiving begun far) → (pair : JoiningState) × (far.joining ≡ Some pair)
    × AreThere far.nodes (put_shards pair.steps)
stopped_there s begun far sound x =
    let y = gone_there s begun (with_count far begun.nodes.given) x.n sound x.gone in
    (y.0, y.1, y.2)

pub undone_stops : (begun far new : FarState) (keys : ℕ) → (x : HasGoneGiving begun far)
    → keys ≡ begun.counts.keys
    → ((q : JoiningState) → far.joining ≡ Some q → new ≡ with_keys (with_parted far q) keys)
    → IsJoinStopped begun new
undone_stops begun far new keys x same undo =
    let pair = x.gone.pair in let shards = put_shards pair.steps in record {
      rows = x.rows;
      few = x.few;
      state = undo pair x.gone.fresh.was
          ∙ ap (with_keys (with_parted far pair)) same
          ∙ ap (λ (n : _). with_keys (record far { nodes = n; joining = None }) begun.counts.keys)
          (dropped_counted (record far.nodes { given = begun.nodes.given }) far.nodes.given shards)
          ∙ ap (λ (f : FarState). with_count f far.nodes.given) x.gone.back
          ∙ ap (with_count (without_pair begun)) x.given;
    }

-- ---- before the first row
pub stopped_first : (s : Shown) (begun new : FarState) (pair : JoiningState) (a b : SetState)
    → IsBegunPair s begun pair a b
    → (rows : ℕ) × (rows ≤ 36) × (new ≡ far_given begun rows) → HasGoneGiving begun new
stopped_first s begun new pair a b is x = record {
  n = 0;
  gone = subst (λ (f : FarState). HasGone begun (with_count f begun.nodes.given) 0) (sym x.2)
      (none_gone begun pair a b is.fresh is.undone);
  rows = x.0;
  few = x.1;
  given = ap (λ (f : FarState). f.nodes.given) x.2;
}

pub put_none : (done : DoneState) (s : Shown) (begun : FarState) (pair : JoiningState)
    (a b : SetState) (far : FarState) → IsBegunPair s begun pair a b → AllHaveRoom begun pair a
    → AreParitiesMade begun pair a b done
    → far ≡ far_given begun (rows_given pair.taken (parities a))
    → ArePut done s begun pair a b far 0
put_none done s begun pair a b far is rooms made state =
    subst (λ (f : FarState). ArePut done s begun pair a b f 0) (sym state) (record {
      sound = is.sound;
      made = made;
      rooms = rooms;
      few = is.few;
      taken = none_taken begun pair a b is.fresh is.undone;
      given = refl;
    })
