-- What a sound world with a leaving batch gives to its commit.
use Rattle.std.proofs.Common.{◌≡◌, ◌≢◌, ℕ, ◌<◌, ◌≤◌, All, length, get_or, Option, None, Some, arith}
use Rattle.std.specs.List.{AllPairs, Contains, slice_get}
use Rattle.std.specs.Prelude.{IfSome}
use Rattle.std.proofs.lemmas.List.{get_or_default}
use Rattle.std.proofs.lemmas.Option.{slice_get-get_or}
use Rattle.cb_member.specs.declared.names.Shard.{Shard}
use Rattle.cb_span.specs.Contents.{Contents}
use Rattle.cb_world.specs.declared.shown.Shown.{Shown}
use Rattle.cb_world.specs.FarSound.{of_leaving}
use Rattle.cb_world.specs.FarState.{FarState, span_in}
use Rattle.cb_world.specs.Leaving.{LeavingState}
use Rattle.cb_world.specs.Sound.{AreNoted, Sound}
use Rattle.cb_evict.specs.Candidates.{AreUnique}
use Rattle.cb_evict.specs.Committing.{HasPlaces}
use Rattle.cb_evict.specs.Sending.{IsFormerTold}
use Rattle.cb_evict.specs.Waiting.{PutAtMembers}
use Rattle.cb_evict.proofs.Noted.{claimed_all, stamp_of}
use Rattle.cb_evict.proofs.Standing.{are_unique}

module _ (s : Shown) (far : FarState) (batch : LeavingState) (sound : Sound s far)
    (there : far.leaving ≡ Some batch) where
  noted : AreNoted s far batch
  noted = sound.noted batch there

  -- ---- its shards
  at_member : (k : ℕ) (o : Option Shard) → slice_get batch.shards k ≡ Some o
      → IfSome o (λ shard. shard.node.n < length far.members.nodes)
  at_member k None at = tt
  at_member k (Some shard) at =
      (sound.away.sound.rows.current (of_leaving k) shard (batch, there, at)).0

  pub put_at_members : PutAtMembers far.members batch.shards
  put_at_members k d l = at_member k (get_or batch.shards k d) (slice_get-get_or batch.shards k d l)

  pub few_shards : length batch.shards ≤ 20
  few_shards =
      let b = sound.away.sound.batch batch there in let r = noted.reserved.range in
      omega (arith, b.count, r.data_most, r.parities_most)

  pub has_places : HasPlaces far.sets batch.set batch.shards
  has_places = record {
    kept = _;
    there = noted.reserved.kept;
    places = noted.reserved.places;
  }

  -- ---- its frames
  frame_at : (k d : ℕ) → k < length batch.frames → Contains batch.frames (get_or batch.frames k d)
  frame_at k d l = (k, l, get_or_default batch.frames k (get_or batch.frames k d) d l)

  pub frames_held : All (λ f. (span : Contents) × (span_in far.spans f ≡ Some span)) batch.frames
  frames_held k d l =
      let held = noted.held (get_or batch.frames k d) (frame_at k d l) in (held.0, held.1)

  pub frames_apart : AllPairs (λ f g. f ≢ g) batch.frames
  frames_apart = noted.apart

  pub few_frames : length batch.frames ≤ 16
  few_frames = noted.reserved.range.data_most

  pub spans_unique : (n : ℕ) → length s.objects ≡ n → AreUnique far.spans n
  spans_unique n count = are_unique far s n sound.here count

  -- ---- its objects
  pub told_all : length s.hots ≡ length s.objects → All (IsFormerTold s) batch.words
  told_all warm k d l =
      let f = get_or batch.words k d in
      let c = claimed_all s far batch sound there warm k d l in record {
        version = c.version;
        words = c.words;
        object = c.object;
        stamp = stamp_of s far batch sound there f.handle _ _ c.version c.words c.object;
        handle = c.handle;
        warm = c.warm;
      }
