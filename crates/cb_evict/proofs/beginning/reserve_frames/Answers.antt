use Rattle.std.proofs.lemmas.Result.{IfOk-from_err}
use Rattle.std.proofs.Common.{◌≡◌, ◌+◌, ◌-◌, ◌*◌, ℕ, List, [], length, sym, refl, ap, ◌∙◌, subst, arith}
use Rattle.cb_member.specs.declared.names.Code.{Code}
use Rattle.cb_member.specs.declared.names.Shard.{Shard}
use Rattle.cb_evict.specs.BeginRule.{blank_shards}
use Rattle.cb_evict.specs.Beginning.{AreReady, with_reserved}
use Rattle.cb_world.specs.Leaving.{AreRoomy}
use Rattle.cb_evict.proofs.BeginEnd.{blank_count}
use Rattle.cb_evict.proofs.BeginParts.{no_names}
use Rattle.cb_evict.proofs.Composed.{any_err, read_err, rows_made}
use Rattle.cb_evict.proofs.Loads.{reads_spans}
use Rattle.cb_evict.proofs.beginning.reserve_frames.Goals as goal

pub room_for-requires-clause-pages : goal.room_for-requires-clause-pages
room_for-requires-clause-pages g c = c.requires.pages

pub room_for-requires-clause-count : goal.room_for-requires-clause-count
room_for-requires-clause-count g c =
    let k = ap (λ (n : Code). n.k) c.in_force-code.ensures in
    let r = ap (λ (n : Code). n.r) c.in_force-code.ensures in
    let range = c.requires.range in let most = range.data_most in let more = range.parities_most in
    omega (arith, k, r, most, more)

pub returns-in_err-room-clause-reserved : goal.returns-in_err-room-clause-reserved
returns-in_err-room-clause-reserved g c = IfOk-from_err _ _ c.from_residual.ensures.0

pub returns-in_err-room-clause-shards : goal.returns-in_err-room-clause-shards
returns-in_err-room-clause-shards g c = IfOk-from_err _ _ c.from_residual.ensures.0

pub returns-in_err-room-clause-read : goal.returns-in_err-room-clause-read
returns-in_err-room-clause-read g c = read_err
    (λ es. g.D.Desk.run c.args.desk.now es c.args.desk.now) c.args.far.now.spans c.args.frames.now [] _ (g.met.D.Desk.none _) tt

pub returns-in_err-room-clause-unchanged : goal.returns-in_err-room-clause-unchanged
returns-in_err-room-clause-unchanged g c = any_err _ _ refl

pub load_spans-requires-clause-count : goal.load_spans-requires-clause-count
load_spans-requires-clause-count g c =
    (rows_made c.in_ok-room.room.rows c.in_force-code.result.k (length c.args.frames.now)
    (4096 * c.args.pages)
    c.in_ok-room.ensures.rows
    (c.requires.count ∙ sym (ap (λ (n : Code). n.k) c.in_force-code.ensures))).0

pub load_spans-requires-clause-few : goal.load_spans-requires-clause-few
load_spans-requires-clause-few g c =
    let most = c.requires.range.data_most in omega (arith, most, c.requires.count)

pub load_spans-requires-clause-lengths : goal.load_spans-requires-clause-lengths
load_spans-requires-clause-lengths g c =
    (rows_made c.in_ok-room.room.rows c.in_force-code.result.k (length c.args.frames.now)
    (4096 * c.args.pages)
    c.in_ok-room.ensures.rows
    (c.requires.count ∙ sym (ap (λ (n : Code). n.k) c.in_force-code.ensures))).1

pub load_spans-requires-clause-config : goal.load_spans-requires-clause-config
load_spans-requires-clause-config g c = c.requires.config

pub load_spans-requires-clause-frames : goal.load_spans-requires-clause-frames
load_spans-requires-clause-frames g c = c.requires.below

pub reserve-requires-clause-there : goal.reserve-requires-clause-there
reserve-requires-clause-there g c = c.requires.there

pub reserve-requires-clause-data_rows : goal.reserve-requires-clause-data_rows
reserve-requires-clause-data_rows g c = c.load_spans.ensures.count
    ∙ (rows_made c.in_ok-room.room.rows c.in_force-code.result.k (length c.args.frames.now)
    (4096 * c.args.pages)
    c.in_ok-room.ensures.rows
    (c.requires.count ∙ sym (ap (λ (n : Code). n.k) c.in_force-code.ensures))).0

pub reserve-requires-clause-range : goal.reserve-requires-clause-range
reserve-requires-clause-range g c =
    let same = ap (λ (l : List Shard). length l) c.deref.ensures.value in
    let many = blank_count _ _ c.in_ok-room.ensures.blank in
    let k = ap (λ (n : Code). n.k) c.in_force-code.ensures in
    let r = ap (λ (n : Code). n.r) c.in_force-code.ensures in
    let range = c.requires.range in record {
      data_least = omega (arith, range.data_least, c.requires.count);
      data_most = omega (arith, range.data_most, c.requires.count);
      parities_least = omega (arith, range.parities_least, c.requires.count, same, many, k, r);
      parities_most = omega (arith, range.parities_most, c.requires.count, same, many, k, r);
    }

pub returns-in_err-parities-clause-reserved : goal.returns-in_err-parities-clause-reserved
returns-in_err-parities-clause-reserved g c = IfOk-from_err _ _ c.from_residual-in_err-parities.ensures.0

pub returns-in_err-parities-clause-shards : goal.returns-in_err-parities-clause-shards
returns-in_err-parities-clause-shards g c = IfOk-from_err _ _ c.from_residual-in_err-parities.ensures.0

pub returns-in_err-parities-clause-read : goal.returns-in_err-parities-clause-read
returns-in_err-parities-clause-read g c =
    let x = c.load_spans.ensures.loads in read_err
    (λ es. g.D.Desk.run c.args.desk.now es c.load_spans.new.desk)
    c.args.far.now.spans c.args.frames.now x.events _ x.ran
    (reads_spans c.args.far.now.spans c.args.pages c.args.frames.now c.requires.long x.events x.loads)

pub returns-in_err-parities-clause-unchanged : goal.returns-in_err-parities-clause-unchanged
returns-in_err-parities-clause-unchanged g c = any_err _ _ c.in_err-parities.ensures.err

pub returns-clause-reserved : goal.returns-clause-reserved
returns-clause-reserved g c =
    let blank = c.deref.ensures.value ∙ c.in_ok-room.ensures.blank
    ∙ ap (λ (n : Code). blank_shards (n.k + n.r)) c.in_force-code.ensures in
    let many = blank_count _ _ blank in
    let count = c.load_spans.ensures.count
    ∙ (rows_made c.in_ok-room.room.rows c.in_force-code.result.k (length c.args.frames.now)
    (4096 * c.args.pages)
    c.in_ok-room.ensures.rows
    (c.requires.count ∙ sym (ap (λ (n : Code). n.k) c.in_force-code.ensures))).0 in
    let parities : length c.deref.result.now - length c.args.frames.now ≡ c.args.far.now.code.r =
    omega (arith, many, c.requires.count) in
    let ready = c.in_ok-parities.ensures.parities in record {
      loads = c.load_spans.ensures.loads;
      count = count;
      ready = subst (λ (n : ℕ). AreReady c.args.made n c.load_spans.new.rows c.in_ok-parities.parities)
          parities ready;
      roomy = subst (λ (n : ℕ). AreRoomy c.args.pages n c.in_ok-parities.parities) count
          (ready.long c.args.pages c.load_spans.ensures.lengths);
      state = subst (λ (l : List Shard). c.reserve.new.far
          ≡ with_reserved c.args.far.now c.args.pages l c.args.frames.now)
          blank c.in_ok-parities.ensures.state;
    }

pub returns-clause-shards : goal.returns-clause-shards
returns-clause-shards g c = c.in_ok-room.ensures.shards
    ∙ ap (λ (n : Code). no_names (n.k + n.r)) c.in_force-code.ensures

pub returns-clause-read : goal.returns-clause-read
returns-clause-read g c = tt

pub returns-clause-unchanged : goal.returns-clause-unchanged
returns-clause-unchanged g c = tt
