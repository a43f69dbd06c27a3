use Rattle.std.proofs.Common.{◌≡◌, ◌<◌, length, get_or, Some, sym, ap, ◌∙◌, arith}
use Rattle.std.specs.List.{slice_get}
use Rattle.cb_world.proofs.Laws.{fits_on_least}
use Rattle.cb_world.specs.FarState.{pages_if}
use Rattle.cb_evict.specs.ShipRule.{other_puts}
use Rattle.cb_evict.proofs.WhichWait.{least_waits}
use Rattle.cb_evict.proofs.ShipParts.{contains_at, past_end, few_positions}
use Rattle.cb_evict.proofs.Ending.{place_in}
use Rattle.cb_evict.proofs.shipping.ship_row.Goals as goal

pub ship_data-requires-clause-frames : goal.ship_data-requires-clause-frames
ship_data-requires-clause-frames g c = λ batch there.
    let at : slice_get batch.frames c.args.position ≡ Some c.in-Some.frame =
    sym (c.frame_at.ensures batch there) ∙ c.in-Some.is in
    let sound = c.requires.sound.1 in
    let h = (sound.noted batch there).held c.in-Some.frame
    (contains_at batch.frames c.args.position c.in-Some.frame at) in
    let within = sound.here.frames.within c.in-Some.frame h.0 h.1 in
    omega (arith, within, h.2, c.requires.configured.frames)

pub ship_data-requires-clause-spans : goal.ship_data-requires-clause-spans
ship_data-requires-clause-spans g c = λ batch there.
    let at : slice_get batch.frames c.args.position ≡ Some c.in-Some.frame =
    sym (c.frame_at.ensures batch there) ∙ c.in-Some.is in
    let h = (c.requires.sound.1.noted batch there).held c.in-Some.frame
    (contains_at batch.frames c.args.position c.in-Some.frame at) in ap pages_if h.1 ∙ h.2

pub ship_due-requires-clause-there : goal.ship_due-requires-clause-there
ship_due-requires-clause-there g c =
    let far = c.args.far.now in let p = c.args.position in
    let x = c.requires.next in let batch = x.0 in
    let s = c.requires.sound.0 in let sound = c.requires.sound.1 in
    let place : p < length batch.shards = (least_waits far.members batch.shards p x.2.0).0 in
    let count = (sound.away.sound.batch batch x.1).count in
    let held = (sound.noted batch x.1).held in (
      batch,
      x.1,
      record {
        behind = past_end batch.frames p (sym (c.frame_at.ensures batch x.1) ∙ c.in-None.is);
        within = omega (arith, place, count);
        place = place;
        count = count;
        few = few_positions s far batch sound x.1;
        range = (sound.noted batch x.1).reserved.range;
        below = λ k d l. let h = held (get_or batch.frames k d) (place_in batch.frames k d l) in
            let within = sound.here.frames.within (get_or batch.frames k d) h.0 h.1 in
            omega (arith, within, h.2, c.requires.configured.frames);
        long = λ k d l. let h = held (get_or batch.frames k d) (place_in batch.frames k d l) in
            ap pages_if h.1 ∙ h.2;
      },
    )

pub ship_due-requires-clause-config : goal.ship_due-requires-clause-config
ship_due-requires-clause-config g c = c.requires.config

pub ship_data-requires-clause-config : goal.ship_data-requires-clause-config
ship_data-requires-clause-config g c = c.requires.config

pub ship_data-requires-clause-keys : goal.ship_data-requires-clause-keys
ship_data-requires-clause-keys g c = c.requires.keys

pub ship_due-requires-clause-keys : goal.ship_due-requires-clause-keys
ship_due-requires-clause-keys g c = c.requires.keys

pub ship_data-requires-clause-there : goal.ship_data-requires-clause-there
ship_data-requires-clause-there g c = let x = c.requires.next in (
  x.0,
  x.1,
  sym (c.frame_at.ensures x.0 x.1) ∙ c.in-Some.is,
  (least_waits c.args.far.now.members x.0.shards c.args.position x.2.0).0,
)

pub ship_data-requires-clause-room : goal.ship_data-requires-clause-room
ship_data-requires-clause-room g c = let x = c.requires.next in
    fits_on_least c.args.far.now (other_puts x.0.shards c.args.position) c.args.shard.node x.2.1.node

pub ship_due-requires-clause-room : goal.ship_due-requires-clause-room
ship_due-requires-clause-room g c = let x = c.requires.next in
    fits_on_least c.args.far.now (other_puts x.0.shards c.args.position) c.args.shard.node x.2.1.node

pub returns-in-Some-clause-ok : goal.returns-in-Some-clause-ok
returns-in-Some-clause-ok g c = c.ship_data.ensures.ok

pub returns-in-Some-clause-err : goal.returns-in-Some-clause-err
returns-in-Some-clause-err g c = c.ship_data.ensures.err

pub returns-in-Some-clause-unchanged : goal.returns-in-Some-clause-unchanged
returns-in-Some-clause-unchanged g c = c.ship_data.ensures.unchanged

pub returns-in-None-clause-ok : goal.returns-in-None-clause-ok
returns-in-None-clause-ok g c = c.ship_due.ensures.ok

pub returns-in-None-clause-err : goal.returns-in-None-clause-err
returns-in-None-clause-err g c = c.ship_due.ensures.err

pub returns-in-None-clause-unchanged : goal.returns-in-None-clause-unchanged
returns-in-None-clause-unchanged g c = c.ship_due.ensures.unchanged
