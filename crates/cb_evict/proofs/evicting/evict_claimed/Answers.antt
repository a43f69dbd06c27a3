use Rattle.std.proofs.Common.{ℕ, ◌+◌, ◌≤◌, ◌++◌, length, refl, get_or, All, sym, ap, ◌∙◌, subst, arith}
use Rattle.cb_types.specs.declared.config.Config.{Config}
use Rattle.cb_world.specs.declared.shown.Shown.{Shown}
use Rattle.cb_world.specs.Played.{played}
use Rattle.cb_world.specs.FarState.{FarState, span_in}
use Rattle.cb_world.specs.LocalSound.{AreFrames}
use Rattle.cb_world.proofs.Laws.{frames_as}
use Rattle.cb_evict.specs.Candidates.{AreUnique}
use Rattle.cb_evict.specs.Evicting.{StoresFrames}
use Rattle.cb_evict.specs.Loading.{AreOfLength, LiesInOne, LiesInRuns}
use Rattle.cb_evict.proofs.Events.{are_reads}
use Rattle.cb_evict.proofs.EvictSound.{told_all}
use Rattle.cb_evict.proofs.Ending.{taken_ready, place_in, handles_all, are_read, kept_parities, end_allowed, ended, state_then, homes_then, end_in, spans_touched, frames_below, pages_told}
use Rattle.cb_evict.proofs.Loads.{reads_spans}
use Rattle.cb_evict.proofs.Restored.{gives_back_ends, settled_end}
use Rattle.cb_evict.proofs.Standing.{are_unique}
use Rattle.cb_evict.proofs.CallParts.{joins}
use Rattle.cb_evict.proofs.evicting.evict_claimed.Goals as goal

pub store_frames-requires-clause-config : goal.store_frames-requires-clause-config
store_frames-requires-clause-config g c = c.requires.config

pub store_frames-requires-clause-configured : goal.store_frames-requires-clause-configured
store_frames-requires-clause-configured g c = c.requires.configured

pub store_frames-requires-clause-counts : goal.store_frames-requires-clause-counts
store_frames-requires-clause-counts g c = c.requires.counts

pub store_frames-requires-clause-room : goal.store_frames-requires-clause-room
store_frames-requires-clause-room g c = c.requires.room

pub store_frames-requires-clause-count : goal.store_frames-requires-clause-count
store_frames-requires-clause-count g c = c.requires.taken.count

pub store_frames-requires-clause-there : goal.store_frames-requires-clause-there
store_frames-requires-clause-there g c = λ k d l.
    let x = taken_ready c.args.far.now c.args.frames.now c.args.formers.now c.requires.ready.1
    c.requires.taken c.requires.ready.2.sound.here (get_or c.args.frames.now k d)
    (place_in c.args.frames.now k d l) in (x.span, x.there)

pub span_pages-pages-requires : goal.span_pages-pages-requires
span_pages-pages-requires g c =
    let some = c.requires.configured.codes.force.range.data_least in
    let x = taken_ready c.args.far.now c.args.frames.now c.args.formers.now c.requires.ready.1
    c.requires.taken c.requires.ready.2.sound.here (get_or c.args.frames.now 0 0)
    (place_in c.args.frames.now 0 0 (omega (arith, some, c.requires.taken.count))) in
    record { there = (x.span, x.there) }

pub store_frames-requires-clause-pages : goal.store_frames-requires-clause-pages
store_frames-requires-clause-pages g c = c.span_pages-pages.ensures.few

pub store_frames-requires-clause-long : goal.store_frames-requires-clause-long
store_frames-requires-clause-long g c =
    let pages = pages_told c.args.far.now c.args.frames.now c.args.formers.now c.requires.ready.1 0
    c.span_pages-pages.result c.requires.taken c.requires.ready.2.sound.here
    c.requires.configured.codes.force.range.data_least c.span_pages-pages.ensures.pages in
    subst (λ (n : ℕ). AreOfLength c.args.far.now.spans n c.args.frames.now) (sym pages)
    c.requires.taken.long

pub store_frames-requires-clause-below : goal.store_frames-requires-clause-below
store_frames-requires-clause-below g c =
    let r = c.requires.ready.2 in
    let sized = g.met.D.Desk.sized _ (played c.requires.ready.0 c.requires.ready.1) r.shown in
    let pages = pages_told c.args.far.now c.args.frames.now c.args.formers.now c.requires.ready.1 0
    c.span_pages-pages.result c.requires.taken c.requires.ready.2.sound.here
    c.requires.configured.codes.force.range.data_least c.span_pages-pages.ensures.pages in
    subst (λ (n : ℕ). All (λ f. f + n ≤ (g.D.Desk.settings c.args.desk.now).frames)
    c.args.frames.now) (sym pages)
    (frames_below c.args.far.now c.args.frames.now c.args.formers.now c.requires.ready.1
    (played c.requires.ready.0 c.requires.ready.1) _ c.requires.taken r.sound.here r.here sized.3)

pub store_frames-requires-clause-rows : goal.store_frames-requires-clause-rows
store_frames-requires-clause-rows g c = c.requires.ready.2.sound.away.sound.rows

pub send-requires-clause-handles : goal.send-requires-clause-handles
send-requires-clause-handles g c =
    let r = c.requires.ready.2 in
    let sized = g.met.D.Desk.sized _ (played c.requires.ready.0 c.requires.ready.1) r.shown in
    let stays = g.met.D.Desk.stays _ _ c.in-Ok.ensures.kept.loads.events c.in-Ok.ensures.kept.loads.ran in
    handles_all c.requires.ready.0 c.requires.ready.1 _ c.args.formers.now _ r.claimed
    (sized.0 ∙ ap (λ (n : Config). n.handles) (sym stays))

pub send-requires-clause-apart : goal.send-requires-clause-apart
send-requires-clause-apart g c = c.requires.taken.each_once

-- what is known after the reads is what was known
pub send-requires-clause-told : goal.send-requires-clause-told
send-requires-clause-told g c =
    let r = c.requires.ready.2 in let t = played c.requires.ready.0 c.requires.ready.1 in
    let x = c.in-Ok.ensures.kept.loads in
    let reads = are_reads (LiesInRuns c.span_pages-pages.result c.args.frames.now) x.events
    x.loads in
    let sized = g.met.D.Desk.sized _ t r.shown in (
      t,
      subst (λ (v : Shown). g.D.Desk.shows c.store_frames.new.desk v) (reads.stays t)
          (g.met.D.Desk.follows _ _ x.events t x.ran r.shown).1,
      told_all c.args.far.now c.requires.ready.0 c.requires.ready.1 t c.args.formers.now r.claimed
          r.here (sized.1 ∙ sym sized.0),
    )

pub give_back-requires-clause-handles : goal.give_back-requires-clause-handles
give_back-requires-clause-handles g c =
    let r = c.requires.ready.2 in
    let sized = g.met.D.Desk.sized _ (played c.requires.ready.0 c.requires.ready.1) r.shown in
    let stays = g.met.D.Desk.stays _ _ c.in-Err.ensures.read.0 c.in-Err.ensures.read.1 in
    handles_all c.requires.ready.0 c.requires.ready.1 _ c.args.formers.now _ r.claimed
    (sized.0 ∙ ap (λ (n : Config). n.handles) (sym stays))

pub give_back-requires-clause-apart : goal.give_back-requires-clause-apart
give_back-requires-clause-apart g c = c.requires.taken.each_once

pub give_back-requires-clause-held : goal.give_back-requires-clause-held
give_back-requires-clause-held g c =
    let r = c.requires.ready.2 in let t = played c.requires.ready.0 c.requires.ready.1 in
    let x = c.in-Err.ensures.read in
    let reads = are_reads (LiesInOne c.args.far.now.spans c.args.frames.now) x.0 x.2 in (
      t,
      subst (λ (v : Shown). g.D.Desk.shows c.store_frames.new.desk v) (reads.stays t)
          (g.met.D.Desk.follows _ _ x.0 t x.1 r.shown).1,
      (c.args.far.now, r.here, λ k d l. (r.claimed.taken k d l).at),
    )

pub close_spans-requires-clause-there : goal.close_spans-requires-clause-there
close_spans-requires-clause-there g c =
    let kept = c.in-Ok.ensures.kept.kept in λ k d l.
    let x = taken_ready c.args.far.now c.args.frames.now c.args.formers.now c.requires.ready.1
    c.requires.taken c.requires.ready.2.sound.here (get_or c.args.frames.now k d)
    (place_in c.args.frames.now k d l) in
    (x.span, ap (λ (f : FarState). span_in f.spans (get_or c.args.frames.now k d)) kept.state ∙ x.there)

pub close_spans-requires-clause-unique : goal.close_spans-requires-clause-unique
close_spans-requires-clause-unique g c =
    let kept = c.in-Ok.ensures.kept.kept in let r = c.requires.ready.2 in
    let t = played c.requires.ready.0 c.requires.ready.1 in
    let sized = g.met.D.Desk.sized _ t r.shown in
    subst (λ (f : FarState). AreUnique f.spans (length f.homes)) (sym kept.state)
    (are_unique c.args.far.now t (length c.args.far.now.homes) r.here
    (sized.0 ∙ sym c.requires.configured.homes))

pub close_spans-requires-clause-apart : goal.close_spans-requires-clause-apart
close_spans-requires-clause-apart g c = c.requires.taken.apart

pub close_spans-requires-clause-owned : goal.close_spans-requires-clause-owned
close_spans-requires-clause-owned g c =
    let kept = c.in-Ok.ensures.kept.kept in
    subst AreFrames (sym kept.state)
    (frames_as c.args.far.now _ refl refl c.requires.ready.2.sound.here.frames)

pub close_spans-requires-clause-few : goal.close_spans-requires-clause-few
close_spans-requires-clause-few g c =
    let range = c.requires.configured.codes.force.range in
    let most = range.data_most in omega (arith, most, c.requires.taken.count)

pub returns-in-Ok-clause-evict : goal.returns-in-Ok-clause-evict
returns-in-Ok-clause-evict g c =
    let far = c.args.far.now in let frames = c.args.frames.now in let formers = c.args.formers.now in
    let taken = c.requires.taken in
    let pages = pages_told c.args.far.now c.args.frames.now c.args.formers.now c.requires.ready.1 0
    c.span_pages-pages.result c.requires.taken c.requires.ready.2.sound.here
    c.requires.configured.codes.force.range.data_least c.span_pages-pages.ensures.pages in
    let stored = subst (λ (n : ℕ). StoresFrames
    (λ es. g.D.Desk.run c.args.desk.now es c.store_frames.new.desk)
    (λ t. g.D.Desk.shows c.args.desk.now t) far c.store_frames.new.far n frames)
    pages c.in-Ok.ensures.kept in
    let x = stored.loads in let y = c.send.ensures in
    let kept = stored.kept in let shards = stored.shards in let only = taken.of.only in
    let loads = reads_spans far.spans taken.pages frames taken.long x.events x.loads in
    let is = state_then far c.store_frames.new.far c.close_spans.new.far taken.pages frames shards _
    kept.state c.close_spans.ensures.state in
    let homed = homes_then far c.store_frames.new.far taken.pages frames shards _ _ _ kept.state
    c.next_number-set.ensures c.close_spans.ensures.homes in
    settled_end {showsB = λ t. g.D.Desk.shows c.store_frames.new.desk t} far c.close_spans.new.far
    frames formers (joins (λ es fs a b. g.met.D.Desk.more _ _ _ _ _ a b)
    (λ es s ran a. (g.met.D.Desk.follows _ _ es s ran a).1)) only (x.events, x.ran, loads) y (λ end before s r shown.
    let sized = g.met.D.Desk.sized _ (played before s) r.shown in
    let told = told_all far before s (played before s) formers r.claimed r.here
    (sized.1 ∙ sym sized.0) in
    let z = y.done.1 (played before s) shown told in
    let read = are_read far frames formers stored.rows kept.parities
    (λ t. g.D.Desk.shows c.args.desk.now t) before s
    c.requires.configured.codes.force.range r taken
    (kept_parities shards frames _ stored.rows stored.chosen.count kept) stored.count x.made in
    let all = ended far c.close_spans.new.far frames formers shards
    stored.rows kept.parities c.close_spans.new.far.homes (LiesInOne far.spans frames) _ _ before
    x.events y.events s
    (record { read = read.0; sent = z.sent; chosen = stored.chosen; homed = homed }) read.1
    end is r.steady
    (spans_touched far frames before (x.events ++ y.events) taken.among r.touches
    (end_in far frames formers x.events y.events only end)) z.nothing in record {
      allowed = end_allowed (LiesInOne far.spans frames) formers before x.events y.events s end z.allowed;
      rule = all.evicted;
      sound = all.sound;
      effect = all.effect;
    })

pub returns-in-Err-clause-error : goal.returns-in-Err-clause-error
returns-in-Err-clause-error g c = gives_back_ends c.args.far.now c.args.frames.now c.args.formers.now (joins (λ es fs a b. g.met.D.Desk.more _ _ _ _ _ a b)
    (λ es s ran a. (g.met.D.Desk.follows _ _ es s ran a).1)) c.requires.taken.among c.requires.taken.of.only c.in-Err.ensures.read c.give_back.ensures
