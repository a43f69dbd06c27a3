use Rattle.std.proofs.Common.{◌≡◌, ℕ, ◌+◌, ◌<◌, ◌≤◌, ◌^◌, Bool, List, length, get_or, All, Some, sym, ap, ◌∙◌, subst, arith}
use Rattle.cb_span.specs.Contents.{Contents}
use Rattle.cb_types.specs.declared.config.Config.{Config}
use Rattle.cb_world.specs.declared.access.Access.{Access}
use Rattle.cb_world.specs.declared.leaving.Former.{Former}
use Rattle.cb_world.specs.declared.shown.Shown.{Shown}
use Rattle.cb_world.specs.Leaving.{AreRoomy, shown_rows}
use Rattle.cb_world.specs.Played.{played}
use Rattle.cb_world.specs.FarState.{FarState, pages_at, span_in}
use Rattle.cb_evict.specs.Claiming.{GivesBack}
use Rattle.cb_evict.specs.Claims.{AreApart, IsHeldAt}
use Rattle.cb_evict.specs.Beginning.{AreParities, ReservesFrames}
use Rattle.cb_evict.specs.Gathering.{order_for}
use Rattle.cb_evict.specs.Loading.{AreOfLength, LiesInOne}
use Rattle.cb_evict.proofs.BeginEnd.{are_seen, noted_far, order_is, starts, reads_as, reads_in, batch_then, reserves_as}
use Rattle.cb_evict.proofs.Events.{are_reads}
use Rattle.cb_evict.proofs.Ending.{are_read_by, taken_ready, place_in, handles_all, frames_below, pages_told}
use Rattle.cb_evict.proofs.Loads.{reads_spans}
use Rattle.cb_evict.proofs.Restored.{gives_back_ends}
use Rattle.cb_evict.proofs.CallParts.{joins}
use Rattle.cb_evict.proofs.beginning.begin_claimed.Goals as goal

pub reserve_frames-requires-clause-config : goal.reserve_frames-requires-clause-config
reserve_frames-requires-clause-config g c = c.requires.config

pub reserve_frames-requires-clause-range : goal.reserve_frames-requires-clause-range
reserve_frames-requires-clause-range g c =
    c.requires.configured.codes.force.range

pub reserve_frames-requires-clause-count : goal.reserve_frames-requires-clause-count
reserve_frames-requires-clause-count g c =
    ap (λ (l : List ℕ). length l) c.deref.ensures.value ∙ c.requires.taken.count

pub reserve_frames-requires-clause-there : goal.reserve_frames-requires-clause-there
reserve_frames-requires-clause-there g c =
    subst (λ (l : List ℕ). All (λ f. (span : Contents) × (span_in c.args.far.now.spans f ≡ Some span)) l)
    (sym c.deref.ensures.value) (λ k d l.
    let x = taken_ready c.args.far.now c.args.frames.items c.args.formers.items c.requires.ready.1
    c.requires.taken c.requires.ready.2.sound.here (get_or c.args.frames.items k d)
    (place_in c.args.frames.items k d l) in (x.span, x.there))

pub span_pages-pages-requires : goal.span_pages-pages-requires
span_pages-pages-requires g c =
    let some = c.requires.configured.codes.force.range.data_least in
    let d = c.index.result.now in
    let x = taken_ready c.args.far.now c.args.frames.items c.args.formers.items c.requires.ready.1
    c.requires.taken c.requires.ready.2.sound.here (get_or c.args.frames.items 0 d)
    (place_in c.args.frames.items 0 d (omega (arith, some, c.requires.taken.count))) in
    record { there = (x.span, ap (span_in c.args.far.now.spans) c.index.ensures ∙ x.there) }

pub reserve_frames-requires-clause-pages : goal.reserve_frames-requires-clause-pages
reserve_frames-requires-clause-pages g c = c.span_pages-pages.ensures.few

pub reserve_frames-requires-clause-long : goal.reserve_frames-requires-clause-long
reserve_frames-requires-clause-long g c =
    let pages = pages_told c.args.far.now c.args.frames.items c.args.formers.items
    c.requires.ready.1 c.index.result.now c.span_pages-pages.result c.requires.taken
    c.requires.ready.2.sound.here c.requires.configured.codes.force.range.data_least
    (c.span_pages-pages.ensures.pages ∙ ap (pages_at c.args.far.now.spans) c.index.ensures) in
    subst (λ (l : List ℕ). AreOfLength c.args.far.now.spans c.span_pages-pages.result l)
    (sym c.deref.ensures.value)
    (subst (λ (n : ℕ). AreOfLength c.args.far.now.spans n c.args.frames.items)
    (sym pages) c.requires.taken.long)

pub reserve_frames-requires-clause-below : goal.reserve_frames-requires-clause-below
reserve_frames-requires-clause-below g c =
    let r = c.requires.ready.2 in
    let sized = g.met.D.Desk.sized _ (played c.requires.ready.0 c.requires.ready.1) r.shown in
    let pages = pages_told c.args.far.now c.args.frames.items c.args.formers.items
    c.requires.ready.1 c.index.result.now c.span_pages-pages.result c.requires.taken
    c.requires.ready.2.sound.here c.requires.configured.codes.force.range.data_least
    (c.span_pages-pages.ensures.pages ∙ ap (pages_at c.args.far.now.spans) c.index.ensures) in
    subst (λ (l : List ℕ). All (λ f. f + c.span_pages-pages.result
    ≤ (g.D.Desk.settings c.args.desk.now).frames) l) (sym c.deref.ensures.value)
    (subst (λ (n : ℕ). All (λ f. f + n ≤ (g.D.Desk.settings c.args.desk.now).frames)
    c.args.frames.items) (sym pages)
    (frames_below c.args.far.now c.args.frames.items c.args.formers.items c.requires.ready.1
    (played c.requires.ready.0 c.requires.ready.1) _ c.requires.taken r.sound.here r.here sized.3))

pub note_batch-set-requires : goal.note_batch-set-requires
note_batch-set-requires g c = record {
  counts = subst (λ (far : FarState). far.counts.sets < 2 ^ 62) (sym c.in-Ok.ensures.reserved.state)
      c.requires.counts;
  roomy = subst (λ (l : List ℕ). AreRoomy c.span_pages-pages.result (length l) c.in-Ok.reserved.parities)
      c.deref.ensures.value c.in-Ok.ensures.reserved.roomy;
}

pub give_back-requires-clause-handles : goal.give_back-requires-clause-handles
give_back-requires-clause-handles g c =
    let r = c.requires.ready.2 in
    let sized = g.met.D.Desk.sized _ (played c.requires.ready.0 c.requires.ready.1) r.shown in
    let stays = g.met.D.Desk.stays _ _ c.in-Err.ensures.read.0 c.in-Err.ensures.read.1 in
    subst (λ (l : List Former). All (λ f. f.handle < (g.D.Desk.settings c.reserve_frames.new.desk).handles) l)
    (sym c.deref-in-Err.ensures.value)
    (handles_all c.requires.ready.0 c.requires.ready.1 _ c.args.formers.items _ r.claimed
    (sized.0 ∙ ap (λ (n : Config). n.handles) (sym stays)))

pub give_back-requires-clause-apart : goal.give_back-requires-clause-apart
give_back-requires-clause-apart g c =
    subst (λ (l : List Former). AreApart l) (sym c.deref-in-Err.ensures.value) c.requires.taken.each_once

pub give_back-requires-clause-held : goal.give_back-requires-clause-held
give_back-requires-clause-held g c =
    let r = c.requires.ready.2 in let t = played c.requires.ready.0 c.requires.ready.1 in
    let x = reads_as _ _ _ c.args.frames.items c.deref.ensures.value c.in-Err.ensures.read in
    let reads = are_reads (LiesInOne c.args.far.now.spans c.args.frames.items) x.0 x.2 in (
      t,
      subst (λ (v : Shown). g.D.Desk.shows c.reserve_frames.new.desk v) (reads.stays t)
          (g.met.D.Desk.follows _ _ x.0 t x.1 r.shown).1,
      (
        c.args.far.now,
        r.here,
        subst (λ (l : List Former). All (IsHeldAt t) l) (sym c.deref-in-Err.ensures.value)
            (λ k d l. (r.claimed.taken k d l).at),
      ),
    )

pub returns-in-Ok-clause-begun : goal.returns-in-Ok-clause-begun
returns-in-Ok-clause-begun g c =
    let far = c.args.far.now in let frames = c.args.frames.items in let formers = c.args.formers.items in
    let made = c.args.made in let p = c.in-Ok.reserved.parities in let rows = c.in-Ok.reserved.rows in
    let shows = λ (t : Shown). g.D.Desk.shows c.args.desk.now t in
    let taken = c.requires.taken in
    let pages = pages_told c.args.far.now c.args.frames.items c.args.formers.items
    c.requires.ready.1 c.index.result.now c.span_pages-pages.result c.requires.taken
    c.requires.ready.2.sound.here c.requires.configured.codes.force.range.data_least
    (c.span_pages-pages.ensures.pages ∙ ap (pages_at c.args.far.now.spans) c.index.ensures) in
    let runs = λ (es : List Access). g.D.Desk.run c.args.desk.now es c.reserve_frames.new.desk in
    let y = subst (λ (n : ℕ). ReservesFrames runs shows far c.reserve_frames.new.far n frames
    made rows p) pages
    (reserves_as runs shows far c.reserve_frames.new.far _ _ frames made rows p
    c.deref.ensures.value c.in-Ok.ensures.reserved) in
    let x = y.loads in
    let reads = are_reads (LiesInOne far.spans frames) x.events
    (reads_spans far.spans taken.pages frames taken.long x.events x.loads) in
    let seen = are_seen far made rows p (y.count ∙ taken.count) y.ready in
    let parities = shown_rows p.made p.rows in
    let is = batch_then far c.reserve_frames.new.far c.note_batch-set.new.far taken.pages frames
    formers made parities c.in-Ok.reserved.shards.items y.state
    (subst (λ (b : Bool). c.note_batch-set.new.far ≡ noted_far c.reserve_frames.new.far taken.pages
    frames formers b parities c.in-Ok.reserved.shards.items) y.ready.mark
    (subst (λ (n : ℕ). c.note_batch-set.new.far ≡ noted_far c.reserve_frames.new.far n frames
    formers p.made parities c.in-Ok.reserved.shards.items) pages
    c.note_batch-set.ensures.state)) c.in-Ok.ensures.shards in
    let ordered = order_is far c.reserve_frames.new.far taken.pages frames c.note_batch-set.result
    c.in_force-code.result rows c.note_batch-set.ensures.set y.state c.in_force-code.ensures in
    record {
      events = x.events;
      ran = x.ran;
      touches = reads_in far frames x.events reads;
      first = reads.first;
      done = (
        reads.quiet,
        λ before s r.
            let t = are_read_by far frames formers made rows parities shows before s
            c.requires.configured.codes.force.range r c.requires.taken seen.few
            (λ yes. subst (λ (k : ℕ). AreParities k (far.code.k + far.code.r) rows parities)
            (sym taken.count) (seen.coded yes)) y.count x.made in
            let all = starts far c.note_batch-set.new.far _ frames formers made
            parities before x.events s t.0 seen.bare
            (ordered ∙ ap (order_for far) t.1)
            c.requires.none reads is r.steady r.touches in record {
              allowed = (reads.steady (played before s)).allowed;
              rule = all.begun;
              sound = all.sound;
              effect = all.effect;
            },
      );
    }

pub returns-in-Err-clause-error : goal.returns-in-Err-clause-error
returns-in-Err-clause-error g c = gives_back_ends c.args.far.now c.args.frames.items c.args.formers.items (joins (λ es fs a b. g.met.D.Desk.more _ _ _ _ _ a b)
    (λ es s ran a. (g.met.D.Desk.follows _ _ es s ran a).1)) c.requires.taken.among c.requires.taken.of.only
    (reads_as _ _ _ c.args.frames.items c.deref.ensures.value c.in-Err.ensures.read)
    (subst (λ (l : List Former). GivesBack
    (λ es. g.D.Desk.run c.reserve_frames.new.desk es c.give_back.new.desk)
    (λ s. g.D.Desk.shows c.reserve_frames.new.desk s) l) c.deref-in-Err.ensures.value c.give_back.ensures)
