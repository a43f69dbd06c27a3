use Rattle.std.proofs.Common.{◌*◌, ◌<◌, ◌≤◌, ◌++◌, length, get_or, ◌∙◌, subst, arith, rules}
use Rattle.std.proofs.lemmas.Option.{slice_get_within}
use Rattle.cb_gf256.proofs.PublicLaws.{written_count, written_lengths}
use Rattle.cb_world.specs.declared.shown.Shown.{Shown}
use Rattle.cb_world.specs.FrameWords.{LiesInRun}
use Rattle.cb_evict.specs.Loading.{LiesInRuns}
use Rattle.cb_evict.proofs.Events.{are_reads, loads_append, loads_more}
use Rattle.cb_evict.proofs.Loads.{frame_among, span_read}
use Rattle.cb_evict.proofs.loading.load_spans.Goals as goal

pub loop-p-preserved : goal.loop-p-preserved
loop-p-preserved g c =
    let inv = c.loop-p.invariant in let x = c.load_span.ensures.loads in
    let frames = c.args.frames.now in let p = c.loop-p.p in let rows = c.loop-p.rows in
    let f = get_or frames p 0 in
    let bytes = c.load_span.new.into in
    let within : p < length rows = omega (arith, c.loop-p-test.true, inv.3, c.requires.count) in
    let pages = c.args.pages in
    let reads = are_reads (LiesInRuns pages frames) inv.0 inv.2 in (
      inv.0 ++ x.events,
      g.met.D.Desk.more _ _ _ _ _ inv.1 x.ran,
      loads_append (LiesInRuns pages frames) inv.0 x.events inv.2
          (loads_more (LiesInRun f pages) (LiesInRuns pages frames) x.events
          (λ i lies. (f, frame_among frames p c.loop-p-test.true, lies)) x.loads),
      written_count rows p bytes ∙ inv.3,
      written_lengths (4096 * pages) rows p bytes inv.4 c.load_span.ensures.sized within,
      span_read _ _ pages frames p rows bytes inv.5 x.made
          (λ s a. subst (λ (t : Shown). g.D.Desk.shows c.loop-p.desk t) (reads.stays s)
          (g.met.D.Desk.follows _ _ inv.0 s inv.1 a).1)
          inv.4 c.load_span.ensures.sized within,
    )

pub returns-clause-loads : goal.returns-clause-loads
returns-clause-loads g c =
    let inv = c.loop-p.invariant in record {
      events = inv.0;
      ran = inv.1;
      loads = inv.2;
      made = λ q f at. inv.5 q f (let w = slice_get_within c.args.frames.now q f at in
          let past : length c.args.frames.now ≤ c.loop-p.p = search rules in omega (arith, w, past)) at;
    }
