use Rattle.std.proofs.Common.{ap, ◌∙◌}
use Rattle.cb_evict.specs.Candidates.{candidates}
use Rattle.cb_evict.proofs.Framing.{gathered}
use Rattle.cb_evict.proofs.candidates.candidates.Goals as goal

pub returns : goal.returns
returns c = record {
  frames = gathered c.far.inside.spans _ _ c.count.result c.in_ok-leaving.leaving.items _ _ _ _ _
      c.count.ensures c.leaving_frames.ensures c.in_ok-leaving.ensures.flags c.deref.ensures.value
      c.deref-2.ensures.value c.new-frames.ensures.items c.in_ok-push_frames.ensures.ok
      c.in_ok-push_frames-2.ensures.ok
      ∙ ap candidates c.far.view_is;
}
