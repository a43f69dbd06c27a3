use Rattle.std.proofs.Common.{length, Some, None, sym, ap, ◌∙◌}
use Rattle.cb_ptr.specs.declared.word.PtrWord.{PtrWord}
use Rattle.cb_types.specs.declared.reply.Reply.TheVariants as answer
use Rattle.cb_core.proofs.DeclinedLooks.{declines_by, declines_gone, far_word, may_go_on, no_next, past_end}
use Rattle.cb_core.proofs.declining.decline.Goals as goal

pub returns-then-is_gone : goal.returns-then-is_gone
returns-then-is_gone g c = record {
  declines = declines_gone g.D.Desk.run g.D.Desk.shows c.args.h.n
      c.args.desk.now c.args.desk.now c.args.far.now c.args.at (length c.args.bytes.now)
      (g.met.D.Desk.none _) (sym c.is_gone.ensures ∙ c.if-is_gone.true);
}

pub returns-then-at-bytes : goal.returns-then-at-bytes
returns-then-at-bytes g c =
    let len = ap (λ (p : PtrWord). p.len) c.unpack-len.ensures.fields in record {
      declines = declines_by g.D.Desk.run g.D.Desk.shows c.args.h.n
          c.args.desk.now c.version-version.new.self c.args.far.now c.args.at
          (length c.args.bytes.now) c.word.result c.version-version.result (Some (answer.Range c.unpack-len.result.len))
          (g.met.D.Desk.more _ _ _ _ _ c.word.ensures c.version-version.ensures)
          (sym c.is_gone.ensures ∙ c.if-is_gone.false)
          (far_word (λ s. g.D.Desk.shows c.args.desk.now s) c.args.h.n c.word.result c.requires.away
          (λ s shown. (g.met.D.Desk.follows _ _ _ s c.word.ensures shown).0))
          (past_end c.word.result c.version-version.result c.args.at (length c.args.bytes.now)
          c.unpack-len.result.len len c.if-at-bytes.true);
    }

pub returns-then-version : goal.returns-then-version
returns-then-version g c =
    let len = ap (λ (p : PtrWord). p.len) c.unpack-len.ensures.fields in record {
      declines = declines_by g.D.Desk.run g.D.Desk.shows c.args.h.n
          c.args.desk.now c.version-version.new.self c.args.far.now c.args.at
          (length c.args.bytes.now) c.word.result c.version-version.result (Some answer.Worn)
          (g.met.D.Desk.more _ _ _ _ _ c.word.ensures c.version-version.ensures)
          (sym c.is_gone.ensures ∙ c.if-is_gone.false)
          (far_word (λ s. g.D.Desk.shows c.args.desk.now s) c.args.h.n c.word.result c.requires.away
          (λ s shown. (g.met.D.Desk.follows _ _ _ s c.word.ensures shown).0))
          (no_next c.word.result c.version-version.result c.args.at (length c.args.bytes.now)
          c.unpack-len.result.len len c.if-at-bytes.false c.if-version.true);
    }

pub returns : goal.returns
returns g c =
    let len = ap (λ (p : PtrWord). p.len) c.unpack-len.ensures.fields in record {
      declines = declines_by g.D.Desk.run g.D.Desk.shows c.args.h.n
          c.args.desk.now c.version-version.new.self c.args.far.now c.args.at
          (length c.args.bytes.now) c.word.result c.version-version.result None
          (g.met.D.Desk.more _ _ _ _ _ c.word.ensures c.version-version.ensures)
          (sym c.is_gone.ensures ∙ c.if-is_gone.false)
          (far_word (λ s. g.D.Desk.shows c.args.desk.now s) c.args.h.n c.word.result c.requires.away
          (λ s shown. (g.met.D.Desk.follows _ _ _ s c.word.ensures shown).0))
          (may_go_on c.word.result c.version-version.result c.args.at (length c.args.bytes.now)
          c.unpack-len.result.len len c.if-at-bytes.false c.if-version.false);
    }
