use Rattle.std.proofs.Common.{List, ℕ, ◌++◌, ap, ◌∙◌, rules}
use Rattle.cb_text.specs.Line.{answer_line}
use Rattle.cb_cli.proofs.AnswerTexts.{each_at, text_more}
use Rattle.cb_cli.proofs.texts.lines_text.Goals as goal

pub push_line-requires : goal.push_line-requires
push_line-requires c =
    each_at c.args.answers.now c.loop-answer.answer-index c.answer-item.result c.answer-item.result c.requires (search rules) c.answer-item.is

pub loop-answer-preserved : goal.loop-answer-preserved
loop-answer-preserved c =
    let a = c.answer-item.result in
    let more = text_more c.args.answers.now c.loop-answer.answer-index a a (search rules) c.answer-item.is in
    c.in_ok-push_line.ensures.text ∙ ap (λ (l : List ℕ). l ++ answer_line a.lane a.request a.reply) c.loop-answer.invariant ∙ more
