use Rattle.std.proofs.Common.{◌≡◌, ap, sym, subst, ◌∙◌, rules}
use Rattle.cb_script.specs.Form.{IsScript}
use Rattle.cb_script.specs.Roomy.{IsAtEase}
use Rattle.cb_gen.specs.Drawn.{DrawnLines, drawn_config, drawn_lines, made_script}
use Rattle.cb_gen.proofs.AtEase.{made_at_ease}
use Rattle.cb_gen.proofs.Grammar.{made_is_script}
use Rattle.cb_gen.proofs.OneLine.{count_more, lines_more}
use Rattle.cb_gen.proofs.make.make_script.Goals as goal

pub loop-line-preserved : goal.loop-line-preserved
loop-line-preserved c =
    let added = c.in_ok-add_line.ensures.line in
    record {
      lines = lines_more c.args.seed c.args.lanes c.loop-line._line c.loop-line.draws.state
          c.add_line.new.draws.state c.loop-line.drawn c.add_line.new.lines
          c.loop-line.invariant.lines added;
      count = count_more c.args.lanes c.loop-line.draws.state c.add_line.new.draws.state
          c.loop-line._line c.loop-line.drawn c.add_line.new.lines added
          c.loop-line.invariant.count;
      noted = c.in_ok-add_line.ensures.noted;
    }

pub returns-clause-form : goal.returns-clause-form
returns-clause-form c =
    let all : c.loop-line._line ≡ c.args.lines = search rules in
    let is : record { config = drawn_config; lines = c.loop-line.drawn }
    ≡ made_script c.args.seed c.args.lines c.args.lanes =
    ap (λ (d : DrawnLines). record { config = drawn_config; lines = d.lines })
    (c.loop-line.invariant.lines ∙ ap (drawn_lines c.args.seed c.args.lanes) all) in
    subst IsScript (sym is)
    (made_is_script c.args.seed c.args.lines c.args.lanes
    c.requires.lines c.requires.lanes.0 c.requires.lanes.1)

pub returns-clause-ease : goal.returns-clause-ease
returns-clause-ease c =
    let all : c.loop-line._line ≡ c.args.lines = search rules in
    let is : record { config = drawn_config; lines = c.loop-line.drawn }
    ≡ made_script c.args.seed c.args.lines c.args.lanes =
    ap (λ (d : DrawnLines). record { config = drawn_config; lines = d.lines })
    (c.loop-line.invariant.lines ∙ ap (drawn_lines c.args.seed c.args.lanes) all) in
    subst IsAtEase (sym is)
    (made_at_ease c.args.seed c.args.lines c.args.lanes
    c.requires.lines c.requires.lanes.0 c.requires.lanes.1)
