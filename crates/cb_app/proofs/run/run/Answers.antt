use Rattle.std.proofs.Common.{Ok, rules}
use Rattle.std.proofs.lemmas.Result.{err_from_is_err_and}
use Rattle.cb_cli.specs.declared.outcome.Due.TheVariants.{WordsRefused}
use Rattle.cb_cli.specs.declared.words.Asked.TheVariants.{Draw}
use Rattle.cb_cli.specs.Words.{AskFor, Name, NameNone}
use Rattle.cb_cli.proofs.Laws.{no_command_draws}
use Rattle.cb_app.proofs.Runs.{drawn_decided, found_decided, none_decided, words_cut}
use Rattle.cb_app.proofs.run.run.Goals as goal

pub returns-in-Some-Run-clause-decided : goal.returns-in-Some-Run-clause-decided
returns-in-Some-Run-clause-decided g c =
    let named : Name c.args.words.now c.in-Some-Run.command = search rules in
    found_decided c.args.words.now (g.S.Source.left c.args.source.now) c.run_command.result c.in-Some-Run.command named c.run_command.ensures.decided

pub returns-in-Some-Run-clause-draws : goal.returns-in-Some-Run-clause-draws
returns-in-Some-Run-clause-draws g c = λ plan asks.
    let named : Name c.args.words.now c.in-Some-Run.command = search rules in
    absurd (no_command_draws c.args.words.now plan c.in-Some-Run.command asks named)

pub returns-in-Some-Draw-clause-ends : goal.returns-in-Some-Draw-clause-ends
returns-in-Some-Draw-clause-ends g c =
    let asks : AskFor c.args.words.now c.in-Some-Draw.plan = search rules in
    c.run_drawn.ensures.ends c.args.words.now asks (g.S.Source.left c.args.source.now)

pub returns-in-Some-Draw-clause-decided : goal.returns-in-Some-Draw-clause-decided
returns-in-Some-Draw-clause-decided g c =
    let asks : AskFor c.args.words.now c.in-Some-Draw.plan = search rules in
    drawn_decided c.args.words.now c.in-Some-Draw.plan (g.S.Source.left c.args.source.now) c.run_drawn.result asks

pub returns-in_ok-put_all-in-None-clause-decided : goal.returns-in_ok-put_all-in-None-clause-decided
returns-in_ok-put_all-in-None-clause-decided g c =
    let none : NameNone c.args.words.now = search rules in
    none_decided c.args.words.now (g.S.Source.left c.args.source.now) (Ok WordsRefused) none

pub returns-in_ok-put_all-in-None-clause-draws : goal.returns-in_ok-put_all-in-None-clause-draws
returns-in_ok-put_all-in-None-clause-draws g c = λ plan asks.
    let none : NameNone c.args.words.now = search rules in
    absurd (none (Draw plan) asks)

pub returns-in_err-put_all-in-None-clause-ends : goal.returns-in_err-put_all-in-None-clause-ends
returns-in_err-put_all-in-None-clause-ends g c =
    let held = g.K.Sink.held in
    let failed = c.from_residual-in_err-put_all-in-None in
    let p = err_from_is_err_and failed.result failed.ensures.1 in
    let none : NameNone c.args.words.now = search rules in
    rw (p.1, p.2) (words_cut c.args.words.now (g.S.Source.left c.args.source.now) (held c.args.sink.now) (held c.put_all.new.sink) c.args.end.now none c.in_err-put_all-in-None.ensures.front)
