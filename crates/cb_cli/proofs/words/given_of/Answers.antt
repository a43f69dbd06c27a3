use Rattle.std.proofs.Common.{sym, ◌∙◌}
use Rattle.cb_cli.proofs.AskedWords.{dashes_name_none, given_asks, none_given}
use Rattle.cb_cli.proofs.words.given_of.Goals as goal

pub returns-then-has_two_dashes : goal.returns-then-has_two_dashes
returns-then-has_two_dashes c =
    dashes_name_none c.args.words.now (sym c.has_two_dashes.ensures ∙ c.if-has_two_dashes.true)

pub returns-in-Ok : goal.returns-in-Ok
returns-in-Ok c =
    given_asks c.in_ok-reader.reader c.args.words.now c.in-Ok.matches c.given_in.result
    c.in_ok-reader.ensures c.given_in.ensures
    (sym c.has_two_dashes.ensures ∙ c.if-has_two_dashes.false) c.in-Ok.ensures.kinds
    c.in-Ok.ensures.matches

pub returns-in-Err : goal.returns-in-Err
returns-in-Err c =
    none_given c.in_ok-reader.reader c.args.words.now c.in-Err.error c.kind.result
    c.nothing_given.result _ c.in_ok-reader.ensures c.in-Err.ensures.kinds c.kind.ensures c.nothing_given.ensures
