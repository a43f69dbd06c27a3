use Rattle.std.proofs.Common.{subst}
use Rattle.std.proofs.lemmas.Result.{on_err_weaker}
use Rattle.cb_cli.specs.Fronts.{GetsFront}
use Rattle.cb_cli.specs.Pieces.{joined_pieces}
use Rattle.cb_cli.proofs.PieceFronts.{front_behind}
use Rattle.cb_cli.proofs.output.put_pieces.Goals as goal

pub returns-clause-front : goal.returns-clause-front
returns-clause-front g c =
    let held = g.K.Sink.held in
    let old = held c.args.sink.now in
    let new = held c.put_each.new.sink in
    let first = c.parts.result.0.now in
    let rest = joined_pieces c.parts.result.1.now in
    on_err_weaker c.put_each.result (λ front. subst (GetsFront old new) c.parts.ensures.text
    (front_behind old (held c.put_all.new.sink) new first rest c.in_ok-put_all.ensures.ok front)) c.put_each.ensures.front
