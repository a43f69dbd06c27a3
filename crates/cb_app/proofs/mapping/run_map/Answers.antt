use Rattle.std.proofs.Common.{sym, subst}
use Rattle.cb_types.specs.declared.config.Config.{Config}
use Rattle.cb_shared.specs.Passes.{IsRuntimeBegun}
use Rattle.cb_app.proofs.Mapped.{if_answered}
use Rattle.cb_app.proofs.mapping.run_map.Goals as goal

pub run_commands-requires-clause-begun : goal.run_commands-requires-clause-begun
run_commands-requires-clause-begun g c =
    let begun = c.in_ok-shared.ensures.begun in
    subst (λ (d : Config). IsRuntimeBegun 1 d c.in_ok-shared.shared c.in_ok-shared.pass)
    (sym begun.config) begun

pub returns : goal.returns
returns g c = record {
  answered = if_answered c.args.config c.requires.accepted c.args.asks.now c.requires.few
      c.in_ok-shared.shared c.in_ok-shared.pass c.run_commands.new.pass c.in_ok-shared.ensures.begun
      c.in_ok-saids.saids c.in_ok-saids.ensures.go c.in_ok-saids.ensures.loose c.close_map.result
      c.close_map.ensures.saids c.close_map.ensures.closed;
}
