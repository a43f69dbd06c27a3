use Rattle.cb_shared.specs.Passes.{IsPassOf, record_of}
use Rattle.cb_farmap.proofs.Running.{Run}
use Rattle.cb_farmap.proofs.commands.run_commands.Given as goal

-- the array and the map stand behind the commands so far, which all went as they should
abbrev pub invariant-loop-ask : goal.invariant-loop-ask
invariant-loop-ask g l = record {
  of : IsPassOf l.fn.shared l.pass;
  run : Run l.fn.shared.config l.fn.asks (record_of l.fn.pass) l.ask-index l.saids (record_of l.pass)
      l.far.array l.far.map;
}
