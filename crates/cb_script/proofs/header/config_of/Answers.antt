use Rattle.std.proofs.Common.{rules, arith}
use Rattle.cb_types.specs.declared.config.Config.{Config}
use Rattle.cb_script.proofs.HeaderWords.{ReadsHeader, code_lacks, held_lacks, header_read}
use Rattle.cb_script.proofs.header.config_of.Goals as goal

pub returns-in_err-code : goal.returns-in_err-code
returns-in_err-code c =
    rw c.from_residual.ensures (code_lacks c.args.words.now (omega arith) (rw c.in_err-code.was at c.code_sizes.ensures))

pub returns-in_err-held : goal.returns-in_err-held
returns-in_err-held c =
    rw c.from_residual-in_err-held.ensures (held_lacks c.args.words.now (omega arith) (rw c.in_err-held.was at c.held_sizes.ensures))

pub returns : goal.returns
returns c =
    let code = rw c.in_ok-code.was at c.code_sizes.ensures in
    let held = rw c.in_ok-held.was at c.held_sizes.ensures in
    let s = c.in_ok-code.code in
    let h = c.in_ok-held.held in
    let config : Config = record { k = s.k; r = s.r; nodes = s.nodes; frames = h.frames; room = h.room; handles = h.handles; turns = h.turns } in
    let read : ReadsHeader c.args.words.now config = record {
      nine = omega arith;
      carbink = search rules;
      version = search rules;
      k = code.0.1;
      r = code.1.1;
      nodes = code.2.1;
      frames = held.0.1;
      room = held.1.1;
      handles = held.2.1;
      turns = held.3.1;
    } in
    (record { k = code.0.0; r = code.1.0; nodes = code.2.0; frames = held.0.0; room = held.1.0; handles = held.2.0; turns = held.3.0 }, header_read c.args.words.now config read)
