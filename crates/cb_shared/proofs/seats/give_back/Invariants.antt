use Rattle.std.proofs.Common.{length}
use Rattle.crossbeam_utils.specs.Padded.{padded_value}
use Rattle.cb_rule.specs.Lists.{Each}
use Rattle.cb_shared.specs.Passes.{PinFits, record_of}
use Rattle.cb_shared.specs.Seats.{IsOf, Moves}
use Rattle.cb_shared.proofs.seats.give_back.Given as goal

abbrev pub decreases-loop-h : goal.decreases-loop-h
decreases-loop-h l = length (padded_value l.pass.pins).items

abbrev pub invariant-loop-h : goal.invariant-loop-h
invariant-loop-h l = IsOf l.top.table_id l.top.key l.config l.pass.seat
    × Each (PinFits l.config) (record_of l.pass).pins
    × Moves l.fn.pass.seat l.pass.seat
    (record (record_of l.fn.pass) { pins = (record_of l.pass).pins })
