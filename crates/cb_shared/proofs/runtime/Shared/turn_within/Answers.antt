use Rattle.std.proofs.Common.{◌∙◌, ℕ, sym, ap, subst}
use Rattle.std.specs.Prelude.{Option}
use Rattle.crossbeam_utils.specs.Padded.{padded_value}
use Rattle.cb_rule.specs.Slot.{Sat}
use Rattle.cb_rule.specs.declared.view.View.{View}
use Rattle.cb_shared.specs.Handles.{handles_of}
use Rattle.cb_shared.specs.Passes.{record_of}
use Rattle.cb_shared.specs.Seats.{record_at}
use Rattle.cb_shared.specs.Turning.{KnowsIt}
use Rattle.cb_shared.specs.UnderLock.{FreedMoves, IsBelow}
use Rattle.cb_shared.proofs.AfterTurn.{of_moved}
use Rattle.cb_shared.proofs.TurnEnds.{few_pins, freed_below, freed_knows, pins_turned, rest_turned}
use Rattle.cb_shared.proofs.TurnEnds.{share_turned, tries_turned, turn_by}
use Rattle.cb_shared.proofs.runtime.Shared.turn_within.Goals as goal

pub locked_turn-reply-requires-clause-few : goal.locked_turn-reply-requires-clause-few
locked_turn-reply-requires-clause-few g c = few_pins (padded_value c.args.pass.now.pins).items
    (record_of c.args.pass.now).pins c.args.pass.now.pinned c.count_pins.ensures.few

pub find_freed-requires-clause-of : goal.find_freed-requires-clause-of
find_freed-requires-clause-of g c = let s = c.args.self.now in let of = c.requires.of in
    let t = c.locked_turn-reply.ensures.turn in
    of_moved s.board.shared.table_id s.board.shared.key s.config c.args.pass.now.seat
    c.locked_turn-reply.new.seat (record {
      table = of.table;
      words = s.counts;
      key = s.key;
      config = of.rest.config;
      live = of.rest.live;
    }) c.locked_turn-reply.ensures.same.0 (ap (λ (v : View). v.config) t.left)
    (ap (λ (v : View). v.share) t.left)

pub find_freed-requires-clause-handle : goal.find_freed-requires-clause-handle
find_freed-requires-clause-handle g c = subst (IsBelow c.args.self.now.config)
    (sym c.freed_of.ensures) (freed_below c.args.self.now.config c.args.job.now
    c.locked_turn-reply.result.0 (record_of c.args.pass.now) c.requires.of.rest c.requires.knows)

pub find_freed-requires-clause-knows : goal.find_freed-requires-clause-knows
find_freed-requires-clause-knows g c =
    subst (λ (o : Option ℕ). KnowsIt o (record_at c.locked_turn-reply.new.seat))
    (sym c.freed_of.ensures)
    (freed_knows c.args.self.now.config c.args.job.now c.locked_turn-reply.result.0 _
    (record_of c.args.pass.now) (record_at c.locked_turn-reply.new.seat) c.requires.of.rest
    c.locked_turn-reply.ensures.turn c.requires.knows)

pub returns-clause-of : goal.returns-clause-of
returns-clause-of g c = let f = subst (λ (o : Option ℕ). FreedMoves c.args.self.now.config o
    c.locked_turn-reply.new.seat c.find_freed.new.seat) c.freed_of.ensures c.find_freed.ensures in record {
      accepted = c.requires.of.accepted;
      table = c.find_freed.ensures.1.0 ∙ c.locked_turn-reply.ensures.same.0 ∙ c.requires.of.table;
      rest = rest_turned c.args.self.now.config c.args.job.now c.locked_turn-reply.result.0 _
          c.args.pass.now.seat c.locked_turn-reply.new.seat c.find_freed.new.seat c.requires.of.rest
          c.locked_turn-reply.ensures.turn f;
    }

pub returns-clause-turn : goal.returns-clause-turn
returns-clause-turn g c = let f = subst (λ (o : Option ℕ). FreedMoves c.args.self.now.config o
    c.locked_turn-reply.new.seat c.find_freed.new.seat) c.freed_of.ensures c.find_freed.ensures in
    turn_by c.args.self.now.config c.args.job.now c.locked_turn-reply.result.0 _
    c.args.pass.now.seat c.locked_turn-reply.new.seat c.find_freed.new.seat c.requires.of.rest
    c.locked_turn-reply.ensures.turn f

pub invariant_of-pass : goal.invariant_of-pass
invariant_of-pass g c = let f = subst (λ (o : Option ℕ). FreedMoves c.args.self.now.config o
    c.locked_turn-reply.new.seat c.find_freed.new.seat) c.freed_of.ensures c.find_freed.ensures in record {
      shares = c.args.pass.now.shares ∙ sym (share_turned c.args.self.now.config c.args.job.now
          c.locked_turn-reply.result.0 _ c.args.pass.now.seat c.locked_turn-reply.new.seat
          c.find_freed.new.seat c.requires.of.rest c.locked_turn-reply.ensures.turn f);
      carries = ap (λ (m : Sat). m.1) c.find_freed.ensures.1.2 ∙ c.locked_turn-reply.ensures.same.2;
      pinned = c.args.pass.now.pinned ∙ sym (ap handles_of (pins_turned c.args.self.now.config
          c.args.job.now c.locked_turn-reply.result.0 _ c.args.pass.now.seat c.locked_turn-reply.new.seat
          c.find_freed.new.seat c.requires.of.rest c.locked_turn-reply.ensures.turn f));
      tried = sym c.locked_turn-reply.ensures.again ∙ sym (tries_turned
          c.args.self.now.config c.args.job.now c.locked_turn-reply.result.0 _ c.args.pass.now.seat
          c.locked_turn-reply.new.seat c.find_freed.new.seat c.requires.of.rest
          c.locked_turn-reply.ensures.turn f);
    }

pub returns-clause-new : goal.returns-clause-new
returns-clause-new g c = c.locked_turn-reply.ensures.new
