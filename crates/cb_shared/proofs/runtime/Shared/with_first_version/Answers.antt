use Rattle.std.proofs.Common.{◌≡◌, ◌∙◌, ◌+◌, ◌*◌, ℕ, refl, sym, ap, subst, arith}
use Rattle.cb_rule.specs.Slot.{Sat}
use Rattle.cb_rule.specs.Words.{base}
use Rattle.cb_shared.specs.declared.setup.Setup.{Setup}
use Rattle.cb_shared.specs.Passes.{IsAtRest}
use Rattle.cb_shared.proofs.Begun.{long_zeros, rest_opener, zeros_at}
use Rattle.cb_shared.proofs.Standing.{table_stands}
use Rattle.cb_shared.proofs.runtime.Shared.with_first_version.Goals as goal

pub open_board-requires-clause-long : goal.open_board-requires-clause-long
open_board-requires-clause-long c =
    let cfg = c.args.config in let ws = c.as_slice.result.now in
    let n : ℕ = 1 + 2 * cfg.handles + 512 * cfg.frames in
    long_zeros ws n 0 (c.as_slice.ensures.value ∙ c.in_ok-words.ensures.items_if_clones_equal
    (λ y e. e)) ∙ (let z : n ≡ base cfg + 512 * cfg.frames = omega arith in z)

pub open_board-requires-clause-zeros : goal.open_board-requires-clause-zeros
open_board-requires-clause-zeros c i =
    let cfg = c.args.config in let ws = c.as_slice.result.now in
    let n : ℕ = 1 + 2 * cfg.handles + 512 * cfg.frames in
    zeros_at ws n 0 i (c.as_slice.ensures.value ∙ c.in_ok-words.ensures.items_if_clones_equal
    (λ y e. e))

pub returns-clause-begun : goal.returns-clause-begun
returns-clause-begun c =
    let cfg = c.args.config in let t = c.in_ok-board.ensures in record {
      config = refl;
      first_is = ap (λ (k : Setup). k.first) t.key;
      of = record {
        accepted = c.requires.accepted;
        table = t.seat.0;
        rest = subst (λ (m : Sat). IsAtRest cfg m.0) (sym t.seat.1) (rest_opener cfg);
      };
      begun = ap (λ (m : Sat). m.0) t.seat.1;
    }

pub returns-clause-stands : goal.returns-clause-stands
returns-clause-stands c = table_stands

pub returns-in_err-words-clause-stands : goal.returns-in_err-words-clause-stands
returns-in_err-words-clause-stands c = table_stands

pub returns-in_err-board-clause-stands : goal.returns-in_err-board-clause-stands
returns-in_err-board-clause-stands c = table_stands
