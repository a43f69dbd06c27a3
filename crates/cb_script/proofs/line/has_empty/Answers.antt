use Rattle.std.proofs.Common.{◌≡◌, ◌<◌, length, rules, tests}
use Rattle.std.proofs.lemmas.Iterator.{cases_from_any, YieldsList-from_slice}
use Rattle.cb_script.proofs.Cuts.{empties}
use Rattle.cb_script.proofs.line.has_empty.Goals as goal

pub returns : goal.returns
returns c =
    let words = c.args.words.now in
    empties c.any.result words (cases_from_any _ _ c.any.result (λ w. length w.now ≡ 0) (λ w. 0 < length w.now) c.any.ensures.ran (YieldsList-from_slice words cc) (λ x q k. search (rules, tests)) (λ x q k. search (rules, tests)))
