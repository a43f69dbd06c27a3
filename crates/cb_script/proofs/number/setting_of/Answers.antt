use Rattle.std.proofs.Common.{◌∷◌, []}
use Rattle.std.proofs.lemmas.Bool.Decides.{Decides-eqb}
use Rattle.std.proofs.lemmas.Slice.Eq.{strip_prefix_is}
use Rattle.cb_script.proofs.Decimals.{setting_is_none, sign_is_none, setting_from_number}
use Rattle.cb_script.proofs.number.setting_of.Goals as goal

pub returns-in_err-value : goal.returns-in_err-value
returns-in_err-value c =
    rw c.from_residual.ensures (setting_is_none c.args.word.now c.args.name.now (rw c.in_err-value.was at (strip_prefix_is Decides-eqb c.args.word.now c.args.name.now c.strip_prefix.result c.strip_prefix.ensures.cases)))

pub returns-in_err-number : goal.returns-in_err-number
returns-in_err-number c =
    let value = rw c.in_ok-value.was at (strip_prefix_is Decides-eqb c.args.word.now c.args.name.now c.strip_prefix.result c.strip_prefix.ensures.cases) in
    rw c.from_residual-in_err-number.ensures (sign_is_none c.args.word.now c.args.name.now c.in_ok-value.value.now value (rw c.in_err-number.was at (strip_prefix_is Decides-eqb c.in_ok-value.value.now (61 ∷ []) c.strip_prefix-2.result c.strip_prefix-2.ensures.cases)))

pub returns : goal.returns
returns c =
    let value = rw c.in_ok-value.was at (strip_prefix_is Decides-eqb c.args.word.now c.args.name.now c.strip_prefix.result c.strip_prefix.ensures.cases) in
    let number = rw c.in_ok-number.was at (strip_prefix_is Decides-eqb c.in_ok-value.value.now (61 ∷ []) c.strip_prefix-2.result c.strip_prefix-2.ensures.cases) in
    setting_from_number c.args.word.now c.args.name.now c.in_ok-value.value.now c.in_ok-number.number.now c.number_of.result value number c.number_of.ensures
