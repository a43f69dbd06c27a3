use Rattle.std.proofs.Common.{◌≡◌, ℕ, List, length, sym, ap, ◌∙◌, arith}
use Rattle.cb_script.specs.Spelling.{words_of}
use Rattle.cb_script.proofs.Headers.{header_joins, header_splits}
use Rattle.cb_script.proofs.header.header_of.Goals as goal

pub returns-in_default : goal.returns-in_default
returns-in_default c = λ config numbers e.
    let nine : length (words_of c.args.text.now) ≡ 9 = ap (λ (text : List ℕ). length (words_of text)) e ∙ ap (λ (words : List (List ℕ)). length words) (header_splits config numbers) in
    omega (arith, nine, c.in_default.ensures.cut)

pub returns-in_default-config_of : goal.returns-in_default-config_of
returns-in_default-config_of c = λ config numbers e.
    c.in_default-config_of.ensures config (numbers, c.in-Some.ensures.cut ∙ ap words_of e ∙ header_splits config numbers)

pub returns-in-Ok : goal.returns-in-Ok
returns-in-Ok c = (c.in-Ok.ensures, header_joins c.in-Some-config_of.config c.args.text.now (sym c.in-Some.ensures.cut ∙ c.in-Some-config_of.ensures.1))

pub returns-in-Err : goal.returns-in-Err
returns-in-Err c = (
  c.in-Some-config_of.config,
  c.in-Some-config_of.ensures.0,
  header_joins c.in-Some-config_of.config c.args.text.now (sym c.in-Some.ensures.cut ∙ c.in-Some-config_of.ensures.1),
  λ accepted. c.in-Err.ensures.out (accepted c.in-Err.field-0),
)
