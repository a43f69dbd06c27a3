-- The numbers that the values of options spell.
use Rattle.std.proofs.Common.{◌≡◌, ℕ, List, sym, ◌∙◌, arith}
use Rattle.std.proofs.lemmas.Fmt.{decimal_injective}
use Rattle.cb_script.specs.Rules.{IsNumber}
use Rattle.cb_cli.specs.Given.{IsCount}

-- a text spells one number
pub same_count : (text word : List ℕ) (count most x : ℕ) → word ≡ text → IsNumber word count → IsCount text most x → x ≡ count
same_count text word count most x same number is =
    decimal_injective x count (omega (arith, is.0.0)) (omega (arith, number.0)) (sym is.0.1 ∙ sym same ∙ number.1)
