use Rattle.std.proofs.Common.{rules, tests, codes}
use Rattle.std.specs.Prelude.{string_bytes}
use Rattle.std.specs.Str.{bytes_eq}
use Rattle.std.proofs.lemmas.Iterator.{YieldsList-from_slice}
use Rattle.std.proofs.lemmas.Iterator.Search.{any_from_yields_List}
use Rattle.cb_cli.proofs.words.has_two_dashes.Goals as goal

pub returns : goal.returns
returns c =
    any_from_yields_List (λ word. bytes_eq (string_bytes word) (codes "--")) _ _ _ c.any.ensures.ran (YieldsList-from_slice c.args.words.now cc) (λ x b q k. search (rules, tests))
