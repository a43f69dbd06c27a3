use Rattle.std.proofs.Common.{◌≡◌, None, sym, ◌∙◌, subst, rules}
use Rattle.cb_script.specs.Form.{IsName}
use Rattle.cb_script.specs.Reading.{IsMaker, maker_of}
use Rattle.cb_script.proofs.known.accept_new.Goals as goal

pub returns-in-None-clause-kept : goal.returns-in-None-clause-kept
returns-in-None-clause-kept c = λ before l has at makes.
    let name = c.args.name.now in
    let named : IsName name = c.is_name.ensures.0 (search rules) in
    let none : maker_of c.args.names.now name ≡ None = sym c.in_ok-keep.ensures.maker ∙ c.in-None.is in
    c.in_ok-keep.ensures.kept before l has (subst (IsMaker before name) none (has name named)) at makes
