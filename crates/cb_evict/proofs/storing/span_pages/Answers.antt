use Rattle.std.proofs.Common.{sym, ap, ◌∙◌, subst, arith}
use Rattle.cb_class.specs.Class.{IsClass, pages_of}
use Rattle.cb_class.proofs.Laws.{pages_few}
use Rattle.cb_world.specs.FarState.{FarState, pages_if, span_in}
use Rattle.cb_evict.proofs.Filling.{got_span, span_got}
use Rattle.cb_evict.proofs.storing.span_pages.Goals as goal

pub unwrap-requires : goal.unwrap-requires
unwrap-requires c = span_got _ c.args.far.now.spans c.args.frame c.get.result
    (c.get.ensures.span ∙ ap (λ (far : FarState). span_in far.spans c.args.frame) c.far.view_is)
    c.requires.there

pub pages-requires : goal.pages-requires
pages-requires c = subst IsClass (sym c.class.ensures.class) c.class.ensures.valid.in_table

pub returns-clause-few : goal.returns-clause-few
returns-clause-few c =
    let few = pages_few c.class.result
    (subst IsClass (sym c.class.ensures.class) c.class.ensures.valid.in_table) in
    omega (arith, few, c.pages.ensures.pages)

pub returns-clause-pages : goal.returns-clause-pages
returns-clause-pages c =
    c.pages.ensures.pages ∙ ap pages_of c.class.ensures.class
    ∙ sym (ap pages_if (got_span _ c.args.far.now.spans c.args.frame c.get.result c.unwrap.result
    (c.get.ensures.span ∙ ap (λ (far : FarState). span_in far.spans c.args.frame) c.far.view_is)
    c.unwrap.ensures))
