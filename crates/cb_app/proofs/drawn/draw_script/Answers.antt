use Rattle.std.proofs.Common.{◌≡◌, ℕ, sym, subst, ap, ◌∙◌, rules}
use Rattle.cb_script.specs.declared.script.Script.{Script}
use Rattle.cb_app.specs.declared.ending.Ending.{Ending}
use Rattle.cb_app.specs.Scripts.{IsAnswered, IsSummed}
use Rattle.cb_gen.specs.Drawn.{made_script}
use Rattle.cb_lanes.specs.declared.side.Side.TheVariants.{Nodes}
use Rattle.cb_app.proofs.drawn.draw_script.Goals as goal

pub summary_of-requires : goal.summary_of-requires
summary_of-requires c = c.in_ok-ended.ensures.replies

pub returns-clause-summed : goal.returns-clause-summed
returns-clause-summed c =
    let plan = c.args.plan in
    let seed_is : c.from.result ≡ plan.seed = search rules in
    let script_is : c.in_ok-script.script ≡ made_script plan.seed plan.lines plan.lanes =
    c.in_ok-script.ensures.script ∙ ap (λ (seed : ℕ). made_script seed plan.lines plan.lanes) seed_is in
    subst (λ (e : Ending). IsSummed c.args.plan e c.in_ok-text.text) (sym c.set.ensures) (record {
      answered = subst (λ (s : Script). IsAnswered Nodes s c.in_ok-ended.ended) script_is c.in_ok-ended.ensures;
      calm = c.in_ok-ended.ensures.calm c.in_ok-script.ensures.ease;
      text_is = c.in_ok-text.ensures;
    })
