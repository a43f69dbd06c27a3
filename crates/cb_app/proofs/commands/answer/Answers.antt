use Rattle.std.proofs.Common.{refl, sym, subst}
use Rattle.cb_app.specs.declared.ending.Ending.{Ending}
use Rattle.cb_app.specs.Scripts.{IsAnswered}
use Rattle.cb_app.proofs.commands.answer.Goals as goal

pub returns : goal.returns
returns c =
    let told = c.in_ok-told.ensures in
    subst (λ (e : Ending). IsAnswered c.args.side c.args.script.now e) (sym c.answered.ensures) (record {
      config = refl;
      lines = told.lines;
      legal = told.legal;
      replies = told.answered;
      world = c.in_ok-told.told.world;
      left = refl;
      leads = told.leads;
      along = told.along;
      fixes = told.fixes;
      sound = told.sound;
      holds = told.holds;
      losses = told.losses;
      in_order = told.in_order;
      no_seal = refl;
      scopes = told.scopes;
      idle = told.idle;
      calm = told.calm;
      alone = told.alone;
    })
