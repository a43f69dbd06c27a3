use Rattle.std.specs.Prelude.{IfOk}
use Rattle.cb_app.specs.Threaded.{IsRun}
use Rattle.cb_app.proofs.OwnTexts.{if_alike}
use Rattle.cb_app.proofs.Ran.{if_ran}
use Rattle.cb_app.proofs.threads.run_threads.Goals as goal

pub returns : goal.returns
returns g c =
    let ran : IfOk c.end.result (IsRun c.args.s.now) =
    if_ran c.args.s.now c.requires.mode c.in_ok-shared.shared c.in_ok-shared.pass
    c.in_ok-shared.ensures.begun c.in_ok-told.told.end c.requires.script.few c.requires.script.lines
    c.in_ok-told.ensures.told c.in_ok-told.ensures.work c.in_ok-told.ensures.crew c.end.result
    c.end.ensures.answers c.end.ensures.closed c.end.ensures.losses in
    record {
      run = ran;
      alike = if_alike c.args.s.now c.end.result c.requires.script ran;
      text = c.end.ensures.text;
    }
