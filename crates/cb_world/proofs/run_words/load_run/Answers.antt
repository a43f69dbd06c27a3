use Rattle.std.proofs.Common.{◌+◌, ◌-◌, ◌*◌, refl, arith}
use Rattle.cb_world.proofs.RunRows.{none_read, page_read, run_read}
use Rattle.cb_world.proofs.run_words.load_run.Goals as goal

pub loop-page-init : goal.loop-page-init
loop-page-init g c =
    none_read (λ es. g.D.Desk.run c.args.desk.now es c.args.desk.now) c.args.frame c.args.pages
    c.args.row.now (g.met.D.Desk.none _) c.requires.row

pub loop-page-preserved : goal.loop-page-preserved
loop-page-preserved g c =
    let page = c.loop-page.page in
    page_read (λ es. g.D.Desk.run c.args.desk.now es c.loop-page.desk)
    (λ es. g.D.Desk.run c.loop-page.desk es c.load_frame.new.self)
    (λ es. g.D.Desk.run c.args.desk.now es c.load_frame.new.self) c.args.frame c.args.pages page
    (4096 * page + 4096 - 4096 * page) c.loop-page.row _ c.load_frame.new.row
    (λ es fs a b. g.met.D.Desk.more _ _ _ _ _ a b) c.loop-page.invariant c.load_frame.ensures
    c.loop-page-test.true (omega arith) refl

pub returns : goal.returns
returns g c =
    run_read (λ es. g.D.Desk.run c.args.desk.now es c.loop-page.desk) c.args.frame c.args.pages
    c.loop-page.page c.loop-page.row c.loop-page.invariant
    (omega (arith, c.loop-page-test.false, c.loop-page.auto.page-end))
