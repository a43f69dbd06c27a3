use Rattle.std.proofs.Common.{ℕ, ◌+◌, ◌-◌, ◌*◌, List, ap, ◌∙◌, subst, arith}
use Rattle.cb_world.specs.FrameWords.{stores_from}
use Rattle.cb_world.specs.Played.{played}
use Rattle.cb_world.specs.RowWords.{words_from}
use Rattle.cb_world.proofs.RunRows.{none_stored, owned_still, owns_frame, page_stored, words_whole}
use Rattle.cb_world.proofs.run_words.store_run.Goals as goal

pub loop-page-init : goal.loop-page-init
loop-page-init g c =
    none_stored (λ es. g.D.Desk.run c.args.desk.now es c.args.desk.now) c.args.frame c.args.row.now
    (g.met.D.Desk.none _)

pub store_frame-requires-clause-owned : goal.store_frame-requires-clause-owned
store_frame-requires-clause-owned g c =
    let had = c.requires.owned in let f = c.args.frame in let page = c.loop-page.page in
    let words = words_from (512 * page) c.args.row.now in
    let es = stores_from (512 * f) words in (
      played es had.0,
      (g.met.D.Desk.follows _ _ es had.0 c.loop-page.invariant had.1).1,
      owns_frame (played es had.0) f c.args.pages page
          (owned_still (512 * f) words had.0 f c.args.pages had.2) c.loop-page-test.true,
    )

pub loop-page-preserved : goal.loop-page-preserved
loop-page-preserved g c =
    let page = c.loop-page.page in let row = c.args.row.now in
    page_stored (λ es. g.D.Desk.run c.args.desk.now es c.loop-page.desk)
    (λ es. g.D.Desk.run c.loop-page.desk es c.store_frame.new.self)
    (λ es. g.D.Desk.run c.args.desk.now es c.store_frame.new.self) c.args.frame page
    (4096 * page + 4096 - 4096 * page) row (λ es fs a b. g.met.D.Desk.more _ _ _ _ _ a b)
    c.loop-page.invariant (omega arith) c.store_frame.ensures
    (omega (arith, c.requires.row, c.loop-page-test.true))

pub returns : goal.returns
returns g c =
    subst (λ (ws : List ℕ). g.D.Desk.run c.args.desk.now (stores_from (512 * c.args.frame) ws)
    c.loop-page.desk)
    (ap (λ (n : ℕ). words_from (512 * n) c.args.row.now)
    (omega (arith, c.loop-page-test.false, c.loop-page.auto.page-end))
    ∙ words_whole c.args.row.now c.args.pages c.requires.row) c.loop-page.invariant
