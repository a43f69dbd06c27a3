use Rattle.std.proofs.Common.{◌≡◌, ◌<◌, ◌^◌, arith, rules}
use Rattle.cb_frame.proofs.Runs.{least_start, more_than_one, none_starts, none_begins, one_found}
use Rattle.cb_frame.proofs.bitmap.least_run.Goals as goal

pub returns-then-pages-eq1 : goal.returns-then-pages-eq1
returns-then-pages-eq1 c =
    one_found c.args.words.now c.args.pages _ c.if-pages-eq1.true c.least_set.ensures

pub starts-found-requires-clause-pages : goal.starts-found-requires-clause-pages
starts-found-requires-clause-pages c = more_than_one c.args.pages c.requires.pages c.if-pages-eq1.false

pub returns-then-found-ne0 : goal.returns-then-found-ne0
returns-then-found-ne0 c =
    least_start c.args.words.now c.loop-i.i c.starts-found.result c.args.pages (omega arith)
    (search (rules, c.starts-found.type_inv)) c.starts-found.ensures c.loop-i.invariant
