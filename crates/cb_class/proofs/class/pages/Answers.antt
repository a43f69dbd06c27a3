use Rattle.std.proofs.Common.{rules}
use Rattle.cb_class.specs.Class.{pages_of}
use Rattle.cb_class.proofs.Laws.{pages_known}
use Rattle.cb_class.proofs.class.pages.Goals as goal

pub returns : goal.returns
unfolding pages_of
returns c = record {
  pages = search rules;
  known = pages_known c.args.c c.requires;
}
