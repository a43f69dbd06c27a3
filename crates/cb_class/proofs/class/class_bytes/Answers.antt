use Rattle.std.proofs.Common.{rules}
use Rattle.cb_class.specs.Class.{bytes_of}
use Rattle.cb_class.proofs.Laws.{bytes_at_least, bytes_at_most}
use Rattle.cb_class.proofs.class.class_bytes.Goals as goal

pub returns : goal.returns
unfolding bytes_of
returns c = record {
  bytes = search rules;
  at_least = bytes_at_least c.args.c c.requires;
  at_most = bytes_at_most c.args.c c.requires;
}
