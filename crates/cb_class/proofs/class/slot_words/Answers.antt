use Rattle.std.proofs.Common.{◌≡◌, ◌/◌, arith, ap}
use Rattle.cb_class.specs.Class.{words_of}
use Rattle.cb_class.proofs.Laws.{words_fill}
use Rattle.cb_class.proofs.class.slot_words.Goals as goal

pub returns : goal.returns
unfolding words_of
returns c =
    let same : c.class_bytes.result / 8 ≡ words_of c.args.c =
    ap (λ n. n / 8) c.class_bytes.ensures.bytes in
    record {
      words = same;
      at_least = omega arith;
      at_most = omega (arith, c.class_bytes.ensures.at_most);
      fill = rw same (words_fill c.args.c c.requires);
    }
