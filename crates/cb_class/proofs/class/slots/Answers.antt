use Rattle.std.proofs.Common.{◌≡◌, ◌*◌, ◌/◌, ap, ◌∙◌}
use Rattle.cb_class.specs.Class.{pages_of, slots_of}
use Rattle.cb_class.proofs.Laws.{slots_at_least, slots_at_most, slots_fit}
use Rattle.cb_class.proofs.class.slots.Goals as goal

pub returns : goal.returns
unfolding slots_of
returns c =
    let same : 4096 * c.pages.result / c.class_bytes.result ≡ slots_of c.args.c =
    ap (λ n. 4096 * n / c.class_bytes.result) c.pages.ensures.pages
    ∙ ap (λ n. 4096 * pages_of c.args.c / n) c.class_bytes.ensures.bytes in
    record {
      slots = same;
      at_least = rw same (slots_at_least c.args.c c.requires);
      at_most = rw same (slots_at_most c.args.c c.requires);
      fit = rw same (slots_fit c.args.c);
    }
