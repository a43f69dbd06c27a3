use Rattle.std.proofs.Common.{ap}
use Rattle.cb_ptr.specs.declared.word.PtrWord.{PtrWord}
use Rattle.cb_filter.proofs.Cooled.{cool_word, may_cool}
use Rattle.cb_filter.proofs.copying.cool.Goals as goal

pub settle-requires-clause-may : goal.settle-requires-clause-may
settle-requires-clause-may g c =
    let had = c.requires.claimed in (
      had.0,
      had.1,
      may_cool had.0 c.args.h.n c.args.word had.2.0 c.settled.result had.2.1 had.2.2
          (cool_word c.args.word c.claimed.result c.settled.result _ _ c.claimed.ensures
          (ap (λ (p : PtrWord). p.place) c.unpack.ensures.fields) c.settled.ensures),
    )
