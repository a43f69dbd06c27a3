use Rattle.std.proofs.Common.{[], ◌∷◌}
use Rattle.cb_world.specs.declared.access.Access.TheVariants.{Looked}
use Rattle.cb_world.specs.Played.{after}
use Rattle.cb_swapin.proofs.OneBrought.{here_word, may_bring, brings_one}
use Rattle.cb_swapin.proofs.bringing.bring.Goals as goal

pub settle-requires-clause-may : goal.settle-requires-clause-may
settle-requires-clause-may g c =
    let had = c.requires.ready in let h = c.args.h.n in let w = c.word.result in
    let told = g.met.D.Desk.follows _ _ (Looked h w ∷ []) had.0 c.word.ensures had.1 in
    let x = c.pack.result in
    let k = here_word x c.args.place _ c.unpack-fields.result w c.pack.ensures.below
    c.pack.ensures.reads_back c.unpack-fields.ensures.fields in (
      after (Looked h w) had.0,
      told.1,
      may_bring had.0 h c.args.place w x _ had.2 told.0.0 k,
    )

pub returns : goal.returns
returns g c =
    let h = c.args.h.n in let w = c.word.result in let x = c.pack.result in
    let k = here_word x c.args.place _ c.unpack-fields.result w c.pack.ensures.below
    c.pack.ensures.reads_back c.unpack-fields.ensures.fields in (
      w,
      x,
      g.met.D.Desk.more _ _ _ _ _ c.word.ensures c.settle.ensures,
      λ s a r. brings_one s h c.args.place w x r
          (g.met.D.Desk.follows _ _ (Looked h w ∷ []) s c.word.ensures a).0.0 k,
    )
