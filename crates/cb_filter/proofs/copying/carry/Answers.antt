use Rattle.std.proofs.Common.{ℕ, refl, ap, subst, arith}
use Rattle.cb_types.specs.declared.config.Field.TheVariants.{Frames}
use Rattle.cb_ptr.specs.declared.word.PtrWord.{PtrWord}
use Rattle.cb_world.specs.Played.{played}
use Rattle.cb_filter.specs.Copies.{copied_from}
use Rattle.cb_filter.proofs.Cooled.{cool_word, may_carry, owns_vacant}
use Rattle.cb_filter.proofs.copying.carry.Goals as goal

pub copy_words-requires-clause-owned : goal.copy_words-requires-clause-owned
copy_words-requires-clause-owned g c =
    let had = c.requires.ready in let len = ap (λ (p : PtrWord). p.len) c.unpack-fields.ensures.fields
    in (
      had.0,
      had.1,
      λ p low high. owns_vacant had.0 c.args.h.n c.args.word had.3.0 c.args.place p had.3.1 had.3.2 had.2
          low (omega (arith, high, len, c.div_ceil.ensures)),
    )

pub settled-requires-clause-within : goal.settled-requires-clause-within
settled-requires-clause-within g c =
    let had = c.requires.ready in let sized = g.met.D.Desk.sized _ had.0 had.1 in
    omega (arith, had.2.within, sized.3, (c.requires.config Frames).1)

pub settle-requires-clause-may : goal.settle-requires-clause-may
settle-requires-clause-may g c =
    let had = c.requires.ready in let s = had.0 in let w = c.args.word in
    let place = c.args.place in let words = c.copy_words.ensures.0 in
    let count = c.copy_words.ensures.1 in
    let fields = c.unpack-fields.ensures.fields in
    let ran = subst (λ (n : ℕ). g.D.Desk.run c.args.desk.now (copied_from n place words)
    c.copy_words.new.desk) (ap (λ (p : PtrWord). p.place) fields) c.copy_words.ensures.2 in
    let follows = g.met.D.Desk.follows _ _ (copied_from _ place words) s ran had.1 in
    let len = ap (λ (p : PtrWord). p.len) fields in (
      played (copied_from _ place words) s,
      follows.1,
      may_carry s c.args.h.n w had.3.0 place c.settled.result had.3.1 words
          (record {
            claimed = had.3.2;
            vacant = had.2;
            count = omega (arith, count, len, c.div_ceil.ensures);
            agree = follows.0;
          })
          (cool_word w c.claimed.result c.settled.result _ _ c.claimed.ensures refl
          c.settled.ensures),
    )
