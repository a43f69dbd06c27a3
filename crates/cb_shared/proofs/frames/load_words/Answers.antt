use Rattle.std.proofs.Common.{◌∙◌, ◌<◌, ◌+◌, ◌*◌, ℕ, List, length, length-set, sym, ap, subst}
use Rattle.std.proofs.Common.{arith}
use Rattle.std.proofs.lemmas.List.{length-take-le, take_all}
use Rattle.cb_world.specs.declared.access.Access.TheVariants.{Loaded}
use Rattle.cb_world.specs.FrameWords.{loads_from}
use Rattle.cb_shared.specs.SeatLaws.{Runs, holds_still}
use Rattle.cb_shared.proofs.Alone.{loads_at}
use Rattle.cb_shared.proofs.Rows.{load_more, small_set}
use Rattle.cb_shared.proofs.frames.load_words.Goals as goal

pub overflow_mul-first : goal.overflow_mul-first
overflow_mul-first c = omega (arith, c.ranges.frame.fits)

pub overflow_add-first : goal.overflow_add-first
overflow_add-first c = omega (arith, c.ranges.frame.fits, c.loop-i-test.true)

pub overflow_add-handles-in-loop-i-2 : goal.overflow_add-handles-in-loop-i-2
overflow_add-handles-in-loop-i-2 c = omega (arith, c.ranges.frame.fits, c.loop-i-test.true)

pub load-requires : goal.load-requires
load-requires c = let h = c.loop-i.invariant.0 in (
  h.of.table,
  (let z = h.of.words in let l = c.requires.frame in let i = c.loop-i-test.true in
      omega (arith, z, l, i)),
  loads_at c.args.top.now.key.first c.args.config.now _ h.of.key _ _ _ h.of.live h.holds _
      h.sized.objects,
)

pub loop-i-preserved : goal.loop-i-preserved
loop-i-preserved c = let inv = c.loop-i.invariant in
    let words = c.loop-i.words in let i = c.loop-i.i in let place = 512 * c.args.frame + i in
    let x = c.load.ensures in
    let y = x.2 place (ap (λ (n : ℕ). 1 + n + n + place) (sym inv.0.sized.objects)) in
    let below : i < length words = omega (arith, inv.2, c.loop-i-test.true) in (
      holds_still c.args.top.now.table_id c.args.top.now.key c.args.config.now c.loop-i.seat
          c.load.new.seat (Loaded place c.load.result) inv.0 ((x.0, x.1, y.0), y.1),
      load_more c.args.seat.now c.loop-i.seat c.load.new.seat (512 * c.args.frame) i words
          c.load.result below (length-take-le i words (omega (arith, below))) inv.1
          ((x.0, x.1, y.0), y.1),
      length-set words i c.load.result ∙ inv.2,
      small_set words i c.load.result inv.3 c.load.type_inv,
    )

pub returns-clause-ran : goal.returns-clause-ran
returns-clause-ran c = let inv = c.loop-i.invariant in
    subst (λ (l : List ℕ).
    Runs c.args.seat.now (loads_from (512 * c.args.frame) l) c.loop-i.seat)
    (take_all c.loop-i.i c.loop-i.words (omega (arith, inv.2, c.loop-i-test.false))) inv.1
