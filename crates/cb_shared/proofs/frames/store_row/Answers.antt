use Rattle.std.proofs.Common.{◌≡◌, ◌∙◌, ◌<◌, ◌+◌, ◌*◌, ℕ, suc, List, length, take, refl, sym, ap}
use Rattle.std.proofs.Common.{subst, arith}
use Rattle.std.proofs.lemmas.List.{length-take-le, take_all}
use Rattle.std.proofs.Math.Seq.{take-suc}
use Rattle.cb_world.specs.declared.access.Access.TheVariants.{Stored}
use Rattle.cb_world.specs.declared.shown.Shown.{Shown}
use Rattle.cb_world.specs.FrameWords.{OwnsWords, stores_from}
use Rattle.cb_world.proofs.Laws.{words_read}
use Rattle.cb_rule.specs.Slot.{Sat}
use Rattle.cb_shared.specs.SeatLaws.{Runs, holds_still}
use Rattle.cb_shared.specs.Seats.{record_at}
use Rattle.cb_shared.proofs.Alone.{stores_at}
use Rattle.cb_shared.proofs.Rows.{owned_still, store_more}
use Rattle.cb_shared.proofs.frames.store_row.Goals as goal

pub loop-i-init : goal.loop-i-init
loop-i-init c = (c.requires.holds, ((refl, refl, refl), tt, tt, tt), c.requires.owned)

pub store-requires : goal.store-requires
store-requires c = let h = c.loop-i.invariant.0 in let place = 512 * c.args.frame + c.loop-i.i in
    let l = c.requires.frame in let i = c.loop-i-test.true in (
      h.of.table,
      (let z = h.of.words in omega (arith, z, l, i)),
      stores_at c.args.top.now.key.first c.args.config.now _ h.of.key _ _ _ h.of.live h.holds place _
          (omega (arith, l, i)) h.sized.objects
          (c.loop-i.invariant.2 place (omega arith) (omega (arith, i))),
    )

pub loop-i-preserved : goal.loop-i-preserved
loop-i-preserved c = let inv = c.loop-i.invariant in let i = c.loop-i.i in
    let words = c.read_u64_into.new.dst in let first = 512 * c.args.frame in
    let more : take (i + 1) words ≡ take (suc i) words = (let z : i + 1 ≡ suc i = omega arith in
    ap (λ (n : ℕ). take n words) z) in
    let x = c.store.ensures in
    let y = x.2 (first + i) (ap (λ (n : ℕ). 1 + n + n + (first + i)) (sym inv.0.sized.objects)) in
    let below : i < length words =
    omega (arith, c.read_u64_into.auto.dst, c.loop-i-test.true) in (
      holds_still c.args.top.now.table_id c.args.top.now.key c.args.config.now c.loop-i.seat
          c.store.new.seat (Stored (first + i) _) inv.0 ((x.0, x.1, y.0), y.1),
      store_more c.args.seat.now c.loop-i.seat c.store.new.seat first i (take i words)
          (take (i + 1) words) _ (more ∙ take-suc words i 0 below)
          (length-take-le i words (omega (arith, below))) inv.1
          ((x.0, x.1, y.0), y.1),
      subst (λ (s : Shown). OwnsWords s c.args.frame)
          (sym (ap (λ (m : Sat). m.0.known) y.0))
          (owned_still (first + i) _ c.args.frame (record_at c.loop-i.seat).known inv.2),
    )

pub returns-clause-ran : goal.returns-clause-ran
returns-clause-ran c = let inv = c.loop-i.invariant in let words = c.read_u64_into.new.dst in
    subst (λ (l : List ℕ).
    Runs c.args.seat.now (stores_from (512 * c.args.frame) l) c.loop-i.seat)
    (take_all c.loop-i.i words (omega (arith, c.read_u64_into.auto.dst, c.loop-i-test.false))
    ∙ words_read c.args.row.now words c.requires.row c.read_u64_into.auto.dst
    c.read_u64_into.ensures) inv.1
