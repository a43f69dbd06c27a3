use Rattle.std.proofs.Common.{◌∙◌, ◌<◌, ◌+◌, ◌*◌, ℕ, List, length, set, refl, sym, ap, arith}
use Rattle.cb_world.specs.Memory.{words_for}
use Rattle.cb_mutate.proofs.Laws.{write_all, write_more, write_none}
use Rattle.cb_rule.specs.declared.view.Held.{Held}
use Rattle.cb_rule.specs.Slot.{Sat}
use Rattle.cb_rule.specs.Steps.{with_claim_word}
use Rattle.cb_rule.specs.Words.{base}
use Rattle.cb_shared.specs.Claims.{HoldsOnly, IsWithin, with_memory, with_only}
use Rattle.cb_shared.specs.Seats.{Moves, record_at}
use Rattle.cb_shared.proofs.OwnSteps.{may_store, stores_only}
use Rattle.cb_shared.proofs.WriteSteps.{of_moves}
use Rattle.cb_shared.proofs.writing.overwrite_own.Goals as goal

pub loop-i-init : goal.loop-i-init
loop-i-init c = (
  c.requires.of,
  λ x ho w. (
    x.memory,
    write_none x.memory c.args.at c.args.bytes.now,
    (
      refl,
      refl,
      ap (λ (l : List Held). let p = c.args.seat.now in
          let z : Sat = (record (record_at p) { claims = l }, p.me.1) in
          z) ho.0,
    ),
  ),
)

pub store-requires : goal.store-requires
store-requires c = let h = c.requires.claim in let x = h.0 in let w = h.2 in
    let inv = c.loop-i.invariant.1 x h.1 w in let y : Held = with_memory inv.0 x in
    let i = c.loop-i.i in let k = c.args.config.now in let same = c.merged_own-word.ensures.same in
    let lt : i < words_for x.len =
    omega (arith, c.loop-i-test.true, c.div_ceil-i-end.ensures, w.inside) in
    let o = of_moves c.args.top.now.table_id c.args.top.now.key k c.loop-i.seat
    c.merged_own-word.new.seat (record_at c.loop-i.seat) c.loop-i.invariant.0 same refl refl in (
      o.table,
      (let z = o.words in let l = w.lies i lt in let e = w.there in omega arith),
      may_store c.args.top.now.table_id c.args.top.now.key k c.merged_own-word.new.seat o y x.handle
          (ap (λ (m : Sat). m.0.claims) (same.2 ∙ inv.2.2), refl) (base k + c.args.place + i) i
          c.merged_own-word.result lt (ap (λ (p : ℕ). base k + p + i) w.there),
    )

-- the claim with the word that was stored
stored : (c : goal.After-store) (x : Held) (ho : HoldsOnly x x.handle c.args.seat.now)
    (w : IsWithin c.args.config.now x c.args.place c.args.at (length c.args.bytes.now))
    → Moves c.merged_own-word.new.seat c.store.new.seat
    (with_only (with_claim_word c.loop-i.i c.merged_own-word.result
    (with_memory (c.loop-i.invariant.1 x ho w).0 x)) (record_at c.merged_own-word.new.seat))
stored c x ho w = let inv = c.loop-i.invariant.1 x ho w in let i = c.loop-i.i in
    let k = c.args.config.now in let same = c.merged_own-word.ensures.same in
    stores_only k c.args.top.now.table_id.slots c.merged_own-word.new.seat c.store.new.seat
    (ap (λ (m : Sat). m.0.config) same.2 ∙ c.loop-i.invariant.0.config) c.store.ensures.0
    c.store.ensures.1 (with_memory inv.0 x) x.handle
    (ap (λ (m : Sat). m.0.claims) (same.2 ∙ inv.2.2), refl) (base k + c.args.place + i) i
    c.merged_own-word.result
    (omega (arith, c.loop-i-test.true, c.div_ceil-i-end.ensures, w.inside))
    (ap (λ (p : ℕ). base k + p + i) (sym w.there)) c.store.ensures.2

pub loop-i-preserved : goal.loop-i-preserved
loop-i-preserved c = let i = c.loop-i.i in let same = c.merged_own-word.ensures.same in (
  (let h = c.requires.claim in let x = h.0 in let inv = c.loop-i.invariant.1 x h.1 h.2 in
      let y : Held = with_memory inv.0 x in let mid = c.merged_own-word.new.seat in
      let s = stored c x h.1 h.2 in
      of_moves c.args.top.now.table_id c.args.top.now.key c.args.config.now mid c.store.new.seat
      (with_only (with_claim_word i c.merged_own-word.result y) (record_at mid))
      (of_moves c.args.top.now.table_id c.args.top.now.key c.args.config.now c.loop-i.seat mid
      (record_at c.loop-i.seat) c.loop-i.invariant.0 same refl refl) s refl refl),
  λ x ho w. let inv = c.loop-i.invariant.1 x ho w in
      let y : Held = with_memory inv.0 x in let n = c.merged_own-word.result in
      let lt : i < words_for x.len =
      omega (arith, c.loop-i-test.true, c.div_ceil-i-end.ensures, w.inside) in
      let place = ap (λ (p : ℕ). p + i) (sym w.there) in
      let s = stored c x ho w in (
        set inv.0 i n,
        write_more x.memory inv.0 i c.args.at c.args.bytes.now n inv.1
            (omega (arith, lt, w.whole))
            (c.merged_own-word.ensures.merged y i (ap (λ (m : Sat). m.0.claims) inv.2.2, refl) lt
            place),
        (
          s.0 ∙ (same.0 ∙ inv.2.0),
          s.1 ∙ (same.1 ∙ inv.2.1),
          s.2 ∙ ap (λ (m : Sat).
              let z : Sat = (with_only (with_claim_word i n y) m.0, m.1) in
              z) (same.2 ∙ inv.2.2),
        ),
      ),
)

pub returns : goal.returns
returns c x ho w = let inv = c.loop-i.invariant.1 x ho w in (
  inv.0,
  write_all (8 * c.loop-i.i) x.memory c.args.at c.args.bytes.now inv.0
      (omega (arith, c.loop-i-test.false, c.div_ceil-i-end.ensures)) inv.1,
  inv.2,
)
