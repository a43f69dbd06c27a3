use Rattle.std.proofs.Common.{◌≡◌, ◌+◌, ◌/◌, ◌<◌, ◌∙◌, ℕ, List, length, refl, sym, ap, subst, arith}
use Rattle.std.specs.Prelude.{slice_index}
use Rattle.cb_types.specs.declared.config.Config.{Config}
use Rattle.cb_world.specs.Memory.{words_for}
use Rattle.cb_rule.specs.declared.view.Stand.{Stand}
use Rattle.cb_rule.specs.declared.view.View.{View}
use Rattle.cb_rule.specs.Lists.{Has}
use Rattle.cb_rule.specs.Slot.{Sat}
use Rattle.cb_rule.specs.Words.{base}
use Rattle.cb_shared.specs.Reading.{IsUnderPin}
use Rattle.cb_shared.specs.Seats.{Moves, SeatAt, record_at}
use Rattle.cb_shared.proofs.PinsAlone.{reads_pin_at}
use Rattle.cb_mutate.proofs.Laws.{AreBytesFilled, IsPutInto, filled_all, filled_more}
use Rattle.cb_shared.proofs.ReadSteps.{moves_then}
use Rattle.cb_shared.proofs.WriteSteps.{of_moves}
use Rattle.cb_shared.proofs.reading.load_into.Goals as goal

-- where a word more of a pinned object stands in the room, its bytes do
word_filled : (config : Config) (p : Stand) (place len i x : ℕ) (first seat : SeatAt)
    (old new : List ℕ) → IsUnderPin p place len first → Moves first seat (record_at first)
    → (record_at seat).config ≡ config
    → ((q : Stand) (j : ℕ) → Has q (record_at seat).pins → j < words_for q.len
    → base config + place + i ≡ base (record_at seat).config + q.place + j
    → x ≡ slice_index q.words j)
    → i < words_for len → IsPutInto old new i x
    → AreBytesFilled p.words i old → AreBytesFilled p.words (i + 1) new
word_filled config p place len i x first seat old new u moved same tells lt put filled =
    filled_more p.words old new i x
    (tells p i (subst (Has p) (sym (ap (λ (m : Sat). m.0.pins) moved.2)) u.0)
    (subst (λ (l : ℕ). i < words_for l) (sym u.2) lt)
    (ap (λ (l : ℕ). base config + l + i) (sym u.1)
    ∙ ap (λ (c : Config). base c + p.place + i) (sym same)))
    put filled

pub loop-i-init : goal.loop-i-init
loop-i-init c = (
  c.requires.of,
  (refl, refl, refl),
  refl,
  λ p u k low within. absurd (omega (arith, low)),
)

pub load-word-requires : goal.load-word-requires
load-word-requires c = let o = c.loop-i.invariant.0 in (
  o.table,
  (let z = o.words in let l = c.requires.inside c.loop-i.i
      (omega (arith, c.loop-i-test.true)) in
      omega arith),
  reads_pin_at c.args.top.now.key.first c.args.config.now _ o.key _ _ _ o.live o.config _,
)

pub put_whole_word-requires : goal.put_whole_word-requires
put_whole_word-requires c =
    omega (arith, c.loop-i-test.true, c.loop-i.invariant.2)

pub loop-i-preserved : goal.loop-i-preserved
loop-i-preserved c = let inv = c.loop-i.invariant in let put = c.put_whole_word.ensures in
    let e = c.load-word.ensures in
    let same : Moves c.loop-i.seat c.load-word.new.seat (record_at c.loop-i.seat) =
    (e.0, e.1, e.2.0) in (
      of_moves c.args.top.now.table_id c.args.top.now.key c.args.config.now c.loop-i.seat
          c.load-word.new.seat (record_at c.loop-i.seat) inv.0 same refl refl,
      moves_then c.args.seat.now c.loop-i.seat c.load-word.new.seat (λ (x : View). x)
          (record_at c.args.seat.now) inv.1 same,
      put.sized ∙ inv.2,
      λ p u. word_filled c.args.config.now p c.args.place (length c.args.room.now) c.loop-i.i
          c.load-word.result c.args.seat.now c.loop-i.seat c.loop-i.room c.put_whole_word.new.room
          u inv.1 inv.0.config
          e.2.1 (omega (arith, c.loop-i-test.true))
          (record {
            inside = λ j low within. put.inside j low;
            outside = put.outside;
            sized = put.sized;
          })
          (inv.3 p u),
    )

pub load-word-requires-then-whole-room : goal.load-word-requires-then-whole-room
load-word-requires-then-whole-room c = let o = c.loop-i.invariant.0 in (
  o.table,
  (let z = o.words in let l = c.requires.inside (length c.args.room.now / 8)
      (let n = c.loop-i.invariant.2 in let t = c.if-whole-room.true in
      omega (arith, t, n)) in
      omega (arith)),
  reads_pin_at c.args.top.now.key.first c.args.config.now _ o.key _ _ _ o.live o.config _,
)

pub returns-then-whole-room-clause-same : goal.returns-then-whole-room-clause-same
returns-then-whole-room-clause-same c = let e = c.load-word-then-whole-room.ensures in
    moves_then c.args.seat.now c.loop-i.seat c.load-word-then-whole-room.new.seat
    (λ (x : View). x) (record_at c.args.seat.now) c.loop-i.invariant.1 (e.0, e.1, e.2.0)

pub returns-then-whole-room-clause-bytes : goal.returns-then-whole-room-clause-bytes
returns-then-whole-room-clause-bytes c p u = let put = c.put_last_bytes.ensures in
    let inv = c.loop-i.invariant in let e = c.load-word-then-whole-room.ensures in
    filled_all p.words c.put_last_bytes.new.room (length c.args.room.now) (length c.args.room.now / 8 + 1)
    (put.sized ∙ inv.2) (omega (arith))
    (word_filled c.args.config.now p c.args.place (length c.args.room.now) (length c.args.room.now / 8)
    c.load-word-then-whole-room.result c.args.seat.now c.loop-i.seat c.loop-i.room
    c.put_last_bytes.new.room u inv.1 inv.0.config
    e.2.1 (omega (arith, c.if-whole-room.true))
    (record {
      inside = λ j low within. put.inside j within;
      outside = put.outside;
      sized = put.sized;
    })
    (λ k low within. inv.3 p u k (omega (arith, low, c.loop-i-test.false)) within))

pub returns-else-whole-room-clause-same : goal.returns-else-whole-room-clause-same
returns-else-whole-room-clause-same c = c.loop-i.invariant.1

pub returns-else-whole-room-clause-bytes : goal.returns-else-whole-room-clause-bytes
returns-else-whole-room-clause-bytes c p u =
    filled_all p.words c.loop-i.room (length c.args.room.now) c.loop-i.i c.loop-i.invariant.2
    (omega (arith, c.loop-i-test.false, c.if-whole-room.false))
    (c.loop-i.invariant.3 p u)
