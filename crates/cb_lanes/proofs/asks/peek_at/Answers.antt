use Rattle.std.proofs.Common.{◌≡◌, ◌∙◌, List, length, sym, ap, subst, arith, rules, vec_len}
use Rattle.cb_rule.specs.declared.view.Stand.{Stand}
use Rattle.cb_rule.specs.Lists.{Has}
use Rattle.cb_shared.specs.Passes.{stand_of}
use Rattle.cb_lanes.proofs.Peeking.{peeks_all, peeks_leave, peeks_more, peeks_none, still_pin}
use Rattle.cb_lanes.proofs.asks.peek_at.Goals as goal

pub loop-i-init : goal.loop-i-init
loop-i-init c = let v = c.in_ok-vec.field-0 in
    let len : vec_len v ≡ length v.items = search rules in (
      c.version-version.ensures.of,
      ap length c.from-room.ensures ∙ sym len ∙ c.in_ok-vec.ensures.len ∙ c.len-len.ensures,
      λ words has. peeks_none (stand_of c.args.pin.now words) _ c.args.pass.now.seat.me.0
          c.version-version.new.pass.seat.me.0 c.version-version.ensures.same,
    )

pub peek-word-requires-clause-of : goal.peek-word-requires-clause-of
peek-word-requires-clause-of c = c.loop-i.invariant.0

pub peek-word-requires-clause-pin : goal.peek-word-requires-clause-pin
peek-word-requires-clause-pin c = still_pin c.args.pin.now c.args.pass.now.seat.me.0
    c.loop-i.pass.seat.me.0
    (peeks_leave _ _ _ _ _ (c.loop-i.invariant.2 c.requires.pin.0 c.requires.pin.1))
    c.requires.pin

pub put_word-requires : goal.put_word-requires
put_word-requires c = omega (
  arith,
  c.loop-i-test.true,
  c.div_ceil-i-end.ensures,
  c.len-len.ensures,
  c.loop-i.invariant.1,
)

pub loop-i-preserved : goal.loop-i-preserved
loop-i-preserved c = let inv = c.loop-i.invariant in let put = c.put_word.ensures in (
  c.peek-word.ensures.of,
  put.sized ∙ inv.1,
  λ words has. let so = inv.2 words has in
      peeks_more (stand_of c.args.pin.now words) c.loop-i.i c.peek-word.result c.loop-i.room
      c.put_word.new.room c.args.pass.now.seat.me.0 c.loop-i.pass.seat.me.0
      c.peek-word.new.pass.seat.me.0
      (c.peek-word.ensures.word words (subst (λ (l : List Stand).
      Has (stand_of c.args.pin.now words) l) (sym (peeks_leave _ _ _ _ _ so)) has))
      (record { inside = put.inside; outside = put.outside; sized = put.sized })
      c.peek-word.ensures.peeked so,
)

pub returns-clause-of : goal.returns-clause-of
returns-clause-of c = c.loop-i.invariant.0

pub returns-clause-pins : goal.returns-clause-pins
returns-clause-pins c =
    peeks_leave _ _ _ _ _ (c.loop-i.invariant.2 c.requires.pin.0 c.requires.pin.1)

pub returns-clause-bytes : goal.returns-clause-bytes
returns-clause-bytes c words has = peeks_all (stand_of c.args.pin.now words) c.loop-i.i _ _ _ _
    c.loop-i.invariant.1
    (omega (
      arith,
      c.loop-i-test.false,
      c.loop-i.auto.i-end,
      c.div_ceil-i-end.ensures,
      c.len-len.ensures,
    ))
    c.version-version.ensures.version (c.loop-i.invariant.2 words has)

pub returns-clause-above : goal.returns-clause-above
returns-clause-above c = c.version-version.ensures.newest
