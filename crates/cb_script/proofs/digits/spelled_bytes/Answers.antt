use Rattle.std.proofs.Common.{◌<◌, ◌*◌, ◌+◌, rules, arith}
use Rattle.std.proofs.lemmas.List.Elements.{All-nil, All-push}
use Rattle.cb_script.proofs.HexText.{read_none, read_more, read_all}
use Rattle.cb_script.proofs.digits.spelled_bytes.Goals as goal

pub loop-i-init : goal.loop-i-init
loop-i-init c =
    rw c.in_ok-bytes.ensures.items (record { read = read_none c.args.text.now; each = All-nil (λ b. b < 256) })

pub loop-i-preserved : goal.loop-i-preserved
loop-i-preserved c =
    let text = c.args.text.now in
    let i = c.loop-i.i in
    let high = c.value_of-high.result in
    let low = c.value_of-low.result in
    rw c.in_ok-push.ensures.items (record {
      read = read_more text c.loop-i.bytes.items i high low (omega (arith, c.requires.even)) (omega (arith, c.if-high-gt15.false)) (omega (arith, c.if-low-gt15.false)) (search rules) (search rules) c.loop-i.invariant.read;
      each = All-push (λ b. b < 256) c.loop-i.bytes.items (high * 16 + low) c.loop-i.invariant.each (omega (arith, c.if-high-gt15.false, c.if-low-gt15.false));
    })

pub returns : goal.returns
returns c =
    let text = c.args.text.now in
    rw c.from.ensures (c.loop-i.invariant.each, read_all text c.loop-i.bytes.items c.loop-i.i (omega (arith, c.requires.even)) c.loop-i.invariant.read)
