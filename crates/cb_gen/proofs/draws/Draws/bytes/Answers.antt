use Rattle.cb_gen.proofs.Drawing.{after_more, bytes_more}
use Rattle.cb_gen.proofs.draws.Draws.bytes.Goals as goal

pub loop-i-preserved : goal.loop-i-preserved
loop-i-preserved c =
    let x = c.args.self.now.state in
    let i = c.loop-i._i in
    record {
      bytes = bytes_more x i c.loop-i.self.state c.below.result c.loop-i.bytes.items
          c.push.new.self.items c.loop-i.invariant.bytes c.loop-i.invariant.left
          c.below.ensures.drawn c.in_ok-push.ensures.items;
      left = after_more x i c.loop-i.self.state c.below.new.self.state c.loop-i.invariant.left
          c.below.ensures.left;
    }
