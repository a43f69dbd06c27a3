use Rattle.cb_shared_bench.proofs.Makes.{call_makes}
use Rattle.cb_shared_bench.proofs.objects.make.Goals as goal

pub returns : goal.returns
returns g c = record {
  of = c.make-reply.ensures.of;
  caller = call_makes c.args.shared.now c.args.bytes.now c.make-reply.result c.made_in.result
      c.args.pass.now c.make-reply.new.pass c.make-reply.ensures.of c.make-reply.ensures.make
      c.made_in.ensures;
}
