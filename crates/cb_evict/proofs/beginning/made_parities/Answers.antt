use Rattle.cb_evict.proofs.BeginEnd.{ready_made}
use Rattle.cb_evict.proofs.beginning.made_parities.Goals as goal

pub returns : goal.returns
returns c = record {
  ready = ready_made c.args.r c.args.rows.now c.in_ok-parities.parities c.made.result
      c.made.ensures c.requires.range.data_least c.in_ok-parities.ensures.count
      c.in_ok-parities.ensures.word c.in_ok-parities.ensures.bytes;
}
