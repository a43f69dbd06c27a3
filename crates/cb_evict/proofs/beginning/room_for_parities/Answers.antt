use Rattle.cb_evict.proofs.BeginEnd.{ready_room}
use Rattle.cb_evict.proofs.beginning.room_for_parities.Goals as goal

pub returns-in-Ok : goal.returns-in-Ok
returns-in-Ok c = record {
  ready = ready_room c.args.r c.count.result c.row_len-len.result c.args.rows.now
      c.in-Ok.parities c.in-Ok.ensures c.requires.range.data_least c.count.ensures
      c.row_len-len.ensures.length;
}
