use Rattle.std.proofs.Common.{◌*◌, subst}
use Rattle.cb_world.specs.declared.shown.Shown.{Shown}
use Rattle.cb_world.specs.FrameWords.{OwnsWords}
use Rattle.cb_world.specs.RowWords.{words_in}
use Rattle.cb_shared.proofs.Rights.{rights_stored}
use Rattle.cb_shared.proofs.seat_desk.SeatDeskDesk.store_frame.Goals as goal

pub store_row-requires-clause-owned : goal.store_row-requires-clause-owned
store_row-requires-clause-owned g c = let o = c.requires.owned in
    subst (λ (s : Shown). OwnsWords s c.args.frame) o.1 o.2

pub invariant_of-self : goal.invariant_of-self
invariant_of-self g c = let d = c.args.self.now in let z = c.store_row.ensures.still in record {
  table = z.of.table;
  counts = d.counts;
  key = d.key;
  same = z.of.config;
  live = z.of.live;
  may = rights_stored d.allowed (512 * c.args.frame) (words_in c.args.row.now) d.seat.now
      c.store_row.new.seat c.store_row.ensures.ran.0 d.may;
  holder = z.holds;
  objects = z.sized.objects;
  hots = z.sized.hots;
  versions = z.sized.versions;
  memory = z.sized.memory;
}
