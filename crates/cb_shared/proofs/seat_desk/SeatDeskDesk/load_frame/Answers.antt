use Rattle.std.proofs.Common.{◌*◌, refl}
use Rattle.cb_shared.proofs.Rights.{rights_loaded}
use Rattle.cb_shared.proofs.seat_desk.SeatDeskDesk.load_frame.Goals as goal

pub invariant_of-self : goal.invariant_of-self
invariant_of-self g c = let d = c.args.self.now in let z = c.load_words.ensures.still in record {
  table = z.of.table;
  counts = d.counts;
  key = d.key;
  same = z.of.config;
  live = z.of.live;
  may = rights_loaded d.allowed (512 * c.args.frame) c.load_words.new.words d.seat.now
      c.load_words.new.seat c.load_words.ensures.ran.0 d.may;
  holder = z.holds;
  objects = z.sized.objects;
  hots = z.sized.hots;
  versions = z.sized.versions;
  memory = z.sized.memory;
}

pub returns : goal.returns
returns g c = record {
  words = c.load_words.new.words;
  count = c.load_words.ensures.len;
  small = c.load_words.ensures.small;
  made = c.write_u64_into.ensures;
  ran = (c.load_words.ensures.ran, refl, refl, refl);
}
