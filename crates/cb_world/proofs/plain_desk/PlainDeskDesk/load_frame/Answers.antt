use Rattle.std.proofs.Common.{◌*◌, ◌<◌, sym, subst, arith}
use Rattle.cb_world.specs.Memory.{window}
use Rattle.cb_world.specs.Plain.{Words}
use Rattle.cb_world.specs.StillDesk.{window_length}
use Rattle.cb_world.proofs.FrameRuns.{loads_run}
use Rattle.cb_world.proofs.plain_desk.PlainDeskDesk.load_frame.Goals as goal

pub load_frame-requires : goal.load_frame-requires
load_frame-requires c = record {
  frame = let sized = c.self.invariant.memory in
      let f = subst (λ (d : Words). c.args.frame < d.settings.frames) (sym c.self.view_is)
      c.requires.frame in
      omega (arith, sized, f);
  row = c.requires.row;
}

pub returns : goal.returns
returns c = let memory = c.self.inside.memory in let first = 512 * c.args.frame in record {
  words = window memory first 512;
  count = window_length memory first 512;
  small = c.load_frame.ensures.small;
  made = c.load_frame.ensures.row;
  ran = loads_run _ _ first 512 c.load_frame.new.self c.self.view_is c.load_frame.ensures.unchanged;
}
