-- A handle may go to another thread: what it holds says the same to every thread.
use denote.Param.Send.{IsSend}
use Rattle.carbink_c.specs.contracts.handle.CarbinkWorld as World
use Rattle.carbink_c.specs.contracts.prepared.CarbinkEncoder as Encoder
use Rattle.carbink_c.proofs.handle.CarbinkWorld.TheSendSync as world
use Rattle.carbink_c.proofs.prepared.CarbinkEncoder.TheSendSync as encoder

pub world_crosses : IsSend World.the_row
world_crosses = world.the_send

pub encoder_crosses : IsSend Encoder.the_row
encoder_crosses = encoder.the_send
