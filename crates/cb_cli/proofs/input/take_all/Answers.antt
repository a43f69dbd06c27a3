use Rattle.std.proofs.Common.{◌++◌, take, arith, length-append, length-take}
use Rattle.cb_cli.proofs.Streams.{Consumes-then}
use Rattle.cb_cli.proofs.input.take_all.Goals as goal

-- the piece for which there was no memory was taken too
pub returns-in_err-extend_from_slice-in-Got-clause-most :
    goal.returns-in_err-extend_from_slice-in-Got-clause-most
returns-in_err-extend_from_slice-in-Got-clause-most g c =
    let left = g.S.Source.left in
    let piece = take c.in-Got.count c.take.new.buf in (
      c.takes.bytes.items ++ piece,
      Consumes-then (left c.args.source.now) (left c.takes.source) (left c.take.new.self) c.takes.bytes.items piece c.takes.invariant.taken c.in-Got.ensures.bytes,
      omega (arith, length-append c.takes.bytes.items piece, length-take c.in-Got.count c.take.new.buf, c.in-Got.ensures.room, c.take.auto.buf, length-take c.min-most.result c.takes.piece, c.min-most.ensures, c.len-in-takes.ensures, c.takes.bytes.ok),
    )
