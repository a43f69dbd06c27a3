use Rattle.std.proofs.Common.{◌+◌, ◌++◌, take, drop, sym, subst, rules}
use Rattle.std.proofs.lemmas.Result.{err_from_is_err_and}
use Rattle.cb_cli.specs.Fronts.{GetsFront}
use Rattle.cb_cli.specs.Pieces.{joined_pieces}
use Rattle.cb_cli.proofs.PieceFronts.{front_behind, front_of_more, joined_at_item}
use Rattle.cb_cli.proofs.output.put_each.Goals as goal

pub returns-in_err-put_all-clause-front : goal.returns-in_err-put_all-clause-front
returns-in_err-put_all-clause-front g c =
    let held = g.K.Sink.held in
    let old = held c.args.sink.now in
    let new = held c.put_all.new.sink in
    let pieces = c.args.pieces.now in
    let i = c.loop-piece.piece-index in
    let piece = c.piece-item.result in
    let failed = c.from_residual in
    let p = err_from_is_err_and failed.result failed.ensures.1 in
    let front = rw c.as_slice.ensures.items at c.in_err-put_all.ensures.front in
    let so_far = front_behind old (held c.loop-piece.sink) new (joined_pieces (take i pieces)) piece c.loop-piece.invariant.front front in
    let longer = front_of_more old new (joined_pieces (take i pieces) ++ piece) (joined_pieces (drop (i + 1) pieces)) so_far in
    rw (p.1) (subst (GetsFront old new) (sym (joined_at_item pieces i piece (search rules) c.piece-item.is)) longer)
