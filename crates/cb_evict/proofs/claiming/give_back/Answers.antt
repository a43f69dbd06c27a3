use Rattle.cb_evict.proofs.Restores.{claimed_from, back_from}
use Rattle.std.proofs.Common.{sym, ◌∙◌}
use Rattle.cb_evict.proofs.claiming.give_back.Goals as goal

pub restore-requires-clause-claimed : goal.restore-requires-clause-claimed
restore-requires-clause-claimed g c =
    let had = c.requires.held in let sized = g.met.D.Desk.sized _ had.0 had.1 in
    (had.0, had.1, (had.2.0, had.2.1, claimed_from had.0 c.args.formers.now (sized.1 ∙ sym sized.0) had.2.2))

pub returns : goal.returns
returns g c = let r = c.restore.ensures in record {
  events = r.events;
  ran = r.ran;
  touches = r.touches;
  first = r.first;
  done = (
    r.done.0,
    λ s far a sound held.
        let sized = g.met.D.Desk.sized _ s a in
        back_from far r.events s c.args.formers.now held (r.done.1 s far a sound
        (claimed_from s c.args.formers.now (sized.1 ∙ sym sized.0) held)) r.touches r.done.0,
  );
}
