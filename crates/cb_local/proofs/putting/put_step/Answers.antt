use Rattle.std.proofs.Common.{sym, ◌∙◌, arith}
use Rattle.std.proofs.lemmas.Result.{on_ok_weaker}
use Rattle.cb_local.proofs.PutStep.{at_fresh, at_keys, at_next, at_old, at_room, at_sound, at_there, in_word, put_one, put_past}
use Rattle.cb_local.proofs.putting.put_step.Goals as goal

pub returns-then-not-undone_at-clause-put : goal.returns-then-not-undone_at-clause-put
returns-then-not-undone_at-clause-put c s begun first a b x within =
    put_past c.args.done.now s begun first a b c.args.far.now c.args.position x
    (sym (c.undone_at.ensures x.taken.pair a b
    (at_fresh c.args.done.now s begun first a b c.args.far.now c.args.position x))
    ∙ c.if-not-undone_at.true)

pub merged_row-requires-clause-within : goal.merged_row-requires-clause-within
merged_row-requires-clause-within c =
    let q = c.requires.put in let x = q.5 in
    let undone = sym (c.undone_at.ensures x.taken.pair q.3 q.4
    (at_fresh c.args.done.now q.0 q.1 q.2 q.3 q.4 c.args.far.now c.args.position x))
    ∙ c.if-not-undone_at.false in
    in_word c.args.done.now q.0 q.1 q.2 q.3 q.4 c.args.far.now c.args.position x q.6 undone

pub take_row-requires-clause-sound : goal.take_row-requires-clause-sound
take_row-requires-clause-sound c =
    let q = c.requires.put in
    (q.0, (at_sound c.args.done.now q.0 q.1 q.2 q.3 q.4 c.args.far.now c.args.position q.5).away)

pub take_row-requires-clause-next : goal.take_row-requires-clause-next
take_row-requires-clause-next c =
    let q = c.requires.put in let x = q.5 in let done = c.args.done.now in
    let far = c.args.far.now in let n = c.args.position in
    let fresh = at_fresh done q.0 q.1 q.2 q.3 q.4 far n x in
    let undone =
    sym (c.undone_at.ensures x.taken.pair q.3 q.4 fresh) ∙ c.if-not-undone_at.false in (
      x.taken.pair,
      q.3,
      q.4,
      at_old done q.0 q.1 q.2 q.3 q.4 far n x q.6 undone,
      fresh,
      at_next done q.0 q.1 q.2 q.3 q.4 far n x q.6 undone,
      at_there done q.0 q.1 q.2 q.3 q.4 far n x q.6 undone,
      at_room done q.0 q.1 q.2 q.3 q.4 far n x q.6 undone,
    )

pub take_row-requires-clause-keys : goal.take_row-requires-clause-keys
take_row-requires-clause-keys c =
    let q = c.requires.put in
    let l = at_keys c.args.done.now q.0 q.1 q.2 q.3 q.4 c.args.far.now c.args.position q.5 q.6 in
    omega (arith, l)

pub returns-clause-put : goal.returns-clause-put
returns-clause-put c =
    on_ok_weaker c.take_row.result (λ step s begun first a b x within.
    let done = c.args.done.now in let far = c.args.far.now in let n = c.args.position in
    let fresh = at_fresh done s begun first a b far n x in
    let undone = sym (c.undone_at.ensures x.taken.pair a b fresh) ∙ c.if-not-undone_at.false in
    put_one done s begun first a b far n x within undone c.take_row.new.far c.merged_row.result.now
    c.merged_row.ensures
    (step x.taken.pair (at_old done s begun first a b far n x within undone) fresh.was
    (at_there done s begun first a b far n x within undone))) c.take_row.ensures.step
