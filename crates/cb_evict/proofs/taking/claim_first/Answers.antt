use Rattle.std.proofs.lemmas.Result.{IfOk-from_err}
use Rattle.std.proofs.Common.{ap, arith}
use Rattle.cb_member.specs.declared.names.Code.{Code}
use Rattle.cb_world.specs.Played.{played}
use Rattle.cb_evict.proofs.Composed.{any_err}
use Rattle.cb_evict.proofs.TakenLengths.{four_sound, past_four, past_two, takes_four, takes_none, takes_one, takes_two, two_sound}
use Rattle.cb_evict.proofs.Standing.{are_unique}
use Rattle.cb_evict.proofs.CallParts.{joins}
use Rattle.cb_evict.proofs.taking.claim_first.Goals as goal

pub returns-in_err-frames-clause-error : goal.returns-in_err-frames-clause-error
returns-in_err-frames-clause-error g c = any_err _ _ (g.met.D.Desk.none _)

pub returns-in_err-formers-clause-error : goal.returns-in_err-formers-clause-error
returns-in_err-formers-clause-error g c = any_err _ _ (g.met.D.Desk.none _)

pub returns-in_err-frames-clause-taken : goal.returns-in_err-frames-clause-taken
returns-in_err-frames-clause-taken g c = IfOk-from_err _ _ c.from_residual.ensures.0

pub returns-in_err-formers-clause-taken : goal.returns-in_err-formers-clause-taken
returns-in_err-formers-clause-taken g c = IfOk-from_err _ _ c.from_residual-in_err-formers.ensures.0

pub returns-then-fours-k-clause-taken : goal.returns-then-fours-k-clause-taken
returns-then-fours-k-clause-taken g c =
    let k = ap (λ (n : Code). n.k) c.in_force-k.ensures in
    takes_four c.args.far.now c.args.loose.now c.requires.among c.requires.room
    c.claim_length-fours.ensures.claims (omega (arith, k, c.if-fours-k.true))

pub claim_length-twos-requires-clause-sound : goal.claim_length-twos-requires-clause-sound
claim_length-twos-requires-clause-sound g c =
    let far = c.args.far.now in let was = c.args.loose.now in let s = c.requires.sound.0 in
    let among = c.requires.among in let room = c.requires.room in
    let k = ap (λ (n : Code). n.k) c.in_force-k.ensures in
    let four = past_four far was among room c.claim_length-fours.ensures.claims
    (λ e. omega (arith, e, k, c.if-fours-k.false)) in (
      played four.tried.events s,
      (g.met.D.Desk.follows _ _ four.tried.events s four.tried.ran c.requires.sound.1).1,
      four_sound among four s c.requires.sound.1 c.requires.sound.2,
    )

pub returns-then-twos-k-clause-taken : goal.returns-then-twos-k-clause-taken
returns-then-twos-k-clause-taken g c =
    let far = c.args.far.now in let was = c.args.loose.now in let s = c.requires.sound.0 in
    let among = c.requires.among in let room = c.requires.room in
    let k = ap (λ (n : Code). n.k) c.in_force-k.ensures in
    let four = past_four far was among room c.claim_length-fours.ensures.claims
    (λ e. omega (arith, e, k, c.if-fours-k.false)) in
    let sized = g.met.D.Desk.sized _ s c.requires.sound.1 in
    let unique = are_unique far s _ c.requires.sound.2.here sized.0 in
    takes_two far was among room _ unique (joins (λ es fs a b. g.met.D.Desk.more _ _ _ _ _ a b)
    (λ es s ran a. (g.met.D.Desk.follows _ _ es s ran a).1)) four c.claim_length-twos.ensures.claims
    (omega (arith, k, c.if-twos-k.true))

pub claim_length-ones-requires-clause-sound : goal.claim_length-ones-requires-clause-sound
claim_length-ones-requires-clause-sound g c =
    let far = c.args.far.now in let was = c.args.loose.now in let s = c.requires.sound.0 in
    let among = c.requires.among in let room = c.requires.room in
    let k = ap (λ (n : Code). n.k) c.in_force-k.ensures in
    let four = past_four far was among room c.claim_length-fours.ensures.claims
    (λ e. omega (arith, e, k, c.if-fours-k.false)) in
    let sized = g.met.D.Desk.sized _ s c.requires.sound.1 in
    let unique = are_unique far s _ c.requires.sound.2.here sized.0 in
    let two = past_two far was among room
    {runsC = λ es. g.D.Desk.run c.args.desk.now es c.claim_length-twos.new.desk} _ unique (joins (λ es fs a b. g.met.D.Desk.more _ _ _ _ _ a b)
    (λ es s ran a. (g.met.D.Desk.follows _ _ es s ran a).1)) four c.claim_length-twos.ensures.claims
    (λ e. omega (arith, e, k, c.if-twos-k.false)) in (
      played two.tried.events s,
      (g.met.D.Desk.follows _ _ two.tried.events s two.tried.ran c.requires.sound.1).1,
      two_sound among two s c.requires.sound.1 c.requires.sound.2,
    )

pub returns-then-ones-k-clause-taken : goal.returns-then-ones-k-clause-taken
returns-then-ones-k-clause-taken g c =
    let far = c.args.far.now in let was = c.args.loose.now in let s = c.requires.sound.0 in
    let among = c.requires.among in let room = c.requires.room in
    let k = ap (λ (n : Code). n.k) c.in_force-k.ensures in
    let four = past_four far was among room c.claim_length-fours.ensures.claims
    (λ e. omega (arith, e, k, c.if-fours-k.false)) in
    let sized = g.met.D.Desk.sized _ s c.requires.sound.1 in
    let unique = are_unique far s _ c.requires.sound.2.here sized.0 in
    let two = past_two far was among room
    {runsC = λ es. g.D.Desk.run c.args.desk.now es c.claim_length-twos.new.desk} _ unique (joins (λ es fs a b. g.met.D.Desk.more _ _ _ _ _ a b)
    (λ es s ran a. (g.met.D.Desk.follows _ _ es s ran a).1)) four c.claim_length-twos.ensures.claims
    (λ e. omega (arith, e, k, c.if-twos-k.false)) in
    takes_one far was among room _ unique (joins (λ es fs a b. g.met.D.Desk.more _ _ _ _ _ a b)
    (λ es s ran a. (g.met.D.Desk.follows _ _ es s ran a).1)) two c.claim_length-ones.ensures.claims
    (omega (arith, k, c.if-ones-k.true))

pub returns-clause-taken : goal.returns-clause-taken
returns-clause-taken g c =
    let far = c.args.far.now in let was = c.args.loose.now in let s = c.requires.sound.0 in
    let among = c.requires.among in let room = c.requires.room in
    let k = ap (λ (n : Code). n.k) c.in_force-k.ensures in
    let four = past_four far was among room c.claim_length-fours.ensures.claims
    (λ e. omega (arith, e, k, c.if-fours-k.false)) in
    let sized = g.met.D.Desk.sized _ s c.requires.sound.1 in
    let unique = are_unique far s _ c.requires.sound.2.here sized.0 in
    let two = past_two far was among room
    {runsC = λ es. g.D.Desk.run c.args.desk.now es c.claim_length-twos.new.desk} _ unique (joins (λ es fs a b. g.met.D.Desk.more _ _ _ _ _ a b)
    (λ es s ran a. (g.met.D.Desk.follows _ _ es s ran a).1)) four c.claim_length-twos.ensures.claims
    (λ e. omega (arith, e, k, c.if-twos-k.false)) in
    takes_none far was among room _ unique (joins (λ es fs a b. g.met.D.Desk.more _ _ _ _ _ a b)
    (λ es s ran a. (g.met.D.Desk.follows _ _ es s ran a).1)) two c.claim_length-ones.ensures.claims
    _ _ (λ e. omega (arith, e, k, c.if-ones-k.false))
    (omega (arith, c.max.ensures, c.max-most.ensures)) c.requires.nodes

pub claim_length-fours-requires-clause-there : goal.claim_length-fours-requires-clause-there
claim_length-fours-requires-clause-there g c = c.requires.counts.fours

pub claim_length-twos-requires-clause-there : goal.claim_length-twos-requires-clause-there
claim_length-twos-requires-clause-there g c = c.requires.counts.twos

pub claim_length-ones-requires-clause-there : goal.claim_length-ones-requires-clause-there
claim_length-ones-requires-clause-there g c = c.requires.counts.ones
