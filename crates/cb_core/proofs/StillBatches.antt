-- The steps of a batch over a still desk are parts of a turn, after which all is known.
use Rattle.std.proofs.Common.{true, List, sym, subst}
use Rattle.cb_types.specs.declared.config.Config.{Config}
use Rattle.cb_world.specs.FarState.{FarState}
use Rattle.cb_world.specs.Seats.{SeatState}
use Rattle.cb_world.specs.Still.{IsStill}
use Rattle.cb_world.proofs.Laws.{PerformsStill}
use Rattle.cb_evict.specs.AbortRule.{AbortEffect}
use Rattle.cb_evict.specs.AbortStep.{IsAbortStep}
use Rattle.cb_evict.specs.BeginEffect.{BeginEffect}
use Rattle.cb_evict.specs.BeginRule.{BeginRule}
use Rattle.cb_evict.specs.BeginStep.{IsBeginStep}
use Rattle.cb_evict.specs.CommitRule.{CommitEffect}
use Rattle.cb_evict.specs.CommitStep.{IsCommitStep}
use Rattle.cb_evict.specs.ShipRule.{ReadsLeaving, ShipEffect}
use Rattle.cb_evict.specs.ShipStep.{IsShipStep}
use Rattle.cb_evict.proofs.Laws.{aborts_leave_words, begins_leave_words, commits_leave_words, ships_leave_words, abort_keeps, abort_stays, abort_step, begin_keeps, begin_stays, begin_step, commit_keeps, commit_stays, commit_step, ship_keeps, ship_stays, ship_step, ship_stopped}
use Rattle.cb_core.specs.Step.{StillBegin, StillShip, StillCommit, StillAbort, StillShipLacks}
use Rattle.cb_core.specs.Turned.{Begins, Ships, Commits, Aborts, ShipLacks}
use Rattle.cb_core.proofs.KeptParts.{Carries, CarriesLack, arrives_same, arrives_step}
use Rattle.cb_core.proofs.StillOrders.{Ran, SaysAll, performs_orders}
use Rattle.cb_core.proofs.TurnCallsKept.{same_holding}
use Rattle.cb_core.proofs.WordsOwned.{abort_words, begin_words, commit_words, still_words}
use Rattle.cb_core.proofs.WordsTold.{by_words}

pub begin_part : (c : Config) (seats : List SeatState)
    → Carries c seats 1 (Begins Ran SaysAll c) StillBegin
begin_part c seats a b r good p =
    let x = a.desk in let y = b.desk in let far = a.far in let new = b.far in
    let q = subst (λ (d : Config). PerformsStill x y far new (BeginRule far new r)
    (BeginEffect far new r)) (sym good.settings) p in
    arrives_step c seats 1 a b (IsBeginStep x y far new r) good
    (begin_stays c far new r p.events p.rule) q
    (performs_orders a b p
    (λ s k. begins_leave_words s far new true _ r p.events k.sound p.rule)
    (by_words far new p.events (BeginEffect far new r) (begin_words far new true _ r p.events p.rule)))
    (λ s k. begin_step x y far new r s q k)
    (λ z. (begin_keeps x y far new r z).words)

pub ship_part : (c : Config) (seats : List SeatState)
    → Carries c seats 1 (Ships Ran SaysAll) StillShip
ship_part c seats a b r good p =
    let x = a.desk in let y = b.desk in let far = a.far in let new = b.far in
    arrives_step c seats 1 a b (IsShipStep x y far new r) good
    (ship_stays c far new r p.events p.rule) p
    (performs_orders a b p (λ s k. ships_leave_words s far new r k.sound
    (p.effect s ((k.sized, k.shows), k.sound)).ships)
    (by_words far new p.events (ShipEffect far new r) (λ s before behind agree first e.
    still_words far new p.events s before behind agree first e.still))) (λ s k. ship_step x y far new r s p k)
    (λ z. (ship_keeps x y far new r z).words)

-- one that found no memory changed nothing
pub ship_lack : (c : Config) (seats : List SeatState)
    → CarriesLack c seats 1 (ShipLacks Ran SaysAll) StillShipLacks
ship_lack c seats a b good (same, p) =
    let q = subst (λ (f : FarState). PerformsStill a.desk b.desk a.far f (ReadsLeaving a.far) IsStill)
    same p in
    let e = same_holding a b (ship_stopped a.desk b.desk a.far good.shown q good.known) same in
    arrives_same c seats 1 a b (StillShipLacks a b) good e e

pub commit_part : (c : Config) (seats : List SeatState)
    → Carries c seats 1 (Commits Ran SaysAll) StillCommit
commit_part c seats a b r good p =
    let x = a.desk in let y = b.desk in let far = a.far in let new = b.far in
    arrives_step c seats 1 a b (IsCommitStep x y far new r) good
    (commit_stays c good.shown far new r p.events good.known.sound p.rule) p
    (performs_orders a b p (λ s k. commits_leave_words far new r p.events p.rule)
    (by_words far new p.events (CommitEffect far new r) (commit_words far new r p.events p.rule)))
    (λ s k. commit_step x y far new r s p k)
    (λ z. (commit_keeps x y far new r good.shown good.known z).words)

pub abort_part : (c : Config) (seats : List SeatState)
    → Carries c seats 1 (Aborts Ran SaysAll) StillAbort
abort_part c seats a b r good p =
    let x = a.desk in let y = b.desk in let far = a.far in let new = b.far in
    arrives_step c seats 1 a b (IsAbortStep x y far new r) good
    (abort_stays c far new r p.events p.rule) p
    (performs_orders a b p (λ s k. aborts_leave_words s far new r p.events k.sound p.rule)
    (by_words far new p.events (AbortEffect far new) (abort_words far new r p.events p.rule)))
    (λ s k. abort_step x y far new r s p k)
    (λ z. (abort_keeps x y far new r good.shown good.known z).words)
