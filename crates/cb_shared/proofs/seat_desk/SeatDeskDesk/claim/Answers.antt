use Rattle.std.proofs.Common.{ℕ, [], ◌∷◌, ◌∙◌, refl, subst, arith}
use Rattle.cb_world.specs.declared.access.Access.TheVariants.{Looked}
use Rattle.cb_rule.specs.Steps.{TellsPins}
use Rattle.cb_shared.specs.SeatLaws.{Runs}
use Rattle.cb_shared.specs.Seats.{record_at}
use Rattle.cb_shared.proofs.Alone.{takes_claim_at}
use Rattle.cb_shared.proofs.Rights.{claim_holds, claim_lost, claim_won, holds_of, raced_is}
use Rattle.cb_shared.proofs.Rights.{rights_claimed}
use Rattle.cb_shared.proofs.seat_desk.SeatDeskDesk.claim.Goals as goal

pub compare_exchange-found-requires : goal.compare_exchange-found-requires
compare_exchange-found-requires g c = let d = c.args.self.now in let l = c.requires.handle in (
  d.table,
  (let z = d.counts in omega (arith, z, l)),
  takes_claim_at d.top.now.key.first d.config _ d.key _ _ _ d.live d.holder _ _ _ l c.requires.here
      c.requires.no_pins c.claimed-claimed.ensures.number,
)

pub invariant_of-self : goal.invariant_of-self
invariant_of-self g c = let d = c.args.self.now in let x = c.compare_exchange-found.ensures in
    let q = c.compare_exchange-found.new.seat in let n = c.compare_exchange-found.result in
    let y = x.2 c.args.h.n refl in
    let won = claim_won c.args.h.n c.args.saw n d.seat.now q x.0 x.1 y.0 in
    let lost = claim_lost c.args.h.n c.args.saw n d.seat.now q x.0 x.1 y.1 in
    let z = claim_holds d.top.now.table_id d.top.now.key d.config c.args.h.n c.args.saw n d.seat.now q
    won lost (holds_of d.top.now.table_id d.top.now.key d.config d.seat.now d.table d.counts d.key
    d.same d.live d.holder d.objects d.hots d.versions d.memory) in record {
      table = z.of.table;
      counts = d.counts;
      key = d.key;
      same = z.of.config;
      live = z.of.live;
      may = rights_claimed d.allowed c.args.h.n c.args.saw n d.seat.now q won lost d.may;
      holder = z.holds;
      objects = z.sized.objects;
      hots = z.sized.hots;
      versions = z.sized.versions;
      memory = z.sized.memory;
    }

pub returns-then-found-saw-clause-won : goal.returns-then-found-saw-clause-won
returns-then-found-saw-clause-won g c _ = let x = c.compare_exchange-found.ensures in
    let p = c.args.self.now.seat.now in let y = x.2 c.args.h.n refl in
    let w = claim_won c.args.h.n c.args.saw c.compare_exchange-found.result p
    c.compare_exchange-found.new.seat x.0 x.1 y.0 c.if-found-saw.true in
    let pins = subst (λ (n : ℕ). TellsPins c.args.h.n n (record_at p)) c.if-found-saw.true y.2 in
    (w.0, w.1, ((w.2.0, (w.2.1, tt), tt, (pins, tt)), refl, refl, refl))

pub returns-else-found-saw-clause-raced : goal.returns-else-found-saw-clause-raced
returns-else-found-saw-clause-raced g c found e = let x = c.compare_exchange-found.ensures in
    let p = c.args.self.now.seat.now in let q = c.compare_exchange-found.new.seat in
    let n = c.compare_exchange-found.result in let y = x.2 c.args.h.n refl in
    let l = claim_lost c.args.h.n c.args.saw n p q x.0 x.1 y.1 c.if-found-saw.false in
    let is = raced_is n found e in (
      (λ same. c.if-found-saw.false (is ∙ same)),
      (
        subst (λ (m : ℕ). Runs p (Looked c.args.h.n m ∷ []) q) is
            (l.0, (l.1, tt), tt, (y.2, tt)),
        refl,
        refl,
        refl,
      ),
    )
