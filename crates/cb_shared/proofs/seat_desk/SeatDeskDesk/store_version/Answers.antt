use Rattle.std.proofs.Common.{◌+◌, ℕ, refl, sym, ap, subst, arith}
use Rattle.cb_world.specs.declared.access.Access.TheVariants.{Stamped}
use Rattle.cb_world.specs.declared.shown.Shown.{Shown}
use Rattle.cb_world.specs.Shown.{IsHeld, object_at}
use Rattle.cb_shared.specs.SeatLaws.{holds_still}
use Rattle.cb_shared.specs.Seats.{record_at}
use Rattle.cb_shared.proofs.Alone.{stamps_at}
use Rattle.cb_shared.proofs.Rights.{holds_of, rights_moved, rights_within}
use Rattle.cb_shared.proofs.seat_desk.SeatDeskDesk.store_version.Goals as goal

pub store-requires : goal.store-requires
store-requires g c = let d = c.args.self.now in let l = c.requires.handle in let o = c.requires.held in (
  d.table,
  (let z = d.counts in omega (arith, z, l)),
  stamps_at d.top.now.key.first d.config _ d.key _ _ _ d.live d.holder _ _ l d.objects
      (subst (λ (s : Shown). IsHeld (object_at s c.args.h.n)) o.1 o.2)
      (rights_within d.allowed c.args.h.n (record_at d.seat.now).known (record_at d.seat.now)
      c.stay_within.ensures d.may),
)

pub invariant_of-self : goal.invariant_of-self
invariant_of-self g c = let d = c.args.self.now in let x = c.store.ensures in
    let y = x.2 c.args.h.n (ap (λ (n : ℕ). 1 + n + c.args.h.n) (sym d.objects)) in
    let z = holds_still d.top.now.table_id d.top.now.key d.config d.seat.now c.store.new.seat
    (Stamped c.args.h.n c.args.version) (holds_of d.top.now.table_id d.top.now.key d.config d.seat.now
    d.table d.counts d.key d.same d.live d.holder d.objects d.hots d.versions d.memory) ((x.0, x.1, y.0), y.1) in record {
      table = z.of.table;
      counts = d.counts;
      key = d.key;
      same = z.of.config;
      live = z.of.live;
      may = rights_moved d.allowed (Stamped c.args.h.n c.args.version) d.seat.now
          c.store.new.seat ((x.0, x.1, y.0), y.1) tt d.may;
      holder = z.holds;
      objects = z.sized.objects;
      hots = z.sized.hots;
      versions = z.sized.versions;
      memory = z.sized.memory;
    }

pub returns : goal.returns
returns g c = let d = c.args.self.now in let x = c.store.ensures in
    let y = x.2 c.args.h.n (ap (λ (n : ℕ). 1 + n + c.args.h.n) (sym d.objects)) in
    (((x.0, x.1, y.0), (y.1, tt), tt, (tt, tt)), refl, refl, refl)
