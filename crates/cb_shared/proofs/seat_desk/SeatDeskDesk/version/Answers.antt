use Rattle.std.proofs.Common.{◌+◌, ℕ, refl, sym, ap, arith}
use Rattle.cb_world.specs.declared.access.Access.TheVariants.{Told}
use Rattle.cb_shared.specs.SeatLaws.{holds_still}
use Rattle.cb_shared.proofs.Alone.{tells_at}
use Rattle.cb_shared.proofs.Rights.{holds_of, rights_moved}
use Rattle.cb_shared.proofs.seat_desk.SeatDeskDesk.version.Goals as goal

pub load-requires : goal.load-requires
load-requires g c = let d = c.args.self.now in let l = c.requires in (
  d.table,
  (let z = d.counts in omega (arith, z, l)),
  tells_at d.top.now.key.first d.config _ d.key _ _ _ d.live d.holder _ c.requires d.objects,
)

pub invariant_of-self : goal.invariant_of-self
invariant_of-self g c = let d = c.args.self.now in let x = c.load.ensures in
    let y = x.2 c.args.h.n (ap (λ (n : ℕ). 1 + n + c.args.h.n) (sym d.objects)) in
    let z = holds_still d.top.now.table_id d.top.now.key d.config d.seat.now c.load.new.seat
    (Told c.args.h.n c.load.result) (holds_of d.top.now.table_id d.top.now.key d.config d.seat.now
    d.table d.counts d.key d.same d.live d.holder d.objects d.hots d.versions d.memory) ((x.0, x.1, y.0), y.1) in record {
      table = z.of.table;
      counts = d.counts;
      key = d.key;
      same = z.of.config;
      live = z.of.live;
      may = rights_moved d.allowed (Told c.args.h.n c.load.result) d.seat.now
          c.load.new.seat ((x.0, x.1, y.0), y.1) tt d.may;
      holder = z.holds;
      objects = z.sized.objects;
      hots = z.sized.hots;
      versions = z.sized.versions;
      memory = z.sized.memory;
    }

pub returns : goal.returns
returns g c = let d = c.args.self.now in let x = c.load.ensures in
    let y = x.2 c.args.h.n (ap (λ (n : ℕ). 1 + n + c.args.h.n) (sym d.objects)) in
    (((x.0, x.1, y.0), (y.1, tt), tt, (tt, tt)), refl, refl, refl)
