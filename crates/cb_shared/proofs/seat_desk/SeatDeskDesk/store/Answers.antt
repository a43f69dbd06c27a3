use Rattle.std.proofs.Common.{◌+◌, ℕ, refl, sym, ap, subst, arith}
use Rattle.cb_world.specs.declared.access.Access.TheVariants.{Stored}
use Rattle.cb_world.specs.declared.shown.Shown.{Shown}
use Rattle.cb_world.specs.Shown.{Owns}
use Rattle.cb_shared.specs.SeatLaws.{holds_still}
use Rattle.cb_shared.proofs.Alone.{stores_at}
use Rattle.cb_shared.proofs.Rights.{holds_of, rights_moved}
use Rattle.cb_shared.proofs.seat_desk.SeatDeskDesk.store.Goals as goal

pub store-requires : goal.store-requires
store-requires g c = let d = c.args.self.now in let l = c.requires.place in let o = c.requires.owned in (
  d.table,
  (let z = d.counts in omega (arith, z, l)),
  stores_at d.top.now.key.first d.config _ d.key _ _ _ d.live d.holder _ _ l d.objects
      (subst (λ (s : Shown). Owns s c.args.place) o.1 o.2),
)

pub invariant_of-self : goal.invariant_of-self
invariant_of-self g c = let d = c.args.self.now in let x = c.store.ensures in
    let y = x.2 c.args.place (ap (λ (n : ℕ). 1 + n + n + c.args.place) (sym d.objects)) in
    let z = holds_still d.top.now.table_id d.top.now.key d.config d.seat.now c.store.new.seat
    (Stored c.args.place c.args.word) (holds_of d.top.now.table_id d.top.now.key d.config d.seat.now
    d.table d.counts d.key d.same d.live d.holder d.objects d.hots d.versions d.memory) ((x.0, x.1, y.0), y.1) in record {
      table = z.of.table;
      counts = d.counts;
      key = d.key;
      same = z.of.config;
      live = z.of.live;
      may = rights_moved d.allowed (Stored c.args.place c.args.word) d.seat.now
          c.store.new.seat ((x.0, x.1, y.0), y.1) tt d.may;
      holder = z.holds;
      objects = z.sized.objects;
      hots = z.sized.hots;
      versions = z.sized.versions;
      memory = z.sized.memory;
    }

pub returns : goal.returns
returns g c = let d = c.args.self.now in let x = c.store.ensures in
    let y = x.2 c.args.place (ap (λ (n : ℕ). 1 + n + n + c.args.place) (sym d.objects)) in
    (((x.0, x.1, y.0), (y.1, tt), tt, (tt, tt)), refl, refl, refl)
