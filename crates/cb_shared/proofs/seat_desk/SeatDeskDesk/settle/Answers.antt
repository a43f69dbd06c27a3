use Rattle.std.proofs.Common.{List, refl, sym, subst, append-nil, arith}
use Rattle.cb_world.specs.declared.access.Access.TheVariants.{Settled}
use Rattle.cb_world.specs.declared.shown.Shown.{Shown}
use Rattle.cb_world.specs.Settling.{MaySettle}
use Rattle.cb_world.specs.declared.entry.Entry.{Entry}
use Rattle.cb_world.specs.Written.{adds}
use Rattle.cb_rule.specs.Steps.{AreNew}
use Rattle.cb_shared.specs.SeatLaws.{holds_still}
use Rattle.cb_shared.specs.Seats.{record_at}
use Rattle.cb_shared.proofs.Alone.{settles_at}
use Rattle.cb_shared.proofs.Rights.{holds_of, rights_moved}
use Rattle.cb_shared.proofs.seat_desk.SeatDeskDesk.settle.Goals as goal

pub store-requires : goal.store-requires
store-requires g c = let d = c.args.self.now in let l = c.requires.handle in let o = c.requires.may in (
  d.table,
  (let z = d.counts in omega (arith, z, l)),
  settles_at d.top.now.key.first d.config _ d.key _ _ _ d.live d.holder _ _ l
      (subst (λ (s : Shown). MaySettle s c.args.h.n c.args.word) o.1 o.2),
)

pub invariant_of-self : goal.invariant_of-self
invariant_of-self g c = let d = c.args.self.now in let x = c.store.ensures in
    let y = x.2 c.args.h.n refl in
    let z = holds_still d.top.now.table_id d.top.now.key d.config d.seat.now c.store.new.seat
    (Settled c.args.h.n c.args.word) (holds_of d.top.now.table_id d.top.now.key d.config d.seat.now
    d.table d.counts d.key d.same d.live d.holder d.objects d.hots d.versions d.memory) ((x.0, x.1, y.0.0), y.0.1) in record {
      table = z.of.table;
      counts = d.counts;
      key = d.key;
      same = z.of.config;
      live = z.of.live;
      may = rights_moved d.allowed (Settled c.args.h.n c.args.word) d.seat.now
          c.store.new.seat ((x.0, x.1, y.0.0), y.0.1) (let o = c.requires.may in
          subst (λ (s : Shown). MaySettle s c.args.h.n c.args.word) o.1 o.2) d.may;
      holder = z.holds;
      objects = z.sized.objects;
      hots = z.sized.hots;
      versions = z.sized.versions;
      memory = z.sized.memory;
    }

pub returns : goal.returns
returns g c = let d = c.args.self.now in let x = c.store.ensures in
    let y = x.2 c.args.h.n refl in
    let new = subst (λ (l : List Entry). AreNew l (record_at d.seat.now))
    (sym (append-nil (adds (Settled c.args.h.n c.args.word) (record_at d.seat.now).known))) y.1 in
    (((x.0, x.1, y.0.0), (y.0.1, tt), new, (tt, tt)), refl, refl, refl)
