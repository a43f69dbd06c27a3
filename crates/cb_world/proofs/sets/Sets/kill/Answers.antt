use Rattle.std.proofs.Common.{ap}
use Rattle.cb_set.specs.SetState.{dead_position, with_position}
use Rattle.cb_world.specs.Sets.{Kept}
use Rattle.cb_world.proofs.Grouped.{beside_changed, noted_stays}
use Rattle.cb_world.proofs.sets.Sets.kill.Goals as goal

pub invariant_of-self : goal.invariant_of-self
invariant_of-self c known =
    let old = c.self.inside in let noted = c.note.new.self in
    let same = beside_changed old.table c.kill.new.self c.args.id (λ (kept : Kept). record kept {
      set = with_position kept.set c.args.position dead_position;
    }) c.kill.ensures.killed c.kill.ensures.none in
    noted_stays old.table c.kill.new.self old.groups.list.items noted.list.items
    old.groups.changed.items noted.changed.items c.args.id same
    (c.self.invariant (c.note.ensures.was known)) (ap (λ v. v.items) (c.note.ensures.list known))
    (c.note.ensures.noted known) (c.note.ensures.keeps known)
