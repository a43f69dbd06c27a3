use Rattle.std.proofs.Common.{ap}
use Rattle.cb_world.proofs.Grouped.{beside_tried, noted_stays}
use Rattle.cb_world.proofs.sets.Sets.put.Goals as goal

pub invariant_of-self : goal.invariant_of-self
invariant_of-self c known =
    let old = c.self.inside in let noted = c.note.new.self in
    let same = beside_tried old.table c.put.new.self c.args.id c.args.kept c.put.result c.put.ensures.ok c.put.ensures.err in
    noted_stays old.table c.put.new.self old.groups.list.items noted.list.items
    old.groups.changed.items noted.changed.items c.args.id same
    (c.self.invariant (c.note.ensures.was known)) (ap (λ v. v.items) (c.note.ensures.list known))
    (c.note.ensures.noted known) (c.note.ensures.keeps known)
