use Rattle.std.proofs.Common.{ℕ, List, length, ap, ◌∙◌}
use Rattle.std.specs.List.{slice_get}
use Rattle.cb_world.proofs.Grouped.{among_last, among_more}
use Rattle.cb_world.proofs.groups.Groups.note.Goals as goal

pub returns-clause-noted : goal.returns-clause-noted
returns-clause-noted c known =
    let numbers = c.args.self.now.changed.items in (
      length numbers,
      ap (λ (l : List ℕ). slice_get l (length numbers)) c.push.ensures.items
          ∙ among_last numbers c.args.id,
    )

pub returns-clause-keeps : goal.returns-clause-keeps
returns-clause-keeps c known other (i, at) = (
  i,
  ap (λ (l : List ℕ). slice_get l i) c.push.ensures.items
      ∙ among_more c.args.self.now.changed.items c.args.id i other at,
)
