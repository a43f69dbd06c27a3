use Rattle.std.proofs.Common.{List, sym, subst}
use Rattle.cb_compact.specs.declared.candidates.Candidate.{Candidate}
use Rattle.cb_compact.specs.Candidates.{AreSeen}
use Rattle.cb_compact.proofs.Choosing.{seen_more}
use Rattle.cb_compact.proofs.Groups.{group_cmp, same_group}
use Rattle.cb_compact.proofs.candidates.add_new.Goals as goal

pub returns-clause-seen : goal.returns-clause-seen
returns-clause-seen c =
    subst (λ (l : List Candidate). AreSeen group_cmp l c.insert.new.self)
    (sym c.in_ok-push.ensures.items)
    (seen_more group_cmp c.args.found.now.items c.args.candidate c.args.seen.now c.insert.new.self
    same_group c.requires.seen (rw c.group_of.ensures at c.in_ok-insert.ensures.updates).0)
