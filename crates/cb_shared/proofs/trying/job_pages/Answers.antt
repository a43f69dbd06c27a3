use Rattle.std.proofs.Common.{ℕ, List, length, sym, ap, ◌∙◌}
use Rattle.cb_types.specs.declared.job.Job.{Job}
use Rattle.cb_swapin.specs.LandRule.{done_order}
use Rattle.cb_rule.specs.TriesAgain.{job_pages, pages_for}
use Rattle.cb_shared.proofs.Pages.{pages_of_class}
use Rattle.cb_shared.proofs.trying.job_pages.Goals as goal

pub returns-in-Make : goal.returns-in-Make
returns-in-Make c = c.pages.ensures.pages ∙ pages_of_class _ _ c.class_of.ensures
    ∙ ap (λ (bytes : List ℕ). pages_for (length bytes)) c.as_slice.ensures.items
    ∙ ap (λ (job : Job). job_pages c.args.far.now (done_order c.args.order) job) (sym c.in-Make.is)
