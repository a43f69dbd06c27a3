-- Worked records that got one turn of a pin.
use Rattle.std.proofs.Common.{◌≡◌, List, [], ◌∷◌, refl, sym, ap, ◌∙◌, subst}
use Rattle.std.proofs.lemmas.Bool.{eqb-false}
use Rattle.std.proofs.lemmas.List.{append_cancel_right}
use Rattle.cb_types.specs.declared.job.Job.TheVariants as job
use Rattle.cb_types.specs.Jobs.{job_index}
use Rattle.cb_rule.specs.declared.turn.Turn.{Turn}
use Rattle.cb_rule.specs.declared.view.View.{View}
use Rattle.cb_shared.specs.Calls.{the_handle}
use Rattle.cb_shared.specs.Fetching.{AreBringing, GetsTurns}

one_turn : (P : List Turn → Type 0) (t : Turn) (v w : View) → w.turns ≡ t ∷ v.turns
    → GetsTurns P v w → P (t ∷ [])
one_turn P t v w got (ts, is, of) =
    subst P (append_cancel_right ts (t ∷ []) v.turns (sym is ∙ got)) of

pub gets_a_fetch : (t : Turn) (v w : View) → w.turns ≡ t ∷ v.turns
    → t.job ≡ job.Fetch (the_handle 1) → GetsTurns (AreBringing 1) v w
gets_a_fetch t v w got is = (t ∷ [], got, (is, tt))

pub gets_a_swap : (t : Turn) (v w : View) → w.turns ≡ t ∷ v.turns
    → t.job ≡ job.Swap (the_handle 1) → GetsTurns (AreBringing 1) v w → ⊥
gets_a_swap t v w got is x = eqb-false 4 21 refl
    (ap job_index (sym is ∙ (one_turn (AreBringing 1) t v w got x).0))
