use Rattle.std.proofs.Common.{get_or, sym, subst, arith}
use Rattle.std.proofs.lemmas.Option.{slice_get-get_or}
use Rattle.cb_compact.specs.declared.candidates.Candidate.{Candidate}
use Rattle.cb_compact.specs.Tables.{AreTables}
use Rattle.cb_compact.proofs.tables.tables_of.Goals as goal

abbrev none_here : Candidate
none_here = record { id = 0; k = 0; r = 0; pages = 0; live = 0 }

pub loop-candidate-init : goal.loop-candidate-init
loop-candidate-init c =
    subst (AreTables c.args.found.now) (sym c.new-tables.ensures.items)
    (λ k d l. absurd (omega (arith, l)))

pub add_table-requires-clause-few : goal.add_table-requires-clause-few
add_table-requires-clause-few c =
    let found = c.args.found.now in let i = c.loop-candidate.candidate-index in
    (c.requires.masks i (get_or found i none_here)
    (slice_get-get_or found i none_here c.loop-candidate-test.true)).0
