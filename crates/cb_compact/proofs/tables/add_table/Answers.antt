use Rattle.std.proofs.Common.{sym, subst}
use Rattle.std.specs.Prelude.{All}
use Rattle.std.proofs.lemmas.List.Elements.{All-push}
use Rattle.cb_compact.specs.Tables.{IsTable}
use Rattle.cb_compact.proofs.tables.add_table.Goals as goal

pub returns : goal.returns
returns c =
    subst (All (IsTable c.args.found.now)) (sym c.in_ok-push.ensures.items)
    (All-push (IsTable c.args.found.now) c.args.tables.now.items c.in_ok-table.table
    c.requires.tables c.in_ok-table.ensures)
