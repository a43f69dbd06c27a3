use Rattle.std.proofs.Common.{length, sym, ap, ◌∙◌, subst}
use Rattle.std.proofs.lemmas.List.{with_items_is}
use Rattle.cb_compact.specs.Tables.{IsFilled}
use Rattle.cb_compact.proofs.tables.table_of.Goals as goal

pub returns : goal.returns
returns c =
    let made = c.in_ok-marks.marks in let marks = c.fill.new.marks in
    let same = with_items_is made marks
    (c.fill.auto.marks ∙ ap length c.deref_mut.ensures.value ∙ sym made.ok.0) in
    record {
      size = ap length same ∙ c.fill.ensures.size;
      marked = subst (IsFilled c.args.found.now c.args.k c.args.r c.args.pages) (sym same)
          c.fill.ensures.marked;
    }
