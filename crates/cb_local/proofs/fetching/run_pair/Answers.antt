use Rattle.std.proofs.Common.{sym, subst}
use Rattle.cb_set.specs.SetState.{parities}
use Rattle.cb_compact.proofs.Laws.{table_exists}
use Rattle.cb_local.specs.declared.order.DeltaOrder.{DeltaOrder}
use Rattle.cb_local.specs.Delta.{HasItsParities}
use Rattle.cb_local.specs.Words.{AreMergedParities}
use Rattle.cb_local.specs.Fetching.{IsOrderFetched, rows_given}
use Rattle.cb_local.proofs.Fetched.{pair_rows}
use Rattle.cb_local.proofs.fetching.run_pair.Goals as goal

pub run_delta-requires : goal.run_delta-requires
run_delta-requires c = let x = c.requires.ready in
    (c.in_ok-order.ensures.order x.1 x.2 x.3 x.4.fresh).order_is

pub returns-in-Ok-clause-made : goal.returns-in-Ok-clause-made
returns-in-Ok-clause-made c pair a b fresh =
    let same = sym c.in-Ok.ensures.order in
    let fetched = subst (IsOrderFetched c.args.far.now pair a b) same
    (c.in_ok-order.ensures.order pair a b fresh) in
    let range = fetched.order_is.range in
    let table = table_exists _ _ range in
    record {
      fetched = fetched;
      count = ((subst (λ (o : DeltaOrder). HasItsParities o c.in-Ok.done.parities) same
          c.in-Ok.ensures.done) table.0 table.1).count;
      parities_are = subst (λ (o : DeltaOrder). AreMergedParities o c.in-Ok.done.parities) same
          c.in-Ok.ensures.merged;
    }

pub returns-clause-error : goal.returns-clause-error
returns-clause-error c =
    let x = c.requires.ready in (
      rows_given x.1.taken (parities x.2),
      pair_rows x.0 c.args.far.now x.1 x.2 x.3 x.4,
      c.in_ok-order.ensures.far x.1 x.2 x.3 x.4.fresh,
    )
