use Rattle.std.proofs.Common.{List, sym, subst, rules}
use Rattle.std.specs.List.Sorted.{IsPermutation}
use Rattle.std.proofs.lemmas.List.Sorted.{IsNonDecreasingBy-from_sort_by_key}
use Rattle.cb_member.specs.declared.names.Loss.{Loss}
use Rattle.cb_app.specs.Threaded.{AreLosses}
use Rattle.cb_app.proofs.threads.losses_of.Goals as goal

pub returns : goal.returns
returns c =
    subst (λ (l : List Loss). AreLosses l c.args.answers.now) (sym c.from.ensures) (record {
      are = subst (λ (l : List Loss). IsPermutation l c.sort_by_key.new.self.items) c.in_ok-losses.ensures c.in_ok-sort_by_key.ensures.permutation;
      in_order = IsNonDecreasingBy-from_sort_by_key (λ (l : Loss). l.epoch.n) _ c.in_ok-sort_by_key.ensures.sorted (λ a r q k. search rules);
    })
