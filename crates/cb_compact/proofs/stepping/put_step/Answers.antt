use Rattle.std.proofs.Common.{◌≡◌, ℕ, ◌+◌, ◌<◌, true, false, List, length, is_some, sym, ap, ◌∙◌, subst}
use Rattle.std.proofs.lemmas.Result.{IfOk-weaker, on_err_weaker}
use Rattle.cb_gf256.specs.Rows.{row_at}
use Rattle.cb_node.specs.Answer.{PutGives}
use Rattle.cb_node.specs.NodesState.{NodesState, has}
use Rattle.cb_set.specs.SetState.{SetState, parities}
use Rattle.cb_world.specs.FarState.{FarState}
use Rattle.cb_world.specs.contracts.far.Far.{the_view}
use Rattle.cb_world.specs.Joining.{JoiningState}
use Rattle.cb_world.specs.Merged.{IsMergedWord, takes}
use Rattle.cb_compact.specs.Deltas.{IsOfCode, NoneNames, PutsMerged, StandTogether}
use Rattle.cb_compact.proofs.Ready.{carry, puts_merged, ready_a, ready_b, ready_code, ready_fresh, ready_node, ready_position, ready_taken, ready_words, same_fresh, unwrapped}
use Rattle.cb_compact.proofs.stepping.put_step.Goals as goal

pub first_set-a-requires : goal.first_set-a-requires
first_set-a-requires c = let x = c.requires.ready in record {
  fresh = (x.1, x.2, x.3, x.4.fresh);
}

pub unwrap-pair-requires : goal.unwrap-pair-requires
unwrap-pair-requires c = c.as_ref.ensures.variant
    ∙ ap (λ (f : FarState). is_some f.joining) c.far.view_is ∙ ap is_some
    c.requires.ready.4.fresh.was

pub put_merged-requires-clause-code : goal.put_merged-requires-clause-code
put_merged-requires-clause-code c =
    let far = c.args.far.now in let x = c.requires.ready in let pair = x.1 in let a = x.2 in
    let b = x.3 in let p = c.args.position in let shard = c.args.shard in
    let en : far.nodes ≡ c.far.inside.nodes = ap (λ (f : FarState). f.nodes) (sym c.far.view_is)
    in
    let ep : pair ≡ c.unwrap-pair.result.now = unwrapped c.as_ref.result c.unwrap-pair.result
    c.far.inside.joining pair c.as_ref.ensures.value c.unwrap-pair.ensures
    (ap (λ (f : FarState). f.joining) c.far.view_is ∙ x.4.fresh.was) in
    let first = c.first_set-a.ensures pair a b x.4.fresh in
    let ek : length a.positions ≡ c.k-k.result =
    sym (c.k-k.ensures.count ∙ ap (λ (s : SetState). length s.positions) first) in
    let er : parities a ≡ c.r-r.result = sym (c.r-r.ensures.parities ∙ ap parities first) in
    carry (λ n q k r. IsOfCode n q k r) far.nodes c.far.inside.nodes pair
    c.unwrap-pair.result.now (length a.positions)
    c.k-k.result (parities a) c.r-r.result en ep ek er
    (ready_code x.0 far pair a b p shard x.4)

pub put_merged-requires-clause-position : goal.put_merged-requires-clause-position
put_merged-requires-clause-position c =
    let far = c.args.far.now in let x = c.requires.ready in let pair = x.1 in let a = x.2 in
    let b = x.3 in let p = c.args.position in let shard = c.args.shard in
    let en : far.nodes ≡ c.far.inside.nodes = ap (λ (f : FarState). f.nodes) (sym c.far.view_is)
    in
    let ep : pair ≡ c.unwrap-pair.result.now = unwrapped c.as_ref.result c.unwrap-pair.result
    c.far.inside.joining pair c.as_ref.ensures.value c.unwrap-pair.ensures
    (ap (λ (f : FarState). f.joining) c.far.view_is ∙ x.4.fresh.was) in
    let first = c.first_set-a.ensures pair a b x.4.fresh in
    let ek : length a.positions ≡ c.k-k.result =
    sym (c.k-k.ensures.count ∙ ap (λ (s : SetState). length s.positions) first) in
    let er : parities a ≡ c.r-r.result = sym (c.r-r.ensures.parities ∙ ap parities first) in
    carry (λ n q k r. p < k + r) far.nodes c.far.inside.nodes pair c.unwrap-pair.result.now
    (length a.positions)
    c.k-k.result (parities a) c.r-r.result en ep ek er
    (ready_position x.0 far pair a b p shard x.4)

pub put_merged-requires-clause-taken : goal.put_merged-requires-clause-taken
put_merged-requires-clause-taken c =
    let far = c.args.far.now in let x = c.requires.ready in let pair = x.1 in let a = x.2 in
    let b = x.3 in let p = c.args.position in let shard = c.args.shard in
    let en : far.nodes ≡ c.far.inside.nodes = ap (λ (f : FarState). f.nodes) (sym c.far.view_is)
    in
    let ep : pair ≡ c.unwrap-pair.result.now = unwrapped c.as_ref.result c.unwrap-pair.result
    c.far.inside.joining pair c.as_ref.ensures.value c.unwrap-pair.ensures
    (ap (λ (f : FarState). f.joining) c.far.view_is ∙ x.4.fresh.was) in
    let first = c.first_set-a.ensures pair a b x.4.fresh in
    let ek : length a.positions ≡ c.k-k.result =
    sym (c.k-k.ensures.count ∙ ap (λ (s : SetState). length s.positions) first) in
    let er : parities a ≡ c.r-r.result = sym (c.r-r.ensures.parities ∙ ap parities first) in
    carry (λ n q k r. p < k → takes q.taken p ≡ true) far.nodes c.far.inside.nodes pair
    c.unwrap-pair.result.now (length a.positions)
    c.k-k.result (parities a) c.r-r.result en ep ek er
    (ready_taken x.0 far pair a b p shard x.4)

pub put_merged-requires-clause-to : goal.put_merged-requires-clause-to
put_merged-requires-clause-to c =
    let far = c.args.far.now in let x = c.requires.ready in let pair = x.1 in let a = x.2 in
    let b = x.3 in let p = c.args.position in let shard = c.args.shard in
    let en : far.nodes ≡ c.far.inside.nodes = ap (λ (f : FarState). f.nodes) (sym c.far.view_is)
    in
    let ep : pair ≡ c.unwrap-pair.result.now = unwrapped c.as_ref.result c.unwrap-pair.result
    c.far.inside.joining pair c.as_ref.ensures.value c.unwrap-pair.ensures
    (ap (λ (f : FarState). f.joining) c.far.view_is ∙ x.4.fresh.was) in
    let first = c.first_set-a.ensures pair a b x.4.fresh in
    let ek : length a.positions ≡ c.k-k.result =
    sym (c.k-k.ensures.count ∙ ap (λ (s : SetState). length s.positions) first) in
    let er : parities a ≡ c.r-r.result = sym (c.r-r.ensures.parities ∙ ap parities first) in
    carry (λ n q k r. shard.node.n < length n.nodes) far.nodes c.far.inside.nodes pair
    c.unwrap-pair.result.now (length a.positions)
    c.k-k.result (parities a) c.r-r.result en ep ek er
    (ready_node x.0 far pair a b p shard x.4)

pub put_merged-requires-clause-fresh : goal.put_merged-requires-clause-fresh
put_merged-requires-clause-fresh c =
    let far = c.args.far.now in let x = c.requires.ready in let pair = x.1 in let a = x.2 in
    let b = x.3 in let p = c.args.position in let shard = c.args.shard in
    let en : far.nodes ≡ c.far.inside.nodes = ap (λ (f : FarState). f.nodes) (sym c.far.view_is)
    in
    let ep : pair ≡ c.unwrap-pair.result.now = unwrapped c.as_ref.result c.unwrap-pair.result
    c.far.inside.joining pair c.as_ref.ensures.value c.unwrap-pair.ensures
    (ap (λ (f : FarState). f.joining) c.far.view_is ∙ x.4.fresh.was) in
    let first = c.first_set-a.ensures pair a b x.4.fresh in
    let ek : length a.positions ≡ c.k-k.result =
    sym (c.k-k.ensures.count ∙ ap (λ (s : SetState). length s.positions) first) in
    let er : parities a ≡ c.r-r.result = sym (c.r-r.ensures.parities ∙ ap parities first) in
    carry (λ n q k r. has n shard.node shard.key ≡ false) far.nodes c.far.inside.nodes pair
    c.unwrap-pair.result.now (length a.positions)
    c.k-k.result (parities a) c.r-r.result en ep ek er
    (ready_fresh x.0 far pair a b p shard x.4)

pub put_merged-requires-clause-a_other : goal.put_merged-requires-clause-a_other
put_merged-requires-clause-a_other c =
    let far = c.args.far.now in let x = c.requires.ready in let pair = x.1 in let a = x.2 in
    let b = x.3 in let p = c.args.position in let shard = c.args.shard in
    let en : far.nodes ≡ c.far.inside.nodes = ap (λ (f : FarState). f.nodes) (sym c.far.view_is)
    in
    let ep : pair ≡ c.unwrap-pair.result.now = unwrapped c.as_ref.result c.unwrap-pair.result
    c.far.inside.joining pair c.as_ref.ensures.value c.unwrap-pair.ensures
    (ap (λ (f : FarState). f.joining) c.far.view_is ∙ x.4.fresh.was) in
    let first = c.first_set-a.ensures pair a b x.4.fresh in
    let ek : length a.positions ≡ c.k-k.result =
    sym (c.k-k.ensures.count ∙ ap (λ (s : SetState). length s.positions) first) in
    let er : parities a ≡ c.r-r.result = sym (c.r-r.ensures.parities ∙ ap parities first) in
    carry (λ n q k r. NoneNames q.shards_a shard.node shard.key) far.nodes c.far.inside.nodes
    pair c.unwrap-pair.result.now (length a.positions)
    c.k-k.result (parities a) c.r-r.result en ep ek er
    (ready_a x.0 far pair a b p shard x.4)

pub put_merged-requires-clause-b_other : goal.put_merged-requires-clause-b_other
put_merged-requires-clause-b_other c =
    let far = c.args.far.now in let x = c.requires.ready in let pair = x.1 in let a = x.2 in
    let b = x.3 in let p = c.args.position in let shard = c.args.shard in
    let en : far.nodes ≡ c.far.inside.nodes = ap (λ (f : FarState). f.nodes) (sym c.far.view_is)
    in
    let ep : pair ≡ c.unwrap-pair.result.now = unwrapped c.as_ref.result c.unwrap-pair.result
    c.far.inside.joining pair c.as_ref.ensures.value c.unwrap-pair.ensures
    (ap (λ (f : FarState). f.joining) c.far.view_is ∙ x.4.fresh.was) in
    let first = c.first_set-a.ensures pair a b x.4.fresh in
    let ek : length a.positions ≡ c.k-k.result =
    sym (c.k-k.ensures.count ∙ ap (λ (s : SetState). length s.positions) first) in
    let er : parities a ≡ c.r-r.result = sym (c.r-r.ensures.parities ∙ ap parities first) in
    carry (λ n q k r. NoneNames q.shards_b shard.node shard.key) far.nodes c.far.inside.nodes
    pair c.unwrap-pair.result.now (length a.positions)
    c.k-k.result (parities a) c.r-r.result en ep ek er
    (ready_b x.0 far pair a b p shard x.4)

pub put_merged-requires-clause-words : goal.put_merged-requires-clause-words
put_merged-requires-clause-words c =
    let far = c.args.far.now in let x = c.requires.ready in let pair = x.1 in let a = x.2 in
    let b = x.3 in let p = c.args.position in let shard = c.args.shard in
    let en : far.nodes ≡ c.far.inside.nodes = ap (λ (f : FarState). f.nodes) (sym c.far.view_is)
    in
    let ep : pair ≡ c.unwrap-pair.result.now = unwrapped c.as_ref.result c.unwrap-pair.result
    c.far.inside.joining pair c.as_ref.ensures.value c.unwrap-pair.ensures
    (ap (λ (f : FarState). f.joining) c.far.view_is ∙ x.4.fresh.was) in
    let first = c.first_set-a.ensures pair a b x.4.fresh in
    let ek : length a.positions ≡ c.k-k.result =
    sym (c.k-k.ensures.count ∙ ap (λ (s : SetState). length s.positions) first) in
    let er : parities a ≡ c.r-r.result = sym (c.r-r.ensures.parities ∙ ap parities first) in
    carry (λ n q k r. (wa wb : List (List ℕ)) × (pages : ℕ) × StandTogether n q pages k r wa wb)
    far.nodes
    c.far.inside.nodes pair c.unwrap-pair.result.now (length a.positions)
    c.k-k.result (parities a) c.r-r.result en ep ek er
    (ready_words x.0 far pair a b p shard x.4)

pub returns-clause-put : goal.returns-clause-put
returns-clause-put c =
    let far = c.args.far.now in let x = c.requires.ready in let pair = x.1 in let a = x.2 in
    let b = x.3 in let p = c.args.position in let shard = c.args.shard in
    let en : far.nodes ≡ c.far.inside.nodes = ap (λ (f : FarState). f.nodes) (sym c.far.view_is)
    in
    let ep : pair ≡ c.unwrap-pair.result.now = unwrapped c.as_ref.result c.unwrap-pair.result
    c.far.inside.joining pair c.as_ref.ensures.value c.unwrap-pair.ensures
    (ap (λ (f : FarState). f.joining) c.far.view_is ∙ x.4.fresh.was) in
    let first = c.first_set-a.ensures pair a b x.4.fresh in
    let ek : length a.positions ≡ c.k-k.result =
    sym (c.k-k.ensures.count ∙ ap (λ (s : SetState). length s.positions) first) in
    let er : parities a ≡ c.r-r.result = sym (c.r-r.ensures.parities ∙ ap parities first) in
    IfOk-weaker c.put_merged.result _ _ (λ answer given other d e fresh.
    let same = same_fresh far pair other a b d e x.4.fresh fresh in
    subst (λ (q : JoiningState). PutsMerged far q d e p shard answer c.put_merged.new.nodes)
    same.pairs
    (subst (λ (d : SetState). PutsMerged far pair d e p shard answer c.put_merged.new.nodes)
    same.a_is
    (subst (λ (e : SetState). PutsMerged far pair a e p shard answer c.put_merged.new.nodes)
    same.b_is
    (puts_merged x.0 far pair a b p shard x.4 answer c.put_merged.new.nodes
    (carry (λ n q k r. (pages : ℕ) (wa wb m : List (List ℕ)) → StandTogether n q pages k r wa wb
    → IsMergedWord pages k r q.taken wa wb m
    → PutGives n shard.node shard.key (row_at m p) answer c.put_merged.new.nodes)
    c.far.inside.nodes far.nodes c.unwrap-pair.result.now pair c.k-k.result
    (length a.positions) c.r-r.result (parities a) (sym en) (sym ep) (sym ek) (sym er)
    given))))) c.put_merged.ensures.put

pub returns-clause-nodes : goal.returns-clause-nodes
returns-clause-nodes c = ap (λ (f : FarState). record f { nodes = c.put_merged.new.nodes })
    c.far.view_is

pub returns-clause-error : goal.returns-clause-error
returns-clause-error c = on_err_weaker c.put_merged.result (λ same.
    ap (λ (n : NodesState). record (the_view c.far.inside) { nodes = n }) same ∙ c.far.view_is)
    c.put_merged.ensures.error
