use Rattle.std.proofs.Common.{◌≡◌, ℕ, ◌+◌, ◌*◌, ◌<◌, List, length, take, replicate, get_or, refl, sym, ap, ◌∙◌, subst, arith}
use Rattle.std.proofs.lemmas.List.{length-replicate}
use Rattle.std.proofs.lemmas.Option.{slice_get-get_or}
use Rattle.cb_gf256.specs.Positions.{ArePositions}
use Rattle.cb_gf256.specs.Rows.{rows_at}
use Rattle.cb_erase.specs.Weights.{IsSolution}
use Rattle.cb_set.specs.SetState.{parities}
use Rattle.cb_set.specs.Surviving.{surviving}
use Rattle.cb_world.specs.Fetched.{StandAt}
use Rattle.cb_world.proofs.Surviving.{are_positions, counted}
use Rattle.cb_world.proofs.Gathering.{first_survivors, survivors_stand, word_is_solution}
use Rattle.cb_world.proofs.fetching.solved.Goals as goal

pub survivors-present-requires-clause-nodes : goal.survivors-present-requires-clause-nodes
survivors-present-requires-clause-nodes c k d l =
    (c.requires.shaped.current k (get_or c.args.set.now.shards k d)
    (slice_get-get_or c.args.set.now.shards k d l)).0

pub give_rows-requires-clause-below : goal.give_rows-requires-clause-below
give_rows-requires-clause-below c i d l =
    let m = c.args.members.now in let set = c.args.set.now in
    let e = ap (λ (k : ℕ). take k c.survivors-present.result) c.k-k.ensures.count
    ∙ first_survivors m set c.survivors-present.result c.requires.shaped c.requires.few
    c.survivors-present.ensures.positions in
    let n : c.k-k.result + c.r-r.result ≡ length set.shards =
    omega (arith, c.k-k.ensures.count, c.r-r.ensures) in
    let a = are_positions m set.shards (length set.positions) (length set.shards) refl (let a =
    counted m set c.requires.shaped in omega (arith, a, c.requires.few)) in
    let b : get_or (take c.k-k.result c.survivors-present.result) i d < length set.shards =
    subst (λ (q : List ℕ). i < length q
    → get_or q i d < length set.shards) (sym e) (a.below i d) l in
    let t : length c.in-Ok.table ≡ c.k-k.result + c.r-r.result =
    ap (λ (t : List (List ℕ)). length t) c.in-Ok.ensures
    ∙ length-replicate (c.k-k.result + c.r-r.result) (replicate (4096 * c.pages.result) 0) in
    omega (arith, b, t, n)

pub give_rows-requires-clause-there : goal.give_rows-requires-clause-there
give_rows-requires-clause-there c =
    let m = c.args.members.now in let set = c.args.set.now in
    let e = ap (λ (k : ℕ). take k c.survivors-present.result) c.k-k.ensures.count
    ∙ first_survivors m set c.survivors-present.result c.requires.shaped c.requires.few
    c.survivors-present.ensures.positions in (
      c.requires.word.0,
      subst (StandAt set.pages c.args.nodes.now set.shards c.requires.word.0) (sym e)
          (survivors_stand c.args.nodes.now m set c.requires.word.0 (length set.positions)
          c.requires.shaped c.requires.counted c.requires.word.1),
    )

pub solve-requires-clause-positions : goal.solve-requires-clause-positions
solve-requires-clause-positions c =
    let m = c.args.members.now in let set = c.args.set.now in
    let e = ap (λ (k : ℕ). take k c.survivors-present.result) c.k-k.ensures.count
    ∙ first_survivors m set c.survivors-present.result c.requires.shaped c.requires.few
    c.survivors-present.ensures.positions in
    let n : c.k-k.result + c.r-r.result ≡ length set.shards =
    omega (arith, c.k-k.ensures.count, c.r-r.ensures) in
    subst (λ (l : List ℕ). ArePositions (c.k-k.result + c.r-r.result) c.k-k.result l) (sym e)
    (subst (λ (k : ℕ).
    ArePositions (c.k-k.result + c.r-r.result) k
    (take (length set.positions) (surviving m set.shards))) (sym c.k-k.ensures.count)
    (are_positions m set.shards (length set.positions) (c.k-k.result + c.r-r.result) (sym n)
    (let a = counted m set c.requires.shaped in omega (arith, a, n, c.requires.few))))

pub returns-in-Ok-solve-clause-rows : goal.returns-in-Ok-solve-clause-rows
returns-in-Ok-solve-clause-rows c rows word =
    let set = c.args.set.now in let m = c.args.members.now in
    let positions = take c.k-k.result c.survivors-present.result in
    let e = ap (λ (k : ℕ). take k c.survivors-present.result) c.k-k.ensures.count
    ∙ first_survivors m set c.survivors-present.result c.requires.shaped c.requires.few
    c.survivors-present.ensures.positions in
    let stand : StandAt set.pages c.args.nodes.now set.shards rows positions =
    subst (StandAt set.pages c.args.nodes.now set.shards rows) (sym e)
    (survivors_stand c.args.nodes.now m set rows (length set.positions) c.requires.shaped
    c.requires.counted word) in
    let s = word_is_solution c.args.nodes.now m set rows c.give_rows.new.table positions word
    (λ i l. c.give_rows.ensures.rows rows stand i l) in
    let r : parities set ≡ c.r-r.result = omega (arith, c.r-r.ensures) in
    c.in-Ok-solve.ensures.only rows word.code.bytes
    (subst (λ (k : ℕ).
    IsSolution k c.r-r.result positions (rows_at c.give_rows.new.table positions) rows)
    (sym c.k-k.ensures.count)
    (subst (λ (q : ℕ).
    IsSolution (length set.positions) q positions (rows_at c.give_rows.new.table positions)
    rows) r s))
