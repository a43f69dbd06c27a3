-- What a fetch leaves: a sound world, in which some rows more were given out, and an order that is
-- kept.
use Rattle.std.proofs.Common.{◌≡◌, ◌≢◌, ℕ, Bool, true, false, ◌+◌, ◌<◌, ◌≤◌, not, List, [], Option, None, Some, length, take, get_or, refl, sym, ap, ◌∙◌, subst, arith}
use Rattle.std.specs.List.{slice_get}
use Rattle.std.specs.Option.{option_map_or}
use Rattle.std.proofs.lemmas.Bool.{and_parts, false≢true, ltb-false}
use Rattle.std.proofs.lemmas.List.{get_or_default}
use Rattle.std.proofs.lemmas.Option.{slice_get_within}
use Rattle.cb_gf256.specs.InRange.{IsInRange}
use Rattle.cb_gf256.specs.Positions.{ArePositions}
use Rattle.cb_gf256.specs.Rows.{row_at}
use Rattle.cb_member.specs.declared.names.Shard.{Shard}
use Rattle.cb_member.specs.Membership.{Membership}
use Rattle.cb_node.specs.NodesState.{NodesState, row_under}
use Rattle.cb_set.specs.SetState.{SetState, parities}
use Rattle.cb_set.specs.Lost.{is_lost, lost, lost_at}
use Rattle.cb_set.specs.Surviving.{surviving}
use Rattle.cb_types.specs.declared.order.DecodeOrder.{DecodeOrder}
use Rattle.cb_types.specs.Orders.{IsDecodable}
use Rattle.cb_world.specs.declared.shown.Shown.{Shown}
use Rattle.cb_world.specs.FarState.{FarState}
use Rattle.cb_world.specs.Fetched.{AreGiven}
use Rattle.cb_world.specs.Orders.{IsDecodeKept, KeepsOrder}
use Rattle.cb_world.specs.Sets.{set_in}
use Rattle.cb_world.specs.SetWord.{IsShaped, IsWordOf, is_broken}
use Rattle.cb_world.specs.Sound.{Sound}
use Rattle.cb_world.proofs.Laws.{are_positions, recounted_sound, reserved_is_other, set_same, survivors_stand}
use Rattle.cb_swapin.specs.declared.fetching.Fetching.{Fetching}
use Rattle.cb_swapin.specs.declared.fetching.Fetching.TheVariants.{Order, Answer}
use Rattle.cb_swapin.specs.Fetching.{far_given}
use Rattle.cb_swapin.specs.FetchStep.{FetchStep, IsOrderFetched, fetching_order}
use Rattle.cb_swapin.proofs.RowGiven.{none_given}

-- ---- the far state
-- at most 16 rows more were given out, and nothing else changed
pub fetch_gives : (s : Shown) (id p : ℕ) (far new : FarState) (g : Fetching) → Sound s far
    → FetchStep id p far new g → (n : ℕ) × (n ≤ 16) × (new ≡ far_given far n)
fetch_gives s id p far new (Order o) sound x = (
  length x.set.positions,
  (sound.away.sound.sets.shaped id x.set x.there).range.data_most,
  x.state.state,
)
fetch_gives s id p far new (Answer r) sound x = (0, omega arith, x.state.1 ∙ none_given far)

-- so the world is sound
pub given_sound : (s : Shown) (far new : FarState) (n : ℕ) → new ≡ far_given far n → Sound s far
    → Sound s new
given_sound s far new n e sound = subst (Sound s) (sym e)
    (recounted_sound s far far.counts.turns far.counts.by_job (far.nodes.given + n) sound)

pub fetch_sound : (s : Shown) (id p : ℕ) (far new : FarState) (g : Fetching)
    → FetchStep id p far new g → Sound s far → Sound s new
fetch_sound s id p far new g x sound = let e = fetch_gives s id p far new g sound x in
    given_sound s far new e.0 e.2 sound

-- ---- the order
row_same : (a b : List ℕ) → Some a ≡ Some b → a ≡ b
row_same a b e = cc

shard_same : (a b : Shard) → Some a ≡ Some b → a ≡ b
shard_same a b e = cc

-- a position whose shard is lost is one of the set
lost_within : (m : Membership) (shards : List Shard) (p : ℕ) → lost_at m shards p ≡ true
    → p < length shards
lost_within m shards p gone = by (slice_get shards p) refl
  where
    by : (o : Option Shard) → slice_get shards p ≡ o → p < length shards
    by None e = absurd (false≢true
        (sym (ap (λ (q : Option Shard). option_map_or (is_lost m) q false) e) ∙ gone))
    by (Some shard) e = slice_get_within shards p shard e

-- the rows that were given out are those of any word of the set
pub given_rows : (nodes : NodesState) (m : Membership) (set : SetState)
    (present : List ℕ) (rows word : List (List ℕ)) → IsShaped m set
    → length nodes.nodes ≡ length m.nodes → IsWordOf nodes m set word
    → present ≡ take (length set.positions) (surviving m set.shards)
    → AreGiven nodes set.shards present rows → (i : ℕ) → i < length present
    → (row_at rows i ≡ row_at word (get_or present i 0))
    × (length (row_at word (get_or present i 0)) ≡ length (row_at word 0))
given_rows nodes m set present rows word shaped counted is least given i within =
    let first = take (length set.positions) (surviving m set.shards) in
    let here : i < length first = subst (λ (l : List ℕ). i < length l) least within in
    let z = survivors_stand nodes m set word (length set.positions) shaped counted is i here in
    let y = given.given i within in
    let at : get_or first i 0 ≡ get_or present i 0 = sym (ap (λ (l : List ℕ). get_or l i 0) least) in
    let same : z.shard ≡ y.0 =
    shard_same z.shard y.0 (sym z.at ∙ ap (slice_get set.shards) at ∙ y.1) in (
      row_same (row_at rows i) (row_at word (get_or present i 0)) (sym y.2
          ∙ ap (λ (q : Shard). row_under nodes q.node q.key) (sym same) ∙ z.row
          ∙ ap (λ (n : ℕ). Some (row_at word n)) at),
      ap (λ (n : ℕ). length (row_at word n)) (sym at) ∙ z.wide ∙ sym is.code.wide,
    )

module _ (s : Shown) (far : FarState) (id p : ℕ) (set : SetState) (o : DecodeOrder)
    (new : FarState) (sound : Sound s far) (there : set_in far.sets id ≡ Some set)
    (whole : is_broken far.members set ≡ false) (gone : lost_at far.members set.shards p ≡ true)
    (x : IsOrderFetched far new id p set o) where
  shaped : IsShaped far.members set
  shaped = sound.away.sound.sets.shaped id set there

  few : length (lost far.members set.shards) ≤ parities set
  few = ltb-false (parities set) (length (lost far.members set.shards)) whole

  -- the order can be run
  decodable : IsDecodable o
  decodable =
      let k = length set.positions in let r = parities set in
      let first = shaped.data_first in
      let all : length set.shards ≡ k + r = omega (arith, first) in
      let positions : ArePositions (k + r) k o.present =
      subst (ArePositions (k + r) k) (sym x.least)
      (are_positions far.members set.shards k (k + r) all (omega (arith, first, few))) in
      let word = sound.away.sound.sets.worded id set there in
      let row = given_rows far.nodes far.members set o.present o.rows word.0 shaped
      sound.away.sound.rows.counted word.1.word x.least x.given in
      let long : (i : ℕ) → i < length o.rows → length (row_at o.rows i) ≡ length (row_at word.0 0) =
      λ i l. let w = row i (omega (arith, l, x.given.count)) in ap length w.0 ∙ w.1 in
      let inside = lost_within far.members set.shards p gone in record {
        range = subst (λ (n : ℕ). IsInRange n o.r) (sym x.code.0)
            (subst (IsInRange k) (sym x.code.1) shaped.range);
        positions = subst (λ (n : ℕ). ArePositions (n + o.r) n o.present) (sym x.code.0)
            (subst (λ (n : ℕ). ArePositions (k + n) k o.present) (sym x.code.1) positions);
        wanted = omega (arith, inside, all, x.wanted, x.code.0, x.code.1);
        count = x.given.count ∙ positions.count ∙ sym x.code.0;
        lengths = λ i d l. ap length (get_or_default o.rows i d [] l) ∙ long i l
            ∙ sym (long 0 (omega (arith, l)));
      }

  pub order_kept : IsDecodeKept new o
  order_kept = subst (λ (q : FarState). IsDecodeKept q o) (sym x.state) (record {
    fits = decodable;
    drawn = subst (λ (n : ℕ). n < far.counts.sets) (sym x.set_is)
        (sound.away.sound.sets.numbered id set there);
    apart = λ batch leaves same. reserved_is_other far batch id set
        (sound.noted batch leaves).reserved there (same ∙ x.set_is);
    code = λ q at. let e : q ≡ set = is_set q at in (
      x.code.0 ∙ ap (λ (c : SetState). length c.positions) (sym e),
      x.code.1 ∙ ap parities (sym e),
    );
    rows = λ q at some word is i within. let e : q ≡ set = is_set q at in
        (given_rows far.nodes far.members set o.present o.rows word shaped
        sound.away.sound.rows.counted
        (subst (λ (c : SetState). IsWordOf far.nodes far.members c word) e
        (record { code = is.code; survive = is.survive })) x.least x.given i
        within).0;
  })
    where
      is_set : (q : SetState) → set_in far.sets o.set ≡ Some q → q ≡ set
      is_set q at = set_same q set (sym at ∙ ap (set_in far.sets) x.set_is ∙ there)

-- what is handed out is kept
pub fetch_kept : (s : Shown) (id p : ℕ) (far new : FarState) (g : Fetching) → Sound s far
    → FetchStep id p far new g → KeepsOrder s new (fetching_order None g)
fetch_kept s id p far new (Order o) sound x =
    let make = and_parts (not (is_broken far.members x.set)) (lost_at far.members x.set.shards p)
    (sym x.ordered) in
    order_kept s far id p x.set o new sound x.there
    (not_true (is_broken far.members x.set) make.0) make.1 x.state
  where
    not_true : (b : Bool) → not b ≡ true → b ≡ false
    not_true true e = absurd (false≢true e)
    not_true false e = refl
fetch_kept s id p far new (Answer r) sound x = tt
