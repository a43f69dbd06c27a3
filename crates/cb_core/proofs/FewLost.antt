-- No set loses more shards than nodes have crashed.
use Rattle.std.proofs.Common.{◌≡◌, ◌≢◌, ℕ, suc, ◌<◌, ◌≤◌, true, false, cond, nat_eq, List, [], ◌∷◌, length, get_or, map, filter, Option, None, Some, is_some, slice_get, Contains, AllPairs, refl, sym, ap, ◌∙◌, subst, arith}
use Rattle.std.specs.Cmp.{nat_eq_equiv, unsigned_Decides}
use Rattle.std.specs.List.{cons_option}
use Rattle.std.specs.Option.{option_map}
use Rattle.std.specs.Set.{is_member}
use Rattle.std.proofs.lemmas.Bool.{false≢true, le-ltb}
use Rattle.std.proofs.lemmas.List.{get_or-map, length-map}
use Rattle.std.proofs.lemmas.List.Elements.{All-get_or, filter_passes}
use Rattle.std.proofs.lemmas.List.Kept.{AllPairs-filter}
use Rattle.std.proofs.lemmas.Map.Made.{IsDistinct-from_AllPairs, is_member-Decides, length-le_from_is_member}
use Rattle.cb_member.specs.declared.names.Epoch.{Epoch}
use Rattle.cb_member.specs.declared.names.Loss.{Loss}
use Rattle.cb_member.specs.declared.names.NodeId.{NodeId}
use Rattle.cb_member.specs.declared.names.Shard.{Shard}
use Rattle.cb_member.specs.Membership.{Membership, crashed_at, node_state}
use Rattle.cb_set.specs.Lost.{is_lost, loss_of, lost}
use Rattle.cb_set.specs.Nodes.{OnDistinctNodes}
use Rattle.cb_set.specs.SetState.{SetState, parities}
use Rattle.cb_types.specs.declared.config.Config.{Config}
use Rattle.cb_world.specs.declared.homes.Home.{Home}
use Rattle.cb_world.specs.declared.shown.Shown.{Shown}
use Rattle.cb_world.specs.Codes.{HaveCodes, IsConfiguredCode}
use Rattle.cb_world.specs.FarState.{FarState}
use Rattle.cb_world.specs.Homes.{home_at}
use Rattle.cb_world.specs.Now.{broken_home, broken_set, is_gone}
use Rattle.cb_world.specs.Sets.{set_in}
use Rattle.cb_world.specs.SetWord.{is_broken}
use Rattle.cb_world.specs.Sound.{Sound}

-- each node that ever crashed is one of these
abbrev pub CrashedAmong : List ℕ → Membership → Type 0
CrashedAmong nodes m =
    (node : NodeId) → 1 ≤ length (node_state m node).crashes → Contains nodes node.n

-- ---- a lost shard's node has crashed
some_within : {X : Type 0} (xs : List X) (i : ℕ) → is_some (slice_get xs i) ≡ true → 1 ≤ length xs
some_within [] i e = absurd (false≢true e)
some_within (x ∷ xs) i e = omega arith

mapped_some : {X Y : Type 0} (f : X → Y) (o : Option X) → is_some (option_map f o) ≡ is_some o
mapped_some f None = refl
mapped_some f (Some x) = refl

loss_at : Shard → Epoch → Loss
loss_at shard epoch = record { node = shard.node; epoch = epoch }

lost_crashed : (m : Membership) (shard : Shard) → is_lost m shard ≡ true
    → 1 ≤ length (node_state m shard.node).crashes
unfolding loss_at
lost_crashed m shard e = some_within (node_state m shard.node).crashes shard.incarnation
    (sym (mapped_some (loss_at shard) (crashed_at m shard.node shard.incarnation)) ∙ e)

-- ---- as many losses as shards that are lost
lost_count : (m : Membership) (shards : List Shard)
    → length (lost m shards) ≡ length (filter (is_lost m) shards)
lost_count m [] = refl
lost_count m (shard ∷ shards) = by (loss_of m shard) (lost_count m shards)
  where
    by : (o : Option Loss) → length (lost m shards) ≡ length (filter (is_lost m) shards)
        → length (cons_option o (lost m shards))
        ≡ length (cond (is_some o) (shard ∷ filter (is_lost m) shards) (filter (is_lost m) shards))
    by None e = e
    by (Some loss) e = ap (λ (n : ℕ). suc n) e

-- ---- they stand on different nodes
no_shard : Shard
no_shard = record { node = record { n = 0 }; incarnation = 0; key = 0 }

abbrev node_of : Shard → ℕ
node_of shard = shard.node.n

node_at : (shards : List Shard) (i d : ℕ) → i < length shards
    → get_or (map node_of shards) i d ≡ (get_or shards i no_shard).node.n
node_at shards i d below = get_or-map node_of shards i no_shard d below

nodes_differ : (shards : List Shard) → OnDistinctNodes shards
    → AllPairs (λ x y. x ≢ y) (map node_of shards)
nodes_differ shards distinct i j d less below same =
    let len = length-map shards node_of in
    let in_j : j < length shards = omega (arith, below, len) in
    let in_i : i < length shards = omega (arith, in_j, less) in
    distinct i j no_shard less in_j
    (sym (node_at shards i d in_i) ∙ same ∙ node_at shards j d in_j)

pub few_lost : (nodes : List ℕ) (m : Membership) (shards : List Shard) → CrashedAmong nodes m
    → OnDistinctNodes shards → length (lost m shards) ≤ length nodes
few_lost nodes m shards among distinct =
    let count = lost_count m shards in
    let len = length-map kept node_of in
    let most = length-le_from_is_member nat_eq_equiv (map node_of kept) nodes
    (IsDistinct-from_AllPairs unsigned_Decides (map node_of kept) (nodes_differ kept
    (AllPairs-filter (λ a b. a.node.n ≢ b.node.n) (is_lost m) shards distinct))) inside in
    omega (arith, count, len, most)
  where
    kept : List Shard
    kept = filter (is_lost m) shards

    inside : (q : ℕ) → is_member nat_eq (map node_of kept) q ≡ true
        → is_member nat_eq nodes q ≡ true
    inside q e =
        let x = (is_member-Decides unsigned_Decides (map node_of kept) q).0 e in
        let len = length-map kept node_of in
        let below : x.0 < length kept = let l = x.1 in omega (arith, l, len) in
        let shard = get_or kept x.0 no_shard in
        let lost = All-get_or (λ a. is_lost m a ≡ true) kept x.0 no_shard below
        (filter_passes (is_lost m) shards) in
        (is_member-Decides unsigned_Decides nodes q).1 (subst (Contains nodes)
        (sym (node_at kept x.0 q below) ∙ x.2) (among shard.node (lost_crashed m shard lost)))

-- ---- so no set is broken, and no object is gone
module _ (c : Config) (s : Shown) (far : FarState) (nodes : List ℕ) (sound : Sound s far)
    (codes : HaveCodes (IsConfiguredCode c) far) (among : CrashedAmong nodes far.members) (few : length nodes ≤ c.r)
  where
    pub never_broken : (id : ℕ) (set : SetState) → set_in far.sets id ≡ Some set
        → is_broken far.members set ≡ false
    never_broken id set there =
        let shaped = sound.away.sound.sets.shaped id set there in
        let most = few_lost nodes far.members set.shards among shaped.distinct in
        let r = (codes.sets id set there).1 in
        le-ltb (parities set) (length (lost far.members set.shards)) (omega (arith, most, few, r))

    pub never_gone : (h : ℕ) → is_gone far h ≡ false
    never_gone h = by (home_at far.homes h)
      where
        at : (id : ℕ) (o : Option SetState) → set_in far.sets id ≡ o
            → broken_set far.members o ≡ false
        at id None e = refl
        at id (Some set) e = never_broken id set e

        by : (o : Option Home) → broken_home far o ≡ false
        by None = refl
        by (Some home) = at home.set (set_in far.sets home.set) refl
