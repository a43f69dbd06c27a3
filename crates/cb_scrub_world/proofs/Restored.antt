-- A world is sound behind a scrub where it was, and where one row of the set was spoilt.
use Rattle.std.proofs.Common.{◌≡◌, ◌≢◌, ℕ, ◌+◌, ◌-◌, ◌<◌, ◌≤◌, List, [], length, get_or, set as with_item, ◌∷◌, All, Option, Some, Result, Ok, Err, refl, sym, ap, ◌∙◌, subst, ext_get_or, arith, inl, inr}
use Rattle.std.specs.List.{slice_get}
use Rattle.std.specs.Option.{unwrap_or}
use Rattle.std.specs.Prelude.{IfOk, OnErr}
use Rattle.std.proofs.lemmas.Bool.{cases_eq}
use Rattle.std.specs.FinMap as map
use Rattle.std.proofs.lemmas.List.{get_or-set_other, length-set}
use Rattle.std.proofs.lemmas.Option.{same_Some, slice_get-get_or, slice_get_within}
use Rattle.cb_gf256.specs.CodeWord.{IsCodeWord}
use Rattle.cb_gf256.specs.Rows.{row_at}
use Rattle.cb_gf256.specs.Sum.{◌⊕◌}
use Rattle.cb_member.specs.Membership.{Membership}
use Rattle.cb_member.specs.declared.names.Shard.{Shard}
use Rattle.cb_node.specs.NodesState.{NodesState, known_row, rows_of_node, with_row, with_spoiled}
use Rattle.cb_node.proofs.Laws.{row_is_put, put_keeps_other_rows, later_row_stays, same_row_changes_nothing}
use Rattle.cb_scrub.specs.declared.found.Found.{Found}
use Rattle.cb_scrub.specs.declared.found.Found.TheVariants.{Clean, One, Many}
use Rattle.cb_scrub.specs.Finds.{IsFinding}
use Rattle.cb_scrub.specs.Mended.{row_of_others}
use Rattle.cb_scrub.specs.Wrong.{IsWord, IsWordBut}
use Rattle.cb_set.specs.Lost.{IsWhole}
use Rattle.cb_set.specs.Nodes.{OnDistinctNodes}
use Rattle.cb_set.specs.SetState.{SetState, parities}
use Rattle.cb_set.proofs.Laws.{whole_none}
use Rattle.cb_types.specs.declared.NoMemory.{NoMemory}
use Rattle.cb_types.specs.declared.handle.SetId.{SetId}
use Rattle.cb_world.specs.FarState.{FarState}
use Rattle.cb_world.specs.Fetched.{with_rows_given}
use Rattle.cb_world.specs.SetWord.{IsShaped, IsWordOf}
use Rattle.cb_world.specs.Sets.{set_in}
use Rattle.cb_world.specs.Sound.{Sound}
use Rattle.cb_world.specs.declared.shown.Shown.{Shown}
use Rattle.cb_world.proofs.Laws.{recounted_sound}
use Rattle.cb_scrub_world.specs.declared.scrubbed.Scrubbed.{Scrubbed}
use Rattle.cb_scrub_world.specs.declared.scrubbed.Scrubbed.TheVariants.{Done, Skipped, Set}
use Rattle.cb_scrub_world.specs.Scrub.{Examines, KeepsWord, LeavesNodes, MakesRight, Scrubs, with_nodes}
use Rattle.cb_scrub_world.specs.Spoilt.{IsSoundAgain, IsSpoilt, RestoresWorld}
use Rattle.cb_scrub_world.specs.Standing.{RowStands, rows_of}
use Rattle.cb_scrub_world.proofs.After.{apart, count_of, rows_after}
use Rattle.cb_scrub_world.proofs.Given.{row_of_shard, stands_at}
use Rattle.cb_scrub_world.proofs.SoundScrub.{sound_set}
use Rattle.cb_scrub_world.proofs.Scrubs.{all_stand}

-- ---- the nodes

-- a row that stands, put again, changes nothing
put_again : {pages : ℕ} (nodes : NodesState) (shard : Shard) (row : List ℕ)
    → RowStands nodes pages shard
    → row ≡ known_row nodes shard.node shard.key → with_row nodes shard.node shard.key row ≡ nodes
put_again nodes shard row stands same = ap (with_row nodes shard.node shard.key) same
    ∙ same_row_changes_nothing nodes shard.node shard.key stands.there

-- the row that was put is known
known_put : {pages : ℕ} (nodes : NodesState) (shard : Shard) (row : List ℕ)
    → RowStands nodes pages shard
    → known_row (with_row nodes shard.node shard.key row) shard.node shard.key ≡ row
known_put nodes shard row stands = ap (λ (o : Option (List ℕ)). unwrap_or o [])
    (row_is_put nodes shard.node shard.key row stands.node)

-- a row that was put and is as it was before changed nothing
put_same : {pages : ℕ} (nodes : NodesState) (shard : Shard) (row : List ℕ)
    → RowStands nodes pages shard
    → known_row (with_row nodes shard.node shard.key row) shard.node shard.key
    ≡ known_row nodes shard.node shard.key
    → with_row nodes shard.node shard.key row ≡ nodes
put_same nodes shard row stands same =
    put_again nodes shard row stands (sym (known_put nodes shard row stands) ∙ same)

-- rows that are the same are so at each shard
same_row : (a b : NodesState) (shards : List Shard) (i : ℕ) (shard : Shard)
    → rows_of a shards ≡ rows_of b shards → slice_get shards i ≡ Some shard
    → known_row a shard.node shard.key ≡ known_row b shard.node shard.key
same_row a b shards i shard same at = sym (row_of_shard a shards i shard at)
    ∙ ap (λ (rows : List (List ℕ)). row_at rows i) same
    ∙ row_of_shard b shards i shard at

-- a shard's row is put, and the set's rows are as they were
put_back : {pages : ℕ} (nodes : NodesState) (shards : List Shard) (i : ℕ) (shard : Shard) (row : List ℕ)
    → RowStands nodes pages shard → slice_get shards i ≡ Some shard
    → rows_of (with_row nodes shard.node shard.key row) shards ≡ rows_of nodes shards
    → with_row nodes shard.node shard.key row ≡ nodes
put_back nodes shards i shard row stands at same = put_same nodes shard row stands
    (same_row (with_row nodes shard.node shard.key row) nodes shards i shard same at)

-- nodes that differ in the count of rows given alone
given_alone : (right new : NodesState) (n : ℕ) → new ≡ record right { given = n }
    → new ≡ record right { given = new.given }
given_alone right new n is =
    is ∙ ap (λ (m : ℕ). record right { given = m }) (sym (ap (λ (x : NodesState). x.given) is))

-- the rows but the parities are those of the data positions
data_rows : (nodes : NodesState) (m : Membership) (set : SetState) → IsShaped m set
    → length set.positions ≡ length (rows_of nodes set.shards) - parities set
data_rows nodes m set shaped =
    let first = shaped.data_first in
    let count = count_of nodes set.shards in omega (arith, first, count)

module _ (right : NodesState) (set : SetState) (p : ℕ) (shard : Shard) (row : List ℕ)
    (distinct : OnDistinctNodes set.shards) (stand : All (RowStands right set.pages) set.shards)
    (at : slice_get set.shards p ≡ Some shard) where
  abbrev spoilt : NodesState
  spoilt = with_row right shard.node shard.key row

  -- the set's rows are as they were
  abbrev AreAsBefore : NodesState → Type 0
  AreAsBefore nodes = rows_of nodes set.shards ≡ rows_of right set.shards

  stands : RowStands right set.pages shard
  stands = stands_at right set.shards p shard stand at

  -- the row that was spoilt is replaced
  replaced_here : (put : List ℕ) → AreAsBefore (with_row spoilt shard.node shard.key put)
      → with_row spoilt shard.node shard.key put ≡ right
  replaced_here put same =
      let later = later_row_stays right shard.node shard.key row put stands.node in
      later ∙ put_back right set.shards p shard put stands at (subst AreAsBefore later same)

  -- that of another position is, and that of this one is as it was
  replaced_there : (q : ℕ) (other : Shard) (put : List ℕ) → q ≢ p
      → slice_get set.shards q ≡ Some other → AreAsBefore (with_row spoilt other.node other.key put)
      → with_row spoilt other.node other.key put ≡ right
  replaced_there q other put off there same =
      let mine : RowStands right set.pages other = stands_at right set.shards q other stand there in
      let elsewhere : ((shard.node.n ≡ other.node.n) × (shard.key ≡ other.key)) → ⊥ =
      λ both. apart set.shards p q shard other distinct at there (λ e. off (sym e)) both.0 in
      let count : length spoilt.nodes ≡ length right.nodes =
      length-set right.nodes shard.node.n
      (map.insert (rows_of_node right shard.node) shard.key row) in
      let kept = put_keeps_other_rows spoilt other.node shard.node other.key shard.key put
      (omega (arith, count, mine.node)) elsewhere in
      let back : spoilt ≡ right = put_same right shard row stands
      (sym (ap (λ (o : Option (List ℕ)). unwrap_or o []) kept)
      ∙ same_row (with_row spoilt other.node other.key put) right set.shards p shard same at) in
      let put_in : NodesState → NodesState = λ n. with_row n other.node other.key put in
      ap put_in back
      ∙ put_back right set.shards q other put mine there
      (subst (λ (n : NodesState). AreAsBefore (with_row n other.node other.key put)) back same)

  -- one row more is put, and the set's rows are as they were
  replaced : (q : ℕ) (other : Shard) (put : List ℕ) → slice_get set.shards q ≡ Some other
      → AreAsBefore (with_row spoilt other.node other.key put)
      → with_row spoilt other.node other.key put ≡ right
  replaced q other put there same = elim (cases_eq q p) [
    | inl here ↦
        let is : other ≡ shard =
        same_Some other shard (sym there ∙ ap (slice_get set.shards) here ∙ at) in
        ap (λ (s : Shard). with_row spoilt s.node s.key put) is
        ∙ replaced_here put
        (subst (λ (s : Shard). AreAsBefore (with_row spoilt s.node s.key put)) is same)
    | inr off ↦ replaced_there q other put off there same
  ]

  -- nothing is put, and the set's rows are as they were
  given_out : (new : NodesState) → new ≡ with_rows_given spoilt (length set.shards)
      → AreAsBefore new
      → new ≡ record right { given = new.given }
  given_out new leaves same =
      let back : spoilt ≡ right =
      put_back right set.shards p shard row stands at (subst AreAsBefore leaves same) in
      given_alone right new (right.given + length set.shards)
      (leaves ∙ ap (λ (n : NodesState). with_rows_given n (length set.shards)) back)

  -- what an examination leaves, where the set's rows are as they were
  nodes_again : (found : Found) (new : NodesState) → LeavesNodes spoilt set found new
      → AreAsBefore new
      → new ≡ record right { given = new.given }
  nodes_again Clean new leaves same = given_out new leaves same
  nodes_again (One q) new leaves same =
      let put : List ℕ = row_of_others (rows_of spoilt set.shards) q in
      let n : ℕ = right.given + length set.shards in
      let back : with_row spoilt leaves.0.node leaves.0.key put ≡ right =
      replaced q leaves.0 put leaves.1 (subst AreAsBefore leaves.2 same) in
      given_alone right new n (leaves.2 ∙ ap (λ (x : NodesState). record x { given = n }) back)
  nodes_again (Many power column sum) new leaves same = given_out new leaves same

  -- the rows that were spoilt are the right ones but for the one row
  near_right : (m : Membership) (word : List (List ℕ)) → IsShaped m set
      → IsWordOf right m set word → word ≡ rows_of right set.shards
      → IsWordBut (parities set) (rows_of spoilt set.shards) p word
  near_right m word shaped is same =
      let within : p < length set.shards = slice_get_within set.shards p shard at in
      let count = count_of spoilt set.shards in
      let rows : List (List ℕ) = rows_of right set.shards in
      let changed : rows_of spoilt set.shards ≡ with_item rows p row =
      rows_after right set.shards p shard row distinct stands.node at in
      record {
        inside = omega (arith, within, count);
        code_word = subst (λ (n : ℕ). IsCodeWord n (parities set) word)
            (data_rows spoilt m set shaped) is.code.is_word;
        bytes = is.code.bytes;
        agrees = λ i inside other. ap (λ (x : List (List ℕ)). row_at x i) same
            ∙ sym (get_or-set_other rows p i row [] other)
            ∙ ap (λ (x : List (List ℕ)). row_at x i) (sym changed);
      }

some_at : (shards : List Shard) (i : ℕ) → i < length shards
    → (shard : Shard) × (slice_get shards i ≡ Some shard)
some_at [] i within = absurd (omega (arith, within))
some_at (x ∷ xs) i within = (get_or (x ∷ xs) i x, slice_get-get_or (x ∷ xs) i x within)

-- where nothing is lost, the word of a set is its rows
word_is_rows : (nodes : NodesState) (m : Membership) (set : SetState) (word : List (List ℕ))
    → IsShaped m set → IsWordOf nodes m set word → IsWhole m set
    → word ≡ rows_of nodes set.shards
word_is_rows nodes m set word shaped is whole =
    let first = shaped.data_first in
    let size : length word ≡ length set.shards = omega (arith, is.code.is_word.count, first) in
    ext_get_or [] word (rows_of nodes set.shards) (size ∙ sym (count_of nodes set.shards))
    (λ i inside. same i (omega (arith, inside, size)))
  where
    same : (i : ℕ) → i < length set.shards → row_at word i ≡ row_at (rows_of nodes set.shards) i
    same i within =
        let there = some_at set.shards i within in
        let kept = whole_none m set.shards whole i there.0 there.1 in
        sym (row_of_shard nodes set.shards i there.0 there.1
        ∙ ap (λ (o : Option (List ℕ)). unwrap_or o []) (is.survive i there.0 there.1 kept))

-- ---- the far state

-- a far state of which some rows were given out is as sound as it was
pub as_sound : (s : Shown) (right new : FarState) → Sound s right
    → new ≡ with_nodes right (record right.nodes { given = new.nodes.given })
    → IsSoundAgain s right new
as_sound s right new sound is = record {
  as_was = is;
  sound = subst (Sound s) (sym is)
      (recounted_sound s right right.counts.turns right.counts.by_job new.nodes.given sound);
}

-- nothing changed
unchanged : (s : Shown) (far new : FarState) → Sound s far → new ≡ far → IsSoundAgain s far new
unchanged s far new sound same = as_sound s far new sound (same
    ∙ ap (λ (n : ℕ). with_nodes far (record far.nodes { given = n }))
    (sym (ap (λ (f : FarState). f.nodes.given) same)))

module _ (s : Shown) (right : FarState) (sound : Sound s right) (id : ℕ) (set : SetState)
    (committed : set_in right.sets id ≡ Some set) (whole : IsWhole right.members set) where
  shaped : IsShaped right.members set
  shaped = sound.away.sound.sets.shaped id set committed

  word : (word : List (List ℕ)) × IsWordOf right.nodes right.members set word
  word = let worded = sound.away.sound.sets.worded id set committed in (worded.0, worded.1.word)

  stand : All (RowStands right.nodes set.pages) set.shards
  stand =
      let counted = sound.away.sound.rows.counted in
      all_stand right.nodes right.members set
      (sound_set right.nodes right set word.0 counted shaped word.1) (ap length whole)

  rows_are : word.0 ≡ rows_of right.nodes set.shards
  rows_are = word_is_rows right.nodes right.members set word.0 shaped word.1 whole

  rows_are_word : IsWord (parities set) (rows_of right.nodes set.shards)
  rows_are_word = subst (λ (n : ℕ). IsCodeWord n (parities set) (rows_of right.nodes set.shards))
      (data_rows right.nodes right.members set shaped)
      (subst (IsCodeWord (length set.positions) (parities set)) rows_are word.1.code.is_word)

  -- one row of the set was spoilt, and it was examined
  examined_again : (p : ℕ) (shard : Shard) (row : List ℕ) (new : NodesState) (found : Found)
      → 2 ≤ parities set → slice_get set.shards p ≡ Some shard
      → LeavesNodes (with_row right.nodes shard.node shard.key row) set found new
      → MakesRight (parities set)
      (rows_of (with_row right.nodes shard.node shard.key row) set.shards) found
      (rows_of new set.shards)
      → new ≡ record right.nodes { given = new.given }
  examined_again p shard row new found two at leaves makes =
      let near = near_right right.nodes set p shard row shaped.distinct stand at right.members
      word.0 shaped word.1 rows_are in
      nodes_again right.nodes set p shard row shaped.distinct stand at found new leaves
      (makes.near p word.0 two near ∙ rows_are)

  -- a set whose rows are right was examined
  examined_right : (new : NodesState) (found : Found)
      → IsFinding (parities set) (rows_of right.nodes set.shards) found
      → LeavesNodes right.nodes set found new → new ≡ record right.nodes { given = new.given }
  examined_right new Clean is leaves =
      given_alone right.nodes new (right.nodes.given + length set.shards) leaves
  examined_right new (One p) is leaves = absurd (is.wrong rows_are_word)
  examined_right new (Many power column sum) is leaves =
      given_alone right.nodes new (right.nodes.given + length set.shards) leaves

spoilt_again : (s : Shown) (right : FarState) (id : ℕ) (after : Option SetId) (far new : FarState)
    (found : Found) → Sound s right → IsSpoilt right id far → Examines after far id found new
    → KeepsWord far (Set (record { n = id }) found) new → IsSoundAgain s right new
spoilt_again s right id after far new found sound is examines keeps =
    let there : FarState =
    with_nodes right (with_row right.nodes is.shard.node is.shard.key is.row) in
    let examined : Examines after there id found new =
    subst (λ (f : FarState). Examines after f id found new) is.spoilt examines in
    let kept : KeepsWord there (Set (record { n = id }) found) new =
    subst (λ (f : FarState). KeepsWord f (Set (record { n = id }) found) new) is.spoilt keeps in
    let same : examined.set ≡ is.set =
    same_Some examined.set is.set (sym examined.is_set ∙ is.committed) in
    let whole = subst (IsWhole right.members) same examined.whole in
    let leaves = subst (λ (set : SetState). LeavesNodes there.nodes set found new.nodes) same
    examined.examined.leaves in
    as_sound s right new sound (examined.others
    ∙ ap (with_nodes right)
    (examined_again s right sound id is.set is.committed whole is.position is.shard is.row
    new.nodes found is.two is.at leaves (kept is.set is.committed)))

-- a row of the set is spoilt where something is added to one of its bytes
pub byte_is_spoilt : (far : FarState) (id : ℕ) (set : SetState) (position : ℕ) (shard : Shard)
    (at with : ℕ) → set_in far.sets id ≡ Some set → 2 ≤ parities set
    → slice_get set.shards position ≡ Some shard
    → IsSpoilt far id (with_nodes far (with_spoiled far.nodes shard.node shard.key at with))
byte_is_spoilt far id set position shard at with committed two there =
    let row : List ℕ = known_row far.nodes shard.node shard.key in
    record {
      set = set;
      committed = committed;
      two = two;
      position = position;
      shard = shard;
      at = there;
      row = with_item row at (get_or row at 0 ⊕ with);
      spoilt = refl;
    }

-- where a row of the set was spoilt in a sound world, the world is sound again
pub restores : (after : Option SetId) (far new : FarState) (result : Result Scrubbed NoMemory)
    → IfOk result (λ scrubbed. Scrubs after far scrubbed new)
    → IfOk result (λ scrubbed. KeepsWord far scrubbed new)
    → IfOk result (λ scrubbed. RestoresWorld far scrubbed new)
restores after far new (Ok Done) scrubs keeps = tt
restores after far new (Ok (Skipped id count)) scrubs keeps = tt
restores after far new (Ok (Set id found)) scrubs keeps = λ s right sound is.
    spoilt_again s right id.n after far new found sound is scrubs keeps
restores after far new (Err e) scrubs keeps = tt

-- a sound world stays so, and nothing but the count of rows given changes
pub stays_sound : (after : Option SetId) (s : Shown) (far new : FarState)
    (result : Result Scrubbed NoMemory) → IfOk result (λ scrubbed. Scrubs after far scrubbed new)
    → OnErr result (new ≡ far) → Sound s far → IsSoundAgain s far new
stays_sound after s far new (Ok Done) scrubs same sound = unchanged s far new sound scrubs.1
stays_sound after s far new (Ok (Skipped id count)) scrubs same sound =
    unchanged s far new sound scrubs.same
stays_sound after s far new (Ok (Set id found)) scrubs same sound =
    as_sound s far new sound (scrubs.others
    ∙ ap (with_nodes far)
    (examined_right s far sound id.n scrubs.set scrubs.is_set scrubs.whole new.nodes found
    scrubs.examined.is_found scrubs.examined.leaves))
stays_sound after s far new (Err e) scrubs same sound = unchanged s far new sound same
