-- The sets among which a pair is looked for.
use Rattle.std.specs.Prelude.{◌≡◌, ◌⊎◌, ℕ, ◌<◌, ◌≤◌, true, List, [], ◌∷◌, ◌++◌, Some, length, map, slice_get, bit_and}
use Rattle.std.specs.BTreeSet.{BTreeSet, contains}
use Rattle.std.specs.declared.cmp.Ordering.{Ordering}
use Rattle.cb_set.specs.SetState.{SetState, parities}
use Rattle.cb_set.specs.Lost.{IsWhole}
use Rattle.cb_set.specs.Matched.{live_mask}
use Rattle.cb_world.specs.Sets.{set_in}
use Rattle.cb_world.specs.FarState.{FarState}
use Rattle.cb_world.specs.Groups.{IsAmong}
use Rattle.cb_compact.specs.declared.candidates.Candidate.{Candidate}
use Rattle.cb_world.specs.declared.groups.Group.{Group}

-- the candidate is the whole committed set of its number
pub record IsCandidate (far : FarState) (candidate : Candidate) (set : SetState) : Type 0 where
  pub there : set_in far.sets candidate.id ≡ Some set
  pub whole : IsWhole far.members set
  pub k : candidate.k ≡ length set.positions
  pub r : candidate.r ≡ parities set
  pub pages : candidate.pages ≡ set.pages
  pub live : candidate.live ≡ live_mask set.positions

-- both are of one code and one length and have the same live positions
pub record AreAlike (a b : Candidate) : Type 0 where
  pub k : a.k ≡ b.k
  pub r : a.r ≡ b.r
  pub pages : a.pages ≡ b.pages
  pub live : a.live ≡ b.live

-- what it has in common with those that are alike
abbrev pub group : Candidate → Group
group c = record { k = c.k; r = c.r; pages = c.pages; live = c.live }

-- the groups of candidates
abbrev pub groups_of : List Candidate → List Group
groups_of found = map group found

-- a group was seen, by this order of groups, only where a candidate of it was found
abbrev pub AreSeen : (Group → Group → Ordering) → List Candidate → BTreeSet Group → Type 0
AreSeen cmp found seen = (g : Group) → contains cmp seen g ≡ true
    → (i : ℕ) × (d : Candidate) × (slice_get found i ≡ Some d) × (group d ≡ g)

-- a candidate was added at the end, or one that is alike was there and nothing has changed
abbrev pub IsAdded : List Candidate → Candidate → List Candidate → Type 0
IsAdded found c new = (new ≡ found ++ c ∷ []) ⊎ ((new ≡ found)
    × ((i : ℕ) × (d : Candidate) × (slice_get found i ≡ Some d) × AreAlike d c))

-- both are of one code and one length and have no live position in common
pub record CanMatch (a b : Candidate) : Type 0 where
  pub k : a.k ≡ b.k
  pub r : a.r ≡ b.r
  pub pages : a.pages ≡ b.pages
  pub apart : bit_and a.live b.live ≡ 0

-- Of the whole committed sets with a number below this one, the first of each code, length
-- and live positions, in order of their numbers.
pub record AreFirsts (far : FarState) (below : ℕ) (found : List Candidate) : Type 0 where
  pub sets : (i : ℕ) (c : Candidate) → slice_get found i ≡ Some c
      → (c.id < below) × (set : SetState) × IsCandidate far c set
  pub ascend : (i j : ℕ) (c d : Candidate) → i < j → slice_get found i ≡ Some c
      → slice_get found j ≡ Some d → c.id < d.id
  pub cover : (c : Candidate) (set : SetState) → c.id < below → IsCandidate far c set
      → (i : ℕ) × (d : Candidate) × (slice_get found i ≡ Some d) × (d.id ≤ c.id) × AreAlike d c

-- the first two that match: the least x that matches one after it, and then the least such y
pub record IsFirstMatch (found : List Candidate) (x y : Candidate) : Type 0 where
  pub i : ℕ
  pub j : ℕ
  pub order : i < j
  pub at_i : slice_get found i ≡ Some x
  pub at_j : slice_get found j ≡ Some y
  pub match_ : CanMatch x y
  pub least : (m n : ℕ) (c d : Candidate) → m < n → slice_get found m ≡ Some c
      → slice_get found n ≡ Some d → CanMatch c d → i ≤ m
  pub least_j : (n : ℕ) (d : Candidate) → i < n → slice_get found n ≡ Some d → CanMatch x d → j ≤
      n

-- no two match
abbrev pub NoneMatch : List Candidate → Type 0
NoneMatch found = (m n : ℕ) (c d : Candidate) → m < n → slice_get found m ≡ Some c
    → slice_get found n ≡ Some d → ¬ (CanMatch c d)

-- the least place of a candidate after this one that matches it
pub record IsPartner (found : List Candidate) (i j : ℕ) : Type 0 where
  pub order : i < j
  pub within : j < length found
  pub can : (c d : Candidate) → slice_get found i ≡ Some c → slice_get found j ≡ Some d
      → CanMatch c d
  pub least : (n : ℕ) (c d : Candidate) → i < n → n < j → slice_get found i ≡ Some c
      → slice_get found n ≡ Some d → ¬ (CanMatch c d)

-- no candidate after this one matches it
abbrev pub HasNoPartner : List Candidate → ℕ → Type 0
HasNoPartner found i = (n : ℕ) (c d : Candidate) → i < n → slice_get found i ≡ Some c
    → slice_get found n ≡ Some d → ¬ (CanMatch c d)

-- each committed set with a number below this one is whole, or its number is one of these
abbrev pub AreWholeBut : FarState → ℕ → List ℕ → Type 0
AreWholeBut far below others = (id : ℕ) (set : SetState) → id < below
    → set_in far.sets id ≡ Some set → IsWhole far.members set ⊎ IsAmong id others
