-- Worked examples: what may be noted of a search that found no two sets to join.
use Rattle.std.proofs.Common.{◌≡◌, ℕ, ◌<◌, ◌∷◌, ◌++◌, List, None, Some, nat_cmp, replicate, refl, sym, ap, ◌∙◌, arith}
use Rattle.std.specs.FinMap as map
use Rattle.cb_set.specs.SetState.{SetState}
use Rattle.cb_world.specs.FarState.{FarState}
use Rattle.cb_world.specs.Pairs.{CanJoin, HoldsNoPair, others}
use Rattle.cb_world.specs.Sets.{SetMap, if_committed}
use Rattle.cb_world.proofs.WorkedWorld.{far}

-- a read, two pair lines, a free, and a compact line: two turns that look for none
abbrev jobs : List ℕ
jobs = 0 ∷ 1 ∷ 0 ∷ 1 ∷ replicate 7 0 ++ 2 ∷ replicate 3 0 ++ 1 ∷ replicate 3 0

-- a far state after these, in which a search that found none is noted or is not
abbrev noted : SetMap → ℕ → FarState
noted sets n = record far {
  sets = sets;
  counts = record { turns = 5; by_job = jobs; sets = 0; keys = 0 };
  survey = record { below = 0; gone = 0; no_pair = Some n };
}

two_look_for_none : others (noted map.empty 0).counts ≡ 2
two_look_for_none = refl

same : (a b : ℕ) → Some a ≡ Some b → a ≡ b
same a b e = cc

no_set : (a : SetState) → None ≡ Some a → ⊥
no_set a e = cc

-- with no set, none can be joined: that none were found after both turns holds
nothing_since : HoldsNoPair (noted map.empty 2)
nothing_since n e = let is = same 2 n e in (
  omega (arith, is),
  λ now i j a b l can.
      no_set a (sym (ap if_committed (map.get-empty nat_cmp i)) ∙ can.a_there),
)

-- a note from before the free says nothing of the sets there are now
freed_since : (sets : SetMap) → HoldsNoPair (noted sets 1)
freed_since sets n e = let is = same 1 n e in
    (omega (arith, is), λ now. absurd (omega (arith, is, now)))

-- a note can't be of more turns than there were
from_later : HoldsNoPair (noted map.empty 3) → ⊥
from_later x = let l = (x 3 refl).0 in omega (arith, l)

-- and where nothing has changed since, no two sets can be joined
two_can : (sets : SetMap) (i j : ℕ) (a b : SetState) → i < j → CanJoin (noted sets 2) i j a b
    → HoldsNoPair (noted sets 2) → ⊥
two_can sets i j a b l can x = (x 2 refl).1 refl i j a b l can
