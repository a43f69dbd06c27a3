-- What changes of the far state leave of its codes.
use Rattle.std.specs.Prelude.{◌≡◌, ℕ, Some}
use Rattle.cb_member.specs.declared.names.Code.{Code}
use Rattle.cb_set.specs.SetState.{SetState, code_of}
use Rattle.cb_world.specs.Codes.{IsPairOfCode, code_of_batch}
use Rattle.cb_world.specs.FarState.{FarState}
use Rattle.cb_world.specs.Joining.{JoiningState}
use Rattle.cb_world.specs.Leaving.{LeavingState}
use Rattle.cb_world.specs.Sets.{SetMap, set_in}

-- a code of the far state: the one in force, that of a committed set, or that of the batch
pub data IsCodeIn (far : FarState) (code : Code) : Type 0 where
  in_force : code ≡ far.code → IsCodeIn far code
  of_a_set : (id : ℕ) (set : SetState) → set_in far.sets id ≡ Some set → code ≡ code_of set
      → IsCodeIn far code
  of_the_batch : (b : LeavingState) → far.leaving ≡ Some b → code ≡ code_of_batch b → IsCodeIn far code

-- the code of a pair: that of the pair which was joining, or one of the far state, by what is known of
-- the pair before or without it
pub data PairHasCode (far : FarState) (p : JoiningState) : Type 0 where
  as_before : (q : JoiningState) → far.joining ≡ Some q
      → ((k r : ℕ) → IsPairOfCode k r q → IsPairOfCode k r p) → PairHasCode far p
  from_before : (q : JoiningState) (code : Code) → far.joining ≡ Some q → IsCodeIn far code
      → ((k r : ℕ) → IsPairOfCode k r q → IsPairOfCode code.k code.r p) → PairHasCode far p
  of_code : (code : Code) → IsCodeIn far code → IsPairOfCode code.k code.r p → PairHasCode far p

-- what holds of each committed set, by its number
abbrev pub EachSet : (ℕ → SetState → Type 0) → SetMap → Type 0
EachSet P sets = (id : ℕ) (set : SetState) → set_in sets id ≡ Some set → P id set

-- each committed set has its own number
abbrev pub HasNumber : ℕ → SetState → Type 0
HasNumber id set = set.id ≡ id

abbrev pub AreOwn : SetMap → Type 0
AreOwn = EachSet HasNumber

-- no other code comes up by a change, and each committed set keeps its own number
pub record KeepCodes (far new : FarState) : Type 0 where
  pub codes : (code : Code) → IsCodeIn new code → IsCodeIn far code
  pub pair : (p : JoiningState) → new.joining ≡ Some p → PairHasCode far p
  pub own : AreOwn far.sets → AreOwn new.sets
