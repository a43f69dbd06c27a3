-- What an object of a world holds, where a seat may have an open write on it.
use Rattle.std.specs.Prelude.{◌≡◌, ℕ, true, nat_eq, List, [], ◌∷◌, Option, None, Some, if◌then◌else◌}
use Rattle.cb_ptr.specs.declared.word.State.TheVariants as state
use Rattle.cb_ptr.specs.Word.{state_of}
use Rattle.cb_world.specs.declared.shown.Shown.{Shown}
use Rattle.cb_world.specs.Memory.{bytes_in}
use Rattle.cb_world.specs.Now.{Now, is_gone, now}
use Rattle.cb_world.specs.Now.Now.{held, gone}
use Rattle.cb_world.specs.Seats.{SeatState, OpenWriteState}
use Rattle.cb_world.specs.StillWords.{stamp_at}
use Rattle.cb_world.specs.World.{WorldState, word_at}

-- the open write on the object, of those that a seat has
abbrev pub first_on : ℕ → List OpenWriteState → Option OpenWriteState
first_on h [] = None
first_on h (c ∷ claims) = if nat_eq c.handle h then Some c else first_on h claims

-- the first of two, where there is one
abbrev pub one_of : Option OpenWriteState → Option OpenWriteState → Option OpenWriteState
one_of (Some c) other = Some c
one_of None other = other

-- the open write on the object, of those that the seats have
abbrev pub claim_on : List SeatState → ℕ → Option OpenWriteState
claim_on [] h = None
claim_on (seat ∷ seats) h = one_of (first_on h seat.claims) (claim_on seats h)

-- a claimed object holds what it had when it was claimed, which is in its open write
abbrev pub now_with : Option OpenWriteState → Now → Now
now_with None n = n
now_with (Some c) n = held c.version (bytes_in c.words c.len)

-- what an object holds, by what is known of the world
abbrev pub now_in : WorldState → Shown → ℕ → Now
now_in w s h = now_with (claim_on w.seats h) (now s w.far h)

-- the object is far, its set has lost more shards than it has parities, and its version is this one
abbrev pub IsLostAt : WorldState → ℕ → ℕ → Type 0
IsLostAt w h v = (state_of (word_at w.desk h) ≡ state.Far) × (is_gone w.far h ≡ true)
    × (stamp_at w.desk h ≡ v)

-- exactly then it is gone at that version
pub record AreGone (w : WorldState) (s : Shown) : Type 0 where
  pub lost : (h v : ℕ) → now_in w s h ≡ gone v → IsLostAt w h v
  pub told : (h v : ℕ) → IsLostAt w h v → now_in w s h ≡ gone v
