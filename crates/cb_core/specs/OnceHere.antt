-- A call on an object that is first brought in.
use Rattle.std.specs.Prelude.{◌≡◌, ◌⊎◌, ℕ}
use Rattle.cb_types.specs.declared.reply.Reply.{Reply}
use Rattle.cb_types.specs.declared.reply.Reply.TheVariants as answer
use Rattle.cb_core.specs.Parts.{Holding}

-- the object is here: it was so, or it was brought in
abbrev pub IsThere : Reply → Type 0
IsThere place = (place ≡ answer.Stays) ⊎ ((f : ℕ) × (place ≡ answer.Swapped f))

-- The object is brought in where it is far. Where it is here then the call is made; where it is
-- not, the answer is why.
pub data OnceHere {D : Type 0} (bringing call : Holding D → Reply → Holding D → Type 0)
    (a : Holding D) (r : Reply) (b : Holding D) : Type 0 where
  away : bringing a r b → (IsThere r → ⊥) → OnceHere bringing call a r b
  here : (m : Holding D) (place : Reply) → bringing a place m → IsThere place → call m r b
      → OnceHere bringing call a r b

-- It found no memory: for the bringing in, or for the call. What was done before stays.
pub data OnceHereStops {D : Type 0} (bringing : Holding D → Reply → Holding D → Type 0)
    (bringing_lacks lacks : Holding D → Holding D → Type 0) (a b : Holding D) : Type 0 where
  bringing_stops : bringing_lacks a b → OnceHereStops bringing bringing_lacks lacks a b
  call_stops : (m : Holding D) (place : Reply) → bringing a place m → IsThere place → lacks m b
      → OnceHereStops bringing bringing_lacks lacks a b
