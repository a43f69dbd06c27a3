-- A write of a seat in steps: its claim, its stores and its settling, as steps of the world.
use Rattle.std.specs.Prelude.{◌≡◌, ℕ, ◌+◌, ◌-◌, ◌*◌, ◌^◌, ◌<◌, ◌≤◌, List, [], ◌∷◌, ◌++◌, length, slice_index, slice_set}
use Rattle.std.specs.List.{remove}
use Rattle.cb_ptr.specs.Word.{len_of, place_of}
use Rattle.cb_types.specs.declared.reply.Reply.{Reply}
use Rattle.cb_types.specs.declared.reply.Reply.TheVariants as answer
use Rattle.cb_world.specs.Grasped.{IsFree}
use Rattle.cb_world.specs.OpenSteps.{IsClaimOn, NoClaimOn, IsClaimed, IsSettled, next_word, stored_once}
use Rattle.cb_world.specs.OpenWrites.{stores_left}
use Rattle.cb_world.specs.Plain.{Words}
use Rattle.cb_world.specs.Seats.{OpenWriteState, claims_of_seat, with_claims}
use Rattle.cb_world.specs.StillWords.{stamp_at, contents_at}
use Rattle.cb_world.specs.World.{WorldState, word_at}
use Rattle.cb_mutate.specs.Merged.{IsWordMerged}
use Rattle.cb_mutate.specs.StillReplies.{write_reply}

-- a claim is answered as a write would be: where that would be done, the object is claimed
abbrev pub claim_reply : Reply → Reply
claim_reply (answer.Version version) = answer.Claimed
claim_reply r = r

abbrev pub claim_answer : Words → ℕ → ℕ → ℕ → Reply
claim_answer desk h at count = claim_reply (write_reply (word_at desk h) (stamp_at desk h) at count)

-- a claim of an object with this pointer word and version word is refused with this reply
abbrev pub IsClaimRefused : ℕ → ℕ → ℕ → ℕ → Reply → Type 0
IsClaimRefused word version at count r =
    (r ≡ claim_reply (write_reply word version at count)) × (r ≡ answer.Claimed → ⊥)

-- an object that can be claimed for a write of so many bytes: it is here without pins, the bytes
-- are within it, and its version has a next one
pub record MayClaim (desk : Words) (h at count : ℕ) : Type 0 where
  pub free : IsFree (word_at desk h)
  pub inside : at + count ≤ len_of (word_at desk h)
  pub next : stamp_at desk h < 2 ^ 64 - 1

-- the open write of an object that is claimed now
abbrev pub opened : Words → ℕ → ℕ → List ℕ → OpenWriteState
opened desk h at bytes = record {
  handle = h;
  len = len_of (word_at desk h);
  version = stamp_at desk h;
  words = contents_at desk h;
  at = at;
  bytes = bytes;
  stored = 0;
}

-- the object is Moving, and the seat has the open write after its others
pub record IsClaimTaken (seat h at : ℕ) (bytes : List ℕ) (w new : WorldState) : Type 0 where
  pub word : IsClaimed w.desk h new.desk
  pub seats : new.seats ≡ with_claims w.seats seat
      (claims_of_seat w.seats seat ++ opened w.desk h at bytes ∷ [])
  pub far : new.far ≡ w.far

-- A claim: a refusal changes nothing.
pub data ClaimStep (seat h at : ℕ) (bytes : List ℕ) (w : WorldState) (r : Reply) (new : WorldState)
    : Type 0 where
  refused : (r ≡ answer.Claimed → ⊥) → r ≡ claim_answer w.desk h at (length bytes) → new ≡ w
      → ClaimStep seat h at bytes w r new
  taken : MayClaim w.desk h at (length bytes) → r ≡ answer.Claimed
      → r ≡ claim_answer w.desk h at (length bytes) → IsClaimTaken seat h at bytes w new
      → ClaimStep seat h at bytes w r new

-- the seats, where this open write of a seat has one word more stored
pub record IsCounted (seat at : ℕ) (c : OpenWriteState) (w new : WorldState) : Type 0 where
  pub seats : new.seats ≡ with_claims w.seats seat
      (slice_set (claims_of_seat w.seats seat) at (stored_once c))
  pub far : new.far ≡ w.far

-- the place of the memory word that an open write stores next
abbrev pub next_place : Words → ℕ → OpenWriteState → ℕ
next_place desk h c = place_of (word_at desk h) + next_word c

-- that memory word is stored: it has the bytes of the write that fall into it
pub record IsWordStored (h : ℕ) (c : OpenWriteState) (old new : Words) : Type 0 where
  pub word : ℕ
  pub small : word < 2 ^ 64
  pub merged : IsWordMerged (slice_index old.memory (next_place old h c)) (8 * next_word c) c.at
      c.bytes
      word
  pub words : new ≡ record old { memory = slice_set old.memory (next_place old h c) word }

-- the version word is stored, which is the last
abbrev pub IsVersionStored : ℕ → OpenWriteState → Words → Words → Type 0
IsVersionStored h c old new =
    new ≡ record old { versions = slice_set old.versions h (c.version + 1) }

-- A store, by what is left: without an open write it is refused, and where nothing is left it
-- changes nothing.
pub data StoreStep (seat h : ℕ) (w : WorldState) (r : Reply) (new : WorldState) : Type 0 where
  not_claimed : NoClaimOn (claims_of_seat w.seats seat) h → r ≡ answer.NotClaimed → new ≡ w
      → StoreStep seat h w r new
  nothing_left : (at : ℕ) (x : IsClaimOn (claims_of_seat w.seats seat) h at)
      → stores_left x.ongoing ≡ 0 → r ≡ answer.Stored 0 → new ≡ w → StoreStep seat h w r new
  stored : (at : ℕ) (x : IsClaimOn (claims_of_seat w.seats seat) h at) → 2 ≤ stores_left x.ongoing
      → r ≡ answer.Stored (stores_left x.ongoing - 1) → IsWordStored h x.ongoing w.desk new.desk
      → IsCounted seat at x.ongoing w new → StoreStep seat h w r new
  stamped : (at : ℕ) (x : IsClaimOn (claims_of_seat w.seats seat) h at) → stores_left x.ongoing ≡ 1
      → r ≡ answer.Stored 0 → IsVersionStored h x.ongoing w.desk new.desk
      → IsCounted seat at x.ongoing w new → StoreStep seat h w r new

-- the object is here again and hot, and the seat's write is no longer open
pub record IsClaimSettled (seat h at : ℕ) (w new : WorldState) : Type 0 where
  pub word : IsSettled w.desk h new.desk
  pub seats : new.seats ≡ with_claims w.seats seat (remove (claims_of_seat w.seats seat) at)
  pub far : new.far ≡ w.far

-- A settling: refused without an open write, and where words are left.
pub data SettleStep (seat h : ℕ) (w : WorldState) (r : Reply) (new : WorldState) : Type 0 where
  not_claimed : NoClaimOn (claims_of_seat w.seats seat) h → r ≡ answer.NotClaimed → new ≡ w
      → SettleStep seat h w r new
  not_stored : (at : ℕ) (x : IsClaimOn (claims_of_seat w.seats seat) h at)
      → 1 ≤ stores_left x.ongoing → r ≡ answer.NotStored (stores_left x.ongoing) → new ≡ w
      → SettleStep seat h w r new
  settled : (at : ℕ) (x : IsClaimOn (claims_of_seat w.seats seat) h at)
      → stores_left x.ongoing ≡ 0 → r ≡ answer.Version (x.ongoing.version + 1)
      → IsClaimSettled seat h at w new → SettleStep seat h w r new
