use Rattle.std.specs.Prelude.{◌≡◌, ◌+◌, ◌*◌, ◌^◌, ◌<◌, Bool, true, false, ℕ}
use Rattle.cb_ptr.specs.declared.word.State.TheVariants.{Far, Here, Moving}
use Rattle.cb_ptr.specs.Word.{flag_number, hot_of, len_of, pins_of, place_of, state_of}

-- the new word is the old one with one pin more, and hot: 8 more, and 4 more where it was not hot
pub record TakesPin (old new : ℕ) : Type 0 where
  pub state : state_of new ≡ state_of old
  pub hot : hot_of new ≡ true
  pub pins : pins_of new ≡ pins_of old + 1
  pub len : len_of new ≡ len_of old
  pub place : place_of new ≡ place_of old
  pub number : new + flag_number (hot_of old) * 4 ≡ old + 12

-- the new word is the old one with one pin less: 8 less
pub record GivesPin (old new : ℕ) : Type 0 where
  pub state : state_of new ≡ state_of old
  pub hot : hot_of new ≡ hot_of old
  pub pins : pins_of new + 1 ≡ pins_of old
  pub len : len_of new ≡ len_of old
  pub place : place_of new ≡ place_of old
  pub number : new + 8 ≡ old

-- the new word is the old one, Here and without pins, as Moving: 1 more
pub record Claims (old new : ℕ) : Type 0 where
  pub state : state_of new ≡ Moving
  pub hot : hot_of new ≡ hot_of old
  pub pins : pins_of new ≡ 0
  pub len : len_of new ≡ len_of old
  pub place : place_of new ≡ place_of old
  pub number : new ≡ old + 1

-- the new word is the old one as Here, at this place, hot or not
pub record Settles (old at : ℕ) (as_hot : Bool) (new : ℕ) : Type 0 where
  pub state : state_of new ≡ Here
  pub hot : hot_of new ≡ as_hot
  pub pins : pins_of new ≡ pins_of old
  pub len : len_of new ≡ len_of old
  pub place : place_of new ≡ at
  pub below : new < 2 ^ 53

-- the word of a Far object: its length in bytes, and nothing else
pub record IsFarWord (bytes w : ℕ) : Type 0 where
  pub state : state_of w ≡ Far
  pub hot : hot_of w ≡ false
  pub pins : pins_of w ≡ 0
  pub len : len_of w ≡ bytes
  pub place : place_of w ≡ 0
  pub number : w ≡ 1 + bytes * 8192
