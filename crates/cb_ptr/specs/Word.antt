use Rattle.std.specs.Prelude.{◌≡◌, ◌+◌, ◌*◌, ◌/◌, ◌%◌, ◌^◌, ◌<◌, ◌≤◌, Bool, true, false, ℕ, nat_eq, zero, suc, if◌then◌else◌}
use Rattle.cb_ptr.specs.declared.word.PtrWord.{PtrWord}
use Rattle.cb_ptr.specs.declared.word.State.{State}
use Rattle.cb_ptr.specs.declared.word.State.TheVariants.{Empty, Far, Here, Moving}

-- the number of a state in a word
abbrev pub state_number : State → ℕ
state_number Empty = 0
state_number Far = 1
state_number Here = 2
state_number Moving = 3

-- the state of a number
abbrev pub numbered_state : ℕ → State
numbered_state zero = Empty
numbered_state (suc zero) = Far
numbered_state (suc (suc zero)) = Here
numbered_state (suc (suc (suc _))) = Moving

-- the number of a flag
abbrev pub flag_number : Bool → ℕ
flag_number b = if b then 1 else 0

-- each field is within its width: 10 bits of pins, 16 of length, 24 of place
pub record IsInWidths (p : PtrWord) : Type 0 where
  pub pins : p.pins < 2 ^ 10
  pub len : p.len < 2 ^ 16
  pub place : p.place < 2 ^ 24

-- the word of the fields: state in bits 0 and 1, hot in bit 2, pins from bit 3, length from bit 13,
-- place from bit 29
abbrev pub word_of : PtrWord → ℕ
word_of p =
    state_number p.state + flag_number p.hot * 4 + p.pins * 8 + p.len * 8192 + p.place * 536870912

-- the state in a word
abbrev pub state_of : ℕ → State
state_of w = numbered_state (w % 4)

-- whether a word is hot
abbrev pub hot_of : ℕ → Bool
hot_of w = nat_eq (w / 4 % 2) 1

-- the pins in a word
abbrev pub pins_of : ℕ → ℕ
pins_of w = w / 8 % 1024

-- the length in bytes in a word
abbrev pub len_of : ℕ → ℕ
len_of w = w / 8192 % 65536

-- the place in a word: the index of the first memory word of the object's slot
abbrev pub place_of : ℕ → ℕ
place_of w = w / 536870912 % 16777216

-- the fields of a word
abbrev pub fields_of : ℕ → PtrWord
fields_of w = record {
  state = state_of w;
  hot = hot_of w;
  pins = pins_of w;
  len = len_of w;
  place = place_of w;
}

-- a word of an object: an Empty word is 0, a Far one has its length alone, and one with pins is
-- Here and hot
pub record IsPointer (w : ℕ) : Type 0 where
  pub below : w < 2 ^ 53
  pub empty : state_of w ≡ Empty → w ≡ 0
  pub far : state_of w ≡ Far → (hot_of w ≡ false) × (pins_of w ≡ 0) × (place_of w ≡ 0)
  pub held : 1 ≤ pins_of w → (state_of w ≡ Here) × (hot_of w ≡ true)
