-- The words of one object are as is known of it.
use Rattle.std.specs.Prelude.{◌≡◌, ◌⊎◌, ℕ, ◌≤◌, true, List}
use Rattle.cb_types.specs.declared.config.Config.{Config}
use Rattle.cb_ptr.specs.declared.word.State.TheVariants as word
use Rattle.cb_ptr.specs.Word.{state_of, hot_of, pins_of}
use Rattle.cb_world.specs.declared.object.Object.{Object}
use Rattle.cb_world.specs.declared.object.Object.TheVariants as is
use Rattle.cb_world.specs.Memory.{IsPacked}
use Rattle.cb_rule.specs.History.{Value, holding_words, no_value}
use Rattle.cb_rule.specs.Words.{pointer, stamp, words_at}

-- It lies in local memory and no one claims it: its word counts the pins, and its version word and
-- its memory are those of its newest entry.
pub record IsCalm (c : Config) (ws : List ℕ) (h pins claims version : ℕ) (value : Value)
    (len place : ℕ) : Type 0 where
  pub no_claims : claims ≡ 0
  pub state : state_of (pointer ws h) ≡ word.Here
  pub count : pins_of (pointer ws h) ≡ pins
  pub warm : 1 ≤ pins → hot_of (pointer ws h) ≡ true
  pub stamped : stamp c ws h ≡ version
  pub words : words_at c ws place len ≡ value.words

-- a seat claims it outside of a turn
pub record IsClaimedBySeat (ws : List ℕ) (h pins claims : ℕ) : Type 0 where
  pub one_claim : claims ≡ 1
  pub no_pins : pins ≡ 0
  pub state : state_of (pointer ws h) ≡ word.Moving
  pub bare : pins_of (pointer ws h) ≡ 0

-- it lies in local memory, and others may change it
pub record IsShared (c : Config) (first : ℕ) (ws : List ℕ) (h pins claims version : ℕ)
    (value : Value) (seen len place : ℕ) : Type 0 where
  pub born : first ≤ version
  pub held : value ≡ holding_words len value.words
  pub packed : IsPacked len value.words
  pub low : seen ≤ version
  pub word : IsCalm c ws h pins claims version value len place ⊎ IsClaimedBySeat ws h pins claims

-- only the holder of the far lock may change it, and its version word is as it left it
pub record IsKeptByHolder (c : Config) (ws : List ℕ) (h pins claims version : ℕ) (value : Value)
    (seen last : ℕ) (contents : Value) : Type 0 where
  pub no_pins : pins ≡ 0
  pub no_claims : claims ≡ 0
  pub stamped : stamp c ws h ≡ seen
  pub at : version ≡ last
  pub has : value ≡ contents

-- and it has contents
pub record IsHolding (c : Config) (first : ℕ) (ws : List ℕ) (h pins claims version : ℕ)
    (value : Value) (seen len last : ℕ) (words : List ℕ) : Type 0 where
  pub kept : IsKeptByHolder c ws h pins claims version value seen last (holding_words len words)
  pub born : first ≤ last
  pub packed : IsPacked len words

-- The views have so many pins on it and claims of it, and the version and the value are those of its
-- newest entry. The holder knows that its version word is seen.
abbrev pub Stands : Config → ℕ → List ℕ → ℕ → ℕ → ℕ → ℕ → Value → ℕ → Object → Type 0
Stands c first ws h pins claims version value seen (is.Empty v) =
    IsKeptByHolder c ws h pins claims version value seen v no_value
Stands c first ws h pins claims version value seen (is.Far len v words) =
    IsHolding c first ws h pins claims version value seen len v words
Stands c first ws h pins claims version value seen (is.Here len place) =
    IsShared c first ws h pins claims version value seen len place
Stands c first ws h pins claims version value seen (is.Claimed len place v words) =
    IsHolding c first ws h pins claims version value seen len v words
