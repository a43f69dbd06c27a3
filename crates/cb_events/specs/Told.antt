-- What is told of a list of events.
use Rattle.std.specs.Prelude.{◌≡◌, ℕ, ◌≤◌, List, [], ◌∷◌, ◌++◌, length, drop, codes, decimal}
use Rattle.std.specs.List.{flat_map}
use Rattle.cb_text.specs.Line.{reply_text, spaced, version_text, word_and_number}
use Rattle.cb_types.specs.Config.{IsAccepted}
use Rattle.cb_types.specs.declared.config.Config.{Config}
use Rattle.cb_types.specs.declared.reply.Reply.{Reply}
use Rattle.cb_types.specs.declared.reply.Reply.TheVariants.{Made, Swapped, Stays, Word, Claimed, Stored, NotClaimed, NotStored, Held, NotHeld, Crowded, NoOrder, Direct, Fetched}
use Rattle.cb_world.specs.World.{WorldState, empty_world}
use Rattle.cb_core.specs.declared.event.Event.{Event}
use Rattle.cb_core.specs.Step.{Leads}
use Rattle.cb_events.specs.Listing.{AreListed, NoneListed, config_in}

-- The words of a reply, each after a space: as in the answer of a line where a line can be answered
-- so, but that a make tells its handle too.
abbrev pub told_text : Reply → List ℕ
told_text (Made handle version) =
    word_and_number (codes "made") handle.n ++ spaced (version_text version)
told_text (Swapped frame) = word_and_number (codes "swapped") frame
told_text (Word word) = word_and_number (codes "word") word
told_text (Stored left) = word_and_number (codes "stored") left
told_text (NotStored left) = word_and_number (codes "notstored") left
told_text (Held seat) = word_and_number (codes "held") seat
told_text Stays = spaced (codes "stays")
told_text Claimed = spaced (codes "claimed")
told_text NotClaimed = spaced (codes "notclaimed")
told_text NotHeld = spaced (codes "notheld")
told_text Crowded = spaced (codes "crowded")
told_text NoOrder = spaced (codes "noorder")
told_text Direct = spaced (codes "direct")
told_text (Fetched set position) =
    word_and_number (codes "fetched") set.n ++ spaced (decimal position)
told_text reply = reply_text reply

-- the line of a reply
abbrev pub told_line : Reply → List ℕ
told_line reply = codes "reply" ++ told_text reply ++ 10 ∷ []

-- the last line: how many bytes were not read
abbrev pub rest_line : ℕ → List ℕ
rest_line left = codes "rest" ++ spaced (decimal left) ++ 10 ∷ []

-- the text where there is no configuration
abbrev pub no_config : List ℕ
no_config = codes "no configuration" ++ 10 ∷ []

-- the events lead from the empty world of the configuration, with these replies
abbrev pub LeadFromEmpty : Config → List Event → List Reply → Type 0
LeadFromEmpty config events replies =
    (new : WorldState) × Leads (empty_world config) events replies new

-- The text tells the replies to all events that stand one after the other at the front of the
-- bytes, from the empty world of the configuration, and how many bytes stand after them.
pub record TellsReplies (config : Config) (bytes text : List ℕ) : Type 0 where
  pub events : List Event
  pub rest : List ℕ
  pub replies : List Reply
  pub listed : AreListed config bytes events rest
  pub all : NoneListed config rest
  pub leads : LeadFromEmpty config events replies
  pub told : text ≡ flat_map told_line replies ++ rest_line (length rest)

-- The text is what is told of these bytes: the replies to the events that they list, or that they
-- begin with no configuration that is accepted.
pub data IsTextTold (bytes text : List ℕ) : Type 0 where
  refused : (14 ≤ length bytes → IsAccepted (config_in bytes) → ⊥) → text ≡ no_config
      → IsTextTold bytes text
  answered : 14 ≤ length bytes → IsAccepted (config_in bytes)
      → TellsReplies (config_in bytes) (drop 14 bytes) text → IsTextTold bytes text
