-- What a call on an object is answered over a still desk: a function of the object's words.
use Rattle.std.specs.Prelude.{ℕ, zero, suc, ◌+◌, ◌-◌, ◌^◌, ◌==◌, nat_lt, List, if◌then◌else◌}
use Rattle.cb_ptr.specs.declared.word.State.{State}
use Rattle.cb_ptr.specs.declared.word.State.TheVariants as word
use Rattle.cb_ptr.specs.Word.{state_of, len_of, pins_of}
use Rattle.cb_types.specs.declared.reply.Reply.{Reply}
use Rattle.cb_types.specs.declared.reply.Reply.TheVariants as answer
use Rattle.cb_world.specs.Memory.{bytes_in}

-- an object with an empty word: never made at version 0, and else freed
abbrev pub empty_reply : ℕ → Reply
empty_reply zero = answer.Unmade
empty_reply (suc version) = answer.Freed

-- by the state of its pointer word; `here` is the reply of an object that is here
abbrev pub reply_as : State → ℕ → Reply → Reply
reply_as word.Empty version here = empty_reply version
reply_as word.Far version here = answer.NotHere
reply_as word.Here version here = here
reply_as word.Moving version here = answer.Moving

-- the next version, where there is one
abbrev pub next_reply : ℕ → Reply
next_reply version = if version == 2 ^ 64 - 1 then answer.Worn else answer.Version (version + 1)

-- an object that is here and is to be changed: pinned, where it has pins
abbrev pub change_reply : ℕ → ℕ → Reply
change_reply w version =
    if pins_of w == 0 then next_reply version else answer.Pinned (pins_of w)

-- a read, by pointer word, version word and memory words
abbrev pub read_reply : ℕ → ℕ → List ℕ → Reply
read_reply w version words =
    reply_as (state_of w) version (answer.Bytes version (bytes_in words (len_of w)))

-- a write of so many bytes from the byte number `at` on
abbrev pub write_reply : ℕ → ℕ → ℕ → ℕ → Reply
write_reply w version at count = reply_as (state_of w) version
    (if nat_lt (len_of w) (at + count) then answer.Range (len_of w) else change_reply w version)

-- a free, by the state of the pointer word: a far object is freed too
abbrev pub free_as : State → ℕ → Reply → Reply
free_as word.Far version here = next_reply version
free_as state version here = reply_as state version here

-- a free
abbrev pub free_reply : ℕ → ℕ → Reply
free_reply w version = free_as (state_of w) version (change_reply w version)
