-- Which writes to a far object are declined before it is brought in.
use Rattle.std.specs.Prelude.{ℕ, ◌+◌, ◌-◌, ◌^◌, ◌==◌, nat_lt, Bool, Option, None, Some, if◌then◌else◌}
use Rattle.cb_types.specs.declared.reply.Reply.{Reply}
use Rattle.cb_types.specs.declared.reply.Reply.TheVariants as answer

-- a write of so many bytes from the byte number `at` on to a far object of this length and version:
-- one past its end, then one of an object with no next version
abbrev pub far_refusal : ℕ → ℕ → ℕ → ℕ → Option Reply
far_refusal len version at count =
    if nat_lt len (at + count) then Some (answer.Range len)
    else if version == 2 ^ 64 - 1 then Some answer.Worn
    else None

-- where the object's set is broken, its bringing in tells so
abbrev pub write_refusal : Bool → ℕ → ℕ → ℕ → ℕ → Option Reply
write_refusal lost len version at count =
    if lost then None else far_refusal len version at count
