-- Worked replies to lines of a roomy script in threads, and what breaks each part alone.
use Rattle.std.proofs.Common.{[]}
use Rattle.cb_types.specs.declared.reply.Reply.TheVariants.{Freed, Full, Moving, NoNodes, NoRoom, Unavailable, Worn}
use Rattle.cb_types.specs.declared.request.Request.TheVariants.{Evict, Filter, Make, Read, Write}
use Rattle.cb_app.specs.Calm.{IsCalmTo}

calm : IsCalmTo (Read []) Freed
calm = tt

-- an eviction may find too few nodes with room
an_eviction : IsCalmTo Evict (NoNodes 2)
an_eviction = tt

no_room : IsCalmTo (Make [] []) (NoRoom 364 1 6) → ⊥
no_room is = is

unavailable : IsCalmTo (Read []) (Unavailable (record { n = 0 }) []) → ⊥
unavailable is = is

full : IsCalmTo (Make [] []) (Full 16) → ⊥
full is = is

-- a filter line may find its object being moved, and no other line
filter_moving : IsCalmTo (Filter []) Moving
filter_moving = tt

read_moving : IsCalmTo (Read []) Moving → ⊥
read_moving is = is

-- no line is worn, a filter line neither
write_worn : IsCalmTo (Write [] 0 []) Worn → ⊥
write_worn is = is

filter_worn : IsCalmTo (Filter []) Worn → ⊥
filter_worn is = is
