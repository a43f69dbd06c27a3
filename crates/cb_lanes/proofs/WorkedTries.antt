-- Worked answers at which the calls of a lane stop trying, and what breaks each part alone.
use Rattle.std.proofs.Common.{[]}
use Rattle.cb_types.specs.declared.answer.Answer.{Answer}
use Rattle.cb_types.specs.declared.reply.Reply.TheVariants.{Moving, NoRoom, Worn}
use Rattle.cb_types.specs.declared.request.Request.TheVariants.{Filter, Make, Read}
use Rattle.cb_lanes.specs.LastTries.{EndsTries, HasLastTry, IsLastTry}

-- ---- by the reply
too_little_room : EndsTries (NoRoom 363 1 4)
too_little_room = tt

another : EndsTries Worn
another = tt

an_object_that_is_being_moved : EndsTries Moving → ⊥
an_object_that_is_being_moved ends = ends

-- ---- by the line
a_make : IsLastTry (Make [] []) (NoRoom 364 1 4)
a_make = tt

a_read : IsLastTry (Read []) Moving → ⊥
a_read last = last

a_filter_is_not_made_again : IsLastTry (Filter []) Moving
a_filter_is_not_made_again = tt

-- ---- of an answer
abbrev moving : Answer
moving = record {
  lane = record { n = 1 };
  line = 3;
  request = Read [];
  reply = Moving;
}

answered : HasLastTry (record moving { reply = Worn })
answered = tt

not_so_answered : HasLastTry moving → ⊥
not_so_answered last = last

not_as_another_line : HasLastTry (record moving { request = Filter [] })
not_as_another_line = tt
