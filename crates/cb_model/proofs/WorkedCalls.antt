-- The map's replies at worked values, and replies that it does not give.
use Rattle.std.proofs.Common.{◌≡◌, [], ◌∷◌, Some, refl, ap, arith}
use Rattle.cb_types.specs.declared.handle.Handle.{Handle}
use Rattle.cb_model.specs.declared.object.Object.TheVariants.{Held, Freed}
use Rattle.cb_model.specs.declared.call.Call.TheVariants.{Make, Read, Write, Free}
use Rattle.cb_model.specs.declared.call.MapReply.TheVariants as reply
use Rattle.cb_types.specs.declared.request.Request.TheVariants.{Pin as PinLine}
use Rattle.cb_types.specs.declared.reply.Reply.TheVariants.{ScopeFull, Moving}
use Rattle.cb_model.specs.Event.{event_of}
use Rattle.cb_model.specs.Now.{overwritten}
use Rattle.cb_model.specs.Replies.{MapReplies}
use Rattle.cb_model.specs.Map.{Map, Replies, IsPossible}

-- the middle byte of three is replaced
middle : overwritten (1 ∷ 2 ∷ 3 ∷ []) 1 (9 ∷ []) ≡ 1 ∷ 9 ∷ 3 ∷ []
middle = refl

-- no byte behind the last
nothing : overwritten (1 ∷ 2 ∷ []) 2 [] ≡ 1 ∷ 2 ∷ []
nothing = refl

abbrev handle : Handle
handle = record { n = 0 }

-- one object, and one handle more
abbrev one : Map
one = record { handles = 2; objects = Held 3 (1 ∷ 2 ∷ []) ∷ [] }

abbrev gone : Map
gone = record { handles = 2; objects = Freed 4 ∷ [] }

abbrev full : Map
full = record { handles = 1; objects = Held 3 (1 ∷ 2 ∷ []) ∷ [] }

a_make : Replies one (Make (7 ∷ [])) (reply.Made (record { n = 1 }) 1) (record { handles = 2; objects = Held 3 (1 ∷ 2 ∷ []) ∷ Held 1 (7 ∷ []) ∷ [] })
a_make = record { answer = (refl, omega arith, refl); effect = refl }

a_make_at_a_handle_again : (new : Map) → Replies one (Make (7 ∷ [])) (reply.Made handle 1) new → ⊥
a_make_at_a_handle_again new is = absurd (let e = is.answer.0 in cc)

a_make_at_version_2 : (new : Map)
    → Replies one (Make (7 ∷ [])) (reply.Made (record { n = 1 }) 2) new → ⊥
a_make_at_version_2 new is = absurd (let e = is.answer.2 in cc)

all_made : Replies full (Make (7 ∷ [])) (reply.Full 1) full
all_made = record { answer = (refl, refl); effect = refl }

full_one_too_early : Replies one (Make (7 ∷ [])) (reply.Full 2) one → ⊥
full_one_too_early is = absurd (let e = is.answer.0 in cc)

a_make_past_the_last_handle : (new : Map)
    → Replies full (Make (7 ∷ [])) (reply.Made (record { n = 1 }) 1) new → ⊥
a_make_past_the_last_handle new is = absurd (let lt = is.answer.1 in omega (arith, lt))

a_write : Replies one (Write handle 1 (9 ∷ [])) (reply.Version 4) (record { handles = 2; objects = Held 4 (1 ∷ 9 ∷ []) ∷ [] })
a_write = record { answer = (omega arith, refl); effect = refl }

a_write_of_no_bytes_at_the_end : Replies one (Write handle 2 []) (reply.Version 4) (record { handles = 2; objects = Held 4 (1 ∷ 2 ∷ []) ∷ [] })
a_write_of_no_bytes_at_the_end = record { answer = (omega arith, refl); effect = refl }

a_write_that_keeps_the_version : (new : Map)
    → Replies one (Write handle 1 (9 ∷ [])) (reply.Version 3) new → ⊥
a_write_that_keeps_the_version new is = absurd (let e = is.answer.1 in cc)

a_write_past_the_end : Replies one (Write handle 2 (9 ∷ [])) (reply.Range 2) one
a_write_past_the_end = record { answer = (omega arith, refl); effect = refl }

a_write_that_lengthens : (new : Map) → Replies one (Write handle 2 (9 ∷ [])) (reply.Version 4) new
    → ⊥
a_write_that_lengthens new is = absurd (let le = is.answer.0 in omega (arith, le))

a_range_within : (new : Map) → Replies one (Write handle 1 (9 ∷ [])) (reply.Range 2) new → ⊥
a_range_within new is = absurd (let lt = is.answer.0 in omega (arith, lt))

a_free : Replies one (Free handle) (reply.Version 4) gone
a_free = record { answer = refl; effect = refl }

a_free_that_keeps_the_bytes : Replies one (Free handle) (reply.Version 4) (record { handles = 2; objects = Held 4 (1 ∷ 2 ∷ []) ∷ [] })
    → ⊥
a_free_that_keeps_the_bytes is = absurd (let e = ap (λ (m : Map). m.objects) is.effect in cc)

freed_comes_before_range : (new : Map)
    → Replies gone (Write handle 2 (9 ∷ [])) (reply.Range 2) new → ⊥
freed_comes_before_range new is = is.answer

freed_for_good : Replies gone (Write handle 2 (9 ∷ [])) reply.Freed gone
freed_for_good = record { answer = tt; effect = refl }

freed_with_no_free : (new : Map) → Replies one (Read handle) reply.Freed new → ⊥
freed_with_no_free new is = is.answer

a_read : Replies one (Read handle) (reply.Bytes 3 (1 ∷ 2 ∷ [])) one
a_read = record { answer = (refl, refl); effect = refl }

a_read_of_other_bytes : (new : Map) → Replies one (Read handle) (reply.Bytes 3 (1 ∷ [])) new → ⊥
a_read_of_other_bytes new is = absurd (let e = is.answer.1 in cc)

a_read_at_another_version : (new : Map)
    → Replies one (Read handle) (reply.Bytes 2 (1 ∷ 2 ∷ [])) new → ⊥
a_read_at_another_version new is = absurd (let e = is.answer.0 in cc)

never_made : Replies one (Read (record { n = 1 })) reply.Unmade one
never_made = record { answer = tt; effect = refl }

unmade_for_a_made_handle : (new : Map) → Replies one (Read handle) reply.Unmade new → ⊥
unmade_for_a_made_handle new is = is.answer

-- the last version has none above it
at_the_last_version : IsPossible (record { handles = 1; objects = Held 0xFFFFFFFFFFFFFFFF (1 ∷ []) ∷ [] }) (Free handle)
    → ⊥
at_the_last_version possible = absurd (let lt = possible.1 in omega (arith, lt))

-- a pin that a full scope refused may be on an object that was freed
full_scope_of_a_freed_object : MapReplies 1 2 1 (Some 0) (Some (Freed 4)) (event_of (PinLine []) ScopeFull)
full_scope_of_a_freed_object = tt

-- but not one that finds it moving
no_move_of_a_freed_object : MapReplies 1 2 1 (Some 0) (Some (Freed 4)) (event_of (PinLine []) Moving) → ⊥
no_move_of_a_freed_object replies = replies
