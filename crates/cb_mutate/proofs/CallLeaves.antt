-- What a make and a free leave of the words of sets. A read and a write leave the far state.
use Rattle.std.proofs.Common.{◌≡◌, ℕ, ◌+◌, List, refl, sym, ap, subst, arith}
use Rattle.cb_ptr.specs.declared.word.State.{State}
use Rattle.cb_ptr.specs.declared.word.State.TheVariants as state
use Rattle.cb_ptr.specs.Word.{state_of}
use Rattle.cb_set.specs.SetState.{position_of, without_object}
use Rattle.cb_types.specs.declared.reply.Reply.{Reply}
use Rattle.cb_types.specs.declared.reply.Reply.TheVariants as answer
use Rattle.cb_world.specs.declared.access.Access.{Access}
use Rattle.cb_world.specs.declared.shown.Shown.{Shown}
use Rattle.cb_world.specs.FarState.{FarState}
use Rattle.cb_world.specs.LeftOver.{nodes_left, set_without, without_far}
use Rattle.cb_world.specs.Orders.{LeavesWords}
use Rattle.cb_world.specs.Released.{with_released}
use Rattle.cb_world.specs.Sound.{Sound}
use Rattle.cb_world.proofs.Laws.{alike_leaves_words, left_leaves_words, words_stay}
use Rattle.cb_mutate.specs.FreeRule.{FreeFar, FreeRule, IsReleased, IsRemoved, LeavesPlace}
use Rattle.cb_mutate.specs.MakeRule.{MakeRule, with_made}

same_leaves : (far new : FarState) → new ≡ far → LeavesWords far new
same_leaves far new e = subst (LeavesWords far) (sym e) (words_stay far)

pub make_leaves_words : (handles : ℕ) (bytes : List ℕ) (far new : FarState) (r : Reply)
    (es : List Access) → MakeRule handles bytes far new r es → LeavesWords far new
make_leaves_words handles bytes far new (answer.Full n) es x = same_leaves far new x.2.0
make_leaves_words handles bytes far new answer.NoFrame es x = same_leaves far new x.2.0
make_leaves_words handles bytes far new (answer.Made h v) es x =
    subst (LeavesWords far) (sym x.1.state)
    (alike_leaves_words far (with_made far x.1.slot) refl refl refl refl (λ id p shard of. refl))
make_leaves_words handles bytes far new r es x = absurd x

-- an object in local memory, and a far one
released : (far new : FarState) (h : ℕ) → IsReleased far new h → LeavesWords far new
released far new h z = subst (LeavesWords far) (sym z.left)
    (alike_leaves_words far (with_released far z.frame z.slot z.span) refl refl refl refl
    (λ id p shard of. refl))

removed : (s : Shown) (far new : FarState) (h : ℕ) → Sound s far → IsRemoved far new h
    → LeavesWords far new
removed s far new h sound z =
    let e : far.nodes.given ≡ far.nodes.given + 0 = omega arith in
    subst (LeavesWords far) (sym z.left)
    (left_leaves_words s far (without_far far h z.home z.set) z.home.set z.home.position 0 z.set
    (without_object (position_of z.set z.home.position) z.home.slot) sound.away.sound z.lies.there
    refl
    (ap (λ (n : ℕ). nodes_left (record far.nodes { given = n }) (set_without z.set z.home)) e)
    refl refl refl)

leaves : (q : State) (s : Shown) (far new : FarState) (h : ℕ) → Sound s far
    → LeavesPlace q far new h → LeavesWords far new
leaves state.Here s far new h sound z = released far new h z
leaves state.Far s far new h sound z = removed s far new h sound z
leaves state.Empty s far new h sound z = absurd z
leaves state.Moving s far new h sound z = absurd z

pub free_leaves_words : (s : Shown) (h : ℕ) (far new : FarState) (r : Reply) (es : List Access)
    → Sound s far → FreeRule h far new r es → LeavesWords far new
free_leaves_words s h far new r es sound x = by r x.state
  where
    by : (q : Reply) → FreeFar x.reply.word h q far new → LeavesWords far new
    by (answer.Version n) z = leaves (state_of x.reply.word) s far new h sound z
    by q z = same_leaves far new z
