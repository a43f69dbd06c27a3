-- What a make and a free leave of the configured sizes and codes, and of what is counted.
use Rattle.std.proofs.Common.{ℕ, List, refl, sym, subst, arith, length-set}
use Rattle.cb_ptr.specs.declared.word.State.{State}
use Rattle.cb_ptr.specs.declared.word.State.TheVariants as state
use Rattle.cb_ptr.specs.Word.{state_of}
use Rattle.cb_set.specs.SetState.{position_of, without_object}
use Rattle.cb_types.specs.declared.config.Config.{Config}
use Rattle.cb_types.specs.declared.reply.Reply.{Reply}
use Rattle.cb_types.specs.declared.reply.Reply.TheVariants as answer
use Rattle.cb_world.specs.declared.access.Access.{Access}
use Rattle.cb_world.specs.FarState.{FarState}
use Rattle.cb_world.specs.LeftOver.{set_without}
use Rattle.cb_world.proofs.Laws.{KeepCodes, batch_has, codes_kept, codes_left, codes_stay, own_left, pair_stays, sets_have, left_count, left_given, left_note, left_room, IsLike, StaysIf, stays_like, stays_same}
use Rattle.cb_mutate.specs.FreeRule.{FreeFar, FreeRule, IsReleased, IsRemoved, LeavesPlace}
use Rattle.cb_mutate.specs.MakeRule.{MakeRule, with_made}

pub make_stays : (c : Config) (handles : ℕ) (bytes : List ℕ) (far new : FarState) (r : Reply)
    (es : List Access) → MakeRule handles bytes far new r es → StaysIf c 1 far new
make_stays c handles bytes far new (answer.Full n) es x =
    stays_same c 1 far new (omega arith) x.2.0
make_stays c handles bytes far new answer.NoFrame es x =
    stays_same c 1 far new (omega arith) x.2.0
make_stays c handles bytes far new (answer.Made h v) es x =
    stays_like c 1 far new (omega arith) (subst (IsLike far) (sym x.1.state) (record {
      spans = length-set far.spans x.1.slot.frame _;
      homes = refl;
      nodes = refl;
      room = refl;
      codes = codes_stay far (with_made far x.1.slot) refl refl refl refl;
      counts = refl;
      note = λ n e. e;
      epoch = omega arith;
      given = refl;
    }))
make_stays c handles bytes far new r es x = absurd x

-- an object in local memory, and a far one
released : (far new : FarState) (h : ℕ) → IsReleased far new h → IsLike far new
released far new h z = subst (IsLike far) (sym z.left) (record {
  spans = length-set far.spans z.frame _;
  homes = refl;
  nodes = refl;
  room = refl;
  codes = codes_stay far _ refl refl refl refl;
  counts = refl;
  note = λ n e. e;
  epoch = omega arith;
  given = refl;
})

removed : (far new : FarState) (h : ℕ) → IsRemoved far new h → IsLike far new
removed far new h z = subst (IsLike far) (sym z.left) (record {
  spans = refl;
  homes = length-set far.homes h _;
  nodes = left_count far.nodes (set_without z.set z.home);
  room = left_room far.nodes (set_without z.set z.home);
  codes = codes_kept far _ refl
      (codes_left far far.sets z.home.set z.home.position z.set
      (without_object (position_of z.set z.home.position) z.home.slot) z.lies.there (sets_have far))
      (batch_has far far.leaving refl) (pair_stays far far.joining refl)
      (own_left far.sets z.home.set z.home.position z.set
      (without_object (position_of z.set z.home.position) z.home.slot) z.lies.there);
  counts = refl;
  note = λ n e. left_note far z.home.set n (set_without z.set z.home) e;
  epoch = omega arith;
  given = left_given far.nodes (set_without z.set z.home);
})

leaves : (q : State) (far new : FarState) (h : ℕ) → LeavesPlace q far new h → IsLike far new
leaves state.Here far new h z = released far new h z
leaves state.Far far new h z = removed far new h z
leaves state.Empty far new h z = absurd z
leaves state.Moving far new h z = absurd z

-- a freed object's place: no other code comes up
pub place_codes : (q : State) (far new : FarState) (h : ℕ) → LeavesPlace q far new h
    → KeepCodes far new
place_codes q far new h z = (leaves q far new h z).codes

pub free_stays : (c : Config) (h : ℕ) (far new : FarState) (r : Reply) (es : List Access)
    → FreeRule h far new r es → StaysIf c 1 far new
free_stays c h far new r es x = by r x.state
  where
    by : (q : Reply) → FreeFar x.reply.word h q far new → StaysIf c 1 far new
    by (answer.Version n) z =
        stays_like c 1 far new (omega arith) (leaves (state_of x.reply.word) far new h z)
    by q z = stays_same c 1 far new (omega arith) z
