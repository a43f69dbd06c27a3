-- An object that was seen here has one length for as long as it is known.
use Rattle.std.proofs.Common.{◌≡◌, ℕ, List, [], ◌∷◌, Result, Ok, Err, length, refl, sym, ap, ◌∙◌, subst}
use Rattle.std.specs.Prelude.{OnErr}
use Rattle.cb_member.specs.declared.no_memory.NoMemory.{NoMemory}
use Rattle.cb_types.specs.declared.reply.Reply.{Reply}
use Rattle.cb_ptr.specs.declared.word.State.TheVariants as state
use Rattle.cb_ptr.specs.Word.{state_of, len_of, place_of}
use Rattle.cb_world.specs.declared.access.Access.{Access}
use Rattle.cb_world.specs.declared.access.Access.TheVariants.{Looked, Claimed}
use Rattle.cb_world.specs.declared.grasp.Grasp.{Grasp}
use Rattle.cb_world.specs.declared.grasp.Grasp.TheVariants as came
use Rattle.cb_world.specs.declared.object.Object.{Object}
use Rattle.cb_world.specs.declared.object.Object.TheVariants as is
use Rattle.cb_world.specs.declared.shown.Shown.{Shown}
use Rattle.cb_world.specs.Shown.{Fits, object_at}
use Rattle.cb_world.specs.Looks.{AreLooks}
use Rattle.cb_world.specs.Played.{Agree, played}
use Rattle.cb_world.specs.Grasped.{Grasps}
use Rattle.cb_world.proofs.Laws.{agree_last, looks_played}
use Rattle.cb_mutate.specs.Reaches.{HasReadRoom}
use Rattle.cb_mutate.proofs.ReadSound.{fits_here}

-- what holds anyhow holds on an error
pub on_err_so : {P : Type 0} (r : Result Reply NoMemory) → P → OnErr r P
on_err_so (Ok reply) p = tt
on_err_so (Err e) p = p

-- a try behind one look more
pub grasps_more : (h saw : ℕ) (es : List Access) (grasp : Grasp) → Grasps h es grasp
    → Grasps h (Looked h saw ∷ es) grasp
grasps_more h saw es (came.Claimed w) (before, v, words, e, looks, free) =
    (Looked h saw ∷ before, v, words, ap (λ (l : List Access). Looked h saw ∷ l) e, (refl, looks), free)
grasps_more h saw es (came.Left w) (before, e, looks, busy) =
    (Looked h saw ∷ before, ap (λ (l : List Access). Looked h saw ∷ l) e, (refl, looks), busy)

abbrev len_in : Object → ℕ
len_in (is.Here len place) = len
len_in o = 0

-- what is known of the object is the same behind looks
object_behind : (s : Shown) (h : ℕ) (looks : List Access) → AreLooks h looks
    → object_at (played looks s) h ≡ object_at s h
object_behind s h looks are = ap (λ (t : Shown). object_at t h) (looks_played h looks s are).2

-- the room for an object that was seen here is the room for what the try found
pub room_stays : (s : Shown) (es : List Access) (h saw : ℕ) (grasp : Grasp) (room : List ℕ)
    → Agree s (Looked h saw ∷ es) → state_of saw ≡ state.Here → length room ≡ len_of saw
    → Grasps h es grasp → HasReadRoom grasp room
room_stays s es h saw (came.Claimed w) room agree here sized (before, v, words, e, looks, free) =
    let object = fits_here (object_at s h) saw agree.0.0 here in
    let last : Agree (played (Looked h saw ∷ before) s) (Claimed h w v words ∷ []) =
    agree_last (Looked h saw ∷ before) (Claimed h w v words ∷ []) s
    (subst (λ (l : List Access). Agree s (Looked h saw ∷ l)) e agree) in
    sized ∙ ap len_in (sym object ∙ sym (object_behind s h (Looked h saw ∷ before) (refl, looks))
    ∙ last.0.0)
room_stays s es h saw (came.Left w) room agree here sized (before, e, looks, busy) =
    let object = fits_here (object_at s h) saw agree.0.0 here in
    let last : Agree (played (Looked h saw ∷ before) s) (Looked h w ∷ []) =
    agree_last (Looked h saw ∷ before) (Looked h w ∷ []) s
    (subst (λ (l : List Access). Agree s (Looked h saw ∷ l)) e agree) in
    let fits : Fits (is.Here (len_of saw) (place_of saw)) w = subst (λ (o : Object). Fits o w)
    (object_behind s h (Looked h saw ∷ before) (refl, looks) ∙ object) last.0.0 in
    λ again. sized ∙ sym fits.1
