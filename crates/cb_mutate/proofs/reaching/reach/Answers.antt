use Rattle.std.proofs.Common.{◌≡◌, ◌∷◌, sym, ap, ◌∙◌, subst}
use Rattle.cb_ptr.specs.declared.word.PtrWord.{PtrWord}
use Rattle.cb_ptr.specs.declared.word.State.TheVariants as state
use Rattle.cb_ptr.specs.Word.{state_of}
use Rattle.cb_world.specs.declared.access.Access.TheVariants.{Looked}
use Rattle.cb_world.specs.Played.{after}
use Rattle.cb_mutate.specs.Reaches.{grasp_of, HasReadRoom}
use Rattle.cb_mutate.proofs.Rooms.{grasps_more, room_stays}
use Rattle.cb_mutate.proofs.reaching.reach.Goals as goal

pub claim_with-requires-clause-shown : goal.claim_with-requires-clause-shown
claim_with-requires-clause-shown g c = let s = c.requires.shown in (
  after (Looked c.args.h.n c.word-saw.result) s.0,
  (g.met.D.Desk.follows _ _ _ s.0 c.word-saw.ensures s.1).1,
)

pub returns-in-Here-clause-reached : goal.returns-in-Here-clause-reached
returns-in-Here-clause-reached g c = let t = c.claim_with.ensures.reached in (
  Looked c.args.h.n c.word-saw.result ∷ t.0,
  g.met.D.Desk.more _ _ _ _ _ c.word-saw.ensures t.1,
  grasps_more c.args.h.n c.word-saw.result t.0 (grasp_of c.claim_with.result) t.2,
)

pub returns-in-Here-clause-room : goal.returns-in-Here-clause-room
returns-in-Here-clause-room g c =
    let t = c.claim_with.ensures.reached in let s = c.requires.shown in let saw = c.word-saw.result in
    let ran = g.met.D.Desk.more _ _ _ _ _ c.word-saw.ensures t.1 in
    let here : state_of saw ≡ state.Here =
    sym (ap (λ (p : PtrWord). p.state) c.unpack.ensures.fields) ∙ c.in-Here.is in
    subst (HasReadRoom (grasp_of c.claim_with.result)) (sym c.claim_with.ensures.room)
    (room_stays s.0 t.0 c.args.h.n saw (grasp_of c.claim_with.result) c.in_ok-room.room
    (g.met.D.Desk.follows _ _ (Looked c.args.h.n saw ∷ t.0) s.0 ran s.1).0 here
    (c.in_ok-room.ensures.room here) t.2)
