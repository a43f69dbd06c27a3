-- A make for which room is won, and an eviction, as parts of a turn.
use Rattle.std.proofs.Common.{◌≡◌, ℕ, suc, ◌<◌, List, refl, sym, subst, inl, inr, arith}
use Rattle.cb_types.specs.declared.request.Request.{Request}
use Rattle.cb_types.specs.declared.request.Request.TheVariants.{Make, Evict}
use Rattle.cb_types.specs.declared.reply.Reply.{Reply}
use Rattle.cb_types.specs.declared.reply.Reply.TheVariants as answer
use Rattle.cb_types.specs.Table.{IsReplyOf}
use Rattle.cb_world.specs.declared.shown.Shown.{Shown}
use Rattle.cb_world.specs.FarState.{FarState}
use Rattle.cb_world.specs.Plain.{Words}
use Rattle.cb_world.specs.World.{IsKnown}
use Rattle.cb_evict.specs.declared.eviction.Eviction.TheVariants.{Refused, Set}
use Rattle.cb_evict.specs.EvictStep.{IsEvictStep, few_spans, few_nodes, made}
use Rattle.cb_mutate.specs.MakeStep.{IsMakeStep}
use Rattle.cb_mutate.specs.MapCalls.{IsMakeCall}
use Rattle.cb_mutate.proofs.Laws.{make_call}
use Rattle.cb_core.specs.Parts.{Holding, WithRoom, at_once, no_room, won}
use Rattle.cb_core.specs.Step.{StillMake, StillRoom}
use Rattle.cb_core.proofs.TurnCallsKept.{same_holding, kept_room}
use Rattle.cb_core.proofs.TurnCallsMap.{map_stays, make_carried}
use Rattle.cb_core.proofs.TurnCallsWhere.{kept_map}

-- the make is the map's, and the reply is one of the line's
pub record IsMakeAnswered (handles : ℕ) (s t : Shown) (far new : FarState) (q : Request) (r : Reply)
    : Type 0 where
  pub call : IsMakeCall handles s t far new q r
  pub line : IsReplyOf q r

-- where there is no frame for an object, not all handles were made, and nothing is done
pub make_crammed : (x y : Words) (far new : FarState) (bytes : List ℕ)
    → IsMakeStep x y far new bytes answer.NoFrame
    → (far.made < x.settings.handles) × (y ≡ x) × (new ≡ far)
make_crammed x y far new bytes (inl (full, is, same, left)) = absurd (full_crammed is)
  where
    full_crammed : answer.NoFrame ≡ answer.Full x.settings.handles → ⊥
    full_crammed e = cc
make_crammed x y far new bytes (inr (more, inl (class, is, same, left))) = (more, same, left)
make_crammed x y far new bytes (inr (more, inr (is, z))) = absurd (made_crammed is)
  where
    made_crammed : answer.NoFrame ≡ answer.Made (record { n = far.made }) far.first → ⊥
    made_crammed e = cc

make_line : (x y : Words) (far new : FarState) (bytes name : List ℕ) (r : Reply)
    → IsMakeStep x y far new bytes r → (r ≡ answer.NoFrame → ⊥) → IsReplyOf (Make name bytes) r
make_line x y far new bytes name r (inl (full, is, same, left)) never =
    subst (IsReplyOf (Make name bytes)) (sym is) tt
make_line x y far new bytes name r (inr (more, inl (class, is, same, left))) never = absurd (never is)
make_line x y far new bytes name r (inr (more, inr (is, z))) never =
    subst (IsReplyOf (Make name bytes)) (sym is) tt

pub make_answered : (bytes name : List ℕ) (frames left : ℕ) (a b : Holding Words) (s t : Shown)
    (r : Reply) → IsKnown a.desk a.far s → IsKnown b.desk b.far t
    → WithRoom frames (StillMake bytes) StillRoom left a r b
    → IsMakeAnswered a.desk.settings.handles s t a.far b.far (Make name bytes) r
make_answered bytes name frames left a b s t r before after (at_once c never) =
    record {
      call = make_call a.desk b.desk a.far b.far s t bytes name r
          (record { before = before; afterwards = after }) c;
      line = make_line a.desk b.desk a.far b.far bytes name r c never;
    }
make_answered bytes name frames left a b s t r before after (no_room m why loose nodes c evict e) =
    let none = make_crammed a.desk m.desk a.far m.far bytes c in
    let kept = kept_room a b (Refused why loose nodes) s before
    (subst (λ (x : Holding Words). StillRoom x (Refused why loose nodes) b)
    (same_holding a m none.1 none.2) evict) in
    let same = kept_map a b s t kept after in
    subst (IsMakeAnswered a.desk.settings.handles s t a.far b.far (Make name bytes)) (sym e)
    (record {
      call = inr (record {
        reply = λ m. none.0;
        silent = refl;
        others = same.now;
        counted = omega (arith, same.made);
      });
      line = tt;
    })
make_answered bytes name frames (suc fewer) a b s t r before after (won m n id c evict again) =
    let none = make_crammed a.desk m.desk a.far m.far bytes c in
    let kept = kept_room a n (Set id) s before
    (subst (λ (x : Holding Words). StillRoom x (Set id) n) (same_holding a m none.1 none.2) evict) in
    let rest = make_answered bytes name frames fewer n b kept.shown t r kept.known after again in
    record {
      call = make_carried a.desk.settings.handles s kept.shown t t a.far n.far b.far b.far
          (Make name bytes) r
          (kept_map a n s kept.shown kept kept.known) (map_stays t b.far)
          (subst (λ c. IsMakeCall c.handles kept.shown t n.far b.far (Make name bytes) r)
          kept.words.settings rest.call);
      line = rest.line;
    }

-- an eviction is answered the set that it made, or why it made none
pub evict_line : (x y : Words) (far new : FarState) (r : Reply) → IsEvictStep x y far new r
    → IsReplyOf Evict r
evict_line x y far new r (few_spans z same) = subst (IsReplyOf Evict) (sym z.reply) tt
evict_line x y far new r (few_nodes z same) = subst (IsReplyOf Evict) (sym z.reply) tt
evict_line x y far new r (made z) = subst (IsReplyOf Evict) (sym z.reply) tt
