-- A call on an object wherever it is.
use Rattle.std.proofs.Common.{◌≡◌, ℕ, true, false, ◌<◌, List, length, Option, Some, None, sym, ◌∙◌, subst, arith}
use Rattle.cb_member.specs.declared.names.Loss.{Loss}
use Rattle.cb_ptr.specs.declared.word.State.TheVariants as state
use Rattle.cb_ptr.specs.Word.{state_of}
use Rattle.cb_types.specs.declared.handle.SetId.{SetId}
use Rattle.cb_types.specs.declared.request.Request.{Request}
use Rattle.cb_types.specs.declared.reply.Reply.{Reply}
use Rattle.cb_types.specs.declared.reply.Reply.TheVariants as answer
use Rattle.cb_types.specs.Table.{IsReplyOf}
use Rattle.cb_model.specs.Event.{event_of}
use Rattle.cb_model.specs.Event.Subject.{Contents}
use Rattle.cb_model.specs.Event.Event.{Refused}
use Rattle.cb_world.specs.declared.shown.Shown.{Shown}
use Rattle.cb_world.specs.FarState.{FarState}
use Rattle.cb_world.specs.Now.{is_gone}
use Rattle.cb_world.specs.Plain.{Words}
use Rattle.cb_world.specs.World.{IsKnown, word_at}
use Rattle.cb_mutate.specs.MapCalls.{IsCallOn}
use Rattle.cb_core.specs.Parts.{Holding, WhereItIs, near, declined, stays_far, brought}
use Rattle.cb_core.specs.Step.{StillBring}
use Rattle.cb_core.proofs.TurnCallsKept.{HasKept, kept_all, kept_bring, known_same}
use Rattle.cb_core.proofs.TurnCallsFar.{BringEnds, came, broke, crammed, bring_ends}
use Rattle.cb_core.proofs.TurnCallsMap.{IsSameMap, map_stays, call_carried, far_refused}

-- the call is the map's, and the reply is one of the line's
pub record IsCallAnswered (handles : ℕ) (s t : Shown) (far new : FarState) (h : ℕ) (q : Request) (r : Reply)
    : Type 0 where
  pub call : IsCallOn handles s t far new h q r
  pub line : IsReplyOf q r

-- what is refused of the contents of an object where there is no room for it, or it is lost
pub record IsRefusable (q : Request) : Type 0 where
  pub no_room : (frames loose nodes : ℕ) → event_of q (answer.NoRoom frames loose nodes) ≡ Refused Contents
  pub unavailable : (id : SetId) (l : List Loss) → event_of q (answer.Unavailable id l) ≡ Refused Contents
  pub room_line : (frames loose nodes : ℕ) → IsReplyOf q (answer.NoRoom frames loose nodes)
  pub lost_line : (id : SetId) (l : List Loss) → IsReplyOf q (answer.Unavailable id l)

-- A call on an object and the look at one that is far, as the parts of a turn for a request.
pub record IsCallWithLook (call : Holding Words → Reply → Holding Words → Type 0)
    (look : Holding Words → Option Reply → Holding Words → Type 0) (h : ℕ) (q : Request) : Type 0 where
  -- an object is not here exactly where its word is far, and then nothing changes
  pub nothing : (a b : Holding Words) → call a answer.NotHere b → b ≡ a
  pub away : (a b : Holding Words) → call a answer.NotHere b → state_of (word_at a.desk h) ≡ state.Far
  pub far : (a b : Holding Words) (r : Reply) → call a r b → state_of (word_at a.desk h) ≡ state.Far
      → r ≡ answer.NotHere
  pub here : (a b : Holding Words) (r : Reply) → call a r b → state_of (word_at a.desk h) ≡ state.Here
      → r ≡ answer.NotHere → ⊥
  -- and else the call is the map's
  pub is : (a b : Holding Words) (s t : Shown) (r : Reply) → IsKnown a.desk a.far s
      → IsKnown b.desk b.far t → h < length a.desk.words → call a r b
      → IsCallOn a.desk.settings.handles s t a.far b.far h q r
  pub line : (a b : Holding Words) (r : Reply) → call a r b → (r ≡ answer.NotHere → ⊥) → IsReplyOf q r
  pub whole : (a b : Holding Words) (id : SetId) (l : List Loss) → call a (answer.Unavailable id l) b → ⊥
  -- a look changes nothing, and where it declines the call, that is the map's
  pub looks : (a b : Holding Words) (o : Option Reply) → look a o b → b ≡ a
  pub declines : (a b : Holding Words) (s : Shown) (r : Reply) → IsKnown a.desk a.far s
      → h < length a.desk.words → state_of (word_at a.desk h) ≡ state.Far → look a (Some r) b
      → IsCallAnswered a.desk.settings.handles s s a.far a.far h q r
  pub not_lost : (a b : Holding Words) (id : SetId) (l : List Loss)
      → look a (Some (answer.Unavailable id l)) b → ⊥
  pub lost : (a b : Holding Words) (r : Reply) → is_gone a.far h ≡ true → look a (Some r) b → ⊥

-- what was kept is the same map, by all that is known afterwards
pub kept_map : (a b : Holding Words) (s t : Shown) → HasKept a b s → IsKnown b.desk b.far t
    → IsSameMap s t a.far b.far
kept_map a b s t k then = record {
  now = λ h. known_same b.desk b.far k.shown t h k.known then ∙ k.same_now h;
  first = λ i. (k.made i).0;
  made = λ i. (k.made i).1;
}

pub within : (a : Holding Words) (s : Shown) (h : ℕ) → IsKnown a.desk a.far s
    → h < a.desk.settings.handles → h < length a.desk.words
within a s h k below = let n = k.sized.words in omega (arith, below, n)

swapped_lost : (f : ℕ) (id : SetId) (l : List Loss) → answer.Swapped f ≡ answer.Unavailable id l → ⊥
swapped_lost f id l e = cc

swapped_crammed : (f a b c : ℕ) → answer.Swapped f ≡ answer.NoRoom a b c → ⊥
swapped_crammed f a b c e = cc

module _ (call : Holding Words → Reply → Holding Words → Type 0)
    (look : Holding Words → Option Reply → Holding Words → Type 0) (h : ℕ) (q : Request)
    (part : IsCallWithLook call look h q) where
  -- a far object that could not be brought in
  far_stays : (a b : Holding Words) (s t : Shown) (r : Reply) → IsRefusable q
      → IsKnown a.desk a.far s → IsKnown b.desk b.far t → h < a.desk.settings.handles
      → state_of (word_at a.desk h) ≡ state.Far → StillBring h a r b
      → ((f : ℕ) → r ≡ answer.Swapped f → ⊥)
      → IsCallAnswered a.desk.settings.handles s t a.far b.far h q r
  far_stays a b s t r refusable before then below away bring never =
      by (bring_ends a b h r s before bring)
    where
      same : IsSameMap s t a.far b.far
      same = kept_map a b s t (kept_bring a b h r s before bring) then

      C : Reply → Type 0
      C p = IsCallAnswered a.desk.settings.handles s t a.far b.far h q p

      refused : (p : Reply) → event_of q p ≡ Refused Contents → IsReplyOf q p → C p
      refused p event line = record {
        call = far_refused a.desk s t a.far b.far h a.desk.settings.handles q p before
            (within a s h before below) away event same;
        line = line;
      }

      by : BringEnds a b h r → C r
      by (came f e whole here) = absurd (never f e)
      by (broke id l e lost) = subst C (sym e)
          (refused (answer.Unavailable id l) (refusable.unavailable id l) (refusable.lost_line id l))
      by (crammed frames loose nodes e whole) = subst C (sym e)
          (refused (answer.NoRoom frames loose nodes) (refusable.no_room frames loose nodes)
          (refusable.room_line frames loose nodes))

  -- what came in is here
  came_here : (a o : Holding Words) (s : Shown) (f : ℕ) → IsKnown a.desk a.far s
      → StillBring h a (answer.Swapped f) o
      → (state_of (word_at o.desk h) ≡ state.Here) × (is_gone a.far h ≡ false)
  came_here a o s f before bring = by (bring_ends a o h (answer.Swapped f) s before bring)
    where
      by : BringEnds a o h (answer.Swapped f)
          → (state_of (word_at o.desk h) ≡ state.Here) × (is_gone a.far h ≡ false)
      by (came g e whole here) = (here, whole)
      by (broke id l e lost) = absurd (swapped_lost f id l e)
      by (crammed frames loose nodes e whole) = absurd (swapped_crammed f frames loose nodes e)

  -- Wherever the object is, the call is the map's, and its reply is one of the line's.
  pub where_answered : (a b : Holding Words) (s t : Shown) (r : Reply) → IsRefusable q
      → IsKnown a.desk a.far s → IsKnown b.desk b.far t
      → h < a.desk.settings.handles → WhereItIs call look (StillBring h) a r b
      → IsCallAnswered a.desk.settings.handles s t a.far b.far h q r
  where_answered a b s t r refusable before then below (near c never) =
      record {
        call = part.is a b s t r before then (within a s h before below) c;
        line = part.line a b r c never;
      }
  where_answered a b s t r refusable before then below (declined m c l) =
      let back = part.nothing a m c in
      let look_a = subst (λ (x : Holding Words). look x (Some r) b) back l in
      let same = part.looks a b (Some r) look_a in
      let d = part.declines a b s r before (within a s h before below) (part.away a m c) look_a in
      let kept = subst (λ (x : Holding Words). HasKept a x s) (sym same) (kept_all a s before) in
      record {
        call = call_carried a.desk.settings.handles s s s t a.far a.far a.far b.far q r
            (map_stays s a.far) (kept_map a b s t kept then) h d.call;
        line = d.line;
      }
  where_answered a b s t r refusable before then below (stays_far m n c l bring never) =
      let back = part.looks m n None l ∙ part.nothing a m c in
      far_stays a b s t r refusable before then below (part.away a m c)
      (subst (λ (x : Holding Words). StillBring h x r b) back bring) never
  where_answered a b s t r refusable before then below (brought m n o f c l bring again) =
      let back = part.looks m n None l ∙ part.nothing a m c in
      let came_in = subst (λ (x : Holding Words). StillBring h x (answer.Swapped f) o) back bring in
      let kept = kept_bring a o h (answer.Swapped f) s before came_in in
      let here = (came_here a o s f before came_in).0 in
      let line = part.line o b r again (part.here o b r again here) in
      let settings = kept.words.settings in
      let below_o : h < o.desk.settings.handles = subst (λ c. h < c.handles) (sym settings) below in
      let one = part.is o b kept.shown t r kept.known then (within o kept.shown h kept.known below_o) again in
      record {
        call = call_carried a.desk.settings.handles s kept.shown t t a.far o.far b.far b.far q r
            (kept_map a o s kept.shown kept kept.known) (map_stays t b.far) h
            (subst (λ c. IsCallOn c.handles kept.shown t o.far b.far h q r) settings one);
        line = line;
      }
