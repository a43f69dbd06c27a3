-- What a swap-in comes to: its answers, the far state after it, and its effect.
use Rattle.std.proofs.Common.{◌≡◌, ℕ, Bool, true, false, Bor, List, Option, Some, None, if◌then◌else◌, length, set, refl, sym, ap, ◌∙◌, subst, []}
use Rattle.cb_class.specs.Class.{pages_of}
use Rattle.cb_frame.specs.FreeFrames.{with_run_taken}
use Rattle.cb_frame.specs.Runs.{least_run}
use Rattle.cb_member.specs.declared.names.Loss.{Loss}
use Rattle.cb_set.specs.SetState.{SetState, dead_position, position_of, with_position}
use Rattle.cb_set.specs.Lost.{lost}
use Rattle.cb_span.specs.declared.temp.Temp.TheVariants.{Hot}
use Rattle.cb_span.specs.Contents.{Contents, span_of}
use Rattle.cb_types.specs.declared.reply.Reply.{Reply}
use Rattle.cb_types.specs.declared.reply.Reply.TheVariants as answer
use Rattle.cb_world.specs.declared.access.Access.{Access}
use Rattle.cb_world.specs.declared.homes.Home.{Home}
use Rattle.cb_world.specs.declared.shown.Shown.{Shown}
use Rattle.cb_world.specs.SetWord.{is_broken}
use Rattle.cb_world.specs.FarState.{FarState}
use Rattle.cb_world.specs.LeftOver.{nodes_left, sets_left, survey_left}
use Rattle.cb_world.specs.Written.{Writes}
use Rattle.cb_swapin.specs.Named.{AreCleared}
use Rattle.cb_world.specs.declared.survey.Survey.{Survey}
use Rattle.cb_world.proofs.Laws.{left_whole}
use Rattle.cb_swapin.specs.BroughtIn.{IsSpanBrought}
use Rattle.cb_swapin.specs.Fetching.{IsAtHand, IsFetched, far_given, losses_told}
use Rattle.cb_swapin.specs.SwapRule.{IsSwappedTo, frame_answer, swap_answer}
use Rattle.cb_swapin.specs.SwapEffect.{IsSwappedIn}
use Rattle.cb_swapin.proofs.Waits.{CanArrive}
use Rattle.cb_swapin.proofs.Arrived.{HasArrived}
use Rattle.cb_swapin.proofs.SwapSound.{now_arrived}

-- ---- the answers
abbrev losses_by : Bool → FarState → SetState → Option (List Loss)
losses_by b far set = if b then Some (lost far.members set.shards) else None

abbrev answer_by : Bool → FarState → ℕ → SetState → Reply
answer_by b far id set =
    if b
    then answer.Unavailable (record { n = id }) (lost far.members set.shards)
    else frame_answer (least_run far.frames set.pages)

losses_same : (a b : List Loss) → Some a ≡ Some b → a ≡ b
losses_same a b e = cc

none_some : (a : List Loss) → None ≡ Some a → ⊥
none_some a e = cc

-- a set that has lost too much is answered with what it lost
pub unavailable : (far : FarState) (id : ℕ) (set : SetState) (l : List Loss)
    → losses_told far set ≡ Some l
    → answer.Unavailable (record { n = id }) l ≡ swap_answer far id set
unavailable far id set l e = by (is_broken far.members set) refl
  where
    by : (b : Bool) → is_broken far.members set ≡ b
        → answer.Unavailable (record { n = id }) l ≡ swap_answer far id set
    by true is =
        ap (λ (x : List Loss). answer.Unavailable (record { n = id }) x)
        (sym (losses_same (lost far.members set.shards) l
        (sym (ap (λ (b : Bool). losses_by b far set) is) ∙ e)))
        ∙ sym (ap (λ (b : Bool). answer_by b far id set) is)
    by false is = absurd (none_some l (sym (ap (λ (b : Bool). losses_by b far set) is) ∙ e))

-- a set that has lost few enough is not broken
pub is_whole : (far : FarState) (set : SetState) → losses_told far set ≡ None
    → is_broken far.members set ≡ false
is_whole far set e = by (is_broken far.members set) refl
  where
    by : (b : Bool) → is_broken far.members set ≡ b → is_broken far.members set ≡ false
    by false is = is
    by true is = absurd (none_some (lost far.members set.shards)
        (sym e ∙ ap (λ (b : Bool). losses_by b far set) is))

pub by_frame : (far : FarState) (id : ℕ) (set : SetState) (o : Option ℕ)
    → is_broken far.members set ≡ false → least_run far.frames set.pages ≡ o
    → frame_answer o ≡ swap_answer far id set
by_frame far id set o whole e =
    sym (ap frame_answer e) ∙ sym (ap (λ (b : Bool). answer_by b far id set) whole)

-- ---- the far state
-- the span is in the frame, its objects have these homes, and its position is dead
abbrev pub with_arrived : FarState → List (Option Home) → ℕ → SetState → ℕ → Contents → FarState
with_arrived far homes id rest f span = record far {
  frames = with_run_taken far.frames f (pages_of span.class);
  spans = set far.spans f (Some span);
  sets = sets_left far.sets id rest;
  homes = homes;
  nodes = nodes_left far.nodes rest;
  survey = survey_left far id rest;
}

pub has_arrived : (s t : Shown) (far new : FarState) (homes : List (Option Home)) (id p : ℕ)
    (set : SetState) (f n : ℕ) (span : Contents) (row : List ℕ)
    → new ≡ with_arrived (far_given far n) homes id (with_position set p dead_position) f span
    → is_broken far.members set ≡ false → AreCleared span.slots far.homes homes
    → IsSpanBrought span.slots span.class f row s t → HasArrived s t far new id p set f n span row
has_arrived s t far new homes id p set f n span row e whole cleared brought =
    subst (λ (q : FarState). HasArrived s t far q id p set f n span row) (sym e) (record {
      brought = brought;
      homes = cleared;
      frames = refl;
      spans = refl;
      sets = refl;
      nodes = refl;
      first = refl;
      made = refl;
      members = refl;
      leaving = refl;
      joining = refl;
      counts = refl;
      survey = left_whole far id set p dead_position whole;
    })

-- a span that is hot and has the slots of the position
span_is : (span : Contents) (slots : List (Option ℕ)) → span.temp ≡ Hot → span.slots ≡ slots
    → span ≡ span_of span.class Hot slots
span_is span slots hot same = λ i. span_of span.class (hot i) (same i)

abbrev with_span : List (Option Contents) → ℕ → Contents → List (Option Contents)
with_span spans f c = set spans f (Some c)

pub swapped_to : (far new : FarState) (homes : List (Option Home)) (id p : ℕ) (set : SetState)
    (f n : ℕ) (span : Contents) (row : List ℕ) → IsFetched far set p span row
    → new ≡ with_arrived (far_given far n) homes id (with_position set p dead_position) f span
    → is_broken far.members set ≡ false → AreCleared span.slots far.homes homes
    → IsSwappedTo far new id p set f n
swapped_to far new homes id p set f n span row x e whole cleared =
    subst (λ (q : FarState). IsSwappedTo far q id p set f n) (sym e) (record {
      class = span.class;
      in_table = x.valid.in_table;
      paged = x.pages;
      sized = ap length (sym x.slots) ∙ x.valid.sized;
      frames = ap (with_run_taken far.frames f) x.pages;
      spans = ap (λ (c : Contents). with_span far.spans f c)
          (span_is span (position_of set p).slots x.hot x.slots);
      homes = subst (λ (l : List (Option ℕ)). AreCleared l far.homes homes) x.slots cleared;
      sets = refl;
      nodes = refl;
      rest = ap (λ (v : Survey). record (with_arrived (far_given far n) homes id
          (with_position set p dead_position) f span) { survey = v })
          (left_whole far id set p dead_position whole);
    })

-- ---- the effect
pub swapped_in : (given : Option (Bor (List ℕ))) (s t : Shown) (far new : FarState) (id p : ℕ)
    (set : SetState) (f n : ℕ) (span : Contents) (row : List ℕ) (es : List Access) → CanArrive s far id p set f span row
    → HasArrived s t far new id p set f n span row → Writes es s []
    → IsAtHand given row → (done : IsSwappedIn id p f far new es s t) × IsAtHand given done.row
swapped_in given s t far new id p set f n span row es x y nothing hand = (
  record {
    set = set;
    there = x.there;
    class = span.class;
    in_table = x.fetched.valid.in_table;
    paged = x.fetched.pages;
    sized = ap length (sym x.fetched.slots) ∙ x.fetched.valid.sized;
    row = row;
    of_word = x.fetched.row_of;
    brought = subst (λ (l : List (Option ℕ)). IsSpanBrought l span.class f row s t) x.fetched.slots
        y.brought;
    nothing = nothing;
    same_now = now_arrived s t far new id p set f n span row x y;
  },
  hand,
)
