-- What a lane leaves that found no memory.
use Rattle.std.proofs.Common.{◌≡◌, ◌⊎◌, ℕ, ◌+◌, ◌<◌, List, [], ◌∷◌, ◌++◌, length, take, drop}
use Rattle.std.proofs.Common.{get_or, map, Option, sym, refl, ap, ◌∙◌, subst, inl, inr}
use Rattle.std.proofs.Common.{append_assoc, take-append-drop}
use Rattle.std.specs.List.{AllByRecursion}
use Rattle.std.proofs.lemmas.List.{take_more}
use Rattle.cb_types.specs.declared.answer.Answer.{Answer}
use Rattle.cb_types.specs.declared.config.Config.{Config}
use Rattle.cb_types.specs.Requests.{name_of}
use Rattle.cb_script.specs.declared.script.Line.{Line}
use Rattle.cb_rule.specs.declared.view.Look.{Look}
use Rattle.cb_rule.specs.declared.view.View.{View}
use Rattle.cb_rule.specs.Lists.{Has}
use Rattle.cb_rule.specs.Promised.{FoundBy}
use Rattle.cb_record.specs.Parts.{Part, grown, nothing_more}
use Rattle.cb_record.specs.Rises.{HasAllOf}
use Rattle.cb_record.proofs.Laws.{has_right}
use Rattle.cb_shared.specs.Joining.{unpinned_all}
use Rattle.cb_shared.specs.Recalls.{Recalls}
use Rattle.cb_lanes.specs.declared.body.Named.{Named}
use Rattle.cb_lanes.specs.Asked.{HasLineReply, asked}
use Rattle.cb_lanes.specs.Bodies.{AreLinesOf, IsFront, KnowsNames, LaneGoes}
use Rattle.cb_lanes.specs.KeepsOwn.{KeepsOwn}
use Rattle.cb_lanes.specs.LaneStops.{AddsIdly, LaneStops, LinesStop}
use Rattle.cb_lanes.specs.Names.{KeptNames, request_handle}
use Rattle.cb_lanes.specs.Stopping.{LineStops, stops_in}
use Rattle.cb_lanes.proofs.LaneForm.{lane_keeps_alone}
use Rattle.cb_lanes.proofs.LaneRises.{lane_alone}
use Rattle.cb_lanes.proofs.LastTries.{lines_last}
use Rattle.cb_lanes.proofs.LineReplies.{lines_reply}
use Rattle.cb_lanes.proofs.LinesBack.{handle_kept, lane_adds}
use Rattle.cb_lanes.proofs.LinesSoFar.{LinesSoFar}
use Rattle.cb_lanes.proofs.MadeApart.{lane_scoped, leads_idly}
use Rattle.cb_lanes.proofs.OwnKept.{AreRising, keeps_own}
use Rattle.cb_lanes.proofs.OwnRising.{lines_rising}
use Rattle.cb_lanes.proofs.Stopping.{idle_next, idle_unpinned}

-- ---- the line behind those that were answered
line_behind : (lines : List Line) (i : ℕ) (l : Line) (answers : List Answer) → i < length lines
    → l ≡ get_or lines i l → map asked answers ≡ take i lines
    → lines ≡ map asked answers ++ l ∷ drop (i + 1) lines
line_behind lines i l answers lt at front = sym (take-append-drop (i + 1) lines)
    ∙ ap (λ (ls : List Line). ls ++ drop (i + 1) lines) (take_more lines i l lt)
    ∙ append_assoc (take i lines) (get_or lines i l ∷ []) (drop (i + 1) lines)
    ∙ (λ j. sym front j ++ sym at j ∷ drop (i + 1) lines)

-- it found no memory
pub one_stops : (c : Config) (names : List Named) (lines : List Line) (first : View) (i : ℕ)
    (l : Line) (kept : KeptNames) (answers all : List Answer) (v w : View) → i < length lines
    → l ≡ get_or lines i l → LinesSoFar c names lines first i kept answers v → all ≡ answers
    → (w ≡ v) ⊎ LineStops (stops_in c) (request_handle kept l.request) l.request v w
    → LinesStop c names lines first all w
one_stops c names lines first i l kept answers all v w lt at x same stops =
    subst (λ (z : List Answer). LinesStop c names lines first z w) (sym same) (record {
      behind = v;
      goes = x.goes;
      stops = elim stops [
        | inl e ↦ inl e
        | inr y ↦ inr (
          l,
          drop (i + 1) lines,
          line_behind lines i l answers lt at x.front,
          subst (λ (o : Option ℕ). LineStops (stops_in c) o l.request v w)
              (handle_kept names kept answers (name_of l.request) x.keep) y,
        )
      ];
    })

-- or nothing was asked yet
pub none_stops : (c : Config) (names : List Named) (lines : List Line) (answers : List Answer)
    (v : View) → answers ≡ [] → LinesStop c names lines v answers v
none_stops c names lines answers v none =
    subst (λ (z : List Answer). LinesStop c names lines v z v) (sym none) (record {
      behind = v;
      goes = refl;
      stops = inl refl;
    })

-- ---- lines at the front of those of a lane
all_front : (nodes lane : ℕ) (front back : List Line) → AreLinesOf nodes lane (front ++ back)
    → AreLinesOf nodes lane front
all_front nodes lane [] back are = tt
all_front nodes lane (l ∷ front) back are = (are.0, all_front nodes lane front back are.1)

front_of : (nodes lane : ℕ) (front lines : List Line) → IsFront front lines
    → AreLinesOf nodes lane lines → AreLinesOf nodes lane front
front_of nodes lane front lines (back, is) are =
    all_front nodes lane front back (subst (AreLinesOf nodes lane) is are)

-- ---- what a record has of its own objects it had before looks and turns came to it
found_before : (looks : List Look) (d : Part) (v : View) (l : Look) → FoundBy l v
    → FoundBy l (grown d v)
found_before looks d v l (inl has) = inl (has_right l d.looks v.looks has)
found_before looks d v l (inr (t, has, e, in_it, is)) =
    inr (t, has_right t d.turns v.turns has, e, in_it, is)

kept_before : (v w : View) → AddsIdly v w → KeepsOwn w → KeepsOwn v
kept_before v w x keeps = record {
  order = all.order;
  read = all.read;
  long = λ l found mine full. all.long l (found_before x.looks d v l found) mine full;
  makes = λ t has. all.makes t (has_right t x.turns v.turns has);
}
  where
    d : Part
    d = record nothing_more { looks = x.looks; turns = x.turns }

    all : KeepsOwn (grown d v)
    all = subst KeepsOwn x.grows keeps

-- ---- a lane that stopped
module _ (first : ℕ) (c : Config) (lane : ℕ) (names : List Named) (lines : List Line)
    (answers : List Answer) (v m w : View) (none : v.pins ≡ []) (fresh : v.fresh ≡ [])
    (knows : KnowsNames v names) (are : AreLinesOf c.nodes lane lines)
    (front : IsFront (map asked answers) lines) (stops : LinesStop c names lines v answers m)
    (left : w ≡ unpinned_all m) (own : Recalls first w) (calm : w.fresh ≡ []) where
  abbrev ended : View
  ended = unpinned_all stops.behind

  abbrev Mine : ℕ → Type 0
  Mine h = Has h w.own

  goes : LaneGoes c names v answers ended
  goes = (stops.behind, stops.goes, refl)

  replies : AllByRecursion HasLineReply answers
  replies = lines_reply c names [] answers v stops.behind stops.goes

  are_front : AreLinesOf c.nodes lane (map asked answers)
  are_front = front_of c.nodes lane (map asked answers) lines front are

  adds : AddsIdly ended w
  adds = subst (AddsIdly ended) (sym left)
      (idle_unpinned stops.behind m (idle_next c names lines answers stops.behind m stops.stops))

  rising : v.written ≡ [] → AreRising Mine w.written
  rising unwritten = subst (λ (z : View). AreRising Mine z.written) (sym adds.grows)
      (lines_rising Mine c names [] answers v stops.behind stops.goes
      (subst (AreRising Mine) (sym unwritten) tt))

  keeps : first ≡ 1 → v.written ≡ [] → KeepsOwn ended
  keeps one unwritten = kept_before ended w adds
      (keeps_own w (subst (λ (n : ℕ). Recalls n w) one own) calm (rising unwritten))

  pub lane_stops : LaneStops first c lane names lines v answers w
  lane_stops = record {
    front = front;
    answered = replies;
    last = lines_last c names [] answers v stops.behind stops.goes replies;
    between = m;
    lines_stop = stops;
    left = left;
    part = lane_adds c names answers v ended none goes;
    rises = lane_alone c names c.nodes lane (map asked answers) answers v ended w none goes
        are_front
        refl (subst (HasAllOf ended) (sym adds.grows) (λ h n freed has. has)) own.stands.ends;
    scoped = lane_scoped c names c.nodes lane
        (map asked answers) answers first v ended w none knows goes
        own (leads_idly ended w adds) are_front refl;
    alone = λ one unwritten. lane_keeps_alone c c.nodes lane names
        (map asked answers) answers v ended none
        fresh knows goes refl replies (keeps one unwritten);
    adds = adds;
  }
