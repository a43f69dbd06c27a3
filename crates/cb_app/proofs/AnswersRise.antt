-- Answers whose versions never fall: those of a lane behind those of lane 0, and of one lane behind
-- others.
use Rattle.std.proofs.Common.{◌≡◌, ℕ, List, [], ◌∷◌, ◌++◌, map, inr, refl, sym, ap, ◌∙◌, subst}
use Rattle.std.specs.List.{AllByRecursion}
use Rattle.cb_types.specs.declared.answer.Answer.{Answer}
use Rattle.cb_script.specs.declared.script.Line.{Line}
use Rattle.cb_rule.specs.declared.view.View.{View}
use Rattle.cb_model.specs.Called.{Called, called, calls_behind, calls_of}
use Rattle.cb_model.specs.Event.{event_of}
use Rattle.cb_model.specs.Legal.{NeverFalls, Rising, WasTold}
use Rattle.cb_record.specs.Rises.{HasAllOf, IsBehind, IsOnRecord, LaneCalls, RisesAlone}
use Rattle.cb_record.specs.Told.{Told, tolds}
use Rattle.cb_record.proofs.Laws.{calls_behind-append, rising_sum}
use Rattle.cb_lanes.specs.declared.body.Named.{Named}
use Rattle.cb_lanes.specs.Asked.{asked}
use Rattle.cb_lanes.specs.Bodies.{AreNamesOf}
use Rattle.cb_lanes.specs.Rising.{LaneRises}
use Rattle.cb_lanes.proofs.Laws.{all_both, all_map}
use Rattle.cb_app.specs.ByLane.{AreOfOthers, IsApart}
use Rattle.cb_app.specs.Crew.{AreKnownTo, NeverFall}
use Rattle.cb_app.proofs.ToldApart.{tolds_apart}

-- ---- lists

-- no call of the first falls to one of the second
abbrev FallsToNone : List Called → List Called → Type 0
FallsToNone xs ys = AllByRecursion (λ (c : Called). AllByRecursion (NeverFalls c) ys) xs

rising_both : (xs ys : List Called) → Rising xs → Rising ys → FallsToNone xs ys → Rising (xs ++ ys)
rising_both [] ys a b over = b
rising_both (x ∷ xs) ys a b over =
    (all_both (NeverFalls x) xs ys a.0 over.0, rising_both xs ys a.1 b over.1)

none_after : (xs : List Called) → FallsToNone xs []
none_after [] = tt
none_after (x ∷ xs) = (tt, none_after xs)

-- ---- calls behind those of other lanes

-- an answer as a call, with the handle that it was told of
abbrev call_of : Told → Answer → Called
call_of t a = record { lane = a.lane.n; handle = t.handle; event = event_of a.request a.reply }

abbrev as_calls : List Told → List Answer → List Called
as_calls [] answers = []
as_calls (t ∷ ts) [] = []
as_calls (t ∷ ts) (a ∷ answers) = call_of t a ∷ as_calls ts answers

calls_as_told : (given after : List Answer) → calls_behind given after ≡ as_calls (tolds given after) after
calls_as_told given [] = refl
calls_as_told given (a ∷ after) =
    ap (λ (cs : List Called). called given a ∷ cs) (calls_as_told (given ++ a ∷ []) after)

calls_apart : (given others after : List Answer) → IsApart (map asked others) (map asked after)
    → calls_behind (given ++ others) after ≡ calls_behind given after
calls_apart given others after apart = calls_as_told (given ++ others) after
    ∙ ap (λ (ts : List Told). as_calls ts after) (tolds_apart given others after apart)
    ∙ sym (calls_as_told given after)

-- a call whose answer these lanes were not told
untold : (c : Called) (before after : List Answer)
    → AllByRecursion (λ (l : Line). WasTold c.lane l.lane.n → ⊥) (map asked after)
    → AllByRecursion (NeverFalls c) (calls_behind before after)
untold c before [] none = tt
untold c before (a ∷ after) none =
    (λ h told on_c on_a. absurd (none.0 told), untold c (before ++ a ∷ []) after none.1)

others_untold : (front before others after : List Answer)
    → AreOfOthers (map asked others) (map asked after)
    → FallsToNone (calls_behind front others) (calls_behind before after)
others_untold front before [] after none = tt
others_untold front before (o ∷ others) after none = (
  untold (called front o) before after none.0,
  others_untold (front ++ o ∷ []) before others after none.1,
)

-- ---- answers behind answers

-- of answers given, of others and of these, where neither fall behind those given
pub never_fall_all : (given others after answers : List Answer) → answers ≡ given ++ others
    → IsApart (map asked others) (map asked after) → AreOfOthers (map asked others) (map asked after)
    → NeverFall [] answers → NeverFall given after → NeverFall [] (answers ++ after)
never_fall_all given others after answers are apart none old new =
    let ys = calls_behind given after in
    let behind : calls_behind answers after ≡ ys =
    ap (λ (bs : List Answer). calls_behind bs after) are ∙ calls_apart given others after apart in
    let split : calls_of answers ≡ calls_of given ++ calls_behind given others =
    ap (λ (bs : List Answer). calls_of bs) are ∙ calls_behind-append [] given others in
    let over : FallsToNone (calls_of answers) ys =
    subst (λ (xs : List Called). FallsToNone xs ys) (sym split)
    (all_both (λ (c : Called). AllByRecursion (NeverFalls c) ys) (calls_of given) (calls_behind given others)
    new.0 (others_untold given given others after none)) in
    let whole : Rising (calls_of answers ++ ys) =
    rising_both (calls_of answers) ys old.1 new.1 over in
    let is : calls_of answers ++ ys ≡ calls_of (answers ++ after) =
    ap (λ (zs : List Called). calls_of answers ++ zs) (sym behind)
    ∙ sym (calls_behind-append [] answers after) in
    (tt, subst Rising is whole)

-- ---- a lane, behind the answers that its pass knew

-- calls that rise from a record rise from one that it has all of
alone_from : (lane : LaneCalls) (u : View) → HasAllOf u lane.start → RisesAlone lane
    → RisesAlone (record lane { start = u })
alone_from lane u has is = record {
  own = is.own;
  rises = record {
    behind = all_map (IsBehind lane.start) (IsBehind u) lane.calls
        (λ c b h n freed on there. b h n freed on (has h n freed there)) is.rises.behind;
    rising = is.rises.rising;
  };
}

behind_known : (lane : LaneCalls) (front : List Called) → RisesAlone lane
    → AllByRecursion (IsOnRecord lane.start) front → FallsToNone front lane.calls
behind_known lane front is known = all_map (IsOnRecord lane.start)
    (λ (c : Called). AllByRecursion (NeverFalls c) lane.calls) front
    (λ c on. (rising_sum lane (c ∷ []) (tt, tt) is (inr on, tt)).0) known

pub lane_rise : (number : ℕ) (names : List Named) (given answers : List Answer) (v : View)
    → LaneRises number names answers v → AreNamesOf names given → AreKnownTo v given
    → NeverFall given answers
lane_rise number names given answers v rises named (u, has, stand, first) =
    let calls = calls_behind given answers in
    let lane : LaneCalls = record { number = number; start = v; calls = calls } in
    let is : RisesAlone (record lane { start = u }) =
    alone_from lane u has (rises given named) in
    (behind_known (record lane { start = u }) (calls_of given) is stand, is.rises.rising)

-- no answers are told before
pub none_known : (v : View) → AreKnownTo v []
none_known v = (v, (λ h n freed has. has), tt, tt)

-- a worker answers nothing
pub none_rise : (given answers : List Answer) → answers ≡ [] → NeverFall given answers
none_rise given answers none =
    subst (NeverFall given) (sym none) (none_after (calls_of given), tt)
