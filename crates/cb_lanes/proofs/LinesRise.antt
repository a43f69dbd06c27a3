-- The lines of a lane rise from the record of its pass, and what they were answered stands in it.
use Rattle.std.proofs.Common.{◌≡◌, ℕ, ◌≤◌, Bool, true, false, List, [], ◌∷◌, ◌++◌, Option, None}
use Rattle.std.proofs.Common.{Some, sym, refl, ap, ◌∙◌, subst, append_assoc, arith}
use Rattle.std.specs.List.{AllByRecursion}
use Rattle.std.proofs.lemmas.List.{append-nil}
use Rattle.std.proofs.lemmas.Option.{same_Some, none-some}
use Rattle.cb_types.specs.declared.answer.Answer.{Answer}
use Rattle.cb_types.specs.declared.config.Config.{Config}
use Rattle.cb_types.specs.Requests.{name_of}
use Rattle.cb_rule.specs.declared.view.View.{View}
use Rattle.cb_rule.specs.RecordStands.{FreedIsLast}
use Rattle.cb_model.specs.Called.{Called, called, calls_behind, handle_for}
use Rattle.cb_model.specs.Event.{Event, event_of, version_of}
use Rattle.cb_model.specs.Event.Event.{Makes, Shows, Pins, Writes, Frees, FindsFull, FindsUnmade}
use Rattle.cb_model.specs.Event.Event.{FindsFreed, FindsEnd, Refused, Wrong}
use Rattle.cb_model.specs.Legal.{IsNotBelow, MayComeLater, NeverFalls}
use Rattle.cb_record.specs.Rises.{HasAllOf, HasVersion, IsBehind, IsKnownTo, IsOnRecord}
use Rattle.cb_record.specs.Rises.{MayFollowVersion, RisesFrom}
use Rattle.cb_lanes.specs.declared.body.Named.{Named}
use Rattle.cb_lanes.specs.Bodies.{AreNamesOf, LaneGoes, LinesGo, handle_behind}
use Rattle.cb_lanes.specs.LineGoes.{LineGoes}
use Rattle.cb_lanes.specs.Passing.{goes_in}
use Rattle.cb_lanes.proofs.LineParts.{about, line_adds}
use Rattle.cb_lanes.proofs.LineRises.{IsHigher, line_higher}
use Rattle.cb_lanes.proofs.LinesBack.{about_for, lines_add, named_behind}
use Rattle.cb_lanes.proofs.LineVersions.{StandsInRecord, line_stands, stands_more}
use Rattle.cb_lanes.proofs.Lists.{all_map}
use Rattle.cb_lanes.proofs.PinsRead.{PinsRead, adds_all, has_both, has_same, line_pins, pins_none}

-- ---- what stands in a record is known to it
stands_known : (v : View) (h : ℕ) (e : Event) → StandsInRecord v h e → IsKnownTo v h e
stands_known v h (Makes bytes version) x = λ n is.
    (false, subst (λ (k : ℕ). HasVersion v h k false) (same_Some version n is) x)
stands_known v h (Shows version bytes) x = λ n is.
    (false, subst (λ (k : ℕ). HasVersion v h k false) (same_Some version n is) x)
stands_known v h (Pins version) x = λ n is.
    (false, subst (λ (k : ℕ). HasVersion v h k false) (same_Some version n is) x)
stands_known v h (Writes at bytes version) x = λ n is.
    (false, subst (λ (k : ℕ). HasVersion v h k false) (same_Some version n is) x)
stands_known v h (Frees version) x = λ n is.
    (true, subst (λ (k : ℕ). HasVersion v h k true) (same_Some version n is) x)
stands_known v h FindsFreed x = x
stands_known v h (FindsFull handles) x = λ n is. absurd (none-some n is)
stands_known v h FindsUnmade x = λ n is. absurd (none-some n is)
stands_known v h (FindsEnd at bytes len) x = λ n is. absurd (none-some n is)
stands_known v h (Refused subject) x = λ n is. absurd (none-some n is)
stands_known v h Wrong x = λ n is. absurd (none-some n is)

-- ---- an event that is not below what the record has may follow it
-- a version that stands behind the freed one
not_behind : (all : View) (h last n : ℕ) → FreedIsLast all → HasVersion all h last true
    → HasVersion all h n false → last ≤ n → ⊥
not_behind all h last n is_last gone has up_to =
    let x = is_last h last n false gone has in
    let below = x.0 in
    let e : false ≡ true = x.1 (omega (arith, below, up_to)) in cc

may_follow : (v all : View) (h : ℕ) (e : Event) → HasAllOf v all → FreedIsLast all
    → IsHigher v h e → StandsInRecord all h e → (n : ℕ) (freed : Bool) → HasVersion v h n freed
    → MayFollowVersion n freed e
may_follow v all h e more is_last higher stands n false has = higher n false has
may_follow v all h (Makes bytes version) more is_last higher stands n true has =
    absurd (not_behind all h n version is_last (more h n true has) stands (higher n true has))
may_follow v all h (Shows version bytes) more is_last higher stands n true has =
    absurd (not_behind all h n version is_last (more h n true has) stands (higher n true has))
may_follow v all h (Pins version) more is_last higher stands n true has =
    absurd (not_behind all h n version is_last (more h n true has) stands (higher n true has))
may_follow v all h (Writes at bytes version) more is_last higher stands n true has =
    absurd (let above = higher n true has in
    not_behind all h n version is_last (more h n true has) stands (omega (arith, above)))
may_follow v all h (Frees version) more is_last higher stands n true has =
    let above = higher n true has in
    let x = is_last h n version true (more h n true has) stands in
    let below = x.0 in absurd (omega (arith, above, below))
may_follow v all h (FindsFull handles) more is_last higher stands n true has = refl
may_follow v all h FindsUnmade more is_last higher stands n true has = refl
may_follow v all h FindsFreed more is_last higher stands n true has = refl
may_follow v all h (FindsEnd at bytes len) more is_last higher stands n true has = refl
may_follow v all h (Refused subject) more is_last higher stands n true has = refl
may_follow v all h Wrong more is_last higher stands n true has = refl

-- ---- and what stands in the record before may be followed by it
unbound : (version : ℕ) (e : Event) → version_of e ≡ None → IsNotBelow version e
unbound version (Makes bytes later) none = absurd (none-some later (sym none))
unbound version (Shows later bytes) none = absurd (none-some later (sym none))
unbound version (Pins later) none = absurd (none-some later (sym none))
unbound version (Writes at bytes later) none = absurd (none-some later (sym none))
unbound version (Frees later) none = absurd (none-some later (sym none))
unbound version (FindsFull number) none = tt
unbound version FindsUnmade none = tt
unbound version FindsFreed none = tt
unbound version (FindsEnd at bytes len) none = tt
unbound version (Refused subject) none = tt
unbound version Wrong none = tt

module _ (v : View) (h : ℕ) (later : Event)
    (behind : (n : ℕ) (freed : Bool) → HasVersion v h n freed → MayFollowVersion n freed later)
  where
    follows_at : (version n : ℕ) → HasVersion v h version false → Some version ≡ Some n
        → IsNotBelow n later
    follows_at version n x is = subst (λ (k : ℕ). IsNotBelow k later) (same_Some version n is)
        (behind version false x)

    follows : (e : Event) → StandsInRecord v h e → MayComeLater e later
    follows (Makes bytes version) x = λ n is. follows_at version n x is
    follows (Shows version bytes) x = λ n is. follows_at version n x is
    follows (Pins version) x = λ n is. follows_at version n x is
    follows (Writes at bytes version) x = λ n is. follows_at version n x is
    follows (Frees version) x = λ n is. unbound n later (behind version true x)
    follows FindsFreed x = behind x.0 true x.1
    follows (FindsFull handles) x = λ n is. absurd (none-some n is)
    follows FindsUnmade x = λ n is. absurd (none-some n is)
    follows (FindsEnd at bytes len) x = λ n is. absurd (none-some n is)
    follows (Refused subject) x = λ n is. absurd (none-some n is)
    follows Wrong x = λ n is. absurd (none-some n is)

-- ---- lists of calls

-- what the call was answered stands in the record
abbrev StandsOn : View → Called → Type 0
StandsOn v call = (h : ℕ) → call.handle ≡ Some h → StandsInRecord v h call.event

never_falls : (v : View) (earlier later : Called) → StandsOn v earlier → IsBehind v later
    → NeverFalls earlier later
never_falls v earlier later stands behind h told on_e on_l = follows v h later.event
    (λ n freed has. behind h n freed on_l has) earlier.event (stands h on_e)

-- ---- lines
module _ (c : Config) (names : List Named) (given : List Answer)
    (are : AreNamesOf names given) where
  -- the record keeps what it has
  lines_all : (before after : List Answer) (v w : View) → LinesGo (goes_in c) names before v after w
      → HasAllOf v w
  lines_all before after v w goes =
      let all = lines_add c names before after v w goes in adds_all v w all.0 all.1

  -- the handle that an answer is about
  handle_is : (before : List Answer) (x : Answer) → handle_for (given ++ before) x.request x.reply
      ≡ about (handle_behind names before (name_of x.request)) x.request x.reply
  handle_is before x = about_for (given ++ before) x.request x.reply ∙ ap (λ (o : Option ℕ).
      about o x.request x.reply) (named_behind names given before (name_of x.request) are)

  one_stands : (before : List Answer) (x : Answer) (v m : View) → PinsRead v
      → LineGoes (goes_in c) (handle_behind names before (name_of x.request)) x.request v x.reply m
      → StandsOn m (called (given ++ before) x)
  one_stands before x v m read goes h on = line_stands c v m x.reply read
      (handle_behind names before (name_of x.request)) x.request goes h
      (sym (handle_is before x) ∙ on)

  stands_on : (before after : List Answer) (v w all : View) → PinsRead v
      → LinesGo (goes_in c) names before v after w → HasAllOf w all
      → AllByRecursion (StandsOn all) (calls_behind (given ++ before) after)
  stands_on before [] v w all read goes more = tt
  stands_on before (x ∷ after) v w all read (m, one, rest) more = (
    λ h on. stands_more m all h _
        (has_both m w all (lines_all (before ++ x ∷ []) after m w rest) more)
        (one_stands before x v m read one h on),
    subst (λ (l : List Answer). AllByRecursion (StandsOn all) (calls_behind l after))
        (sym (append_assoc given before (x ∷ [])))
        (stands_on (before ++ x ∷ []) after m w all
        (line_pins c (handle_behind names before (name_of x.request)) x.request x.reply v m one
        read)
        rest more),
  )

  -- what the lines were answered stands on the record behind them
  pub on_record : (before after : List Answer) (v w : View) → PinsRead v
      → LinesGo (goes_in c) names before v after w
      → AllByRecursion (IsOnRecord w) (calls_behind (given ++ before) after)
  on_record before after v w read goes = all_map (StandsOn w) (IsOnRecord w) _
      (λ call x h on. stands_known w h call.event (x h on))
      (stands_on before after v w w read goes (has_same w))

  -- a line is answered as behind all that the record had, where behind a freed version there is
  -- none
  pub one_behind : (before : List Answer) (x : Answer) (v m all : View) → PinsRead v
      → LineGoes (goes_in c) (handle_behind names before (name_of x.request)) x.request v x.reply m
      → HasAllOf v m → HasAllOf m all → FreedIsLast all → IsBehind v (called (given ++ before) x)
  one_behind before x v m all read goes keeps more is_last h n freed on has = may_follow v all h
      (event_of x.request x.reply) (has_both v m all keeps more) is_last
      (line_higher c v m x.reply (handle_behind names before (name_of x.request)) x.request goes h
      (sym (handle_is before x) ∙ on))
      (stands_more m all h _ more (one_stands before x v m read goes h on)) n freed has

  -- a line, and those behind it that rise from the record that it leaves
  rise_more : (before after : List Answer) (x : Answer) (v m all : View) → PinsRead v
      → LineGoes (goes_in c) (handle_behind names before (name_of x.request)) x.request v x.reply m
      → HasAllOf m all → FreedIsLast all
      → RisesFrom m (calls_behind (given ++ (before ++ x ∷ [])) after)
      → RisesFrom v (calls_behind (given ++ before) (x ∷ after))
  rise_more before after x v m all read one more is_last behind = record {
    behind = (
      one_behind before x v m all read one keeps more is_last,
      all_map (IsBehind m) (IsBehind v) _
          (λ call b h n freed on has. b h n freed on (keeps h n freed has)) later.behind,
    );
    rising = (
      all_map (IsBehind m) (NeverFalls (called (given ++ before) x)) _
          (λ call b. never_falls m (called (given ++ before) x) call
          (one_stands before x v m read one) b) later.behind,
      later.rising,
    );
  }
    where
      keeps : HasAllOf v m
      keeps = let a = line_adds c (handle_behind names before (name_of x.request)) x.request x.reply
          v m one in
          adds_all v m a.0 a.1

      later : RisesFrom m (calls_behind ((given ++ before) ++ x ∷ []) after)
      later = subst (λ (l : List Answer). RisesFrom m (calls_behind l after))
          (sym (append_assoc given before (x ∷ []))) behind

  -- and so the lines rise from the record before them
  pub rise : (before after : List Answer) (v w all : View) → PinsRead v
      → LinesGo (goes_in c) names before v after w → HasAllOf w all → FreedIsLast all
      → RisesFrom v (calls_behind (given ++ before) after)
  rise before [] v w all read goes more is_last = record { behind = tt; rising = tt }
  rise before (x ∷ after) v w all read (m, one, rest) more is_last =
      rise_more before after x v m all read one
      (has_both m w all (lines_all (before ++ x ∷ []) after m w rest) more) is_last
      (rise (before ++ x ∷ []) after m w all
      (line_pins c (handle_behind names before (name_of x.request)) x.request x.reply v m one read)
      rest more is_last)

-- ---- a lane
-- what the answers of a lane told stands on the record that it leaves
pub lane_on_record : (c : Config) (names : List Named) (answers : List Answer) (v w : View)
    → v.pins ≡ [] → LaneGoes c names v answers w → (given : List Answer) → AreNamesOf names given
    → AllByRecursion (IsOnRecord w) (calls_behind given answers)
lane_on_record c names answers v w none (m, lines, left) given are =
    subst (λ (z : View). AllByRecursion (IsOnRecord z) (calls_behind given answers)) (sym left)
    (subst (λ (l : List Answer). AllByRecursion (IsOnRecord m) (calls_behind l answers))
    (append-nil given) (on_record c names given are [] answers v m (pins_none v none) lines))

-- and they rise from the record at its start
pub lane_rises : (c : Config) (names : List Named) (answers : List Answer) (v w all : View)
    → v.pins ≡ [] → LinesGo (goes_in c) names [] v answers w → HasAllOf w all → FreedIsLast all
    → (given : List Answer) → AreNamesOf names given → RisesFrom v (calls_behind given answers)
lane_rises c names answers v w all none lines more is_last given are =
    subst (λ (l : List Answer). RisesFrom v (calls_behind l answers)) (append-nil given)
    (rise c names given are [] answers v w all (pins_none v none) lines more is_last)
