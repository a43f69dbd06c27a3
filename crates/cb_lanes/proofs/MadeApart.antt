-- The handles of the objects that a lane makes are new to it, and each is that of one name.
use Rattle.std.proofs.Common.{◌≡◌, ◌≢◌, ◌⊎◌, ℕ, Bool, true, false, List, [], ◌∷◌, ◌++◌, map, Option}
use Rattle.std.proofs.Common.{None, Some, inl, inr, sym, refl, ap, ◌∙◌, subst, arith, if◌then◌else◌}
use Rattle.std.specs.Str.{bytes_eq}
use Rattle.std.proofs.lemmas.Option.{same_Some}
use Rattle.cb_types.specs.declared.answer.Answer.{Answer}
use Rattle.cb_types.specs.declared.config.Config.{Config}
use Rattle.cb_types.specs.declared.handle.Handle.{Handle}
use Rattle.cb_types.specs.declared.job.Job.TheVariants as job
use Rattle.cb_types.specs.declared.reply.Reply.{Reply}
use Rattle.cb_types.specs.declared.reply.Reply.TheVariants as answer
use Rattle.cb_types.specs.declared.request.Request.{Request}
use Rattle.cb_types.specs.declared.request.Request.TheVariants.{Make}
use Rattle.cb_types.specs.Requests.{name_of}
use Rattle.cb_model.specs.Called.{first_of, handle_made, handle_of}
use Rattle.cb_world.specs.declared.entry.Entry.{Entry}
use Rattle.cb_rule.specs.declared.turn.Turn.{Turn}
use Rattle.cb_rule.specs.declared.view.Seen.{Seen}
use Rattle.cb_rule.specs.declared.view.View.{View}
use Rattle.cb_rule.specs.Lists.{Has}
use Rattle.cb_rule.specs.OwnStands.{WroteItself}
use Rattle.cb_rule.specs.Steps.{Knows}
use Rattle.cb_record.specs.Parts.{Part, nothing_more}
use Rattle.cb_record.specs.Rises.{HasAllOf, HasVersion}
use Rattle.cb_record.proofs.Laws.{has_left, has_right}
use Rattle.cb_shared.specs.Calls.{TurnGives}
use Rattle.cb_shared.specs.Recalls.{MakesFirst, Recalls}
use Rattle.cb_lanes.specs.declared.body.Named.{Named}
use Rattle.cb_script.specs.declared.script.Line.{Line}
use Rattle.cb_shared.specs.Joining.{unpinned_all}
use Rattle.cb_lanes.specs.Asked.{asked}
use Rattle.cb_lanes.specs.Bodies.{AreLinesOf, AreNamesOf, KnowsNames, LaneGoes, LinesGo}
use Rattle.cb_lanes.specs.Bodies.{handle_behind}
use Rattle.cb_lanes.specs.LaneStops.{AddsIdly}
use Rattle.cb_lanes.specs.LineGoes.{Calls, LineGoes}
use Rattle.cb_lanes.specs.Passing.{goes_in}
use Rattle.cb_lanes.specs.Scoped.{AreOneToOne, HaveOneHandle, IsMadeAs, LaneScoped}
use Rattle.cb_lanes.proofs.LaneScopes.{handle_is_made, keeps_scopes}
use Rattle.cb_lanes.proofs.LineParts.{Adds, adds_knows, line_adds}
use Rattle.cb_lanes.proofs.LinesBack.{made_known}
use Rattle.cb_lanes.proofs.NamesAmong.{among_known}
use Rattle.cb_lanes.proofs.OwnSteps.{OwnMore, line_own}
use Rattle.cb_lanes.proofs.PinLists.{name_cases}
use Rattle.cb_lanes.proofs.PinsRead.{adds_all, has_both, has_grown}
use Rattle.cb_lanes.proofs.TellingNew.{IsAbove, ask_new}

-- ---- a make in a record of which is told what it has of its own objects
pub makes_told : (c : Config) (bytes : List ℕ) (handle : Handle) (version first : ℕ)
    (v m all : View)
    → TurnGives c (job.Make bytes) (answer.Made handle version) v m
    → ((t : Turn) → Has t m.turns → Has t all.turns) → MakesFirst first all.turns → version ≡ first
makes_told c bytes handle version first v m all (d, y, is) turns makes =
    let x = y.ends_so.1 in makes x.turn
    (turns x.turn (subst (λ (z : View). Has x.turn z.turns) (sym is)
    (has_left x.turn d.turns v.turns (subst (λ (p : Part). Has x.turn p.turns) (sym y.part)
    (has_left x.turn y.last.turns y.before.turns
    (subst (λ (p : Part). Has x.turn p.turns) (sym x.part) (inl refl)))))))
    bytes handle version x.job_is x.reply_is

-- the view wrote an entry of this version of its own object, or read one that it wrote
wrote_from : (first h n : ℕ) (freed : Bool) (all : View) → Recalls first all → Has h all.own
    → HasVersion all h n freed → (e : Entry) × WroteItself all e × (e.version ≡ n)
wrote_from first h n freed all told own (inl x) = (
  x.0,
  (all, (0, refl), has_right x.0 all.fresh all.written x.1),
  x.3,
)
wrote_from first h n freed all told own (inr x) =
    let z = told.own.read x.0 x.1 (subst (λ (k : ℕ). Has k all.own) (sym x.2) own) in
    (z.0, z.1, sym (ap (λ (s : Seen). s.version) z.2) ∙ x.3)

version_known : (h : ℕ) (v : View) → Knows h v → (n : ℕ) × (freed : Bool) × HasVersion v h n freed
version_known h v (inl x) = (x.0.version, x.0.freed, inl (x.0, x.1, x.2, refl, refl))
version_known h v (inr x) = (x.0.version, x.0.freed, inr (x.0, x.1, x.2, refl, refl))

-- what a make gave was not known before
pub made_new : (first h version : ℕ) (v all : View) → Recalls first all → version ≡ first
    → IsAbove v h version → Has h all.own → HasAllOf v all → Knows h v → ⊥
made_new first h version v all told is above own has knows =
    let k = version_known h v knows in
    let less = above k.0 k.1 k.2 in
    let w = wrote_from first h k.0 k.1 all told own (has h k.0 k.1 k.2) in
    let low = told.own.born w.0 w.1 in
    let same = w.2 in omega (arith, is, less, low, same)

-- ---- a record that leads to another one
pub record LeadsOn (m all : View) : Type 0 where
  pub own : OwnMore m all
  pub has : HasAllOf m all
  pub turns : (t : Turn) → Has t m.turns → Has t all.turns

leads_back : (v m all : View) (d : Part) → Adds v d m → OwnMore v m → LeadsOn m all → LeadsOn v all
leads_back v m all d adds own on = record {
  own = λ k has. on.own k (own k has);
  has = has_both v m all (adds_all v m d adds) on.has;
  turns = λ t has. on.turns t (subst (λ (z : View). Has t z.turns) (sym adds)
      (has_right t d.turns v.turns has));
}

pub leads_same : (v : View) → LeadsOn v v
leads_same v = record { own = λ k has. has; has = λ h n freed has. has; turns = λ t has. has }

-- also by looks and turns alone
pub leads_idly : (v w : View) → AddsIdly v w → LeadsOn v w
leads_idly v w x = record {
  own = λ k has. subst (λ (z : View). Has k z.own) (sym x.grows) has;
  has = λ h n freed has. subst (λ (z : View). HasVersion z h n freed) (sym x.grows)
      (has_grown d v h n freed has);
  turns = λ t has. subst (λ (z : View). Has t z.turns) (sym x.grows)
      (has_right t x.turns v.turns has);
}
  where
    d : Part
    d = record nothing_more { looks = x.looks; turns = x.turns }

module _ (c : Config) (names : List Named) (first : ℕ) (all : View) (told : Recalls first all) where
  line_leads : (o : Option ℕ) (q : Request) (r : Reply) (v m : View)
      → LineGoes (goes_in c) o q v r m
      → LeadsOn m all → LeadsOn v all
  line_leads o q r v m goes on = let a = line_adds c o q r v m goes in
      leads_back v m all a.0 a.1 (line_own c o q r v m goes) on

  line_keeps : (o : Option ℕ) (q : Request) (r : Reply) (v m : View)
      → LineGoes (goes_in c) o q v r m
      → (h : ℕ) → Knows h v → Knows h m
  line_keeps o q r v m goes h knows = let a = line_adds c o q r v m goes in
      adds_knows h v m a.0 a.1 knows

  lines_lead : (before after : List Answer) (v w : View)
      → LinesGo (goes_in c) names before v after w
      → LeadsOn w all → LeadsOn v all
  lines_lead before [] v w is on = subst (λ (z : View). LeadsOn z all) is on
  lines_lead before (a ∷ after) v w (m, one, rest) on =
      line_leads (handle_behind names before (name_of a.request)) a.request a.reply v m one
      (lines_lead (before ++ a ∷ []) after m w rest on)

  -- ---- what the answer of a make gave
  turn_new : (bytes : List ℕ) (handle : Handle) (version : ℕ) (v m : View)
      → TurnGives c (job.Make bytes) (answer.Made handle version) v m → LeadsOn m all
      → LeadsOn v all → Knows handle.n v → ⊥
  turn_new bytes handle version v m goes on from = made_new first handle.n version v all told
      (makes_told c bytes handle version first v m all goes on.turns told.makes)
      (ask_new c (Calls (job.Make bytes)) v (answer.Made handle version) m goes)
      (on.own handle.n (subst (λ (z : View). Has handle.n z.own) (sym goes.2) (inl refl))) from.has

  gave : (name : List ℕ) (h : ℕ) (o : Option ℕ) (q : Request) (r : Reply) (v m : View)
      → handle_made name q r ≡ Some h → LineGoes (goes_in c) o q v r m → LeadsOn m all
      → LeadsOn v all
      → (Knows h v → ⊥) × Knows h m
  gave name h o (Make made bytes) (answer.Made handle version) v m is goes on from =
      elim (name_cases made name) [
        | inl same ↦ (
            let at : handle.n ≡ h = same_Some handle.n h
            (sym (ap (λ (t : Bool). if t then Some handle.n else None) same.0) ∙ is) in (
              λ knows. turn_new bytes handle version v m goes on from
                  (subst (λ (k : ℕ). Knows k v) (sym at) knows),
              subst (λ (k : ℕ). Knows k m) at (made_known c bytes handle version v m goes),
            ))
        | inr other ↦ absurd (let e : None ≡ Some h =
            sym (ap (λ (t : Bool). if t then Some handle.n else None) other.0) ∙ is in cc)
      ]
  gave name h o (Make made bytes) r v m is goes on from = absurd cc
  gave name h o q r v m is goes on from = absurd cc

  -- no handle that is made is known before
  lines_new : (before after : List Answer) (v w : View) → LinesGo (goes_in c) names before v after w
      → LeadsOn w all → (name : List ℕ) (h : ℕ) → IsMadeAs after name h → Knows h v → ⊥
  lines_new before [] v w is on name h made knows = absurd made
  lines_new before (a ∷ after) v w (m, one, rest) on name h (inl made) knows =
      let o = handle_behind names before (name_of a.request) in
      let behind = lines_lead (before ++ a ∷ []) after m w rest on in
      (gave name h o a.request a.reply v m made one behind
      (line_leads o a.request a.reply v m one behind)).0 knows
  lines_new before (a ∷ after) v w (m, one, rest) on name h (inr made) knows =
      lines_new (before ++ a ∷ []) after m w rest on name h made
      (line_keeps (handle_behind names before (name_of a.request)) a.request a.reply v m one h
      knows)

  -- a later line makes no object of the same handle
  made_later : (before after : List Answer) (a : Answer) (v m w : View)
      → LineGoes (goes_in c) (handle_behind names before (name_of a.request)) a.request v a.reply m
      → LinesGo (goes_in c) names (before ++ a ∷ []) m after w → LeadsOn w all
      → (p q : List ℕ) (h : ℕ) → handle_made p a.request a.reply ≡ Some h → IsMadeAs after q h → ⊥
  made_later before after a v m w one rest on p q h is made =
      let o = handle_behind names before (name_of a.request) in
      let behind = lines_lead (before ++ a ∷ []) after m w rest on in
      lines_new (before ++ a ∷ []) after m w rest on q h made
      (gave p h o a.request a.reply v m is one behind
      (line_leads o a.request a.reply v m one behind)).1

  -- ---- one answer gives a handle to one name
  made_name : (p q : List ℕ) (g h : ℕ) (request : Request) (r : Reply)
      → handle_made p request r ≡ Some g → handle_made q request r ≡ Some h → p ≡ q
  made_name p q g h (Make made bytes) (answer.Made handle version) is_p is_q =
      sym (by p g is_p (name_cases made p)) ∙ by q h is_q (name_cases made q)
    where
      by : (name : List ℕ) (k : ℕ) → (if bytes_eq made name then Some handle.n else None) ≡ Some k
          → ((bytes_eq made name ≡ true) × (made ≡ name))
          ⊎ ((bytes_eq made name ≡ false) × (made ≢ name))
          → made ≡ name
      by name k is (inl same) = same.1
      by name k is (inr other) = absurd (let e : None ≡ Some k =
          sym (ap (λ (t : Bool). if t then Some handle.n else None) other.0) ∙ is in cc)
  made_name p q g h (Make made bytes) r is_p is_q = absurd cc
  made_name p q g h request r is_p is_q = absurd cc

  lines_apart : (before after : List Answer) (v w : View)
      → LinesGo (goes_in c) names before v after w
      → LeadsOn w all → (p q : List ℕ) (h : ℕ) → IsMadeAs after p h → IsMadeAs after q h → p ≡ q
  lines_apart before [] v w is on p q h made_p made_q = absurd made_p
  lines_apart before (a ∷ after) v w (m, one, rest) on p q h (inl is_p) (inl is_q) =
      made_name p q h h a.request a.reply is_p is_q
  lines_apart before (a ∷ after) v w (m, one, rest) on p q h (inl is_p) (inr made_q) =
      absurd (made_later before after a v m w one rest on p q h is_p made_q)
  lines_apart before (a ∷ after) v w (m, one, rest) on p q h (inr made_p) (inl is_q) =
      absurd (made_later before after a v m w one rest on q p h is_q made_p)
  lines_apart before (a ∷ after) v w (m, one, rest) on p q h (inr made_p) (inr made_q) =
      lines_apart (before ++ a ∷ []) after m w rest on p q h made_p made_q

-- ---- names that were given
made_split : (given after : List Answer) (name : List ℕ) (h : ℕ) → IsMadeAs (given ++ after) name h
    → IsMadeAs given name h ⊎ IsMadeAs after name h
made_split [] after name h made = inr made
made_split (a ∷ given) after name h (inl is) = inl (inl is)
made_split (a ∷ given) after name h (inr made) = elim (made_split given after name h made) [
  | inl x ↦ inl (inr x)
  | inr x ↦ inr x
]

-- a name that was made has a handle
has_handle : (given : List Answer) (name : List ℕ) (h : ℕ) → IsMadeAs given name h
    → (k : ℕ) × (handle_of given name ≡ Some k)
has_handle [] name h made = absurd made
has_handle (a ∷ given) name h (inl is) = by (handle_of given name) refl
  where
    by : (o : Option ℕ) → handle_of given name ≡ o
        → (k : ℕ) × (first_of (handle_of given name) (handle_made name a.request a.reply) ≡ Some k)
    by None e = (h, ap (λ (o : Option ℕ). first_of o (handle_made name a.request a.reply)) e ∙ is)
    by (Some k) e = (k, ap (λ (o : Option ℕ). first_of o (handle_made name a.request a.reply)) e)
has_handle (a ∷ given) name h (inr made) = let z = has_handle given name h made in
    (z.0, ap (λ (o : Option ℕ). first_of o (handle_made name a.request a.reply)) z.1)

-- ---- a lane, behind the answers that gave the names
module _ (c : Config) (names : List Named) (given : List Answer)
    (are_names : AreNamesOf names given)
    (first : ℕ) (v w all : View) (told : Recalls first all) (knows : KnowsNames v names)
    (answers : List Answer) (goes : LinesGo (goes_in c) names [] v answers w) (on : LeadsOn w all)
    (one : AreOneToOne given) (each : HaveOneHandle (given ++ answers)) where
  given_known : (name : List ℕ) (h : ℕ) → IsMadeAs given name h → Knows h v
  given_known name h made = let z = has_handle given name h made in
      subst (λ (k : ℕ). Knows k v)
      ((one name name z.0 h (handle_is_made given name z.0 z.1) made).0 refl)
      (among_known names v name z.0 knows (sym (are_names name) ∙ z.1))

  new_behind : (p q : List ℕ) (h : ℕ) → IsMadeAs given p h → IsMadeAs answers q h → ⊥
  new_behind p q h made_p made_q = lines_new c names first all told
      [] answers v w goes on q h made_q
      (given_known p h made_p)

  names_same : (p q : List ℕ) (h : ℕ) → IsMadeAs given p h ⊎ IsMadeAs answers p h
      → IsMadeAs given q h ⊎ IsMadeAs answers q h → p ≡ q
  names_same p q h (inl x) (inl y) = (one p q h h x y).1 refl
  names_same p q h (inl x) (inr y) = absurd (new_behind p q h x y)
  names_same p q h (inr x) (inl y) = absurd (new_behind q p h y x)
  names_same p q h (inr x) (inr y) =
      lines_apart c names first all told [] answers v w goes on p q h x y

  pub made_one_to_one : AreOneToOne (given ++ answers)
  made_one_to_one p q g h x y = (
    λ same. each q g h (subst (λ (name : List ℕ). IsMadeAs (given ++ answers) name g) same x) y,
    λ same. names_same p q h
        (made_split given answers p h (subst (IsMadeAs (given ++ answers) p) same x))
        (made_split given answers q h y),
  )

-- what a lane is answered about pins, by the record that it leaves
pub lane_scoped : (c : Config) (names : List Named) (nodes lane : ℕ) (lines : List Line)
    (answers : List Answer) (first : ℕ) (v w all : View) → v.pins ≡ [] → KnowsNames v names
    → LaneGoes c names v answers w → Recalls first all → LeadsOn w all
    → AreLinesOf nodes lane lines → map asked answers ≡ lines → LaneScoped lane names answers
lane_scoped c names nodes lane lines answers first v w all none knows
    (m, goes, left) told on of is given
    named scope one each =
    keeps_scopes c names nodes lane lines answers v w none (m, goes, left) of is given named scope
    (made_one_to_one c names given named first v m all told knows answers goes unpinned one each)
  where
    unpinned : LeadsOn m all
    unpinned = let z : LeadsOn (unpinned_all m) all = subst (λ (u : View). LeadsOn u all) left on in
        record { own = z.own; has = z.has; turns = z.turns }
