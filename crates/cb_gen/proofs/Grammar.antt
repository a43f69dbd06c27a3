-- A drawn script is one by the grammar.
use Rattle.std.proofs.Common.{◌≡◌, ℕ, zero, suc, ◌+◌, ◌<◌, ◌≤◌, ◌==◌, nat_lt, Bool, true, false, cond, List, [], ◌∷◌, ◌++◌, length, inl, inr, refl, sym, ap, ◌∙◌, subst, arith, length-append, append-nil}
use Rattle.std.specs.List.{All}
use Rattle.std.proofs.lemmas.Bool.{cases_Bool, eq-eqb, eqb-true, ltb-true, ltb-false}
use Rattle.std.proofs.lemmas.Grind.{flat_map-append}
use Rattle.std.proofs.lemmas.List.Elements.{All-append}
use Rattle.cb_types.specs.Config.{IsAccepted}
use Rattle.cb_types.specs.declared.config.Field.TheVariants as field
use Rattle.cb_types.specs.declared.request.Request.{Request}
use Rattle.cb_script.specs.declared.script.Line.{Line}
use Rattle.cb_script.specs.Form.{AreLines, IsName, IsNameKnown, IsNameMade, IsNameNew, IsRequest, IsScript, MakesName, MayFollow}
use Rattle.cb_script.proofs.PublicLaws.{AreLines-push, made_before, made_cases, made_here}
use Rattle.cb_gen.specs.Draws.{drawn, state_after}
use Rattle.cb_gen.specs.Drawn.{drawn_config, drawn_lines, length_made, lengths_of, made_script, object_name}
use Rattle.cb_gen.proofs.Drawing.{drawn_low}
use Rattle.cb_gen.proofs.RequestKinds.{IsKind, kind_of}
use Rattle.cb_gen.proofs.RequestKinds.IsKind.{makes, reads, writes, frees, filters, evicts, crashes, joins, rebuilds, compacts}
use Rattle.cb_gen.proofs.ObjectNames.{is_object_name, one_object}

-- What holds of the lines so far: each may stand where it stands, and a lane's objects are named
-- by their numbers.
pub record AreDrawn (lines : List Line) : Type 0 where
  pub are : AreLines 8 [] lines
  pub made : (lane : ℕ) (name : List ℕ) → IsNameMade lines lane name
      → (object : ℕ) × (lane ≤ 15) × (object < length (lengths_of lines lane)) ×
      (name ≡ object_name lane object)
  pub named : (lane object : ℕ) → object < length (lengths_of lines lane)
      → IsNameMade lines lane (object_name lane object)
  pub few : (lane : ℕ) → length (lengths_of lines lane) ≤ length lines
  pub short : (lane : ℕ) → All (λ len. len ≤ 120) (lengths_of lines lane)

-- the lengths with one line more
pub lengths_more : (lines : List Line) (l : Line) (lane : ℕ)
    → lengths_of (lines ++ l ∷ []) lane ≡ lengths_of lines lane ++ cond (l.lane.n == lane)
    (length_made l.request) []
lengths_more lines l lane =
    flat_map-append (λ (m : Line). cond (m.lane.n == lane) (length_made m.request) []) lines
    (l ∷ [])
    ∙ ap (λ (more : List ℕ). lengths_of lines lane ++ more) (append-nil
    (cond (l.lane.n == lane) (length_made l.request) []))

-- at most one length is made, by what P says, and it is short
abbrev IsOneAtMost : Type 0 → List ℕ → Type 0
IsOneAtMost P lengths = (length lengths ≤ 1) × (0 < length lengths → P) × All
    (λ len. len ≤ 120) lengths

nothing : (P : Type 0) → IsOneAtMost P []
nothing P = (
  omega arith,
  (λ some. absurd (omega (arith, some))),
  λ k d within. absurd
      (omega (arith, within)),
)

one_short : (len : ℕ) → len ≤ 120 → All (λ n. n ≤ 120) (len ∷ [])
one_short len short zero d within = short
one_short len short (suc k) d within = absurd (omega (arith, within))

module _ (lane : ℕ) (lengths : List ℕ) where
  -- what a drawn request makes
  made_name : (r : Request) → IsKind lane lengths r → (name : List ℕ) → MakesName r name
      → (name ≡ object_name lane (length lengths)) × (length (length_made r) ≡ 1)
  made_name _ (makes bytes some few each) name is = (sym is, refl)
  made_name _ (reads object within) name is = absurd is
  made_name _ (writes object at bytes within low few each) name is = absurd is
  made_name _ (frees object within) name is = absurd is
  made_name _ (filters object within) name is = absurd is
  made_name _ evicts name is = absurd is
  made_name _ (crashes node low) name is = absurd is
  made_name _ (joins node low) name is = absurd is
  made_name _ rebuilds name is = absurd is
  made_name _ compacts name is = absurd is

  made_one : (r : Request) → IsKind lane lengths r
      → IsOneAtMost (MakesName r (object_name lane (length lengths))) (length_made r)
  made_one _ (makes bytes some few each) = (
    omega arith,
    (λ more. refl),
    one_short
        (length bytes) few,
  )
  made_one _ (reads object within) = nothing ⊥
  made_one _ (writes object at bytes within low few each) = nothing ⊥
  made_one _ (frees object within) = nothing ⊥
  made_one _ (filters object within) = nothing ⊥
  made_one _ evicts = nothing ⊥
  made_one _ (crashes node low) = nothing ⊥
  made_one _ (joins node low) = nothing ⊥
  made_one _ rebuilds = nothing ⊥
  made_one _ compacts = nothing ⊥

module _ (lines : List Line) (so_far : AreDrawn lines) (few : length lines < 4000) (lane : ℕ)
    (some : 1 ≤ lane) (low : lane ≤ 15) where
  abbrev lengths : List ℕ
  lengths = lengths_of lines lane

  count : length lengths < 4000
  count = omega (arith, so_far.few lane, few)

  is_name : (object : ℕ) → object < length lengths → IsName (object_name lane object)
  is_name object within = is_object_name lane object low (omega (arith, within, count))

  requested : (r : Request) → IsKind lane lengths r → IsRequest 8 r
  requested _ (makes bytes one few each) = (
    is_object_name lane (length lengths) low
        (omega (arith, count)),
    record { some = one; few = omega (arith, few); each = each },
  )
  requested _ (reads object within) = is_name object within
  requested _ (writes object at bytes within at_low few each) =
      (is_name object within, at_low, record { few = few; each = each })
  requested _ (frees object within) = is_name object within
  requested _ (filters object within) = is_name object within
  requested _ evicts = tt
  requested _ (crashes node two) = omega (arith, two)
  requested _ (joins node two) = omega (arith, two)
  requested _ rebuilds = tt
  requested _ compacts = tt

  is_new : IsNameNew lines (object_name lane (length lengths))
  is_new other made =
      let m = so_far.made other (object_name lane (length lengths)) made in
      let few_there : length (lengths_of lines other) < 4000 =
      omega (arith, so_far.few other, few) in
      let same =
      one_object lane other (length lengths) m.0 (omega (arith, low)) (omega (arith, m.1)) (omega (arith, count)) (omega (arith, m.2, few_there)) m.3 in
      let there : length lengths ≡ length (lengths_of lines other) =
      ap (λ (n : ℕ). length (lengths_of lines n)) same.0 in
      omega (arith, m.2, there, same.1)

  known : (r : Request) → IsKind lane lengths r → IsNameKnown lines lane r
  known _ (makes bytes one few each) = is_new
  known _ (reads object within) = inl (so_far.named lane object within)
  known _ (writes object at bytes within at_low few each) = inl (so_far.named lane object within)
  known _ (frees object within) = inl (so_far.named lane object within)
  known _ (filters object within) = inl (so_far.named lane object within)
  known _ evicts = tt
  known _ (crashes node two) = tt
  known _ (joins node two) = tt
  known _ rebuilds = tt
  known _ compacts = tt

  module _ (r : Request) (kind : IsKind lane lengths r) where
    abbrev line : Line
    line = record { lane = record { n = lane }; line = length lines + 2; request = r }

    abbrev more : List Line
    more = lines ++ line ∷ []

    follows : MayFollow 8 lines line
    follows = record {
      lane = record { low = low; first = λ e. absurd (omega (arith, e, some)) };
      line = refl;
      request = requested r kind;
      known = known r kind;
    }

    here : lengths_of more lane ≡ lengths ++ length_made r
    here = lengths_more lines line lane
        ∙ ap (λ (b : Bool). lengths ++ cond b (length_made r) []) (eq-eqb lane lane refl)

    here_count : length (lengths_of more lane) ≡ length lengths + length (length_made r)
    here_count = ap length here ∙ length-append lengths (length_made r)

    elsewhere : (other : ℕ) → (lane == other) ≡ false
        → lengths_of more other ≡ lengths_of lines other
    elsewhere other differs = lengths_more lines line other
        ∙ ap (λ (b : Bool). lengths_of lines other ++ cond b (length_made r) []) differs
        ∙ append-nil (lengths_of lines other)

    at_most : IsOneAtMost (MakesName r (object_name lane (length lengths))) (length_made r)
    at_most = made_one lane lengths r kind

    -- each lane has at most one more
    added : (b : Bool) → IsOneAtMost (Unit {0}) (cond b (length_made r) [])
    added true = (at_most.0, (λ some. tt), at_most.2)
    added false = nothing (Unit {0})

    more_count : (other : ℕ)
        → length (lengths_of more other) ≡ length (lengths_of lines other) + length (cond
        (lane == other) (length_made r) [])
    more_count other = ap length (lengths_more lines line other)
        ∙ length-append (lengths_of lines other) (cond (lane == other) (length_made r) [])

    made_then : (other : ℕ) (name : List ℕ) → IsNameMade more other name
        → (object : ℕ) × (other ≤ 15) × (object < length (lengths_of more other)) ×
        (name ≡ object_name other object)
    made_then other name is = elim (made_cases lines line other name is) [
      | inl earlier ↦
          let m = so_far.made other name earlier in
          (m.0, m.1, omega (arith, m.2, more_count other), m.3)
      | inr here_made ↦
          let named = made_name lane lengths r kind name here_made.1 in
          subst (λ (n : ℕ). (object : ℕ) × (n ≤ 15) × (object < length (lengths_of more n)) ×
          (name ≡ object_name n object)) here_made.0
          (length lengths, low, omega (arith, here_count, named.1), named.0)
    ]

    named_here : (object : ℕ) → object < length (lengths_of more lane)
        → IsNameMade more lane (object_name lane object)
    named_here object within = elim (cases_Bool (nat_lt object (length lengths))) [
      | inl earlier ↦ made_before lines line lane (object_name lane object)
          (so_far.named lane object (ltb-true object (length lengths) earlier))
      | inr later ↦
          let past : length lengths ≤ object = ltb-false object (length lengths) later in
          let last : length lengths ≡ object = omega (arith, past, within, here_count, at_most.0) in
          let makes_it : MakesName r (object_name lane (length lengths)) =
          at_most.1 (omega (arith, past, within, here_count)) in
          subst (λ (n : ℕ). IsNameMade more lane (object_name lane n)) last (made_here lines line
          (object_name lane (length lengths)) makes_it)
    ]

    named_then : (other object : ℕ) → object < length (lengths_of more other)
        → IsNameMade more other (object_name other object)
    named_then other object within = elim (cases_Bool (lane == other)) [
      | inl same ↦
          let e : lane ≡ other = eqb-true lane other same in
          subst (λ (n : ℕ). object < length (lengths_of more n) → IsNameMade more n
          (object_name n object)) e (named_here object) within
      | inr differs ↦
          let before : object < length (lengths_of lines other) =
          omega (arith, within, ap length (elsewhere other differs)) in
          made_before lines line other (object_name other object) (so_far.named other object before)
    ]

    pub drawn_then : AreDrawn more
    drawn_then = record {
      are = AreLines-push 8 [] lines line so_far.are follows;
      made = made_then;
      named = named_then;
      few = λ other. omega (
        arith,
        so_far.few other,
        more_count other,
        (added (lane == other)).0,
        length-append lines (line ∷ []),
      );
      short = λ other.
          subst (All (λ len. len ≤ 120)) (sym (lengths_more lines line other)) (All-append
          (λ len. len ≤ 120) (lengths_of lines other) _ (so_far.short other) (added
          (lane == other)).2);
    }

nothing_drawn : AreDrawn []
nothing_drawn = record {
  are = tt;
  made = λ lane name is. absurd is;
  named = λ lane object within. absurd (omega (arith, within));
  few = λ lane. omega arith;
  short = λ lane k d within. absurd (omega (arith, within));
}

pub drawn_all : (seed lanes n : ℕ) → n ≤ 4000 → 1 ≤ lanes → lanes ≤ 15
    → AreDrawn (drawn_lines seed lanes n).lines × (length (drawn_lines seed lanes n).lines ≡ n)
drawn_all seed lanes zero few some low = (nothing_drawn, refl)
drawn_all seed lanes (suc n) few some low =
    let before = drawn_all seed lanes n (omega (arith, few)) some low in
    let d = drawn_lines seed lanes n in
    let lane = 1 + drawn d.left 0 lanes in
    let lane_low : lane ≤ 15 = omega (arith, drawn_low d.left 0 lanes some, low) in
    let kind =
    kind_of (drawn d.left 1 16) (state_after d.left 2) lane (lengths_of d.lines lane) (before.0.short lane) in (
      drawn_then d.lines before.0 (omega (arith, few, before.1)) lane (omega arith) lane_low _ kind,
      length-append d.lines _ ∙ omega (arith, before.1),
    )

accepted : IsAccepted drawn_config
accepted field.K = (omega arith, omega arith)
accepted field.R = (omega arith, omega arith)
accepted field.Nodes = (omega arith, omega arith)
accepted field.Frames = (omega arith, omega arith)
accepted field.Room = (omega arith, omega arith)
accepted field.Handles = (omega arith, omega arith)
accepted field.Turns = omega arith

-- each drawn script is in the grammar
pub made_is_script : (seed lines lanes : ℕ) → lines ≤ 4000 → 1 ≤ lanes → lanes ≤ 15
    → IsScript (made_script seed lines lanes)
made_is_script seed lines lanes few some low =
    let all = drawn_all seed lanes lines few some low in
    record { config = accepted; few = omega (arith, all.1, few); lines = all.0.are }
