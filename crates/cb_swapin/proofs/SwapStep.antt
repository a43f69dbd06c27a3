-- A swap-in over a still desk is a step.
use Rattle.std.proofs.Common.{◌≡◌, ℕ, List, [], Some, length, sym, ap, ◌∙◌, subst}
use Rattle.cb_class.specs.declared.class.Class.{Class}
use Rattle.cb_class.proofs.Laws.{pages_and_slots_tell_class}
use Rattle.cb_gf256.specs.Rows.{row_at}
use Rattle.cb_set.specs.SetState.{SetState, position_of}
use Rattle.cb_types.specs.declared.reply.Reply.{Reply}
use Rattle.cb_world.specs.declared.access.Access.{Access}
use Rattle.cb_world.specs.declared.shown.Shown.{Shown}
use Rattle.cb_world.specs.Played.{played}
use Rattle.cb_world.specs.Plain.{Words, Plain}
use Rattle.cb_world.specs.Sets.{set_in}
use Rattle.cb_world.specs.SetWord.{IsWordOf}
use Rattle.cb_world.specs.FarState.{FarState}
use Rattle.cb_world.specs.FarSound.{IsSetWord}
use Rattle.cb_world.specs.Now.{now}
use Rattle.cb_world.specs.World.{IsKnown}
use Rattle.cb_world.proofs.Laws.{IsStepKnown, PerformsStill, RunsStill, runs_still, known_then}
use Rattle.cb_swapin.specs.SwapRule.{BringsFar, BringsRule, IsSwappedTo}
use Rattle.cb_swapin.specs.SwapEffect.{IsSwappedIn, SwapEffect}
use Rattle.cb_swapin.specs.SwapStep.{AreBroughtTo, BringsChange, IsBringStep, IsSwapped}
use Rattle.cb_swapin.proofs.SwapAnswers.{by_answer}
use Rattle.cb_swapin.proofs.SwapWords.{brought_to}

-- how a swap-in's clause reads where its desk is still
abbrev pub PerformsSwap : (SetState → ℕ) → Words → Words → FarState → FarState → ℕ → ℕ → Reply
    → Type 0
PerformsSwap rows x y far new id p r =
    PerformsStill x y far new (BringsRule rows id p far new r) (SwapEffect id p far new r)

set_same : (a b : SetState) → Some a ≡ Some b → a ≡ b
set_same a b e = cc

-- the words and the far state after a position was brought in
swapped : (x y : Words) (far new : FarState) (s : Shown) (es : List Access) (id p : ℕ)
    (set : SetState) (f n : ℕ) → RunsStill x y far s es → set_in far.sets id ≡ Some set
    → IsSwappedTo far new id p set f n → IsSwappedIn id p f far new es s (played es s)
    → IsSwapped x y far new id p set f n
swapped x y far new s es id p set f n runs there state z =
    let same : z.set ≡ set = set_same z.set set (sym z.there ∙ there) in
    let found : (rows : List (List ℕ)) × IsSetWord s far.nodes far.members set rows =
    runs.known.sound.away.sound.sets.worded id set there in
    let row_is : (rows : List (List ℕ)) → IsWordOf far.nodes far.members set rows
    → z.row ≡ row_at rows p = λ rows word. z.of_word rows
    (subst (λ (q : SetState). IsWordOf far.nodes far.members q rows) (sym same) word) in
    let row : z.row ≡ row_at found.0 p = row_is found.0 found.1.word in
    let class : z.class ≡ state.class = pages_and_slots_tell_class z.class state.class
    z.in_table state.in_table (z.paged ∙ ap (λ (q : SetState). q.pages) same ∙ sym state.paged)
    (sym z.sized ∙ ap (λ (q : SetState). length (position_of q p).slots) same ∙ state.sized) in
    record {
      state = state;
      rows = found.0;
      word = found.1.word;
      one_row = λ others word. sym (row_is others word) ∙ row;
      words = subst (λ (l : List ℕ). AreBroughtTo x y (position_of set p).slots state.class f l) row
          (subst (λ (c : Class). AreBroughtTo x y (position_of set p).slots c f z.row) class
          (subst (λ (q : SetState). AreBroughtTo x y (position_of q p).slots z.class f z.row) same
          (brought_to x y far s es (position_of z.set p).slots z.class f z.row runs z.brought)));
    }

-- What a swap-in leaves, by its reply: as its rule and its effect say it, and as a step does.
abbrev Does : ℕ → FarState → FarState → ℕ → ℕ → SetState → List Access → Shown → Reply → Type 0
Does n far new id p set es s q =
    BringsFar n far new id p set es q × SwapEffect id p far new q es s (played es s)

abbrev Leaves : ℕ → Words → Words → FarState → FarState → ℕ → ℕ → SetState → List Access → Shown
    → Reply → Type 0
Leaves n x y far new id p set es s q = BringsChange n x y far new id p set q
    × ((h : ℕ) → now (played es s) new h ≡ now s far h)

-- a refusal leaves every word, and the far state
refused : (x y : Words) (far new : FarState) (s : Shown) (es : List Access) → Plain x es y
    → ((new ≡ far) × (es ≡ [])) × (played es s ≡ s)
    → ((y ≡ x) × (new ≡ far)) × ((h : ℕ) → now (played es s) new h ≡ now s far h)
refused x y far new s es run e = (
  (subst (λ (l : List Access). Plain x l y) e.0.1 run, e.0.0),
  λ h i. now (e.1 i) (e.0.0 i) h,
)

-- Over a still desk of which all is known a swap-in is a step, and all is known of it afterwards.
pub swap_step : {rows : SetState → ℕ} (x y : Words) (far new : FarState) (id p : ℕ) (r : Reply)
    (s : Shown) → PerformsSwap rows x y far new id p r → IsKnown x far s
    → IsBringStep rows x y far new id p r × IsStepKnown y far new s
swap_step {rows = rows} x y far new id p r s op k =
    let es = op.events in
    let runs = runs_still x y far new (BringsRule rows id p far new r) (SwapEffect id p far new r) s k op in
    let set = op.rule.set in let n = rows set in
    let back : Does n far new id p set es s r → Leaves n x y far new id p set es s r =
    subst (λ (q : Reply). Does n far new id p set es s q → Leaves n x y far new id p set es s q)
    (sym op.rule.reply)
    (by_answer (λ (q : Reply). Does n far new id p set es s q → Leaves n x y far new id p set es s q) far
    id set
    (λ broken. refused x y far new s es op.ran.0)
    (λ whole none. refused x y far new s es op.ran.0)
    (λ f whole least e. (
      swapped x y far new s es id p set f n runs op.rule.there e.0.0 e.1,
      e.1.same_now,
    ))) in
    let done = back (op.rule.state, op.effect s ((k.sized, k.shows), k.sound)) in (
      record { set = set; there = op.rule.there; reply = op.rule.reply; change = done.0 },
      record {
        shown = played es s;
        known = known_then x y far new (BringsRule rows id p far new r) (SwapEffect id p far new r) s k op;
        same_now = done.1;
      },
    )
