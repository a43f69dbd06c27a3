-- The objects of a live position wait in the row, and a run of free frames is vacant.
use Rattle.std.proofs.Common.{◌≡◌, ◌⊎◌, ℕ, ◌+◌, ◌*◌, ◌<◌, ◌≤◌, false, true, List, Option, Some, None, length, sym, ap, ◌∙◌, subst, arith, inl, inr}
use Rattle.std.proofs.lemmas.Bool.{cases_lt}
use Rattle.std.proofs.lemmas.List.{get_or_past}
use Rattle.cb_class.specs.declared.class.Class.{Class}
use Rattle.cb_class.specs.Class.{IsClassOf, pages_of, words_of}
use Rattle.cb_class.proofs.Laws.{pages_and_slots_tell_class, pages_some}
use Rattle.cb_frame.specs.FreeFrames.{with_run_taken}
use Rattle.cb_frame.specs.Runs.{least_run}
use Rattle.cb_frame.proofs.Laws.{least_run-Some}
use Rattle.cb_gf256.specs.Rows.{row_at}
use Rattle.cb_set.specs.SetState.{SetState, live_at, position_of}
use Rattle.cb_span.specs.Contents.{Contents}
use Rattle.cb_world.specs.declared.homes.Home.{Home}
use Rattle.cb_world.specs.declared.object.Object.{Object}
use Rattle.cb_world.specs.declared.object.Object.TheVariants as is
use Rattle.cb_world.specs.declared.shown.Shown.{Shown}
use Rattle.cb_world.specs.Memory.{window, words_for}
use Rattle.cb_world.specs.FrameWords.{LiesInRun}
use Rattle.cb_world.specs.RowWords.{words_in}
use Rattle.cb_world.specs.Shown.{Covers, object_at, version_at, never}
use Rattle.cb_world.specs.Sets.{set_in}
use Rattle.cb_world.specs.Homes.{home_at}
use Rattle.cb_world.specs.SetWord.{is_broken}
use Rattle.cb_world.specs.FarState.{FarState, span_in}
use Rattle.cb_world.specs.LocalSound.{AreFrames, LocalSound, IsStamped}
use Rattle.cb_world.specs.FarSound.{AwaySound}
use Rattle.cb_world.specs.Sound.{Sound}
use Rattle.cb_world.proofs.Laws.{MayStand, avoids, none_at_free, slot_inside, stands_where_free}
use Rattle.cb_swapin.specs.Named.{NamesHandle, IsNamed, NamesApart}
use Rattle.cb_swapin.specs.Waiting.{AreWaiting, IsRunVacant, WaitsInRow}
use Rattle.cb_swapin.specs.Fetching.{IsFetched}

-- What is known where a live position of a committed set can be swapped in.
pub record CanArrive (s : Shown) (far : FarState) (id p : ℕ) (set : SetState) (f : ℕ)
    (span : Contents) (row : List ℕ) : Type 0 where
  pub sound : Sound s far
  pub there : set_in far.sets id ≡ Some set
  pub live : live_at set p ≡ true
  pub whole : is_broken far.members set ≡ false
  pub least : least_run far.frames (pages_of span.class) ≡ Some f
  pub flags : length s.hots ≡ length s.objects
  pub fetched : IsFetched far set p span row

some_none : {X : Type 0} (o : Option X) (x : X) → o ≡ None → o ≡ Some x → ⊥
some_none o x e f = cc

-- ---- the frames
-- a span of so many pages may stand where so many frames are free, and none stands there
pub record IsRoom (far : FarState) (f pages : ℕ) : Type 0 where
  pub stands : MayStand far f pages (with_run_taken far.frames f pages)
  pub none : span_in far.spans f ≡ None

pub free_run : (far : FarState) (f pages : ℕ) → AreFrames far → 1 ≤ pages
    → least_run far.frames pages ≡ Some f → IsRoom far f pages
free_run far f pages frames some least =
    let run = least_run-Some far.frames pages f least some in record {
      stands = stands_where_free far f pages frames some run.0 run.1;
      none = none_at_free far f frames (run.1 f (omega arith) (omega (arith, some)));
    }

-- no other span has one of these frames
pub other_run : (far : FarState) (f pages g : ℕ) (c : Contents) → IsRoom far f pages
    → span_in far.spans g ≡ Some c → (g + pages_of c.class ≤ f) ⊎ (f + pages ≤ g)
other_run far f pages g c room there = room.stands.apart g c there
    (λ same. some_none (span_in far.spans f) c room.none
    (ap (span_in far.spans) (sym same) ∙ there))

pub vacant : (s : Shown) (far : FarState) (f pages : ℕ) → LocalSound s far → IsRoom far f pages
    → IsRunVacant s f pages
vacant s far f pages sound room = record {
  within = (let m = sound.placed.memory in omega (arith, m, room.stands.within));
  none = λ p h inside. avoids (object_at s h) p (λ len place lies covers.
      let c = sound.placed.placed h len place lies in
      let x = slot_inside far s h len place sound c in
      beside p place len c.frame (pages_of c.span.class)
      (other_run far f pages c.frame c.span room c.there) x.0 x.1 inside covers);
}
  where
    beside : (p place len g n : ℕ) → (g + n ≤ f) ⊎ (f + pages ≤ g) → 512 * g ≤ place
        → place + words_for len ≤ 512 * (g + n) → LiesInRun f pages p → Covers place len p → ⊥
    beside p place len g n (inl less) start end inside covers =
        omega (arith, less, start, end, inside.0, inside.1, covers.0, covers.1)
    beside p place len g n (inr more) start end inside covers =
        omega (arith, more, start, end, inside.0, inside.1, covers.0, covers.1)

-- where the span of a live position arrives
pub arrives_in : (s : Shown) (far : FarState) (id p : ℕ) (set : SetState) (f : ℕ)
    (span : Contents) (row : List ℕ) → CanArrive s far id p set f span row
    → IsRoom far f (pages_of span.class)
arrives_in s far id p set f span row x = free_run far f (pages_of span.class) x.sound.here.frames
    (pages_some span.class x.fetched.valid.in_table) x.least

-- ---- the objects
far_known : (s : Shown) (h len v : ℕ) (words : List ℕ) → object_at s h ≡ is.Far len v words
    → h < length s.objects
far_known s h len v words e = elim (cases_lt h (length s.objects)) [
  | inl within ↦ within
  | inr past ↦ absurd (never_far (sym (get_or_past s.objects h never past) ∙ e))
]
  where
    never_far : never ≡ is.Far len v words → ⊥
    never_far e = cc

pub named_waits : (s : Shown) (far : FarState) (id p : ℕ) (set : SetState) (f : ℕ)
    (span : Contents) (row : List ℕ) → CanArrive s far id p set f span row → (slot h : ℕ)
    → NamesHandle span.slots slot h → WaitsInRow s span.class row slot h
named_waits s far id p set f span row x slot h named =
    let w = x.sound.away.sound.sets.worded id set x.there in
    let y = w.1.holds p slot h
    (subst (λ (l : List (Option ℕ)). NamesHandle l slot h) x.fetched.slots
    named) in
    let class : y.class ≡ span.class = pages_and_slots_tell_class y.class span.class
    y.fits.in_table x.fetched.valid.in_table (sym y.paged ∙ sym x.fetched.pages)
    (sym y.sized ∙ ap length (sym x.fetched.slots) ∙ x.fetched.valid.sized) in
    let same : row_at w.0 p ≡ row = sym (x.fetched.row_of w.0 w.1.word) in
    let known = far_known s h y.len y.version y.words y.away in record {
      len = y.len;
      version = y.version;
      words = y.words;
      away = y.away;
      fits = subst (IsClassOf y.len) class y.fits;
      stamp = subst (λ (o : Object). IsStamped o (version_at s h)) y.away
          (x.sound.here.known.stamped h);
      contents = y.contents
          ∙ ap (λ (r : List ℕ). window (words_in r) (slot * words_of y.class) (words_for y.len)) same
          ∙ ap (λ (c : Class). window (words_in row) (slot * words_of c) (words_for y.len)) class;
      handle = known;
      flag = (let n = x.flags in omega (arith, n, known));
    }

pub waiting : (s : Shown) (far : FarState) (id p : ℕ) (set : SetState) (f : ℕ) (span : Contents)
    (row : List ℕ) → CanArrive s far id p set f span row
    → AreWaiting s f span.class span.slots row
waiting s far id p set f span row x = record {
  vacant = vacant s far f (pages_of span.class) x.sound.here
      (arrives_in s far id p set f span row x);
  each = named_waits s far id p set f span row x;
}

-- ---- the homes
pub home_named : (s : Shown) (far : FarState) (id p : ℕ) (set : SetState) (slots : List (Option ℕ))
    → AwaySound s far → set_in far.sets id ≡ Some set → slots ≡ (position_of set p).slots
    → (slot h : ℕ) → NamesHandle slots slot h
    → home_at far.homes h ≡ Some (record { set = id; position = p; slot = slot })
home_named s far id p set slots sound there same slot h named =
    sound.away.named id p slot h set there
    (subst (λ (l : List (Option ℕ)). NamesHandle l slot h) same named)

pub names_apart : (s : Shown) (far : FarState) (id p : ℕ) (set : SetState)
    (slots : List (Option ℕ)) → AwaySound s far → set_in far.sets id ≡ Some set
    → slots ≡ (position_of set p).slots → NamesApart slots
names_apart s far id p set slots sound there same a b h at_a at_b =
    ap (λ (k : Home). k.slot) (home_same _ _ (sym (home_named s far id p set slots sound there same
    a h at_a) ∙ home_named s far id p set slots sound there same b h at_b))
  where
    home_same : (x y : Home) → Some x ≡ Some y → x ≡ y
    home_same x y e = cc

pub homes_within : (s : Shown) (far : FarState) (id p : ℕ) (set : SetState)
    (slots : List (Option ℕ)) → AwaySound s far → set_in far.sets id ≡ Some set
    → slots ≡ (position_of set p).slots → (h : ℕ) → IsNamed slots h → h < length far.homes
homes_within s far id p set slots sound there same h is =
    elim (cases_lt h (length far.homes)) [
      | inl within ↦ within
      | inr past ↦ absurd (some_none (home_at far.homes h) _ (get_or_past far.homes h None past)
          (home_named s far id p set slots sound there same is.0 h is.1))
    ]
