-- Between the lines of a script at ease every turn is easy.
use Rattle.std.proofs.Common.{◌≡◌, ◌⊎◌, ℕ, zero, suc, ◌+◌, ◌*◌, ◌<◌, ◌≤◌, Bool, true, false, List}
use Rattle.std.proofs.Common.{[], ◌∷◌, length, map, take, get_or, filter, Contains, refl, sym, ap}
use Rattle.std.proofs.Common.{◌∙◌, subst, arith, inl, inr, eqb-true, if◌then◌else◌, length-take}
use Rattle.std.proofs.Common.{None, Some}
use Rattle.std.specs.List.{range_with_len, sum_by}
use Rattle.std.specs.Prelude.{slice_index}
use Rattle.std.proofs.lemmas.Bool.{cases_Bool, cases_lt, false≢true, ltb-false}
use Rattle.std.proofs.lemmas.List.{length-map}
use Rattle.std.proofs.lemmas.List.Folds.{list_any_at}
use Rattle.std.proofs.lemmas.List.FromFn.{get_or-range_with_len, length-range_with_len}
use Rattle.std.proofs.lemmas.List.Sums.{length-filter}
use Rattle.cb_types.specs.declared.answer.Answer.{Answer}
use Rattle.cb_types.specs.declared.config.Config.{Config}
use Rattle.cb_types.specs.declared.job.Job.{Job}
use Rattle.cb_types.specs.declared.reply.Reply.TheVariants as answer
use Rattle.cb_types.specs.declared.request.Request.{Request}
use Rattle.cb_types.specs.declared.request.Request.TheVariants.{Crash, Make}
use Rattle.cb_class.specs.declared.class.Class.{Class}
use Rattle.cb_class.specs.Class.{IsClass, pages_of}
use Rattle.cb_class.proofs.Laws.{pages_few, pages_some}
use Rattle.cb_frame.specs.Runs.{least_run}
use Rattle.cb_model.specs.Called.{calls_of, value}
use Rattle.cb_script.specs.declared.script.Line.{Line}
use Rattle.cb_script.specs.declared.script.Script.{Script}
use Rattle.cb_script.specs.Form.{IsRequest, IsScript}
use Rattle.cb_script.specs.Roomy.{IsAtEase, crashing, has_crash, has_pin, is_crash, is_make}
use Rattle.cb_script.specs.Roomy.{has_long_make, is_long_make, is_step, makes_in, page_bytes}
use Rattle.cb_script.specs.Roomy.{pinning}
use Rattle.cb_world.specs.Codes.{HaveCodes, IsConfiguredCode}
use Rattle.cb_world.specs.declared.seats.SeatPin.{SeatPin}
use Rattle.cb_world.specs.Seats.{SeatState, idle_seat, pins_of_seat}
use Rattle.cb_world.specs.World.{WorldState}
use Rattle.cb_world.specs.Plain.{Words}
use Rattle.cb_world.specs.Sets.{set_in}
use Rattle.cb_world.proofs.Laws.{codes_stay, have_codes}
use Rattle.cb_evict.specs.declared.eviction.Eviction.TheVariants.{Set}
use Rattle.cb_evict.specs.EvictStep.{loose_frames}
use Rattle.cb_evict.specs.Lengths.{most_loose}
use Rattle.cb_evict.proofs.Laws.{evict_keeps, evict_leaving, evict_step_codes}
use Rattle.cb_core.specs.Narrow.{IsNarrow}
use Rattle.cb_core.specs.Parts.{Holding}
use Rattle.cb_core.specs.Turned.{counted, once_counted}
use Rattle.cb_core.proofs.Laws.{CrashedAmong, IsGood, IsIdle, KeepsEasy, MakesEasy, counted_good}
use Rattle.cb_core.proofs.Laws.{enough_roomy, evict_step_narrow, held, narrow_configured}
use Rattle.cb_core.proofs.Laws.{narrow_stays, never_gone, room_good, short_page}
use Rattle.cb_lanes.specs.declared.side.Side.{Side}
use Rattle.cb_lanes.specs.Asked.{asked}
use Rattle.cb_lanes.specs.GivingBack.{lines_by}
use Rattle.cb_lanes.specs.Names.{KeptNames, kept_number}
use Rattle.cb_lanes.specs.Scopes.{Scope}
use Rattle.cb_lanes.proofs.AloneLines.{any_at, count_front, makes_few, scope_none}
use Rattle.cb_lanes.proofs.Along.{Along}
use Rattle.cb_lanes.proofs.CalmLines.{LineMakesWithin}
use Rattle.cb_lanes.proofs.EasyLines.{IsEasyLine, IsIdleAmong}
use Rattle.cb_lanes.proofs.FewPins.{pins_few}
use Rattle.cb_lanes.proofs.LooseSpans.{frames_by_lengths, frames_narrow, never_moving}
use Rattle.cb_lanes.proofs.PinLists.{ArePinsOf}
use Rattle.cb_lanes.proofs.Stamps.{stamp_had, version_had}

-- the nodes that crash lines name
abbrev pub crashed_nodes : Script → List ℕ
crashed_nodes s = filter (has_crash s.lines) (range_with_len 0 s.config.nodes)

-- ---- a line is easy

contains_more : (p : ℕ → Bool) (xs : List ℕ) (k n : ℕ) → k < length xs → get_or xs k n ≡ n
    → p n ≡ true
    → Contains (filter p xs) n
contains_more p [] k n below at pass = absurd (omega (arith, below))
contains_more p (x ∷ xs) zero n below at pass =
    subst (λ (b : Bool). Contains (if b then x ∷ filter p xs else filter p xs) n)
    (sym (ap p at ∙ pass))
    (0, omega arith, at)
contains_more p (x ∷ xs) (suc k) n below at pass =
    by (contains_more p xs k n (omega (arith, below)) at pass) (cases_Bool (p x))
  where
    by : Contains (filter p xs) n → (p x ≡ true) ⊎ (p x ≡ false) → Contains (filter p (x ∷ xs)) n
    by c (inl e) = subst (λ (b : Bool). Contains (if b then x ∷ filter p xs else filter p xs) n)
        (sym e)
        (suc c.0, (let lt = c.1 in omega (arith, lt)), c.2)
    by c (inr e) = subst (λ (b : Bool). Contains (if b then x ∷ filter p xs else filter p xs) n)
        (sym e) c

pub crash_below : (nodes n : ℕ) (request : Request) → IsRequest nodes request
    → is_crash n request ≡ true
    → n < nodes
crash_below nodes n (Crash node) is e = let same = eqb-true n node.n e in omega (arith, is, same)
crash_below nodes n request is e = absurd (false≢true e)

-- one of the nodes that there are, which a crash line names
pub crash_named : (s : Script) (n : ℕ) → n < s.config.nodes → has_crash s.lines n ≡ true
    → Contains (crashed_nodes s) n
crash_named s n below named =
    let zero_ : 0 + n ≡ n = omega arith in
    contains_more (has_crash s.lines) (range_with_len 0 s.config.nodes) n n
    (omega (arith, below, length-range_with_len 0 s.config.nodes))
    (get_or-range_with_len 0 s.config.nodes n n below ∙ zero_) named

pub crashed_count : (s : Script) → length (crashed_nodes s) ≡ crashing s.config.nodes s.lines
crashed_count s = length-filter (has_crash s.lines) (range_with_len 0 s.config.nodes)

pub easy_line : (s : Script) (i : ℕ) (l : Line) → IsAtEase s → i < length s.lines
    → l ≡ get_or s.lines i l
    → IsRequest s.config.nodes l.request → IsEasyLine (crashed_nodes s) l.request
easy_line s i l ease lt at is = record {
  step = any_at (λ (x : Line). is_step x.request) s.lines i l ease.steps lt at;
  crash = λ n e. crash_named s n (crash_below s.config.nodes n l.request is e)
      (list_any_at (λ (x : Line). is_crash n x.request) s.lines i l lt
      (ap (λ (x : Line). is_crash n x.request) (sym at) ∙ e));
}

-- the most pages of a span that a line may ask for: of any class where an object is long
abbrev pages_with : Bool → ℕ
pages_with has_long = if has_long then 4 else 1

abbrev pub most_pages : Script → ℕ
most_pages s = pages_with (has_long_make s.lines)

request_within : (has_long : Bool) (request : Request)
    → (has_long ≡ false → is_long_make request ≡ false)
    → LineMakesWithin (pages_with has_long) request
request_within true (Make name bytes) short = λ class fits. pages_few class fits.in_table
request_within false (Make name bytes) short = λ class fits.
    let few = ltb-false page_bytes (length bytes) (short refl) in
    let one = short_page (length bytes) class few fits in omega (arith, one)
request_within has_long request short = tt

pub line_within : (s : Script) (i : ℕ) (l : Line) → i < length s.lines → l ≡ get_or s.lines i l
    → LineMakesWithin (most_pages s) l.request
line_within s i l lt at = request_within (has_long_make s.lines) l.request
    (λ none. any_at (λ (x : Line). is_long_make x.request) s.lines i l none lt at)

-- ---- and so are the worlds between lines

-- What stands between two lines, and behind each eviction of a turn: all is known, no batch is
-- leaving and no pair is joining, no other nodes have crashed, all codes are the configured one,
-- spans and sets have one page where no object is long, and as many handles were made and the
-- version words are as in this world.
pub record IsLikeWorld (s : Script) (w : WorldState) (a : Holding Words) : Type 0 where
  pub good : IsGood w.desk.settings w.seats a
  pub idle : IsIdle a.far
  pub crashed : CrashedAmong (crashed_nodes s) a.far.members
  pub codes : HaveCodes (IsConfiguredCode s.config) a.far
  pub narrow : has_long_make s.lines ≡ false → IsNarrow a.far
  pub made : a.far.made ≡ w.far.made
  pub versions : a.desk.versions ≡ w.desk.versions

module _ (side : Side) (s : Script) (i : ℕ) (later : List ℕ) (answers : List Answer)
    (w : WorldState) (names : KeptNames)
    (script : IsScript s) (ease : IsAtEase s) (along : Along side s.config later answers w names)
    (so_far : map asked answers ≡ take i s.lines) where
  -- a lane without a pin line has no pins
  no_pins : (k : ℕ) → has_pin s.lines k ≡ false → pins_of_seat w.seats k ≡ []
  no_pins k off = by (cases_lt 0 (lines_by k later))
    where
      by : (0 < lines_by k later) ⊎ (lines_by k later ≤ 0) → pins_of_seat w.seats k ≡ []
      by (inl more) = subst (λ (scope : Scope). ArePinsOf (kept_number names) scope
          (pins_of_seat w.seats k))
          (scope_none s.lines i k answers so_far off) (along.scopes.are k (omega (arith, more)))
      by (inr none) = along.scopes.gone k (omega (arith, none))

  few_at : (k : ℕ) → k < length w.seats → (b : Bool) → has_pin s.lines k ≡ b
      → length (pins_of_seat w.seats k) ≤ 16 * (if b then 1 else 0)
  few_at k below true e = let most = along.sound.pinned.few k idle_seat below in omega (arith, most)
  few_at k below false e =
      let none = ap (λ (ps : List SeatPin). length ps) (no_pins k e) in omega (arith, none)

  few_pins : sum_by (λ (seat : SeatState). length seat.pins) w.seats
      ≤ 16 * pinning s.lines
  few_pins = pins_few 16 0 (has_pin s.lines) w.seats idle_seat (record {
    few = λ k low below.
        let zero_ : k ≡ 0 + k = omega arith in
        subst (λ (j : ℕ). length (pins_of_seat w.seats k) ≤ 16 *
        (if has_pin s.lines j then 1 else 0)) zero_
        (few_at k below (has_pin s.lines k) refl);
    none = λ k high below. ap (λ (ps : List SeatPin). length ps)
        (along.scopes.gone k (along.scopes.low k high));
  })

  -- there were no more makes than lines that make
  pub few_made : w.far.made ≤ makes_in (take i s.lines)
  few_made = let made = along.beside.made in let few = makes_few [] answers in
      let same = ap makes_in so_far in omega (arith, made, few, same)

  pub few_answers : length answers ≤ 20000
  few_answers = let most = script.few in
      omega (
        arith,
        ap (λ (ls : List Line). length ls) so_far,
        length-take i s.lines,
        length-map
            answers asked,
        most,
      )

  -- ---- at each holding of a turn's parts that evictions lead to
  module _ (rest : IsIdleAmong (crashed_nodes s) w) (codes : HaveCodes (IsConfiguredCode s.config)
      w.far)
      (narrow : has_long_make s.lines ≡ false → IsNarrow w.far)
      (young : (h : ℕ) → version_had (value (calls_of answers) h) ≤ length answers) where
    few_pages : (a : Holding Words) → IsLikeWorld s w a → (has_long : Bool)
        → has_long_make s.lines ≡ has_long → (id : ℕ) (set : _)
        → set_in a.far.sets id ≡ Some set → set.pages ≤ pages_with has_long
    few_pages a x true e id set there =
        (x.good.known.sound.away.sound.sets.shaped id set there).pages
    few_pages a x false e id set there =
        let one = (x.narrow e).sets id set there in omega (arith, one)

    -- so many frames are not left for spans of one length alone
    enough_loose : (a : Holding Words) → IsLikeWorld s w a → (has_long : Bool)
        → has_long_make s.lines ≡ has_long → (class : Class) → IsClass class
        → pages_of class ≤ pages_with has_long → least_run a.far.frames (pages_of class) ≡ None
        → a.far.code.k ≤ most_loose a.far.spans (loose_frames a.desk a.far)
    enough_loose a x true e class in_table few full =
        let good = x.good in
        let all = frames_by_lengths a.desk a.far good.shown w.seats good.known good.pinned
        good.ongoing rest.claims x.idle.0 class in_table full in
        let frames = good.configured.frames in let sized = good.known.sound.here.frames.sized in
        let pins = few_pins in let enough = ease.wide e in let k = x.codes.force.0 in
        let same = ap (λ (c : Config). c.frames) along.settings in
        omega (arith, all, frames, sized, pins, enough, k, same)
    enough_loose a x false e class in_table few full =
        let good = x.good in
        let one : pages_of class ≡ 1 =
        let some = pages_some class in_table in omega (arith, few, some) in
        let all = frames_narrow a.desk a.far good.shown w.seats good.known good.pinned
        good.ongoing rest.claims x.idle.0 (x.narrow e).spans
        (subst (λ (p : ℕ). least_run a.far.frames p ≡ None) one full) in
        let frames = good.configured.frames in let sized = good.known.sound.here.frames.sized in
        let pins = few_pins in let enough = ease.frames in let k = x.codes.force.0 in
        let same = ap (λ (c : Config). c.frames) along.settings in
        omega (arith, all, frames, sized, pins, enough, k, same)

    easy_at : (a : Holding Words) → IsLikeWorld s w a → MakesEasy (most_pages s) a.desk a.far
    easy_at a x = let good = x.good in record {
      still = λ h below moves.
          never_moving a.desk a.far w.seats h good.ongoing rest.claims x.idle.0 below moves;
      whole = never_gone s.config good.shown a.far (crashed_nodes s) good.known.sound x.codes
          x.crashed (let few = ease.crashes in omega (arith, crashed_count s, few));
      sets = few_pages a x (has_long_make s.lines) refl;
      spans = enough_loose a x (has_long_make s.lines) refl;
      nodes = enough_roomy w.desk.settings good.shown a.far (crashed_nodes s) good.known.sound
          good.configured x.idle x.crashed
          (let few = few_made in let front = count_front (λ (l : Line). is_make l.request) s.lines
          i in
          let room = ease.room in let same = ap (λ (c : Config). c.room) along.settings in
          let made = x.made in omega (arith, few, front, room, same, made))
          (a.far.code.k + a.far.code.r)
          (let enough = ease.nodes in let k = x.codes.force.0 in let r = x.codes.force.1 in
          let n = ap (λ (c : Config). c.nodes) along.settings in
          omega (arith, crashed_count s, enough, k, r, n));
      stamps = λ h.
          let had = stamp_had w.desk w.far along.sound.shown h along.sound.known
          (value (calls_of answers) h) (along.beside.values h) in
          let same = ap (λ (versions : List ℕ). slice_index versions h) x.versions in
          let most = young h in let few = few_answers in omega (arith, had, same, most, few);
    }

    pub keeps_easy : KeepsEasy (most_pages s) (IsLikeWorld s w)
    keeps_easy = record {
      easy = easy_at;
      kept = λ a b id x step.
          let k = evict_keeps a.desk b.desk a.far b.far (answer.Set id) step.0.step in record {
            good = room_good w.desk.settings w.seats along.sound.config a b (Set id) x.good step;
            idle = (
              evict_leaving a.desk b.desk a.far b.far (answer.Set id) step.0.step ∙ x.idle.0,
              k.far.joining ∙ x.idle.1,
            );
            crashed = subst (CrashedAmong (crashed_nodes s)) (sym k.far.members) x.crashed;
            codes = have_codes (IsConfiguredCode s.config) a.far b.far
                (evict_step_codes a.desk b.desk a.far b.far (answer.Set id) step.0.step) x.codes;
            narrow = λ none. narrow_configured w.desk.settings a.far b.far x.good.configured
                (evict_step_narrow a.desk b.desk a.far b.far (answer.Set id) step.0.step)
                (x.narrow none);
            made = k.far.made ∙ x.made;
            versions = k.words.versions ∙ x.versions;
          };
    }

    -- once a turn is counted
    pub like_counted : (j : Job) → IsLikeWorld s w (once_counted (held w) j)
    like_counted j = record {
      good = counted_good w j along.sound;
      idle = rest.idle;
      crashed = rest.crashed;
      codes = have_codes (IsConfiguredCode s.config) w.far (counted w.far j)
          (codes_stay w.far (counted w.far j) refl refl refl refl) codes;
      narrow = λ none. narrow_configured w.desk.settings w.far (counted w.far j)
          along.sound.configured (narrow_stays w.far (counted w.far j) refl refl refl refl)
          (narrow none);
      made = refl;
      versions = refl;
    }

    pub easy_world : MakesEasy (most_pages s) w.desk w.far
    easy_world = let sound = along.sound in easy_at (held w) (record {
      good = record {
        settings = refl;
        configured = sound.configured;
        shown = sound.shown;
        known = sound.known;
        pinned = sound.pinned;
        ongoing = sound.ongoing;
        orders = sound.orders;
      };
      idle = rest.idle;
      crashed = rest.crashed;
      codes = codes;
      narrow = narrow;
      made = refl;
      versions = refl;
    })
