-- A swap-in leaves the rows of the batch that is leaving: its span comes into free frames.
use Rattle.std.proofs.Common.{◌≡◌, ◌⊎◌, ℕ, ◌+◌, ◌*◌, ◌/◌, ◌<◌, ◌≤◌, true, List, [], length, get_or, Some, None, sym, ap, ◌∙◌, subst, arith, inl, inr}
use Rattle.std.proofs.lemmas.Bool.{cases_lt, false≢true}
use Rattle.std.proofs.lemmas.List.{get_or_past}
use Rattle.std.proofs.lemmas.Option.{same_Some}
use Rattle.cb_class.specs.Class.{pages_of}
use Rattle.cb_class.proofs.Laws.{pages_some}
use Rattle.cb_frame.specs.Runs.{least_run}
use Rattle.cb_frame.proofs.Laws.{least_run-Some}
use Rattle.cb_gf256.specs.Rows.{row_at}
use Rattle.cb_set.specs.SetState.{PositionState, SetState, dead_position, live_at}
use Rattle.cb_span.specs.Contents.{Contents}
use Rattle.cb_member.specs.declared.names.Loss.{Loss}
use Rattle.cb_types.specs.declared.handle.SetId.{SetId}
use Rattle.cb_types.specs.declared.reply.Reply.{Reply}
use Rattle.cb_types.specs.declared.reply.Reply.TheVariants as answer
use Rattle.cb_world.specs.declared.access.Access.{Access}
use Rattle.cb_world.specs.declared.shown.Shown.{Shown}
use Rattle.cb_world.specs.FarState.{FarState, span_in}
use Rattle.cb_world.specs.FarSound.{rows_in}
use Rattle.cb_world.specs.Memory.{put}
use Rattle.cb_world.specs.Orders.{LeavesWords}
use Rattle.cb_world.specs.RowWords.{words_in}
use Rattle.cb_world.specs.Sets.{set_in}
use Rattle.cb_world.specs.SetWord.{IsWordOf}
use Rattle.cb_world.specs.Sound.{Sound}
use Rattle.cb_world.proofs.Laws.{length_words, none_at_free, put_else, stands_where_free}
use Rattle.cb_swapin.specs.SwapEffect.{IsSwappedIn, SwapEffect}
use Rattle.cb_swapin.specs.SwapRule.{swap_answer}
use Rattle.cb_swapin.proofs.Laws.{by_answer}
use Rattle.cb_core.proofs.WordsTold.{KeepsRows, frame_rows}

within : (set : SetState) (p : ℕ) → live_at set p ≡ true → p < length set.positions
within set p live = elim (cases_lt p (length set.positions)) [
  | inl inside ↦ inside
  | inr past ↦ absurd (false≢true (sym (ap (λ (c : PositionState). c.live)
      (get_or_past set.positions p dead_position past)) ∙ live))
]

-- the row has the bytes of a span of the set
wide : (s : Shown) (far : FarState) (id p : ℕ) (set : SetState) (row : List ℕ) → Sound s far
    → set_in far.sets id ≡ Some set → live_at set p ≡ true
    → ((rows : List (List ℕ)) → IsWordOf far.nodes far.members set rows → row ≡ row_at rows p)
    → length row ≡ 4096 * set.pages
wide s far id p set row sound there live of_word =
    let w = sound.away.sound.sets.worded id set there in
    let word = w.1.word.code in let count = word.is_word.count in
    let low = within set p live in
    ap (λ (l : List ℕ). length l) (of_word w.0 w.1.word)
    ∙ word.is_word.equal_lengths p [] (omega (arith, low, count)) ∙ word.wide

-- a reply with a frame tells the least free run that fits
swapped_least : (far : FarState) (id f : ℕ) (set : SetState) → swap_answer far id set ≡ answer.Swapped f
    → least_run far.frames set.pages ≡ Some f
swapped_least far id f set e = by_answer (λ (q : Reply). q ≡ answer.Swapped f
    → least_run far.frames set.pages ≡ Some f) far id set (λ broken is. absurd (lost_swapped _ _ is))
    (λ whole none is. absurd (none_swapped is))
    (λ g whole least is. least ∙ ap (λ (i : ℕ). Some i) (same_frame g f is)) e
  where
    lost_swapped : (i : SetId) (l : List Loss) → answer.Unavailable i l ≡ answer.Swapped f → ⊥
    lost_swapped i l e = cc

    none_swapped : answer.NoFrame ≡ answer.Swapped f → ⊥
    none_swapped e = cc

    same_frame : (g h : ℕ) → answer.Swapped g ≡ answer.Swapped h → g ≡ h
    same_frame g h e = cc

-- a span has none of the frames of a free run
apart : (s : Shown) (far : FarState) (f pages g : ℕ) (c : Contents) → Sound s far → 1 ≤ pages
    → least_run far.frames pages ≡ Some f → span_in far.spans g ≡ Some c
    → (g + pages_of c.class ≤ f) ⊎ (f + pages ≤ g)
apart s far f pages g c sound some least there =
    let frames = sound.here.frames in let run = least_run-Some far.frames pages f least some in
    let none = none_at_free far f frames (run.1 f (omega arith) (omega (arith, some))) in
    (stands_where_free far f pages frames some run.0 run.1).apart g c there
    (λ same. none_some c (sym none ∙ ap (span_in far.spans) (sym same) ∙ there))
  where
    none_some : (c : Contents) → None ≡ Some c → ⊥
    none_some c e = cc

-- a word of other frames stays
beside : (ms : List ℕ) (f pages g more p : ℕ) (row : List ℕ) → length row ≡ 4096 * pages
    → (g + more ≤ f) ⊎ (f + pages ≤ g) → 512 * g ≤ p → p < 512 * (g + more)
    → get_or (put ms (512 * f) (words_in row)) p 0 ≡ get_or ms p 0
beside ms f pages g more p row long off from to =
    put_else ms (512 * f) (words_in row) p (side off)
  where
    side : (g + more ≤ f) ⊎ (f + pages ≤ g)
        → (p < 512 * f) ⊎ (512 * f + length (words_in row) ≤ p)
    side (inl less) = inl (omega (arith, less, to))
    side (inr more) = inr (let w = length_words (length row / 8) row in
        omega (arith, more, from, w, long))

swapped_rows : (id p f : ℕ) (set : SetState) (s t : Shown) (far new : FarState) (es : List Access)
    → Sound s far → Sound t new → LeavesWords far new → set_in far.sets id ≡ Some set
    → live_at set p ≡ true → least_run far.frames set.pages ≡ Some f
    → IsSwappedIn id p f far new es s t → KeepsRows s far t new
swapped_rows id p f set s t far new es before behind leaves there live least x =
    let same : x.set ≡ set = same_Some x.set set (sym x.there ∙ there) in
    let long = wide s far id p set x.row before there live
    (subst (λ (c : SetState). (rows : List (List ℕ)) → IsWordOf far.nodes far.members c rows
    → x.row ≡ row_at rows p) same x.of_word) in
    let some : 1 ≤ set.pages = subst (λ (n : ℕ). 1 ≤ n) (x.paged ∙ ap (λ (c : SetState). c.pages) same)
    (pages_some x.class x.in_table) in
    frame_rows s t far new before behind leaves (λ g was is at now q from first last owns still.
    ap (λ (l : List ℕ). get_or l q 0) x.brought.memory
    ∙ beside s.memory f set.pages g (pages_of was.class) q x.row long
    (apart s far f set.pages g was before some least at) from first)

-- by the reply
pub swap_rows : (id p : ℕ) (set : SetState) (s t : Shown)
    (far new : FarState) (r : Reply) (es : List Access)
    → Sound s far → Sound t new → LeavesWords far new → set_in far.sets id ≡ Some set
    → live_at set p ≡ true → r ≡ swap_answer far id set → SwapEffect id p far new r es s t
    → KeepsRows s far t new
swap_rows id p set s t far new (answer.Swapped f) es before behind leaves there live reply x =
    swapped_rows id p f set s t far new es before behind leaves there live
    (swapped_least far id f set (sym reply)) x
swap_rows id p set s t far new r es before behind leaves there live reply x = λ b at below.
    ap (λ (u : Shown). rows_in u b.pages b.frames) x
