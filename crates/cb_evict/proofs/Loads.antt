-- The words of a run of frames are read into a row.
use Rattle.std.proofs.Common.{◌≡◌, ◌≢◌, ℕ, ◌+◌, ◌*◌, ◌<◌, ◌≤◌, List, [], ◌∷◌, length, get_or, Option, Some, refl, sym, ap, ◌∙◌, subst, arith, inl, inr, get_or-set_same, get_or-set_other}
use Rattle.std.specs.List.{Contains, slice_get}
use Rattle.std.proofs.lemmas.Bool.{cases_eq}
use Rattle.std.proofs.lemmas.List.{get_or_default}
use Rattle.std.proofs.lemmas.List.Elements.{All-contains}
use Rattle.std.proofs.lemmas.Option.{get_or_from_slice_get}
use Rattle.cb_class.specs.Class.{pages_of}
use Rattle.cb_gf256.specs.Rows.{row_at, HaveLength}
use Rattle.cb_gf256.specs.Block.{with_row}
use Rattle.cb_gf256.proofs.PublicLaws.{written_row}
use Rattle.cb_span.specs.Contents.{Contents}
use Rattle.cb_world.specs.declared.access.Access.{Access}
use Rattle.cb_world.specs.declared.shown.Shown.{Shown}
use Rattle.cb_world.specs.Shown.{Owns}
use Rattle.cb_world.specs.Memory.{window}
use Rattle.cb_world.specs.Played.{Agree}
use Rattle.cb_world.specs.FarState.{pages_at, pages_if, span_in}
use Rattle.cb_world.specs.FrameWords.{LiesInRun, ReadsRun, loads_from}
use Rattle.cb_evict.specs.Loading.{AreOfLength, IsRowOfRun, LiesInOne, LiesInRuns, LoadsRun, OnlyLoads}
use Rattle.cb_evict.proofs.Events.{loads_more}

-- ---- the words of a run
reads_run : (f pages p : ℕ) (ws : List ℕ) → 512 * f ≤ p → p + length ws ≤ 512 * (f + pages)
    → OnlyLoads (LiesInRun f pages) (loads_from p ws)
reads_run f pages p [] low high = tt
reads_run f pages p (w ∷ ws) low high = (
  (low, omega (arith, high)),
  reads_run f pages (p + 1) ws (omega (arith, low)) (omega (arith, high)),
)

-- where they are owned they are the words that are known
owned_window : (s : Shown) (p : ℕ) (ws : List ℕ) → Agree s (loads_from p ws)
    → ((i : ℕ) → p ≤ i → i < p + length ws → Owns s i) → ws ≡ window s.memory p (length ws)
unfolding window
owned_window s p [] a owns = refl
owned_window s p (w ∷ ws) a owns =
    ap (λ (x : ℕ). x ∷ ws) (a.0 (owns p (omega arith) (omega arith)))
    ∙ ap (λ (l : List ℕ). get_or s.memory p 0 ∷ l) (owned_window s (p + 1) ws a.1 (λ i low high.
    owns i (omega (arith, low)) (omega (arith, high))))

pub run_loaded : (runs : List Access → Type 0) (shows : Shown → Type 0) (f pages : ℕ)
    (row : List ℕ) → ReadsRun runs f pages row
    → ((es : List Access) (s : Shown) → runs es → shows s → Agree s es)
    → LoadsRun runs shows f pages row
run_loaded runs shows f pages row x agree =
    let count = x.count in record {
      events = loads_from (512 * f) x.words;
      ran = x.ran;
      loads = reads_run f pages (512 * f) x.words (omega arith) (omega (arith, count));
      made = record {
        words = x.words;
        count = x.count;
        small = x.small;
        made = x.made;
        contents = λ s b owns.
            owned_window s (512 * f) x.words (agree (loads_from (512 * f) x.words) s x.ran b)
            (λ i low high. owns i (low, omega (arith, high, count)))
            ∙ ap (window s.memory (512 * f)) x.count;
      };
    }

-- ---- the rows of frames
-- a row that is written stands at its place, and the others stay
pub row_here : (n : ℕ) (rows : List (List ℕ)) (p : ℕ) (bytes : List ℕ) → HaveLength n rows
    → length bytes ≡ n → p < length rows → row_at (with_row rows p bytes) p ≡ bytes
row_here n rows p bytes lengths wide within =
    ap (λ (l : List (List ℕ)). row_at l p) (written_row rows p bytes
    (subst (λ (m : ℕ). HaveLength m rows) (sym wide) lengths) within)
    ∙ get_or-set_same rows p bytes [] within

pub row_else : (n : ℕ) (rows : List (List ℕ)) (p q : ℕ) (bytes : List ℕ) → HaveLength n rows
    → length bytes ≡ n → p < length rows → q ≢ p
    → row_at (with_row rows p bytes) q ≡ row_at rows q
row_else n rows p q bytes lengths wide within off =
    ap (λ (l : List (List ℕ)). row_at l q) (written_row rows p bytes
    (subst (λ (m : ℕ). HaveLength m rows) (sym wide) lengths) within)
    ∙ get_or-set_other rows p q bytes [] off

-- one span more was read
pub span_read : (showsA showsB : Shown → Type 0) (pages : ℕ) (frames : List ℕ) (p : ℕ)
    (rows : List (List ℕ)) (bytes : List ℕ)
    → ((q f : ℕ) → q < p → slice_get frames q ≡ Some f → IsRowOfRun showsA f pages (row_at rows q))
    → IsRowOfRun showsB (get_or frames p 0) pages bytes → ((s : Shown) → showsA s → showsB s)
    → HaveLength (4096 * pages) rows → length bytes ≡ 4096 * pages → p < length rows
    → (q f : ℕ) → q < p + 1 → slice_get frames q ≡ Some f
    → IsRowOfRun showsA f pages (row_at (with_row rows p bytes) q)
span_read showsA showsB pages frames p rows bytes a x back lengths wide within q f below at =
    elim (cases_eq q p) [
      | inl e ↦
          let same : get_or frames p 0 ≡ f =
          get_or_from_slice_get frames p f 0 (subst (λ (n : ℕ). slice_get frames n ≡ Some f) e at) in
          subst (λ (n : ℕ). IsRowOfRun showsA f pages (row_at (with_row rows p bytes) n)) (sym e)
          (subst (IsRowOfRun showsA f pages) (sym (row_here (4096 * pages) rows p bytes lengths wide within))
          (subst (λ (n : ℕ). IsRowOfRun showsA n pages bytes) same (record {
            words = x.words;
            count = x.count;
            small = x.small;
            made = x.made;
            contents = λ s b owns. x.contents s (back s b) owns;
          })))
      | inr off ↦ subst (IsRowOfRun showsA f pages)
          (sym (row_else (4096 * pages) rows p q bytes lengths wide within off))
          (a q f (omega (arith, below, off)) at)
    ]

pub frame_among : (frames : List ℕ) (p : ℕ) → p < length frames → Contains frames (get_or frames p 0)
frame_among frames p within =
    (p, within, get_or_default frames p (get_or frames p 0) 0 within)

-- ---- spans of one length
-- a span in one of these frames has so many pages
pub span_long : (spans : List (Option Contents)) (pages : ℕ) (frames : List ℕ) (f : ℕ)
    (span : Contents) → AreOfLength spans pages frames → Contains frames f
    → span_in spans f ≡ Some span → pages_of span.class ≡ pages
span_long spans pages frames f span long c there =
    sym (ap pages_if there) ∙ All-contains (λ g. pages_at spans g ≡ pages) frames f long c

-- so their words are those of the spans
pub lies_in_one : (spans : List (Option Contents)) (pages : ℕ) (frames : List ℕ)
    → AreOfLength spans pages frames → (q : ℕ) → LiesInRuns pages frames q
    → LiesInOne spans frames q
lies_in_one spans pages frames long q (f, c, lies) = (
  f,
  c,
  subst (λ (n : ℕ). LiesInRun f n q) (sym (All-contains (λ g. pages_at spans g ≡ pages) frames f
      long c)) lies,
)

pub reads_spans : (spans : List (Option Contents)) (pages : ℕ) (frames : List ℕ)
    → AreOfLength spans pages frames → (es : List Access) → OnlyLoads (LiesInRuns pages frames) es
    → OnlyLoads (LiesInOne spans frames) es
reads_spans spans pages frames long es =
    loads_more (LiesInRuns pages frames) (LiesInOne spans frames) es
    (lies_in_one spans pages frames long)
