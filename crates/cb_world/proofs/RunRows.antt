-- The words of a run of frames, one frame after another: its row, and the events that read or store
-- them.
use Rattle.std.proofs.Common.{◌≡◌, ℕ, zero, suc, ◌+◌, ◌*◌, ◌/◌, ◌^◌, ◌<◌, ◌≤◌, List, [], ◌∷◌, ◌++◌, length, take, drop, set, All, sym, refl, ap, ◌∙◌, subst, arith, append_assoc, length-append, length-set, drop-drop}
use Rattle.std.proofs.lemmas.Grind.{flat_map-append}
use Rattle.std.proofs.lemmas.List.{drop-take, length-drop, length-take-le, take-take, take_all, take_at}
use Rattle.std.proofs.lemmas.List.Elements.{All-append, All-nil}
use borrow.Rule.Slice.PartMut.{put_mid, same_len_mid}
use Rattle.std.specs.Int.{from_le_bytes, to_le_bytes, w64}
use Rattle.cb_world.specs.declared.access.Access.{Access}
use Rattle.cb_world.specs.declared.access.Access.TheVariants.{Loaded, Stored}
use Rattle.cb_world.specs.declared.shown.Shown.{Shown}
use Rattle.cb_world.specs.FrameWords.{OwnsRun, OwnsWords, ReadsFrame, ReadsRun, loads_from, stores_from}
use Rattle.cb_world.specs.Played.{played}
use Rattle.cb_world.specs.RowWords.{row_of, words_from, words_in}
use Rattle.cb_world.proofs.RowWords.{length_words, row_length}

-- ---- events
pub loads_append : (p : ℕ) (ws vs : List ℕ)
    → loads_from p (ws ++ vs) ≡ loads_from p ws ++ loads_from (p + length ws) vs
loads_append p [] vs = ap (λ (q : ℕ). loads_from q vs) (omega arith)
loads_append p (w ∷ ws) vs =
    ap (λ (es : List Access). Loaded p w ∷ es) (loads_append (p + 1) ws vs
    ∙ ap (λ (q : ℕ). loads_from (p + 1) ws ++ loads_from q vs)
    (let e : (p + 1) + length ws ≡ p + suc (length ws) = omega arith in e))

pub stores_append : (p : ℕ) (ws vs : List ℕ)
    → stores_from p (ws ++ vs) ≡ stores_from p ws ++ stores_from (p + length ws) vs
stores_append p [] vs = ap (λ (q : ℕ). stores_from q vs) (omega arith)
stores_append p (w ∷ ws) vs =
    ap (λ (es : List Access). Stored p w ∷ es) (stores_append (p + 1) ws vs
    ∙ ap (λ (q : ℕ). stores_from (p + 1) ws ++ stores_from q vs)
    (let e : (p + 1) + length ws ≡ p + suc (length ws) = omega arith in e))

-- stores leave the words to who owned them
pub owned_still : (p : ℕ) (ws : List ℕ) (s : Shown) (f pages : ℕ) → OwnsRun s f pages
    → OwnsRun (played (stores_from p ws) s) f pages
owned_still p [] s f pages owned = owned
owned_still p (w ∷ ws) s f pages owned =
    owned_still (p + 1) ws (record s { memory = set s.memory p w }) f pages (λ q lies.
    let o = owned q lies in let n = length-set s.memory p w in (omega (arith, o.0, n), o.1))

-- and so each frame of the run
pub owns_frame : (s : Shown) (f pages page : ℕ) → OwnsRun s f pages → page < pages
    → OwnsWords s (f + page)
owns_frame s f pages page owned below p low high =
    owned p (omega (arith, low), omega (arith, high, below))

-- ---- the words of a row, in two parts
words_split : (n m : ℕ) (row : List ℕ)
    → words_from (n + m) row ≡ words_from n row ++ words_from m (drop (8 * n) row)
unfolding words_from
words_split zero m row = ap (λ (k : ℕ). words_from k row) (let e : 0 + m ≡ m = omega arith in e)
words_split (suc n) m row =
    ap (λ (k : ℕ). words_from k row) (let e : suc n + m ≡ suc (n + m) = omega arith in e)
    ∙ ap (λ (l : List ℕ). from_le_bytes w64 (take 8 row) ∷ l) (words_split n m (drop 8 row)
    ∙ ap (λ (l : List ℕ). words_from n (drop 8 row) ++ words_from m l) (drop-drop (8 * n) 8 row
    ∙ ap (λ (k : ℕ). drop k row) (let e : 8 + 8 * n ≡ 8 * suc n = omega arith in e)))

-- the first n words are those of the first bytes
words_front : (n : ℕ) (row : List ℕ) → words_from n (take (8 * n) row) ≡ words_from n row
unfolding words_from
words_front zero row = refl
words_front (suc n) row =
    let e : 8 * suc n ≡ 8 + 8 * n = omega arith in
    ap (λ (k : ℕ). words_from (suc n) (take k row)) e
    ∙ ap (λ (l : List ℕ). from_le_bytes w64 l ∷ words_from n (drop 8 (take (8 + 8 * n) row)))
    (take-take 8 (8 + 8 * n) row (omega arith))
    ∙ ap (λ (l : List ℕ). from_le_bytes w64 (take 8 row) ∷ words_from n l)
    (drop-take 8 (8 * n) row)
    ∙ ap (λ (l : List ℕ). from_le_bytes w64 (take 8 row) ∷ l) (words_front n (drop 8 row))

-- the words of the first pages of a row, and those of the next one
pub words_more : (row : List ℕ) (page : ℕ) → 4096 * page + 4096 ≤ length row
    → words_from (512 * (page + 1)) row
    ≡ words_from (512 * page) row ++ words_in (take 4096 (drop (4096 * page) row))
words_more row page fits =
    let piece = take 4096 (drop (4096 * page) row) in
    let long : length piece ≡ 4096 =
    length-take-le 4096 (drop (4096 * page) row) (let d = length-drop (4096 * page) row in omega (arith, d, fits)) in
    ap (λ (k : ℕ). words_from k row)
    (let e : 512 * (page + 1) ≡ 512 * page + 512 = omega arith in e)
    ∙ words_split (512 * page) 512 row
    ∙ ap (λ (k : ℕ). words_from (512 * page) row ++ words_from 512 (drop k row))
    (let e : 8 * (512 * page) ≡ 4096 * page = omega arith in e)
    ∙ ap (λ (l : List ℕ). words_from (512 * page) row ++ l)
    (sym (words_front 512 (drop (4096 * page) row))
    ∙ ap (λ (k : ℕ). words_from k piece) (let e : 512 ≡ length piece / 8 = omega (arith, long) in e))

-- all of them
pub words_whole : (row : List ℕ) (pages : ℕ) → length row ≡ 4096 * pages
    → words_from (512 * pages) row ≡ words_in row
words_whole row pages long = ap (λ (k : ℕ). words_from k row) (omega (arith, long))

-- ---- the pages that are read so far
pub record HasRead (runs : List Access → Type 0) (f pages page : ℕ) (row : List ℕ) : Type 0 where
  pub words : List ℕ
  pub count : length words ≡ 512 * page
  pub small : All (λ w. w < 2 ^ 64) words
  pub made : take (4096 * page) row ≡ row_of words
  pub ran : runs (loads_from (512 * f) words)
  pub sized : length row ≡ 4096 * pages

pub none_read : (runs : List Access → Type 0) (f pages : ℕ) (row : List ℕ) → runs []
    → length row ≡ 4096 * pages → HasRead runs f pages 0 row
none_read runs f pages row none long = record {
  words = [];
  count = refl;
  small = All-nil (λ w. w < 2 ^ 64);
  made = refl;
  ran = none;
  sized = long;
}

-- one page more
pub page_read : (runs then_ all : List Access → Type 0) (f pages page k : ℕ) (row new piece : List ℕ)
    → ((es fs : List Access) → runs es → then_ fs → all (es ++ fs))
    → HasRead runs f pages page row → ReadsFrame then_ (f + page) piece → page < pages
    → k ≡ 4096 → new ≡ put_mid (4096 * page) k row piece
    → HasRead all f pages (page + 1) new
page_read runs then_ all f pages page k row new piece more x y below wide is =
    let front = take (4096 * page) row in let rest = drop k (drop (4096 * page) row) in
    let first : length front ≡ 4096 * page =
    length-take-le (4096 * page) row (omega (arith, x.sized, below)) in
    let next : length piece ≡ 4096 = ap length y.made ∙ row_length y.words
    ∙ (let n = y.count in omega (arith, n)) in
    let both : length (front ++ piece) ≡ 4096 * (page + 1) =
    omega (arith, length-append front piece, first, next) in
    let left : 4096 ≤ length (drop (4096 * page) row) =
    (let d = length-drop (4096 * page) row in omega (arith, d, x.sized, below)) in
    let whole : length new ≡ length row = ap length is
    ∙ same_len_mid (4096 * page) k row piece
    (next ∙ sym wide ∙ sym (length-take-le k (drop (4096 * page) row) (omega (arith, left, wide)))) in
    record {
      words = x.words ++ y.words;
      count = omega (arith, length-append x.words y.words, x.count, y.count);
      small = All-append (λ w. w < 2 ^ 64) x.words y.words x.small y.small;
      made = ap (take (4096 * (page + 1))) (is ∙ sym (append_assoc front piece rest))
          ∙ take_at (front ++ piece) rest (4096 * (page + 1)) both
          ∙ ap (λ (l : List ℕ). l ++ piece) x.made
          ∙ ap (λ (l : List ℕ). row_of x.words ++ l) y.made
          ∙ sym (flat_map-append (to_le_bytes w64) x.words y.words);
      ran = subst all (ap (λ (p : ℕ). loads_from (512 * f) x.words ++ loads_from p y.words)
          (let n = x.count in let e : 512 * (f + page) ≡ 512 * f + length x.words = omega (arith, n) in e)
          ∙ sym (loads_append (512 * f) x.words y.words))
          (more (loads_from (512 * f) x.words) (loads_from (512 * (f + page)) y.words) x.ran y.ran);
      sized = whole ∙ x.sized;
    }

-- all pages
pub run_read : (runs : List Access → Type 0) (f pages page : ℕ) (row : List ℕ)
    → HasRead runs f pages page row → page ≡ pages → ReadsRun runs f pages row
run_read runs f pages page row x all = record {
  words = x.words;
  count = x.count ∙ ap (λ (n : ℕ). 512 * n) all;
  small = x.small;
  made = sym (take_all (4096 * page) row (omega (arith, x.sized, all))) ∙ x.made;
  ran = x.ran;
}

-- ---- the pages that are stored so far
pub none_stored : (runs : List Access → Type 0) (f : ℕ) (row : List ℕ) → runs []
    → runs (stores_from (512 * f) (words_from (512 * 0) row))
unfolding words_from
none_stored runs f row none = none

pub page_stored : (runs then_ all : List Access → Type 0) (f page k : ℕ) (row : List ℕ)
    → ((es fs : List Access) → runs es → then_ fs → all (es ++ fs))
    → runs (stores_from (512 * f) (words_from (512 * page) row))
    → k ≡ 4096
    → then_ (stores_from (512 * (f + page)) (words_in (take k (drop (4096 * page) row))))
    → 4096 * page + 4096 ≤ length row
    → all (stores_from (512 * f) (words_from (512 * (page + 1)) row))
page_stored runs then_ all f page k row more ran wide next fits =
    let done = words_from (512 * page) row in
    let piece = words_in (take 4096 (drop (4096 * page) row)) in
    subst all (ap (λ (p : ℕ). stores_from (512 * f) done ++ stores_from p piece)
    (let n = length_words (512 * page) row in
    let e : 512 * (f + page) ≡ 512 * f + length done = omega (arith, n) in e)
    ∙ sym (stores_append (512 * f) done piece)
    ∙ ap (stores_from (512 * f)) (sym (words_more row page fits)))
    (more (stores_from (512 * f) done) (stores_from (512 * (f + page)) piece) ran
    (subst (λ (n : ℕ). then_ (stores_from (512 * (f + page))
    (words_in (take n (drop (4096 * page) row))))) wide next))
