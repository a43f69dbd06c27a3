-- Worked examples of the words of a frame and of a run of frames, read or stored one after another.
use Rattle.std.proofs.Common.{◌≡◌, ℕ, suc, ◌+◌, ◌*◌, ◌^◌, ◌<◌, List, [], ◌∷◌, All, length, replicate, refl, sym, ap, subst, lit<, lit≤, arith}
use Rattle.std.proofs.lemmas.List.{get_or-replicate, length-replicate}
use Rattle.cb_world.specs.declared.access.Access.{Access}
use Rattle.cb_world.specs.declared.access.Access.TheVariants.{Loaded, Stored}
use Rattle.cb_world.specs.declared.object.Object.{Object}
use Rattle.cb_world.specs.declared.object.Object.TheVariants as is
use Rattle.cb_world.specs.declared.shown.Shown.{Shown}
use Rattle.cb_world.specs.RowWords.{row_of}
use Rattle.cb_world.specs.FrameWords.{LiesInRun, OwnsRun, OwnsWords, ReadsFrame, ReadsRun, loads_from, stores_from}

two_loads : loads_from 512 (7 ∷ 8 ∷ []) ≡ Loaded 512 7 ∷ Loaded 513 8 ∷ []
two_loads = refl

two_stores : stores_from 512 (7 ∷ 8 ∷ []) ≡ Stored 512 7 ∷ Stored 513 8 ∷ []
two_stores = refl

-- ---- a frame of zeros
no_words : List ℕ
no_words = replicate 512 0

count_words : length no_words ≡ 512
unfolding no_words
count_words = let none : ℕ = 0 in length-replicate 512 none

all_small : All (λ w. w < 2 ^ 64) no_words
unfolding no_words
all_small k d below = let n = count_words in
    subst (λ (x : ℕ). x < 2 ^ 64) (sym (get_or-replicate 512 k 0 d (omega (arith, below, n))))
    (lit< tt)

zeros_read : ReadsFrame (λ es. es ≡ loads_from (512 * 1) no_words) 1 (row_of no_words)
unfolding no_words
zeros_read = record {
  words = no_words;
  count = count_words;
  small = all_small;
  made = refl;
  ran = refl;
}

-- no word was read
no_word_read : ReadsFrame (λ es. es ≡ []) 1 [] → ⊥
no_word_read x = by x.words x.count x.ran
  where
    by : (ws : List ℕ) → length ws ≡ 512 → loads_from (512 * 1) ws ≡ [] → ⊥
    by [] count ran = omega (arith, count)
    by (w ∷ ws) count ran = cc

-- the row of other words
other_row : (runs : List Access → Type 0) → ReadsFrame runs 1 [] → ⊥
other_row runs x = by x.words x.count x.made
  where
    by : (ws : List ℕ) → length ws ≡ 512 → [] ≡ row_of ws → ⊥
    by [] count made = omega (arith, count)
    by (w ∷ ws) count made = cc

-- a word that has too many bits
abbrev BeginsWide : List Access → Type 0
BeginsWide (Loaded p w ∷ es) = w ≡ 2 ^ 64
BeginsWide _ = ⊥

too_wide : (row : List ℕ) → ReadsFrame BeginsWide 1 row → ⊥
too_wide row x = by x.words x.count x.small x.ran
  where
    by : (ws : List ℕ) → length ws ≡ 512 → All (λ w. w < 2 ^ 64) ws
        → BeginsWide (loads_from (512 * 1) ws) → ⊥
    by [] count small ran = ran
    by (w ∷ ws) count small ran = let l = small 0 0 (omega arith) in omega (arith, l, ran)

-- ---- who owns a frame's words
abbrev one_frame : List Object → Shown
one_frame objects =
    record { first = 1; objects = objects; hots = []; versions = []; memory = no_words }

owned : OwnsWords (one_frame []) 0
owned p low high = ((let n = count_words in omega (arith, high, n)), λ h. tt)

-- the frame is not there
not_there : OwnsWords (one_frame []) 1 → ⊥
not_there x =
    let n = count_words in let l = (x 512 (omega arith) (omega arith)).0 in omega (arith, l, n)

-- an object lies in it that others may change
in_use : OwnsWords (one_frame (is.Here 8 3 ∷ [])) 0 → ⊥
in_use x = (x 3 (omega arith) (omega arith)).1 0 (omega arith, omega arith)

-- ---- a run of two frames: its words are one row
count_loads : (p : ℕ) (ws : List ℕ) → length (loads_from p ws) ≡ length ws
count_loads p [] = refl
count_loads p (w ∷ ws) = ap (λ (n : ℕ). suc n) (count_loads (p + 1) ws)

two_frames : List ℕ
two_frames = replicate 1024 0

count_two : length two_frames ≡ 1024
unfolding two_frames
count_two = let none : ℕ = 0 in length-replicate 1024 none

two_small : All (λ w. w < 2 ^ 64) two_frames
unfolding two_frames
two_small k d below = let n = count_two in
    subst (λ (x : ℕ). x < 2 ^ 64) (sym (get_or-replicate 1024 k 0 d (omega (arith, below, n))))
    (lit< tt)

run_read : ReadsRun (λ es. es ≡ loads_from (512 * 1) two_frames) 1 2 (row_of two_frames)
unfolding two_frames
run_read = record {
  words = two_frames;
  count = count_two;
  small = two_small;
  made = refl;
  ran = refl;
}

-- the words of its first frame alone
first_frame_alone : ReadsRun (λ es. es ≡ loads_from (512 * 1) no_words) 1 2 (row_of no_words) → ⊥
first_frame_alone x = by x.words no_words x.ran (omega (arith, x.count, count_words))
  where
    by : (ws vs : List ℕ) → loads_from (512 * 1) ws ≡ loads_from (512 * 1) vs
        → length ws ≡ 512 + length vs → ⊥
    by ws vs ran more = let e = ap length ran in
        omega (arith, e, more, count_loads (512 * 1) ws, count_loads (512 * 1) vs)

-- the second frame's words lie in the run, and the third's do not
in_the_second : LiesInRun 1 2 1535
in_the_second = (lit≤ tt, lit< tt)

behind_the_run : LiesInRun 1 2 1536 → ⊥
behind_the_run x = omega (arith, x.1)

run_owned : OwnsRun (record (one_frame []) { memory = two_frames }) 0 2
run_owned p lies = ((let n = count_two in omega (arith, lies.1, n)), λ h. tt)

-- its second frame is not there
half_there : OwnsRun (one_frame []) 0 2 → ⊥
half_there x =
    let n = count_words in let l = (x 512 (omega arith, omega arith)).0 in omega (arith, l, n)

-- an object lies in its second frame that others may change
half_in_use : OwnsRun (record (one_frame (is.Here 8 513 ∷ [])) { memory = two_frames }) 0 2 → ⊥
half_in_use x = (x 513 (omega arith, omega arith)).1 0 (omega arith, omega arith)
