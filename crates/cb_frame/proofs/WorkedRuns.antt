-- Worked runs of frames: in a memory of holes, over the border of a word, and at the end.
use Rattle.std.proofs.Common.{◌≡◌, ◌++◌, ℕ, ◌^◌, ◌+◌, ◌<◌, ◌≤◌, Bool, true, false, List, [], ◌∷◌, Some, None, zero, suc, lit<, lit≤, replicate, refl, arith}
use Rattle.cb_frame.specs.FrameSet.{no_frames}
use Rattle.cb_frame.specs.FreeFrames.{free_count, with_run_given, with_run_taken}
use Rattle.cb_frame.specs.Runs.{IsLeastRun, NoRun, is_run, least_run, run_in}

-- frames 1, 3 and 4, and 6 to 9 of ten: runs of one, two and four
abbrev holes : List Bool
holes = false ∷ true ∷ false ∷ true ∷ true ∷ false ∷ true ∷ true ∷ true ∷ true ∷ []

one : least_run holes 1 ≡ Some 1
one = refl

two : least_run holes 2 ≡ Some 3
two = refl

-- the last four of all
four : least_run holes 4 ≡ Some 6
four = refl

inside : is_run holes 7 2 ≡ true
inside = refl

-- frame 5 is not in the set
broken : is_run holes 4 2 ≡ false
broken = refl

-- frame 10 is past the count
past_the_end : is_run holes 7 4 ≡ false
past_the_end = refl

-- with the last frame gone no four are left
none_behind : least_run (with_run_taken holes 9 1) 4 ≡ None
none_behind = refl

two_taken : with_run_taken holes 3 2
    ≡ false ∷ true ∷ false ∷ false ∷ false ∷ false ∷ true ∷ true ∷ true ∷ true ∷ []
two_taken = refl

then_two : least_run (with_run_taken holes 3 2) 2 ≡ Some 6
then_two = refl

four_taken : with_run_taken holes 6 4
    ≡ false ∷ true ∷ false ∷ true ∷ true ∷ false ∷ false ∷ false ∷ false ∷ false ∷ []
four_taken = refl

counted : free_count (with_run_taken holes 6 4) ≡ 3
counted = refl

-- given back, they are as before
given_back : with_run_given (with_run_taken holes 6 4) 6 4 ≡ holes
given_back = refl

-- frames 0 and 1, and then 2 and 3 of four are given: all four are one run from frame 0 on
front_given : with_run_given (no_frames 4) 0 2 ≡ true ∷ true ∷ false ∷ false ∷ []
front_given = refl

not_yet : least_run (with_run_given (no_frames 4) 0 2) 4 ≡ None
not_yet = refl

both_given : least_run (with_run_given (with_run_given (no_frames 4) 0 2) 2 2) 4 ≡ Some 0
both_given = refl

-- frames 62 to 65 of 66: two in the first word and two in the second
abbrev over_the_border : List Bool
over_the_border = replicate 62 false ++ (true ∷ true ∷ true ∷ true ∷ [])

border_four : least_run over_the_border 4 ≡ Some 62
border_four = refl

border_two : least_run (with_run_taken over_the_border 62 1) 2 ≡ Some 63
border_two = refl

-- the same as bits of two words: the two highest of the first and the two lowest of the second
abbrev bits : List ℕ
bits = 13835058055282163712 ∷ 3 ∷ []

bits_four : run_in bits 62 4 ≡ true
bits_four = refl

bits_past_them : run_in bits 63 4 ≡ false
bits_past_them = refl

-- bits 0 and 2 to 5: a run of four begins at 2, and none at 0
abbrev low_bits : List ℕ
low_bits = 61 ∷ []

least_of_four : IsLeastRun low_bits 4 2
least_of_four = record { set = refl; before = λ k below. by k below }
  where
    by : (k : ℕ) → k < 2 → run_in low_bits k 4 ≡ false
    by zero below = refl
    by (suc zero) below = refl
    by (suc (suc k)) below = absurd (omega (arith, below))

not_one_of_three : ¬ (IsLeastRun low_bits 4 3)
not_one_of_three h = absurd (let set = h.set in cc)

-- a pair begins at 2 already
not_past_the_least : ¬ (IsLeastRun low_bits 2 4)
not_past_the_least h = absurd (let clear = h.before 2 (lit< tt) in cc)

one_there : ¬ (NoRun low_bits 4)
one_there h = absurd (let clear = h 2 in cc)
