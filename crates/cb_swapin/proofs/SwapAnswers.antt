-- Which reply a swap-in has: by what the set has lost, and by the least run of free frames.
use Rattle.std.proofs.Common.{◌≡◌, ℕ, Bool, true, false, List, Option, Some, None, if◌then◌else◌, refl, sym, ap, ◌∙◌, subst}
use Rattle.cb_frame.specs.Runs.{least_run}
use Rattle.cb_member.specs.declared.names.Loss.{Loss}
use Rattle.cb_set.specs.SetState.{SetState}
use Rattle.cb_set.specs.Lost.{lost}
use Rattle.cb_types.specs.declared.handle.SetId.{SetId}
use Rattle.cb_types.specs.declared.reply.Reply.{Reply}
use Rattle.cb_types.specs.declared.reply.Reply.TheVariants as answer
use Rattle.cb_world.specs.SetWord.{is_broken}
use Rattle.cb_world.specs.FarState.{FarState}
use Rattle.cb_swapin.specs.SwapRule.{frame_answer, swap_answer}

abbrev answer_by : Bool → Option ℕ → FarState → ℕ → SetState → Reply
answer_by b o far id set =
    if b
    then answer.Unavailable (record { n = id }) (lost far.members set.shards)
    else frame_answer o

-- what a broken set is answered
abbrev pub unavailable_answer : FarState → ℕ → SetState → Reply
unavailable_answer far id set =
    answer.Unavailable (record { n = id }) (lost far.members set.shards)

-- a set that has lost more shards than it has parities is unavailable, with all that it lost
pub broken_answer : (far : FarState) (id : ℕ) (set : SetState) → is_broken far.members set ≡ true
    → swap_answer far id set ≡ unavailable_answer far id set
broken_answer far id set broken =
    ap (λ (b : Bool). answer_by b (least_run far.frames set.pages) far id set) broken

-- one that is not broken finds no frame where none are free that fit
pub no_frame_answer : (far : FarState) (id : ℕ) (set : SetState)
    → is_broken far.members set ≡ false → least_run far.frames set.pages ≡ None
    → swap_answer far id set ≡ answer.NoFrame
no_frame_answer far id set whole none =
    ap (λ (b : Bool). answer_by b (least_run far.frames set.pages) far id set) whole
    ∙ ap frame_answer none

-- else it comes into the least run of free frames that fits
pub swapped_answer : (far : FarState) (id : ℕ) (set : SetState) (f : ℕ)
    → is_broken far.members set ≡ false → least_run far.frames set.pages ≡ Some f
    → swap_answer far id set ≡ answer.Swapped f
swapped_answer far id set f whole least =
    ap (λ (b : Bool). answer_by b (least_run far.frames set.pages) far id set) whole
    ∙ ap frame_answer least

-- what holds of these three replies, each in its case, holds of the one that is given
pub by_answer : (C : Reply → Type 0) (far : FarState) (id : ℕ) (set : SetState)
    → (is_broken far.members set ≡ true → C (unavailable_answer far id set))
    → (is_broken far.members set ≡ false → least_run far.frames set.pages ≡ None → C answer.NoFrame)
    → ((f : ℕ) → is_broken far.members set ≡ false → least_run far.frames set.pages ≡ Some f
    → C (answer.Swapped f))
    → C (swap_answer far id set)
by_answer C far id set broken none some =
    by (is_broken far.members set) (least_run far.frames set.pages) refl refl
  where
    by : (b : Bool) (o : Option ℕ) → is_broken far.members set ≡ b
        → least_run far.frames set.pages ≡ o → C (swap_answer far id set)
    by true o e free = subst C (sym (broken_answer far id set e)) (broken e)
    by false None e free = subst C (sym (no_frame_answer far id set e free)) (none e free)
    by false (Some f) e free = subst C (sym (swapped_answer far id set f e free)) (some f e free)

-- ---- and no other case has that reply
swapped_unavailable : (f : ℕ) (i : SetId) (l : List Loss) → answer.Swapped f ≡ answer.Unavailable i l → ⊥
swapped_unavailable f i l e = cc

no_frame_unavailable : (i : SetId) (l : List Loss) → answer.NoFrame ≡ answer.Unavailable i l → ⊥
no_frame_unavailable i l e = cc

swapped_no_frame : (f : ℕ) → answer.Swapped f ≡ answer.NoFrame → ⊥
swapped_no_frame f e = cc

same_frame : (f g : ℕ) → answer.Swapped f ≡ answer.Swapped g → f ≡ g
same_frame f g e = cc

-- where no frame is found, the set is not broken and none is free
pub only_no_frame : (far : FarState) (id : ℕ) (set : SetState)
    → swap_answer far id set ≡ answer.NoFrame
    → (is_broken far.members set ≡ false) × (least_run far.frames set.pages ≡ None)
only_no_frame far id set = by_answer
    (λ (r : Reply). r ≡ answer.NoFrame
    → (is_broken far.members set ≡ false) × (least_run far.frames set.pages ≡ None)) far id set
    (λ broken e. absurd (no_frame_unavailable (record { n = id }) (lost far.members set.shards) (sym e)))
    (λ whole none e. (whole, none)) (λ f whole least e. absurd (swapped_no_frame f e))

-- where the position came into a frame, the set is not broken and that is the first of the least
-- run that fits
pub only_swapped : (far : FarState) (id : ℕ) (set : SetState) (f : ℕ)
    → swap_answer far id set ≡ answer.Swapped f
    → (is_broken far.members set ≡ false) × (least_run far.frames set.pages ≡ Some f)
only_swapped far id set f = by_answer
    (λ (r : Reply). r ≡ answer.Swapped f
    → (is_broken far.members set ≡ false) × (least_run far.frames set.pages ≡ Some f)) far id set
    (λ broken e. absurd (swapped_unavailable f (record { n = id }) (lost far.members set.shards) (sym e)))
    (λ whole none e. absurd (swapped_no_frame f (sym e)))
    (λ g whole least e. (whole, least ∙ ap (λ (n : ℕ). Some n) (same_frame g f e)))
