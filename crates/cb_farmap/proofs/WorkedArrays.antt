-- Worked examples of arrays: what meets each definition, and what breaks one part.
use Rattle.std.proofs.Common.{◌≡◌, ℕ, ◌*◌, ◌≤◌, true, false, true≢false, [], ◌∷◌, length, None, Some, refl, arith}
use Rattle.std.specs.List.{IsDistinct}
use Rattle.cb_types.specs.declared.config.Config.{Config}
use Rattle.cb_types.specs.declared.reply.Reply.TheVariants as answer
use Rattle.cb_world.specs.declared.entry.Entry.{Entry}
use Rattle.cb_world.specs.Memory.{bytes_in}
use Rattle.cb_world.specs.Written.{entry}
use Rattle.cb_rule.specs.declared.view.View.{View}
use Rattle.cb_rule.specs.Steps.{opener}
use Rattle.cb_farmap.specs.declared.array.FarArray.{FarArray}
use Rattle.cb_farmap.specs.declared.kept.Cannot.TheVariants as cannot
use Rattle.cb_farmap.specs.declared.kept.Stop.TheVariants as stop
use Rattle.cb_farmap.specs.Arrays.{IsArrayOf, but_last, bytes_with, get_plan, is_full, last_of, list_of, make_plan, no_array, pop_plan, push_plan, set_plan, told_so, with_written}
use Rattle.cb_farmap.specs.Calls.{AskRead, AskWrite}
use Rattle.cb_farmap.proofs.WorkedObjects.{early, kept}

abbrev two : Config
two = record { k = 1; r = 1; nodes = 2; frames = 1; room = 6; handles = 2; turns = 0 }

-- the record of a pass that made object 5
abbrev v : View
v = record (opener two) { written = early ∷ [] }

abbrev array : ℕ → FarArray
array len = record { kept = kept 5 1 ∷ []; len = len; stop = None }

-- ---- the list
abbrev u : View
u = record (opener two) { written = entry 5 1 16 [] (7 ∷ 9 ∷ []) ∷ [] }

both : list_of u (array 2) ≡ 7 ∷ 9 ∷ []
unfolding bytes_in
both = refl

one : list_of u (array 1) ≡ 7 ∷ []
unfolding bytes_in
one = refl

empty : list_of u no_array ≡ []
empty = refl

-- ---- an array of the pass
of : IsArrayOf v (array 128)
unfolding IsDistinct
of = record {
  objects = (record { at = early; is = refl; held = refl; long = refl; wide = refl }, tt);
  apart = (tt, tt);
  within = omega arith;
}

of_none : IsArrayOf v no_array
unfolding IsDistinct
of_none = record { objects = tt; apart = tt; within = omega arith }

never_made : IsArrayOf (opener two) (array 128) → ⊥
never_made a = none_some a.objects.0.at a.objects.0.is
  where
    none_some : (e : Entry) → None ≡ Some e → ⊥
    none_some e is = cc

kept_twice : IsArrayOf v (record { kept = kept 5 1 ∷ kept 5 1 ∷ []; len = 1; stop = None }) → ⊥
unfolding IsDistinct
kept_twice a = true≢false a.apart.0.0

too_long : IsArrayOf v (array 129) → ⊥
too_long a = let w : 129 ≤ 128 * 1 = a.within in omega (arith, w)

-- ---- what is told
told_nothing : told_so (array 2) None ≡ array 2
told_nothing = refl

told_worn : told_so (array 2) (Some (cannot.Refused answer.Worn)) ≡ array 2
told_worn = refl

told_freed : told_so (array 2) (Some (cannot.Refused answer.Freed))
    ≡ record (array 2) { stop = Some stop.Freed }
told_freed = refl

-- ---- plans
reads_it : get_plan (kept 5 1 ∷ kept 6 3 ∷ []) 129 ≡ AskRead (kept 6 3) ∷ []
reads_it = refl

writes_it : set_plan (kept 5 1 ∷ kept 6 3 ∷ []) 129 7
    ≡ AskWrite (kept 6 3) 8 (7 ∷ 0 ∷ 0 ∷ 0 ∷ 0 ∷ 0 ∷ 0 ∷ 0 ∷ []) ∷ []
writes_it = refl

none_full : is_full [] 0 ≡ true
none_full = refl

-- an object that got empty has room
empty_object : is_full (kept 5 1 ∷ []) 0 ≡ false
empty_object = refl

room_for_one : is_full (kept 5 1 ∷ []) 127 ≡ false
room_for_one = refl

all_full : is_full (kept 5 1 ∷ []) 128 ≡ true
all_full = refl

first_push : push_plan [] 0 7 ≡ make_plan 7
first_push = refl

filling_push : push_plan (kept 5 1 ∷ []) 127 7 ≡ set_plan (kept 5 1 ∷ []) 127 7
filling_push = refl

next_push : push_plan (kept 5 1 ∷ []) 128 7 ≡ make_plan 7
next_push = refl

whole_object : length (bytes_with 7) ≡ 1024
whole_object = refl

no_pop : pop_plan (kept 5 1 ∷ []) 0 ≡ []
no_pop = refl

pops_last : pop_plan (kept 5 1 ∷ kept 6 3 ∷ []) 129 ≡ AskRead (kept 6 3) ∷ []
pops_last = refl

pops_before : pop_plan (kept 5 1 ∷ kept 6 3 ∷ []) 128 ≡ AskRead (kept 5 1) ∷ []
pops_before = refl

one_written : with_written (kept 5 1 ∷ kept 6 3 ∷ []) 129 ≡ kept 5 1 ∷ kept 6 4 ∷ []
one_written = refl

last_one : last_of (7 ∷ 9 ∷ []) ≡ Some 9
last_one = refl

last_none : last_of [] ≡ None
last_none = refl

all_but_last : but_last (7 ∷ 9 ∷ []) ≡ 7 ∷ []
all_but_last = refl
