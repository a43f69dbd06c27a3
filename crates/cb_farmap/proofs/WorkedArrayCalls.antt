-- Worked examples of what a call on an array comes to: what meets each definition, and what breaks
-- one part.
use Rattle.std.proofs.Common.{◌≡◌, ℕ, ◌+◌, ◌*◌, ◌≤◌, true≢false, List, [], ◌∷◌, ◌++◌, length, replicate, slice_index, None, Some, refl, sym, ap, ◌∙◌, inl, arith}
use Rattle.std.proofs.lemmas.Option.{none-some, same_Some}
use Rattle.std.specs.List.{IsDistinct}
use Rattle.cb_types.specs.declared.config.Config.{Config}
use Rattle.cb_types.specs.declared.reply.Reply.TheVariants as answer
use Rattle.cb_world.specs.declared.entry.Entry.{Entry}
use Rattle.cb_world.specs.Memory.{bytes_in}
use Rattle.cb_world.specs.Written.{entry}
use Rattle.cb_rule.specs.declared.view.Stand.{Stand}
use Rattle.cb_rule.specs.declared.view.View.{View}
use Rattle.cb_farmap.specs.declared.array.FarArray.{FarArray}
use Rattle.cb_farmap.specs.declared.kept.Cannot.TheVariants as cannot
use Rattle.cb_farmap.specs.declared.kept.KeptObject.{KeptObject}
use Rattle.cb_farmap.specs.declared.kept.Stop.TheVariants as stop
use Rattle.cb_farmap.specs.Arrays.{IsCalmArray, IsGot, IsPopped, IsPushed, IsSet, Keeps, Stays, list_of, no_array}
use Rattle.cb_farmap.specs.Changes.{GoesOn}
use Rattle.cb_farmap.proofs.Behind.{on_same}
use Rattle.cb_farmap.proofs.WorkedObjects.{early, kept, later}

-- object 5 of two numbers: at version 1, and with another second one at version 2
abbrev first : Entry
first = entry 5 1 16 [] (7 ∷ 9 ∷ [])

abbrev second : Entry
second = entry 5 2 16 (7 ∷ 9 ∷ []) (7 ∷ 8 ∷ [])

-- an object of 128 times 7, which was written with one of them
abbrev again : Entry
again = entry 5 2 1024 (replicate 128 7) (replicate 128 7)

-- with another first number
abbrev strange : Entry
strange = entry 5 1 16 [] (3 ∷ 9 ∷ [])

abbrev array : ℕ → ℕ → FarArray
array version len = record { kept = kept 5 version ∷ []; len = len; stop = None }

-- an array that has stopped
abbrev stopped : FarArray → FarArray
stopped a = record a { stop = Some stop.Freed }

not_stopped : (a : FarArray) → a.stop ≡ None → a ≡ stopped a → ⊥
not_stopped a going is = none-some stop.Freed (sym going ∙ ap (λ (z : FarArray). z.stop) is)

abbrev first_of : List KeptObject → KeptObject
first_of [] = kept 0 0
first_of (k ∷ ks) = k

-- any record of the whole share that wrote these
module _ (r : View) where
  abbrev wrote : List Entry → View
  wrote es = record r { written = es; share = 64; pins = [] }

  abbrev v : View
  v = wrote (first ∷ [])

  abbrev w : View
  w = wrote (second ∷ first ∷ [])

  -- the lists
  list_then : list_of w (array 2 2) ≡ 7 ∷ 8 ∷ []
  unfolding bytes_in
  list_then = refl

  list_strange : list_of (wrote (strange ∷ [])) (array 1 2) ≡ 3 ∷ 9 ∷ []
  unfolding bytes_in
  list_strange = refl

  strange_list : (l : List ℕ) → list_of v (array 1 2) ≡ l → list_of (wrote (strange ∷ [])) (array 1 2) ≡ l → ⊥
  unfolding bytes_in
  strange_list l is same = let e : 3 ≡ 7 = ap (λ (xs : List ℕ). slice_index xs 0) (same ∙ sym is) in
      omega (arith, e)

  -- ---- a get
  got : IsGot 1 9 v (array 1 2) v (array 1 2)
  unfolding bytes_in
  got = record { number = refl; list = refl; left = refl }

  got_other : IsGot 1 7 v (array 1 2) v (array 1 2) → ⊥
  unfolding bytes_in
  got_other x = let e : 7 ≡ 9 = x.number in omega (arith, e)

  got_of_another : IsGot 1 9 v (array 1 2) (wrote (strange ∷ [])) (array 1 2) → ⊥
  got_of_another x = strange_list (list_of v (array 1 2)) refl x.list

  got_and_stopped : IsGot 1 9 v (array 1 2) v (stopped (array 1 2)) → ⊥
  got_and_stopped x = not_stopped (array 1 2) refl (sym x.left)

  -- ---- a set
  set_so : IsSet 1 8 v (array 1 2) w (array 2 2)
  unfolding bytes_in
  set_so = record { list = refl; left = refl }

  set_other : IsSet 1 3 v (array 1 2) w (array 2 2) → ⊥
  unfolding bytes_in
  set_other x = let e : 8 ≡ 3 = ap (λ (xs : List ℕ). slice_index xs 1) x.list in omega (arith, e)

  set_and_stopped : IsSet 1 8 v (array 1 2) w (stopped (array 2 2)) → ⊥
  set_and_stopped x = not_stopped (array 2 2) refl (sym x.left)

  -- ---- a push: into an object with room, and into one that is made
  pushed : IsPushed 8 v (array 1 1) w (array 2 2)
  unfolding bytes_in
  pushed = record {
    list = refl;
    len = refl;
    stop = refl;
    room = λ is. refl;
    full = λ is. absurd (true≢false (sym is));
  }

  pushed_first : IsPushed 7 (wrote []) no_array v (array 1 1)
  unfolding bytes_in
  pushed_first = record {
    list = refl;
    len = refl;
    stop = refl;
    room = λ is. absurd (true≢false is);
    full = λ is. (kept 5 1, refl, λ e has. absurd has);
  }

  pushed_other : IsPushed 3 v (array 1 1) w (array 2 2) → ⊥
  unfolding bytes_in
  pushed_other x = let e : 8 ≡ 3 = ap (λ (xs : List ℕ). slice_index xs 1) x.list in omega (arith, e)

  -- an object has 128 numbers, so the list is that of 128
  pushed_longer : IsPushed 7 (wrote (early ∷ [])) (array 1 127) (wrote (again ∷ early ∷ [])) (array 2 129) → ⊥
  pushed_longer x = let e : 129 ≡ 127 + 1 = x.len in omega (arith, e)

  pushed_and_stopped : IsPushed 8 v (array 1 1) w (stopped (array 2 2)) → ⊥
  pushed_and_stopped x = none-some stop.Freed (sym x.stop)

  -- at another version than the next one, or in an object of which something was written
  pushed_later : IsPushed 8 v (array 1 1) (wrote (entry 5 3 16 [] (7 ∷ 8 ∷ []) ∷ first ∷ [])) (array 3 2) → ⊥
  pushed_later x = let e : 3 ≡ 2 = ap (λ (ks : List KeptObject). (first_of ks).version) (x.room refl) in
      omega (arith, e)

  pushed_again : IsPushed 7 v no_array v (array 1 1) → ⊥
  pushed_again x = let z = x.full refl in
      z.2 first (inl refl) (ap (λ (ks : List KeptObject). (first_of ks).handle.n) z.1)

  -- ---- a pop
  popped : IsPopped (Some 9) v (array 1 2) v (array 1 1)
  unfolding bytes_in
  popped = record { number = refl; list = refl; left = refl }

  popped_none : IsPopped None v no_array v no_array
  popped_none = record { number = refl; list = refl; left = refl }

  popped_other : IsPopped (Some 7) v (array 1 2) v (array 1 1) → ⊥
  unfolding bytes_in
  popped_other x = let e : 7 ≡ 9 = same_Some 7 9 x.number in omega (arith, e)

  popped_of_another : IsPopped (Some 9) v (array 1 2) (wrote (strange ∷ [])) (array 1 1) → ⊥
  unfolding bytes_in
  popped_of_another x = let e : 3 ≡ 7 = ap (λ (xs : List ℕ). slice_index xs 0) x.list in omega (arith, e)

  popped_and_stopped : IsPopped (Some 9) v (array 1 2) v (stopped (array 1 1)) → ⊥
  popped_and_stopped x = not_stopped (array 1 1) refl (sym x.left)

  -- ---- a call that is not answered
  stays : Stays (Some (cannot.Refused answer.Worn)) v (array 1 2) v (array 1 2)
  stays = record { list = refl; left = refl }

  stays_freed : Stays (Some (cannot.Refused answer.Freed)) v (array 1 2) v (stopped (array 1 2))
  stays_freed = record { list = refl; left = refl }

  stays_with_another :
      Stays (Some (cannot.Refused answer.Worn)) v (array 1 2) (wrote (strange ∷ [])) (array 1 2) → ⊥
  stays_with_another x = strange_list (list_of v (array 1 2)) refl x.list

  stays_unstopped : Stays (Some (cannot.Refused answer.Freed)) v (array 1 2) v (array 1 2) → ⊥
  stays_unstopped x = not_stopped (array 1 2) refl x.left

  -- ---- what goes on
  more_written : GoesOn v w
  more_written = record { behind = (second ∷ [], refl); pins = refl; share = refl }

  abbrev a_pin : Stand
  a_pin = record { handle = 5; len = 16; place = 0; version = 1; words = 7 ∷ 9 ∷ [] }

  less_written : GoesOn v (wrote []) → ⊥
  less_written x = by x.behind.0 x.behind.1
    where
      by : (more : List Entry) → [] ≡ more ++ (first ∷ []) → ⊥
      by [] is = cc
      by (e ∷ more) is = cc

  more_pins : GoesOn v (record w { pins = a_pin ∷ [] }) → ⊥
  more_pins x = let e : 1 ≡ 0 = ap (λ (ps : List Stand). length ps) x.pins in omega (arith, e)

  less_share : GoesOn v (record w { share = 63 }) → ⊥
  less_share x = let e : 63 ≡ 64 = x.share in omega (arith, e)

  -- ---- an array that nobody else has
  calm : IsCalmArray v (array 1 2)
  calm = record {
    whole = refl;
    going = refl;
    sole = (record { whole = refl; last = ((λ of. omega arith), tt) }, tt);
    loose = (refl, tt);
  }

  half : IsCalmArray (record v { share = 32 }) no_array → ⊥
  half x = let e : 32 ≡ 64 = x.whole in omega (arith, e)

  has_stopped : IsCalmArray v (stopped (array 1 2)) → ⊥
  has_stopped x = none-some stop.Freed (sym x.going)

  -- with an entry above the kept version
  written_since : IsCalmArray w (array 1 2) → ⊥
  written_since x = let low : 2 ≤ 1 = x.sole.0.last.0 refl in omega (arith, low)

  with_a_pin : IsCalmArray (record v { pins = a_pin ∷ [] }) (array 1 2) → ⊥
  with_a_pin x = let e : 1 ≡ 0 = x.loose.0 in omega (arith, e)

  -- ---- what each call keeps to. No call is made of an empty array's pop.
  module _ (c : Config) where
    none_made : Keeps c 1 [] None v no_array v no_array
    unfolding IsDistinct
    none_made = record {
      array = record { objects = tt; apart = tt; within = omega arith };
      calls = refl;
      on = on_same v v refl;
      calm = λ x. (tt, tt);
    }

    no_array_of_it : Keeps c 1 [] None v no_array v (record no_array { len = 1 }) → ⊥
    no_array_of_it x = let e : 1 ≤ 128 * 0 = x.array.within in omega (arith, e)

    refused_by_none : Keeps c 1 [] (Some (cannot.Refused answer.Worn)) v no_array v no_array → ⊥
    refused_by_none x = x.calls

    -- an object below the version of its last entry
    not_sole : Keeps c 1 [] None (wrote (later ∷ early ∷ [])) no_array (wrote (later ∷ early ∷ [])) (array 1 0) → ⊥
    not_sole x = let z = x.calm (record { whole = refl; going = refl; sole = tt; loose = tt }) in
        let low : 2 ≤ 1 = z.1.0.last.0 refl in omega (arith, low)
