-- Worked examples of the events of a swap-in and of its effect: what meets each definition, and for
-- its parts what breaks one alone.
use Rattle.std.proofs.Common.{◌≡◌, ℕ, zero, suc, true, false, List, [], ◌∷◌, Option, Some, length, get_or, replicate, refl, sym, ap, ◌∙◌, arith}
use Rattle.std.specs.FinMap as map
use Rattle.std.proofs.lemmas.List.{length-replicate}
use Rattle.cb_class.specs.Class.{bytes_of, pages_of, slots_of, words_of}
use Rattle.cb_set.specs.SetState.{SetState}
use Rattle.cb_span.specs.Places.{slot_place}
use Rattle.cb_types.specs.declared.reply.Reply.TheVariants as answer
use Rattle.cb_world.specs.declared.entry.Entry.{Entry}
use Rattle.cb_world.specs.declared.access.Access.{Access}
use Rattle.cb_world.specs.declared.access.Access.TheVariants.{Looked, Claimed, Loaded, Stored, Stamped, Settled}
use Rattle.cb_world.specs.declared.object.Object.TheVariants as is
use Rattle.cb_world.specs.declared.shown.Shown.{Shown}
use Rattle.cb_world.specs.FarState.{FarState}
use Rattle.cb_world.specs.Memory.{bytes_in, put, window}
use Rattle.cb_world.specs.Now.{broken_set, now, now_as}
use Rattle.cb_world.specs.Now.Now.{held}
use Rattle.cb_world.specs.RowWords.{words_in}
use Rattle.cb_world.specs.Sets.{set_in}
use Rattle.cb_world.proofs.Laws.{row_long, row_put, row}
use Rattle.cb_swapin.specs.BroughtIn.{IsAsBefore, IsSpanBrought}
use Rattle.cb_swapin.specs.Named.{IsNamed}
use Rattle.cb_swapin.specs.SwapEffect.{IsSwappedIn}
use Rattle.cb_swapin.specs.SwapRule.{SwapFar}
use Rattle.cb_swapin.proofs.WorkedSwap.{class, first, members, new, old, set, swapped, the_one}
use Rattle.cb_swapin.proofs.WorkedWord.{nodes, one_row}

-- ---- position 0 comes into frame 1, whose words are 512 to 1023, by these events
abbrev Brought : List Access → Type 0
Brought es = SwapFar old new 5 0 set es (answer.Swapped 1)

brings_it : Brought (Looked 0 1 ∷ Stored 512 7 ∷ Stored 1023 8 ∷ Settled 0 2 ∷ [])
brings_it = (swapped, ((1, refl), ((omega arith, omega arith), ((omega arith, omega arith), ((1, refl), tt)))))

not_named : IsNamed first.slots 1 → ⊥
not_named n = let e = (the_one n.0 1 n.1).1 in omega (arith, e)

settles_another : Brought (Settled 1 2 ∷ []) → ⊥
settles_another x = not_named x.1.0

looks_at_another : Brought (Looked 1 1 ∷ []) → ⊥
looks_at_another x = not_named x.1.0

stores_behind : Brought (Stored 1024 7 ∷ []) → ⊥
stores_behind x = omega (arith, x.1.0.1)

stores_before : Brought (Stored 511 7 ∷ []) → ⊥
stores_before x = omega (arith, x.1.0.0)

claims_it : Brought (Claimed 0 1 1 [] ∷ []) → ⊥
claims_it x = x.1

loads_a_word : Brought (Loaded 512 7 ∷ []) → ⊥
loads_a_word x = x.1

stamps_it : Brought (Stamped 0 2 ∷ []) → ⊥
stamps_it x = x.1

-- ---- what it does: object 0 is far, with the words that stand in slot 1 of the row
abbrev content : List ℕ
content = window (words_in (row 7)) 128 1

memory : List ℕ
memory = replicate 1024 0

memory_long : length memory ≡ 1024
unfolding memory
memory_long = length-replicate {A = ℕ} 1024 0

abbrev far : FarState
far = record old { nodes = nodes }

-- the object is far at version 1; the version word is this one
abbrev before : ℕ → Shown
before version = record {
  first = 1;
  objects = is.Far 2 1 content ∷ is.Empty 0 ∷ [];
  hots = true ∷ false ∷ [];
  versions = version ∷ 0 ∷ [];
  memory = memory;
}

-- a slot of this class has 128 words
abbrev afterwards : ℕ → Shown
afterwards version = record {
  first = 1;
  objects = is.Here 2 640 ∷ is.Empty 0 ∷ [];
  hots = false ∷ false ∷ [];
  versions = version ∷ 0 ∷ [];
  memory = put memory 512 (words_in (row 7));
}

set_there : set_in far.sets 5 ≡ Some set
set_there = grind (arith, map.gets)

span_brought : (version : ℕ)
    → IsSpanBrought first.slots class 1 (row 7) (before version) (afterwards version)
unfolding words_of bytes_of
span_brought version = record {
  first = refl;
  versions = refl;
  memory = refl;
  objects = refl;
  hots = refl;
  brought = λ slot h e. let z = the_one slot h e in record {
    len = 2;
    version = 1;
    words = content;
    was = ap (λ (i : ℕ). get_or (before version).objects i (is.Empty 0)) z.1;
    here = ap (λ (i : ℕ). get_or (afterwards version).objects i (is.Empty 0)) z.1
        ∙ ap (λ (i : ℕ). is.Here 2 (slot_place class 1 i)) (sym z.0);
    hot = ap (λ (i : ℕ). get_or (afterwards version).hots i false) z.1;
  };
  others = others;
}
  where
    others : (h : ℕ) → (IsNamed first.slots h → ⊥)
        → IsAsBefore (before version) (afterwards version) h
    others zero off = absurd (off (1, refl))
    others (suc zero) off = record { object = refl; hot = refl }
    others (suc (suc h)) off = record { object = refl; hot = refl }

-- the object's words in the frame, and its contents before
words_there : window (put memory 512 (words_in (row 7))) 640 1 ≡ content
words_there =
    let long = row_long 7 in let e = memory_long in
    row_put memory (row 7) 512 128 1 (omega (arith, e, long)) (omega (arith, long))

now_before : (version : ℕ) → now (before version) far 0 ≡ held 1 (bytes_in content 2)
now_before version = ap (λ (o : Option SetState). now_as (before version) 0 (broken_set members o)
    (is.Far 2 1 content)) set_there

same_now : (h : ℕ) → now (afterwards 1) new h ≡ now (before 1) far h
same_now zero = ap (λ (l : List ℕ). held 1 (bytes_in l 2)) words_there ∙ sym (now_before 1)
same_now (suc zero) = refl
same_now (suc (suc h)) = refl

abbrev Swaps : List Access → ℕ → Type 0
Swaps es version = IsSwappedIn 5 0 1 far new es (before version) (afterwards version)

is_swapped_in : Swaps (Settled 0 343597400066 ∷ []) 1
unfolding slots_of pages_of bytes_of
is_swapped_in = record {
  set = set;
  there = set_there;
  class = class;
  in_table = omega arith;
  paged = refl;
  sized = refl;
  row = row 7;
  of_word = λ others word. sym (one_row others word);
  brought = span_brought 1;
  nothing = λ old. refl;
  same_now = same_now;
}

-- the object is settled at a version of its own
writes_a_version : Swaps (Stamped 0 2 ∷ Settled 0 343597400066 ∷ []) 1 → ⊥
writes_a_version x =
    let e : 1 ≡ 0 = ap (λ (l : List Entry). length l) (x.nothing []) in omega (arith, e)

-- the version word was another than the last complete version
comes_at_another_version : Swaps (Settled 0 343597400066 ∷ []) 5 → ⊥
comes_at_another_version x =
    let e : 5 ≡ 1 = version_is _ _ _ _ (x.same_now 0 ∙ now_before 5) in omega (arith, e)
  where
    version_is : (v w : ℕ) (a b : List ℕ) → held v a ≡ held w b → v ≡ w
    version_is v w a b e = cc
