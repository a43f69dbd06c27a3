-- Worked examples of slot tables, of the events that bring a span in, and of what they do: what
-- meets each definition, and what breaks one of its parts alone.
use Rattle.std.proofs.Common.{◌≡◌, ◌≢◌, ◌⊎◌, ℕ, zero, suc, ◌/◌, Bool, true, false, List, [], ◌∷◌, Option, None, Some, length, get_or, refl, sym, ap, ◌∙◌, arith, inl, inr}
use Rattle.cb_class.specs.declared.class.Class.{Class}
use Rattle.cb_class.specs.Class.{words_of, bytes_of}
use Rattle.cb_span.specs.Places.{slot_place}
use Rattle.cb_world.specs.declared.access.Access.TheVariants.{Looked, Claimed, Loaded, Stored, Stamped, Settled}
use Rattle.cb_world.specs.declared.homes.Home.{Home}
use Rattle.cb_world.specs.declared.object.Object.{Object}
use Rattle.cb_world.specs.declared.object.Object.TheVariants as is
use Rattle.cb_world.specs.declared.shown.Shown.{Shown}
use Rattle.cb_world.specs.Memory.{put}
use Rattle.cb_world.specs.RowWords.{words_in}
use Rattle.cb_world.proofs.Laws.{length_words, length_put, put_else}
use Rattle.cb_swapin.specs.Named.{AreCleared, IsNamed, NamesApart, NamesHandle}
use Rattle.cb_swapin.specs.Brings.{BringsSlots, StoresIn}
use Rattle.cb_swapin.specs.BroughtIn.{IsAsBefore, IsSpanBrought}

-- slots 0 and 2 name the objects 3 and 1
abbrev slots : List (Option ℕ)
slots = Some 3 ∷ None ∷ Some 1 ∷ []

names_three : NamesHandle slots 0 3
names_three = refl

names_one : IsNamed slots 1
names_one = (2, refl)

some_same : (a b : ℕ) → Some a ≡ Some b → a ≡ b
some_same a b e = cc

none_some : (a : ℕ) → None ≡ Some a → ⊥
none_some a e = cc

-- which handles are named
which : (slot h : ℕ) → NamesHandle slots slot h → (h ≡ 3) ⊎ (h ≡ 1)
which zero h e = inl (sym (some_same 3 h e))
which (suc zero) h e = absurd (none_some h e)
which (suc (suc zero)) h e = inr (sym (some_same 1 h e))
which (suc (suc (suc slot))) h e = absurd (none_some h e)

not_two : IsNamed slots 2 → ⊥
not_two (slot, e) = by 2 refl (which slot 2 e)
  where
    by : (h : ℕ) → h ≡ 2 → (h ≡ 3) ⊎ (h ≡ 1) → ⊥
    by h two (inl x) = omega (arith, two, x)
    by h two (inr x) = omega (arith, two, x)

unlike : (h : ℕ) → 3 ≡ h → 1 ≡ h → ⊥
unlike h a b = omega (arith, a, b)

apart : NamesApart slots
apart zero zero h a b = refl
apart zero (suc zero) h a b = absurd (none_some h b)
apart zero (suc (suc zero)) h a b = absurd (unlike h (some_same 3 h a) (some_same 1 h b))
apart zero (suc (suc (suc q))) h a b = absurd (none_some h b)
apart (suc zero) q h a b = absurd (none_some h a)
apart (suc (suc zero)) zero h a b = absurd (unlike h (some_same 3 h b) (some_same 1 h a))
apart (suc (suc zero)) (suc zero) h a b = absurd (none_some h b)
apart (suc (suc zero)) (suc (suc zero)) h a b = refl
apart (suc (suc zero)) (suc (suc (suc q))) h a b = absurd (none_some h b)
apart (suc (suc (suc p))) q h a b = absurd (none_some h a)

named_twice : NamesApart (Some 3 ∷ Some 3 ∷ []) → ⊥
named_twice x = let e : 0 ≡ 1 = x 0 1 3 refl refl in omega (arith, e)

-- ---- homes
abbrev home : Home
home = record { set = 5; position = 0; slot = 1 }

no_home : None ≡ Some home → ⊥
no_home e = cc

-- object 2 keeps its home
cleared : AreCleared slots (None ∷ Some home ∷ Some home ∷ Some home ∷ [])
    (None ∷ None ∷ Some home ∷ None ∷ [])
cleared = record {
  count = refl;
  named = λ h n. named h (which n.0 h n.1);
  others = others;
}
  where
    named : (h : ℕ) → (h ≡ 3) ⊎ (h ≡ 1)
        → get_or (None ∷ None ∷ Some home ∷ None ∷ []) h None ≡ None
    named h (inl e) = ap (λ (i : ℕ). get_or (None ∷ None ∷ Some home ∷ None ∷ []) i None) e
    named h (inr e) = ap (λ (i : ℕ). get_or (None ∷ None ∷ Some home ∷ None ∷ []) i None) e

    others : (h : ℕ) → (IsNamed slots h → ⊥)
        → get_or (None ∷ None ∷ Some home ∷ None ∷ []) h None
        ≡ get_or (None ∷ Some home ∷ Some home ∷ Some home ∷ []) h None
    others zero off = refl
    others (suc zero) off = absurd (off (2, refl))
    others (suc (suc zero)) off = refl
    others (suc (suc (suc zero))) off = absurd (off (0, refl))
    others (suc (suc (suc (suc h)))) off = refl

keeps_a_home : AreCleared slots (None ∷ None ∷ None ∷ Some home ∷ [])
    (None ∷ None ∷ None ∷ Some home ∷ []) → ⊥
keeps_a_home x = no_home (sym (x.named 3 (0, refl)))

takes_another_home : AreCleared slots (None ∷ None ∷ Some home ∷ None ∷ [])
    (None ∷ None ∷ None ∷ None ∷ []) → ⊥
takes_another_home x = no_home (x.others 2 not_two)

cuts_the_homes : AreCleared slots (None ∷ None ∷ None ∷ None ∷ []) (None ∷ None ∷ None ∷ []) → ⊥
cuts_the_homes x = let e = x.count in omega (arith, e)

-- ---- events, where the span has frame 1 alone: its words are 512 to 1023
brings : BringsSlots slots 1 1 (Stored 512 7 ∷ Stored 1023 8 ∷ Looked 3 9 ∷ Settled 3 10
    ∷ Looked 1 9 ∷ Settled 1 10 ∷ [])
brings = (
  (omega arith, omega arith),
  ((omega arith, omega arith), ((0, refl), ((0, refl), ((2, refl), ((2, refl), tt))))),
)

brings_nothing : BringsSlots slots 1 1 []
brings_nothing = tt

stores_behind_the_frame : BringsSlots slots 1 1 (Stored 1024 7 ∷ []) → ⊥
stores_behind_the_frame x = omega (arith, x.0.1)

-- of two frames those of frame 2 are the span's too
brings_into_both : BringsSlots slots 1 2 (Stored 1024 7 ∷ Stored 1535 8 ∷ [])
brings_into_both = ((omega arith, omega arith), ((omega arith, omega arith), tt))

stores_behind_both : BringsSlots slots 1 2 (Stored 1536 7 ∷ []) → ⊥
stores_behind_both x = omega (arith, x.0.1)

stores_before_the_frame : BringsSlots slots 1 1 (Stored 511 7 ∷ []) → ⊥
stores_before_the_frame x = omega (arith, x.0.0)

settles_another : BringsSlots slots 1 1 (Settled 2 10 ∷ []) → ⊥
settles_another x = not_two x.0

looks_at_another : BringsSlots slots 1 1 (Looked 2 10 ∷ []) → ⊥
looks_at_another x = not_two x.0

stamps : BringsSlots slots 1 1 (Stamped 3 2 ∷ []) → ⊥
stamps x = x

claims : BringsSlots slots 1 1 (Claimed 3 9 1 [] ∷ []) → ⊥
claims x = x

stores : StoresIn 1 1 (Stored 512 7 ∷ Stored 512 8 ∷ [])
stores = ((omega arith, omega arith), ((omega arith, omega arith), tt))

stores_elsewhere : StoresIn 1 1 (Stored 0 7 ∷ []) → ⊥
stores_elsewhere x = omega (arith, x.0.0)

loads : StoresIn 1 1 (Loaded 512 7 ∷ []) → ⊥
loads x = x

-- ---- what they do: object 0 is far, object 1 is here in frame 1; slot 1 of the row names object 0
abbrev class : Class
class = record { index = 11 }

abbrev table : List (Option ℕ)
table = None ∷ Some 0 ∷ None ∷ None ∷ []

abbrev far_words : List ℕ
far_words = 2826 ∷ []

abbrev before : List ℕ → Shown
before memory = record {
  first = 1;
  objects = is.Far 2 1 far_words ∷ is.Here 2 600 ∷ [];
  hots = true ∷ true ∷ [];
  versions = 1 ∷ 4 ∷ [];
  memory = memory;
}

abbrev left : List Object → List Bool → List ℕ → List ℕ → Shown
left objects hots versions memory = record {
  first = 1;
  objects = objects;
  hots = hots;
  versions = versions;
  memory = memory;
}

-- a slot of this class has 128 words
abbrev afterwards : List ℕ → Shown
afterwards memory =
    left (is.Here 2 128 ∷ is.Here 2 600 ∷ []) (false ∷ true ∷ []) (1 ∷ 4 ∷ []) memory

-- the one object of the table
the_one : (slot h : ℕ) → NamesHandle table slot h → (slot ≡ 1) × (h ≡ 0)
the_one zero h e = absurd (none_some h e)
the_one (suc zero) h e = (refl, sym (some_same 0 h e))
the_one (suc (suc zero)) h e = absurd (none_some h e)
the_one (suc (suc (suc zero))) h e = absurd (none_some h e)
the_one (suc (suc (suc (suc slot)))) h e = absurd (none_some h e)

not_one : IsNamed table 1 → ⊥
not_one (slot, e) = let n = (the_one slot 1 e).1 in omega (arith, n)

span_brought : (memory row : List ℕ)
    → IsSpanBrought table class 0 row (before memory) (afterwards (put memory 0 (words_in row)))
unfolding words_of bytes_of
span_brought memory row = record {
  first = refl;
  versions = refl;
  memory = refl;
  objects = refl;
  hots = refl;
  brought = λ slot h e. let z = the_one slot h e in record {
    len = 2;
    version = 1;
    words = far_words;
    was = ap (λ (i : ℕ). get_or (before memory).objects i (is.Empty 0)) z.1;
    here = ap (λ (i : ℕ). get_or (afterwards memory).objects i (is.Empty 0)) z.1
        ∙ ap (λ (i : ℕ). is.Here 2 (slot_place class 0 i)) (sym z.0);
    hot = ap (λ (i : ℕ). get_or (afterwards memory).hots i false) z.1;
  };
  others = others;
}
  where
    others : (h : ℕ) → (IsNamed table h → ⊥)
        → IsAsBefore (before memory) (afterwards (put memory 0 (words_in row))) h
    others zero off = absurd (off (1, refl))
    others (suc zero) off = record { object = refl; hot = refl }
    others (suc (suc h)) off = record { object = refl; hot = refl }

-- a state after which its memory is the row's, and which is not what a swap-in leaves
abbrev Leaves : Shown → Type 0
Leaves t = (memory row : List ℕ)
    → IsSpanBrought table class 0 row (before memory) (record t {
      memory = put memory 0 (words_in row);
    })

abbrev place_of : Object → ℕ
place_of (is.Here len place) = place
place_of o = 0

brings_it_hot : Leaves (left (is.Here 2 128 ∷ is.Here 2 600 ∷ []) (true ∷ true ∷ []) (1 ∷ 4 ∷ []) [])
    → ⊥
brings_it_hot x = true_false ((x [] []).brought 1 0 refl).hot
  where
    true_false : true ≡ false → ⊥
    true_false e = cc

brings_it_to_another_slot :
    Leaves (left (is.Here 2 256 ∷ is.Here 2 600 ∷ []) (false ∷ true ∷ []) (1 ∷ 4 ∷ []) []) → ⊥
unfolding words_of bytes_of
brings_it_to_another_slot x =
    let e : 256 ≡ 128 = ap place_of ((x [] []).brought 1 0 refl).here in omega (arith, e)

leaves_it_far :
    Leaves (left (is.Far 2 1 far_words ∷ is.Here 2 600 ∷ []) (false ∷ true ∷ []) (1 ∷ 4 ∷ []) []) → ⊥
leaves_it_far x = far_here ((x [] []).brought 1 0 refl).len _ ((x [] []).brought 1 0 refl).here
  where
    far_here : (len place : ℕ) → is.Far 2 1 far_words ≡ is.Here len place → ⊥
    far_here len place e = cc

moves_another :
    Leaves (left (is.Here 2 128 ∷ is.Here 2 700 ∷ []) (false ∷ true ∷ []) (1 ∷ 4 ∷ []) []) → ⊥
moves_another x = let e : 700 ≡ 600 = ap place_of ((x [] []).others 1 not_one).object in omega (arith, e)

cools_another :
    Leaves (left (is.Here 2 128 ∷ is.Here 2 600 ∷ []) (false ∷ false ∷ []) (1 ∷ 4 ∷ []) []) → ⊥
cools_another x = false_true ((x [] []).others 1 not_one).hot
  where
    false_true : false ≡ true → ⊥
    false_true e = cc

stamps_it :
    Leaves (left (is.Here 2 128 ∷ is.Here 2 600 ∷ []) (false ∷ true ∷ []) (2 ∷ 4 ∷ []) []) → ⊥
stamps_it x = let e : 2 ≡ 1 = ap (λ (l : List ℕ). get_or l 0 0) (x [] []).versions in omega (arith, e)

loses_a_handle : Leaves (left (is.Here 2 128 ∷ []) (false ∷ true ∷ []) (1 ∷ 4 ∷ []) []) → ⊥
loses_a_handle x = let e : 1 ≡ 2 = (x [] []).objects in omega (arith, e)

shortens_the_memory : (row : List ℕ)
    → IsSpanBrought table class 0 row (before (7 ∷ [])) (afterwards []) → ⊥
shortens_the_memory row x = let e : 0 ≡ 1 = ap (λ (l : List ℕ). length l) x.memory
    ∙ length_put (7 ∷ []) 0 (words_in row) in omega (arith, e)

changes_a_word_behind : (m n row : List ℕ) → length row ≡ 4096
    → get_or n 512 0 ≢ get_or m 512 0
    → IsSpanBrought table class 0 row (before m) (afterwards n) → ⊥
changes_a_word_behind m n row long other x = other (ap (λ (l : List ℕ). get_or l 512 0) x.memory
    ∙ put_else m 0 (words_in row) 512
    (inr (let w = length_words (length row / 8) row in omega (arith, w, long))))
