-- The list of an array, of which a number is read, written, put behind or taken away.
use Rattle.std.proofs.Common.{◌≡◌, ◌≢◌, ℕ, suc, ◌+◌, ◌-◌, ◌*◌, ◌/◌, ◌%◌, ◌^◌, ◌<◌, ◌≤◌, Bool, true, false, eqb-true, List, [], ◌∷◌, ◌++◌, length, get_or, slice_get, slice_set, replicate, take, Option, None, Some, refl, sym, ap, ◌∙◌, subst, arith}
use Rattle.std.proofs.lemmas.Bool.{eqb-false}
use Rattle.std.proofs.lemmas.Grind.{flat_map-append}
use Rattle.std.proofs.lemmas.List.{append-nil, get_or-take, length-set, length-take-le, length-append}
use Rattle.std.proofs.lemmas.Option.{slice_get-get_or}
use Rattle.std.specs.List.{AllByRecursion, IsDistinct, flat_map}
use Rattle.cb_mutate.proofs.Laws.{bytes_length}
use Rattle.cb_world.specs.declared.entry.Entry.{Entry}
use Rattle.cb_rule.specs.declared.view.View.{View}
use Rattle.cb_farmap.specs.declared.array.FarArray.{FarArray}
use Rattle.cb_farmap.specs.declared.kept.KeptObject.{KeptObject}
use Rattle.cb_farmap.specs.declared.kept.Stop.{Stop}
use Rattle.cb_farmap.specs.Arrays.{IsArrayOf, PutsNumber, WritesNumber, but_last, bytes_with, is_full, last_of, list_of}
use Rattle.cb_farmap.specs.Changes.{GoesOn, IsBehind, Makes, with_next}
use Rattle.cb_farmap.specs.Numbers.{number_at, numbers}
use Rattle.cb_farmap.specs.Objects.{AreApart, IsObject, blank, bytes_at, bytes_of, numbers_at, object_at}
use Rattle.cb_farmap.proofs.Behind.{apart_more, apart_set, objects_behind}
use Rattle.cb_farmap.proofs.Lists.{all_at, all_more, all_set}
use Rattle.cb_farmap.proofs.Numbers.{number_front, number_written, numbers_get, numbers_long}
use Rattle.cb_farmap.proofs.Objects.{bytes_behind}
use Rattle.cb_farmap.proofs.Pieces.{IsPiece, get_piece, pieces_length, same_pieces, set_piece, take_back, take_less, take_more, take_set}

-- ---- the numbers of objects
pub object_long : (es : List Entry) (k : KeptObject) → IsObject es k → length (bytes_at es k) ≡ 1024
object_long es k o = ap length (ap bytes_of o.is) ∙ bytes_length o.at.after o.at.len ∙ o.long

piece_of : (more es : List Entry) (k : KeptObject) → IsObject es k
    → IsPiece 128 (numbers_at es) (numbers_at (more ++ es)) k
piece_of more es k o = (numbers_long (bytes_at es k), ap numbers (bytes_behind more es k o))

pieces_of : (more es : List Entry) (ks : List KeptObject) → AllByRecursion (IsObject es) ks
    → AllByRecursion (IsPiece 128 (numbers_at es) (numbers_at (more ++ es))) ks
pieces_of more es [] all = tt
pieces_of more es (k ∷ ks) all = (piece_of more es k all.0, pieces_of more es ks all.1)

pieces_here : (es : List Entry) (ks : List KeptObject) → AllByRecursion (IsObject es) ks
    → AllByRecursion (IsPiece 128 (numbers_at es) (numbers_at es)) ks
pieces_here es ks all = pieces_of [] es ks all

pub all_long : (es : List Entry) (ks : List KeptObject) → AllByRecursion (IsObject es) ks
    → length (flat_map (numbers_at es) ks) ≡ 128 * length ks
all_long es ks all = pieces_length 128 (numbers_at es) (numbers_at es) ks (pieces_here es ks all)

-- ---- an array of a record that goes on
module _ (v w : View) (a : FarArray) (of : IsArrayOf v a) where
  pieces_on : (on : GoesOn v w) → AllByRecursion (IsPiece 128 (numbers_at v.written)
      (numbers_at w.written)) a.kept
  pieces_on on = subst (λ (es : List Entry). AllByRecursion
      (IsPiece 128 (numbers_at v.written) (numbers_at es)) a.kept) (sym on.behind.1)
      (pieces_of on.behind.0 v.written a.kept of.objects)

  numbers_on : GoesOn v w → flat_map (numbers_at w.written) a.kept
      ≡ flat_map (numbers_at v.written) a.kept
  numbers_on on =
      same_pieces 128 (numbers_at v.written) (numbers_at w.written) a.kept (pieces_on on)

  pub array_on : GoesOn v w → (s : Option Stop) → IsArrayOf w (record a { stop = s })
  array_on on s = record {
    objects = objects_behind v w a.kept on.behind of.objects;
    apart = of.apart;
    within = of.within;
  }

  pub list_on : GoesOn v w → (s : Option Stop)
      → list_of w (record a { stop = s }) ≡ list_of v a
  list_on on s = ap (take a.len) (numbers_on on)

  -- ---- the object of a number
  module _ (i : ℕ) (within : i < a.len) where
    pub place_in : i / 128 < length a.kept
    place_in = let room = of.within in omega (arith, room, within)

    pub object_in : IsObject v.written (object_at a.kept (i / 128))
    object_in = all_at (IsObject v.written) a.kept (i / 128) blank of.objects place_in

    split : 128 * (i / 128) + i % 128 ≡ i
    split = omega arith

    low : i % 128 < 128
    low = omega arith

    pub number_in : (x : ℕ)
        → x ≡ number_at (bytes_at v.written (object_at a.kept (i / 128))) (i % 128)
        → x ≡ get_or (list_of v a) i 0
    number_in x is = is
        ∙ sym (numbers_get (bytes_at v.written (object_at a.kept (i / 128))) (i % 128) low)
        ∙ sym (get_piece 128 (numbers_at v.written) (numbers_at v.written) a.kept (i / 128) (i % 128)
        blank 0 (pieces_here v.written a.kept of.objects) place_in low)
        ∙ ap (λ (n : ℕ). get_or (flat_map (numbers_at v.written) a.kept) n 0) split
        ∙ sym (get_or-take a.len (flat_map (numbers_at v.written) a.kept) i 0 within)

  -- ---- a number that is written, at a place that the objects have
  module _ (on : GoesOn v w) (i x : ℕ) (place : i / 128 < length a.kept) (small : x < 2 ^ 64)
      (later : List KeptObject) (wrote : WritesNumber a.kept i x later v w) where
    abbrev k : KeptObject
    k = object_at a.kept (i / 128)

    there : IsObject v.written k
    there = all_at (IsObject v.written) a.kept (i / 128) blank of.objects place

    spot : i % 128 < 128
    spot = omega arith

    whole : 128 * (i / 128) + i % 128 ≡ i
    whole = omega arith

    numbers_new : numbers_at w.written (with_next k)
        ≡ slice_set (numbers_at v.written k) (i % 128) x
    numbers_new = ap numbers wrote.wrote.bytes_are
        ∙ number_written (bytes_at v.written k) (i % 128) x (object_long v.written k there) spot small

    numbers_set : flat_map (numbers_at w.written) later
        ≡ slice_set (flat_map (numbers_at v.written) a.kept) i x
    numbers_set = ap (flat_map (numbers_at w.written)) wrote.kept
        ∙ set_piece 128 (numbers_at v.written) (numbers_at w.written) a.kept (i / 128) (i % 128) x
        (with_next k) blank (pieces_on on) place spot numbers_new
        ∙ ap (λ (n : ℕ). slice_set (flat_map (numbers_at v.written) a.kept) n x) whole

    objects_set : AllByRecursion (IsObject w.written) later
    objects_set = subst (AllByRecursion (IsObject w.written)) (sym wrote.kept)
        (all_set (IsObject w.written) a.kept (i / 128) (with_next k) (objects_behind v w a.kept on.behind of.objects)
        wrote.wrote.object)

    apart_after : AreApart later
    apart_after = subst AreApart (sym wrote.kept)
        (apart_set a.kept (i / 128) (with_next k) refl of.apart)

    count_same : length later ≡ length a.kept
    count_same = ap length wrote.kept ∙ length-set a.kept (i / 128) (with_next k)

    -- in the place of another one
    pub array_set : IsArrayOf w (record a { kept = later })
    array_set = record {
      objects = objects_set;
      apart = apart_after;
      within = let room = of.within in let same = count_same in omega (arith, room, same);
    }

    pub list_set : list_of w (record a { kept = later }) ≡ slice_set (list_of v a) i x
    list_set = ap (take a.len) numbers_set
        ∙ take_set (flat_map (numbers_at v.written) a.kept) a.len i x

-- ---- a number that is put behind the last one
module _ (v w : View) (a : FarArray) (of : IsArrayOf v a) (on : GoesOn v w) (x : ℕ)
    (small : x < 2 ^ 64) (later : List KeptObject) where
  abbrev pushed : FarArray
  pushed = record { kept = later; len = a.len + 1; stop = a.stop }

  abbrev all : List ℕ
  all = flat_map (numbers_at v.written) a.kept

  count : length all ≡ 128 * length a.kept
  count = all_long v.written a.kept of.objects

  -- into an object that has room
  into : a.len ≢ 128 * length a.kept → WritesNumber a.kept a.len x later v w
      → IsArrayOf w pushed × (list_of w pushed ≡ list_of v a ++ x ∷ [])
  into room wrote = (
    record {
      objects = objects_set v w a of on a.len x place small later wrote;
      apart = apart_after v w a of on a.len x place small later wrote;
      within = let same = count_same v w a of on a.len x place small later wrote in
          omega (arith, free, same);
    },
    ap (take (a.len + 1)) (numbers_set v w a of on a.len x place small later wrote)
        ∙ (let one : a.len + 1 ≡ suc a.len = omega arith in
        ap (λ (n : ℕ). take n (slice_set all a.len x)) one)
        ∙ take_more all a.len x (let n = count in omega (arith, free, n)),
  )
    where
      free : a.len < 128 * length a.kept
      free = let within = of.within in omega (arith, within, room)

      place : a.len / 128 < length a.kept
      place = omega (arith, free)

  -- into a new one, where all are full
  first_number : (bytes : List ℕ) → bytes ≡ bytes_with x → take 1 (numbers bytes) ≡ x ∷ []
  first_number bytes is = one (numbers bytes) (let n = numbers_long bytes in omega (arith, n))
      ∙ ap (λ (n : ℕ). n ∷ []) (numbers_get bytes 0 (omega arith)
      ∙ ap (λ (l : List ℕ). number_at l 0) is ∙ number_front x (replicate 1016 0) small)
    where
      one : (xs : List ℕ) → 1 ≤ length xs → take 1 xs ≡ get_or xs 0 0 ∷ []
      one [] some = absurd (omega (arith, some))
      one (y ∷ xs) some = refl

  beside : a.len ≡ 128 * length a.kept → Makes v.written a.kept later (bytes_with x) w.written
      → IsArrayOf w pushed × (list_of w pushed ≡ list_of v a ++ x ∷ [])
  beside full made = (
    record {
      objects = subst (AllByRecursion (IsObject w.written)) (sym made.more)
          (all_more (IsObject w.written) a.kept made.made (objects_behind v w a.kept on.behind of.objects) made.object);
      apart = subst AreApart (sym made.more)
          (apart_more v.written a.kept made.made made.fresh of.objects of.apart);
      within = let n = ap length made.more ∙ length-append a.kept (made.made ∷ []) in
          omega (arith, full, n);
    },
    ap (λ (l : List KeptObject). take (a.len + 1) (flat_map (numbers_at w.written) l)) made.more
        ∙ ap (take (a.len + 1)) (flat_map-append (numbers_at w.written) a.kept (made.made ∷ [])
        ∙ (λ i. numbers_on v w a of on i ++ append-nil (numbers_at w.written made.made) i))
        ∙ ap (λ (n : ℕ). take (n + 1) (all ++ numbers_at w.written made.made)) (full ∙ sym count)
        ∙ take_behind all (numbers_at w.written made.made)
        ∙ ap (λ (l : List ℕ). all ++ l) (first_number (bytes_at w.written made.made) made.bytes_are)
        ∙ ap (λ (l : List ℕ). l ++ x ∷ []) (sym (take-all all a.len (full ∙ sym count))),
  )
    where
      take_behind : (xs ys : List ℕ) → take (length xs + 1) (xs ++ ys) ≡ xs ++ take 1 ys
      take_behind [] ys = refl
      take_behind (z ∷ xs) ys =
          (let e : length (z ∷ xs) + 1 ≡ suc (length xs + 1) = omega arith in
          ap (λ (n : ℕ). take n (z ∷ xs ++ ys)) e)
          ∙ ap (λ (l : List ℕ). z ∷ l) (take_behind xs ys)

      take-all : (xs : List ℕ) (n : ℕ) → n ≡ length xs → take n xs ≡ xs
      take-all xs n is = ap (λ (m : ℕ). take m xs) is
          ∙ ap (take (length xs)) (sym (append-nil xs)) ∙ take_back xs []

  either : (full : Bool) → is_full a.kept a.len ≡ full → PutsNumber full a.kept a.len x later v w
      → IsArrayOf w pushed × (list_of w pushed ≡ list_of v a ++ x ∷ [])
  either true is made = beside (eqb-true a.len (128 * length a.kept) is) made
  either false is wrote = into (eqb-false a.len (128 * length a.kept) is) wrote

  pub array_pushed : PutsNumber (is_full a.kept a.len) a.kept a.len x later v w
      → IsArrayOf w pushed × (list_of w pushed ≡ list_of v a ++ x ∷ [])
  array_pushed put = either (is_full a.kept a.len) refl put

-- ---- the last number is taken away
module _ (v w : View) (a : FarArray) (of : IsArrayOf v a) (on : GoesOn v w) where
  abbrev popped : FarArray
  popped = record a { len = a.len - 1 }

  list_long : length (list_of v a) ≡ a.len
  list_long = length-take-le a.len (flat_map (numbers_at v.written) a.kept)
      (let n = all_long v.written a.kept of.objects in let room = of.within in
      omega (arith, n, room))

  pub array_popped : IsArrayOf w popped
  array_popped = record {
    objects = objects_behind v w a.kept on.behind of.objects;
    apart = of.apart;
    within = let room = of.within in omega (arith, room);
  }

  pub list_popped : list_of w popped ≡ but_last (list_of v a)
  list_popped = ap (take (a.len - 1)) (numbers_on v w a of on)
      ∙ sym (ap (λ (n : ℕ). take (n - 1) (list_of v a)) list_long
      ∙ take_less (flat_map (numbers_at v.written) a.kept) a.len (a.len - 1) (omega arith))

  pub last_popped : 0 < a.len → (x : ℕ) → x ≡ get_or (list_of v a) (a.len - 1) 0
      → Some x ≡ last_of (list_of v a)
  last_popped some x is = ap Some is
      ∙ sym (slice_get-get_or (list_of v a) (a.len - 1) 0 (let n = list_long in omega (arith, n, some)))
      ∙ ap (λ (n : ℕ). slice_get (list_of v a) (n - 1)) (sym list_long)

-- ---- an empty one
pub none_last : (v : View) (a : FarArray) → a.len ≡ 0 → None ≡ last_of (list_of v a)
none_last v a is = sym (ap (λ (n : ℕ). last_of (take n (flat_map (numbers_at v.written) a.kept))) is
    ∙ (λ i. slice_get (nothing i) (length (nothing i) - 1)))
  where
    nothing : take 0 (flat_map (numbers_at v.written) a.kept) ≡ []
    nothing = none (flat_map (numbers_at v.written) a.kept)
      where
        none : (xs : List ℕ) → take 0 xs ≡ []
        none [] = refl
        none (x ∷ xs) = refl

-- it is an array of any pass, and its list is empty
abbrev without_numbers : List KeptObject → FarArray
without_numbers ks = record { kept = ks; len = 0; stop = None }

pub fresh_array : (v : View) (ks : List KeptObject) → ks ≡ []
    → IsArrayOf v (without_numbers ks) × (list_of v (without_numbers ks) ≡ [])
unfolding IsDistinct
fresh_array v ks is = subst
    (λ (l : List KeptObject). IsArrayOf v (without_numbers l) × (list_of v (without_numbers l) ≡ []))
    (sym is) (record { objects = tt; apart = tt; within = omega arith }, refl)

-- ---- an array stays, with its list, where more entries come in front: when calls are made on the
-- pass, when it is split, and when another is joined
pub list_stays : (v w : View) (a : FarArray) → IsArrayOf v a → IsBehind v.written w.written
    → list_of w a ≡ list_of v a
list_stays v w a of behind = list_on v (record v { written = w.written }) a of
    (record { behind = behind; pins = refl; share = refl }) a.stop

pub array_stays : (v w : View) (a : FarArray) → IsArrayOf v a → IsBehind v.written w.written
    → IsArrayOf w a
array_stays v w a of behind = record {
  objects = objects_behind v w a.kept behind of.objects;
  apart = of.apart;
  within = of.within;
}
