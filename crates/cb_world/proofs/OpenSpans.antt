-- The index of open spans stays exact as the span in one frame changes.
use Rattle.std.proofs.Common.{◌≡◌, ◌≢◌, ℕ, ◌+◌, ◌<◌, Bool, true, false, List, [], Option, None, Some, length, set, get_or, replicate, refl, sym, ap, ◌∙◌, subst, arith, inl, inr, length-set, get_or-set_other, get_or-set_same}
use Rattle.std.proofs.lemmas.Bool.{cases_eq, cases_lt, cases_Bool, eqb-true, eq-eqb}
use Rattle.std.proofs.lemmas.List.{get_or_default, get_or-replicate, get_or_past, length-replicate}
use Rattle.std.specs.List.{Contains}
use Rattle.cb_frame.specs.FrameSet.{least_from}
use Rattle.cb_frame.proofs.Laws.{contains-no_frames, least_from-Some, least_from-None}
use Rattle.std.specs.Prelude.{nat_eq}
use Rattle.cb_frame.specs.FrameSet.{contains, no_frames}
use Rattle.std.specs.Option.{IfSome}
use Rattle.cb_class.specs.declared.class.Class.{Class}
use Rattle.cb_span.specs.declared.temp.Temp.{Temp}
use Rattle.cb_span.specs.Contents.{Contents, least_empty, live_count}
use Rattle.cb_span.proofs.Laws.{least_empty_full, live_count-no_empty}
use Rattle.cb_world.proofs.Apart.{some_same}
use Rattle.cb_world.specs.FarState.{span_in}
use Rattle.cb_world.specs.OpenSpans.{IsIndex, IsOpenSpan, MayTake, frames_of, with_flag, retold, is_kind, kind_if, kind_of, kinds, open_kind}

-- one flag of one set is as said, and every other as it was
record Flags (sets new : List (List Bool)) (n f : ℕ) (o : Option ℕ) (bit : Bool) : Type 0 where
  count : length new ≡ length sets
  sized : (k : ℕ) → k < kinds → length (frames_of new k) ≡ n
  at : (k : ℕ) → k < kinds → is_kind o k ≡ true → contains (frames_of new k) f ≡ bit
  off : (k : ℕ) → k < kinds → is_kind o k ≡ false → frames_of new k ≡ frames_of sets k
  else : (k g : ℕ) → k < kinds → g ≢ f
      → contains (frames_of new k) g ≡ contains (frames_of sets k) g

same_kind : (a k : ℕ) → nat_eq a k ≡ true → a ≡ k
same_kind a k e = eqb-true a k e

kind_itself : (a : ℕ) → nat_eq a a ≡ false → ⊥
kind_itself a e = let t = eq-eqb a a refl in absurd (cc)

flags : (sets : List (List Bool)) (n f : ℕ) (o : Option ℕ) (bit : Bool) → length sets ≡ kinds
    → ((k : ℕ) → k < kinds → length (frames_of sets k) ≡ n) → f < n
    → ((a : ℕ) → o ≡ Some a → a < kinds) → Flags sets (with_flag sets f o bit) n f o bit
flags sets n f None bit count sized within below = record {
  count = refl;
  sized = sized;
  at = λ k low e. absurd (cc);
  off = λ k low e. refl;
  else = λ k g low apart. refl;
}
flags sets n f (Some a) bit count sized within below =
    let mine : List Bool = set (frames_of sets a) f bit in
    let low : a < kinds = below a refl in
    let here : frames_of (set sets a mine) a ≡ mine =
    get_or-set_same sets a mine [] (omega (arith, low, count)) in
    let there : (k : ℕ) → k ≢ a → frames_of (set sets a mine) k ≡ frames_of sets k =
    λ k apart. get_or-set_other sets a k mine [] apart in
    record {
      count = length-set sets a mine;
      sized = λ k within'. elim (cases_eq k a) [
        | inl e ↦ subst (λ (i : ℕ). length (frames_of (set sets a mine) i) ≡ n) (sym e)
            (ap length here ∙ length-set (frames_of sets a) f bit ∙ sized a low)
        | inr apart ↦ ap length (there k apart) ∙ sized k within'
      ];
      at = λ k within' e.
          subst (λ (i : ℕ). contains (frames_of (set sets a mine) i) f ≡ bit) (same_kind a k e)
          (ap (λ (l : List Bool). contains l f) here
          ∙ get_or-set_same (frames_of sets a) f bit false (omega (arith, within, sized a low)));
      off = λ k within' e. elim (cases_eq k a) [
        | inl same ↦ absurd (kind_itself a
            (subst (λ (i : ℕ). nat_eq a i ≡ false) same e))
        | inr apart ↦ there k apart
      ];
      else = λ k g within' apart. elim (cases_eq k a) [
        | inl e ↦ subst (λ (i : ℕ). contains (frames_of (set sets a mine) i) g
            ≡ contains (frames_of sets i) g) (sym e)
            (ap (λ (l : List Bool). contains l g) here
            ∙ get_or-set_other (frames_of sets a) f g bit false apart)
        | inr off ↦ ap (λ (l : List Bool). contains l g) (there k off)
      ];
    }

pub index_kept : (spans : List (Option Contents)) (sets : List (List Bool)) (f : ℕ)
    (new : Option Contents) (before after : Option ℕ) → IsIndex spans sets → f < length spans
    → before ≡ open_kind (span_in spans f) → after ≡ open_kind new
    → ((a : ℕ) → before ≡ Some a → a < kinds) → ((a : ℕ) → after ≡ Some a → a < kinds)
    → IsIndex (set spans f new) (retold sets f before after)
index_kept spans sets f new before after index within was is low_before low_after =
    let n = length spans in
    let mid = with_flag sets f before false in
    let one = flags sets n f before false index.count index.sized within low_before in
    let two = flags mid n f after true (one.count ∙ index.count) one.sized within low_after in
    let end = retold sets f before after in
    let stands : span_in (set spans f new) f ≡ new = get_or-set_same spans f new None within in
    record {
      count = two.count ∙ one.count ∙ index.count;
      sized = λ k low. two.sized k low ∙ sym (length-set spans f new);
      exact = λ k g low. elim (cases_eq g f) [
        | inr apart ↦ two.else k g low apart ∙ one.else k g low apart ∙ index.exact k g low
            ∙ ap (λ (o : Option Contents). is_kind (open_kind o) k)
            (sym (get_or-set_other spans f g new None apart))
        | inl e ↦
            subst (λ (i : ℕ). contains (frames_of end k) i
            ≡ is_kind (open_kind (span_in (set spans f new) i)) k) (sym e)
            (flag k low ∙ ap (λ (o : Option ℕ). is_kind o k) is
            ∙ ap (λ (o : Option Contents). is_kind (open_kind o) k) (sym stands))
      ];
    }
  where
    flag : (k : ℕ) → k < kinds → contains (frames_of (retold sets f before after) k) f
        ≡ is_kind after k
    flag k low =
        let mid = with_flag sets f before false in
        let one = flags sets (length spans) f before false index.count index.sized within low_before
        in
        let two = flags mid (length spans) f after true (one.count ∙ index.count) one.sized within
        low_after in
        elim (cases_Bool (is_kind after k)) [
          | inl yes' ↦ two.at k low yes' ∙ sym yes'
          | inr no' ↦ ap (λ (l : List Bool). contains l f) (two.off k low no')
              ∙ clear k low one ∙ sym no'
        ]
      where
        clear : (k : ℕ) → k < kinds
            → Flags sets (with_flag sets f before false) (length spans) f before false
            → contains (frames_of (with_flag sets f before false) k) f ≡ false
        clear k low one = elim (cases_Bool (is_kind before k)) [
          | inl yes' ↦ one.at k low yes'
          | inr no' ↦ ap (λ (l : List Bool). contains l f) (one.off k low no')
              ∙ index.exact k f low ∙ ap (λ (o : Option ℕ). is_kind o k) (sym was) ∙ no'
        ]

abbrev no_contents : Option Contents
no_contents = None

-- without spans no set has a frame
pub index_new : (count : ℕ) → IsIndex (replicate count None) (replicate kinds (no_frames count))
index_new count = record {
  count = length-replicate kinds (no_frames count);
  sized = λ k low. ap length (of_kind k low) ∙ length-replicate count false
      ∙ sym (length-replicate count no_contents);
  exact = λ k f low. ap (λ (l : List Bool). contains l f) (of_kind k low)
      ∙ contains-no_frames count f
      ∙ ap (λ (o : Option Contents). is_kind (open_kind o) k) (sym (no_span f));
}
  where
    of_kind : (k : ℕ) → k < kinds → frames_of (replicate kinds (no_frames count)) k ≡ no_frames count
    of_kind k low = get_or-replicate kinds k (no_frames count) [] low

    no_span : (f : ℕ) → span_in (replicate count None) f ≡ None
    no_span f = elim (cases_lt f count) [
      | inl below ↦ get_or-replicate count f None None below
      | inr past ↦ get_or_past (replicate count None) f None
          (omega (arith, past, length-replicate count no_contents))
    ]

pub index_begun : (spans : List (Option Contents)) (sets : List (List Bool)) (count : ℕ)
    → spans ≡ replicate count None → sets ≡ replicate kinds (no_frames count) → IsIndex spans sets
index_begun spans sets count e q =
    subst (λ (l : List (Option Contents)). IsIndex l sets) (sym e)
    (subst (λ (l : List (List Bool)). IsIndex (replicate count None) l) (sym q) (index_new count))

below_some : (o : Option ℕ) → IfSome o (λ k. k < kinds) → (a : ℕ) → o ≡ Some a → a < kinds
below_some None low a e = absurd (cc)
below_some (Some k) low a e = subst (λ (i : ℕ). i < kinds) (some_same k a e) low

pub index_told : (spans : List (Option Contents)) (sets told : List (List Bool)) (f : ℕ)
    (new : Option Contents) (before after : Option ℕ) → IsIndex spans sets → f < length spans
    → before ≡ open_kind (span_in spans f) → after ≡ open_kind new
    → IfSome before (λ k. k < kinds) → IfSome after (λ k. k < kinds)
    → told ≡ retold sets f before after → IsIndex (set spans f new) told
index_told spans sets told f new before after index within was is low_before low_after e =
    subst (λ (l : List (List Bool)). IsIndex (set spans f new) l) (sym e)
    (index_kept spans sets f new before after index within was is (below_some before low_before)
    (below_some after low_after))

-- what was read in a frame is the span there
read_is : (spans : List (Option Contents)) (f : ℕ) (x : Option Contents) → f < length spans
    → get_or spans f x ≡ x → x ≡ span_in spans f
read_is spans f x within e = sym e ∙ get_or_default spans f x None within

pub index_written : (spans : List (Option Contents)) (sets told : List (List Bool)) (f : ℕ)
    (new x y : Option Contents) (before after : Option ℕ) → IsIndex spans sets → f < length spans
    → get_or spans f x ≡ x → get_or (set spans f new) f y ≡ y
    → before ≡ open_kind x → after ≡ open_kind y
    → IfSome before (λ k. k < kinds) → IfSome after (λ k. k < kinds)
    → told ≡ retold sets f before after → IsIndex (set spans f new) told
index_written spans sets told f new x y before after index within reads ends was is =
    index_told spans sets told f new before after index within
    (was ∙ ap open_kind (read_is spans f x within reads))
    (is ∙ ap open_kind (read_is (set spans f new) f y (omega (
      arith,
      within,
      length-set spans f new,
    )) ends
    ∙ get_or-set_same spans f new None within))

pub kind_when_full : (o : Option Contents) (span : Contents) → o ≡ Some span
    → live_count span ≡ length span.slots → None ≡ open_kind o
kind_when_full o span e full =
    sym (ap open_kind e ∙ ap (kind_if span) (least_empty_full span full))

pub kind_when_open : (o : Option Contents) (span : Contents) (class : Class) (temp : Temp)
    (kind : ℕ) → o ≡ Some span → (live_count span ≡ length span.slots → ⊥)
    → class ≡ span.class → temp ≡ span.temp → kind ≡ kind_of class temp
    → Some kind ≡ open_kind o
kind_when_open o span class temp kind e room same_class same_temp is =
    ap Some (is ∙ ap (λ (c : Class). kind_of c temp) same_class
    ∙ ap (kind_of span.class) same_temp)
    ∙ at (least_empty span) refl ∙ sym (ap open_kind e)
  where
    at : (slot : Option ℕ) → least_empty span ≡ slot
        → Some (kind_of span.class span.temp) ≡ open_kind (Some span)
    at None none = absurd (room (live_count-no_empty span none))
    at (Some slot) found = sym (ap (kind_if span) found)

-- the set of a kind has the frames of the open spans of a class and temperature
pub open_in : (spans : List (Option Contents)) (sets : List (List Bool)) (class : Class)
    (temp : Temp) (kind f : ℕ) → IsIndex spans sets → kind < kinds → kind ≡ kind_of class temp
    → contains (frames_of sets kind) f ≡ true → IsOpenSpan spans class temp f
open_in spans sets class temp kind f index low is e =
    told_kind (open_kind (span_in spans f)) (sym (index.exact kind f low) ∙ e) ∙ ap Some is
  where
    told_kind : (o : Option ℕ) → is_kind o kind ≡ true → o ≡ Some kind
    told_kind None e = absurd (cc)
    told_kind (Some a) e = ap Some (same_kind a kind e)

pub open_out : (spans : List (Option Contents)) (sets : List (List Bool)) (class : Class)
    (temp : Temp) (kind f : ℕ) → IsIndex spans sets → kind < kinds → kind ≡ kind_of class temp
    → contains (frames_of sets kind) f ≡ false → ¬ (IsOpenSpan spans class temp f)
open_out spans sets class temp kind f index low is e open' =
    let t : is_kind (open_kind (span_in spans f)) kind ≡ true =
    ap (λ (o : Option ℕ). is_kind o kind) (open' ∙ ap Some (sym is)) ∙ eq-eqb kind kind refl in
    absurd (let z : false ≡ true = sym e ∙ index.exact kind f low ∙ t in cc)

-- what a look from a start on finds
pub looks_on : (spans : List (Option Contents)) (sets : List (List Bool)) (class : Class)
    (temp : Temp) (except : List ℕ) (kind start f : ℕ) → IsIndex spans sets → kind < kinds
    → kind ≡ kind_of class temp → ((g : ℕ) → g < start → ¬ (MayTake spans class temp except g))
    → least_from (frames_of sets kind) start ≡ Some f
    → IsOpenSpan spans class temp f × ((g : ℕ) → g < f → ¬ (MayTake spans class temp except g))
looks_on spans sets class temp except kind start f index low is before e =
    let x = least_from-Some (frames_of sets kind) start f e in (
      open_in spans sets class temp kind f index low is x.1,
      λ g below may. elim (cases_lt g start) [
        | inl less ↦ before g less may
        | inr from ↦ open_out spans sets class temp kind g index low is (x.2 g from below) may.0
      ],
    )

pub looks_on_past : (spans : List (Option Contents)) (sets : List (List Bool)) (class : Class)
    (temp : Temp) (except : List ℕ) (kind start f : ℕ) → IsIndex spans sets → kind < kinds
    → kind ≡ kind_of class temp → ((g : ℕ) → g < start → ¬ (MayTake spans class temp except g))
    → least_from (frames_of sets kind) start ≡ Some f → Contains except f
    → (g : ℕ) → g < f + 1 → ¬ (MayTake spans class temp except g)
looks_on_past spans sets class temp except kind start f index low is before e among g below may =
    elim (cases_eq g f) [
      | inl same ↦ may.1 (subst (Contains except) (sym same) among)
      | inr apart ↦ (looks_on spans sets class temp except kind start f index low is before e).1 g
          (omega (arith, below, apart)) may
    ]

pub looks_no_more : (spans : List (Option Contents)) (sets : List (List Bool)) (class : Class)
    (temp : Temp) (except : List ℕ) (kind start : ℕ) → IsIndex spans sets → kind < kinds
    → kind ≡ kind_of class temp → ((g : ℕ) → g < start → ¬ (MayTake spans class temp except g))
    → least_from (frames_of sets kind) start ≡ None
    → (g : ℕ) → ¬ (MayTake spans class temp except g)
looks_no_more spans sets class temp except kind start index low is before e g may =
    elim (cases_lt g start) [
      | inl less ↦ before g less may
      | inr from ↦ open_out spans sets class temp kind g index low is
          (least_from-None (frames_of sets kind) start e g from) may.0
    ]
