-- The objects of a span are brought in, slot by slot.
use Rattle.std.proofs.Common.{◌≡◌, ◌≢◌, ℕ, false, ◌+◌, ◌<◌, ◌≤◌, List, [], ◌∷◌, ◌++◌, length, get_or, Option, Some, None, sym, refl, ap, ◌∙◌, subst, arith, inl, inr, length-set, get_or-set_same, get_or-set_other}
use Rattle.std.proofs.lemmas.Bool.{cases_eq}
use Rattle.std.specs.Option.{IfSome}
use Rattle.cb_class.specs.declared.class.Class.{Class}
use Rattle.cb_class.specs.Class.{IsClass, IsClassOf, pages_of, slots_of}
use Rattle.cb_class.proofs.Laws.{object_fits, slot_in_run, slots_apart}
use Rattle.cb_ptr.specs.Word.{len_of}
use Rattle.cb_span.specs.Places.{slot_place}
use Rattle.cb_world.specs.declared.access.Access.{Access}
use Rattle.cb_world.specs.declared.access.Access.TheVariants.{Looked, Settled}
use Rattle.cb_world.specs.declared.entry.Entry.{Entry}
use Rattle.cb_world.specs.declared.homes.Home.{Home}
use Rattle.cb_world.specs.declared.object.Object.TheVariants as is
use Rattle.cb_world.specs.declared.shown.Shown.{Shown}
use Rattle.cb_world.specs.Memory.{window, words_for}
use Rattle.cb_world.specs.Shown.{Avoids, Covers, object_at, never}
use Rattle.cb_world.specs.Played.{played}
use Rattle.cb_world.specs.Looks.{LooksFirst}
use Rattle.cb_world.specs.Allowed.{Allowed}
use Rattle.cb_world.specs.Written.{Writes, written_by}
use Rattle.cb_world.proofs.Laws.{played_append, written_append, allowed_append}
use Rattle.cb_swapin.specs.Named.{NamesApart, NamesHandle}
use Rattle.cb_swapin.specs.Brings.{BringsSlots}
use Rattle.cb_swapin.specs.Waiting.{AreStored, IsReady, IsStored}
use Rattle.cb_swapin.specs.BroughtIn.{AreBrought, BringsSlot, Brought, IsAsBefore, IsBrought, with_here}
use Rattle.cb_swapin.proofs.SlotNames.{BringsBelow, below_append, below_brings, below_first, below_more, name_same, named_below, named_within, no_name, not_before}

pub far_same : (a v b u : ℕ) (x y : List ℕ) → is.Far a v x ≡ is.Far b u y → a ≡ b
far_same a v b u x y e = cc

-- ---- one object more can be settled
-- an object that was brought before does not lie in the next slot
other_slot : (s t : Shown) (class : Class) (f i m k len p : ℕ) → IsClass class → m < i
    → IsStored s f class m k → IsBrought s t class f m k → IsClassOf len class
    → Covers (slot_place class f i) len p → Avoids p (object_at t k)
other_slot s t class f i m k len p valid before st b fits covers =
    let same : b.len ≡ st.len =
    far_same b.len b.version st.len st.version b.words st.words (sym b.was ∙ st.away) in
    subst (Avoids p) (sym b.here) (λ c.
    let room = object_fits st.len class st.fits in
    let apart = slots_apart class m i before in
    omega (arith, c.0, c.1, covers.0, covers.1, room, apart, same))

pub ready_next : (s t : Shown) (class : Class) (f i h : ℕ) (slots : List (Option ℕ))
    → IsClass class → length slots ≡ slots_of class → NamesApart slots → AreStored s f class slots
    → AreBrought i slots class f s t → NamesHandle slots i h → IsReady t h (slot_place class f i)
ready_next s t class f i h slots valid sized apart stored b named =
    let st = stored.each i h named in
    let within : i < slots_of class = let w = named_within slots i h named in
    omega (arith, w, sized) in
    let ends = slot_in_run class i valid within in
    let room = object_fits st.len class st.fits in
    let before = b.others h (λ slot below e. not_before slots i h apart named (slot, below, e)) in
    record {
      len = st.len;
      version = st.version;
      words = st.words;
      away = before.object ∙ st.away;
      stamp = ap (λ (l : List ℕ). get_or l h 0) b.versions ∙ st.stamp;
      contents = ap (λ (l : List ℕ). window l (slot_place class f i) (words_for st.len)) b.memory
          ∙ st.contents;
      alone = λ p covers. (
        (let m = ap length b.memory in
            omega (arith, m, covers.0, covers.1, room, ends, stored.vacant.within)),
        λ k off. elim (named_below i slots k) [
          | inl x ↦ other_slot s t class f i x.0 k st.len p valid x.1 (stored.each x.0 k x.2)
              (b.brought x.0 k x.1 x.2) st.fits covers
          | inr none ↦
              let same = (b.others k (λ slot below e. none (slot, below, e))).object in
              subst (Avoids p) (sym same) (stored.vacant.none p k (
                omega (arith, covers.0),
                omega (arith, covers.1, room, ends),
              ))
        ],
      );
    }

-- ---- what is known then
pub one_brought : (s t u : Shown) (class : Class) (f i h w : ℕ) (slots : List (Option ℕ))
    → NamesApart slots → AreStored s f class slots → AreBrought i slots class f s t
    → NamesHandle slots i h
    → ((n v : ℕ) (words : List ℕ) → object_at t h ≡ is.Far n v words → len_of w ≡ n)
    → u ≡ with_here t h (len_of w) (slot_place class f i) → AreBrought (i + 1) slots class f s u
one_brought s t u class f i h w slots apart stored b named len_is came =
    subst (AreBrought (i + 1) slots class f s) (sym came) (record {
      first = b.first;
      versions = b.versions;
      memory = b.memory;
      objects = length-set t.objects h (is.Here (len_of w) place) ∙ b.objects;
      hots = length-set t.hots h false ∙ b.hots;
      brought = λ slot k below e. elim (cases_eq slot i) [
        | inl same ↦
            let e_i : NamesHandle slots i k = subst (λ (n : ℕ). NamesHandle slots n k) same e in
            let here : k ≡ h = name_same k h (sym e_i ∙ named) in
            subst (λ (n : ℕ). IsBrought s v class f n k) (sym same)
            (subst (IsBrought s v class f i) (sym here) (record {
              len = st.len;
              version = st.version;
              words = st.words;
              was = st.away;
              here = get_or-set_same t.objects h (is.Here (len_of w) place) never
                  (omega (arith, st.handle, b.objects))
                  ∙ ap (λ (n : ℕ). is.Here n place)
                  (len_is st.len st.version st.words (before.object ∙ st.away));
              hot = get_or-set_same t.hots h false false (omega (arith, st.flag, b.hots));
            }))
        | inr off ↦
            let x = b.brought slot k (omega (arith, below, off)) e in
            let other : k ≢ h =
            λ same. off (apart slot i h (subst (NamesHandle slots slot) same e) named) in record {
              len = x.len;
              version = x.version;
              words = x.words;
              was = x.was;
              here = get_or-set_other t.objects h k (is.Here (len_of w) place) never other
                  ∙ x.here;
              hot = get_or-set_other t.hots h k false false other ∙ x.hot;
            }
      ];
      others = λ k none.
          let x = b.others k (λ slot below e. none slot (omega (arith, below)) e) in
          let other : k ≢ h =
          λ same. none i (omega arith) (subst (NamesHandle slots i) (sym same) named) in record {
            object = get_or-set_other t.objects h k (is.Here (len_of w) place) never other
                ∙ x.object;
            hot = get_or-set_other t.hots h k false false other ∙ x.hot;
          };
    })
  where
    place : ℕ
    place = slot_place class f i

    v : Shown
    v = with_here t h (len_of w) (slot_place class f i)

    st : IsStored s f class i h
    st = stored.each i h named

    before : IsAsBefore s t h
    before = b.others h (λ slot below e. not_before slots i h apart named (slot, below, e))

pub skip_brought : (s t : Shown) (class : Class) (f i : ℕ) (slots : List (Option ℕ))
    → AreBrought i slots class f s t → get_or slots i None ≡ None
    → AreBrought (i + 1) slots class f s t
skip_brought s t class f i slots b empty = record {
  first = b.first;
  versions = b.versions;
  memory = b.memory;
  objects = b.objects;
  hots = b.hots;
  brought = λ slot k below e. elim (cases_eq slot i) [
    | inl same ↦ absurd (no_name k (sym (ap (λ (n : ℕ). get_or slots n None) same ∙ empty) ∙ e))
    | inr off ↦ b.brought slot k (omega (arith, below, off)) e
  ];
  others = λ k none. b.others k (λ slot below e. none slot (omega (arith, below)) e);
}

-- ---- the loop
-- the objects of the first slots are brought in
abbrev pub BroughtBelow : (List Access → Type 0) → (Shown → Type 0) → ℕ → List (Option ℕ) → Class → ℕ
    → Type 0
BroughtBelow runs knows i slots class f =
    Brought runs knows (BringsBelow i slots) (AreBrought i slots class f)

pub none_brought : (runs : List Access → Type 0) (knows : Shown → Type 0) (slots : List (Option ℕ))
    (class : Class) (f : ℕ) → runs [] → BroughtBelow runs knows 0 slots class f
none_brought runs knows slots class f ran = record {
  events = [];
  ran = ran;
  tells = tt;
  looks_first = tt;
  allowed = λ s k. tt;
  nothing = λ s k old. refl;
  effect = λ s k. record {
    first = refl;
    versions = refl;
    memory = refl;
    objects = refl;
    hots = refl;
    brought = λ slot h below e. absurd (omega (arith, below));
    others = λ h none. record { object = refl; hot = refl };
  };
}

-- what the next slot's events add
pub record AddsSlot (knows : Shown → Type 0) (i : ℕ) (slots : List (Option ℕ)) (class : Class)
    (f : ℕ) (es fs : List Access) : Type 0 where
  pub tells : BringsBelow (i + 1) slots fs
  pub looks_first : LooksFirst (es ++ fs)
  pub allowed : (s : Shown) → knows s → Allowed (played es s) fs
  pub nothing : (s : Shown) → knows s → Writes fs (played es s) []
  pub effect : (s : Shown) → knows s → AreBrought (i + 1) slots class f s (played fs (played es s))

slot_added : (runs next : List Access → Type 0) (knows : Shown → Type 0) (i : ℕ)
    (slots : List (Option ℕ)) (class : Class) (f : ℕ) (b : BroughtBelow runs knows i slots class f)
    (fs : List Access) → next (b.events ++ fs) → AddsSlot knows i slots class f b.events fs
    → BroughtBelow next knows (i + 1) slots class f
slot_added runs next knows i slots class f b fs ran x = record {
  events = b.events ++ fs;
  ran = ran;
  tells = below_append (i + 1) slots b.events fs (below_more i slots b.events b.tells) x.tells;
  looks_first = x.looks_first;
  allowed = λ s k. allowed_append b.events fs s (b.allowed s k) (x.allowed s k);
  nothing = λ s k old. written_append b.events fs s old
      ∙ ap (λ (l : List Entry). written_by fs (played b.events s) l) (b.nothing s k old)
      ∙ x.nothing s k old;
  effect = λ s k. subst (AreBrought (i + 1) slots class f s) (sym (played_append b.events fs s))
      (x.effect s k);
}

no_more : (es : List Access) → es ++ [] ≡ es
no_more [] = refl
no_more (e ∷ es) = ap (λ (l : List Access). e ∷ l) (no_more es)

-- one slot more
pub slot_brought : (runs last next : List Access → Type 0) (knows later : Shown → Type 0) (i : ℕ)
    (slots : List (Option ℕ)) (class : Class) (f : ℕ) (homes new : List (Option Home))
    (b : BroughtBelow runs knows i slots class f)
    → ((fs : List Access) → last fs → next (b.events ++ fs))
    → ((s : Shown) → knows s → later (played b.events s))
    → ((s : Shown) → knows s → AreStored s f class slots)
    → IsClass class → length slots ≡ slots_of class → NamesApart slots
    → (o : Option ℕ) → get_or slots i None ≡ o
    → BringsSlot last later homes new (slot_place class f i) o
    → BroughtBelow next knows (i + 1) slots class f
slot_brought runs last next knows later i slots class f homes new b more after_b stored valid sized
    apart None e done =
    slot_added runs next knows i slots class f b [] (more [] done.0) (record {
      tells = tt;
      looks_first = subst LooksFirst (sym (no_more b.events)) b.looks_first;
      allowed = λ s k. tt;
      nothing = λ s k old. refl;
      effect = λ s k. skip_brought s (played b.events s) class f i slots (b.effect s k) e;
    })
slot_brought runs last next knows later i slots class f homes new b more after_b stored valid sized
    apart (Some h) e done =
    let w = done.0 in let x = done.1 in let fs = Looked h w ∷ Settled h x ∷ [] in
    let one = λ (s : Shown) (k : knows s). done.4 (played b.events s) (after_b s k)
    (ready_next s (played b.events s) class f i h slots valid sized apart (stored s k)
    (b.effect s k) e) in
    slot_added runs next knows i slots class f b fs (more fs done.2) (record {
      tells = ((i, omega arith, e), ((i, omega arith, e), tt));
      looks_first = below_first i slots h w x b.events apart e b.tells b.looks_first;
      allowed = λ s k. (tt, ((one s k).may, tt));
      nothing = λ s k. (one s k).nothing;
      effect = λ s k. one_brought s (played b.events s) (played fs (played b.events s)) class f i h
          w slots apart (stored s k) (b.effect s k) e (one s k).len (one s k).settled;
    })

pub all_brought : (runs : List Access → Type 0) (knows : Shown → Type 0) (i : ℕ)
    (slots : List (Option ℕ)) (class : Class) (f : ℕ) → length slots ≤ i → i ≤ length slots
    → BroughtBelow runs knows i slots class f
    → Brought runs knows (BringsSlots slots f (pages_of class))
    (AreBrought (length slots) slots class f)
all_brought runs knows i slots class f past most b =
    let same : i ≡ length slots = omega (arith, past, most) in record {
      events = b.events;
      ran = b.ran;
      tells = below_brings i slots f (pages_of class) b.events b.tells;
      looks_first = b.looks_first;
      allowed = b.allowed;
      nothing = b.nothing;
      effect = λ s k. subst (λ (n : ℕ). AreBrought n slots class f s (played b.events s)) same
          (b.effect s k);
    }

-- what is owed where an option has a value
pub if_some : (P : ℕ → Type 0) (o : Option ℕ) → ((h : ℕ) → o ≡ Some h → P h) → IfSome o P
if_some P None each = tt
if_some P (Some h) each = each h refl
