-- Every word of the still desk after a span was brought in.
use Rattle.std.proofs.Common.{◌≡◌, ℕ, false, ◌*◌, ◌^◌, ◌<◌, List, Option, length, sym, ap, ◌∙◌, subst, arith, inl, inr}
use Rattle.std.proofs.lemmas.Bool.{cases_lt}
use Rattle.std.proofs.lemmas.List.{get_or_past}
use Rattle.cb_class.specs.declared.class.Class.{Class}
use Rattle.cb_ptr.specs.declared.word.PtrWord.{PtrWord}
use Rattle.cb_ptr.specs.declared.word.State.TheVariants as pointer
use Rattle.cb_ptr.specs.Word.{state_of, hot_of, len_of, place_of, pins_of, fields_of, word_of}
use Rattle.cb_ptr.proofs.Laws.{word_of-fields_of}
use Rattle.cb_span.specs.Places.{slot_place}
use Rattle.cb_world.specs.declared.access.Access.{Access}
use Rattle.cb_world.specs.declared.object.Object.{Object}
use Rattle.cb_world.specs.declared.object.Object.TheVariants as is
use Rattle.cb_world.specs.declared.shown.Shown.{Shown}
use Rattle.cb_world.specs.Memory.{put}
use Rattle.cb_world.specs.RowWords.{words_in}
use Rattle.cb_world.specs.Shown.{Fits, object_at, never}
use Rattle.cb_world.specs.Played.{played}
use Rattle.cb_world.specs.Plain.{Words, Shows}
use Rattle.cb_world.specs.StillDesk.{plain_follows, plain_stays}
use Rattle.cb_world.specs.FarState.{FarState}
use Rattle.cb_world.specs.World.{word_at}
use Rattle.cb_world.proofs.Laws.{HereIs, AreHotsKnown, here_after, seen_after, seen_known, FreeIs, free_after, word_back, RunsStill}
use Rattle.cb_swapin.specs.BroughtIn.{IsBrought, IsAsBefore, IsSpanBrought}
use Rattle.cb_swapin.specs.SwapStep.{AreBroughtTo, brought_word}

-- a far object is one of those that are known
pub far_within : (s : Shown) (h len v : ℕ) (words : List ℕ) → object_at s h ≡ is.Far len v words
    → h < length s.objects
far_within s h len v words e = elim (cases_lt h (length s.objects)) [
  | inl within ↦ within
  | inr past ↦ absurd (never_far (sym (get_or_past s.objects h never past) ∙ e))
]
  where
    never_far : never ≡ is.Far len v words → ⊥
    never_far e = cc

-- a word that is here, not hot and without pins is that of its length and place
word_is_brought : (w len place : ℕ) → w < 2 ^ 53 → state_of w ≡ pointer.Here → hot_of w ≡ false
    → pins_of w ≡ 0 → len_of w ≡ len → place_of w ≡ place → w ≡ brought_word len place
word_is_brought w len place below here cold none same at =
    let wanted : PtrWord = record {
      state = pointer.Here;
      hot = false;
      pins = 0;
      len = len;
      place = place;
    } in
    let fields : fields_of w ≡ wanted = λ i. record {
      state = here i;
      hot = cold i;
      pins = none i;
      len = same i;
      place = at i;
    } in
    sym (word_of-fields_of w below) ∙ ap word_of fields

module _ (x y : Words) (far : FarState) (s : Shown) (es : List Access) (slots : List (Option ℕ))
    (class : Class) (f : ℕ) (row : List ℕ) (r : RunsStill x y far s es)
    (b : IsSpanBrought slots class f row s (played es s)) where
  shows : Shows y (played es s)
  shows = (plain_follows es x y s r.ran r.known.shows).1

  seen : AreHotsKnown y (played es s)
  seen = seen_after es x y s r.ran (seen_known x far s r.known)

  count : length y.words ≡ length x.words
  count = sym shows.objects ∙ b.objects ∙ r.known.shows.objects

  -- the word of an object that was far
  word_here : (slot h : ℕ) → IsBrought s (played es s) class f slot h
      → word_at y h ≡ brought_word (len_of (word_at x h)) (slot_place class f slot)
  word_here slot h z =
      let below : h < length x.words = (let n = far_within s h z.len z.version z.words z.was in
      let m = r.known.shows.objects in omega (arith, n, m)) in
      let there : h < length y.words = omega (arith, below, count) in
      let fit : Fits (is.Here z.len (slot_place class f slot)) (word_at y h) =
      subst (λ (o : Object). Fits o (word_at y h)) z.here (shows.fit h there) in
      let was : Fits (is.Far z.len z.version z.words) (word_at x h) =
      subst (λ (o : Object). Fits o (word_at x h)) z.was (r.known.shows.fit h below) in
      let free : FreeIs (object_at s h) (word_at x h) =
      subst (λ (o : Object). FreeIs o (word_at x h)) (sym z.was) tt in
      word_is_brought (word_at y h) (len_of (word_at x h)) (slot_place class f slot) fit.0
      (subst (λ (o : Object). HereIs o (word_at y h)) z.here
      (here_after es x y s h r.ran r.known.shows.objects
      (subst (λ (o : Object). HereIs o (word_at x h)) (sym z.was) tt)))
      (sym (seen.hot h there) ∙ z.hot)
      (subst (λ (o : Object). FreeIs o (word_at y h)) z.here
      (free_after es x y s h r.ran r.allowed r.known.shows.objects free))
      (fit.1 ∙ sym was.1) fit.2

  -- every other word
  word_stays : (h : ℕ) → IsAsBefore s (played es s) h → word_at y h ≡ word_at x h
  word_stays h same = elim (cases_lt h (length x.words)) [
    | inl below ↦ word_back x y far s es h r.known r.ran r.allowed below
        (omega (arith, below, count)) same.object same.hot
    | inr past ↦ get_or_past y.words h 0 (omega (arith, past, count))
        ∙ sym (get_or_past x.words h 0 past)
  ]

  pub brought_to : AreBroughtTo x y slots class f row
  brought_to = record {
    settings = plain_stays x y es r.ran;
    versions = sym shows.versions ∙ b.versions ∙ r.known.shows.versions;
    memory = sym shows.memory ∙ b.memory
        ∙ ap (λ (l : List ℕ). put l (512 * f) (words_in row)) r.known.shows.memory;
    count = count;
    here = λ slot h named. word_here slot h (b.brought slot h named);
    others = λ h off. word_stays h (b.others h off);
  }
