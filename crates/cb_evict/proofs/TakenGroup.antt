-- Spans that may leave were taken in a sound world: their objects were claimed, and their words
-- were read. They are a claimed group.
use Rattle.std.proofs.Common.{◌≡◌, ◌⊎◌, ℕ, zero, suc, ◌+◌, ◌-◌, ◌*◌, ◌^◌, ◌<◌, ◌≤◌, Bool, true, List, [], ◌++◌, length, get_or, All, map as mapped, Option, Some, sym, refl, ap, ◌∙◌, subst, arith, inl, inr}
use Rattle.std.specs.List.{Contains, slice_get}
use Rattle.std.proofs.lemmas.List.{get_or-map, length-map, ext_get_or}
use Rattle.std.proofs.lemmas.List.Elements.{All-contains}
use Rattle.std.proofs.lemmas.Option.{slice_get-get_or, slice_get_within, get_or_from_slice_get}
use Rattle.cb_class.specs.Class.{pages_of, words_of}
use Rattle.cb_gf256.specs.CodeWord.{IsCodeWord}
use Rattle.cb_gf256.specs.InRange.{IsInRange}
use Rattle.cb_gf256.specs.Rows.{row_at, HoldBytes}
use Rattle.cb_ptr.specs.Word.{len_of, place_of}
use Rattle.cb_span.specs.Contents.{Contents, handle_at}
use Rattle.cb_world.specs.declared.access.Access.{Access}
use Rattle.cb_world.specs.declared.leaving.Former.{Former}
use Rattle.cb_world.specs.declared.object.Object.{Object}
use Rattle.cb_world.specs.declared.object.Object.TheVariants as is
use Rattle.cb_world.specs.declared.shown.Shown.{Shown}
use Rattle.cb_world.specs.Shown.{IsHeld, object_at, version_at, never}
use Rattle.cb_world.specs.FarState.{FarState, span_in, handle_in}
use Rattle.cb_world.specs.Leaving.{LeavingState}
use Rattle.cb_world.specs.LocalSound.{LocalSound, LiesAt, IsStamped}
use Rattle.cb_world.specs.Looks.{NoLook, IsFound, IsTaken}
use Rattle.cb_world.specs.Memory.{window, words_for, bytes_in}
use Rattle.cb_world.specs.Now.{held, is_gone, now_as, now}
use Rattle.cb_world.specs.Placed.{leaving_frames}
use Rattle.cb_world.specs.RowWords.{words_in, row_of}
use Rattle.cb_world.specs.SetWord.{IsSpanWord}
use Rattle.cb_world.specs.Sound.{Sound, IsNoted}
use Rattle.cb_world.specs.StillDesk.{window_length}
use Rattle.cb_world.proofs.Laws.{batch_kept, found_more, noted_by, row_length, slot_inside, taken_more, window_at, window_same}
use Rattle.cb_evict.specs.BeginRule.{new_batch}
use Rattle.cb_evict.specs.Candidates.{candidates, AreUnique, SpanNames}
use Rattle.cb_evict.specs.Claims.{AreClaimed, IsClaimedBy, IsNone, WasHere}
use Rattle.cb_evict.specs.EvictRule.{AreInRows}
use Rattle.cb_evict.specs.Evicting.{AreSpansTaken}
use Rattle.cb_evict.specs.Looking.{IsIn}
use Rattle.cb_evict.proofs.Claims.{among, no_former}
use Rattle.cb_evict.proofs.Group.{IsGroup, IsNotFarBoth, quiet_away, claimed_not_far, here_not_far, in_row, row_is, noted_still}
use Rattle.cb_evict.proofs.Options.{some_same}
use Rattle.cb_evict.proofs.Owned.{span_stays}
use Rattle.cb_evict.proofs.Loads.{span_long}
use Rattle.cb_evict.proofs.SmallWords.{small_part}
use Rattle.cb_evict.proofs.Standing.{IsReadyFrame, ready_frame, are_unique, not_among}

-- the rows of the spans in some frames, of so many pages each, in this memory
abbrev pub frame_rows : Shown → ℕ → List ℕ → List (List ℕ)
frame_rows t pages frames =
    mapped (λ f. row_of (window t.memory (512 * f) (512 * pages))) frames

-- in a sound world objects of k spans were claimed; their words were read, and the rows were coded,
-- or will be
pub record AreRowsCoded (far : FarState) (frames : List ℕ) (formers : List Former) (made : Bool)
    (parities : List (List ℕ)) (before : List Access) (s t : Shown) : Type 0 where
  pub sound : Sound s far
  pub claimed : AreClaimed before s t formers
  pub here : LocalSound t far
  pub taken : AreSpansTaken far frames formers
  pub range : IsInRange far.code.k far.code.r
  pub few : length parities ≡ far.code.r
  pub word : made ≡ true
      → IsCodeWord far.code.k far.code.r (frame_rows t taken.pages frames ++ parities)
  pub bytes : made ≡ true → HoldBytes (frame_rows t taken.pages frames ++ parities)
  pub small : (f : ℕ) → Contains frames f
      → All (λ w. w < 2 ^ 64) (window t.memory (512 * f) (512 * taken.pages))

-- what the events told of an object: it was here, and is claimed as they tell
pub record IsToldOne (es : List Access) (s t : Shown) (batch : LeavingState) (h : ℕ) : Type 0 where
  pub noted : IsNoted t batch h
  pub was : object_at s h ≡ is.Here (len_of noted.former.word) (place_of noted.former.word)
  pub found : IsFound h noted.former.word es
  pub told : IsTaken h noted.version noted.words es
  pub contents : window t.memory (place_of noted.former.word) (words_for (len_of noted.former.word))
      ≡ noted.words

-- words of a run that is as it was
in_run : (ms ns : List ℕ) (f pages place n : ℕ) → 512 * f ≤ place → place + n ≤ 512 * (f + pages)
    → window ns (512 * f) (512 * pages) ≡ window ms (512 * f) (512 * pages)
    → window ns place n ≡ window ms place n
in_run ms ns f pages place n start end same =
    window_same ns ms place n (λ i low high. let k = i - 512 * f in
    let at : 512 * f + k ≡ i = omega (arith, low, start) in
    let below : k < 512 * pages = omega (arith, low, high, start, end) in
    ap (λ (j : ℕ). get_or ns j 0) (sym at) ∙ sym (window_at ns (512 * f) (512 * pages) k below)
    ∙ ap (λ (l : List ℕ). get_or l k 0) same ∙ window_at ms (512 * f) (512 * pages) k below
    ∙ ap (λ (j : ℕ). get_or ms j 0) at)

-- two accounts of one claimed object
claimed_same : (n p v m q w : ℕ) (a b : List ℕ) → is.Claimed n p v a ≡ is.Claimed m q w b
    → (n ≡ m) × (p ≡ q) × (a ≡ b)
claimed_same n p v m q w a b e = (ap len_in e, ap place_in e, ap words_of_it e)
  where
    len_in : Object → ℕ
    len_in (is.Empty v) = 0
    len_in (is.Far len v words) = 0
    len_in (is.Here len place) = 0
    len_in (is.Claimed len place v words) = len

    place_in : Object → ℕ
    place_in (is.Empty v) = 0
    place_in (is.Far len v words) = 0
    place_in (is.Here len place) = 0
    place_in (is.Claimed len place v words) = place

    words_of_it : Object → List ℕ
    words_of_it (is.Empty v) = []
    words_of_it (is.Far len v words) = []
    words_of_it (is.Here len place) = []
    words_of_it (is.Claimed len place v words) = words

module _ (far : FarState) (frames : List ℕ) (formers : List Former) (made : Bool)
    (parities : List (List ℕ)) (before : List Access) (s t : Shown)
    (d : AreRowsCoded far frames formers made parities before s t) where
  ready : (f : ℕ) → Contains frames f → IsReadyFrame far f
  ready f x = ready_frame far s f d.sound.here
      (All-contains (Contains (candidates far)) frames f d.taken.among x)

  once : AreUnique far.spans (length s.objects)
  once = are_unique far s (length s.objects) d.sound.here refl

  -- ---- its objects
  either_one : (h : ℕ) → IsIn far.spans frames h ⊎ IsNone formers h
  either_one h = elim (among formers h) [
    | inl (k, l, e) ↦ inl (subst (IsIn far.spans frames) (e no_former)
        (d.taken.of.only k no_former l))
    | inr none ↦ inr none
  ]

  -- the words that stand in one of the frames are of 64 bits
  small_one : (h f len place v : ℕ) (words : List ℕ) → Contains frames f → SpanNames far.spans f h
      → object_at t h ≡ is.Claimed len place v words
      → All (λ w. w < 2 ^ 64) (window t.memory place (words_for len))
  small_one h f len place v words x named e =
      let seat = d.here.placed.placed h len place
      (subst (λ (o : Object). LiesAt o len place) (sym e) (refl, refl)) in
      let frame : seat.frame ≡ f = once.one_frame seat.frame f h
      (seat.slot, ap (λ (o : Option Contents). handle_in o seat.slot) seat.there ∙ seat.named)
      named in
      let inside = slot_inside far t h len place d.here seat in
      let long = span_long far.spans d.taken.pages frames f seat.span d.taken.long x
      (ap (span_in far.spans) (sym frame) ∙ seat.there) in
      small_part t.memory (window t.memory (512 * f) (512 * d.taken.pages)) (512 * f)
      (512 * d.taken.pages) place (words_for len)
      (window_length t.memory (512 * f) (512 * d.taken.pages)) (d.small f x) refl
      (omega (arith, inside.0, frame)) (omega (arith, inside.1, frame, long))

  pub told_one : (events : List Access) → ((k : ℕ) → NoLook k events) → (h : ℕ)
      → IsIn far.spans frames h
      → IsToldOne (before ++ events) s t (new_batch far d.taken.pages frames formers made parities) h
  told_one events quiet h (f, c, named) =
      let y = d.taken.of.all h (f, c, named) in
      let g = y.0 in let x = y.1 in let same : g.handle ≡ h = y.2 in
      let a = All-contains (IsClaimedBy before t) formers g d.claimed.taken x in
      let claimed : object_at t h ≡ is.Claimed (len_of g.word) (place_of g.word) a.at.version
      a.at.words =
      ap (object_at t) (sym same) ∙ a.at.object in
      record {
        noted = record {
          former = g;
          noted = x;
          handle = same;
          free = a.at.free;
          below = a.at.below;
          version = a.at.version;
          words = a.at.words;
          claimed = claimed;
          small = subst (λ (ws : List ℕ). All (λ w. w < 2 ^ 64) ws) a.at.contents
              (small_one h f (len_of g.word) (place_of g.word) a.at.version a.at.words c named
              claimed);
        };
        was = ap (object_at s) (sym same) ∙ All-contains (WasHere s) formers g d.claimed.were x;
        found = subst (λ (k : ℕ). IsFound k g.word (before ++ events)) same
            (found_more g.handle g.word before events a.found (quiet g.handle));
        told = subst (λ (k : ℕ). IsTaken k a.at.version a.at.words (before ++ events)) same
            (taken_more g.handle a.at.version a.at.words before events a.told);
        contents = a.at.contents;
      }

  pub one : (h : ℕ) → IsIn far.spans frames h
      → IsToldOne (before ++ []) s t (new_batch far d.taken.pages frames formers made parities) h
  one h x = told_one [] (λ k. tt) h x

  quiet_one : (h : ℕ) → IsNotFarBoth s t h
  quiet_one h = elim (either_one h) [
    | inl x ↦ let g = one h x in inr (
      here_not_far (object_at s h) _ _ g.was,
      claimed_not_far (object_at t h) _ _ g.noted.version g.noted.words g.noted.claimed,
    )
    | inr none ↦ inl (d.claimed.others h none)
  ]

  -- ---- a batch that is leaving
  leaving_out : (b : LeavingState) → far.leaving ≡ Some b → (f : ℕ) → Contains b.frames f
      → Contains frames f → ⊥
  leaving_out b there f leaves x =
      not_among (leaving_frames far.leaving) f (ready f x).stays
      (subst (λ (o : Option LeavingState). Contains (leaving_frames o) f) (sym there) leaves)

  -- its objects are none of those that were claimed
  leaving_none : (b : LeavingState) → far.leaving ≡ Some b → (f slot h : ℕ) (span : Contents)
      → Contains b.frames f → span_in far.spans f ≡ Some span → handle_at span slot ≡ Some h
      → IsNone formers h
  leaving_none b there f slot h span leaves at named = elim (either_one h) [
    | inl x ↦
        let mine : SpanNames far.spans f h = (
          slot,
          ap (λ (o : Option Contents). handle_in o slot) at
              ∙ named,
        ) in
        absurd (leaving_out b there f leaves
        (subst (Contains frames) (once.one_frame x.0 f h x.2 mine) x.1))
    | inr none ↦ none
  ]

  leaving_words : (b : LeavingState) → far.leaving ≡ Some b → (f : ℕ) → Contains b.frames f
      → window t.memory (512 * f) (512 * b.pages) ≡ window s.memory (512 * f) (512 * b.pages)
  leaving_words b there f leaves =
      let held = (d.sound.noted b there).held f leaves in
      span_stays far s t f b.pages held.0 d.sound.here held.1 held.2
      (λ slot h named.
      let n = (d.sound.noted b there).each f slot h held.0 leaves held.1 named in
      subst IsHeld (sym n.claimed) tt) d.claimed.keeps

  -- ---- the group
  pub taken_group : IsGroup t far (new_batch far d.taken.pages frames formers made parities)
  taken_group = record {
    here = d.here;
    away = quiet_away s t far quiet_one
        (λ b there. batch_kept s t far far b (record {
          spans = λ f leaves. refl;
          words = λ f leaves. leaving_words b there f leaves;
        })) d.sound.away;
    apart = d.taken.apart;
    held = λ f x. let r = ready f x in
        (r.span, r.there, span_long far.spans d.taken.pages frames f r.span d.taken.long x r.there);
    each = λ h x. (one h x).noted;
    only = d.taken.of.only;
    each_once = d.taken.each_once;
    contents = λ h len place v words x e.
        let g = one h x in let w = g.noted.former.word in
        let same = claimed_same len place v (len_of w) (place_of w) g.noted.version words
        g.noted.words
        (sym e ∙ g.noted.claimed) in
        same.2 ∙ sym g.contents
        ∙ (λ i. window t.memory (sym same.1 i) (words_for (sym same.0 i)));
    others = λ h len place v words none e.
        let x = d.sound.claimed h len place v words (sym (d.claimed.others h none) ∙ e) in
        let inside = slot_inside far s h len place d.sound.here x.slot in
        let held = (d.sound.noted x.batch x.there).held x.slot.frame x.leaves in
        let long = ap (λ (y : Contents). pages_of y.class)
        (some_same x.slot.span held.0 (sym x.slot.there ∙ held.1)) ∙ held.2 in record {
          batch = x.batch;
          there = x.there;
          slot = x.slot;
          leaves = x.leaves;
          contents = x.contents ∙ sym (in_run s.memory t.memory x.slot.frame x.batch.pages place
              (words_for len) inside.0 (omega (arith, inside.1, long))
              (leaving_words x.batch x.there x.slot.frame x.leaves));
        };
    noted = λ b there. noted_by s t far far b (record {
      spans = λ f leaves. refl;
      sets = refl;
      drawn = omega arith;
      unpaired = λ apart. apart;
    }) (λ f slot h span leaves at named. noted_still s t b b h refl
        (d.claimed.others h (leaving_none b there f slot h span leaves at named)))
        (d.sound.noted b there);
    out = leaving_out;
  }

  -- ---- its rows
  wide_row : length (row_at (frame_rows t d.taken.pages frames ++ parities) 0)
      ≡ 4096 * d.taken.pages
  wide_row =
      let within : 0 < length frames = omega (arith, d.taken.count, d.range.data_least) in
      let count = 512 * d.taken.pages in
      let ws = window t.memory (512 * get_or frames 0 0) count in
      ap length (row_is t far (new_batch far d.taken.pages frames formers made parities) taken_group 0 within)
      ∙ row_length ws ∙ ap (λ (i : ℕ). 8 * i) (window_length t.memory (512 * get_or frames 0 0) count)
      ∙ (let e : 8 * (512 * d.taken.pages) ≡ 4096 * d.taken.pages = omega arith in e)

  pub span_word : made ≡ true
      → IsSpanWord d.taken.pages far.code.k far.code.r (frame_rows t d.taken.pages frames ++ parities)
  span_word yet = record { is_word = d.word yet; bytes = d.bytes yet; wide = wide_row }

  pub group_word : made ≡ true
      → IsSpanWord d.taken.pages (length frames) (length parities)
      (frame_rows t d.taken.pages frames ++ parities)
  group_word yet =
      subst (λ (n : ℕ). IsSpanWord d.taken.pages n (length parities) (frame_rows t d.taken.pages frames ++ parities))
      (sym d.taken.count)
      (subst (λ (n : ℕ). IsSpanWord d.taken.pages far.code.k n (frame_rows t d.taken.pages frames ++ parities)) (sym d.few) (span_word yet))

  pub group_range : IsInRange (length frames) (length parities)
  group_range = subst (λ (n : ℕ). IsInRange n (length parities)) (sym d.taken.count)
      (subst (λ (n : ℕ). IsInRange far.code.k n) (sym d.few) d.range)

  pub row_at_frame : (p f : ℕ) → slice_get frames p ≡ Some f
      → row_at (frame_rows t d.taken.pages frames ++ parities) p ≡ row_of (window t.memory (512 * f) (512 * d.taken.pages))
  row_at_frame p f at =
      row_is t far (new_batch far d.taken.pages frames formers made parities) taken_group p
      (slice_get_within frames p f at)
      ∙ ap (λ (g : ℕ). row_of (window t.memory (512 * g) (512 * d.taken.pages)))
      (get_or_from_slice_get frames p f 0 at)

  -- rows with the words of the frames, each at its frame's place, have what the claims told
  pub rows_told : (events : List Access) → ((k : ℕ) → NoLook k events) → (rows : List (List ℕ))
      → ((p f : ℕ) → slice_get frames p ≡ Some f
      → row_at rows p ≡ row_of (window t.memory (512 * f) (512 * d.taken.pages)))
      → AreInRows (before ++ events) far frames rows
  rows_told events quiet rows are p f slot h span at there named =
      let x : Contains frames f =
      (p, slice_get_within frames p f at, get_or_from_slice_get frames p f f at) in
      let g = told_one events quiet h
      (f, x, (slot, ap (λ (o : Option Contents). handle_in o slot) there ∙ named)) in record {
        word = g.noted.former.word;
        version = g.noted.version;
        words = g.noted.words;
        found = g.found;
        told = g.told;
        contents = in_row t far (new_batch far d.taken.pages frames formers made parities) taken_group f slot h span
            g.noted x
            there named
            ∙ ap (λ (row : List ℕ). window (words_in row) (slot * words_of span.class)
            (words_for (len_of g.noted.former.word))) (sym (are p f at));
      }

  -- ---- last complete contents
  -- by what the events told, where only the words that were told differ
  words_same : (a b : Shown) (h : ℕ) (lost : Bool) (o : Object) → a.versions ≡ b.versions
      → a.memory ≡ b.memory → now_as a h lost o ≡ now_as b h lost o
  words_same a b h lost (is.Empty zero) v m = refl
  words_same a b h lost (is.Empty (suc n)) v m = refl
  words_same a b h lost (is.Far len n words) v m = refl
  words_same a b h lost (is.Claimed len place n words) v m = refl
  words_same a b h lost (is.Here len place) v m =
      λ i. held (get_or (v i) h 0) (bytes_in (window (m i) place (words_for len)) len)

  claimed_now : (told : Shown) (h : ℕ) → told.objects ≡ s.objects → t.versions ≡ told.versions
      → t.memory ≡ told.memory → IsIn far.spans frames h → now t far h ≡ now told far h
  claimed_now told h objects versions memory x =
      let g = one h x in let n = g.noted in let w = n.former.word in
      let stamp : version_at t h ≡ n.version =
      subst (λ (y : Object). IsStamped y (version_at t h)) n.claimed (d.here.known.stamped h) in
      let was : object_at told h ≡ is.Here (len_of w) (place_of w) =
      ap (λ (l : List Object). get_or l h never) objects ∙ g.was in
      let version : n.version ≡ version_at told h =
      sym stamp ∙ ap (λ (l : List ℕ). get_or l h 0) versions in
      let words : n.words ≡ window told.memory (place_of w) (words_for (len_of w)) =
      sym g.contents ∙ ap (λ (ms : List ℕ). window ms (place_of w) (words_for (len_of w))) memory in
      ap (now_as t h (is_gone far h)) n.claimed
      ∙ (λ i. held (version i) (bytes_in (words i) (len_of w)))
      ∙ sym (ap (now_as told h (is_gone far h)) was)

  pub now_told : (told : Shown) (h : ℕ) → told.objects ≡ s.objects → t.versions ≡ told.versions
      → t.memory ≡ told.memory → now t far h ≡ now told far h
  now_told told h objects versions memory = elim (either_one h) [
    | inl x ↦ claimed_now told h objects versions memory x
    | inr none ↦
        let same : object_at t h ≡ object_at told h =
        d.claimed.others h none ∙ sym (ap (λ (l : List Object). get_or l h never) objects) in
        ap (now_as t h (is_gone far h)) same
        ∙ words_same t told h (is_gone far h) (object_at told h) versions memory
  ]

-- rows that were read are those of the spans
pub rows_read : (t : Shown) (pages : ℕ) (frames : List ℕ) (rows : List (List ℕ))
    → length rows ≡ length frames
    → ((p f : ℕ) → slice_get frames p ≡ Some f
    → row_at rows p ≡ row_of (window t.memory (512 * f) (512 * pages)))
    → rows ≡ frame_rows t pages frames
rows_read t pages frames rows count made =
    let row : ℕ → List ℕ = λ (f : ℕ). row_of (window t.memory (512 * f) (512 * pages)) in
    ext_get_or [] rows (frame_rows t pages frames) (count ∙ sym (length-map frames row))
    (λ p within. let l : p < length frames = omega (arith, within, count) in
    made p (get_or frames p 0) (slice_get-get_or frames p 0 l)
    ∙ sym (get_or-map row frames p 0 [] l))
