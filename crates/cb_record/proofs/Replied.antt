-- What answers tell is so in the histories of their calls.
use Rattle.std.proofs.Common.{◌≡◌, ℕ, ◌/◌, ◌%◌, ◌<◌, false, List, [], ◌∷◌, ◌++◌, length, get_or, Option, Some, None, sym, refl, ap, ◌∙◌, subst, inl, inr, ⊎_elim, arith}
use Rattle.std.specs.Int.{to_le_bytes, w64}
use Rattle.std.specs.List.{AllByRecursion}
use Rattle.std.proofs.lemmas.List.{ext_get_or}
use Rattle.std.proofs.lemmas.List.FromFn.{get_or-map-range_with_len}
use Rattle.cb_types.specs.declared.answer.Answer.{Answer}
use Rattle.cb_types.specs.declared.reply.Reply.{Reply}
use Rattle.cb_types.specs.declared.request.Request.{Request}
use Rattle.cb_world.specs.declared.entry.Entry.{Entry}
use Rattle.cb_world.specs.Memory.{bytes_in, memory_byte, words_for}
use Rattle.cb_mutate.proofs.Laws.{bytes_length}
use Rattle.cb_rule.specs.declared.view.Seen.{Seen}
use Rattle.cb_rule.specs.declared.view.View.{View}
use Rattle.cb_rule.specs.Lists.{Has}
use Rattle.cb_rule.specs.Promised.{EntriesStand}
use Rattle.cb_rule.specs.Records.{seen_of}
use Rattle.cb_model.specs.declared.object.Object.TheVariants.{Held, Freed}
use Rattle.cb_model.specs.Called.{Called, calls_behind, history, handle_for}
use Rattle.cb_model.specs.Event.{Event, event_of}
use Rattle.cb_model.specs.Event.Subject.{NewObject, Contents, Other, Nothing}
use Rattle.cb_model.specs.Event.Event.{Makes, Shows, Pins, Writes, Frees, FindsFull, FindsUnmade, FindsFreed, FindsEnd, Refused, Wrong}
use Rattle.cb_model.specs.History.{IsMadeWith, at_version, left_by}
use Rattle.cb_model.specs.Legal.{IsTrueOf}
use Rattle.cb_record.specs.Backs.{Tells}
use Rattle.cb_record.specs.Lists.{HasOne}
use Rattle.cb_record.specs.Needs.{ArePeeked, IsFreedAs, IsPinnedAs, IsReadAs, Meets, need_of}
use Rattle.cb_record.specs.Told.{tolds}
use Rattle.cb_record.specs.Upheld.{IsSeenLong, IsUpheld, Upholds, as_part}
use Rattle.cb_record.proofs.Histories.{linked, written}
use Rattle.cb_record.proofs.Links.{AreTrue}
use Rattle.cb_record.proofs.Meeting.{IsMet, met}

pub find_one : {A : Type 0} (P : A → Type 0) (xs : List A) → HasOne P xs → (x : A) × Has x xs × P x
find_one P [] h = absurd h
find_one P (x ∷ xs) h = ⊎_elim (λ (p : P x). (x, inl refl, p))
    (λ (q : HasOne P xs). let z = find_one P xs q in (z.0, inr z.1, z.2)) h

byte_in : (words : List ℕ) (len k : ℕ) → k < len
    → get_or (bytes_in words len) k 0 ≡ memory_byte words k
unfolding bytes_in
byte_in words len k below =
    get_or-map-range_with_len (memory_byte words) 0 len k k 0 below (omega arith)

-- bytes are those of the words that hold them
pub same_bytes : (xs ys : List ℕ) (len : ℕ)
    → ((j : ℕ) → j < words_for len → get_or xs j 0 ≡ get_or ys j 0)
    → bytes_in xs len ≡ bytes_in ys len
same_bytes xs ys len same = ext_get_or 0 (bytes_in xs len) (bytes_in ys len)
    (bytes_length xs len ∙ sym (bytes_length ys len))
    (λ k low. let below : k < len = let l = bytes_length xs len in omega (arith, l, low) in
    byte_in xs len k below ∙ ap (λ (w : ℕ). get_or (to_le_bytes w64 w) (k % 8) 0)
    (same (k / 8) (omega (arith, below))) ∙ sym (byte_in ys len k below))

module _ (first handles : ℕ) (calls : List Called) (v : View) where
  none_true : (e : Event) → IsUpheld first handles calls v None e → IsTrueOf handles calls None e
  none_true (Makes bytes version) up = absurd up
  none_true (Writes at bytes version) up = absurd up
  none_true (Frees version) up = absurd up
  none_true (Shows version bytes) up = absurd up
  none_true (Pins version) up = absurd up
  none_true (FindsFull number) up = up
  none_true FindsUnmade up = tt
  none_true FindsFreed up = absurd up
  none_true (FindsEnd at bytes len) up = absurd up
  none_true (Refused NewObject) up = tt
  none_true (Refused Nothing) up = tt
  none_true (Refused Contents) up = absurd up
  none_true (Refused Other) up = absurd up
  none_true Wrong up = absurd up

  module _ (entries : EntriesStand first (v ∷ [])) (quiet : v.fresh ≡ []) (h : ℕ)
      (are : AreTrue first v.written h (linked first v entries quiet) (history calls h)) where
    -- what was read is an entry
    entry_seen : (s : Seen) → Has s v.seen → (e : Entry) × Has e v.written × (s ≡ seen_of e)
    entry_seen s there = let z = entries.read s (v, (0, refl), there) in
        (z.0, written first v entries quiet z.0 z.1, z.2)

    -- a version that was read was held
    held_seen : (s : Seen) (version : ℕ) → Has s v.seen → s.handle ≡ h → s.version ≡ version
        → s.freed ≡ false
        → at_version (history calls h) version ≡ Some (Held version (bytes_in s.words s.len))
    held_seen s version there on at kept =
        let z = entry_seen s there in
        let shows = are.shows z.0 z.1 (ap (λ (x : Seen). x.handle) (sym z.2) ∙ on)
        (ap (λ (x : Seen). x.freed) (sym z.2) ∙ kept) in
        subst (λ (n : ℕ). at_version (history calls h) n ≡ Some (Held n (bytes_in s.words s.len))) at
        (subst (λ (x : Seen). at_version (history calls h) x.version
        ≡ Some (Held x.version (bytes_in x.words x.len))) (sym z.2) shows)

    read_told : (version : ℕ) (bytes : List ℕ) → HasOne (IsReadAs h version bytes) v.seen
        → at_version (history calls h) version ≡ Some (Held version bytes)
    read_told version bytes one =
        let z = find_one (IsReadAs h version bytes) v.seen one in
        held_seen z.0 version z.1 z.2.0 z.2.1 z.2.2
        ∙ ap (λ (b : List ℕ). Some (Held version b)) (sym z.2.3)

    pin_told : (version : ℕ) → HasOne (IsPinnedAs h version) v.seen
        → (bytes : List ℕ) × (at_version (history calls h) version ≡ Some (Held version bytes))
    pin_told version one =
        let z = find_one (IsPinnedAs h version) v.seen one in
        (bytes_in z.0.words z.0.len, held_seen z.0 version z.1 z.2.0 z.2.1 z.2.2)

    freed_told : HasOne (IsFreedAs h) v.seen
        → (version : ℕ) × (left_by (history calls h) ≡ Some (Freed version))
    freed_told one =
        let z = find_one (IsFreedAs h) v.seen one in
        let e = entry_seen z.0 z.1 in (
          e.0.version,
          are.freed e.0 e.1 (ap (λ (x : Seen). x.handle) (sym e.2) ∙ z.2.0)
              (ap (λ (x : Seen). x.freed) (sym e.2) ∙ z.2.1),
        )

    -- the words that were peeked are those of the entry that was read
    peek_told : (version : ℕ) (bytes : List ℕ) → ArePeeked h version bytes v.peeked
        → HasOne (IsSeenLong h version (length bytes)) v.seen
        → at_version (history calls h) version ≡ Some (Held version bytes)
    peek_told version bytes peeked one =
        let z = find_one (IsSeenLong h version (length bytes)) v.seen one in
        let e = entry_seen z.0 z.1 in
        let word : (j : ℕ) → j < words_for (length bytes)
        → get_or peeked.words j 0 ≡ get_or z.0.words j 0 = λ j low.
        (let p = entries.peeked _ (v, (0, refl), peeked.each j low) in
        let w = written first v entries quiet p.0 p.1 in
        let same : p.0 ≡ e.0 =
        (linked first v entries quiet).same p.0 e.0 w e.1
        (sym p.2.handle ∙ sym z.2.0 ∙ ap (λ (x : Seen). x.handle) e.2)
        (sym p.2.version ∙ sym z.2.1 ∙ ap (λ (x : Seen). x.version) e.2) in
        p.2.word ∙ ap (λ (x : Entry). get_or x.after j 0) same
        ∙ ap (λ (x : Seen). get_or x.words j 0) (sym e.2)) in
        held_seen z.0 version z.1 z.2.0 z.2.1 z.2.2
        ∙ ap (λ (b : List ℕ). Some (Held version b))
        (ap (bytes_in z.0.words) z.2.3 ∙ sym (same_bytes peeked.words z.0.words (length bytes) word)
        ∙ sym peeked.bytes_are)

    -- what an answer tells, by what the record has for it and what is upheld
    some_true : (e : Event) → IsMet (as_part v) h e → IsUpheld first handles calls v (Some h) e
        → IsTrueOf handles calls (Some h) e
    some_true (Makes bytes version) m up = up.0
    some_true (Writes at bytes version) m up = tt
    some_true (Frees version) m up = tt
    some_true (Shows version bytes) m up = ⊎_elim (read_told version bytes)
        (λ (peeked : ArePeeked h version bytes v.peeked). peek_told version bytes peeked up) m
    some_true (Pins version) m up = pin_told version m
    some_true (FindsFull number) m up = up
    some_true FindsUnmade m up = absurd up
    some_true FindsFreed m up = freed_told m
    some_true (FindsEnd at bytes len) m up =
        (subst (IsMadeWith (history calls h)) up.0.4 (are.long up.0.0 up.0.1 up.0.2 up.0.3), up.1)
    some_true (Refused NewObject) m up = tt
    some_true (Refused Nothing) m up = tt
    some_true (Refused Contents) m up = tt
    some_true (Refused Other) m up = tt
    some_true Wrong m up = absurd up

  told_true : (entries : EntriesStand first (v ∷ [])) (quiet : v.fresh ≡ [])
      → ((h : ℕ) → AreTrue first v.written h (linked first v entries quiet) (history calls h))
      → (handle : Option ℕ) (q : Request) (r : Reply) → Meets (as_part v) (need_of handle q r)
      → IsUpheld first handles calls v handle (event_of q r)
      → IsTrueOf handles calls handle (event_of q r)
  told_true entries quiet are None q r m up = none_true (event_of q r) up
  told_true entries quiet are (Some h) q r m up =
      some_true entries quiet h (are h) (event_of q r) (met (as_part v) h q r m) up

  -- what each answer tells is so
  pub all_told : (entries : EntriesStand first (v ∷ [])) (quiet : v.fresh ≡ [])
      → ((h : ℕ) → AreTrue first v.written h (linked first v entries quiet) (history calls h))
      → (before after : List Answer) → AllByRecursion (Tells (as_part v)) (tolds before after)
      → AllByRecursion (Upholds first handles calls v) (calls_behind before after)
      → AllByRecursion (λ (call : Called). IsTrueOf handles calls call.handle call.event) (calls_behind before after)
  all_told entries quiet are before [] m up = tt
  all_told entries quiet are before (a ∷ after) m up = (
    told_true entries quiet are (handle_for before a.request a.reply) a.request a.reply m.0 up.0,
    all_told entries quiet are (before ++ a ∷ []) after m.1 up.1,
  )
