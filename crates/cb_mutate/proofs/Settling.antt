-- How a claimed object is settled.
use Rattle.std.proofs.Common.{◌≡◌, ℕ, Bool, true, ◌+◌, ◌^◌, ◌<◌, ◌≤◌, List, [], ◌∷◌, ◌++◌, length, set, sym, refl, ap, ◌∙◌, subst, arith, inr, get_or-set_same, ne_eqb, cond}
use Rattle.cb_ptr.specs.declared.word.State.{State}
use Rattle.cb_ptr.specs.declared.word.State.TheVariants as word
use Rattle.cb_ptr.specs.declared.word.PtrWord.{PtrWord}
use Rattle.cb_ptr.specs.Word.{fields_of, state_of, hot_of, len_of, place_of, pins_of}
use Rattle.cb_ptr.specs.Steps.{Claims, Settles}
use Rattle.cb_world.specs.declared.object.Object.{Object}
use Rattle.cb_world.specs.declared.object.Object.TheVariants as is
use Rattle.cb_world.specs.declared.access.Access.{Access}
use Rattle.cb_world.specs.declared.access.Access.TheVariants.{Told, Loaded, Stored, Stamped, Settled}
use Rattle.cb_world.specs.Memory.{window, put, words_for}
use Rattle.cb_world.specs.StillDesk.{window_length}
use Rattle.cb_world.specs.declared.shown.Shown.{Shown}
use Rattle.cb_world.specs.Write.{IsWrite}
use Rattle.cb_world.specs.Shown.{MayLie, Covers, object_at, version_at}
use Rattle.cb_world.specs.Settling.{MaySettle, MaySettleAs, MayBring}
use Rattle.cb_world.specs.Played.{after, played}
use Rattle.cb_world.proofs.Laws.{played_append, window_put, length_put, settled_here}
use Rattle.cb_world.specs.declared.entry.Entry.{Entry}
use Rattle.cb_world.specs.Written.{Writes, written_by, adds_as, entry}
use Rattle.cb_world.specs.Settling.{settled_words}
use Rattle.cb_world.specs.Looks.{NoLook, NoClaim, LooksFirst, told_by}
use Rattle.cb_world.specs.Touches.{Touches, SettlesLast}
use Rattle.cb_world.specs.Grasped.{IsFree}
use Rattle.cb_mutate.specs.Stores.{AreStores}
use Rattle.cb_mutate.specs.Overwrites.{Rewrites}
use Rattle.cb_world.specs.Claimed.{OwnsAll, IsClaimedAt}
use Rattle.cb_mutate.specs.WriteEnds.{with_rewritten}

-- how the word at which a written object is settled stands to the word at which it was claimed
pub same_slot : (w m n place : ℕ) → IsFree w → Claims w m → place ≡ place_of w
    → Settles m place true n
    → (state_of n ≡ word.Here) × (pins_of n ≡ 0) × (len_of n ≡ len_of w) × (place_of n ≡ place_of w)
    × (hot_of n ≡ true) × (n < 2 ^ 53)
same_slot w m n place free moved e s =
    (s.state, s.pins ∙ moved.pins, s.len ∙ moved.len, s.place ∙ e, s.hot, s.below)

pub may_settle_written : (s t : Shown) (h w v n at : ℕ) (words bytes new : List ℕ)
    → IsClaimedAt s h w v words → IsWrite words at bytes new → at + length bytes ≤ len_of w
    → (state_of n ≡ word.Here) × (pins_of n ≡ 0) × (len_of n ≡ len_of w) × (place_of n ≡ place_of w)
    × (hot_of n ≡ true) × (n < 2 ^ 53)
    → t ≡ record s { versions = set s.versions h (v + 1); memory = put s.memory (place_of w) new }
    → MaySettle t h n
may_settle_written s t h w v n at words bytes new c wrote inside k e =
    let count : length new ≡ words_for (len_of w) = wrote.sized ∙ ap length (sym c.contents)
    ∙ window_length s.memory (place_of w) (words_for (len_of w)) in
    let stamp : version_at t h ≡ v + 1 = ap (λ (q : Shown). version_at q h) e
    ∙ get_or-set_same s.versions h (v + 1) 0 c.stamp in
    let read : window t.memory (place_of n) (words_for (len_of w)) ≡ new =
    ap (λ (q : Shown). window q.memory (place_of n) (words_for (len_of w))) e
    ∙ ap (λ (p : ℕ). window (put s.memory (place_of w) new) p (words_for (len_of w))) k.3
    ∙ ap (window (put s.memory (place_of w) new) (place_of w)) (sym count)
    ∙ window_put s.memory (place_of w) new (omega (arith, count, c.within)) in
    let object : object_at t h ≡ is.Claimed (len_of w) (place_of w) v words =
    ap (λ (q : Shown). object_at q h) e ∙ c.object in
    subst (λ (q : State). MaySettleAs q t h n) (sym k.0) (
      k.5,
      k.1,
      (λ p covers. owned p (subst (λ (a : ℕ). Covers a (len_of n) p) k.3 covers)),
      subst (MayBring t h n) (sym object) (
        k.2,
        inr (stamp, (at, bytes, inside, subst (IsWrite words at bytes) (sym read) wrote)),
      ),
    )
  where
    owned : (p : ℕ) → Covers (place_of w) (len_of n) p → MayLie t h p
    owned p covers = subst (λ (q : Shown). MayLie q h p) (sym e)
        (let had =
        c.alone p (subst (λ (l : ℕ). Covers (place_of w) l p) k.2 covers) in
        (subst (λ (m : ℕ). p < m) (sym (length_put s.memory (place_of w) new)) had.0, had.1))

pub stores_no_look : (h : ℕ) (es fs : List Access) → AreStores es → NoLook h fs → NoLook h (es ++ fs)
stores_no_look h [] fs a b = b
stores_no_look h (Loaded p x ∷ es) fs a b = ((λ w e. e), stores_no_look h es fs a b)
stores_no_look h (Stored p x ∷ es) fs a b = ((λ w e. e), stores_no_look h es fs a b)
stores_no_look h (e ∷ es) fs a b = absurd a

pub stores_told : (es fs : List Access) (s : Shown) → AreStores es
    → told_by (es ++ fs) s ≡ told_by fs s
stores_told [] fs s a = refl
stores_told (Loaded p x ∷ es) fs s a = stores_told es fs s a
stores_told (Stored p x ∷ es) fs s a = stores_told es fs s a
stores_told (e ∷ es) fs s a = absurd a

-- what the stores of a write left, told by the fields of the word
pub overwrote : (s : Shown) (es : List Access) (w at : ℕ) (bytes : List ℕ) (f : PtrWord)
    → f ≡ fields_of w → Rewrites s f.place f.len at bytes es
    → Rewrites s (place_of w) (len_of w) at bytes es
overwrote s es w at bytes f e x =
    subst (λ (g : PtrWord). Rewrites s g.place g.len at bytes es) e x

pub owned_at : (s : Shown) (h w v : ℕ) (words : List ℕ) (f : PtrWord) → f ≡ fields_of w
    → IsClaimedAt s h w v words → OwnsAll s f.place f.len
owned_at s h w v words f e c = subst (λ (g : PtrWord). OwnsAll s g.place g.len) (sym e) c.owned

-- what is at the words of the object by the fields of its word is so by the word
pub touches_at : (h w : ℕ) (f : PtrWord) → f ≡ fields_of w → (es : List Access)
    → Touches h f.place f.len es → Touches h (place_of w) (len_of w) es
touches_at h w f e es x = subst (λ (g : PtrWord). Touches h g.place g.len es) e x

-- after the stores the version word is stored
pub stamped : (s : Shown) (es : List Access) (h v x place : ℕ) (new : List ℕ)
    → played es s ≡ record s { memory = put s.memory place new } → x ≡ v
    → played (es ++ Stamped h (x + 1) ∷ []) s ≡ record s {
      versions =
          set s.versions h (v + 1);
      memory = put s.memory place new;
    }
stamped s es h v x place new e same = played_append es (Stamped h (x + 1) ∷ []) s
    ∙ ap (λ (t : Shown). let q : Shown = record t { versions = set t.versions h (x + 1) } in q) e
    ∙ ap (λ (u : ℕ). let q : Shown =
    record s { versions = set s.versions h (u + 1); memory = put s.memory place new } in q) same

-- and then the word
pub settled_at_end : (s : Shown) (es : List Access) (h w v x n : ℕ) (new : List ℕ)
    → played es s ≡ record s { memory = put s.memory (place_of w) new } → x ≡ v
    → (state_of n ≡ word.Here) × (pins_of n ≡ 0) × (len_of n ≡ len_of w) × (place_of n ≡ place_of w)
    × (hot_of n ≡ true) × (n < 2 ^ 53)
    → played (es ++ Stamped h (x + 1) ∷ Settled h n ∷ []) s ≡ with_rewritten s h w v new
settled_at_end s es h w v x n new e same k =
    let t : Shown =
    record s { versions = set s.versions h (v + 1); memory = put s.memory (place_of w) new } in
    played_append es (Stamped h (x + 1) ∷ Settled h n ∷ []) s
    ∙ ap (after (Settled h n)) (sym (played_append es (Stamped h (x + 1) ∷ []) s)
    ∙ stamped s es h v x (place_of w) new e same)
    ∙ settled_here t h n k.0
    ∙ ap (λ (l : ℕ). let q : Shown =
    record t {
      objects = set s.objects h (is.Here l (place_of n));
      hots =
          set s.hots h (hot_of n);
    } in q) k.2
    ∙ ap (λ (l : ℕ). let q : Shown =
    record t {
      objects = set s.objects h (is.Here (len_of w) l);
      hots =
          set s.hots h (hot_of n);
    } in q) k.3
    ∙ ap (λ (b : Bool). let q : Shown =
    record t {
      objects = set s.objects h (is.Here (len_of w) (place_of w));
      hots =
          set s.hots h b;
    } in q) k.4

stores_no_claim : (es fs : List Access) → AreStores es → NoClaim fs → NoClaim (es ++ fs)
stores_no_claim [] fs a b = b
stores_no_claim (Loaded p x ∷ es) fs a b = stores_no_claim es fs a b
stores_no_claim (Stored p x ∷ es) fs a b = stores_no_claim es fs a b
stores_no_claim (e ∷ es) fs a b = absurd a

pub stores_first : (es fs : List Access) → AreStores es → NoClaim fs → LooksFirst fs
    → LooksFirst (es ++ fs)
stores_first [] fs a b c = c
stores_first (Loaded p x ∷ es) fs a b c = stores_first es fs a b c
stores_first (Stored p x ∷ es) fs a b c = (stores_no_claim es fs a b, stores_first es fs a b c)
stores_first (e ∷ es) fs a b c = absurd a

pub stores_settle_last : (es fs : List Access) → AreStores es → SettlesLast fs
    → SettlesLast (es ++ fs)
stores_settle_last [] fs a b = b
stores_settle_last (Loaded p x ∷ es) fs a b = stores_settle_last es fs a b
stores_settle_last (Stored p x ∷ es) fs a b = stores_settle_last es fs a b
stores_settle_last (e ∷ es) fs a b = absurd a

-- stores write nothing
pub stores_written : (es fs : List Access) (s : Shown) (old : List Entry) → AreStores es
    → written_by (es ++ fs) s old ≡ written_by fs (played es s) old
stores_written [] fs s old a = refl
stores_written (Loaded p x ∷ es) fs s old a = stores_written es fs s old a
stores_written (Stored p x ∷ es) fs s old a = stores_written es fs (after (Stored p x) s) old a
stores_written (e ∷ es) fs s old a = absurd a

-- the stores, the next version and the word write that version
pub wrote_one : (s : Shown) (es : List Access) (h w v x n at : ℕ) (words bytes new : List ℕ)
    → AreStores es → IsClaimedAt s h w v words → IsWrite words at bytes new
    → played es s ≡ record s { memory = put s.memory (place_of w) new } → x ≡ v
    → (state_of n ≡ word.Here) × (pins_of n ≡ 0) × (len_of n ≡ len_of w) × (place_of n ≡ place_of w)
    × (hot_of n ≡ true) × (n < 2 ^ 53)
    → Writes (Told h x ∷ (es ++ Stamped h (x + 1) ∷ Settled h n ∷ [])) s
    (entry h (v + 1) (len_of w) words new ∷ [])
wrote_one s es h w v x n at words bytes new stores c wrote e same k old =
    let t : Shown =
    record s { versions = set s.versions h (v + 1); memory = put s.memory (place_of w) new } in
    let count : length new ≡ words_for (len_of w) = wrote.sized ∙ ap length (sym c.contents)
    ∙ window_length s.memory (place_of w) (words_for (len_of w)) in
    let read : settled_words t n ≡ new =
    ap (λ (p : ℕ). window (put s.memory (place_of w) new) p (words_for (len_of n))) k.3
    ∙ ap (λ (p : ℕ). window (put s.memory (place_of w) new) (place_of w) (words_for p)) k.2
    ∙ ap (window (put s.memory (place_of w) new) (place_of w)) (sym count)
    ∙ window_put s.memory (place_of w) new (omega (arith, count, c.within)) in
    let stamp : version_at t h ≡ v + 1 = get_or-set_same s.versions h (v + 1) 0 c.stamp in
    stores_written es (Stamped h (x + 1) ∷ Settled h n ∷ []) s old stores
    ∙ ap (λ (q : Shown). written_by (Settled h n ∷ []) (after (Stamped h (x + 1)) q) old) e
    ∙ ap (λ (u : ℕ).
    written_by (Settled h n ∷ []) (let q : Shown =
    record s { versions = set s.versions h (u + 1); memory = put s.memory (place_of w) new } in
    q) old) same
    ∙ ap (λ (q : State). adds_as q t h n (object_at t h) ++ old) k.0
    ∙ ap (λ (o : Object). adds_as word.Here t h n o ++ old) c.object
    ∙ ap (λ (b : Bool).
    cond b [] (entry h (version_at t h) (len_of n) words (settled_words t n) ∷ []) ++ old)
    (ne_eqb (version_at t h) v (λ q. omega (arith, q, stamp)))
    ∙ ap (λ (u : ℕ). entry h u (len_of n) words (settled_words t n) ∷ old) stamp
    ∙ ap (λ (u : ℕ). entry h (v + 1) u words (settled_words t n) ∷ old) k.2
    ∙ ap (λ (l : List ℕ). entry h (v + 1) (len_of w) words l ∷ old) read
