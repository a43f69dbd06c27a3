-- A claimed object that was read is settled hot.
use Rattle.std.proofs.Common.{◌≡◌, ℕ, Bool, true, ◌^◌, ◌<◌, List, [], ◌∷◌, ◌++◌, set, sym, ap, ◌∙◌, subst, inl, cond, eq-eqb}
use Rattle.cb_ptr.specs.declared.word.State.{State}
use Rattle.cb_ptr.specs.declared.word.State.TheVariants as word
use Rattle.cb_ptr.specs.declared.word.PtrWord.{PtrWord}
use Rattle.cb_ptr.specs.Word.{fields_of, state_of, hot_of, len_of, place_of, pins_of}
use Rattle.cb_types.specs.declared.reply.Reply.TheVariants as answer
use Rattle.cb_world.specs.declared.object.Object.{Object}
use Rattle.cb_world.specs.declared.object.Object.TheVariants as is
use Rattle.cb_world.specs.declared.access.Access.{Access}
use Rattle.cb_world.specs.declared.access.Access.TheVariants.{Told, Loaded, Settled}
use Rattle.cb_world.specs.declared.shown.Shown.{Shown}
use Rattle.cb_world.specs.Memory.{window, words_for, bytes_in}
use Rattle.cb_world.specs.Shown.{Covers, object_at, version_at}
use Rattle.cb_world.specs.Settling.{MaySettle, MaySettleAs, MayBring, settled_words}
use Rattle.cb_world.specs.Played.{after, played}
use Rattle.cb_world.specs.Allowed.{Allowed}
use Rattle.cb_world.specs.Reads.{AreReads}
use Rattle.cb_world.specs.Claimed.{IsClaimedAt, with_settled}
use Rattle.cb_world.specs.Written.{Writes, written_by, adds_as, entry}
use Rattle.cb_world.proofs.Laws.{played_append, settled_here}
use Rattle.cb_mutate.specs.Stores.{AreStores, AreLoads}
use Rattle.cb_mutate.proofs.Loaded.{loads_keep}
use Rattle.cb_mutate.proofs.Settling.{stores_written}

-- what is said of a word at which a claimed object is settled hot where it was
abbrev pub IsSameSlot : ℕ → ℕ → Type 0
IsSameSlot w n = (state_of n ≡ word.Here) × (pins_of n ≡ 0) × (len_of n ≡ len_of w)
    × (place_of n ≡ place_of w) × (hot_of n ≡ true) × (n < 2 ^ 53)

pub may_settle_hot : (s : Shown) (h w v n : ℕ) (words : List ℕ) → IsClaimedAt s h w v words
    → IsSameSlot w n → MaySettle s h n
may_settle_hot s h w v n words c k = subst (λ (q : State). MaySettleAs q s h n) (sym k.0) (
  k.5,
  k.1,
  (λ p covers. c.alone p (subst (λ (l : ℕ). Covers (place_of w) l p) k.2
      (subst (λ (a : ℕ). Covers a (len_of n) p) k.3 covers))),
  subst (MayBring s h n) (sym c.object) (
    k.2,
    inl (c.version, ap (λ (p : ℕ). window s.memory p (words_for (len_of w))) k.3 ∙ c.contents),
  ),
)

settled_hot : (s : Shown) (h w n : ℕ) → IsSameSlot w n
    → after (Settled h n) s ≡ with_settled s h w true
settled_hot s h w n k = settled_here s h n k.0
    ∙ ap (λ (l : ℕ). let q : Shown =
    record s { objects = set s.objects h (is.Here l (place_of n)); hots = set s.hots h (hot_of n) }
    in q) k.2
    ∙ ap (λ (l : ℕ). let q : Shown =
    record s { objects = set s.objects h (is.Here (len_of w) l); hots = set s.hots h (hot_of n) }
    in q) k.3
    ∙ ap (λ (b : Bool). let q : Shown =
    record s {
      objects = set s.objects h (is.Here (len_of w) (place_of w));
      hots = set s.hots h b;
    } in q) k.4

hot_written : (s : Shown) (h w v n : ℕ) (words : List ℕ) → IsClaimedAt s h w v words
    → IsSameSlot w n → Writes (Settled h n ∷ []) s []
hot_written s h w v n words c k old =
    ap (λ (q : State). adds_as q s h n (object_at s h) ++ old) k.0
    ∙ ap (λ (o : Object). adds_as word.Here s h n o ++ old) c.object
    ∙ ap (λ (b : Bool).
    cond b [] (entry h (version_at s h) (len_of n) words (settled_words s n) ∷ []) ++ old)
    (eq-eqb (version_at s h) v c.version)

pub loads_are_stores : (es : List Access) → AreLoads es → AreStores es
loads_are_stores [] a = tt
loads_are_stores (Loaded p x ∷ es) a = loads_are_stores es a
loads_are_stores (e ∷ es) a = absurd a

pub loads_are_reads : (h : ℕ) (es : List Access) → AreLoads es → AreReads h es
loads_are_reads h [] a = tt
loads_are_reads h (Loaded p x ∷ es) a = loads_are_reads h es a
loads_are_reads h (e ∷ es) a = absurd a

pub loads_allowed : (es : List Access) (s : Shown) → AreLoads es → Allowed s es
loads_allowed [] s a = tt
loads_allowed (Loaded p x ∷ es) s a = (tt, loads_allowed es s a)
loads_allowed (e ∷ es) s a = absurd a

-- what is known after the reads and the settling
pub hot_at_end : (s : Shown) (es : List Access) (h w n : ℕ) → AreLoads es → IsSameSlot w n
    → played (es ++ Settled h n ∷ []) s ≡ with_settled s h w true
hot_at_end s es h w n loads k = played_append es (Settled h n ∷ []) s
    ∙ ap (after (Settled h n)) (loads_keep es s loads) ∙ settled_hot s h w n k

pub hot_writes_none : (s : Shown) (es : List Access) (h w v x n : ℕ) (words : List ℕ)
    → AreLoads es → IsClaimedAt s h w v words → IsSameSlot w n
    → Writes (Told h x ∷ (es ++ Settled h n ∷ [])) s []
hot_writes_none s es h w v x n words loads c k old =
    stores_written es (Settled h n ∷ []) s old (loads_are_stores es loads)
    ∙ ap (λ (q : Shown). written_by (Settled h n ∷ []) q old) (loads_keep es s loads)
    ∙ hot_written s h w v n words c k old

-- the words that were read are those that the claim told
pub read_bytes : (s : Shown) (h w v : ℕ) (words loaded into : List ℕ) (f : PtrWord)
    → f ≡ fields_of w → IsClaimedAt s h w v words → into ≡ bytes_in loaded f.len
    → loaded ≡ window s.memory f.place (words_for f.len)
    → into ≡ bytes_in words (len_of w)
read_bytes s h w v words loaded into f e c bytes same =
    subst (λ (g : PtrWord). into ≡ bytes_in loaded g.len) e bytes
    ∙ ap (λ (l : List ℕ). bytes_in l (len_of w))
    (subst (λ (g : PtrWord). loaded ≡ window s.memory g.place (words_for g.len)) e same ∙ c.contents)

-- the reply of a version and bytes is one of each
pub bytes_are : {v u : ℕ} {xs ys : List ℕ} → v ≡ u → xs ≡ ys → answer.Bytes v xs ≡ answer.Bytes u ys
bytes_are e b = λ i. answer.Bytes (e i) (b i)
