-- A claimed object is settled at a place where its words stand, not hot.
use Rattle.std.proofs.Common.{◌≡◌, ℕ, Bool, false, ◌+◌, ◌<◌, ◌≤◌, List, [], ◌∷◌, ◌++◌, length, set, sym, ap, ◌∙◌, subst, arith, inl, eq-eqb, cond}
use Rattle.cb_ptr.specs.declared.word.State.{State}
use Rattle.cb_ptr.specs.declared.word.State.TheVariants as word
use Rattle.cb_ptr.specs.Word.{state_of, len_of, place_of}
use Rattle.cb_ptr.specs.Steps.{Claims, Settles}
use Rattle.cb_world.specs.declared.object.Object.{Object}
use Rattle.cb_world.specs.declared.object.Object.TheVariants as is
use Rattle.cb_world.specs.declared.access.Access.{Access}
use Rattle.cb_world.specs.declared.access.Access.TheVariants.{Settled}
use Rattle.cb_world.specs.declared.shown.Shown.{Shown}
use Rattle.cb_world.specs.Memory.{window, put, words_for}
use Rattle.cb_world.specs.Shown.{Covers, Owns, MayLie, object_at, version_at}
use Rattle.cb_world.specs.Settling.{MaySettle, MaySettleAs, MayBring, settled_words}
use Rattle.cb_world.specs.Played.{Agree, after, played}
use Rattle.cb_world.specs.Allowed.{Allowed}
use Rattle.cb_world.specs.Written.{Writes, written_by, adds_as, entry}
use Rattle.cb_world.specs.Claimed.{IsClaimedAt}
use Rattle.cb_world.proofs.Laws.{window_put, length_put, held, settled_here, played_append, allowed_append}
use Rattle.cb_filter.specs.Copies.{IsCoolWord, IsVacant, copied_from}
use Rattle.cb_filter.specs.ClaimEnds.{IsCarried, IsSettledBack}
use Rattle.cb_filter.proofs.Copied.{copied_played, copied_allowed, copied_words, copied_written, owns_lie}

-- the word at which the object is settled
pub cool_word : (w m n at place : ℕ) → Claims w m → at ≡ place → Settles m at false n
    → IsCoolWord w place n
cool_word w m n at place moved e s = record {
  state = s.state;
  pins = s.pins ∙ moved.pins;
  len = s.len ∙ moved.len;
  at = s.place ∙ e;
  hot = s.hot;
  below = s.below;
}

-- where its words stand at its own version, it may be settled
may_settle_at : (t : Shown) (h w v n place : ℕ) (words : List ℕ)
    → object_at t h ≡ is.Claimed (len_of w) (place_of w) v words → version_at t h ≡ v
    → window t.memory place (words_for (len_of w)) ≡ words
    → ((p : ℕ) → Covers place (len_of w) p → MayLie t h p) → IsCoolWord w place n → MaySettle t h n
may_settle_at t h w v n place words object version contents alone k =
    subst (λ (q : State). MaySettleAs q t h n) (sym k.state) (
      k.below,
      k.pins,
      λ p covers. alone p (subst (λ (a : ℕ). Covers a (len_of w) p) k.at
          (subst (λ (l : ℕ). Covers (place_of n) l p) k.len covers)),
      subst (MayBring t h n) (sym object) (
        k.len,
        inl (
          version,
          ap (λ (p : ℕ). window t.memory p (words_for (len_of w))) k.at ∙ contents,
        ),
      ),
    )

-- that writes nothing
nothing_written : (t : Shown) (h w v n : ℕ) (words : List ℕ)
    → object_at t h ≡ is.Claimed (len_of w) (place_of w) v words → version_at t h ≡ v
    → state_of n ≡ word.Here → Writes (Settled h n ∷ []) t []
nothing_written t h w v n words object version state old =
    ap (λ (q : State). adds_as q t h n (object_at t h) ++ old) state
    ∙ ap (λ (o : Object). adds_as word.Here t h n o ++ old) object
    ∙ ap (λ (b : Bool).
    cond b [] (entry h (version_at t h) (len_of n) words (settled_words t n) ∷ []) ++ old)
    (eq-eqb (version_at t h) v version)

-- what is known once it is settled
settled_cool : (t : Shown) (h w n place : ℕ) → IsCoolWord w place n
    → after (Settled h n) t ≡ record t {
      objects = set t.objects h (is.Here (len_of w) place);
      hots = set t.hots h false;
    }
settled_cool t h w n place k = settled_here t h n k.state
    ∙ (λ i. record t {
      objects = set t.objects h (is.Here (k.len i) (k.at i));
      hots = set t.hots h (k.hot i);
    })

pub may_cool : (s : Shown) (h w v n : ℕ) (words : List ℕ) → IsClaimedAt s h w v words
    → IsCoolWord w (place_of w) n → MaySettle s h n
may_cool s h w v n words c k =
    may_settle_at s h w v n (place_of w) words c.object c.version c.contents c.alone k

pub cooled : (s : Shown) (h w v n : ℕ) (words : List ℕ) → IsClaimedAt s h w v words
    → IsCoolWord w (place_of w) n
    → IsSettledBack s h w false (Settled h n ∷ []) (played (Settled h n ∷ []) s)
cooled s h w v n words c k = record {
  settled = settled_cool s h w n (place_of w) k;
  nothing = nothing_written s h w v n words c.object c.version k.state;
}

-- What is known of the words that were copied.
pub record IsCopied (s : Shown) (h w v place : ℕ) (words copied : List ℕ) : Type 0 where
  pub claimed : IsClaimedAt s h w v words
  pub vacant : IsVacant s h w place
  pub count : length copied ≡ words_for (len_of w)
  pub agree : Agree s (copied_from (place_of w) place copied)

-- the new place is the caller's
pub owns_vacant : (s : Shown) (h w v place p : ℕ) (words : List ℕ) → IsClaimedAt s h w v words
    → IsVacant s h w place → place ≤ p → p < place + words_for (len_of w) → Owns s p
owns_vacant s h w v place p words c vacant low high =
    owns_lie s h p (held s h w v words c) (vacant.alone p (low, high))

-- what was copied is what the object holds
same_words : (s : Shown) (h w v place : ℕ) (words copied : List ℕ)
    → IsCopied s h w v place words copied → copied ≡ words
same_words s h w v place words copied x =
    copied_words (place_of w) place copied s x.agree
    (λ p low high. x.claimed.owned p (low, omega (arith, high, x.count)))
    (λ p low high more less. x.vacant.apart p (more, omega (arith, less, x.count))
    (low, omega (arith, high, x.count)))
    ∙ ap (window s.memory (place_of w)) x.count ∙ x.claimed.contents

-- what is known once they are copied
abbrev with_words : Shown → ℕ → List ℕ → Shown
with_words s place words = record s { memory = put s.memory place words }

may_carry_at : (s : Shown) (h w v place n : ℕ) (words : List ℕ) → IsClaimedAt s h w v words
    → IsVacant s h w place → length words ≡ words_for (len_of w) → IsCoolWord w place n
    → MaySettle (with_words s place words) h n
may_carry_at s h w v place n words c vacant count k =
    may_settle_at (with_words s place words) h w v n place words c.object c.version
    (ap (window (put s.memory place words) place) (sym count)
    ∙ window_put s.memory place words (omega (arith, count, vacant.within)))
    (λ p covers. let may = vacant.alone p covers in
    (subst (λ (l : ℕ). p < l) (sym (length_put s.memory place words)) may.0, may.1)) k

pub may_carry : (s : Shown) (h w v place n : ℕ) (words copied : List ℕ)
    → IsCopied s h w v place words copied → IsCoolWord w place n
    → MaySettle (played (copied_from (place_of w) place copied) s) h n
may_carry s h w v place n words copied x k =
    let same = same_words s h w v place words copied x in
    subst (λ (t : Shown). MaySettle t h n) (sym (copied_played (place_of w) place copied s))
    (subst (λ (l : List ℕ). MaySettle (with_words s place l) h n) (sym same)
    (may_carry_at s h w v place n words x.claimed x.vacant
    (ap length (sym same) ∙ x.count) k))

pub carry_allowed : (s : Shown) (h w v place n : ℕ) (words copied : List ℕ)
    → IsCopied s h w v place words copied → IsCoolWord w place n
    → Allowed s (copied_from (place_of w) place copied ++ Settled h n ∷ [])
carry_allowed s h w v place n words copied x k =
    allowed_append (copied_from (place_of w) place copied) (Settled h n ∷ []) s
    (copied_allowed (place_of w) place copied s
    (λ p low high. owns_vacant s h w v place p words x.claimed x.vacant low
    (omega (arith, high, x.count))))
    (may_carry s h w v place n words copied x k, tt)

pub carried : (s : Shown) (h w v place n : ℕ) (words copied : List ℕ)
    → IsCopied s h w v place words copied → IsCoolWord w place n
    → IsCarried s h w place words (copied_from (place_of w) place copied ++ Settled h n ∷ [])
    (played (copied_from (place_of w) place copied ++ Settled h n ∷ []) s)
carried s h w v place n words copied x k =
    let es = copied_from (place_of w) place copied in
    let same = same_words s h w v place words copied x in
    let at : played es s ≡ with_words s place words = copied_played (place_of w) place copied s
    ∙ ap (with_words s place) same in record {
      settled = played_append es (Settled h n ∷ []) s
          ∙ ap (after (Settled h n)) at
          ∙ settled_cool (with_words s place words) h w n place k;
      nothing = λ old. copied_written (place_of w) place copied (Settled h n ∷ []) s old
          ∙ ap (λ (t : Shown). written_by (Settled h n ∷ []) t old) at
          ∙ nothing_written (with_words s place words) h w v n words x.claimed.object
          x.claimed.version k.state old;
    }

-- what agrees with what is known does so in its first part
pub agree_first : (es fs : List Access) (s : Shown) → Agree s (es ++ fs) → Agree s es
agree_first [] fs s a = tt
agree_first (e ∷ es) fs s a = (a.0, agree_first es fs (after e s) a.1)
