-- What lists of events do, one after another.
use Rattle.std.proofs.Common.{◌≡◌, ℕ, Bool, List, [], ◌∷◌, ◌++◌, length, set, refl, ◌∙◌, inl, inr, length-set}
use Rattle.cb_ptr.specs.Word.{hot_of}
use Rattle.cb_world.specs.declared.access.Access.{Access}
use Rattle.cb_world.specs.declared.access.Access.TheVariants.{Looked, Claimed}
use Rattle.cb_world.specs.declared.shown.Shown.{Shown}
use Rattle.cb_world.specs.Played.{Agree, after, played}
use Rattle.cb_world.specs.declared.entry.Entry.{Entry}
use Rattle.cb_world.specs.Written.{written_by}
use Rattle.cb_world.specs.Looks.{IsLook, NoLook, IsFound, IsTaken, AreLooks, told_by}

pub played_append : (es fs : List Access) (s : Shown) → played (es ++ fs) s ≡ played fs (played es s)
played_append [] fs s = refl
played_append (e ∷ es) fs s = played_append es fs (after e s)

pub agree_last : (es fs : List Access) (s : Shown) → Agree s (es ++ fs) → Agree (played es s) fs
agree_last [] fs s a = a
agree_last (e ∷ es) fs s a = agree_last es fs (after e s) a.1

-- looks tell of the hot bits alone
pub looks_played : (h : ℕ) (es : List Access) (s : Shown) → AreLooks h es → (hots : List Bool)
    × (length hots ≡ length s.hots) × (played es s ≡ record s { hots = hots })
looks_played h [] s a = (s.hots, refl, refl)
looks_played h (Looked k w ∷ es) s a = let next =
    looks_played h es (record s { hots = set s.hots k (hot_of w) }) a.1 in
    (next.0, next.1 ∙ length-set s.hots k (hot_of w), next.2)
looks_played h (e ∷ es) s a = absurd a

pub found_more : (h w : ℕ) (es fs : List Access) → IsFound h w es → NoLook h fs
    → IsFound h w (es ++ fs)
found_more h w [] fs a b = absurd a
found_more h w (e ∷ es) fs (inl a) b = inl (found_more h w es fs a b)
found_more h w (e ∷ es) fs (inr a) b = inr (a.0, no_more h es fs a.1 b)
  where
    no_more : (h : ℕ) (es fs : List Access) → NoLook h es → NoLook h fs → NoLook h (es ++ fs)
    no_more h [] fs a b = b
    no_more h (e ∷ es) fs a b = (a.0, no_more h es fs a.1 b)

-- the last event is the look
pub found_last : (h w : ℕ) (es : List Access) (e : Access) → IsLook h w e → IsFound h w (es ++ e ∷ [])
found_last h w [] e a = inr (a, tt)
found_last h w (d ∷ es) e a = inl (found_last h w es e a)

pub taken_more : (h v : ℕ) (words : List ℕ) (es fs : List Access) → IsTaken h v words es
    → IsTaken h v words (es ++ fs)
taken_more h v words [] fs a = absurd a
taken_more h v words (Claimed k x u xs ∷ es) fs (inl a) = inl (taken_more h v words es fs a)
taken_more h v words (Claimed k x u xs ∷ es) fs (inr a) = inr a
taken_more h v words (e ∷ es) fs a = taken_more h v words es fs a

pub taken_after_looks : (h w v : ℕ) (words : List ℕ) (es : List Access) → AreLooks h es
    → IsTaken h v words (es ++ Claimed h w v words ∷ [])
taken_after_looks h w v words [] a = inr (refl, refl, refl)
taken_after_looks h w v words (Looked k x ∷ es) a = taken_after_looks h w v words es a.1
taken_after_looks h w v words (e ∷ es) a = absurd a

pub told_append : (es fs : List Access) (s : Shown)
    → told_by (es ++ fs) s ≡ told_by fs (told_by es s)
told_append [] fs s = refl
told_append (Looked k x ∷ es) fs s = told_append es fs _
told_append (Claimed k x u xs ∷ es) fs s = told_append es fs _
told_append (e ∷ es) fs s = told_append es fs s

pub written_append : (es fs : List Access) (s : Shown) (old : List Entry)
    → written_by (es ++ fs) s old ≡ written_by fs (played es s) (written_by es s old)
written_append [] fs s old = refl
written_append (e ∷ es) fs s old = written_append es fs (after e s) _

-- looks write nothing
pub looks_written : (h : ℕ) (es : List Access) (s : Shown) (old : List Entry) → AreLooks h es
    → written_by es s old ≡ old
looks_written h [] s old a = refl
looks_written h (Looked k w ∷ es) s old a = looks_written h es (after (Looked k w) s) old a.1
looks_written h (e ∷ es) s old a = absurd a
