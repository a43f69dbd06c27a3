-- Events that are at one object, and settle it last.
use Rattle.std.proofs.Common.{ℕ, List, [], ◌∷◌, ◌++◌, refl}
use Rattle.cb_world.specs.declared.access.Access.{Access}
use Rattle.cb_world.specs.declared.access.Access.TheVariants.{Looked, Told, Loaded}
use Rattle.cb_world.specs.Looks.{AreLooks}
use Rattle.cb_world.specs.Reads.{AreReads}
use Rattle.cb_world.specs.Touches.{Touches, SettlesLast}
use Rattle.cb_world.proofs.AfterClaim.{claim_after}
use Rattle.cb_world.proofs.AfterLook.{look_after}

pub touches_append : (h place len : ℕ) (es fs : List Access) → Touches h place len es
    → Touches h place len fs → Touches h place len (es ++ fs)
touches_append h place len [] fs a b = b
touches_append h place len (e ∷ es) fs a b = (a.0, touches_append h place len es fs a.1 b)

-- some looks and a claim are at the object
pub claim_touches : (h w v place len : ℕ) (words : List ℕ) (before done : List Access)
    → AreLooks h before → Touches h place len done
    → Touches h place len (claim_after before h w v words ++ done)
claim_touches h w v place len words [] done a b = (refl, b)
claim_touches h w v place len words (Looked k x ∷ before) done a b =
    (a.0, claim_touches h w v place len words before done a.1 b)
claim_touches h w v place len words (e ∷ before) done a b = absurd a

-- and so are looks alone
pub look_touches : (h w place len : ℕ) (before es : List Access) → AreLooks h before
    → Touches h place len es → Touches h place len (look_after before h w ++ es)
look_touches h w place len [] es a b = (refl, b)
look_touches h w place len (Looked k x ∷ before) es a b =
    (a.0, look_touches h w place len before es a.1 b)
look_touches h w place len (e ∷ before) es a b = absurd a

pub claim_settles_last : (h w v : ℕ) (words : List ℕ) (before done : List Access)
    → AreLooks h before → SettlesLast done → SettlesLast (claim_after before h w v words ++ done)
claim_settles_last h w v words [] done a b = b
claim_settles_last h w v words (Looked k x ∷ before) done a b =
    claim_settles_last h w v words before done a.1 b
claim_settles_last h w v words (e ∷ before) done a b = absurd a

reads_settle_last : (h : ℕ) (es : List Access) → AreReads h es → SettlesLast es
reads_settle_last h [] a = tt
reads_settle_last h (Told k v ∷ es) a = reads_settle_last h es a.1
reads_settle_last h (Loaded p x ∷ es) a = reads_settle_last h es a
reads_settle_last h (e ∷ es) a = absurd a

pub look_settles_last : (h w : ℕ) (before es : List Access) → AreLooks h before → AreReads h es
    → SettlesLast (look_after before h w ++ es)
look_settles_last h w [] es a b = reads_settle_last h es b
look_settles_last h w (Looked k x ∷ before) es a b = look_settles_last h w before es a.1 b
look_settles_last h w (e ∷ before) es a b = absurd a
