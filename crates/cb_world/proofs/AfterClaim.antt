-- An operation that begins with a claim: what its whole list of events tells and leaves.
use Rattle.std.proofs.Common.{◌≡◌, ◌≤◌, ℕ, Bool, ◌<◌, List, [], ◌∷◌, ◌++◌, length, set, refl, ap, ◌∙◌}
use Rattle.cb_ptr.specs.Word.{hot_of, len_of, place_of}
use Rattle.cb_world.specs.declared.object.Object.TheVariants as is
use Rattle.cb_world.specs.declared.access.Access.{Access}
use Rattle.cb_world.specs.declared.access.Access.TheVariants.{Looked, Claimed}
use Rattle.cb_world.specs.declared.entry.Entry.{Entry}
use Rattle.cb_world.specs.declared.shown.Shown.{Shown}
use Rattle.cb_world.specs.Memory.{put}
use Rattle.cb_world.specs.Shown.{object_at, version_at}
use Rattle.cb_world.specs.Played.{after, played, Agree}
use Rattle.cb_world.specs.Looks.{IsFound, IsTaken, NoLook, AreLooks, LooksFirst, told_by}
use Rattle.cb_world.specs.Allowed.{Allowed}
use Rattle.cb_world.specs.Written.{written_by}
use Rattle.cb_world.specs.Grasped.{IsFree}
use Rattle.cb_world.specs.FarState.{FarState}
use Rattle.cb_world.specs.LocalSound.{LocalSound}
use Rattle.cb_world.specs.Claimed.{IsClaimedAt}
use Rattle.cb_world.proofs.Tracing.{told_append, played_append, written_append, looks_written, found_more, found_last, taken_more, taken_after_looks}
use Rattle.cb_world.proofs.Untouched.{allowed_append}
use Rattle.cb_world.proofs.Exact.{first_claim}
use Rattle.cb_world.proofs.Kept.{claimed_from, claim_played}
use Rattle.cb_world.proofs.Claimed.{is_claimed_at}

-- looks tell of the hot bits alone
pub looks_told : (h : ℕ) (es : List Access) (s : Shown) → AreLooks h es
    → (hots : List Bool) × (told_by es s ≡ record s { hots = hots })
looks_told h [] s a = (s.hots, refl)
looks_told h (Looked k w ∷ es) s a =
    looks_told h es (record s { hots = set s.hots k (hot_of w) }) a.1
looks_told h (e ∷ es) s a = absurd a

-- the claim behind some looks
abbrev pub claim_after : List Access → ℕ → ℕ → ℕ → List ℕ → List Access
claim_after before h w v words = before ++ Claimed h w v words ∷ []

-- what looks and a claim tell of the hot bits is what is then known of them
claim_hots : (h w v : ℕ) (words : List ℕ) (before : List Access) (s : Shown) → AreLooks h before
    → (told_by (claim_after before h w v words) s).hots
    ≡ (played (claim_after before h w v words) s).hots
claim_hots h w v words [] s a = refl
claim_hots h w v words (Looked k x ∷ es) s a =
    claim_hots h w v words es (record s { hots = set s.hots k (hot_of x) }) a.1
claim_hots h w v words (e ∷ es) s a = absurd a

-- looks and a claim are allowed at any time
pub claim_allowed : (before : List Access) (h w v : ℕ) (words : List ℕ) (s : Shown)
    → AreLooks h before → Allowed s (before ++ Claimed h w v words ∷ [])
claim_allowed [] h w v words s a = (tt, tt)
claim_allowed (Looked k x ∷ es) h w v words s a =
    (tt, claim_allowed es h w v words (after (Looked k x) s) a.1)
claim_allowed (e ∷ es) h w v words s a = absurd a

-- What is so after some looks, a claim, and the events that follow.
pub record IsAfterClaim (s : Shown) (h w v : ℕ) (words : List ℕ) (first done : List Access)
    : Type 0 where
  pub hots : List Bool
  pub at_claim : played first s ≡ claimed_from s hots h w v words
  pub at_end : played (first ++ done) s ≡ played done (played first s)
  pub here : object_at s h ≡ is.Here (len_of w) (place_of w)
  pub newer : version_at s h ≤ v
  pub claimed : IsClaimedAt (played first s) h w v words
  pub told_hots : (told_by (first ++ done) s).hots ≡ set hots h (hot_of w)
  pub versions : (told_by (first ++ done) s).versions ≡ set s.versions h v
  pub memory : (told_by (first ++ done) s).memory ≡ put s.memory (place_of w) words
  pub writes : (old : List Entry)
      → written_by (first ++ done) s old ≡ written_by done (played first s) old

pub after_claim : (far : FarState) (s : Shown) (before done : List Access) (h w v : ℕ)
    (words : List ℕ) → LocalSound s far → h < length s.objects → h < length s.versions
    → AreLooks h before → IsFree w → Agree s (claim_after before h w v words)
    → ((t : Shown) → told_by done t ≡ t)
    → IsAfterClaim s h w v words (claim_after before h w v words) done
after_claim far s before done h w v words sound range stamp looks free agree quiet =
    let first = claim_after before h w v words in
    let p = claim_played s before h w v words looks agree in
    let x = looks_told h before s looks in
    let all : told_by (first ++ done) s
    ≡ told_by (Claimed h w v words ∷ []) (record s { hots = x.0 }) =
    told_append first done s ∙ quiet (told_by first s)
    ∙ told_append before (Claimed h w v words ∷ []) s
    ∙ ap (told_by (Claimed h w v words ∷ [])) x.1 in
    record {
      hots = p.0;
      at_claim = p.1;
      at_end = played_append first done s;
      here = p.2;
      newer = p.5;
      claimed = is_claimed_at far s before h w v words sound range stamp looks agree free;
      told_hots = ap (λ (t : Shown). t.hots) (told_append first done s ∙ quiet (told_by first s))
          ∙ claim_hots h w v words before s looks ∙ ap (λ (t : Shown). t.hots) p.1;
      versions = ap (λ (t : Shown). t.versions) all;
      memory = ap (λ (t : Shown). t.memory) all;
      writes = λ old. written_append first done s old
          ∙ ap (written_by done (played first s))
          (written_append before (Claimed h w v words ∷ []) s old
          ∙ looks_written h before s old looks);
    }

-- what the whole list tells of the object
pub claim_found : (before done : List Access) (h w v : ℕ) (words : List ℕ) → NoLook h done
    → IsFound h w (claim_after before h w v words ++ done)
claim_found before done h w v words none =
    found_more h w (claim_after before h w v words) done
    (found_last h w before (Claimed h w v words) (refl, refl)) none

pub claim_taken : (before done : List Access) (h w v : ℕ) (words : List ℕ) → AreLooks h before
    → IsTaken h v words (claim_after before h w v words ++ done)
claim_taken before done h w v words looks =
    taken_more h v words (claim_after before h w v words) done
    (taken_after_looks h w v words before looks)

pub claim_first : (before done : List Access) (h w v : ℕ) (words : List ℕ) → AreLooks h before
    → NoLook h done → LooksFirst done → LooksFirst (claim_after before h w v words ++ done)
claim_first before done h w v words looks none first =
    first_claim h w v words before done looks none first

pub claim_all_allowed : (before done : List Access) (h w v : ℕ) (words : List ℕ) (s : Shown)
    → AreLooks h before → Allowed (played (claim_after before h w v words) s) done
    → Allowed s (claim_after before h w v words ++ done)
claim_all_allowed before done h w v words s looks rest =
    allowed_append (claim_after before h w v words) done s
    (claim_allowed before h w v words s looks) rest
