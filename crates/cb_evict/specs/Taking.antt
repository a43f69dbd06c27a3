-- The front of an eviction and of a begin: k spans are claimed, or it is refused.
use Rattle.std.specs.Prelude.{◌≡◌, ◌⊎◌, ℕ, ◌+◌, ◌<◌, ◌≤◌, Bool, true, ◌++◌, List, [], Some, take}
use Rattle.cb_world.specs.declared.access.Access.{Access}
use Rattle.cb_world.specs.declared.leaving.Former.{Former}
use Rattle.cb_world.specs.declared.shown.Shown.{Shown}
use Rattle.cb_world.specs.Choices.{room_count}
use Rattle.cb_world.specs.FarState.{FarState, pages_at}
use Rattle.cb_evict.specs.declared.eviction.Eviction.{Eviction}
use Rattle.cb_evict.specs.declared.eviction.Eviction.TheVariants.{Refused}
use Rattle.cb_evict.specs.declared.taking.Taken.{Taken}
use Rattle.cb_evict.specs.declared.taking.Taken.TheVariants.{Few, Enough}
use Rattle.cb_evict.specs.Candidates.{candidates, AreLoose}
use Rattle.cb_evict.specs.Claiming.{ClaimsThese}
use Rattle.cb_evict.specs.EvictRule.{HasFewSpans, HasFewNodes}
use Rattle.cb_evict.specs.Eviction.{reply_of, TellsCounts}
use Rattle.cb_evict.specs.Evicting.{AreSpansTaken}
use Rattle.cb_evict.specs.Lengths.{batch_pages, count_of, loose_of, without}
use Rattle.cb_evict.specs.Loading.{LiesInOne}
use Rattle.cb_evict.specs.Looking.{IsIn}

-- of the spans that may leave these are loose by the last looks
abbrev pub AreLooseNow : FarState → List ℕ → List Access → Type 0
AreLooseNow far loose es = AreLoose es far.spans (candidates far) loose

-- where those were loose before, these are so after the events
abbrev pub AreLooseStill : FarState → List ℕ → List ℕ → List Access → Type 0
AreLooseStill far was loose es = (before : List Access) → AreLooseNow far was before
    → AreLooseNow far loose (before ++ es)

-- the same of any spans that have those of one length of some that were loose; of this length some are
-- lost then
abbrev pub AreLostSince : FarState → List ℕ → ℕ → (ℕ → Bool) → List Access → Type 0
AreLostSince far loose pages lost es = (before : List Access) (was : List ℕ)
    → loose_of far.spans pages was ≡ loose_of far.spans pages loose → AreLooseNow far was before
    → AreLooseNow far (without lost was) (before ++ es)

-- Spans that may leave are looked at and claimed, and this is found. In the end these objects are
-- claimed, and all else is as it was.
abbrev pub TriesSpans : (List Access → Type 0) → (Shown → Type 0) → FarState → (List Access → Type 0)
    → List Former → Type 0
TriesSpans runs shows far finds formers = ClaimsThese runs shows (IsIn far.spans (candidates far))
    (LiesInOne far.spans (candidates far)) finds formers

-- fewer than k spans of a length can be claimed, and none is: by the last looks so many were loose
pub record ClaimsFewer (far : FarState) (left : List ℕ) (pages count : ℕ) (frames : List ℕ)
    (formers : List Former) : Type 0 where
  pub few : count < far.code.k
  pub counted : count ≡ count_of far.spans pages left
  pub none : (frames ≡ []) × (formers ≡ [])

-- the first k spans of a length are claimed
pub record ClaimsAll (far : FarState) (left : List ℕ) (pages count : ℕ) (frames : List ℕ)
    (formers : List Former) : Type 0 where
  pub all : count ≡ far.code.k
  pub enough : far.code.k ≤ count_of far.spans pages left
  pub first : frames ≡ take far.code.k (loose_of far.spans pages left)
  pub taken : AreSpansTaken far frames formers

-- Of these spans the first k that have so many pages are claimed, or none. Those of this length of
-- which an object could not be claimed are lost.
pub record ClaimsLength (runs : List Access → Type 0) (shows : Shown → Type 0) (far : FarState)
    (loose : List ℕ) (pages count : ℕ) (frames : List ℕ) (formers : List Former) : Type 0 where
  pub lost : ℕ → Bool
  pub long : (f : ℕ) → lost f ≡ true → pages_at far.spans f ≡ pages
  pub tries : ClaimsThese runs shows (IsIn far.spans (loose_of far.spans pages loose)) (λ p. ⊥)
      (AreLostSince far loose pages lost) formers
  pub came : ClaimsFewer far (without lost loose) pages count frames formers
      ⊎ ClaimsAll far (without lost loose) pages count frames formers

-- of no length are k spans loose, or fewer than k + r nodes have room; this refusal tells so, and no
-- object is claimed
pub record TakesFew (runs : List Access → Type 0) (shows : Shown → Type 0)
    (far : FarState) (finds : List ℕ → List Access → Type 0) (e : Eviction) : Type 0 where
  pub loose : List ℕ
  pub tries : TriesSpans runs shows far (finds loose) []
  pub few : HasFewSpans far far (reply_of e) loose ⊎ HasFewNodes far far (reply_of e) loose
  pub counts : TellsCounts far loose e

-- enough spans of a length are loose and enough nodes have room: of the greatest such length the
-- first k loose spans are claimed
pub record TakesEnough (runs : List Access → Type 0) (shows : Shown → Type 0)
    (far : FarState) (finds : List ℕ → List Access → Type 0) (frames : List ℕ)
    (formers : List Former) : Type 0 where
  pub loose : List ℕ
  pub tries : TriesSpans runs shows far (finds loose) formers
  pub pages : ℕ
  pub longest : batch_pages far.code.k far.spans loose ≡ Some pages
  pub first : frames ≡ take far.code.k (loose_of far.spans pages loose)
  pub room : far.code.k + far.code.r ≤ room_count far.nodes far.members
  pub taken : AreSpansTaken far frames formers

-- by the answer
abbrev pub Takes : (List Access → Type 0) → (Shown → Type 0) → FarState
    → (List ℕ → List Access → Type 0) → Taken → Type 0
Takes runs shows far finds (Few lack loose nodes) =
    TakesFew runs shows far finds (Refused lack loose nodes)
Takes runs shows far finds (Enough frames formers) =
    TakesEnough runs shows far finds frames.items formers.items
