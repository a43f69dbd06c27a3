-- A turn that may write an object may write it still after each of its steps.
use Rattle.std.proofs.Common.{◌≡◌, ◌≢◌, ◌⊎◌, ℕ, zero, suc, ◌+◌, ◌*◌, ◌<◌, ◌≤◌, true, cond}
use Rattle.std.proofs.Common.{eqb, List, [], ◌∷◌, Option, None, Some, get_or, length, sym}
use Rattle.std.proofs.Common.{refl, ap, ◌∙◌, subst, inl, inr, ⊎_elim, arith, eqb-true}
use Rattle.std.proofs.Common.{get_or-set_other}
use native.Mathlib.Decide.{ℕ_discrete}
use Rattle.atomic_table.specs.Seated.{TableId}
use Rattle.cb_types.specs.declared.config.Config.{Config}
use Rattle.cb_types.specs.declared.job.Job.{Job}
use Rattle.cb_types.specs.declared.job.Job.TheVariants.{Make, Write, Free}
use Rattle.cb_ptr.specs.declared.word.State.{State}
use Rattle.cb_ptr.specs.declared.word.State.TheVariants as word
use Rattle.cb_ptr.specs.Word.{state_of, len_of, place_of}
use Rattle.cb_world.specs.declared.desk.Claim.{Claim}
use Rattle.cb_world.specs.declared.desk.Claim.TheVariants as answer
use Rattle.cb_world.specs.declared.access.Access.{Access}
use Rattle.cb_world.specs.declared.access.Access.TheVariants as ev
use Rattle.cb_world.specs.declared.object.Object.{Object}
use Rattle.cb_world.specs.declared.object.Object.TheVariants as is
use Rattle.cb_world.specs.declared.shown.Shown.{Shown}
use Rattle.cb_world.specs.FarState.{FarState}
use Rattle.cb_world.specs.FrameWords.{loads_from, stores_from}
use Rattle.cb_world.specs.Played.{Agrees, after, settled_by}
use Rattle.cb_world.specs.Settling.{MaySettle, MaySettleAs, MayFree, MayPutAway}
use Rattle.cb_world.specs.Shown.{never, object_at, version_at}
use Rattle.cb_world.specs.Sound.{Sound}
use Rattle.cb_world.specs.Written.{adds, adds_as}
use Rattle.cb_rule.specs.declared.view.View.{View}
use Rattle.cb_rule.specs.Own.{MayWrite, entries_on, writes_it}
use Rattle.cb_rule.specs.Slot.{Sat}
use Rattle.cb_rule.specs.Steps.{HasEvent, act, acted}
use Rattle.cb_rule.proofs.Laws.{entries_acted, hit, known_entries, times-append}
use Rattle.cb_shared.specs.declared.setup.Setup.{Setup}
use Rattle.cb_shared.specs.SeatLaws.{holds_still}
use Rattle.cb_shared.specs.Rights.{rights, unmade, writes_of}
use Rattle.cb_shared.specs.Seats.{Acts, HoldsLock, Moves, SeatAt, record_at}
use Rattle.cb_shared.specs.Turning.{KnowsOf}

of_unmade : (o : Object) → 0 < unmade o → o ≡ never
of_unmade (is.Empty v) pos = Rattle.cb_rule.proofs.Laws.by_case
    (λ b. 0 < cond {A = ℕ} b 1 0 → is.Empty v ≡ never) (eqb v 0)
    (λ same _. ap (λ (n : ℕ). is.Empty n) (eqb-true v 0 same)) (λ _ p. absurd (omega (arith, p))) pos
of_unmade (is.Far len v words) pos = absurd (omega (arith, pos))
of_unmade (is.Here len place) pos = absurd (omega (arith, pos))
of_unmade (is.Claimed len place v words) pos = absurd (omega (arith, pos))

-- the two ways to say it
pub may_write : (h : ℕ) (known : Shown) (v : View) → 1 ≤ rights (Some h) known v
    → MayWrite h known v
may_write h known v r = by_entries (entries_on h v) refl
  where
    by_entries : (n : ℕ) → entries_on h v ≡ n → MayWrite h known v
    by_entries zero e = inr (of_unmade (object_at known h) (omega (arith, r, e)))
    by_entries (suc n) e = inl (omega (arith, e))

pub rights_are : (h : ℕ) (known : Shown) (v : View) → MayWrite h known v
    → 1 ≤ rights (Some h) known v
rights_are h known v may = ⊎_elim (λ (some_of : 0 < entries_on h v). omega (arith, some_of))
    (λ (n : object_at known h ≡ never). let one : unmade (object_at known h) ≡ 1 = ap unmade n in
    omega (arith, one)) may

-- what is settled may be settled so
abbrev pub SettlesRightly : Access → Shown → Type 0
SettlesRightly (ev.Settled h w) s = MaySettle s h w
SettlesRightly e s = Unit {0}

module _ (k : ℕ) (s : Shown) (v : View) (known : v.known ≡ s) where
  -- an object that was never made is made by the step, or stays so
  unmade_after : (e : Access) → Agrees s e → SettlesRightly e s → object_at s k ≡ never
      → MayWrite k (after e s) (act e v)
  unmade_after (ev.Looked h w) a m n = inr n
  unmade_after (ev.Claimed h w version words) a m n = elim (ℕ_discrete k h) [
    | yes e ↦ absurd (not_here (sym n ∙ ap (object_at s) e ∙ a.0))
    | no ne ↦ inr (get_or-set_other s.objects h k (is.Claimed (len_of w) (place_of w) version words)
        never ne ∙ n)
  ]
    where
      is_here : Object → ℕ
      is_here (is.Empty x) = 0
      is_here (is.Far len x ws) = 0
      is_here (is.Here len place) = 1
      is_here (is.Claimed len place x ws) = 0

      not_here : never ≡ is.Here (len_of w) (place_of w) → ⊥
      not_here e = let z : 0 ≡ 1 = ap is_here e in omega (arith, z)
  unmade_after (ev.Told h x) a m n = inr n
  unmade_after (ev.Loaded p x) a m n = inr n
  unmade_after (ev.Stored p x) a m n = inr n
  unmade_after (ev.Stamped h x) a m n = inr n
  unmade_after (ev.Settled h w) a m n = elim (ℕ_discrete k h) [
    | yes e ↦ inl (made (state_of w) refl m (ap (object_at s) (sym e) ∙ n) e)
    | no ne ↦ inr (get_or-set_other s.objects h k (settled_by (state_of w) w (version_at s h)
        (object_at s h)) never ne ∙ n)
  ]
    where
      made : (st : State) → state_of w ≡ st → MaySettleAs st s h w → object_at s h ≡ never → k ≡ h
          → 0 < entries_on k (act (ev.Settled h w) v)
      made word.Empty is_st q never_h e = absurd (subst (MayFree s h) never_h q.1)
      made word.Far is_st q never_h e = absurd (subst (MayPutAway s h w) never_h q)
      made word.Here is_st q never_h e =
          let some_of : 0 < Rattle.cb_rule.specs.Lists.times (writes_it k)
          (adds (ev.Settled h w) v.known) =
          subst (λ (t : Shown). 0 < Rattle.cb_rule.specs.Lists.times (writes_it k)
          (adds (ev.Settled h w) t)) (sym known)
          (subst (λ (x : State). 0 < Rattle.cb_rule.specs.Lists.times (writes_it k)
          (adds_as x s h w (object_at s h))) (sym is_st)
          (subst (λ (o : Object). 0 < Rattle.cb_rule.specs.Lists.times (writes_it k)
          (adds_as word.Here s h w o)) (sym never_h)
          (let one = hit (eqb h k) (Rattle.std.proofs.Common.eq-eqb h k (sym e)) in
          omega (arith, one)))) in
          let all = times-append (writes_it k) (adds (ev.Settled h w) v.known) v.fresh in
          omega (arith, some_of, all)
      made word.Moving is_st q never_h e = absurd q

-- a step of the holder leaves the rights of its turn
pub rights_acted : (allowed : Option ℕ) (e : Access) (v : View) → Agrees v.known e
    → SettlesRightly e v.known → 1 ≤ rights allowed v.known v
    → 1 ≤ rights allowed (act e v).known (act e v)
rights_acted None e v a m r = r
rights_acted (Some k) e v a m r = rights_are k (act e v).known (act e v) (⊎_elim
    (λ (some_of : 0 < entries_on k v). inl (let le = entries_acted k e v in omega (arith, some_of, le)))
    (λ (n : object_at v.known k ≡ never). unmade_after k v.known v refl e a m n)
    (may_write k v.known v r))

pub rights_moved : (allowed : Option ℕ) (e : Access) (p q : SeatAt) → Acts p e q
    → SettlesRightly e (record_at p).known → 1 ≤ rights allowed (record_at p).known (record_at p)
    → 1 ≤ rights allowed (record_at q).known (record_at q)
rights_moved allowed e p q a m r = subst (λ (x : Sat). 1 ≤ rights allowed x.0.known x.0)
    (sym a.0.2) (rights_acted allowed e (record_at p) a.1 m r)

-- so do loads, and stores of memory words
rights_loads : (allowed : Option ℕ) (place : ℕ) (ws : List ℕ) (v : View)
    → 1 ≤ rights allowed v.known v
    → 1 ≤ rights allowed (acted (loads_from place ws) v).known (acted (loads_from place ws) v)
rights_loads allowed place [] v r = r
rights_loads allowed place (w ∷ ws) v r = rights_loads allowed (place + 1) ws (act (ev.Loaded place w) v)
    (same allowed r)
  where
    same : (x : Option ℕ) → 1 ≤ rights x v.known v
        → 1 ≤ rights x (act (ev.Loaded place w) v).known (act (ev.Loaded place w) v)
    same None r = r
    same (Some h) r = r

rights_stores : (allowed : Option ℕ) (place : ℕ) (ws : List ℕ) (v : View)
    → 1 ≤ rights allowed v.known v
    → 1 ≤ rights allowed (acted (stores_from place ws) v).known (acted (stores_from place ws) v)
rights_stores allowed place [] v r = r
rights_stores allowed place (w ∷ ws) v r =
    rights_stores allowed (place + 1) ws (act (ev.Stored place w) v) (same allowed r)
  where
    same : (x : Option ℕ) → 1 ≤ rights x v.known v
        → 1 ≤ rights x (act (ev.Stored place w) v).known (act (ev.Stored place w) v)
    same None r = r
    same (Some h) r = r

pub rights_loaded : (allowed : Option ℕ) (place : ℕ) (ws : List ℕ) (p q : SeatAt)
    → Moves p q (acted (loads_from place ws) (record_at p)) → 1 ≤ rights allowed (record_at p).known
    (record_at p)
    → 1 ≤ rights allowed (record_at q).known (record_at q)
rights_loaded allowed place ws p q m r = subst (λ (x : Sat). 1 ≤ rights allowed x.0.known x.0)
    (sym m.2) (rights_loads allowed place ws (record_at p) r)

pub rights_stored : (allowed : Option ℕ) (place : ℕ) (ws : List ℕ) (p q : SeatAt)
    → Moves p q (acted (stores_from place ws) (record_at p))
    → 1 ≤ rights allowed (record_at p).known (record_at p)
    → 1 ≤ rights allowed (record_at q).known (record_at q)
rights_stored allowed place ws p q m r = subst (λ (x : Sat). 1 ≤ rights allowed x.0.known x.0)
    (sym m.2) (rights_stores allowed place ws (record_at p) r)

-- when a turn begins it may write the object of its job
pub begins_with : (job : Job) (far : FarState) (v : View) → Sound v.known far → KnowsOf job v
    → 1 ≤ rights (writes_of job far) v.known v
begins_with (Make bytes) far v sound knows = rights_are far.made v.known v (inr next)
  where
    beyond : (l : List Object) (i : ℕ) → length l ≤ i → get_or l i never ≡ never
    beyond [] i e = refl
    beyond (x ∷ xs) zero e = absurd (omega (arith, e))
    beyond (x ∷ xs) (suc i) e = beyond xs i (omega (arith, e))

    next : object_at v.known far.made ≡ never
    next = by_length (lt_or_le far.made (length v.known.objects))
      where
        lt_or_le : (a b : ℕ) → (a < b) ⊎ (b ≤ a)
        lt_or_le a zero = inr (omega arith)
        lt_or_le zero (suc b) = inl (omega arith)
        lt_or_le (suc a) (suc b) = ⊎_elim (λ (l : a < b). inl (omega (arith, l)))
            (λ (l : b ≤ a). inr (omega (arith, l))) (lt_or_le a b)

        by_length : (far.made < length v.known.objects) ⊎ (length v.known.objects ≤ far.made)
            → object_at v.known far.made ≡ never
        by_length (inl l) = (sound.here.known.made far.made l).0 (omega arith)
        by_length (inr l) = beyond v.known.objects far.made l
begins_with (Write handle at bytes) far v sound knows =
    rights_are handle.n v.known v (inl (known_entries handle.n v knows))
begins_with (Free handle) far v sound knows =
    rights_are handle.n v.known v (inl (known_entries handle.n v knows))
begins_with job far v sound knows = let z : 1 ≤ 1 = omega arith in z

-- a claim, won or lost
pub rights_claimed : (allowed : Option ℕ) (h saw w : ℕ) (p q : SeatAt)
    → (w ≡ saw → (n : ℕ) × (words : List ℕ) × Acts p (ev.Claimed h saw n words) q)
    → (w ≢ saw → Acts p (ev.Looked h w) q) → 1 ≤ rights allowed (record_at p).known (record_at p)
    → 1 ≤ rights allowed (record_at q).known (record_at q)
rights_claimed allowed h saw w p q won lost r = elim (ℕ_discrete w saw) [
  | yes e ↦ let x = won e in rights_moved allowed (ev.Claimed h saw x.0 x.1) p q x.2 tt r
  | no ne ↦ rights_moved allowed (ev.Looked h w) p q (lost ne) tt r
]

-- what the exchange of a claim tells the seat, where it found the word
pub claim_won : (h saw w : ℕ) (p q : SeatAt) → q.table_id ≡ p.table_id → q.id ≡ p.id
    → (w ≡ saw → (n : ℕ) × (words : List ℕ) × HasEvent p.me (ev.Claimed h w n words) q.me) → w ≡ saw
    → (n : ℕ) × (words : List ℕ) × Acts p (ev.Claimed h saw n words) q
claim_won h saw w p q table id won e = let z = won e in (
  z.0,
  z.1,
  subst (λ (n : ℕ). Acts p (ev.Claimed h n z.0 z.1) q) e ((table, id, z.2.0), z.2.1),
)

-- and where it found another one
pub claim_lost : (h saw w : ℕ) (p q : SeatAt) → q.table_id ≡ p.table_id → q.id ≡ p.id
    → (w ≢ saw → HasEvent p.me (ev.Looked h w) q.me) → w ≢ saw → Acts p (ev.Looked h w) q
claim_lost h saw w p q table id lost ne = let z = lost ne in ((table, id, z.0), z.1)

-- the seat holds the lock as before
pub claim_holds : (z : TableId) (k : Setup) (c : Config) (h saw w : ℕ) (p q : SeatAt)
    → (w ≡ saw → (n : ℕ) × (words : List ℕ) × Acts p (ev.Claimed h saw n words) q)
    → (w ≢ saw → Acts p (ev.Looked h w) q) → HoldsLock z k c p → HoldsLock z k c q
claim_holds z k c h saw w p q won lost holds = elim (ℕ_discrete w saw) [
  | yes e ↦ let x = won e in holds_still z k c p q (ev.Claimed h saw x.0 x.1) holds x.2
  | no ne ↦ holds_still z k c p q (ev.Looked h w) holds (lost ne)
]

abbrev found_in : Claim → ℕ
found_in answer.Claimed = 0
found_in (answer.Raced n) = n

pub raced_is : (m n : ℕ) → answer.Raced m ≡ answer.Raced n → m ≡ n
raced_is m n e = ap found_in e

-- the turn may write this object
pub rights_within : (allowed : Option ℕ) (h : ℕ) (known : Shown) (v : View) → allowed ≡ Some h
    → 1 ≤ rights allowed known v → MayWrite h known v
rights_within allowed h known v is r =
    may_write h known v (subst (λ (x : Option ℕ). 1 ≤ rights x known v) is r)

-- what a desk says of its seat
pub holds_of : (z : TableId) (k : Setup) (c : Config) (p : SeatAt) → p.table_id ≡ z
    → z.words ≡ 1 + c.handles + c.handles + 512 * c.frames → k.config ≡ c → (record_at p).config ≡ c
    → 1 ≤ (record_at p).share → (record_at p).holds ≡ true
    → length (record_at p).known.objects ≡ c.handles
    → length (record_at p).known.hots ≡ c.handles → length (record_at p).known.versions ≡ c.handles
    → length (record_at p).known.memory ≡ 512 * c.frames → HoldsLock z k c p
holds_of z k c p table words key config live holds objects hots versions memory = record {
  of = record { table = table; words = words; key = key; config = config; live = live };
  holds = holds;
  sized = record { objects = objects; hots = hots; versions = versions; memory = memory };
}
