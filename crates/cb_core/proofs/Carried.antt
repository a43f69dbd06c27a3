-- What each part of a job keeps, the job keeps: the one walk over the parts of every job.
use Rattle.std.proofs.Common.{◌≡◌, ℕ, suc, ◌+◌, ◌*◌, ◌^◌, ◌≤◌, List, length, Option, None, Some, sym, subst, arith}
use Rattle.cb_types.specs.declared.job.Job.{Job}
use Rattle.cb_types.specs.declared.job.Job.TheVariants.{Make, Read, Write, Swap}
use Rattle.cb_types.specs.declared.reply.Reply.{Reply}
use Rattle.cb_types.specs.declared.reply.Reply.TheVariants as answer
use Rattle.cb_evict.specs.declared.eviction.Eviction.{Eviction}
use Rattle.cb_evict.specs.declared.eviction.Eviction.TheVariants.{Refused, Set}
use Rattle.cb_core.specs.JobParts.{JobParts, PartLacks, BringsBy, DoesBy, BringStopsBy, ComeStopsBy, StopsBy}
use Rattle.cb_core.specs.OnceHere.{OnceHere, away, here, OnceHereStops, bringing_stops, call_stops as calling_stops}
use Rattle.cb_core.specs.Parts.{Holding, WithRoom, at_once, no_room, won, most_evictions, WhereItIs, near, declined, stays_far, brought, BringsIn, not_far, was_far, RoomStops, evicting, after, CallStops, far, NeverLacks}

-- What is kept along parts: G of where one begins, and C of what it comes to, by how much numbers
-- rise, with a fact of the part itself. One part after another comes to what both may.
pub record KeepsAlong {D : Type 0} (G : Holding D → Type 0)
    (C : ℕ → Holding D → Holding D → Type 0 → Type 0) : Type 1 where
  pub is : (n : ℕ) (a b : Holding D) (Z : Type 0) → C n a b Z → Z
  pub next : (n : ℕ) (a b : Holding D) (Z : Type 0) → G a → C n a b Z → G b
  pub more : (n k : ℕ) (a b : Holding D) (Z W : Type 0) → n ≤ k → C n a b Z → W → C k a b W
  pub both : (n m k : ℕ) (a b d : Holding D) (Y Z W : Type 0) → n + m ≤ k → C n a b Y → C m b d Z
      → W → C k a d W

-- each part that is P is also Q, at the desks that `on` leads to
abbrev pub CarriesAlong : {D E A : Type 0} → (Holding D → Holding E) → (Holding D → Type 0)
    → (ℕ → Holding D → Holding D → Type 0 → Type 0) → ℕ → (Holding D → A → Holding D → Type 0)
    → (Holding E → A → Holding E → Type 0) → Type 0
CarriesAlong {D = D} {A = A} on G C n P Q =
    (a b : Holding D) (r : A) → G a → P a r b → C n a b (Q (on a) r (on b))

-- so is each that found no memory
abbrev pub AlongLack : {D E : Type 0} → (Holding D → Holding E) → (Holding D → Type 0)
    → (ℕ → Holding D → Holding D → Type 0 → Type 0) → ℕ → (Holding D → Holding D → Type 0)
    → (Holding E → Holding E → Type 0) → Type 0
AlongLack {D = D} on G C n L M = (a b : Holding D) → G a → L a b → C n a b (M (on a) (on b))

-- By how much the numbers may rise while an object is brought in: by its swap-in, and by each
-- eviction and the swap-in behind it, the last of which may be refused; where it is looked for
-- first; and in a turn.
abbrev pub bring_rise : ℕ
bring_rise = 16 + most_evictions * (24 + 16) + 24

abbrev pub come_rise : ℕ
come_rise = 1 + bring_rise

abbrev pub turn_rise : ℕ
turn_rise = 2 ^ 18

-- the parts of the jobs, by how much the numbers rise in each
pub record AreAlong {D E : Type 0} (on : Holding D → Holding E) (G : Holding D → Type 0)
    (C : ℕ → Holding D → Holding D → Type 0 → Type 0) (p : JobParts D) (q : JobParts E) : Type 0
  where
    pub frames : (a : Holding D) → G a → q.frames (on a) ≡ p.frames a
    pub makes : (bytes : List ℕ) → CarriesAlong on G C 1 (p.makes bytes) (q.makes bytes)
    pub writes : (h at : ℕ) (bytes : List ℕ) → CarriesAlong on G C 1 (p.writes h at bytes) (q.writes h at bytes)
    pub finds : (h : ℕ) → CarriesAlong on G C 1 (p.finds h) (q.finds h)
    pub declines : (h at count : ℕ)
        → CarriesAlong on G C 1 (p.declines h at count) (q.declines h at count)
    pub swaps : (h : ℕ) → CarriesAlong on G C 16 (p.swaps h) (q.swaps h)
    pub wins : CarriesAlong on G C 24 p.wins q.wins

pub record LackAlong {D E : Type 0} (on : Holding D → Holding E) (G : Holding D → Type 0)
    (C : ℕ → Holding D → Holding D → Type 0 → Type 0) (l : PartLacks D) (k : PartLacks E) : Type 0
  where
    pub makes : (bytes : List ℕ) → AlongLack on G C 1 (l.makes bytes) (k.makes bytes)
    pub swaps : (h : ℕ) → AlongLack on G C 16 (l.swaps h) (k.swaps h)
    pub evicts : AlongLack on G C 24 l.evicts k.evicts

-- at one desk
abbrev pub itself : {D : Type 0} → Holding D → Holding D
itself a = a

-- a job of more than one call
abbrev pub IsMany : Job → Type 0
IsMany (Make bytes) = Unit {0}
IsMany (Read handle) = Unit {0}
IsMany (Write handle at bytes) = Unit {0}
IsMany (Swap handle) = Unit {0}
IsMany job = ⊥

module _ {D E : Type 0} (on : Holding D → Holding E) (G : Holding D → Type 0)
    (C : ℕ → Holding D → Holding D → Type 0 → Type 0) (laws : KeepsAlong G C) where
  abbrev Carries : {A : Type 0} → ℕ → (Holding D → A → Holding D → Type 0)
      → (Holding E → A → Holding E → Type 0) → Type 0
  Carries n P Q = CarriesAlong on G C n P Q

  abbrev CarriesLack : ℕ → (Holding D → Holding D → Type 0) → (Holding E → Holding E → Type 0) → Type 0
  CarriesLack n L M = AlongLack on G C n L M

  -- ---- the parts one after another
  -- an operation for which room is won, by so many evictions; the last one may be refused
  pub with_room : (frames n m : ℕ) (P : Holding D → Reply → Holding D → Type 0)
      (Q : Holding E → Reply → Holding E → Type 0) (V : Holding D → Eviction → Holding D → Type 0)
      (F : Holding E → Eviction → Holding E → Type 0) → Carries n P Q → Carries m V F
      → (left k : ℕ) → n + left * (m + n) + m ≤ k
      → Carries k (WithRoom frames P V left) (WithRoom frames Q F left)
  with_room frames n m P Q V F p e left k most a b r good (at_once o off) =
      let z = p a b r good o in
      laws.more n k a b _ _ (omega (arith, most)) z (at_once (laws.is n a b _ z) off)
  with_room frames n m P Q V F p e left k most a b r good (no_room mid why loose nodes o v is) =
      let z = p a mid answer.NoFrame good o in
      let y = e mid b (Refused why loose nodes) (laws.next n a mid _ good z) v in
      laws.both n m k a mid b _ _ _ (omega (arith, most)) z y
      (no_room (on mid) why loose nodes (laws.is n a mid _ z) (laws.is m mid b _ y) is)
  with_room frames n m P Q V F p e (suc fewer) k most a b r good (won mid next id o v again) =
      let z = p a mid answer.NoFrame good o in
      let there = laws.next n a mid _ good z in
      let y = e mid next (Set id) there v in
      let x = with_room frames n m P Q V F p e fewer (n + fewer * (m + n) + m) (omega arith) next b
      r
      (laws.next m mid next _ there y) again in
      laws.both (n + m) (n + fewer * (m + n) + m) k a next b _ _ _ (omega (arith, most))
      (laws.both n m (n + m) a mid next _ _ _ (omega arith) z y (laws.is m mid next _ y)) x
      (won (on mid) (on next) id (laws.is n a mid _ z) (laws.is m mid next _ y)
      (laws.is (n + fewer * (m + n) + m) next b _ x))

  -- one that found no memory
  pub room_stops : (n m : ℕ) (P : Holding D → Reply → Holding D → Type 0)
      (Q : Holding E → Reply → Holding E → Type 0) (V : Holding D → Eviction → Holding D → Type 0)
      (F : Holding E → Eviction → Holding E → Type 0) (L I : Holding D → Holding D → Type 0)
      (M J : Holding E → Holding E → Type 0) → Carries n P Q → CarriesLack n L M → Carries m V F
      → CarriesLack m I J → (left k : ℕ) → n + left * (m + n) + m ≤ k
      → CarriesLack k (RoomStops P L V I left) (RoomStops Q M F J left)
  room_stops n m P Q V F L I M J p l e i left k most a b good (at_once o) =
      let z = l a b good o in
      laws.more n k a b _ _ (omega (arith, most)) z (at_once (laws.is n a b _ z))
  room_stops n m P Q V F L I M J p l e i left k most a b good (evicting mid o v) =
      let z = p a mid answer.NoFrame good o in
      let y = i mid b (laws.next n a mid _ good z) v in
      laws.both n m k a mid b _ _ _ (omega (arith, most)) z y
      (evicting (on mid) (laws.is n a mid _ z) (laws.is m mid b _ y))
  room_stops n m P Q V F L I M J p l e i (suc fewer) k most a b good (after mid next id o v w) =
      let z = p a mid answer.NoFrame good o in
      let there = laws.next n a mid _ good z in
      let y = e mid next (Set id) there v in
      let x = room_stops n m P Q V F L I M J p l e i fewer (n + fewer * (m + n) + m) (omega arith)
      next b
      (laws.next m mid next _ there y) w in
      laws.both (n + m) (n + fewer * (m + n) + m) k a next b _ _ _ (omega (arith, most))
      (laws.both n m (n + m) a mid next _ _ _ (omega arith) z y (laws.is m mid next _ y)) x
      (after (on mid) (on next) id (laws.is n a mid _ z) (laws.is m mid next _ y)
      (laws.is (n + fewer * (m + n) + m) next b _ x))

  -- a call on an object wherever it is
  pub where_it_is : (n l m k : ℕ) (P : Holding D → Reply → Holding D → Type 0)
      (Q : Holding E → Reply → Holding E → Type 0) (L : Holding D → Option Reply → Holding D → Type 0)
      (M : Holding E → Option Reply → Holding E → Type 0) (V : Holding D → Reply → Holding D → Type 0)
      (F : Holding E → Reply → Holding E → Type 0) → n + l + m + n ≤ k
      → Carries n P Q → Carries l L M → Carries m V F
      → Carries k (WhereItIs P L V) (WhereItIs Q M F)
  where_it_is n l m k P Q L M V F most p look e a b r good (near o off) =
      let z = p a b r good o in
      laws.more n k a b _ _ (omega (arith, most)) z (near (laws.is n a b _ z) off)
  where_it_is n l m k P Q L M V F most p look e a b r good (declined mid o d) =
      let z = p a mid answer.NotHere good o in
      let y = look mid b (Some r) (laws.next n a mid _ good z) d in
      laws.both n l k a mid b _ _ _ (omega (arith, most)) z y
      (declined (on mid) (laws.is n a mid _ z) (laws.is l mid b _ y))
  where_it_is n l m k P Q L M V F most p look e a b r good (stays_far mid next o d v off) =
      let z = p a mid answer.NotHere good o in
      let there = laws.next n a mid _ good z in
      let y = look mid next None there d in
      let x = e next b r (laws.next l mid next _ there y) v in
      laws.both (n + l) m k a next b _ _ _ (omega (arith, most))
      (laws.both n l (n + l) a mid next _ _ _ (omega arith) z y (laws.is l mid next _ y)) x
      (stays_far (on mid) (on next) (laws.is n a mid _ z) (laws.is l mid next _ y) (laws.is m next b _ x) off)
  where_it_is n l m k P Q L M V F most p look e a b r good (brought mid next last f o d v again) =
      let z = p a mid answer.NotHere good o in
      let there = laws.next n a mid _ good z in
      let y = look mid next None there d in
      let then = laws.next l mid next _ there y in
      let x = e next last (answer.Swapped f) then v in
      let w = p last b r (laws.next m next last _ then x) again in
      laws.both (n + l + m) n k a last b _ _ _ most
      (laws.both (n + l) m (n + l + m) a next last _ _ _ (omega arith)
      (laws.both n l (n + l) a mid next _ _ _ (omega arith) z y (laws.is l mid next _ y)) x
      (laws.is m next last _ x)) w
      (brought (on mid) (on next) (on last) f (laws.is n a mid _ z) (laws.is l mid next _ y)
      (laws.is m next last _ x) (laws.is n last b _ w))

  -- and one that found no memory
  pub call_stops : (n l m k : ℕ) (P : Holding D → Reply → Holding D → Type 0)
      (Q : Holding E → Reply → Holding E → Type 0) (S : Holding D → Option Reply → Holding D → Type 0)
      (T : Holding E → Option Reply → Holding E → Type 0) (V : Holding D → Reply → Holding D → Type 0)
      (F : Holding E → Reply → Holding E → Type 0) (L I : Holding D → Holding D → Type 0)
      (M J : Holding E → Holding E → Type 0) → n + l + m + n ≤ k
      → Carries n P Q → CarriesLack n L M → Carries l S T → Carries m V F → CarriesLack m I J
      → CarriesLack k (CallStops P L S V I) (CallStops Q M T F J)
  call_stops n l m k P Q S T V F L I M J most p lack look e i a b good (near o) =
      let z = lack a b good o in
      laws.more n k a b _ _ (omega (arith, most)) z (near (laws.is n a b _ z))
  call_stops n l m k P Q S T V F L I M J most p lack look e i a b good (far mid next o d v) =
      let z = p a mid answer.NotHere good o in
      let there = laws.next n a mid _ good z in
      let y = look mid next None there d in
      let x = i next b (laws.next l mid next _ there y) v in
      laws.both (n + l) m k a next b _ _ _ (omega (arith, most))
      (laws.both n l (n + l) a mid next _ _ _ (omega arith) z y (laws.is l mid next _ y)) x
      (far (on mid) (on next) (laws.is n a mid _ z) (laws.is l mid next _ y) (laws.is m next b _ x))
  call_stops n l m k P Q S T V F L I M J most p lack look e i a b good
      (after mid next last f o d v again) =
      let z = p a mid answer.NotHere good o in
      let there = laws.next n a mid _ good z in
      let y = look mid next None there d in
      let then = laws.next l mid next _ there y in
      let x = e next last (answer.Swapped f) then v in
      let w = lack last b (laws.next m next last _ then x) again in
      laws.both (n + l + m) n k a last b _ _ _ most
      (laws.both (n + l) m (n + l + m) a next last _ _ _ (omega arith)
      (laws.both n l (n + l) a mid next _ _ _ (omega arith) z y (laws.is l mid next _ y)) x
      (laws.is m next last _ x)) w
      (after (on mid) (on next) (on last) f (laws.is n a mid _ z) (laws.is l mid next _ y)
      (laws.is m next last _ x) (laws.is n last b _ w))

  -- an object that is far is brought in
  pub brings_in : (n m k : ℕ) (P V : Holding D → Reply → Holding D → Type 0)
      (Q F : Holding E → Reply → Holding E → Type 0) → n + m ≤ k
      → Carries n P Q → Carries m V F → Carries k (BringsIn P V) (BringsIn Q F)
  brings_in n m k P V Q F most p e a b r good (not_far o off) =
      let z = p a b r good o in
      laws.more n k a b _ _ (omega (arith, most)) z (not_far (laws.is n a b _ z) off)
  brings_in n m k P V Q F most p e a b r good (was_far mid o v) =
      let z = p a mid answer.NotHere good o in
      let y = e mid b r (laws.next n a mid _ good z) v in
      laws.both n m k a mid b _ _ _ most z y (was_far (on mid) (laws.is n a mid _ z) (laws.is m mid b _ y))

  -- a call on an object that is first brought in
  pub once_here : (n m k : ℕ) (V P : Holding D → Reply → Holding D → Type 0)
      (F Q : Holding E → Reply → Holding E → Type 0) → n + m ≤ k
      → Carries n V F → Carries m P Q → Carries k (OnceHere V P) (OnceHere F Q)
  once_here n m k V P F Q most come p a b r good (away o off) =
      let z = come a b r good o in
      laws.more n k a b _ _ (omega (arith, most)) z (away (laws.is n a b _ z) off)
  once_here n m k V P F Q most come p a b r good (here mid place o there x) =
      let z = come a mid place good o in
      let y = p mid b r (laws.next n a mid _ good z) x in
      laws.both n m k a mid b _ _ _ most z y
      (here (on mid) place (laws.is n a mid _ z) there (laws.is m mid b _ y))

  -- and one that found no memory
  pub once_here_stops : (n m k : ℕ) (V : Holding D → Reply → Holding D → Type 0)
      (F : Holding E → Reply → Holding E → Type 0) (I L : Holding D → Holding D → Type 0)
      (J M : Holding E → Holding E → Type 0) → n + m ≤ k
      → Carries n V F → CarriesLack n I J → CarriesLack m L M
      → CarriesLack k (OnceHereStops V I L) (OnceHereStops F J M)
  once_here_stops n m k V F I L J M most come i l a b good (bringing_stops o) =
      let z = i a b good o in
      laws.more n k a b _ _ (omega (arith, most)) z (bringing_stops (laws.is n a b _ z))
  once_here_stops n m k V F I L J M most come i l a b good (calling_stops mid place o there x) =
      let z = come a mid place good o in
      let y = l mid b (laws.next n a mid _ good z) x in
      laws.both n m k a mid b _ _ _ most z y
      (calling_stops (on mid) place (laws.is n a mid _ z) there (laws.is m mid b _ y))

  -- ---- the jobs
  module _ (p : JobParts D) (q : JobParts E) (parts : AreAlong on G C p q) where
    -- room is won for so many frames
    roomed : (n k : ℕ) (P : Holding D → Reply → Holding D → Type 0)
        (Q : Holding E → Reply → Holding E → Type 0) → n + most_evictions * (24 + n) + 24 ≤ k
        → Carries n P Q → (a b : Holding D) (r : Reply) → G a
        → WithRoom (p.frames a) P p.wins most_evictions a r b
        → C k a b (WithRoom (q.frames (on a)) Q q.wins most_evictions (on a) r (on b))
    roomed n k P Q most part a b r good x =
        let z = with_room (p.frames a) n 24 P Q p.wins q.wins part parts.wins most_evictions k most
        a b r
        good x in
        laws.more k k a b _ _ (omega arith) z
        (subst (λ (i : ℕ). WithRoom i Q q.wins most_evictions (on a) r (on b))
        (sym (parts.frames a good))
        (laws.is k a b _ z))

    pub brings : (h : ℕ) → Carries bring_rise (BringsBy p h) (BringsBy q h)
    brings h = roomed 16 bring_rise (p.swaps h) (q.swaps h) (omega arith) (parts.swaps h)

    pub comes_in : (h : ℕ) → Carries come_rise (BringsIn (p.finds h) (BringsBy p h))
        (BringsIn (q.finds h) (BringsBy q h))
    comes_in h = brings_in 1 bring_rise come_rise (p.finds h) (BringsBy p h) (q.finds h)
        (BringsBy q h)
        (omega arith) (parts.finds h) (brings h)

    -- where a job of one call leaves what it does, and one of more leaves what its parts do
    pub does : (J : Job → Holding D → Holding D → Type 0 → Type 0)
        (reads : ℕ → Holding D → Reply → Holding D → Type 0)
        (others : ℕ → Holding E → Reply → Holding E → Type 0) (job : Job)
        → (IsMany job → (a b : Holding D) (Z : Type 0) → C turn_rise a b Z → J job a b Z)
        → ((h : ℕ) → Carries turn_rise (reads h) (others h))
        → ((a b : Holding D) (r : Reply) → G a → p.alone job a r b
        → J job a b (q.alone job (on a) r (on b)))
        → (a b : Holding D) (r : Reply) → G a → DoesBy p reads job a r b
        → J job a b (DoesBy q others job (on a) r (on b))
    does J reads others (Make bytes) many read alone a b r good x = many tt a b _
        (roomed 1 turn_rise (p.makes bytes) (q.makes bytes) (omega arith) (parts.makes bytes) a b r
        good x)
    does J reads others (Read handle) many read alone a b r good x =
        many tt a b _ (read handle.n a b r good x)
    does J reads others (Write handle at bytes) many read alone a b r good x =
        let h = handle.n in let count = length bytes in many tt a b _
        (where_it_is 1 1 bring_rise turn_rise (p.writes h at bytes) (q.writes h at bytes)
        (p.declines h at count)
        (q.declines h at count) (BringsBy p h) (BringsBy q h) (omega arith) (parts.writes h at bytes)
        (parts.declines h at count) (brings h) a b r good x)
    does J reads others (Swap handle) many read alone a b r good x = let h = handle.n in
        many tt a b _ (brings_in 1 bring_rise turn_rise (p.finds h) (BringsBy p h) (q.finds h)
        (BringsBy q h) (omega arith) (parts.finds h) (brings h) a b r good x)
    does J reads others job many read alone a b r good x = alone a b r good x

    module _ (l : PartLacks D) (k : PartLacks E) (lacks : LackAlong on G C l k) where
      bring_stops : (h : ℕ) → CarriesLack bring_rise (BringStopsBy p l h) (BringStopsBy q k h)
      bring_stops h = room_stops 16 24 (p.swaps h) (q.swaps h) p.wins q.wins (l.swaps h) l.evicts
          (k.swaps h) k.evicts (parts.swaps h) (lacks.swaps h) parts.wins lacks.evicts
          most_evictions bring_rise
          (omega arith)

      pub come_stops : (h : ℕ) → CarriesLack come_rise (ComeStopsBy p l h) (ComeStopsBy q k h)
      come_stops h a b good (m, found, stops) =
          let z = parts.finds h a m answer.NotHere good found in
          let y = bring_stops h m b (laws.next 1 a m _ good z) stops in
          laws.both 1 bring_rise come_rise a m b _ _ _ (omega arith) z y
          (on m, laws.is 1 a m _ z, laws.is bring_rise m b _ y)

      never_lacks : CarriesLack 1 NeverLacks NeverLacks
      never_lacks a b good x = absurd x

      pub stops : (J : Job → Holding D → Holding D → Type 0 → Type 0)
          (lacking : ℕ → Holding D → Holding D → Type 0)
          (others : ℕ → Holding E → Holding E → Type 0) (job : Job)
          → (IsMany job → (a b : Holding D) (Z : Type 0) → C turn_rise a b Z → J job a b Z)
          → ((h : ℕ) → CarriesLack turn_rise (lacking h) (others h))
          → ((a b : Holding D) → G a → l.alone job a b → J job a b (k.alone job (on a) (on b)))
          → (a b : Holding D) → G a → StopsBy p l lacking job a b
          → J job a b (StopsBy q k others job (on a) (on b))
      stops J lacking others (Make bytes) many read alone a b good x = many tt a b _
          (room_stops 1 24 (p.makes bytes) (q.makes bytes) p.wins q.wins (l.makes bytes) l.evicts
          (k.makes bytes) k.evicts (parts.makes bytes) (lacks.makes bytes) parts.wins lacks.evicts
          most_evictions turn_rise (omega arith) a b good x)
      stops J lacking others (Read handle) many read alone a b good x =
          many tt a b _ (read handle.n a b good x)
      stops J lacking others (Write handle at bytes) many read alone a b good x =
          let h = handle.n in let count = length bytes in many tt a b _
          (call_stops 1 1 bring_rise turn_rise (p.writes h at bytes) (q.writes h at bytes)
          (p.declines h at count)
          (q.declines h at count) (BringsBy p h) (BringsBy q h) NeverLacks (BringStopsBy p l h) NeverLacks
          (BringStopsBy q k h) (omega arith) (parts.writes h at bytes) never_lacks
          (parts.declines h at count) (brings h) (bring_stops h) a b good x)
      stops J lacking others (Swap handle) many read alone a b good x = let z = come_stops handle.n a b good x in
          many tt a b _ (laws.more come_rise turn_rise a b _ _ (omega arith) z
          (laws.is come_rise a b _ z))
      stops J lacking others job many read alone a b good x = alone a b good x
