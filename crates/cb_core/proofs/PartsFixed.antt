-- Parts of a turn that are fixed make a turn that is: one reply, and one end.
use Rattle.std.proofs.Common.{◌≡◌, ℕ, suc, Option, None, Some, sym, ap, ◌∙◌, subst}
use Rattle.cb_evict.specs.declared.eviction.Eviction.{Eviction}
use Rattle.cb_evict.specs.declared.eviction.Eviction.TheVariants.{Refused, Set}
use Rattle.cb_evict.specs.declared.eviction.Lack.{Lack}
use Rattle.cb_types.specs.declared.handle.SetId.{SetId}
use Rattle.cb_types.specs.declared.reply.Reply.{Reply}
use Rattle.cb_types.specs.declared.reply.Reply.TheVariants as answer
use Rattle.cb_core.specs.Parts.{Holding, WithRoom, at_once, no_room, won, WhereItIs, near, declined, stays_far, brought, BringsIn, not_far, was_far}

-- two answers of a part are one, and so are its ends
abbrev pub AreOne : {D R : Type 0} → R → R → Holding D → Holding D → Type 0
AreOne r q b c = (r ≡ q) × (b ≡ c)

-- a part that leads from here has one answer and one end
abbrev pub IsFixed : {D R : Type 0} → (Holding D → R → Holding D → Type 0) → Holding D → Type 0
IsFixed {D} {R} part a = (r q : R) (b c : Holding D) → part a r b → part a q c → AreOne r q b c

-- a part with this answer leaves all as it is
abbrev pub PartLeavesAll : {D R : Type 0} → (Holding D → R → Holding D → Type 0) → R → Type 0
PartLeavesAll {D} {R} part r = (a b : Holding D) → part a r b → b ≡ a

refused_set : (why : Lack) (n m : ℕ) (id : SetId) → Refused why n m ≡ Set id → ⊥
refused_set why n m id e = cc

counts_same : (v w : Lack) (i j k l : ℕ) → Refused v i j ≡ Refused w k l → (i ≡ k) × (j ≡ l)
counts_same v w i j k l e = (ap loose_in e, ap nodes_in e)
  where
    loose_in : Eviction → ℕ
    loose_in (Refused v n m) = n
    loose_in (Set id) = 0

    nodes_in : Eviction → ℕ
    nodes_in (Refused v n m) = m
    nodes_in (Set id) = 0

none_some : {A : Type 0} (x : A) → None ≡ Some x → ⊥
none_some x e = cc

some_same : {A : Type 0} (x y : A) → Some x ≡ Some y → x ≡ y
some_same x y e = cc

-- ---- an operation for which room is won
-- Each eviction begins where G holds, which the evictions before it kept.
module _ {D : Type 0} (frames : ℕ) (operation : Holding D → Reply → Holding D → Type 0)
    (eviction : Holding D → Eviction → Holding D → Type 0) (G : Holding D → Type 0)
    (each : (a : Holding D) → IsFixed operation a)
    (refuses : PartLeavesAll operation answer.NoFrame)
    (evicts : (a : Holding D) → G a → IsFixed eviction a)
    (kept : (a n : Holding D) (id : SetId) → G a → eviction a (Set id) n → G n) where
  -- evictions behind two refusals are behind one
  evictions_fixed : (a m n : Holding D) (e f : Eviction) (b c : Holding D) → G a
      → operation a answer.NoFrame m → operation a answer.NoFrame n → eviction m e b
      → eviction n f c → AreOne e f b c
  evictions_fixed a m n e f b c good o p v w = evicts a good e f b c
      (subst (λ (x : Holding D). eviction x e b) (refuses a m o) v)
      (subst (λ (x : Holding D). eviction x f c) (refuses a n p) w)

  refused_or_not : (a : Holding D) (r : Reply) (b m : Holding D) → operation a r b
      → operation a answer.NoFrame m → (r ≡ answer.NoFrame → ⊥) → ⊥
  refused_or_not a r b m o p off = off (each a r answer.NoFrame b m o p).0

  pub with_room_fixed : (left : ℕ) (a : Holding D) → G a
      → IsFixed (WithRoom frames operation eviction left) a
  with_room_fixed left a good r q b c (at_once o off) (at_once p on) = each a r q b c o p
  with_room_fixed left a good r q b c (at_once o off) (no_room m why i j p v is) =
      absurd (refused_or_not a r b m o p off)
  with_room_fixed left a good r q b c (at_once o off) (won m n id p v w) =
      absurd (refused_or_not a r b m o p off)
  with_room_fixed left a good r q b c (no_room m why i j o v is) (at_once p on) =
      absurd (refused_or_not a q c m p o on)
  with_room_fixed left a good r q b c (won m n id o v w) (at_once p on) =
      absurd (refused_or_not a q c m p o on)
  with_room_fixed left a good r q b c (no_room m v i j o x is) (no_room n w k l p y also) =
      let same = evictions_fixed a m n (Refused v i j) (Refused w k l) b c good o p x y in
      let counts = counts_same v w i j k l same.0 in
      (is ∙ (λ t. answer.NoRoom frames (counts.0 t) (counts.1 t)) ∙ sym also, same.1)
  with_room_fixed left a good r q b c (no_room m v i j o x is) (won n d id p y z) =
      absurd (refused_set v i j id
      (evictions_fixed a m n (Refused v i j) (Set id) b d good o p x y).0)
  with_room_fixed left a good r q b c (won n d id p y z) (no_room m v i j o x is) =
      absurd (refused_set v i j id
      (evictions_fixed a m n (Refused v i j) (Set id) c d good o p x y).0)
  with_room_fixed (suc fewer) a good r q b c (won m d id o x u) (won n e jd p y v) =
      let same = evictions_fixed a m n (Set id) (Set jd) d e good o p x y in
      let then = kept a e jd good (subst (λ (h : Holding D). eviction h (Set jd) e) (refuses a n p)
      y) in
      with_room_fixed fewer e then r q b c
      (subst (λ (h : Holding D). WithRoom frames operation eviction fewer h r b) same.1 u) v

-- ---- a call on an object wherever it is
module _ {D : Type 0} (call : Holding D → Reply → Holding D → Type 0)
    (look : Holding D → Option Reply → Holding D → Type 0)
    (bringing : Holding D → Reply → Holding D → Type 0)
    (each : (a : Holding D) → IsFixed call a) (refuses : PartLeavesAll call answer.NotHere)
    (looks : (a : Holding D) → IsFixed look a) (stays : PartLeavesAll look None) (a : Holding D)
    (brings : IsFixed bringing a) where
  not_there : (r : Reply) (b m : Holding D) → call a r b → call a answer.NotHere m
      → (r ≡ answer.NotHere → ⊥) → ⊥
  not_there r b m o p off = off (each a r answer.NotHere b m o p).0

  -- looks behind two such answers are behind one
  looks_fixed : (m n : Holding D) (e f : Option Reply) (b c : Holding D) → call a answer.NotHere m
      → call a answer.NotHere n → look m e b → look n f c → AreOne e f b c
  looks_fixed m n e f b c o p v w = looks a e f b c
      (subst (λ (x : Holding D). look x e b) (refuses a m o) v)
      (subst (λ (x : Holding D). look x f c) (refuses a n p) w)

  -- and so are bringings behind looks
  bringings_fixed : (m n x y : Holding D) (e f : Reply) (b c : Holding D) → call a answer.NotHere m
      → call a answer.NotHere n → look m None x → look n None y → bringing x e b → bringing y f c
      → AreOne e f b c
  bringings_fixed m n x y e f b c o p v w s t = brings e f b c
      (subst (λ (z : Holding D). bringing z e b) (stays m x v ∙ refuses a m o) s)
      (subst (λ (z : Holding D). bringing z f c) (stays n y w ∙ refuses a n p) t)

  declined_or_not : (m n : Holding D) (r : Reply) (b x : Holding D) → call a answer.NotHere m
      → call a answer.NotHere n → look m (Some r) b → look n None x → ⊥
  declined_or_not m n r b x o p v w =
      none_some r (sym (looks_fixed m n (Some r) None b x o p v w).0)

  pub where_it_is_fixed : IsFixed (WhereItIs call look bringing) a
  where_it_is_fixed r q b c (near o off) (near p on) = each a r q b c o p
  where_it_is_fixed r q b c (near o off) (declined n p w) = absurd (not_there r b n o p off)
  where_it_is_fixed r q b c (near o off) (stays_far n y p w t on) = absurd (not_there r b n o p off)
  where_it_is_fixed r q b c (near o off) (brought n y z g p w t v) =
      absurd (not_there r b n o p off)
  where_it_is_fixed r q b c (declined m o v) (near p on) = absurd (not_there q c m p o on)
  where_it_is_fixed r q b c (stays_far m x o v s off) (near p on) = absurd (not_there q c m p o on)
  where_it_is_fixed r q b c (brought m x z g o v s u) (near p on) = absurd (not_there q c m p o on)
  where_it_is_fixed r q b c (declined m o v) (declined n p w) =
      let same = looks_fixed m n (Some r) (Some q) b c o p v w in
      (some_same r q same.0, same.1)
  where_it_is_fixed r q b c (declined m o v) (stays_far n y p w t on) =
      absurd (declined_or_not m n r b y o p v w)
  where_it_is_fixed r q b c (declined m o v) (brought n y z g p w t u) =
      absurd (declined_or_not m n r b y o p v w)
  where_it_is_fixed r q b c (stays_far m x o v s off) (declined n p w) =
      absurd (declined_or_not n m q c x p o w v)
  where_it_is_fixed r q b c (brought m x z g o v s u) (declined n p w) =
      absurd (declined_or_not n m q c x p o w v)
  where_it_is_fixed r q b c (stays_far m x o v s off) (stays_far n y p w t on) =
      bringings_fixed m n x y r q b c o p v w s t
  where_it_is_fixed r q b c (stays_far m x o v s off) (brought n y z g p w t u) =
      absurd (off g (bringings_fixed m n x y r (answer.Swapped g) b z o p v w s t).0)
  where_it_is_fixed r q b c (brought n y z g p w t u) (stays_far m x o v s off) =
      absurd (off g (bringings_fixed m n x y q (answer.Swapped g) c z o p v w s t).0)
  where_it_is_fixed r q b c (brought m x h f o v s u) (brought n y k g p w t l) =
      let same = bringings_fixed m n x y (answer.Swapped f) (answer.Swapped g) h k o p v w s t in
      each k r q b c (subst (λ (z : Holding D). call z r b) same.1 u) l

-- ---- an object that is far is brought in
module _ {D : Type 0} (call bringing : Holding D → Reply → Holding D → Type 0) (a : Holding D)
    (calls : IsFixed call a) (refuses : PartLeavesAll call answer.NotHere)
    (brings : IsFixed bringing a)
  where
    pub brings_in_fixed : IsFixed (BringsIn call bringing) a
    brings_in_fixed r q b c (not_far o off) (not_far p on) = calls r q b c o p
    brings_in_fixed r q b c (not_far o off) (was_far m p v) =
        absurd (off (calls r answer.NotHere b m o p).0)
    brings_in_fixed r q b c (was_far m o v) (not_far p on) =
        absurd (on (calls q answer.NotHere c m p o).0)
    brings_in_fixed r q b c (was_far m o v) (was_far n p w) = brings r q b c
        (subst (λ (x : Holding D). bringing x r b) (refuses a m o) v)
        (subst (λ (x : Holding D). bringing x q c) (refuses a n p) w)
