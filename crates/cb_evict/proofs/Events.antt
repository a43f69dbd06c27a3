-- What lists of events tell, and what they leave, one after another.
use Rattle.std.proofs.Common.{◌≡◌, ◌⊎◌, ℕ, Bool, List, [], ◌∷◌, ◌++◌, length, set, sym, refl, ap, ◌∙◌, subst, inl, inr, length-set}
use Rattle.std.proofs.lemmas.Bool.{cases_eq}
use Rattle.std.proofs.lemmas.List.{append-nil}
use Rattle.cb_ptr.specs.Word.{hot_of, place_of}
use Rattle.cb_world.specs.declared.entry.Entry.{Entry}
use Rattle.cb_world.specs.declared.access.Access.{Access}
use Rattle.cb_world.specs.declared.access.Access.TheVariants.{Looked, Claimed, Told, Loaded, Stored, Stamped, Settled}
use Rattle.cb_world.specs.declared.shown.Shown.{Shown}
use Rattle.cb_world.specs.Memory.{put}
use Rattle.cb_world.specs.Played.{after, played}
use Rattle.cb_world.specs.Looks.{IsLook, NoLook, IsFound, LooksFirst, told_by}
use Rattle.cb_world.specs.Allowed.{Allowed}
use Rattle.cb_world.specs.Written.{written_by}
use Rattle.cb_world.proofs.Laws.{found_more, played_append, told_append, written_append, allowed_append}
use Rattle.cb_evict.specs.Events.{TouchesOnly, OnlyLooks, AreSteady}
use Rattle.cb_evict.specs.Loading.{OnlyLoads}

-- ---- what events are about
pub touches_append : (o : ℕ → Type 0) (q : ℕ → Type 0) (es fs : List Access) → TouchesOnly o q es
    → TouchesOnly o q fs → TouchesOnly o q (es ++ fs)
touches_append o q [] fs a b = b
touches_append o q (Looked h w ∷ es) fs a b = (a.0, touches_append o q es fs a.1 b)
touches_append o q (Claimed h w v ws ∷ es) fs a b = (a.0, touches_append o q es fs a.1 b)
touches_append o q (Settled h w ∷ es) fs a b = (a.0, touches_append o q es fs a.1 b)
touches_append o q (Loaded p x ∷ es) fs a b = (a.0, touches_append o q es fs a.1 b)
touches_append o q (Told h v ∷ es) fs a b = absurd a
touches_append o q (Stored p x ∷ es) fs a b = absurd a
touches_append o q (Stamped h v ∷ es) fs a b = absurd a

pub touches_more : (o p q r : ℕ → Type 0) (es : List Access) → ((h : ℕ) → o h → p h)
    → ((i : ℕ) → q i → r i) → TouchesOnly o q es → TouchesOnly p r es
touches_more o p q r [] f g a = tt
touches_more o p q r (Looked h w ∷ es) f g a = (f h a.0, touches_more o p q r es f g a.1)
touches_more o p q r (Claimed h w v ws ∷ es) f g a = (f h a.0, touches_more o p q r es f g a.1)
touches_more o p q r (Settled h w ∷ es) f g a = (f h a.0, touches_more o p q r es f g a.1)
touches_more o p q r (Loaded i x ∷ es) f g a = (g i a.0, touches_more o p q r es f g a.1)
touches_more o p q r (Told h v ∷ es) f g a = absurd a
touches_more o p q r (Stored i x ∷ es) f g a = absurd a
touches_more o p q r (Stamped h v ∷ es) f g a = absurd a

-- an object that they are not about is not looked at
pub touches_quiet : (o q : ℕ → Type 0) (k : ℕ) (es : List Access) → (o k → ⊥) → TouchesOnly o q es
    → NoLook k es
touches_quiet o q k [] none a = tt
touches_quiet o q k (Looked h w ∷ es) none a =
    ((λ x is. none (subst o is.0 a.0)), touches_quiet o q k es none a.1)
touches_quiet o q k (Claimed h w v ws ∷ es) none a =
    ((λ x is. none (subst o is.0 a.0)), touches_quiet o q k es none a.1)
touches_quiet o q k (Settled h w ∷ es) none a = ((λ x is. is), touches_quiet o q k es none a.1)
touches_quiet o q k (Loaded p x ∷ es) none a = ((λ x is. is), touches_quiet o q k es none a.1)
touches_quiet o q k (Told h v ∷ es) none a = absurd a
touches_quiet o q k (Stored p x ∷ es) none a = absurd a
touches_quiet o q k (Stamped h v ∷ es) none a = absurd a

pub no_look_append : (k : ℕ) (es fs : List Access) → NoLook k es → NoLook k fs → NoLook k (es ++ fs)
no_look_append k [] fs a b = b
no_look_append k (e ∷ es) fs a b = (a.0, no_look_append k es fs a.1 b)

pub found_after : (h w : ℕ) (es fs : List Access) → IsFound h w fs → IsFound h w (es ++ fs)
found_after h w [] fs a = a
found_after h w (e ∷ es) fs a = inl (found_after h w es fs a)

-- an event is a look at the object, or it is none
look_of : (h : ℕ) (e : Access) → ((w : ℕ) → IsLook h w e → ⊥) ⊎ ((w : ℕ) × IsLook h w e)
look_of h (Looked k x) = elim (cases_eq k h) [
  | inl same ↦ inr (x, (same, refl))
  | inr off ↦ inl (λ w is. off is.0)
]
look_of h (Claimed k x v words) = elim (cases_eq k h) [
  | inl same ↦ inr (x, (same, refl))
  | inr off ↦ inl (λ w is. off is.0)
]
look_of h (Settled k x) = inl (λ w is. is)
look_of h (Loaded p x) = inl (λ w is. is)
look_of h (Told k v) = inl (λ w is. is)
look_of h (Stored p x) = inl (λ w is. is)
look_of h (Stamped k v) = inl (λ w is. is)

-- an object is not looked at, or there is a last look at it
last_look : (h : ℕ) (es : List Access) → NoLook h es ⊎ ((w : ℕ) × IsFound h w es)
last_look h [] = inl tt
last_look h (e ∷ es) = elim (last_look h es) [
  | inr (w, found) ↦ inr (w, inl found)
  | inl none ↦ elim (look_of h e) [
    | inl off ↦ inl (off, none)
    | inr (w, is) ↦ inr (w, inr (is, none))
  ]
]

-- an object that was looked at was so once more is told
pub found_on : (h w : ℕ) (es fs : List Access) → IsFound h w es
    → (v : ℕ) × IsFound h v (es ++ fs)
found_on h w es fs found = elim (last_look h fs) [
  | inl none ↦ (w, found_more h w es fs found none)
  | inr (v, late) ↦ (v, found_after h v es fs late)
]

-- objects are looked at before they are changed, where those of the first events are not looked at
-- by the later ones
pub first_append : (o q : ℕ → Type 0) (es fs : List Access) → TouchesOnly o q es → LooksFirst es
    → LooksFirst fs → ((h : ℕ) → o h → NoLook h fs) → LooksFirst (es ++ fs)
first_append o q [] fs a first rest quiet = rest
first_append o q (Looked h w ∷ es) fs a first rest quiet =
    first_append o q es fs a.1 first rest quiet
first_append o q (Claimed h w v ws ∷ es) fs a first rest quiet =
    (no_look_append h es fs first.0 (quiet h a.0), first_append o q es fs a.1 first.1 rest quiet)
first_append o q (Settled h w ∷ es) fs a first rest quiet =
    (no_look_append h es fs first.0 (quiet h a.0), first_append o q es fs a.1 first.1 rest quiet)
first_append o q (Loaded p x ∷ es) fs a first rest quiet =
    first_append o q es fs a.1 first rest quiet
first_append o q (Told h v ∷ es) fs a first rest quiet = absurd a
first_append o q (Stored p x ∷ es) fs a first rest quiet = absurd a
first_append o q (Stamped h v ∷ es) fs a first rest quiet = absurd a

-- ---- looks
pub looks_append : (es fs : List Access) → OnlyLooks es → OnlyLooks fs → OnlyLooks (es ++ fs)
looks_append [] fs a b = b
looks_append (Looked h w ∷ es) fs a b = looks_append es fs a b
looks_append (Claimed h w v ws ∷ es) fs a b = absurd a
looks_append (Settled h w ∷ es) fs a b = absurd a
looks_append (Loaded p x ∷ es) fs a b = absurd a
looks_append (Told h v ∷ es) fs a b = absurd a
looks_append (Stored p x ∷ es) fs a b = absurd a
looks_append (Stamped h v ∷ es) fs a b = absurd a

pub looks_before : (es fs : List Access) → OnlyLooks es → LooksFirst fs → LooksFirst (es ++ fs)
looks_before [] fs a b = b
looks_before (Looked h w ∷ es) fs a b = looks_before es fs a b
looks_before (Claimed h w v ws ∷ es) fs a b = absurd a
looks_before (Settled h w ∷ es) fs a b = absurd a
looks_before (Loaded p x ∷ es) fs a b = absurd a
looks_before (Told h v ∷ es) fs a b = absurd a
looks_before (Stored p x ∷ es) fs a b = absurd a
looks_before (Stamped h v ∷ es) fs a b = absurd a

pub looks_are_first : (es : List Access) → OnlyLooks es → LooksFirst es
looks_are_first es looks = subst LooksFirst (append-nil es) (looks_before es [] looks tt)

-- they change nothing, and tell of the hot bits alone
pub looks_change : (es : List Access) (s : Shown) → OnlyLooks es → (hots : List Bool)
    × (length hots ≡ length s.hots) × (played es s ≡ record s { hots = hots })
    × (told_by es s ≡ record s { hots = hots })
looks_change [] s a = (s.hots, refl, refl, refl)
looks_change (Looked h w ∷ es) s a =
    let next = looks_change es (record s { hots = set s.hots h (hot_of w) }) a in
    (next.0, next.1 ∙ length-set s.hots h (hot_of w), next.2, next.3)
looks_change (Claimed h w v ws ∷ es) s a = absurd a
looks_change (Settled h w ∷ es) s a = absurd a
looks_change (Loaded p x ∷ es) s a = absurd a
looks_change (Told h v ∷ es) s a = absurd a
looks_change (Stored p x ∷ es) s a = absurd a
looks_change (Stamped h v ∷ es) s a = absurd a

pub looks_steady : (es : List Access) (s : Shown) → OnlyLooks es → AreSteady es s
looks_steady es s a = record {
  allowed = allowed es s a;
  nothing = λ old. nothing es s old a;
  hots = let c = looks_change es s a in
      ap (λ (t : Shown). t.hots) c.2 ∙ sym (ap (λ (t : Shown). t.hots) c.3);
}
  where
    allowed : (es : List Access) (s : Shown) → OnlyLooks es → Allowed s es
    allowed [] s a = tt
    allowed (Looked h w ∷ es) s a = (tt, allowed es (after (Looked h w) s) a)
    allowed (Claimed h w v ws ∷ es) s a = absurd a
    allowed (Settled h w ∷ es) s a = absurd a
    allowed (Loaded p x ∷ es) s a = absurd a
    allowed (Told h v ∷ es) s a = absurd a
    allowed (Stored p x ∷ es) s a = absurd a
    allowed (Stamped h v ∷ es) s a = absurd a

    nothing : (es : List Access) (s : Shown) (old : List Entry) → OnlyLooks es → written_by es s old ≡ old
    nothing [] s old a = refl
    nothing (Looked h w ∷ es) s old a = nothing es (after (Looked h w) s) old a
    nothing (Claimed h w v ws ∷ es) s old a = absurd a
    nothing (Settled h w ∷ es) s old a = absurd a
    nothing (Loaded p x ∷ es) s old a = absurd a
    nothing (Told h v ∷ es) s old a = absurd a
    nothing (Stored p x ∷ es) s old a = absurd a
    nothing (Stamped h v ∷ es) s old a = absurd a

-- ---- what is told
pub told_hots : (es : List Access) (a b : Shown) → a.hots ≡ b.hots
    → (told_by es a).hots ≡ (told_by es b).hots
told_hots [] a b e = e
told_hots (Looked h w ∷ es) a b e = told_hots es _ _ (ap (λ (l : List Bool). set l h (hot_of w)) e)
told_hots (Claimed h w v ws ∷ es) a b e =
    told_hots es _ _ (ap (λ (l : List Bool). set l h (hot_of w)) e)
told_hots (Settled h w ∷ es) a b e = told_hots es a b e
told_hots (Loaded p x ∷ es) a b e = told_hots es a b e
told_hots (Told h v ∷ es) a b e = told_hots es a b e
told_hots (Stored p x ∷ es) a b e = told_hots es a b e
told_hots (Stamped h v ∷ es) a b e = told_hots es a b e

pub told_objects : (es : List Access) (s : Shown) → ((told_by es s).objects ≡ s.objects)
    × ((told_by es s).first ≡ s.first)
told_objects [] s = (refl, refl)
told_objects (Looked h w ∷ es) s = told_objects es _
told_objects (Claimed h w v ws ∷ es) s = told_objects es _
told_objects (Settled h w ∷ es) s = told_objects es s
told_objects (Loaded p x ∷ es) s = told_objects es s
told_objects (Told h v ∷ es) s = told_objects es s
told_objects (Stored p x ∷ es) s = told_objects es s
told_objects (Stamped h v ∷ es) s = told_objects es s

-- where nothing is stored, the words are as they were told
pub told_words : (o q : ℕ → Type 0) (es : List Access) (s u : Shown) → TouchesOnly o q es
    → s.versions ≡ u.versions → s.memory ≡ u.memory
    → ((played es s).versions ≡ (told_by es u).versions) × ((played es s).memory ≡ (told_by es u).memory)
told_words o q [] s u a b c = (b, c)
told_words o q (Looked h w ∷ es) s u a b c =
    told_words o q es (after (Looked h w) s) (record u { hots = set u.hots h (hot_of w) }) a.1 b c
told_words o q (Claimed h w v ws ∷ es) s u a b c =
    told_words o q es (after (Claimed h w v ws) s)
    (record u {
      hots = set u.hots h (hot_of w);
      versions = set u.versions h v;
      memory = put u.memory (place_of w) ws;
    }) a.1 (ap (λ (l : List ℕ). set l h v) b) (ap (λ (l : List ℕ). put l (place_of w) ws) c)
told_words o q (Settled h w ∷ es) s u a b c = told_words o q es (after (Settled h w) s) u a.1 b c
told_words o q (Loaded p x ∷ es) s u a b c = told_words o q es s u a.1 b c
told_words o q (Told h v ∷ es) s u a b c = absurd a
told_words o q (Stored p x ∷ es) s u a b c = absurd a
told_words o q (Stamped h v ∷ es) s u a b c = absurd a

pub steady_none : (s : Shown) → AreSteady [] s
steady_none s = record { allowed = tt; nothing = λ old. refl; hots = refl }

pub steady_append : (es fs : List Access) (s : Shown) → AreSteady es s → AreSteady fs (played es s)
    → AreSteady (es ++ fs) s
steady_append es fs s a b = record {
  allowed = allowed_append es fs s a.allowed b.allowed;
  nothing = λ old. written_append es fs s old
      ∙ ap (λ (l : List Entry). written_by fs (played es s) l) (a.nothing old) ∙ b.nothing old;
  hots = ap (λ (t : Shown). t.hots) (played_append es fs s) ∙ b.hots
      ∙ told_hots fs (played es s) (told_by es s) a.hots
      ∙ sym (ap (λ (t : Shown). t.hots) (told_append es fs s));
}

-- ---- reads of memory words
pub loads_append : (q : ℕ → Type 0) (es fs : List Access) → OnlyLoads q es → OnlyLoads q fs
    → OnlyLoads q (es ++ fs)
loads_append q [] fs a b = b
loads_append q (Loaded p x ∷ es) fs a b = (a.0, loads_append q es fs a.1 b)
loads_append q (Looked h w ∷ es) fs a b = absurd a
loads_append q (Claimed h w v ws ∷ es) fs a b = absurd a
loads_append q (Settled h w ∷ es) fs a b = absurd a
loads_append q (Told h v ∷ es) fs a b = absurd a
loads_append q (Stored p x ∷ es) fs a b = absurd a
loads_append q (Stamped h v ∷ es) fs a b = absurd a

pub loads_more : (q r : ℕ → Type 0) (es : List Access) → ((i : ℕ) → q i → r i) → OnlyLoads q es
    → OnlyLoads r es
loads_more q r [] f a = tt
loads_more q r (Loaded p x ∷ es) f a = (f p a.0, loads_more q r es f a.1)
loads_more q r (Looked h w ∷ es) f a = absurd a
loads_more q r (Claimed h w v ws ∷ es) f a = absurd a
loads_more q r (Settled h w ∷ es) f a = absurd a
loads_more q r (Told h v ∷ es) f a = absurd a
loads_more q r (Stored p x ∷ es) f a = absurd a
loads_more q r (Stamped h v ∷ es) f a = absurd a

-- what reads are, all at once: they change and tell nothing
pub record AreAllReads (q : ℕ → Type 0) (es : List Access) : Type 0 where
  pub stays : (s : Shown) → played es s ≡ s
  pub steady : (s : Shown) → AreSteady es s
  pub touches : TouchesOnly (λ h. ⊥) q es
  pub quiet : (k : ℕ) → NoLook k es
  pub first : LooksFirst es

pub are_reads : (q : ℕ → Type 0) (es : List Access) → OnlyLoads q es → AreAllReads q es
are_reads q [] a = record {
  stays = λ s. refl;
  steady = steady_none;
  touches = tt;
  quiet = λ k. tt;
  first = tt;
}
are_reads q (Loaded p x ∷ es) a = let r = are_reads q es a.1 in record {
  stays = r.stays;
  steady = λ s. let y = r.steady s in
      record { allowed = (tt, y.allowed); nothing = λ old. y.nothing old; hots = y.hots };
  touches = (a.0, r.touches);
  quiet = λ k. ((λ w e. e), r.quiet k);
  first = r.first;
}
are_reads q (Looked h w ∷ es) a = absurd a
are_reads q (Claimed h w v ws ∷ es) a = absurd a
are_reads q (Settled h w ∷ es) a = absurd a
are_reads q (Told h v ∷ es) a = absurd a
are_reads q (Stored p x ∷ es) a = absurd a
are_reads q (Stamped h v ∷ es) a = absurd a

-- events without a look tell nothing
pub quiet_told : (o q : ℕ → Type 0) (es : List Access) (s : Shown) → TouchesOnly o q es
    → ((k : ℕ) → NoLook k es) → told_by es s ≡ s
quiet_told o q [] s a quiet = refl
quiet_told o q (Looked h w ∷ es) s a quiet = absurd ((quiet h).0 w (refl, refl))
quiet_told o q (Claimed h w v ws ∷ es) s a quiet = absurd ((quiet h).0 w (refl, refl))
quiet_told o q (Settled h w ∷ es) s a quiet = quiet_told o q es s a.1 (λ k. (quiet k).1)
quiet_told o q (Loaded p x ∷ es) s a quiet = quiet_told o q es s a.1 (λ k. (quiet k).1)
quiet_told o q (Told h v ∷ es) s a quiet = absurd a
quiet_told o q (Stored p x ∷ es) s a quiet = absurd a
quiet_told o q (Stamped h v ∷ es) s a quiet = absurd a
