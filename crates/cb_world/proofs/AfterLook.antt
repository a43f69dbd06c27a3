-- An operation that ends without a claim: looks, and reads behind them, change nothing.
use Rattle.std.proofs.Common.{◌≡◌, ℕ, Bool, List, [], ◌∷◌, ◌++◌, sym, refl, ap, ◌∙◌, subst, inl}
use Rattle.cb_world.specs.declared.access.Access.{Access}
use Rattle.cb_world.specs.declared.access.Access.TheVariants.{Looked, Claimed, Told, Loaded}
use Rattle.cb_world.specs.declared.entry.Entry.{Entry}
use Rattle.cb_world.specs.declared.shown.Shown.{Shown}
use Rattle.cb_world.specs.Played.{after, played}
use Rattle.cb_world.specs.Looks.{NoLook, IsFound, IsTaken, IsTold, AreLooks, LooksFirst, told_by}
use Rattle.cb_world.specs.Reads.{AreReads}
use Rattle.cb_world.specs.Allowed.{Allowed}
use Rattle.cb_world.specs.Written.{written_by}
use Rattle.cb_world.specs.Still.{IsStill}
use Rattle.cb_world.specs.FarState.{FarState}
use Rattle.cb_world.specs.LocalSound.{LocalSound}
use Rattle.cb_world.specs.Sound.{Sound}
use Rattle.cb_world.proofs.Tracing.{played_append, looks_played, written_append, looks_written, found_more, found_last}
use Rattle.cb_world.proofs.Exact.{first_look}
use Rattle.cb_world.proofs.Unmoved.{keeps_all, sound_near}

-- the look behind some looks
abbrev pub look_after : List Access → ℕ → ℕ → List Access
look_after before h w = before ++ Looked h w ∷ []

pub reads_played : (h : ℕ) (es : List Access) (s : Shown) → AreReads h es → played es s ≡ s
reads_played h [] s a = refl
reads_played h (Told k v ∷ es) s a = reads_played h es s a.1
reads_played h (Loaded p x ∷ es) s a = reads_played h es s a
reads_played h (e ∷ es) s a = absurd a

pub reads_told : (h : ℕ) (es : List Access) (s : Shown) → AreReads h es → told_by es s ≡ s
reads_told h [] s a = refl
reads_told h (Told k v ∷ es) s a = reads_told h es s a.1
reads_told h (Loaded p x ∷ es) s a = reads_told h es s a
reads_told h (e ∷ es) s a = absurd a

pub reads_written : (h : ℕ) (es : List Access) (s : Shown) (old : List Entry) → AreReads h es
    → written_by es s old ≡ old
reads_written h [] s old a = refl
reads_written h (Told k v ∷ es) s old a = reads_written h es s old a.1
reads_written h (Loaded p x ∷ es) s old a = reads_written h es s old a
reads_written h (e ∷ es) s old a = absurd a

pub reads_no_look : (h : ℕ) (es : List Access) → AreReads h es → NoLook h es
reads_no_look h [] a = tt
reads_no_look h (Told k v ∷ es) a = ((λ w e. e), reads_no_look h es a.1)
reads_no_look h (Loaded p x ∷ es) a = ((λ w e. e), reads_no_look h es a)
reads_no_look h (e ∷ es) a = absurd a

pub reads_first : (h : ℕ) (es : List Access) → AreReads h es → LooksFirst es
reads_first h [] a = tt
reads_first h (Told k v ∷ es) a = reads_first h es a.1
reads_first h (Loaded p x ∷ es) a = reads_first h es a
reads_first h (e ∷ es) a = absurd a

pub reads_allowed : (h : ℕ) (es : List Access) (s : Shown) → AreReads h es → Allowed s es
reads_allowed h [] s a = tt
reads_allowed h (Told k v ∷ es) s a = (tt, reads_allowed h es s a.1)
reads_allowed h (Loaded p x ∷ es) s a = (tt, reads_allowed h es s a)
reads_allowed h (e ∷ es) s a = absurd a

looks_all : (h w : ℕ) (xs : List Access) → AreLooks h xs → AreLooks h (look_after xs h w)
looks_all h w [] a = (refl, tt)
looks_all h w (Looked k x ∷ es) a = (a.0, looks_all h w es a.1)
looks_all h w (e ∷ es) a = absurd a

pub look_allowed : (before es : List Access) (h w : ℕ) (s : Shown) → AreLooks h before
    → AreReads h es → Allowed s (look_after before h w ++ es)
look_allowed [] es h w s a b = (tt, reads_allowed h es (after (Looked h w) s) b)
look_allowed (Looked k x ∷ before) es h w s a b =
    (tt, look_allowed before es h w (after (Looked k x) s) a.1 b)
look_allowed (e ∷ before) es h w s a b = absurd a

pub look_found : (before es : List Access) (h w : ℕ) → AreReads h es
    → IsFound h w (look_after before h w ++ es)
look_found before es h w reads = found_more h w (look_after before h w) es
    (found_last h w before (Looked h w) (refl, refl)) (reads_no_look h es reads)

pub look_first : (before es : List Access) (h w : ℕ) → AreLooks h before → AreReads h es
    → LooksFirst (look_after before h w ++ es)
look_first before es h w looks reads = first_look h w before es looks (reads_first h es reads)

pub told_before : (h v : ℕ) (es fs : List Access) → IsTold h v fs → IsTold h v (es ++ fs)
told_before h v [] fs a = a
told_before h v (Told k u ∷ es) fs a = inl (told_before h v es fs a)
told_before h v (e ∷ es) fs a = told_before h v es fs a

pub taken_before : (h v : ℕ) (words : List ℕ) (es fs : List Access) → IsTaken h v words fs
    → IsTaken h v words (es ++ fs)
taken_before h v words [] fs a = a
taken_before h v words (Claimed k w u xs ∷ es) fs a = inl (taken_before h v words es fs a)
taken_before h v words (e ∷ es) fs a = taken_before h v words es fs a

sound_hots : (far : FarState) (s : Shown) (hots : List Bool) → LocalSound s far
    → LocalSound (record s { hots = hots }) far
sound_hots far s hots x = record {
  known = record {
    first = x.known.first;
    least = x.known.least;
    bounded = x.known.bounded;
    made = x.known.made;
    stamped = x.known.stamped;
    versioned = x.known.versioned;
  };
  frames = x.frames;
  placed = record {
    memory = x.placed.memory;
    placed = x.placed.placed;
    named = λ f slot k span there taken. let y = x.placed.named f slot k span there taken in
        record { len = y.len; lies = y.lies };
  };
}

look_played : (s : Shown) (before es : List Access) (h w : ℕ) → AreLooks h before → AreReads h es
    → (hots : List Bool) × (played (look_after before h w ++ es) s ≡ record s { hots = hots })
look_played s before es h w looks reads =
    let one = looks_all h w before looks in
    let p = looks_played h (look_after before h w) s one in
    (p.0, played_append (look_after before h w) es s ∙ reads_played h es _ reads ∙ p.2)

-- what looks, and reads behind them, tell is what is then known
look_tells : (h w : ℕ) (before es : List Access) (s : Shown) → AreLooks h before → AreReads h es
    → told_by (look_after before h w ++ es) s ≡ played (look_after before h w ++ es) s
look_tells h w [] es s a b = reads_told h es (after (Looked h w) s) b
    ∙ sym (reads_played h es (after (Looked h w) s) b)
look_tells h w (Looked k x ∷ before) es s a b =
    look_tells h w before es (after (Looked k x) s) a.1 b
look_tells h w (e ∷ before) es s a b = absurd a

pub look_still : (s : Shown) (before es : List Access) (h w : ℕ) → AreLooks h before
    → AreReads h es → IsStill (look_after before h w ++ es) s (played
    (look_after before h w ++ es) s)
look_still s before es h w looks reads =
    let one = looks_all h w before looks in
    let x = look_played s before es h w looks reads in
    let told = sym (look_tells h w before es s looks reads) in
    record {
      objects = ap (λ (t : Shown). t.objects) x.1;
      hots = ap (λ (t : Shown). t.hots) told;
      versions = ap (λ (t : Shown). t.versions) told;
      memory = ap (λ (t : Shown). t.memory) told;
      nothing = λ old. written_append (look_after before h w) es s old
          ∙ reads_written h es _ _ reads ∙ looks_written h (look_after before h w) s old one;
    }

pub look_sound : (far : FarState) (s : Shown) (before es : List Access) (h w : ℕ) → Sound s far
    → AreLooks h before → AreReads h es → Sound (played (look_after before h w ++ es) s) far
look_sound far s before es h w sound looks reads =
    let x = look_played s before es h w looks reads in
    subst (λ (t : Shown). Sound t far) (sym x.1)
    (sound_near s (record s { hots = x.0 }) far far sound (sound_hots far s x.0 sound.here)
    (keeps_all far) (λ k. inl refl)
    (λ batch there. record { spans = λ f leaves. refl; words = λ f leaves. refl }))
