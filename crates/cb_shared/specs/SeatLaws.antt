-- The laws of the desk over a seat.
use Rattle.std.proofs.Common.{◌≡◌, ℕ, ◌≤◌, ◌<◌, List, [], ◌∷◌, ◌++◌, sym, refl, ap, ◌∙◌, subst}
use Rattle.std.proofs.Common.{length-set, append_assoc, append-nil}
use Rattle.atomic_table.specs.Seated.{TableId}
use Rattle.cb_types.specs.declared.config.Config.{Config}
use Rattle.cb_ptr.specs.Word.{state_of, hot_of, len_of, place_of}
use Rattle.cb_world.specs.declared.entry.Entry.{Entry}
use Rattle.cb_world.specs.declared.access.Access.{Access}
use Rattle.cb_world.specs.declared.access.Access.TheVariants.{Looked, Claimed, Told, Loaded, Stored}
use Rattle.cb_world.specs.declared.access.Access.TheVariants.{Stamped, Settled}
use Rattle.cb_world.specs.declared.object.Object.TheVariants as is
use Rattle.cb_world.specs.declared.shown.Shown.{Shown}
use Rattle.cb_world.specs.Played.{Agree, after, played, settled_by}
use Rattle.cb_world.specs.Shown.{version_at, object_at}
use Rattle.cb_world.specs.Written.{adds, written_by}
use Rattle.cb_world.proofs.Laws.{length_put}
use Rattle.cb_rule.specs.declared.view.View.{View}
use Rattle.cb_rule.specs.History.{is_version}
use Rattle.cb_rule.specs.Lists.{times, Each}
use Rattle.cb_rule.specs.Rule.{AreSized}
use Rattle.cb_rule.specs.Slot.{Sat}
use Rattle.cb_rule.specs.Steps.{AreNew, FollowsLast, IsNewVersion, TellsPins, act, acted}
use Rattle.cb_shared.specs.declared.setup.Setup.{Setup}
use Rattle.cb_shared.specs.Seats.{Moves, SeatAt, HoldsLock, Acts, record_at}

pub acted_known : (es : List Access) (v : View) → (acted es v).known ≡ played es v.known
acted_known [] v = refl
acted_known (e ∷ es) v = acted_known es (act e v)

pub acted_fresh : (es : List Access) (v : View)
    → (acted es v).fresh ≡ written_by es v.known v.fresh
acted_fresh [] v = refl
acted_fresh (e ∷ es) v = acted_fresh es (act e v)

pub acted_append : (es fs : List Access) (v : View) → acted (es ++ fs) v ≡ acted fs (acted es v)
acted_append [] fs v = refl
acted_append (e ∷ es) fs v = acted_append es fs (act e v)

agree_more : (es fs : List Access) (s : Shown) → Agree s es → Agree (played es s) fs
    → Agree s (es ++ fs)
agree_more [] fs s a b = b
agree_more (e ∷ es) fs s a b = (a.0, agree_more es fs (after e s) a.1 b)

-- the events leave all of the record but what is known, what they are and what they write
abbrev pub after_events : List Access → View → View
after_events es v = record v {
  known = played es v.known;
  acts = v.acts ++ es;
  fresh = written_by es v.known v.fresh;
}

pub acted_is : (es : List Access) (v : View) → acted es v ≡ after_events es v
acted_is [] v = λ i. record v { acts = sym (append-nil v.acts) i }
acted_is (e ∷ es) v = acted_is es (act e v) ∙ (λ i. record v {
  known = played es (after e v.known);
  acts = append_assoc v.acts (e ∷ []) es i;
  fresh = written_by (e ∷ es) v.known v.fresh;
})

-- the word that a look or a claim found tells of the pins of the view
abbrev pub SaysPins : View → Access → Type 0
SaysPins v (Looked h w) = TellsPins h w v
SaysPins v (Claimed h w n words) = TellsPins h w v
SaysPins v e = Unit {0}

-- so does each of the events of a view, as it stood when it found the word
abbrev pub SayPins : List Access → View → Type 0
SayPins [] v = Unit {0}
SayPins (e ∷ es) v = SaysPins v e × SayPins es (act e v)

-- The seat's view has these events more. They agree with what it knew, and what they write is new
-- to its record. The words that were found tell of its pins.
abbrev pub Runs : SeatAt → List Access → SeatAt → Type 0
Runs p es q = Moves p q (acted es (record_at p)) × Agree (record_at p).known es
    × AreNew (written_by es (record_at p).known []) (record_at p) × SayPins es (record_at p)

pub known_is : (p q : SeatAt) (es : List Access) → Moves p q (acted es (record_at p))
    → (record_at q).known ≡ played es (record_at p).known
known_is p q es m = ap (λ (k : Sat). k.0.known) m.2 ∙ acted_known es (record_at p)

written_more : (es : List Access) (s : Shown) (old : List Entry)
    → written_by es s old ≡ written_by es s [] ++ old
written_more [] s old = refl
written_more (e ∷ es) s old = let t = after e s in let more = adds e s in
    written_more es t (more ++ old) ∙ sym (append_assoc (written_by es t []) more old)
    ∙ ap (λ (l : List Entry). l ++ old)
    (ap (λ (l : List Entry). written_by es t [] ++ l) (sym (append-nil more))
    ∙ sym (written_more es t (more ++ [])))

written_then : (es fs : List Access) (s : Shown) (old : List Entry)
    → written_by (es ++ fs) s old ≡ written_by fs (played es s) (written_by es s old)
written_then [] fs s old = refl
written_then (e ∷ es) fs s old = written_then es fs (after e s) (adds e s ++ old)

pub each_behind : {A : Type 0} (P : A → Type 0) (xs ys : List A) → Each P (xs ++ ys) → Each P ys
each_behind P [] ys all = all
each_behind P (x ∷ xs) ys all = each_behind P xs ys all.1

-- what is new after events was so before them
new_kept : (h n : ℕ) (es : List Access) (v : View) → IsNewVersion h n (after_events es v)
    → IsNewVersion h n v
new_kept h n es v new = let P : Entry → Type 0 = λ x. x.handle ≡ h → x.version < n in
    let more = written_by es v.known [] in record {
      written = each_behind P more (v.fresh ++ v.written)
          (subst (Each P) (ap (λ (l : List Entry). l ++ v.written) (written_more es v.known v.fresh)
          ∙ append_assoc more v.fresh v.written) new.written);
      seen = new.seen;
    }

-- what follows the last after events follows what they wrote
follows_kept : (e : Entry) (before : List Entry) (es : List Access) (v : View)
    → FollowsLast e before (after_events es v)
    → FollowsLast e (before ++ written_by es v.known []) v
follows_kept e before es v follows alone knows = let z = follows alone knows in
    let more = written_by es v.known [] in (
      z.0,
      z.1,
      subst (λ (l : List Entry). 0 < times (is_version e.handle z.0) l)
          (ap (λ (l : List Entry). before ++ (l ++ v.written)) (written_more es v.known v.fresh)
          ∙ ap (λ (l : List Entry). before ++ l) (append_assoc more v.fresh v.written)
          ∙ sym (append_assoc before more (v.fresh ++ v.written))) z.2,
    )

new_behind : (es : List Access) (v : View) (more : List Entry) → AreNew more (after_events es v)
    → AreNew (written_by es v.known []) v → AreNew (more ++ written_by es v.known []) v
new_behind es v [] new old = old
new_behind es v (e ∷ more) new old = (
  new_kept e.handle e.version es v new.0,
  follows_kept e more es v new.1,
  new_behind es v more new.2 old,
)

new_more : (es fs : List Access) (v : View) → AreNew (written_by es v.known []) v
    → AreNew (written_by fs (played es v.known) []) (acted es v)
    → AreNew (written_by (es ++ fs) v.known []) v
new_more es fs v a b = let s = v.known in let more = written_by fs (played es s) [] in
    subst (λ (l : List Entry). AreNew l v)
    (sym (written_then es fs s [] ∙ written_more fs (played es s) (written_by es s [])))
    (new_behind es v more (subst (AreNew more) (acted_is es v) b) a)

say_more : (es fs : List Access) (v : View) → SayPins es v → SayPins fs (acted es v)
    → SayPins (es ++ fs) v
say_more [] fs v a b = b
say_more (e ∷ es) fs v a b = (a.0, say_more es fs (act e v) a.1 b)

-- the last of the events found words after the first ones
pub say_behind : (es fs : List Access) (v : View) → SayPins (es ++ fs) v → SayPins fs (acted es v)
say_behind [] fs v all = all
say_behind (e ∷ es) fs v all = say_behind es fs (act e v) all.1

nothing_behind : (xs ys : List Entry) → xs ++ ys ≡ [] → ys ≡ []
nothing_behind [] ys e = e
nothing_behind (x ∷ xs) ys e = absurd (absurd_cons e)
  where
    absurd_cons : x ∷ (xs ++ ys) ≡ [] → ⊥
    absurd_cons q = cc

-- where events wrote nothing at all, the first of them wrote nothing either
pub still_unwritten : (es fs : List Access) (s : Shown) (old : List Entry)
    → written_by (es ++ fs) s old ≡ [] → written_by es s old ≡ old
still_unwritten es fs s old none =
    let here : written_by es s old ≡ [] =
    nothing_behind (written_by fs (played es s) []) (written_by es s old)
    (sym (written_more fs (played es s) (written_by es s old)) ∙ sym (written_then es fs s old)
    ∙ none) in
    here ∙ sym (nothing_behind (written_by es s []) old (sym (written_more es s old) ∙ here))

-- what a seat wrote that had written nothing in its turn
pub fresh_new : (p q : SeatAt) (es : List Access) → (record_at p).fresh ≡ [] → Runs p es q
    → AreNew (acted es (record_at p)).fresh (record_at p)
fresh_new p q es none r = subst (λ (l : List Entry). AreNew l (record_at p))
    (ap (written_by es (record_at p).known) (sym none) ∙ sym (acted_fresh es (record_at p))) r.2

pub runs_more : (p q r : SeatAt) (es fs : List Access) → Runs p es q → Runs q fs r
    → Runs p (es ++ fs) r
runs_more p q r es fs a b = let m = a.0 in let n = b.0 in (
  (
    n.0 ∙ m.0,
    n.1 ∙ m.1,
    n.2 ∙ ap (λ (k : Sat). let z : Sat = (acted fs k.0, k.1) in z) m.2
        ∙ ap (λ (v : View). let z : Sat = (v, p.me.1) in z)
        (sym (acted_append es fs (record_at p))),
  ),
  agree_more es fs (record_at p).known a.1
      (subst (λ (s : Shown). Agree s fs) (known_is p q es m) b.1),
  new_more es fs (record_at p) a.2
      (subst (λ (s : Shown). AreNew (written_by fs s []) (acted es (record_at p)))
      (known_is p q es m)
      (subst (λ (v : View). AreNew (written_by fs (record_at q).known []) v)
      (ap (λ (k : Sat). k.0) m.2) b.2)),
  say_more es fs (record_at p) a.3
      (subst (λ (v : View). SayPins fs v) (ap (λ (k : Sat). k.0) m.2) b.3),
)

pub runs_follows : (p q : SeatAt) (es : List Access) (s : Shown) → Runs p es q
    → s ≡ (record_at p).known
    → Agree s es × (played es s ≡ (record_at q).known)
runs_follows p q es s a b = (
  subst (λ (t : Shown). Agree t es) (sym b) a.1,
  ap (played es) b ∙ sym (known_is p q es a.0),
)

pub sized_after : (c : Config) (e : Access) (s : Shown) → AreSized c s → AreSized c (after e s)
sized_after c (Looked h w) s z = record {
  objects = z.objects;
  hots = length-set s.hots h (hot_of w) ∙ z.hots;
  versions = z.versions;
  memory = z.memory;
}
sized_after c (Claimed h w v words) s z = record {
  objects = length-set s.objects h (is.Claimed (len_of w) (place_of w) v words) ∙ z.objects;
  hots = length-set s.hots h (hot_of w) ∙ z.hots;
  versions = length-set s.versions h v ∙ z.versions;
  memory = length_put s.memory (place_of w) words ∙ z.memory;
}
sized_after c (Told h v) s z = z
sized_after c (Loaded p x) s z = z
sized_after c (Stored p x) s z = record {
  objects = z.objects;
  hots = z.hots;
  versions = z.versions;
  memory = length-set s.memory p x ∙ z.memory;
}
sized_after c (Stamped h v) s z = record {
  objects = z.objects;
  hots = z.hots;
  versions = length-set s.versions h v ∙ z.versions;
  memory = z.memory;
}
sized_after c (Settled h w) s z = record {
  objects = length-set s.objects h (settled_by (state_of w) w (version_at s h) (object_at s h))
      ∙ z.objects;
  hots = length-set s.hots h (hot_of w) ∙ z.hots;
  versions = z.versions;
  memory = z.memory;
}

-- the seat holds the lock as before
pub holds_still : (z : TableId) (k : Setup) (c : Config) (p q : SeatAt) (e : Access)
    → HoldsLock z k c p
    → Acts p e q → HoldsLock z k c q
holds_still z k c p q e h a = record {
  of = record {
    table = a.0.0 ∙ h.of.table;
    words = h.of.words;
    key = h.of.key;
    config = ap (λ (m : Sat). m.0.config) a.0.2 ∙ h.of.config;
    live = subst (λ (m : Sat). 1 ≤ m.0.share) (sym a.0.2) h.of.live;
  };
  holds = ap (λ (m : Sat). m.0.holds) a.0.2 ∙ h.holds;
  sized = subst (λ (m : Sat). AreSized c m.0.known) (sym a.0.2)
      (sized_after c e (record_at p).known h.sized);
}
