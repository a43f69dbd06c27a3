-- A record's entries of an object are the history of the calls that wrote them.
use Rattle.std.proofs.Common.{◌≡◌, ◌⊎◌, ℕ, ◌+◌, ◌*◌, ◌<◌, ◌≤◌, nat_le, true, false, List, [], ◌∷◌, length, Some, None, sym, refl, ap, ◌∙◌, subst, inl, inr, ⊎_elim, true≢false, arith}
use Rattle.std.specs.List.{AllByRecursion, fold, filter}
use Rattle.std.proofs.lemmas.Bool.{cases_lt, le-leb, lt-leb}
use Rattle.cb_world.specs.declared.entry.Entry.{Entry}
use Rattle.cb_world.specs.Memory.{bytes_in}
use Rattle.cb_world.specs.Write.{IsWrite}
use Rattle.cb_mutate.specs.WordsOf.{AreWordsOf}
use Rattle.cb_mutate.proofs.Laws.{write_bytes}
use Rattle.cb_rule.specs.Lists.{Has}
use Rattle.cb_model.specs.declared.object.Object.TheVariants.{Held, Freed}
use Rattle.cb_model.specs.Now.{MapNow, Change, changed, overwritten}
use Rattle.cb_model.specs.Now.Change.{Create, Overwrite, Remove}
use Rattle.cb_model.specs.History.{GoesOn, IsHistory, IsMadeWith, at_version, left_by}
use Rattle.cb_record.specs.Lists.{HasOne}
use Rattle.cb_record.specs.Upheld.{OneLength}

-- what an entry has of the change that wrote it
abbrev pub DoesTo : Entry → Change → Type 0
DoesTo e (Create bytes) = (e.freed ≡ false) × (e.len ≡ length bytes) × AreWordsOf bytes e.after
DoesTo e (Overwrite at bytes) =
    (e.freed ≡ false) × IsWrite e.before at bytes e.after × (at + length bytes ≤ e.len)
DoesTo e Remove = e.freed ≡ true

-- the entry is that of the change
pub record StandsFor (h : ℕ) (e : Entry) (c : ℕ × Change) : Type 0 where
  pub handle : e.handle ≡ h
  pub version : e.version ≡ c.0
  pub does : DoesTo e c.1

-- where a change may stand: a make first, and every other above
abbrev pub MayStandAt : ℕ → ℕ × Change → Type 0
MayStandAt first (v, Create bytes) = v ≡ first
MayStandAt first (v, Overwrite at bytes) = Unit {0}
MayStandAt first (v, Remove) = Unit {0}

-- it makes the object, at the first version
abbrev pub IsFirstMake : ℕ → ℕ × Change → Type 0
IsFirstMake first (v, Create bytes) = v ≡ first
IsFirstMake first (v, Overwrite at bytes) = ⊥
IsFirstMake first (v, Remove) = ⊥

abbrev pub Any : ℕ × Change → Type 0
Any c = Unit {0}

-- the change has its entry, and stands where it may
pub record IsEntered (first : ℕ) (es : List Entry) (h : ℕ) (c : ℕ × Change) : Type 0 where
  pub entry : Entry
  pub there : Has entry es
  pub stands : StandsFor h entry c
  pub fits : MayStandAt first c

-- the entries before and after one another
pub record AreLinked (first : ℕ) (es : List Entry) : Type 0 where
  pub same : (e x : Entry) → Has e es → Has x es → e.handle ≡ x.handle → e.version ≡ x.version
      → e ≡ x
  pub born : (e : Entry) → Has e es → first ≤ e.version
  pub goes_on : (e : Entry) → Has e es → (e.version ≡ first)
      ⊎ ((x : Entry) × Has x es × (x.handle ≡ e.handle) × (x.version + 1 ≡ e.version)
      × (x.after ≡ e.before) × (x.freed ≡ false))
  pub long : OneLength es

-- the versions go up one by one from n
abbrev pub GoesUp : ℕ → List (ℕ × Change) → Type 0
GoesUp n [] = Unit {0}
GoesUp n (c ∷ cs) = (c.0 ≡ n) × GoesUp (n + 1) cs

-- y is the version after x, written
pub record IsNextWritten (es : List Entry) (h : ℕ) (x y : Entry) (v at : ℕ) (bytes : List ℕ)
    : Type 0 where
  pub there : Has y es
  pub handle : y.handle ≡ h
  pub version : y.version ≡ v
  pub next : v ≡ x.version + 1
  pub kept : y.freed ≡ false
  pub len : y.len ≡ x.len
  pub room : at + length bytes ≤ x.len
  pub write : IsWrite x.after at bytes y.after

-- the changes behind the version x
abbrev pub Chain : List Entry → ℕ → Entry → List (ℕ × Change) → Type 0
Chain es h x [] = Unit {0}
Chain es h x ((v, Create bytes) ∷ later) = ⊥
Chain es h x ((v, Overwrite at bytes) ∷ later) =
    (y : Entry) × IsNextWritten es h x y v at bytes × Chain es h y later
Chain es h x ((v, Remove) ∷ later) = (v ≡ x.version + 1) × (later ≡ [])

module _ (first : ℕ) (es : List Entry) (h : ℕ) (linked : AreLinked first es) where
  -- a version and the next one
  link : (x y : Entry) → Has x es → Has y es → x.handle ≡ h → y.handle ≡ h
      → y.version ≡ x.version + 1 → (x.after ≡ y.before) × (x.freed ≡ false)
  link x y hx hy ex ey next = ⊎_elim
      (λ (at : y.version ≡ first).
      absurd (let b = linked.born x hx in omega (arith, b, at, next)))
      (λ (z : (w : Entry) × Has w es × (w.handle ≡ y.handle) × (w.version + 1 ≡ y.version)
      × (w.after ≡ y.before) × (w.freed ≡ false)).
      let one : z.0 ≡ x = linked.same z.0 x z.1 hx (z.2 ∙ ey ∙ sym ex) (omega (arith, z.3, next)) in
      (ap (λ (e : Entry). e.after) (sym one) ∙ z.4, ap (λ (e : Entry). e.freed) (sym one) ∙ z.5))
      (linked.goes_on y hy)

  chained : (x : Entry) (cs : List (ℕ × Change)) → Has x es → x.handle ≡ h → x.freed ≡ false
      → GoesUp (x.version + 1) cs → AllByRecursion (IsEntered first es h) cs → Chain es h x cs
  chained x [] hx ex kept run all = tt
  chained x ((v, Create bytes) ∷ later) hx ex kept run all =
      absurd (let f = all.0.fits in let r = run.0 in let b = linked.born x hx in omega (arith, f, r, b))
  chained x ((v, Overwrite at bytes) ∷ later) hx ex kept run all =
      let y = all.0.entry in
      let next : y.version ≡ x.version + 1 = all.0.stands.version ∙ run.0 in
      let l = link x y hx all.0.there ex all.0.stands.handle next in
      let does = all.0.stands.does in
      let long : y.len ≡ x.len =
      linked.long y x all.0.there hx (all.0.stands.handle ∙ sym ex) does.0 kept in
      let room : at + length bytes ≤ x.len = let within = does.2 in omega (arith, long, within) in (
        y,
        record {
          there = all.0.there;
          handle = all.0.stands.handle;
          version = all.0.stands.version;
          next = run.0;
          kept = does.0;
          len = long;
          room = room;
          write = subst (λ (old : List ℕ). IsWrite old at bytes y.after) (sym l.0) does.1;
        },
        chained y later all.0.there all.0.stands.handle does.0 (subst (λ (n : ℕ). GoesUp (n + 1) later) (sym next) run.1) all.1,
      )
  chained x ((v, Remove) ∷ []) hx ex kept run all = (run.0, refl)
  chained x ((v, Remove) ∷ d ∷ later) hx ex kept run all =
      let y = all.0.entry in
      let z = all.1.0.entry in
      let next : z.version ≡ y.version + 1 =
      all.1.0.stands.version ∙ run.1.0 ∙ ap (λ (n : ℕ). n + 1) (sym (all.0.stands.version ∙ run.0)) in
      let l = link y z all.0.there all.1.0.there all.0.stands.handle all.1.0.stands.handle next in
      absurd (true≢false (sym all.0.stands.does ∙ l.1))

  -- a chain goes on as a history does
  goes_on_chain : (next len : ℕ) (x : Entry) (cs : List (ℕ × Change)) → next ≡ x.version + 1
      → x.len ≡ len → Chain es h x cs → GoesOn next len cs
  goes_on_chain next len x [] n l chain = tt
  goes_on_chain next len x ((v, Create bytes) ∷ later) n l chain = absurd chain
  goes_on_chain next len x ((v, Overwrite at bytes) ∷ later) n l chain =
      let y = chain.0 in let w = chain.1 in (
        w.next ∙ sym n,
        (let r = w.room in omega (arith, r, l)),
        goes_on_chain (next + 1) len y later
            (ap (λ (k : ℕ). k + 1) (n ∙ sym w.next ∙ sym w.version)) (w.len ∙ l) chain.2,
      )
  goes_on_chain next len x ((v, Remove) ∷ later) n l chain = (chain.0 ∙ sym n, chain.1)

  -- none of its versions is among those up to x
  none_below : (bound : ℕ) (x : Entry) (cs : List (ℕ × Change)) → bound ≤ x.version
      → Chain es h x cs → filter (λ c. nat_le c.0 bound) cs ≡ []
  none_below bound x [] le chain = refl
  none_below bound x ((v, Create bytes) ∷ later) le chain = absurd chain
  none_below bound x ((v, Overwrite at bytes) ∷ later) le chain =
      let w = chain.1 in let n = w.next in let s = w.version in
      rw (lt-leb v bound (omega (arith, le, n)))
      (none_below bound chain.0 later (omega (arith, le, n, s)) chain.2)
  none_below bound x ((v, Remove) ∷ later) le chain =
      let n = chain.0 in let none = chain.1 in rw (lt-leb v bound (omega (arith, le, n)), none) refl

  -- what was held at a version that was written
  abbrev Holds : Entry → MapNow
  Holds e = Some (Held e.version (bytes_in e.after e.len))

  -- the bytes of the next version are those of this one with the write applied
  next_bytes : (x y : Entry) (v at : ℕ) (bytes : List ℕ) → x.len ≤ 8 * length x.after
      → IsNextWritten es h x y v at bytes
      → changed (Holds x) (v, Overwrite at bytes) ≡ Holds y
  next_bytes x y v at bytes filled w = λ i. Some (Held (sym w.version i)
      ((sym (write_bytes x.after y.after at x.len bytes w.write w.room filled)
      ∙ ap (bytes_in y.after) (sym w.len)) i))

  -- up to a version, changes leave what its entry has
  folded : (e x : Entry) (cs : List (ℕ × Change)) → Has e es → Has x es → e.handle ≡ h
      → x.handle ≡ h → e.freed ≡ false → x.len ≤ 8 * length x.after → x.version ≤ e.version
      → (x.version < e.version → HasOne (StandsFor h e) cs) → Chain es h x cs
      → (x.version < e.version) ⊎ (e.version ≤ x.version)
      → fold changed (Holds x) (filter (λ c. nat_le c.0 e.version) cs) ≡ Holds e
  folded e x cs he hx ee ex kept filled le one chain (inr ge) =
      rw (none_below e.version x cs ge chain)
      (ap Holds (linked.same x e hx he (ex ∙ sym ee) (omega (arith, le, ge))))
  folded e x [] he hx ee ex kept filled le one chain (inl lt) = absurd (one lt)
  folded e x ((v, Create bytes) ∷ later) he hx ee ex kept filled le one chain (inl lt) =
      absurd chain
  folded e x ((v, Overwrite at bytes) ∷ later) he hx ee ex kept filled le one chain (inl lt) =
      let y = chain.0 in
      let w = chain.1 in
      let low : v ≤ e.version = let n = w.next in omega (arith, n, lt) in
      let more : y.len ≤ 8 * length y.after = let l = w.len in let z = w.write.sized in
      omega (arith, l, z, filled) in
      rw (le-leb v e.version low)
      (ap (λ (now : MapNow). fold changed now (filter (λ c. nat_le c.0 e.version) later))
      (next_bytes x y v at bytes filled w)
      ∙ folded e y later he w.there ee w.handle kept more (let n = w.version in omega (arith, n, low))
      (λ less. ⊎_elim (λ (s : StandsFor h e (v, Overwrite at bytes)).
      absurd (let n = s.version in let m = w.version in omega (arith, n, m, less)))
      (λ (rest : HasOne (StandsFor h e) later). rest) (one lt)) chain.2
      (cases_lt y.version e.version))
  folded e x ((v, Remove) ∷ later) he hx ee ex kept filled le one chain (inl lt) =
      absurd (⊎_elim (λ (s : StandsFor h e (v, Remove)). true≢false (sym s.does ∙ kept))
      (λ (rest : HasOne (StandsFor h e) later).
      subst (λ (cs : List (ℕ × Change)). HasOne (StandsFor h e) cs) chain.1 rest) (one lt))

  -- the freed entry is what all changes leave
  ends_freed : (e x : Entry) (a : ℕ) (b : List ℕ) (cs : List (ℕ × Change)) → e.freed ≡ true
      → HasOne (StandsFor h e) cs → Chain es h x cs
      → fold changed (Some (Held a b)) cs ≡ Some (Freed e.version)
  ends_freed e x a b [] gone one chain = absurd one
  ends_freed e x a b ((v, Create bytes) ∷ later) gone one chain = absurd chain
  ends_freed e x a b ((v, Overwrite at bytes) ∷ later) gone one chain =
      ends_freed e chain.0 v (overwritten b at bytes) later gone
      (⊎_elim (λ (s : StandsFor h e (v, Overwrite at bytes)).
      absurd (true≢false (sym gone ∙ s.does.0)))
      (λ (rest : HasOne (StandsFor h e) later). rest) one) chain.2
  ends_freed e x a b ((v, Remove) ∷ []) gone one chain = ⊎_elim
      (λ (s : StandsFor h e (v, Remove)). ap (λ (n : ℕ). Some (Freed n)) (sym s.version))
      (λ (none : ⊥). absurd none) one
  ends_freed e x a b ((v, Remove) ∷ d ∷ later) gone one chain =
      absurd (let none : d ∷ later ≡ [] = chain.1 in cc)

  -- What the changes of an object say of its entries.
  pub record AreTrue (cs : List (ℕ × Change)) : Type 0 where
    pub history : IsHistory first cs
    pub shows : (e : Entry) → Has e es → e.handle ≡ h → e.freed ≡ false
        → at_version cs e.version ≡ Some (Held e.version (bytes_in e.after e.len))
    pub freed : (e : Entry) → Has e es → e.handle ≡ h → e.freed ≡ true
        → left_by cs ≡ Some (Freed e.version)
    -- each change has its entry
    pub entered : AllByRecursion (IsEntered first es h) cs
    pub long : (e : Entry) → Has e es → e.handle ≡ h → e.freed ≡ false → IsMadeWith cs e.len

  -- no make stands among versions above the first
  made_first : (n : ℕ) (cs : List (ℕ × Change)) → first < n → GoesUp n cs
      → HasOne (IsFirstMake first) cs → ⊥
  made_first n [] lt run one = one
  made_first n ((v, Create bytes) ∷ cs) lt run one = ⊎_elim
      (λ (is : v ≡ first). let r = run.0 in omega (arith, is, r, lt))
      (λ (more : HasOne (IsFirstMake first) cs). made_first (n + 1) cs (omega (arith, lt)) run.1 more) one
  made_first n ((v, Overwrite at bytes) ∷ cs) lt run one = ⊎_elim (λ (none : ⊥). none)
      (λ (more : HasOne (IsFirstMake first) cs). made_first (n + 1) cs (omega (arith, lt)) run.1 more) one
  made_first n ((v, Remove) ∷ cs) lt run one = ⊎_elim (λ (none : ⊥). none)
      (λ (more : HasOne (IsFirstMake first) cs). made_first (n + 1) cs (omega (arith, lt)) run.1 more) one

  -- changes that run from the first version, each with its entry, and each entry with its change
  pub are_true : (cs : List (ℕ × Change)) → GoesUp first cs
      → AllByRecursion (IsEntered first es h) cs
      → ((e : Entry) → Has e es → e.handle ≡ h → HasOne (StandsFor h e) cs)
      → (HasOne Any cs → HasOne (IsFirstMake first) cs) → AreTrue cs
  are_true [] run all one made = record {
    history = tt;
    shows = λ e he ee kept. absurd (one e he ee);
    freed = λ e he ee gone. absurd (one e he ee);
    entered = tt;
    long = λ e he ee kept. absurd (one e he ee);
  }
  are_true ((v, Overwrite at bytes) ∷ later) run all one made =
      absurd (⊎_elim (λ (none : ⊥). none)
      (λ (more : HasOne (IsFirstMake first) later). made_first (first + 1) later (omega arith) run.1 more)
      (made (inl tt)))
  are_true ((v, Remove) ∷ later) run all one made =
      absurd (⊎_elim (λ (none : ⊥). none)
      (λ (more : HasOne (IsFirstMake first) later). made_first (first + 1) later (omega arith) run.1 more)
      (made (inl tt)))
  are_true ((v, Create bytes) ∷ later) run all one made = record {
    history = (run.0, goes_on_chain (first + 1) (length bytes) x later (ap (λ (n : ℕ). n + 1) (sym at)) does.1 chain);
    shows = λ e he ee kept. shows e he ee kept;
    freed = λ e he ee gone. ends_freed e x v bytes later gone (behind e (one e he ee) (λ d. true≢false (sym gone ∙ d))) chain;
    entered = all;
    long = λ e he ee kept. linked.long e x he all.0.there (ee ∙ sym all.0.stands.handle) kept does.0 ∙ does.1;
  }
    where
      x : Entry
      x = all.0.entry

      does : DoesTo x (Create bytes)
      does = all.0.stands.does

      at : x.version ≡ first
      at = all.0.stands.version ∙ run.0

      chain : Chain es h x later
      chain = chained x later all.0.there all.0.stands.handle does.0
          (subst (λ (n : ℕ). GoesUp (n + 1) later) (sym at) run.1) all.1

      filled : x.len ≤ 8 * length x.after
      filled = let c = does.2.count in let l = does.1 in omega (arith, c, l)

      start : changed None (v, Create bytes) ≡ Holds x
      start = λ i. Some (Held (sym all.0.stands.version i)
          ((sym does.2.first_bytes ∙ ap (bytes_in x.after) (sym does.1)) i))

      behind : (e : Entry) → HasOne (StandsFor h e) ((v, Create bytes) ∷ later)
          → (e.freed ≡ false → ⊥) → HasOne (StandsFor h e) later
      behind e one not = ⊎_elim (λ (s : StandsFor h e (v, Create bytes)). absurd (not s.does.0))
          (λ (rest : HasOne (StandsFor h e) later). rest) one

      later_one : (e : Entry) → HasOne (StandsFor h e) ((v, Create bytes) ∷ later)
          → x.version < e.version → HasOne (StandsFor h e) later
      later_one e one lt = ⊎_elim (λ (s : StandsFor h e (v, Create bytes)).
          absurd (let n = s.version in let m = all.0.stands.version in omega (arith, n, m, lt)))
          (λ (rest : HasOne (StandsFor h e) later). rest) one

      shows : (e : Entry) → Has e es → e.handle ≡ h → e.freed ≡ false
          → at_version ((v, Create bytes) ∷ later) e.version ≡ Holds e
      shows e he ee kept =
          let low : v ≤ e.version = let b = linked.born e he in let r = run.0 in
          omega (arith, b, r) in
          rw (le-leb v e.version low)
          (ap (λ (now : MapNow). fold changed now (filter (λ c. nat_le c.0 e.version) later)) start
          ∙ folded e x later he all.0.there ee all.0.stands.handle kept filled
          (let b = linked.born e he in omega (arith, b, at)) (later_one e (one e he ee)) chain
          (cases_lt x.version e.version))

  -- ---- what all changes leave
  -- none is above such a version
  none_above : (n : ℕ) (cs : List (ℕ × Change)) → AllByRecursion (IsEntered first es h) cs
      → ((e : Entry) → Has e es → e.handle ≡ h → e.version ≤ n)
      → filter (λ c. nat_le c.0 n) cs ≡ cs
  none_above n [] all most = refl
  none_above n (c ∷ cs) all most =
      let e = all.0.entry in let at = all.0.stands.version in
      let low : c.0 ≤ n = let le = most e all.0.there all.0.stands.handle in omega (arith, le, at) in
      rw (le-leb c.0 n low) (ap (λ (later : List (ℕ × Change)). c ∷ later) (none_above n cs all.1 most))

  -- it is what the entry with the greatest version has, where that is not the freed one
  pub leaves_last : (cs : List (ℕ × Change)) → AreTrue cs → (e : Entry) → Has e es → e.handle ≡ h
      → e.freed ≡ false → ((x : Entry) → Has x es → x.handle ≡ h → x.version ≤ e.version)
      → left_by cs ≡ Some (Held e.version (bytes_in e.after e.len))
  leaves_last cs are e there on kept most =
      ap left_by (sym (none_above e.version cs are.entered most)) ∙ are.shows e there on kept

  -- and an object without an entry has no change
  pub no_changes : (cs : List (ℕ × Change)) → AreTrue cs
      → ((e : Entry) → Has e es → e.handle ≡ h → ⊥) → cs ≡ []
  no_changes [] are none = refl
  no_changes (c ∷ cs) are none =
      let all = are.entered in absurd (none all.0.entry all.0.there all.0.stands.handle)
