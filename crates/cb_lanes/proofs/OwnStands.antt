-- What a lane has by itself is what the record of its pass has of the objects that the lane made.
use Rattle.std.proofs.Common.{◌≡◌, ◌≢◌, ◌⊎◌, ℕ, ◌+◌, ◌*◌, ◌<◌, ◌≤◌, Bool, true, false, cond, eqb}
use Rattle.std.proofs.Common.{List, [], ◌∷◌, length, Option, None, Some, inl, inr, sym, refl, ap}
use Rattle.std.proofs.Common.{◌∙◌, subst, eq-eqb, ne_eqb, true≢false, arith, if◌then◌else◌}
use Rattle.std.specs.Str.{bytes_eq}
use Rattle.std.proofs.lemmas.Bool.{cases_Bool}
use Rattle.std.proofs.lemmas.List.Sums.{sum_by-cons}
use Rattle.std.proofs.lemmas.Option.{same_Some}
use Rattle.std.proofs.lemmas.Slice.Eq.{bytes_eq-Decides}
use Rattle.cb_model.specs.declared.object.Object.{Object}
use Rattle.cb_model.specs.declared.object.Object.TheVariants.{Held, Freed}
use Rattle.cb_model.specs.Now.{MapNow}
use Rattle.cb_script.specs.declared.script.Line.{Line}
use Rattle.cb_world.specs.declared.entry.Entry.{Entry}
use Rattle.cb_world.specs.Memory.{bytes_in}
use Rattle.cb_rule.specs.declared.view.Stand.{Stand}
use Rattle.cb_rule.specs.declared.view.View.{View}
use Rattle.cb_rule.specs.Lists.{Has, removed, times}
use Rattle.cb_rule.specs.Seats.{pins_it}
use Rattle.cb_rule.specs.Steps.{Knows}
use Rattle.cb_rule.proofs.Laws.{times_has}
use Rattle.cb_lanes.specs.Alone.{LaneState, is_maker, now_named}
use Rattle.cb_lanes.specs.KeepsOwn.{last_in}
use Rattle.cb_lanes.specs.Passing.{HasNoPin, IsNewestPin}
use Rattle.cb_lanes.specs.Scopes.{NamedPin, Scope, named_on, newest_on, without_newest}
use Rattle.cb_lanes.proofs.Lists.{one_if}

-- what the entry left of its object
abbrev pub object_of : Entry → Object
object_of e = cond e.freed (Freed e.version) (Held e.version (bytes_in e.after e.len))

-- the map has what the object's last entry left, and the pass made the object
pub record IsObject (h : ℕ) (v : View) (now : MapNow) : Type 0 where
  pub own : Has h v.own
  pub last : Entry
  pub is_last : last_in v.written h ≡ Some last
  pub long : last.freed ≡ false → last.len ≤ 8 * length last.after
  pub is_now : now ≡ Some (object_of last)

-- nothing, where the name has no handle
abbrev pub ObjectStands : Option ℕ → View → MapNow → Type 0
ObjectStands None v now = now ≡ None
ObjectStands (Some h) v now = IsObject h v now

-- what a pin shows is what the object's last entry left
pub record ShowsLast (h version : ℕ) (es : List Entry) (p : Stand) : Type 0 where
  pub number : p.version ≡ version
  pub last : Entry
  pub is_last : last_in es h ≡ Some last
  pub held : last.freed ≡ false
  pub version_is : version ≡ last.version
  pub bytes : bytes_in p.words p.len ≡ bytes_in last.after last.len

module _ (lines : List Line) (lane : ℕ) where
  -- the pin of the record is this one of the scope, on an object that the lane made
  pub record PinStands (handle : List ℕ → Option ℕ) (es : List Entry) (n : NamedPin)
      (p : Stand) : Type 0
    where
      pub own : is_maker lines lane n.name ≡ true
      pub handle_is : handle n.name ≡ Some p.handle
      pub shows : ShowsLast p.handle n.version es p

  -- so each pin
  abbrev pub LanePinsStand : (List ℕ → Option ℕ) → List Entry → Scope → List Stand → Type 0
  LanePinsStand handle es [] [] = Unit {0}
  LanePinsStand handle es [] (p ∷ ps) = ⊥
  LanePinsStand handle es (n ∷ scope) [] = ⊥
  LanePinsStand handle es (n ∷ scope) (p ∷ ps) =
      PinStands handle es n p × LanePinsStand handle es scope ps

  -- what stands between two lines, where names have these handles
  pub record LaneStands (handle : List ℕ → Option ℕ) (state : LaneState) (v : View) : Type 0 where
    pub fresh : v.fresh ≡ []
    pub knows : (q : List ℕ) (h : ℕ) → handle q ≡ Some h → Knows h v
    pub apart : (p q : List ℕ) (h : ℕ) → is_maker lines lane p ≡ true → handle p ≡ Some h
        → handle q ≡ Some h → p ≡ q
    pub objects : (p : List ℕ) → is_maker lines lane p ≡ true
        → ObjectStands (handle p) v (now_named p state.objects)
    pub pins : LanePinsStand handle v.written state.scope v.pins

  -- ---- pins
  pub scope_long : (handle : List ℕ → Option ℕ) (es : List Entry) (scope : Scope) (ps : List Stand)
      → LanePinsStand handle es scope ps → length scope ≡ length ps
  scope_long handle es [] [] z = refl
  scope_long handle es [] (p ∷ ps) z = absurd z
  scope_long handle es (n ∷ scope) [] z = absurd z
  scope_long handle es (n ∷ scope) (p ∷ ps) z =
      let e = scope_long handle es scope ps z.1 in omega (arith, e)

  pub pins_map : (handle later : List ℕ → Option ℕ) (es new : List Entry) (scope : Scope)
      (ps : List Stand)
      → ((n : NamedPin) (p : Stand) → Has p ps → PinStands handle es n p → PinStands later new n p)
      → LanePinsStand handle es scope ps → LanePinsStand later new scope ps
  pins_map handle later es new [] [] f z = tt
  pins_map handle later es new [] (p ∷ ps) f z = absurd z
  pins_map handle later es new (n ∷ scope) [] f z = absurd z
  pins_map handle later es new (n ∷ scope) (p ∷ ps) f z = (
    f n p (inl refl) z.0,
    pins_map handle later es new scope ps (λ m q has. f m q (inr has)) z.1,
  )

  -- a pin on an object whose last entry stays
  pub pin_still : (handle later : List ℕ → Option ℕ) (es new : List Entry) (n : NamedPin)
      (p : Stand)
      → later n.name ≡ handle n.name → last_in new p.handle ≡ last_in es p.handle
      → PinStands handle es n p → PinStands later new n p
  pin_still handle later es new n p same still z = record {
    own = z.own;
    handle_is = same ∙ z.handle_is;
    shows = record {
      number = z.shows.number;
      last = z.shows.last;
      is_last = still ∙ z.shows.is_last;
      held = z.shows.held;
      version_is = z.shows.version_is;
      bytes = z.shows.bytes;
    };
  }

  module _ (handle : List ℕ → Option ℕ) (es : List Entry) (p : List ℕ) (h : ℕ)
      (at : handle p ≡ Some h)
      (apart : (q : List ℕ) → handle q ≡ Some h → p ≡ q) where
    -- a pin is on the name where it is on its object
    same_test : (n : NamedPin) (q : Stand) → PinStands handle es n q
        → ((bytes_eq n.name p ≡ true) × (q.handle ≡ h))
        ⊎ ((bytes_eq n.name p ≡ false) × (q.handle ≢ h))
    same_test n q z = by (cases_Bool (bytes_eq n.name p))
      where
        by : (bytes_eq n.name p ≡ true) ⊎ (bytes_eq n.name p ≡ false)
            → ((bytes_eq n.name p ≡ true) × (q.handle ≡ h))
            ⊎ ((bytes_eq n.name p ≡ false) × (q.handle ≢ h))
        by (inl is) = inl (
          is,
          same_Some q.handle h
              (sym z.handle_is ∙ ap handle ((bytes_eq-Decides n.name p).0 is) ∙ at),
        )
        by (inr is) = inr (
          is,
          λ same. true≢false (sym ((bytes_eq-Decides n.name p).1
              (sym (apart n.name (z.handle_is ∙ ap (λ (k : ℕ). Some k) same)))) ∙ is),
        )

    pub named_pins : (scope : Scope) (ps : List Stand) → LanePinsStand handle es scope ps
        → named_on p scope ≡ times (pins_it h) ps
    named_pins [] [] z = refl
    named_pins [] (q ∷ ps) z = absurd z
    named_pins (n ∷ scope) [] z = absurd z
    named_pins (n ∷ scope) (q ∷ ps) z =
        sum_by-cons (λ pin. if bytes_eq pin.name p then 1 else 0) n scope
        ∙ by (same_test n q z.0) (named_pins scope ps z.1)
      where
        by : ((bytes_eq n.name p ≡ true) × (q.handle ≡ h))
            ⊎ ((bytes_eq n.name p ≡ false) × (q.handle ≢ h))
            → named_on p scope ≡ times (pins_it h) ps
            → (if bytes_eq n.name p then 1 else 0) + named_on p scope ≡ times (pins_it h) (q ∷ ps)
        by (inl e) rest = (λ i. (if e.0 i then 1 else 0) + rest i)
            ∙ ap (λ (b : Bool). cond b 1 0 + times (pins_it h) ps) (sym (eq-eqb q.handle h e.1))
        by (inr e) rest = (λ i. (if e.0 i then 1 else 0) + rest i)
            ∙ ap (λ (b : Bool). cond b 1 0 + times (pins_it h) ps) (sym (ne_eqb q.handle h e.1))

    pub newest_none : (scope : Scope) (ps : List Stand) → LanePinsStand handle es scope ps
        → HasNoPin h ps
        → newest_on p scope ≡ None
    newest_none [] [] z none = refl
    newest_none [] (q ∷ ps) z none = absurd z
    newest_none (n ∷ scope) [] z none = absurd z
    newest_none (n ∷ scope) (q ∷ ps) z none =
        by (same_test n q z.0) (newest_none scope ps z.1 none.1)
      where
        by : ((bytes_eq n.name p ≡ true) × (q.handle ≡ h))
            ⊎ ((bytes_eq n.name p ≡ false) × (q.handle ≢ h))
            → newest_on p scope ≡ None → newest_on p (n ∷ scope) ≡ None
        by (inl e) rest = absurd (none.0 e.1)
        by (inr e) rest = ap (λ (b : Bool). if b then Some n.version else newest_on p scope) e.0
            ∙ rest

    -- the newest pin on the object is the newest one on the name
    pub newest_some : (scope : Scope) (ps : List Stand) (q : Stand)
        → LanePinsStand handle es scope ps
        → IsNewestPin h q ps → (newest_on p scope ≡ Some q.version) × ShowsLast h q.version es q
    newest_some scope [] q z is = absurd is
    newest_some [] (k ∷ ps) q z is = absurd z
    newest_some (n ∷ scope) (k ∷ ps) q z is =
        by (same_test n k z.0) is (λ y. newest_some scope ps q z.1 y)
      where
        first : k ≡ q → (bytes_eq n.name p ≡ true) × (k.handle ≡ h)
            → (newest_on p (n ∷ scope) ≡ Some q.version) × ShowsLast h q.version es q
        first same e = subst (λ (y : Stand). (newest_on p (n ∷ scope) ≡ Some y.version)
            × ShowsLast h y.version es y)
            same (
              ap (λ (b : Bool). if b then Some n.version else newest_on p scope) e.0
                  ∙ ap (λ (m : ℕ). Some m) (sym z.0.shows.number),
              record {
                number = refl;
                last = z.0.shows.last;
                is_last = ap (last_in es) (sym e.1) ∙ z.0.shows.is_last;
                held = z.0.shows.held;
                version_is = z.0.shows.number ∙ z.0.shows.version_is;
                bytes = z.0.shows.bytes;
              },
            )

        by : ((bytes_eq n.name p ≡ true) × (k.handle ≡ h))
            ⊎ ((bytes_eq n.name p ≡ false) × (k.handle ≢ h))
            → ((k.handle ≡ h) × (k ≡ q)) ⊎ ((k.handle ≢ h) × IsNewestPin h q ps)
            → (IsNewestPin h q ps → (newest_on p scope ≡ Some q.version)
            × ShowsLast h q.version es q)
            → (newest_on p (n ∷ scope) ≡ Some q.version) × ShowsLast h q.version es q
        by (inl e) (inl y) rest = first y.1 e
        by (inl e) (inr y) rest = absurd (y.0 e.1)
        by (inr e) (inl y) rest = absurd (e.1 y.0)
        by (inr e) (inr y) rest = let w = rest y.1 in
            (ap (λ (b : Bool). if b then Some n.version else newest_on p scope) e.0 ∙ w.0, w.1)

    -- where the newest one is given back, the others stand, and there was one
    pub given_back : (scope : Scope) (ps : List Stand) → LanePinsStand handle es scope ps
        → 0 < times (pins_it h) ps
        → ((version : ℕ) × (newest_on p scope ≡ Some version))
        × LanePinsStand handle es (without_newest p scope) (removed (pins_it h) ps)
    given_back [] [] z some_one = absurd (omega (arith, some_one))
    given_back [] (q ∷ ps) z some_one = absurd z
    given_back (n ∷ scope) [] z some_one = absurd z
    given_back (n ∷ scope) (q ∷ ps) z some_one =
        by (same_test n q z.0) (λ y. given_back scope ps z.1 y)
      where
        Goal : Bool → Bool → Type 0
        Goal a b = ((version : ℕ)
            × ((if a then Some n.version else newest_on p scope) ≡ Some version))
            × LanePinsStand handle es (if a then scope else n ∷ without_newest p scope)
            (cond b ps (q ∷ removed (pins_it h) ps))

        by : ((bytes_eq n.name p ≡ true) × (q.handle ≡ h))
            ⊎ ((bytes_eq n.name p ≡ false) × (q.handle ≢ h))
            → (0 < times (pins_it h) ps → ((version : ℕ) × (newest_on p scope ≡ Some version))
            × LanePinsStand handle es (without_newest p scope) (removed (pins_it h) ps))
            → Goal (bytes_eq n.name p) (eqb q.handle h)
        by (inl e) rest = subst (λ (a : Bool). Goal a (eqb q.handle h)) (sym e.0)
            (subst (Goal true) (sym (eq-eqb q.handle h e.1)) ((n.version, refl), z.1))
        by (inr e) rest = subst (λ (a : Bool). Goal a (eqb q.handle h)) (sym e.0)
            (subst (Goal false) (sym (ne_eqb q.handle h e.1))
            (let w = rest (let off : one_if (eqb q.handle h) ≡ 0 =
            ap one_if (ne_eqb q.handle h e.1) in omega (arith, some_one, off)) in
            (w.0, (z.0, w.1))))

  -- no pin is on an object that another lane made
  pub none_shared : (handle : List ℕ → Option ℕ) (es : List Entry) (s : List ℕ) (g : ℕ)
      → ((q : List ℕ) → is_maker lines lane q ≡ true → handle q ≡ Some g → ⊥)
      → (scope : Scope) (ps : List Stand) → LanePinsStand handle es scope ps
      → times (pins_it g) ps ≡ 0
  none_shared handle es s g off [] [] z = refl
  none_shared handle es s g off [] (q ∷ ps) z = absurd z
  none_shared handle es s g off (n ∷ scope) [] z = absurd z
  none_shared handle es s g off (n ∷ scope) (q ∷ ps) z =
      let rest = none_shared handle es s g off scope ps z.1 in
      let none : one_if (eqb q.handle g) ≡ 0 = ap one_if
      (ne_eqb q.handle g (λ same. off n.name z.0.own (z.0.handle_is ∙ ap (λ (k : ℕ). Some k) same)))
      in
      omega (arith, rest, none)

-- without a pin on the object none has its handle
pub none_on : (h : ℕ) (ps : List Stand) (p : Stand) → times (pins_it h) ps ≡ 0 → Has p ps
    → p.handle ≢ h
none_on h ps p none has same =
    absurd (let some_one = times_has (pins_it h) p ps has (eq-eqb p.handle h same) in
    omega (arith, none, some_one))
