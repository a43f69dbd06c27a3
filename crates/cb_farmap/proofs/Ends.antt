-- What each call on an array comes to, by what the call on its one object was answered.
use Rattle.std.proofs.Common.{◌≡◌, ◌≢◌, ℕ, ◌+◌, ◌-◌, ◌*◌, ◌/◌, ◌%◌, ◌^◌, ◌<◌, ◌≤◌, if◌then◌else◌, Bool, true, false, ne_eqb, eq-eqb, List, [], ◌∷◌, ◌++◌, length, take, Option, None, Some, Result, Ok, Err, IfOk, OnErr, refl, sym, ap, ◌∙◌, subst, arith}
use Rattle.std.proofs.lemmas.Bool.{eqb-false}
use Rattle.std.specs.List.{flat_map}
use Rattle.std.specs.Option.{option_or}
use Rattle.cb_types.specs.declared.config.Config.{Config}
use Rattle.cb_world.specs.declared.entry.Entry.{Entry}
use Rattle.cb_rule.specs.declared.view.View.{View}
use Rattle.cb_rule.specs.Lists.{Has}
use Rattle.cb_farmap.specs.declared.array.FarArray.{FarArray}
use Rattle.cb_farmap.specs.declared.kept.Cannot.{Cannot}
use Rattle.cb_farmap.specs.declared.kept.KeptObject.{KeptObject}
use Rattle.cb_farmap.specs.declared.kept.Stop.{Stop}
use Rattle.cb_farmap.specs.Arrays.{IsArrayOf, IsGot, IsPopped, IsPushed, IsSet, Keeps, PutsNumber, Stays, WritesNumber, but_last, bytes_with, get_plan, is_full, list_of, make_plan, pop_plan, push_plan, set_plan, told_so, with_written}
use Rattle.cb_farmap.specs.Calls.{Answers, Ask, Goes, trouble}
use Rattle.cb_farmap.specs.Changes.{AreLoose, AreSole, GoesOn, IsCalm, IsLoose, IsSole}
use Rattle.cb_farmap.specs.Numbers.{number_at}
use Rattle.cb_farmap.specs.Objects.{blank, bytes_at, numbers_at, object_at}
use Rattle.cb_farmap.specs.Stops.{cannot_of, stop_behind, stop_of}
use Rattle.cb_farmap.proofs.Arrays.{array_on, array_popped, array_pushed, array_set, last_popped, list_on, list_popped, list_set, none_last, number_in, place_in}
use Rattle.cb_farmap.proofs.Behind.{goes_on, make_off, on_same, reads_same, soles_more, soles_same, soles_set, write_off}
use Rattle.cb_farmap.proofs.Lists.{all_at}

-- ---- an answer that is given for good: no call is made, and nothing changes
module _ (c : Config) (first : ℕ) (plan : List Ask) (v w : View) (a : FarArray)
    (of : IsArrayOf v a) (s : Stop) (stopped : a.stop ≡ Some s) (same : w ≡ v) (t : Option Cannot)
    (again : t ≡ Some (cannot_of s)) where
  stays_stopped : told_so a t ≡ a
  stays_stopped = ap (λ (o : Option Stop). let z : FarArray = record a { stop = o } in z)
      (ap (stop_behind a.stop) again ∙ ap (λ (o : Option Stop). stop_behind o (Some (cannot_of s))) stopped
      ∙ sym stopped)

  pub keeps_again : Keeps c first plan t v a w a
  keeps_again = record {
    array = array_on v w a of (on_same v w same) a.stop;
    calls = subst (λ (o : Option Stop). Answers c first o plan t v w) (sym stopped) (again, same);
    on = on_same v w same;
    calm = λ x. absurd (none_some s (sym x.going ∙ stopped));
  }
    where
      none_some : (s : Stop) → None ≡ Some s → ⊥
      none_some s e = cc

  pub stays_again : Stays t v a w a
  stays_again = record {
    list = list_on v w a of (on_same v w same) a.stop;
    left = sym stays_stopped;
  }

-- ---- what was told and what is noted of it
pub noted_so : {X : Type 0} (before : Option Stop) (P : Result X Cannot → Option Stop → Type 0)
    (r q : Result X Cannot) → q ≡ r → (s : Option Stop) → s ≡ stop_behind before (trouble r)
    → P r (stop_behind before (trouble r)) → P q s
noted_so {X = X} before P r q same s is it = subst (λ (z : Result X Cannot). P z s) (sym same)
    (subst (P r) (sym is) it)

pub stop_is : (before : Option Stop) (e : Cannot) (s : Option Stop) → before ≡ None → s ≡ stop_of e
    → s ≡ stop_behind before (Some e)
stop_is before e s going is = is ∙ sym (ap (λ (o : Option Stop). option_or o (stop_of e)) going)

-- where not all objects are full, one has room
room_in : (ks : List KeptObject) (len : ℕ) → is_full ks len ≡ false → len ≤ 128 * length ks
    → len / 128 < length ks
room_in ks len is within = let ne = eqb-false len (128 * length ks) is in
    let less : len < 128 * length ks = omega (arith, within, ne) in omega (arith, less)

-- ---- else the call on one object was answered so
module _ (c : Config) (first : ℕ) (v w : View) (a : FarArray) (of : IsArrayOf v a)
    (going : a.stop ≡ None) where
  answers : (plan : List Ask) (t : Option Cannot) → Goes c first plan t v w
      → Answers c first a.stop plan t v w
  answers plan t goes = subst (λ (o : Option Stop). Answers c first o plan t v w) (sym going) goes

  -- ---- a read of the object of a number
  module _ (i : ℕ) (within : i < a.len) where
    abbrev k : KeptObject
    k = object_at a.kept (i / 128)

    on_read : (t : Option Cannot) → Goes c first (get_plan a.kept i) t v w → GoesOn v w
    on_read t goes = goes_on c first (get_plan a.kept i) t v w goes

    keeps_read : (t : Option Cannot) → Goes c first (get_plan a.kept i) t v w
        → (IsSole v k → IsLoose v k → IsCalm t) → (b : FarArray) → IsArrayOf w b → b.kept ≡ a.kept
        → (plan : List Ask) → plan ≡ get_plan a.kept i → Keeps c first plan t v a w b
    keeps_read t goes calm b array kept plan is = record {
      array = array;
      calls = subst (λ (p : List Ask). Answers c first a.stop p t v w) (sym is)
          (answers (get_plan a.kept i) t goes);
      on = on_read t goes;
      calm = λ x. (
        calm (all_at (IsSole v) a.kept (i / 128) blank x.sole (place_in v w a of i within))
            (all_at (IsLoose v) a.kept (i / 128) blank x.loose (place_in v w a of i within)),
        subst (AreSole w) (sym kept) (soles_same v w a.kept (reads_same c first k t v w goes)
            (on_read t goes).share x.sole),
      );
    }

    -- get
    pub get_ok : (r : Result ℕ Cannot) → Goes c first (get_plan a.kept i) (trouble r) v w
        → IfOk r (λ x. x ≡ number_at (bytes_at v.written k) (i % 128))
        → IfOk r (λ x. IsGot i x v a w (told_so a (trouble r)))
    get_ok (Ok x) goes is = record {
      number = number_in v w a of i within x is;
      list = list_on v w a of (on_read None goes) a.stop;
      left = refl;
    }
    get_ok (Err e) goes is = tt

    pub get_stays : (r : Result ℕ Cannot) → Goes c first (get_plan a.kept i) (trouble r) v w
        → OnErr r (Stays (trouble r) v a w (told_so a (trouble r)))
    get_stays (Ok x) goes = tt
    get_stays (Err e) goes = record {
      list = list_on v w a of (on_read (Some e) goes) (stop_behind a.stop (Some e));
      left = refl;
    }

    pub get_keeps : (t : Option Cannot) → Goes c first (get_plan a.kept i) t v w
        → (IsSole v k → IsLoose v k → IsCalm t)
        → Keeps c first (get_plan a.kept i) t v a w (told_so a t)
    get_keeps t goes calm = keeps_read t goes calm (told_so a t)
        (array_on v w a of (on_read t goes) (stop_behind a.stop t)) refl (get_plan a.kept i) refl

  -- ---- a write
  module _ (i x : ℕ) (within : i < a.len) (small : x < 2 ^ 64) (later : List KeptObject) where
    on_write : (t : Option Cannot) → Goes c first (set_plan a.kept i x) t v w → GoesOn v w
    on_write t goes = goes_on c first (set_plan a.kept i x) t v w goes

    abbrev set_to : Option Cannot → FarArray
    set_to t = record a { kept = later; stop = stop_behind a.stop t }

    pub set_ok : (r : Result (Unit {0}) Cannot) → Goes c first (set_plan a.kept i x) (trouble r) v w
        → IfOk r (λ _. WritesNumber a.kept i x later v w)
        → IfOk r (λ _. IsSet i x v a w (set_to (trouble r)))
    set_ok (Ok u) goes wrote = record {
      list = list_set v w a of (on_write None goes) i x (place_in v w a of i within) small later wrote;
      left = ap (λ (l : List KeptObject). let z : FarArray = record a { kept = l } in z) wrote.kept;
    }
    set_ok (Err e) goes wrote = tt

    pub set_stays : (r : Result (Unit {0}) Cannot)
        → Goes c first (set_plan a.kept i x) (trouble r) v w → OnErr r (later ≡ a.kept)
        → OnErr r (Stays (trouble r) v a w (set_to (trouble r)))
    set_stays (Ok u) goes same = tt
    set_stays (Err e) goes same = subst (λ (l : List KeptObject). Stays (Some e) v a w
        (record a { kept = l; stop = stop_behind a.stop (Some e) })) (sym same) (record {
          list = list_on v w a of (on_write (Some e) goes) (stop_behind a.stop (Some e));
          left = refl;
        })

    sole_write : (r : Result (Unit {0}) Cannot)
        → Goes c first (set_plan a.kept i x) (trouble r) v w
        → IfOk r (λ _. WritesNumber a.kept i x later v w) → OnErr r (later ≡ a.kept)
        → IsCalm (trouble r) → AreSole v a.kept → AreSole w later
    sole_write (Ok u) goes wrote same calm sole = subst (AreSole w) (sym wrote.kept)
        (soles_set v w wrote.wrote.entry a.kept (i / 128) wrote.wrote.front (on_write None goes).share
        (place_in v w a of i within) wrote.wrote.handle wrote.wrote.version of.apart sole)
    sole_write (Err e) goes wrote same calm sole = subst (AreSole w) (sym same)
        (soles_same v w a.kept (write_off c first (object_at a.kept (i / 128)) (8 * (i % 128)) _ e v w
        goes calm) (on_write (Some e) goes).share sole)

    array_write : (r : Result (Unit {0}) Cannot)
        → Goes c first (set_plan a.kept i x) (trouble r) v w
        → IfOk r (λ _. WritesNumber a.kept i x later v w) → OnErr r (later ≡ a.kept)
        → IsArrayOf w (set_to (trouble r))
    array_write (Ok u) goes wrote same =
        array_set v w a of (on_write None goes) i x (place_in v w a of i within) small later wrote
    array_write (Err e) goes wrote same = subst (λ (l : List KeptObject).
        IsArrayOf w (record a { kept = l; stop = stop_behind a.stop (Some e) })) (sym same)
        (array_on v w a of (on_write (Some e) goes) (stop_behind a.stop (Some e)))

    pub set_keeps : (r : Result (Unit {0}) Cannot)
        → Goes c first (set_plan a.kept i x) (trouble r) v w
        → IfOk r (λ _. WritesNumber a.kept i x later v w) → OnErr r (later ≡ a.kept)
        → (IsSole v (object_at a.kept (i / 128)) → IsLoose v (object_at a.kept (i / 128))
        → IsCalm (trouble r))
        → Keeps c first (set_plan a.kept i x) (trouble r) v a w (set_to (trouble r))
    set_keeps r goes wrote same calm = record {
      array = array_write r goes wrote same;
      calls = answers (set_plan a.kept i x) (trouble r) goes;
      on = on_write (trouble r) goes;
      calm = λ z. let quiet = calm (all_at (IsSole v) a.kept (i / 128) blank z.sole (place_in v w a of i within))
          (all_at (IsLoose v) a.kept (i / 128) blank z.loose (place_in v w a of i within)) in
          (quiet, sole_write r goes wrote same quiet z.sole);
    }

  -- ---- a number more
  module _ (x : ℕ) (small : x < 2 ^ 64) (later : List KeptObject) where
    abbrev plan : List Ask
    plan = push_plan a.kept a.len x

    abbrev puts : Type 0
    puts = PutsNumber (is_full a.kept a.len) a.kept a.len x later v w

    on_push : (t : Option Cannot) → Goes c first plan t v w → GoesOn v w
    on_push t goes = goes_on c first plan t v w goes

    more_room : (full : Bool) → PutsNumber full a.kept a.len x later v w → full ≡ false
        → later ≡ with_written a.kept a.len
    more_room true put is = absurd (let z : true ≡ false = is in cc)
    more_room false put is = put.kept

    more_full : (full : Bool) → PutsNumber full a.kept a.len x later v w → full ≡ true
        → (k : KeptObject) × (later ≡ a.kept ++ k ∷ [])
        × ((e : Entry) → Has e v.written → e.handle ≢ k.handle.n)
    more_full true put is = (put.made, put.more, put.fresh)
    more_full false put is = absurd (let z : false ≡ true = is in cc)

    -- pushed where it is answered so, and else as it was
    abbrev push_to : Option Cannot → FarArray
    push_to None = record { kept = later; len = a.len + 1; stop = a.stop }
    push_to (Some e) = record { kept = later; len = a.len; stop = stop_behind a.stop (Some e) }

    pub push_ok : (r : Result (Unit {0}) Cannot) → Goes c first plan (trouble r) v w
        → IfOk r (λ _. puts) → IfOk r (λ _. IsPushed x v a w (push_to (trouble r)))
    push_ok (Ok u) goes put = record {
      list = (array_pushed v w a of (on_push None goes) x small later put).1;
      len = refl;
      stop = refl;
      room = more_room (is_full a.kept a.len) put;
      full = more_full (is_full a.kept a.len) put;
    }
    push_ok (Err e) goes put = tt

    pub push_stays : (r : Result (Unit {0}) Cannot) → Goes c first plan (trouble r) v w
        → OnErr r (later ≡ a.kept) → OnErr r (Stays (trouble r) v a w (push_to (trouble r)))
    push_stays (Ok u) goes same = tt
    push_stays (Err e) goes same = subst (λ (l : List KeptObject). Stays (Some e) v a w
        (record { kept = l; len = a.len; stop = stop_behind a.stop (Some e) })) (sym same) (record {
          list = list_on v w a of (on_push (Some e) goes) (stop_behind a.stop (Some e));
          left = refl;
        })

    array_push : (r : Result (Unit {0}) Cannot) → Goes c first plan (trouble r) v w
        → IfOk r (λ _. puts) → OnErr r (later ≡ a.kept) → IsArrayOf w (push_to (trouble r))
    array_push (Ok u) goes put same = (array_pushed v w a of (on_push None goes) x small later put).0
    array_push (Err e) goes put same = subst (λ (l : List KeptObject).
        IsArrayOf w (record { kept = l; len = a.len; stop = stop_behind a.stop (Some e) })) (sym same)
        (array_on v w a of (on_push (Some e) goes) (stop_behind a.stop (Some e)))

    sole_put : (full : Bool) → is_full a.kept a.len ≡ full
        → PutsNumber full a.kept a.len x later v w → GoesOn v w → v.share ≡ 64 → AreSole v a.kept
        → AreSole w later
    sole_put true is put on whole sole = subst (AreSole w) (sym put.more)
        (soles_more v w put.entry a.kept put.made put.front on.share whole put.handle put.version
        put.fresh of.objects sole)
    sole_put false is put on whole sole = subst (AreSole w) (sym put.kept)
        (soles_set v w put.wrote.entry a.kept (a.len / 128) put.wrote.front on.share
        (room_in a.kept a.len is of.within) put.wrote.handle put.wrote.version of.apart sole)

    off_put : (full : Bool) → is_full a.kept a.len ≡ full → (e : Cannot)
        → Goes c first (if full then make_plan x else set_plan a.kept a.len x) (Some e) v w
        → IsCalm (Some e) → w.written ≡ v.written
    off_put true is e goes calm = make_off c first (bytes_with x) e v w goes
    off_put false is e goes calm = write_off c first (object_at a.kept (a.len / 128))
        (8 * (a.len % 128)) _ e v w goes calm

    abbrev quiet_put : Option Cannot → Type 0
    quiet_put t = AreSole v a.kept → AreLoose v a.kept → IsCalm t

    sole_push : (r : Result (Unit {0}) Cannot) → Goes c first plan (trouble r) v w
        → IfOk r (λ _. puts) → OnErr r (later ≡ a.kept) → IsCalm (trouble r) → v.share ≡ 64
        → AreSole v a.kept → AreSole w later
    sole_push (Ok u) goes put same calm whole sole =
        sole_put (is_full a.kept a.len) refl put (on_push None goes) whole sole
    sole_push (Err e) goes put same calm whole sole = subst (AreSole w) (sym same)
        (soles_same v w a.kept (off_put (is_full a.kept a.len) refl e goes calm)
        (on_push (Some e) goes).share sole)

    pub push_keeps : (r : Result (Unit {0}) Cannot) → Goes c first plan (trouble r) v w
        → IfOk r (λ _. puts) → OnErr r (later ≡ a.kept) → quiet_put (trouble r)
        → Keeps c first plan (trouble r) v a w (push_to (trouble r))
    push_keeps r goes put same calm = record {
      array = array_push r goes put same;
      calls = answers plan (trouble r) goes;
      on = on_push (trouble r) goes;
      calm = λ z. let quiet = calm z.sole z.loose in
          (quiet, kept_is (trouble r) (sole_push r goes put same quiet z.whole z.sole));
    }
      where
        kept_is : (t : Option Cannot) → AreSole w later → AreSole w (push_to t).kept
        kept_is None sole = sole
        kept_is (Some e) sole = sole

  -- ---- the last number
  module _ (some : 0 < a.len) where
    place : a.len - 1 < a.len
    place = omega (arith, some)

    abbrev pop_to : Option Cannot → FarArray
    pop_to None = record { kept = a.kept; len = a.len - 1; stop = a.stop }
    pop_to (Some e) = record { kept = a.kept; len = a.len; stop = stop_behind a.stop (Some e) }

    on_pop : (t : Option Cannot) → Goes c first (get_plan a.kept (a.len - 1)) t v w → GoesOn v w
    on_pop t goes = goes_on c first (get_plan a.kept (a.len - 1)) t v w goes

    pub pop_ok : (r : Result ℕ Cannot)
        → Goes c first (get_plan a.kept (a.len - 1)) (trouble r) v w
        → IfOk r (λ x. x ≡ number_at (bytes_at v.written (object_at a.kept ((a.len - 1) / 128)))
        ((a.len - 1) % 128))
        → IfOk r (λ x. IsPopped (Some x) v a w (pop_to (trouble r)))
    pop_ok (Ok x) goes is = record {
      number = last_popped v w a of (on_pop None goes) some x (number_in v w a of (a.len - 1) place x is);
      list = list_popped v w a of (on_pop None goes);
      left = refl;
    }
    pop_ok (Err e) goes is = tt

    pub pop_stays : (r : Result ℕ Cannot)
        → Goes c first (get_plan a.kept (a.len - 1)) (trouble r) v w
        → OnErr r (Stays (trouble r) v a w (pop_to (trouble r)))
    pop_stays (Ok x) goes = tt
    pop_stays (Err e) goes = record {
      list = list_on v w a of (on_pop (Some e) goes) (stop_behind a.stop (Some e));
      left = refl;
    }

    array_pop : (t : Option Cannot) → GoesOn v w → IsArrayOf w (pop_to t)
    array_pop None on = array_popped v w a of on
    array_pop (Some e) on = array_on v w a of on (stop_behind a.stop (Some e))

    plan_some : pop_plan a.kept a.len ≡ get_plan a.kept (a.len - 1)
    plan_some = ap (λ (b : Bool). if b then [] else get_plan a.kept (a.len - 1))
        (ne_eqb a.len 0 (λ e. absurd (omega (arith, some, e))))

    pub pop_keeps : (t : Option Cannot) → Goes c first (get_plan a.kept (a.len - 1)) t v w
        → (IsSole v (object_at a.kept ((a.len - 1) / 128))
        → IsLoose v (object_at a.kept ((a.len - 1) / 128)) → IsCalm t)
        → Keeps c first (pop_plan a.kept a.len) t v a w (pop_to t)
    pop_keeps t goes calm = keeps_read (a.len - 1) place t goes calm (pop_to t)
        (array_pop t (on_pop t goes)) (kept_same t) (pop_plan a.kept a.len) plan_some
      where
        kept_same : (t : Option Cannot) → (pop_to t).kept ≡ a.kept
        kept_same None = refl
        kept_same (Some e) = refl

  -- ---- of an empty list
  module _ (none : a.len ≡ 0) (same : w ≡ v) where
    plan_none : pop_plan a.kept a.len ≡ []
    plan_none = ap (λ (b : Bool). if b then [] else get_plan a.kept (a.len - 1)) (eq-eqb a.len 0 none)

    pub empty_keeps : Keeps c first (pop_plan a.kept a.len) None v a w a
    empty_keeps = record {
      array = array_on v w a of (on_same v w same) a.stop;
      calls = subst (λ (p : List Ask). Answers c first a.stop p None v w) (sym plan_none)
          (answers [] None same);
      on = on_same v w same;
      calm = λ x. (
        tt,
        soles_same v w a.kept (ap (λ (z : View). z.written) same)
            (ap (λ (z : View). z.share) same) x.sole,
      );
    }

    pub empty_ok : IsPopped None v a w a
    empty_ok = record {
      number = none_last v a none;
      list = list_on v w a of (on_same v w same) a.stop ∙ sym (short (list_of v a) gone);
      left = ap (λ (n : ℕ). let z : FarArray = record a { len = n } in z)
          (let e : a.len ≡ a.len - 1 = omega (arith, none) in e);
    }
      where
        gone : list_of v a ≡ []
        gone = ap (λ (n : ℕ). take n (flat_map (numbers_at v.written) a.kept)) none
            ∙ nothing (flat_map (numbers_at v.written) a.kept)
          where
            nothing : (xs : List ℕ) → take 0 xs ≡ []
            nothing [] = refl
            nothing (x ∷ xs) = refl

        short : (xs : List ℕ) → xs ≡ [] → but_last xs ≡ xs
        short xs is = ap but_last is ∙ sym is
