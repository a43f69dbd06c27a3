-- A record has the entries of its own objects in order: versions rise in it, and each entry goes on
-- from one that the record has.
use Rattle.std.proofs.Common.{◌≡◌, ◌≢◌, ◌⊎◌, ℕ, zero, suc, ◌+◌, ◌<◌, ◌≤◌, List, [], ◌∷◌, ◌++◌}
use Rattle.std.proofs.Common.{Option, None, Some, inl, inr, sym, refl, ap, ◌∙◌, subst, append_assoc}
use Rattle.std.proofs.Common.{arith}
use Rattle.std.proofs.lemmas.Option.{same_Some}
use mathlib.Core.Option.{some, some-injective, some-ne-none}
use lib.ListN.{get_elem?}
use Rattle.cb_world.specs.declared.entry.Entry.{Entry}
use Rattle.cb_rule.specs.declared.view.View.{View}
use Rattle.cb_rule.specs.Lists.{Has}
use Rattle.cb_rule.specs.OwnStands.{WroteItself}
use Rattle.cb_rule.specs.Promised.{EntryGoesOn}
use Rattle.cb_record.proofs.Laws.{has_right}
use Rattle.cb_shared.specs.Recalls.{Recalls}
use Rattle.cb_lanes.specs.KeepsOwn.{AreEntriesInOrder, AreLong, AreRead, ComesBehind, KeepsOwn}
use Rattle.cb_lanes.specs.KeepsOwn.{last_in}
use Rattle.cb_lanes.proofs.OwnObjects.{handle_cases, last_has, last_hit, last_past, none_has}

-- versions of these objects rise
abbrev pub AreRising : (ℕ → Type 0) → List Entry → Type 0
AreRising mine [] = Unit {0}
AreRising mine (e ∷ es) =
    (mine e.handle → (x : Entry) → Has x es → x.handle ≡ e.handle → x.version < e.version)
    × AreRising mine es

-- what is told of the own objects of a record in which no turn runs
module _ (w : View) (told : Recalls 1 w) (calm : w.fresh ≡ []) where
  abbrev Mine : ℕ → Type 0
  Mine h = Has h w.own

  wrote : (e : Entry) → Has e w.written → WroteItself w e
  wrote e has = (w, (0, refl), has_right e w.fresh w.written has)

  of_it : (u : View) (j : ℕ) → get_elem? (w ∷ []) j ≡ some u → w ≡ u
  of_it u zero is = some-injective w u is
  of_it u (suc j) is = absurd (some-ne-none u (sym is))

  written_in : (e : Entry) → WroteItself w e → Has e w.written
  written_in e (u, (j, is), has) = subst (λ (l : List Entry). Has e (l ++ w.written)) calm
      (subst (λ (z : View). Has e (z.fresh ++ z.written)) (sym (of_it u j is)) has)

  read_own : AreRead Mine w.written w.seen
  read_own s has mine = let z = told.own.read s has mine in (z.0, written_in z.0 z.1, z.2)

  long_own : AreLong Mine w
  long_own l found mine full = let z = told.own.looked l found mine full in
      (z.0, written_in z.0 z.1, z.2, z.3, z.4)

  -- an entry that is older stands behind
  older_behind : (later es : List Entry) (e x : Entry) → AreRising Mine (later ++ e ∷ es)
      → Mine x.handle
      → e.handle ≡ x.handle → Has x (later ++ e ∷ es) → x.version < e.version → Has x es
  older_behind [] es e x rising mine same (inl is) less =
      absurd (let v : e.version ≡ x.version = ap (λ (z : Entry). z.version) is in omega
      (arith, v, less))
  older_behind [] es e x rising mine same (inr has) less = has
  older_behind (y ∷ later) es e x rising mine same (inl is) less = absurd (
      let at : y.handle ≡ x.handle = ap (λ (z : Entry). z.handle) is in
      let v : y.version ≡ x.version = ap (λ (z : Entry). z.version) is in
      let up = rising.0 (subst Mine (sym at) mine) e (has_right e later (e ∷ es) (inl refl))
      (same ∙ sym at) in
      omega (arith, v, up, less))
  older_behind (y ∷ later) es e x rising mine same (inr has) less =
      older_behind later es e x rising.1 mine same has less

  -- the last entry is the newest
  last_newest : (es : List Entry) (h : ℕ) (y x : Entry) → AreRising Mine es → Mine h
      → last_in es h ≡ Some y
      → Has x es → x.handle ≡ h → x.version ≤ y.version
  last_newest [] h y x rising mine is has same = absurd has
  last_newest (e ∷ es) h y x rising mine is has same =
      by (handle_cases e h) has (λ z was has_. last_newest es h z x rising.1 mine was has_ same)
    where
      by : (e.handle ≡ h) ⊎ (e.handle ≢ h) → (e ≡ x) ⊎ Has x es
          → ((z : Entry) → last_in es h ≡ Some z → Has x es → x.version ≤ z.version)
          → x.version ≤ y.version
      by (inl at) (inl one) rest = let v : x.version ≡ y.version = ap (λ (z : Entry). z.version)
          (sym one ∙ same_Some e y (sym (last_hit e es h at) ∙ is)) in omega (arith, v)
      by (inl at) (inr behind) rest =
          let less = rising.0 (subst Mine (sym at) mine) x behind (same ∙ sym at) in
          let v : e.version ≡ y.version = ap (λ (z : Entry). z.version)
          (same_Some e y (sym (last_hit e es h at) ∙ is)) in omega (arith, less, v)
      by (inr off) (inl one) rest = absurd (off (ap (λ (z : Entry). z.handle) one ∙ same))
      by (inr off) (inr behind) rest = rest y (sym (last_past e es h off) ∙ is) behind

  rising_front : (later es : List Entry) → AreRising Mine (later ++ es) → AreRising Mine es
  rising_front [] es rising = rising
  rising_front (e ∷ later) es rising = rising_front later es rising.1

  -- each entry comes behind the last one before it
  comes_behind : (later es : List Entry) (e : Entry) → w.written ≡ later ++ e ∷ es
      → AreRising Mine (later ++ e ∷ es) → Mine e.handle → ComesBehind (last_in es e.handle) e
  comes_behind later es e split rising mine =
      by (last_in es e.handle) refl (told.own.goes_on e (wrote e here) mine)
    where
      here : Has e w.written
      here = subst (Has e) (sym split) (has_right e later (e ∷ es) (inl refl))

      up : AreRising Mine (e ∷ es)
      up = rising_front later (e ∷ es) rising

      among : (y : Entry) → Has y es → Has y w.written
      among y has = subst (Has y) (sym split) (has_right y later (e ∷ es) (inr has))

      below : (x : Entry) → WroteItself w x → x.handle ≡ e.handle → x.version + 1 ≡ e.version
          → Has x es
      below x there same next = older_behind later es e x rising (subst Mine (sym same) mine)
          (sym same)
          (subst (Has x) split (written_in x there)) (omega (arith, next))

      by : (o : Option Entry) → last_in es e.handle ≡ o → EntryGoesOn 1 (w ∷ []) e → ComesBehind o e
      by None is (inl begins) = begins.0
      by None is (inr (x, its, same, next, past, there, long)) =
          absurd (none_has es e.handle x is (below x its same next) same)
      by (Some y) is (inl begins) = absurd (let z = last_has es e.handle y is in
          let less = up.0 mine y z.0 z.1 in
          let born = told.own.born y (wrote y (among y z.0)) in
          let one = begins.0 in omega (arith, less, born, one))
      by (Some y) is (inr (x, its, same, next, past, there, long)) =
          let z = last_has es e.handle y is in
          let less = up.0 mine y z.0 z.1 in
          let most = last_newest es e.handle y x up.1 mine is (below x its same next) same in
          let one : y ≡ x = told.own.same y x (wrote y (among y z.0)) its (z.1 ∙ sym same)
          (omega (arith, less, most, next)) in record {
            there = ap (λ (k : Entry). k.freed) one ∙ there;
            next = sym next ∙ ap (λ (k : Entry). k.version + 1) (sym one);
            past = sym past ∙ ap (λ (k : Entry). k.after) (sym one);
            same_len = λ held. long held ∙ ap (λ (k : Entry). k.len) (sym one);
          }

  order_own : (later es : List Entry) → w.written ≡ later ++ es → AreRising Mine (later ++ es)
      → AreEntriesInOrder Mine es
  order_own later [] split rising = tt
  order_own later (e ∷ es) split rising = (
    comes_behind later es e split rising,
    order_own (later ++ e ∷ []) es (split ∙ sym (append_assoc later (e ∷ []) es))
        (subst (AreRising Mine) (sym (append_assoc later (e ∷ []) es)) rising),
  )

  -- so the record keeps what it has of its own objects
  pub keeps_own : AreRising Mine w.written → KeepsOwn w
  keeps_own rising = record {
    order = order_own [] w.written refl rising;
    read = read_own;
    long = long_own;
    makes = told.makes;
  }
