-- What calls leave of a record, and of the objects that it has: more entries in front, and nothing
-- else that an array or a map stands on.
use Rattle.std.proofs.Common.{◌≡◌, ◌≢◌, ℕ, zero, suc, ◌+◌, ◌<◌, ◌≤◌, false, true≢false, eqb, eq-eqb, ne_eqb, List, [], ◌∷◌, ◌++◌, length, map, slice_set, Option, None, Some, refl, sym, ap, ◌∙◌, subst, inl, inr, append_assoc, arith}
use Rattle.std.proofs.Math.Seq.{map-set_same}
use Rattle.std.specs.List.{AllByRecursion, IsDistinct}
use Rattle.cb_types.specs.declared.config.Config.{Config}
use Rattle.cb_types.specs.declared.job.Job.{Job}
use Rattle.cb_types.specs.declared.reply.Reply.{Reply}
use Rattle.cb_world.specs.declared.entry.Entry.{Entry}
use Rattle.cb_rule.specs.declared.view.View.{View}
use Rattle.cb_rule.specs.Lists.{Has}
use Rattle.cb_record.specs.Parts.{Part, grown}
use Rattle.cb_shared.specs.Calls.{StopsBy}
use Rattle.cb_shared.proofs.Laws.{stops_idle}
use Rattle.cb_farmap.specs.declared.kept.Cannot.{Cannot}
use Rattle.cb_farmap.specs.declared.kept.Cannot.TheVariants as cannot
use Rattle.cb_farmap.specs.declared.kept.KeptObject.{KeptObject}
use Rattle.cb_farmap.specs.Calls.{Ask, AskMake, AskRead, AskWrite, CallGives, CallStops, Fails, Goes}
use Rattle.cb_farmap.specs.Changes.{AreSole, GoesOn, IsBehind, IsCalm, IsSole, with_next}
use Rattle.cb_farmap.specs.Objects.{AreApart, IsLast, IsObject, blank, object_at}
use Rattle.cb_farmap.proofs.Adds.{read_written, vain_written, write_same}
use Rattle.cb_farmap.proofs.Making.{make_same}
use Rattle.cb_farmap.proofs.Objects.{found_there, object_behind}

-- ---- the record goes on
on_grown : (v w : View) (d : Part) → w ≡ grown d v → GoesOn v w
on_grown v w d is = record {
  behind = (d.written, ap (λ (z : View). z.written) is);
  pins = ap (λ (z : View). z.pins) is;
  share = ap (λ (z : View). z.share) is;
}

pub on_same : (v w : View) → w ≡ v → GoesOn v w
on_same v w is = record {
  behind = ([], ap (λ (z : View). z.written) is);
  pins = ap (λ (z : View). z.pins) is;
  share = ap (λ (z : View). z.share) is;
}

pub on_then : (v u w : View) → GoesOn v u → GoesOn u w → GoesOn v w
on_then v u w a b = record {
  behind = (
    b.behind.0 ++ a.behind.0,
    b.behind.1
        ∙ ap (λ (l : List Entry). b.behind.0 ++ l) a.behind.1
        ∙ sym (append_assoc b.behind.0 a.behind.0 v.written),
  );
  pins = b.pins ∙ a.pins;
  share = b.share ∙ a.share;
}

call_on : (c : Config) (first : ℕ) (ask : Ask) (r : Reply) (v w : View)
    → CallGives c first ask r v w → GoesOn v w
call_on c first (AskRead k) r v w ((d, x, is), order) = on_grown v w d is
call_on c first (AskWrite k at bytes) r v w ((d, x, is), order) = on_grown v w d is
call_on c first (AskMake bytes) r v w x = let g = x.0 in record {
  behind = (g.0.written, ap (λ (z : View). z.written) g.2);
  pins = ap (λ (z : View). z.pins) g.2;
  share = ap (λ (z : View). z.share) g.2;
}

stop_same : (c : Config) (on : ℕ → Type 0) (may : Job → Type 0) (v w : View)
    → StopsBy c on may v w → w.written ≡ v.written
stop_same c on may v w x = let idle = stops_idle c on may v w x in
    ap (λ (z : View). z.written) idle.2
    ∙ ap (λ (l : List Entry). l ++ v.written)
    (vain_written (λ h. Unit {0}) (λ t. Unit {0}) idle.0 idle.1)

stop_on : (c : Config) (on : ℕ → Type 0) (may : Job → Type 0) (v w : View)
    → StopsBy c on may v w → GoesOn v w
stop_on c on may v w x =
    let idle = stops_idle c on may v w x in on_grown v w idle.0 idle.2

stops_on : (c : Config) (ask : Ask) (v w : View) → CallStops c ask v w → GoesOn v w
stops_on c (AskRead k) v w x = stop_on c _ _ v w x.0
stops_on c (AskWrite k at bytes) v w x = stop_on c _ _ v w x.0
stops_on c (AskMake bytes) v w x = stop_on c _ _ v w x

stops_same : (c : Config) (ask : Ask) (v w : View) → CallStops c ask v w → w.written ≡ v.written
stops_same c (AskRead k) v w x = stop_same c _ _ v w x.0
stops_same c (AskWrite k at bytes) v w x = stop_same c _ _ v w x.0
stops_same c (AskMake bytes) v w x = stop_same c _ _ v w x

fails_on : (c : Config) (first : ℕ) (ask : Ask) (e : Cannot) (v w : View)
    → Fails c first ask e v w → GoesOn v w
fails_on c first ask cannot.NoMemory v w x = stops_on c ask v w x
fails_on c first ask (cannot.Refused reply) v w x = call_on c first ask reply v w x.1
fails_on c first ask (cannot.Foreign handle kept found) v w (of, (r, odd, gives)) =
    call_on c first ask r v w gives

pub goes_on : (c : Config) (first : ℕ) (plan : List Ask) (t : Option Cannot) (v w : View)
    → Goes c first plan t v w → GoesOn v w
goes_on c first [] None v w is = on_same v w is
goes_on c first [] (Some e) v w x = absurd x
goes_on c first (ask ∷ plan) None v w (u, (r, is, gives), rest) = on_then v u w
    (call_on c first ask r v u gives) (goes_on c first plan None u w rest)
goes_on c first (ask ∷ plan) (Some e) v w (inl x) = fails_on c first ask e v w x
goes_on c first (ask ∷ plan) (Some e) v w (inr (u, (r, is, gives), rest)) = on_then v u w
    (call_on c first ask r v u gives) (goes_on c first plan (Some e) u w rest)

-- ---- what writes nothing
-- a read, whatever it is told
pub reads_same : (c : Config) (first : ℕ) (k : KeptObject) (t : Option Cannot) (v w : View)
    → Goes c first (AskRead k ∷ []) t v w → w.written ≡ v.written
reads_same c first k None v w (u, (r, is, gives), rest) =
    ap (λ (z : View). z.written) rest ∙ read_written c k.handle.n r v u gives.0
reads_same c first k (Some cannot.NoMemory) v w (inl x) = stops_same c (AskRead k) v w x
reads_same c first k (Some (cannot.Refused reply)) v w (inl x) =
    read_written c k.handle.n reply v w x.1.0
reads_same c first k (Some (cannot.Foreign handle kept found)) v w (inl (of, (r, odd, gives))) =
    read_written c k.handle.n r v w gives.0
reads_same c first k (Some e) v w (inr (u, it, rest)) = absurd rest

-- a write that is told no version
pub write_off : (c : Config) (first : ℕ) (k : KeptObject) (at : ℕ) (bytes : List ℕ) (e : Cannot)
    (v w : View) → Goes c first (AskWrite k at bytes ∷ []) (Some e) v w → IsCalm (Some e)
    → w.written ≡ v.written
write_off c first k at bytes cannot.NoMemory v w (inl x) calm =
    stops_same c (AskWrite k at bytes) v w x
write_off c first k at bytes (cannot.Refused reply) v w (inl x) calm =
    write_same c k.handle.n at bytes reply v w x.0 x.1.0
write_off c first k at bytes (cannot.Foreign handle kept found) v w x calm = absurd calm
write_off c first k at bytes e v w (inr (u, it, rest)) calm = absurd rest

-- a make that is not told Made
pub make_off : (c : Config) (first : ℕ) (bytes : List ℕ) (e : Cannot) (v w : View)
    → Goes c first (AskMake bytes ∷ []) (Some e) v w → w.written ≡ v.written
make_off c first bytes cannot.NoMemory v w (inl x) = stops_same c (AskMake bytes) v w x
make_off c first bytes (cannot.Refused reply) v w (inl x) =
    make_same c bytes reply v w x.0 x.1.0
make_off c first bytes (cannot.Foreign handle kept found) v w (inl x) = absurd x.0
make_off c first bytes e v w (inr (u, it, rest)) = absurd rest

-- ---- objects of a record that goes on
pub objects_behind : (v w : View) (ks : List KeptObject) → IsBehind v.written w.written
    → AllByRecursion (IsObject v.written) ks → AllByRecursion (IsObject w.written) ks
objects_behind v w [] on all = tt
objects_behind v w (k ∷ ks) on all = (
  subst (λ (es : List Entry). IsObject es k) (sym on.1) (object_behind on.0 v.written k all.0),
  objects_behind v w ks on all.1,
)

-- ---- objects apart
pub apart_set : (ks : List KeptObject) (o : ℕ) (y : KeptObject)
    → y.handle.n ≡ (object_at ks o).handle.n → AreApart ks → AreApart (slice_set ks o y)
apart_set ks o y same apart = subst (IsDistinct eqb)
    (sym (map-set_same (λ (k : KeptObject). k.handle.n) ks o y blank same)) apart

-- ---- objects that nobody else has
pub sole_front : (v w : View) (e : Entry) (k : KeptObject) → w.written ≡ e ∷ v.written
    → w.share ≡ v.share → (e.handle ≡ k.handle.n → e.version ≤ k.version) → IsSole v k → IsSole w k
sole_front v w e k is share low sole = record {
  whole = share ∙ sole.whole;
  last = subst (λ (es : List Entry). IsLast es k) (sym is) (low, sole.last);
}

pub soles_same : (v w : View) (ks : List KeptObject) → w.written ≡ v.written → w.share ≡ v.share
    → AreSole v ks → AreSole w ks
soles_same v w [] is share all = tt
soles_same v w (k ∷ ks) is share all = (
  record {
    whole = share ∙ all.0.whole;
    last = subst (λ (es : List Entry). IsLast es k) (sym is) all.0.last;
  },
  soles_same v w ks is share all.1,
)

later_last : (es : List Entry) (k : KeptObject) → IsLast es k → IsLast es (with_next k)
later_last [] k all = tt
later_last (e ∷ es) k all =
    (λ of. let low = all.0 of in omega (arith, low), later_last es k all.1)

-- one of them was written
module _ (v w : View) (e : Entry) (k : KeptObject) (is : w.written ≡ e ∷ v.written)
    (share : w.share ≡ v.share) (of : e.handle ≡ k.handle.n) (at : e.version ≡ k.version + 1) where
  sole_next : IsSole v k → IsSole w (with_next k)
  sole_next sole = record {
    whole = share ∙ sole.whole;
    last = subst (λ (es : List Entry). IsLast es (with_next k)) (sym is)
        (λ _. omega (arith, at), later_last v.written k sole.last);
  }

  sole_other : (x : KeptObject) → eqb x.handle.n k.handle.n ≡ false → IsSole v x → IsSole w x
  sole_other x off sole = sole_front v w e x is share (λ same. absurd
      (true≢false (sym (eq-eqb x.handle.n k.handle.n (sym same ∙ of)) ∙ off))) sole

  soles_other : (ks : List KeptObject)
      → AllByRecursion (λ (n : ℕ). eqb k.handle.n n ≡ false)
      (map (λ (x : KeptObject). x.handle.n) ks) → AreSole v ks → AreSole w ks
  soles_other [] off all = tt
  soles_other (x ∷ ks) off all = (
    sole_front v w e x is share (λ same. absurd
        (true≢false (sym (eq-eqb k.handle.n x.handle.n (sym of ∙ same)) ∙ off.0))) all.0,
    soles_other ks off.1 all.1,
  )

other_at : (n : ℕ) (ks : List KeptObject) (o : ℕ) → o < length ks
    → AllByRecursion (λ (m : ℕ). eqb n m ≡ false) (map (λ (x : KeptObject). x.handle.n) ks)
    → eqb n (object_at ks o).handle.n ≡ false
other_at n [] o within off = absurd (omega (arith, within))
other_at n (k ∷ ks) zero within off = off.0
other_at n (k ∷ ks) (suc o) within off = other_at n ks o (omega (arith, within)) off.1

pub soles_set : (v w : View) (e : Entry) (ks : List KeptObject) (o : ℕ)
    → w.written ≡ e ∷ v.written → w.share ≡ v.share → o < length ks
    → e.handle ≡ (object_at ks o).handle.n → e.version ≡ (object_at ks o).version + 1
    → AreApart ks → AreSole v ks → AreSole w (slice_set ks o (with_next (object_at ks o)))
unfolding IsDistinct
soles_set v w e [] o is share within of at apart all = tt
soles_set v w e (k ∷ ks) zero is share within of at apart all = (
  sole_next v w e k is share of at all.0,
  soles_other v w e k is share of at ks apart.0 all.1,
)
soles_set v w e (k ∷ ks) (suc o) is share within of at apart all =
    let low : o < length ks = omega (arith, within) in (
      sole_other v w e (object_at ks o) is share of at k (other_at k.handle.n ks o low apart.0) all.0,
      soles_set v w e ks o is share low of at apart.1 all.1,
    )

-- ---- one object more
fresh_off : (es : List Entry) (n : ℕ) (k : KeptObject) → ((e : Entry) → Has e es → e.handle ≢ n)
    → IsObject es k → eqb k.handle.n n ≡ false
fresh_off es n k fresh o =
    let z = found_there es k.handle.n k.version o.at o.is in
    ne_eqb k.handle.n n (λ same. fresh o.at z.0 (z.1 ∙ same))

pub apart_more : (es : List Entry) (ks : List KeptObject) (y : KeptObject)
    → ((e : Entry) → Has e es → e.handle ≢ y.handle.n) → AllByRecursion (IsObject es) ks
    → AreApart ks → AreApart (ks ++ y ∷ [])
unfolding IsDistinct
apart_more es [] y fresh all apart = (tt, tt)
apart_more es (k ∷ ks) y fresh all apart = (
  others ks apart.0,
  apart_more es ks y fresh all.1 apart.1,
)
  where
    others : (xs : List KeptObject)
        → AllByRecursion (λ (m : ℕ). eqb k.handle.n m ≡ false)
        (map (λ (x : KeptObject). x.handle.n) xs)
        → AllByRecursion (λ (m : ℕ). eqb k.handle.n m ≡ false)
        (map (λ (x : KeptObject). x.handle.n) (xs ++ y ∷ []))
    others [] off = (fresh_off es y.handle.n k fresh all.0, tt)
    others (x ∷ xs) off = (off.0, others xs off.1)

none_later : (es : List Entry) (y : KeptObject) → ((e : Entry) → Has e es → e.handle ≢ y.handle.n)
    → IsLast es y
none_later [] y fresh = tt
none_later (e ∷ es) y fresh =
    (λ of. absurd (fresh e (inl refl) of), none_later es y (λ x has. fresh x (inr has)))

pub soles_more : (v w : View) (e : Entry) (ks : List KeptObject) (y : KeptObject)
    → w.written ≡ e ∷ v.written → w.share ≡ v.share → v.share ≡ 64 → e.handle ≡ y.handle.n
    → e.version ≡ y.version → ((x : Entry) → Has x v.written → x.handle ≢ y.handle.n)
    → AllByRecursion (IsObject v.written) ks → AreSole v ks → AreSole w (ks ++ y ∷ [])
soles_more v w e [] y is share whole of at fresh objects all = (
  record {
    whole = share ∙ whole;
    last = subst (λ (es : List Entry). IsLast es y) (sym is)
        (λ _. omega (arith, at), none_later v.written y fresh);
  },
  tt,
)
soles_more v w e (k ∷ ks) y is share whole of at fresh objects all = (
  sole_front v w e k is share (λ same. absurd (let z = found_there v.written k.handle.n k.version
      objects.0.at objects.0.is in fresh objects.0.at z.0 (z.1 ∙ sym same ∙ of))) all.0,
  soles_more v w e ks y is share whole of at fresh objects.1 all.1,
)
