-- The last pair is moved into a place.
use Rattle.std.proofs.Common.{◌≡◌, ◌≢◌, ℕ, ◌/◌, ◌%◌, ◌*◌, ◌<◌, Bool, true, false, eqb, eq-eqb, List, [], ◌∷◌, ◌++◌, length, None, Some, Option, Result, Ok, Err, IfOk, OnOk, refl, sym, ap, ◌∙◌, subst, arith}
use Rattle.std.proofs.lemmas.Bool.{ne_eqb}
use Rattle.std.specs.List.{AllByRecursion}
use Rattle.std.specs.Prelude.{if◌then◌else◌}
use Rattle.cb_types.specs.declared.config.Config.{Config}
use Rattle.cb_world.specs.declared.entry.Entry.{Entry}
use Rattle.cb_rule.specs.declared.view.View.{View}
use Rattle.cb_farmap.specs.declared.kept.Cannot.{Cannot}
use Rattle.cb_farmap.specs.declared.kept.KeptObject.{KeptObject}
use Rattle.cb_farmap.specs.BucketChanges.{FillsGap, WritesPair}
use Rattle.cb_farmap.specs.Buckets.{all_pairs}
use Rattle.cb_farmap.specs.Calls.{Ask, AskRead, Goes, trouble}
use Rattle.cb_farmap.specs.Changes.{AreLoose, AreSole, IsCalm}
use Rattle.cb_farmap.specs.Objects.{IsObject, blank, bytes_at, object_at}
use Rattle.cb_farmap.specs.Numbers.{pair_at}
use Rattle.cb_farmap.specs.Pairs.{Pair, pair_of}
use Rattle.cb_farmap.specs.Plans.{last_asks, move_asks, write_at}
use Rattle.cb_farmap.proofs.Arrays.{object_long}
use Rattle.cb_farmap.proofs.BucketLaws.{pair_in_object}
use Rattle.cb_farmap.proofs.GoingOn.{goes_stop, goes_then}
use Rattle.cb_farmap.proofs.Lists.{all_at}
use Rattle.cb_farmap.proofs.PlanLaws.{IsRead, are_reads, loose_read, sole_read}

-- ---- the last pair
module _ (c : Config) (n : ℕ) (ks : List KeptObject) (place last : ℕ) where
  abbrev asks_by : Bool → List Ask
  asks_by t = if t then [] else AskRead (object_at ks (last / 64)) ∷ []

  -- of the object that was searched last
  pub last_here : (v : View) → last / 64 ≡ place / 64 → Goes c n (last_asks ks place last) None v v
  last_here v same = subst (λ (t : Bool). Goes c n (asks_by t) None v v)
      (sym (eq-eqb (last / 64) (place / 64) same)) refl

  -- or by a read of its own
  pub last_read : (t s : Option Cannot) (v w : View) (k : KeptObject) → k ≡ object_at ks (last / 64) → s ≡ t
      → last / 64 ≢ place / 64 → Goes c n (AskRead k ∷ []) t v w → Goes c n (last_asks ks place last) s v w
  last_read t s v w k of same off goes = subst (λ (z : Option Cannot). Goes c n (last_asks ks place last) z v w)
      (sym same) (subst (λ (z : Bool). Goes c n (asks_by z) t v w) (sym (ne_eqb (last / 64) (place / 64) off))
      (subst (λ (z : KeptObject). Goes c n (AskRead z ∷ []) t v w) of goes))

pub pair_here : (es : List Entry) (ks : List KeptObject) (place last : ℕ) (found bytes : List ℕ) → last < 64 * length ks
    → last / 64 ≡ place / 64 → found ≡ bytes_at es (object_at ks (place / 64)) → bytes ≡ found
    → pair_at bytes (last % 64) ≡ pair_of (all_pairs es ks) last
pair_here es ks place last found bytes within same is told =
    ap (λ (l : List ℕ). pair_at l (last % 64)) (told ∙ is
    ∙ ap (λ (o : ℕ). bytes_at es (object_at ks o)) (sym same)) ∙ sym (pair_in_object es ks last within)

pub found_bytes : (es : List Entry) (ks : List KeptObject) (place last : ℕ) (found : List ℕ) → last < 64 * length ks
    → last / 64 ≡ place / 64 → AllByRecursion (IsObject es) ks → found ≡ bytes_at es (object_at ks (place / 64))
    → length found ≡ 1024
found_bytes es ks place last found within same all is = ap length is
    ∙ object_long es (object_at ks (place / 64))
    (all_at (IsObject es) ks (place / 64) blank all (omega (arith, within, same)))

pub last_told : (es : List Entry) (k : KeptObject) → IsObject es k → (r : Result (List ℕ) Cannot)
    → IfOk r (λ bytes. bytes ≡ bytes_at es k) → IfOk r (λ bytes. length bytes ≡ 1024)
last_told es k o (Ok bytes) is = ap length is ∙ object_long es k o
last_told es k o (Err e) is = tt

pub pair_told : (es : List Entry) (ks : List KeptObject) (last : ℕ) (k : KeptObject) (r : Result (List ℕ) Cannot)
    (q : Result Pair Cannot) → last < 64 * length ks → k ≡ object_at ks (last / 64)
    → IfOk r (λ bytes. bytes ≡ bytes_at es k) → trouble q ≡ trouble r
    → IfOk q (λ p. IfOk r (λ bytes. p ≡ pair_at bytes (last % 64)))
    → IfOk q (λ p. p ≡ pair_of (all_pairs es ks) last)
pair_told es ks last k (Ok bytes) (Ok p) within of is same told = told
    ∙ ap (λ (l : List ℕ). pair_at l (last % 64)) (is ∙ ap (bytes_at es) of) ∙ sym (pair_in_object es ks last within)
pair_told es ks last k (Err e) (Ok p) within of is same told = absurd cc
pair_told es ks last k r (Err e) within of is same told = tt

-- ---- the move
module _ (c : Config) (n : ℕ) (es : List Entry) (ks : List KeptObject) (place last : ℕ) where
  abbrev moves_by : Bool → List Ask
  moves_by t = if t then []
      else last_asks ks place last ++ write_at ks place (pair_of (all_pairs es ks) last) ∷ []

  pub no_move : (v : View) → place ≡ last → Goes c n (move_asks es ks place last) None v v
  no_move v same = subst (λ (t : Bool). Goes c n (moves_by t) None v v) (sym (eq-eqb place last same)) refl

  moved : (t : Option Cannot) (v w : View) → place ≢ last → Goes c n (moves_by false) t v w
      → Goes c n (move_asks es ks place last) t v w
  moved t v w off goes = subst (λ (s : Bool). Goes c n (moves_by s) t v w) (sym (ne_eqb place last off)) goes

  pub move_fails : (e : Cannot) (v w : View) → place ≢ last → Goes c n (last_asks ks place last) (Some e) v w
      → Goes c n (move_asks es ks place last) (Some e) v w
  move_fails e v w off goes = moved (Some e) v w off
      (goes_stop c n (last_asks ks place last) (write_at ks place (pair_of (all_pairs es ks) last) ∷ []) e v w goes)

  pub move_behind : (t : Option Cannot) (v u w : View) (p : Pair) → place ≢ last
      → Goes c n (last_asks ks place last) None v u → Goes c n (write_at ks place p ∷ []) t u w
      → p ≡ pair_of (all_pairs es ks) last → Goes c n (move_asks es ks place last) t v w
  move_behind t v u w p off before goes is = moved t v w off
      (goes_then c n (last_asks ks place last) (write_at ks place (pair_of (all_pairs es ks) last) ∷ []) t v u w before
      (subst (λ (q : Pair). Goes c n (write_at ks place q ∷ []) t u w) is goes))

pub fills_none : (es : List Entry) (ks : List KeptObject) (place last : ℕ) (p : Pair) → place ≡ last
    → FillsGap (eqb place last) es ks place p ks es
fills_none es ks place last p same =
    subst (λ (t : Bool). FillsGap t es ks place p ks es) (sym (eq-eqb place last same)) (refl, refl)

pub fills_one : (es : List Entry) (ks : List KeptObject) (place last : ℕ) (p q : Pair) (later : List KeptObject)
    (new : List Entry) → place ≢ last → p ≡ q → WritesPair es ks place p later new → FillsGap (eqb place last) es ks place q later new
fills_one es ks place last p q later new off is wrote =
    subst (λ (t : Bool). FillsGap t es ks place q later new) (sym (ne_eqb place last off))
    (subst (λ (r : Pair). WritesPair es ks place r later new) is wrote)

-- ---- behind the read of the last pair
module _ (c : Config) (n : ℕ) (ks : List KeptObject) (place last : ℕ) (v u : View)
    (before : Goes c n (last_asks ks place last) None v u) where
  is_read : IsRead v u
  is_read = by (eqb (last / 64) (place / 64)) before
    where
      by : (t : Bool) → Goes c n (if t then [] else AskRead (object_at ks (last / 64)) ∷ []) None v u → IsRead v u
      by true goes = are_reads c n [] None v u goes
      by false goes = are_reads c n (object_at ks (last / 64) ∷ []) None v u goes

  pub objects_last : AllByRecursion (IsObject v.written) ks → AllByRecursion (IsObject u.written) ks
  objects_last all = subst (λ (l : List Entry). AllByRecursion (IsObject l) ks) (sym is_read.written) all

  pub fills_last : (p q : Pair) (later : List KeptObject) (new : List Entry) (r : Result (Unit {0}) Cannot)
      → place ≢ last → p ≡ q → OnOk r (WritesPair u.written ks place p later new)
      → OnOk r (FillsGap (eqb place last) v.written ks place q later new)
  fills_last p q later new (Ok x) off is wrote = fills_one v.written ks place last p q later new off is
      (subst (λ (l : List Entry). WritesPair l ks place p later new) is_read.written wrote)
  fills_last p q later new (Err e) off is wrote = tt

  pub calm_last : (t : Option Cannot) → (AreSole u ks → AreLoose u ks → IsCalm t) → AreSole v ks → AreLoose v ks
      → IsCalm t
  calm_last t calm sole loose = calm (sole_read v u ks is_read sole) (loose_read v u ks is_read loose)
