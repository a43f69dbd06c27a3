-- What reads leave of the record, and what a plan does whose calls but the last are reads.
use Rattle.std.proofs.Common.{◌≡◌, ℕ, ◌-◌, ◌/◌, Bool, true, false, eqb, List, [], ◌∷◌, ◌++◌, map, take, Option, Some, None, refl, ap, ◌∙◌, subst, inl, inr}
use Rattle.std.specs.Prelude.{if◌then◌else◌}
use Rattle.cb_types.specs.declared.config.Config.{Config}
use Rattle.cb_world.specs.declared.entry.Entry.{Entry}
use Rattle.cb_rule.specs.declared.view.Stand.{Stand}
use Rattle.cb_rule.specs.declared.view.View.{View}
use Rattle.cb_rule.specs.Lists.{times}
use Rattle.cb_rule.specs.Seats.{pins_it}
use Rattle.cb_farmap.specs.declared.bucket.Bucket.{Bucket}
use Rattle.cb_farmap.specs.declared.kept.Cannot.{Cannot}
use Rattle.cb_farmap.specs.declared.kept.KeptObject.{KeptObject}
use Rattle.cb_farmap.specs.Buckets.{all_pairs, pairs_in}
use Rattle.cb_farmap.specs.Calls.{Ask, AskMake, AskRead, AskWrite, Goes}
use Rattle.cb_farmap.specs.Changes.{AreLoose, AreSole, GoesOn, IsCalm}
use Rattle.cb_farmap.specs.Objects.{object_at}
use Rattle.cb_farmap.specs.PairBytes.{object_bytes}
use Rattle.cb_farmap.specs.Pairs.{Pair, pair_of, place_of}
use Rattle.cb_farmap.specs.Plans.{drop_asks, drop_plan, is_filled, look_plan, objects_to, put_ask, put_plan, write_at}
use Rattle.cb_farmap.proofs.Behind.{goes_on, make_off, reads_same, soles_same, write_off}

-- the record went on, and was not written
pub record IsRead (v w : View) : Type 0 where
  pub on : GoesOn v w
  pub written : w.written ≡ v.written

reads_none : (c : Config) (first : ℕ) (ks : List KeptObject) (t : Option Cannot) (v w : View)
    → Goes c first (map AskRead ks) t v w → w.written ≡ v.written
reads_none c first [] None v w same = ap (λ (z : View). z.written) same
reads_none c first [] (Some e) v w x = absurd x
reads_none c first (k ∷ ks) None v w (u, done, rest) = reads_none c first ks None u w rest
    ∙ reads_same c first k None v u (u, done, refl)
reads_none c first (k ∷ ks) (Some e) v w (inl fails) = reads_same c first k (Some e) v w (inl fails)
reads_none c first (k ∷ ks) (Some e) v w (inr (u, done, rest)) = reads_none c first ks (Some e) u w rest
    ∙ reads_same c first k None v u (u, done, refl)

pub are_reads : (c : Config) (first : ℕ) (ks : List KeptObject) (t : Option Cannot) (v w : View)
    → Goes c first (map AskRead ks) t v w → IsRead v w
are_reads c first ks t v w goes = record {
  on = goes_on c first (map AskRead ks) t v w goes;
  written = reads_none c first ks t v w goes;
}

-- objects that nobody else has stay such, and so do those without a pin
pub sole_read : (v w : View) (ks : List KeptObject) → IsRead v w → AreSole v ks → AreSole w ks
sole_read v w ks x sole = soles_same v w ks x.written x.on.share sole

pub loose_on : (v w : View) (ks : List KeptObject) → GoesOn v w → AreLoose v ks → AreLoose w ks
loose_on v w [] on all = tt
loose_on v w (k ∷ ks) on all =
    (ap (λ (ps : List Stand). times (pins_it k.handle.n) ps) on.pins ∙ all.0, loose_on v w ks on all.1)

pub loose_read : (v w : View) (ks : List KeptObject) → IsRead v w → AreLoose v ks → AreLoose w ks
loose_read v w ks x loose = loose_on v w ks x.on loose

-- ---- a plan that writes with its last call, if at all
abbrev pub WritesLast : List Ask → Type 0
WritesLast [] = Unit {0}
WritesLast (AskRead k ∷ plan) = WritesLast plan
WritesLast (AskWrite k at bytes ∷ plan) = plan ≡ []
WritesLast (AskMake bytes ∷ plan) = plan ≡ []

pub reads_last : (ks : List KeptObject) (plan : List Ask) → WritesLast plan → WritesLast (map AskRead ks ++ plan)
reads_last [] plan last = last
reads_last (k ∷ ks) plan last = reads_last ks plan last

-- where it failed, and nobody else has its objects, nothing was written
pub calm_same : (c : Config) (first : ℕ) (plan : List Ask) (e : Cannot) (v w : View) → WritesLast plan
    → Goes c first plan (Some e) v w → IsCalm (Some e) → w.written ≡ v.written
calm_same c first [] e v w last x calm = absurd x
calm_same c first (AskRead k ∷ plan) e v w last (inl fails) calm = reads_same c first k (Some e) v w (inl fails)
calm_same c first (AskRead k ∷ plan) e v w last (inr (u, done, rest)) calm =
    calm_same c first plan e u w last rest calm ∙ reads_same c first k None v u (u, done, refl)
calm_same c first (AskWrite k at bytes ∷ plan) e v w last (inl fails) calm =
    write_off c first k at bytes e v w (inl fails) calm
calm_same c first (AskWrite k at bytes ∷ plan) e v w last (inr (u, done, rest)) calm =
    absurd (subst (λ (l : List Ask). Goes c first l (Some e) u w) last rest)
calm_same c first (AskMake bytes ∷ plan) e v w last (inl fails) calm =
    make_off c first bytes e v w (inl fails)
calm_same c first (AskMake bytes ∷ plan) e v w last (inr (u, done, rest)) calm =
    absurd (subst (λ (l : List Ask). Goes c first l (Some e) u w) last rest)

-- ---- the plans of a map
pub look_read : (c : Config) (first : ℕ) (es : List Entry) (b : Bucket) (key : ℕ) (v w : View)
    → Goes c first (look_plan es b key) None v w → IsRead v w
look_read c first es b key v w goes =
    are_reads c first (take (objects_to b.count (place_of key (pairs_in es b))) b.kept) None v w goes

pub look_last : (es : List Entry) (b : Bucket) (key : ℕ) → WritesLast (look_plan es b key)
look_last es b key = only (take (objects_to b.count (place_of key (pairs_in es b))) b.kept)
  where
    only : (ks : List KeptObject) → WritesLast (map AskRead ks)
    only [] = tt
    only (k ∷ ks) = only ks

add_last : (ks : List KeptObject) (count : ℕ) (p : Pair) (t : Bool)
    → WritesLast ((if t then AskMake (object_bytes p) else write_at ks count p) ∷ [])
add_last ks count p true = refl
add_last ks count p false = refl

ask_last : (b : Bucket) (p : Pair) (place : Option ℕ) → WritesLast (put_ask b p place ∷ [])
ask_last b p None = add_last b.kept b.count p (is_filled b.kept b.count)
ask_last b p (Some place) = refl

pub put_last : (es : List Entry) (b : Bucket) (p : Pair) → WritesLast (put_plan es b p)
put_last es b p = reads_last (take (objects_to b.count (place_of p.0 (pairs_in es b))) b.kept)
    (put_ask b p (place_of p.0 (pairs_in es b)) ∷ []) (ask_last b p (place_of p.0 (pairs_in es b)))

move_last : (es : List Entry) (ks : List KeptObject) (place last : ℕ) (s t : Bool)
    → WritesLast (if s then [] else (if t then [] else AskRead (object_at ks (last / 64)) ∷ [])
    ++ write_at ks place (pair_of (all_pairs es ks) last) ∷ [])
move_last es ks place last true t = tt
move_last es ks place last false true = refl
move_last es ks place last false false = refl

pub drop_last : (es : List Entry) (b : Bucket) (key : ℕ) → WritesLast (drop_plan es b key)
drop_last es b key = reads_last (take (objects_to b.count (place_of key (pairs_in es b))) b.kept)
    (drop_asks es b (place_of key (pairs_in es b))) (by (place_of key (pairs_in es b)))
  where
    by : (p : Option ℕ) → WritesLast (drop_asks es b p)
    by None = tt
    by (Some p) = move_last es b.kept p (b.count - 1) (eqb p (b.count - 1)) (eqb ((b.count - 1) / 64) (p / 64))
