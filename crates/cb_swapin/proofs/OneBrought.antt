-- One far object is settled where its words stand.
use Rattle.std.proofs.Common.{◌≡◌, ℕ, Bool, false, ◌^◌, ◌<◌, List, [], ◌∷◌, ◌++◌, set, cond, sym, ap, ◌∙◌, subst, inl, eq-eqb}
use Rattle.std.proofs.lemmas.List.{set-set}
use Rattle.cb_ptr.specs.declared.word.State.{State}
use Rattle.cb_ptr.specs.declared.word.State.TheVariants as word
use Rattle.cb_ptr.specs.declared.word.PtrWord.{PtrWord}
use Rattle.cb_ptr.specs.Word.{fields_of, state_of, hot_of, len_of, place_of, pins_of}
use Rattle.cb_world.specs.declared.object.Object.{Object}
use Rattle.cb_world.specs.declared.object.Object.TheVariants as is
use Rattle.cb_world.specs.declared.access.Access.TheVariants.{Looked, Settled}
use Rattle.cb_world.specs.declared.shown.Shown.{Shown}
use Rattle.cb_world.specs.Memory.{window, words_for}
use Rattle.cb_world.specs.Shown.{Covers, Fits, object_at, version_at}
use Rattle.cb_world.specs.Settling.{MaySettle, MaySettleAs, MayBring, settled_words}
use Rattle.cb_world.specs.Played.{Agrees, after, played}
use Rattle.cb_world.specs.Written.{Writes, adds_as, entry}
use Rattle.cb_world.proofs.Laws.{settled_here}
use Rattle.cb_swapin.specs.Waiting.{IsReady}
use Rattle.cb_swapin.specs.BroughtIn.{BringsOne, with_here}

-- the word of an object that is here at a place, with no pins, hot or not
pub record IsHereWord (x len place : ℕ) (hot : Bool) : Type 0 where
  pub state : state_of x ≡ word.Here
  pub hot_is : hot_of x ≡ hot
  pub pins : pins_of x ≡ 0
  pub length : len_of x ≡ len
  pub at : place_of x ≡ place
  pub below : x < 2 ^ 53

pub here_word : (x place : ℕ) (hot : Bool) (q : PtrWord) (w : ℕ) → x < 2 ^ 53
    → fields_of x ≡ record { state = word.Here; hot = hot; pins = 0; len = q.len; place = place }
    → q ≡ fields_of w → IsHereWord x (len_of w) place hot
here_word x place hot q w below e f = record {
  state = ap (λ (r : PtrWord). r.state) e;
  hot_is = ap (λ (r : PtrWord). r.hot) e;
  pins = ap (λ (r : PtrWord). r.pins) e;
  length = ap (λ (r : PtrWord). r.len) e ∙ ap (λ (r : PtrWord). r.len) f;
  at = ap (λ (r : PtrWord). r.place) e;
  below = below;
}

-- a far object's word tells its length
far_len : (s : Shown) (h w len v : ℕ) (words : List ℕ) → object_at s h ≡ is.Far len v words
    → Agrees s (Looked h w) → len_of w ≡ len
far_len s h w len v words away a = (subst (λ (o : Object). Fits o w) away a.0).1

pub may_bring : (s : Shown) (h place w x : ℕ) (hot : Bool) → IsReady s h place
    → Agrees s (Looked h w) → IsHereWord x (len_of w) place hot
    → MaySettle (after (Looked h w) s) h x
may_bring s h place w x hot r a k =
    let len : len_of x ≡ r.len = k.length ∙ far_len s h w r.len r.version r.words r.away a in
    subst (λ (q : State). MaySettleAs q (after (Looked h w) s) h x) (sym k.state) (
      k.below,
      k.pins,
      (λ p covers. r.alone p (subst (λ (n : ℕ). Covers place n p) len
          (subst (λ (n : ℕ). Covers n (len_of x) p) k.at covers))),
      subst (MayBring (after (Looked h w) s) h x) (sym r.away) (
        len,
        inl (r.stamp, ap (λ (n : ℕ). window s.memory n (words_for r.len)) k.at ∙ r.contents),
      ),
    )

brought_to : (s : Shown) (h place w x : ℕ) → IsHereWord x (len_of w) place false
    → played (Looked h w ∷ Settled h x ∷ []) s ≡ with_here s h (len_of w) place
brought_to s h place w x k =
    settled_here (after (Looked h w) s) h x k.state
    ∙ ap (λ (l : List Bool). let t : Shown =
    record s { objects = set s.objects h (is.Here (len_of x) (place_of x)); hots = l } in t)
    (set-set s.hots h (hot_of w) (hot_of x))
    ∙ ap (λ (n : ℕ). let t : Shown =
    record s { objects = set s.objects h (is.Here n (place_of x)); hots = set s.hots h (hot_of x) }
    in t) k.length
    ∙ ap (λ (n : ℕ). let t : Shown =
    record s { objects = set s.objects h (is.Here (len_of w) n); hots = set s.hots h (hot_of x) }
    in t) k.at
    ∙ ap (λ (b : Bool). let t : Shown =
    record s { objects = set s.objects h (is.Here (len_of w) place); hots = set s.hots h b } in t)
    k.hot_is

brought_nothing : (s : Shown) (h place w x : ℕ) → IsReady s h place
    → IsHereWord x (len_of w) place false → Writes (Looked h w ∷ Settled h x ∷ []) s []
brought_nothing s h place w x r k old =
    let t = after (Looked h w) s in
    ap (λ (q : State). adds_as q t h x (object_at t h) ++ old) k.state
    ∙ ap (λ (o : Object). adds_as word.Here t h x o ++ old) r.away
    ∙ ap (λ (b : Bool).
    cond b [] (entry h (version_at t h) (len_of x) r.words (settled_words t x) ∷ []) ++ old)
    (eq-eqb (version_at t h) r.version r.stamp)

pub brings_one : (s : Shown) (h place w x : ℕ) → IsReady s h place → Agrees s (Looked h w)
    → IsHereWord x (len_of w) place false → BringsOne s h place w x
brings_one s h place w x r a k = record {
  may = may_bring s h place w x false r a k;
  len = λ n v words away. far_len s h w n v words away a;
  settled = brought_to s h place w x k;
  nothing = brought_nothing s h place w x r k;
}
