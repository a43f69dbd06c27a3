-- An object in local memory that the caller does not claim is not touched.
use Rattle.std.proofs.Common.{◌≡◌, ◌≢◌, ℕ, ◌+◌, List, [], ◌∷◌, ◌++◌, get_or, set, sym, refl, ap, ◌∙◌, subst, get_or-set_other}
use Rattle.cb_world.specs.declared.object.Object.{Object}
use Rattle.cb_world.specs.declared.object.Object.TheVariants as is
use Rattle.cb_world.specs.declared.access.Access.{Access}
use Rattle.cb_world.specs.declared.access.Access.TheVariants.{Looked, Claimed, Told, Loaded, Stored, Stamped, Settled}
use Rattle.cb_world.specs.declared.shown.Shown.{Shown}
use Rattle.cb_world.specs.Played.{played, after}
use Rattle.cb_world.specs.Shown.{Covers, Spares, IsHeld, object_at, never}
use Rattle.cb_world.specs.Settling.{MaySettle, MaySettleAs, MayFree, MayPutAway, MayBring}
use Rattle.cb_ptr.specs.declared.word.State.{State}
use Rattle.cb_ptr.specs.declared.word.State.TheVariants as word
use Rattle.cb_ptr.specs.Word.{state_of}
use Rattle.cb_world.specs.Plain.{Words, Plain}
use Rattle.cb_world.specs.Allowed.{Allowed, LeavesUnclaimed}

pub record IsWordUntouched (k len place : ℕ) (x y : Words) : Type 0 where
  pub word : get_or y.words k 0 ≡ get_or x.words k 0
  pub version : get_or y.versions k 0 ≡ get_or x.versions k 0
  pub memory : (p : ℕ) → Covers place len p → get_or y.memory p 0 ≡ get_or x.memory p 0

-- a held object is another than one that is here
other : (s : Shown) (k h len place : ℕ) → object_at s k ≡ is.Here len place → IsHeld (object_at s h)
    → k ≢ h
other s k h len place here held e = subst IsHeld (ap (object_at s) (sym e) ∙ here) held

-- what may be settled is held
pub may_held : (s : Shown) (h w : ℕ) → MaySettle s h w → IsHeld (object_at s h)
may_held s h w may = go (state_of w) (object_at s h) refl may
  where
    go : (q : State) (o : Object) → object_at s h ≡ o → MaySettleAs q s h w → IsHeld (object_at s h)
    go q (is.Empty v) e m = subst IsHeld (sym e) tt
    go q (is.Far len v words) e m = subst IsHeld (sym e) tt
    go q (is.Claimed len place v words) e m = subst IsHeld (sym e) tt
    go word.Empty (is.Here len place) e m = absurd (subst (MayFree s h) e m.1)
    go word.Far (is.Here len place) e m = absurd (subst (MayPutAway s h w) e m)
    go word.Here (is.Here len place) e m = absurd (subst (MayBring s h w) e m.3)
    go word.Moving (is.Here len place) e m = absurd m

pub untouched : (es : List Access) (x y : Words) (s : Shown) (k len place : ℕ) → Plain x es y
    → Allowed s es → LeavesUnclaimed k es → object_at s k ≡ is.Here len place
    → IsWordUntouched k len place x y
untouched [] x y s k len place run ok l here =
    record {
      word = ap (λ (z : Words). get_or z.words k 0) run;
      version =
          ap (λ (z : Words). get_or z.versions k 0) run;
      memory =
          λ p c. ap (λ (z : Words). get_or z.memory p 0) run;
    }
untouched (Looked h w ∷ es) x y s k len place run ok l here =
    untouched es x y (after (Looked h w) s) k len place run.1 ok.1 l here
untouched (Claimed h w v xs ∷ es) x y s k len place run ok l here =
    let z = untouched es (record x {
      words =
          set x.words h (w + 1);
    }) y (after (Claimed h w v xs) s) k len place run.1 ok.1 l.1
    (get_or-set_other s.objects h k _ never l.0 ∙ here) in
    record {
      word = z.word ∙ get_or-set_other x.words h k (w + 1) 0 l.0;
      version =
          z.version;
      memory = z.memory;
    }
untouched (Told h v ∷ es) x y s k len place run ok l here =
    untouched es x y s k len place run.1 ok.1 l here
untouched (Loaded p u ∷ es) x y s k len place run ok l here =
    untouched es x y s k len place run.1 ok.1 l here
untouched (Stored q u ∷ es) x y s k len place run ok l here =
    let z = untouched es (record x {
      memory =
          set x.memory q u;
    }) y (after (Stored q u) s) k len place run ok.1 l here in
    record {
      word = z.word;
      version = z.version;
      memory = λ p c. z.memory p c
          ∙ get_or-set_other x.memory q p u 0 (λ e.
          subst (Spares q) here (ok.0.1 k) (subst (Covers place len) e c));
    }
untouched (Stamped h v ∷ es) x y s k len place run ok l here =
    let z = untouched es (record x {
      versions =
          set x.versions h v;
    }) y (after (Stamped h v) s) k len place run ok.1 l here in
    record {
      word = z.word;
      version = z.version
          ∙ get_or-set_other x.versions h k v 0 (other s k h len place here ok.0);
      memory = z.memory;
    }
untouched (Settled h w ∷ es) x y s k len place run ok l here =
    let apart = other s k h len place here (may_held s h w ok.0) in
    let z = untouched es (record x {
      words =
          set x.words h w;
    }) y (after (Settled h w) s) k len place run.1 ok.1 l
    (get_or-set_other s.objects h k _ never apart ∙ here) in
    record {
      word = z.word ∙ get_or-set_other x.words h k w 0 apart;
      version = z.version;
      memory =
          z.memory;
    }

pub allowed_append : (es fs : List Access) (s : Shown) → Allowed s es → Allowed (played es s) fs
    → Allowed s (es ++ fs)
allowed_append [] fs s a b = b
allowed_append (e ∷ es) fs s a b = (a.0, allowed_append es fs (after e s) a.1 b)
