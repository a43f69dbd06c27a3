-- An object that was claimed, and its settling.
use Rattle.std.proofs.Common.{◌≡◌, ℕ, Bool, ◌<◌, List, [], ◌∷◌, ◌++◌, length, set, sym, refl, ap, ◌∙◌, subst, arith, inl, length-set, get_or-set_other, get_or-set_same, cond, eq-eqb}
use Rattle.cb_ptr.specs.declared.word.State.{State}
use Rattle.cb_ptr.specs.declared.word.State.TheVariants as word
use Rattle.cb_ptr.specs.Word.{state_of, hot_of, len_of, place_of}
use Rattle.cb_world.specs.declared.object.Object.{Object}
use Rattle.cb_world.specs.declared.object.Object.TheVariants as is
use Rattle.cb_world.specs.declared.access.Access.{Access}
use Rattle.cb_world.specs.declared.access.Access.TheVariants.{Claimed, Settled}
use Rattle.cb_world.specs.declared.shown.Shown.{Shown}
use Rattle.cb_world.specs.Memory.{window, put}
use Rattle.cb_world.specs.Shown.{Covers, Avoids, IsHeld, object_at, version_at, never}
use Rattle.cb_world.specs.Settling.{MaySettle, MaySettleAs, MayBring, settled_words}
use Rattle.cb_world.specs.Played.{settled_by, after, played, Agree}
use Rattle.cb_world.specs.Looks.{AreLooks}
use Rattle.cb_world.specs.Grasped.{IsFree}
use Rattle.cb_world.specs.Written.{Writes, adds_as, entry}
use Rattle.cb_world.specs.FarState.{FarState}
use Rattle.cb_world.specs.LocalSound.{LocalSound, LiesAt}
use Rattle.cb_world.specs.Claimed.{IsClaimedAt}
use Rattle.cb_world.proofs.Windows.{window_put, length_put}
use Rattle.cb_world.proofs.Apart.{apart}
use Rattle.cb_world.proofs.Kept.{lies_within, owns_claimed, claimed_from, claim_played}

pub lies : (s : Shown) (h len place : ℕ) → object_at s h ≡ is.Here len place
    → LiesAt (object_at s h) len place
lies s h len place here = subst (λ (o : Object). LiesAt o len place) (sym here) (refl, refl)

pub avoids : (o : Object) (p : ℕ) → ((len place : ℕ) → LiesAt o len place → Covers place len p → ⊥)
    → Avoids p o
avoids (is.Empty v) p f = tt
avoids (is.Far len v words) p f = tt
avoids (is.Here len place) p f = f len place (refl, refl)
avoids (is.Claimed len place v words) p f = f len place (refl, refl)

pub is_claimed_at : (far : FarState) (s : Shown) (before : List Access) (h w v : ℕ) (words : List ℕ)
    → LocalSound s far → h < length s.objects → h < length s.versions → AreLooks h before
    → Agree s (before ++ Claimed h w v words ∷ []) → IsFree w
    → IsClaimedAt (played (before ++ Claimed h w v words ∷ []) s) h w v words
is_claimed_at far s before h w v words sound range stamp looks agree free =
    let p = claim_played s before h w v words looks agree in
    let within =
    lies_within far s h (len_of w) (place_of w) sound (lies s h (len_of w) (place_of w) p.2) in
    let t = claimed_from s p.0 h w v words in
    let memory : length t.memory ≡ length s.memory = length_put s.memory (place_of w) words in
    subst (λ (q : Shown). IsClaimedAt q h w v words) (sym p.1) (record {
      object = get_or-set_same s.objects h (is.Claimed (len_of w) (place_of w) v words) never range;
      free = free;
      below = p.3;
      version = get_or-set_same s.versions h v 0 stamp;
      contents = ap (window (put s.memory (place_of w) words) (place_of w)) (sym p.4)
          ∙ window_put s.memory (place_of w) words (omega (arith, p.4, within.0));
      owned = owns_claimed far s t h (len_of w) (place_of w) v words sound p.2 range refl memory;
      alone = λ q cov. (
        (owns_claimed far s t h (len_of w) (place_of w) v words sound p.2 range refl memory q
            cov).0,
        λ k ne. subst (Avoids q)
            (sym (get_or-set_other s.objects h k (is.Claimed (len_of w) (place_of w) v words) never
            ne)) (avoids (object_at s k) q
            (λ len place l c'.
            apart far s h (len_of w) (place_of w) k len place q sound
            (lies s h (len_of w) (place_of w) p.2) l (λ e. ne (sym e)) cov c')),
      );
      within = omega (arith, within.0, memory);
      short = within.1;
      handle = omega (
        arith,
        range,
        length-set s.objects h (is.Claimed (len_of w) (place_of w) v words),
      );
      stamp = omega (arith, stamp, length-set s.versions h v);
    })

-- what is known after a word that is Here is settled
pub settled_here : (s : Shown) (h w : ℕ) → state_of w ≡ word.Here
    → after (Settled h w) s ≡ record s {
      objects =
          set s.objects h (is.Here (len_of w) (place_of w));
      hots = set s.hots h (hot_of w);
    }
settled_here s h w here =
    ap (λ (q : State). let t : Shown =
    record s {
      objects = set s.objects h (settled_by q w (version_at s h) (object_at s h));
      hots =
          set s.hots h (hot_of w);
    } in t) here

pub held : (s : Shown) (h w v : ℕ) (words : List ℕ) → IsClaimedAt s h w v words
    → IsHeld (object_at s h)
held s h w v words c = subst IsHeld (sym c.object) tt

pub may_put_back : (s : Shown) (h w v : ℕ) (words : List ℕ) → IsClaimedAt s h w v words
    → MaySettle s h w
may_put_back s h w v words c = subst (λ (q : State). MaySettleAs q s h w) (sym c.free.0) (
  c.below,
  c.free.1,
  c.alone,
  subst (MayBring s h w) (sym c.object) (refl, inl (c.version, c.contents)),
)

-- a word that is settled at the object's own version writes nothing
pub back_written : (s : Shown) (h w v : ℕ) (words : List ℕ) → IsClaimedAt s h w v words
    → Writes (Settled h w ∷ []) s []
back_written s h w v words c old =
    ap (λ (q : State). adds_as q s h w (object_at s h) ++ old) c.free.0
    ∙ ap (λ (o : Object). adds_as word.Here s h w o ++ old) c.object
    ∙ ap (λ (b : Bool).
    cond b [] (entry h (version_at s h) (len_of w) words (settled_words s w) ∷ []) ++ old)
    (eq-eqb (version_at s h) v c.version)
