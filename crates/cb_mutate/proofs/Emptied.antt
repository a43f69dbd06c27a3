-- A claimed object is freed.
use Rattle.std.proofs.Common.{◌≡◌, ℕ, false, ◌+◌, List, [], ◌∷◌, ◌++◌, set, sym, refl, ap, ◌∙◌, subst, get_or-set_same}
use Rattle.cb_world.specs.declared.object.Object.{Object}
use Rattle.cb_world.specs.declared.object.Object.TheVariants as is
use Rattle.cb_world.specs.declared.access.Access.TheVariants.{Told, Stamped, Settled}
use Rattle.cb_world.specs.declared.shown.Shown.{Shown}
use Rattle.cb_ptr.specs.declared.word.State.TheVariants as state
use Rattle.cb_world.specs.Shown.{version_at}
use Rattle.cb_world.specs.Settling.{MaySettle, MayFree}
use Rattle.cb_world.specs.Played.{played}
use Rattle.cb_world.specs.Written.{Writes, adds_as, gone}
use Rattle.cb_world.specs.Claimed.{IsClaimedAt}
use Rattle.cb_mutate.specs.FreeEnds.{with_emptied}

-- what is known once the next version is stored
abbrev pub with_stamped : Shown → ℕ → ℕ → Shown
with_stamped s h n = record s { versions = set s.versions h n }

stamp : (s : Shown) (h w v n : ℕ) (words : List ℕ) → IsClaimedAt s h w v words
    → version_at (with_stamped s h n) h ≡ n
stamp s h w v n words c = get_or-set_same s.versions h n 0 c.stamp

pub may_free : (s : Shown) (h w v x : ℕ) (words : List ℕ) → IsClaimedAt s h w v words → x ≡ v
    → MaySettle (with_stamped s h (x + 1)) h 0
may_free s h w v x words c same = (
  refl,
  subst (MayFree (with_stamped s h (x + 1)) h) (sym c.object)
      (stamp s h w v (x + 1) words c ∙ ap (λ (i : ℕ). i + 1) same),
)

pub emptied : (s : Shown) (h w v x : ℕ) (words : List ℕ) → IsClaimedAt s h w v words → x ≡ v
    → played (Told h x ∷ Stamped h (x + 1) ∷ Settled h 0 ∷ []) s ≡ with_emptied s h v
emptied s h w v x words c same =
    ap (λ (i : ℕ). let q : Shown = record s {
      objects = set s.objects h (is.Empty i);
      hots = set s.hots h false;
      versions = set s.versions h (x + 1);
    } in q) (stamp s h w v (x + 1) words c)
    ∙ ap (λ (i : ℕ). with_emptied s h i) same

pub emptied_once : (s : Shown) (h w v x : ℕ) (words : List ℕ) → IsClaimedAt s h w v words → x ≡ v
    → Writes (Told h x ∷ Stamped h (x + 1) ∷ Settled h 0 ∷ []) s (gone h (v + 1) words ∷ [])
emptied_once s h w v x words c same old =
    ap (λ (o : Object). adds_as state.Empty (with_stamped s h (x + 1)) h 0 o ++ old) c.object
    ∙ ap (λ (i : ℕ). gone h i words ∷ old)
    (stamp s h w v (x + 1) words c ∙ ap (λ (i : ℕ). i + 1) same)
