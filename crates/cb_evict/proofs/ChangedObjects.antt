-- Objects that change one after another, where all others stay.
use Rattle.std.proofs.Common.{◌≡◌, ◌≢◌, ℕ, false, ◌+◌, ◌<◌, Bool, List, [], ◌∷◌, ◌++◌, length, take, get_or, set, sym, refl, ◌∙◌, subst, length-set, get_or-set_other}
use Rattle.std.proofs.lemmas.List.{take_more}
use Rattle.std.proofs.lemmas.List.Elements.{All-nil, All-append, All-cons, All-head}
use Rattle.cb_world.specs.declared.leaving.Former.{Former}
use Rattle.cb_world.specs.declared.object.Object.{Object}
use Rattle.cb_world.specs.declared.shown.Shown.{Shown}
use Rattle.cb_world.specs.Shown.{object_at, hot_at, never}
use Rattle.cb_evict.specs.ChangesObjects.{ChangesObjects}
use Rattle.cb_evict.specs.Claims.{AreApart, IsNone}
use Rattle.cb_evict.proofs.Claims.{all_left, all_right, none_earlier}

pub changed_none : (s : Shown) (so : Former → Type 0) → ChangesObjects s s [] so
changed_none s so = record {
  changed = All-nil so;
  others = λ h none. refl;
  hots = λ h none. refl;
  objects = refl;
  heat = refl;
  versions = refl;
  memory = refl;
  first = refl;
}

-- what is known once an object is this, and as hot
abbrev pub settled_at : Shown → ℕ → Object → Bool → Shown
settled_at t h o hot = record t { objects = set t.objects h o; hots = set t.hots h hot }

-- one object more became so, and what the earlier ones are hangs on them alone
pub changed_more : (s t : Shown) (fs : List Former) (i : ℕ) (d : Former) (o : Object) (hot : Bool)
    (was so : Former → Type 0) → AreApart fs → i < length fs
    → ChangesObjects s t (take i fs) was
    → ((f : Former)
    → object_at (settled_at t (get_or fs i d).handle o hot) f.handle ≡ object_at t f.handle
    → hot_at (settled_at t (get_or fs i d).handle o hot) f.handle ≡ hot_at t f.handle
    → was f → so f)
    → so (get_or fs i d)
    → ChangesObjects s (settled_at t (get_or fs i d).handle o hot) (take (i + 1) fs) so
changed_more s t fs i d o hot was so apart within a stays now =
    let f = get_or fs i d in let h = f.handle in
    let first = none_earlier fs i d apart within in
    let other : (k : ℕ) → k ≢ h → object_at (settled_at t h o hot) k ≡ object_at t k =
    λ k off. get_or-set_other t.objects h k o never off in
    let cool : (k : ℕ) → k ≢ h → hot_at (settled_at t h o hot) k ≡ hot_at t k =
    λ k off. get_or-set_other t.hots h k hot false off in
    subst (λ (l : List Former). ChangesObjects s (settled_at t h o hot) l so)
    (sym (take_more fs i d within)) (record {
      changed = All-append so (take i fs) (f ∷ [])
          (λ k e l. let g = get_or (take i fs) k e in
          stays g (other g.handle (first k e l)) (cool g.handle (first k e l)) (a.changed k e l))
          (All-cons so f [] now (All-nil so));
      others = λ k none. other k (off k none) ∙ a.others k (left k none);
      hots = λ k none. cool k (off k none) ∙ a.hots k (left k none);
      objects = length-set t.objects h o ∙ a.objects;
      heat = length-set t.hots h hot ∙ a.heat;
      versions = a.versions;
      memory = a.memory;
      first = a.first;
    })
  where
    left : (k : ℕ) → IsNone (take i fs ++ get_or fs i d ∷ []) k → IsNone (take i fs) k
    left k none = all_left (λ g. g.handle ≢ k) (take i fs) (get_or fs i d ∷ []) none

    off : (k : ℕ) → IsNone (take i fs ++ get_or fs i d ∷ []) k → k ≢ (get_or fs i d).handle
    off k none q = All-head (λ g. g.handle ≢ k) (get_or fs i d) []
        (all_right (λ g. g.handle ≢ k) (take i fs) (get_or fs i d ∷ []) none) (sym q)
