-- Claimed objects are put away one after another.
use Rattle.std.proofs.Common.{◌≡◌, ℕ, false, ◌+◌, ◌*◌, ◌<◌, List, [], ◌∷◌, ◌++◌, length, take, get_or, All, sym, ap, ◌∙◌, subst, arith, get_or-set_same}
use Rattle.cb_ptr.specs.declared.word.State.{State}
use Rattle.cb_ptr.specs.declared.word.State.TheVariants as word
use Rattle.cb_ptr.specs.Word.{state_of, hot_of, len_of}
use Rattle.cb_ptr.specs.Steps.{IsFarWord}
use Rattle.cb_world.specs.declared.leaving.Former.{Former}
use Rattle.cb_world.specs.declared.object.Object.TheVariants as is
use Rattle.cb_world.specs.declared.access.Access.TheVariants.{Settled}
use Rattle.cb_world.specs.declared.shown.Shown.{Shown}
use Rattle.cb_world.specs.Shown.{object_at, version_at, never}
use Rattle.cb_world.specs.Settling.{MaySettle, MaySettleAs, MayPutAway}
use Rattle.cb_world.specs.Played.{after, settled_by}
use Rattle.cb_world.specs.Written.{Writes, adds_as}
use Rattle.cb_evict.specs.Claims.{AreApart}
use Rattle.cb_evict.specs.Sending.{IsFormerTold, IsSent, AreSent}
use Rattle.cb_evict.proofs.ChangedObjects.{changed_more, settled_at}
use Rattle.cb_evict.proofs.Claims.{none_earlier}

-- a claimed object may be settled as away
pub may_send : (s : Shown) (f : Former) (n : ℕ) → IsFormerTold s f → IsFarWord (len_of f.word) n
    → MaySettle s f.handle n
may_send s f n x far =
    subst (λ (q : State). MaySettleAs q s f.handle n) (sym far.state)
    (subst (MayPutAway s f.handle n) (sym x.object)
    (far.number ∙ ap (λ (l : ℕ). 1 + l * 8192) (sym far.len), far.len, x.stamp))

-- and writes no version
pub sent_written : (s : Shown) (h n len : ℕ) → IsFarWord len n → Writes (Settled h n ∷ []) s []
sent_written s h n len far old =
    ap (λ (q : State). adds_as q s h n (object_at s h) ++ old) far.state

-- the next object is claimed still
pub still_told : (s t : Shown) (fs : List Former) (i : ℕ) (d : Former) → AreApart fs
    → i < length fs → All (IsFormerTold s) fs → AreSent s t (take i fs)
    → IsFormerTold t (get_or fs i d)
still_told s t fs i d apart within told a =
    let x = told i d within in
    let same = a.others (get_or fs i d).handle (none_earlier fs i d apart within) in record {
      version = x.version;
      words = x.words;
      object = same ∙ x.object;
      stamp = ap (λ (l : List ℕ). get_or l (get_or fs i d).handle 0) a.versions ∙ x.stamp;
      handle = omega (arith, x.handle, a.objects);
      warm = omega (arith, x.warm, a.heat);
    }

-- one object more is sent
pub sent_more : (s t : Shown) (fs : List Former) (i n : ℕ) (d : Former) → AreApart fs
    → i < length fs → All (IsFormerTold s) fs → AreSent s t (take i fs)
    → IsFarWord (len_of (get_or fs i d).word) n
    → AreSent s (after (Settled (get_or fs i d).handle n) t) (take (i + 1) fs)
sent_more s t fs i n d apart within told a far =
    let f = get_or fs i d in let h = f.handle in
    let x = still_told s t fs i d apart within told a in
    let o = settled_by (state_of n) n (version_at t h) (object_at t h) in
    let is_o : o ≡ is.Far (len_of f.word) x.version x.words =
    ap (λ (q : State). settled_by q n (version_at t h) (object_at t h)) far.state
    ∙ ap (settled_by word.Far n (version_at t h)) x.object
    ∙ ap (λ (l : ℕ). is.Far l (version_at t h) x.words) far.len
    ∙ ap (λ (v : ℕ). is.Far (len_of f.word) v x.words) x.stamp in
    changed_more s t fs i d o (hot_of n) (IsSent s t)
    (IsSent s (settled_at t h o (hot_of n))) apart within a
    (λ g object hot y. record {
      version = y.version;
      words = y.words;
      before = y.before;
      after = object ∙ y.after;
      cold = hot ∙ y.cold;
    })
    (record {
      version = x.version;
      words = x.words;
      before = sym (a.others h (none_earlier fs i d apart within)) ∙ x.object;
      after = get_or-set_same t.objects h o never x.handle ∙ is_o;
      cold = get_or-set_same t.hots h (hot_of n) false x.warm ∙ far.hot;
    })
