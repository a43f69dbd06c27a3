-- Entries of kept versions, among entries that grow in front.
use Rattle.std.proofs.Common.{◌≡◌, ℕ, ◌+◌, ◌≤◌, Bool, true, false, cond, eqb, eqb-true, eq-eqb, ◌&&◌, List, [], ◌∷◌, ◌++◌, length, Option, Some, None, refl, sym, ap, ◌∙◌, subst, inl, inr, arith}
use Rattle.std.proofs.lemmas.Bool.{and_parts}
use Rattle.std.proofs.lemmas.Option.{same_Some}
use Rattle.std.specs.Option.{option_or}
use Rattle.cb_model.specs.Now.{overwritten}
use Rattle.cb_mutate.proofs.Laws.{write_bytes}
use Rattle.cb_world.specs.declared.entry.Entry.{Entry}
use Rattle.cb_world.specs.Memory.{bytes_in}
use Rattle.cb_world.specs.Write.{IsWrite}
use Rattle.cb_world.specs.Written.{entry}
use Rattle.cb_rule.specs.declared.view.Seen.{Seen}
use Rattle.cb_rule.specs.declared.view.View.{View}
use Rattle.cb_rule.specs.History.{is_version}
use Rattle.cb_rule.specs.Lists.{Has}
use Rattle.cb_rule.specs.OwnStands.{WroteItself}
use Rattle.cb_rule.specs.Records.{seen_of}
use Rattle.cb_rule.specs.RecordStands.{RecordStands}
use Rattle.cb_farmap.specs.declared.kept.KeptObject.{KeptObject}
use Rattle.cb_farmap.specs.Changes.{Rewrites, with_next}
use Rattle.cb_farmap.specs.Objects.{IsObject, bytes_at, bytes_of, entry_at, if_version}
use Rattle.cb_farmap.proofs.Lists.{has_back}

-- ---- what was found is there
pub wrote_itself : (u : View) (e : Entry) → Has e u.written → WroteItself u e
wrote_itself u e has = (u, (0, refl), has_back e u.fresh u.written has)

none_some : (x : Entry) → None ≡ Some x → ⊥
none_some x e = absurd (let z : None ≡ Some x = e in cc)

found_new : (h n : ℕ) (e x : Entry) → (b : Bool) → is_version h n e ≡ b → cond b (Some e) None ≡ Some x
    → (x ≡ e) × (e.handle ≡ h) × (e.version ≡ n)
found_new h n e x true is eq = let p = and_parts (eqb e.handle h) (eqb e.version n) is in
    (sym (same_Some e x eq), eqb-true e.handle h p.0, eqb-true e.version n p.1)
found_new h n e x false is eq = absurd (none_some x eq)

pub found_there : (es : List Entry) (h n : ℕ) (x : Entry) → entry_at es h n ≡ Some x
    → Has x es × (x.handle ≡ h) × (x.version ≡ n)
found_there [] h n x is = absurd (none_some x is)
found_there (e ∷ es) h n x is = by (entry_at es h n) refl (λ y at. found_there es h n y at) is
  where
    by : (o : Option Entry) → entry_at es h n ≡ o
        → ((y : Entry) → entry_at es h n ≡ Some y → Has y es × (y.handle ≡ h) × (y.version ≡ n))
        → option_or o (if_version h n e) ≡ Some x
        → Has x (e ∷ es) × (x.handle ≡ h) × (x.version ≡ n)
    by None at later eq = let z = found_new h n e x (is_version h n e) refl eq in
        (inl (sym z.0), ap (λ (y : Entry). y.handle) z.0 ∙ z.1, ap (λ (y : Entry). y.version) z.0 ∙ z.2)
    by (Some y) at later eq = let z = later x (at ∙ ap Some (same_Some y x eq)) in (inr z.0, z.1, z.2)

-- ---- entries in front change nothing
pub found_behind : (more es : List Entry) (h n : ℕ) (x : Entry) → entry_at es h n ≡ Some x
    → entry_at (more ++ es) h n ≡ Some x
found_behind [] es h n x is = is
found_behind (e ∷ more) es h n x is =
    ap (λ (o : Option Entry). option_or o (if_version h n e)) (found_behind more es h n x is)

pub object_behind : (more es : List Entry) (k : KeptObject) → IsObject es k → IsObject (more ++ es) k
object_behind more es k o = record {
  at = o.at;
  is = found_behind more es k.handle.n k.version o.at o.is;
  held = o.held;
  long = o.long;
  wide = o.wide;
}

pub bytes_behind : (more es : List Entry) (k : KeptObject) → IsObject es k
    → bytes_at (more ++ es) k ≡ bytes_at es k
bytes_behind more es k o =
    ap bytes_of (found_behind more es k.handle.n k.version o.at o.is ∙ sym o.is)

-- ---- a read of the kept version
pub kept_read : (u : View) (k : KeptObject) (s : Seen) → RecordStands u → IsObject u.written k
    → Has s u.seen → s.handle ≡ k.handle.n → s.version ≡ k.version
    → bytes_in s.words s.len ≡ bytes_at u.written k
kept_read u k s stands o has same version =
    let there = found_there u.written k.handle.n k.version o.at o.is in
    let e : s ≡ seen_of o.at = stands.read s o.at has (wrote_itself u o.at there.0)
    (same ∙ sym there.1) (version ∙ sym there.2) in
    ap (λ (z : Seen). bytes_in z.words z.len) e ∙ sym (ap bytes_of o.is)

-- ---- a write of the version behind it
pub kept_written : (u : View) (es : List Entry) (k : KeptObject) (len at : ℕ) (bytes old new : List ℕ)
    → RecordStands u → IsObject es k
    → u.written ≡ entry k.handle.n (k.version + 1) len old new ∷ es
    → IsWrite old at bytes new → at + length bytes ≤ 1024
    → Rewrites es k (with_next k) at bytes u.written
kept_written u es k len at bytes old new stands o is write within = record {
  entry = e;
  front = is;
  handle = refl;
  version = refl;
  next = refl;
  object = record { at = e; is = at_last; held = refl; long = lens; wide = width };
  bytes_are = ap bytes_of at_last ∙ ap (bytes_in new) lens
      ∙ write_bytes old new at 1024 bytes write within (let w = long_old in omega (arith, w))
      ∙ ap (λ (l : List ℕ). overwritten l at bytes)
      (ap (λ (l : List ℕ). bytes_in l 1024) (sym past) ∙ ap (bytes_in o.at.after) (sym o.long) ∙ sym (ap bytes_of o.is));
}
  where
    e : Entry
    e = entry k.handle.n (k.version + 1) len old new

    has_e : Has e u.written
    has_e = subst (Has e) (sym is) (inl refl)

    there : Has o.at es × (o.at.handle ≡ k.handle.n) × (o.at.version ≡ k.version)
    there = found_there es k.handle.n k.version o.at o.is

    has_x : Has o.at u.written
    has_x = subst (Has o.at) (sym is) (inr there.0)

    goes : (o.at.after ≡ old) × (o.at.freed ≡ false) × (false ≡ false → len ≡ o.at.len)
    goes = stands.goes_on e o.at (wrote_itself u e has_e) (wrote_itself u o.at has_x)
        (sym there.1) (ap (λ (n : ℕ). n + 1) (sym there.2))

    past : o.at.after ≡ old
    past = goes.0

    lens : len ≡ 1024
    lens = goes.2 refl ∙ o.long

    long_old : length old ≡ 128
    long_old = sym (ap length past) ∙ o.wide

    width : length new ≡ 128
    width = write.sized ∙ long_old

    found_is : (os : Option Entry) → entry_at es k.handle.n (k.version + 1) ≡ os
        → option_or os (if_version k.handle.n (k.version + 1) e) ≡ Some e
    found_is None at_ = by (is_version k.handle.n (k.version + 1) e)
        ((λ i. eq-eqb k.handle.n k.handle.n refl i && eq-eqb (k.version + 1) (k.version + 1) refl i))
      where
        by : (b : Bool) → b ≡ true → cond b (Some e) None ≡ Some e
        by true it = refl
        by false it = absurd (let z : false ≡ true = it in cc)
    found_is (Some y) at_ = let z = found_there es k.handle.n (k.version + 1) y at_ in
        ap Some (stands.same y e (wrote_itself u y (subst (Has y) (sym is) (inr z.0))) (wrote_itself u e has_e) z.1 z.2)

    at_last : entry_at u.written k.handle.n (k.version + 1) ≡ Some e
    at_last = ap (λ (l : List Entry). entry_at l k.handle.n (k.version + 1)) is
        ∙ found_is (entry_at es k.handle.n (k.version + 1)) refl
