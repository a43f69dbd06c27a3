-- Last complete contents over a fresh set and over a swap-in.
use Rattle.std.proofs.Common.{◌≡◌, ℕ, zero, suc, Bool, false, List, [], ◌∷◌, length, Option, Some, None, is_some, sym, refl, ap, ◌∙◌, arith}
use Rattle.std.specs.List.{slice_get, cons_option}
use Rattle.std.proofs.lemmas.Bool.{le-ltb, false≢true}
use Rattle.cb_member.specs.declared.names.Loss.{Loss}
use Rattle.cb_member.specs.declared.names.Shard.{Shard}
use Rattle.cb_member.specs.Membership.{Membership}
use Rattle.cb_set.specs.SetState.{SetState}
use Rattle.cb_set.specs.Lost.{is_lost, loss_of, lost}
use Rattle.cb_world.specs.declared.object.Object.{Object}
use Rattle.cb_world.specs.declared.object.Object.TheVariants as is
use Rattle.cb_world.specs.declared.shown.Shown.{Shown}
use Rattle.cb_world.specs.Memory.{window, words_for, bytes_in}
use Rattle.cb_world.specs.Shown.{object_at, version_at}
use Rattle.cb_world.specs.FarState.{FarState}
use Rattle.cb_world.specs.Homes.{home_at}
use Rattle.cb_world.specs.SetWord.{is_broken}
use Rattle.cb_set.specs.SetState.{parities}
use Rattle.cb_world.specs.Now.{held, broken_set, broken_home, is_gone, now_as, now}
use Rattle.cb_world.specs.SetAdded.{IsSetAdded}

-- a set of which no shard is lost is not broken
none_lost : (m : Membership) (shards : List Shard)
    → ((p : ℕ) (shard : Shard) → slice_get shards p ≡ Some shard → is_lost m shard ≡ false)
    → length (lost m shards) ≡ 0
none_lost m [] up = refl
none_lost m (x ∷ xs) up =
    step (loss_of m x) (up 0 x refl) (none_lost m xs (λ p shard at. up (suc p) shard at))
  where
    step : (o : Option Loss) → is_some o ≡ false → length (lost m xs) ≡ 0
        → length (cons_option o (lost m xs)) ≡ 0
    step None e z = z
    step (Some l) e z = absurd (false≢true (sym e))

-- `now` of an object that is put away: its version and its bytes, before and after
pub put_away_now : (s t : Shown) (far new : FarState) (id : ℕ) (set : SetState)
    (rows : List (List ℕ)) (h position slot len v place : ℕ) (words : List ℕ)
    → IsSetAdded s t far new id set rows
    → home_at new.homes h ≡ Some (record { set = id; position = position; slot = slot })
    → object_at s h ≡ is.Claimed len place v words → object_at t h ≡ is.Far len v words
    → now t new h ≡ now s far h
put_away_now s t far new id set rows h position slot len v place words x home before after =
    let e : is_gone new h ≡ false = ap (broken_home new) home ∙ ap (broken_set new.members) x.added
    ∙ ap (λ (m : Membership). is_broken m set) x.members
    ∙ le-ltb (parities set) (length (lost far.members set.shards)) (let z =
    none_lost far.members set.shards x.up in omega (arith, z)) in
    ap (now_as t h (is_gone new h)) after ∙ ap (λ (b : Bool). now_as t h b (is.Far len v words)) e
    ∙ sym (ap (now_as s h (is_gone far h)) before)

-- `now` of an object that is brought back
pub brought_now : (s t : Shown) (far new : FarState) (h len v place : ℕ) (words : List ℕ)
    → object_at s h ≡ is.Far len v words → is_gone far h ≡ false → object_at t h ≡ is.Here len place
    → version_at t h ≡ v → window t.memory place (words_for len) ≡ words → now t new h ≡ now s far h
brought_now s t far new h len v place words before whole after stamp contents =
    ap (now_as t h (is_gone new h)) after
    ∙ ap (λ (n : ℕ). held n (bytes_in (window t.memory place (words_for len)) len)) stamp
    ∙ ap (λ (l : List ℕ). held v (bytes_in l len)) contents
    ∙ sym (ap (now_as s h (is_gone far h)) before
    ∙ ap (λ (b : Bool). now_as s h b (is.Far len v words)) whole)

-- where its object, its version and its words are as they were, so is what it holds
pub now_kept : (s t : Shown) (far new : FarState) (h : ℕ) → object_at t h ≡ object_at s h
    → version_at t h ≡ version_at s h
    → ((len place : ℕ) → object_at s h ≡ is.Here len place
    → window t.memory place (words_for len) ≡ window s.memory place (words_for len))
    → is_gone new h ≡ is_gone far h → now t new h ≡ now s far h
now_kept s t far new h object version words gone =
    ap (now_as t h (is_gone new h)) object
    ∙ ap (λ (lost : Bool). now_as t h lost (object_at s h)) gone
    ∙ by (is_gone far h) (object_at s h) refl
  where
    by : (lost : Bool) (o : Object) → object_at s h ≡ o → now_as t h lost o ≡ now_as s h lost o
    by lost (is.Empty zero) e = refl
    by lost (is.Empty (suc v)) e = refl
    by lost (is.Far len v contents) e = refl
    by lost (is.Here len place) e =
        let same = words len place e in λ i. held (version i) (bytes_in (same i) len)
    by lost (is.Claimed len place v contents) e = refl
