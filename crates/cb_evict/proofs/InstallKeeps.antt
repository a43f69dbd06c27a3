-- What an install keeps, and that it is fixed, from the step alone.
use Rattle.std.proofs.Common.{◌≡◌, ◌⊎◌, ℕ, List, [], ◌++◌, length, Option, None, Some, refl, sym, ap, ◌∙◌, subst, arith, inl, inr}
use Rattle.std.proofs.lemmas.List.{append_cancel_left, get_or_append_left}
use Rattle.cb_types.specs.declared.config.Config.{Config}
use Rattle.cb_types.specs.declared.order.EncodeOrder.{EncodeOrder}
use Rattle.cb_types.specs.declared.order.Kept.{Kept}
use Rattle.cb_types.specs.declared.order.Kept.TheVariants.{Encode, Decode}
use Rattle.cb_types.specs.declared.reply.Reply.{Reply}
use Rattle.cb_types.specs.declared.reply.Reply.TheVariants as answer
use Rattle.cb_types.specs.Orders.{IsEncodable}
use Rattle.cb_world.specs.Codes.{code_of_batch}
use Rattle.cb_world.specs.declared.shown.Shown.{Shown}
use Rattle.cb_world.specs.FarState.{FarState}
use Rattle.cb_world.specs.Leaving.{LeavingState}
use Rattle.cb_world.specs.Now.{now}
use Rattle.cb_world.specs.Orders.{LeavesWords}
use Rattle.cb_world.proofs.Laws.{IsCodeIn, KeepCodes, KeepsFar, StaysIf, codes_kept, codes_same, of_the_batch, pair_stays, same_data, sets_have, some_same, stays_like, words_stay}
use Rattle.cb_evict.specs.InstallRule.{HasInstalled, InstallStep, Installs, with_made, with_parities}
use Rattle.cb_evict.proofs.BeginFixed.{leaving_or_not}
use Rattle.cb_evict.proofs.FarRest.{rest_kept, rest_of}

-- an install changes nothing, or the batch has an order's parities
pub install_cases : (far new : FarState) (r : Reply) (order keeps : Option Kept)
    → InstallStep far new r order keeps
    → (new ≡ far) ⊎ ((o : EncodeOrder) × HasInstalled far new r o)
install_cases far new r None keeps x = inl x.0.state
install_cases far new r (Some (Decode o)) keeps x = inl x.0.state
install_cases far new r (Some (Encode o)) keeps (inl x) = inl x.0.state
install_cases far new r (Some (Encode o)) keeps (inr (inl x)) = inl x.0.state
install_cases far new r (Some (Encode o)) keeps (inr (inr x)) = inr (o, x.0)

pub install_keeps : (far new : FarState) (r : Reply) (order keeps : Option Kept)
    → InstallStep far new r order keeps → KeepsFar far new
install_keeps far new r order keeps x = elim (install_cases far new r order keeps x) [
  | inl same ↦ rest_kept far new (ap rest_of same)
  | inr y ↦ rest_kept far new (ap rest_of y.1.state)
]

-- the batch has as many parities as before
made_codes : (far new : FarState) (r : Reply) (o : EncodeOrder) → HasInstalled far new r o
    → KeepCodes far new
made_codes far new r o z =
    subst (KeepCodes far) (sym z.state) (codes_kept far (with_made far z.batch z.parities) refl
    (sets_have far)
    (λ b at. subst (λ (l : LeavingState). IsCodeIn far (code_of_batch l))
    (some_same (with_parities z.batch z.parities) b at)
    (of_the_batch z.batch z.there
    (λ i. record { k = length z.batch.frames; r = z.count i })))
    (pair_stays far far.joining refl) (λ own. own))

pub install_step_codes : (far new : FarState) (r : Reply) (order keeps : Option Kept)
    → InstallStep far new r order keeps → KeepCodes far new
install_step_codes far new r order keeps x = elim (install_cases far new r order keeps x) [
  | inl same ↦ codes_same far new same
  | inr y ↦ made_codes far new r y.0 y.1
]

pub install_stays : (c : Config) (far new : FarState) (r : Reply) (order keeps : Option Kept)
    → InstallStep far new r order keeps → StaysIf c 1 far new
install_stays c far new r order keeps x =
    let codes = install_step_codes far new r order keeps x in
    elim (install_cases far new r order keeps x) [
      | inl same ↦ stays_like c 1 far new (omega arith) (record {
        spans = ap (λ (f : FarState). length f.spans) same;
        homes = ap (λ (f : FarState). length f.homes) same;
        nodes = ap (λ (f : FarState). length f.nodes.nodes) same;
        room = ap (λ (f : FarState). f.nodes.room) same;
        codes = codes;
        counts = ap (λ (f : FarState). f.counts) same;
        note = λ n e. sym (ap (λ (f : FarState). f.survey.no_pair) same) ∙ e;
        epoch = let e : new.members.epoch ≡ far.members.epoch =
            ap (λ (f : FarState). f.members.epoch) same in omega (arith, e);
        given = ap (λ (f : FarState). f.nodes.given) same;
      })
      | inr y ↦ let same = y.1.state in stays_like c 1 far new (omega arith) (record {
        spans = ap (λ (f : FarState). length f.spans) same;
        homes = ap (λ (f : FarState). length f.homes) same;
        nodes = ap (λ (f : FarState). length f.nodes.nodes) same;
        room = ap (λ (f : FarState). f.nodes.room) same;
        codes = codes;
        counts = ap (λ (f : FarState). f.counts) same;
        note = λ n e. sym (ap (λ (f : FarState). f.survey.no_pair) same) ∙ e;
        epoch = let e : new.members.epoch ≡ far.members.epoch =
            ap (λ (f : FarState). f.members.epoch) same in omega (arith, e);
        given = ap (λ (f : FarState). f.nodes.given) same;
      })
    ]

-- what every object has stays
pub install_now : (s : Shown) (far new : FarState) (r : Reply) (order keeps : Option Kept)
    → InstallStep far new r order keeps → (h : ℕ) → now s new h ≡ now s far h
install_now s far new r order keeps x h = elim (install_cases far new r order keeps x) [
  | inl same ↦ ap (λ (f : FarState). now s f h) same
  | inr y ↦ ap (λ (f : FarState). now s f h) y.1.state
]

-- and the words of sets
pub made_leaves_words : (far : FarState) (batch : LeavingState) (parities : List (List ℕ))
    → far.leaving ≡ Some batch → length parities ≡ length batch.parities
    → LeavesWords far (with_made far batch parities)
made_leaves_words far batch parities there count = record {
  drawn = (words_stay far).drawn;
  sets = λ id set at below apart. let w = (words_stay far).sets id set at below apart in record {
    was = w.was;
    there = w.there;
    code = w.code;
    whole = w.whole;
    words = w.words;
  };
  batch = λ b at below. let e = some_same (with_parities batch parities) b at in (
    batch,
    there,
    ap (λ (c : LeavingState). c.set) e,
    ap (λ (c : LeavingState). c.pages) e,
    ap (λ (c : LeavingState). c.frames) e,
    sym count ∙ ap (λ (c : LeavingState). length c.parities) e,
  );
}

pub install_leaves_words : (far new : FarState) (r : Reply) (order keeps : Option Kept)
    → InstallStep far new r order keeps → LeavesWords far new
install_leaves_words far new r order keeps x = elim (install_cases far new r order keeps x) [
  | inl same ↦ subst (LeavesWords far) (sym same) (words_stay far)
  | inr y ↦ let z = y.1 in subst (LeavesWords far) (sym z.state)
      (made_leaves_words far z.batch z.parities z.there z.count)
]

-- ---- one end
-- an order has one list of parities
parities_one : (o : EncodeOrder) (far new other : FarState) (r q : Reply) → IsEncodable o
    → (a : HasInstalled far new r o) → (b : HasInstalled far other q o) → a.parities ≡ b.parities
parities_one o far new other r q fits a b =
    append_cancel_left o.rows a.parities b.parities (same_data o.k o.r (o.rows ++ a.parities)
    (o.rows ++ b.parities) fits.range a.encoded a.bytes b.encoded b.bytes
    (λ i within. get_or_append_left o.rows a.parities [] i
    (let n = fits.count in omega (arith, within, n))
    ∙ sym (get_or_append_left o.rows b.parities [] i
    (let n = fits.count in omega (arith, within, n)))))

-- the reply, the far state and what the seat keeps
pub record IsOneInstall (new other : FarState) (r q : Reply) (keeps also : Option Kept) : Type 0
  where
    pub reply : r ≡ q
    pub far : new ≡ other
    pub kept : keeps ≡ also

alike : (far new other : FarState) (r q p : Reply) (keeps also kept : Option Kept) → r ≡ p → q ≡ p
    → new ≡ far → other ≡ far → keeps ≡ kept → also ≡ kept
    → IsOneInstall new other r q keeps also
alike far new other r q p keeps also kept a b e f k l =
    record { reply = a ∙ sym b; far = e ∙ sym f; kept = k ∙ sym l }

installs_fix : (far new other : FarState) (r q : Reply) (o : EncodeOrder) (keeps also : Option Kept)
    → IsEncodable o → Installs far new r o keeps → Installs far other q o also
    → IsOneInstall new other r q keeps also
installs_fix far new other r q o keeps also fits (inl a) (inl b) =
    alike far new other r q answer.NoBatch keeps also (Some (Encode o)) a.0.reply b.0.reply
    a.0.state b.0.state a.1 b.1
installs_fix far new other r q o keeps also fits (inl a) (inr (inl b)) =
    absurd (leaving_or_not far b.0.batch b.0.there a.0.none)
installs_fix far new other r q o keeps also fits (inl a) (inr (inr b)) =
    absurd (leaving_or_not far b.0.batch b.0.there a.0.none)
installs_fix far new other r q o keeps also fits (inr (inl a)) (inl b) =
    absurd (leaving_or_not far a.0.batch a.0.there b.0.none)
installs_fix far new other r q o keeps also fits (inr (inr a)) (inl b) =
    absurd (leaving_or_not far a.0.batch a.0.there b.0.none)
installs_fix far new other r q o keeps also fits (inr (inl a)) (inr (inl b)) =
    alike far new other r q (answer.Changed (record { n = o.set })) keeps also (Some (Encode o))
    a.0.reply b.0.reply a.0.state b.0.state a.1 b.1
installs_fix far new other r q o keeps also fits (inr (inl a)) (inr (inr b)) =
    absurd (a.0.other (ap (λ (c : LeavingState). c.set)
    (some_same a.0.batch b.0.batch (sym a.0.there ∙ b.0.there)) ∙ b.0.same))
installs_fix far new other r q o keeps also fits (inr (inr a)) (inr (inl b)) =
    absurd (b.0.other (ap (λ (c : LeavingState). c.set)
    (some_same b.0.batch a.0.batch (sym b.0.there ∙ a.0.there)) ∙ a.0.same))
installs_fix far new other r q o keeps also fits (inr (inr a)) (inr (inr b)) =
    let batches = some_same a.0.batch b.0.batch (sym a.0.there ∙ b.0.there) in
    let parities = parities_one o far new other r q fits a.0 b.0 in record {
      reply = a.0.reply ∙ sym b.0.reply;
      far = a.0.state ∙ (λ i. with_made far (batches i) (parities i)) ∙ sym b.0.state;
      kept = a.1 ∙ sym b.1;
    }

pub install_step_fixes : (far new other : FarState) (r q : Reply) (order keeps also : Option Kept)
    → ((o : EncodeOrder) → order ≡ Some (Encode o) → IsEncodable o)
    → InstallStep far new r order keeps → InstallStep far other q order also
    → IsOneInstall new other r q keeps also
install_step_fixes far new other r q None keeps also fits a b =
    alike far new other r q answer.NoOrder keeps also None a.0.reply b.0.reply a.0.state b.0.state
    a.1 b.1
install_step_fixes far new other r q (Some (Decode o)) keeps also fits a b =
    alike far new other r q answer.NoOrder keeps also (Some (Decode o)) a.0.reply b.0.reply
    a.0.state b.0.state a.1 b.1
install_step_fixes far new other r q (Some (Encode o)) keeps also fits a b =
    installs_fix far new other r q o keeps also (fits o refl) a b
