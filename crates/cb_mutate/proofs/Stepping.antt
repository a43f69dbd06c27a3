-- Over a still desk each call on an object is a step: what its rule and its effect say is exact
-- there.
use Rattle.std.proofs.Common.{◌≡◌, ◌⊎◌, ℕ, zero, suc, Bool, ◌+◌, ◌-◌, ◌^◌, ◌≤◌, List, sym, refl, ap, ◌∙◌, subst, arith, inl, inr, if◌then◌else◌, eq-eqb, ne_eqb}
use Rattle.cb_ptr.specs.declared.word.State.{State}
use Rattle.cb_ptr.specs.declared.word.State.TheVariants as state
use Rattle.cb_ptr.specs.Word.{len_of, place_of, pins_of}
use Rattle.cb_types.specs.declared.reply.Reply.{Reply}
use Rattle.cb_types.specs.declared.reply.Reply.TheVariants as answer
use Rattle.cb_world.specs.declared.access.Access.{Access}
use Rattle.cb_world.specs.Memory.{window, words_for}
use Rattle.cb_world.specs.Plain.{Words, Plain}
use Rattle.cb_world.specs.Looks.{IsFound, IsTaken, IsTold, LooksFirst}
use Rattle.cb_world.specs.Touches.{SettlesLast}
use Rattle.cb_world.specs.World.{word_at}
use Rattle.cb_world.specs.StillWords.{stamp_at, contents_at}
use Rattle.cb_world.proofs.Laws.{found_exact, taken_exact, told_exact}
use Rattle.cb_mutate.specs.Answered.{EmptyAnswer, AnsweredAs}
use Rattle.cb_mutate.specs.WriteRule.{NextVersion}
use Rattle.cb_mutate.specs.StillReplies.{empty_reply, reply_as, next_reply, change_reply}

-- what holds of a call by what was found there
pub record IsExact (x : Words) (h : ℕ) (es : List Access) : Type 0 where
  pub found : (w : ℕ) → IsFound h w es → w ≡ word_at x h
  pub taken : (v : ℕ) (words : List ℕ) → IsTaken h v words es
      → (v ≡ stamp_at x h) × (words ≡ contents_at x h)
  pub told : (v : ℕ) → IsTold h v es → v ≡ stamp_at x h

pub is_exact : (x y : Words) (h : ℕ) (es : List Access) → Plain x es y → LooksFirst es
    → SettlesLast es → IsExact x h es
is_exact x y h es run first last = record {
  found = λ w f. sym (found_exact es x y h w run first f);
  taken = λ v words t. let z = taken_exact es x y h v words run first t in
      let at = found_exact es x y h z.0 run first z.1 in (
        z.2,
        z.3 ∙ ap (λ (w : ℕ). window x.memory (place_of w) (words_for (len_of w))) (sym at),
      );
  told = λ v t. told_exact es x y h v run last t;
}

-- the reply r, with what is left then, is the reply q, with what is left then
pub record ComesTo (E C : Reply → Type 0) (r q : Reply) : Type 0 where
  pub reply : r ≡ q
  pub change : C r

pub comes : (E C : Reply → Type 0) (r q : Reply) → r ≡ q → E r → (E q → C q) → ComesTo E C r q
comes E C r q e effect go = record {
  reply = e;
  change = subst C (sym e) (go (subst E e effect));
}

-- what is left by the refusals of an object that is not here
pub record LeavesAbsent (E C : Reply → Type 0) : Type 0 where
  pub unmade : E answer.Unmade → C answer.Unmade
  pub freed : E answer.Freed → C answer.Freed
  pub not_here : E answer.NotHere → C answer.NotHere
  pub moving : E answer.Moving → C answer.Moving

empty_comes : (E C : Reply → Type 0) (v : ℕ) (r : Reply) → LeavesAbsent E C → EmptyAnswer v r → E r
    → ComesTo E C r (empty_reply v)
empty_comes E C zero r l e effect = comes E C r answer.Unmade e effect l.unmade
empty_comes E C (suc v) r l e effect = comes E C r answer.Freed e effect l.freed

-- a call whose reply is by the state of the word
pub reply_comes : (E C : Reply → Type 0) (q : State) (here : ℕ → Type 0) (is : Reply) (w h v : ℕ)
    (es : List Access) (r : Reply) → LeavesAbsent E C → ((u : ℕ) → IsTold h u es → u ≡ v)
    → (q ≡ state.Here → here w → ComesTo E C r is) → AnsweredAs q here w h es r → E r
    → ComesTo E C r (reply_as q v is)
reply_comes E C state.Empty here is w h v es r l told at a effect =
    subst (λ (u : ℕ). ComesTo E C r (empty_reply u)) (told a.0 a.1)
    (empty_comes E C a.0 r l a.2 effect)
reply_comes E C state.Far here is w h v es r l told at a effect =
    comes E C r answer.NotHere a effect l.not_here
reply_comes E C state.Here here is w h v es r l told at a effect = at refl a
reply_comes E C state.Moving here is w h v es r l told at a effect =
    comes E C r answer.Moving a effect l.moving

-- the next version, or worn
pub next_comes : (E C : Reply → Type 0) (v u : ℕ) (r : Reply) → v ≡ u → (E answer.Worn
    → C answer.Worn)
    → (E (answer.Version (u + 1)) → C (answer.Version (u + 1))) → NextVersion v r → E r
    → ComesTo E C r (next_reply u)
next_comes E C v u r same worn next (inl a) effect =
    subst (ComesTo E C r) (ap (λ (b : Bool). if b then answer.Worn else answer.Version (u + 1))
    (sym (eq-eqb u (2 ^ 64 - 1) (sym same ∙ a.0))))
    (comes E C r answer.Worn a.1 effect worn)
next_comes E C v u r same worn next (inr a) effect =
    subst (ComesTo E C r) (ap (λ (b : Bool). if b then answer.Worn else answer.Version (u + 1))
    (sym (ne_eqb u (2 ^ 64 - 1) (λ e. omega (arith, e, same, a.0)))))
    (comes E C r (answer.Version (u + 1)) (a.1 ∙ ap (λ (n : ℕ). answer.Version (n + 1)) same) effect
    next)

-- pinned, or the next version
pub change_comes : (E C : Reply → Type 0) (w v : ℕ) (r : Reply) → E r
    → (E (answer.Pinned (pins_of w)) → C (answer.Pinned (pins_of w)))
    → ((1 ≤ pins_of w) × (r ≡ answer.Pinned (pins_of w)))
    ⊎ ((pins_of w ≡ 0) × ComesTo E C r (next_reply v))
    → ComesTo E C r (change_reply w v)
change_comes E C w v r effect pinned (inl a) =
    subst (ComesTo E C r) (ap (λ (b : Bool). if b then next_reply v else answer.Pinned (pins_of w))
    (sym (ne_eqb (pins_of w) 0 (λ e. omega (arith, e, a.0)))))
    (comes E C r (answer.Pinned (pins_of w)) a.1 effect pinned)
change_comes E C w v r effect pinned (inr a) =
    subst (ComesTo E C r) (ap (λ (b : Bool). if b then next_reply v else answer.Pinned (pins_of w))
    (sym (eq-eqb (pins_of w) 0 a.0))) a.1
