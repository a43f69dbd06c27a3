-- A call that answers NotHere found a far word.
use Rattle.std.proofs.Common.{◌≡◌, ℕ, zero, suc, List, refl, inl, inr}
use Rattle.cb_ptr.specs.declared.word.State.{State}
use Rattle.cb_ptr.specs.declared.word.State.TheVariants as state
use Rattle.cb_types.specs.declared.reply.Reply.{Reply}
use Rattle.cb_types.specs.declared.reply.Reply.TheVariants as answer
use Rattle.cb_world.specs.declared.access.Access.{Access}
use Rattle.cb_mutate.specs.Answered.{EmptyAnswer, AnsweredAs}
use Rattle.cb_mutate.specs.ReadRule.{ReadHere}
use Rattle.cb_mutate.specs.WriteRule.{NextVersion, WriteHere}

empty_not : (v : ℕ) (r : Reply) → EmptyAnswer v r → r ≡ answer.NotHere → ⊥
empty_not zero r a e = cc
empty_not (suc v) r a e = cc

moving_not : (r : Reply) → r ≡ answer.Moving → r ≡ answer.NotHere → ⊥
moving_not r a e = cc

far_answered : (q : State) (by : ℕ → Type 0) (w h : ℕ) (es : List Access) (r : Reply)
    → AnsweredAs q by w h es r → (by w → r ≡ answer.NotHere → ⊥) → r ≡ answer.NotHere
    → q ≡ state.Far
far_answered state.Empty by w h es r a none e = absurd (empty_not a.0 r a.2 e)
far_answered state.Far by w h es r a none e = refl
far_answered state.Here by w h es r a none e = absurd (none a e)
far_answered state.Moving by w h es r a none e = absurd (moving_not r a e)

pub bytes_not : (r : Reply) (v : ℕ) (bytes : List ℕ) → r ≡ answer.Bytes v bytes → r ≡ answer.NotHere → ⊥
bytes_not r v bytes a e = cc

read_not : (h : ℕ) (es : List Access) (r : Reply) (w : ℕ) → ReadHere h es r w → r ≡ answer.NotHere → ⊥
read_not h es r w (inl a) e = bytes_not r _ _ a.1.3 e
read_not h es r w (inr a) e = bytes_not r _ _ a.1.5 e

pub read_far : (q : State) (w h : ℕ) (es : List Access) (r : Reply)
    → AnsweredAs q (ReadHere h es r) w h es r → r ≡ answer.NotHere → q ≡ state.Far
read_far q w h es r a e = far_answered q (ReadHere h es r) w h es r a (read_not h es r w) e

range_not : (r : Reply) (n : ℕ) → r ≡ answer.Range n → r ≡ answer.NotHere → ⊥
range_not r n a e = cc

pinned_not : (r : Reply) (n : ℕ) → r ≡ answer.Pinned n → r ≡ answer.NotHere → ⊥
pinned_not r n a e = cc

worn_not : (r : Reply) → r ≡ answer.Worn → r ≡ answer.NotHere → ⊥
worn_not r a e = cc

version_not : (r : Reply) (n : ℕ) → r ≡ answer.Version n → r ≡ answer.NotHere → ⊥
version_not r n a e = cc

next_not : (v : ℕ) (r : Reply) → NextVersion v r → r ≡ answer.NotHere → ⊥
next_not v r (inl a) e = worn_not r a.1 e
next_not v r (inr a) e = version_not r _ a.1 e

write_not : (h at : ℕ) (bytes : List ℕ) (es : List Access) (r : Reply) (w : ℕ)
    → WriteHere h at bytes es r w → r ≡ answer.NotHere → ⊥
write_not h at bytes es r w (inl a) e = range_not r _ a.1 e
write_not h at bytes es r w (inr (fits, inl a)) e = pinned_not r _ a.1 e
write_not h at bytes es r w (inr (fits, inr (free, d))) e = next_not d.0 r d.3 e

pub write_far : (q : State) (w h at : ℕ) (bytes : List ℕ) (es : List Access) (r : Reply)
    → AnsweredAs q (WriteHere h at bytes es r) w h es r → r ≡ answer.NotHere → q ≡ state.Far
write_far q w h at bytes es r a e =
    far_answered q (WriteHere h at bytes es r) w h es r a (write_not h at bytes es r w) e
