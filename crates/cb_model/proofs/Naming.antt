-- Answers as calls, one after the other.
use Rattle.std.proofs.Common.{◌≡◌, ℕ, List, [], ◌∷◌, ◌++◌, Option, Some, None, refl, sym, ap, ◌∙◌, append_assoc}
use Rattle.std.proofs.lemmas.List.{append-nil}
use Rattle.cb_types.specs.declared.answer.Answer.{Answer}
use Rattle.cb_model.specs.Called.{Called, first_of, handle_made, handle_of, called, calls_behind, calls_of}
use Rattle.cb_model.specs.Legal.{IsMapReply, Follow}

-- one answer more is one call more
calls_behind-push : (before after : List Answer) (a : Answer)
    → calls_behind before (after ++ a ∷ []) ≡ calls_behind before after ++ called (before ++ after) a ∷ []
calls_behind-push before [] a =
    ap (λ (xs : List Answer). called xs a ∷ []) (sym (append-nil before))
calls_behind-push before (b ∷ after) a =
    ap (λ (calls : List Called). called before b ∷ calls) (calls_behind-push (before ++ b ∷ []) after a ∙ ap (λ (xs : List Answer). calls_behind (before ++ b ∷ []) after ++ called xs a ∷ []) (append_assoc before (b ∷ []) after))

pub calls_of-push : (answers : List Answer) (a : Answer)
    → calls_of (answers ++ a ∷ []) ≡ calls_of answers ++ called answers a ∷ []
calls_of-push answers a = calls_behind-push [] answers a

first_of-first_of : (a b c : Option ℕ) → first_of (first_of a b) c ≡ first_of a (first_of b c)
first_of-first_of None b c = refl
first_of-first_of (Some h) b c = refl

last : (a : Option ℕ) → first_of None a ≡ first_of a None
last None = refl
last (Some h) = refl

-- the handle of a name after one more answer
pub handle_of-push : (name : List ℕ) (answers : List Answer) (a : Answer)
    → handle_of (answers ++ a ∷ []) name ≡ first_of (handle_made name a.request a.reply) (handle_of answers name)
handle_of-push name [] a = last (handle_made name a.request a.reply)
handle_of-push name (b ∷ answers) a =
    ap (λ (h : Option ℕ). first_of h (handle_made name b.request b.reply)) (handle_of-push name answers a)
    ∙ first_of-first_of (handle_made name a.request a.reply) (handle_of answers name) (handle_made name b.request b.reply)

-- one more call that is the map's reply
pub Follow-push : (first handles : ℕ) (before calls : List Called) (call : Called)
    → Follow first handles before calls → IsMapReply first handles (before ++ calls) call
    → Follow first handles before (calls ++ call ∷ [])
Follow-push first handles before [] call follow reply = (rw (append-nil before) at reply, tt)
Follow-push first handles before (b ∷ calls) call follow reply =
    (follow.0, Follow-push first handles (before ++ b ∷ []) calls call follow.1 (rw (append_assoc before (b ∷ []) calls) reply))
