-- Answers behind others: what comes before them counts by the handles of names alone.
use Rattle.std.proofs.Common.{◌≡◌, ℕ, List, [], ◌∷◌, ◌++◌, Option, Some, None, sym, refl, ap, ◌∙◌, append_assoc}
use Rattle.std.specs.List.{AllByRecursion}
use Rattle.std.proofs.lemmas.List.{append-nil}
use Rattle.cb_types.specs.declared.answer.Answer.{Answer}
use Rattle.cb_types.specs.declared.reply.Reply.{Reply}
use Rattle.cb_types.specs.declared.reply.Reply.TheVariants as answer
use Rattle.cb_types.specs.declared.request.Request.{Request}
use Rattle.cb_types.specs.declared.request.Request.TheVariants as request
use Rattle.cb_types.specs.Requests.{name_of}
use Rattle.cb_model.specs.Called.{Called, called, calls_behind, first_of, handle_for, handle_made, handle_named, handle_of}
use Rattle.cb_model.specs.Event.{event_of}
use Rattle.cb_model.proofs.Laws.{handle_of-push}
use Rattle.cb_record.specs.Told.{tolds}

-- the calls behind others
pub calls_behind-append : (before xs ys : List Answer)
    → calls_behind before (xs ++ ys) ≡ calls_behind before xs ++ calls_behind (before ++ xs) ys
calls_behind-append before [] ys =
    ap (λ (l : List Answer). calls_behind l ys) (sym (append-nil before))
calls_behind-append before (x ∷ xs) ys = ap (λ (l : List Called). called before x ∷ l)
    (calls_behind-append (before ++ x ∷ []) xs ys ∙ ap (λ (l : List Answer).
    calls_behind (before ++ x ∷ []) xs ++ calls_behind l ys) (append_assoc before (x ∷ []) xs))

named_same : (b c : List Answer) (o : Option (List ℕ))
    → ((name : List ℕ) → o ≡ Some name → handle_of b name ≡ handle_of c name)
    → handle_named b o ≡ handle_named c o
named_same b c None same = refl
named_same b c (Some name) same = same name refl

same_handle : (b c : List Answer) (q : Request) (r : Reply)
    → ((name : List ℕ) → name_of q ≡ Some name → handle_of b name ≡ handle_of c name)
    → handle_for b q r ≡ handle_for c q r
same_handle b c (request.Make name bytes) (answer.Made handle version) same = refl
same_handle b c (request.Make name bytes) r same = refl
same_handle b c q r same = named_same b c (name_of q) same

module _ (P : List ℕ → Type 0) where
  -- both lists give the names the same handles
  abbrev AgreeOn : List Answer → List Answer → Type 0
  AgreeOn b c = (name : List ℕ) → P name → handle_of b name ≡ handle_of c name

  -- the answers name no others
  abbrev pub NameOnly : List Answer → Type 0
  NameOnly xs = AllByRecursion
      (λ (a : Answer). (name : List ℕ) → name_of a.request ≡ Some name → P name) xs

  agree_more : (b c : List Answer) (a : Answer) → AgreeOn b c → AgreeOn (b ++ a ∷ []) (c ++ a ∷ [])
  agree_more b c a agree name p = handle_of-push name b a
      ∙ ap (first_of (handle_made name a.request a.reply)) (agree name p)
      ∙ sym (handle_of-push name c a)

  -- answers are the same calls behind either list
  pub calls_same : (b c xs : List Answer)
      → ((name : List ℕ) → P name → handle_of b name ≡ handle_of c name) → NameOnly xs
      → calls_behind b xs ≡ calls_behind c xs
  calls_same b c [] agree only = refl
  calls_same b c (x ∷ xs) agree only = λ i. record {
    lane = x.lane.n;
    handle = same_handle b c x.request x.reply (λ name is. agree name (only.0 name is)) i;
    event = event_of x.request x.reply;
  } ∷ calls_same (b ++ x ∷ []) (c ++ x ∷ []) xs (agree_more b c x agree) only.1 i

  -- and are told the same
  pub tolds_same : (b c xs : List Answer)
      → ((name : List ℕ) → P name → handle_of b name ≡ handle_of c name) → NameOnly xs
      → tolds b xs ≡ tolds c xs
  tolds_same b c [] agree only = refl
  tolds_same b c (x ∷ xs) agree only = λ i. record {
    handle = same_handle b c x.request x.reply (λ name is. agree name (only.0 name is)) i;
    request = x.request;
    reply = x.reply;
  } ∷ tolds_same (b ++ x ∷ []) (c ++ x ∷ []) xs (agree_more b c x agree) only.1 i
