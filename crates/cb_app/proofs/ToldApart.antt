-- Answers told behind answers of other lanes, which made none of the names that they are about.
use Rattle.std.proofs.Common.{◌≡◌, ℕ, Bool, false, if◌then◌else◌, List, [], ◌∷◌, ◌++◌, map, Option, Some, None, inl, inr, refl, sym, ap, ◌∙◌, append_assoc}
use Rattle.std.specs.Str.{bytes_eq}
use Rattle.std.proofs.lemmas.Bool.{cases_Bool}
use Rattle.std.proofs.lemmas.List.{append-nil}
use Rattle.std.proofs.lemmas.Slice.Eq.{bytes_eq-Decides}
use Rattle.cb_types.specs.declared.answer.Answer.{Answer}
use Rattle.cb_types.specs.declared.request.Request.{Request}
use Rattle.cb_types.specs.declared.request.Request.TheVariants.{Make, Read, Write, Free, Pin, Peek, Unpin, Filter}
use Rattle.cb_types.specs.declared.reply.Reply.{Reply}
use Rattle.cb_types.specs.declared.reply.Reply.TheVariants.{Made}
use Rattle.cb_model.specs.Called.{first_of, handle_for, handle_made, handle_of}
use Rattle.cb_script.specs.Form.{IsNameMade, MakesName}
use Rattle.cb_record.specs.Told.{Told, told, tolds}
use Rattle.cb_lanes.specs.Asked.{asked}
use Rattle.cb_app.specs.ByLane.{IsApart, Uses}
use Rattle.cb_lanes.proofs.Laws.{first_none, handle_append}

-- no lane makes the name
abbrev IsMadeByNone : List Answer → List ℕ → Type 0
IsMadeByNone answers name = (lane : ℕ) → IsNameMade (map asked answers) lane name → ⊥

not_this : (made name : List ℕ) → (made ≡ name → ⊥) → bytes_eq made name ≡ false
not_this made name other = elim (cases_Bool (bytes_eq made name)) [
  | inl same ↦ absurd (other ((bytes_eq-Decides made name).0 same))
  | inr differs ↦ differs
]

makes_no : (r : Request) (reply : Reply) (name : List ℕ) → (MakesName r name → ⊥) → handle_made name r reply ≡ None
makes_no (Make made bytes) (Made handle version) name other =
    ap (λ (b : Bool). if b then Some handle.n else None) (not_this made name other)
makes_no request reply name other = refl

none_made : (answers : List Answer) (name : List ℕ) → IsMadeByNone answers name
    → handle_of answers name ≡ None
none_made [] name none = refl
none_made (a ∷ later) name none =
    ap (λ (h : Option ℕ). first_of h (handle_made name a.request a.reply))
    (none_made later name (λ lane made. none lane (inr made)))
    ∙ makes_no a.request a.reply name (λ makes. none a.lane.n (inl (refl, makes)))

-- answers that make none of a name stay unseen between others
pub unseen : (name : List ℕ) (xs ys zs : List Answer) → IsMadeByNone ys name
    → handle_of (xs ++ (ys ++ zs)) name ≡ handle_of (xs ++ zs) name
unseen name xs ys zs none =
    let left : handle_of (xs ++ (ys ++ zs)) name ≡ first_of (handle_of (ys ++ zs) name) (handle_of xs name) =
    handle_append xs (ys ++ zs) name in
    let mid : handle_of (ys ++ zs) name ≡ handle_of zs name =
    handle_append ys zs name
    ∙ ap (λ (h : Option ℕ). first_of (handle_of zs name) h) (none_made ys name none)
    ∙ sym (first_none (handle_of zs name)) in
    left ∙ ap (λ (h : Option ℕ). first_of h (handle_of xs name)) mid ∙ sym (handle_append xs zs name)

-- what a line is about behind answers of other lanes
about : (r : Request) (reply : Reply) (xs ys zs : List Answer)
    → ((name : List ℕ) → Uses r name → IsMadeByNone ys name)
    → handle_for (xs ++ (ys ++ zs)) r reply ≡ handle_for (xs ++ zs) r reply
about (Make made bytes) (Made handle version) xs ys zs none = refl
about (Make made bytes) reply xs ys zs none = refl
about (Read name) reply xs ys zs none = unseen name xs ys zs (none name refl)
about (Write name at bytes) reply xs ys zs none = unseen name xs ys zs (none name refl)
about (Free name) reply xs ys zs none = unseen name xs ys zs (none name refl)
about (Pin name) reply xs ys zs none = unseen name xs ys zs (none name refl)
about (Peek name) reply xs ys zs none = unseen name xs ys zs (none name refl)
about (Unpin name) reply xs ys zs none = unseen name xs ys zs (none name refl)
about (Filter name) reply xs ys zs none = unseen name xs ys zs (none name refl)
about r reply xs ys zs none = refl

abbrev Told_as : Answer → Option ℕ → Told
Told_as a h = record { handle = h; request = a.request; reply = a.reply }

tolds_beside : (xs ys zs after : List Answer) → IsApart (map asked ys) (map asked after)
    → tolds (xs ++ (ys ++ zs)) after ≡ tolds (xs ++ zs) after
tolds_beside xs ys zs [] apart = refl
tolds_beside xs ys zs (a ∷ after) apart =
    let head : told (xs ++ (ys ++ zs)) a ≡ told (xs ++ zs) a =
    ap (Told_as a) (about a.request a.reply xs ys zs (λ name uses. apart name (inl uses))) in
    let more : (xs ++ (ys ++ zs)) ++ a ∷ [] ≡ xs ++ (ys ++ (zs ++ a ∷ [])) =
    append_assoc xs (ys ++ zs) (a ∷ []) ∙ ap (λ (bs : List Answer). xs ++ bs) (append_assoc ys zs (a ∷ [])) in
    let tail : tolds ((xs ++ (ys ++ zs)) ++ a ∷ []) after ≡ tolds ((xs ++ zs) ++ a ∷ []) after =
    ap (λ (bs : List Answer). tolds bs after) more
    ∙ tolds_beside xs ys (zs ++ a ∷ []) after (λ name used. apart name (inr used))
    ∙ ap (λ (bs : List Answer). tolds bs after) (sym (append_assoc xs zs (a ∷ []))) in
    ap (λ (t : Told). t ∷ tolds ((xs ++ (ys ++ zs)) ++ a ∷ []) after) head
    ∙ ap (λ (ts : List Told). told (xs ++ zs) a ∷ ts) tail

-- answers behind those of other lanes are told as without these
pub tolds_apart : (given others after : List Answer)
    → IsApart (map asked others) (map asked after)
    → tolds (given ++ others) after ≡ tolds given after
tolds_apart given others after apart =
    ap (λ (bs : List Answer). tolds (given ++ bs) after) (sym (append-nil others))
    ∙ tolds_beside given others [] after apart
    ∙ ap (λ (bs : List Answer). tolds bs after) (append-nil given)
