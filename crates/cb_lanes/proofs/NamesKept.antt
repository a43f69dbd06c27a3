-- The names that are kept.
use Rattle.std.proofs.Common.{◌≡◌, ℕ, ◌<◌, Bool, true, false, cond, List, Option, Some, None, refl}
use Rattle.std.proofs.Common.{sym, ap, ◌∙◌, subst}
use Rattle.std.specs.Option.{option_map}
use Rattle.std.specs.HashMap.{IsReordered, UpdatesBy}
use Rattle.std.specs.Str.{bytes_eq}
use Rattle.std.proofs.lemmas.Map.Text.{hash_map_updates_str}
use Rattle.cb_types.specs.declared.handle.Handle.{Handle}
use Rattle.cb_types.specs.declared.request.Request.TheVariants.{Make}
use Rattle.cb_types.specs.declared.reply.Reply.{Reply}
use Rattle.cb_types.specs.declared.reply.Reply.TheVariants as reply
use Rattle.cb_lanes.specs.Names.{KeptNames, kept_handle, kept_number, kept_for, AreKept, AreNamed}
use Rattle.cb_lanes.specs.MayAsk.{StayNamed}

mapped : (test : Bool) (here other : Option Handle) (found : Option Handle)
    → found ≡ cond test here other
    → option_map (λ (h : Handle). h.n) found
    ≡ cond test (option_map (λ (h : Handle). h.n) here) (option_map (λ (h : Handle). h.n) other)
mapped true here other found e = ap (option_map (λ (h : Handle). h.n)) e
mapped false here other found e = ap (option_map (λ (h : Handle). h.n)) e

-- a make that was given a handle has it kept under its name
pub made_names : (names kept : KeptNames) (name bytes text : List ℕ) (handle : Handle) (version : ℕ)
    → text ≡ name
    → UpdatesBy (λ x y. bytes_eq x.now y.now) (λ k. bytes_eq text k.now) names kept
    (Some handle)
    → AreKept names (Make name bytes) (reply.Made handle version) kept
made_names names kept name bytes text handle version same updates q =
    rw same at (mapped (bytes_eq text q) (Some handle) (kept_handle names q) (kept_handle kept q)
    (hash_map_updates_str text names kept (Some handle) updates q))

-- the handle of a name is within the bound of all
pub name_within : (names : KeptNames) (made : ℕ) (name : Option (List ℕ)) (h : ℕ)
    → ((q : List ℕ) (k : ℕ) → kept_number names q ≡ Some k → k < made)
    → kept_for names name ≡ Some h → h < made
name_within names made None h within e = absurd cc
name_within names made (Some q) h within e = within q h e

-- ---- the handles that may be named

-- one more name, whose handle may be named
pub made_ready : (named after : ℕ → Type 0) (names kept : KeptNames) (name bytes : List ℕ)
    (handle : Handle)
    (version : ℕ) → AreNamed named names → StayNamed named after → after handle.n
    → AreKept names (Make name bytes) (reply.Made handle version) kept → AreNamed after kept
made_ready named after names kept name bytes handle version ready stay own are q h e =
    decide (bytes_eq name q) (sym (are q) ∙ e)
  where
    decide : (test : Bool) → cond test (Some handle.n) (kept_number names q) ≡ Some h → after h
    decide true is = let same : handle.n ≡ h = cc in subst after same own
    decide false is = stay h (ready q h is)

-- ---- room for one more, which leaves the names as they are
pub reordered : (names kept : KeptNames) → IsReordered (λ x y. bytes_eq x.now y.now) names kept
    → (q : List ℕ) → kept_number kept q ≡ kept_number names q
reordered names kept same q =
    ap (option_map (λ (h : Handle). h.n)) (same.2 (record { ref_ptr = (0, 0); now = q }))

pub made_behind : (names room kept : KeptNames) (name bytes : List ℕ) (handle : Handle)
    (version : ℕ)
    → ((q : List ℕ) → kept_number room q ≡ kept_number names q)
    → AreKept room (Make name bytes) (reply.Made handle version) kept
    → AreKept names (Make name bytes) (reply.Made handle version) kept
made_behind names room kept name bytes handle version same are q =
    are q ∙ ap (cond (bytes_eq name q) (Some handle.n)) (same q)

pub refused_names : (names room : KeptNames) (name bytes : List ℕ) (r : Reply)
    → ((handle : Handle) (version : ℕ) → r ≡ reply.Made handle version → ⊥)
    → ((q : List ℕ) → kept_number room q ≡ kept_number names q)
    → AreKept names (Make name bytes) r room
refused_names names room name bytes (reply.Made handle version) off same q =
    absurd (off handle version refl)
refused_names names room name bytes r off same q = same q

pub refused_ready : (named after : ℕ → Type 0) (names room : KeptNames) → AreNamed named names
    → StayNamed named after → ((q : List ℕ) → kept_number room q ≡ kept_number names q)
    → AreNamed after room
refused_ready named after names room ready stay same q h e = stay h (ready q h (sym (same q) ∙ e))
