-- The record of a lane's pass knows the objects of the names that its lines have handles of.
use Rattle.std.proofs.Common.{◌≡◌, ℕ, Bool, true, false, if◌then◌else◌, List, [], ◌∷◌, ◌++◌, Option}
use Rattle.std.proofs.Common.{None, Some, sym, ◌∙◌, subst}
use Rattle.std.specs.Str.{bytes_eq}
use Rattle.cb_types.specs.declared.answer.Answer.{Answer}
use Rattle.cb_types.specs.declared.config.Config.{Config}
use Rattle.cb_types.specs.declared.reply.Reply.{Reply}
use Rattle.cb_types.specs.declared.reply.Reply.TheVariants as answer
use Rattle.cb_types.specs.declared.request.Request.{Request}
use Rattle.cb_types.specs.declared.request.Request.TheVariants.{Make}
use Rattle.cb_types.specs.Requests.{name_of}
use Rattle.cb_model.specs.Called.{first_of, handle_made}
use Rattle.cb_rule.specs.declared.view.View.{View}
use Rattle.cb_rule.specs.Steps.{Knows}
use Rattle.cb_lanes.specs.declared.body.Named.{Named}
use Rattle.cb_lanes.specs.Bodies.{KnowsNames, handle_behind}
use Rattle.cb_lanes.specs.LineGoes.{LineGoes}
use Rattle.cb_lanes.specs.Passing.{goes_in}
use Rattle.cb_lanes.proofs.LaneScopes.{number_more}
use Rattle.cb_lanes.proofs.LineParts.{adds_knows, line_adds}
use Rattle.cb_lanes.proofs.LinesBack.{made_known}
use Rattle.cb_lanes.proofs.NamesAmong.{among_known}
use Rattle.std.proofs.lemmas.Option.{same_Some}

-- each name that has a handle behind these answers is of an object that the record knows
abbrev pub KnowsBehind : List Named → List Answer → View → Type 0
KnowsBehind names before v =
    (name : List ℕ) (h : ℕ) → handle_behind names before (Some name) ≡ Some h → Knows h v

pub knows_first : (names : List Named) (v : View) → KnowsNames v names → KnowsBehind names [] v
knows_first names v known name h is = among_known names v name h known is

pub knows_named : (names : List Named) (before : List Answer) (v : View) (o : Option (List ℕ))
    (h : ℕ)
    → KnowsBehind names before v → handle_behind names before o ≡ Some h → Knows h v
knows_named names before v (Some name) h knows is = knows name h is
knows_named names before v None h knows is = absurd cc

module _ (c : Config) where
  made_here : (o : Option ℕ) (q : Request) (r : Reply) (name : List ℕ) (k : ℕ) (v m : View)
      → LineGoes (goes_in c) o q v r m → handle_made name q r ≡ Some k → Knows k m
  made_here o (Make made bytes) (answer.Made handle version) name k v m goes is =
      by (bytes_eq made name) is
    where
      by : (b : Bool) → (if b then Some handle.n else None) ≡ Some k → Knows k m
      by true e = subst (λ (n : ℕ). Knows n m) (same_Some handle.n k e)
          (made_known c bytes handle version v m goes)
      by false e = absurd cc
  made_here o (Make made bytes) r name k v m goes is = absurd cc
  made_here o q r name k v m goes is = absurd cc

  pub knows_next : (names : List Named) (before : List Answer) (a : Answer) (v m : View)
      → KnowsBehind names before v
      → LineGoes (goes_in c) (handle_behind names before (name_of a.request)) a.request v a.reply m
      → KnowsBehind names (before ++ a ∷ []) m
  knows_next names before a v m knows goes name k is =
      by (handle_made name a.request a.reply)
      (λ made. made_here (handle_behind names before (name_of a.request)) a.request a.reply name k v
      m goes made)
      (sym (number_more names before a name) ∙ is)
    where
      by : (o : Option ℕ) → (o ≡ Some k → Knows k m)
          → first_of o (handle_behind names before (Some name)) ≡ Some k → Knows k m
      by (Some n) made e = made e
      by None made e =
          let one = line_adds c (handle_behind names before (name_of a.request)) a.request a.reply v
          m goes in
          adds_knows k v m one.0 one.1 (knows name k e)
