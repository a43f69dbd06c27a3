-- What the lines of a lane add to the record of its pass backs their answers.
use Rattle.std.proofs.Common.{◌≡◌, ℕ, Bool, true, false, cond, List, [], ◌∷◌, ◌++◌, length, Option}
use Rattle.std.proofs.Common.{None, Some, ◌⊎◌, inl, inr, ⊎_elim, sym, refl, ap, ◌∙◌, subst}
use Rattle.std.proofs.Common.{append_assoc}
use Rattle.std.specs.Str.{bytes_eq}
use Rattle.std.proofs.lemmas.List.{append-nil}
use Rattle.std.proofs.lemmas.Option.{same_Some}
use Rattle.cb_types.specs.declared.answer.Answer.{Answer}
use Rattle.cb_types.specs.declared.config.Config.{Config}
use Rattle.cb_types.specs.declared.handle.Handle.{Handle}
use Rattle.cb_types.specs.declared.job.Job.TheVariants as job
use Rattle.cb_types.specs.declared.reply.Reply.{Reply}
use Rattle.cb_types.specs.declared.reply.Reply.TheVariants as answer
use Rattle.cb_types.specs.declared.request.Request.{Request}
use Rattle.cb_types.specs.declared.request.Request.TheVariants.{Make}
use Rattle.cb_types.specs.Requests.{name_of}
use Rattle.cb_model.specs.Called.{first_of, handle_for, handle_made, handle_named, handle_of}
use Rattle.cb_world.specs.declared.entry.Entry.{Entry}
use Rattle.cb_world.specs.Written.{entry}
use Rattle.cb_rule.specs.declared.view.View.{View}
use Rattle.cb_rule.specs.Lists.{Has}
use Rattle.cb_rule.specs.Steps.{Knows}
use Rattle.cb_record.specs.Backs.{Backs}
use Rattle.cb_record.specs.Parts.{Part, grown, nothing_more, sum}
use Rattle.cb_record.specs.Told.{told, tolds}
use Rattle.cb_record.proofs.Laws.{backs_sum, idle_backs}
use Rattle.cb_shared.specs.Calls.{TurnGives}
use Rattle.cb_shared.specs.Joining.{unpinned_all}
use Rattle.cb_script.specs.declared.script.Line.{Line}
use Rattle.cb_lanes.specs.declared.body.Named.{Named}
use Rattle.cb_lanes.specs.Bodies.{AddsBacked, AnswersOne, AreNamesOf, KeepHandles, KnowsKept}
use Rattle.cb_lanes.specs.Bodies.{LaneGoes, LinesGo, handle_among, handle_behind}
use Rattle.cb_lanes.specs.LineGoes.{Goes, LineGoes}
use Rattle.cb_lanes.specs.Names.{AreKept, KeptNames, kept_for, kept_number, number_after}
use Rattle.cb_lanes.specs.Names.{request_handle}
use Rattle.cb_lanes.specs.Passing.{goes_in}
use Rattle.cb_lanes.proofs.LineParts.{Adds, about, adds_knows, adds_none, adds_sum, line_adds}
use Rattle.cb_lanes.proofs.LineParts.{told_as}

-- ---- the handles of names
pub first_assoc : (a b c : Option ℕ) → first_of (first_of a b) c ≡ first_of a (first_of b c)
first_assoc (Some x) b c = refl
first_assoc None b c = refl

pub first_none : (a : Option ℕ) → a ≡ first_of a None
first_none (Some x) = refl
first_none None = refl

pub handle_append : (given before : List Answer) (name : List ℕ)
    → handle_of (given ++ before) name ≡ first_of (handle_of before name) (handle_of given name)
handle_append [] before name = first_none (handle_of before name)
handle_append (a ∷ given) before name =
    ap (λ (o : Option ℕ). first_of o (handle_made name a.request a.reply))
    (handle_append given before name)
    ∙ first_assoc (handle_of before name) (handle_of given name)
    (handle_made name a.request a.reply)

pub named_behind : (names : List Named) (given before : List Answer) (o : Option (List ℕ))
    → AreNamesOf names given → handle_named (given ++ before) o ≡ handle_behind names before o
named_behind names given before None are = refl
named_behind names given before (Some name) are = handle_append given before name
    ∙ ap (first_of (handle_of before name)) (are name)

pub about_for : (before : List Answer) (q : Request) (r : Reply)
    → handle_for before q r ≡ about (handle_named before (name_of q)) q r
about_for before (Make name bytes) (answer.Made handle version) = refl
about_for before (Make name bytes) r = refl
about_for before q r = refl

-- ---- all lines
abbrev pub LinesAdd : List Named → List Answer → View → List Answer → View → Type 0
LinesAdd names before v after w = (d : Part) × Adds v d w
    × ((given : List Answer) → AreNamesOf names given → Backs d (tolds (given ++ before) after))

lines_more : (c : Config) (names : List Named) (before after : List Answer) (x : Answer)
    (v m w : View)
    → LineGoes (goes_in c) (handle_behind names before (name_of x.request)) x.request v x.reply m
    → LinesAdd names (before ++ x ∷ []) m after w → LinesAdd names before v (x ∷ after) w
lines_more c names before after x v m w goes later = (
  sum one.0 later.0,
  adds_sum v m w one.0 later.0 one.1 later.1,
  λ given are. backs_sum one.0 later.0 (told (given ++ before) x ∷ [])
      (tolds ((given ++ before) ++ x ∷ []) after)
      (subst (λ (o : Option ℕ). Backs one.0 (told_as o x.request x.reply ∷ []))
      (sym (about_for (given ++ before) x.request x.reply ∙ ap (λ (o : Option ℕ).
      about o x.request x.reply) (named_behind names given before (name_of x.request) are))) one.2)
      (subst (λ (l : List Answer). Backs later.0 (tolds l after))
      (sym (append_assoc given before (x ∷ []))) (later.2 given are)),
)
  where
    h : Option ℕ
    h = handle_behind names before (name_of x.request)

    one : (d : Part) × Adds v d m
        × Backs d (told_as (about h x.request x.reply) x.request x.reply ∷ [])
    one = line_adds c h x.request x.reply v m goes

pub lines_add : (c : Config) (names : List Named) (before after : List Answer) (v w : View)
    → LinesGo (goes_in c) names before v after w → LinesAdd names before v after w
lines_add c names before [] v w is =
    (nothing_more, adds_none v w is, λ given are. idle_backs nothing_more refl refl)
lines_add c names before (x ∷ after) v w (m, goes, rest) =
    lines_more c names before after x v m w goes
    (lines_add c names (before ++ x ∷ []) after m w rest)

pub lane_adds : (c : Config) (names : List Named) (answers : List Answer) (v w : View)
    → v.pins ≡ [] → LaneGoes c names v answers w → AddsBacked names answers v w
lane_adds c names answers v w none (m, lines, left) = record {
  part = all.0;
  own = m.own;
  grows = left ∙ ap unpinned_all all.1
      ∙ (λ i. record (grown all.0 v) { own = m.own; pins = sym none i });
  backs = λ given are. subst (λ (l : List Answer). Backs all.0 (tolds l answers)) (append-nil given)
      (all.2 given are);
}
  where
    all : LinesAdd names [] v answers m
    all = lines_add c names [] answers v m lines

-- ---- one line more
pub lines_push : {A : Type 0} (goes : Goes A) (names : List Named) (before xs : List Answer)
    (x : Answer) (a m b : A) → LinesGo goes names before a xs m
    → LineGoes goes (handle_behind names (before ++ xs) (name_of x.request)) x.request m x.reply b
    → LinesGo goes names before a (xs ++ x ∷ []) b
lines_push {A = A} goes names before [] x a m b is one = (
  b,
  subst (λ (z : A). LineGoes goes (handle_behind names before (name_of x.request)) x.request z
      x.reply b) is
      (subst (λ (l : List Answer). LineGoes goes (handle_behind names l (name_of x.request))
      x.request m x.reply b) (append-nil before) one),
  refl,
)
lines_push goes names before (y ∷ xs) x a m b (k, first, rest) one = (
  k,
  first,
  lines_push goes names (before ++ y ∷ []) xs x k m b rest
      (subst (λ (l : List Answer). LineGoes goes (handle_behind names l (name_of x.request))
      x.request m x.reply b) (sym (append_assoc before (y ∷ []) xs)) one),
)

-- ---- the handles that are kept
number_made : (kept : KeptNames) (q : Request) (r : Reply) (name : List ℕ)
    → number_after kept q r name ≡ first_of (handle_made name q r) (kept_number kept name)
number_made kept (Make made bytes) (answer.Made handle version) name = by (bytes_eq made name)
  where
    by : (b : Bool) → cond b (Some handle.n) (kept_number kept name)
        ≡ first_of (cond b (Some handle.n) None) (kept_number kept name)
    by true = refl
    by false = refl
number_made kept (Make made bytes) r name = refl
number_made kept q r name = refl

pub handles_push : (names : List Named) (kept later : KeptNames) (answers : List Answer)
    (a : Answer)
    → KeepHandles kept names answers → AreKept kept a.request a.reply later
    → KeepHandles later names (answers ++ a ∷ [])
handles_push names kept later answers a keep are name = are name
    ∙ number_made kept a.request a.reply name
    ∙ ap (first_of (handle_made name a.request a.reply)) (keep name)
    ∙ sym (first_assoc (handle_made name a.request a.reply) (handle_of answers name)
    (handle_among names name))
    ∙ ap (λ (o : Option ℕ). first_of o (handle_among names name))
    (sym (handle_append answers (a ∷ []) name))

pub handle_kept : (names : List Named) (kept : KeptNames) (answers : List Answer)
    (o : Option (List ℕ))
    → KeepHandles kept names answers → kept_for kept o ≡ handle_behind names answers o
handle_kept names kept answers None keep = refl
handle_kept names kept answers (Some name) keep = keep name

-- ---- the pass knows each of them
pub made_known : (c : Config) (bytes : List ℕ) (handle : Handle) (version : ℕ) (v w : View)
    → TurnGives c (job.Make bytes) (answer.Made handle version) v w → Knows handle.n w
made_known c bytes handle version v w (d, x, is) =
    subst (Knows handle.n) (sym is) (subst (λ (z : Part). Knows handle.n (grown z v)) (sym x.part)
    (subst (λ (z : Part). Knows handle.n (grown (sum x.before z) v)) (sym x.ends_so.1.part)
    (inl (
      e,
      subst (λ (l : List Entry). Has e ((l ++ x.before.written) ++ v.written))
          (sym x.ends_so.1.wrote.2) (inl refl),
      refl,
    ))))
  where
    e : Entry
    e = entry handle.n version (length bytes) [] x.ends_so.1.wrote.0

-- the line made the object of this handle
record IsMakeLine (q : Request) (r : Reply) (k : ℕ) : Type 0 where
  pub name : List ℕ
  pub bytes : List ℕ
  pub handle : Handle
  pub version : ℕ
  pub request : q ≡ Make name bytes
  pub reply : r ≡ answer.Made handle version
  pub number : handle.n ≡ k

number_case : (kept : KeptNames) (q : Request) (r : Reply) (name : List ℕ) (k : ℕ)
    → number_after kept q r name ≡ Some k → (kept_number kept name ≡ Some k) ⊎ IsMakeLine q r k
number_case kept (Make made bytes) (answer.Made handle version) name k is =
    by (bytes_eq made name) is
  where
    by : (b : Bool) → cond b (Some handle.n) (kept_number kept name) ≡ Some k
        → (kept_number kept name ≡ Some k)
        ⊎ IsMakeLine (Make made bytes) (answer.Made handle version) k
    by true same = inr (record {
      name = made;
      bytes = bytes;
      handle = handle;
      version = version;
      request = refl;
      reply = refl;
      number = same_Some handle.n k same;
    })
    by false same = inl same
number_case kept (Make made bytes) r name k is = inl is
number_case kept q r name k is = inl is

made_knows : (c : Config) (h : Option ℕ) (q : Request) (r : Reply) (v w : View) (k : ℕ)
    → LineGoes (goes_in c) h q v r w → IsMakeLine q r k → Knows k w
made_knows c h q r v w k goes x = subst (λ (n : ℕ). Knows n w) x.number
    (made_known c x.bytes x.handle x.version v w
    (subst (λ (z : Reply). LineGoes (goes_in c) h (Make x.name x.bytes) v z w) x.reply
    (subst (λ (z : Request). LineGoes (goes_in c) h z v r w) x.request goes)))

pub kept_known : (c : Config) (line : Line) (kept later : KeptNames) (answers all : List Answer)
    (v w : View) → KnowsKept kept v → AnswersOne c line kept later answers all v w
    → KnowsKept later w
kept_known c line kept later answers all v w knows x name k is = ⊎_elim
    (λ (same : kept_number kept name ≡ Some k). adds_knows k v w one.0 one.1 (knows name k same))
    (λ (made : IsMakeLine line.request x.reply k).
    made_knows c (request_handle kept line.request) line.request x.reply v w k x.goes made)
    (number_case kept line.request x.reply name k (sym (x.keeps name) ∙ is))
  where
    one : (d : Part) × Adds v d w × Backs d (told_as (about (request_handle kept line.request)
        line.request x.reply) line.request x.reply ∷ [])
    one = line_adds c (request_handle kept line.request) line.request x.reply v w x.goes
