-- What a lane has by itself goes along with the answers, one by one.
use Rattle.std.proofs.Common.{◌≡◌, ◌≢◌, ◌⊎◌, ℕ, ◌<◌, ◌≤◌, Bool, true, false, ◌&&◌, ◌||◌, List, []}
use Rattle.std.proofs.Common.{◌∷◌, ◌++◌, length, fold, Option, None, Some, refl, sym, ap, ◌∙◌}
use Rattle.std.proofs.Common.{subst, arith, inl, inr, eq-eqb, ne_eqb, nat_eq, if◌then◌else◌}
use Rattle.std.specs.Str.{bytes_eq}
use Rattle.std.proofs.lemmas.Bool.{cases_Bool, eqb-true, true≢false, false≢true, and_parts}
use Rattle.std.proofs.lemmas.List.Sums.{fold_push}
use Rattle.cb_types.specs.declared.answer.Answer.{Answer}
use Rattle.cb_types.specs.declared.handle.Handle.{Handle}
use Rattle.cb_types.specs.declared.request.Request.{Request}
use Rattle.cb_types.specs.declared.request.Request.TheVariants.{Make, Read, Write, Free, Pin, Peek}
use Rattle.cb_types.specs.declared.request.Request.TheVariants.{Unpin, Filter, Leave}
use Rattle.cb_types.specs.declared.reply.Reply.{Reply}
use Rattle.cb_types.specs.declared.reply.Reply.TheVariants as answer
use Rattle.cb_types.specs.Requests.{name_of}
use Rattle.cb_types.specs.Table.{IsReplyOf}
use Rattle.cb_model.specs.Now.{MapNow}
use Rattle.cb_model.specs.Event.{Event, Subject, change_of, event_of, refusal}
use Rattle.cb_model.specs.Event.Subject.{Contents, Other, Nothing}
use Rattle.cb_model.specs.Event.Event.{Makes, Writes, Frees}
use Rattle.cb_model.specs.Called.{calls_of, handle_for, handle_made, handle_named, handle_of, makes}
use Rattle.cb_model.specs.Called.{value_at}
use Rattle.cb_model.specs.Legal.{IsUnmadeRight}
use Rattle.cb_model.specs.Replies.{MapReplies}
use Rattle.cb_script.specs.declared.script.Line.{Line}
use Rattle.cb_lanes.specs.Alone.{AloneSays, HasOwnLines, IsCalmReply, KeepAlone, LaneState}
use Rattle.cb_lanes.specs.Alone.{alone_after, alone_more, named_objects_after, fresh_lane, is_leave}
use Rattle.cb_lanes.specs.Alone.{is_maker, is_maker_of, is_own, leaves, now_after, now_named}
use Rattle.cb_lanes.specs.Alone.{own_name, peek_alone, pin_alone, pins_shared, read_alone}
use Rattle.cb_lanes.specs.Alone.{free_alone, unpin_alone, write_alone}
use Rattle.cb_lanes.specs.Scopes.{PinnedSays, Scope, ScopeSays, named_on, newest_on, scope_after}
use Rattle.cb_lanes.specs.Scopes.{scope_more, scope_of, without_newest}
use Rattle.cb_lanes.proofs.AloneReplies.{PinsTell, free_says, make_says, peek_says, pin_says}
use Rattle.cb_lanes.proofs.AloneReplies.{read_says, unpin_says, write_says}
use Rattle.cb_lanes.proofs.AloneValues.{made_value, other_value, own_value, quiet_value}
use Rattle.cb_lanes.proofs.AloneValues.{value_named}
use Rattle.cb_lanes.proofs.PinLists.{name_cases}

-- What a lane has by itself is what the map and the scopes have after these answers.
pub record StandsAlone (lines : List Line) (lane : ℕ) (before : List Answer)
    (state : LaneState) : Type 0
  where
    pub scope : state.scope ≡ scope_of lane before
    pub objects : (q : List ℕ) → is_maker lines lane q ≡ true
        → now_named q state.objects ≡ value_named before q
    pub others : (q : List ℕ) → is_maker lines lane q ≡ false → newest_on q state.scope ≡ None

-- What is known of the next answer: it is the map's and that of its lane's scope, one of the line's
-- and calm; a change of the lane's own object tells the lane's own pins; no two names have one
-- handle; and its name is made by its lane, or by lane 0.
pub record Telling (lines : List Line) (handles : ℕ) (before : List Answer) (asker : ℕ)
    (request : Request)
    (r : Reply) : Type 0 where
  pub map : MapReplies 1 handles (makes (calls_of before)) (handle_for before request r)
      (value_at (calls_of before) (handle_for before request r)) (event_of request r)
  pub right : IsUnmadeRight (handle_for before request r) (event_of request r)
  pub says : ScopeSays (handle_named before (name_of request)) (scope_of asker before) request r
  pub line : IsReplyOf request r
  pub calm : IsCalmReply r
  pub pins : (name : List ℕ) → name_of request ≡ Some name → is_maker lines asker name ≡ true
      → 1 ≤ asker
      → PinsTell (value_named before name) (named_on name (scope_of asker before)) request r
  pub apart : (p q : List ℕ) (h : ℕ) → handle_of before p ≡ Some h → handle_of before q ≡ Some h
      → p ≡ q
  pub within : (q : List ℕ) (h : ℕ) → handle_of before q ≡ Some h → h < makes (calls_of before)
  pub makers : (k m : ℕ) (q : List ℕ) → is_maker lines k q ≡ true → is_maker lines m q ≡ true
      → k ≡ m
  pub maker : (name : List ℕ) → name_of request ≡ Some name
      → (is_maker lines asker name ≡ true) ⊎ (is_maker lines 0 name ≡ true)
  pub shared : HasOwnLines lines asker → pins_shared lines request ≡ false

-- ---- the reply

-- a change of an object that has no handle is not refused as pinned
none_pinned : (name : List ℕ) (at : ℕ) (bytes : List ℕ) (handles made own : ℕ) (r : Reply)
    → MapReplies 1 handles made None None (event_of (Write name at bytes) r) → PinnedSays own r
none_pinned name at bytes handles made own r m count is = absurd
    (subst (λ (q : Reply). MapReplies 1 handles made None None (event_of (Write name at bytes) q))
    is m)

none_pinned_free : (name : List ℕ) (handles made own : ℕ) (r : Reply)
    → MapReplies 1 handles made None None (event_of (Free name) r) → PinnedSays own r
none_pinned_free name handles made own r m count is = absurd
    (subst (λ (q : Reply). MapReplies 1 handles made None None (event_of (Free name) q)) is m)

module _ (handles : ℕ) (before : List Answer) (scope : Scope) (name : List ℕ) (r : Reply) where
  abbrev pub RepliesAlone : Option ℕ → Event → Type 0
  RepliesAlone o event = MapReplies 1 handles (makes (calls_of before)) o
      (value_at (calls_of before) o) event

  write_pinned : (at : ℕ) (bytes : List ℕ) (o : Option ℕ)
      → ScopeSays o scope (Write name at bytes) r
      → RepliesAlone o (event_of (Write name at bytes) r) → PinnedSays (named_on name scope) r
  write_pinned at bytes None says m =
      none_pinned name at bytes handles (makes (calls_of before)) (named_on name scope) r m
  write_pinned at bytes (Some h) says m = says

  free_pinned : (o : Option ℕ) → ScopeSays o scope (Free name) r
      → RepliesAlone o (event_of (Free name) r)
      → PinnedSays (named_on name scope) r
  free_pinned None says m =
      none_pinned_free name handles (makes (calls_of before)) (named_on name scope) r m
  free_pinned (Some h) says m = says

  pin_by : (o : Option ℕ) → ScopeSays o scope (Pin name) r → RepliesAlone o (event_of (Pin name) r)
      → IsUnmadeRight o (event_of (Pin name) r) → IsReplyOf (Pin name) r → IsCalmReply r
      → r ≡ pin_alone (value_at (calls_of before) o) (length scope)
  pin_by None says m right line calm = says
  pin_by (Some h) says m right line calm =
      pin_says name handles (makes (calls_of before)) h (value_at (calls_of before) (Some h))
      (length scope) r m
      right line calm says.0 says.1

  peek_by : (o : Option ℕ) → ScopeSays o scope (Peek name) r
      → RepliesAlone o (event_of (Peek name) r)
      → r ≡ peek_alone (value_at (calls_of before) o) (newest_on name scope)
  peek_by None says m = says
  peek_by (Some h) says m =
      peek_says name handles (makes (calls_of before)) h (value_at (calls_of before) (Some h))
      (newest_on name scope) r m says

  unpin_by : (o : Option ℕ) → ScopeSays o scope (Unpin name) r
      → RepliesAlone o (event_of (Unpin name) r)
      → r ≡ unpin_alone (value_at (calls_of before) o) (newest_on name scope)
  unpin_by None says m = says
  unpin_by (Some h) says m =
      unpin_says name handles (makes (calls_of before)) h (value_at (calls_of before) (Some h))
      (newest_on name scope) r m says

-- so each of the lane's own lines is answered as the lane is by itself
pub alone_says : (lines : List Line) (handles : ℕ) (before : List Answer) (asker lane : ℕ)
    (state : LaneState)
    (request : Request) (r : Reply) → Telling lines handles before asker request r
    → StandsAlone lines lane before state → 1 ≤ lane → asker ≡ lane
    → is_maker_of lines lane (own_name request) ≡ true → AloneSays state request r
alone_says lines handles before asker lane state (Make name bytes) r t stands some same own =
    make_says name bytes handles (makes (calls_of before)) (handle_for before (Make name bytes) r)
    (value_at (calls_of before) (handle_for before (Make name bytes) r)) r t.map t.line t.calm
alone_says lines handles before asker lane state (Read name) r t stands some same own =
    read_says name handles (makes (calls_of before)) (handle_of before name)
    (value_named before name) r
    t.map t.line t.calm
    ∙ ap read_alone (sym (stands.objects name own))
alone_says lines handles before asker lane state (Write name at bytes) r t stands some same own =
    let scope : scope_of asker before ≡ state.scope =
    ap (λ (l : ℕ). scope_of l before) same ∙ sym stands.scope in
    write_says name at bytes handles (makes (calls_of before)) (handle_of before name)
    (value_named before name) (named_on name (scope_of asker before)) r t.map t.line t.calm
    (t.pins name refl (ap (λ (l : ℕ). is_maker lines l name) same ∙ own)
    (omega (arith, some, same)))
    (write_pinned handles before (scope_of asker before) name r at bytes
    (handle_of before name) t.says t.map)
    ∙ (λ i. write_alone (sym (stands.objects name own) i) (named_on name (scope i)) at
    (length bytes))
alone_says lines handles before asker lane state (Free name) r t stands some same own =
    let scope : scope_of asker before ≡ state.scope =
    ap (λ (l : ℕ). scope_of l before) same ∙ sym stands.scope in
    free_says name handles (makes (calls_of before)) (handle_of before name)
    (value_named before name)
    (named_on name (scope_of asker before)) r t.map t.line t.calm
    (t.pins name refl (ap (λ (l : ℕ). is_maker lines l name) same ∙ own)
    (omega (arith, some, same)))
    (free_pinned handles before (scope_of asker before) name r (handle_of before name) t.says t.map)
    ∙ (λ i. free_alone (sym (stands.objects name own) i) (named_on name (scope i)))
alone_says lines handles before asker lane state (Pin name) r t stands some same own =
    let scope : scope_of asker before ≡ state.scope =
    ap (λ (l : ℕ). scope_of l before) same ∙ sym stands.scope in
    pin_by handles before (scope_of asker before) name r
    (handle_of before name) t.says t.map t.right t.line
    t.calm
    ∙ (λ i. pin_alone (sym (stands.objects name own) i) (length (scope i)))
alone_says lines handles before asker lane state (Peek name) r t stands some same own =
    let scope : scope_of asker before ≡ state.scope =
    ap (λ (l : ℕ). scope_of l before) same ∙ sym stands.scope in
    peek_by handles before (scope_of asker before) name r (handle_of before name) t.says t.map
    ∙ (λ i. peek_alone (sym (stands.objects name own) i) (newest_on name (scope i)))
alone_says lines handles before asker lane state (Unpin name) r t stands some same own =
    let scope : scope_of asker before ≡ state.scope =
    ap (λ (l : ℕ). scope_of l before) same ∙ sym stands.scope in
    unpin_by handles before (scope_of asker before) name r (handle_of before name) t.says t.map
    ∙ (λ i. unpin_alone (sym (stands.objects name own) i) (newest_on name (scope i)))
alone_says lines handles before asker lane state request r t stands some same own = tt

-- ---- answers that change nothing

refusal_still : (subject : Subject) (r : Reply) → change_of (refusal subject r) ≡ []
refusal_still Contents answer.Freed = refl
refusal_still Contents answer.Unmade = refl
refusal_still Other answer.Unmade = refl
refusal_still subject answer.Freed = refl
refusal_still subject answer.Unmade = refl
refusal_still subject (answer.Made handle version) = refl
refusal_still subject (answer.Version version) = refl
refusal_still subject (answer.Bytes version bytes) = refl
refusal_still subject (answer.Range len) = refl
refusal_still subject (answer.Full handles) = refl
refusal_still subject r = refl

-- where the name has no handle, nothing changes
none_changes : (handles made : ℕ) (event : Event) → MapReplies 1 handles made None None event
    → change_of event ≡ []
none_changes handles made (Makes bytes version) m = absurd (let e : None ≡ Some made = m.0 in cc)
none_changes handles made (Writes at bytes version) m = absurd m
none_changes handles made (Frees version) m = absurd m
none_changes handles made event m = refl

-- ---- names

-- a make of one name gives another none
made_other : (name bytes : List ℕ) (r : Reply) (q : List ℕ) → name ≢ q
    → handle_made q (Make name bytes) r ≡ None
made_other name bytes (answer.Made handle v) q off = by (name_cases name q)
  where
    by : ((bytes_eq name q ≡ true) × (name ≡ q)) ⊎ ((bytes_eq name q ≡ false) × (name ≢ q))
        → (if bytes_eq name q then Some handle.n else None) ≡ None
    by (inl e) = absurd (off e.1)
    by (inr e) = ap (λ (b : Bool). if b then Some handle.n else None) e.0
made_other name bytes r q off = refl

made_own : (name bytes : List ℕ) (handle : Handle) (v : ℕ)
    → handle_made name (Make name bytes) (answer.Made handle v) ≡ Some handle.n
made_own name bytes handle v = by (name_cases name name)
  where
    by : ((bytes_eq name name ≡ true) × (name ≡ name))
        ⊎ ((bytes_eq name name ≡ false) × (name ≢ name))
        → (if bytes_eq name name then Some handle.n else None) ≡ Some handle.n
    by (inl e) = ap (λ (b : Bool). if b then Some handle.n else None) e.0
    by (inr e) = absurd (e.1 refl)

-- ---- one answer more, about the object of a name

-- what it does to names: another name keeps what it has, and its own has what the call makes of it
record OnName (before : List Answer) (a : Answer) (p : List ℕ) : Type 0 where
  other : (q : List ℕ) → p ≢ q → value_named (before ++ a ∷ []) q ≡ value_named before q
  own : value_named (before ++ a ∷ []) p ≡ now_after (value_named before p) a.request a.reply

-- a request about an object that was made
on_object : (lines : List Line) (handles : ℕ) (before : List Answer) (a : Answer) (p : List ℕ)
    → Telling lines handles before a.lane.n a.request a.reply
    → ((q : List ℕ) → handle_made q a.request a.reply ≡ None)
    → handle_for before a.request a.reply ≡ handle_of before p → OnName before a p
on_object lines handles before a p t none about = record {
  other = λ q off. other_value before a q (none q) (λ h e f. off (t.apart p q h (sym about ∙ f) e));
  own = own_value before a p (none p) about (λ e. none_changes handles (makes (calls_of before))
      (event_of a.request a.reply)
      (subst (λ (o : Option ℕ). MapReplies 1 handles (makes (calls_of before)) o
      (value_at (calls_of before) o) (event_of a.request a.reply)) (about ∙ e) t.map));
}

-- a make, by its reply
on_make : (lines : List Line) (handles : ℕ) (before : List Answer) (a : Answer) (p bytes : List ℕ)
    (r : Reply)
    → a.request ≡ Make p bytes → a.reply ≡ r
    → Telling lines handles before a.lane.n (Make p bytes) r → OnName before a p
on_make lines handles before a p bytes (answer.Made handle v) asks told t = record {
  other = λ q off. other_value before a q
      ((λ i. handle_made q (asks i) (told i)) ∙ made_other p bytes (answer.Made handle v) q off)
      (λ h e f. let same : Some handle.n ≡ Some h = sym (λ i. handle_for before (asks i) (told i))
      ∙ f in
      let at : Some handle.n ≡ Some (makes (calls_of before)) = t.map.0 in
      let lt = t.within q h e in
      let one : handle.n ≡ h = cc in let two : handle.n ≡ makes (calls_of before) = cc in
      omega (arith, one, two, lt));
  own = made_value before a p bytes handle v asks told
      ((λ i. handle_made p (asks i) (told i)) ∙ made_own p bytes handle v);
}
on_make lines handles before a p bytes (answer.Full n) asks told t = absurd t.calm
on_make lines handles before a p bytes (answer.NoRoom f l n) asks told t = absurd t.calm
on_make lines handles before a p bytes answer.Worn asks told t = absurd t.calm
on_make lines handles before a p bytes r asks told t = absurd t.line

-- by its request
on_name : (lines : List Line) (handles : ℕ) (before : List Answer) (a : Answer) (p : List ℕ)
    (request : Request)
    → a.request ≡ request → name_of request ≡ Some p
    → Telling lines handles before a.lane.n a.request a.reply → OnName before a p
on_name lines handles before a p (Make name bytes) asks is t =
    let same : name ≡ p = cc in
    subst (OnName before a) same (on_make lines handles before a name bytes a.reply asks refl
    (subst (λ (q : Request). Telling lines handles before a.lane.n q a.reply) asks t))
on_name lines handles before a p (Read name) asks is t =
    on_object lines handles before a p t (λ q i. handle_made q (asks i) a.reply)
    ((λ i. handle_for before (asks i) a.reply) ∙ ap (handle_named before) is)
on_name lines handles before a p (Write name at bytes) asks is t =
    on_object lines handles before a p t (λ q i. handle_made q (asks i) a.reply)
    ((λ i. handle_for before (asks i) a.reply) ∙ ap (handle_named before) is)
on_name lines handles before a p (Free name) asks is t =
    on_object lines handles before a p t (λ q i. handle_made q (asks i) a.reply)
    ((λ i. handle_for before (asks i) a.reply) ∙ ap (handle_named before) is)
on_name lines handles before a p (Pin name) asks is t =
    on_object lines handles before a p t (λ q i. handle_made q (asks i) a.reply)
    ((λ i. handle_for before (asks i) a.reply) ∙ ap (handle_named before) is)
on_name lines handles before a p (Peek name) asks is t =
    on_object lines handles before a p t (λ q i. handle_made q (asks i) a.reply)
    ((λ i. handle_for before (asks i) a.reply) ∙ ap (handle_named before) is)
on_name lines handles before a p (Unpin name) asks is t =
    on_object lines handles before a p t (λ q i. handle_made q (asks i) a.reply)
    ((λ i. handle_for before (asks i) a.reply) ∙ ap (handle_named before) is)
on_name lines handles before a p (Filter name) asks is t =
    on_object lines handles before a p t (λ q i. handle_made q (asks i) a.reply)
    ((λ i. handle_for before (asks i) a.reply) ∙ ap (handle_named before) is)
on_name lines handles before a p request asks is t = absurd (let e : None ≡ Some p = is in cc)

-- ---- scopes

-- without a pin on the name there is none to take out
without_none : (q : List ℕ) (scope : Scope) → newest_on q scope ≡ None
    → without_newest q scope ≡ scope
without_none q [] none = refl
without_none q (pin ∷ older) none = by (without_none q older) (cases_Bool (bytes_eq pin.name q))
  where
    by : (newest_on q older ≡ None → without_newest q older ≡ older)
        → (bytes_eq pin.name q ≡ true) ⊎ (bytes_eq pin.name q ≡ false)
        → without_newest q (pin ∷ older) ≡ pin ∷ older
    by later (inl e) = absurd (let both_ : Some pin.version ≡ None =
        sym (ap (λ (b : Bool). if b then Some pin.version else newest_on q older) e) ∙ none in cc)
    by later (inr e) = ap (λ (b : Bool). if b then older else pin ∷ without_newest q older) e
        ∙ ap (λ (s : Scope). pin ∷ s)
        (later (sym (ap (λ (b : Bool). if b then Some pin.version else newest_on q older) e)
        ∙ none))

-- and a pin on another name that is taken out brings none
none_without : (q p : List ℕ) (scope : Scope) → newest_on q scope ≡ None
    → newest_on q (without_newest p scope) ≡ None
none_without q p [] none = refl
none_without q p (pin ∷ older) none =
    by (none_without q p older) (cases_Bool (bytes_eq pin.name q))
    (cases_Bool (bytes_eq pin.name p))
  where
    rest : bytes_eq pin.name q ≡ false → newest_on q older ≡ None
    rest e = sym (ap (λ (b : Bool). if b then Some pin.version else newest_on q older) e) ∙ none

    by : (newest_on q older ≡ None → newest_on q (without_newest p older) ≡ None)
        → (bytes_eq pin.name q ≡ true) ⊎ (bytes_eq pin.name q ≡ false)
        → (bytes_eq pin.name p ≡ true) ⊎ (bytes_eq pin.name p ≡ false)
        → newest_on q (without_newest p (pin ∷ older)) ≡ None
    by later (inl e) f = absurd (let both_ : Some pin.version ≡ None =
        sym (ap (λ (b : Bool). if b then Some pin.version else newest_on q older) e) ∙ none in cc)
    by later (inr e) (inl f) =
        ap (λ (b : Bool). newest_on q (if b then older else pin ∷ without_newest p older)) f
        ∙ rest e
    by later (inr e) (inr f) =
        ap (λ (b : Bool). newest_on q (if b then older else pin ∷ without_newest p older)) f
        ∙ ap (λ (b : Bool). if b then Some pin.version else newest_on q (without_newest p older)) e
        ∙ later (rest e)

-- a scope has none on a name that no pin is on
pub others_after : (q : List ℕ) (scope : Scope) (request : Request) (r : Reply)
    → ((name : List ℕ) → request ≡ Pin name → name ≢ q) → newest_on q scope ≡ None
    → newest_on q (scope_after scope request r) ≡ None
others_after q scope (Pin name) (answer.Version v) off none = by (name_cases name q)
  where
    by : ((bytes_eq name q ≡ true) × (name ≡ q)) ⊎ ((bytes_eq name q ≡ false) × (name ≢ q))
        → (if bytes_eq name q then Some v else newest_on q scope) ≡ None
    by (inl e) = absurd (off name refl e.1)
    by (inr e) = ap (λ (b : Bool). if b then Some v else newest_on q scope) e.0 ∙ none
others_after q scope (Pin name) r off none = none
others_after q scope (Unpin name) answer.Done off none = none_without q name scope none
others_after q scope (Unpin name) r off none = none
others_after q scope Leave (answer.Left n) off none = refl
others_after q scope Leave r off none = none
others_after q scope request r off none = none

-- ---- whose a request is

own_named : {p : List ℕ} (request : Request) → own_name request ≡ Some p → name_of request ≡ Some p
own_named {p = p} (Filter name) e = absurd (let z : None ≡ Some p = e in cc)
own_named request e = e

has_name : (lines : List Line) (lane : ℕ) (request : Request)
    → is_maker_of lines lane (own_name request) ≡ true → (p : List ℕ) × (own_name request ≡ Some p)
has_name lines lane request own = by (own_name request) refl own
  where
    by : (o : Option (List ℕ)) → own_name request ≡ o
        → is_maker_of lines lane (own_name request) ≡ true
        → (p : List ℕ) × (own_name request ≡ Some p)
    by None e own = absurd (false≢true (sym (ap (is_maker_of lines lane) e) ∙ own))
    by (Some p) e own = (p, e)

leave_of : (request : Request) → is_leave request ≡ true → request ≡ Leave
leave_of Leave e = refl
leave_of request e = absurd (false≢true e)

-- ---- one answer more

module _ (lines : List Line) (handles : ℕ) (before : List Answer) (a : Answer) (lane : ℕ)
    (state : LaneState)
    (t : Telling lines handles before a.lane.n a.request a.reply) (has : HasOwnLines lines lane)
    (stands : StandsAlone lines lane before state) where
  scope_pushed : scope_of lane (before ++ a ∷ []) ≡ scope_more lane (scope_of lane before) a
  scope_pushed = fold_push (scope_more lane) [] before a

  scope_own : a.lane.n ≡ lane
      → scope_of lane (before ++ a ∷ []) ≡ scope_after (scope_of lane before) a.request a.reply
  scope_own same = scope_pushed
      ∙ ap (λ (b : Bool). if b then scope_after (scope_of lane before) a.request a.reply
      else scope_of lane before) (eq-eqb a.lane.n lane same)

  scope_kept : a.lane.n ≢ lane → scope_of lane (before ++ a ∷ []) ≡ scope_of lane before
  scope_kept off = scope_pushed
      ∙ ap (λ (b : Bool). if b then scope_after (scope_of lane before) a.request a.reply
      else scope_of lane before) (ne_eqb a.lane.n lane off)

  -- one of the lane's own lines
  stands_own : (p : List ℕ) → a.lane.n ≡ lane → name_of a.request ≡ Some p
      → is_maker lines lane p ≡ true
      → StandsAlone lines lane (before ++ a ∷ []) (alone_after state a.request a.reply)
  stands_own p same named own = record {
    scope = ap (λ (s : Scope). scope_after s a.request a.reply) stands.scope ∙ sym (scope_own same);
    objects = λ q maker. (λ i. now_named q (objects_named i)) ∙ by q maker (name_cases p q);
    others = λ q not. others_after q state.scope a.request a.reply
        (λ name e same_name. absurd (true≢false (sym own ∙ ap (is_maker lines lane)
        (let one : Some p ≡ Some name = sym named ∙ ap name_of e in
        let two : p ≡ name = cc in two ∙ same_name) ∙ not)))
        (stands.others q not);
  }
    where
      on : OnName before a p
      on = on_name lines handles before a p a.request refl named t

      now : MapNow
      now = now_after (now_named p state.objects) a.request a.reply

      objects_named : (alone_after state a.request a.reply).objects
          ≡ record { name = p; now = now } ∷ state.objects
      objects_named = ap (λ (o : Option (List ℕ)). named_objects_after state.objects o a.request
          a.reply) named

      by : (q : List ℕ) → is_maker lines lane q ≡ true
          → ((bytes_eq p q ≡ true) × (p ≡ q)) ⊎ ((bytes_eq p q ≡ false) × (p ≢ q))
          → (if bytes_eq p q then now else now_named q state.objects) ≡ value_named
          (before ++ a ∷ []) q
      by q maker (inl e) = ap (λ (b : Bool). if b then now else now_named q state.objects) e.0
          ∙ ap (λ (n : MapNow). now_after n a.request a.reply) (stands.objects p own) ∙ sym on.own
          ∙ ap (value_named (before ++ a ∷ [])) e.1
      by q maker (inr e) = ap (λ (b : Bool). if b then now else now_named q state.objects) e.0
          ∙ stands.objects q maker ∙ sym (on.other q e.1)

  -- a line by which the lane leaves its scope
  stands_leave : a.request ≡ Leave → a.lane.n ≡ lane
      → StandsAlone lines lane (before ++ a ∷ []) (alone_after state a.request a.reply)
  stands_leave asks same = record {
    scope = ap (λ (s : Scope). scope_after s a.request a.reply) stands.scope ∙ sym (scope_own same);
    objects = λ q maker. (λ i. now_named q
        (named_objects_after state.objects (name_of (asks i)) a.request a.reply))
        ∙ stands.objects q maker ∙ sym (quiet_value before a q (λ i. handle_made q (asks i) a.reply)
        ((λ i. change_of (event_of (asks i) a.reply)) ∙ refusal_still Nothing a.reply));
    others = λ q not. others_after q state.scope a.request a.reply
        (λ name e. absurd (let z : Leave ≡ Pin name = sym asks ∙ e in cc)) (stands.others q not);
  }

  -- any other line: the lane's own names keep what they have
  other_objects : (request : Request) → a.request ≡ request
      → ((p q : List ℕ) → own_name request ≡ Some p → is_maker lines lane q ≡ true → p ≢ q)
      → (q : List ℕ) → is_maker lines lane q ≡ true
      → value_named (before ++ a ∷ []) q ≡ value_named before q
  other_objects (Make name bytes) asks off q maker =
      (on_name lines handles before a name (Make name bytes) asks refl t).other q
      (off name q refl maker)
  other_objects (Read name) asks off q maker =
      (on_name lines handles before a name (Read name) asks refl t).other q (off name q refl maker)
  other_objects (Write name at bytes) asks off q maker =
      (on_name lines handles before a name (Write name at bytes) asks refl t).other q
      (off name q refl maker)
  other_objects (Free name) asks off q maker =
      (on_name lines handles before a name (Free name) asks refl t).other q (off name q refl maker)
  other_objects (Pin name) asks off q maker =
      (on_name lines handles before a name (Pin name) asks refl t).other q (off name q refl maker)
  other_objects (Peek name) asks off q maker =
      (on_name lines handles before a name (Peek name) asks refl t).other q (off name q refl maker)
  other_objects (Unpin name) asks off q maker =
      (on_name lines handles before a name (Unpin name) asks refl t).other q (off name q refl maker)
  other_objects (Filter name) asks off q maker =
      quiet_value before a q (λ i. handle_made q (asks i) a.reply)
      ((λ i. change_of (event_of (asks i) a.reply)) ∙ refusal_still Other a.reply)
  other_objects request asks off q maker =
      quiet_value before a q (λ i. handle_made q (asks i) a.reply)
      ((λ i. change_of (event_of (asks i) a.reply)) ∙ refusal_still Nothing a.reply)

  -- and its scope stays
  other_scope : (request : Request) → a.request ≡ request → a.lane.n ≡ lane
      → is_maker_of lines lane (own_name request) ≡ false → is_leave request ≡ false
      → scope_after state.scope request a.reply ≡ state.scope
  other_scope (Pin name) asks same not off = absurd (elim (t.maker name (ap name_of asks)) [
    | inl own ↦ true≢false (sym own ∙ ap (λ (l : ℕ). is_maker lines l name) same ∙ not)
    | inr shared ↦ true≢false (sym shared ∙ sym (ap (pins_shared lines) asks)
        ∙ t.shared (subst (HasOwnLines lines) (sym same) has))
  ])
  other_scope (Unpin name) asks same not off = taken a.reply
    where
      taken : (r : Reply) → scope_after state.scope (Unpin name) r ≡ state.scope
      taken answer.Done = without_none name state.scope (stands.others name not)
      taken r = refl
  other_scope Leave asks same not off = absurd (true≢false off)
  other_scope request asks same not off = refl

  -- the line's name is none of the lane's own
  not_own : is_own lines lane a ≡ false → (p q : List ℕ) → own_name a.request ≡ Some p
      → is_maker lines lane q ≡ true → p ≢ q
  not_own not p q named maker e = by (cases_Bool (nat_eq a.lane.n lane))
    where
      own : is_maker lines lane p ≡ true
      own = ap (is_maker lines lane) e ∙ maker

      of : name_of a.request ≡ Some p
      of = own_named a.request named

      by : (nat_eq a.lane.n lane ≡ true) ⊎ (nat_eq a.lane.n lane ≡ false) → ⊥
      by (inl same) = true≢false
          (sym (λ i. same i && (ap (is_maker_of lines lane) named ∙ own) i) ∙ not)
      by (inr off) = elim (t.maker p of) [
        | inl asker ↦ false≢true (sym off
            ∙ eq-eqb a.lane.n lane (t.makers a.lane.n lane p asker own))
        | inr shared ↦ let one = has.from_one in
            let zero_ = t.makers 0 lane p shared own in omega (arith, one, zero_)
      ]

  stands_other : is_own lines lane a ≡ false → leaves lane a ≡ false
      → StandsAlone lines lane (before ++ a ∷ []) state
  stands_other not off = record {
    scope = by (cases_Bool (nat_eq a.lane.n lane));
    objects = λ q maker. stands.objects q maker
        ∙ sym (other_objects a.request refl (not_own not) q maker);
    others = stands.others;
  }
    where
      by : (nat_eq a.lane.n lane ≡ true) ⊎ (nat_eq a.lane.n lane ≡ false)
          → state.scope ≡ scope_of lane (before ++ a ∷ [])
      by (inl same) = sym (other_scope a.request refl (eqb-true a.lane.n lane same)
          (sym (λ i. same i && is_maker_of lines lane (own_name a.request)) ∙ not)
          (sym (λ i. same i && is_leave a.request) ∙ off))
          ∙ ap (λ (s : Scope). scope_after s a.request a.reply) stands.scope
          ∙ sym (scope_own (eqb-true a.lane.n lane same))
      by (inr differ) = stands.scope
          ∙ sym (scope_kept (λ e. false≢true (sym differ ∙ eq-eqb a.lane.n lane e)))

  pub stands_more : StandsAlone lines lane (before ++ a ∷ []) (alone_more lines lane state a)
  stands_more = by (cases_Bool (is_own lines lane a)) (cases_Bool (leaves lane a))
    where
      moved : (is_own lines lane a || leaves lane a) ≡ true
          → StandsAlone lines lane (before ++ a ∷ []) (alone_after state a.request a.reply)
          → StandsAlone lines lane (before ++ a ∷ []) (alone_more lines lane state a)
      moved e z = subst (λ (b : Bool). StandsAlone lines lane (before ++ a ∷ [])
          (if b then alone_after state a.request a.reply else state)) (sym e) z

      by : (is_own lines lane a ≡ true) ⊎ (is_own lines lane a ≡ false)
          → (leaves lane a ≡ true) ⊎ (leaves lane a ≡ false)
          → StandsAlone lines lane (before ++ a ∷ []) (alone_more lines lane state a)
      by (inl own) leaving = moved (ap (λ (b : Bool). b || leaves lane a) own)
          (let z = and_parts (nat_eq a.lane.n lane)
          (is_maker_of lines lane (own_name a.request)) own in
          let named = has_name lines lane a.request z.1 in
          stands_own named.0 (eqb-true a.lane.n lane z.0) (own_named a.request named.1)
          (sym (ap (is_maker_of lines lane) named.1) ∙ z.1))
      by (inr not) (inl leaving) = moved (λ i. (not i) || (leaving i))
          (let z = and_parts (nat_eq a.lane.n lane) (is_leave a.request) leaving in
          stands_leave (leave_of a.request z.1) (eqb-true a.lane.n lane z.0))
      by (inr not) (inr off) = subst (λ (b : Bool). StandsAlone lines lane (before ++ a ∷ [])
          (if b then alone_after state a.request a.reply else state))
          (sym (λ i. (not i) || (off i)))
          (stands_other not off)

-- ---- all answers so far

abbrev pub alone_state : List Line → ℕ → List Answer → LaneState
alone_state lines lane answers = fold (alone_more lines lane) fresh_lane answers

-- The lane's own lines were answered as the lane is by itself, and what it has so is what the map
-- and the scopes have.
pub record GoesAlone (lines : List Line) (lane : ℕ) (answers : List Answer) : Type 0 where
  pub kept : KeepAlone lines lane fresh_lane answers
  pub stands : StandsAlone lines lane answers (alone_state lines lane answers)

keep_push : (lines : List Line) (lane : ℕ) (state : LaneState) (answers : List Answer) (a : Answer)
    → KeepAlone lines lane state answers
    → (is_own lines lane a ≡ true
    → AloneSays (fold (alone_more lines lane) state answers) a.request a.reply)
    → KeepAlone lines lane state (answers ++ a ∷ [])
keep_push lines lane state [] a keep says = (says, tt)
keep_push lines lane state (b ∷ answers) a keep says =
    (keep.0, keep_push lines lane (alone_more lines lane state b) answers a keep.1 says)

pub alone_none : (lines : List Line) (lane : ℕ) → GoesAlone lines lane []
alone_none lines lane = record {
  kept = tt;
  stands = record { scope = refl; objects = λ q maker. refl; others = λ q not. refl };
}

pub alone_push : (lines : List Line) (handles lane : ℕ) (answers : List Answer) (a : Answer)
    → Telling lines handles answers a.lane.n a.request a.reply → HasOwnLines lines lane
    → GoesAlone lines lane answers → GoesAlone lines lane (answers ++ a ∷ [])
alone_push lines handles lane answers a t has goes = record {
  kept = keep_push lines lane fresh_lane answers a goes.kept
      (λ own. let z = and_parts (nat_eq a.lane.n lane)
      (is_maker_of lines lane (own_name a.request)) own in
      alone_says lines handles answers a.lane.n lane
      (alone_state lines lane answers) a.request a.reply t
      goes.stands has.from_one (eqb-true a.lane.n lane z.0) z.1);
  stands = subst (StandsAlone lines lane (answers ++ a ∷ []))
      (sym (fold_push (alone_more lines lane) fresh_lane answers a))
      (stands_more lines handles answers a lane (alone_state lines lane answers) t has goes.stands);
}
