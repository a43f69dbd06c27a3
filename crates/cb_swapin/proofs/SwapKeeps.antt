-- What a step of a swap-in keeps, and what it gives out.
use Rattle.std.proofs.Common.{◌≡◌, ℕ, false, Some, None, sym, ap, subst}
use Rattle.cb_frame.specs.Runs.{least_run}
use Rattle.cb_set.specs.SetState.{SetState}
use Rattle.cb_types.specs.declared.reply.Reply.{Reply}
use Rattle.cb_types.specs.declared.reply.Reply.TheVariants as answer
use Rattle.cb_world.specs.Plain.{Words}
use Rattle.cb_world.specs.SetWord.{is_broken}
use Rattle.cb_world.specs.FarState.{FarState}
use Rattle.cb_world.proofs.Laws.{KeepsFar, far_same}
use Rattle.cb_swapin.specs.SwapRule.{IsSwappedTo}
use Rattle.cb_swapin.specs.SwapStep.{BringsChange, IsBringStep, IsSwapped}
use Rattle.cb_swapin.proofs.SwapAnswers.{by_answer, only_no_frame}

-- a swap-in changes nothing, or brings the position into the least run of free frames
pub step_cases : {rows : SetState → ℕ} (P : Type 0) (x y : Words) (far new : FarState) (id p : ℕ)
    (r : Reply) → (z : IsBringStep rows x y far new id p r) → ((y ≡ x) × (new ≡ far) → P)
    → ((f : ℕ) → is_broken far.members z.set ≡ false → least_run far.frames z.set.pages ≡ Some f
    → r ≡ answer.Swapped f → IsSwapped x y far new id p z.set f (rows z.set) → P)
    → P
step_cases {rows = rows} P x y far new id p r z stays comes =
    by_answer (λ (q : Reply). r ≡ q → BringsChange (rows z.set) x y far new id p z.set q → P) far id z.set
    (λ broken e c. stays c) (λ whole none e c. stays c)
    (λ f whole least e c. comes f whole least e c) z.reply
    (subst (BringsChange (rows z.set) x y far new id p z.set) z.reply z.change)

-- ---- the reply
pub step_only_no_frame : {rows : SetState → ℕ} (x y : Words) (far new : FarState) (id p : ℕ)
    → (z : IsBringStep rows x y far new id p answer.NoFrame)
    → (is_broken far.members z.set ≡ false) × (least_run far.frames z.set.pages ≡ None)
step_only_no_frame x y far new id p z = only_no_frame far id z.set (sym z.reply)

-- ---- the far state
swapped_kept : (far new : FarState) (id p : ℕ) (set : SetState) (f n : ℕ)
    → IsSwappedTo far new id p set f n → KeepsFar far new
swapped_kept far new id p set f n z = record {
  first = ap (λ (q : FarState). q.first) z.rest;
  made = ap (λ (q : FarState). q.made) z.rest;
  members = ap (λ (q : FarState). q.members) z.rest;
  joining = ap (λ (q : FarState). q.joining) z.rest;
  turns = ap (λ (q : FarState). q.counts.turns) z.rest;
  by_job = ap (λ (q : FarState). q.counts.by_job) z.rest;
}

pub keeps_far : {rows : SetState → ℕ} (x y : Words) (far new : FarState) (id p : ℕ) (r : Reply)
    → IsBringStep rows x y far new id p r → KeepsFar far new
keeps_far {rows = rows} x y far new id p r z = step_cases (KeepsFar far new) x y far new id p r z
    (λ same. subst (KeepsFar far) (sym same.1) (far_same far))
    (λ f whole least e w. swapped_kept far new id p z.set f (rows z.set) w.state)

-- the batch that is leaving stays
pub leaving_stays : {rows : SetState → ℕ} (x y : Words) (far new : FarState) (id p : ℕ) (r : Reply)
    → IsBringStep rows x y far new id p r → new.leaving ≡ far.leaving
leaving_stays x y far new id p r z = step_cases (new.leaving ≡ far.leaving) x y far new id p r z
    (λ same. ap (λ (q : FarState). q.leaving) same.1)
    (λ f whole least e w. ap (λ (q : FarState). q.leaving) w.state.rest)

-- ---- the words
pub settings_stay : {rows : SetState → ℕ} (x y : Words) (far new : FarState) (id p : ℕ) (r : Reply)
    → IsBringStep rows x y far new id p r → y.settings ≡ x.settings
settings_stay x y far new id p r z = step_cases (y.settings ≡ x.settings) x y far new id p r z
    (λ same. ap (λ (q : Words). q.settings) same.0) (λ f whole least e w. w.words.settings)
