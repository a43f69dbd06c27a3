-- An eviction that tells both counts where it is refused is fixed: one answer, one set of words and one
-- far state.
use Rattle.std.proofs.Common.{◌≡◌, ℕ, List, sym, ap, ◌∙◌}
use Rattle.cb_types.specs.declared.handle.SetId.{SetId}
use Rattle.cb_types.specs.declared.reply.Reply.TheVariants as answer
use Rattle.cb_gf256.specs.InRange.{IsInRange}
use Rattle.cb_world.specs.FarState.{FarState}
use Rattle.cb_world.specs.Plain.{Words}
use Rattle.cb_evict.specs.declared.eviction.Eviction.{Eviction}
use Rattle.cb_evict.specs.declared.eviction.Eviction.TheVariants.{Refused, Set}
use Rattle.cb_evict.specs.declared.eviction.Lack.TheVariants as lack
use Rattle.cb_evict.specs.Eviction.{TellsCounts, reply_of}
use Rattle.cb_evict.specs.EvictStep.{IsCountedStep, loose_frames}
use Rattle.cb_evict.proofs.EvictFixed.{evict_step_fixes}

set_spans : (id : SetId) (n : ℕ) → answer.Set id ≡ answer.NoSpans n → ⊥
set_spans id n e = cc

set_nodes : (id : SetId) (n : ℕ) → answer.Set id ≡ answer.NoNodes n → ⊥
set_nodes id n e = cc

spans_nodes : (n m : ℕ) → answer.NoSpans n ≡ answer.NoNodes m → ⊥
spans_nodes n m e = cc

id_same : (a b : SetId) → answer.Set a ≡ answer.Set b → a ≡ b
id_same a b e = cc

-- an answer is told by its reply and by the counts
answer_fixed : (far : FarState) (loose : List ℕ) (e f : Eviction) → reply_of e ≡ reply_of f
    → TellsCounts far loose e → TellsCounts far loose f → e ≡ f
answer_fixed far loose (Set a) (Set b) same x y = ap Set (id_same a b same)
answer_fixed far loose (Set a) (Refused lack.Spans k l) same x y = absurd (set_spans a k same)
answer_fixed far loose (Set a) (Refused lack.Nodes k l) same x y = absurd (set_nodes a l same)
answer_fixed far loose (Refused lack.Spans n m) (Set b) same x y = absurd (set_spans b n (sym same))
answer_fixed far loose (Refused lack.Nodes n m) (Set b) same x y = absurd (set_nodes b m (sym same))
answer_fixed far loose (Refused lack.Spans n m) (Refused lack.Nodes k l) same x y =
    absurd (spans_nodes n l same)
answer_fixed far loose (Refused lack.Nodes n m) (Refused lack.Spans k l) same x y =
    absurd (spans_nodes k m (sym same))
answer_fixed far loose (Refused lack.Spans n m) (Refused lack.Spans k l) same x y =
    λ i. Refused lack.Spans ((x.0 ∙ sym y.0) i) ((x.1 ∙ sym y.1) i)
answer_fixed far loose (Refused lack.Nodes n m) (Refused lack.Nodes k l) same x y =
    λ i. Refused lack.Nodes ((x.0 ∙ sym y.0) i) ((x.1 ∙ sym y.1) i)

-- two ends of such an eviction are one
pub record IsOneEviction (e f : Eviction) (y z : Words) (new other : FarState) : Type 0 where
  pub answer : e ≡ f
  pub words : y ≡ z
  pub far : new ≡ other

pub counted_step_fixes : (x y z : Words) (far new other : FarState) (e f : Eviction)
    → IsInRange far.code.k far.code.r → IsCountedStep x y far new e → IsCountedStep x z far other f
    → IsOneEviction e f y z new other
counted_step_fixes x y z far new other e f ok a b =
    let ends = evict_step_fixes x y z far new other (reply_of e) (reply_of f) ok a.step b.step in
    record {
      answer = answer_fixed far (loose_frames x far) e f ends.reply a.counts b.counts;
      words = ends.words;
      far = ends.far;
    }
