use Rattle.std.proofs.Common.{◌≡◌, ℕ, List, [], ◌∷◌, ◌++◌, replicate, ap, ◌∙◌, arith}
use Rattle.std.proofs.lemmas.List.{replicate_more}
use Rattle.cb_farmap.specs.declared.bucket.Bucket.{Bucket}
use Rattle.cb_farmap.specs.Buckets.{no_bucket}
use Rattle.cb_farmap.proofs.buckets.Buckets.new.Goals as goal

pub loop-preserved : goal.loop-preserved
loop-preserved c = c.in_ok-push.ensures.items
    ∙ (λ i. c.loop.items.items ++ c.empty.ensures i ∷ [])
    ∙ ap (λ (all : List Bucket). all ++ no_bucket ∷ []) c.loop.invariant
    ∙ replicate_more c.loop.counter no_bucket

pub returns : goal.returns
returns c = record {
  empty = c.loop.invariant ∙ ap (λ (n : ℕ). replicate n no_bucket)
      (let all : c.loop.counter ≡ c.args.many = omega (arith, c.loop.auto.counter-end, c.loop-test.false) in all);
}
