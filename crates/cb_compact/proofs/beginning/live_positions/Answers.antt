use Rattle.std.proofs.Common.{ℕ, List, ◌++◌, ◌∷◌, [], sym, ap, ◌∙◌, arith}
use Rattle.cb_set.specs.SetState.{live_at}
use Rattle.cb_compact.proofs.Finding.{passing, passing_in, passing_out}
use Rattle.cb_compact.proofs.beginning.live_positions.Goals as goal
use Rattle.cb_compact.proofs.beginning.live_positions.Goals.{then-live_at+in_ok-push, else-live_at}

pub loop-position-init : goal.loop-position-init
loop-position-init c = c.new-live.ensures.items

pub loop-position-preserved : goal.loop-position-preserved
loop-position-preserved c =
    let f = live_at c.args.set.now in let n = c.loop-position.position in
    elim c.if-live_at.branch [
      | then-live_at+in_ok-push w ↦ ap (λ v. v.items) w.live-is ∙ w.in_ok-push.ensures.items
          ∙ ap (λ (l : List ℕ). l ++ n ∷ []) c.loop-position.invariant
          ∙ sym (passing_in f n (sym c.live_at.ensures ∙ w.if-live_at.true))
      | else-live_at w ↦ ap (λ v. v.items) w.live-is ∙ c.loop-position.invariant
          ∙ sym (passing_out f n (sym c.live_at.ensures ∙ w.if-live_at.false))
    ]

pub returns : goal.returns
returns c = c.loop-position.invariant ∙ ap (passing (live_at c.args.set.now))
    (let l = c.loop-position-test.false in let n = c.k-position-end.ensures.count in
    let m = c.loop-position.auto.position-end in omega (arith, l, n, m))
