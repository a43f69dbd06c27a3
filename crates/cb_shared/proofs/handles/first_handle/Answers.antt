use Rattle.std.proofs.Common.{◌∙◌, ap, sym}
use Rattle.cb_shared.proofs.FirstPin.{rest_of, starts_with}
use Rattle.cb_shared.proofs.handles.first_handle.Goals as goal

pub returns-in-len1-up-clause-some : goal.returns-in-len1-up-clause-some
returns-in-len1-up-clause-some c =
    let is = c.as_slice.ensures.value ∙ ap (λ v. v.items) c.deref.ensures in (
      rest_of c.as_slice.result.now,
      sym is ∙ starts_with c.as_slice.result.now c.in-len1-up.len_at_least,
    )
