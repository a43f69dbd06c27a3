use Rattle.cb_delta.proofs.Patching.{patched}
use Rattle.cb_delta.proofs.deltas.patch.Goals as goal

pub returns-clause-anew : goal.returns-clause-anew
returns-clause-anew c factors rows i new h inside within factor size change =
    patched factors rows i c.args.coeff c.axpy.new.dst new c.args.delta.now c.args.parity.now h inside within factor size change c.requires c.axpy.ensures
