use Rattle.std.proofs.Common.{◌≡◌, refl}
use Rattle.cb_rule.specs.declared.view.Stand.{Stand}
use Rattle.cb_rule.specs.Steps.{IsNewest}
use Rattle.cb_shared.specs.Passes.{PinFits, record_of, stand_of}
use Rattle.cb_shared.proofs.Resting.{each_has}
use Rattle.cb_shared.proofs.runtime.Shared.version.Goals as goal

pub tell_version-requires-clause-handle : goal.tell_version-requires-clause-handle
tell_version-requires-clause-handle c = let p = c.requires.pin in
    (each_has (PinFits c.args.self.now.config) (stand_of c.args.pin.now p.0)
    (record_of c.args.pass.now).pins c.requires.of.rest.pins p.1).0

pub returns-clause-version : goal.returns-clause-version
returns-clause-version c = let p = c.requires.pin in let told = c.tell_version.ensures in
    each_has (λ (s : Stand). s.handle ≡ c.args.pin.now.handle.n → c.tell_version.result ≡ s.version)
    (stand_of c.args.pin.now p.0) (record_of c.args.pass.now).pins told.tells p.1 refl

pub returns-clause-newest : goal.returns-clause-newest
returns-clause-newest c = let p = c.requires.pin in let told = c.tell_version.ensures in
    each_has (λ (s : Stand). s.handle ≡ c.args.pin.now.handle.n
    → IsNewest c.args.pin.now.handle.n s.version (record_of c.args.pass.now))
    (stand_of c.args.pin.now p.0) (record_of c.args.pass.now).pins told.newest p.1 refl
