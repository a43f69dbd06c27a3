use Rattle.std.proofs.Common.{ℕ, Option, Some, Result, IfOk, OnErr, refl, ap}
use Rattle.cb_shared.specs.Passes.{record_of}
use Rattle.cb_shared.specs.Recalls.{first_version_of}
use Rattle.cb_farmap.specs.declared.kept.Cannot.{Cannot}
use Rattle.cb_farmap.specs.declared.map.FarMap.{FarMap}
use Rattle.cb_farmap.specs.Buckets.{bucket_in}
use Rattle.cb_farmap.specs.Calls.{trouble}
use Rattle.cb_farmap.specs.MapChanges.{IsLooked, KeepsMap, StaysMap}
use Rattle.cb_farmap.specs.Plans.{look_plan}
use Rattle.cb_farmap.proofs.MapEnds.{apart_of, bucket_of, look_keeps, look_ok, look_stays, map_keeps_again, map_noted, map_stays_again}
use Rattle.cb_farmap.proofs.Once.{look_once}
use Rattle.cb_farmap.proofs.map.FarMap.look.Goals as goal

pub returns-in-Some-clause-stays : goal.returns-in-Some-clause-stays
returns-in-Some-clause-stays g c =
    let v = record_of c.args.pass.now in
    let m = c.args.self.now in
    map_stays_again c.args.shared.now.config (first_version_of c.args.shared.now)
    (look_plan v.written (bucket_in m.buckets c.args.key) c.args.key) v v m
    c.requires.map c.in-Some.stop c.in-Some.is
    refl (Some c.from.result) (ap (λ (e : Cannot). Some e) c.from.ensures)

pub returns-in-Some-clause-keeps : goal.returns-in-Some-clause-keeps
returns-in-Some-clause-keeps g c =
    let v = record_of c.args.pass.now in
    let m = c.args.self.now in
    map_keeps_again c.args.shared.now.config (first_version_of c.args.shared.now)
    (look_plan v.written (bucket_in m.buckets c.args.key) c.args.key) v v m
    c.requires.map c.in-Some.stop c.in-Some.is
    refl (Some c.from.result) (ap (λ (e : Cannot). Some e) c.from.ensures)
    (look_once v.written (bucket_in m.buckets c.args.key) (apart_of v m c.requires.map c.args.key)
    c.args.key)

pub look-value-requires-clause-some : goal.look-value-requires-clause-some
look-value-requires-clause-some g c = c.requires.map.some

pub look-value-requires-clause-bucket : goal.look-value-requires-clause-bucket
look-value-requires-clause-bucket g c =
    bucket_of (record_of c.args.pass.now) c.args.self.now c.requires.map c.args.key

pub returns-clause-ok : goal.returns-clause-ok
returns-clause-ok g c =
    let v = record_of c.args.pass.now in
    let w = record_of c.look-value.new.pass in
    let m = c.args.self.now in
    map_noted m.stop m.buckets (λ (q : Result (Option ℕ) Cannot) (z : FarMap).
    IfOk q (λ o. IsLooked c.args.key o v m w z))
    c.look-value.result c.noted.result c.noted.ensures.same c.noted.new.stop c.noted.ensures.stop
    m.len m.len refl
    (look_ok c.args.shared.now.config (first_version_of c.args.shared.now) v w m
    c.requires.map c.in_default.is c.args.key c.look-value.result
    c.look-value.ensures.goes c.look-value.ensures.value)

pub returns-clause-stays : goal.returns-clause-stays
returns-clause-stays g c =
    let v = record_of c.args.pass.now in
    let w = record_of c.look-value.new.pass in
    let m = c.args.self.now in
    map_noted m.stop m.buckets (λ (q : Result (Option ℕ) Cannot) (z : FarMap).
    OnErr q (StaysMap (trouble q) v m w z))
    c.look-value.result c.noted.result c.noted.ensures.same c.noted.new.stop c.noted.ensures.stop
    m.len m.len refl
    (look_stays c.args.shared.now.config (first_version_of c.args.shared.now) v w m
    c.requires.map c.in_default.is c.args.key c.look-value.result
    c.look-value.ensures.goes)

pub returns-clause-keeps : goal.returns-clause-keeps
returns-clause-keeps g c =
    let v = record_of c.args.pass.now in
    let w = record_of c.look-value.new.pass in
    let m = c.args.self.now in
    map_noted m.stop m.buckets (λ (q : Result (Option ℕ) Cannot) (z : FarMap).
    KeepsMap c.args.shared.now.config (first_version_of c.args.shared.now)
    (look_plan v.written (bucket_in m.buckets c.args.key) c.args.key) (trouble q) v m w z)
    c.look-value.result c.noted.result c.noted.ensures.same c.noted.new.stop c.noted.ensures.stop
    m.len m.len refl
    (look_keeps c.args.shared.now.config (first_version_of c.args.shared.now) v w m
    c.requires.map c.in_default.is c.args.key (trouble c.look-value.result)
    c.look-value.ensures.goes c.look-value.ensures.calm)
