use Rattle.std.proofs.Common.{ℕ, ◌-◌, Option, Some, Result, IfOk, OnErr, refl, ap, arith}
use Rattle.cb_shared.specs.Passes.{record_of}
use Rattle.cb_shared.specs.Recalls.{first_version_of}
use Rattle.cb_farmap.specs.declared.kept.Cannot.{Cannot}
use Rattle.cb_farmap.specs.declared.map.FarMap.{FarMap}
use Rattle.cb_farmap.specs.BucketChanges.{removed_by}
use Rattle.cb_farmap.specs.Buckets.{bucket_in}
use Rattle.cb_farmap.specs.Calls.{trouble}
use Rattle.cb_farmap.specs.MapChanges.{IsDropped, KeepsMap, StaysMap}
use Rattle.cb_farmap.specs.Plans.{drop_plan}
use Rattle.cb_farmap.proofs.MapEnds.{apart_of, bucket_of, drop_keeps, drop_ok, drop_stays, map_keeps_again, map_noted, map_stays_again, removed_low}
use Rattle.cb_farmap.proofs.Once.{drop_once}
use Rattle.cb_farmap.proofs.map.FarMap.drop_key.Goals as goal

pub returns-in-Some-clause-stays : goal.returns-in-Some-clause-stays
returns-in-Some-clause-stays g c =
    let v = record_of c.args.pass.now in
    let m = c.args.self.now in
    map_stays_again c.args.shared.now.config (first_version_of c.args.shared.now)
    (drop_plan v.written (bucket_in m.buckets c.args.key) c.args.key) v v m
    c.requires.map c.in-Some.stop c.in-Some.is
    refl (Some c.from.result) (ap (λ (e : Cannot). Some e) c.from.ensures)

pub returns-in-Some-clause-keeps : goal.returns-in-Some-clause-keeps
returns-in-Some-clause-keeps g c =
    let v = record_of c.args.pass.now in
    let m = c.args.self.now in
    map_keeps_again c.args.shared.now.config (first_version_of c.args.shared.now)
    (drop_plan v.written (bucket_in m.buckets c.args.key) c.args.key) v v m
    c.requires.map c.in-Some.stop c.in-Some.is
    refl (Some c.from.result) (ap (λ (e : Cannot). Some e) c.from.ensures)
    (drop_once v.written (bucket_in m.buckets c.args.key) (apart_of v m c.requires.map c.args.key)
    (bucket_of v m c.requires.map c.args.key) c.args.key)

pub drop_key-old-requires-clause-some : goal.drop_key-old-requires-clause-some
drop_key-old-requires-clause-some g c = c.requires.map.some

pub drop_key-old-requires-clause-bucket : goal.drop_key-old-requires-clause-bucket
drop_key-old-requires-clause-bucket g c =
    bucket_of (record_of c.args.pass.now) c.args.self.now c.requires.map c.args.key

pub overflow_sub-self : goal.overflow_sub-self
overflow_sub-self g c =
    let e = c.removed.ensures in
    let low = removed_low c.args.shared.now.config (first_version_of c.args.shared.now)
    (record_of c.args.pass.now) (record_of c.drop_key-old.new.pass) c.args.self.now c.requires.map
    c.in_default.is c.args.key c.drop_key-old.new.self c.drop_key-old.ensures.one
    c.drop_key-old.result c.drop_key-old.ensures.value in
    omega (arith, e, low)

pub returns-clause-ok : goal.returns-clause-ok
returns-clause-ok g c =
    let v = record_of c.args.pass.now in
    let w = record_of c.drop_key-old.new.pass in
    let m = c.args.self.now in
    map_noted m.stop c.drop_key-old.new.self (λ (q : Result (Option ℕ) Cannot) (z : FarMap).
    IfOk q (λ o. IsDropped c.args.key o v m w z))
    c.drop_key-old.result c.noted.result c.noted.ensures.same c.noted.new.stop c.noted.ensures.stop
    (m.len - c.removed.result) (m.len - removed_by c.drop_key-old.result)
    (ap (λ (k : ℕ). m.len - k) c.removed.ensures)
    (drop_ok c.args.shared.now.config (first_version_of c.args.shared.now) v w m
    c.requires.map c.in_default.is c.args.key c.drop_key-old.new.self c.drop_key-old.ensures.one
    c.drop_key-old.result c.drop_key-old.ensures.value c.drop_key-old.ensures.dropped)

pub returns-clause-stays : goal.returns-clause-stays
returns-clause-stays g c =
    let v = record_of c.args.pass.now in
    let w = record_of c.drop_key-old.new.pass in
    let m = c.args.self.now in
    map_noted m.stop c.drop_key-old.new.self (λ (q : Result (Option ℕ) Cannot) (z : FarMap).
    OnErr q (StaysMap (trouble q) v m w z))
    c.drop_key-old.result c.noted.result c.noted.ensures.same c.noted.new.stop c.noted.ensures.stop
    (m.len - c.removed.result) (m.len - removed_by c.drop_key-old.result)
    (ap (λ (k : ℕ). m.len - k) c.removed.ensures)
    (drop_stays c.args.shared.now.config (first_version_of c.args.shared.now) v w m
    c.requires.map c.in_default.is c.args.key c.drop_key-old.new.self c.drop_key-old.ensures.one
    c.drop_key-old.result c.drop_key-old.ensures.stays c.drop_key-old.ensures.goes)

pub returns-clause-keeps : goal.returns-clause-keeps
returns-clause-keeps g c =
    let v = record_of c.args.pass.now in
    let w = record_of c.drop_key-old.new.pass in
    let m = c.args.self.now in
    map_noted m.stop c.drop_key-old.new.self (λ (q : Result (Option ℕ) Cannot) (z : FarMap).
    KeepsMap c.args.shared.now.config (first_version_of c.args.shared.now)
    (drop_plan v.written (bucket_in m.buckets c.args.key) c.args.key) (trouble q) v m w z)
    c.drop_key-old.result c.noted.result c.noted.ensures.same c.noted.new.stop c.noted.ensures.stop
    (m.len - c.removed.result) (m.len - removed_by c.drop_key-old.result)
    (ap (λ (k : ℕ). m.len - k) c.removed.ensures)
    (drop_keeps c.args.shared.now.config (first_version_of c.args.shared.now) v w m
    c.requires.map c.in_default.is c.args.key c.drop_key-old.new.self c.drop_key-old.ensures.one
    c.drop_key-old.result c.drop_key-old.ensures.value c.drop_key-old.ensures.dropped
    c.drop_key-old.ensures.stays c.drop_key-old.ensures.goes c.drop_key-old.ensures.calm)
