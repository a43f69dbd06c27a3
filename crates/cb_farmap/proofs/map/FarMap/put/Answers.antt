use Rattle.std.proofs.Common.{ℕ, ◌+◌, Option, Some, Result, IfOk, OnErr, refl, ap, arith}
use Rattle.cb_shared.specs.Passes.{record_of}
use Rattle.cb_shared.specs.Recalls.{first_version_of}
use Rattle.cb_farmap.specs.declared.kept.Cannot.{Cannot}
use Rattle.cb_farmap.specs.declared.map.FarMap.{FarMap}
use Rattle.cb_farmap.specs.BucketChanges.{added_by}
use Rattle.cb_farmap.specs.Buckets.{bucket_in}
use Rattle.cb_farmap.specs.Calls.{trouble}
use Rattle.cb_farmap.specs.MapChanges.{IsPut, KeepsMap, StaysMap}
use Rattle.cb_farmap.specs.Plans.{put_plan}
use Rattle.cb_farmap.proofs.MapEnds.{added_low, apart_of, bucket_of, map_keeps_again, map_noted, map_stays_again, put_keeps, put_ok, put_stays, room_of}
use Rattle.cb_farmap.proofs.Once.{put_once}
use Rattle.cb_farmap.proofs.map.FarMap.put.Goals as goal

pub returns-in-Some-clause-stays : goal.returns-in-Some-clause-stays
returns-in-Some-clause-stays g c =
    let v = record_of c.args.pass.now in
    let m = c.args.self.now in
    map_stays_again c.args.shared.now.config (first_version_of c.args.shared.now)
    (put_plan v.written (bucket_in m.buckets c.args.key) (c.args.key, c.args.x)) v v m
    c.requires.map c.in-Some.stop c.in-Some.is
    refl (Some c.from.result) (ap (λ (e : Cannot). Some e) c.from.ensures)

pub returns-in-Some-clause-keeps : goal.returns-in-Some-clause-keeps
returns-in-Some-clause-keeps g c =
    let v = record_of c.args.pass.now in
    let m = c.args.self.now in
    map_keeps_again c.args.shared.now.config (first_version_of c.args.shared.now)
    (put_plan v.written (bucket_in m.buckets c.args.key) (c.args.key, c.args.x)) v v m
    c.requires.map c.in-Some.stop c.in-Some.is
    refl (Some c.from.result) (ap (λ (e : Cannot). Some e) c.from.ensures)
    (put_once v.written (bucket_in m.buckets c.args.key) (apart_of v m c.requires.map c.args.key)
    (c.args.key, c.args.x))

pub put-old-requires-clause-some : goal.put-old-requires-clause-some
put-old-requires-clause-some g c = c.requires.map.some

pub put-old-requires-clause-bucket : goal.put-old-requires-clause-bucket
put-old-requires-clause-bucket g c =
    bucket_of (record_of c.args.pass.now) c.args.self.now c.requires.map c.args.key

pub put-old-requires-clause-room : goal.put-old-requires-clause-room
put-old-requires-clause-room g c =
    room_of (record_of c.args.pass.now) c.args.self.now c.requires.map c.args.key c.requires.room

pub overflow_add-self : goal.overflow_add-self
overflow_add-self g c =
    let n = added_low c.put-old.result in
    let e = c.added.ensures in
    let few = c.requires.room in
    omega (arith, n, e, few)

pub returns-clause-ok : goal.returns-clause-ok
returns-clause-ok g c =
    let v = record_of c.args.pass.now in
    let w = record_of c.put-old.new.pass in
    let m = c.args.self.now in
    map_noted m.stop c.put-old.new.self (λ (q : Result (Option ℕ) Cannot) (z : FarMap).
    IfOk q (λ o. IsPut (c.args.key, c.args.x) o v m w z))
    c.put-old.result c.noted.result c.noted.ensures.same c.noted.new.stop c.noted.ensures.stop
    (m.len + c.added.result) (m.len + added_by c.put-old.result)
    (ap (λ (k : ℕ). m.len + k) c.added.ensures)
    (put_ok c.args.shared.now.config (first_version_of c.args.shared.now) v w m
    c.requires.map c.in_default.is c.args.key c.put-old.new.self c.put-old.ensures.one c.args.x
    c.put-old.result c.put-old.ensures.value c.put-old.ensures.put)

pub returns-clause-stays : goal.returns-clause-stays
returns-clause-stays g c =
    let v = record_of c.args.pass.now in
    let w = record_of c.put-old.new.pass in
    let m = c.args.self.now in
    map_noted m.stop c.put-old.new.self (λ (q : Result (Option ℕ) Cannot) (z : FarMap).
    OnErr q (StaysMap (trouble q) v m w z))
    c.put-old.result c.noted.result c.noted.ensures.same c.noted.new.stop c.noted.ensures.stop
    (m.len + c.added.result) (m.len + added_by c.put-old.result)
    (ap (λ (k : ℕ). m.len + k) c.added.ensures)
    (put_stays c.args.shared.now.config (first_version_of c.args.shared.now) v w m
    c.requires.map c.in_default.is c.args.key c.put-old.new.self c.put-old.ensures.one c.args.x
    c.put-old.result c.put-old.ensures.stays c.put-old.ensures.goes)

pub returns-clause-keeps : goal.returns-clause-keeps
returns-clause-keeps g c =
    let v = record_of c.args.pass.now in
    let w = record_of c.put-old.new.pass in
    let m = c.args.self.now in
    map_noted m.stop c.put-old.new.self (λ (q : Result (Option ℕ) Cannot) (z : FarMap).
    KeepsMap c.args.shared.now.config (first_version_of c.args.shared.now)
    (put_plan v.written (bucket_in m.buckets c.args.key) (c.args.key, c.args.x)) (trouble q) v m w z)
    c.put-old.result c.noted.result c.noted.ensures.same c.noted.new.stop c.noted.ensures.stop
    (m.len + c.added.result) (m.len + added_by c.put-old.result)
    (ap (λ (k : ℕ). m.len + k) c.added.ensures)
    (put_keeps c.args.shared.now.config (first_version_of c.args.shared.now) v w m
    c.requires.map c.in_default.is c.args.key c.put-old.new.self c.put-old.ensures.one c.args.x
    c.put-old.result c.put-old.ensures.value c.put-old.ensures.put
    c.put-old.ensures.stays c.put-old.ensures.goes c.put-old.ensures.calm)
