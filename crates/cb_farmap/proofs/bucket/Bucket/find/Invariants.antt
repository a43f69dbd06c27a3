use Rattle.std.proofs.Common.{◌*◌, None, map, take}
use Rattle.cb_shared.specs.Passes.{IsPassOf, record_of}
use Rattle.cb_shared.specs.Recalls.{first_version_of}
use Rattle.cb_farmap.specs.Calls.{AskRead, Goes}
use Rattle.cb_farmap.specs.Searching.{NoneFrom}
use Rattle.cb_farmap.proofs.bucket.Bucket.find.Given as goal

abbrev pub invariant-loop-o : goal.invariant-loop-o
invariant-loop-o g l = record {
  of : IsPassOf l.shared l.pass;
  none : NoneFrom (record_of l.fn.pass).written l.self l.key 0 (64 * l.o);
  goes : Goes l.shared.config (first_version_of l.shared) (map AskRead (take l.o l.self.kept)) None
      (record_of l.fn.pass) (record_of l.pass);
}
