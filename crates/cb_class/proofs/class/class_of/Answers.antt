use Rattle.std.proofs.Common.{◌≡◌, ℕ, ◌<◌, true, false, ltb, ltb-true, ltb-false, arith, rules, inl, inr}
use Rattle.std.proofs.lemmas.List.Sorted.{IsPartitionPoint-from_clause, IsPartitionedBy-ltb}
use Rattle.std.specs.List.Sorted.{IsPartitionPoint}
use Rattle.std.proofs.lemmas.Bool.{cases_lt}
use Rattle.cb_class.specs.Class.{bytes_of, largest, sizes}
use Rattle.cb_class.proofs.Table.{sizes_ascend, size_at}
use Rattle.cb_class.proofs.class.class_of.Goals as goal

pub returns : goal.returns
unfolding bytes_of
returns c =
    let len = c.args.len in
    let index = c.partition_point-index.result in
    let point : IsPartitionPoint (λ (n : ℕ). ltb n len ≡ true)
    (λ (n : ℕ). ltb n len ≡ false) sizes index =
    IsPartitionPoint-from_clause
    (λ (n : ℕ). ltb n len) sizes index c.partition_point-index.ensures.partitioned
    (IsPartitionedBy-ltb (λ (n : ℕ). n) sizes len sizes_ascend) (λ a r q k. search rules) in
    let in_table : index < 16 =
    elim (cases_lt index 16) [
      | inl below ↦ below
      | inr past ↦ let last : largest < len =
          ltb-true largest len (point.0 15 0 (omega arith) (omega arith)) in absurd (omega arith)
    ] in
    record {
      in_table = in_table;
      holds = ltb-false (size_at index) len (point.1 index 0 (omega arith) in_table);
      least = λ smaller less. ltb-true (size_at smaller.index) len
          (point.0 smaller.index 0 (omega arith) less);
    }
