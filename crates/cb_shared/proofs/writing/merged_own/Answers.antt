use Rattle.std.proofs.Common.{◌≡◌, ◌+◌, ℕ, get_or, subst, arith}
use Rattle.cb_mutate.specs.Merged.{IsWordMerged}
use Rattle.cb_rule.specs.Words.{base}
use Rattle.cb_shared.proofs.OwnAlone.{reads_held_at}
use Rattle.cb_shared.proofs.OwnSteps.{word_held}
use Rattle.cb_shared.proofs.WholeWord.{whole_merged}
use Rattle.cb_shared.proofs.writing.merged_own.Goals as goal

pub returns-then-first-end-clause-merged : goal.returns-then-first-end-clause-merged
returns-then-first-end-clause-merged c = λ x j _ _ _.
    whole_merged (get_or x.memory j 0) c.args.first c.args.at c.read_u64.result c.args.bytes.now
    (omega (arith, c.if-at-first.true)) (omega (arith, c.if-first-end.true, c.requires.end))
    (λ i. omega (arith, c.type_inv.bytes i)) c.read_u64.ensures

pub load-old-requires : goal.load-old-requires
load-old-requires c = let o = c.requires.of in (
  o.table,
  (let z = o.words in let l = c.requires.place in omega arith),
  reads_held_at c.args.top.now.key.first c.args.config.now _ o.key _ _ _ o.live o.config _,
)

pub returns-clause-same : goal.returns-clause-same
returns-clause-same c = (c.load-old.ensures.0, c.load-old.ensures.1, c.load-old.ensures.2.0)

pub returns-clause-merged : goal.returns-clause-merged
returns-clause-merged c x j ho lt is =
    let k = c.args.config.now in
    let here : base k + c.args.place ≡ base k + x.place + j = omega (arith, is) in
    subst (λ (n : ℕ). IsWordMerged n c.args.first c.args.at c.args.bytes.now c.merged.result)
    (word_held k c.args.top.now.table_id.slots c.args.seat.now c.load-old.new.seat
    c.requires.of.config (base k + c.args.place) c.load-old.result c.load-old.ensures.2 x j ho lt
    here) c.merged.ensures
