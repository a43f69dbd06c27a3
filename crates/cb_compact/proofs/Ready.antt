-- A row can be put for the next position of a pair whose sets stand as they did.
use Rattle.std.proofs.Common.{◌≡◌, ℕ, ◌+◌, ◌<◌, true, false, List, length, Option, Some, Bor, sym, ap, ◌∙◌, subst, arith}
use Rattle.std.specs.List.{slice_get}
use Rattle.std.specs.Option.{option_copied}
use Rattle.cb_gf256.specs.Rows.{row_at}
use Rattle.cb_gf256.specs.InRange.{IsInRange}
use Rattle.cb_member.specs.declared.names.Shard.{Shard}
use Rattle.cb_node.specs.Answer.{PutGives}
use Rattle.cb_node.specs.NodesState.{NodesState, has, row_under}
use Rattle.cb_node.specs.declared.nodes.PutAnswer.{PutAnswer}
use Rattle.cb_node.specs.declared.nodes.PutAnswer.TheVariants.{Full, Stored}
use Rattle.cb_node.proofs.Laws.{row_is_put}
use Rattle.cb_set.specs.SetState.{SetState, parities}
use Rattle.cb_world.specs.declared.shown.Shown.{Shown}
use Rattle.cb_world.specs.FarState.{FarState}
use Rattle.cb_world.specs.FarSound.{FarSound, IsSetWord, of_set}
use Rattle.cb_world.specs.Join.{IsJoin}
use Rattle.cb_world.specs.Joining.{JoiningState}
use Rattle.cb_world.specs.Merged.{AreTaken, IsMergedWord, takes}
use Rattle.cb_world.specs.Sets.{set_in}
use Rattle.cb_world.specs.SetWord.{IsSpanWord, IsWordOf}
use Rattle.cb_world.specs.Stored.{AreThere}
use Rattle.cb_world.proofs.Laws.{undrawn_is_fresh, whole_none}
use Rattle.cb_compact.specs.Deltas.{HaveAllRows, IsOfCode, IsReadyToPut, NoneNames, PutsMerged, StandTogether}
use Rattle.cb_compact.specs.PartStep.{IsFreshPair, SetStands}
use Rattle.cb_compact.proofs.CompactKeeps.{fresh_is}
use Rattle.cb_compact.proofs.Looked.{set_same}
use Rattle.cb_compact.proofs.PatchSound.{counted, step_is_taken, word_merged}

-- ---- the pair and its sets are one of each
pub pair_same : (p q : JoiningState) → Some p ≡ Some q → p ≡ q
pair_same p q e = cc

pub unwrapped : (o : Option (Bor JoiningState)) (b : Bor JoiningState) (x : Option JoiningState)
    (p : JoiningState) → option_copied o ≡ x → o ≡ Some b → x ≡ Some p → p ≡ b.now
unwrapped o b x p e f at =
    pair_same p b.now (sym at ∙ sym e ∙ ap option_copied f)

pub record SameFresh (far : FarState) (pair other : JoiningState) (a b c d : SetState) : Type 0
  where
    pub pairs : pair ≡ other
    pub a_is : a ≡ c
    pub b_is : b ≡ d

pub same_fresh : (far : FarState) (pair other : JoiningState) (a b c d : SetState)
    → IsFreshPair far pair a b → IsFreshPair far other c d → SameFresh far pair other a b c d
same_fresh far pair other a b c d x y =
    let e = pair_same pair other (sym x.was ∙ y.was) in
    record {
      pairs = e;
      a_is = set_same a c (sym x.a_stands.there ∙ ap (λ (q : JoiningState). set_in far.sets q.a) e
          ∙ y.a_stands.there);
      b_is = set_same b d (sym x.b_stands.there ∙ ap (λ (q : JoiningState). set_in far.sets q.b) e
          ∙ y.b_stands.there);
    }

-- ---- all rows of a set that stands
pub stand_all : (far : FarState) (id : ℕ) (shards : List Shard) (set : SetState)
    (rows : List (List ℕ)) → SetStands far id shards set → IsWordOf far.nodes far.members set rows
    → HaveAllRows far.nodes shards rows
stand_all far id shards set rows x word p shard at =
    let here = ap (λ (l : List Shard). slice_get l p) x.same ∙ at in
    word.survive p shard here (whole_none far.members set.shards x.whole p shard here)

-- ---- the rows of a pair whose sets stand as they did
module _ (s : Shown) (far : FarState) (pair : JoiningState) (a b : SetState)
    (sound : FarSound s far) (fresh : IsFreshPair far pair a b) where
  j : IsJoin far pair
  j = sound.join pair fresh.was

  k_is : length a.positions ≡ j.k
  k_is = (counted far pair a b j fresh).k

  r_is : parities a ≡ j.r
  r_is = (counted far pair a b j fresh).r

  a_there : AreThere far.nodes pair.shards_a
  a_there q shard at =
      let y = (sound.sound.rows.current (of_set pair.a q) shard (
        a,
        fresh.a_stands.there,
        ap (λ (l : List Shard). slice_get l q) fresh.a_stands.same ∙ at,
      )).0 in
      let n = sound.sound.rows.counted in omega (arith, y, n)

  b_there : AreThere far.nodes pair.shards_b
  b_there q shard at =
      let y = (sound.sound.rows.current (of_set pair.b q) shard (
        b,
        fresh.b_stands.there,
        ap (λ (l : List Shard). slice_get l q) fresh.b_stands.same ∙ at,
      )).0 in
      let n = sound.sound.rows.counted in omega (arith, y, n)

  pub fresh_code : IsOfCode far.nodes pair (length a.positions) (parities a)
  fresh_code = record {
    range = subst (λ (k : ℕ). IsInRange k (parities a)) (sym k_is)
        (subst (λ (r : ℕ). IsInRange j.k r) (sym r_is) j.range);
    taken = subst (λ (k : ℕ). AreTaken k pair.taken) (sym k_is) j.taken;
    a_count = let n = j.a_count in let k = k_is in let r = r_is in omega (arith, n, k, r);
    b_count = let n = j.b_count in let k = k_is in let r = r_is in omega (arith, n, k, r);
    a_nodes = a_there;
    b_nodes = b_there;
  }

  pub fresh_together : (wa wb : List (List ℕ)) → IsWordOf far.nodes far.members a wa
      → IsWordOf far.nodes far.members b wb
      → StandTogether far.nodes pair a.pages (length a.positions) (parities a) wa wb
  fresh_together wa wb xa xb =
      let fit = j.fit a b (fresh_is far pair a b fresh) in
      let bk : length b.positions ≡ length a.positions = fit.b_count ∙ sym fit.a_count in
      let br : parities b ≡ parities a =
      let n = j.b_count in let e = ap length fresh.b_stands.same in let k = k_is in let r = r_is in
      let c = fit.b_count in omega (arith, n, e, k, r, c, bk) in
      record {
        a_word = xa.code;
        b_word = subst (λ (n : ℕ). IsSpanWord n (length a.positions) (parities a) wb)
            (fit.b_pages ∙ sym fit.a_pages)
            (subst (λ (r : ℕ). IsSpanWord b.pages (length a.positions) r wb) br
            (subst (λ (k : ℕ). IsSpanWord b.pages k (parities b) wb) bk xb.code));
        a_rows = stand_all far pair.a pair.shards_a a wa fresh.a_stands xa;
        b_rows = stand_all far pair.b pair.shards_b b wb fresh.b_stands xb;
      }

  pub fresh_words : (wa wb : List (List ℕ))
      × StandTogether far.nodes pair a.pages (length a.positions) (parities a) wa wb
  fresh_words =
      let x = sound.sound.sets.worded pair.a a fresh.a_stands.there in
      let y = sound.sound.sets.worded pair.b b fresh.b_stands.there in
      (x.0, y.0, fresh_together x.0 y.0 x.1.word y.1.word)

module _ (s : Shown) (far : FarState) (pair : JoiningState) (a b : SetState) (p : ℕ)
    (shard : Shard) (x : IsReadyToPut s far pair a b p shard) where
  joined : IsJoin far pair
  joined = x.sound.join pair x.fresh.was

  pub ready_code : IsOfCode far.nodes pair (length a.positions) (parities a)
  ready_code = fresh_code s far pair a b x.sound x.fresh

  pub ready_position : p < length a.positions + parities a
  ready_position = let n = joined.count in let l = x.next.within in
      let c = counted far pair a b joined x.fresh in let k = c.k in let r = c.r in
      omega (arith, n, l, k, r)

  pub ready_taken : p < length a.positions → takes pair.taken p ≡ true
  ready_taken = step_is_taken pair (length a.positions) p x.next

  pub ready_node : shard.node.n < length far.nodes.nodes
  ready_node = subst (λ (q : Shard). q.node.n < length far.nodes.nodes) (sym x.beside)
      (ready_code.a_nodes p x.old x.at)

  key_is : shard.key ≡ far.counts.keys
  key_is = ap (λ (q : Shard). q.key) x.beside

  pub ready_fresh : has far.nodes shard.node shard.key ≡ false
  ready_fresh = ap (has far.nodes shard.node) key_is
      ∙ undrawn_is_fresh far shard.node far.counts.keys x.sound.sound.rows (omega arith)

  pub ready_a : NoneNames pair.shards_a shard.node shard.key
  ready_a q other at names =
      let l = joined.a_keys q other at in let e = names.1 in let k = key_is in
      omega (arith, l, e, k)

  pub ready_b : NoneNames pair.shards_b shard.node shard.key
  ready_b q other at names =
      let l = joined.b_keys q other at in let e = names.1 in let k = key_is in
      omega (arith, l, e, k)

  together : (wa wb : List (List ℕ)) → IsWordOf far.nodes far.members a wa
      → IsWordOf far.nodes far.members b wb
      → StandTogether far.nodes pair a.pages (length a.positions) (parities a) wa wb
  together = fresh_together s far pair a b x.sound x.fresh

  a_worded : (rows : List (List ℕ)) × IsSetWord s far.nodes far.members a rows
  a_worded = x.sound.sound.sets.worded pair.a a x.fresh.a_stands.there

  b_worded : (rows : List (List ℕ)) × IsSetWord s far.nodes far.members b rows
  b_worded = x.sound.sound.sets.worded pair.b b x.fresh.b_stands.there

  pub ready_words : (wa wb : List (List ℕ))
      × (pages : ℕ) × StandTogether far.nodes pair pages (length a.positions) (parities a) wa wb
  ready_words = let w = fresh_words s far pair a b x.sound x.fresh in (w.0, w.1, a.pages, w.2)

  row_same : (c d : List ℕ) → Some c ≡ Some d → c ≡ d
  row_same c d e = cc

  -- what was put is the merged row, whichever words are looked at
  pub puts_merged : (answer : PutAnswer) (new : NodesState)
      → ((pages : ℕ) (wa wb m : List (List ℕ))
      → StandTogether far.nodes pair pages (length a.positions) (parities a) wa wb
      → IsMergedWord pages (length a.positions) (parities a) pair.taken wa wb m
      → PutGives far.nodes shard.node shard.key (row_at m p) answer new)
      → PutsMerged far pair a b p shard answer new
  puts_merged answer new puts = by answer puts
    where
      word : (m : List (List ℕ))
          × IsMergedWord a.pages (length a.positions) (parities a) pair.taken a_worded.0 b_worded.0
          m
      word = let m = joined.word a b (fresh_is far pair a b x.fresh) in (
        m.0,
        word_merged far pair a b joined a_worded.0 b_worded.0 m.0 x.fresh a_worded.1.word
            b_worded.1.word m.1,
      )

      by : (v : PutAnswer) → ((pages : ℕ) (wa wb m : List (List ℕ))
          → StandTogether far.nodes pair pages (length a.positions) (parities a) wa wb
          → IsMergedWord pages (length a.positions) (parities a) pair.taken wa wb m
          → PutGives far.nodes shard.node shard.key (row_at m p) v new)
          → PutsMerged far pair a b p shard v new
      by Stored puts =
          let first = puts a.pages a_worded.0 b_worded.0 word.0
          (together a_worded.0 b_worded.0 a_worded.1.word b_worded.1.word) word.1 in (
            first.0,
            row_at word.0 p,
            λ wa wb m xa xb merged.
                let other = puts a.pages wa wb m (together wa wb xa xb) merged in
                row_same (row_at word.0 p) (row_at m p)
                (sym (row_is_put far.nodes shard.node shard.key (row_at word.0 p) ready_node)
                ∙ ap (λ (n : NodesState). row_under n shard.node shard.key) (sym first.1 ∙
                other.1)
                ∙ row_is_put far.nodes shard.node shard.key (row_at m p) ready_node),
            first.1,
          )
      by (Full count) puts =
          let first = puts a.pages a_worded.0 b_worded.0 word.0
          (together a_worded.0 b_worded.0 a_worded.1.word b_worded.1.word) word.1 in (
            first.0,
            first.2,
          )

-- along equations of all that a call is given
pub carry : (P : NodesState → JoiningState → ℕ → ℕ → Type 0) (n m : NodesState)
    (p q : JoiningState) (k l r t : ℕ) → n ≡ m → p ≡ q → k ≡ l → r ≡ t → P n p k r → P m q l t
carry P n m p q k l r t en ep ek er x =
    subst (λ (m : NodesState). P m q l t) en (subst (λ (q : JoiningState). P n q l t) ep
    (subst (λ (l : ℕ). P n p l t) ek (subst (λ (t : ℕ). P n p k t) er x)))
