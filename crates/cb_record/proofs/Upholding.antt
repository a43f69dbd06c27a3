-- What is upheld of an answer by what the record that backs it has.
use Rattle.std.proofs.Common.{◌≡◌, ℕ, ◌+◌, ◌<◌, [], ◌∷◌, Option, sym, refl, ◌∙◌, inl, ⊎_elim}
use Rattle.cb_types.specs.declared.job.Job.{Job}
use Rattle.cb_types.specs.declared.reply.Reply.TheVariants as answer
use Rattle.cb_ptr.specs.declared.word.State.TheVariants as state
use Rattle.cb_rule.specs.declared.turn.Turn.{Turn}
use Rattle.cb_rule.specs.declared.view.View.{View}
use Rattle.cb_rule.specs.Lists.{Has}
use Rattle.cb_rule.specs.Promised.{EntriesStand}
use Rattle.cb_record.specs.Lists.{HasOne}
use Rattle.cb_record.specs.Needs.{FindsPast, IsOwnTurn, Meets}
use Rattle.cb_record.specs.Needs.Need.{AnEnd}
use Rattle.cb_record.specs.Upheld.{IsLong, as_part}
use Rattle.cb_record.proofs.Histories.{written}
use Rattle.cb_record.proofs.Replied.{find_one}

here_full : state.Here ≡ state.Empty → ⊥
here_full e = absurd cc

-- a write past the end is told that end, by a look, or by its turn where that one tells it
pub end_long : (first : ℕ) (v : View) (entries : EntriesStand first (v ∷ [])) (quiet : v.fresh ≡ [])
    (own : Option Job) (h at count len : ℕ)
    → ((t : Turn) → Has t v.turns → IsOwnTurn own (answer.Range len) t
    → IsLong v.written h len × (len < at + count))
    → Meets (as_part v) (AnEnd own h at count len) → IsLong v.written h len × (len < at + count)
end_long first v entries quiet own h at count len turns m = ⊎_elim
    (λ (looked : HasOne (FindsPast h at count len) v.looks).
    let z = find_one (FindsPast h at count len) v.looks looked in
    let o = entries.looked z.0 (v, (0, refl), inl z.1) (λ e. here_full (sym z.2.1 ∙ e)) in (
      (o.0, written first v entries quiet o.0 o.1, o.2 ∙ z.2.0, o.3, o.4 ∙ z.2.2),
      z.2.3,
    ))
    (λ (turned : HasOne (IsOwnTurn own (answer.Range len)) v.turns).
    let t = find_one (IsOwnTurn own (answer.Range len)) v.turns turned in turns t.0 t.1 t.2) m
