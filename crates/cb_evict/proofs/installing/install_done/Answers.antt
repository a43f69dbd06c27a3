use Rattle.std.proofs.Common.{◌<◌, length, sym, refl, ap, ◌∙◌, subst, inr}
use Rattle.std.specs.Option.{option_map}
use Rattle.cb_gf256.specs.Rows.{HoldBytes}
use Rattle.cb_types.specs.declared.order.EncodeOrder.{EncodeOrder}
use Rattle.cb_world.specs.FarState.{FarState}
use Rattle.cb_world.specs.Sound.{Sound}
use Rattle.cb_evict.proofs.BeginParts.{number_of, some_leaving}
use Rattle.cb_evict.proofs.Installs.{all_bytes, has_data, installed_sound, parities_count, parities_long, runs_for}
use Rattle.cb_evict.proofs.installing.install_done.Goals as goal

pub row_len-requires : goal.row_len-requires
row_len-requires c =
    let k = c.requires.kept in
    subst (λ (o : EncodeOrder). 0 < length o.rows) (sym c.order-order.ensures)
    (has_data k.0 c.args.far.now c.args.done.now.order k.2)

pub give_parities-requires : goal.give_parities-requires
give_parities-requires c =
    let far = c.args.far.now in let o = c.args.done.now.order in
    let parities = c.parities-parities.result.now in
    let e = sym (sym c.in-Some.is ∙ c.leaving_set.ensures
    ∙ ap (λ (x : FarState). option_map number_of x.leaving) c.far.view_is) in
    let b = some_leaving far.leaving c.in-Some.leaving e in
    let k = c.requires.kept in
    let x = runs_for k.0 far o parities c.in-Some.leaving k.1 k.2 c.parities-parities.ensures.done
    e (c.if-leaving-set.false ∙ ap (λ (q : EncodeOrder). q.set) c.order-order.ensures) in record {
      fit = (
        b.0,
        b.1,
        parities_count k.0 far b.0 o parities x,
        parities_long k.0 far b.0 o parities x,
      );
    }

pub returns-clause-installed : goal.returns-clause-installed
returns-clause-installed c =
    let far = c.args.far.now in let o = c.args.done.now.order in
    let parities = c.parities-parities.result.now in
    let e = sym (sym c.in-Some.is ∙ c.leaving_set.ensures
    ∙ ap (λ (x : FarState). option_map number_of x.leaving) c.far.view_is) in
    let b = some_leaving far.leaving c.in-Some.leaving e in
    let k = c.requires.kept in
    let x = runs_for k.0 far o parities c.in-Some.leaving k.1 k.2 c.parities-parities.ensures.done
    e (c.if-leaving-set.false ∙ ap (λ (q : EncodeOrder). q.set) c.order-order.ensures) in
    inr (inr (
      record {
        batch = b.0;
        there = b.1;
        same = sym (ap (λ (id : _). id.n) b.2) ∙ c.if-leaving-set.false
            ∙ ap (λ (q : EncodeOrder). q.set) c.order-order.ensures;
        reply = refl;
        parities = parities;
        count = parities_count k.0 far b.0 o parities x;
        encoded = c.parities-parities.ensures.done;
        bytes = all_bytes o.rows parities
            (subst (λ (q : EncodeOrder). HoldBytes q.rows) c.order-order.ensures
            c.row_len.ensures.rows.bytes) c.row_len-2.ensures.rows.bytes;
        state = c.give_parities.ensures b.0 b.1;
      },
      refl,
    ))

pub returns-clause-sound : goal.returns-clause-sound
returns-clause-sound c = λ s sound kept.
    let far = c.args.far.now in let o = c.args.done.now.order in
    let parities = c.parities-parities.result.now in
    let e = sym (sym c.in-Some.is ∙ c.leaving_set.ensures
    ∙ ap (λ (x : FarState). option_map number_of x.leaving) c.far.view_is) in
    let b = some_leaving far.leaving c.in-Some.leaving e in
    let x = runs_for s far o parities c.in-Some.leaving sound kept c.parities-parities.ensures.done
    e (c.if-leaving-set.false ∙ ap (λ (q : EncodeOrder). q.set) c.order-order.ensures) in
    subst (Sound s) (sym (c.give_parities.ensures b.0 b.1))
    (installed_sound s far b.0 o parities x (all_bytes o.rows parities
    (subst (λ (q : EncodeOrder). HoldBytes q.rows) c.order-order.ensures
    c.row_len.ensures.rows.bytes) c.row_len-2.ensures.rows.bytes))
