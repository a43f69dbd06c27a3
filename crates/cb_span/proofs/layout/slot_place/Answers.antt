use Rattle.std.proofs.Common.{◌+◌, ◌*◌, ◌^◌, ◌<◌, arith, rules}
use Rattle.cb_class.proofs.Laws.{pages_few, slot_in_run}
use Rattle.cb_span.proofs.Places.{slot_place_fits, slot_place_within}
use Rattle.cb_span.proofs.layout.slot_place.Goals as goal

pub overflow_mul-result-2 : goal.overflow_mul-result-2
overflow_mul-result-2 c =
    let within = slot_in_run c.args.class c.args.slot c.requires.class c.requires.slot in
    let few = pages_few c.args.class c.requires.class in
    let low : c.args.slot * c.slot_words.result < 2 ^ 32 =
    rw c.slot_words.ensures.words (omega (arith, within, few)) in
    search (rules, low)

pub overflow_add-result : goal.overflow_add-result
overflow_add-result c =
    let within = slot_in_run c.args.class c.args.slot c.requires.class c.requires.slot in
    let low : 512 * c.args.frame + c.args.slot * c.slot_words.result < 2 ^ 32 =
    rw c.slot_words.ensures.words (omega (arith, within, c.requires.frame)) in
    search (rules, low)

pub returns-clause-within : goal.returns-clause-within
returns-clause-within c =
    rw c.slot_words.ensures.words
    (slot_place_within c.args.class c.args.frame c.args.slot c.requires.class c.requires.slot)

pub returns-clause-fits : goal.returns-clause-fits
returns-clause-fits c =
    rw c.slot_words.ensures.words
    (slot_place_fits c.args.class c.args.frame c.args.slot c.requires.class c.requires.slot
    c.requires.frame)
