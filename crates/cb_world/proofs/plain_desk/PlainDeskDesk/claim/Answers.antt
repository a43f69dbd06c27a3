use Rattle.std.proofs.Common.{rules, ◌∙◌, ◌≡◌, slice_index, refl}
use Rattle.cb_ptr.specs.Word.{len_of, place_of}
use Rattle.cb_world.specs.Memory.{window, words_for}
use Rattle.cb_world.proofs.plain_desk.PlainDeskDesk.claim.Goals as goal

pub returns-then-found-saw-clause-won : goal.returns-then-found-saw-clause-won
returns-then-found-saw-clause-won c =
    let found : slice_index c.args.self.now.words c.args.h.n ≡ c.args.saw =
    c.look-found.ensures ∙ c.if-found-saw.true in
    let memory = c.args.self.now.memory in
    let contents = window memory (place_of c.args.saw) (words_for (len_of c.args.saw)) in
    λ _. (
      slice_index c.args.self.now.versions c.args.h.n,
      contents,
      (
        (
          record {
            found = found;
            within = search rules;
            here = c.requires.here;
            no_pins = c.requires.no_pins;
            version = refl;
            contents = refl;
          },
          (search rules),
        ),
        (search rules),
      ),
    )
