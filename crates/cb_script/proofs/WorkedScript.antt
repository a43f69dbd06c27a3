-- Worked example: the bytes that spell a script of a make and a read.
use Rattle.std.proofs.Common.{ℕ, ◌<◌, List, [], ◌∷◌, refl, arith, inl}
use Rattle.std.specs.Prelude.{codes}
use Rattle.std.specs.Fmt.{digits}
use Rattle.std.proofs.lemmas.List.Elements.{All-cons, All-nil}
use Rattle.hex.specs.Hex.{encode_with}
use Rattle.cb_types.specs.Config.{IsAccepted}
use Rattle.cb_types.specs.declared.config.Config.{Config}
use Rattle.cb_types.specs.declared.config.Field.TheVariants.{K, R, Nodes, Frames, Room, Handles, Turns}
use Rattle.cb_types.specs.declared.request.Request.{Request}
use Rattle.cb_types.specs.declared.request.Request.TheVariants.{Make, Read}
use Rattle.cb_script.specs.declared.script.Line.{Line}
use Rattle.cb_script.specs.declared.script.Mode.TheVariants as modes
use Rattle.cb_script.specs.declared.script.Script.{Script}
use Rattle.cb_script.specs.Form.{IsName, IsNameByte, Spells}
use Rattle.cb_script.specs.Spelling.{header_line}

abbrev pub small : Config
small = record { k = 2; r = 2; nodes = 6; frames = 8; room = 64; handles = 16; turns = 0 }

abbrev pub made_and_read : List ℕ
made_and_read = codes "carbink 1 k=2 r=2 nodes=6 frames=8 room=64 handles=16 turns=0\n1 make a 0a0b\n1 read a\n"

abbrev pub line_of : ℕ → Request → Line
line_of line request = record { lane = record { n = 1 }; line = line; request = request }

abbrev pub make_a : Request
make_a = Make (codes "a") (10 ∷ 11 ∷ [])

abbrev pub read_a : Request
read_a = Read (codes "a")

abbrev pub script : Script
script = record { config = small; lines = line_of 2 make_a ∷ line_of 3 read_a ∷ [] }

accepted : IsAccepted small
accepted K = (omega arith, omega arith)
accepted R = (omega arith, omega arith)
accepted Nodes = (omega arith, omega arith)
accepted Frames = (omega arith, omega arith)
accepted Room = (omega arith, omega arith)
accepted Handles = (omega arith, omega arith)
accepted Turns = omega arith

name_a : IsName (codes "a")
name_a = record { some = omega arith; few = omega arith; each = All-cons IsNameByte 97 [] (inl (omega arith, omega arith)) (All-nil IsNameByte) }

pub spelled : Spells made_and_read modes.Seq script
unfolding header_line digits encode_with
spelled = record {
  short = omega arith;
  form = record {
    config = accepted;
    few = omega arith;
    lines = (
      record {
        lane = record { low = omega arith; first = λ e. absurd (omega (arith, e)) };
        line = refl;
        request = (name_a, record { some = omega arith; few = omega arith; each = All-cons (λ b. b < 256) 10 (11 ∷ []) (omega arith) (All-cons (λ b. b < 256) 11 [] (omega arith) (All-nil (λ b. b < 256))) });
        known = λ lane made. made;
      },
      (
        record {
          lane = record { low = omega arith; first = λ e. absurd (omega (arith, e)) };
          line = refl;
          request = name_a;
          known = inl (inl (refl, refl));
        },
        tt,
      ),
    );
  };
  allowed = (tt, (tt, tt));
  text = refl;
}
