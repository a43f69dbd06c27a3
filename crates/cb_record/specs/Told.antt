-- Answered lines, each with the handle of its name.
use Rattle.std.specs.Prelude.{ℕ, List, [], ◌∷◌, ◌++◌, Option}
use Rattle.cb_types.specs.declared.answer.Answer.{Answer}
use Rattle.cb_types.specs.declared.reply.Reply.{Reply}
use Rattle.cb_types.specs.declared.request.Request.{Request}
use Rattle.cb_model.specs.Called.{handle_for}

-- an answered line, with the handle that it is about, where there is one
pub record Told : Type 0 where
  pub handle : Option ℕ
  pub request : Request
  pub reply : Reply

-- an answer after those before it
abbrev pub told : List Answer → Answer → Told
told before a = record {
  handle = handle_for before a.request a.reply;
  request = a.request;
  reply = a.reply;
}

-- answers after those before them
abbrev pub tolds : List Answer → List Answer → List Told
tolds before [] = []
tolds before (a ∷ after) = told before a ∷ tolds (before ++ a ∷ []) after
