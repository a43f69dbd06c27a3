-- What holds of a line, by what it asks.
use Rattle.std.proofs.Common.{◌≡◌, ℕ, List, Option, Some, None, inl, inr, refl}
use Rattle.cb_types.specs.declared.job.Job.{Job}
use Rattle.cb_types.specs.declared.job.Job.TheVariants as job
use Rattle.cb_types.specs.declared.request.Request.{Request}
use Rattle.cb_types.specs.declared.request.Request.TheVariants.{Make, Read, Write, Free, Pin, Peek}
use Rattle.cb_types.specs.declared.request.Request.TheVariants.{Unpin, Filter, Leave}
use Rattle.cb_types.specs.declared.reply.Reply.{Reply}
use Rattle.cb_types.specs.declared.reply.Reply.TheVariants as answer
use Rattle.cb_lanes.specs.LineGoes.{Ask, Goes, Calls, Pins, Peeks, Unpins, Leaves, ObjectGoes}
use Rattle.cb_lanes.specs.LineGoes.{OtherGoes, LineGoes, job_of}
use Rattle.cb_lanes.proofs.LineJobs.{IsCallOf}

-- the line asks for this, where its name has this handle, if it has one
abbrev pub IsAskOf : Option ℕ → Request → Ask → Type 0
IsAskOf handle request (Calls j) = IsCallOf handle request j
IsAskOf handle request (Pins h) = (handle ≡ Some h) × ((name : List ℕ) × (request ≡ Pin name))
IsAskOf handle request (Peeks h) = (handle ≡ Some h) × ((name : List ℕ) × (request ≡ Peek name))
IsAskOf handle request (Unpins h) = (handle ≡ Some h) × ((name : List ℕ) × (request ≡ Unpin name))
IsAskOf handle request Leaves = request ≡ Leave

-- it holds where the line asks for something, and where the line asks for nothing
module _ {A : Type 0} (goes : Goes A) (a b : A) (r : Reply) (T : Type 0) where
  abbrev Asks : Option ℕ → Request → Type 0
  Asks handle request = (ask : Ask) → IsAskOf handle request ask → goes ask a r b → T

  abbrev AsksNothing : Type 0
  AsksNothing = r ≡ answer.Unmade → b ≡ a → T

  of_object : (handle : Option ℕ) (request : Request) → Asks handle request → AsksNothing
      → ObjectGoes goes handle request a r b → T
  of_object None request asks rests x = rests x.0 x.1
  of_object (Some h) (Pin name) asks rests x = asks (Pins h) (refl, (name, refl)) x
  of_object (Some h) (Peek name) asks rests x = asks (Peeks h) (refl, (name, refl)) x
  of_object (Some h) (Unpin name) asks rests x = asks (Unpins h) (refl, (name, refl)) x
  of_object (Some h) (Read name) asks rests x =
      asks (Calls (job.Read (record { n = h }))) (inr (inl (h, refl, refl))) x
  of_object (Some h) (Write name at bytes) asks rests x =
      asks (Calls (job.Write (record { n = h }) at bytes)) (inr (inl (h, refl, refl))) x
  of_object (Some h) (Free name) asks rests x =
      asks (Calls (job.Free (record { n = h }))) (inr (inl (h, refl, refl))) x
  of_object (Some h) (Filter name) asks rests x =
      asks (Calls (job.Filter (record { n = h }))) (inr (inl (h, refl, refl))) x
  of_object (Some h) request asks rests x = absurd x

  of_other : (handle : Option ℕ) (request : Request) (own : Option Job) → job_of request ≡ own
      → Asks handle request → AsksNothing → OtherGoes goes handle request own a r b → T
  of_other handle request (Some j) is asks rests x = asks (Calls j) (inr (inr is)) x
  of_other handle request None is asks rests x = of_object handle request asks rests x

  pub of_line : (handle : Option ℕ) (request : Request) → Asks handle request → AsksNothing
      → LineGoes goes handle request a r b → T
  of_line handle (Make name bytes) asks rests x =
      asks (Calls (job.Make bytes)) (inl (name, bytes, refl, refl)) x
  of_line handle Leave asks rests x = asks Leaves refl x
  of_line handle request asks rests x =
      of_other handle request (job_of request) refl asks rests x

  -- whatever it asks for
  pub by_ask : ((ask : Ask) → goes ask a r b → T) → AsksNothing → (handle : Option ℕ)
      (request : Request) → LineGoes goes handle request a r b → T
  by_ask asks rests handle request x =
      of_line handle request (λ ask is y. asks ask y) rests x

-- ---- what each ask of a line leads to, it leads to by a weaker relation too
module _ {A : Type 0} (goes less : Goes A) (a b : A) (r : Reply)
    (each : (ask : Ask) → goes ask a r b → less ask a r b) where
  object_less : (handle : Option ℕ) (request : Request) → ObjectGoes goes handle request a r b
      → ObjectGoes less handle request a r b
  object_less None request x = x
  object_less (Some h) (Pin name) x = each (Pins h) x
  object_less (Some h) (Peek name) x = each (Peeks h) x
  object_less (Some h) (Unpin name) x = each (Unpins h) x
  object_less (Some h) (Read name) x = each (Calls (job.Read (record { n = h }))) x
  object_less (Some h) (Write name at bytes) x =
      each (Calls (job.Write (record { n = h }) at bytes)) x
  object_less (Some h) (Free name) x = each (Calls (job.Free (record { n = h }))) x
  object_less (Some h) (Filter name) x = each (Calls (job.Filter (record { n = h }))) x
  object_less (Some h) request x = absurd x

  other_less : (handle : Option ℕ) (request : Request) (own : Option Job)
      → OtherGoes goes handle request own a r b → OtherGoes less handle request own a r b
  other_less handle request (Some j) x = each (Calls j) x
  other_less handle request None x = object_less handle request x

  pub line_less : (handle : Option ℕ) (request : Request) → LineGoes goes handle request a r b
      → LineGoes less handle request a r b
  line_less handle (Make name bytes) x = each (Calls (job.Make bytes)) x
  line_less handle Leave x = each Leaves x
  line_less handle request x = other_less handle request (job_of request) x
