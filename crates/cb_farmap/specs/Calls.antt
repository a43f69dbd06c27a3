-- What an array or a map asks of the shared runtime, what one such call comes to, and how a plan of
-- calls goes.
use Rattle.std.specs.Prelude.{◌≡◌, ◌≢◌, ◌⊎◌, ℕ, ◌+◌, ◌-◌, false, List, [], ◌∷◌, Option, Some, None, Result, Ok, Err}
use Rattle.cb_member.specs.declared.no_memory.NoMemory.{NoMemory as Want}
use Rattle.cb_types.specs.declared.config.Config.{Config}
use Rattle.cb_types.specs.declared.handle.Handle.{Handle}
use Rattle.cb_types.specs.declared.job.Job.TheVariants as jobs
use Rattle.cb_types.specs.declared.reply.Reply.{Reply}
use Rattle.cb_types.specs.declared.reply.Reply.TheVariants as answer
use Rattle.cb_rule.specs.declared.view.View.{View}
use Rattle.cb_shared.specs.Calls.{ReadGives, ReadStops, TurnGives, TurnStops, WriteAnswers, WriteStops}
use Rattle.cb_shared.specs.Fetching.{AreFetches, AreWrites, GetsBoth, GetsTurns}
use Rattle.cb_shared.specs.Making.{MakesNew}
use Rattle.cb_farmap.specs.declared.kept.Cannot.{Cannot}
use Rattle.cb_farmap.specs.declared.kept.Cannot.TheVariants as cannot
use Rattle.cb_farmap.specs.declared.kept.KeptObject.{KeptObject}
use Rattle.cb_farmap.specs.declared.kept.Stop.{Stop}
use Rattle.cb_farmap.specs.Stops.{cannot_of}

-- a read of a kept object, a write of these bytes into one from a place on, and a make of an object
-- of these bytes
pub data Ask : Type 0 where
  AskRead : KeptObject → Ask
  AskWrite : KeptObject → ℕ → List ℕ → Ask
  AskMake : List ℕ → Ask

-- ---- one call

-- in which order its turns came: those of a read by the turns before each, those of a write by its
-- looks too, and a make makes turns of one job alone
abbrev pub IsInOrder : Ask → View → View → Type 0
IsInOrder (AskRead k) v w = GetsTurns (AreFetches k.handle.n false) v w
IsInOrder (AskWrite k at bytes) v w = GetsBoth (AreWrites k.handle.n at bytes) v w
IsInOrder (AskMake bytes) v w = Unit {0}

-- what it leaves of the record, by its reply
abbrev pub CallGives : Config → ℕ → Ask → Reply → View → View → Type 0
CallGives c first (AskRead k) r v w =
    ReadGives c k.handle.n r v w × IsInOrder (AskRead k) v w
CallGives c first (AskWrite k at bytes) r v w =
    WriteAnswers c k.handle.n at bytes r v w × IsInOrder (AskWrite k at bytes) v w
CallGives c first (AskMake bytes) r v w =
    TurnGives c (jobs.Make bytes) r v w × MakesNew first (jobs.Make bytes) r v

-- and where there is no memory
abbrev pub CallStops : Config → Ask → View → View → Type 0
CallStops c (AskRead k) v w = ReadStops c k.handle.n v w × IsInOrder (AskRead k) v w
CallStops c (AskWrite k at bytes) v w =
    WriteStops c k.handle.n at bytes v w × IsInOrder (AskWrite k at bytes) v w
CallStops c (AskMake bytes) v w = TurnStops c (jobs.Make bytes) v w

-- its success: the bytes of the kept version, the version one above the kept one, an object made
abbrev pub IsSuccess : Ask → Reply → Type 0
IsSuccess (AskRead k) r = (bytes : List ℕ) × (r ≡ answer.Bytes k.version bytes)
IsSuccess (AskWrite k at bytes) r = r ≡ answer.Version (k.version + 1)
IsSuccess (AskMake bytes) r = (handle : Handle) × (version : ℕ) × (r ≡ answer.Made handle version)

-- a reply that tells neither bytes, nor a version that was written, nor an object made
abbrev pub IsRefusal : Ask → Reply → Type 0
IsRefusal (AskRead k) r = (version : ℕ) (bytes : List ℕ) → r ≡ answer.Bytes version bytes → ⊥
IsRefusal (AskWrite k at bytes) r = (version : ℕ) → r ≡ answer.Version version → ⊥
IsRefusal (AskMake bytes) r = (handle : Handle) (version : ℕ) → r ≡ answer.Made handle version → ⊥

-- A reply by which somebody else wrote the object: its bytes at another version than the kept one,
-- or another version written than the one above that; one less than this was found there.
abbrev pub IsForeign : Ask → ℕ → Reply → Type 0
IsForeign (AskRead k) found r =
    (found ≢ k.version) × (bytes : List ℕ) × (r ≡ answer.Bytes found bytes)
IsForeign (AskWrite k at bytes) found r = (version : ℕ) × (version ≢ k.version + 1)
    × (found ≡ version - 1) × (r ≡ answer.Version version)
IsForeign (AskMake bytes) found r = ⊥

-- this is the object that is asked for, at its kept version
abbrev pub IsOfObject : Ask → Handle → ℕ → Type 0
IsOfObject (AskRead k) handle version = (handle ≡ k.handle) × (version ≡ k.version)
IsOfObject (AskWrite k at bytes) handle version = (handle ≡ k.handle) × (version ≡ k.version)
IsOfObject (AskMake bytes) handle version = ⊥

-- the call succeeds
abbrev pub Succeeds : Config → ℕ → Ask → View → View → Type 0
Succeeds c first ask v w = (r : Reply) × IsSuccess ask r × CallGives c first ask r v w

-- it does not, for this reason: by its reply, or since there is no memory
abbrev pub Fails : Config → ℕ → Ask → Cannot → View → View → Type 0
Fails c first ask cannot.NoMemory v w = CallStops c ask v w
Fails c first ask (cannot.Refused reply) v w = IsRefusal ask reply × CallGives c first ask reply v w
Fails c first ask (cannot.Foreign handle kept found) v w = IsOfObject ask handle kept
    × ((r : Reply) × IsForeign ask found r × CallGives c first ask r v w)

-- ---- what is told of it

-- why something was not answered, if it was not
abbrev pub trouble : {X : Type 0} → Result X Cannot → Option Cannot
trouble (Ok x) = None
trouble (Err e) = Some e

-- this is told of what a call was answered
abbrev pub Tells : Ask → Result Reply Want → Option Cannot → Type 0
Tells ask (Ok r) None = IsSuccess ask r
Tells ask (Ok r) (Some cannot.NoMemory) = ⊥
Tells ask (Ok r) (Some (cannot.Refused reply)) = (reply ≡ r) × IsRefusal ask r
Tells ask (Ok r) (Some (cannot.Foreign handle kept found)) =
    IsOfObject ask handle kept × IsForeign ask found r
Tells ask (Err want) t = t ≡ Some cannot.NoMemory

-- ---- a plan of calls

-- The calls of a plan were made one after another, up to the first that did not succeed: all of
-- them where there is no trouble, and else the last one failed for this reason.
abbrev pub Goes : Config → ℕ → List Ask → Option Cannot → View → View → Type 0
Goes c first [] None v w = w ≡ v
Goes c first [] (Some e) v w = ⊥
Goes c first (ask ∷ plan) None v w =
    (u : View) × Succeeds c first ask v u × Goes c first plan None u w
Goes c first (ask ∷ plan) (Some e) v w = Fails c first ask e v w
    ⊎ ((u : View) × Succeeds c first ask v u × Goes c first plan (Some e) u w)

-- What is told by an array or a map that has stopped so: the same again, and no call is made. Where
-- it has not, the plan goes as is told.
abbrev pub Answers : Config → ℕ → Option Stop → List Ask → Option Cannot → View → View → Type 0
Answers c first None plan t v w = Goes c first plan t v w
Answers c first (Some stop) plan t v w = (t ≡ Some (cannot_of stop)) × (w ≡ v)
