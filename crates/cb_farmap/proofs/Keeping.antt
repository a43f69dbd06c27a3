-- What a read and a write of the kept version leave.
use Rattle.std.proofs.Common.{◌≡◌, ℕ, ◌+◌, ◌≤◌, List, length, refl, sym, ap, ◌∙◌, subst, inl, None, Result, Ok, Err, IfOk, OnOk}
use Rattle.cb_member.specs.declared.no_memory.NoMemory.{NoMemory as Want}
use Rattle.cb_types.specs.declared.config.Config.{Config}
use Rattle.cb_types.specs.declared.reply.Reply.{Reply}
use Rattle.cb_types.specs.declared.reply.Reply.TheVariants as answer
use Rattle.cb_world.specs.declared.entry.Entry.{Entry}
use Rattle.cb_rule.specs.declared.view.View.{View}
use Rattle.cb_rule.specs.Lists.{Has}
use Rattle.cb_rule.specs.RecordStands.{RecordStands}
use Rattle.cb_rule.specs.Steps.{Knows}
use Rattle.cb_shared.specs.Calls.{ReadGives, WriteAnswers}
use Rattle.cb_farmap.specs.declared.kept.Cannot.{Cannot}
use Rattle.cb_farmap.specs.declared.kept.KeptObject.{KeptObject}
use Rattle.cb_farmap.specs.Calls.{AskWrite, Tells, trouble}
use Rattle.cb_farmap.specs.Changes.{Rewrites, with_next}
use Rattle.cb_farmap.specs.Objects.{IsObject, bytes_at}
use Rattle.cb_farmap.proofs.Adds.{read_seen, read_written, write_adds}
use Rattle.cb_farmap.proofs.Objects.{found_there, kept_read, kept_written}

pub knows_it : (v : View) (k : KeptObject) → IsObject v.written k → Knows k.handle.n v
knows_it v k o = let z = found_there v.written k.handle.n k.version o.at o.is in
    inl (o.at, z.0, z.1)

-- the bytes that were read at the kept version are those of its entry
pub read_is : (c : Config) (k : KeptObject) (bytes : List ℕ) (v w u : View)
    → ReadGives c k.handle.n (answer.Bytes k.version bytes) v w → u ≡ w → RecordStands u
    → IsObject v.written k → bytes ≡ bytes_at v.written k
read_is c k bytes v w u gives is stands o =
    let s = read_seen c k.handle.n k.version bytes v w gives in
    let e : u.written ≡ v.written = ap (λ (z : View). z.written) is
    ∙ read_written c k.handle.n (answer.Bytes k.version bytes) v w gives in
    s.4 ∙ kept_read u k s.0 stands (subst (λ (l : List Entry). IsObject l k) (sym e) o)
    (subst (λ (z : View). Has s.0 z.seen) (sym is) s.1) s.2 s.3
    ∙ ap (λ (l : List Entry). bytes_at l k) e

pub write_is : (c : Config) (k : KeptObject) (at : ℕ) (bytes : List ℕ) (v w u : View)
    → WriteAnswers c k.handle.n at bytes (answer.Version (k.version + 1)) v w → u ≡ w
    → RecordStands u → IsObject v.written k → at + length bytes ≤ 1024
    → Rewrites v.written k (with_next k) at bytes u.written
write_is c k at bytes v w u gives is stands o within =
    let a = write_adds c k.handle.n at bytes (k.version + 1) v w gives in
    kept_written u v.written k a.len at bytes a.words a.later stands o
    (ap (λ (z : View). z.written) is ∙ a.is) a.write within

-- ---- by what a call was answered and what is told of it
pub bytes_told : (c : Config) (k : KeptObject) (v w u : View) (read : Result Reply Want)
    (told : Result (List ℕ) Cannot) → IfOk read (λ r. ReadGives c k.handle.n r v w) → u ≡ w
    → RecordStands u → IsObject v.written k
    → IfOk told (λ bytes. read ≡ Ok (answer.Bytes k.version bytes))
    → IfOk told (λ bytes. bytes ≡ bytes_at v.written k)
bytes_told c k v w u read (Err e) gives is stands o tells = tt
bytes_told c k v w u read (Ok bytes) gives is stands o tells = read_is c k bytes v w u
    (subst (λ (z : Result Reply Want). IfOk z (λ r. ReadGives c k.handle.n r v w)) tells gives)
    is stands o

-- a write that was answered the version above the kept one is told to have succeeded
pub next_tells : (k : KeptObject) (at : ℕ) (bytes : List ℕ) (wrote : Result Reply Want)
    → wrote ≡ Ok (answer.Version (k.version + 1)) → Tells (AskWrite k at bytes) wrote None
next_tells k at bytes wrote is =
    subst (λ (z : Result Reply Want). Tells (AskWrite k at bytes) z None) (sym is) refl

pub next_told : (c : Config) (k : KeptObject) (at : ℕ) (bytes : List ℕ) (v w u : View)
    (wrote : Result Reply Want) (told : Result (Unit {0}) Cannot)
    → IfOk wrote (λ r. WriteAnswers c k.handle.n at bytes r v w) → u ≡ w → RecordStands u
    → IsObject v.written k → at + length bytes ≤ 1024
    → Tells (AskWrite k at bytes) wrote (trouble told)
    → OnOk told (Rewrites v.written k (with_next k) at bytes u.written)
next_told c k at bytes v w u wrote (Err e) gives is stands o within tells = tt
next_told c k at bytes v w u (Err e) (Ok done) gives is stands o within tells = absurd cc
next_told c k at bytes v w u (Ok r) (Ok done) gives is stands o within tells =
    write_is c k at bytes v w u
    (subst (λ (z : Reply). WriteAnswers c k.handle.n at bytes z v w) tells gives) is stands o within
