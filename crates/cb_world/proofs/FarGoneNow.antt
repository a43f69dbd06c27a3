-- Last complete contents where a far object is freed: every other object holds what it held.
use Rattle.std.proofs.Common.{◌≡◌, ◌≢◌, ℕ, List, None, ap, get_or-set_other}
use Rattle.cb_set.specs.SetState.{SetState}
use Rattle.cb_world.specs.declared.homes.Home.{Home}
use Rattle.cb_world.specs.declared.shown.Shown.{Shown}
use Rattle.cb_world.specs.Memory.{window, words_for}
use Rattle.cb_world.specs.FarState.{FarState}
use Rattle.cb_world.specs.LeftOver.{without_far}
use Rattle.cb_world.specs.Now.{is_gone, now}
use Rattle.cb_world.proofs.FarGone.{IsFarFreed, far_gives_up, other_object, other_version, sound_far_gone}
use Rattle.cb_world.proofs.NowKept.{now_kept}
use Rattle.cb_world.proofs.GivenUpNow.{left_gone}

pub now_far_gone : (s t : Shown) (far : FarState) (h len v : ℕ) (words : List ℕ) (home : Home)
    (set : SetState) → IsFarFreed s t far h len v words home set → (k : ℕ) → k ≢ h
    → now t (without_far far h home set) k ≡ now s far k
now_far_gone s t far h len v words home c x k off =
    let new = without_far far h home c in
    let gone : is_gone new k ≡ is_gone far k =
    left_gone s t far new home.set c home.position _ x.sound.away.sound
    (sound_far_gone s t far h len v words home c x).away.sound
    (far_gives_up s t far h len v words home c x) k
    (get_or-set_other far.homes h k None None off) in
    now_kept s t far new k (other_object s t far h len v words home c x k off)
    (other_version s t far h len v words home c x k off)
    (λ n place here. ap (λ (m : List ℕ). window m place (words_for n)) x.memory) gone
