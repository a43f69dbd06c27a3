-- The turn of an install, which works at the far state alone, as a turn over any desk.
use Rattle.std.proofs.Common.{◌≡◌, List, [], Option, refl}
use Rattle.cb_types.specs.declared.config.Config.{Config}
use Rattle.cb_types.specs.declared.job.Job.TheVariants.{Install}
use Rattle.cb_types.specs.declared.order.Kept.{Kept}
use Rattle.cb_types.specs.declared.reply.Reply.{Reply}
use Rattle.cb_world.specs.declared.access.Access.{Access}
use Rattle.cb_world.specs.declared.shown.Shown.{Shown}
use Rattle.cb_world.specs.Orders.{KeepsOrder}
use Rattle.cb_world.specs.Sound.{Sound}
use Rattle.cb_core.specs.Ordered.{InstallTurn, TurnedWith}
use Rattle.cb_core.specs.Ordered.InstallTurn.{done as was_done, worn as was_worn}
use Rattle.cb_core.specs.Ordered.TurnedWith.{done, worn}
use Rattle.cb_core.specs.OrderLeaves.{InstallLeaves}
use Rattle.cb_core.specs.Parts.{Holding}
use Rattle.cb_core.specs.TurnLeaves.{TurnLeaves}

module _ {D : Type 0} (run : D → List Access → D → Type 0) (shows : D → Shown → Type 0) (c : Config)
    (a b : Holding D) (ran : run a.desk [] b.desk) where
  pub install_at_desk : (r : Reply) (order keeps : Option Kept)
      → InstallTurn a.far r order keeps b.far → TurnedWith run shows c Install order a r keeps b
  install_at_desk r order keeps (was_worn end is same stays) = worn end is same stays ran
  install_at_desk r order keeps (was_done few step) = done few (ran, step)

  -- where the order was kept, by all that the desk showed
  pub install_desk_leaves : (order : Option Kept) → InstallLeaves c a.far b.far order
      → ((s : Shown) → shows a.desk s → Sound s a.far → KeepsOrder s a.far order)
      → TurnLeaves run shows c a b (λ more. more ≡ [])
  install_desk_leaves order z kept = record {
    events = [];
    ran = ran;
    configured = z.configured;
    codes = z.codes;
    counted = z.counted;
    next = z.next;
    after = λ s shown sound. record {
      sound = z.sound s sound (kept s shown sound);
      orders = z.orders s sound (kept s shown sound);
      more = [];
      wrote = refl;
      writes_them = λ old. refl;
    };
  }
