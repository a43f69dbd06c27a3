use Rattle.cb_script.proofs.Printing.{header_pushed}
use Rattle.cb_script.proofs.print.push_header.Goals as goal

pub returns : goal.returns
returns c =
    rw (
      c.in_ok-push.ensures.items,
      c.in_ok-push_setting-7.ensures,
      c.in_ok-push_setting-6.ensures,
      c.in_ok-push_setting-5.ensures,
      c.in_ok-push_setting-4.ensures,
      c.in_ok-push_setting-3.ensures,
      c.in_ok-push_setting-2.ensures,
      c.in_ok-push_setting.ensures,
      c.in_ok-extend_from_slice.ensures.items,
    )
    (header_pushed c.args.text.now.items c.args.config.now)
