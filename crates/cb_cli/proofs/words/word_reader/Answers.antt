use Rattle.std.proofs.Common.{rules, ◌≡◌}
use Rattle.clap.specs.Walk.{rule_of}
use Rattle.cb_cli.specs.Reader.{word_rule}
use Rattle.cb_cli.proofs.OptionReader.{reader_made}
use Rattle.cb_cli.proofs.words.word_reader.Goals as goal

pub returns : goal.returns
returns c =
    let rule_is : rule_of c.action-word.result ≡ word_rule = search rules in
    reader_made c.new-2.result c.no_binary_name.result c.disable_help_flag.result
    c.disable_version_flag.result c.in_ok-reader.reader c.new-2.ensures.app
    c.no_binary_name.ensures c.disable_help_flag.ensures c.disable_version_flag.ensures
    (rw (← rule_is) (c.in_ok-reader.ensures.shape (search rules)))
