use Rattle.std.proofs.Common.{sym}
use Rattle.mon_value.proofs.TextLemmas.{text_in-not_IsUtf8}
use Rattle.mon_value.proofs.texts.Text.from_utf8.Goals as goal

pub returns-in-Err : goal.returns-in-Err
returns-in-Err c = record { text = sym (text_in-not_IsUtf8 c.args.bytes.now c.in-Err.ensures.cases.0) }
