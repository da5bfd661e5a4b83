use Rattle.std.proofs.Common.{◌≡◌, ◌∙◌, true, false, ap, sym}
use Rattle.std.specs.Str.{all_ascii_digits}
use Rattle.mon_run.proofs.MadeLemmas.{not_digits, number_read}
use Rattle.mon_run.proofs.words.number_in.Goals as goal

pub returns-then-not-is_all_digits : goal.returns-then-not-is_all_digits
returns-then-not-is_all_digits c =
    let other : all_ascii_digits c.args.word.now ≡ false = ap all_ascii_digits (sym c.as_bytes.ensures.value)
    ∙ sym c.is_all_digits.ensures.digits ∙ c.if-not-is_all_digits.true in
    record { number = sym (not_digits c.args.word.now other) }

pub returns : goal.returns
returns c =
    let digits : all_ascii_digits c.args.word.now ≡ true = ap all_ascii_digits (sym c.as_bytes.ensures.value)
    ∙ sym c.is_all_digits.ensures.digits ∙ c.if-not-is_all_digits.false in
    record {
      number = c.ok.ensures.value ∙ number_read c.args.word.now c.parse.result digits c.parse.ensures.value.0;
    }
