use Rattle.std.proofs.Common.{◌≡◌, false, length, ltb, ap, ◌∙◌, arith, Option}
use Rattle.std.specs.Option.{ok_or}
use Rattle.serde_json.specs.Data.{Data}
use Rattle.mon_config.specs.declared.limits.TheConstants.{LONGEST_CONFIGURATION}
use Rattle.std.proofs.lemmas.Bool.{false≢true}
use Rattle.std.proofs.lemmas.Bool.Decides.{nat_tests}
use Rattle.mon_config.specs.declared.faults.ConfigFault.TheVariants.{NotJson}
use Rattle.mon_config.proofs.DataInLemmas.{data_in-read, data_in-refused}
use Rattle.mon_config.proofs.config.json_in.Goals as goal

pub returns-in-Ok : goal.returns-in-Ok
returns-in-Ok c =
    let text = c.args.text.now in
    let short : ltb LONGEST_CONFIGURATION (length text) ≡ false = grind (arith, nat_tests) in
    record {
      json = rw short (ap (λ (found : Option Data). ok_or found NotJson) (data_in-read text c.in-Ok.ensures.ok.0
          ∙ c.in-Ok.ensures.ok.1));
    }

pub returns-in-Err-2 : goal.returns-in-Err-2
returns-in-Err-2 c =
    let text = c.args.text.now in
    let short : ltb LONGEST_CONFIGURATION (length text) ≡ false = grind (arith, nat_tests) in
    let refused = c.in-Err.ensures.err (λ m. absurd (false≢true (c.if-is_memory.ensures.1 m))) in
    record { json = rw short (ap (λ (found : Option Data). ok_or found NotJson) (data_in-refused text refused)) }
