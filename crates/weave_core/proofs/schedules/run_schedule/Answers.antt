use Rattle.std.proofs.Common.{string_bytes}
use Rattle.weave_core.proofs.LineRunLemmas.{printed_by}
use Rattle.weave_core.proofs.schedules.run_schedule.Goals as goal

pub returns : goal.returns
returns c =
    let begins = c.in_ok-weave.ensures.begins in
    record {
      printed = printed_by Unit c.args.config begins.state c.args.text.now (string_bytes c.args.out.now)
          (string_bytes c.run_lines-ran.new.out)
          c.run_lines-ran.result begins.first (c.run_lines-ran.ensures.ran c.args.config begins.state begins.agrees);
    }
