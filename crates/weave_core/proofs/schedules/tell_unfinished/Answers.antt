use Rattle.std.proofs.Common.{◌≡◌, ◌∙◌, ◌++◌, ℕ, string_bytes, ap, arith}
use Rattle.std.specs.List.{flat_map, range_with_len}
use Rattle.weave_core.proofs.LineRunLemmas.{unfinished_more}
use Rattle.weave_core.specs.Schedules.{unfinished_line}
use Rattle.core_store.specs.Agreements.{store_of}
use Rattle.schedule_lines.specs.declared.limits.TheConstants.{LAST_ACTOR}
use Rattle.weave_core.proofs.schedules.tell_unfinished.Goals as goal

pub loop-number-preserved : goal.loop-number-preserved
loop-number-preserved c = λ config state agrees.
    unfinished_more (unfinished_line (store_of config) state) c.loop-number.number (string_bytes c.args.out.now)
    (string_bytes c.loop-number.out)
    (string_bytes c.tell_if_unfinished.new.out) (c.loop-number.invariant config state agrees)
    (c.in_ok-tell_if_unfinished.ensures.told config state agrees)

pub returns : goal.returns
returns c =
    let past = c.loop-number-test.false in
    let all : c.loop-number.number ≡ LAST_ACTOR = omega (arith, past, c.loop-number.auto.number-end) in
    record {
      told = λ config state agrees.
          c.loop-number.invariant config state agrees
          ∙ ap (λ (n : ℕ). string_bytes c.args.out.now ++ flat_map (unfinished_line (store_of config) state)
          (range_with_len 1 n)) all;
    }
