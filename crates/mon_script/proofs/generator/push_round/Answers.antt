use Rattle.std.proofs.Common.{◌≡◌, ◌∙◌, ◌+◌, ◌++◌, List, ℕ, ap, sym, arith, string_bytes}
use Rattle.std.specs.List.{flat_map, range_with_len}
use Rattle.mon_script.specs.Made.{made_record, next_number, number_behind, point_record, tasks, value_of}
use Rattle.mon_script.proofs.MadeLemmas.{behind_next, tasks_are, texts_more}
use Rattle.mon_script.proofs.generator.push_round.Goals as goal

pub loop-task-preserved : goal.loop-task-preserved
loop-task-preserved c =
    let x = c.args.before.now in
    let task = c.loop-task.task in
    let record_of : ℕ → List ℕ = made_record x c.args.file c.args.round in
    let number : c.next_number-number.result ≡ number_behind (task + 1) x =
    c.next_number-number.ensures.next ∙ ap next_number c.loop-task.invariant.number ∙ sym (behind_next task x) in
    let value : c.value_of.result ≡ value_of (number_behind (task + 1) x) =
    c.value_of.ensures.value ∙ ap value_of number in
    record {
      records = c.in_ok-push_record.ensures.line
          ∙ ap (λ v. string_bytes c.loop-task.text ++ point_record v c.args.file c.args.round task) value
          ∙ ap (λ (t : List ℕ). t ++ record_of task) c.loop-task.invariant.records
          ∙ sym (texts_more record_of task (string_bytes c.args.text.now));
      number = number;
    }

pub returns-clause-records : goal.returns-clause-records
returns-clause-records c =
    let last : c.loop-task.task ≡ 500 = omega arith in
    let all : c.loop-task.task ≡ tasks = last ∙ sym tasks_are in
    c.loop-task.invariant.records
    ∙ ap (λ k. string_bytes c.args.text.now
    ++ flat_map (made_record c.args.before.now c.args.file c.args.round) (range_with_len 0 k)) all

pub returns-clause-went_on : goal.returns-clause-went_on
returns-clause-went_on c =
    let last : c.loop-task.task ≡ 500 = omega arith in
    let all : c.loop-task.task ≡ tasks = last ∙ sym tasks_are in
    c.loop-task.invariant.number ∙ ap (λ k. number_behind k c.args.before.now) all
