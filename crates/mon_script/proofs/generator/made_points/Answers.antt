use Rattle.std.proofs.Common.{◌≡◌, ◌∙◌, ◌++◌, [], List, ℕ, ap, sym, arith, string_bytes}
use Rattle.std.proofs.lemmas.Result.{IfOk-weaker}
use Rattle.std.specs.List.{flat_map, range_with_len}
use Rattle.mon_script.specs.Made.{made_record, made_round, number_behind, rounds, tasks}
use Rattle.mon_script.proofs.MadeLemmas.{round_more, rounds_are, texts_more}
use Rattle.mon_script.proofs.generator.made_points.Goals as goal

pub loop-round-preserved : goal.loop-round-preserved
loop-round-preserved c =
    let n = c.args.number in
    let file = c.args.file in
    let round = c.loop-round.round in
    let h = c.in_ok-push_round.ensures in
    record {
      rounds = h.records
          ∙ ap (λ (x : ℕ). string_bytes c.loop-round.text
          ++ flat_map (made_record x file round) (range_with_len 0 tasks)) c.loop-round.invariant.number
          ∙ ap (λ (t : List ℕ). t ++ made_round n file round) c.loop-round.invariant.rounds
          ∙ sym (texts_more (made_round n file) round []);
      number = h.went_on ∙ ap (number_behind tasks) c.loop-round.invariant.number ∙ round_more n file round;
    }

pub returns : goal.returns
returns c =
    let last : c.loop-round.round ≡ 100 = omega arith in
    let all : c.loop-round.round ≡ rounds = last ∙ sym rounds_are in
    record {
      points = IfOk-weaker c.from_string.result _ _ (λ text is. is ∙ c.loop-round.invariant.rounds
          ∙ ap (λ k. flat_map (made_round c.args.number c.args.file) (range_with_len 0 k)) all)
          c.from_string.ensures.bytes;
    }
