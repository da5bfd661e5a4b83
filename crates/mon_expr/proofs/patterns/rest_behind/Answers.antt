use Rattle.std.proofs.Common.{◌≡◌, Some, rules, sym, ap, ◌∙◌}
use Rattle.std.proofs.lemmas.List.{take_rest}
use Rattle.std.specs.Option.{option_copied}
use Rattle.mon_expr.specs.Greedy.{rest_behind}
use Rattle.mon_expr.proofs.FindLemmas.{behind_found, behind_missing}
use Rattle.mon_expr.proofs.patterns.rest_behind.Goals as goal

pub returns-in_err-place : goal.returns-in_err-place
returns-in_err-place c = record {
  rest = ap option_copied c.from_residual.ensures ∙ sym
      (behind_missing c.as_bytes.result.now c.args.text.now c.in_err-place.ensures)
      ∙ ap (λ piece. rest_behind piece c.args.text.now) c.as_bytes.ensures.bytes;
}

pub returns : goal.returns
returns c =
    let bytes : c.as_bytes.result.now ≡ c.args.piece.now = c.as_bytes.ensures.bytes in
    record {
      rest = ap Some (take_rest c.args.text.now _) ∙ sym (search (rules, behind_found));
    }
