use Rattle.std.proofs.Common.{◌≡◌, ◌∙◌, ◌∷◌, ℕ, ap, sym, subst}
use Rattle.std.specs.List.{flat_map, range_with_len}
use Rattle.mon_script.specs.Made.{made_record, made_round, tasks}
use Rattle.mon_script.specs.MadePlaces.{IsPlace, pieces_left}
use Rattle.mon_script.proofs.MadePlaceLemmas.{place_is, round_next}
use Rattle.mon_script.proofs.made_input.made_points.Goals as goal

pub returns : goal.returns
returns c =
    let n = c.args._number in
    let file = c.args.file in
    let round = c.args.round in
    let at = c.requires.is in
    let h = c.in_ok-piece.ensures in
    let place = c.place_behind.ensures.place in
    let piece : c.in_ok-piece.piece ≡ made_round n file round =
    h.records ∙ ap (λ (x : ℕ). flat_map (made_record x file round) (range_with_len 0 tasks)) at.2 in
    record {
      next = record {
        next = round_next n file round at.1 ∙ (λ i. sym piece i ∷ pieces_left n (sym place i));
        is = subst (IsPlace n c.made_round.new.before) (sym place)
            (place_is n c.args.before c.made_round.new.before file round at.0 at.1 at.2 h.went_on);
      };
    }
