use Rattle.std.proofs.Common.{◌≡◌, ◌<◌, ◌∙◌, ◌∷◌, List, ℕ, ap, sym, arith}
use Rattle.mon_script.specs.Made.{points_name, section_line}
use Rattle.mon_script.specs.MadePlaces.{pieces_left}
use Rattle.mon_script.specs.declared.made_input.Place.TheVariants as place
use Rattle.mon_script.proofs.MadePlaceLemmas.{file_next}
use Rattle.mon_script.proofs.made_input.made_name.Goals as goal

pub returns : goal.returns
returns c =
    let n = c.args._number in
    let file = c.args.file in
    let piece : c.in_ok-from_string.field-0 ≡ section_line (points_name file) =
    c.in_ok-from_string.ensures.bytes ∙ c.in_ok-section_line.ensures.line
    ∙ ap section_line (c.as_str.ensures.value ∙ c.in_ok-name.ensures.name) in
    let some : 0 < 100 = omega arith in
    record {
      next = record {
        next = file_next n file c.requires.among
            ∙ ap (λ (t : List ℕ). t ∷ pieces_left n (place.Round file 0)) (sym piece);
        is = (c.requires.among, some, c.requires.is.1);
      };
    }
