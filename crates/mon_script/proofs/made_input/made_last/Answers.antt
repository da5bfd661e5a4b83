use Rattle.std.proofs.Common.{◌≡◌, ◌∙◌, ◌∷◌, ◌++◌, [], List, ℕ, codes, ap, sym}
use Rattle.mon_script.specs.Made.{made_script, section_line}
use Rattle.mon_script.proofs.MadePlaceLemmas.{script_next}
use Rattle.mon_script.proofs.made_input.made_last.Goals as goal

pub returns : goal.returns
returns c =
    let text : c.in_ok-named.field-0 ≡ section_line (codes "script.txt") ++ made_script =
    c.in_ok-named.ensures.text
    ∙ ap (λ (t : List ℕ). section_line (codes "script.txt") ++ t) c.in_ok-script.ensures.script in
    let none : List (List ℕ) = [] in
    record {
      next = record {
        next = script_next c.args.number c.args.file c.requires.behind ∙ ap (λ (t : List ℕ). t ∷ none) (sym text);
        is = tt;
      };
    }
