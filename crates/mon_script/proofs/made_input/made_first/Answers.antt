use Rattle.std.proofs.Common.{◌≡◌, ◌≤◌, ◌∙◌, ◌∷◌, ◌++◌, List, ℕ, codes, ap, sym, refl, arith}
use Rattle.mon_script.specs.Made.{made_config, pieces_behind, section_line}
use Rattle.mon_script.proofs.made_input.made_first.Goals as goal

pub returns : goal.returns
returns c =
    let text : c.in_ok-named.field-0 ≡ section_line (codes "config.json") ++ made_config =
    c.in_ok-named.ensures.text
    ∙ ap (λ (t : List ℕ). section_line (codes "config.json") ++ t) c.in_ok-config.ensures.config in
    let some : 0 ≤ 4 = omega arith in
    record {
      next = record {
        next = ap (λ (t : List ℕ). t ∷ pieces_behind c.args.number 0) (sym text);
        is = (some, refl);
      };
    }
