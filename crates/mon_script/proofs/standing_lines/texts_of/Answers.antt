use Rattle.std.proofs.Common.{◌≡◌, ◌∙◌, ℕ, List, Some, None, sym, subst}
use Rattle.mon_script.specs.StandingLines.{texts_of}
use Rattle.mon_value.specs.Answers.{Gives}
use Rattle.mon_script.proofs.StandingLineLemmas.{name_text}
use Rattle.mon_script.proofs.standing_lines.texts_of.Goals as goal

pub unreachable-requires : goal.unreachable-requires
unreachable-requires c =
    let read = name_text c.args.name.now c.in_ok-name.field-0 c.requires.named c.in_ok-name.ensures.text in
    let none : None ≡ Some c.args.name.now = sym c.in-None.is ∙ read in
    absurd cc

pub returns : goal.returns
returns c =
    let read = name_text c.args.name.now c.in_ok-name.field-0 c.requires.named c.in_ok-name.ensures.text in
    let both : Some c.in-Some.name ≡ Some c.args.name.now = sym c.in-Some.is ∙ read in
    let same : c.in-Some.name ≡ c.args.name.now = cc in
    record {
      line = subst (λ (name : List ℕ). Gives c.text_of.result (texts_of name c.args.period.now c.args.text.now)) same
          c.text_of.ensures.line;
    }
