use Rattle.std.proofs.Common.{◌++◌, ◌∷◌, [], ◌∙◌, sym, ap, subst}
use Rattle.std.proofs.lemmas.Result.{on_ok_weaker}
use Rattle.csv.proofs.RecordFacts.{text-more}
use Rattle.csv.specs.Records.{AllText, fields_of}
use Rattle.mon_table.proofs.printing.push_text.Goals as goal

pub returns-clause-texts : goal.returns-clause-texts
returns-clause-texts c =
    let text = c.as_bytes.result.now in
    on_ok_weaker c.push_field.result
    (λ fields. subst AllText (sym (fields ∙ ap (λ partial. fields_of c.args.cells.now ++ (partial ++ text) ∷ [])
    c.requires.whole)) (text-more (fields_of c.args.cells.now) text c.requires.texts c.as_bytes.ensures.utf8))
    c.push_field.ensures.fields
