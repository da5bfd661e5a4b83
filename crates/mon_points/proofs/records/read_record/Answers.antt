use Rattle.std.proofs.Common.{◌≡◌, ◌∙◌, sym, ap, subst, true}
use Rattle.std.specs.List.{list_all}
use Rattle.std.specs.Str.{is_utf8}
use Rattle.std.proofs.lemmas.Bool.{false≢true}
use Rattle.csv.specs.Records.{AllText, fields_of}
use Rattle.mon_points.proofs.AllTextLemmas.{are_utf8, not_utf8}
use Rattle.mon_points.proofs.records.read_record.Goals as goal

-- a record that is no record of texts
pub returns-in-Err : goal.returns-in-Err
returns-in-Err c =
    let bad = not_utf8 (fields_of c.args.cells.now)
    (λ text. false≢true (c.in-Err.ensures.refused (subst AllText (sym (ap fields_of c.replace.ensures.value))
    text))) in
    record { read = rw bad }

pub returns-in_ok-read-in-Ok : goal.returns-in_ok-read-in-Ok
returns-in_ok-read-in-Ok c =
    let same = c.in-Ok.ensures.same ∙ ap fields_of c.replace.ensures.value in
    let texts : list_all is_utf8 (fields_of c.args.cells.now) ≡ true =
    are_utf8 _ (subst AllText same c.in-Ok.ensures.text) in
    record { read = rw (texts, ← same) c.in_ok-read-in-Ok.ensures.read }
