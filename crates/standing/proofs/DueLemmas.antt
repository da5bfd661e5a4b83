-- The queries of marks, one after another.
use Rattle.std.proofs.Common.{◌≡◌, ◌∙◌, ◌+◌, ◌<◌, ◌++◌, ◌∷◌, ℕ, List, Option, length, drop}
use Rattle.std.proofs.Common.{get_or, append_assoc, refl, sym, ap}
use Rattle.std.specs.Prelude.{option_to_list}
use Rattle.std.proofs.lemmas.List.{drop_more}
use Rattle.std.specs.List.{filter_map}
use Rattle.standing.specs.DueLists.{Mark, due_of}
use Rattle.standing.specs.declared.dues.Due.{Due}
use Rattle.standing.specs.declared.queries.StandingQuery.{StandingQuery}
use Rattle.mon_value.proofs.PlainLemmas.{first_given}

pub dues_more : (queries : List StandingQuery) (marks : List Mark) (i : ℕ) (d : Mark) (dues : List Due)
    → i < length marks
    → (dues ++ option_to_list (due_of queries (get_or marks i d))) ++ filter_map (due_of queries) (drop (i + 1) marks)
    ≡ dues ++ filter_map (due_of queries) (drop i marks)
dues_more queries marks i d dues below =
    let f : Mark → Option Due = due_of queries in
    let mark : Mark = get_or marks i d in
    append_assoc dues (option_to_list (f mark)) (filter_map f (drop (i + 1) marks))
    ∙ ap (λ (ds : List Due). dues ++ ds) (first_given f mark (drop (i + 1) marks) (f mark) refl)
    ∙ ap (λ (ms : List Mark). dues ++ filter_map (due_of queries) ms) (sym (drop_more marks i d below))
