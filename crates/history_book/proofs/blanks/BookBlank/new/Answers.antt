use Rattle.std.proofs.Common.{rules, ◌≡◌, ℕ, ◌+◌, List, [], ◌∷◌, refl, replicate, sym, subst}
use Rattle.history_book.specs.BookRule.{BookHolds}
use Rattle.history_book.specs.Steps.{first_view}
use Rattle.history_book.proofs.FirstLemmas.{rule_at_first}
use Rattle.history_book.proofs.blanks.BookBlank.new.Goals as goal

pub of_words-requires : goal.of_words-requires
of_words-requires c =
    let leaves = c.args.leaves in
    let ranges = c.args.ranges in
    let zeros : c.as_slice.result.now ≡ replicate (leaves + ranges + 1) 0 = search rules in
    subst (λ (words : List ℕ). BookHolds leaves ranges words (first_view leaves ranges ∷ [])) (sym zeros)
    (rule_at_first leaves ranges (leaves + ranges + 1) refl)
