use Rattle.std.proofs.Common.{◌≡◌, ◌+◌, get_or, sym, rules}
use Rattle.std.specs.Prelude.{nat_lt}
use Rattle.std.proofs.lemmas.Bool.{MatchBool-at_true, ltb-true}
use Rattle.std.proofs.lemmas.List.Sorted.{answers_always}
use Rattle.mon_hints.proofs.masks.rises.Goals as goal

pub returns : goal.returns
returns c =
    let numbers = c.args.numbers.now in
    record {
      rising = λ t k h.
          let answer = c.is_sorted_by.ensures.cases nat_lt
          (answers_always _ (λ a r. r ≡ nat_lt a.0.now a.1.0.now) _ (λ f a r g called. search rules)) in
          ltb-true (get_or numbers k 0) (get_or numbers (k + 1) 0) (sym (MatchBool-at_true _ _ t answer k 0 h));
    }
