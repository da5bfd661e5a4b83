use Rattle.std.proofs.Common.{◌≡◌, ℕ, ◌+◌, ◌<◌, true, not, List, [], ◌∷◌, refl, sym, ap, subst, ◌∙◌, arith, cond}
use Rattle.std.proofs.Common.{eq-eqb}
use Rattle.std.proofs.lemmas.List.Sums.{sum_by-cons}
use Rattle.history_book.proofs.HistoryLemmas.{none_at}
use Rattle.history_book.specs.Histories.{empty_histories}
use Rattle.history_book.specs.Seats.{times_range}
use Rattle.mon_value.specs.LeafHistories.{is_opened}
use Rattle.mon_value.specs.Histories.{same_range}
use Rattle.mon_value.specs.declared.histories.RangeEntry.{RangeEntry}
use Rattle.mon_value.specs.declared.positions.Range.{Range}
use Rattle.range_cell.specs.Rest.{HaveJust, others}
use Rattle.range_cell.proofs.laws.new_ranges_are_at_rest.Goals as goal

held_once : (range : Range) → 0 < times_range range (range ∷ [])
held_once range =
    let one : times_range range (range ∷ []) ≡ cond {A = ℕ} true 1 0 + times_range range [] =
    sum_by-cons (λ r. cond {A = ℕ} (same_range range r) 1 0) range []
    ∙ ap (λ b. cond {A = ℕ} b 1 0 + times_range range []) (eq-eqb range.0 range.0 refl) in
    omega arith

no_others : (range : Range) → others range (range ∷ []) ≡ []
no_others range = ap (λ b. cond (not b) (range ∷ []) []) (eq-eqb range.0 range.0 refl)

none_serve : (leaves ranges : ℕ) (range : Range) → HaveJust (empty_histories leaves ranges) range []
none_serve leaves ranges range = record {
  turns = λ replica there. absurd (omega (arith, there.1));
  fresh = λ slot leaf past. ap (is_opened range slot) (none_at leaves leaf.0);
}

pub returns : goal.returns
returns c = record {
  rest = λ range hints replay leaves ranges none. record {
    range_is = refl;
    own = refl;
    free = refl;
    holds = held_once range;
    only = no_others range;
    history = none_at ranges range.0 ∙ sym none;
    turns = subst (λ (h : List RangeEntry). HaveJust (empty_histories leaves ranges) range h) (sym none)
        (none_serve leaves ranges range);
  };
}
