-- Callers that are split off and that meet have seen just what they keep.
use Rattle.std.proofs.Common.{◌≡◌, ℕ, ◌≤◌, List, [], ◌++◌, length, filter, refl, sym, ap, subst, ◌∙◌, arith, Some}
use Rattle.std.proofs.Common.{Option}
use Rattle.std.proofs.Common.{inl, inr}
use Rattle.std.specs.Prelude.{Contains, option_map, option_to_list}
use Rattle.std.proofs.lemmas.List.{append_assoc}
use Rattle.std.proofs.lemmas.List.Elements.{Contains-append_cases}
use Rattle.history_book.proofs.KeepLemmas.{no_entries_in}
use Rattle.history_book.proofs.ListLemmas.{prefix_whole}
use Rattle.history_book.specs.Histories.{AreFronts, entries, is_under}
use Rattle.history_book.specs.Seats.{IsPurseBorneOut, hand_of, kept_in, new_number}
use Rattle.history_book.specs.declared.views.BookEntry.{BookEntry}
use Rattle.history_book.specs.declared.views.Kept.{Kept}
use Rattle.know.specs.Knowledge.{Knowledge, after_numbering, meeting, numbered_knowledge}
use Rattle.mon_topo.proofs.HeldLemmas.{seen_within_through}
use Rattle.mon_topo.specs.HeldHistories.{first_histories}
use Rattle.mon_topo.specs.Settings.{Setting}
use Rattle.owners.specs.Puts.{number_or, pass_of}
use Rattle.mon_store.proofs.OwnLemmas.{still_exact}
use Rattle.know.proofs.SoundLemmas.{within_front}
use Rattle.mon_store.specs.Passes.{IsPass, OwnsTheSame}
use Rattle.write_core.proofs.AckLemmas.{contains_one}

-- a caller that was split off has nothing under its number
pub numbered_pass : (setting : Setting) (know : Knowledge) → IsPass setting know
    → IsPurseBorneOut (numbered_knowledge know).seen (numbered_knowledge know).purse
    → IsPass setting (numbered_knowledge know)
numbered_pass setting know h borne = record {
  number = refl;
  holds = refl;
  rooms = refl;
  begun = h.begun;
  exact = λ kept history there.
      let new : new_number know.purse.stock.from ≡ kept = contains_one (new_number know.purse.stock.from) kept there in
      let none : entries kept.own history ≡ [] =
      ap (λ (k : Kept). entries k.own history) (sym new) ∙ no_entries_in history in
      prefix_whole (filter (is_under kept.number) (entries know.seen history)) (entries kept.own history)
      (borne.exact kept history there)
      (subst (λ (xs : List BookEntry). length xs ≤ length (filter (is_under kept.number) (entries know.seen history)))
      (sym none) (omega arith));
  borne_out = borne;
}

both_none : {X : Type 0} (xs ys : List X) → xs ≡ [] → ys ≡ [] → xs ++ ys ≡ []
both_none xs ys a b = (λ i. a i ++ b i)

-- whoever meets another has seen just what either keeps
pub met_pass : (setting : Setting) (other know : Knowledge) → IsPass setting other → IsPass setting know
    → AreFronts know.seen (meeting other know).seen → AreFronts other.seen (meeting other know).seen
    → IsPurseBorneOut (meeting other know).seen (meeting other know).purse → IsPass setting (meeting other know)
met_pass setting other know theirs mine front front' borne = record {
  number = mine.number;
  holds = both_none know.purse.holds other.purse.holds mine.holds theirs.holds;
  rooms = both_none know.purse.rooms other.purse.rooms mine.rooms theirs.rooms;
  begun = seen_within_through (first_histories setting.zones) know.seen (meeting other know).seen mine.begun
      (within_front know.seen (meeting other know).seen front);
  exact = λ kept history there.
      elim (Contains-append_cases (kept_in know.purse) (kept_in other.purse) kept
      (subst (λ (xs : List Kept). Contains xs kept)
      (sym (append_assoc (option_to_list know.purse.own) know.purse.met (kept_in other.purse))) there)) [
        | inl here ↦ still_exact know (meeting other know) front mine.exact borne kept history here there
        | inr here ↦ still_exact other (meeting other know) front' theirs.exact borne kept history here there
      ];
  borne_out = borne;
}

pub number_still : (a b : Option ℕ) (n : ℕ) → a ≡ b → b ≡ Some n → a ≡ Some (number_or 0 a)
number_still a b n same is = same ∙ is ∙ ap (λ o. Some (number_or 0 o)) (sym (same ∙ is))

-- and so has one that owns what it owned
pub same_owner : (setting : Setting) (before after : Knowledge) → IsPass setting before → OwnsTheSame before after
    → IsPurseBorneOut after.seen after.purse → IsPass setting after
same_owner setting before after is h borne = record {
  number = number_still (hand_of after.purse).own (hand_of before.purse).own (pass_of before)
      (ap (λ o. option_map (λ (kept : Kept). kept.number) o) h.own) is.number;
  holds = h.holds ∙ is.holds;
  rooms = h.rooms ∙ is.rooms;
  begun = seen_within_through (first_histories setting.zones) before.seen after.seen is.begun
      (within_front before.seen after.seen h.fronts);
  exact = λ kept whose there. still_exact before after h.fronts is.exact borne kept whose
      (subst (λ (xs : List Kept). Contains xs kept) all there) there;
  borne_out = borne;
}
  where
    all : kept_in after.purse ≡ kept_in before.purse
    all = (λ i. option_to_list (h.own i) ++ h.met i)
