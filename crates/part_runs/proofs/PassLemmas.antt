-- What a caller that has seen just its own entries has seen under each number that it keeps.
use Rattle.std.proofs.lemmas.Bool.{eq-eqb}
use Rattle.std.proofs.Common.{◌≡◌, ℕ, nat_eq, true, map, filter, Some, None, refl, sym}
use Rattle.std.proofs.Common.{◌∙◌, subst}
use Rattle.std.specs.Prelude.{Option, option_map}
use Rattle.std.specs.List.{AllByRecursion, Contains, list_any}
use Rattle.history_book.specs.Histories.{AreFronts, book_entry_pass, entries}
use Rattle.history_book.specs.Seats.{HasEveryNumber, IsPurseBorneOut, kept_in}
use Rattle.history_book.specs.declared.views.History.{History}
use Rattle.history_book.specs.declared.views.Kept.{Kept}
use Rattle.know.specs.Knowledge.{Knowledge}
use Rattle.mon_store.specs.Passes.{HasSeenItsOwn}
use Rattle.know.proofs.SoundLemmas.{within_front}
use Rattle.mon_topo.specs.HeldHistories.{AreHeld}
use Rattle.mon_topo.specs.Settings.{Setting}
use Rattle.mon_value.specs.declared.histories.Histories.{Histories}
use Rattle.run_traces.specs.LineClaims.{HaveGrown}
use Rattle.part_runs.proofs.ListLemmas.{all_from, some_passes}

-- ---- histories that are seen later

pub have_grown : (setting : Setting) (seen more : Histories) → AreFronts seen more
    → AreHeld setting.held setting.zones setting.points seen → AreHeld setting.held setting.zones setting.points more
    → HaveGrown seen more
have_grown setting seen more fronts held then = record {
  within = within_front seen more fronts;
  leaves = then.all_leaves ∙ sym held.all_leaves;
  ranges = then.all_ranges ∙ sym held.all_ranges;
}

-- ---- a caller's own number

-- the entries that are kept under a caller's own number
pub record OwnKept (own : Option Kept) (number : ℕ) : Type 0 where
  pub kept : Kept
  pub is : own ≡ Some kept
  pub numbered : kept.number ≡ number

pub own_kept : (own : Option Kept) (number : ℕ) → option_map (λ (kept : Kept). kept.number) own ≡ Some number
    → OwnKept own number
own_kept None number e = absurd cc
own_kept (Some kept) number e = record { kept = kept; is = refl; numbered = cc }

-- of a number that is kept by who was a caller before and is one behind, the entries that are kept are seen
pub seen_kept : (know : Knowledge) (number : ℕ) (history : History) (kept : Kept) → HasSeenItsOwn know
    → Contains (kept_in know.purse) kept → kept.number ≡ number
    → filter (λ e. nat_eq (book_entry_pass e) number) (entries know.seen history) ≡ entries kept.own history
seen_kept know number history kept exact has numbered =
    subst (λ n. filter (λ e. nat_eq (book_entry_pass e) n) (entries know.seen history) ≡ entries kept.own history)
    numbered (exact kept history has)

-- ---- who has every number

-- each entry that it has seen is under one of the numbers that it keeps
pub under_kept : (know : Knowledge) → IsPurseBorneOut know.seen know.purse → HasEveryNumber know.purse
    → (history : History)
    → AllByRecursion
    (λ e. list_any (nat_eq (book_entry_pass e)) (map (λ (kept : Kept). kept.number) (kept_in know.purse)) ≡ true)
    (entries know.seen history)
under_kept know borne_out every history =
    all_from
    (λ e. list_any (nat_eq (book_entry_pass e)) (map (λ (kept : Kept). kept.number) (kept_in know.purse)) ≡ true)
    (entries know.seen history)
    (λ e has.
    let is = borne_out.every every history e has in
    some_passes (nat_eq (book_entry_pass e)) (λ (kept : Kept). kept.number) (kept_in know.purse) is.kept is.has
    (eq-eqb (book_entry_pass e) is.kept.number (sym is.under)))
