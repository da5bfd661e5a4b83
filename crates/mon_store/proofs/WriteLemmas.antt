-- What a caller has once a call at a range came to its end: it is between its calls again.
use Rattle.std.proofs.Common.{◌≡◌, ◌≤◌, ℕ, zero, suc, ◌+◌, true, List, [], ◌∷◌, ◌++◌, drop, filter, length}
use Rattle.std.proofs.Common.{refl, sym, ap, subst, ◌∙◌, arith, Option, Some, None, inl, inr, ◌⊎◌, cond}
use Rattle.std.proofs.Common.{eq-eqb}
use Rattle.std.specs.Prelude.{Contains, option_map, option_to_list}
use mathlib.Core.List.{IsPrefix}
use Rattle.std.proofs.lemmas.List.{append-nil}
use Rattle.std.proofs.lemmas.List.Elements.{Contains-append_right, filter-append}
use Rattle.std.proofs.lemmas.List.Sums.{sum_by-cons}
use Rattle.history_book.proofs.ListLemmas.{prefix_whole}
use Rattle.history_book.specs.Histories.{AreFronts, entries, is_under}
use Rattle.history_book.specs.Seats.{IsPurseBorneOut, hand_of, kept_in, times_room}
use Rattle.history_book.specs.declared.views.BookEntry.{BookEntry}
use Rattle.history_book.specs.declared.views.History.{History}
use Rattle.history_book.specs.declared.views.Kept.{Kept}
use Rattle.know.specs.Knowledge.{Knowledge}
use Rattle.mon_topo.proofs.HeldLemmas.{seen_within_through}
use Rattle.mon_topo.specs.HeldHistories.{first_histories}
use Rattle.mon_topo.specs.Settings.{Setting}
use Rattle.mon_value.specs.Histories.{same_leaf}
use Rattle.mon_value.specs.declared.positions.Leaf.{Leaf}
use Rattle.owners.specs.Puts.{number_or, pass_of}
use Rattle.mon_store.proofs.ListLemmas.{Differ, all_came}
use Rattle.mon_store.proofs.PassLemmas.{number_still, same_owner}
use Rattle.mon_store.proofs.OwnLemmas.{came, drop_prefix, entries_front, still_exact}
use Rattle.know.proofs.SoundLemmas.{within_front}
use Rattle.mon_store.specs.Passes.{IsPass}
use Rattle.mon_store.specs.Writes.{IsStill, IsUnwritten, new_entries, own_entries}
use Rattle.mon_value.proofs.PlainLemmas.{contains_kept}

-- what a call at a range leaves as it was, where the caller held nothing before
pub record IsCarried (before after : Knowledge) : Type 0 where
  pub fronts : AreFronts before.seen after.seen
  pub met : after.purse.met ≡ before.purse.met
  pub stock : after.purse.stock ≡ before.purse.stock
  pub lost : after.purse.lost ≡ before.purse.lost
  pub handed : after.handed ≡ before.handed
  pub holds : after.purse.holds ≡ []
  pub rooms : after.purse.rooms ≡ []

-- what a refusal leaves
pub record IsLeft (before after : Knowledge) : Type 0 where
  pub carried : IsCarried before after
  pub own : after.purse.own ≡ before.purse.own

-- ---- the number

-- who has a number keeps something under it
pub record HasOwn (know : Knowledge) : Type 0 where
  pub kept : Kept
  pub is : know.purse.own ≡ Some kept
  pub number : kept.number ≡ pass_of know

own_by : (own : Option Kept) (n : ℕ) → option_map (λ (kept : Kept). kept.number) own ≡ Some n
    → (kept : Kept) × (own ≡ Some kept) × (kept.number ≡ n)
own_by None n e = absurd cc
own_by (Some kept) n e = (kept, refl, by kept.number n e)
  where
    by : (a b : ℕ) → Some a ≡ Some b → a ≡ b
    by a b e = cc

pub has_own : (know : Knowledge) → (hand_of know.purse).own ≡ Some (pass_of know) → HasOwn know
has_own know number =
    let found = own_by know.purse.own (pass_of know) number in
    record { kept = found.0; is = found.1; number = found.2 }

pub own_is : (own : Option Kept) (kept : Kept) (whose : History) → own ≡ Some kept
    → own_entries own whose ≡ entries kept.own whose
own_is own kept whose e = ap (λ o. own_entries o whose) e

kept_first : (own : Option Kept) (met : List Kept) (kept : Kept) → own ≡ Some kept
    → Contains (option_to_list own ++ met) kept
kept_first own met kept e =
    subst (λ o. Contains (option_to_list o ++ met) kept) (sym e) (0, omega arith, refl)

-- of its own number it has seen just what it keeps
pub own_exact : (setting : Setting) (know : Knowledge) → IsPass setting know → (whose : History)
    → filter (is_under (pass_of know)) (entries know.seen whose) ≡ own_entries know.purse.own whose
own_exact setting know h whose =
    let own = has_own know h.number in
    subst (λ n. filter (is_under n) (entries know.seen whose) ≡ own_entries know.purse.own whose) own.number
    (h.exact own.kept whose (kept_first know.purse.own know.purse.met own.kept own.is)
    ∙ sym (own_is know.purse.own own.kept whose own.is))

first_or_later : (kept other : Kept) (met : List Kept) → Contains (kept ∷ met) other
    → (kept ≡ other) ⊎ Contains met other
first_or_later kept other met (zero, l, e) = inl e
first_or_later kept other met (suc k, l, e) = inr (k, omega arith, e)

no_room : (leaf : Leaf) (rooms : List Leaf) → times_room leaf (leaf ∷ rooms) ≡ 0 → ⊥
no_room leaf rooms none =
    let one : times_room leaf (leaf ∷ rooms) ≡ 1 + times_room leaf rooms =
    sum_by-cons (λ (room : Leaf). cond {A = ℕ} (same_leaf leaf room) 1 0) leaf rooms
    ∙ ap (λ b. cond {A = ℕ} b 1 0 + times_room leaf rooms) (eq-eqb leaf.0 leaf.0 refl) in
    omega arith

-- who has no room at any leaf has none
pub no_rooms : (rooms : List Leaf) → ((leaf : Leaf) → times_room leaf rooms ≡ 0) → rooms ≡ []
no_rooms [] none = refl
no_rooms (leaf ∷ rooms) none = absurd (no_room leaf rooms (none leaf))

-- ---- nothing was appended

module _ (setting : Setting) (before after : Knowledge) (is : IsPass setting before) (carried : IsCarried before after)
    (borne : IsPurseBorneOut after.seen after.purse) where
  pub still : (hand_of after.purse).own ≡ (hand_of before.purse).own → IsStill before after
  still number = record {
    fronts = carried.fronts;
    number = number;
    met = carried.met;
    stock = carried.stock;
    lost = carried.lost;
    handed = carried.handed;
  }

  same_number : after.purse.own ≡ before.purse.own → (hand_of after.purse).own ≡ (hand_of before.purse).own
  same_number own = ap (λ o. option_map (λ (kept : Kept). kept.number) o) own

  pub same_pass : after.purse.own ≡ before.purse.own → IsPass setting after
  same_pass own = same_owner setting before after is
      (record {
        fronts = carried.fronts;
        own = own;
        met = carried.met;
        stock = carried.stock;
        lost = carried.lost;
        rooms = carried.rooms ∙ sym is.rooms;
        holds = carried.holds ∙ sym is.holds;
      })
      borne

  pub unwritten : after.purse.own ≡ before.purse.own → IsUnwritten before after
  unwritten own = record {
    still = still (same_number own);
    own = own;
    none = λ whose.
        let now : filter (is_under (pass_of before)) (entries after.seen whose) ≡ own_entries before.purse.own whose =
        subst (λ n. filter (is_under n) (entries after.seen whose) ≡ own_entries before.purse.own whose)
        (ap (number_or 0) (same_number own))
        (own_exact setting after (same_pass own) whose ∙ ap (λ o. own_entries o whose) own) in
        came (is_under (pass_of before)) (entries before.seen whose) (entries after.seen whose)
        (own_entries before.purse.own whose) [] (entries_front before.seen after.seen carried.fronts whose)
        (own_exact setting before is whose) (now ∙ sym (append-nil (own_entries before.purse.own whose)));
  }

  -- ---- these entries were appended under its number

  -- they differ, and came behind all that had been seen
  pub record HaveCome (new : History → List BookEntry) : Type 0 where
    pub differ : (whose : History) → Differ (new whose)
    pub under : (whose : History) (e : BookEntry) → Contains (new whose) e → is_under (pass_of before) e ≡ true
    pub came : (whose : History) (e : BookEntry) → Contains (new whose) e
        → Contains (drop (length (entries before.seen whose)) (entries after.seen whose)) e

  module _ (new : History → List BookEntry) (kept : Kept) (own : after.purse.own ≡ Some kept)
      (number : kept.number ≡ pass_of before)
      (added : (whose : History) → entries kept.own whose ≡ own_entries before.purse.own whose ++ new whose) where
    -- it has seen no more under its number than it keeps
    front_of : (whose : History)
        → IsPrefix (filter (is_under (pass_of before)) (entries after.seen whose)) (entries kept.own whose)
    front_of whose =
        subst (λ n. IsPrefix (filter (is_under n) (entries after.seen whose)) (entries kept.own whose)) number
        (borne.exact kept whose (kept_first after.purse.own after.purse.met kept own))

    pub all_come : HaveCome new → (whose : History)
        → filter (is_under (pass_of before)) (entries after.seen whose) ≡ entries kept.own whose
    all_come come whose =
        let test = is_under (pass_of before) in
        let old = entries before.seen whose in
        let was = filter test old in
        let now = filter test (entries after.seen whose) in
        let had : was ≡ own_entries before.purse.own whose = own_exact setting before is whose in
        let both : entries kept.own whose ≡ was ++ new whose =
        added whose ∙ ap (λ (xs : List BookEntry). xs ++ new whose) (sym had) in
        let on : IsPrefix old (entries after.seen whose) =
        entries_front before.seen after.seen carried.fronts whose in
        let front : IsPrefix was now = (filter test on.0, sym (filter-append test old on.0) ∙ ap (filter test) on.1) in
        all_came was now (new whose) front (subst (λ (xs : List BookEntry). IsPrefix now xs) both (front_of whose))
        (come.differ whose)
        (λ e there. contains_kept test on.0 e
        (subst (λ (xs : List BookEntry). Contains xs e) (drop_prefix old (entries after.seen whose) on)
        (come.came whose e there))
        (come.under whose e there))
        ∙ sym both

    -- or as many are seen as it keeps
    pub all_counted : ((whose : History) → length (own_entries before.purse.own whose ++ new whose)
        ≤ length (filter (is_under (pass_of before)) (entries after.seen whose))) → (whose : History)
        → filter (is_under (pass_of before)) (entries after.seen whose) ≡ entries kept.own whose
    all_counted many whose =
        prefix_whole (filter (is_under (pass_of before)) (entries after.seen whose)) (entries kept.own whose)
        (front_of whose)
        (subst (λ (xs : List BookEntry).
        length xs ≤ length (filter (is_under (pass_of before)) (entries after.seen whose))) (sym (added whose))
        (many whose))

  module _ (new : History → List BookEntry) (kept : Kept) (own : after.purse.own ≡ Some kept)
      (number : kept.number ≡ pass_of before)
      (added : (whose : History) → entries kept.own whose ≡ own_entries before.purse.own whose ++ new whose)
      (whole : (whose : History)
      → filter (is_under (pass_of before)) (entries after.seen whose) ≡ entries kept.own whose) where
    pub new_number : (hand_of after.purse).own ≡ (hand_of before.purse).own
    new_number = ap (λ o. option_map (λ (k : Kept). k.number) o) own ∙ ap Some number ∙ sym is.number

    pub written_pass : IsPass setting after
    written_pass = record {
      number = number_still (hand_of after.purse).own (hand_of before.purse).own (pass_of before) new_number is.number;
      holds = carried.holds;
      rooms = carried.rooms;
      begun = seen_within_through (first_histories setting.zones) before.seen after.seen is.begun
          (within_front before.seen after.seen carried.fronts);
      exact = λ other whose there. by other whose there (first_or_later kept other after.purse.met
          (subst (λ (o : Option Kept). Contains (option_to_list o ++ after.purse.met) other) own there));
      borne_out = borne;
    }
      where
        by : (other : Kept) (whose : History) → Contains (kept_in after.purse) other
            → (kept ≡ other) ⊎ Contains after.purse.met other
            → filter (is_under other.number) (entries after.seen whose) ≡ entries other.own whose
        by other whose there (inl same) =
            subst (λ (k : Kept). filter (is_under k.number) (entries after.seen whose) ≡ entries k.own whose) same
            (subst (λ n. filter (is_under n) (entries after.seen whose) ≡ entries kept.own whose) (sym number)
            (whole whose))
        by other whose there (inr later) =
            still_exact before after carried.fronts is.exact borne other whose
            (Contains-append_right (option_to_list before.purse.own) before.purse.met other
            (subst (λ (xs : List Kept). Contains xs other) carried.met later)) there

    pub added_own : (whose : History)
        → own_entries after.purse.own whose ≡ own_entries before.purse.own whose ++ new whose
    added_own whose = own_is after.purse.own kept whose own ∙ added whose

    pub added_new : (whose : History) → new_entries before after whose ≡ new whose
    added_new whose =
        came (is_under (pass_of before)) (entries before.seen whose) (entries after.seen whose)
        (own_entries before.purse.own whose) (new whose) (entries_front before.seen after.seen carried.fronts whose)
        (own_exact setting before is whose) (whole whose ∙ added whose)

    pub added_still : IsStill before after
    added_still = still new_number
