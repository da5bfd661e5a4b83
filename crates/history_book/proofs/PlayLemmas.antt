-- Each kind of step of a book is allowed.
use Rattle.std.proofs.Common.{◌≡◌, ℕ, ◌+◌, ◌^◌, ◌%◌, ◌<◌, ◌≤◌, Bool, true, List, [], ◌∷◌, length}
use Rattle.std.proofs.Common.{filter, get_or, set, refl, sym, ap, ◌∙◌, subst, arith, nat_eq, cond}
use Rattle.std.specs.Prelude.{Option, Some, None, IfSome, option_map}
use Rattle.std.specs.List.{Contains, sum_by}
use mathlib.Core.List.{IsPrefix}
use mathlib.Core.Option.{none, some, some-injective}
use mathlib.Core.Logic.{dite}
use native.Mathlib.Decide.{ℕ_discrete}
use lib.ListN.{get_elem?}
use Rattle.std.proofs.Math.Decide.{dec_lt}
use Rattle.std.proofs.lemmas.Bool.Decides.{nat_tests}
use Rattle.std.proofs.lemmas.List.{set-get_or}
use Rattle.atomic_table.specs.Table.{Allows, Joins, Splits, State, keeps, step}
use Rattle.atomic_table.proofs.Lists.{set_again, set_else}
use Rattle.mon_value.specs.declared.positions.Range.{Range}
use Rattle.history_book.specs.declared.numbers.TheConstants.{NUMBER_END}
use Rattle.history_book.specs.declared.rooms.RoomMove.{RoomMove}
use Rattle.history_book.specs.declared.views.BookEntry.{BookEntry}
use Rattle.mon_value.specs.declared.histories.Histories.{Histories}
use Rattle.history_book.specs.declared.views.History.{History}
use Rattle.history_book.specs.declared.views.Joined.{Joined}
use Rattle.history_book.specs.declared.views.Kept.{Kept}
use Rattle.history_book.specs.declared.views.Purse.{Purse}
use Rattle.history_book.specs.declared.views.SeatView.{SeatView}
use Rattle.mon_value.specs.Histories.{leaf_numbered}
use Rattle.history_book.specs.Histories.{IsFor, entries, history_numbered, is_about, is_under, book_entry_pass}
use Rattle.history_book.specs.Histories.{same_history, with_book_entry}
use Rattle.history_book.specs.Seats.{AreNumbersApart, HasEveryNumber, IsPurseBorneOut, IsKeptIn, guest_purse, hand_of}
use Rattle.history_book.specs.Seats.{kept_in}
use Rattle.history_book.specs.Seats.{times_number}
use Rattle.history_book.specs.BookRule.{BookHolds, IsJoined, IsTrue, KeepsBookRule, has_number, has_room, hold_count}
use Rattle.history_book.specs.BookRule.{in_purse, kept_in_purse, owns}
use Rattle.history_book.specs.Steps.{Appends, CanGiveBack, Confirms, IsPromised, IsUnited, Learns, Seated, after_deal}
use Rattle.history_book.specs.Steps.{after_handed_number, after_part, view_after_append, dealt, handed_number}
use Rattle.history_book.specs.Steps.{word_history}
use Rattle.history_book.specs.Steps.{view_after_learning, meeting, part, spent_view, split_off}
use Rattle.history_book.proofs.ListLemmas.{filter_between, prefix_contains, prefix_filter, prefix_length}
use Rattle.history_book.proofs.HistoryLemmas.{fronts, same_history_refl}
use Rattle.history_book.proofs.SumLemmas.{part_of_sum, parts_of_sum}
use Rattle.history_book.proofs.PurseLemmas.{kept_counts, sum_one}
use Rattle.history_book.proofs.KeepLemmas.{at_most_once, keeps_deal, keeps_hand_out, keeps_learned, keeps_meeting}
use Rattle.history_book.proofs.KeepLemmas.{keeps_split_off}
use Rattle.history_book.proofs.PartLemmas.{keeps_part}
use Rattle.history_book.proofs.AppendLemmas.{keeps_append}
use Rattle.mon_value.proofs.PlainLemmas.{contains_kept}

abbrev pub holds_of : ℕ → ℕ → State (Unit {0}) SeatView → Type 0
holds_of leaves ranges state = BookHolds leaves ranges state.words state.views

pub history_of_word : (n : ℕ) → word_history (n + 1) ≡ n
history_of_word n = omega arith

pub owns_it : (leaves n : ℕ) (v : SeatView) → v.owns ≡ history_numbered leaves n ∷ []
    → 0 < owns (history_numbered leaves n) v
owns_it leaves n v owns_is = let h = history_numbered leaves n in
    let a : owns h v ≡ cond (same_history h h) 1 0
    = ap (sum_by (λ g. cond (same_history h g) 1 0)) owns_is ∙ sum_one (λ g. cond (same_history h g) 1 0) h in
    let b : owns h v ≡ 1 = a ∙ ap (λ c. cond c 1 0) (same_history_refl h) in omega arith

-- ---- loads

pub allows_learn : (leaves ranges slots id : ℕ) (me : Seated) (n : ℕ) → n < leaves + ranges
    → Allows (holds_of leaves ranges) slots id me (n + 1) (λ m. m) (Learns leaves (step slots (n + 1) 0 0 none) me)
allows_learn leaves ranges slots id me n low s rule _ is _ =
    let found : ℕ = get_or s.words (n + 1) 0 in
    let back = history_of_word n in
    let h = history_numbered leaves n in
    let true_v = rule.1.seats_true me.0 (id, is) in
    let length_is : found ≡ length (entries rule.0 h) = rule.1.lengths n low in
    let longer : length (entries me.0.seen h) ≤ found = let f
    = prefix_length (entries me.0.seen h) (entries rule.0 h) (true_v.seen h) in omega arith in
    let own : 0 < owns h me.0 → found ≡ length (entries me.0.seen h) = λ o. length_is
    ∙ ap length (sym (true_v.own h o)) in
    let w = view_after_learning (word_history (n + 1)) found me.0 in (
      w,
      keeps,
      tt,
      (
        rule.0,
        subst (λ (ws : List ℕ). KeepsBookRule leaves ranges rule.0 ws (set s.views id w))
            (sym (set-get_or s.words (n + 1) 0))
            (keeps_learned leaves ranges rule.0 s.words s.views rule.1 id me.0 is (word_history (n + 1)) found),
      ),
      (
        subst (λ k. length (entries me.0.seen (history_numbered leaves k)) ≤ found) (sym back) longer,
        subst (λ k. 0 < owns (history_numbered leaves k) me.0
            → found ≡ length (entries me.0.seen (history_numbered leaves k))) (sym back) own,
        refl,
      ),
    )

module _ (leaves ranges : ℕ) (whole : Histories) (words : List ℕ) (seats : List SeatView)
    (rule : KeepsBookRule leaves ranges whole words seats) (id : ℕ) (v : SeatView) (is : get_elem? seats id ≡ some v)
  where
    true_v : IsTrue whole v
    true_v = rule.seats_true v (id, is)

    united : (j : Joined) → IsJoined whole v j → IsUnited v j
    united j was = record {
      mine = fronts j.mine v.seen was.mine;
      theirs = fronts j.theirs v.seen was.theirs;
      own = was.own;
      kept = λ r h l held. sym (filter_between (is_about r) (entries j.mine h) (entries v.seen h) (entries whole h)
          (was.mine h) (true_v.seen h) (was.kept r h l held)) ∙ was.kept r h l held;
      lent = λ r h l held. sym (filter_between (is_about r) (entries j.theirs h) (entries v.seen h) (entries whole h)
          (was.theirs h) (true_v.seen h) (was.lent r h l held)) ∙ was.lent r h l held;
    }

    joined_told : (j : Option Joined) → IfSome j (IsJoined whole v) → IfSome j (IsUnited v)
    joined_told None was = tt
    joined_told (Some j) was = united j was

    number_below : (p : Purse) → v.purse ≡ Some p → (n : ℕ) → times_number n p ≤ sum_by (has_number n) seats
    number_below p e n =
        subst (λ o. in_purse (times_number n) o ≤ sum_by (has_number n) seats) e (part_of_sum (has_number n) seats id v
        is)

    apart : (p : Purse) → v.purse ≡ Some p → AreNumbersApart p
    apart p e = record {
      once = λ n low. let most = number_below p e n in let one = rule.numbered n low in omega arith;
      below = λ n high. let most = number_below p e n in let none = rule.bounded n high in omega arith;
    }

    exact : (p : Purse) → v.purse ≡ Some p → (kept : Kept) (h : History) → Contains (kept_in p) kept
        → IsPrefix (filter (is_under kept.number) (entries v.seen h)) (entries kept.own h)
    exact p e kept h has =
        subst (IsPrefix (filter (is_under kept.number) (entries v.seen h))) (true_v.exact kept h
        (subst (λ o. Contains (kept_in_purse o) kept) (sym e) has))
        (prefix_filter (is_under kept.number) (entries v.seen h) (entries whole h) (true_v.seen h))

    every : (p : Purse) → v.purse ≡ Some p → HasEveryNumber p → (h : History) (x : BookEntry)
        → Contains (entries v.seen h) x
        → IsKeptIn p h x
    every p e all h x has =
        let there = prefix_contains (entries v.seen h) (entries whole h) x (true_v.seen h) has in
        let k = rule.kept h x there in
        let n : ℕ = book_entry_pass x in
        let theirs : 0 < has_number n k.seat
        = subst (λ m. 0 < has_number m k.seat) k.under (kept_counts k.seat.purse k.kept k.has) in
        let part = part_of_sum (has_number n) seats k.there.0 k.seat k.there.1 in
        let low : n < NUMBER_END
        = dite (dec_lt n NUMBER_END) (λ l. l) (λ high. absurd
        (let none = rule.bounded n (let m : ℕ = NUMBER_END in omega arith) in omega arith)) in
        let mine : 0 < has_number n v = subst (λ o. 0 < in_purse (times_number n) o) (sym e) (all n low) in
        dite (ℕ_discrete k.there.0 id)
        (λ same.
        let seat_is : k.seat ≡ v = some-injective k.seat v (sym k.there.1 ∙ ap (get_elem? seats) same ∙ is) in
        let own_kept : Contains (kept_in_purse v.purse) k.kept
        = subst (λ (y : SeatView). Contains (kept_in_purse y.purse) k.kept) seat_is k.has in
        let passes : is_under k.kept.number x ≡ true = let m : ℕ = k.kept.number in let u : m ≡ n = k.under in
        let r : nat_eq n m ≡ true = grind (arith, nat_tests) in r in
        record {
          kept = k.kept;
          has = subst (λ o. Contains (kept_in_purse o) k.kept) e own_kept;
          under = k.under;
          own = subst (λ xs. Contains xs x) (true_v.exact k.kept h own_kept) (contains_kept
              (is_under k.kept.number) (entries whole h) x there passes);
        })
        (λ apart'. absurd (
        let two = parts_of_sum (has_number n) seats k.there.0 id k.seat v apart' k.there.1 is in
        let one = at_most_once leaves ranges whole words seats rule id v is n in
        omega arith))

    promised_told : IsPromised leaves v
    promised_told n low o = let e = rule.promised v n low (id, is) o in
        let part = part_of_sum (has_room (leaf_numbered n)) seats id v is in omega arith

    borne_out : (o : Option Purse) → v.purse ≡ o → IfSome o (IsPurseBorneOut v.seen)
    borne_out None e = tt
    borne_out (Some p) e = record { apart = apart p e; exact = exact p e; every = every p e }

pub allows_confirm : (leaves ranges slots id : ℕ) (me : Seated)
    → Allows (holds_of leaves ranges) slots id me 0 (λ m. m) (Confirms leaves (step slots 0 0 0 none) me)
allows_confirm leaves ranges slots id me s rule _ is _ = (
  me.0,
  keeps,
  tt,
  (
    rule.0,
    subst (λ (z : List ℕ × List SeatView). KeepsBookRule leaves ranges rule.0 z.0 z.1) (λ i.
        (sym (set-get_or s.words 0 0) i, sym (set_again s.views id me.0 is) i)) rule.1,
  ),
  (
    refl,
    joined_told leaves ranges rule.0 s.words s.views rule.1 id me.0 is me.0.joined
        (rule.1.seats_true me.0 (id, is)).joined,
    borne_out leaves ranges rule.0 s.words s.views rule.1 id me.0 is me.0.purse refl,
    promised_told leaves ranges rule.0 s.words s.views rule.1 id me.0 is,
  ),
)

-- ---- splits and joins

pub splits_off : (leaves ranges id : ℕ) (v : SeatView) → Splits {S = Unit {0}} (holds_of leaves ranges) id v v
    (split_off v)
splits_off leaves ranges id v s rule is = (rule.0, keeps_split_off leaves ranges rule.0 s.words s.views rule.1 id v is)

pub splits_deal : (count leaves ranges id : ℕ) (v : SeatView) → Splits {S = Unit {0}} (holds_of leaves ranges) id v
    (after_deal count v) (dealt count v)
splits_deal count leaves ranges id v s rule is =
    (rule.0, keeps_deal leaves ranges rule.0 s.words s.views rule.1 id v is count)

pub splits_number : (leaves ranges id : ℕ) (v : SeatView) → (guest_purse v.purse).stock.from
    < (guest_purse v.purse).stock.to
    → Splits {S = Unit {0}} (holds_of leaves ranges) id v (after_handed_number v) (handed_number v)
splits_number leaves ranges id v more s rule is =
    (rule.0, keeps_hand_out leaves ranges rule.0 s.words s.views rule.1 id v is more)

pub splits_part : (leaves ranges id : ℕ) (v : SeatView) (moved : RoomMove) (hold : Bool) (h : History) → v.owns
    ≡ h ∷ [] → CanGiveBack moved h (guest_purse v.purse).rooms
    → Splits {S = Unit {0}} (holds_of leaves ranges) id v (after_part moved hold v) (part moved hold v)
splits_part leaves ranges id v moved hold h owns_is can s rule is =
    (rule.0, keeps_part leaves ranges rule.0 s.words s.views rule.1 id v is moved hold h owns_is can)

pub joins_meeting : (leaves ranges id other : ℕ) (v u : SeatView) → u.owns ≡ [] → u.held
    ≡ [] → Joins {S = Unit {0}} (holds_of leaves ranges) id v other u (meeting v u) spent_view
joins_meeting leaves ranges id other v u landless handless s rule is apart is' = (
  rule.0,
  keeps_meeting leaves ranges rule.0 s.words s.views rule.1 id v is other u apart
      (sym (set_else s.views id other (meeting v u) apart) ∙ is') is' landless handless,
)

-- ---- an append

abbrev is_none : Option ℕ → Type 0
is_none None = Unit {0}
is_none (Some n) = ⊥

none_is_none : (n : ℕ) → None ≡ Some n → ⊥
none_is_none n e = subst is_none e tt

abbrev given : Option ℕ → ℕ → ℕ
given None d = d
given (Some n) d = n

own_found : (o : Option Kept) (n : ℕ) → option_map (λ (kept : Kept). kept.number) o ≡ Some n
    → (mine : Kept) × (o ≡ Some mine) × (mine.number ≡ n)
own_found None n e = absurd (none_is_none n e)
own_found (Some kept) n e = (kept, refl, ap (λ o. given o n) e)

-- the guest with its number, where there is one
purse_found : (o : Option Purse) (n : ℕ) → (hand_of (guest_purse o)).own ≡ Some n
    → (p : Purse) × (o ≡ Some p) × ((mine : Kept) × (p.own ≡ Some mine) × (mine.number ≡ n))
purse_found None n e = absurd (none_is_none n e)
purse_found (Some p) n e = let k = own_found p.own n e in (p, refl, k)

pub allows_append : (leaves ranges slots id : ℕ) (me : Seated) (n : ℕ) (e : BookEntry) → n < leaves + ranges
    → IsFor (history_numbered leaves n) e
    → me.0.owns ≡ history_numbered leaves n ∷ []
    → length (entries me.0.seen (history_numbered leaves n)) < 2 ^ 62
    → (hand_of (guest_purse me.0.purse)).own ≡ Some (book_entry_pass e)
    → ((r : Range) → is_about r e ≡ true → 0 < hold_count r me.0)
    → Allows (holds_of leaves ranges) slots id me (n + 1) (λ m. (m + 1) % 2 ^ 64)
    (Appends e (step slots (n + 1) 1 0 none) me)
allows_append leaves ranges slots id me n e low fits owns_is room number about s rule _ is _ =
    let h = history_numbered leaves n in
    let p = purse_found me.0.purse (book_entry_pass e) number in
    let x : ℕ = (get_or s.words (n + 1) 0 + 1) % 18446744073709551616 in
    let length_is : get_or s.words (n + 1) 0 ≡ length (entries rule.0 h) = rule.1.lengths n low in
    let own = (rule.1.seats_true me.0 (id, is)).own h (owns_it leaves n me.0 owns_is) in
    let same : length (entries me.0.seen h) ≡ length (entries rule.0 h) = ap length own in
    let few : length (entries me.0.seen h) < 4611686018427387904 = room in
    let grown : x ≡ length (entries rule.0 h) + 1 = omega arith in (
      view_after_append e me.0,
      keeps,
      tt,
      (
        with_book_entry h e rule.0,
        keeps_append leaves ranges rule.0 s.words s.views rule.1 id me.0 is n low e fits owns_is p.0 p.1 p.2.0 p.2.1
            p.2.2 about
            x grown,
      ),
      refl,
    )
