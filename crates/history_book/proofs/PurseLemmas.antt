-- How often numbers, rooms and ranges stand in purses, and what becomes of that as purses are cut and put together.
use Rattle.history_book.specs.declared.views.BookEntry.TheVariants as one
use Rattle.std.proofs.Common.{◌≡◌, ℕ, ◌+◌, ◌-◌, ◌<◌, ◌≤◌, ◌≢◌, Bool, true, false, not, ◌&&◌, List, [], ◌∷◌, ◌++◌}
use Rattle.std.proofs.Common.{filter, refl, sym, ap, ◌∙◌, subst, arith, nat_eq, nat_lt, cond}
use Rattle.std.specs.Prelude.{Option, Some, None, option_map, option_to_list}
use Rattle.std.specs.List.{Contains, count_by, sum_by}
use mathlib.Core.Logic.{dite}
use native.Mathlib.Decide.{ℕ_discrete}
use Rattle.std.proofs.Math.Decide.{dec_lt}
use Rattle.std.proofs.lemmas.Bool.Decides.{nat_tests}
use Rattle.std.proofs.lemmas.List.{append-nil, append_assoc}
use Rattle.std.proofs.lemmas.List.Filters.{sum_by-filter_both}
use Rattle.std.proofs.lemmas.List.Sums.{get_or-le-sum_by, sum_by-append, sum_by-cons}
use Rattle.mon_value.specs.declared.positions.Leaf.{Leaf}
use Rattle.mon_value.specs.declared.positions.Range.{Range}
use Rattle.history_book.specs.declared.numbers.TheConstants.{SHARE}
use Rattle.history_book.specs.declared.views.History.{History}
use Rattle.history_book.specs.declared.views.Kept.{Kept}
use Rattle.history_book.specs.declared.views.Purse.{Purse}
use Rattle.mon_value.specs.Histories.{same_leaf, same_range}
use Rattle.history_book.specs.Numbers.{are_many, numbers_between, times_among}
use Rattle.history_book.specs.Seats.{first_handed, guest_purse, held_after, holds_after, is_own_range, kept_in}
use Rattle.history_book.specs.Seats.{met_purse, new_number, no_purse, times_number, times_range, times_room}
use Rattle.history_book.specs.Seats.{with_stock_handed, without_one}
use Rattle.history_book.specs.BookRule.{in_purse, kept_in_purse}
use Rattle.history_book.specs.Steps.{both_purses}
use Rattle.mon_value.proofs.PlainLemmas.{contains_none}

-- ---- counting

pub sum_one : {X : Type 0} (f : X → ℕ) (x : X) → sum_by f (x ∷ []) ≡ f x
sum_one f x = sum_by-cons f x [] ∙ (let n : ℕ = f x in let none : sum_by f [] ≡ 0 = refl in omega arith)

pub counted : {X : Type 0} (f : X → ℕ) (xs : List X) (x : X) → Contains xs x → f x ≤ sum_by f xs
counted f xs x has = subst (λ y. f y ≤ sum_by f xs) has.2 (get_or-le-sum_by f xs has.0 x has.1)

-- ---- numbers among some

pub among_yes : (n from to : ℕ) → from ≤ n → n < to → times_among n (numbers_between from to) ≡ 1
among_yes n from to low high = let a : nat_lt n from ≡ false = grind (arith, nat_tests) in
    let b : nat_lt n to ≡ true = grind (arith, nat_tests) in λ i. cond (not (a i) && b i) 1 0

among_low : (n from to : ℕ) → n < from → times_among n (numbers_between from to) ≡ 0
among_low n from to low = let a : nat_lt n from ≡ true = grind (arith, nat_tests) in
    λ i. cond (not (a i) && nat_lt n to) 1 0

among_none : (a b : Bool) → b ≡ false → (let n : ℕ = cond (a && b) 1 0 in n ≡ 0)
among_none true b e = ap (λ c. cond c 1 0) e
among_none false b e = refl

pub among_high : (n from to : ℕ) → to ≤ n → times_among n (numbers_between from to) ≡ 0
among_high n from to high = let b : nat_lt n to ≡ false = grind (arith, nat_tests) in
    among_none (not (nat_lt n from)) (nat_lt n to) b

pub none_among : (n a : ℕ) → times_among n (numbers_between a a) ≡ 0
none_among n a = dite (dec_lt n a) (λ low. among_low n a a low) (λ high. among_high n a a (omega arith))

same_number : (n m : ℕ) → n ≡ m → (let k : ℕ = cond (nat_eq n m) 1 0 in k ≡ 1)
same_number n m e = let b : nat_eq n m ≡ true = grind (arith, nat_tests) in ap (λ c. cond c 1 0) b

other_number : (n m : ℕ) → n ≢ m → (let k : ℕ = cond (nat_eq n m) 1 0 in k ≡ 0)
other_number n m e = let b : nat_eq n m ≡ false = grind (arith, nat_tests) in ap (λ c. cond c 1 0) b

abbrev pub one_if_same : ℕ → ℕ → ℕ
one_if_same a n = cond (nat_eq a n) 1 0

past : (a n : ℕ) → (n < a → ⊥) → a ≢ n → a + 1 ≤ n
past a n l apart = dite (dec_lt a n) (λ h. omega arith) (λ h. absurd (apart (omega arith)))

-- the first of some numbers goes with some of the last ones
pub cut_among : (n a m b : ℕ) → a < b → a + 1 ≤ m → m ≤ b
    → times_among n (numbers_between (a + 1) m) + (one_if_same a n + times_among n (numbers_between m b)) ≡ times_among
    n
    (numbers_between a b)
cut_among n a m b some low high =
    dite (dec_lt n a)
    (λ l.
    let x = among_low n (a + 1) m (omega arith) in let y : one_if_same a n ≡ 0 = other_number a n (λ e. omega arith) in
    let z = among_low n m b (omega arith) in let w = among_low n a b l in omega arith)
    (λ l. dite (ℕ_discrete a n)
    (λ e.
    let x = among_low n (a + 1) m (omega arith) in let y : one_if_same a n ≡ 1 = same_number a n e in
    let z = among_low n m b (omega arith) in let w = among_yes n a b (omega arith) (omega arith) in omega arith)
    (λ apart.
    let y : one_if_same a n ≡ 0 = other_number a n apart in
    dite (dec_lt n m)
    (λ h.
    let x = among_yes n (a + 1) m (past a n l apart) h in
    let z = among_low n m b h in let w = among_yes n a b (omega arith) (omega arith) in omega arith)
    (λ h.
    let x = among_high n (a + 1) m (omega arith) in
    dite (dec_lt n b)
    (λ k. let z = among_yes n m b (omega arith) k in let w = among_yes n a b (omega arith) k in omega arith)
    (λ k. let z = among_high n m b (omega arith) in let w = among_high n a b (omega arith) in omega arith))))

-- ---- what stands in a purse

pub no_number : (n : ℕ) → times_number n no_purse ≡ 0
no_number n = let none = none_among n 0 in let a : count_by (λ (kept : Kept). nat_eq kept.number n) [] ≡ 0 = refl in
    let b : sum_by (times_among n) [] ≡ 0 = refl in omega arith

abbrev pub times_kept : ℕ → List Kept → ℕ
times_kept n kept = count_by (λ k. nat_eq k.number n) kept

pub kept_counts : (o : Option Purse) (kept : Kept) → Contains (kept_in_purse o) kept
    → 0 < in_purse (times_number kept.number) o
kept_counts None kept has = absurd (contains_none kept has)
kept_counts (Some p) kept has =
    let a : one_if_same kept.number kept.number ≤ times_kept kept.number (kept_in p) = counted
    (λ k. one_if_same k.number kept.number) (kept_in p) kept has in
    let b : one_if_same kept.number kept.number ≡ 1 = same_number kept.number kept.number refl in
    omega arith

-- a number that stands in the stock is not kept beside it, or stands twice
pub stock_counts : (o : Option Purse) (n : ℕ) → 0 < times_among n (guest_purse o).stock → 0 < in_purse (times_number n)
    o
stock_counts None n has = absurd (let none = none_among n 0 in omega arith)
stock_counts (Some p) n has = omega arith

pub both_count : (o : Option Purse) (kept : Kept) → Contains (kept_in_purse o) kept
    → 0 < times_among kept.number (guest_purse o).stock → 1 < in_purse (times_number kept.number) o
both_count None kept has in_stock = absurd (contains_none kept has)
both_count (Some p) kept has in_stock =
    let a : one_if_same kept.number kept.number ≤ times_kept kept.number (kept_in p) = counted
    (λ k. one_if_same k.number kept.number) (kept_in p) kept has in
    let b : one_if_same kept.number kept.number ≡ 1 = same_number kept.number kept.number refl in
    omega arith

-- ---- the first number of the stock is handed out

handed_by : (n : ℕ) (p : Purse) (b : Bool) → are_many p.stock ≡ b → p.stock.from < p.stock.to
    → times_among n (numbers_between (p.stock.from + 1) (cond b (p.stock.to - SHARE) p.stock.to)) +
    (one_if_same p.stock.from n + times_among n (numbers_between (cond b (p.stock.to - SHARE) p.stock.to) p.stock.to)) ≡
    times_among n p.stock
handed_by n p true e some = cut_among n p.stock.from (p.stock.to - SHARE) p.stock.to some
    (let h : 8589934592 < p.stock.to - (p.stock.from + 1) = grind (arith, nat_tests) in omega arith) (omega arith)
handed_by n p false e some = cut_among n p.stock.from p.stock.to p.stock.to some (omega arith) (omega arith)

pub number_handed : (n : ℕ) (o : Option Purse) → (guest_purse o).stock.from < (guest_purse o).stock.to
    → in_purse (times_number n) (option_map with_stock_handed o) + in_purse (times_number n) (option_map first_handed o)
    ≡ in_purse
    (times_number n) o
number_handed n None some = refl
number_handed n (Some p) some =
    let all = handed_by n p (are_many p.stock) refl some in
    let one : times_kept n (new_number p.stock.from ∷ []) ≡ one_if_same p.stock.from n
    = sum_one (λ k. one_if_same k.number n) (new_number p.stock.from) in
    let b : sum_by (times_among n) [] ≡ 0 = refl in
    omega arith

pub kept_after_handing : (o : Option Purse) → kept_in_purse (option_map with_stock_handed o) ≡ kept_in_purse o
kept_after_handing None = refl
kept_after_handing (Some p) = refl

-- ---- two purses are put together

kept_met : (p q : Purse) → kept_in (met_purse p q) ≡ kept_in p ++ kept_in q
kept_met p q = sym (append_assoc (option_to_list p.own) p.met (kept_in q))

pub kept_both : (o m : Option Purse) → kept_in_purse (both_purses o m) ≡ kept_in_purse o ++ kept_in_purse m
kept_both None m = refl
kept_both (Some p) None = sym (append-nil (kept_in p))
kept_both (Some p) (Some q) = kept_met p q

pub number_met : (n : ℕ) (p q : Purse) → times_number n (met_purse p q) ≡ times_number n p + times_number n q
number_met n p q =
    let a : times_kept n (kept_in (met_purse p q)) ≡ times_kept n (kept_in p) + times_kept n (kept_in q) = ap
    (times_kept n) (kept_met p q) ∙ sum_by-append (λ k. one_if_same k.number n) (kept_in p) (kept_in q) in
    let b : sum_by (times_among n) (p.lost ++ q.stock ∷ q.lost) ≡ sum_by (times_among n) p.lost + sum_by
    (times_among n) (q.stock ∷ q.lost) = sum_by-append (times_among n) p.lost (q.stock ∷ q.lost) in
    let c : sum_by (times_among n) (q.stock ∷ q.lost) ≡ times_among n q.stock + sum_by (times_among n) q.lost
    = sum_by-cons (times_among n) q.stock q.lost in
    omega arith

pub number_both : (n : ℕ) (o m : Option Purse) → in_purse (times_number n) (both_purses o m) ≡ in_purse
    (times_number n) o + in_purse (times_number n) m
number_both n None m = let k : ℕ = in_purse (times_number n) m in let e : k ≡ 0 + k = omega arith in e
number_both n (Some p) None = let k : ℕ = times_number n p in let e : k ≡ k + 0 = omega arith in e
number_both n (Some p) (Some q) = number_met n p q

pub rooms_both : (leaf : Leaf) (o m : Option Purse) → in_purse (λ p. times_room leaf p.rooms) (both_purses o m)
    ≡ in_purse
    (λ p. times_room leaf p.rooms) o + in_purse (λ p. times_room leaf p.rooms) m
rooms_both leaf None m = let k : ℕ = in_purse (λ p. times_room leaf p.rooms) m in let e : k ≡ 0 + k = omega arith in e
rooms_both leaf (Some p) None = let k : ℕ = times_room leaf p.rooms in let e : k ≡ k + 0 = omega arith in e
rooms_both leaf (Some p) (Some q) = sum_by-append (λ room. cond (same_leaf leaf room) 1 0) p.rooms q.rooms

pub ranges_both : (r : Range) (o m : Option Purse) → in_purse (λ p. times_range r p.holds) (both_purses o m) ≡ in_purse
    (λ p. times_range r p.holds) o + in_purse (λ p. times_range r p.holds) m
ranges_both r None m = let k : ℕ = in_purse (λ p. times_range r p.holds) m in let e : k ≡ 0 + k = omega arith in e
ranges_both r (Some p) None = let k : ℕ = times_range r p.holds in let e : k ≡ k + 0 = omega arith in e
ranges_both r (Some p) (Some q) = sum_by-append (λ other. cond (same_range r other) 1 0) p.holds q.holds

-- ---- what an owner has where no guest is there

pub guest_number : (n : ℕ) (o : Option Purse) → times_number n (guest_purse o) ≡ in_purse (times_number n) o
guest_number n None = no_number n
guest_number n (Some p) = refl

pub guest_kept : (o : Option Purse) → kept_in (guest_purse o) ≡ kept_in_purse o
guest_kept None = refl
guest_kept (Some p) = refl

pub guest_ranges : (r : Range) (o : Option Purse) → times_range r (guest_purse o).holds
    ≡ in_purse (λ p. times_range r p.holds) o
guest_ranges r None = refl
guest_ranges r (Some p) = refl

pub guest_rooms : (leaf : Leaf) (o : Option Purse) → times_room leaf (guest_purse o).rooms
    ≡ in_purse (λ p. times_room leaf p.rooms) o
guest_rooms leaf None = refl
guest_rooms leaf (Some p) = refl

-- ---- an owner's guest goes

pub ranges_parted : (r : Range) (hold : Bool) (h : History) (held holds : List Range)
    → times_range r (held_after hold h held holds) + times_range r
    (holds_after hold h held holds) ≡ times_range r held + times_range r holds
ranges_parted r true h held holds = let none : times_range r [] ≡ 0 = refl in
    let all : times_range r (held ++ holds) ≡ times_range r held + times_range r holds
    = sum_by-append (λ other. cond (same_range r other) 1 0) held holds in omega arith
ranges_parted r false h held holds =
    let all : times_range r (held ++ filter (is_own_range h) holds) ≡ times_range r held + times_range r
    (filter (is_own_range h) holds) =
    sum_by-append (λ other. cond (same_range r other) 1 0) held (filter (is_own_range h) holds) in
    let both : times_range r (filter (is_own_range h) holds) + times_range r
    (filter (λ range. not (is_own_range h range)) holds) ≡ times_range r holds =
    sum_by-filter_both
    (is_own_range h) (λ range. not (is_own_range h range)) (λ x. refl) (λ other. cond (same_range r other) 1 0) holds in
    omega arith

pub room_made : (leaf own : Leaf) (rooms : List Leaf) → times_room leaf (rooms ++ own ∷ []) ≡ times_room leaf rooms
    + cond
    (same_leaf leaf own) 1 0
room_made leaf own rooms =
    sum_by-append (λ room. cond (same_leaf leaf room) 1 0) rooms (own ∷ []) ∙ ap
    (λ n. times_room leaf rooms + n) (sum_one (λ room. cond (same_leaf leaf room) 1 0) own)

same_to_both : (leaf own room : Leaf) → same_leaf own room ≡ true → same_leaf leaf room ≡ same_leaf leaf own
same_to_both leaf own room e = let n : ℕ = own.0 in let m : ℕ = room.0 in let s : n ≡ m = grind (arith, nat_tests) in
    ap (nat_eq leaf.0) (sym s)

taken_by : (leaf own room : Leaf) (rooms : List Leaf) (b : Bool) → same_leaf own room ≡ b
    → (0 < times_room own rooms → times_room leaf (without_one own rooms) + cond (same_leaf leaf own) 1 0
    ≡ times_room leaf rooms)
    → 0 < times_room own (room ∷ rooms)
    → times_room leaf (cond b rooms (room ∷ without_one own rooms)) + cond (same_leaf leaf own) 1 0
    ≡ times_room leaf (room ∷ rooms)
taken_by leaf own room rooms true e later some =
    let all : times_room leaf (room ∷ rooms) ≡ cond (same_leaf leaf room) 1 0 + times_room leaf rooms
    = sum_by-cons (λ x. cond (same_leaf leaf x) 1 0) room rooms in
    let same : times_room leaf (room ∷ rooms) ≡ cond (same_leaf leaf own) 1 0 + times_room leaf rooms
    = all ∙ ap (λ b. cond b 1 0 + times_room leaf rooms) (same_to_both leaf own room e) in
    let n : ℕ = cond (same_leaf leaf own) 1 0 in
    omega arith
taken_by leaf own room rooms false e later some =
    let here : times_room own (room ∷ rooms) ≡ cond (same_leaf own room) 1 0 + times_room own rooms
    = sum_by-cons (λ x. cond (same_leaf own x) 1 0) room rooms in
    let none : times_room own (room ∷ rooms) ≡ 0 + times_room own rooms = here
    ∙ ap (λ b. cond b 1 0 + times_room own rooms) e in
    let r = later (omega arith) in
    let all : times_room leaf (room ∷ rooms) ≡ cond (same_leaf leaf room) 1 0 + times_room leaf rooms
    = sum_by-cons (λ x. cond (same_leaf leaf x) 1 0) room rooms in
    let new : times_room leaf (room ∷ without_one own rooms) ≡ cond (same_leaf leaf room) 1 0 + times_room leaf
    (without_one own rooms) = sum_by-cons (λ x. cond (same_leaf leaf x) 1 0) room (without_one own rooms) in
    let n : ℕ = cond (same_leaf leaf own) 1 0 in
    let m : ℕ = cond (same_leaf leaf room) 1 0 in
    omega arith

pub room_taken : (leaf own : Leaf) (rooms : List Leaf) → 0 < times_room own rooms
    → times_room leaf (without_one own rooms) + cond (same_leaf leaf own) 1 0 ≡ times_room leaf rooms
room_taken leaf own [] some = absurd (let none : times_room own [] ≡ 0 = refl in omega arith)
room_taken leaf own (room ∷ rooms) some = taken_by leaf own room rooms (same_leaf own room) refl
    (room_taken leaf own rooms) some

-- who holds a range in front of others holds it
pub holds_first : (range : Range) (holds : List Range) → 0 < times_range range (range ∷ holds)
holds_first range holds =
    let all : times_range range (range ∷ holds) ≡ cond (same_range range range) 1 0 + times_range range holds
    = sum_by-cons (λ other. cond (same_range range other) 1 0) range holds in
    let n : ℕ = range.0 in
    let same : same_range range range ≡ true = let e : nat_eq n n ≡ true = grind (arith, nat_tests) in e in
    let one : times_range range (range ∷ holds) ≡ 1 + times_range range holds
    = all ∙ ap (λ b. cond b 1 0 + times_range range holds) same in
    omega arith
