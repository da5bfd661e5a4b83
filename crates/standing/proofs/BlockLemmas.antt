-- Blocks of queries, and until when each of them is quiet.
use Rattle.std.proofs.Common.{◌≡◌, ◌∙◌, ◌<◌, ◌≤◌, ◌+◌, ◌*◌, ◌++◌, ◌∷◌, [], ℕ, ℤ, List, Option, take, drop, get_or, set}
use Rattle.std.proofs.Common.{length, zero, suc, refl, ap, sym, subst, append_assoc, append-nil, arith}
use Rattle.std.proofs.lemmas.List.{drop_all, drop_more, drop-append-le, drop-set-lt, length-append, length-drop}
use Rattle.std.proofs.lemmas.List.{length-take-le, length_push, take_all, take_more_set, take-append-drop}
use Rattle.std.proofs.lemmas.List.{take-append-le}
use Rattle.std.proofs.lemmas.List.Sums.{sum_by-take-drop}
use Rattle.std.specs.List.{AllByRecursion}
use Rattle.standing.specs.DueLists.{Mark, due_count, due_times, marked, marks_from, seconds, times_due}
use Rattle.standing.specs.QuietMoments.{AreQuiet, IsQuietUntil}
use Rattle.standing.specs.declared.queries.StandingQuery.{StandingQuery}
use Rattle.standing.proofs.QuietLemmas.{lowered_with}

-- ---- what holds of all holds of a block and of those behind it

pub all_taken : {A : Type 0} (P : A → Type 0) (n : ℕ) (xs : List A) → AllByRecursion P xs → AllByRecursion P (take n xs)
all_taken P zero xs all = tt
all_taken P (suc n) [] all = tt
all_taken P (suc n) (x ∷ xs) all = (all.0, all_taken P n xs all.1)

pub all_dropped : {A : Type 0} (P : A → Type 0) (n : ℕ) (xs : List A) → AllByRecursion P xs
    → AllByRecursion P (drop n xs)
all_dropped P zero xs all = all
all_dropped P (suc n) [] all = tt
all_dropped P (suc n) (x ∷ xs) all = all_dropped P n xs all.1

-- ---- a block of what is left

pub of_next : (last : Option ℤ) (nexts : List ℕ) (i d : ℕ) (rest : List StandingQuery) → i < length nexts
    → AreQuiet last (drop i nexts) rest → AreQuiet last (get_or nexts i d ∷ drop (i + 1) nexts) rest
of_next last nexts i d rest there quiet =
    subst (λ (left : List ℕ). AreQuiet last left rest) (drop_more nexts i d there) quiet

pub none_left : (last : Option ℤ) (nexts : List ℕ) (i : ℕ) (rest : List StandingQuery) → length nexts ≤ i
    → AreQuiet last (drop i nexts) rest → rest ≡ []
none_left last nexts i rest all quiet =
    subst (λ (left : List ℕ). AreQuiet last left rest) (drop_all i nexts all) quiet

-- ---- blocks that are settled

-- whatever moments suit those left do so behind these ones
abbrev pub Settled : Option ℤ → List ℕ → List StandingQuery → List StandingQuery → Type 0
Settled last front rest queries = (back : List ℕ) → AreQuiet last back rest → AreQuiet last (front ++ back) queries

pub settled_more : (last : Option ℤ) (nexts : List ℕ) (i next : ℕ) (rest queries : List StandingQuery)
    → i < length nexts → AllByRecursion (IsQuietUntil last next) (take 64 rest)
    → Settled last (take i nexts) rest queries
    → Settled last (take (i + 1) (set nexts i next)) (drop 64 rest) queries
settled_more last nexts i next rest queries there here done = λ back quiet.
    let whole : take i nexts ++ next ∷ back ≡ take (i + 1) (set nexts i next) ++ back =
    sym (append_assoc (take i nexts) (next ∷ []) back)
    ∙ ap (λ (front : List ℕ). front ++ back) (sym (take_more_set nexts i next there)) in
    subst (λ (all : List ℕ). AreQuiet last all queries) whole (done (next ∷ back) (here, quiet))

pub settled_all : (last : Option ℤ) (nexts : List ℕ) (i : ℕ) (rest queries : List StandingQuery) → length nexts ≤ i
    → rest ≡ [] → Settled last (take i nexts) rest queries → AreQuiet last nexts queries
settled_all last nexts i rest queries all none done =
    subst (λ (ns : List ℕ). AreQuiet last ns queries) (append-nil (take i nexts) ∙ take_all i nexts all) (done [] none)

pub left_more : (last : Option ℤ) (nexts : List ℕ) (i next : ℕ) (rest : List StandingQuery) → i < length nexts
    → AreQuiet last (drop i nexts) rest → AreQuiet last (drop (i + 1) (set nexts i next)) (drop 64 rest)
left_more last nexts i next rest there quiet =
    let same : drop (i + 1) nexts ≡ drop (i + 1) (set nexts i next) =
    sym (drop-set-lt (i + 1) nexts i next (omega arith)) in
    subst (λ (left : List ℕ). AreQuiet last left (drop 64 rest)) same (of_next last nexts i 0 rest there quiet).1

-- ---- what a block counts, and its marks

pub count_split : (last : Option ℤ) (moment : ℤ) (queries : List StandingQuery)
    → due_count last moment (take 64 queries) + due_count last moment (drop 64 queries)
    ≡ due_count last moment queries
count_split last moment queries = sum_by-take-drop (times_due last moment) queries 64

marks_behind : (n : ℕ) (last : Option ℤ) (moment : ℤ) (front back : List StandingQuery)
    → marks_from n last moment front ++ marks_from (n + length front) last moment back
    ≡ marks_from n last moment (front ++ back)
marks_behind n last moment [] back =
    let start : n + 0 ≡ n = omega arith in
    ap (λ (k : ℕ). marks_from k last moment back) start
marks_behind n last moment (query ∷ front) back =
    let here : List Mark = marked n (due_times last moment (seconds query.period)) in
    let next : n + suc (length front) ≡ n + 1 + length front = omega arith in
    append_assoc here (marks_from (n + 1) last moment front) (marks_from (n + suc (length front)) last moment back)
    ∙ ap (λ (k : ℕ). here ++ (marks_from (n + 1) last moment front ++ marks_from k last moment back)) next
    ∙ ap (λ (ms : List Mark). here ++ ms) (marks_behind (n + 1) last moment front back)

-- a block's marks behind those so far, and those of the blocks behind it
pub marks_block : (n : ℕ) (last : Option ℤ) (moment : ℤ) (queries : List StandingQuery) (before : List Mark)
    → (before ++ marks_from n last moment (take 64 queries))
    ++ marks_from (n + length (take 64 queries)) last moment (drop 64 queries)
    ≡ before ++ marks_from n last moment queries
marks_block n last moment queries before =
    append_assoc before (marks_from n last moment (take 64 queries)) _
    ∙ ap (λ (ms : List Mark). before ++ ms) (marks_behind n last moment (take 64 queries) (drop 64 queries)
    ∙ ap (marks_from n last moment) (take-append-drop 64 queries))

pub length_split : {A : Type 0} (xs : List A) → length (take 64 xs) + length (drop 64 xs) ≡ length xs
length_split xs = sym (length-append (take 64 xs) (drop 64 xs)) ∙ ap length (take-append-drop 64 xs)

-- ---- a query more

-- the blocks hold all queries
pub covered : (last : Option ℤ) (nexts : List ℕ) (queries : List StandingQuery) → AreQuiet last nexts queries
    → length queries ≤ 64 * length nexts
covered last [] queries quiet = omega (arith, ap length quiet)
covered last (next ∷ nexts) queries quiet =
    let behind : length (drop 64 queries) ≤ 64 * length nexts = covered last nexts (drop 64 queries) quiet.1 in
    omega (arith, behind, length-drop 64 queries)

pub opened : (last : Option ℤ) (nexts : List ℕ) (next : ℕ) (queries : List StandingQuery)
    → AreQuiet last nexts queries → AreQuiet last (nexts ++ next ∷ []) queries
opened last [] next queries quiet =
    subst (λ (qs : List StandingQuery). AreQuiet last (next ∷ []) qs) (sym quiet) (tt, refl)
opened last (first ∷ nexts) next queries quiet = (quiet.0, opened last nexts next (drop 64 queries) quiet.1)

pub noted : (last : Option ℤ) (nexts : List ℕ) (i lowest : ℕ) (queries : List StandingQuery) (query : StandingQuery)
    → i < length nexts → 64 * i ≤ length queries → length queries < 64 * (i + 1) → lowest ≤ get_or nexts i 0
    → IsQuietUntil last lowest query → AreQuiet last nexts queries
    → AreQuiet last (set nexts i lowest) (queries ++ query ∷ [])
noted last [] i lowest queries query there from below less quiet all = absurd (omega (arith, there))
noted last (next ∷ nexts) zero lowest queries query there from below less quiet all =
    let here : take 64 (queries ++ query ∷ []) ≡ queries ++ query ∷ [] =
    take_all 64 (queries ++ query ∷ []) (omega (arith, below, length_push queries query)) in
    let none : drop 64 queries ≡ [] = drop_all 64 queries (omega (arith, below)) in
    let behind : drop 64 (queries ++ query ∷ []) ≡ [] =
    drop_all 64 (queries ++ query ∷ []) (omega (arith, below, length_push queries query)) in
    let before : AllByRecursion (IsQuietUntil last next) queries =
    subst (AllByRecursion (IsQuietUntil last next)) (take_all 64 queries (omega (arith, below))) all.0 in (
      subst (AllByRecursion (IsQuietUntil last lowest)) (sym here)
          (lowered_with last next lowest lowest queries query less (omega arith) before quiet),
      subst (AreQuiet last nexts) (none ∙ sym behind) all.1,
    )
noted last (next ∷ nexts) (suc i) lowest queries query there from below less quiet all =
    let full : 64 ≤ length queries = omega (arith, from) in
    let here : take 64 queries ≡ take 64 (queries ++ query ∷ []) = sym (take-append-le 64 queries (query ∷ []) full) in
    let behind : drop 64 queries ++ query ∷ [] ≡ drop 64 (queries ++ query ∷ []) =
    sym (drop-append-le 64 queries (query ∷ []) full) in
    let taken : length (take 64 queries) ≡ 64 = length-take-le 64 queries full in
    let split = length_split queries in (
      subst (AllByRecursion (IsQuietUntil last next)) here all.0,
      subst (AreQuiet last (set nexts i lowest)) behind
          (noted last nexts i lowest (drop 64 queries) query (omega (arith, there)) (omega (arith, from, taken, split))
          (omega (arith, below, taken, split)) less quiet all.1),
    )
