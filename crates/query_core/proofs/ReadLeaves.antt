-- Which leaves were read, by what a query knows of each leaf; and leaves in ascending order.
use Rattle.std.proofs.Common.{◌≡◌, ◌∙◌, ◌<◌, ◌≤◌, ◌+◌, ℕ, zero, suc, Bool, true, false, cond, List, [], ◌∷◌, ◌++◌}
use Rattle.std.proofs.Common.{length, map, nat_eq, set, drop, get_or, refl, sym, ap, subst, append_assoc, arith}
use Rattle.std.specs.List.{AllByRecursion, list_any}
use Rattle.std.proofs.lemmas.Bool.{false≢true, or_from, or_left, or_right}
use Rattle.std.proofs.lemmas.Bool.Decides.{nat_tests}
use Rattle.mon_value.specs.declared.positions.Leaf.{Leaf}
use Rattle.mon_value.specs.Histories.{leaf_numbered, same_leaf}
use Rattle.query_traces.specs.declared.looks.Look.{Look}
use Rattle.query_traces.specs.Rounds.{read_at, unread_look}
use Rattle.query_core.proofs.DividedRows.{AreOtherLeaves}

-- ---- leaves that were read

-- a leaf, the length of its history at which it was read, and how much it sent
pub record LeafRead : Type 0 where
  pub leaf : Leaf
  pub cut : ℕ
  pub sent : ℕ

abbrev pub leaf_read : ℕ → Look → LeafRead
leaf_read n look = record { leaf = leaf_numbered n; cut = look.cut; sent = look.sent }

-- those that were read, of leaves that are numbered on
abbrev pub reads_from : ℕ → List Look → List LeafRead
reads_from n [] = []
reads_from n (look ∷ looks) =
    cond look.read (leaf_read n look ∷ reads_from (suc n) looks) (reads_from (suc n) looks)

abbrev pub IsUnread : Look → Type 0
IsUnread look = look.read ≡ false

-- what isn't read sends nothing
abbrev pub SendsNothing : Look → Type 0
SendsNothing look = look.read ≡ false → look.sent ≡ 0

unread_by : (b : Bool) (one : LeafRead) (rest : List LeafRead) → b ≡ false → rest ≡ [] → cond b (one ∷ rest) rest ≡ []
unread_by b one rest e none = ap (λ c. cond c (one ∷ rest) rest) e ∙ none

pub no_reads : (n : ℕ) (looks : List Look) → AllByRecursion IsUnread looks → reads_from n looks ≡ []
no_reads n [] all = refl
no_reads n (look ∷ looks) all =
    unread_by look.read (leaf_read n look) (reads_from (suc n) looks) all.0 (no_reads (suc n) looks all.1)

front_by : (b : Bool) (one : LeafRead) (rest more : List LeafRead)
    → cond b (one ∷ (rest ++ more)) (rest ++ more) ≡ cond b (one ∷ rest) rest ++ more
front_by true one rest more = refl
front_by false one rest more = refl

pub reads_append : (n : ℕ) (looks more : List Look)
    → reads_from n (looks ++ more) ≡ reads_from n looks ++ reads_from (n + length looks) more
reads_append n [] more =
    let same : n ≡ n + 0 = omega arith in ap (λ k. reads_from k more) same
reads_append n (look ∷ looks) more =
    let same : suc n + length looks ≡ n + suc (length looks) = omega arith in
    ap (λ rest. cond look.read (leaf_read n look ∷ rest) rest)
    (reads_append (suc n) looks more ∙ ap (λ k. reads_from (suc n) looks ++ reads_from k more) same)
    ∙ front_by look.read (leaf_read n look) (reads_from (suc n) looks) (reads_from (n + suc (length looks)) more)

-- ---- a leaf is looked at, behind which none is read yet

pub set_read : (n : ℕ) (looks : List Look) (place cut sent : ℕ) → place < length looks
    → AllByRecursion IsUnread (drop place looks)
    → reads_from n (set looks place (read_at cut sent)) ≡ reads_from n looks ++ leaf_read (n + place)
    (read_at cut sent) ∷ []
set_read n [] place cut sent there all = absurd (omega (arith, there))
set_read n (look ∷ looks) zero cut sent there all =
    let same : n ≡ n + 0 = omega arith in
    (λ i. leaf_read (same i) (read_at cut sent) ∷ no_reads (suc n) looks all.1 i)
    ∙ sym (ap (λ front. front ++ leaf_read (n + 0) (read_at cut sent) ∷ []) (no_reads n (look ∷ looks) all))
set_read n (look ∷ looks) (suc place) cut sent there all =
    let same : suc n + place ≡ n + suc place = omega arith in
    ap (λ rest. cond look.read (leaf_read n look ∷ rest) rest)
    (set_read (suc n) looks place cut sent (omega (arith, there)) all
    ∙ ap (λ k. reads_from (suc n) looks ++ leaf_read k (read_at cut sent) ∷ []) same)
    ∙ front_by look.read (leaf_read n look) (reads_from (suc n) looks) (leaf_read (n + suc place) (read_at cut sent)
    ∷ [])

pub set_unread : (n : ℕ) (looks : List Look) (place cut : ℕ) → place < length looks
    → AllByRecursion IsUnread (drop place looks) → reads_from n (set looks place (unread_look cut)) ≡ reads_from n looks
set_unread n [] place cut there all = absurd (omega (arith, there))
set_unread n (look ∷ looks) zero cut there all =
    sym (ap (λ b. cond b (leaf_read n look ∷ reads_from (suc n) looks) (reads_from (suc n) looks)) all.0)
set_unread n (look ∷ looks) (suc place) cut there all =
    ap (λ rest. cond look.read (leaf_read n look ∷ rest) rest) (set_unread (suc n) looks place cut
    (omega (arith, there)) all)

pub all_set : (P : Look → Type 0) (looks : List Look) (place : ℕ) (look : Look) → AllByRecursion P looks → P look
    → AllByRecursion P (set looks place look)
all_set P [] place look all own = tt
all_set P (first ∷ looks) zero look all own = (own, all.1)
all_set P (first ∷ looks) (suc place) look all own = (all.0, all_set P looks place look all.1 own)

-- those behind a place, once it is set
pub behind_set : (looks : List Look) (place later : ℕ) (look : Look) → place < later
    → AllByRecursion IsUnread (drop place looks) → AllByRecursion IsUnread (drop later (set looks place look))
behind_set [] place zero look past all = tt
behind_set [] place (suc later) look past all = tt
behind_set (first ∷ looks) place zero look past all = absurd (omega (arith, past))
behind_set (first ∷ looks) zero (suc later) look past all = fewer looks later all.1
  where
    fewer : (looks : List Look) (later : ℕ) → AllByRecursion IsUnread looks → AllByRecursion IsUnread (drop later looks)
    fewer looks zero all = all
    fewer [] (suc later) all = tt
    fewer (first ∷ looks) (suc later) all = fewer looks later all.1
behind_set (first ∷ looks) (suc place) (suc later) look past all = behind_set looks place later look
    (omega (arith, past)) all

pub fewer_unread : (looks : List Look) (place later : ℕ) → place ≤ later → AllByRecursion IsUnread (drop place looks)
    → AllByRecursion IsUnread (drop later looks)
fewer_unread [] place zero more all = tt
fewer_unread [] place (suc later) more all = tt
fewer_unread (first ∷ looks) zero zero more all = all
fewer_unread (first ∷ looks) (suc place) zero more all = absurd (omega (arith, more))
fewer_unread (first ∷ looks) zero (suc later) more all = fewer_unread looks 0 later (omega arith) all.1
fewer_unread (first ∷ looks) (suc place) (suc later) more all = fewer_unread looks place later (omega (arith, more)) all

-- ---- what a trace tells of them

abbrev pub cuts_of : List Look → List ℕ
cuts_of looks = map (λ (look : Look). look.cut) looks

abbrev pub flags_of : List Look → List Bool
flags_of looks = map (λ (look : Look). look.read) looks

-- the look at a leaf that was read
abbrev pub IsTold : List Look → LeafRead → Type 0
IsTold looks one = get_or (map (λ (look : Look). look.cut) looks) one.leaf.0 0 ≡ one.cut

told_at : (front : List Look) (look : Look) (looks : List Look)
    → get_or (map (λ (look : Look). look.cut) (front ++ look ∷ looks)) (length front) 0 ≡ look.cut
told_at [] look looks = refl
told_at (first ∷ front) look looks = told_at front look looks

told_by : (P : LeafRead → Type 0) (b : Bool) (one : LeafRead) (rest : List LeafRead) → P one → AllByRecursion P rest
    → AllByRecursion P (cond b (one ∷ rest) rest)
told_by P true one rest own all = (own, all)
told_by P false one rest own all = all

pub told_cuts : (front looks : List Look) → AllByRecursion (IsTold (front ++ looks)) (reads_from (length front) looks)
told_cuts front [] = tt
told_cuts front (look ∷ looks) =
    let whole : (front ++ look ∷ []) ++ looks ≡ front ++ look ∷ looks = append_assoc front (look ∷ []) looks in
    let count : length (front ++ look ∷ []) ≡ suc (length front) = grind (arith, longer front look) in
    told_by (IsTold (front ++ look ∷ looks)) look.read (leaf_read (length front) look) (reads_from (suc (length front))
    looks)
    (told_at front look looks)
    (subst (λ (all : List Look). AllByRecursion (IsTold all) (reads_from (suc (length front)) looks)) whole
    (subst (λ (n : ℕ). AllByRecursion (IsTold ((front ++ look ∷ []) ++ looks)) (reads_from n looks)) count
    (told_cuts (front ++ look ∷ []) looks)))
  where
    longer : (front : List Look) (look : Look) → length (front ++ look ∷ []) ≡ suc (length front)
    longer [] look = refl
    longer (first ∷ front) look = ap suc (longer front look)

abbrev pub leaves_read : List LeafRead → List Leaf
leaves_read reads = map (λ (one : LeafRead). one.leaf) reads

first_by : (leaf : Leaf) (b : Bool) (one : LeafRead) (rest : List LeafRead) → b ≡ true → same_leaf leaf one.leaf ≡ true
    → list_any (same_leaf leaf) (leaves_read (cond b (one ∷ rest) rest)) ≡ true
first_by leaf true one rest e same = or_left (same_leaf leaf one.leaf) (list_any (same_leaf leaf) (leaves_read rest))
    same
first_by leaf false one rest e same = absurd (false≢true e)

rest_by : (leaf : Leaf) (b : Bool) (one : LeafRead) (rest : List LeafRead)
    → list_any (same_leaf leaf) (leaves_read rest) ≡ true
    → list_any (same_leaf leaf) (leaves_read (cond b (one ∷ rest) rest)) ≡ true
rest_by leaf true one rest there = or_right (same_leaf leaf one.leaf) (list_any (same_leaf leaf) (leaves_read rest))
    there
rest_by leaf false one rest there = there

-- a leaf that the flags tell as read is among those that were
pub read_among : (n : ℕ) (looks : List Look) (place : ℕ)
    → get_or (map (λ (look : Look). look.read) looks) place false ≡ true
    → list_any (same_leaf (leaf_numbered (n + place))) (leaves_read (reads_from n looks)) ≡ true
read_among n [] zero e = absurd (false≢true e)
read_among n [] (suc place) e = absurd (false≢true e)
read_among n (look ∷ looks) zero e =
    let same : nat_eq (n + 0) n ≡ true = grind (arith, nat_tests) in
    first_by (leaf_numbered (n + 0)) look.read (leaf_read n look) (reads_from (suc n) looks) e same
read_among n (look ∷ looks) (suc place) e =
    let number : suc n + place ≡ n + suc place = omega arith in
    rest_by (leaf_numbered (n + suc place)) look.read (leaf_read n look) (reads_from (suc n) looks)
    (subst (λ (k : ℕ). list_any (same_leaf (leaf_numbered k)) (leaves_read (reads_from (suc n) looks)) ≡ true) number
    (read_among (suc n) looks place e))

-- ---- leaves in ascending order

-- from one number on, up to another
abbrev pub Ascend : ℕ → List Leaf → ℕ → Type 0
Ascend from [] to = from ≤ to
Ascend from (leaf ∷ leaves) to = (from ≤ leaf.0) × Ascend (suc leaf.0) leaves to

pub ascend_before : (from first : ℕ) (leaves : List Leaf) (to : ℕ) → from ≤ first → Ascend first leaves to
    → Ascend from leaves to
ascend_before from first [] to before all = omega (arith, before, all)
ascend_before from first (leaf ∷ leaves) to before all = (omega (arith, before, all.0), all.1)

pub ascend_append : (from : ℕ) (leaves : List Leaf) (middle : ℕ) (more : List Leaf) (to : ℕ) → Ascend from leaves middle
    → Ascend middle more to → Ascend from (leaves ++ more) to
ascend_append from [] middle more to all later = ascend_before from middle more to all later
ascend_append from (leaf ∷ leaves) middle more to all later =
    (all.0, ascend_append (suc leaf.0) leaves middle more to all.1 later)

pub ascend_within : (from : ℕ) (leaves : List Leaf) (to : ℕ) → Ascend from leaves to
    → AllByRecursion (λ (leaf : Leaf). (from ≤ leaf.0) × (leaf.0 < to)) leaves
ascend_within from [] to all = tt
ascend_within from (leaf ∷ leaves) to all =
    let rest = ascend_within (suc leaf.0) leaves to all.1 in
    ((all.0, below leaf leaves to all.1), fewer from leaf leaves to all.0 rest)
  where
    below : (leaf : Leaf) (leaves : List Leaf) (to : ℕ) → Ascend (suc leaf.0) leaves to → leaf.0 < to
    below leaf [] to all = omega (arith, all)
    below leaf (next ∷ leaves) to all = let rest = below next leaves to all.1 in omega (arith, all.0, rest)

    fewer : (from : ℕ) (leaf : Leaf) (leaves : List Leaf) (to : ℕ) → from ≤ leaf.0
        → AllByRecursion (λ (one : Leaf). (suc leaf.0 ≤ one.0) × (one.0 < to)) leaves
        → AllByRecursion (λ (one : Leaf). (from ≤ one.0) × (one.0 < to)) leaves
    fewer from leaf [] to before all = tt
    fewer from leaf (one ∷ leaves) to before all =
        ((omega (arith, before, all.0.0), all.0.1), fewer from leaf leaves to before all.1)

lacks : (leaf : Leaf) (first : ℕ) (leaves : List Leaf) (to : ℕ) → leaf.0 < first → Ascend first leaves to
    → list_any (same_leaf leaf) leaves ≡ false
lacks leaf first [] to before all = refl
lacks leaf first (one ∷ leaves) to before all =
    let differ : nat_eq leaf.0 one.0 ≡ false = let low : first ≤ one.0 = all.0 in grind (arith, nat_tests) in
    or_from (same_leaf leaf one) (list_any (same_leaf leaf) leaves) differ
    (lacks leaf (suc one.0) leaves to (omega (arith, before, all.0)) all.1)

-- each stands once
pub ascend_once : (from : ℕ) (leaves : List Leaf) (to : ℕ) → Ascend from leaves to → AreOtherLeaves leaves
ascend_once from [] to all = tt
ascend_once from (leaf ∷ leaves) to all =
    (lacks leaf (suc leaf.0) leaves to (omega arith) all.1, ascend_once (suc leaf.0) leaves to all.1)

reads_by : (n : ℕ) (b : Bool) (look : Look) (rest : List LeafRead) (to : ℕ) → Ascend (suc n) (leaves_read rest) to
    → Ascend n (leaves_read (cond b (leaf_read n look ∷ rest) rest)) to
reads_by n true look rest to all = (omega arith, all)
reads_by n false look rest to all = ascend_before n (suc n) (leaves_read rest) to (omega arith) all

-- those that were read do
pub reads_ascend : (n : ℕ) (looks : List Look) (to : ℕ) → n + length looks ≡ to
    → Ascend n (leaves_read (reads_from n looks)) to
reads_ascend n [] to e = omega (arith, e)
reads_ascend n (look ∷ looks) to e =
    reads_by n look.read look (reads_from (suc n) looks) to (reads_ascend (suc n) looks to (omega (arith, e)))

-- so many leaves from one on
abbrev pub leaves_from : ℕ → ℕ → List Leaf
leaves_from n zero = []
leaves_from n (suc count) = leaf_numbered n ∷ leaves_from (suc n) count

pub leaves_ascend : (n count to : ℕ) → n + count ≡ to → Ascend n (leaves_from n count) to
leaves_ascend n zero to e = omega (arith, e)
leaves_ascend n (suc count) to e = (omega arith, leaves_ascend (suc n) count to (omega (arith, e)))

pub leaves_append : (n some more : ℕ) → leaves_from n (some + more) ≡ leaves_from n some ++ leaves_from (n + some) more
leaves_append n zero more =
    let count : 0 + more ≡ more = omega arith in
    let number : n ≡ n + 0 = omega arith in
    ap (leaves_from n) count ∙ ap (λ k. leaves_from k more) number
leaves_append n (suc some) more =
    let count : suc some + more ≡ suc (some + more) = omega arith in
    let number : suc n + some ≡ n + suc some = omega arith in
    ap (leaves_from n) count
    ∙ ap (λ rest. leaf_numbered n ∷ rest)
    (leaves_append (suc n) some more ∙ ap (λ k. leaves_from (suc n) some ++ leaves_from k more) number)

among_by : (leaf : Leaf) (n count : ℕ) (b : Bool) → nat_eq leaf.0 n ≡ b → n ≤ leaf.0
    → (suc n ≤ leaf.0 → list_any (same_leaf leaf) (leaves_from (suc n) count) ≡ true)
    → list_any (same_leaf leaf) (leaves_from n (suc count)) ≡ true
among_by leaf n count true e from later =
    or_left (same_leaf leaf (leaf_numbered n)) (list_any (same_leaf leaf) (leaves_from (suc n) count)) e
among_by leaf n count false e from later =
    let past : suc n ≤ leaf.0 = grind (arith, nat_tests) in
    or_right (same_leaf leaf (leaf_numbered n)) (list_any (same_leaf leaf) (leaves_from (suc n) count)) (later past)

pub among_from : (leaf : Leaf) (n count : ℕ) → n ≤ leaf.0 → leaf.0 < n + count
    → list_any (same_leaf leaf) (leaves_from n count) ≡ true
among_from leaf n zero from to = absurd (omega (arith, from, to))
among_from leaf n (suc count) from to =
    among_by leaf n count (nat_eq leaf.0 n) refl from (λ past. among_from leaf (suc n) count past (omega (arith, to)))
