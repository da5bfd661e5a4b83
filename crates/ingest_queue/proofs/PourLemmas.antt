-- What was popped is a front of each file.
use Rattle.std.proofs.Common.{◌≡◌, ℕ, ◌+◌, ◌≤◌, Bool, true, false, not, List, [], ◌∷◌, ◌++◌, length, sym, refl, ap, ◌∙◌, subst, append_assoc, arith, length-append, if◌then◌else◌, ◌<◌, ◌-◌, Option, Some, None, MatchOption, option_to_list, Result, Ok, Err, IfOk, OnOk}
use Rattle.std.proofs.lemmas.List.{append-nil, length-map, map-append}
use Rattle.std.specs.List.{AllByRecursion, filter_map}
use Rattle.std.proofs.lemmas.List.Elements.{filter-append, filter_map-append}
use Rattle.ingest_queue.specs.declared.turns.Turn.{Turn}
use Rattle.ingest_queue.specs.Roles.{AreFirst, IsEmptied, IsNext, IsTaken, alone, each, given, is_of, is_shared, of_file, put, sent_by, whole, without}
use Rattle.ingest_queue.specs.Coming.{AllCame, AllTaken, HasWritten, IsOffered, IsUnderWay, either_of, offer_of, offered, pops_alone, turn_of, turns}
use Rattle.ingest_queue.specs.Feeding.{IsFeeding, IsOf}
use Rattle.ingest_queue.specs.Offers.{AreAnswered}
use Rattle.ingest_queue.specs.Pours.{IsTakenBy}
use Rattle.ingest_queue.specs.declared.came.Came.{Came}
use Rattle.ingest_queue.specs.declared.roles.Role.{Role}
use Rattle.ingest_queue.specs.declared.row_writers.Offer.{Offer}
use Rattle.std.specs.Bool.{MatchBool}
use Rattle.std.specs.declared.alloc.AllocError.{AllocError}
use Rattle.mon_value.specs.declared.rows.Row.{Row}

all_second : (P : Turn → Type 0) (xs ys : List Turn) → AllByRecursion P (xs ++ ys) → AllByRecursion P ys
all_second P [] ys all = all
all_second P (x ∷ xs) ys all = all_second P xs ys all.1

of_own : (turn : Turn) → of_file turn.second (turn ∷ []) ≡ turn ∷ []
of_own turn = by turn.second refl
  where
    by : (b : Bool) → turn.second ≡ b → of_file b (turn ∷ []) ≡ turn ∷ []
    by false e = ap (λ c. if c then turn ∷ [] else []) (ap not e)
    by true e = ap (λ c. if c then turn ∷ [] else []) e

-- what was popped last is one of its file's records
pub is_taken : (takes : Row → Bool) (all : Bool → List Turn) (got : List Turn) (turn : Turn) → AllTaken takes all → AreFirst all (got ++ turn ∷ []) → IsTakenBy takes turn.read
is_taken takes all got turn fit first =
    let file : Bool = turn.second in
    let P : Turn → Type 0 = λ (one : Turn). IsTakenBy takes one.read in
    let is : of_file file got ++ (turn ∷ first.rest file) ≡ all file =
    sym (append_assoc (of_file file got) (turn ∷ []) (first.rest file))
    ∙ ap (λ l. (of_file file got ++ l) ++ first.rest file) (sym (of_own turn))
    ∙ ap (λ l. l ++ first.rest file) (sym (filter-append (is_of file) got (turn ∷ [])))
    ∙ first.whole file in
    (all_second P (of_file file got) (turn ∷ first.rest file) (subst (AllByRecursion P) (sym is) (fit file))).0

both_files : (turns : List Turn) → length (of_file false turns) + length (of_file true turns) ≡ length turns
both_files [] = refl
both_files (turn ∷ turns) = by turn.second refl (both_files turns)
  where
    by : (b : Bool) → turn.second ≡ b → length (of_file false turns) + length (of_file true turns) ≡ length turns → length (of_file false (turn ∷ turns)) + length (of_file true (turn ∷ turns)) ≡ length (turn ∷ turns)
    by false e more =
        let one : length (of_file false (turn ∷ turns)) ≡ length (turn ∷ of_file false turns) = ap (λ c. length (if c then turn ∷ of_file false turns else of_file false turns)) (ap not e) in
        let other : length (of_file true (turn ∷ turns)) ≡ length (of_file true turns) = ap (λ c. length (if c then turn ∷ of_file true turns else of_file true turns)) e in
        omega arith
    by true e more =
        let one : length (of_file false (turn ∷ turns)) ≡ length (of_file false turns) = ap (λ c. length (if c then turn ∷ of_file false turns else of_file false turns)) (ap not e) in
        let other : length (of_file true (turn ∷ turns)) ≡ length (turn ∷ of_file true turns) = ap (λ c. length (if c then turn ∷ of_file true turns else of_file true turns)) e in
        omega arith

-- no more than there are
pub are_few : (all : Bool → List Turn) (got : List Turn) → AreFirst all got → length got ≤ length (all false) + length (all true)
are_few all got first =
    let a : length (of_file false got) + length (first.rest false) ≡ length (all false) = sym (length-append (of_file false got) (first.rest false)) ∙ ap length (first.whole false) in
    let b : length (of_file true got) + length (first.rest true) ≡ length (all true) = sym (length-append (of_file true got) (first.rest true)) ∙ ap length (first.whole true) in
    let c = both_files got in
    omega arith

-- what was popped begins each file, with what was popped just now
pub popped_on : (all : Bool → List Turn) (got : List Turn) (turn : Turn) (v w : Role) → v ≡ pops_alone got → IsTaken all v turn w → AreFirst all (got ++ turn ∷ [])
popped_on all got turn v w is popped =
    subst (AreFirst all) (ap (λ (u : Role). u.got) popped.0 ∙ ap (λ (u : Role). u.got ++ turn ∷ []) is) popped.1

pub popped_by_all : (all : Bool → List Turn) (got : List Turn) (turn : Turn) (v w : Role) → v.got ≡ got → IsTaken all v turn w → AreFirst all (got ++ turn ∷ [])
popped_by_all all got turn v w is popped =
    subst (AreFirst all) (ap (λ (u : Role). u.got) popped.0 ∙ ap (λ (g : List Turn). g ++ turn ∷ []) is) popped.1

-- one record more came
offered_more : (came : List Came) (one : Came) → offered (came ++ one ∷ []) ≡ offered came ++ option_to_list (offer_of one)
offered_more came one = filter_map-append offer_of came (one ∷ []) ∙ ap (λ l. offered came ++ l) (alone (offer_of one) refl)
  where
    alone : (o : Option Offer) → offer_of one ≡ o → filter_map offer_of (one ∷ []) ≡ option_to_list (offer_of one)
    alone None e = rw e refl
    alone (Some x) e = rw e refl

all_both : (P : Offer → Type 0) (xs ys : List Offer) → AllByRecursion P xs → AllByRecursion P ys → AllByRecursion P (xs ++ ys)
all_both P [] ys all more = more
all_both P (x ∷ xs) ys all more = (all.0, all_both P xs ys all.1 more)

pub offered_on : (base was now : List Offer) (came : List Came) (one : Came) (all : List Came) → IsOffered base was came → now ≡ was ++ option_to_list (offer_of one) → AreAnswered (option_to_list (offer_of one)) → all ≡ came ++ one ∷ [] → IsOffered base now all
offered_on base was now came one all before made answered is =
    subst (IsOffered base now) (sym is) (
      made ∙ ap (λ l. l ++ option_to_list (offer_of one)) before.0 ∙ append_assoc base (offered came) (option_to_list (offer_of one))
          ∙ ap (λ l. base ++ l) (sym (offered_more came one)),
      subst AreAnswered (sym (offered_more came one)) (all_both _ (offered came) (option_to_list (offer_of one)) before.1 answered),
    )

-- what a writer tells, of the offers with one record's more
pub told_on : (Old New : List Offer → Type 0) (base : List Offer) (came : List Came) (one : Came) (all : List Came) → ((list : List Offer) → Old list → New (list ++ option_to_list (offer_of one))) → all ≡ came ++ one ∷ []
    → Old (base ++ offered came) → New (base ++ offered all)
told_on Old New base came one all goes is old =
    subst New (append_assoc base (offered came) (option_to_list (offer_of one)) ∙ ap (λ l. base ++ l) (sym (offered_more came one)) ∙ ap (λ l. base ++ offered l) (sym is)) (goes (base ++ offered came) old)

-- what a writer wrote while nothing came, while one record more did, and while more came and then more
module _ {S : Type 0} {test test' : Row → Bool} {was now : List Offer} {Old New : S → List Offer → Type 0} where
  pub nothing_written : {came : List Came} → test' ≡ test → now ≡ was → ((from : S) (list : List Offer) → Old from list → New from list) → HasWritten test test' was now Old New came came
  nothing_written {came} same kept still = record {
    takes = same;
    goes_on = λ base before. subst (λ offers. IsOffered base offers came) (sym kept) before;
    told = λ from base before. still from (base ++ offered came) before;
  }

  pub one_written : {came all : List Came} (one : Came) → test' ≡ test → now ≡ was ++ option_to_list (offer_of one) → AreAnswered (option_to_list (offer_of one)) → ((from : S) (list : List Offer) → Old from list → New from (list ++ option_to_list (offer_of one))) → all ≡ came ++ one ∷ [] → HasWritten test test' was now Old New came all
  one_written {came} {all} one same made answered told noted = record {
    takes = same;
    goes_on = λ base before. offered_on base was now came one all before made answered noted;
    told = λ from base before. told_on (Old from) (New from) base came one all (told from) noted before;
  }

pub written_on : {S : Type 0} {t0 t1 t2 : Row → Bool} {o0 o1 o2 : List Offer} {T0 T1 T2 : S → List Offer → Type 0} {c0 c1 c2 : List Came} → HasWritten t0 t1 o0 o1 T0 T1 c0 c1 → HasWritten t1 t2 o1 o2 T1 T2 c1 c2 → HasWritten t0 t2 o0 o2 T0 T2 c0 c2
written_on one other = record {
  takes = other.takes ∙ one.takes;
  goes_on = λ base before. other.goes_on base (one.goes_on base before);
  told = λ from base before. other.told from base (one.told from base before);
}

pub turns_on : (came : List Came) (one : Came) (turn : Turn) (all : List Came) → all ≡ came ++ one ∷ [] → turn_of one ≡ turn → turns all ≡ turns came ++ turn ∷ []
turns_on came one turn all is e = ap turns is ∙ map-append turn_of came (one ∷ []) ∙ ap (λ t. turns came ++ t ∷ []) e

pub few_came : (all : Bool → List Turn) (came : List Came) → AreFirst all (turns came) → length came ≤ length (all false) + length (all true)
few_came all came first = let few = are_few all (turns came) first in let same = length-map came turn_of in omega arith

pub nearer : (total old new : ℕ) → old < new → new ≤ total → total - new < total - old
nearer total old new less most = omega arith

-- ---- rounds

either_fed : (a b : Bool) (f f' s s' : ℕ) → MatchBool a (f' < f) (f' ≡ f) → MatchBool b (s' < s) (s' ≡ s) → MatchBool (if a then true else b) (f' + s' < f + s) (f' + s' ≡ f + s)
either_fed false false f f' s s' m n = omega arith
either_fed false true f f' s s' m n = omega arith
either_fed true false f f' s s' m n = omega arith
either_fed true true f f' s s' m n = omega arith

pub both_fed : {E : Type 0} (a b r : Result Bool E) (f f' s s' : ℕ) → r ≡ either_of a b → IfOk a (λ x. MatchBool x (f' < f) (f' ≡ f)) → IfOk b (λ x. MatchBool x (s' < s) (s' ≡ s))
    → IfOk r (λ x. MatchBool x (f' + s' < f + s) (f' + s' ≡ f + s))
both_fed {E = E} a b r f f' s s' e m n = subst (λ r. IfOk r (λ x. MatchBool x (f' + s' < f + s) (f' + s' ≡ f + s))) (sym e) (by a b m n)
  where
    by : (a b : Result Bool E) → IfOk a (λ x. MatchBool x (f' < f) (f' ≡ f)) → IfOk b (λ x. MatchBool x (s' < s) (s' ≡ s)) → IfOk (either_of a b) (λ x. MatchBool x (f' + s' < f + s) (f' + s' ≡ f + s))
    by (Err x) b m n = m
    by (Ok a) (Err x) m n = n
    by (Ok a) (Ok b) m n = either_fed a b f f' s s' m n

either_moved : (a b : Bool) (left left' : ℕ) (c c' : List Came) → MatchBool a (left' < left) (left' ≡ left) → MatchBool b (length c < length c') (c' ≡ c)
    → MatchBool (if a then true else b) (left' + length c < left + length c') ((left' ≡ left) × (c' ≡ c))
either_moved false false left left' c c' m n = (m, n)
either_moved false true left left' c c' m n = omega arith
either_moved true false left left' c c' m n = let l : length c' ≡ length c = ap length n in omega arith
either_moved true true left left' c c' m n = omega arith

pub both_moved : {E : Type 0} (a b r : Result Bool E) (left left' : ℕ) (c c' : List Came) → r ≡ either_of a b → IfOk a (λ x. MatchBool x (left' < left) (left' ≡ left)) → IfOk b (λ x. MatchBool x (length c < length c') (c' ≡ c))
    → IfOk r (λ x. MatchBool x (left' + length c < left + length c') ((left' ≡ left) × (c' ≡ c)))
both_moved {E = E} a b r left left' c c' e m n = subst (λ r. IfOk r (λ x. MatchBool x (left' + length c < left + length c') ((left' ≡ left) × (c' ≡ c)))) (sym e) (by a b m n)
  where
    by : (a b : Result Bool E) → IfOk a (λ x. MatchBool x (left' < left) (left' ≡ left)) → IfOk b (λ x. MatchBool x (length c < length c') (c' ≡ c))
        → IfOk (either_of a b) (λ x. MatchBool x (left' + length c < left + length c') ((left' ≡ left) × (c' ≡ c)))
    by (Err x) b m n = m
    by (Ok a) (Err x) m n = n
    by (Ok a) (Ok b) m n = either_moved a b left left' c c' m n

-- what holds where one of the two did not end early
pub on_one : {E : Type 0} (P : Type 0) (a b r : Result Bool E) → r ≡ either_of a b → OnOk a P → OnOk r P
on_one {E = E} P a b r e on = subst (λ r. OnOk r P) (sym e) (by a b on)
  where
    by : (a b : Result Bool E) → OnOk a P → OnOk (either_of a b) P
    by (Err x) b on = on
    by (Ok a) (Err x) on = tt
    by (Ok a) (Ok b) on = on

pub on_other : {E : Type 0} (P : Type 0) (a b r : Result Bool E) → r ≡ either_of a b → OnOk b P → OnOk r P
on_other {E = E} P a b r e on = subst (λ r. OnOk r P) (sym e) (by a b on)
  where
    by : (a b : Result Bool E) → OnOk b P → OnOk (either_of a b) P
    by (Err x) b on = tt
    by (Ok a) (Err x) on = on
    by (Ok a) (Ok b) on = on

pub still : (b : Bool) (A B : Type 0) → b ≡ false → MatchBool b A B → B
still b A B e m = subst (λ x. MatchBool x A B) e m

pub moved_on : (answer : Result Bool AllocError) (n0 n1 n2 : ℕ) (c0 c1 c2 : List Came) (P : Type 0) → (n1 ≡ n0) × (c1 ≡ c0)
    → IfOk answer (λ m. MatchBool m (n2 + length c1 < n1 + length c2) P) → IfOk answer (λ m. MatchBool m (n2 + length c0 < n0 + length c2) P)
moved_on (Err e) n0 n1 n2 c0 c1 c2 P same is = is
moved_on (Ok false) n0 n1 n2 c0 c1 c2 P same is = is
moved_on (Ok true) n0 n1 n2 c0 c1 c2 P same is = let l : length c1 ≡ length c0 = ap length same.1 in let k = same.0 in omega arith

pub nearer_loop : (on : Bool) (P : Type 0) (total n n' : ℕ) (c c' : List Came) → on ≡ true → MatchBool on (n' + length c < n + length c') P → length c' ≤ total → (n' + total) - length c' < (n + total) - length c
nearer_loop on P total n n' c c' e m few = let less : n' + length c < n + length c' = subst (λ x. MatchBool x (n' + length c < n + length c') P) e m in omega arith

pub offered_none : (offers : List Offer) (came : List Came) → came ≡ [] → IsOffered offers offers came
offered_none offers came none = subst (IsOffered offers offers) (sym none) (sym (append-nil offers), tt)

-- the readers' rights, taken from the pass that has them all
module _ (all : Bool → List Turn) (v : Role) (first second : List Turn) (way : IsUnderWay all v first second) where
  pub feeds_first : IsFeeding all false (alone false (put false v)) first
  feeds_first = record { own = refl; behind = way.one; of = way.of_one }

  pub feeds_second : IsFeeding all true (alone true (put true (without false v))) second
  feeds_second = record { own = refl; behind = way.other; of = way.of_other }

  pub left_alone : without true (without false v) ≡ pops_alone v.got
  left_alone = ap (λ (u : Role). without true (without false u)) way.own

  pub is_shared_so : is_shared v
  is_shared_so = (ap (λ (u : Role). u.first) way.own, ap (λ (u : Role). u.second) way.own, ap (λ (u : Role). u.pops) way.own)

-- and given back to it
pub are_back : (all : Bool → List Turn) (one other v : Role) (first second got : List Turn)
    → IsFeeding all false one first → IsFeeding all true other second → v ≡ pops_alone got → AreFirst all got
    → IsUnderWay all (given true (given false v (put false one)) (put true other)) first second
are_back all one other v first second got feeding too own popped =
    record {
      own = ap (λ (u : Role). given true (given false u (put false one)) (put true other)) own ∙ ap (λ (g : List Turn). whole (put false one) (put true other) g) (sym (ap (λ (u : Role). u.got) own));
      one = feeding.behind;
      other = too.behind;
      of_one = feeding.of;
      of_other = too.of;
      popped = subst (AreFirst all) (sym (ap (λ (u : Role). u.got) own)) popped;
    }

-- one record more is pushed, of the first file or of the second
module _ (all : Bool → List Turn) (v : Role) (turn : Turn) (first second : List Turn) where
  pub first_is_next : IsUnderWay all v (turn ∷ first) second → IsNext all v turn
  first_is_next way = subst (λ f. (more : List Turn) × (put f v ++ turn ∷ more ≡ all f)) (sym way.of_one.0) (first, way.one)

  pub second_is_next : IsUnderWay all v first (turn ∷ second) → IsNext all v turn
  second_is_next way = subst (λ f. (more : List Turn) × (put f v ++ turn ∷ more ≡ all f)) (sym way.of_other.0) (second, way.other)

  pub first_goes_on : IsUnderWay all v (turn ∷ first) second → (w : Role) → w ≡ sent_by turn.second v turn → IsUnderWay all w first second
  first_goes_on way w sent =
      let is : w ≡ sent_by false v turn = sent ∙ ap (λ f. sent_by f v turn) way.of_one.0 in
      subst (λ (u : Role). IsUnderWay all u first second) (sym is)
      (record {
        own = ap (λ (u : Role). sent_by false u turn) way.own;
        one = append_assoc (put false v) (turn ∷ []) first ∙ way.one;
        other = way.other;
        of_one = way.of_one.1;
        of_other = way.of_other;
        popped = way.popped;
      })

  pub second_goes_on : IsUnderWay all v first (turn ∷ second) → (w : Role) → w ≡ sent_by turn.second v turn → IsUnderWay all w first second
  second_goes_on way w sent =
      let is : w ≡ sent_by true v turn = sent ∙ ap (λ f. sent_by f v turn) way.of_other.0 in
      subst (λ (u : Role). IsUnderWay all u first second) (sym is)
      (record {
        own = ap (λ (u : Role). sent_by true u turn) way.own;
        one = way.one;
        other = append_assoc (put true v) (turn ∷ []) second ∙ way.other;
        of_one = way.of_one;
        of_other = way.of_other.1;
        popped = way.popped;
      })

  pub got_stays : (w : Role) → w ≡ sent_by turn.second v turn → w.got ≡ v.got
  got_stays w sent = ap (λ (u : Role). u.got) sent ∙ by turn.second
    where
      by : (file : Bool) → (sent_by file v turn).got ≡ v.got
      by false = refl
      by true = refl

-- where nothing is left of either file, and what was pushed was popped, all came
pub all_came : (all : Bool → List Turn) (v : Role) → IsUnderWay all v [] [] → IsEmptied v → AllCame all v.got
all_came all v way empty file = empty file ∙ whole_of file
  where
    whole_of : (f : Bool) → put f v ≡ all f
    whole_of false = sym (append-nil (put false v)) ∙ way.one
    whole_of true = sym (append-nil (put true v)) ∙ way.other

-- ---- the begin

pub nothing_came : (all : Bool → List Turn) (came : List Came) → came ≡ [] → AreFirst all (turns came)
nothing_came all came none = subst (λ (l : List Came). AreFirst all (turns l)) (sym none) (record { rest = all; whole = λ f. refl })

pub begun : (one other first second : List Turn) (v : Role) → v ≡ whole [] [] [] → first ≡ one → second ≡ other → IsOf false one → IsOf true other → IsUnderWay (each one other) v first second
begun one other first second v is a b of_one of_other =
    subst (λ (u : Role). IsUnderWay (each one other) u first second) (sym is)
    (record {
      own = refl;
      one = a;
      other = b;
      of_one = subst (IsOf false) (sym a) of_one;
      of_other = subst (IsOf true) (sym b) of_other;
      popped = record { rest = each one other; whole = λ f. refl };
    })

-- what was taken of a file is next
pub first_taken : (all : Bool → List Turn) (v : Role) (turn : Turn) (next : Option Turn) (P : Type 0) (old new second : List Turn) → next ≡ Some turn → MatchOption next P (λ t. old ≡ t ∷ new) → IsUnderWay all v old second → IsNext all v turn
first_taken all v turn next P old new second e taken way =
    first_is_next all v turn new second (subst (λ l. IsUnderWay all v l second) (subst (λ o. MatchOption o P (λ t. old ≡ t ∷ new)) e taken) way)

pub second_taken : (all : Bool → List Turn) (v : Role) (turn : Turn) (next : Option Turn) (P : Type 0) (old new first : List Turn) → next ≡ Some turn → MatchOption next P (λ t. old ≡ t ∷ new) → IsUnderWay all v first old → IsNext all v turn
second_taken all v turn next P old new first e taken way =
    second_is_next all v turn first new (subst (λ l. IsUnderWay all v first l) (subst (λ o. MatchOption o P (λ t. old ≡ t ∷ new)) e taken) way)
