-- Each move at the queue keeps its rule.
use Rattle.std.proofs.Common.{◌≡◌, ◌≢◌, ◌⊎◌, inl, inr, ℕ, zero, suc, Bool, true, false, not, true≢false, List, [], ◌∷◌, ◌++◌, length, set, sym, refl, ap, ◌∙◌, subst, suc-ne-zero, arith, length-append, ◌<◌, ⊎_elim, append_assoc, filter, if◌then◌else◌, Option, Some, None, MatchOption}
use Rattle.std.proofs.lemmas.List.{append-nil}
use Rattle.std.proofs.lemmas.List.Elements.{filter-append}
use mathlib.Core.Option.{some, some-ne-none}
use lib.ListN.{get_elem?}
use Rattle.crossbeam_queue.specs.Fifo.{Pushes, Pops, Forks, Merges, Learns, Held}
use Rattle.crossbeam_queue.proofs.Lists.{at_set, at_snoc}
use Rattle.ingest_queue.specs.declared.roles.Role.{Role}
use Rattle.ingest_queue.specs.declared.turns.Turn.{Turn}
use Rattle.ingest_queue.specs.Roles.{Fits, IsEmptied, IsHeld, IsNext, IsInOrder, IsTaken, alone, given, is_of, is_shared, may, of_file, put, sent_by, spent, taken, whole, without}

-- a function of a file, changed at one file
abbrev pub at_file : {A : Type 0} → Bool → A → (Bool → A) → Bool → A
at_file false a f false = a
at_file false a f true = f true
at_file true a f false = f false
at_file true a f true = a

at_same : {A : Type 0} (file f : Bool) (a b : A) (g h : Bool → A) → a ≡ b → g f ≡ h f → at_file file a g f ≡ at_file file b h f
at_same false false a b g h e d = e
at_same false true a b g h e d = d
at_same true false a b g h e d = d
at_same true true a b g h e d = e

at_other : {A : Type 0} (file f : Bool) (a : A) (g : Bool → A) → (f ≡ file → ⊥) → at_file file a g f ≡ g f
at_other false false a g n = absurd (n refl)
at_other false true a g n = refl
at_other true false a g n = refl
at_other true true a g n = absurd (n refl)

at_here : {A : Type 0} (file f : Bool) (a : A) (g : Bool → A) → f ≡ file → at_file file a g f ≡ a
at_here false false a g e = refl
at_here false true a g e = absurd (true≢false e)
at_here true false a g e = absurd (true≢false (sym e))
at_here true true a g e = refl

of_one : (test : Turn → Bool) (turn : Turn) (b : Bool) → test turn ≡ b → filter test (turn ∷ []) ≡ (if b then turn ∷ [] else [])
of_one test turn b e = ap (λ c. if c then turn ∷ [] else []) e

-- a record more counts for its own file
pub of_more : (file f : Bool) (list : List Turn) (turn : Turn) → turn.second ≡ file
    → of_file f (list ++ turn ∷ []) ≡ at_file file (of_file file list ++ turn ∷ []) (λ c. of_file c list) f
of_more false false list turn e = filter-append (is_of false) list (turn ∷ []) ∙ ap (λ l. of_file false list ++ l) (of_one (is_of false) turn true (ap not e))
of_more false true list turn e = filter-append (is_of true) list (turn ∷ []) ∙ ap (λ l. of_file true list ++ l) (of_one (is_of true) turn false e) ∙ append-nil (of_file true list)
of_more true false list turn e = filter-append (is_of false) list (turn ∷ []) ∙ ap (λ l. of_file false list ++ l) (of_one (is_of false) turn false (ap not e)) ∙ append-nil (of_file false list)
of_more true true list turn e = filter-append (is_of true) list (turn ∷ []) ∙ ap (λ l. of_file true list ++ l) (of_one (is_of true) turn true e)

put_sent : (file f : Bool) (v : Role) (turn : Turn) → put f (sent_by file v turn) ≡ at_file file (put file v ++ turn ∷ []) (λ c. put c v) f
put_sent false false v turn = refl
put_sent false true v turn = refl
put_sent true false v turn = refl
put_sent true true v turn = refl

may_sent : (file f : Bool) (v : Role) (turn : Turn) → may f (sent_by file v turn) ≡ may f v
may_sent false false v turn = refl
may_sent false true v turn = refl
may_sent true false v turn = refl
may_sent true true v turn = refl

pops_sent : (file : Bool) (v : Role) (turn : Turn) → ((sent_by file v turn).pops ≡ v.pops) × ((sent_by file v turn).got ≡ v.got)
pops_sent false v turn = (refl, refl)
pops_sent true v turn = (refl, refl)

may_without : (file f : Bool) (v : Role) → may f (without file v) ≡ true → (f ≡ file → ⊥) × (may f v ≡ true) × (put f (without file v) ≡ put f v)
may_without false false v e = absurd (true≢false (sym e))
may_without false true v e = ((λ same. true≢false same), e, refl)
may_without true false v e = ((λ same. true≢false (sym same)), e, refl)
may_without true true v e = absurd (true≢false (sym e))

pops_without : (file : Bool) (v : Role) → ((without file v).pops ≡ v.pops) × ((without file v).got ≡ v.got)
pops_without false v = (refl, refl)
pops_without true v = (refl, refl)

may_alone : (file f : Bool) (all : List Turn) → may f (alone file all) ≡ true → (f ≡ file) × (put f (alone file all) ≡ all)
may_alone false false all e = (refl, refl)
may_alone false true all e = absurd (true≢false (sym e))
may_alone true false all e = absurd (true≢false (sym e))
may_alone true true all e = (refl, refl)

pops_alone : (file : Bool) (all : List Turn) → (alone file all).pops ≡ false
pops_alone false all = refl
pops_alone true all = refl

may_given : (file f : Bool) (v : Role) (all : List Turn) → may f (given file v all) ≡ true
    → ((f ≡ file) × (put f (given file v all) ≡ all)) ⊎ ((f ≡ file → ⊥) × (may f v ≡ true) × (put f (given file v all) ≡ put f v))
may_given false false v all e = inl (refl, refl)
may_given false true v all e = inr ((λ same. true≢false same), e, refl)
may_given true false v all e = inr ((λ same. true≢false (sym same)), e, refl)
may_given true true v all e = inl (refl, refl)

pops_given : (file : Bool) (v : Role) (all : List Turn) → ((given file v all).pops ≡ v.pops) × ((given file v all).got ≡ v.got)
pops_given false v all = (refl, refl)
pops_given true v all = (refl, refl)

pub shared_may : (file : Bool) (v : Role) → is_shared v → may file v ≡ true
shared_may false v s = s.0
shared_may true v s = s.1

at_end : (l : List Role) (a b : Role) (j : ℕ) → get_elem? l j ≢ some b → get_elem? (l ++ a ∷ []) j ≡ some b → j ≡ length l
at_end [] a b zero n e = refl
at_end [] a b (suc j) n e = absurd (some-ne-none b (sym e))
at_end (x ∷ xs) a b zero n e = absurd (n e)
at_end (x ∷ xs) a b (suc j) n e = ap suc (at_end xs a b j n e)

abbrev All : (ℕ → Role → Type 0) → List Role → Type 0
All F views = (port : ℕ) (v : Role) → get_elem? views port ≡ some v → F port v

all_set : (F : ℕ → Role → Type 0) (views : List Role) (port : ℕ) (w : Role) → F port w → ((j : ℕ) (u : Role) → j ≢ port → get_elem? views j ≡ some u → F j u) → All F (set views port w)
all_set F views port w mine others j u e = ⊎_elim (λ (x : (j ≡ port) × (w ≡ u)). subst (λ (y : ℕ × Role). F y.0 y.1) (λ i. (sym x.0 i, x.1 i)) mine)
    (λ (x : (j ≢ port) × (get_elem? views j ≡ some u)). others j u x.0 x.1) (at_set views port j w u e)

pub begins : (all : Bool → List Turn) → IsInOrder all [] (whole [] [] [] ∷ [])
begins all = (
  λ _. 0,
  0,
  λ _. [],
  [],
  all,
  λ f. refl,
  λ f. refl,
  all_set (Fits (λ _. 0) 0 (λ _. []) []) (whole [] [] [] ∷ []) 0 (whole [] [] [])
      ((λ f may_push. (refl, none_put f)), λ _. (refl, refl)) (λ j u other e. absurd (other (at_end [] _ u j (λ x. some-ne-none u (sym x)) e))),
)
  where
    none_put : (f : Bool) → put f (whole [] [] []) ≡ []
    none_put false = refl
    none_put true = refl

front_more : (file f : Bool) (sent rest all : Bool → List Turn) (turn : Turn) (more : List Turn) → sent file ++ turn ∷ more ≡ all file → sent f ++ rest f ≡ all f
    → at_file file (sent file ++ turn ∷ []) sent f ++ at_file file more rest f ≡ all f
front_more false false sent rest all turn more e d = append_assoc (sent false) (turn ∷ []) more ∙ e
front_more false true sent rest all turn more e d = d
front_more true false sent rest all turn more e d = d
front_more true true sent rest all turn more e d = append_assoc (sent true) (turn ∷ []) more ∙ e

pub sends : (all : Bool → List Turn) (n port : ℕ) (v : Role) (turn : Turn) → may turn.second v ≡ true → IsNext all v turn → Pushes (IsInOrder all) n port v turn (λ w. w ≡ sent_by turn.second v turn)
sends all n port v turn can next items views room h at =
    let file : Bool = turn.second in
    let w : Role = sent_by file v turn in
    let mine = h.7 port v at in
    let my = mine.0 file can in
    let sent : Bool → List Turn = at_file file (h.2 file ++ turn ∷ []) h.2 in (
      w,
      (
        h.0,
        h.1,
        sent,
        h.3,
        at_file file next.0 h.4,
        (λ f. ap (of_file f) (sym (append_assoc h.3 items (turn ∷ []))) ∙ of_more file f (h.3 ++ items) turn refl
            ∙ at_same file f (of_file file (h.3 ++ items) ++ turn ∷ []) (h.2 file ++ turn ∷ []) (λ c. of_file c (h.3 ++ items)) h.2 (ap (λ l. l ++ turn ∷ []) (h.5 file)) (h.5 f)),
        (λ f. front_more file f h.2 h.4 all turn next.0 (ap (λ l. l ++ turn ∷ next.0) (sym my.1) ∙ next.1) (h.6 f)),
        all_set (Fits h.0 h.1 sent h.3) views port w (
          (λ f may_push. let old : may f v ≡ true = sym (may_sent file f v turn) ∙ may_push in
              ((mine.0 f old).0, put_sent file f v turn ∙ at_same file f (put file v ++ turn ∷ []) (h.2 file ++ turn ∷ []) (λ c. put c v) h.2 (ap (λ l. l ++ turn ∷ []) my.1) (mine.0 f old).1)),
          λ may_pop. let got = mine.1 (sym (pops_sent file v turn).0 ∙ may_pop) in (got.0, (pops_sent file v turn).1 ∙ got.1),
        )
            (λ j u other e. (
              (λ f may_push. let theirs = (h.7 j u e).0 f may_push in
                  (theirs.0, theirs.1 ∙ sym (at_other file f (h.2 file ++ turn ∷ []) h.2 (λ same. other (theirs.0 ∙ ap h.0 same ∙ sym my.0))))),
              (h.7 j u e).1,
            )),
      ),
      refl,
    )

pub gets : (all : Bool → List Turn) (port : ℕ) (v : Role) → v.pops ≡ true → Pops (IsInOrder all) port v (IsTaken all v)
gets all port v can turn items views h at =
    let w : Role = taken v turn in
    let mine = h.7 port v at in
    let my = mine.1 can in
    let got : List Turn = h.3 ++ turn ∷ [] in (
      w,
      (
        h.0,
        h.1,
        h.2,
        got,
        h.4,
        (λ f. ap (of_file f) (append_assoc h.3 (turn ∷ []) items) ∙ h.5 f),
        h.6,
        all_set (Fits h.0 h.1 h.2 got) views port w
            ((λ f may_push. mine_put f may_push mine.0), λ _. (my.0, ap (λ l. l ++ turn ∷ []) my.1))
            (λ j u other e. ((h.7 j u e).0, λ may_pop. absurd (other (((h.7 j u e).1 may_pop).0 ∙ sym my.0)))),
      ),
      (
        refl,
        record {
          rest = λ f. of_file f items ++ h.4 f;
          whole = λ f. ap (λ (g : List Turn). of_file f (g ++ turn ∷ []) ++ (of_file f items ++ h.4 f)) my.1
              ∙ sym (append_assoc (of_file f got) (of_file f items) (h.4 f))
              ∙ ap (λ l. l ++ h.4 f) (sym (filter-append (is_of f) got items) ∙ ap (of_file f) (append_assoc h.3 (turn ∷ []) items) ∙ h.5 f)
              ∙ h.6 f;
        },
      ),
    )
  where
    mine_put : {P : ℕ} {S : Bool → ℕ} {T : Bool → List Turn} (f : Bool) → may f (taken v turn) ≡ true → ((c : Bool) → may c v ≡ true → (P ≡ S c) × (put c v ≡ T c)) → (P ≡ S f) × (put f (taken v turn) ≡ T f)
    mine_put false e each = each false e
    mine_put true e each = each true e

pub forks : (all : Bool → List Turn) (port : ℕ) (v : Role) (file : Bool) → may file v ≡ true → Forks (IsInOrder all) port v (without file v) (alone file (put file v))
forks all port v file can items views h at =
    let l : Role = without file v in
    let r : Role = alone file (put file v) in
    let mine = h.7 port v at in
    let my = mine.0 file can in
    let vs : List Role = set views port l in
    let Old : ℕ → Role → Type 0 = λ j u. ((f : Bool) → may f u ≡ true → (f ≡ file → ⊥) × (j ≡ h.0 f) × (put f u ≡ h.2 f)) × (u.pops ≡ true → (j ≡ h.1) × (u.got ≡ h.3)) in
    let old : All Old vs = all_set Old views port l (
      (λ f may_push. let kept = may_without file f v may_push in (kept.0, (mine.0 f kept.1).0, kept.2 ∙ (mine.0 f kept.1).1)),
      λ may_pop. let got = mine.1 (sym (pops_without file v).0 ∙ may_pop) in (got.0, (pops_without file v).1 ∙ got.1),
    )
    (λ j u other e. ((λ f may_push. let theirs = (h.7 j u e).0 f may_push in ((λ same. other (theirs.0 ∙ ap h.0 same ∙ sym my.0)), theirs.0, theirs.1)), (h.7 j u e).1)) in
    let seat : Bool → ℕ = at_file file (length vs) h.0 in (
      seat,
      h.1,
      h.2,
      h.3,
      h.4,
      h.5,
      h.6,
      λ j u e. ⊎_elim
          (λ (x : get_elem? vs j ≡ some u). ((λ f may_push. let was = (old j u x).0 f may_push in (was.1 ∙ sym (at_other file f (length vs) h.0 was.0), was.2)), (old j u x).1))
          (λ (is : r ≡ u). (
            (λ f may_push.
                let here = may_alone file f (put file v) (ap (may f) is ∙ may_push) in (
                  at_end vs r u j (λ x. ((old j u x).0 f may_push).0 here.0) e ∙ sym (at_here file f (length vs) h.0 here.0),
                  ap (put f) (sym is) ∙ here.1 ∙ my.1 ∙ ap h.2 (sym here.0),
                )),
            λ may_pop. absurd (true≢false (sym may_pop ∙ ap (λ (y : Role). y.pops) (sym is) ∙ pops_alone file (put file v))),
          ))
          (at_snoc vs r u j e),
    )

pub merges : (all : Bool → List Turn) (port : ℕ) (v : Role) (other : ℕ) (u : Role) (file : Bool) → may file u ≡ true → Merges (IsInOrder all) port v other u (given file v (put file u)) spent
merges all port v other u file can items views h at apart at' =
    let both : Role = given file v (put file u) in
    let mine = h.7 port v at in
    let vs : List Role = set views port both in
    let was : get_elem? views other ≡ some u = ⊎_elim (λ x. absurd (apart x.0)) (λ x. x.1) (at_set views port other both u at') in
    let theirs = (h.7 other u was).0 file can in
    let seat : Bool → ℕ = at_file file port h.0 in
    let Now : ℕ → Role → Type 0 = λ j y. j ≢ other → Fits seat h.1 h.2 h.3 j y in
    let now : All Now vs = all_set Now views port both
    (λ _. (
      (λ f may_push. ⊎_elim
          (λ (x : (f ≡ file) × (put f both ≡ put file u)). (sym (at_here file f port h.0 x.0), x.1 ∙ theirs.1 ∙ ap h.2 (sym x.0)))
          (λ (x : (f ≡ file → ⊥) × (may f v ≡ true) × (put f both ≡ put f v)). ((mine.0 f x.1).0 ∙ sym (at_other file f port h.0 x.0), x.2 ∙ (mine.0 f x.1).1))
          (may_given file f v (put file u) may_push)),
      λ may_pop. let got = mine.1 (sym (pops_given file v (put file u)).0 ∙ may_pop) in (got.0, (pops_given file v (put file u)).1 ∙ got.1),
    ))
    (λ j y _ e away. (
      (λ f may_push. let own = (h.7 j y e).0 f may_push in
          (own.0 ∙ sym (at_other file f port h.0 (λ same. away (own.0 ∙ ap h.0 same ∙ sym theirs.0))), own.1)),
      (h.7 j y e).1,
    )) in (
      seat,
      h.1,
      h.2,
      h.3,
      h.4,
      h.5,
      h.6,
      all_set (Fits seat h.1 h.2 h.3) vs other spent
          ((λ f may_push. absurd (true≢false (sym may_push ∙ spent_may f))), λ may_pop. absurd (true≢false (sym may_pop)))
          (λ j y away e. now j y e away),
    )
  where
    spent_may : (f : Bool) → may f spent ≡ false
    spent_may false = refl
    spent_may true = refl

pub learns : (all : Bool → List Turn) (port : ℕ) (v : Role) → is_shared v → Learns (IsInOrder all) port v (IsHeld v)
learns all port v shared items views h at = λ f.
    let mine = h.7 port v at in
    ap (λ (g : List Turn). of_file f (g ++ items)) (mine.1 shared.2).1 ∙ h.5 f ∙ sym (mine.0 f (shared_may f v shared)).1

-- where the queue holds nothing, what was pushed was popped
pub emptied : (v : Role) (items : List Turn) → length items ≡ 0 → IsHeld v items → IsEmptied v
emptied v [] none held f = ap (of_file f) (sym (append-nil v.got)) ∙ held f
emptied v (x ∷ xs) none held f = absurd (suc-ne-zero (length xs) none)

-- a list that ends where it began
same_front : (xs ys : List Turn) → xs ++ ys ≡ xs → length ys ≡ 0
same_front xs ys e = let l : length (xs ++ ys) ≡ length xs = ap length e in let s = length-append xs ys in omega arith

none_of : (turn : Turn) (turns : List Turn) → ((f : Bool) → length (of_file f (turn ∷ turns)) ≡ 0) → ⊥
none_of turn turns none = by turn.second refl
  where
    by : (b : Bool) → turn.second ≡ b → ⊥
    by false e = suc-ne-zero _ (ap (λ c. length (if c then turn ∷ of_file false turns else of_file false turns)) (sym (ap not e)) ∙ none false)
    by true e = suc-ne-zero _ (ap (λ c. length (if c then turn ∷ of_file true turns else of_file true turns)) (sym e) ∙ none true)

-- where what was pushed was popped, the queue holds nothing
pub none_held : (v : Role) (items : List Turn) → IsHeld v items → IsEmptied v → length items ≡ 0
none_held v [] held empty = refl
none_held v (x ∷ xs) held empty =
    absurd (none_of x xs (λ f. same_front (of_file f v.got) (of_file f (x ∷ xs)) (sym (filter-append (is_of f) v.got (x ∷ xs)) ∙ held f ∙ sym (empty f))))

pub never_full : (v : Role) (room : ℕ) → 0 < room → IsEmptied v → Held room (IsHeld v) → ⊥
never_full v room above empty held = let none = none_held v held.0 held.2 empty in let full = held.1 in absurd (omega arith)

-- what an empty answer tells
pub none_tells : {A : Type 0} (answer : Option A) (P Q : Type 0) (R : A → Type 0) → (P → Q) → MatchOption answer P R → MatchOption answer Q R
none_tells None P Q R f m = f m
none_tells (Some x) P Q R f m = m
