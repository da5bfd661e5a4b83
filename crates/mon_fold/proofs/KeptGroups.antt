-- How the groups that a map keeps take a group more.
use Rattle.std.proofs.Common.{◌<◌, ◌↔◌, ℕ, drop, IsSome, OnOk, IsOk, Ok, Err, Result, append-nil, append_assoc}
use Rattle.std.proofs.Common.{option_to_list, arith, not, is_some, length, slice_get, IsNone, ◌≡◌, Bool, true, false}
use Rattle.std.proofs.Common.{cond, Option, Some, None, List, [], ◌∷◌, ◌++◌, IfSome, refl, sym, ap, subst, ◌∙◌}
use Rattle.std.specs.List.{AllByRecursion, IsDistinct}
use Rattle.std.specs.Map.{keys_of, lookup, set_value}
use Rattle.indexmap.specs.IndexMap.{IndexMap, get, insert_entry}
use Rattle.indexmap.proofs.CallerLemmas.{insert_entry-new}
use Rattle.mon_value.proofs.SameLemmas.{eq-same_row, same_row-Decides}
use Rattle.mon_value.specs.Same.{same_row}
use Rattle.mon_value.specs.contracts.tables.TimedRowPartialEq.TheImpl as derived
use Rattle.mon_value.specs.declared.tables.TimedRow.{TimedRow}
use Rattle.mon_fold.specs.declared.aggregate_parts.AggregatePart.{AggregatePart}
use Rattle.mon_fold.specs.PartialGroups.{CanMergeGroups, CanMergeParts, CanTakeGroup, merged_parts, new_to}
use Rattle.mon_fold.specs.PartialGroups.{PartialGroup, with_group}

abbrev pub derived_test : TimedRow → TimedRow → Bool
derived_test key = derived.eq-value.it key

same_test : (key : TimedRow) → derived_test key ≡ same_row key
same_test key = λ i other. eq-same_row key other i

-- what a look-up in the map finds is the group's parts
pub found_group : (key : TimedRow) (es : List PartialGroup) (r : Option (List AggregatePart))
    → r ≡ lookup (derived_test key) es → lookup (same_row key) es ≡ r
found_group key es r found = ap (λ (test : TimedRow → Bool). lookup test es) (sym (same_test key)) ∙ sym found

pub can_merge_found : (key : TimedRow) (parts kept : List AggregatePart) (es : List PartialGroup) → Some kept
    ≡ lookup (derived_test key) es → CanTakeGroup es (key, parts) → CanMergeParts kept parts
can_merge_found key parts kept es found can =
    subst (λ (r : Option (List AggregatePart)). IfSome r (λ held. CanMergeParts held parts))
    (found_group key es (Some kept) found) can

module _ (key : TimedRow) (parts : List AggregatePart) where
  put_at : (e : PartialGroup) (es rest : List PartialGroup) (old w : List AggregatePart) (b : Bool) → cond b (Some e.1)
      (lookup (same_row key) es) ≡ Some old → w ≡ merged_parts old parts
      → (lookup (same_row key) es ≡ Some old → rest ≡ with_group es (key, parts))
      → cond b ((e.0, w) ∷ es) (e ∷ rest) ≡ cond b ((e.0, merged_parts e.1 parts) ∷ es) (e ∷ with_group es (key, parts))
  put_at e es rest old w true found new ih =
      let first : e.1 ≡ old = cc in
      ap (λ made. (e.0, made) ∷ es) (new ∙ ap (λ held. merged_parts held parts) (sym first))
  put_at e es rest old w false found new ih = ap (λ more. e ∷ more) (ih found)

  pub put_same : (es : List PartialGroup) (old w : List AggregatePart) → lookup (same_row key) es ≡ Some old
      → w ≡ merged_parts old parts → set_value (same_row key) es w ≡ with_group es (key, parts)
  put_same [] old w found new = absurd cc
  put_same (e ∷ es) old w found new = put_at e es (set_value (same_row key) es w) old w (same_row key e.0) found new
      (λ f. put_same es old w f new)

  -- a group that is there
  pub put_there : (es : List PartialGroup) (old w : List AggregatePart) → Some old ≡ lookup (derived_test key) es
      → w ≡ merged_parts old parts → set_value (derived_test key) es w ≡ with_group es (key, parts)
  put_there es old w found new =
      ap (λ (test : TimedRow → Bool). set_value test es w) (same_test key) ∙ put_same es old w
      (found_group key es (Some old) found) new

  new_at : (e : PartialGroup) (es : List PartialGroup) (b : Bool) → cond b (Some e.1) (lookup (same_row key) es) ≡ None
      → (lookup (same_row key) es ≡ None → es ++ (key, parts) ∷ [] ≡ with_group es (key, parts))
      → e ∷ (es ++ (key, parts) ∷ []) ≡ cond b ((e.0, merged_parts e.1 parts) ∷ es) (e ∷ with_group es (key, parts))
  new_at e es true absent ih = absurd cc
  new_at e es false absent ih = ap (λ more. e ∷ more) (ih absent)

  pub new_same : (es : List PartialGroup) → lookup (same_row key) es ≡ None → es ++ (key, parts) ∷ [] ≡ with_group es
      (key, parts)
  new_same [] absent = refl
  new_same (e ∷ es) absent = new_at e es (same_row key e.0) absent (new_same es)

  -- a group that isn't there
  pub put_new : (es : List PartialGroup) → None ≡ lookup (derived_test key) es → es ++ (key, parts) ∷ []
      ≡ with_group es (key, parts)
  put_new es absent = new_same es (found_group key es None absent)

-- ---- groups of keys that differ

apart_back : (a b : TimedRow) (c : Bool) → same_row b a ≡ c → same_row a b ≡ false → c ≡ false
apart_back a b true same apart =
    let both : same_row a b ≡ true = (same_row-Decides a b).1 (sym ((same_row-Decides b a).0 same)) in
    absurd cc
apart_back a b false same apart = refl

among : (P : TimedRow → Type 0) (done : List PartialGroup) (group : PartialGroup) (rest : List PartialGroup)
    → AllByRecursion P (keys_of (done ++ group ∷ rest)) → P group.0
among P [] group rest all = all.0
among P (e ∷ done) group rest all = among P done group rest all.1

-- no group so far has the key of a later one
absent_so_far : (done : List PartialGroup) (group : PartialGroup) (rest : List PartialGroup) → IsDistinct same_row
    (keys_of (done ++ group ∷ rest)) → lookup (same_row group.0) done ≡ None
unfolding IsDistinct
absent_so_far [] group rest distinct = refl
absent_so_far (e ∷ done) group rest distinct =
    let apart = apart_back e.0 group.0 (same_row group.0 e.0) refl (among (λ other. same_row e.0 other ≡ false) done
    group rest distinct.0) in
    ap (λ b. cond b (Some e.1) (lookup (same_row group.0) done)) apart ∙ absent_so_far done group rest distinct.1

pub absent_from_map : (done : List PartialGroup) (group : PartialGroup) (rest all : List PartialGroup) → done
    ++ group ∷ rest ≡ all → IsDistinct same_row (keys_of all)
    → lookup (derived_test group.0) done ≡ None
absent_from_map done group rest all is distinct =
    ap (λ (test : TimedRow → Bool). lookup test done) (same_test group.0)
    ∙ absent_so_far done group rest (subst (λ groups. IsDistinct same_row (keys_of groups)) (sym is) distinct)

-- ---- groups that are new to others

-- a group more changes what is found of its own key alone
lookup_step : (k : TimedRow) (e g : PartialGroup) (gs : List PartialGroup) (b : Bool) → same_row g.0 e.0 ≡ b
    → same_row k g.0 ≡ false
    → lookup (same_row k) (with_group gs g) ≡ lookup (same_row k) gs
    → lookup (same_row k) (cond b ((e.0, merged_parts e.1 g.1) ∷ gs) (e ∷ with_group gs g)) ≡ lookup (same_row k)
    (e ∷ gs)
lookup_step k e g gs true is apart ih =
    let other : same_row k e.0 ≡ false = subst (λ (key : TimedRow). same_row k key ≡ false)
    ((same_row-Decides g.0 e.0).0 is) apart in
    ap (λ c. cond c (Some (merged_parts e.1 g.1)) (lookup (same_row k) gs)) other
    ∙ sym (ap (λ c. cond c (Some e.1) (lookup (same_row k) gs)) other)
lookup_step k e g gs false is apart ih = ap (λ found. cond (same_row k e.0) (Some e.1) found) ih

lookup_after : (k : TimedRow) (g : PartialGroup) (gs : List PartialGroup) → same_row k g.0 ≡ false
    → lookup (same_row k) (with_group gs g) ≡ lookup (same_row k) gs
lookup_after k g [] apart = ap (λ c. cond c (Some g.1) None) apart
lookup_after k g (e ∷ gs) apart = lookup_step k e g gs (same_row g.0 e.0) refl apart (lookup_after k g gs apart)

new_after_all : (g : PartialGroup) (gs rest : List PartialGroup) → AllByRecursion (λ other. same_row g.0 other ≡ false)
    (keys_of rest) → new_to (with_group gs g) rest ≡ new_to gs rest
new_after_all g gs [] all = refl
new_after_all g gs (o ∷ rest) all =
    let known = ap (λ found. is_some found) (lookup_after o.0 g gs (apart_back g.0 o.0 (same_row o.0 g.0) refl
    all.0)) in
    ap (λ b. cond (not b) (o ∷ new_to (with_group gs g) rest) (new_to (with_group gs g) rest)) known
    ∙ ap (λ more. cond (not (is_some (lookup (same_row o.0) gs))) (o ∷ more) more) (new_after_all g gs rest all.1)

-- a group more leaves those behind it new that were
pub new_after : (g : PartialGroup) (gs rest : List PartialGroup) → IsDistinct same_row (keys_of (g ∷ rest))
    → new_to (with_group gs g) rest ≡ new_to gs rest
unfolding IsDistinct
new_after g gs rest distinct = new_after_all g gs rest distinct.0

pub distinct_behind : (g : PartialGroup) (rest : List PartialGroup) → IsDistinct same_row (keys_of (g ∷ rest))
    → IsDistinct same_row (keys_of rest)
unfolding IsDistinct
distinct_behind g rest distinct = distinct.1

new_first_at : (g : PartialGroup) (more : List PartialGroup) (r : Option (List AggregatePart)) → IsNone r
    → slice_get (cond (not (is_some r)) (g ∷ more) more) 0 ≡ Some g
new_first_at g more None h = refl
new_first_at g more (Some w) h = absurd cc

-- the first of the groups that are new
pub new_first : (gs : List PartialGroup) (g : PartialGroup) (rest : List PartialGroup)
    → IsNone (lookup (same_row g.0) gs) → slice_get (new_to gs (g ∷ rest)) 0 ≡ Some g
new_first gs g rest h = new_first_at g (new_to gs rest) (lookup (same_row g.0) gs) h

new_left_at : (g : PartialGroup) (more : List PartialGroup) (b : Bool) → drop (length (cond (not b) (g ∷ []) []))
    (cond (not b) (g ∷ more) more) ≡ more
new_left_at g more true = refl
new_left_at g more false = refl

-- and those behind it
pub new_left : (gs : List PartialGroup) (g : PartialGroup) (rest : List PartialGroup)
    → drop (length (new_to gs (g ∷ []))) (new_to gs (g ∷ rest)) ≡ new_to gs rest
new_left gs g rest = new_left_at g (new_to gs rest) (is_some (lookup (same_row g.0) gs))

pub distinct_kept : (es : List PartialGroup) → IsDistinct derived.eq-value.it (keys_of es) → IsDistinct same_row
    (keys_of es)
distinct_kept es distinct =
    let alike : derived.eq-value.it ≡ same_row = λ i a b. eq-same_row a b i in
    subst (λ (eq : TimedRow → TimedRow → Bool). IsDistinct eq (keys_of es)) alike distinct

known_is : (key : TimedRow) (es : List PartialGroup) → is_some (lookup (derived_test key) es)
    ≡ is_some (lookup (same_row key) es)
known_is key es = ap (λ (test : TimedRow → Bool). is_some (lookup test es)) (same_test key)

-- ---- groups that can be merged

can_take_after : (g : PartialGroup) (gs rest : List PartialGroup) → AllByRecursion (λ other. same_row g.0 other
    ≡ false) (keys_of rest) → AllByRecursion (CanTakeGroup gs) rest
    → AllByRecursion (CanTakeGroup (with_group gs g)) rest
can_take_after g gs [] apart all = tt
can_take_after g gs (o ∷ rest) apart all =
    let alike = lookup_after o.0 g gs (apart_back g.0 o.0 (same_row o.0 g.0) refl apart.0) in (
      subst (λ (found : Option (List AggregatePart)). IfSome found (λ held. CanMergeParts held o.1)) (sym alike) all.0,
      can_take_after g gs rest apart.1 all.1,
    )

-- groups of keys that differ can be merged where each can
pub can_merge_apart : (gs rest : List PartialGroup) → IsDistinct same_row (keys_of rest)
    → AllByRecursion (CanTakeGroup gs) rest → CanMergeGroups gs rest
unfolding IsDistinct
can_merge_apart gs [] distinct all = tt
can_merge_apart gs (g ∷ rest) distinct all =
    (all.0, can_merge_apart (with_group gs g) rest distinct.1 (can_take_after g gs rest distinct.0 all.1))

-- a list with the group, where it is new to the groups
pub with_none : (g : PartialGroup) (gs old : List PartialGroup) → is_some (lookup (derived_test g.0) gs) ≡ true → old
    ≡ old ++ new_to gs (g ∷ [])
with_none g gs old known = sym (append-nil old) ∙ ap (λ b. old ++ cond (not b) (g ∷ []) [])
    (sym known ∙ known_is g.0 gs)

pub with_one : (g : PartialGroup) (gs old : List PartialGroup) → is_some (lookup (derived_test g.0) gs) ≡ false → old
    ++ g ∷ [] ≡ old ++ new_to gs (g ∷ [])
with_one g gs old known = ap (λ b. old ++ cond (not b) (g ∷ []) []) (sym known ∙ known_is g.0 gs)

-- the copy that is taken for a group that is new
first_taken : (r : Option PartialGroup) (items rest : List PartialGroup) (n : ℕ) (g : PartialGroup) → items
    ≡ option_to_list r ++ rest → IsSome r ↔ (0 < n) → n ≡ length items → slice_get items 0 ≡ Some g → r ≡ Some g
first_taken None [] rest n g is some count first = absurd cc
first_taken None (x ∷ items) rest n g is some count first = let there = some.1 (omega arith) in absurd cc
first_taken (Some x) items rest n g is some count first = sym (ap (λ xs. slice_get xs 0) is) ∙ first

some_there : (items : List PartialGroup) (g : PartialGroup) → slice_get items 0 ≡ Some g → 0 < length items
some_there [] g first = absurd cc
some_there (x ∷ items) g first = omega arith

-- the copy that is next is the group's, where no group has its key
pub copy_next : (g : PartialGroup) (es : List PartialGroup) (r : Option PartialGroup) (items rest : List PartialGroup)
    (n : ℕ) → None ≡ lookup (derived_test g.0) es
    → (IsNone (lookup (same_row g.0) es) → slice_get items 0 ≡ Some g) → items ≡ option_to_list r ++ rest
    → IsSome r ↔ (0 < n) → n ≡ length items
    → (lookup (same_row g.0) es ≡ None) × (r ≡ Some g) × (0 < length items)
copy_next g es r items rest n none next is some count =
    let absent = found_group g.0 es None none in
    let first = next (subst (λ (s : Option (List AggregatePart)). IsNone s) (sym absent) refl) in
    (absent, first_taken r items rest n g is some count first, some_there items g first)

left_at : (r : Option (List AggregatePart)) (g : PartialGroup) (items rest : List PartialGroup) → r ≡ None → items
    ≡ g ∷ rest → rest ≡ drop (length (cond (not (is_some r)) (g ∷ []) [])) items
left_at None g items rest absent is = ap (drop 1) (sym is)
left_at (Some w) g items rest absent is = absurd cc

pub left_behind : (gs : List PartialGroup) (g : PartialGroup) (r : Option PartialGroup)
    (items rest : List PartialGroup) → lookup (same_row g.0) gs ≡ None → items ≡ option_to_list r ++ rest → r ≡ Some g
    → rest ≡ drop (length (new_to gs (g ∷ []))) items
left_behind gs g r items rest absent is first =
    left_at (lookup (same_row g.0) gs) g items rest absent
    (is ∙ ap (λ (taken : Option PartialGroup). option_to_list taken ++ rest) first)

-- ---- an entry more

pub from_ok : {T E : Type 0} {P : Type 0} (r : Result T E) → OnOk r P → IsOk r → P
from_ok (Ok x) holds ok = holds
from_ok (Err e) holds ok = absurd cc

pub absent_by_test : (key : TimedRow) (es : List PartialGroup) → lookup (same_row key) es ≡ None
    → lookup (derived_test key) es ≡ None
absent_by_test key es absent = ap (λ (test : TimedRow → Bool). lookup test es) (same_test key) ∙ absent

module _ {S : Type 0} (m : IndexMap TimedRow (List AggregatePart) S) where
  -- the entries of a map, copied one by one into another
  pub copy_put : (row key : TimedRow) (made parts : List AggregatePart) (rest all new : List PartialGroup) → row ≡ key
      → made ≡ parts → new ≡ insert_entry derived.eq-value.it m.entries row made
      → m.entries ++ (key, parts) ∷ rest ≡ all → IsDistinct same_row (keys_of all) → new ++ rest ≡ all
  copy_put row key made parts rest all new row_is made_is is whole distinct =
      let none : get derived.eq-value.it m key ≡ None = absent_from_map m.entries (key, parts) rest all whole
      distinct in
      let put : new ≡ m.entries ++ (key, parts) ∷ [] =
      is ∙ (λ i. insert_entry derived.eq-value.it m.entries (row_is i) (made_is i)) ∙ insert_entry-new
      derived.eq-value.it m key parts none in
      ap (λ es. es ++ rest) put ∙ append_assoc m.entries ((key, parts) ∷ []) rest ∙ whole
