-- Texts that stand once, and the names of the columns of each operation.
use Rattle.std.proofs.Common.{◌≡◌, ◌∙◌, ◌||◌, ℕ, Bool, true, false, not, cond, Option, Some, None, List, [], ◌∷◌}
use Rattle.std.proofs.Common.{◌++◌, map, filter, refl, sym, ap, subst}
use Rattle.std.specs.Prelude.{option_map, unwrap_or}
use Rattle.std.specs.List.{AllByRecursion, cons_option, filter_map}
use Rattle.std.proofs.lemmas.Bool.{or_from, or_parts}
use Rattle.std.proofs.lemmas.List.{map-append}
use Rattle.mon_value.specs.Same.{same_text}
use Rattle.mon_value.specs.Tables.{column_names, has_name, right_columns}
use Rattle.mon_value.specs.declared.columns.Column.{Column}
use Rattle.mon_value.proofs.PlainLemmas.{nothing_is, same_item}
use Rattle.mon_value.proofs.SameLemmas.{same_text-Decides}
use Rattle.mon_schema.specs.Faults.{texts_repeat}
use Rattle.mon_schema.specs.Names.{SchemaLists}
use Rattle.mql_ast.specs.Rows.{column_named}
use Rattle.mql_ast.specs.Trees.{ItemTree, SumTree}
use Rattle.mql_ast.specs.declared.names.Name.{Name}
use Rattle.mql_ast.specs.declared.operations.Aggregate.{Aggregate}
use Rattle.mql_ast.specs.declared.operations.FoldWord.{FoldWord}
use Rattle.typed_trees.specs.Branches.{anchored_with, as_joined, join_columns, left_column, union_columns}
use Rattle.typed_trees.specs.Groupings.{aggregate_column, aggregate_columns, aggregate_name, aggregated_column}
use Rattle.typed_trees.specs.Groupings.{folded_column}
use Rattle.typed_trees.specs.Items.{column_alone, is_taken, item_column, item_name, key_columns, name_texts}
use Rattle.typed_trees.specs.Items.{renamed_column, sum_column, sum_width, taken_faults, with_name, with_names}
use Rattle.typed_trees.specs.Typing.{aligned_column, aligned_width}
use Rattle.typed_trees.specs.Branches.{with_width}
use Rattle.typed_trees.proofs.FetchColumnLemmas.{both_none}
use Rattle.typed_rows.proofs.TypedGridLemmas.{no_test}
use Rattle.mon_value.specs.declared.aligners.Aligner.{Aligner}

-- each text stands once
abbrev pub Once : List (List ℕ) → Type 0
Once [] = Unit {0}
Once (text ∷ texts) = (is_taken text texts ≡ false) × Once texts

-- texts that stand in this order among others
pub data Among : List (List ℕ) → List (List ℕ) → Type 0 where
  none : {texts : List (List ℕ)} → Among [] texts
  keep : {text : List ℕ} {some texts : List (List ℕ)} → Among some texts → Among (text ∷ some) (text ∷ texts)
  skip : {text : List ℕ} {some texts : List (List ℕ)} → Among some texts → Among some (text ∷ texts)

none_among : (text : List ℕ) {some texts : List (List ℕ)} → Among some texts → is_taken text texts ≡ false
    → is_taken text some ≡ false
none_among text none e = refl
none_among text (keep {text = first} {some = some} {texts = texts} among) e =
    let parts = or_parts (same_text text first) (is_taken text texts) e in
    or_from (same_text text first) (is_taken text some) parts.0 (none_among text among parts.1)
none_among text (skip {text = first} {some = some} {texts = texts} among) e =
    none_among text among (or_parts (same_text text first) (is_taken text texts) e).1

once_in : {some texts : List (List ℕ)} → Among some texts → Once texts → Once some
once_in none once = tt
once_in (keep {text = first} {some = some} {texts = texts} among) once =
    (none_among first among once.0, once_in among once.1)
once_in (skip {text = first} {some = some} {texts = texts} among) once = once_in among once.1

pub once_among : (some texts : List (List ℕ)) → Among some texts → Once texts → Once some
once_among some texts among once = once_in among once

none_before : (texts more others : List (List ℕ)) → Among more others → Among more (texts ++ others)
none_before [] more others second = second
none_before (text ∷ texts) more others second = skip (none_before texts more others second)

in_append : {some texts : List (List ℕ)} (more others : List (List ℕ)) → Among some texts → Among more others
    → Among (some ++ more) (texts ++ others)
in_append more others (none {texts = texts}) second = none_before texts more others second
in_append more others (keep {text = first} {some = some} {texts = texts} among) second =
    keep (in_append more others among second)
in_append more others (skip {text = first} {some = some} {texts = texts} among) second =
    skip (in_append more others among second)

pub among_append : (some texts more others : List (List ℕ)) → Among some texts → Among more others
    → Among (some ++ more) (texts ++ others)
among_append some texts more others among second = in_append more others among second

pub all_among : (texts : List (List ℕ)) → Among texts texts
all_among [] = none
all_among (text ∷ texts) = keep (all_among texts)

-- ---- columns

pub any_names : (text : List ℕ) (columns : List Column) → is_taken text (column_names columns) ≡ has_name text columns
any_names text [] = refl
any_names text (c ∷ cs) = ap (λ b. same_text text c.name || b) (any_names text cs)

pub once_repeat : (texts : List (List ℕ)) → texts_repeat texts ≡ false → Once texts
once_repeat [] e = tt
once_repeat (text ∷ texts) e =
    let parts = or_parts (is_taken text texts) (texts_repeat texts) e in
    (parts.0, once_repeat texts parts.1)

pub same_names : (g : Column → Column) → ((c : Column) → (g c).name ≡ c.name) → (columns : List Column)
    → column_names (map g columns) ≡ column_names columns
same_names g name [] = refl
same_names g name (c ∷ cs) = let rest = same_names g name cs in λ i. name c i ∷ rest i

kept_by : (b : Bool) (c : Column) (some cs : List Column) → Among (column_names some) (column_names cs)
    → Among (column_names (cond b (c ∷ some) some)) (column_names (c ∷ cs))
kept_by true c some cs among = keep among
kept_by false c some cs among = skip among

pub kept_among : (test : Column → Bool) (columns : List Column)
    → Among (column_names (filter test columns)) (column_names columns)
kept_among test [] = none
kept_among test (c ∷ cs) = kept_by (test c) c (filter test cs) cs (kept_among test cs)

-- columns that are made of items, each with the name of its item
pub made_by : (o : Option Column) (text : List ℕ) (some : List Column) (texts : List (List ℕ))
    → ((c : Column) → o ≡ Some c → c.name ≡ text) → Among (column_names some) texts
    → Among (column_names (cons_option o some)) (text ∷ texts)
made_by None text some texts name among = skip among
made_by (Some c) text some texts name among =
    subst (λ t. Among (column_names (c ∷ some)) (t ∷ texts)) (name c refl) (keep among)

pub made_among : {A : Type 0} (make : A → Option Column) (text : A → List ℕ)
    → ((x : A) (c : Column) → make x ≡ Some c → c.name ≡ text x) → (items : List A)
    → Among (column_names (filter_map make items)) (map text items)
made_among make text name [] = none
made_among make text name (x ∷ items) =
    made_by (make x) (text x) (filter_map make items) (map text items) (name x) (made_among make text name items)

names_both : (xs ys : List Column) → column_names (xs ++ ys) ≡ column_names xs ++ column_names ys
names_both xs ys = map-append (λ (c : Column). c.name) xs ys

-- two lists of which no text of the second stands in the first
has_both : (text : List ℕ) (xs ys : List (List ℕ)) → is_taken text xs ≡ false → is_taken text ys ≡ false
    → is_taken text (xs ++ ys) ≡ false
has_both text [] ys e f = f
has_both text (x ∷ xs) ys e f =
    let parts = or_parts (same_text text x) (is_taken text xs) e in
    or_from (same_text text x) (is_taken text (xs ++ ys)) parts.0 (has_both text xs ys parts.1 f)

back : (a b : List ℕ) (t : Bool) → same_text b a ≡ t → same_text a b ≡ false → same_text b a ≡ false
back a b true e f =
    let same : a ≡ b = sym ((same_text-Decides b a).0 e) in
    let yes = (same_text-Decides a b).1 same in
    absurd cc
back a b false e f = e

none_of : (text : List ℕ) (ys : List (List ℕ)) → AllByRecursion (λ y. same_text y text ≡ false) ys
    → is_taken text ys ≡ false
none_of text [] all = refl
none_of text (y ∷ ys) all =
    or_from (same_text text y) (is_taken text ys) (back y text (same_text text y) refl all.0) (none_of text ys all.1)

heads : (x : List ℕ) (xs ys : List (List ℕ)) → AllByRecursion (λ y. is_taken y (x ∷ xs) ≡ false) ys
    → AllByRecursion (λ y. same_text y x ≡ false) ys × AllByRecursion (λ y. is_taken y xs ≡ false) ys
heads x xs [] all = (tt, tt)
heads x xs (y ∷ ys) all =
    let parts = or_parts (same_text y x) (is_taken y xs) all.0 in
    let rest = heads x xs ys all.1 in
    ((parts.0, rest.0), (parts.1, rest.1))

pub once_both : (xs ys : List (List ℕ)) → Once xs → Once ys → AllByRecursion (λ y. is_taken y xs ≡ false) ys
    → Once (xs ++ ys)
once_both [] ys once more apart = more
once_both (x ∷ xs) ys once more apart =
    let parts = heads x xs ys apart in
    (has_both x xs ys once.0 (none_of x ys parts.0), once_both xs ys once.1 more parts.1)

-- ---- names that are taken

split_last : (text : List ℕ) (xs : List (List ℕ)) (t : List ℕ) → is_taken text (xs ++ t ∷ []) ≡ false
    → (is_taken text xs ≡ false) × (same_text text t ≡ false)
split_last text [] t e = (refl, (or_parts (same_text text t) false e).0)
split_last text (x ∷ xs) t e =
    let parts = or_parts (same_text text x) (is_taken text (xs ++ t ∷ [])) e in
    let rest = split_last text xs t parts.1 in
    (or_from (same_text text x) (is_taken text xs) parts.0 rest.0, rest.1)

taken_apart : (t : List ℕ) (taken : List (List ℕ)) (names : List Name)
    → AllByRecursion (λ (n : Name). is_taken n.text (taken ++ t ∷ []) ≡ false) names
    → AllByRecursion (λ (n : Name). same_text n.text t ≡ false) names
    × AllByRecursion (λ (n : Name). is_taken n.text taken ≡ false) names
taken_apart t taken [] all = (tt, tt)
taken_apart t taken (n ∷ names) all =
    let parts = split_last n.text taken t all.0 in
    let rest = taken_apart t taken names all.1 in
    ((parts.1, rest.0), (parts.0, rest.1))

texts_apart : (t : List ℕ) (names : List Name) → AllByRecursion (λ (n : Name). same_text n.text t ≡ false) names
    → AllByRecursion (λ y. same_text y t ≡ false) (name_texts names)
texts_apart t [] all = tt
texts_apart t (n ∷ names) all = (all.0, texts_apart t names all.1)

-- names of which none is taken, nor stands before
pub taken_once : (taken : List (List ℕ)) (names : List Name) → taken_faults taken names ≡ []
    → Once (name_texts names) × AllByRecursion (λ (n : Name). is_taken n.text taken ≡ false) names
taken_once taken [] e = (tt, tt)
taken_once taken (n ∷ names) e =
    let nones = both_none _ (taken_faults (with_name taken n.text) names) e in
    let free : is_taken n.text taken ≡ false = no_test _ _ _ nones.0 in
    let longer : with_name taken n.text ≡ taken ++ n.text ∷ [] = ap (λ b. cond b taken (taken ++ n.text ∷ [])) free in
    let rest = taken_once (taken ++ n.text ∷ []) names (subst (λ t. taken_faults t names ≡ []) longer nones.1) in
    let parts = taken_apart n.text taken names rest.1 in
    ((none_of n.text (name_texts names) (texts_apart n.text names parts.0), rest.0), (free, parts.1))

-- what isn't among taken names with more isn't among either
with_one : (text : List ℕ) (taken : List (List ℕ)) (name : List ℕ) (b : Bool) → is_taken name taken ≡ b
    → is_taken text (cond b taken (taken ++ name ∷ [])) ≡ false
    → (is_taken text taken ≡ false) × (same_text text name ≡ false)
with_one text taken name true e free = (free, other (same_text text name) refl)
  where
    other : (c : Bool) → same_text text name ≡ c → same_text text name ≡ false
    other true f =
        let same : text ≡ name = (same_text-Decides text name).0 f in
        let there : is_taken text taken ≡ true = ap (λ t. is_taken t taken) same ∙ e in
        let both : true ≡ false = sym there ∙ free in
        absurd cc
    other false f = f
with_one text taken name false e free = split_last text taken name free

pub with_all : (text : List ℕ) (taken names : List (List ℕ)) → is_taken text (with_names taken names) ≡ false
    → (is_taken text taken ≡ false) × (is_taken text names ≡ false)
with_all text taken [] free = (free, refl)
with_all text taken (name ∷ names) free =
    let rest = with_all text (with_name taken name) names free in
    let parts = with_one text taken name (is_taken name taken) refl rest.0 in
    (parts.0, or_from (same_text text name) (is_taken text names) parts.1 rest.1)

-- ---- names of made columns

mapped_name : {A : Type 0} (f : A → Column) (text : List ℕ) → ((x : A) → (f x).name ≡ text) → (o : Option A)
    (c : Column) → option_map f o ≡ Some c → c.name ≡ text
mapped_name f text name None c e = absurd (nothing_is c e)
mapped_name f text name (Some x) c e = ap (λ (d : Column). d.name) (sym (same_item (f x) c e)) ∙ name x

aggregate_named : (columns : List Column) (name : List ℕ) (how : FoldWord) (source : Option Name) (c : Column)
    → aggregate_column columns name how source ≡ Some c → c.name ≡ name
aggregate_named columns name how None c e = ap (λ (d : Column). d.name) (sym (same_item _ c e))
aggregate_named columns name how (Some source) c e =
    mapped_name (folded_column name how) name (λ x. refl) (column_named source.text columns) c e

pub aggregates_among : (columns : List Column) (aggregates : List Aggregate)
    → Among (column_names (aggregate_columns columns aggregates)) (map (λ a. (aggregate_name a).text) aggregates)
aggregates_among columns aggregates =
    made_among (aggregated_column columns) (λ a. (aggregate_name a).text)
    (λ a c e. aggregate_named columns (aggregate_name a).text a.fold a.column c e) aggregates

sum_named : (columns : List Column) (name : List ℕ) (sum : SumTree) (alone : Option Name) (c : Column)
    → sum_column columns name sum alone ≡ Some c → c.name ≡ name
sum_named columns name sum None c e = mapped_name _ name (λ x. refl) (sum_width columns sum) c e
sum_named columns name sum (Some source) c e =
    mapped_name (renamed_column name) name (λ x. refl) (column_named source.text columns) c e

pub items_among : (columns : List Column) (items : List ItemTree)
    → Among (column_names (filter_map (item_column columns) items)) (map (λ item. (item_name item).text) items)
items_among columns items =
    made_among (item_column columns) (λ item. (item_name item).text)
    (λ item c e. sum_named columns (item_name item).text item.sum (column_alone item.sum) c e) items

pub left_name : (held : SchemaLists) (rights : List Column) (c : Column) → (left_column held rights c).name ≡ c.name
left_name held rights c = by_common (column_named c.name rights)
  where
    by_common : (o : Option Column) → (as_joined (unwrap_or (option_map (anchored_with held c) o) c)).name ≡ c.name
    by_common None = refl
    by_common (Some d) = refl

pub aligned_name : (by : Aligner) (c : Column) → (aligned_column by c).name ≡ c.name
aligned_name by c = by_key c.key
  where
    by_key : (b : Bool) → (cond b c (with_width (aligned_width by) c)).name ≡ c.name
    by_key true = refl
    by_key false = refl

pub united_among : (held : SchemaLists) (lefts rights : List Column)
    → Among (column_names (union_columns held lefts rights)) (column_names lefts)
united_among held [] rights = none
united_among held (l ∷ ls) [] = none
united_among held (l ∷ ls) (r ∷ rs) = keep (united_among held ls rs)

own_apart : (lefts rights : List Column)
    → AllByRecursion (λ y. is_taken y (column_names lefts) ≡ false) (column_names (right_columns lefts rights))
own_apart lefts [] = tt
own_apart lefts (r ∷ rs) = own_by lefts r (right_columns lefts rs) (has_name r.name lefts) refl (own_apart lefts rs)
  where
    own_by : (lefts : List Column) (r : Column) (rest : List Column) (b : Bool) → has_name r.name lefts ≡ b
        → AllByRecursion (λ y. is_taken y (column_names lefts) ≡ false) (column_names rest)
        → AllByRecursion (λ y. is_taken y (column_names lefts) ≡ false) (column_names (cond (not b) (r ∷ rest) rest))
    own_by lefts r rest true e all = all
    own_by lefts r rest false e all = (any_names r.name lefts ∙ e, all)

-- a join's names: the left's, and then those of the right's own
pub join_once : (held : SchemaLists) (lefts rights : List Column) → Once (column_names lefts)
    → Once (column_names rights) → Once (column_names (join_columns held lefts rights))
join_once held lefts rights one other =
    let own = right_columns lefts rights in
    let names : column_names (join_columns held lefts rights) ≡ column_names lefts ++ column_names own =
    names_both (map (left_column held rights) lefts) (map as_joined own)
    ∙ (λ i. same_names (left_column held rights) (left_name held rights) lefts i
    ++ same_names as_joined (λ c. refl) own i) in
    subst Once (sym names)
    (once_both (column_names lefts) (column_names own) one
    (once_among (column_names own) (column_names rights) (kept_among _ rights) other) (own_apart lefts rights))

-- a `value`'s names: those of the keys, and then those of the items
names_apart : (taken : List (List ℕ)) (columns : List Column) (names : List Name)
    → AllByRecursion (λ (n : Name). is_taken n.text (with_names taken (column_names columns)) ≡ false) names
    → AllByRecursion (λ y. is_taken y (column_names columns) ≡ false) (name_texts names)
names_apart taken columns [] all = tt
names_apart taken columns (n ∷ names) all =
    ((with_all n.text taken (column_names columns) all.0).1, names_apart taken columns names all.1)

texts_of : (items : List ItemTree) → name_texts (map item_name items) ≡ map (λ item. (item_name item).text) items
texts_of [] = refl
texts_of (item ∷ items) = ap (λ rest. (item_name item).text ∷ rest) (texts_of items)

pub value_once : (taken : List (List ℕ)) (columns : List Column) (items : List ItemTree) → Once (column_names columns)
    → taken_faults (with_names taken (column_names (key_columns columns))) (map item_name items) ≡ []
    → Once (column_names (key_columns columns ++ filter_map (item_column columns) items))
value_once taken columns items once e =
    let keys = key_columns columns in
    let made = filter_map (item_column columns) items in
    let texts = map (λ (item : ItemTree). (item_name item).text) items in
    let free = taken_once (with_names taken (column_names keys)) (map item_name items) e in
    let key_once = once_among (column_names keys) (column_names columns) (kept_among _ columns) once in
    let whole : Once (column_names keys ++ texts) =
    subst (λ t. Once (column_names keys ++ t)) (texts_of items)
    (once_both (column_names keys) (name_texts (map item_name items)) key_once free.0
    (names_apart taken keys (map item_name items) free.1)) in
    subst Once (sym (names_both keys made))
    (once_among (column_names keys ++ column_names made) (column_names keys ++ texts)
    (among_append (column_names keys) (column_names keys) (column_names made) texts (all_among (column_names keys))
    (items_among columns items)) whole)
