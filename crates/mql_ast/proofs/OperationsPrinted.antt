-- Operations that some text spells are spelled by what they are printed as.
use Rattle.std.proofs.Common.{◌≡◌, ℕ, ℤ, ◌+◌, ◌≤◌, true, false, List, [], ◌∷◌, ◌++◌, map, codes, refl, sym, ap, ◌∙◌}
use Rattle.std.proofs.Common.{subst, arith, Option, Some, None, append_assoc, append-nil}
use Rattle.std.specs.Fmt.{decimal}
use Rattle.std.proofs.lemmas.List.{map-append}
use Rattle.mon_value.specs.declared.aligners.Aligner.TheVariants as aligner
use Rattle.mql_ast.specs.declared.names.Name.{Name}
use Rattle.mql_ast.specs.declared.operations.Aggregate.{Aggregate}
use Rattle.mql_ast.specs.declared.operations.FoldWord.{FoldWord}
use Rattle.mql_ast.specs.declared.operations.FoldWord.TheVariants as fold
use Rattle.mql_ast.specs.Tokens.{is_letter, Rest, first_of, skip, keyword_at, name_at}
use Rattle.mql_ast.specs.Trees as tree
use Rattle.mql_ast.specs.Trees.{ItemTree, DeedTree, OpTree}
use Rattle.mql_ast.specs.Places.{name_content, label_content, item_content, aggregate_content, deed_content, op_content}
use Rattle.mql_ast.specs.Printed.{separated_texts, comma, name_text, sum_text, predicate_text, item_text, fold_text}
use Rattle.mql_ast.specs.Printed.{column_text, aggregate_text, duration_text, deed_text, ops_text}
use Rattle.mql_ast.specs.Grammar.{NameList, one_name, more_names, Grouping, no_names, some_names, fold_named, Folded}
use Rattle.mql_ast.specs.Grammar.{counted, folded, Folding, unnamed, named, FoldingList, one_folding, more_foldings}
use Rattle.mql_ast.specs.Grammar.{ItemOf, single, labelled, ItemList, one_item, more_items, Deed, filter, align_delta}
use Rattle.mql_ast.specs.Grammar.{align_next_older, group_by, value, top, every, within, Ops, no_ops, more_ops}
use Rattle.mql_ast.proofs.TokensPrinted.{both, Ends, regrouped, here, behind_blank, place_behind, rest_behind}
use Rattle.mql_ast.proofs.TokensPrinted.{sign_printed, word_printed, IsName, name_lawful, name_printed}
use Rattle.mql_ast.proofs.NumbersPrinted.{positive_lawful, positive_printed, IsDuration, duration_lawful}
use Rattle.mql_ast.proofs.NumbersPrinted.{duration_printed}
use Rattle.mql_ast.proofs.SumPrinted.{sum_levels}
use Rattle.mql_ast.proofs.PredicatePrinted.{disjunction_levels}
use Rattle.mql_ast.proofs.ListsPrinted.{Spelled, Prints, push_is_some, one_printed, more_printed}

-- a name as a part of a list
abbrev NameHere : Rest → Rest → Name → Type 0
NameHere s r n = name_at s ≡ Some (n, r)

name_part : (s r : Rest) (n : Name) → name_at s ≡ Some (n, r) → Prints Name NameHere name_content n (name_text n)
name_part s r n e q rest ends f = record {
  at = place_behind f.at n.text;
  placed = record { at = f.at; text = n.text };
  same = refl;
  spelled = name_printed n.text (name_lawful s r n e) q rest ends f;
}

pub names_some : {s r : Rest} {ns : List Name} → NameList s r ns → ns ≡ [] → ⊥
names_some (one_name e) h = cc
names_some (more_names {ns = ns} {n = n} L g e) h = push_is_some Name ns n h

names_part : {s r : Rest} {ns : List Name} → NameList s r ns → Prints (List Name) NameList (map name_content) ns
    (separated_texts comma (map name_text ns))
names_part {s = s} {r = r} (one_name {n = n} e) = one_printed Name NameHere NameList name_content name_text
    (λ q t x h. one_name h) n (name_part s r n e)
names_part {r = r} (more_names {k = k} {ns = ns} {n = n} L g e) =
    more_printed Name NameHere NameList name_content name_text (λ q m j t xs x front sign h. more_names front sign h)
    ns n (names_some L) (names_part L) (name_part k r n e)

fold_same : (w : FoldWord) → fold_named w ≡ fold_text w
fold_same fold.Count = refl
fold_same fold.Sum = refl
fold_same fold.Min = refl
fold_same fold.Max = refl
fold_same fold.Mean = refl
fold_same fold.Merge = refl
fold_same fold.Aggregate = refl

fold_letter : (w : FoldWord) → is_letter (first_of (fold_text w)) ≡ true
fold_letter fold.Count = refl
fold_letter fold.Sum = refl
fold_letter fold.Min = refl
fold_letter fold.Max = refl
fold_letter fold.Mean = refl
fold_letter fold.Merge = refl
fold_letter fold.Aggregate = refl

-- what stands behind a fold's word
abbrev pub folded_text : Option Name → List ℕ
folded_text column = codes "(" ++ (column_text column ++ codes ")")

folded_part : {w : FoldWord} {s r : Rest} {c : Option Name} → Folded w s r c → (at : ℕ) (rest : List ℕ)
    → Spelled (Option Name) (Folded w) label_content (record { at = at; bytes = folded_text c ++ rest }) c rest
folded_part (counted g h) at rest =
    let s : Rest = record { at = at; bytes = 40 ∷ 41 ∷ rest } in
    let m : Rest = record { at = at + 1; bytes = 41 ∷ rest } in
    record {
      at = at + 1 + 1;
      placed = None;
      same = refl;
      spelled = counted (sign_printed 40 refl refl s m.bytes
          (here at s.bytes)) (sign_printed 41 refl refl m rest (here m.at m.bytes));
    }
folded_part {w = w} (folded {m = i} {k = j} {n = n} other g e h) at rest =
    let t = n.text ++ codes ")" in
    let s : Rest = record { at = at; bytes = 40 ∷ (t ++ rest) } in
    let m : Rest = record { at = at + 1; bytes = t ++ rest } in
    let f = regrouped (here m.at m.bytes) (append_assoc n.text (codes ")") rest) in
    let k = rest_behind m.at n.text (41 ∷ rest) in
    record {
      at = k.at + 1;
      placed = Some (record { at = m.at; text = n.text });
      same = refl;
      spelled = folded other (sign_printed 40 refl refl s m.bytes (here at s.bytes))
          (name_printed n.text (name_lawful i j n e) m (41 ∷ rest) refl f) (sign_printed 41 refl refl k rest
          (here k.at k.bytes));
    }

folding_part : {s r : Rest} {a : Aggregate} → Folding s r a → Prints Aggregate Folding aggregate_content a
    (aggregate_text a)
folding_part {s = s} (unnamed {m = m} {n = n} {w = w} {c = c} e g F) q rest ends from =
    let word = fold_text w in
    let f = regrouped from (append_assoc word (folded_text c) rest) in
    let k = place_behind f.at word in
    let x = folded_part F k rest in
    let name = subst IsName (g ∙ fold_same w) (name_lawful s m n e) in
    record {
      at = x.at;
      placed = record { at = (skip q).at; name = None; fold = w; column = x.placed };
      same = ap (λ column. record { at = 0; name = None; fold = w; column = column }) x.same;
      spelled = unnamed (name_printed word name q (folded_text c ++ rest) refl f) (sym (fold_same w)) x.spelled;
    }
folding_part {s = s} (named {m = m} {n = n} {w = w} {c = c} e g h F) q rest ends from =
    let word = fold_text w in
    let last = word ++ (folded_text c ++ rest) in
    let text = append_assoc (n.text ++ codes ": ") (word ++ folded_text c) rest ∙ append_assoc n.text (codes ": ")
    ((word ++ folded_text c) ++ rest) ∙ ap (λ t. n.text ++ (58 ∷ 32 ∷ t)) (append_assoc word (folded_text c)
    rest) in
    let f = regrouped from text in
    let i = rest_behind f.at n.text (58 ∷ 32 ∷ last) in
    let j : Rest = record { at = i.at + 1; bytes = 32 ∷ last } in
    let b = behind_blank j.at last in
    let x = folded_part F (place_behind b.at word) rest in
    record {
      at = x.at;
      placed = record {
        at = (skip j).at;
        name = Some (record { at = f.at; text = n.text });
        fold = w;
        column =
            x.placed;
      };
      same = ap (λ column. record {
        at = 0;
        name = Some (record { at = 0; text = n.text });
        fold = w;
        column =
            column;
      }) x.same;
      spelled = named (name_printed n.text (name_lawful s m n e) q (58 ∷ 32 ∷ last) refl f)
          (sign_printed 58 refl refl i j.bytes (here i.at i.bytes))
          (ap (λ t. keyword_at t j) (fold_same w) ∙ word_printed word (fold_letter w) j (folded_text c ++ rest) b)
          x.spelled;
    }

pub foldings_some : {s r : Rest} {xs : List Aggregate} → FoldingList s r xs → xs ≡ [] → ⊥
foldings_some (one_folding e) h = cc
foldings_some (more_foldings {as' = xs} {a = x} L g e) h = push_is_some Aggregate xs x h

foldings_part : {s r : Rest} {xs : List Aggregate} → FoldingList s r xs → Prints (List Aggregate) FoldingList
    (map aggregate_content) xs (separated_texts comma (map aggregate_text xs))
foldings_part (one_folding {a = a} e) = one_printed Aggregate Folding FoldingList aggregate_content aggregate_text
    (λ q t x h. one_folding h) a (folding_part e)
foldings_part (more_foldings {as' = xs} {a = a} L g e) =
    more_printed Aggregate Folding FoldingList aggregate_content aggregate_text (λ q m j t ys x front sign h.
    more_foldings front sign h) xs a (foldings_some L) (foldings_part L) (folding_part e)

item_part : {d : ℕ} {s r : Rest} {i : ItemTree} → ItemOf d s r i → (k : ℕ) → d ≤ k → Prints ItemTree (ItemOf k)
    item_content i (item_text i)
item_part {s = s} {r = r} (single {n = n} e) k h q rest ends from =
    let x = name_part s r n e q rest ends from in
    record {
      at = x.at;
      placed = record { name = None; sum = tree.Column x.placed };
      same =
          ap (λ c. record { name = None; sum = tree.Column c }) x.same;
      spelled = single x.spelled;
    }
item_part {s = s} (labelled {m = m} {n = n} {e = e} h g S) k low q rest ends from =
    let last = sum_text false e ++ rest in
    let f = regrouped from (append_assoc (n.text ++ codes ": ") (sum_text false e) rest ∙ append_assoc n.text
    (codes ": ") last) in
    let i = rest_behind f.at n.text (58 ∷ 32 ∷ last) in
    let j : Rest = record { at = i.at + 1; bytes = 32 ∷ last } in
    let levels = sum_levels S in
    let x = levels.whole k low j rest ends (behind_blank j.at last) in
    record {
      at = x.at;
      placed = record { name = Some (record { at = f.at; text = n.text }); sum = x.placed };
      same = ap (λ sum. record { name = Some (record { at = 0; text = n.text }); sum = sum }) x.same;
      spelled = labelled (name_printed n.text (name_lawful s m n h) q (58 ∷ 32 ∷ last) refl f)
          (sign_printed 58 refl refl i j.bytes (here i.at i.bytes)) x.spelled;
    }

pub items_some : {d : ℕ} {s r : Rest} {xs : List ItemTree} → ItemList d s r xs → xs ≡ [] → ⊥
items_some (one_item e) h = cc
items_some (more_items {items = xs} {i = x} L g e) h = push_is_some ItemTree xs x h

items_part : {d : ℕ} {s r : Rest} {xs : List ItemTree} → ItemList d s r xs → (k : ℕ) → d ≤ k → Prints (List ItemTree)
    (ItemList k) (map item_content) xs (separated_texts comma (map item_text xs))
items_part (one_item {i = i} e) k h = one_printed ItemTree (ItemOf k) (ItemList k) item_content item_text
    (λ q t x f. one_item f) i (item_part e k h)
items_part (more_items {items = xs} {i = i} L g e) k h =
    more_printed ItemTree (ItemOf k) (ItemList k) item_content item_text (λ q m j t ys x front sign f. more_items front
    sign f) xs i (items_some L) (items_part L k h) (item_part e k h)

-- names in brackets
grouping_part : {s r : Rest} {ns : List Name} → Grouping s r ns → (at : ℕ) (rest : List ℕ) →
    Spelled (List Name) Grouping (map name_content)
    (record { at = at; bytes = 32 ∷ 91 ∷ (separated_texts comma (map name_text ns) ++ (93 ∷ rest)) }) ns rest
grouping_part (no_names g h) at rest =
    let s : Rest = record { at = at; bytes = 32 ∷ 91 ∷ 93 ∷ rest } in
    let m : Rest = record { at = at + 1 + 1; bytes = 93 ∷ rest } in
    record {
      at = m.at + 1;
      placed = [];
      same = refl;
      spelled = no_names (sign_printed 91 refl refl s m.bytes
          (behind_blank at (91 ∷ m.bytes))) (sign_printed 93 refl refl m rest (here m.at m.bytes));
    }
grouping_part (some_names {ns = ns} g L h) at rest =
    let text = separated_texts comma (map name_text ns) in
    let m : Rest = record { at = at + 1 + 1; bytes = text ++ (93 ∷ rest) } in
    let s : Rest = record { at = at; bytes = 32 ∷ 91 ∷ m.bytes } in
    let x = names_part L m (93 ∷ rest) refl (here m.at m.bytes) in
    let k : Rest = record { at = x.at; bytes = 93 ∷ rest } in
    record {
      at = x.at + 1;
      placed = x.placed;
      same = x.same;
      spelled = some_names (sign_printed 91 refl refl s m.bytes
          (behind_blank at (91 ∷ m.bytes))) x.spelled (sign_printed 93 refl refl k rest (here k.at k.bytes));
    }

-- how an operation is spelled where it is printed
abbrev DeedPrints : ℕ → DeedTree → Type 0
DeedPrints d what = Prints DeedTree (Deed d) deed_content what (deed_text what)

delta_part : (d : ℕ) (z : ℤ) → IsDuration z → DeedPrints d (tree.Align (aligner.Delta z))
delta_part d z duration s rest ends from =
    let text = duration_text z in
    let e = append_assoc text (codes ")") rest in
    let f = regrouped from (ap (λ t. codes "align delta(" ++ t) e) in
    let a = rest_behind f.at (codes "align") (codes " delta(" ++ (text ++ (41 ∷ rest))) in
    let b = behind_blank a.at (codes "delta(" ++ (text ++ (41 ∷ rest))) in
    let c = rest_behind b.at (codes "delta") (40 ∷ (text ++ (41 ∷ rest))) in
    let j : Rest = record { at = c.at + 1; bytes = text ++ (41 ∷ rest) } in
    let i = rest_behind j.at text (41 ∷ rest) in
    record {
      at = i.at + 1;
      placed = tree.Align (aligner.Delta z);
      same = refl;
      spelled = align_delta (word_printed (codes "align") refl s a.bytes f) refl (word_printed (codes "delta") refl a
          c.bytes b) (sign_printed 40 refl refl c j.bytes (here c.at c.bytes))
          (duration_printed z duration j (41 ∷ rest) (here j.at j.bytes)) (sign_printed 41 refl refl i rest
          (here i.at i.bytes));
    }

next_older_part : (d : ℕ) (z : ℤ) → IsDuration z → DeedPrints d (tree.Align (aligner.NextOlder z))
next_older_part d z duration s rest ends from =
    let text = duration_text z in
    let e = append_assoc text (codes ")") rest in
    let f = regrouped from (ap (λ t. codes "align next_older(" ++ t) e) in
    let a = rest_behind f.at (codes "align") (codes " next_older(" ++ (text ++ (41 ∷ rest))) in
    let b = behind_blank a.at (codes "next_older(" ++ (text ++ (41 ∷ rest))) in
    let c = rest_behind b.at (codes "next_older") (40 ∷ (text ++ (41 ∷ rest))) in
    let j : Rest = record { at = c.at + 1; bytes = text ++ (41 ∷ rest) } in
    let i = rest_behind j.at text (41 ∷ rest) in
    record {
      at = i.at + 1;
      placed = tree.Align (aligner.NextOlder z);
      same = refl;
      spelled = align_next_older (word_printed (codes "align") refl s a.bytes f) refl
          (word_printed (codes "next_older") refl a c.bytes b) (sign_printed 40 refl refl c j.bytes (here c.at c.bytes))
          (duration_printed z duration j (41 ∷ rest) (here j.at j.bytes)) (sign_printed 41 refl refl i rest
          (here i.at i.bytes));
    }

group_by_part : {m k j r : Rest} {ns : List Name} {xs : List Aggregate} → Grouping m k ns → FoldingList j r xs
    → (d : ℕ) → DeedPrints d (tree.GroupBy ns xs)
group_by_part {ns = ns} {xs = xs} G L d s rest ends from =
    let names = separated_texts comma (map name_text ns) in
    let folds = separated_texts comma (map aggregate_text xs) in
    let last = folds ++ rest in
    let f = regrouped from (ap (λ t. codes "group_by [" ++ t) (append_assoc names (codes "], " ++ folds) rest)) in
    let m = rest_behind f.at (codes "group_by") (32 ∷ 91 ∷ (names ++ (93 ∷ 44 ∷ 32 ∷ last))) in
    let x = grouping_part G m.at (44 ∷ 32 ∷ last) in
    let k : Rest = record { at = x.at; bytes = 44 ∷ 32 ∷ last } in
    let j : Rest = record { at = x.at + 1; bytes = 32 ∷ last } in
    let y = foldings_part L j rest ends (behind_blank j.at last) in
    record {
      at = y.at;
      placed = tree.GroupBy x.placed y.placed;
      same = both tree.GroupBy x.same y.same;
      spelled = group_by (word_printed (codes "group_by") refl s m.bytes f) x.spelled
          (sign_printed 44 refl refl k j.bytes (here k.at k.bytes)) y.spelled;
    }

value_part : {e : ℕ} {k j : Rest} {xs : List ItemTree} → ItemList e k j xs → (d : ℕ) → e ≤ d
    → DeedPrints d (tree.Value xs)
value_part {xs = xs} L d h s rest ends from =
    let items = separated_texts comma (map item_text xs) in
    let f = regrouped from (ap (λ t. codes "value [" ++ t) (append_assoc items (codes "]") rest)) in
    let m = rest_behind f.at (codes "value") (32 ∷ 91 ∷ (items ++ (93 ∷ rest))) in
    let k : Rest = record { at = m.at + 1 + 1; bytes = items ++ (93 ∷ rest) } in
    let x = items_part L d h k (93 ∷ rest) refl (here k.at k.bytes) in
    let j : Rest = record { at = x.at; bytes = 93 ∷ rest } in
    record {
      at = x.at + 1;
      placed = tree.Value x.placed;
      same = ap tree.Value x.same;
      spelled = value (word_printed (codes "value") refl s m.bytes f) (sign_printed 91 refl refl m k.bytes
          (behind_blank m.at (91 ∷ k.bytes))) x.spelled (sign_printed 93 refl refl j rest (here j.at j.bytes));
    }

top_part : (d n : ℕ) (c : Name) → 1 ≤ n → n ≤ 16777216 → IsName c.text → DeedPrints d (tree.Top n c)
top_part d n c one low name s rest ends from =
    let last = c.text ++ rest in
    let digits = decimal n ++ (44 ∷ 32 ∷ last) in
    let f = regrouped from (ap (λ t. codes "top " ++ t) (append_assoc (decimal n) (codes ", " ++ c.text) rest)) in
    let m = rest_behind f.at (codes "top") (32 ∷ digits) in
    let b = behind_blank m.at digits in
    let k = rest_behind b.at (decimal n) (44 ∷ 32 ∷ last) in
    let j : Rest = record { at = k.at + 1; bytes = 32 ∷ last } in
    let g = behind_blank j.at last in
    record {
      at = place_behind g.at c.text;
      placed = tree.Top n (record { at = g.at; text = c.text });
      same = refl;
      spelled = top (word_printed (codes "top") refl s m.bytes f) refl (positive_printed 16777216 n one low
          (omega (arith, low)) m (44 ∷ 32 ∷ last) refl b) (sign_printed 44 refl refl k j.bytes (here k.at k.bytes))
          (name_printed c.text name j rest ends g);
    }

pub deed_part : {d : ℕ} {s r : Rest} {what : DeedTree} → Deed d s r what → (k : ℕ) → d ≤ k → DeedPrints k what
deed_part (filter {p = p} w a D) k h s rest ends from =
    let text = predicate_text 0 p ++ rest in
    let m = rest_behind from.at (codes "filter") (32 ∷ text) in
    let levels = disjunction_levels D in
    let x = levels.disjunction k h m rest ends (behind_blank m.at text) in
    record {
      at = x.at;
      placed = tree.Filter x.placed;
      same = ap tree.Filter x.same;
      spelled =
          filter (word_printed (codes "filter") refl s m.bytes from) refl x.spelled;
    }
deed_part (align_delta {j = j} {i = i} {z = z} w a v g t c) k h s rest ends from = delta_part k z
    (duration_lawful j i z t) s rest ends from
deed_part (align_next_older {j = j} {i = i} {z = z} w a v g t c) k h s rest ends from = next_older_part k z
    (duration_lawful j i z t) s rest ends from
deed_part (group_by w G g L) k h s rest ends from = group_by_part G L k s rest ends from
deed_part (value w g L c) k h s rest ends from = value_part L k h s rest ends from
deed_part {r = r} (top {m = m} {k = i} {j = j} {n = n} {c = c} w a e g f) k h s rest ends from = let range =
    positive_lawful 16777216 (omega arith) m i n e in top_part k n c range.0 range.1 (name_lawful j r c f) s rest ends
    from
deed_part {r = r} (every {m = m} {z = z} w a t) k h s rest ends from =
    let text = duration_text z ++ rest in
    let m' = rest_behind from.at (codes "every") (32 ∷ text) in
    let b = behind_blank m'.at text in
    record {
      at = place_behind b.at (duration_text z);
      placed = tree.Every z;
      same = refl;
      spelled =
          every (word_printed (codes "every") refl s m'.bytes from) refl (duration_printed z (duration_lawful m r z t)
          m'
          rest b);
    }
deed_part {r = r} (within {m = m} {z = z} w a t) k h s rest ends from =
    let text = duration_text z ++ rest in
    let m' = rest_behind from.at (codes "within") (32 ∷ text) in
    let b = behind_blank m'.at text in
    record {
      at = place_behind b.at (duration_text z);
      placed = tree.Within z;
      same = refl;
      spelled =
          within (word_printed (codes "within") refl s m'.bytes from) refl (duration_printed z (duration_lawful m r z t)
          m' rest b);
    }

pub ops_push : (ops : List OpTree) (op : OpTree) → ops_text (ops ++ op ∷ []) ≡ ops_text ops
    ++ (codes " | " ++ deed_text op.what)
ops_push [] op = ap (λ t. codes " | " ++ t) (append-nil (deed_text op.what))
ops_push (o ∷ os) op = ap (λ t. codes " | " ++ (deed_text o.what ++ t)) (ops_push os op) ∙ ap (λ t. codes " | " ++ t)
    (sym (append_assoc (deed_text o.what) (ops_text os) (codes " | " ++ deed_text op.what)))

-- operations are spelled where they are printed, from the very first byte on
pub ops_part : {d : ℕ} {s r : Rest} {ops : List OpTree} → Ops d s r ops → (k : ℕ) → d ≤ k
    → (at : ℕ) (bytes rest : List ℕ) → Ends rest → bytes ≡ ops_text ops ++ rest →
    Spelled (List OpTree) (Ops k) (map op_content) (record { at = at; bytes = bytes }) ops rest
ops_part no_ops k h at bytes rest ends e = record {
  at = at;
  placed = [];
  same = refl;
  spelled =
      subst (λ b. Ops k (record { at = at; bytes = b }) (record { at = at; bytes = rest }) []) (sym e) no_ops;
}
ops_part (more_ops {k = i} {ops = ops} {what = what} O g D) k h at bytes rest ends e =
    let op : OpTree = record { at = (skip i).at; what = what } in
    let last = deed_text what ++ rest in
    let a = ops_part O k h at bytes (32 ∷ 124 ∷ 32 ∷ last) refl (e ∙ ap (λ t. t ++ rest) (ops_push ops op)
    ∙ append_assoc (ops_text ops) (codes " | " ++ deed_text what) rest) in
    let m : Rest = record { at = a.at; bytes = 32 ∷ 124 ∷ 32 ∷ last } in
    let j : Rest = record { at = a.at + 1 + 1; bytes = 32 ∷ last } in
    let x = deed_part D k h j rest ends (behind_blank j.at last) in
    record {
      at = x.at;
      placed = a.placed ++ record { at = (skip j).at; what = x.placed } ∷ [];
      same = map-append op_content a.placed (record { at = (skip j).at; what = x.placed } ∷ [])
          ∙ both (λ c d. c ++ record { at = 0; what = d } ∷ []) a.same x.same
          ∙ sym (map-append op_content ops (op ∷ []));
      spelled = more_ops a.spelled (sign_printed 124 refl refl m j.bytes (behind_blank m.at (124 ∷ j.bytes))) x.spelled;
    }

pub ops_end : (ops : List OpTree) (rest : List ℕ) → Ends rest → Ends (ops_text ops ++ rest)
ops_end [] rest ends = ends
ops_end (op ∷ ops) rest ends = refl
