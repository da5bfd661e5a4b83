-- What is fixed in a table stays fixed in those that are made of it: a home that says the literals of the one says those
-- of the other.
use Rattle.std.proofs.Common.{◌≡◌, ◌∙◌, ◌||◌, ℕ, zero, suc, Bool, true, false, not, cond, Option, Some, None, List}
use Rattle.std.proofs.Common.{[], ◌∷◌, ◌++◌, map, refl, sym, subst}
use Rattle.std.specs.Prelude.{find, option_map, unwrap_or}
use Rattle.std.specs.List.{AllByRecursion, cons_option, list_any}
use Rattle.std.proofs.lemmas.List.Folds.{find_at}
use Rattle.mon_value.specs.Order.{field_as_value}
use Rattle.mon_value.specs.Same.{same_field, same_text}
use Rattle.mon_value.specs.Tables.{has_name, right_columns}
use Rattle.mon_value.specs.declared.columns.Anchor.{Anchor}
use Rattle.mon_value.specs.declared.columns.Anchor.TheVariants as anchor
use Rattle.mon_value.specs.declared.columns.Column.{Column}
use Rattle.mon_value.specs.declared.values.Value.{Value}
use Rattle.mon_value.proofs.PlainLemmas.{all_append, and_both, nothing_is, same_item}
use Rattle.mon_value.proofs.SameLemmas.{same_field-Decides, same_text-Decides}
use Rattle.mon_schema.specs.Names.{SchemaLists}
use Rattle.mql_ast.specs.Rows.{column_named}
use Rattle.typed_trees.specs.Branches.{anchored_with, as_joined, join_columns, left_column, same_column, same_columns}
use Rattle.typed_trees.specs.Branches.{union_columns}
use Rattle.typed_trees.specs.Groupings.{as_key, key_at, key_columns_at}
use Rattle.typed_trees.specs.Items.{key_columns}
use Rattle.typed_trees.specs.Levels.{is_location_anchor, same_anchor}
use Rattle.typed_rows.proofs.JoinedRows.{all-made, all-map}
use Rattle.typed_rows.proofs.KeptRows.{all-filter}
use Rattle.typed_rows.proofs.OnceLemmas.{left_name}
use Rattle.typed_trees.specs.FixedColumns.{fixed_in_both, named_in, same_fixed}
use Rattle.typed_trees.specs.declared.fixed.Fixed.{Fixed}
use Rattle.mixer.proofs.FixedHomes.{AllFixed, FixSays}
use Rattle.mixer.proofs.HeldCells.{HasNoAnchor, SaysIf}
use Rattle.mixer.proofs.PairHomes as pair_homes
use Rattle.mixer.proofs.PlainColumns.{units}
use Rattle.mixer.proofs.StemmingRows.{all_passing}

module _ {H : Type 0} (Says : H → Anchor → Value → Type 0) where
  -- what a home says of one column, where its name is that of what is fixed
  abbrev SaysNamed : H → Fixed → Column → Type 0
  SaysNamed home f column =
      same_text f.column column.name ≡ true → SaysIf Says home column.anchor (field_as_value f.value)

  -- ---- columns whose names stay, and whose anchors say no more

  pub fix_mapped : (home : H) (f : Fixed) (g : Column → Column) → ((c : Column) → (g c).name ≡ c.name)
      → ((c : Column) (x : Value) → SaysIf Says home c.anchor x → SaysIf Says home (g c).anchor x)
      → (columns : List Column) → FixSays Says home f columns → FixSays Says home f (map g columns)
  fix_mapped home f g name less columns fix =
      all-made (SaysNamed home f) (SaysNamed home f) g columns
      (λ c says e. less c (field_as_value f.value) (says (subst (λ n. same_text f.column n ≡ true) (name c) e))) fix

  pub fixed_mapped : (home : H) (g : Column → Column) → ((c : Column) → (g c).name ≡ c.name)
      → ((c : Column) (x : Value) → SaysIf Says home c.anchor x → SaysIf Says home (g c).anchor x)
      → (columns : List Column) (fixed : List Fixed) → AllFixed Says home fixed columns
      → AllFixed Says home fixed (map g columns)
  fixed_mapped home g name less columns fixed all =
      all-map (λ f. FixSays Says home f columns) (λ f. FixSays Says home f (map g columns)) fixed
      (λ f fix. fix_mapped home f g name less columns fix) all

  -- ---- groups and values

  fix_plain : (home : H) (f : Fixed) (columns : List Column) → AllByRecursion HasNoAnchor columns
      → FixSays Says home f columns
  fix_plain home f columns plain =
      all-map HasNoAnchor (SaysNamed home f) columns
      (λ c none e. subst (λ o. SaysIf Says home o (field_as_value f.value)) (sym none) tt) plain

  at_place : (home : H) (f : Fixed) (columns : List Column) → FixSays Says home f columns → (place : ℕ) (y : Column)
      → key_at columns place ≡ Some y → SaysNamed home f y
  at_place home f [] fix place y is = absurd (nothing_is y is)
  at_place home f (c ∷ cs) fix zero y is = subst (SaysNamed home f) (same_item (as_key c) y is) fix.0
  at_place home f (c ∷ cs) fix (suc place) y is = at_place home f cs fix.1 place y is

  fix_cons : (home : H) (f : Fixed) (o : Option Column) (columns : List Column)
      → ((y : Column) → o ≡ Some y → SaysNamed home f y) → FixSays Says home f columns
      → FixSays Says home f (cons_option o columns)
  fix_cons home f None columns own rest = rest
  fix_cons home f (Some y) columns own rest = (own y refl, rest)

  fix_places : (home : H) (f : Fixed) (columns : List Column) → FixSays Says home f columns → (places : List ℕ)
      → FixSays Says home f (key_columns_at columns places)
  fix_places home f columns fix [] = tt
  fix_places home f columns fix (place ∷ places) =
      fix_cons home f (key_at columns place) (key_columns_at columns places)
      (λ y e. at_place home f columns fix place y e) (fix_places home f columns fix places)

  -- listed columns, and aggregates behind them
  pub fixed_listed : (home : H) (columns plain : List Column) (by : List ℕ) (fixed : List Fixed)
      → AllByRecursion HasNoAnchor plain → AllFixed Says home fixed columns
      → AllFixed Says home (named_in (key_columns_at columns by) fixed) (key_columns_at columns by ++ plain)
  fixed_listed home columns plain by fixed none all =
      let listed = key_columns_at columns by in
      all_passing (λ f. FixSays Says home f columns) (λ f. FixSays Says home f (listed ++ plain))
      (λ (f : Fixed). has_name f.column listed) fixed
      (λ f fix has. all_append (SaysNamed home f) listed plain (fix_places home f columns fix by)
      (fix_plain home f plain none)) all

  -- keys, and items behind them
  pub fixed_keys : (home : H) (columns plain : List Column) (fixed : List Fixed) → AllByRecursion HasNoAnchor plain
      → AllFixed Says home fixed columns
      → AllFixed Says home (named_in (key_columns columns) fixed) (key_columns columns ++ plain)
  fixed_keys home columns plain fixed none all =
      let keys = key_columns columns in
      all_passing (λ f. FixSays Says home f columns) (λ f. FixSays Says home f (keys ++ plain))
      (λ (f : Fixed). has_name f.column keys) fixed
      (λ f fix has. all_append (SaysNamed home f) keys plain
      (all-filter (SaysNamed home f) (λ (c : Column). c.key) columns fix) (fix_plain home f plain none)) all

  -- ---- what both sides fix alike

  fixed_alike : (home : H) (f g : Fixed) (columns : List Column) → same_fixed f g ≡ true → FixSays Says home g columns
      → FixSays Says home f columns
  fixed_alike home f g columns same fix =
      let parts = and_both (same_text f.column g.column) (same_field f.value g.value) same in
      let name : f.column ≡ g.column = (same_text-Decides f.column g.column).0 parts.0 in
      let value : f.value ≡ g.value = (same_field-Decides f.value g.value).0 parts.1 in
      let whole : g ≡ f = λ i. record { column = sym name i; value = sym value i } in
      subst (λ (k : Fixed). FixSays Says home k columns) whole fix

  there_by : (home : H) (f g : Fixed) (columns : List Column) (b rest : Bool) → same_fixed f g ≡ b
      → (b || rest) ≡ true → FixSays Says home g columns → (rest ≡ true → FixSays Says home f columns)
      → FixSays Says home f columns
  there_by home f g columns true rest e any own more = fixed_alike home f g columns e own
  there_by home f g columns false rest e any own more = more any

  fixed_there : (home : H) (f : Fixed) (columns : List Column) (fixed : List Fixed)
      → list_any (same_fixed f) fixed ≡ true → AllFixed Says home fixed columns → FixSays Says home f columns
  fixed_there home f columns [] any all = absurd cc
  fixed_there home f columns (g ∷ fixed) any all =
      there_by home f g columns (same_fixed f g) (list_any (same_fixed f) fixed) refl any all.0
      (λ rest. fixed_there home f columns fixed rest all.1)

  -- ---- the column of a name

  -- what a home says of a column that was found by its name
  abbrev FoundSays : H → Fixed → Option Column → Type 0
  FoundSays home f None = ⊥
  FoundSays home f (Some column) = SaysIf Says home column.anchor (field_as_value f.value)

  found_by : (home : H) (f : Fixed) (c : Column) (rest : Option Column) (b has : Bool) → (b || has) ≡ true
      → (b ≡ true → SaysIf Says home c.anchor (field_as_value f.value)) → (has ≡ true → FoundSays home f rest)
      → FoundSays home f (cond b (Some c) rest)
  found_by home f c rest true has any own more = own refl
  found_by home f c rest false has any own more = more any

  found_says : (home : H) (f : Fixed) (columns : List Column) → has_name f.column columns ≡ true
      → FixSays Says home f columns → FoundSays home f (find (λ (c : Column). same_text f.column c.name) columns)
  found_says home f [] has fix = absurd cc
  found_says home f (c ∷ cs) has fix =
      found_by home f c (find (λ (d : Column). same_text f.column d.name) cs) (same_text f.column c.name)
      (has_name f.column cs) has fix.0 (λ more. found_says home f cs more fix.1)

  named_says : (home : H) (f : Fixed) (columns : List Column) → has_name f.column columns ≡ true
      → FixSays Says home f columns → FoundSays home f (column_named f.column columns)
  named_says home f columns has fix =
      subst (FoundSays home f) (find_at (λ (c : Column). same_text f.column c.name) columns)
      (found_says home f columns has fix)

module _ {H : Type 0} (Says : H → Anchor → Value → Type 0) (held : SchemaLists)
    (at_least : (home : H) (a : Anchor) (x : Value) → is_location_anchor held a ≡ true → Says home a x
    → Says home anchor.Location x)
    (alike : (home : H) (a b : Anchor) (x : Value) → same_anchor a b ≡ true → Says home b x → Says home a x) where
  -- ---- joins

  left_less : (home : H) (rights : List Column) (c : Column) (x : Value) → SaysIf Says home c.anchor x
      → SaysIf Says home (left_column held rights c).anchor x
  left_less home rights c x says =
      pair_homes.joined_says Says held at_least alike home c (column_named c.name rights) x says

  -- columns of the right alone don't have a name of the left
  own_columns : (home : H) (f : Fixed) (lefts rights : List Column) → has_name f.column lefts ≡ true
      → FixSays Says home f (map as_joined (right_columns lefts rights))
  own_columns home f lefts rights has =
      fix_mapped Says home f as_joined (λ c. refl) (λ c x says. says) (right_columns lefts rights)
      (all_passing (λ c. Unit {0}) (SaysNamed Says home f) (λ (c : Column). not (has_name c.name lefts)) rights
      (λ c t out e.
      let here : has_name c.name lefts ≡ true =
      subst (λ n. has_name n lefts ≡ true) ((same_text-Decides f.column c.name).0 e) has in
      absurd (not_here (has_name c.name lefts) out here)) (units rights))
    where
      not_here : (b : Bool) → not b ≡ true → b ≡ true → ⊥
      not_here true out here = cc
      not_here false out here = cc

  pub joined_from_left : (home : H) (lefts rights : List Column) (fixed : List Fixed)
      → AllFixed Says home fixed lefts
      → AllFixed Says home (named_in lefts fixed) (join_columns held lefts rights)
  joined_from_left home lefts rights fixed all =
      all_passing (λ f. FixSays Says home f lefts) (λ f. FixSays Says home f (join_columns held lefts rights))
      (λ (f : Fixed). has_name f.column lefts) fixed
      (λ f fix has. all_append (SaysNamed Says home f) (map (left_column held rights) lefts)
      (map as_joined (right_columns lefts rights))
      (fix_mapped Says home f (left_column held rights) (left_name held rights) (left_less home rights) lefts fix)
      (own_columns home f lefts rights has)) all

  from_right : (home : H) (f : Fixed) (rights : List Column) → has_name f.column rights ≡ true
      → FixSays Says home f rights → (c : Column) → SaysNamed Says home f (left_column held rights c)
  from_right home f rights has fix c e =
      let name : f.column ≡ c.name =
      (same_text-Decides f.column (left_column held rights c).name).0 e ∙ left_name held rights c in
      by_common (column_named c.name rights)
      (subst (λ n. FoundSays Says home f (column_named n rights)) name (named_says Says home f rights has fix))
    where
      by_common : (o : Option Column) → FoundSays Says home f o
          → SaysIf Says home (as_joined (unwrap_or (option_map (anchored_with held c) o) c)).anchor
          (field_as_value f.value)
      by_common None says = absurd says
      by_common (Some d) says =
          pair_homes.right_anchor Says held at_least alike home c.anchor d.anchor (field_as_value f.value) says

  pub joined_from_right : (home : H) (lefts rights : List Column) (fixed : List Fixed)
      → AllFixed Says home fixed rights
      → AllFixed Says home (named_in rights fixed) (join_columns held lefts rights)
  joined_from_right home lefts rights fixed all =
      all_passing (λ f. FixSays Says home f rights) (λ f. FixSays Says home f (join_columns held lefts rights))
      (λ (f : Fixed). has_name f.column rights) fixed
      (λ f fix has. all_append (SaysNamed Says home f) (map (left_column held rights) lefts)
      (map as_joined (right_columns lefts rights))
      (all-made (λ c. Unit {0}) (SaysNamed Says home f) (left_column held rights) lefts
      (λ c t. from_right home f rights has fix c) (units lefts))
      (fix_mapped Says home f as_joined (λ c. refl) (λ c x says. says) (right_columns lefts rights)
      (all-filter (SaysNamed Says home f) (λ (c : Column). not (has_name c.name lefts)) rights fix))) all

  -- ---- unions

  united_left : (home : H) (f : Fixed) (lefts rights : List Column) → same_columns lefts rights ≡ true
      → FixSays Says home f lefts → FixSays Says home f (union_columns held lefts rights)
  united_left home f [] rights same fix = tt
  united_left home f (l ∷ ls) [] same fix = absurd cc
  united_left home f (l ∷ ls) (r ∷ rs) same fix = (
    λ e. pair_homes.left_anchor Says held at_least alike home l.anchor r.anchor (field_as_value f.value) (fix.0 e),
    united_left home f ls rs (and_both (same_column l r) (same_columns ls rs) same).1 fix.1,
  )

  united_right : (home : H) (f : Fixed) (lefts rights : List Column) → same_columns lefts rights ≡ true
      → FixSays Says home f rights → FixSays Says home f (union_columns held lefts rights)
  united_right home f [] rights same fix = tt
  united_right home f (l ∷ ls) [] same fix = absurd cc
  united_right home f (l ∷ ls) (r ∷ rs) same fix =
      let parts = and_both (same_column l r) (same_columns ls rs) same in
      let name : l.name ≡ r.name =
      (same_text-Decides l.name r.name).0 (and_both (same_text l.name r.name) _ parts.0).0 in (
        λ e. pair_homes.right_anchor Says held at_least alike home l.anchor r.anchor (field_as_value f.value)
            (fix.0 (subst (λ n. same_text f.column n ≡ true) name e)),
        united_right home f ls rs parts.1 fix.1,
      )

  pub both_left : (home : H) (lefts rights : List Column) → same_columns lefts rights ≡ true
      → (fixed others : List Fixed) → AllFixed Says home fixed lefts
      → AllFixed Says home (fixed_in_both fixed others) (union_columns held lefts rights)
  both_left home lefts rights same fixed others all =
      all_passing (λ f. FixSays Says home f lefts) (λ f. FixSays Says home f (union_columns held lefts rights))
      (λ (f : Fixed). list_any (same_fixed f) others) fixed
      (λ f fix any. united_left home f lefts rights same fix) all

  pub both_right : (home : H) (lefts rights : List Column) → same_columns lefts rights ≡ true
      → (fixed others : List Fixed) → AllFixed Says home others rights
      → AllFixed Says home (fixed_in_both fixed others) (union_columns held lefts rights)
  both_right home lefts rights same fixed others all =
      all_passing (λ f. Unit {0}) (λ f. FixSays Says home f (union_columns held lefts rights))
      (λ (f : Fixed). list_any (same_fixed f) others) fixed
      (λ f t any. united_right home f lefts rights same (fixed_there Says home f rights others any all)) (units fixed)
