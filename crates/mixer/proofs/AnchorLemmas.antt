-- Anchors that are the same, and columns that are found by a test.
use Rattle.std.proofs.Common.{◌≡◌, ◌||◌, ◌==◌, ℕ, Bool, true, false, cond, Option, Some, List, [], ◌∷◌, refl, sym}
use Rattle.std.proofs.Common.{subst}
use Rattle.std.specs.List.{list_any}
use Rattle.std.proofs.lemmas.Bool.{eqb-true}
use Rattle.mon_value.specs.Same.{same_text}
use Rattle.mon_value.specs.declared.columns.Anchor.{Anchor}
use Rattle.mon_value.specs.declared.columns.Anchor.TheVariants as anchor
use Rattle.mon_value.specs.declared.columns.Column.{Column}
use Rattle.mon_value.specs.declared.schemas.TargetSchema.{TargetSchema}
use Rattle.mon_value.specs.declared.values.Value.{Value}
use Rattle.mon_value.proofs.SameLemmas.{same_text-Decides}
use Rattle.mon_schema.specs.Names.{target_named}
use Rattle.typed_trees.specs.Levels.{same_anchor}
use Rattle.mixer.proofs.HeldCells.{Holds, SaysIf}
use Rattle.mon_value.proofs.PlainLemmas.{nothing_is, and_both, same_item}

pub same_anchor-is : (a b : Anchor) → same_anchor a b ≡ true → a ≡ b
same_anchor-is (anchor.Field s f) (anchor.Field o p) e =
    let parts = and_both (same_text s o) (f == p) e in
    let schema : s ≡ o = (same_text-Decides s o).0 parts.0 in
    let field : f ≡ p = eqb-true f p parts.1 in
    λ i. anchor.Field (schema i) (field i)
same_anchor-is (anchor.Field s f) anchor.Location e = absurd cc
same_anchor-is anchor.Location (anchor.Field o p) e = absurd cc
same_anchor-is anchor.Location anchor.Location e = refl

named_by : (b : Bool) (name : List ℕ) (first found : TargetSchema) (rest : Option TargetSchema)
    → (b ≡ true → name ≡ first.name) → (rest ≡ Some found → found.name ≡ name)
    → cond b (Some first) rest ≡ Some found → found.name ≡ name
named_by true name first found rest own more e =
    let same : first ≡ found = same_item first found e in
    subst (λ (s : TargetSchema). s.name ≡ name) same (sym (own refl))
named_by false name first found rest own more e = more e

-- the schema of a name has that name
pub name_is : (name : List ℕ) (schemas : List TargetSchema) (found : TargetSchema)
    → target_named name schemas ≡ Some found → found.name ≡ name
name_is name [] found e = absurd (nothing_is found e)
name_is name (first ∷ schemas) found e =
    named_by (same_text name first.name) name first found (target_named name schemas)
    (λ t. (same_text-Decides name first.name).0 t) (λ rest. name_is name schemas found rest) e

module _ {H : Type 0} (Says : H → Anchor → Value → Type 0) where
  -- a column that passes a test, with a cell of which two homes say what it holds
  pub record Found (home other : H) (p : Column → Bool) : Type 0 where
    pub column : Column
    pub cell : Value
    pub passes : p column ≡ true
    pub left : SaysIf Says home column.anchor cell
    pub right : SaysIf Says other column.anchor cell

  found_by : (home other : H) (p : Column → Bool) (c : Column) (x : Value) (b rest : Bool) → p c ≡ b
      → (b || rest) ≡ true → SaysIf Says home c.anchor x → SaysIf Says other c.anchor x
      → (rest ≡ true → Found home other p) → Found home other p
  found_by home other p c x true rest e any left right more =
      record { column = c; cell = x; passes = e; left = left; right = right }
  found_by home other p c x false rest e any left right more = more any

  pub found_in : (home other : H) (p : Column → Bool) (columns : List Column) (cells : List Value)
      → Holds Says home columns cells → Holds Says other columns cells → list_any p columns ≡ true
      → Found home other p
  found_in home other p [] cells left right any = absurd cc
  found_in home other p (c ∷ cs) [] left right any = absurd left
  found_in home other p (c ∷ cs) (x ∷ xs) left right any =
      found_by home other p c x (p c) (list_any p cs) refl any left.0 right.0
      (λ rest. found_in home other p cs xs left.1 right.1 rest)
