use Rattle.std.proofs.Common.{◌≡◌, List, [], ◌∷◌, refl, string_bytes, codes, map, rules, ap, ◌∙◌, ◌++◌}
use Rattle.std.proofs.lemmas.Result.{on_ok_weaker}
use Rattle.mql_ast.specs.Trees.{item_tree}
use Rattle.mql_ast.specs.Printed.{separated_texts, comma, item_text}
use Rattle.mql_ast.specs.declared.operations.Item.{Item}
use Rattle.mql_ast.specs.contracts.printing.lists.ItemPrint.TheImpl.{text-value}
use Rattle.mql_ast.proofs.Chains.{three}
use Rattle.mql_ast.proofs.printing.operations.print_value.Goals as goal

-- the texts of items, by what prints them and by their trees
items_listed : (items : List Item) → map text-value.it items ≡ map item_text (map item_tree items)
items_listed [] = refl
items_listed (item ∷ items) = ap (λ t. item_text (item_tree item) ∷ t) (items_listed items)

pub returns : goal.returns
returns c = record {
  text = on_ok_weaker c.push_str-2.result
      (λ e. three (codes "value [") (separated_texts comma (map item_text (map item_tree c.args.items.now))) (codes "]")
      (string_bytes c.args.out.now) (string_bytes c.push_str.new.self) (string_bytes c.print_list.new.out)
      (string_bytes c.push_str-2.new.self)
      c.in_ok-push_str.ensures.bytes (c.in_ok-print_list.ensures.text ∙ ap (λ t. string_bytes c.push_str.new.self
      ++ separated_texts comma t) (items_listed c.args.items.now)) e)
      (search rules);
}
