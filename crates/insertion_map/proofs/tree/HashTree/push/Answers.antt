use Rattle.std.proofs.Common.{◌≡◌, ◌∷◌, [], ◌++◌, ℕ, List, length, slice_set, sym, ap, ◌∙◌, subst, arith}
use Rattle.std.proofs.lemmas.List.{nil_from_length}
use Rattle.std.proofs.lemmas.Option.{get_or_from_slice_get}
use Rattle.insertion_map.specs.declared.tree.Node.{Node}
use Rattle.insertion_map.specs.Tree.{hashes_of, hung, EndsAt, IsTree}
use Rattle.insertion_map.proofs.TreeLemmas.{hashes-push, hashes-set, hung-hash, leaf, IsTree-first, IsTree-pushed}
use Rattle.insertion_map.proofs.tree.HashTree.push.Goals.{then-number-gt0, else-number-gt0}
use Rattle.insertion_map.proofs.tree.HashTree.push.Goals as goal

pub invariant_of-self : goal.invariant_of-self
invariant_of-self c = elim c.if-number-gt0.branch [
  | then-number-gt0 w ↦
      let nodes : List Node = c.self.inside.nodes.items in
      let count : length c.as_slice-nodes.result.now ≡ length nodes = ap length c.as_slice-nodes.ensures.value in
      let place : ℕ = w.end_of_path-place.result.0 in
      let bits : ℕ = w.end_of_path-place.result.1 in
      let ends : EndsAt nodes c.args.hash place bits =
      subst (λ l. EndsAt l c.args.hash place bits) c.as_slice-nodes.ensures.value w.end_of_path-place.ensures in
      let read = w.index_mut.ensures.value
      ∙ get_or_from_slice_get nodes place ends.last.0 w.index_mut.result.now ends.last.1 in
      let node : w.hang.new.self ≡ hung ends.last.0 bits (length nodes) =
      w.hang.ensures ∙ (λ i. hung (read i) bits (count i)) in
      let is = c.push_reserved.ensures.items ∙ ap (λ s. s.nodes.items ++ leaf c.args.hash ∷ []) w.self-inside-is
      ∙ ap (λ (n : Node). slice_set nodes place n ++ leaf c.args.hash ∷ []) node in
      subst IsTree (sym is) (IsTree-pushed nodes c.args.hash place bits ends.last.0 c.self.invariant ends ends.last.1)
  | else-number-gt0 w ↦
      let nodes : List Node = c.self.inside.nodes.items in
      let count : length c.as_slice-nodes.result.now ≡ length nodes = ap length c.as_slice-nodes.ensures.value in
      let none : nodes ≡ [] = nil_from_length nodes (omega (arith, count, w.if-number-gt0.false)) in
      let is = c.push_reserved.ensures.items ∙ ap (λ s. s.nodes.items ++ leaf c.args.hash ∷ []) w.self-inside-is
      ∙ ap (λ (l : List Node). l ++ leaf c.args.hash ∷ []) none in
      subst IsTree (sym is) (IsTree-first c.args.hash)
]

pub returns-clause-hashes : goal.returns-clause-hashes
returns-clause-hashes c = elim c.if-number-gt0.branch [
  | then-number-gt0 w ↦
      let nodes : List Node = c.self.inside.nodes.items in
      let count : length c.as_slice-nodes.result.now ≡ length nodes = ap length c.as_slice-nodes.ensures.value in
      let place : ℕ = w.end_of_path-place.result.0 in
      let bits : ℕ = w.end_of_path-place.result.1 in
      let ends : EndsAt nodes c.args.hash place bits =
      subst (λ l. EndsAt l c.args.hash place bits) c.as_slice-nodes.ensures.value w.end_of_path-place.ensures in
      let read = w.index_mut.ensures.value
      ∙ get_or_from_slice_get nodes place ends.last.0 w.index_mut.result.now ends.last.1 in
      let node : w.hang.new.self ≡ hung ends.last.0 bits (length nodes) =
      w.hang.ensures ∙ (λ i. hung (read i) bits (count i)) in
      let is = c.push_reserved.ensures.items ∙ ap (λ s. s.nodes.items ++ leaf c.args.hash ∷ []) w.self-inside-is
      ∙ ap (λ (n : Node). slice_set nodes place n ++ leaf c.args.hash ∷ []) node in
      ap hashes_of is
      ∙ hashes-push (slice_set nodes place (hung ends.last.0 bits (length nodes))) (leaf c.args.hash)
      ∙ ap (λ hs. hs ++ c.args.hash ∷ [])
      (hashes-set nodes place ends.last.0 (hung ends.last.0 bits (length nodes)) ends.last.1
      (hung-hash ends.last.0 bits (length nodes)))
      ∙ ap (λ t. t.0 ++ c.args.hash ∷ []) c.self.view_is
  | else-number-gt0 w ↦
      let nodes : List Node = c.self.inside.nodes.items in
      let count : length c.as_slice-nodes.result.now ≡ length nodes = ap length c.as_slice-nodes.ensures.value in
      let none : nodes ≡ [] = nil_from_length nodes (omega (arith, count, w.if-number-gt0.false)) in
      let is = c.push_reserved.ensures.items ∙ ap (λ s. s.nodes.items ++ leaf c.args.hash ∷ []) w.self-inside-is
      ∙ ap (λ (l : List Node). l ++ leaf c.args.hash ∷ []) none in
      ap hashes_of is ∙ ap (λ (l : List Node). hashes_of l ++ c.args.hash ∷ []) (sym none)
      ∙ ap (λ t. t.0 ++ c.args.hash ∷ []) c.self.view_is
]
