-- A text that a tree spells is read as that tree.
use Rattle.std.proofs.Common.{◌≡◌, ℕ, ◌==◌, List, [], length, sym, ap, ◌∙◌, subst, Result, Ok}
use Rattle.std.specs.Prelude.{nat_lt}
use Rattle.std.proofs.lemmas.Bool.{le-ltb}
use Rattle.mon_value.specs.Answers.{GivesView}
use Rattle.mon_value.specs.declared.refusals.Refusal.{Refusal}
use Rattle.mql_ast.specs.declared.pipes.Query.{Query}
use Rattle.mql_ast.specs.Trees.{PipeTree, query_tree}
use Rattle.mql_ast.specs.Tokens.{is_blank, Rest, first_of, head, skip}
use Rattle.mql_ast.specs.Grammar.{start, levels, longest_text, SpellsAtLength, Spells}
use Rattle.mql_parse.specs.declared.faults.ParseFault.{ParseFault}
use Rattle.mql_parse.specs.FaultDepths.{SpellsWithin}
use Rattle.mql_parse.specs.PipeReading as pipes
use Rattle.mql_parse.proofs.RestLemmas.{skip_off}
use Rattle.mql_parse.proofs.Complete.{bound}
use Rattle.mql_parse.proofs.PipeComplete.{PipeEnds, pipe_read}
use Rattle.mql_parse.proofs.ByteLemmas.{if_true, if_false}

-- nothing is left, and so no pipe goes on
pub end_ends : (r : Rest) → r.bytes ≡ [] → PipeEnds r
end_ends r e =
    let nothing : head r ≡ 0 = ap first_of e in
    let nothing_behind : head (skip r) ≡ 0 = ap head (skip_off r (ap is_blank nothing)) ∙ nothing in
    (ap (λ b. b == 124) nothing_behind, (ap (λ b. b == 38) nothing_behind, ap (λ b. b == 44) nothing_behind))

pub query_complete : (d : ℕ) (text : List ℕ) (tree : PipeTree) → SpellsWithin d tree text →
    pipes.query_within d text ≡ Ok tree
unfolding pipes.query_within
query_complete d text tree s =
    if_true ((skip (start text)).at == 0) _ _ (ap (λ r. r.at == 0) s.begins)
    ∙ bound (pipes.pipe d (start text)) pipes.query_end (tree, s.end) _
    (pipe_read s.whole (end_ends s.end s.ended)) (ap (pipes.query_end_in tree s.end) s.ended)

-- the levels of a query
pub within_levels : (tree : PipeTree) (text : List ℕ) → SpellsAtLength tree text → SpellsWithin levels tree text
within_levels tree text s = record { begins = s.begins; end = s.end; whole = s.whole; ended = s.ended }

pub text_complete : (text : List ℕ) (tree : PipeTree) → Spells tree text → pipes.text_outcome text ≡ Ok tree
unfolding pipes.text_outcome
text_complete text tree s =
    if_false (nat_lt longest_text (length text)) _ _ (le-ltb longest_text (length text) s.fits)
    ∙ query_complete levels text tree (within_levels tree text s.spelled)

-- what is given for a text is the tree that spells it
pub given_tree : (text : List ℕ) (result : Result Query (Refusal ParseFault)) →
    GivesView query_tree result (pipes.text_outcome text) → (tree : PipeTree) → Spells tree text →
    GivesView query_tree result (Ok tree)
given_tree text result h tree s = subst (λ answer. GivesView query_tree result answer) (text_complete text tree s) h

abbrev answered : PipeTree → Result PipeTree ParseFault
answered tree = Ok tree

same_tree : (one other : PipeTree) → answered one ≡ answered other → one ≡ other
same_tree one other e = cc

-- one tree at most spells a text
pub one_tree : (text : List ℕ) (one other : PipeTree) → Spells one text → Spells other text → one ≡ other
one_tree text one other s t = same_tree one other (sym (text_complete text one s) ∙ text_complete text other t)
