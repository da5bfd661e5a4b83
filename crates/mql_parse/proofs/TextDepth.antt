-- A text is too deep exactly where more levels would let it go on.
use Rattle.std.proofs.Common.{◌≡◌, ℕ, ◌+◌, ◌<◌, ◌≤◌, Bool, true, false, ◌==◌, List, [], ◌∷◌, ◌++◌, length, take, drop}
use Rattle.std.proofs.Common.{refl, sym, ap, ◌∙◌, subst, arith, if◌then◌else◌, Result, Ok, Err}
use Rattle.std.specs.Result.{IfOk, IfErr}
use Rattle.std.proofs.lemmas.List.{take-append-drop, take-take}
use Rattle.mon_value.specs.Answers.{◌>>=◌, GivesView}
use Rattle.mon_value.specs.declared.refusals.Refusal.{Refusal}
use Rattle.mon_value.specs.declared.refusals.Refusal.TheVariants as refusal
use Rattle.mql_ast.specs.declared.pipes.Query.{Query}
use Rattle.mql_ast.specs.Trees.{PipeTree, query_tree}
use Rattle.mql_ast.specs.Tokens.{Rest, skip}
use Rattle.mql_ast.specs.Grammar.{start, levels, longest_text}
use Rattle.mql_parse.specs.declared.faults.ParseFault.{ParseFault}
use Rattle.mql_parse.specs.declared.faults.ParseKind.TheVariants.{Expected}
use Rattle.mql_parse.specs.declared.faults.What.TheVariants as what
use Rattle.mql_parse.specs.Outcomes.{Outcome, fault, unexpected_fault}
use Rattle.mql_parse.specs.PipeReading.{pipe, behind_query, query_end_in, query_end, query_within, query, text_outcome}
use Rattle.mql_parse.specs.Faults.{FaultOf}
use Rattle.mql_parse.specs.FaultDepths.{SpellsWithin, BeginsWithin, DepthKind}
use Rattle.mql_parse.specs.Steadiness.{next, Reaches}
use Rattle.mql_parse.proofs.Shallow.{unexpected_kind}
use Rattle.mql_parse.proofs.Deepens.{ByKind, by_kind, by_other, other_kind, Deepens}
use Rattle.mql_parse.proofs.PipeDepth.{pipe_deepens}
use Rattle.mql_parse.proofs.FrontEndings.{shorter_begins, fault_front_begins}
use Rattle.mql_parse.proofs.TextSound.{query_sound}
use Rattle.mql_parse.proofs.TextComplete.{query_complete}
use Rattle.mql_parse.proofs.TextSteady.{fault_place_is_last, text_fault}

-- a tree, or a fault at this place or behind it
abbrev GoesTo : ℕ → Result PipeTree ParseFault → Type 0
GoesTo n o = IfErr o (λ f. n ≤ f.at)

-- the same tree, the same fault, or what goes on behind the byte of a fault of the depth
abbrev TreeDeepensIn : Result PipeTree ParseFault → Result PipeTree ParseFault → Type 0
TreeDeepensIn (Ok tree) p = p ≡ Ok tree
TreeDeepensIn (Err f) p = ByKind f.kind (GoesTo (f.at + 1) p) (p ≡ Err f)

record TreeDeepens (o p : Result PipeTree ParseFault) : Type 0 where
  way : TreeDeepensIn o p

end_deepens : (tree : PipeTree) (r : Rest) (bs : List ℕ) →
    TreeDeepens (query_end_in tree r bs) (query_end_in tree r bs)
end_deepens tree r [] = record { way = refl }
end_deepens tree r (b ∷ bs) =
    let f = unexpected_fault (behind_query tree) (skip r) in
    record {
      way = by_other (GoesTo (f.at + 1) (Err f)) f.kind (unexpected_kind (behind_query tree) (skip r).bytes) refl;
    }

end_goes : (n : ℕ) (tree : PipeTree) (r : Rest) (bs : List ℕ) → n ≤ next r → GoesTo n (query_end_in tree r bs)
end_goes n tree r [] h = tt
end_goes n tree r (b ∷ bs) h = h

pipe_goes : (n : ℕ) (p : Outcome PipeTree) → Reaches next n p → GoesTo n (p >>= query_end)
pipe_goes n (Ok (tree, r)) h = end_goes n tree r r.bytes h
pipe_goes n (Err f) h = h

pipe_end_deepens : (o p : Outcome PipeTree) → Deepens next o p → TreeDeepens (o >>= query_end) (p >>= query_end)
pipe_end_deepens (Ok (tree, r)) p h =
    subst (λ z. TreeDeepens (query_end (tree, r)) (z >>= query_end)) (sym h.way) (end_deepens tree r r.bytes)
pipe_end_deepens (Err f) p h =
    record { way = by_kind f.kind (pipe_goes (f.at + 1) p) (ap (λ z. z >>= query_end)) h.way }

query_deepens : (d e : ℕ) → d < e → (text : List ℕ) → TreeDeepens (query_within d text) (query_within e text)
unfolding query_within
query_deepens d e l text = either ((skip (start text)).at == 0)
  where
    none : Result PipeTree ParseFault
    none = Err (fault (Expected what.Fetch) (start text))

    either : (t : Bool) → TreeDeepens (if t then (pipe d (start text) >>= query_end) else none)
        (if t then (pipe e (start text) >>= query_end) else none)
    either true = pipe_end_deepens (pipe d (start text)) (pipe e (start text)) (pipe_deepens d e l (start text))
    either false = record { way = refl }

-- what more levels give where fewer were at fault, and where they were not
fault_deepens : (d e : ℕ) → d < e → (text : List ℕ) (f : ParseFault) → query_within d text ≡ Err f →
    ByKind f.kind (GoesTo (f.at + 1) (query_within e text)) (query_within e text ≡ Err f)
fault_deepens d e l text f h =
    let deep : TreeDeepens (Err f) (query_within e text) =
    subst (λ o. TreeDeepens o (query_within e text)) h (query_deepens d e l text) in
    deep.way

tree_deepens : (d e : ℕ) → d < e → (text : List ℕ) (tree : PipeTree) → query_within d text ≡ Ok tree →
    query_within e text ≡ Ok tree
tree_deepens d e l text tree h =
    let deep : TreeDeepens (Ok tree) (query_within e text) =
    subst (λ o. TreeDeepens o (query_within e text)) h (query_deepens d e l text) in
    deep.way

-- what is read is spelled
abbrev IsSpelled : ℕ → List ℕ → Result PipeTree ParseFault → Type 0
IsSpelled d text o = IfOk o (λ tree. SpellsWithin d tree text)

read_spells : (d : ℕ) (text : List ℕ) (tree : PipeTree) → query_within d text ≡ Ok tree → SpellsWithin d tree text
read_spells d text tree h =
    let sound : IsSpelled d text (Ok tree) = subst (IsSpelled d text) h (query_sound d text) in sound

-- fronts of what begins a text begin it too
front_begins : (d n m : ℕ) (text : List ℕ) → n ≤ m → BeginsWithin d (take m text) → BeginsWithin d (take n text)
front_begins d n m text l b =
    shorter_begins d (take n text) (drop n (take m text))
    (subst (BeginsWithin d) (sym (take-append-drop n (take m text)) ∙
    ap (λ v. v ++ drop n (take m text)) (take-take n m text l)) b)

whole_begins : (d n : ℕ) (text : List ℕ) (tree : PipeTree) → SpellsWithin d tree text → BeginsWithin d (take n text)
whole_begins d n text tree s =
    record { more = drop n text; tree = tree; spelled = subst (SpellsWithin d tree) (sym (take-append-drop n text)) s }

goes_begins : (d n : ℕ) (text : List ℕ) (o : Result PipeTree ParseFault) → query_within d text ≡ o → GoesTo n o →
    BeginsWithin d (take n text)
goes_begins d n text (Ok tree) e h = whole_begins d n text tree (read_spells d text tree e)
goes_begins d n text (Err g) e h = front_begins d n g.at text h (fault_front_begins d text g e)

-- a text that begins one of so many levels begins one of more
more_begin : (d e : ℕ) → d < e → (front : List ℕ) → BeginsWithin d front → BeginsWithin e front
more_begin d e l front b =
    let text = front ++ b.more in
    record {
      more = b.more;
      tree = b.tree;
      spelled = read_spells e text b.tree (tree_deepens d e l text b.tree (query_complete d text b.tree b.spelled));
    }

depth_of : (text : List ℕ) (f : ParseFault) → query text ≡ Err f → DepthKind text f
depth_of text f h = record {
  too_deep = λ deep d l. goes_begins d (f.at + 1) text (query_within d text) refl
      (subst (λ kind. ByKind kind (GoesTo (f.at + 1) (query_within d text)) (query_within d text ≡ Err f)) deep
      (fault_deepens levels d l text f h));
  other = λ not_deep within d b.
      let e = levels + d + 1 in
      fault_place_is_last e text f
      (other_kind (GoesTo (f.at + 1) (query_within e text)) f.kind not_deep
      (fault_deepens levels e (omega arith) text f h)) within
      (more_begin d e (omega arith) (take (f.at + 1) text) b);
}

-- the kind of the fault that is given for a text, by its depth
pub fault_depth : (text : List ℕ) (result : Result Query (Refusal ParseFault)) → GivesView query_tree result
    (text_outcome text) → length text ≤ longest_text → IfErr result (FaultOf (DepthKind text))
fault_depth text (Ok q) h fits = tt
fault_depth text (Err (refusal.Fault f)) h fits = depth_of text f (text_fault text f fits h)
fault_depth text (Err refusal.OutOfMemory) h fits = tt
