-- Pipes that some text spells are spelled by what they are printed as.
use Rattle.std.proofs.Common.{◌≡◌, ℕ, suc, ◌+◌, true, ◌≤◌, List, [], ◌∷◌, ◌++◌, map, codes, refl, sym, ap, ◌∙◌, subst}
use Rattle.std.proofs.Common.{arith, Some, append_assoc, append-nil}
use Rattle.std.proofs.lemmas.List.{map-append}
use Rattle.mql_ast.specs.declared.names.Name.{Name}
use Rattle.mql_ast.specs.declared.pipes.How.{How}
use Rattle.mql_ast.specs.declared.pipes.How.TheVariants as how
use Rattle.mql_ast.specs.Tokens.{is_letter, Rest, first_of, skip, keyword_at}
use Rattle.mql_ast.specs.Trees as tree
use Rattle.mql_ast.specs.Trees.{OpTree, PipeTree, SourceTree, branches}
use Rattle.mql_ast.specs.Places.{pipe_content, source_content, branches_content, SpellsButForPlaces}
use Rattle.mql_ast.specs.Printed.{ops_text, how_text, pipe_text, source_text, branches_text, further_text}
use Rattle.mql_ast.specs.Grammar.{start, levels, SpellsAtLength, how_word, Pipe, flow, Source, fetch, join, PipeList}
use Rattle.mql_ast.specs.Grammar.{two_pipes, more_pipes, Ops}
use Rattle.mql_ast.proofs.TokensPrinted.{both, regrouped, here, behind_blank, place_behind, rest_behind, sign_printed}
use Rattle.mql_ast.proofs.TokensPrinted.{word_printed, IsName, IsMetric, name_lawful, name_printed, metric_lawful}
use Rattle.mql_ast.proofs.TokensPrinted.{metric_printed}
use Rattle.mql_ast.proofs.ListsPrinted.{Prints, push_is_some}
use Rattle.mql_ast.proofs.OperationsPrinted.{ops_part, ops_end}
use Rattle.mql_ast.proofs.PredicatePrinted.{from_below}

-- how a part of a pipe is spelled where it is printed
abbrev PipePrints : ℕ → PipeTree → Type 0
PipePrints d t = Prints PipeTree (Pipe d) pipe_content t (pipe_text t)

abbrev SourcePrints : ℕ → SourceTree → Type 0
SourcePrints d t = Prints SourceTree (Source d) source_content t (source_text t)

abbrev ListPrints : ℕ → List PipeTree → Type 0
ListPrints d ps = Prints (List PipeTree) (PipeList d) (map pipe_content) ps (branches_text (branches ps))

how_same : (h : How) → how_word h ≡ how_text h
how_same how.Join = refl
how_same how.Union = refl

how_letter : (h : How) → is_letter (first_of (how_text h)) ≡ true
how_letter how.Join = refl
how_letter how.Union = refl

colons : (at : ℕ) (bytes : List ℕ) → keyword_at (codes "::") (record { at = at; bytes = 58 ∷ 58 ∷ bytes })
    ≡ Some (record { at = at + 1 + 1; bytes = bytes })
unfolding skip
colons at bytes = refl

branches_of : (ps : List PipeTree) → branches_content (branches ps) ≡ branches (map pipe_content ps)
branches_of [] = refl
branches_of (p ∷ ps) = ap (tree.Branch (pipe_content p)) (branches_of ps)

further_push : (ps : List PipeTree) (p : PipeTree) → further_text (branches (ps ++ p ∷ [])) ≡ further_text
    (branches ps) ++ (codes "; " ++ pipe_text p)
further_push [] p = ap (λ t. codes "; " ++ t) (append-nil (pipe_text p))
further_push (q ∷ qs) p = ap (λ t. codes "; " ++ (pipe_text q ++ t)) (further_push qs p) ∙ ap (λ t. codes "; " ++ t)
    (sym (append_assoc (pipe_text q) (further_text (branches qs)) (codes "; " ++ pipe_text p)))

pub branches_push : (ps : List PipeTree) (p : PipeTree) → (ps ≡ [] → ⊥) → branches_text (branches (ps ++ p ∷ []))
    ≡ branches_text (branches ps) ++ (codes "; " ++ pipe_text p)
branches_push [] p h = absurd (h refl)
branches_push (q ∷ qs) p h = ap (λ t. pipe_text q ++ t) (further_push qs p)
    ∙ sym (append_assoc (pipe_text q) (further_text (branches qs)) (codes "; " ++ pipe_text p))

fetch_part : (d at : ℕ) (n w : Name) → IsName n.text → IsMetric w.text → SourcePrints d (tree.Fetch at n w)
fetch_part d at n w name metric s rest ends from =
    let last = w.text ++ rest in
    let text = n.text ++ (58 ∷ 58 ∷ last) in
    let f = regrouped from (ap (λ t. codes "fetch " ++ t) (append_assoc n.text (codes "::" ++ w.text) rest)) in
    let m = rest_behind f.at (codes "fetch") (32 ∷ text) in
    let b = behind_blank m.at text in
    let k = rest_behind b.at n.text (58 ∷ 58 ∷ last) in
    let j : Rest = record { at = k.at + 1 + 1; bytes = last } in
    record {
      at = place_behind j.at w.text;
      placed = tree.Fetch (skip s).at (record { at = b.at; text = n.text }) (record { at = j.at; text = w.text });
      same = refl;
      spelled = fetch (word_printed (codes "fetch") refl s m.bytes f) refl (name_printed n.text name m (58 ∷ 58 ∷ last)
          refl b) (colons k.at last) (metric_printed w.text metric j rest ends (here j.at last));
    }

flow_part : (d : ℕ) (t : SourceTree) → SourcePrints d t → {e : ℕ} {m r : Rest} {ops : List OpTree} → Ops e m r ops
    → e ≤ d → PipePrints d (tree.Flow t ops)
flow_part d t source {ops = ops} O low s rest ends from =
    let last = ops_text ops ++ rest in
    let a = source s last (ops_end ops rest ends) (regrouped from (append_assoc (source_text t) (ops_text ops) rest)) in
    let b = ops_part O d low a.at last rest ends refl in
    record {
      at = b.at;
      placed = tree.Flow a.placed b.placed;
      same = both tree.Flow a.same b.same;
      spelled =
          flow a.spelled b.spelled;
    }

join_part : (d at how_at : ℕ) (ps : List PipeTree) (h : How) → ListPrints d ps → SourcePrints (suc d)
    (tree.Branches at (branches ps) h how_at)
join_part d at how_at ps h list s rest ends from =
    let text = branches_text (branches ps) in
    let word = how_text h ++ rest in
    let f = regrouped from (ap (λ t. 123 ∷ t) (append_assoc text (codes "} | " ++ how_text h) rest)) in
    let m : Rest = record { at = f.at + 1; bytes = text ++ (125 ∷ 32 ∷ 124 ∷ 32 ∷ word) } in
    let a = list m (125 ∷ 32 ∷ 124 ∷ 32 ∷ word) refl (here m.at m.bytes) in
    let k : Rest = record { at = a.at; bytes = 125 ∷ 32 ∷ 124 ∷ 32 ∷ word } in
    let j : Rest = record { at = a.at + 1; bytes = 32 ∷ 124 ∷ 32 ∷ word } in
    let i : Rest = record { at = j.at + 1 + 1; bytes = 32 ∷ word } in
    let b = behind_blank i.at word in
    record {
      at = place_behind b.at (how_text h);
      placed = tree.Branches (skip s).at (branches a.placed) h (skip i).at;
      same = ap (λ all. tree.Branches 0 all h 0) (branches_of a.placed ∙ ap branches a.same ∙ sym (branches_of ps));
      spelled = join (sign_printed 123 refl refl s m.bytes f) a.spelled (sign_printed 125 refl refl k j.bytes
          (here k.at k.bytes)) (sign_printed 124 refl refl j i.bytes (behind_blank j.at (124 ∷ i.bytes)))
          (ap (λ t. keyword_at t i) (how_same h) ∙ word_printed (how_text h) (how_letter h) i rest b);
    }

two_part : (d : ℕ) (p q : PipeTree) → PipePrints d p → PipePrints d q → ListPrints d (p ∷ q ∷ [])
two_part d p q f g s rest ends from =
    let last = pipe_text q ++ rest in
    let text = append_assoc (pipe_text p) (codes "; " ++ (pipe_text q ++ [])) rest
    ∙ ap (λ t. pipe_text p ++ (59 ∷ 32 ∷ (t ++ rest))) (append-nil (pipe_text q)) in
    let a = f s (59 ∷ 32 ∷ last) refl (regrouped from text) in
    let m : Rest = record { at = a.at; bytes = 59 ∷ 32 ∷ last } in
    let k : Rest = record { at = a.at + 1; bytes = 32 ∷ last } in
    let b = g k rest ends (behind_blank k.at last) in
    record {
      at = b.at;
      placed = a.placed ∷ b.placed ∷ [];
      same = both (λ c d. c ∷ d ∷ []) a.same b.same;
      spelled =
          two_pipes a.spelled (sign_printed 59 refl refl m k.bytes (here m.at m.bytes)) b.spelled;
    }

more_part : (d : ℕ) (ps : List PipeTree) (p : PipeTree) → (ps ≡ [] → ⊥) → ListPrints d ps → PipePrints d p
    → ListPrints d (ps ++ p ∷ [])
more_part d ps p some f g s rest ends from =
    let last = pipe_text p ++ rest in
    let front = branches_text (branches ps) in
    let a = f s (59 ∷ 32 ∷ last) refl (regrouped from (ap (λ t. t ++ rest) (branches_push ps p some)
    ∙ append_assoc front (codes "; " ++ pipe_text p) rest)) in
    let m : Rest = record { at = a.at; bytes = 59 ∷ 32 ∷ last } in
    let k : Rest = record { at = a.at + 1; bytes = 32 ∷ last } in
    let b = g k rest ends (behind_blank k.at last) in
    record {
      at = b.at;
      placed = a.placed ++ b.placed ∷ [];
      same = map-append pipe_content a.placed (b.placed ∷ []) ∙ both (λ c d. c ++ d ∷ []) a.same b.same
          ∙ sym (map-append pipe_content ps (p ∷ []));
      spelled = more_pipes a.spelled (sign_printed 59 refl refl m k.bytes (here m.at m.bytes)) b.spelled;
    }

pub list_some : {d : ℕ} {s r : Rest} {ps : List PipeTree} → PipeList d s r ps → ps ≡ [] → ⊥
list_some (two_pipes P g Q) h = cc
list_some (more_pipes {ps = ps} {p = p} L g P) h = push_is_some PipeTree ps p h

mutual
  pub pipe_part : {d : ℕ} {s r : Rest} {t : PipeTree} → Pipe d s r t → (k : ℕ) → d ≤ k → PipePrints k t
  pipe_part (flow {t = t} S O) k h = flow_part k t (source_part S k h) O h

  source_part : {d : ℕ} {s r : Rest} {t : SourceTree} → Source d s r t → (k : ℕ) → d ≤ k → SourcePrints k t
  source_part {s = s} {r = r} (fetch {m = m} {k = i} {j = j} {n = n} {w = w} g a e c f) k h = fetch_part k (skip s).at
      n w (name_lawful m i n e) (metric_lawful j r w f)
  source_part {s = s} (join {d = d} {i = i} {ps = ps} {h = w} g L c b e) k h =
      from_below d (λ l. SourcePrints l (tree.Branches (skip s).at (branches ps) w (skip i).at))
      (λ l low. join_part l (skip s).at (skip i).at ps w (list_part L l low)) k h

  list_part : {d : ℕ} {s r : Rest} {ps : List PipeTree} → PipeList d s r ps → (k : ℕ) → d ≤ k → ListPrints k ps
  list_part (two_pipes {p = p} {q = q} P g Q) k h = two_part k p q (pipe_part P k h) (pipe_part Q k h)
  list_part (more_pipes {ps = ps} {p = p} L g P) k h = more_part k ps p (list_some L) (list_part L k h)
      (pipe_part P k h)

-- no text of a pipe begins with a blank
begins : (t : PipeTree) → skip (start (pipe_text t)) ≡ start (pipe_text t)
unfolding skip
begins (tree.Flow (tree.Fetch at n w) ops) = refl
begins (tree.Flow (tree.Branches at all h how_at) ops) = refl

-- the text that a pipe is printed as is spelled by it, but for its places
pub printed_is_spelled : (t : PipeTree) (text : List ℕ) → SpellsAtLength t text → SpellsButForPlaces t (pipe_text t)
printed_is_spelled t text h =
    let printed = pipe_text t in
    let x = pipe_part h.whole levels (omega arith) (start printed) [] refl
    (record { at = 0; is = ap (λ b. skip (record { at = 0; bytes = b })) (sym (append-nil printed)) }) in
    record {
      other = x.placed;
      same = x.same;
      spelled = record {
        begins = begins t;
        end =
            record { at = x.at; bytes = [] };
        whole = x.spelled;
        ended = refl;
      };
    }

pub spelled_as_printed : (t : PipeTree) (printed : List ℕ) → printed ≡ pipe_text t → (text : List ℕ) → SpellsAtLength t
    text → SpellsButForPlaces t printed
spelled_as_printed t printed e text h = subst (SpellsButForPlaces t) (sym e) (printed_is_spelled t text h)
