-- Where a byte could stand behind a smaller number, the number is too large.
use Rattle.std.proofs.Common.{◌≡◌, ◌⊎◌, inl, inr, ℕ, ◌+◌, ◌≤◌, Bool, true, false, ◌==◌, List, [], ◌∷◌, ◌++◌, length}
use Rattle.std.proofs.Common.{refl, sym, ap, ◌∙◌, arith, if◌then◌else◌, append_assoc, Result, Ok, Err}
use Rattle.std.proofs.lemmas.Bool.{false≢true, eqb-true}
use Rattle.std.proofs.lemmas.Bool.Decides.{nat_tests}
use Rattle.mon_value.specs.Answers.{◌>>=◌}
use Rattle.mql_ast.specs.Tokens.{is_blank, Rest, head, skip}
use Rattle.mql_ast.specs.Trees.{PipeTree}
use Rattle.mql_ast.specs.Grammar.{start, levels}
use Rattle.mql_parse.specs.declared.faults.ParseFault.{ParseFault}
use Rattle.mql_parse.specs.declared.faults.ParseKind.TheVariants.{Expected, NumberTooLarge}
use Rattle.mql_parse.specs.declared.faults.What.TheVariants as what
use Rattle.mql_parse.specs.FaultNumbers.{IsNumber, CouldEndSmaller}
use Rattle.mql_parse.specs.Outcomes.{Outcome, fault, unexpected_fault}
use Rattle.mql_parse.specs.PipeReading.{pipe, behind_query, query_end_in, query_end, query_within, query}
use Rattle.mql_parse.specs.Steadiness.{next}
use Rattle.mql_parse.proofs.TextSteady.{begins_here, more_left}
use Rattle.mql_parse.proofs.TextComplete.{query_complete, within_levels}
use Rattle.mql_parse.proofs.Firsts.{Failed}
use Rattle.mql_parse.proofs.Swaps.{with_one, Ahead, over_pair}
use Rattle.mql_parse.proofs.Follows.{Swap, Pair, Blind, head_alike, Any, ReadToo, FollowsIn}
use Rattle.mql_parse.proofs.FollowPipes.{pipe_follows}

-- some bytes are left of the second text
some_left : (x : Swap) (s t : Rest) → Pair x s t → t.bytes ≡ [] → ⊥
some_left x = over_pair x (λ s t. t.bytes ≡ [] → ⊥) (λ common m n h e. of_common common e) (λ m n h e. absurd (cc))
  where
    of_common : (common : List ℕ) → common ++ with_one x ≡ [] → ⊥
    of_common [] e = absurd (cc)
    of_common (c ∷ common) e = absurd (cc)

pub refused : {A : Type 0} (a : A) (o : Result A ParseFault) (f : ParseFault) → o ≡ Ok a → o ≡ Err f → ⊥
refused a o f h g = let e = sym h ∙ g in absurd (cc)

failed_end : (p : Outcome PipeTree) (tree : PipeTree) → Failed p → (p >>= query_end) ≡ Ok tree → ⊥
failed_end (Ok y) tree h e = absurd h
failed_end (Err g) tree h e = absurd (cc)

-- a query's end
end_too_large : (x : Swap) (a : PipeTree) (r : Rest) (bs : List ℕ) (p : Outcome PipeTree) (tree : PipeTree)
    (f : ParseFault) → (next r ≤ x.at → Failed p ⊎ ReadToo x Any a r p) → query_end_in a r bs ≡ Err f → f.at ≡ x.at →
    (p >>= query_end) ≡ Ok tree → ⊥
end_too_large x a r [] p tree f h e place done = absurd (cc)
end_too_large x a r (b ∷ bs) p tree f h e place done =
    let same : unexpected_fault (behind_query a) (skip r) ≡ f = cc in
    let here : next r ≡ x.at = ap (λ g. g.at) same ∙ place in
    by_part (h (omega (arith, here)))
  where
    by_part : Failed p ⊎ ReadToo x Any a r p → ⊥
    by_part (inl g) = failed_end p tree g done
    by_part (inr z) =
        refused tree (query_end (z.0, z.1.0)) (unexpected_fault (behind_query z.0) (skip z.1.0))
        (sym (ap (λ y. y >>= query_end) z.1.1.0) ∙ done)
        (more_left z.0 z.1.0 z.1.0.bytes (some_left x r z.1.0 z.1.1.1.0))

pipe_too_large : (x : Swap) (o p : Outcome PipeTree) (tree : PipeTree) (f : ParseFault) → FollowsIn x next Any o p →
    (o >>= query_end) ≡ Err f → f.at ≡ x.at → (p >>= query_end) ≡ Ok tree → f.kind ≡ NumberTooLarge
pipe_too_large x (Ok (a, r)) p tree f h e place done = absurd (end_too_large x a r r.bytes p tree f h e place done)
pipe_too_large x (Err g) p tree f h e place done =
    let same : g ≡ f = cc in by_part same (h (ap (λ z. z.at) same ∙ place))
  where
    by_part : g ≡ f → (g.kind ≡ NumberTooLarge) ⊎ Failed p → f.kind ≡ NumberTooLarge
    by_part same (inl k) = ap (λ z. z.kind) (sym same) ∙ k
    by_part same (inr b) = absurd (failed_end p tree b done)

blind_blank : Blind is_blank
blind_blank d h = grind (arith, nat_tests)

-- a text, and one with 1 in place of the number
query_too_large : (d : ℕ) (x : Swap) (text other : List ℕ) (tree : PipeTree) (f : ParseFault) →
    Ahead x (start text) (start other) → query_within d text ≡ Err f → f.at ≡ x.at → query_within d other ≡ Ok tree →
    f.kind ≡ NumberTooLarge
unfolding query_within
query_too_large d x text other tree f c e place done =
    by_tests ((skip (start text)).at == 0) ((skip (start other)).at == 0) refl alike e done
  where
    alike : ((skip (start other)).at == 0) ≡ ((skip (start text)).at == 0)
    alike = begins_here (start other) (is_blank (head (start text)))
        (head_alike x is_blank blind_blank (start text) (start other) (inl c))
        ∙ sym (begins_here (start text) (is_blank (head (start text))) refl)

    by_tests : (t u : Bool) → ((skip (start text)).at == 0) ≡ t → u ≡ t →
        (if t then (pipe d (start text) >>= query_end) else Err (fault (Expected what.Fetch) (start text))) ≡ Err f →
        (if u then (pipe d (start other) >>= query_end) else Err (fault (Expected what.Fetch) (start other))) ≡ Ok tree
        →
        f.kind ≡ NumberTooLarge
    by_tests true true k h g q =
        let first : (skip (start text)).at ≡ 0 = eqb-true (skip (start text)).at 0 k in
        pipe_too_large x (pipe d (start text)) (pipe d (start other)) tree f
        ((pipe_follows x d).follows (start text) (start other) (inl c) (omega (arith, first))) g place q
    by_tests false u k h g q = let same : fault (Expected what.Fetch) (start text) ≡ f = cc in
        absurd (omega (arith, c.place, sym place, ap (λ z. z.at) same))
    by_tests true false k h g q = absurd (false≢true h)

pub number_too_large : (text : List ℕ) (f : ParseFault) → query text ≡ Err f → CouldEndSmaller text f.at →
    f.kind ≡ NumberTooLarge
number_too_large text f e c =
    let tree = c.smaller.tree in
    let spelled = within_levels tree ((c.before ++ 49 ∷ c.byte ∷ []) ++ c.smaller.more) c.smaller.spelled in
    by_number c.number c.is_number c.bytes c.place
    (query_complete levels ((c.before ++ 49 ∷ c.byte ∷ []) ++ c.smaller.more) tree spelled)
  where
    by_number : (number : List ℕ) → IsNumber number → text ≡ c.before ++ (number ++ c.byte ∷ c.after) →
        f.at ≡ length c.before + length number →
        query_within levels ((c.before ++ 49 ∷ c.byte ∷ []) ++ c.smaller.more) ≡ Ok c.smaller.tree →
        f.kind ≡ NumberTooLarge
    by_number [] h bytes place q = absurd h
    by_number (d ∷ ds) h bytes place q =
        let x : Swap = record {
          at = f.at;
          digit = d;
          digits = ds;
          byte = c.byte;
          after = c.after;
          more = c.smaller.more;
          begins = h.0;
          goes_on = h.1;
        } in
        query_too_large levels x text ((c.before ++ 49 ∷ c.byte ∷ []) ++ c.smaller.more) c.smaller.tree f
        (record {
          common = c.before;
          bytes = bytes;
          others = append_assoc c.before (49 ∷ c.byte ∷ []) c.smaller.more;
          place = omega (arith, place);
        }) e refl q
