-- Where a text is at fault, every text that goes on from there is: no longer front of it begins a query.
use Rattle.std.proofs.Common.{◌≡◌, ℕ, ◌+◌, ◌<◌, ◌≤◌, Bool, true, false, ◌==◌, not, List, [], ◌∷◌, ◌++◌, length, take}
use Rattle.std.proofs.Common.{drop, refl, sym, ap, ◌∙◌, subst, arith, if◌then◌else◌, Result, Ok, Err}
use Rattle.std.specs.Prelude.{nat_lt}
use Rattle.std.specs.Result.{IfErr}
use Rattle.std.proofs.lemmas.Bool.{ne_eqb, le-ltb, lt-ltb}
use Rattle.std.proofs.lemmas.Bool.Decides.{nat_tests}
use Rattle.std.proofs.lemmas.List.{take-append-drop, length-take-le}
use Rattle.mon_value.specs.Answers.{◌>>=◌, GivesView}
use Rattle.mon_value.specs.declared.refusals.Refusal.{Refusal}
use Rattle.mon_value.specs.declared.refusals.Refusal.TheVariants as refusal
use Rattle.mql_ast.specs.declared.pipes.Query.{Query}
use Rattle.mql_ast.specs.Tokens.{is_blank, Rest, first_of, behind_first, head, behind, skip}
use Rattle.mql_ast.specs.Trees.{PipeTree, query_tree}
use Rattle.mql_ast.specs.Grammar.{start, levels, longest_text, Begins}
use Rattle.mql_parse.specs.declared.faults.ParseFault.{ParseFault}
use Rattle.mql_parse.specs.declared.faults.ParseKind.TheVariants.{Expected}
use Rattle.mql_parse.specs.declared.faults.What.TheVariants as what
use Rattle.mql_parse.specs.Outcomes.{Outcome, fault, unexpected_fault}
use Rattle.mql_parse.specs.PipeReading.{pipe, behind_query, query_end_in, query_end, query_within, query, text_outcome}
use Rattle.mql_parse.specs.FaultDepths.{BeginsWithin}
use Rattle.mql_parse.specs.Faults.{IsLongestFront, FaultOf, IsAtLongestFront, too_long}
use Rattle.mql_parse.specs.Steadiness.{Shares, next, ReadAlike, AgreesBefore}
use Rattle.mql_parse.proofs.RestLemmas as rests
use Rattle.mql_parse.proofs.Steady.{over_common, skip_on, shares_head, shares_skip, shares_unexpected}
use Rattle.mql_parse.proofs.PipeSteady.{pipe_steady}
use Rattle.mql_parse.proofs.FrontEndings.{fault_front_begins, fault_within}
use Rattle.mql_parse.proofs.TextComplete.{query_complete, within_levels}
use Rattle.mql_parse.proofs.TextSound.{at_length}
use Rattle.mql_parse.proofs.ByteLemmas.{if_true, if_false}

-- whether a text begins with a blank shows at its first byte
blank_moves : (at : ℕ) (bs : List ℕ) → is_blank (first_of bs) ≡ true → at + 1 ≤ (behind_first at bs).at
blank_moves at [] h = absurd (cc)
blank_moves at (b ∷ bs) h = omega arith

pub begins_here : (s : Rest) (t : Bool) → is_blank (head s) ≡ t → ((skip s).at == s.at) ≡ not t
begins_here s true h =
    let moved : s.at + 1 ≤ (skip s).at = subst (λ r. s.at + 1 ≤ r.at) (rests.skip_on s h)
    (omega (arith, blank_moves s.at s.bytes h, skip_on (behind s))) in
    ne_eqb (skip s).at s.at (λ e. omega (arith, e, moved))
begins_here s false h = subst (λ n. (n == s.at) ≡ true) (sym (ap (λ r. r.at) (rests.skip_off s h)))
    (grind (arith, nat_tests))

begins_alike : (e : ℕ) (s t : Rest) → Shares e s t → s.at < e → ((skip t).at == t.at) ≡ ((skip s).at == s.at)
begins_alike e s t c l = begins_here t (is_blank (head s)) (ap is_blank (shares_head e s t c l)) ∙
    sym (begins_here s (is_blank (head s)) refl)

-- the end of a query
pub more_left : (tree : PipeTree) (r : Rest) (bs : List ℕ) → (bs ≡ [] → ⊥) → query_end_in tree r bs ≡ Err
    (unexpected_fault (behind_query tree) (skip r))
more_left tree r [] h = absurd (h refl)
more_left tree r (b ∷ bs) h = refl

end_fault : (tree : PipeTree) (r : Rest) (bs : List ℕ) (f : ParseFault) → query_end_in tree r bs ≡ Err f →
    unexpected_fault (behind_query tree) (skip r) ≡ f
end_fault tree r [] f h = absurd (cc)
end_fault tree r (b ∷ bs) f h = cc

left_over : (e : ℕ) (common other : List ℕ) (at : ℕ) → at + length common ≡ e → at < e → common ++ other ≡ [] → ⊥
left_over e [] other at h l k = omega (arith, h, l)
left_over e (c ∷ common) other at h l k = cc

some_left : (e : ℕ) (s t : Rest) → Shares e s t → s.at < e → t.bytes ≡ [] → ⊥
some_left e = over_common e (λ s t. s.at < e → t.bytes ≡ [] → ⊥)
    (λ common after other at h. left_over e common other at h)

end_alike : (e : ℕ) (tree : PipeTree) (r q : Rest) (f : ParseFault) → Shares e r q → query_end (tree, r) ≡ Err f →
    (skip r).at < e → query_end (tree, q) ≡ Err f
end_alike e tree r q f c h l =
    let w = behind_query tree in
    let alike : unexpected_fault w (skip q) ≡ unexpected_fault w (skip r) = shares_unexpected w e (skip r) (skip q)
    (shares_skip e r q c l) l in
    more_left tree q q.bytes (some_left e r q c (omega (arith, skip_on r, l))) ∙
    ap (λ g. Err g) (alike ∙ end_fault tree r r.bytes f h)

pipe_end_alike : (e : ℕ) (o p : Outcome PipeTree) (f : ParseFault) → AgreesBefore next e o p → (o >>= query_end)
    ≡ Err f →
    f.at < e → (p >>= query_end) ≡ Err f
pipe_end_alike e (Ok (tree, r)) p f k h l =
    let stands : (skip r).at ≡ f.at = ap (λ g. g.at) (end_fault tree r r.bytes f h) in
    let looked : (skip r).at < e = omega (arith, stands, l) in
    let alike : ReadAlike e tree r p = k looked in
    ap (λ z. z >>= query_end) alike.1.0 ∙ end_alike e tree r alike.0 f alike.1.1 h looked
pipe_end_alike e (Err g) p f k h l =
    let same : g ≡ f = cc in
    ap (λ z. z >>= query_end) (k (subst (λ x. x.at < e) (sym same) l)) ∙ h

-- a text that is the same up to the fault has that fault
query_if : (e : ℕ) (t u : Bool) (o p : Outcome PipeTree) (f g : ParseFault) → u ≡ t → AgreesBefore next e o p →
    (if t then (o >>= query_end) else Err g) ≡ Err f → f.at < e → (if u then (p >>= query_end) else Err g) ≡ Err f
query_if e true u o p f g same k h l = subst (λ b. (if b then (p >>= query_end) else Err g) ≡ Err f) (sym same)
    (pipe_end_alike e o p f k h l)
query_if e false u o p f g same k h l = subst (λ b. (if b then (p >>= query_end) else Err g) ≡ Err f) (sym same) h

pub query_steady : (d e : ℕ) (text other : List ℕ) (f : ParseFault) → Shares e (start text) (start other) →
    query_within d text ≡ Err f → f.at < e → query_within d other ≡ Err f
unfolding query_within
query_steady d e text other f c h l =
    query_if e ((skip (start text)).at == 0) ((skip (start other)).at == 0) (pipe d (start text))
    (pipe d (start other)) f (fault (Expected what.Fetch) (start text))
    (begins_alike e (start text) (start other) c (omega (arith, l)))
    ((pipe_steady d).agrees e (start text) (start other) c) h l

-- what is the same of a text and of one that goes on otherwise from this place
shares_front : (n : ℕ) (text more : List ℕ) → n ≤ length text → Shares n (start text) (start (take n text ++ more))
shares_front n text more h = record {
  common = take n text;
  after = drop n text;
  other = more;
  bytes = sym (take-append-drop n text);
  others = refl;
  place = refl;
  ends = omega (arith, length-take-le n text h);
}

-- no front of a text that holds the byte at its fault begins a query text
pub fault_place_is_last : (d : ℕ) (text : List ℕ) (f : ParseFault) → query_within d text ≡ Err f →
    f.at < length text → BeginsWithin d (take (f.at + 1) text) → ⊥
fault_place_is_last d text f h l b =
    let n = f.at + 1 in
    let other = take n text ++ b.more in
    let faulty : query_within d other ≡ Err f = query_steady d n text other f
    (shares_front n text b.more (omega (arith, l))) h (omega arith) in
    let read : query_within d other ≡ Ok b.tree = query_complete d other b.tree b.spelled in
    cc

-- the fault that is given for a text that is not too long
pub text_fault : (text : List ℕ) (f : ParseFault) → length text ≤ longest_text → text_outcome text ≡ Err f →
    query text ≡ Err f
unfolding text_outcome
text_fault text f fits h = sym (if_false (nat_lt longest_text (length text)) _ _
    (le-ltb longest_text (length text) fits)) ∙ h

-- the levels of a query
pub begins_at_levels : (front : List ℕ) → BeginsWithin levels front → Begins front
begins_at_levels front b =
    record { more = b.more; tree = b.tree; spelled = at_length b.tree (front ++ b.more) b.spelled }

begins_within_levels : (front : List ℕ) → Begins front → BeginsWithin levels front
begins_within_levels front b =
    record { more = b.more; tree = b.tree; spelled = within_levels b.tree (front ++ b.more) b.spelled }

place_of : (text : List ℕ) (f : ParseFault) → query text ≡ Err f → IsLongestFront text f.at
place_of text f h = record {
  within = fault_within levels text f h;
  begins = begins_at_levels (take f.at text) (fault_front_begins levels text f h);
  no_longer = λ l b. fault_place_is_last levels text f h l (begins_within_levels (take (f.at + 1) text) b);
}

-- where the fault that is given for a text stands
pub fault_place : (text : List ℕ) (result : Result Query (Refusal ParseFault)) →
    GivesView query_tree result (text_outcome text) → length text ≤ longest_text →
    IfErr result (FaultOf (IsAtLongestFront text))
fault_place text (Ok q) h fits = tt
fault_place text (Err (refusal.Fault f)) h fits = place_of text f (text_fault text f fits h)
fault_place text (Err refusal.OutOfMemory) h fits = tt

-- what is given for a text that is too long
pub long_fault : (text : List ℕ) (result : Result Query (Refusal ParseFault)) →
    GivesView query_tree result (text_outcome text) → longest_text < length text → GivesView query_tree result
    (Err too_long)
unfolding text_outcome
long_fault text result h long =
    subst (GivesView query_tree result)
    (if_true (nat_lt longest_text (length text)) (Err too_long) (query text)
    (lt-ltb longest_text (length text) long)) h
