-- The kind of a text's fault fits its byte.
use Rattle.std.proofs.Common.{◌≡◌, ℕ, ◌≤◌, Bool, true, false, ◌==◌, ◌||◌, not, List, [], ◌∷◌, ◌++◌, length, take, drop}
use Rattle.std.proofs.Common.{refl, sym, ap, ◌∙◌, subst, arith, if◌then◌else◌, append_assoc, None, Result, Ok, Err}
use Rattle.std.specs.Result.{IfErr}
use Rattle.std.proofs.lemmas.List.{append-nil}
use Rattle.std.proofs.Math.Seq.{take-append_seam, drop-append_seam}
use Rattle.mon_value.specs.Answers.{◌>>=◌, GivesView}
use Rattle.mon_value.specs.declared.refusals.Refusal.{Refusal}
use Rattle.mon_value.specs.declared.refusals.Refusal.TheVariants as refusal
use Rattle.mql_ast.specs.declared.pipes.Query.{Query}
use Rattle.mql_ast.specs.Tokens.{is_blank, is_word_byte, is_sign, is_alphabet, Rest, head, skip}
use Rattle.mql_ast.specs.Trees.{PipeTree, query_tree}
use Rattle.mql_ast.specs.Grammar.{start, levels, longest_text}
use Rattle.mql_parse.specs.declared.faults.ParseFault.{ParseFault}
use Rattle.mql_parse.specs.declared.faults.ParseKind.TheVariants.{Expected, NumberTooLarge}
use Rattle.mql_parse.specs.declared.faults.What.TheVariants as what
use Rattle.mql_parse.specs.Outcomes.{Outcome, fault}
use Rattle.mql_parse.specs.PipeReading.{pipe, behind_query, query_end_in, query_end, query_within, query, text_outcome}
use Rattle.mql_parse.specs.Faults.{FaultOf, open_quotes, OutsideKind, KindFits, FaultKind}
use Rattle.mql_parse.specs.FaultDepths.{SpellsWithin, BeginsWithin}
use Rattle.mql_parse.specs.FaultNumbers.{CouldEndSmaller, NumberKind}
use Rattle.mql_parse.proofs.KindFits.{Outside, FaultFits, Fits, fault_before, unexpected_next, fault_fits}
use Rattle.mql_parse.proofs.PipeKinds.{pipe_fits}
use Rattle.mql_parse.proofs.PipeComplete.{pipe_read}
use Rattle.mql_parse.proofs.TextComplete.{end_ends}
use Rattle.mql_parse.proofs.TextSteady.{begins_here, begins_at_levels, text_fault}
use Rattle.mql_parse.proofs.Endings.{IfTooLarge}
use Rattle.mql_parse.proofs.FollowTexts.{number_too_large}
use Rattle.mql_parse.proofs.FrontEndings.{NumberBegins, shorter_begins, fault_number_begins}

-- a fault in place of a tree
abbrev TreeFits : Rest → Result PipeTree ParseFault → Type 0
TreeFits s (Ok tree) = Unit {0}
TreeFits s (Err f) = FaultFits None s f

end_fits : (tree : PipeTree) (r : Rest) (bs : List ℕ) → TreeFits r (query_end_in tree r bs)
end_fits tree r [] = tt
end_fits tree r (b ∷ bs) = unexpected_next (behind_query tree) r

tree_before : (s r : Rest) (x : Result PipeTree ParseFault) → Outside None s r → TreeFits r x → TreeFits s x
tree_before s r (Ok tree) f g = tt
tree_before s r (Err x) f g = fault_before None s r x f g

pipe_end_fits : (s : Rest) (o : Outcome PipeTree) → Fits None s o → TreeFits s (o >>= query_end)
pipe_end_fits s (Ok (tree, r)) h = tree_before s r (query_end (tree, r)) h (end_fits tree r r.bytes)
pipe_end_fits s (Err f) h = h

-- a blank in front of the first token
blank_in_alphabet : (b : ℕ) → is_blank b ≡ true → is_alphabet b ≡ true
blank_in_alphabet b h = either (is_word_byte b)
  where
    either : (t : Bool) → (t || is_blank b || is_sign b) ≡ true
    either true = refl
    either false = ap (λ v. v || is_sign b) h

blank_kind : (b : ℕ) → is_blank b ≡ true → OutsideKind (is_alphabet b) b (Expected what.Fetch)
blank_kind b h = subst (λ t. OutsideKind t b (Expected what.Fetch)) (sym (blank_in_alphabet b h)) tt

is_not_false : (t : Bool) → false ≡ not t → t ≡ true
is_not_false true h = refl
is_not_false false h = absurd (cc)

query_fits : (text : List ℕ) → TreeFits (start text) (query text)
unfolding query_within
query_fits text = either ((skip (start text)).at == 0) refl
  where
    either : (t : Bool) → ((skip (start text)).at == 0) ≡ t →
        TreeFits (start text) (if t then (pipe levels (start text) >>= query_end) else Err
        (fault (Expected what.Fetch) (start text)))
    either true h = pipe_end_fits (start text) (pipe levels (start text)) (pipe_fits levels (start text))
    either false h = fault_fits (Expected what.Fetch) is_blank refl blank_kind (start text)
        (is_not_false (is_blank (head (start text)))
        (sym h ∙ begins_here (start text) (is_blank (head (start text))) refl))

query_fault_kind : (text : List ℕ) (f : ParseFault) → query text ≡ Err f → FaultKind text f
query_fault_kind text f e =
    let k : FaultFits None (start text) f = subst (TreeFits (start text)) e (query_fits text) in
    let place : f.at ≡ length k.front = omega (arith, k.place) in
    let front : take f.at text ≡ k.front = ap (λ n. take n text) place ∙ ap (take (length k.front)) k.bytes ∙
    take-append_seam k.front k.left in
    let left : drop f.at text ≡ k.left = ap (λ n. drop n text) place ∙ ap (drop (length k.front)) k.bytes ∙
    drop-append_seam k.front k.left in
    subst (λ v. KindFits (open_quotes None v) (drop f.at text) f.kind) (sym front)
    (subst (λ w. KindFits (open_quotes None k.front) w f.kind) (sym left) k.fits)

-- the kind of the fault that is given for a text
pub fault_kind : (text : List ℕ) (result : Result Query (Refusal ParseFault)) → GivesView query_tree result
    (text_outcome text) → length text ≤ longest_text → IfErr result (FaultOf (FaultKind text))
fault_kind text (Ok q) h fits = tt
fault_kind text (Err (refusal.Fault f)) h fits = query_fault_kind text f (text_fault text f fits h)
fault_kind text (Err refusal.OutOfMemory) h fits = tt

could_end_smaller : (text : List ℕ) (f : ParseFault) → query text ≡ Err f → f.kind ≡ NumberTooLarge →
    CouldEndSmaller text f.at
could_end_smaller text f e large =
    let g : NumberBegins levels text f.at =
    subst (λ kind. IfTooLarge kind (NumberBegins levels text f.at)) large (fault_number_begins levels text f e) in
    record {
      before = g.before;
      number = g.number;
      byte = g.byte;
      after = g.after;
      is_number = g.is_number;
      bytes = g.bytes;
      place = omega (arith, g.place);
      smaller = begins_at_levels (g.before ++ 49 ∷ g.byte ∷ [])
          (shorter_begins levels (g.before ++ 49 ∷ g.byte ∷ []) g.tail
          (subst (BeginsWithin levels) (sym (append_assoc g.before (49 ∷ g.byte ∷ []) g.tail)) g.is));
    }

query_fault_number : (text : List ℕ) (f : ParseFault) → query text ≡ Err f → NumberKind text f
query_fault_number text f e =
    record { smaller = could_end_smaller text f e; too_large = number_too_large text f e }

-- of a number that is too large
pub fault_number : (text : List ℕ) (result : Result Query (Refusal ParseFault)) → GivesView query_tree result
    (text_outcome text) → length text ≤ longest_text → IfErr result (FaultOf (NumberKind text))
fault_number text (Ok q) h fits = tt
fault_number text (Err (refusal.Fault f)) h fits = query_fault_number text f (text_fault text f fits h)
fault_number text (Err refusal.OutOfMemory) h fits = tt

-- a text that is spelled leaves no quotes open
pub spelled_closed : (d : ℕ) (tree : PipeTree) (text : List ℕ) → SpellsWithin d tree text → open_quotes None text ≡ None
spelled_closed d tree text s =
    let read = subst (Fits None (start text)) (pipe_read s.whole (end_ends s.end s.ended)) (pipe_fits d (start text)) in
    ap (open_quotes None) (read.bytes ∙ ap (λ t. read.front ++ t) s.ended ∙ append-nil read.front) ∙ read.closed
