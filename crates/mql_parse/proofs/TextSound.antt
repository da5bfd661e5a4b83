-- A text that is read is one that its tree spells.
use Rattle.std.proofs.Common.{◌≡◌, ℕ, ◌+◌, true, ◌==◌, List, [], ◌∷◌, ◌++◌, length, refl, sym, ap, ◌∙◌, subst, arith}
use Rattle.std.proofs.Common.{Result, Ok, Err}
use Rattle.std.specs.Result.{IfOk}
use Rattle.std.specs.Prelude.{nat_lt}
use Rattle.std.proofs.lemmas.Bool.{eqb-true, ltb-false}
use Rattle.mon_value.specs.Answers.{GivesView}
use Rattle.mon_value.specs.declared.refusals.Refusal.{Refusal}
use Rattle.mql_ast.specs.declared.pipes.Query.{Query}
use Rattle.mql_ast.specs.Trees.{PipeTree, query_tree}
use Rattle.mql_ast.specs.Tokens.{Rest, skip}
use Rattle.mql_ast.specs.Grammar.{start, levels, longest_text, SpellsAtLength, Spells, Pipe}
use Rattle.mql_parse.specs.declared.faults.ParseFault.{ParseFault}
use Rattle.mql_parse.specs.FaultDepths.{SpellsWithin}
use Rattle.mql_parse.specs.PipeReading as pipes
use Rattle.mql_parse.proofs.BehindLemmas.{skip_from}
use Rattle.mql_parse.proofs.Sound.{if_sound, bind_sound, if_ok_weaker}
use Rattle.mql_parse.proofs.PipeSound.{IsPipe, pipe_sound}

nothing_passed : (text front bytes : List ℕ) (at : ℕ) → text ≡ front ++ bytes → at ≡ 0 + length front → at ≡ 0 →
    record { at = at; bytes = bytes } ≡ start text
nothing_passed text [] bytes at e p h =
    ap (λ n. record { at = n; bytes = bytes }) h ∙ ap (λ t. record { at = 0; bytes = t }) (sym e)
nothing_passed text (b ∷ front) bytes at e p h = absurd (omega (arith, p, h))

-- a text with no blank first
begins : (text : List ℕ) → ((skip (start text)).at == 0) ≡ true → skip (start text) ≡ start text
begins text h =
    let f = skip_from (start text) in
    nothing_passed text f.front (skip (start text)).bytes (skip (start text)).at f.bytes f.place
    (eqb-true (skip (start text)).at 0 h)

ended_sound : (d : ℕ) (text : List ℕ) (tree : PipeTree) (r : Rest) (bs : List ℕ) → bs ≡ r.bytes →
    skip (start text) ≡ start text → Pipe d (start text) r tree → IfOk (pipes.query_end_in tree r bs)
    (λ t. SpellsWithin d t text)
ended_sound d text tree r [] e b p = record { begins = b; end = r; whole = p; ended = sym e }
ended_sound d text tree r (b ∷ bs) e h p = tt

pub query_sound : (d : ℕ) (text : List ℕ) → IfOk (pipes.query_within d text) (λ tree. SpellsWithin d tree text)
unfolding pipes.query_within
query_sound d text =
    if_sound ((skip (start text)).at == 0) _ _ (λ tree. SpellsWithin d tree text)
    (λ h. bind_sound (pipes.pipe d (start text)) pipes.query_end (IsPipe d (start text))
    (λ tree. SpellsWithin d tree text) (pipe_sound d (start text))
    (λ x p. ended_sound d text x.0 x.1 x.1.bytes refl (begins text h) p))
    (λ h. tt)

-- the levels of a query
pub at_length : (tree : PipeTree) (text : List ℕ) → SpellsWithin levels tree text → SpellsAtLength tree text
at_length tree text s = record { begins = s.begins; end = s.end; whole = s.whole; ended = s.ended }

pub text_sound : (text : List ℕ) → IfOk (pipes.text_outcome text) (λ tree. Spells tree text)
unfolding pipes.text_outcome
text_sound text =
    if_sound (nat_lt longest_text (length text)) _ _ (λ tree. Spells tree text)
    (λ h. tt)
    (λ h. if_ok_weaker (pipes.query text) (λ tree. SpellsWithin levels tree text) (λ tree. Spells tree text)
    (λ tree s. record { fits = ltb-false longest_text (length text) h; spelled = at_length tree text s })
    (query_sound levels text))

pub spelled_by : (text : List ℕ) (result : Result Query (Refusal ParseFault)) →
    GivesView query_tree result (pipes.text_outcome text) → IfOk result (λ query. Spells (query_tree query) text)
spelled_by text (Ok query) h = subst (λ answer. IfOk answer (λ tree. Spells tree text)) h (text_sound text)
spelled_by text (Err refusal) h = tt
