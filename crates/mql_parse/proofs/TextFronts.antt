-- A text in quotes whose quotes are open, and a metric's name that ends in a slash, are no whole tokens.
use Rattle.std.proofs.Common.{◌≡◌, inl, inr, ℕ, ◌+◌, Bool, true, false, ◌==◌, ◌&&◌, not, List, [], ◌∷◌, ◌++◌, refl}
use Rattle.std.proofs.Common.{sym, ap, ◌∙◌, if◌then◌else◌, Option, Some, None, option_and_then, Ok, Err}
use Rattle.std.proofs.lemmas.Bool.{false≢true}
use Rattle.std.proofs.lemmas.List.{append-nil}
use Rattle.std.specs.Result.{result_ok}
use Rattle.mql_ast.specs.Tokens.{is_metric_byte, Rest, skip}
use Rattle.mql_ast.specs.Tokens as grammar
use Rattle.mql_ast.specs.Quotes.{Open, Whole, Plain, text_step}
use Rattle.mql_parse.specs.declared.faults.What.TheVariants as what
use Rattle.mql_parse.specs.Outcomes.{Outcome}
use Rattle.mql_parse.specs.TokenReading as reading
use Rattle.mql_parse.specs.Faults.{open_behind, open_quotes}
use Rattle.mql_parse.specs.FaultTokens.{IsBare}
use Rattle.mql_parse.proofs.Links.{text_from_links, pattern_from_links}
use Rattle.mql_parse.proofs.KindFits.{Fits}
use Rattle.mql_parse.proofs.QuoteKinds.{text_fits, pattern_fits}
use Rattle.mql_parse.proofs.TokenFronts.{whole}
use Rattle.mon_value.proofs.PlainLemmas.{some_not_none, same_item}

-- the quotes are open behind these bytes
abbrev pub QuotesOpen : Open → List ℕ → Type 0
QuotesOpen u w = (v : Open) × (open_quotes (Some u) w ≡ Some v)

pub quotes_on : (u next : Open) (b : ℕ) (w : List ℕ) → open_behind (text_step u b) ≡ Some next → QuotesOpen next w →
    QuotesOpen u (b ∷ w)
quotes_on u next b w e k = (k.0, ap (λ o. open_quotes o w) e ∙ k.1)

closed_by : {A : Type 0} (x : A × Rest) (o : Outcome A) (u : List ℕ) → Some x ≡ result_ok o → x.1.bytes ≡ [] →
    Fits (Some Whole) (record { at = 1; bytes = u }) o → open_quotes (Some Whole) u ≡ None
closed_by x (Ok y) u e z f =
    let none : y.1.bytes ≡ [] = sym (ap (λ t. t.1.bytes) (same_item x y e)) ∙ z in
    ap (open_quotes (Some Whole)) (f.bytes ∙ ap (λ t. f.front ++ t) none ∙ append-nil f.front) ∙ f.closed
closed_by x (Err f) u e z k = absurd (some_not_none x e)

text_closed : (u : List ℕ) → IsBare what.Text (34 ∷ u) → open_quotes (Some Whole) u ≡ None
unfolding skip reading.text reading.pattern
text_closed u (inl n) =
    closed_by (n.1.0.1, record { at = n.1.0.0; bytes = [] }) (reading.text_from Whole [] 1 u) u
    (sym n.1.1 ∙ text_from_links Whole [] 1 u) refl (text_fits (record { at = 1; bytes = u }))
text_closed u (inr n) =
    closed_by (n.1.0.1, record { at = n.1.0.0; bytes = [] }) (reading.pattern_from Whole Plain [] [] 1 u) u
    (sym n.1.1 ∙ pattern_from_links Whole Plain [] [] 1 u) refl (pattern_fits (record { at = 1; bytes = u }))

pub open_text : (u : List ℕ) → QuotesOpen Whole u → IsBare what.Text (34 ∷ u) → ⊥
open_text u k h = let e = sym (text_closed u h) ∙ k.1 in cc

-- a metric's name that doesn't end here
abbrev pub MetricOpen : Bool → List ℕ → Type 0
MetricOpen after u = (at : ℕ) → grammar.metric_from after at u ≡ None

abbrev metric_test : Bool → ℕ → ℕ → List ℕ → Bool → Option (List ℕ × Rest)
metric_test after b at u t =
    if t then grammar.with_byte b (grammar.metric_from false (at + 1) u) else
    (if b == 47 && not after then grammar.with_byte b (grammar.metric_from true (at + 1) u) else
    (if after then None else Some ([], record { at = at; bytes = b ∷ u })))

pub slash_open : (after : Bool) → after ≡ true → MetricOpen after []
slash_open true h at = refl
slash_open false h at = absurd (false≢true h)

pub metric_byte_open : (after : Bool) (b : ℕ) (u : List ℕ) → is_metric_byte b ≡ true → MetricOpen false u →
    MetricOpen after (b ∷ u)
metric_byte_open after b u h k at = ap (metric_test after b at u) h ∙ ap (grammar.with_byte b) (k (at + 1))

pub metric_slash_open : (after : Bool) (b : ℕ) (u : List ℕ) → is_metric_byte b ≡ false → (b == 47 && not after) ≡ true →
    MetricOpen true u → MetricOpen after (b ∷ u)
metric_slash_open after b u h g k at =
    ap (metric_test after b at u) h
    ∙ ap (λ t. if t then grammar.with_byte b (grammar.metric_from true (at + 1) u) else
    (if after then None else Some ([], record { at = at; bytes = b ∷ u }))) g ∙ ap (grammar.with_byte b) (k (at + 1))

pub open_metric : (u : List ℕ) → MetricOpen true u → IsBare what.Metric (47 ∷ u) → ⊥
unfolding skip
open_metric u k n =
    let none = ap (option_and_then (λ (x : List ℕ × Rest). Some (grammar.metric_name 0 x.0, x.1))) (k 1) in
    false≢true (ap whole (sym none ∙ n.1.1))
