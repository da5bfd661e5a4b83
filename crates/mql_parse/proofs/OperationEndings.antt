-- What was read of an operation before its fault can be completed.
use Rattle.std.proofs.Common.{◌≡◌, ℕ, ℤ, Bool, true, false, ◌==◌, ◌⊎◌, inl, inr, List, [], ◌∷◌, ◌++◌, codes, refl, sym}
use Rattle.std.proofs.Common.{◌∙◌, subst, append_assoc, Ok, Err}
use Rattle.std.specs.Result.{IfOk}
use Rattle.std.proofs.lemmas.Bool.{false≢true}
use Rattle.mon_value.specs.declared.aligners.Aligner.TheVariants as aligner
use Rattle.mql_ast.specs.Trees as tree
use Rattle.mql_ast.specs.Trees.{PredicateTree, DeedTree, OpTree}
use Rattle.mql_ast.specs.Tokens.{is_blank, Rest, head, skip, positive_at, duration_at}
use Rattle.mql_ast.specs.Grammar as grammar
use Rattle.mql_ast.specs.Grammar.{Deed, align_delta, align_next_older}
use Rattle.mql_parse.specs.declared.faults.What.TheVariants as what
use Rattle.mql_parse.specs.Outcomes.{Outcome, unexpected_fault, exact, sign, map_outcome, up_to_sign}
use Rattle.mql_parse.specs.TokenReading as reading
use Rattle.mql_parse.specs.SumReading.{items}
use Rattle.mql_parse.specs.PredicateReading as predicates
use Rattle.mql_parse.specs.Folds as folds
use Rattle.mql_parse.specs.PipeReading as pipes
use Rattle.mql_parse.proofs.Endings.{Anyhow, Worded, Parted, OpensAs, Text, Then, join, changed, worded, unended}
use Rattle.mql_parse.proofs.Endings.{Default, both, default_as, Ends, behind_read, ends_known, Reads, ends_as}
use Rattle.mql_parse.proofs.Endings.{done_ends, then_ends, if_ends}
use Rattle.mql_parse.proofs.TokenFronts.{WordOf, filter_word, align_word, group_by_word, value_word, top_word}
use Rattle.mql_parse.proofs.TokenFronts.{every_word, within_word, delta_word, next_older_word}
use Rattle.mql_parse.proofs.TokenEndings.{at_place, AreBlanks, all_nonzero, sign_text, wrong, SignSpan, sign_ends}
use Rattle.mql_parse.proofs.TokenEndings.{sign_default, WordSpan, word_text, word_ends, SpacedSpan, spaced, Token}
use Rattle.mql_parse.proofs.TokenEndings.{NameSpan, name_ends, name_default, open_parenthesis, close_parenthesis}
use Rattle.mql_parse.proofs.TokenEndings.{open_bracket, comma}
use Rattle.mql_parse.proofs.SpacedEndings.{Opening, word_spaced_ends}
use Rattle.mql_parse.proofs.NumberEndings.{number_token, positive_ends, positive_default, duration_ends}
use Rattle.mql_parse.proofs.NumberEndings.{duration_default}
use Rattle.mql_parse.proofs.PredicateEndings.{predicate_opening, DisjunctionSpan, FilterSpan, predicate_ends}
use Rattle.mql_parse.proofs.PredicateEndings.{predicate_default}
use Rattle.mql_parse.proofs.ListEndings.{InGrouping, grouping_span, names_ends, names_default, ItemsSpan, items_ends}
use Rattle.mql_parse.proofs.ListEndings.{items_default, FoldingSpan, FoldingsSpan, folding_default, one_more_folding}
use Rattle.mql_parse.proofs.ListEndings.{aggregates_ends, aggregates_default}
use Rattle.mql_parse.proofs.Sound.{if_sound, bind_sound}
use Rattle.mql_parse.proofs.SumEndings.{any_ok}

-- aligners
abbrev AlignedSpan : List ℕ → List ℕ → List ℕ → Type 0
AlignedSpan word = Then (WordSpan word) (Then (SignSpan 40) (Then (Token duration_at) (SignSpan 41)))

abbrev AlignerSpan : List ℕ → List ℕ → Type 0
AlignerSpan x z = AlignedSpan (codes "delta") x z ⊎ AlignedSpan (codes "next_older") x z

duration_closed : Default (Text Worded true (Then (Token duration_at) (SignSpan 41)))
duration_closed = default_as worded (both refl duration_default (sign_default 41 close_parenthesis refl))

in_aligned : Default (Text Parted true (Then (SignSpan 40) (Then (Token duration_at) (SignSpan 41))))
in_aligned = both refl (sign_default 40 open_parenthesis refl) duration_closed

up_to_ends : (j : Rest) → Reads (Text Worded true (Then (Token duration_at) (SignSpan 41))) j
    (up_to_sign 41 what.CloseParenthesis (reading.duration j))
up_to_ends j =
    then_ends j (reading.duration j) _ refl (duration_ends j) (sign_default 41 close_parenthesis refl)
    (λ x. done_ends x.1 (sign 41 what.CloseParenthesis x.1) (λ r. (x.0, r))
    (sign_ends 41 what.CloseParenthesis close_parenthesis refl x.1) (λ r. refl) (λ r w f. f))

aligned_ends : (c : ℕ) (cs : List ℕ) → is_blank c ≡ false → OpensAs Worded (c ∷ cs) → all_nonzero (c ∷ cs) ≡ true →
    WordOf what.Aligner c cs → (m : Rest) →
    Reads (Text Worded true (AlignedSpan (c ∷ cs))) m (pipes.aligned_for (c ∷ cs) (skip m))
aligned_ends c cs blank f nonzero token m =
    then_ends m (exact what.Aligner (c ∷ cs) (skip m)) _ refl
    (word_ends Worded what.Aligner c cs blank f nonzero token m)
    in_aligned (λ k.
    then_ends k (sign 40 what.OpenParenthesis k) _ refl (sign_ends 40 what.OpenParenthesis open_parenthesis refl k)
    duration_closed up_to_ends)

delta_opens : OpensAs Worded (codes "delta")
delta_opens = λ v h u. absurd (false≢true (sym h))

next_opens : OpensAs Worded (codes "next_older")
next_opens = λ v h u. absurd (false≢true (sym h))

delta_text : (bs : List ℕ) → AreBlanks bs → Text Worded true AlignerSpan (bs ++ (codes "delta" ++ in_aligned.text))
delta_text bs e =
    changed (λ x z k. inl k) (bs ++ (codes "delta" ++ in_aligned.text))
    (subst (Text Worded true (AlignedSpan (codes "delta"))) (append_assoc bs (codes "delta") in_aligned.text)
    (join (bs ++ codes "delta") in_aligned.text refl (word_text Worded 100 (codes "elta") refl delta_opens bs e)
    in_aligned.is))

an_aligner : Text Parted true AlignerSpan (10 ∷ (codes "delta" ++ in_aligned.text))
an_aligner = record { opens = λ u. refl; fills = (delta_text (10 ∷ []) (refl, tt)).fills }

-- ` delta( 1s)`
abbrev aligner_default : Default (Text Parted true AlignerSpan)
aligner_default = record { text = 10 ∷ (codes "delta" ++ in_aligned.text); plain = in_aligned.plain; is = an_aligner }

aligner_ends : (m : Rest) → Reads (Text Worded true AlignerSpan) m (pipes.aligner_here (skip m))
aligner_ends m =
    let t = skip m in
    let delta = pipes.aligned_for (codes "delta") t in
    let next = pipes.aligned_for (codes "next_older") t in
    if_ends m (head t == 100) (map_outcome (λ z. tree.Align (aligner.Delta z)) delta) _
    (λ _. done_ends m delta (λ x. (tree.Align (aligner.Delta x.0), x.1))
    (ends_as m delta (aligned_ends 100 (codes "elta") refl delta_opens refl delta_word m)
    (λ x w f. changed (λ x z k. inl k) w f) (λ w f. changed (λ x z k. inl k) w f)) (λ x. refl) (λ x w f. f))
    (λ _. if_ends m (head t == 110) (map_outcome (λ z. tree.Align (aligner.NextOlder z)) next)
    (Err (unexpected_fault what.Aligner t))
    (λ _. done_ends m next (λ x. (tree.Align (aligner.NextOlder x.0), x.1))
    (ends_as m next (aligned_ends 110 (codes "ext_older") refl next_opens refl next_older_word m)
    (λ x w f. changed (λ x z k. inr k) w f) (λ w f. changed (λ x z k. inr k) w f)) (λ x. refl) (λ x w f. f))
    (λ _. record { way = wrong what.Aligner m 100 (codes "elta") in_aligned.text delta_word.bare delta_text }))

aligner_opening : Opening what.Aligner aligner_default.text
aligner_opening = record { token = codes "delta"; more = in_aligned.text; is = refl; bare = delta_word.bare }

-- operations other than a filter
abbrev pub DeedSpan : ℕ → List ℕ → List ℕ → Type 0
DeedSpan d x z = (at : ℕ) → (n : ℕ × DeedTree) × Deed d (at_place at x) (at_place n.0 z) n.1

abbrev pub DeedText : ℕ → List ℕ → Type 0
DeedText d = Text Anyhow false (DeedSpan d)

align_span : (d : ℕ) (x z : List ℕ) → Then (SpacedSpan (codes "align")) AlignerSpan x z → DeedSpan d x z
align_span d x z k = either k.second
  where
    either : AlignerSpan k.between z → DeedSpan d x z
    either (inl f) = λ at. let a = k.first.0 at in let b = f.first a.0 in let c = f.second.first b.0 in let e =
        f.second.second.first c.0 in let g = f.second.second.second e.0.0 in
        ((g.0, tree.Align (aligner.Delta e.0.1)), align_delta a.1 k.first.1 b.1 c.1 e.1 g.1)
    either (inr f) = λ at. let a = k.first.0 at in let b = f.first a.0 in let c = f.second.first b.0 in let e =
        f.second.second.first c.0 in let g = f.second.second.second e.0.0 in
        ((g.0, tree.Align (aligner.NextOlder e.0.1)), align_next_older a.1 k.first.1 b.1 c.1 e.1 g.1)

align_ends : (d : ℕ) (s : Rest) → Reads (DeedText d) s (pipes.align (skip s))
unfolding pipes.align
align_ends d s =
    ends_as s _ (word_spaced_ends what.Operation what.Aligner 97 (codes "lign") refl refl align_word s
    (λ m. pipes.aligner_here (skip m)) aligner_default aligner_opening
    aligner_ends) (λ x w f. unended w (changed (align_span d) w f))
    (λ w f. unended w (changed (align_span d) w f))

group_span : (d : ℕ) (x z : List ℕ) → Then (WordSpan (codes "group_by"))
    (Then (SignSpan 91) (Then InGrouping (Then (SignSpan 44) FoldingsSpan))) x z → DeedSpan d x z
group_span d x z k at =
    let a = k.first at in
    let b = grouping_span k.between k.second.second.between
    (record { between = k.second.between; first = k.second.first; second = k.second.second.first }) a.0 in
    let c = k.second.second.second.first b.0.0 in
    let e = k.second.second.second.second c.0 in
    ((e.0.0, tree.GroupBy b.0.1 e.0.1), grammar.group_by a.1 b.1 c.1 e.1)

more_aggregates : Default (Text Parted true (Then (SignSpan 44) FoldingsSpan))
more_aggregates = both refl (sign_default 44 comma refl) aggregates_default

in_group_by : Default (Text Anyhow true (Then InGrouping (Then (SignSpan 44) FoldingsSpan)))
in_group_by = both refl names_default more_aggregates

abbrev GroupedSpan : List ℕ → List ℕ → Type 0
GroupedSpan = Then (WordSpan (codes "group_by"))
    (Then (SignSpan 91) (Then InGrouping (Then (SignSpan 44) FoldingsSpan)))

abbrev pub GroupedText : List ℕ → Type 0
GroupedText = Text Anyhow true GroupedSpan

-- a `group_by` may go on with a comma
abbrev pub DeedSeen : ℕ → DeedTree → List ℕ → Type 0
DeedSeen d deed w = DeedText d w × (pipes.is_group_by deed ≡ true → GroupedText w)

one_more_span : (x z : List ℕ) → Then GroupedSpan (Then (SignSpan 44) FoldingSpan) x z → GroupedSpan x z
one_more_span x z k =
    let word = k.first in
    let bracket = word.second in
    let names = bracket.second in
    let comma = names.second in
    record {
      between = word.between;
      first = word.first;
      second = record {
        between = bracket.between;
        first = bracket.first;
        second = record {
          between = names.between;
          first = names.first;
          second = record {
            between = comma.between;
            first = comma.first;
            second = one_more_folding comma.between z
                (record { between = k.between; first = comma.second; second = k.second });
          };
        };
      };
    }

pub grouped_on : (d : ℕ) (w bs : List ℕ) → AreBlanks bs → GroupedText w →
    DeedText d (w ++ (bs ++ 44 ∷ folding_default.text))
grouped_on d w bs e f =
    let v = bs ++ 44 ∷ folding_default.text in
    let more : Text Parted true (Then (SignSpan 44) FoldingSpan) v =
    subst (Text Parted true (Then (SignSpan 44) FoldingSpan)) (append_assoc bs (44 ∷ []) folding_default.text)
    (join (bs ++ 44 ∷ []) folding_default.text refl (sign_text 44 comma bs e) folding_default.is) in
    unended (w ++ v) (changed (λ x z k. group_span d x z (one_more_span x z k)) (w ++ v) (join w v refl f more))

group_by_ends : (d : ℕ) (s : Rest) → Ends behind_read (λ x. DeedSeen d x.0) (DeedText d) s (pipes.group_by (skip s))
unfolding pipes.group_by
group_by_ends d s = ends_as s _
    (then_ends s (exact what.Operation (codes "group_by") (skip s)) _ refl
    (word_ends Anyhow what.Operation 103 (codes "roup_by") refl tt refl group_by_word s)
    (both refl (sign_default 91 open_bracket refl) in_group_by) (λ word.
    then_ends word (sign 91 what.OpenBracket word) _ refl
    (sign_ends 91 what.OpenBracket open_bracket refl word) in_group_by (λ bracket.
    then_ends bracket (folds.names bracket) _ refl (names_ends bracket) more_aggregates (λ columns.
    then_ends columns.1 (sign 44 what.Comma columns.1) _ refl (sign_ends 44 what.Comma comma refl columns.1)
    aggregates_default (λ k.
    done_ends k (folds.aggregates k) (λ x. (tree.GroupBy columns.0 x.0, x.1)) (aggregates_ends k) (λ x. refl)
    (λ x w f. f))))))
    (λ x w f. (unended w (changed (group_span d) w f), λ t. f)) (λ w f. unended w (changed (group_span d) w f))

-- operations that are no `group_by`
abbrev NoGroup : DeedTree × Rest → Type 0
NoGroup x = pipes.is_group_by x.0 ≡ false

ok_map : {A : Type 0} (f : A → DeedTree) (o : Outcome A) → ((a : A) → pipes.is_group_by (f a) ≡ false) →
    IfOk (map_outcome f o) NoGroup
ok_map f (Ok x) h = h x.0
ok_map f (Err e) h = tt

other_deed : (d : ℕ) (s : Rest) (o : Outcome DeedTree) → Reads (DeedText d) s o → IfOk o NoGroup →
    Ends behind_read (λ x. DeedSeen d x.0) (DeedText d) s o
other_deed d s o h q =
    ends_as s o (ends_known s o h q) (λ x w f. (f.0, λ t. absurd (false≢true (sym f.1 ∙ t)))) (λ w f. f)

align_other : (t : Rest) → IfOk (pipes.align t) NoGroup
unfolding pipes.align
align_other t =
    bind_sound (pipes.word_apart (codes "align") what.Aligner t) _ (λ m. Unit {0}) NoGroup (any_ok _)
    (λ m _. if_sound (head (skip m) == 100) _ _ NoGroup
    (λ _. ok_map (λ z. tree.Align (aligner.Delta z)) (pipes.aligned_for (codes "delta") (skip m)) (λ z. refl))
    (λ _. if_sound (head (skip m) == 110) _ _ NoGroup
    (λ _. ok_map (λ z. tree.Align (aligner.NextOlder z)) (pipes.aligned_for (codes "next_older") (skip m)) (λ z. refl))
    (λ _. tt)))

value_other : (d : ℕ) (t : Rest) → IfOk (pipes.value d t) NoGroup
unfolding pipes.value
value_other d t =
    bind_sound (exact what.Operation (codes "value") t) _ (λ m. Unit {0}) NoGroup (any_ok _)
    (λ word _. bind_sound (sign 91 what.OpenBracket word) _ (λ m. Unit {0}) NoGroup (any_ok _)
    (λ bracket _. ok_map tree.Value (items d bracket) (λ all. refl)))

top_other : (t : Rest) → IfOk (pipes.top t) NoGroup
unfolding pipes.top
top_other t =
    bind_sound (pipes.word_apart (codes "top") what.Number t) _ (λ m. Unit {0}) NoGroup (any_ok _)
    (λ m _. bind_sound (reading.positive 16777216 m) _ (λ n. Unit {0}) NoGroup (any_ok _)
    (λ n _. bind_sound (sign 44 what.Comma n.1) _ (λ k. Unit {0}) NoGroup (any_ok _)
    (λ k _. ok_map (λ column. tree.Top n.0 column) (reading.name k) (λ column. refl))))

lasting_other : (deed : ℤ → DeedTree) → ((z : ℤ) → pipes.is_group_by (deed z) ≡ false) → (word : List ℕ) (t : Rest) →
    IfOk (pipes.duration_deed deed word t) NoGroup
unfolding pipes.duration_deed
lasting_other deed h word t =
    bind_sound (pipes.word_apart word what.Number t) _ (λ m. Unit {0}) NoGroup (any_ok _)
    (λ m _. ok_map deed (reading.duration m) h)

value_span : (d : ℕ) (x z : List ℕ) →
    Then (WordSpan (codes "value")) (Then (SignSpan 91) (Then (ItemsSpan d) (SignSpan 93))) x z → DeedSpan d x z
value_span d x z k at =
    let a = k.first at in
    let b = k.second.first a.0 in
    let c = k.second.second.first b.0 in
    let e = k.second.second.second c.0.0 in
    ((e.0, tree.Value c.0.1), grammar.value a.1 b.1 c.1 e.1)

value_ends : (d : ℕ) (s : Rest) → Reads (DeedText d) s (pipes.value d (skip s))
unfolding pipes.value
value_ends d s = ends_as s _
    (then_ends s (exact what.Operation (codes "value") (skip s)) _ refl
    (word_ends Anyhow what.Operation 118 (codes "alue") refl tt refl value_word s)
    (both refl (sign_default 91 open_bracket refl) (items_default d)) (λ word.
    then_ends word (sign 91 what.OpenBracket word) _ refl (sign_ends 91 what.OpenBracket open_bracket refl word)
    (items_default d) (λ bracket.
    done_ends bracket (items d bracket) (λ x. (tree.Value x.0, x.1)) (items_ends d bracket) (λ x. refl) (λ x w f. f))))
    (λ x w f. unended w (changed (value_span d) w f)) (λ w f. unended w (changed (value_span d) w f))

top_span : (d : ℕ) (x z : List ℕ) →
    Then (SpacedSpan (codes "top")) (Then (Token (positive_at 16777216)) (Then (SignSpan 44) NameSpan)) x z →
    DeedSpan d x z
top_span d x z k at =
    let a = k.first.0 at in
    let b = k.second.first a.0 in
    let c = k.second.second.first b.0.0 in
    let e = k.second.second.second c.0 in
    ((e.0.0, tree.Top b.0.1 e.0.1), grammar.top a.1 k.first.1 b.1 c.1 e.1)

some_column : Default (Text Worded false NameSpan)
some_column = default_as worded name_default

in_top : Default (Text Parted false (Then (SignSpan 44) NameSpan))
in_top = both refl (sign_default 44 comma refl) some_column

top_opening : Opening what.Number (10 ∷ 49 ∷ in_top.text)
top_opening = record { token = 49 ∷ []; more = in_top.text; is = refl; bare = number_token }

duration_opening : Opening what.Number duration_default.text
duration_opening = record { token = 49 ∷ []; more = 115 ∷ []; is = refl; bare = number_token }

top_ends : (d : ℕ) (s : Rest) → Reads (DeedText d) s (pipes.top (skip s))
unfolding pipes.top
top_ends d s = ends_as s _
    (word_spaced_ends what.Operation what.Number 116 (codes "op") refl refl top_word s _ (both refl
    (positive_default 16777216 refl) in_top) top_opening (λ m.
    then_ends m (reading.positive 16777216 m) _ refl (positive_ends 16777216 refl m) in_top (λ n.
    then_ends n.1 (sign 44 what.Comma n.1) _ refl (sign_ends 44 what.Comma comma refl n.1) some_column (λ k.
    done_ends k (reading.name k) (λ x. (tree.Top n.0 x.0, x.1)) (name_ends k) (λ x. refl) (λ x w f. f)))))
    (λ x w f. changed (top_span d) w f) (λ w f. changed (top_span d) w f)

lasting_ends : (d c : ℕ) (cs : List ℕ) (deed : ℤ → DeedTree) → is_blank c ≡ false → all_nonzero (c ∷ cs) ≡ true →
    WordOf what.Operation c cs → ((x z : List ℕ) → Then (SpacedSpan (c ∷ cs)) (Token duration_at) x z →
    DeedSpan d x z) → (s : Rest) →
    Reads (DeedText d) s (pipes.duration_deed deed (c ∷ cs) (skip s))
unfolding pipes.duration_deed
lasting_ends d c cs deed blank nonzero token h s = ends_as s _
    (word_spaced_ends what.Operation what.Number c cs blank nonzero token s _ duration_default
    duration_opening
    (λ m. done_ends m (reading.duration m) (λ x. (deed x.0, x.1))
    (ends_as m (reading.duration m) (duration_ends m) (λ x w f. f) (λ w f. f)) (λ x. refl) (λ x w f. f)))
    (λ x w f. unended w (changed h w f)) (λ w f. unended w (changed h w f))

every_span : (d : ℕ) (x z : List ℕ) → Then (SpacedSpan (codes "every")) (Token duration_at) x z → DeedSpan d x z
every_span d x z k at = let a = k.first.0 at in let b = k.second a.0 in
    ((b.0.0, tree.Every b.0.1), grammar.every a.1 k.first.1 b.1)

within_span : (d : ℕ) (x z : List ℕ) → Then (SpacedSpan (codes "within")) (Token duration_at) x z → DeedSpan d x z
within_span d x z k at = let a = k.first.0 at in let b = k.second a.0 in
    ((b.0.0, tree.Within b.0.1), grammar.within a.1 k.first.1 b.1)

pub every_text : (d : ℕ) (bs : List ℕ) → AreBlanks bs → DeedText d (bs ++ (codes "every" ++ duration_default.text))
every_text d bs e =
    subst (DeedText d) (append_assoc bs (codes "every") duration_default.text)
    (unended ((bs ++ codes "every") ++ duration_default.text)
    (changed (every_span d) ((bs ++ codes "every") ++ duration_default.text)
    (join (bs ++ codes "every") duration_default.text refl
    (spaced (codes "every") (bs ++ codes "every") (word_text Anyhow 101 (codes "very") refl tt bs e))
    duration_default.is)))

deed_ends : (d : ℕ) (s : Rest) → Ends behind_read (λ x. DeedSeen d x.0) (DeedText d) s (pipes.deed_here d (skip s))
unfolding pipes.deed_here
deed_ends d s =
    let t = skip s in
    let b = head t in
    let every = pipes.duration_deed tree.Every (codes "every") t in
    let within = pipes.duration_deed tree.Within (codes "within") t in
    if_ends s (b == 97) (pipes.align t) _ (λ _. other_deed d s (pipes.align t) (align_ends d s) (align_other t))
    (λ _. if_ends s (b == 103) (pipes.group_by t) _ (λ _. group_by_ends d s)
    (λ _. if_ends s (b == 118) (pipes.value d t) _
    (λ _. other_deed d s (pipes.value d t) (value_ends d s) (value_other d t))
    (λ _. if_ends s (b == 116) (pipes.top t) _ (λ _. other_deed d s (pipes.top t) (top_ends d s) (top_other t))
    (λ _. if_ends s (b == 101) every _
    (λ _. other_deed d s every (lasting_ends d 101 (codes "very") tree.Every refl refl every_word (every_span d) s)
    (lasting_other tree.Every (λ z. refl) (codes "every") t))
    (λ _. if_ends s (b == 119) within (Err (unexpected_fault what.Operation t))
    (λ _. other_deed d s within (lasting_ends d 119 (codes "ithin") tree.Within refl refl within_word (within_span d) s)
    (lasting_other tree.Within (λ z. refl) (codes "within") t))
    (λ _. record {
      way = wrong what.Operation s 101 (codes "very") duration_default.text every_word.bare (every_text d);
    }))))))

-- an operation, and the bar behind it where it was read
abbrev pub OpSpan : ℕ → Bool → List ℕ → List ℕ → Type 0
OpSpan d false = DeedSpan d
OpSpan d true = Then (DeedSpan d) (SignSpan 124)

abbrev pub OpText : ℕ → Bool → List ℕ → Type 0
OpText d barred = Text Anyhow barred (OpSpan d barred)

filter_span : (d : ℕ) (x z : List ℕ) → Then (SpacedSpan (codes "filter")) (DisjunctionSpan d) x z → DeedSpan d x z
filter_span d x z k at = let a = k.first.0 at in let b = k.second a.0 in
    ((b.0.0, tree.Filter b.0.1), grammar.filter a.1 k.first.1 b.1)

filtered_span : (d : ℕ) (barred : Bool) (x z : List ℕ) → Then (SpacedSpan (codes "filter")) (FilterSpan d barred) x
    z → OpSpan d barred x z
filtered_span d false x z k = filter_span d x z k
filtered_span d true x z k =
    record {
      between = k.second.between;
      first = filter_span d x k.second.between
          (record { between = k.between; first = k.first; second = k.second.first });
      second = k.second.second;
    }

abbrev pub OpSeen : ℕ → OpTree × Bool → List ℕ → Type 0
OpSeen d read w = OpText d read.1 w × (pipes.is_group_by read.0.what ≡ true → GroupedText w)

abbrev NoGroupRead : (OpTree × Bool) × Rest → Type 0
NoGroupRead x = pipes.is_group_by x.0.0.what ≡ false

filter_map : (at : ℕ) (o : Outcome (PredicateTree × Bool)) →
    IfOk (map_outcome (λ x. (pipes.op_at at (tree.Filter x.0), x.1)) o) NoGroupRead
filter_map at (Ok x) = refl
filter_map at (Err e) = tt

filter_other : (d : ℕ) (t : Rest) → IfOk (pipes.filter_here d t) NoGroupRead
filter_other d t =
    bind_sound (pipes.word_apart (codes "filter") what.Name t) _ (λ m. Unit {0}) NoGroupRead (any_ok _)
    (λ m _. filter_map t.at (predicates.predicate d m))

pub operation_ends : (d : ℕ) (s : Rest) → Ends behind_read (λ x. OpSeen d x.0) (DeedText d) s (pipes.operation d s)
unfolding pipes.operation
operation_ends d s =
    let t = skip s in
    if_ends s (head t == 102) (pipes.filter_here d t) _
    (λ _. ends_as s (pipes.filter_here d t)
    (ends_known s (pipes.filter_here d t)
    (word_spaced_ends {left = behind_read} {k = λ y. y.0.1} {R = λ y. FilterSpan d y.0.1} what.Operation what.Name 102
    (codes "ilter") refl refl filter_word s (λ m. map_outcome (λ x. (pipes.op_at t.at (tree.Filter x.0), x.1))
    (predicates.predicate d m)) (predicate_default d) (predicate_opening d) (λ m.
    done_ends m (predicates.predicate d m) (λ x. ((pipes.op_at t.at (tree.Filter x.0.0), x.0.1), x.1))
    (predicate_ends d m) (λ x. refl) (λ x w f. f))) (filter_other d t))
    (λ x w f. (changed (filtered_span d x.0.1) w f.0, λ h. absurd (false≢true (sym f.1 ∙ h))))
    (λ w f. changed (filter_span d) w f))
    (λ _. done_ends s (pipes.deed_here d t) (λ x. ((pipes.op_at t.at x.0, false), x.1)) (deed_ends d s) (λ x. refl)
    (λ x w f. f))
