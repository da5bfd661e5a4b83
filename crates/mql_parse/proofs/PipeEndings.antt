-- What was read of a pipe before its fault can be completed.
use Rattle.std.proofs.Common.{◌≡◌, ℕ, zero, suc, Bool, true, false, ◌==◌, ◌⊎◌, inl, inr, List, [], ◌∷◌, ◌++◌, codes}
use Rattle.std.proofs.Common.{refl, sym, ap, ◌∙◌, subst, if◌then◌else◌, append_assoc, Some, Ok, Err}
use Rattle.std.proofs.lemmas.Bool.{false≢true}
use Rattle.mon_value.specs.Answers.{◌>>=◌}
use Rattle.mql_ast.specs.declared.pipes.How.{How}
use Rattle.mql_ast.specs.declared.pipes.How.TheVariants as how
use Rattle.mql_ast.specs.Trees as tree
use Rattle.mql_ast.specs.Trees.{DeedTree, OpTree, PipeTree, SourceTree, branches}
use Rattle.mql_ast.specs.Tokens.{Rest, head, behind, skip, keyword_at, sign_at, metric_at}
use Rattle.mql_ast.specs.Grammar as grammar
use Rattle.mql_ast.specs.Grammar.{Deed, no_ops, more_ops, how_word, Pipe, flow, Source, PipeList, two_pipes, more_pipes}
use Rattle.mql_parse.specs.declared.faults.ParseKind.TheVariants.{TooDeep}
use Rattle.mql_parse.specs.declared.faults.What.TheVariants as what
use Rattle.mql_parse.specs.Outcomes.{Outcome, unexpected_fault, exact, sign}
use Rattle.mql_parse.specs.Repeats.{Done, Again, Stuck, repetition}
use Rattle.mql_parse.specs.TokenReading as reading
use Rattle.mql_parse.specs.PipeReading as pipes
use Rattle.mql_parse.proofs.PipeSound.{operation_turn_behind, branch_turn_behind}
use Rattle.mql_parse.proofs.Endings.{Anyhow, Parted, Text, Then, join, changed, anyhow, unended, NoQuotes}
use Rattle.mql_parse.proofs.Endings.{no_quotes_on, Default, both, Finish, Ends, behind_read, Reads, stay, as_it_is}
use Rattle.mql_parse.proofs.Endings.{cut_as, cut_then, bind_ends, ends_as, done_ends, then_ends, if_ends, TurnEnds}
use Rattle.mql_parse.proofs.Endings.{if_turns, turns_as, cut_turns, on_read_ends, loop_ends}
use Rattle.mql_parse.proofs.TokenFronts.{fetch_word, colons_word, join_word, union_word}
use Rattle.mql_parse.proofs.TokenEndings.{at_place, AreBlanks, refused, wrong, SignSpan, sign_text, sign_cut}
use Rattle.mql_parse.proofs.TokenEndings.{sign_ends, sign_default, WordSpan, word_text, word_default, word_ends}
use Rattle.mql_parse.proofs.TokenEndings.{SpacedSpan, spaced, Token, NameSpan, name_ends, name_default, open_brace}
use Rattle.mql_parse.proofs.TokenEndings.{close_brace, semicolon, bar}
use Rattle.mql_parse.proofs.SpacedEndings.{Opening, spaced_ends}
use Rattle.mql_parse.proofs.MetricEndings.{if_bind, metric_ends, metric_default}
use Rattle.mql_parse.proofs.NumberEndings.{duration_default}
use Rattle.mql_parse.proofs.ListEndings.{folding_default}
use Rattle.mql_parse.proofs.OperationEndings.{GroupedText, grouped_on, DeedSpan, every_text, OpSpan, OpText}
use Rattle.mql_parse.proofs.OperationEndings.{operation_ends}
use Rattle.mql_parse.proofs.FirstPipes.{last_groups}

-- pipes, and the bar behind one where it was read
abbrev pub PipeSpan : ℕ → List ℕ → List ℕ → Type 0
PipeSpan d x z = (at : ℕ) → (n : ℕ × PipeTree) × Pipe d (at_place at x) (at_place n.0 z) n.1

abbrev pub PipeText : ℕ → List ℕ → Type 0
PipeText d = Text Anyhow false (PipeSpan d)

abbrev BarSpan : ℕ → Bool → List ℕ → List ℕ → Type 0
BarSpan d false = PipeSpan d
BarSpan d true = Then (PipeSpan d) (SignSpan 124)

abbrev BarText : ℕ → Bool → List ℕ → Type 0
BarText d barred = Text Anyhow barred (BarSpan d barred)

longer_pipe : {d : ℕ} {s m k r : Rest} {p : PipeTree} {what : DeedTree} → Pipe d s m p → sign_at 124 m ≡ Some k →
    Deed d k r what → (q : PipeTree) × Pipe d s r q
longer_pipe {k = k} {what = what} (flow {t = t} {ops = ops} source before) e deed =
    (tree.Flow t (ops ++ pipes.op_at (skip k).at what ∷ []), flow source (more_ops before e deed))

more_span : (d : ℕ) (x z : List ℕ) → Then (Then (PipeSpan d) (SignSpan 124)) (DeedSpan d) x z → PipeSpan d x z
more_span d x z k at = let a = k.first.first at in let b = k.first.second a.0.0 in let c = k.second b.0 in let p =
    longer_pipe a.1 b.1 c.1 in ((c.0.0, p.0), p.1)

more_barred_span : (d : ℕ) (barred : Bool) (x z : List ℕ) → Then (Then (PipeSpan d) (SignSpan 124)) (OpSpan d barred)
    x z → BarSpan d barred x z
more_barred_span d false x z k = more_span d x z k
more_barred_span d true x z k =
    record {
      between = k.second.between;
      first = more_span d x k.second.between
          (record { between = k.between; first = k.first; second = k.second.first });
      second = k.second.second;
    }

op_grown : (d : ℕ) (barred : Bool) (w v : List ℕ) → BarText d true w → OpText d barred v → BarText d barred (w ++ v)
op_grown d barred w v f g = changed (more_barred_span d barred) (w ++ v) (join w v refl f g)

-- where the last operation groups, a comma and an aggregate may come
abbrev pub Longer : ℕ → Bool → List ℕ → Type 0
Longer d groups w = groups ≡ true → (bs : List ℕ) → AreBlanks bs → PipeText d (w ++ (bs ++ 44 ∷ folding_default.text))

abbrev pub PipeSeen : ℕ → PipeTree → List ℕ → Type 0
PipeSeen d pipe w = PipeText d w × Longer d (pipes.groups_last (pipes.ops_of pipe)) w

abbrev OpsSeen : ℕ → List OpTree → List ℕ → Type 0
OpsSeen d ops w = PipeText d w × Longer d (pipes.groups_last ops) w

abbrev BarSeen : ℕ → List OpTree × Bool → List ℕ → Type 0
BarSeen d read w = BarText d read.1 w × Longer d (pipes.groups_last read.0) w

op_longer : (d : ℕ) (ops : List OpTree) (read : OpTree × Bool) (w v : List ℕ) → BarText d true w →
    (pipes.is_group_by read.0.what ≡ true → GroupedText v) → Longer d (pipes.groups_last (ops ++ read.0 ∷ [])) (w ++ v)
op_longer d ops read w v f g = λ t bs e.
    subst (PipeText d) (sym (append_assoc w v (bs ++ 44 ∷ folding_default.text)))
    (op_grown d false w (v ++ (bs ++ 44 ∷ folding_default.text)) f
    (grouped_on d v bs e (g (sym (last_groups false ops read.0) ∙ t))))

operation_from_ends : (d : ℕ) (ops : List OpTree) (s : Rest) (w : List ℕ) → BarText d true w →
    TurnEnds (λ b u. BarSeen d b (w ++ u)) (λ b u. OpsSeen d b.0 (w ++ u)) (λ u. PipeText d (w ++ u)) s
    (pipes.operation_from d ops s)
operation_from_ends d ops s w f =
    on_read_ends s (λ x. Again (pipes.with_op ops x.0) x.1) (pipes.operation d s) (operation_ends d s)
    (λ v g. as_it_is (λ u. PipeText d (w ++ u)) v (op_grown d false w v f g))
    (λ x v g. record {
      way = stay (λ u. BarSeen d (pipes.with_op ops x.0) (w ++ u)) x.1 v
          (op_grown d x.0.1 w v f g.0, op_longer d ops x.0 w v f g.1);
    })

operation_turn_ends : (d : ℕ) (read : List OpTree × Bool) (s : Rest) (w : List ℕ) → BarSeen d read w →
    TurnEnds (λ b u. BarSeen d b (w ++ u)) (λ b u. OpsSeen d b.0 (w ++ u)) (λ u. PipeText d (w ++ u)) s
    (pipes.operation_turn d read s)
unfolding pipes.operation_turn
operation_turn_ends d read s w f =
    let m = behind (skip s) in
    if_turns s read.1 (pipes.operation_from d read.0 s) _
    (λ b. operation_from_ends d read.0 s w (subst (λ t. BarText d t w) b f.0))
    (λ b. if_turns s (head (skip s) == 124) (pipes.operation_from d read.0 m) (Done read s)
    (λ h. cut_turns s m (pipes.operation_from d read.0 m) (sign_cut 124 bar s h)
    (λ v g. turns_as m (pipes.operation_from d read.0 m)
    (operation_from_ends d read.0 m (w ++ v) (join w v refl (subst (λ t. BarText d t w) b f.0) g))
    (λ a u k. subst (BarSeen d a) (append_assoc w v u) k) (λ a u k. subst (OpsSeen d a.0) (append_assoc w v u) k)
    (λ u k. subst (PipeText d) (append_assoc w v u) k)))
    (λ h. record { way = stay (OpsSeen d read.0) s w (subst (λ t. BarText d t w) b f.0, f.1) }))

operations_ends : (d : ℕ) (s : Rest) (w : List ℕ) → PipeText d w → Ends behind_read (λ x v. OpsSeen d x.0 (w ++ v))
    (λ v. PipeText d (w ++ v)) s (pipes.operations d s)
unfolding pipes.operations
operations_ends d s w f = done_ends s (repetition (pipes.operation_turn d) ([], false) s) (λ x. (x.0.0, x.1))
    (loop_ends (pipes.operation_turn d) (operation_turn_behind d) (λ a v. BarSeen d a v) (λ a v. OpsSeen d a.0 v)
    (PipeText d) (operation_turn_ends d) ([], false) s w (f, λ t. absurd (false≢true t))) (λ x. refl) (λ x v g. g)

-- `|every 1s` behind a pipe and blanks
pub one_more_operation : (d : ℕ) (w bs : List ℕ) → AreBlanks bs → PipeText d w →
    PipeText d (w ++ (bs ++ (124 ∷ (codes "every" ++ duration_default.text))))
one_more_operation d w bs e f =
    let v = bs ++ 124 ∷ [] in
    let u = codes "every" ++ duration_default.text in
    subst (PipeText d) (append_assoc w v u ∙ ap (λ t. w ++ t) (append_assoc bs (124 ∷ []) u))
    (op_grown d false (w ++ v) u (join w v refl f (sign_text 124 bar bs e)) (every_text d [] tt))

-- sources
abbrev SourceSpan : ℕ → List ℕ → List ℕ → Type 0
SourceSpan d x z = (at : ℕ) → (n : ℕ × SourceTree) × Source d (at_place at x) (at_place n.0 z) n.1

abbrev SourceText : ℕ → List ℕ → Type 0
SourceText d = Text Anyhow false (SourceSpan d)

pub source_pipe : (d : ℕ) (w : List ℕ) → SourceText d w → PipeText d w
source_pipe d w f = changed (λ x z k at. let n = k at in ((n.0.0, tree.Flow n.0.1 []), flow n.1 no_ops)) w f

fetch_span : (d : ℕ) (x z : List ℕ) →
    Then (SpacedSpan (codes "fetch")) (Then NameSpan (Then (WordSpan (codes "::")) (Token metric_at))) x z →
    SourceSpan d x z
fetch_span d x z k at =
    let a = k.first.0 at in
    let b = k.second.first a.0 in
    let c = k.second.second.first b.0.0 in
    let e = k.second.second.second c.0 in
    ((e.0.0, tree.Fetch (skip (at_place at x)).at b.0.1 e.0.1), grammar.fetch a.1 k.first.1 b.1 c.1 e.1)

pub in_metric : Default (Text Parted false (Then (WordSpan (codes "::")) (Token metric_at)))
in_metric = both refl (word_default Parted 58 (58 ∷ []) refl (λ u. refl) refl) metric_default

abbrev pub in_fetch : Default (Text Parted false (Then NameSpan (Then (WordSpan (codes "::")) (Token metric_at))))
in_fetch = both refl name_default in_metric

fetch_opening : Opening what.Name in_fetch.text
fetch_opening = record { token = 95 ∷ []; more = in_metric.text; is = refl; bare = refl }

fetch_ends : (d : ℕ) (s : Rest) → Reads (SourceText d) s (pipes.fetch (skip s))
unfolding pipes.fetch
fetch_ends d s = ends_as s _
    (spaced_ends what.Fetch what.Name 102
    (codes "etch") refl refl fetch_word s _ in_fetch fetch_opening (λ m.
    then_ends m (reading.name m) _ refl (name_ends m) in_metric (λ schema.
    then_ends schema.1 (exact what.Colons (codes "::") (skip schema.1)) _ refl
    (word_ends Parted what.Colons 58 (58 ∷ []) refl (λ u. refl) refl colons_word schema.1) metric_default (λ colons.
    done_ends colons (reading.metric colons) (λ x. (tree.Fetch (skip s).at schema.0 x.0, x.1)) (metric_ends colons)
    (λ x. refl) (λ x w f. f)))))
    (λ x w f. changed (fetch_span d) w f) (λ w f. changed (fetch_span d) w f)

-- `fetch _::/a`
pub fetch_text : (d : ℕ) (bs : List ℕ) → AreBlanks bs → SourceText d (bs ++ (codes "fetch" ++ in_fetch.text))
fetch_text d bs e =
    subst (SourceText d) (append_assoc bs (codes "fetch") in_fetch.text)
    (changed (fetch_span d) ((bs ++ codes "fetch") ++ in_fetch.text)
    (join (bs ++ codes "fetch") in_fetch.text refl
    (spaced (codes "fetch") (bs ++ codes "fetch") (word_text Anyhow 102 (codes "etch") refl tt bs e)) in_fetch.is))

abbrev pub pipe_default : (d : ℕ) → Default (λ v. PipeText d (102 ∷ v))
pipe_default d =
    record {
      text = codes "etch" ++ in_fetch.text;
      plain = in_metric.plain;
      is = source_pipe d (codes "fetch" ++ in_fetch.text)
          (fetch_text d [] tt);
    }

-- how branches are joined
abbrev HowSpan : List ℕ → List ℕ → Type 0
HowSpan x z = (at : ℕ) → (n : ℕ × How) × (keyword_at (how_word n.1) (at_place at x) ≡ Some (at_place n.0 z))

join_span : (x z : List ℕ) → WordSpan (codes "join") x z → HowSpan x z
join_span x z k at = let n = k at in ((n.0, how.Join), n.1)

union_span : (x z : List ℕ) → WordSpan (codes "union") x z → HowSpan x z
union_span x z k at = let n = k at in ((n.0, how.Union), n.1)

join_text : (bs : List ℕ) → AreBlanks bs → Text Anyhow true HowSpan (bs ++ codes "join")
join_text bs e = changed join_span (bs ++ codes "join") (word_text Anyhow 106 (codes "oin") refl tt bs e)

how_ends : (s : Rest) → Reads (Text Anyhow true HowSpan) s (pipes.how_here (skip s))
how_ends s =
    let t = skip s in
    let joined = exact what.How (codes "join") t in
    let united = exact what.How (codes "union") t in
    if_ends s (head t == 106) (joined >>= λ r. Ok (how.Join, r)) _
    (λ _. done_ends s joined (λ r. (how.Join, r))
    (ends_as s joined (word_ends Anyhow what.How 106 (codes "oin") refl tt refl join_word s)
    (λ r w f. changed join_span w f) (λ w f. changed join_span w f)) (λ r. refl) (λ r w f. f))
    (λ _. if_ends s (head t == 117) (united >>= λ r. Ok (how.Union, r)) (Err (unexpected_fault what.How t))
    (λ _. done_ends s united (λ r. (how.Union, r))
    (ends_as s united (word_ends Anyhow what.How 117 (codes "nion") refl tt refl union_word s)
    (λ r w f. changed union_span w f) (λ w f. changed union_span w f)) (λ r. refl) (λ r w f. f))
    (λ _. record { way = wrong what.How s 106 (codes "oin") [] join_word.bare join_text }))

abbrev BarHow : List ℕ → List ℕ → Type 0
BarHow = Then (SignSpan 124) HowSpan

how_default : Default (Text Anyhow true HowSpan)
how_default = record { text = codes "join"; plain = refl; is = join_text [] tt }

-- `|join`
bar_how_default : Default (Text Parted true BarHow)
bar_how_default = both refl (sign_default 124 bar refl) how_default

branches_how_ends : (at : ℕ) (all : List PipeTree) (s : Rest) →
    Reads (Text Parted true BarHow) s (pipes.branches_how at all s)
unfolding pipes.branches_how
branches_how_ends at all s = then_ends s (sign 124 what.Bar s) _ refl (sign_ends 124 what.Bar bar refl s) how_default
    (λ m. done_ends m (pipes.how_here (skip m)) (λ x. (tree.Branches at (branches all) x.0 (skip m).at, x.1))
    (how_ends m) (λ x. refl) (λ x w f. f))

-- branches up to a semicolon, and up to the last brace
abbrev PipesSpan : ℕ → List ℕ → List ℕ → Type 0
PipesSpan d x z = (at : ℕ) → (n : ℕ × List PipeTree) × PipeList d (at_place at x) (at_place n.0 z) n.1

abbrev BegunSpan : ℕ → List ℕ → List ℕ → Type 0
BegunSpan d x z = Then (PipeSpan d) (SignSpan 59) x z ⊎ Then (PipesSpan d) (SignSpan 59) x z

abbrev BegunText : ℕ → List ℕ → Type 0
BegunText d = Text Anyhow true (BegunSpan d)

abbrev ClosedText : ℕ → List ℕ → Type 0
ClosedText d = Text Anyhow true (Then (PipesSpan d) (SignSpan 125))

grown_span : (d : ℕ) (x z : List ℕ) → Then (BegunSpan d) (PipeSpan d) x z → PipesSpan d x z
grown_span d x z k = either k.first
  where
    either : BegunSpan d x k.between → PipesSpan d x z
    either (inl f) = λ at. let a = f.first at in let b = f.second a.0.0 in let c = k.second b.0 in
        ((c.0.0, a.0.1 ∷ c.0.1 ∷ []), two_pipes a.1 b.1 c.1)
    either (inr f) = λ at. let a = f.first at in let b = f.second a.0.0 in let c = k.second b.0 in
        ((c.0.0, a.0.1 ++ c.0.1 ∷ []), more_pipes a.1 b.1 c.1)

branches_grown : (d : ℕ) (w v : List ℕ) → BegunText d w → PipeText d v → Text Anyhow false (PipesSpan d) (w ++ v)
branches_grown d w v f g = changed (grown_span d) (w ++ v) (join w v refl f g)

closed_text : (d : ℕ) (w v u : List ℕ) → BegunText d w → PipeText d v → Text Parted true (SignSpan 125) u →
    ClosedText d (w ++ (v ++ u))
closed_text d w v u f g h =
    subst (ClosedText d) (append_assoc w v u) (join (w ++ v) u refl (branches_grown d w v f g) h)

begun_text : (d : ℕ) (w v u : List ℕ) → BegunText d w → PipeText d v → Text Parted true (SignSpan 59) u →
    BegunText d (w ++ (v ++ u))
begun_text d w v u f g h =
    subst (BegunText d) (append_assoc w v u)
    (changed (λ x z k. inr k) ((w ++ v) ++ u) (join (w ++ v) u refl (branches_grown d w v f g) h))

first_branch : (d : ℕ) (v u : List ℕ) → PipeText d v → Text Parted true (SignSpan 59) u → BegunText d (v ++ u)
first_branch d v u f g = changed (λ x z k. inl k) (v ++ u) (join v u refl f g)

source_span : (d : ℕ) (x z : List ℕ) → Then (SignSpan 123) (Then (Then (PipesSpan d) (SignSpan 125)) BarHow) x z →
    SourceSpan (suc d) x z
source_span d x z k at =
    let a = k.first at in
    let b = k.second.first.first a.0 in
    let c = k.second.first.second b.0.0 in
    let e = k.second.second.first c.0 in
    let g = k.second.second.second e.0 in (
      (
        g.0.0,
        tree.Branches (skip (at_place at x)).at (branches b.0.1) g.0.1
            (skip (at_place e.0 k.second.second.between)).at,
      ),
      grammar.join a.1 b.1 c.1 e.1 g.1,
    )

-- a brace, a first branch and its semicolon, the others up to the last brace, and how they are joined
source_text : (d : ℕ) (w v u y q : List ℕ) → Text Parted true (SignSpan 123) w → ClosedText d ((v ++ u) ++ y) →
    Text Parted true BarHow q → SourceText (suc d) (w ++ (v ++ (u ++ (y ++ q))))
source_text d w v u y q f g h =
    subst (λ t. SourceText (suc d) (w ++ t)) (append_assoc (v ++ u) y q ∙ append_assoc v u (y ++ q))
    (unended (w ++ (((v ++ u) ++ y) ++ q))
    (anyhow (w ++ (((v ++ u) ++ y) ++ q)) (changed (source_span d) (w ++ (((v ++ u) ++ y) ++ q))
    (join w (((v ++ u) ++ y) ++ q) refl f (join ((v ++ u) ++ y) q refl g h)))))

-- `fetch _::/a}`
last_branch : List ℕ
last_branch = (codes "fetch" ++ in_fetch.text) ++ 125 ∷ []

last_plain : NoQuotes (last_branch ++ bar_how_default.text)
unfolding last_branch
last_plain = no_quotes_on last_branch bar_how_default.text
    (no_quotes_on (codes "fetch" ++ in_fetch.text) (125 ∷ []) in_metric.plain refl) bar_how_default.plain

last_closed : (d : ℕ) (w : List ℕ) → BegunText d w → ClosedText d (w ++ last_branch)
unfolding last_branch
last_closed d w f =
    closed_text d w (codes "fetch" ++ in_fetch.text) (125 ∷ []) f
    (source_pipe d (codes "fetch" ++ in_fetch.text) (fetch_text d [] tt)) (sign_text 125 close_brace [] tt)

-- what is read of a pipe
abbrev pub ReadsPipe : ℕ → Rest → Outcome PipeTree → Type 0
ReadsPipe d s o = Ends {A = PipeTree × Rest} behind_read (λ x. PipeSeen d x.0) (PipeText d) s o

-- what may come behind the first of several branches
branch_missing : (d : ℕ) (w v : List ℕ) → Text Parted true (SignSpan 123) w → (groups : Bool) → PipeText d v →
    Longer d groups v → (r : Rest) → Finish (λ u. SourceText (suc d) (w ++ (v ++ u))) r
    (unexpected_fault (if groups then what.Comma else what.Semicolon) (skip r))
branch_missing d w v f false g h r =
    let end = last_branch ++ bar_how_default.text in
    wrong what.Semicolon r 59 [] end refl
    (λ bs e. subst (λ t. SourceText (suc d) (w ++ (v ++ t))) (append_assoc bs (59 ∷ []) end)
    (source_text d w v (bs ++ 59 ∷ []) last_branch bar_how_default.text f
    (last_closed d (v ++ (bs ++ 59 ∷ [])) (first_branch d v (bs ++ 59 ∷ []) g (sign_text 59 semicolon bs e)))
    bar_how_default.is))
branch_missing d w v f true g h r =
    let end = 59 ∷ (last_branch ++ bar_how_default.text) in
    wrong what.Comma r 44 [] (folding_default.text ++ end) refl
    (λ bs e. let more = bs ++ 44 ∷ folding_default.text in
    subst (λ t. SourceText (suc d) (w ++ t))
    (append_assoc v more end ∙ ap (λ t. v ++ t) (append_assoc bs (44 ∷ folding_default.text) end))
    (source_text d w (v ++ more) (59 ∷ []) last_branch bar_how_default.text f
    (last_closed d ((v ++ more) ++ 59 ∷ []) (first_branch d (v ++ more) (59 ∷ []) (h refl bs e)
    (sign_text 59 semicolon [] tt))) bar_how_default.is))

module _ (d : ℕ) (piped : (s : Rest) → ReadsPipe d s (pipes.pipe d s)) where
  branch_turn_ends : (so_far : List PipeTree) (s : Rest) (w : List ℕ) → BegunText d w →
      TurnEnds (λ a v. BegunText d (w ++ v)) (λ a v. ClosedText d (w ++ v)) (λ v. ClosedText d (w ++ v)) s
      (pipes.branch_turn (pipes.pipe d) so_far s)
  unfolding pipes.branch_turn
  branch_turn_ends so_far s w f =
      on_read_ends s (pipes.branch_behind so_far) (pipes.pipe d s) (piped s)
      (λ v g. record {
        text = 125 ∷ [];
        plain = refl;
        is = closed_text d w v (125 ∷ []) f g (sign_text 125 close_brace [] tt);
      })
      (λ x v g. let t = skip x.1 in let all = so_far ++ x.0 ∷ [] in
      if_turns x.1 (head t == 59) (Again all (behind t)) _
      (λ h. record { way = cut_as x.1 (behind t) (sign_cut 59 semicolon x.1 h) (λ u k. begun_text d w v u f g.0 k) })
      (λ _. if_turns x.1 (head t == 125) (Done all (behind t)) (Stuck (unexpected_fault what.CloseBrace t))
      (λ h. record {
        way = cut_as x.1 (behind t) (sign_cut 125 close_brace x.1 h)
            (λ u k. closed_text d w v u f g.0 k);
      })
      (λ _. record {
        way = wrong what.CloseBrace x.1 125 [] [] refl
            (λ bs e. closed_text d w v (bs ++ 125 ∷ []) f g.0 (sign_text 125 close_brace bs e));
      })))

  branches_ends : (s : Rest) → (head (skip s) == 123) ≡ true →
      Reads (SourceText (suc d)) s (pipes.branches_with (pipes.pipe d) (skip s).at (behind (skip s)))
  unfolding pipes.branches_with
  branches_ends s h =
      let m = behind (skip s) in
      let q = bar_how_default in
      cut_then s m _ (sign_cut 123 open_brace s h) (λ w f.
      bind_ends m (pipes.pipe d m) _ (piped m)
      (λ v g. let semi = sign_default 59 semicolon refl in record {
        text = semi.text ++ (last_branch ++ q.text);
        plain = no_quotes_on semi.text (last_branch ++ q.text) semi.plain last_plain;
        is = source_text d w v semi.text last_branch q.text f
            (last_closed d (v ++ semi.text) (first_branch d v semi.text g semi.is)) q.is;
      })
      (λ first v g. let r = first.1 in let m = behind (skip r) in
      if_bind r (head (skip r) == 59) m (unexpected_fault (pipes.behind_branch first.0) (skip r))
      (λ more. repetition (pipes.branch_turn (pipes.pipe d)) (first.0 ∷ []) more >>=
      λ all. pipes.branches_how (skip s).at all.0 all.1)
      (λ h. cut_then r m _ (sign_cut 59 semicolon r h)
      (λ u k. bind_ends m (repetition (pipes.branch_turn (pipes.pipe d)) (first.0 ∷ []) m) _
      (loop_ends (pipes.branch_turn (pipes.pipe d)) (branch_turn_behind d) (λ a y. BegunText d y)
      (λ a y. ClosedText d y) (ClosedText d) branch_turn_ends (first.0 ∷ []) m (v ++ u)
      (first_branch d v u g.0 k)) (λ y l. record {
        text = q.text;
        plain = q.plain;
        is = source_text d w v u y q.text f
            l q.is;
      })
      (λ all y l. ends_as all.1 (pipes.branches_how (skip s).at all.0 all.1)
      (branches_how_ends (skip s).at all.0 all.1) (λ x z p. source_text d w v u y z f l p)
      (λ z p. source_text d w v u y z f l p))))
      (λ _. branch_missing d w v f (pipes.groups_last (pipes.ops_of first.0)) g.0 g.1 r)))

module _ (d : ℕ) (grouped : (s : Rest) → (head (skip s) == 123) ≡ true →
    Reads (SourceText d) s (pipes.pipe_group d (skip s) (behind (skip s)))) where
  source_ends_with : (s : Rest) → Reads (SourceText d) s (pipes.source d s)
  unfolding pipes.source_with
  source_ends_with s =
      let t = skip s in
      if_ends s (head t == 102) (pipes.fetch t) _ (λ _. fetch_ends d s)
      (λ _. if_ends s (head t == 123) (pipes.pipe_group d t (behind t)) (Err (unexpected_fault what.Fetch t))
      (grouped s)
      (λ _. record { way = wrong what.Fetch s 102 (codes "etch") in_fetch.text fetch_word.bare (fetch_text d) }))

  pipe_ends_with : (s : Rest) → ReadsPipe d s (pipes.pipe d s)
  unfolding pipes.pipe_with
  pipe_ends_with s =
      bind_ends s (pipes.source d s) _ (source_ends_with s) (λ w f. as_it_is (PipeText d) w (source_pipe d w f))
      (λ x w f. done_ends x.1 (pipes.operations d x.1) (λ y. (tree.Flow x.0 y.0, y.1))
      (operations_ends d x.1 w (source_pipe d w f)) (λ y. refl) (λ y v g. g))

group_ends : (d : ℕ) (s : Rest) → (head (skip s) == 123) ≡ true →
    Reads (SourceText d) s (pipes.pipe_group d (skip s) (behind (skip s)))
unfolding pipes.pipe_group
group_ends zero s h = record {
  way = refused s (codes "fetch" ++ in_fetch.text) TooDeep tt (λ front. tt)
      (fetch_text 0);
}
group_ends (suc d) s h = branches_ends d (pipe_ends_with d (group_ends d)) s h

pub pipe_ends : (d : ℕ) (s : Rest) → ReadsPipe d s (pipes.pipe d s)
pipe_ends d = pipe_ends_with d (group_ends d)
