-- What a text's fault expects is the first that may come.
use Rattle.std.proofs.Common.{◌≡◌, ◌⊎◌, inl, inr, ℕ, ◌<◌, ◌≤◌, Bool, true, false, ◌==◌, ◌||◌, ◌&&◌, nat_le, List}
use Rattle.std.proofs.Common.{codes, Some, None, [], ◌∷◌, ◌++◌, length, take, drop, refl, sym, ap, ◌∙◌, subst, arith}
use Rattle.std.proofs.Common.{if◌then◌else◌, append_assoc, Result, Ok, Err}
use Rattle.std.specs.Result.{IfErr}
use Rattle.std.proofs.lemmas.Bool.{false≢true}
use Rattle.std.proofs.lemmas.Bool.Decides.{nat_tests}
use Rattle.std.proofs.lemmas.List.{take-append-drop, length-take-le}
use Rattle.mon_value.specs.Answers.{◌>>=◌, GivesView}
use Rattle.mon_value.specs.declared.refusals.Refusal.{Refusal}
use Rattle.mon_value.specs.declared.refusals.Refusal.TheVariants as refusal
use Rattle.mql_ast.specs.declared.pipes.Query.{Query}
use Rattle.mql_ast.specs.Tokens.{is_blank, Rest, first_of, head, behind, skip, sign_at, past, keyword_at}
use Rattle.mql_ast.specs.Trees.{PipeTree, SourceTree, query_tree}
use Rattle.mql_ast.specs.Grammar.{start, levels, longest_text, Pipe, flow, Source, fetch, join, SpellsAtLength, Begins}
use Rattle.mql_parse.specs.declared.faults.ParseFault.{ParseFault}
use Rattle.mql_parse.specs.declared.faults.ParseKind.TheVariants.{Expected}
use Rattle.mql_parse.specs.declared.faults.What.{What}
use Rattle.mql_parse.specs.declared.faults.What.TheVariants as what
use Rattle.mql_parse.specs.Outcomes.{Outcome, fault, unexpected_fault}
use Rattle.mql_parse.specs.PipeReading.{pipe, behind_query, query_end_in, query_end, query_within, query, text_outcome}
use Rattle.mql_parse.specs.FaultDepths.{SpellsWithin}
use Rattle.mql_parse.specs.Faults.{FaultOf, open_quotes}
use Rattle.mql_parse.specs.WordOrder.{rank, stands_alone, allows}
use Rattle.mql_parse.specs.FaultTokens.{IsBare, with_token_behind, MayStandBehind, MayCome, ExpectedKind}
use Rattle.mql_parse.specs.FaultFirsts.{FirstKind}
use Rattle.mql_parse.specs.Steadiness.{next}
use Rattle.mql_parse.proofs.RestLemmas.{skip_off}
use Rattle.mql_parse.proofs.TextSteady.{begins_here, more_left, begins_at_levels, text_fault}
use Rattle.mql_parse.proofs.TextComplete.{query_complete, within_levels}
use Rattle.mql_parse.proofs.FrontEndings.{fetch_begins, Spelled, Arrives, fault_within, fault_comes}
use Rattle.mql_parse.proofs.Endings.{ComesBy, Closes, Comes, IfExpected}
use Rattle.mql_ast.specs.Quotes.{Whole}
use Rattle.mql_parse.proofs.KindFits.{quotes_append}
use Rattle.mql_parse.proofs.TextKinds.{spelled_closed}
use Rattle.mql_parse.proofs.FirstWords.{told, Starts, StartsOn, bare_starts, allowed, allowed_of, some_by}
use Rattle.mql_parse.proofs.Firsts.{Spot, instead, Splits, over_splits, splits_head, Begun, Failed, MeetsOutcome}
use Rattle.mql_parse.proofs.Firsts.{kind_names}
use Rattle.mql_parse.proofs.FirstPipes.{PipeGoes, pipe_meets}
use Rattle.mon_value.proofs.PlainLemmas.{equal_numbers}
use Rattle.mql_parse.proofs.FollowTexts.{refused}

-- some bytes are left of the second text
some_instead : (x : Spot) (s t : Rest) → Splits x s t → t.bytes ≡ [] → ⊥
some_instead x = over_splits x (λ s t. t.bytes ≡ [] → ⊥) (λ common after at h e. of_common common e)
  where
    of_common : (common : List ℕ) → common ++ instead x ≡ [] → ⊥
    of_common [] e = absurd (cc)
    of_common (c ∷ common) e = absurd (cc)

-- a query's end
end_first : (x : Spot) (tree : PipeTree) (r : Rest) (bs : List ℕ) (p : Outcome PipeTree) (other : PipeTree)
    (f : ParseFault) → ((next r ≤ x.at) → ((q : Rest) × ((p ≡ Ok (tree, q)) × Splits x r q)) ⊎
    ((next r ≡ x.at) × PipeGoes x tree)) → query_end_in tree r bs ≡ Err f → f.at ≡ x.at →
    (p >>= query_end) ≡ Ok other → (w : What) → f.kind ≡ Expected w → Begun x w
end_first x tree r [] p other f h e place done w k = absurd (cc)
end_first x tree r (b ∷ bs) p other f h e place done w k =
    let same : unexpected_fault (behind_query tree) (skip r) ≡ f = cc in
    let here : next r ≡ x.at = ap (λ g. g.at) same ∙ place in
    let named : w ≡ behind_query tree = kind_names (behind_query tree) (skip r).bytes w (ap (λ g. g.kind) same ∙ k) in
    by_part named (h (omega (arith, here)))
  where
    by_part : w ≡ behind_query tree → ((q : Rest) × ((p ≡ Ok (tree, q)) × Splits x r q)) ⊎
        ((next r ≡ x.at) × PipeGoes x tree) → Begun x w
    by_part n (inl c) =
        absurd (refused other (query_end (tree, c.0)) (unexpected_fault (behind_query tree) (skip c.0))
        (sym (ap (λ z. z >>= query_end) c.1.0) ∙ done) (more_left tree c.0 c.0.bytes (some_instead x r c.0 c.1.1)))
    by_part n (inr c) = subst (Begun x) (sym n) c.1

pipe_end_first : (x : Spot) (o p : Outcome PipeTree) (other : PipeTree) (f : ParseFault) →
    MeetsOutcome x next (PipeGoes x) o p → (o >>= query_end) ≡ Err f → f.at ≡ x.at → (p >>= query_end) ≡ Ok other →
    (w : What) → f.kind ≡ Expected w → Begun x w
pipe_end_first x (Ok (tree, r)) p other f h e place done w k =
    end_first x tree r r.bytes p other f h e place done w k
pipe_end_first x (Err g) p other f h e place done w k =
    let same : g ≡ f = cc in
    by_part p (h (ap (λ z. z.at) same ∙ place) w (ap (λ z. z.kind) same ∙ k)) done
  where
    by_part : (p : Outcome PipeTree) → Begun x w ⊎ Failed p → (p >>= query_end) ≡ Ok other → Begun x w
    by_part p (inl b) d = b
    by_part (Ok y) (inr b) d = absurd b
    by_part (Err z) (inr b) d = absurd (cc)

-- a text, and one that goes on otherwise from the fault on
query_first : (d : ℕ) (x : Spot) (text other : List ℕ) (tree : PipeTree) (f : ParseFault) →
    Splits x (start text) (start other) → 0 < x.at → query_within d text ≡ Err f → f.at ≡ x.at →
    query_within d other ≡ Ok tree → (w : What) → f.kind ≡ Expected w → Begun x w
unfolding query_within
query_first d x text other tree f c l e place done w k =
    by_tests ((skip (start text)).at == 0) ((skip (start other)).at == 0) alike e done
  where
    alike : ((skip (start other)).at == 0) ≡ ((skip (start text)).at == 0)
    alike = begins_here (start other) (is_blank (head (start text)))
        (ap is_blank (splits_head x (start text) (start other) c l))
        ∙ sym (begins_here (start text) (is_blank (head (start text))) refl)

    by_tests : (t u : Bool) → u ≡ t →
        (if t then (pipe d (start text) >>= query_end) else Err (fault (Expected what.Fetch) (start text))) ≡ Err f →
        (if u then (pipe d (start other) >>= query_end) else Err (fault (Expected what.Fetch) (start other))) ≡ Ok tree
        →
        Begun x w
    by_tests true true h g q = pipe_end_first x (pipe d (start text)) (pipe d (start other)) tree f
        ((pipe_meets x d).agrees (start text) (start other) c) g place q w k
    by_tests false u h g q = let same : fault (Expected what.Fetch) (start text) ≡ f = cc in
        absurd (omega (arith, l, sym place, ap (λ z. z.at) same))
    by_tests true false h g q = absurd (false≢true h)

-- what stands behind the front and a line's end in a text that is spelled is allowed there
follows_allowed : (text : List ℕ) (f : ParseFault) → query text ≡ Err f → (w : What) → f.kind ≡ Expected w → (c : ℕ)
    (front : List ℕ) → take f.at text ≡ c ∷ front → (v : What) (token : List ℕ) → IsBare v token →
    Begins (c ∷ (front ++ 10 ∷ token)) → allowed w v ≡ true
follows_allowed text f e w k c front first v token bare begun =
    by_token token (bare_starts v token begun.more bare) begun.spelled
  where
    by_token : (token : List ℕ) → StartsOn v begun.more token →
        SpellsAtLength begun.tree ((c ∷ (front ++ 10 ∷ token)) ++ begun.more) → allowed w v ≡ true
    by_token [] s t = absurd s
    by_token (b ∷ rest) s t =
        let more = rest ++ begun.more in
        let other = (c ∷ (front ++ 10 ∷ b ∷ rest)) ++ begun.more in
        let x : Spot = record { at = f.at; byte = b; more = more; solid = s.0; word = v; starts = s.1 } in
        let whole : SpellsWithin levels begun.tree other = within_levels begun.tree other t in
        let fits : length (take f.at text) ≡ f.at = length-take-le f.at text (fault_within levels text f e) in
        query_first levels x text other begun.tree f
        (record {
          common = take f.at text;
          after = drop f.at text;
          bytes = sym (take-append-drop f.at text);
          others = append_assoc (c ∷ front) (10 ∷ b ∷ rest) begun.more
              ∙ ap (λ v. v ++ instead x) (sym first);
          place = refl;
          ends = omega (arith, fits);
        }) (omega (arith, fits, ap length first)) e refl (query_complete levels other begun.tree whole) w k

-- what begins a text is `fetch` or a brace
fetch_first : (v : What) (b : ℕ) (rest : List ℕ) (m : Rest) → is_blank b ≡ false → Starts v b (first_of rest) →
    keyword_at (codes "fetch") (start (b ∷ rest)) ≡ Some m → allows what.Fetch v ≡ true
fetch_first v b rest m h k f =
    let here = skip_off (start (b ∷ rest)) h in
    let first : (b == 102) ≡ true = ap (λ t. head t == 102) (sym here) ∙ some_by _ _ m f in
    let again : past (codes "etch") (behind (start (b ∷ rest))) ≡ Some m =
    sym (ap (λ t. if t then past (codes "etch") (behind (start (b ∷ rest))) else None) first)
    ∙ ap (past (codes "fetch")) (sym here) ∙ f in
    let second : (first_of rest == 101) ≡ true = some_by _ _ m again in
    allowed_of what.Fetch what.Fetch v b (first_of rest) k
    (ap (λ n. told n (first_of rest)) (equal_numbers b 102 first) ∙ ap (told 102) (equal_numbers (first_of rest) 101 second))
    refl

brace_first : (v : What) (b : ℕ) (rest : List ℕ) (m : Rest) → is_blank b ≡ false → Starts v b (first_of rest) →
    sign_at 123 (start (b ∷ rest)) ≡ Some m → allows what.Fetch v ≡ true
brace_first v b rest m h k f =
    let first : (b == 123) ≡ true = ap (λ t. head t == 123) (sym (skip_off (start (b ∷ rest)) h)) ∙ some_by _ _ m f in
    allowed_of what.Fetch what.OpenBrace v b (first_of rest) k (ap (λ n. told n (first_of rest))
    (equal_numbers b 123 first))
    refl

source_first : {d : ℕ} {s r : Rest} {t : SourceTree} → Source d s r t → (v : What) (b : ℕ) (rest : List ℕ) →
    s ≡ start (b ∷ rest) → is_blank b ≡ false → Starts v b (first_of rest) → allows what.Fetch v ≡ true
source_first (fetch f a n c m) v b rest e h k = fetch_first v b rest _ h k (ap (keyword_at (codes "fetch")) (sym e) ∙ f)
source_first (join f p g i w) v b rest e h k = brace_first v b rest _ h k (ap (sign_at 123) (sym e) ∙ f)

start_allowed : {d : ℕ} {s r : Rest} {tree : PipeTree} → Pipe d s r tree → (v : What) (b : ℕ) (rest : List ℕ) →
    s ≡ start (b ∷ rest) → is_blank b ≡ false → Starts v b (first_of rest) → allows what.Fetch v ≡ true
start_allowed (flow source ops) v b rest e h k = source_first source v b rest e h k

begins_allowed : (v : What) (token : List ℕ) → IsBare v token → Begins token → allows what.Fetch v ≡ true
begins_allowed v token bare begun = by_token token (bare_starts v token begun.more bare) begun.spelled
  where
    by_token : (token : List ℕ) → StartsOn v begun.more token → SpellsAtLength begun.tree (token ++ begun.more) →
        allows what.Fetch v ≡ true
    by_token [] s t = absurd s
    by_token (b ∷ rest) s t = start_allowed t.whole v b (rest ++ begun.more) refl s.0 s.1

-- a name is no keyword's token, and only `fetch` is earlier than one
keyword_alone : (n : ℕ) → (n == 0 || n == 6 || (nat_le 8 n && nat_le n 11)) ≡ true →
    (n == 1 || (if (n == 0 || n == 6 || (nat_le 8 n && nat_le n 11)) || n == 5 then 1 == n || (n == 0 && 1 == 12)
    else nat_le n 1)) ≡ true → ⊥
keyword_alone n h k = grind (arith, nat_tests)

name_of : (w : What) → rank w ≡ 1 → w ≡ what.Name
name_of what.Fetch h = absurd (cc)
name_of what.Name h = refl
name_of what.Metric h = absurd (cc)
name_of what.Text h = absurd (cc)
name_of what.Number h = absurd (cc)
name_of what.Unit h = absurd (cc)
name_of what.Truth h = absurd (cc)
name_of what.Comparison h = absurd (cc)
name_of what.Aligner h = absurd (cc)
name_of what.Aggregate h = absurd (cc)
name_of what.Operation h = absurd (cc)
name_of what.How h = absurd (cc)
name_of what.OpenBrace h = absurd (cc)
name_of what.CloseBrace h = absurd (cc)
name_of what.OpenBracket h = absurd (cc)
name_of what.CloseBracket h = absurd (cc)
name_of what.OpenParenthesis h = absurd (cc)
name_of what.CloseParenthesis h = absurd (cc)
name_of what.Colons h = absurd (cc)
name_of what.Colon h = absurd (cc)
name_of what.Comma h = absurd (cc)
name_of what.Semicolon h = absurd (cc)
name_of what.Bar h = absurd (cc)
name_of what.Or h = absurd (cc)
name_of what.And h = absurd (cc)
name_of what.Not h = absurd (cc)
name_of what.Plus h = absurd (cc)
name_of what.Minus h = absurd (cc)

-- what comes behind a front, as the definition has it
comes_follows : (text : List ℕ) (f : ParseFault) → query text ≡ Err f → (w : What) → f.kind ≡ Expected w → (c : ℕ)
    (front : List ℕ) → take f.at text ≡ c ∷ front → Comes (Spelled levels) (c ∷ front) w → MayCome (c ∷ front) w
comes_follows text f e w k c front first g = by_begun g.begun g.parts g.way g.closes
  where
    begins : Begins ((c ∷ front) ++ g.byte ∷ g.rest)
    begins = begins_at_levels ((c ∷ front) ++ g.byte ∷ g.rest) (record {
      more = g.more;
      tree = g.is.0;
      spelled = subst (SpellsWithin levels g.is.0) (sym (append_assoc (c ∷ front) (g.byte ∷ g.rest) g.more)) g.is.1;
    })

    tail : List ℕ
    tail = g.byte ∷ (g.rest ++ g.more)

    never_closed : open_quotes None tail ≡ Some Whole → open_quotes None (c ∷ front) ≡ None → ⊥
    never_closed opens closed =
        let all = quotes_append None (c ∷ front) tail ∙ ap (λ o. open_quotes o tail) closed ∙ opens in
        let none = sym (spelled_closed levels g.is.0 ((c ∷ front) ++ tail) g.is.1) ∙ all in absurd (cc)

    by_begun : (begun : List ℕ) → c ∷ front ≡ g.before ++ begun → ComesBy w begun g.byte g.rest →
        Closes w begun tail → MayCome (c ∷ front) w
    by_begun [] p way opens = inr (record {
      token = g.rest;
      is_token = way.1;
      begins = subst (λ b. Begins ((c ∷ front) ++ b ∷ g.rest)) way.0 begins;
      no_name = λ h named.
          keyword_alone (rank w) h (follows_allowed text f e w k c front first what.Name (codes "_") refl named);
    })
    by_begun (b ∷ begun) p way opens = inl (record {
      before = g.before;
      first = b;
      begun = begun;
      next = g.byte;
      rest = g.rest;
      parts = p;
      unfinished = way.0;
      token = way.1;
      begins = begins;
      quotes = λ e closed. never_closed (opens e) closed;
    })

fetch_follows : MayStandBehind [] what.Fetch
fetch_follows = record {
  token = codes "fetch";
  is_token = refl;
  begins = begins_at_levels (codes "fetch") (fetch_begins levels);
  no_name = λ h named. false≢true (begins_allowed what.Name (codes "_") refl named);
}

arrived : (text : List ℕ) (f : ParseFault) → query text ≡ Err f → (w : What) → f.kind ≡ Expected w →
    Arrives levels (take f.at text) w
arrived text f e w kind =
    subst (λ k. IfExpected k (Arrives levels (take f.at text))) kind (fault_comes levels text f e)

expected_of_query : (text : List ℕ) (f : ParseFault) → query text ≡ Err f → ExpectedKind text f
expected_of_query text f e w kind = by_front (take f.at text) refl (arrived text f e w kind)
  where
    by_front : (front : List ℕ) → take f.at text ≡ front → Arrives levels front w → MayCome front w
    by_front [] q g = subst (MayCome []) (sym g) (inr fetch_follows)
    by_front (c ∷ front) q g = comes_follows text f e w kind c front q g

-- a name that is expected follows
no_more : (begun rest : List ℕ) (b c : ℕ) → b ∷ (begun ++ c ∷ rest) ≡ codes "_" → ⊥
no_more [] rest b c h = cc
no_more (x ∷ begun) rest b c h = cc

name_follows : (front : List ℕ) → MayCome front what.Name → Begins (with_token_behind front (codes "_"))
name_follows front (inl g) = absurd (no_more g.begun g.rest g.first g.next g.token)
name_follows front (inr g) = subst (λ t. Begins (with_token_behind front t)) g.is_token g.begins

-- what is allowed where a name is expected, if it is no keyword's word
name_allows : (n m : ℕ) (alone : Bool) → n ≡ 1 → alone ≡ false → (m ≡ 0 → ⊥) →
    (if alone then m == n || (n == 0 && m == 12) else nat_le n m) ≡ true
name_allows n m true e a h = absurd (cc)
name_allows n m false e a h = grind (arith, nat_tests)

first_of_query : (text : List ℕ) (f : ParseFault) → query text ≡ Err f → FirstKind text f
first_of_query text f e w k v m =
    by_front (take f.at text) refl (arrived text f e w k) (expected_of_query text f e w k) m
  where
    by_name : (front : List ℕ) → MayCome front w → MayStandBehind front v → (t : Bool) → (rank w == 1) ≡ t →
        (t || allows w v) ≡ true → allows w v ≡ true
    by_name front c m false h a = a
    by_name front c m true h a =
        let one : rank w ≡ 1 = equal_numbers (rank w) 1 h in
        let named = name_follows front (subst (MayCome front) (name_of w one) c) in
        name_allows (rank w) (rank v) (stands_alone w) one (ap (λ u. stands_alone u) (name_of w one))
        (λ none. m.no_name (ap (λ n. n == 0 || n == 6 || (nat_le 8 n && nat_le n 11)) none) named)

    by_front : (front : List ℕ) → take f.at text ≡ front → Arrives levels front w → MayCome front w →
        MayStandBehind front v → allows w v ≡ true
    by_front [] q g c m = subst (λ u. allows u v ≡ true) (sym g) (begins_allowed v m.token m.is_token m.begins)
    by_front (b ∷ front) q g c m =
        by_name (b ∷ front) c m (rank w == 1) refl
        (follows_allowed text f e w k b front q v m.token m.is_token m.begins)

-- what is expected may come
pub fault_expected : (text : List ℕ) (result : Result Query (Refusal ParseFault)) → GivesView query_tree result
    (text_outcome text) → length text ≤ longest_text → IfErr result (FaultOf (ExpectedKind text))
fault_expected text (Ok q) h fits = tt
fault_expected text (Err (refusal.Fault f)) h fits = expected_of_query text f (text_fault text f fits h)
fault_expected text (Err refusal.OutOfMemory) h fits = tt

-- and is the first that may
pub fault_first : (text : List ℕ) (result : Result Query (Refusal ParseFault)) → GivesView query_tree result
    (text_outcome text) → length text ≤ longest_text → IfErr result (FaultOf (FirstKind text))
fault_first text (Ok q) h fits = tt
fault_first text (Err (refusal.Fault f)) h fits = first_of_query text f (text_fault text f fits h)
fault_first text (Err refusal.OutOfMemory) h fits = tt
