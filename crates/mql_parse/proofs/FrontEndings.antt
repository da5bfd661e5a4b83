-- What stands before a fault begins some query text.
use Rattle.std.proofs.Common.{◌≡◌, ℕ, ◌+◌, ◌<◌, ◌≤◌, Bool, true, false, ◌==◌, List, [], ◌∷◌, ◌++◌, length, take, codes}
use Rattle.std.proofs.Common.{refl, sym, ap, ◌∙◌, subst, arith, if◌then◌else◌, append_assoc, length-append, Result, Ok}
use Rattle.std.proofs.Common.{Err}
use Rattle.std.proofs.Math.Seq.{take-append_seam}
use Rattle.std.proofs.lemmas.List.{append-nil}
use Rattle.std.proofs.lemmas.Bool.{eqb-true}
use Rattle.mon_value.specs.Answers.{◌>>=◌}
use Rattle.mql_ast.specs.Trees.{PipeTree}
use Rattle.mql_ast.specs.Tokens.{is_blank, Rest, skip}
use Rattle.mql_ast.specs.Grammar.{start, Pipe}
use Rattle.mql_parse.specs.declared.faults.ParseFault.{ParseFault}
use Rattle.mql_parse.specs.declared.faults.ParseKind.TheVariants.{Expected}
use Rattle.mql_parse.specs.declared.faults.What.{What}
use Rattle.mql_parse.specs.declared.faults.What.TheVariants as what
use Rattle.mql_parse.specs.Outcomes.{Outcome, fault, unexpected_fault}
use Rattle.mql_parse.specs.FaultDepths.{SpellsWithin, BeginsWithin}
use Rattle.mql_parse.specs.PipeReading as pipes
use Rattle.mql_parse.proofs.RestLemmas.{skip_off}
use Rattle.mql_parse.proofs.Endings.{Cut, Smaller, IfTooLarge, if_too_large, Comes, IfExpected, expected_by, Finish}
use Rattle.mql_parse.proofs.Endings.{EndsIn, behind_read, finish_before}
use Rattle.mql_parse.proofs.TokenEndings.{at_place, skip_over, skip_cut, wrong}
use Rattle.mql_parse.proofs.NumberEndings.{duration_default}
use Rattle.mql_parse.proofs.ListEndings.{folding_default}
use Rattle.mql_parse.proofs.FirstFaults.{FetchAt, FetchFirst, pipe_first}
use Rattle.mql_parse.proofs.PipeEndings.{in_fetch, Longer, PipeSeen, PipeText, pipe_ends, pipe_default}
use Rattle.mql_parse.proofs.PipeEndings.{one_more_operation}

-- fronts of what begins a text begin it too
pub shorter_begins : (d : ℕ) (v w : List ℕ) → BeginsWithin d (v ++ w) → BeginsWithin d v
shorter_begins d v w b = record {
  more = w ++ b.more;
  tree = b.tree;
  spelled = subst (SpellsWithin d b.tree) (append_assoc v w b.more) b.spelled;
}

-- the text is spelled by some tree of at most so many levels
abbrev pub Spelled : ℕ → List ℕ → Type 0
Spelled d text = (tree : PipeTree) × SpellsWithin d tree text

-- a whole pipe whose first byte is no blank is spelled
whole_spelled : (d b : ℕ) (text : List ℕ) → is_blank b ≡ false → PipeText d (b ∷ text) → Spelled d (b ∷ text)
whole_spelled d b text h f =
    let n = f.fills [] refl 0 in (
      n.0.1,
      record {
        begins = skip_off (start (b ∷ text)) h;
        end = at_place n.0.0 [];
        whole = subst (λ t. Pipe d (start t) (at_place n.0.0 []) n.0.1) (append-nil (b ∷ text)) n.1;
        ended = refl;
      },
    )

-- and each front of it begins a query
whole_begins : (d b : ℕ) (front tail : List ℕ) → is_blank b ≡ false → PipeText d ((b ∷ front) ++ tail) →
    BeginsWithin d (b ∷ front)
whole_begins d b front tail h f = let whole = whole_spelled d b (front ++ tail) h f in
    record { more = tail; tree = whole.0; spelled = whole.1 }

-- nothing begins `fetch _::/a`
nothing_begins : (d : ℕ) → BeginsWithin d []
nothing_begins d = let whole = whole_spelled d 102 (pipe_default d).text refl (pipe_default d).is in
    record { more = 102 ∷ (pipe_default d).text; tree = whole.0; spelled = whole.1 }

-- a text with no blank first
first_not_blank : (b : ℕ) (bs : List ℕ) → ((skip (start (b ∷ bs))).at == 0) ≡ true → is_blank b ≡ false
first_not_blank b bs h = either (is_blank b) refl
  where
    either : (t : Bool) → is_blank b ≡ t → t ≡ false
    either false e = refl
    either true e =
        let place = (skip_cut (at_place 1 bs)).place in
        let same = ap (λ r. r.at) (skip_over (b ∷ []) bs 0 (e, tt)) in
        absurd (omega (arith, place, same, eqb-true (skip (start (b ∷ bs))).at 0 h))

-- a byte that could end a number, where the number with it is too large
abbrev pub NumberBegins : ℕ → List ℕ → ℕ → Type 0
NumberBegins d text at = Smaller (BeginsWithin d) (start text) at

-- what may come at the front of a text is `fetch`, and elsewhere what is claimed
abbrev pub Arrives : ℕ → List ℕ → What → Type 0
Arrives d [] w = w ≡ what.Fetch
Arrives d (b ∷ front) w = Comes (Spelled d) (b ∷ front) w

-- what the claim says of a fault
record FaultBegins (d : ℕ) (text : List ℕ) (f : ParseFault) : Type 0 where
  within : f.at ≤ length text
  begins : BeginsWithin d (take f.at text)
  smaller : IfTooLarge f.kind (NumberBegins d text f.at)
  comes : IfExpected f.kind (Arrives d (take f.at text))

abbrev FrontBegins : ℕ → List ℕ → Result PipeTree ParseFault → Type 0
FrontBegins d text (Ok tree) = Unit {0}
FrontBegins d text (Err f) = FaultBegins d text f

numbered : (d : ℕ) (text : List ℕ) (at : ℕ) → ((skip (start text)).at == 0) ≡ true →
    Smaller (PipeText d) (start text) at → NumberBegins d text at
numbered d text at h g = record {
  before = g.before;
  number = g.number;
  byte = g.byte;
  after = g.after;
  is_number = g.is_number;
  bytes = g.bytes;
  place = g.place;
  tail = [];
  is = by_first g.before g.bytes g.is;
}
  where
    by_first : (before : List ℕ) → text ≡ before ++ (g.number ++ g.byte ∷ g.after) →
        PipeText d (before ++ 49 ∷ g.byte ∷ g.tail) → BeginsWithin d (before ++ 49 ∷ g.byte ∷ [])
    by_first [] e t = whole_begins d 49 (g.byte ∷ []) g.tail refl t
    by_first (b ∷ before) e t =
        whole_begins d b (before ++ 49 ∷ g.byte ∷ []) g.tail
        (first_not_blank b (before ++ (g.number ++ g.byte ∷ g.after))
        (subst (λ u. ((skip (start u)).at == 0) ≡ true) e h))
        (subst (PipeText d) (sym (append_assoc (b ∷ before) (49 ∷ g.byte ∷ []) g.tail)) t)

-- `fetch`
pub fetch_begins : (d : ℕ) → BeginsWithin d (codes "fetch")
fetch_begins d = whole_begins d 102 (codes "etch") in_fetch.text refl (pipe_default d).is

finished : (d : ℕ) (text : List ℕ) (e : ParseFault) → ((skip (start text)).at == 0) ≡ true → FetchAt 0 e →
    Finish (PipeText d) (start text) e → FaultBegins d text e
finished d text e h first f = record {
  within = omega (arith, f.place, ap length f.bytes, length-append f.front f.left);
  begins = subst (BeginsWithin d) (sym front) (by_front f.front f.bytes f.is);
  smaller = if_too_large e.kind (numbered d text e.at h) f.smaller;
  comes = subst (λ v. IfExpected e.kind (Arrives d v)) (sym front)
      (expected_by e.kind (come f.front f.bytes f.place) f.comes);
}
  where
    front : take e.at text ≡ f.front
    front =
        let place : e.at ≡ length f.front = omega (arith, f.place) in
        ap (λ n. take n text) place ∙ ap (take (length f.front)) f.bytes ∙ take-append_seam f.front f.left

    by_front : (v : List ℕ) → text ≡ v ++ f.left → PipeText d (v ++ f.tail) → BeginsWithin d v
    by_front [] b t = nothing_begins d
    by_front (x ∷ v) b t =
        whole_begins d x v f.tail
        (first_not_blank x (v ++ f.left) (subst (λ y. ((skip (start y)).at == 0) ≡ true) b h)) t

    come : (v : List ℕ) → text ≡ v ++ f.left → e.at ≡ 0 + length v → (w : What) → e.kind ≡ Expected w →
        Comes (PipeText d) v w → Arrives d v w
    come [] b p w k g = first (omega (arith, p)) w k
    come (x ∷ v) b p w k g = record {
      before = g.before;
      begun = g.begun;
      byte = g.byte;
      rest = g.rest;
      parts = g.parts;
      way = g.way;
      more = g.more;
      closes = g.closes;
      is = whole_spelled d x (v ++ g.byte ∷ (g.rest ++ g.more))
          (first_not_blank x (v ++ f.left) (subst (λ y. ((skip (start y)).at == 0) ≡ true) b h)) g.is;
    }

-- behind a whole pipe
missing : (d : ℕ) (v : List ℕ) (groups : Bool) → PipeText d v → Longer d groups v → (r : Rest) →
    Finish (λ u. PipeText d (v ++ u)) r (unexpected_fault (if groups then what.Comma else what.Bar) (skip r))
missing d v false g h r =
    wrong what.Bar r 124 [] (codes "every" ++ duration_default.text) refl (λ bs e. one_more_operation d v bs e g)
missing d v true g h r =
    wrong what.Comma r 44 [] folding_default.text refl (h refl)

ended : (d : ℕ) (text : List ℕ) (tree : PipeTree) (r : Rest) (bs : List ℕ) → ((skip (start text)).at == 0) ≡ true →
    0 < (skip r).at → Cut (PipeSeen d tree) (start text) r → FrontBegins d text (pipes.query_end_in tree r bs)
ended d text tree r [] h k c = tt
ended d text tree r (b ∷ bs) h k c =
    finished d text (unexpected_fault (pipes.behind_query tree) (skip r)) h (λ e w q. absurd (omega (arith, e, k)))
    (finish_before {N = PipeText d} (start text) r (unexpected_fault (pipes.behind_query tree) (skip r)) c.front c.bytes
    c.place (missing d c.front (pipes.groups_last (pipes.ops_of tree)) c.is.0 c.is.1 r))

piped : (d : ℕ) (text : List ℕ) → ((skip (start text)).at == 0) ≡ true → (o : Outcome PipeTree) → FetchFirst 0 o →
    EndsIn behind_read (λ x. PipeSeen d x.0) (PipeText d) (start text) o →
    FrontBegins d text (o >>= pipes.query_end)
piped d text h (Ok x) k c = ended d text x.0 x.1 x.1.bytes h k c
piped d text h (Err f) k c = finished d text f h k c

query_front : (d : ℕ) (text : List ℕ) → FrontBegins d text (pipes.query_within d text)
unfolding pipes.query_within
query_front d text =
    either ((skip (start text)).at == 0)
    (λ h. piped d text h (pipes.pipe d (start text))
    (subst (λ n. FetchFirst n (pipes.pipe d (start text))) (eqb-true (skip (start text)).at 0 h)
    (pipe_first d (start text))) (pipe_ends d (start text)).way)
  where
    either : (t : Bool) → (t ≡ true → FrontBegins d text (pipes.pipe d (start text) >>= pipes.query_end)) →
        FrontBegins d text (if t then (pipes.pipe d (start text) >>= pipes.query_end) else Err
        (fault (Expected what.Fetch) (start text)))
    either true f = f refl
    either false f = record {
      within = omega arith;
      begins = nothing_begins d;
      smaller = tt;
      comes = refl;
    }

-- what stands before the place of a fault begins some query text
pub fault_front_begins : (d : ℕ) (text : List ℕ) (f : ParseFault) → pipes.query_within d text ≡ Err f →
    BeginsWithin d (take f.at text)
fault_front_begins d text f e =
    let front : FrontBegins d text (Err f) = subst (FrontBegins d text) e (query_front d text) in front.begins

-- and it lies within the text or at its end
pub fault_within : (d : ℕ) (text : List ℕ) (f : ParseFault) → pipes.query_within d text ≡ Err f → f.at ≤ length text
fault_within d text f e =
    let front : FrontBegins d text (Err f) = subst (FrontBegins d text) e (query_front d text) in front.within

-- and where a number is too large, its next byte could stand behind a smaller one
pub fault_number_begins : (d : ℕ) (text : List ℕ) (f : ParseFault) → pipes.query_within d text ≡ Err f →
    IfTooLarge f.kind (NumberBegins d text f.at)
fault_number_begins d text f e =
    let front : FrontBegins d text (Err f) = subst (FrontBegins d text) e (query_front d text) in front.smaller

-- and where something is expected, it may come there
pub fault_comes : (d : ℕ) (text : List ℕ) (f : ParseFault) → pipes.query_within d text ≡ Err f →
    IfExpected f.kind (Arrives d (take f.at text))
fault_comes d text f e =
    let front : FrontBegins d text (Err f) = subst (FrontBegins d text) e (query_front d text) in front.comes
