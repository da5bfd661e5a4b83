-- What was read of a metric's name before its fault can be completed.
use Rattle.std.proofs.Common.{◌≡◌, ℕ, ◌+◌, Bool, true, false, ◌==◌, ◌&&◌, not, List, [], ◌∷◌, ◌++◌, codes, refl, sym}
use Rattle.std.proofs.Common.{ap, ◌∙◌, subst, arith, if◌then◌else◌, append_assoc, Some, None, option_and_then, Result}
use Rattle.std.proofs.Common.{Ok, Err}
use Rattle.std.proofs.lemmas.List.{append-nil}
use Rattle.mon_value.specs.Answers.{◌>>=◌}
use Rattle.mql_ast.specs.declared.names.Name.{Name}
use Rattle.mql_ast.specs.Tokens.{is_metric_byte, Rest, head, behind, skip, metric_name, metric_behind}
use Rattle.mql_ast.specs.Tokens as grammar
use Rattle.mql_parse.specs.declared.faults.ParseFault.{ParseFault}
use Rattle.mql_parse.specs.declared.faults.What.TheVariants as what
use Rattle.mql_parse.specs.Outcomes.{unexpected_fault}
use Rattle.mql_parse.specs.FaultTokens.{IsReadWhole, IsBare}
use Rattle.mql_parse.specs.TokenReading as reading
use Rattle.mql_parse.proofs.Endings.{Stops, Anyhow, Text, Default, Finish, Ends, Reads, done_ends}
use Rattle.mql_parse.proofs.TextFronts.{MetricOpen, slash_open, metric_byte_open, metric_slash_open, open_metric}
use Rattle.mql_parse.proofs.TokenHalts.{Halts, halted_unexpected, if_halts, halts_on, halts_map, halts_end}
use Rattle.mql_parse.proofs.TokenEndings.{at_place, AreBlanks, outer_no_metric, first_cut, wrong, Token}
use Rattle.mql_parse.proofs.TokenEndings.{word_text, WordSpan}
use Rattle.mon_value.proofs.PlainLemmas.{equal_numbers}

-- a metric's name from behind a slash or another of its bytes
abbrev MetricText : Bool → List ℕ → Type 0
MetricText after u =
    (z : List ℕ) → Stops z → (at : ℕ) →
    (n : ℕ × List ℕ) × (grammar.metric_from after at (u ++ z) ≡ Some (n.1, at_place n.0 z))

metric_stop : MetricText false []
metric_stop [] h at = ((at, []), refl)
metric_stop (b ∷ bs) h at =
    let t = outer_no_metric b h in (
      (at, []),
      ap (λ t. if t then grammar.with_byte b (grammar.metric_from false (at + 1) bs) else
          (if b == 47 && true then grammar.with_byte b (grammar.metric_from true (at + 1) bs) else Some
          ([], at_place at (b ∷ bs)))) t.0
          ∙ ap (λ t. if t && true then grammar.with_byte b (grammar.metric_from true (at + 1) bs) else Some
          ([], at_place at (b ∷ bs))) t.1,
    )

metric_more : (after : Bool) (b : ℕ) (u : List ℕ) → is_metric_byte b ≡ true → MetricText false u →
    MetricText after (b ∷ u)
metric_more after b u m f z h at =
    let n = f z h (at + 1) in (
      (n.0.0, b ∷ n.0.1),
      ap (λ t. if t then grammar.with_byte b (grammar.metric_from false (at + 1) (u ++ z)) else
          (if b == 47 && not after then grammar.with_byte b (grammar.metric_from true (at + 1) (u ++ z)) else
          (if after then None else Some ([], at_place at (b ∷ (u ++ z)))))) m
          ∙ ap (grammar.with_byte b) n.1,
    )

metric_slash : (after : Bool) (b : ℕ) (u : List ℕ) → is_metric_byte b ≡ false → (b == 47 && not after) ≡ true →
    MetricText true u → MetricText after (b ∷ u)
metric_slash after b u m e f z h at =
    let n = f z h (at + 1) in (
      (n.0.0, b ∷ n.0.1),
      ap (λ t. if t then grammar.with_byte b (grammar.metric_from false (at + 1) (u ++ z)) else
          (if b == 47 && not after then grammar.with_byte b (grammar.metric_from true (at + 1) (u ++ z)) else
          (if after then None else Some ([], at_place at (b ∷ (u ++ z)))))) m
          ∙ ap (λ t. if t then grammar.with_byte b (grammar.metric_from true (at + 1) (u ++ z)) else
          (if after then None else Some ([], at_place at (b ∷ (u ++ z))))) e ∙ ap (grammar.with_byte b) n.1,
    )

-- one byte more
one_more : (after : Bool) → MetricText after (97 ∷ [])
one_more after = metric_more after 97 [] refl metric_stop

none_more : (after : Bool) → after ≡ false → MetricText after []
none_more after h = subst (λ a. MetricText a []) (sym h) metric_stop

metric_from_halts : (after : Bool) (at : ℕ) (bs : List ℕ) → Halts what.Metric (MetricOpen after) (MetricText after)
    (at_place at bs)
    (reading.metric_from after at bs)
metric_from_halts after at [] =
    let s = at_place at [] in
    if_halts after (Err (unexpected_fault what.Metric s)) (Ok ([], s))
    (λ h. halted_unexpected {K = MetricOpen after} {L = MetricText after} what.Metric s 97 [] (slash_open after h)
    (one_more after) (λ e. cc))
    (λ h. record { way = record { front = []; bytes = refl; place = omega arith; is = none_more after h } })
metric_from_halts after at (b ∷ bs) =
    let s = at_place at (b ∷ bs) in
    let m = at_place (at + 1) bs in
    let on = reading.metric_from false (at + 1) bs in
    let slash = reading.metric_from true (at + 1) bs in
    if_halts (is_metric_byte b) (reading.with_byte b on) _
    (λ h. halts_map s (λ more. b ∷ more) on
    (halts_on {N = MetricOpen after} {M = MetricText after} s m (b ∷ []) on refl (omega arith)
    (metric_from_halts false (at + 1) bs)
    (λ u k. metric_byte_open after b u h k) (λ u f. metric_more after b u h f)))
    (λ h. if_halts (b == 47 && not after) (reading.with_byte b slash) _
    (λ g. halts_map s (λ more. b ∷ more) slash
    (halts_on {N = MetricOpen after} {M = MetricText after} s m (b ∷ []) slash refl (omega arith)
    (metric_from_halts true (at + 1) bs)
    (λ u k. metric_slash_open after b u h g k) (λ u f. metric_slash after b u h g f)))
    (λ g. if_halts after (Err (unexpected_fault what.Metric s)) (Ok ([], s))
    (λ h. halted_unexpected {K = MetricOpen after} {L = MetricText after} what.Metric s 97 [] (slash_open after h)
    (one_more after) (λ e. cc))
    (λ h. record { way = record { front = []; bytes = refl; place = omega arith; is = none_more after h } })))

metric_text : (w u : List ℕ) → Text Anyhow true (WordSpan (codes "/")) w → MetricText true u →
    Text Anyhow false (Token grammar.metric_at) (w ++ u)
metric_text w u f g = record {
  opens = tt;
  fills = λ z h at. let a = f.fills (u ++ z) tt at in let n = g z h a.0 in let place =
      (skip (at_place at (w ++ (u ++ z)))).at in (
        (n.0.0, metric_name place n.0.1),
        ap (λ t. grammar.metric_at (at_place at t)) (append_assoc w u z)
            ∙ ap (option_and_then (metric_behind place)) a.1
            ∙ ap (option_and_then (λ x. Some (metric_name place x.0, x.1))) n.1,
      );
}

slash_text : (bs u : List ℕ) → AreBlanks bs → MetricText true u →
    Text Anyhow false (Token grammar.metric_at) (bs ++ 47 ∷ u)
slash_text bs u e f =
    subst (Text Anyhow false (Token grammar.metric_at)) (append_assoc bs (47 ∷ []) u)
    (metric_text (bs ++ 47 ∷ []) u (word_text Anyhow 47 [] refl tt bs e) f)

slash_token : (u : List ℕ) → MetricText true u → IsBare what.Metric (47 ∷ u)
slash_token u f =
    subst (IsReadWhole grammar.metric_at) (append-nil (47 ∷ u)) (refl, (slash_text [] u tt f).fills [] refl 0)

pub if_bind : {A B : Type 0} {left : B → Rest} {P : B → List ℕ → Type 0} {E : List ℕ → Type 0} (s : Rest) (t : Bool)
    (x : A) (e : ParseFault) (f : A → Result B ParseFault) → (t ≡ true → Ends left P E s (f x)) →
    (t ≡ false → Finish E s e) → Ends left P E s ((if t then Ok x else Err e) >>= f)
if_bind s true x e f g h = g refl
if_bind s false x e f g h = record { way = h refl }

pub metric_ends : (s : Rest) → Reads (Text Anyhow false (Token grammar.metric_at)) s (reading.metric s)
unfolding reading.metric
metric_ends s =
    let t = skip s in
    let m = behind t in
    let on = reading.metric_from true m.at m.bytes in
    let named : List ℕ → Name = λ read. record { at = t.at; text = 47 ∷ read } in
    if_bind s (head t == 47) m (unexpected_fault what.Metric t)
    (λ slash. reading.metric_from true slash.at slash.bytes >>=
    λ read. Ok (record { at = t.at; text = 47 ∷ read.0 }, read.1))
    (λ h. let c = first_cut (λ b. b == 47) refl s h in
    let v : c.front ≡ c.is.0 ++ 47 ∷ [] = c.is.1.1 ∙ ap (λ b. c.is.0 ++ b ∷ []) (equal_numbers (head t) 47 h) in
    done_ends s on (λ read. (named read.0, read.1))
    (halts_end {R = Text Anyhow false (Token grammar.metric_at)} s m c.front c.is.0 47 on c.bytes c.place v
    (metric_from_halts true m.at m.bytes)
    (λ u f. subst (λ x. Text Anyhow false (Token grammar.metric_at) (x ++ u)) (sym v)
    (subst (Text Anyhow false (Token grammar.metric_at)) (sym (append_assoc c.is.0 (47 ∷ []) u))
    (slash_text c.is.0 u c.is.1.0 f))) open_metric slash_token) (λ x. refl) (λ x w f. f))
    (λ h. wrong what.Metric s 47 (97 ∷ []) [] (slash_token (97 ∷ []) (one_more true))
    (λ bs e. slash_text bs (97 ∷ []) e (one_more true)))

-- `/a`
pub metric_default : Default (Text Anyhow false (Token grammar.metric_at))
metric_default =
    record {
      text = 47 ∷ 97 ∷ [];
      plain = refl;
      is = metric_text (47 ∷ []) (97 ∷ []) (word_text Anyhow 47 [] refl tt [] tt)
          (one_more true);
    }
