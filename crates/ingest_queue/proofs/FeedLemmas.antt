-- A record more is pushed.
use Rattle.std.proofs.Common.{◌≡◌, Bool, true, false, List, [], ◌∷◌, ◌++◌, sym, refl, ap, ◌∙◌, subst, append_assoc}
use Rattle.ingest_queue.specs.declared.roles.Role.{Role}
use Rattle.ingest_queue.specs.declared.turns.Turn.{Turn}
use Rattle.ingest_queue.specs.Roles.{IsNext, alone, may, put, sent_by}
use Rattle.ingest_queue.specs.Feeding.{IsFeeding}

alone_sent : (file : Bool) (pushed : List Turn) (turn : Turn) → sent_by file (alone file pushed) turn ≡ alone file (pushed ++ turn ∷ [])
alone_sent false pushed turn = refl
alone_sent true pushed turn = refl

put_alone : (file : Bool) (pushed : List Turn) → put file (alone file pushed) ≡ pushed
put_alone false pushed = refl
put_alone true pushed = refl

may_alone : (file : Bool) (pushed : List Turn) → may file (alone file pushed) ≡ true
may_alone false pushed = refl
may_alone true pushed = refl

module _ (all : Bool → List Turn) (file : Bool) (v : Role) (turn : Turn) (left : List Turn) (feeding : IsFeeding all file v (turn ∷ left)) where
  pub may_push : may turn.second v ≡ true
  may_push = subst (λ f. may f v ≡ true) (sym feeding.of.0) (ap (may file) feeding.own ∙ may_alone file (put file v))

  pub is_next : IsNext all v turn
  is_next = subst (λ f. (more : List Turn) × (put f v ++ turn ∷ more ≡ all f)) (sym feeding.of.0) (left, feeding.behind)

  pub goes_on : (w : Role) → w ≡ sent_by turn.second v turn → IsFeeding all file w left
  goes_on w sent =
      let is : w ≡ alone file (put file v ++ turn ∷ []) = sent ∙ ap (λ f. sent_by f v turn) feeding.of.0 ∙ ap (λ u. sent_by file u turn) feeding.own ∙ alone_sent file (put file v) turn in
      let pushed : put file w ≡ put file v ++ turn ∷ [] = ap (put file) is ∙ put_alone file (put file v ++ turn ∷ []) in
      record {
        own = is ∙ ap (alone file) (sym pushed);
        behind = ap (λ l. l ++ left) pushed ∙ append_assoc (put file v) (turn ∷ []) left ∙ feeding.behind;
        of = feeding.of.1;
      }
