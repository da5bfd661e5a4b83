-- A row more, by what comes of it.
use Rattle.std.proofs.Common.{◌≡◌, ◌∙◌, ℤ, true, List, [], ◌∷◌, ◌++◌, Result, Ok, Err, OnErr, OnOk, sym, ap, subst}
use Rattle.mon_value.specs.declared.rows.Row.{Row}
use Rattle.mon_value.proofs.PlainLemmas.{all_back}
use Rattle.mon_schema.specs.Fits.{fits}
use Rattle.typed_trees.specs.Nodes.{typed_tree}
use Rattle.typed_trees.specs.Soundness.{IsTyped}
use Rattle.typed_trees.specs.declared.nodes.Typed.{Typed}
use Rattle.standing_incr.specs.Comings.{ComesTo}
use Rattle.standing_incr.specs.HeldRows.{held_of}
use Rattle.standing_incr.specs.Keeping.{IsStanding, StandingResult}
use Rattle.standing_incr.specs.declared.comings.Coming.TheVariants as coming
use Rattle.standing_incr.specs.declared.tables.Standing.{Standing}
use Rattle.standing_incr.proofs.HeldLemmas.{typed_with}

-- what is seen of a result is made of its parts
abbrev seen_as : Typed → ℤ → List Row → StandingResult
seen_as typed moment rows = record { typed = typed; moment = moment; held = rows }

module _ (typed : Typed) (seen : StandingResult) (moment : ℤ) (rows : List Row) (row : Row)
    (view : seen_as typed moment rows ≡ seen) where
  -- the rows that are held, and one more, fit what the query was typed over
  pub seen_fits : IsTyped (typed_tree seen.typed) (seen.held ++ row ∷ []) → IsTyped (typed_tree typed) (rows ++ row ∷ [])
  seen_fits of =
      subst (λ (v : StandingResult). IsTyped (typed_tree v.typed) (v.held ++ row ∷ [])) (sym view) of

  pub own_fits : IsTyped (typed_tree seen.typed) (seen.held ++ row ∷ []) → IsTyped (typed_tree typed) (row ∷ [])
  own_fits of =
      let fit = seen_fits of in
      typed_with (typed_tree typed) (rows ++ row ∷ []) (row ∷ []) fit
      (all_back (λ r. fits fit.held r ≡ true) rows (row ∷ []) fit.fit)

  -- what is held of them is seen as what is held of what was seen
  pub seen_held : (held : List Row) → held ≡ held_of (typed_tree typed) moment (rows ++ row ∷ [])
      → held ≡ held_of (typed_tree seen.typed) seen.moment (seen.held ++ row ∷ [])
  seen_held held is =
      is ∙ ap (λ (v : StandingResult). held_of (typed_tree v.typed) v.moment (v.held ++ row ∷ [])) view

  pub came_unheld : (stands : Standing) → IsStanding (typed_tree typed) moment rows stands
      → IsTyped (typed_tree seen.typed) (seen.held ++ row ∷ [])
      → ComesTo (typed_tree typed) moment row coming.Unheld
      → rows ≡ held_of (typed_tree seen.typed) seen.moment (seen.held ++ row ∷ [])
  came_unheld stands are of comes = seen_held rows (are.needed ∙ sym (comes rows (seen_fits of)))

  pub came_ahead : (stands : Standing) → IsStanding (typed_tree typed) moment rows stands
      → IsTyped (typed_tree seen.typed) (seen.held ++ row ∷ [])
      → ComesTo (typed_tree typed) moment row coming.Ahead
      → rows ++ row ∷ [] ≡ held_of (typed_tree seen.typed) seen.moment (seen.held ++ row ∷ [])
  came_ahead stands are of comes =
      seen_held (rows ++ row ∷ [])
      (ap (λ (l : List Row). l ++ row ∷ []) are.needed ∙ sym (comes.1 rows (seen_fits of)))

-- ---- of a call that may be refused

pub ok_then : {V E A : Type 0} (r : Result V E) (x y z : A) → OnOk r (x ≡ y) → y ≡ z → OnOk r (x ≡ z)
ok_then (Ok v) x y z e f = e ∙ f
ok_then (Err fault) x y z e f = tt

pub err_then : {V E A : Type 0} (r : Result V E) (x y z : A) → OnErr r (x ≡ y) → y ≡ z → OnErr r (x ≡ z)
err_then (Ok v) x y z e f = tt
err_then (Err fault) x y z e f = e ∙ f

-- what holds of rows with one more, and of those without it, holds behind the call that adds it
pub either_way : {V E : Type 0} (P : List Row → Type 0) (r : Result V E) (now more rows : List Row)
    → OnOk r (now ≡ more) → OnErr r (now ≡ rows) → P more → P rows → P now
either_way P (Ok v) now more rows added kept with_it without = subst P (sym added) with_it
either_way P (Err fault) now more rows added kept with_it without = subst P (sym kept) without
