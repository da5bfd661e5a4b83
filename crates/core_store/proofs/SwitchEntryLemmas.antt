-- What a switch appends to a leaf's history may follow.
use Rattle.std.proofs.Common.{◌≡◌, ◌<◌, ℕ, Bool, true, false, not, List, [], ◌∷◌, ◌++◌, refl, sym, ap, subst, ◌∙◌}
use Rattle.std.specs.List.{count_by}
use Rattle.mon_value.proofs.LeafHistoryLemmas.{IsWellFormed-push}
use Rattle.mon_value.specs.LeafHistories.{IsWellFormed, MayFollow, is_down, is_switch}
use Rattle.mon_value.specs.declared.limits.TheConstants.{MOST_SWITCHES}
use Rattle.mon_value.specs.declared.histories.Entry.{Entry}
use Rattle.write_core.specs.Events.{switch_of}

may_switch : (history : List Entry) (down : Bool) (pass : ℕ) → is_down history ≡ not down
    → count_by is_switch history < MOST_SWITCHES → MayFollow history (switch_of down pass)
may_switch history true pass up few = (up, few)
may_switch history false pass up few = (up, few)

pub switch_follows : (history : List Entry) (down : Bool) (pass : ℕ) (e : Entry) → e ≡ switch_of down pass
    → IsWellFormed history → is_down history ≡ not down → count_by is_switch history < MOST_SWITCHES
    → IsWellFormed (history ++ e ∷ [])
switch_follows history down pass e is formed up few =
    subst (λ (one : Entry). IsWellFormed (history ++ one ∷ [])) (sym is)
    (IsWellFormed-push history (switch_of down pass) formed (may_switch history down pass up few))

switches : (down : Bool) (pass : ℕ) → is_switch (switch_of down pass) ≡ true
switches true pass = refl
switches false pass = refl
