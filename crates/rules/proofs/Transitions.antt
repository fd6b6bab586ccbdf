-- Question 18's table: what looking up finds. Assumes nothing.
use Prim.Native.Nat.{ℕ}
use mathlib.Core.Path.{◌≡◌, refl, sym, ◌∙◌}
use mathlib.Core.Bool.{Bool, true, false, ◌&&◌, ◌||◌, false≢true}
use mathlib.Core.List.{List, [], ◌∷◌}
use mathlib.Core.Logic.{⊎_elim}
use lib.Dec.{eqb}
use borrow.Author.Tests.{eqb-true}
use Rattle.fields.specs.Lists.{pick, all}
use Rattle.fields.proofs.Bools.{and_left, and_right, or_cases, pick-elim}
use Rattle.rules.specs.Codes.{between, R, RO, U1, U2, P, RP}
use Rattle.rules.specs.Transitions.{Transition, transition, event_transitions, applies, look_up, event_leads_to, is_listed, listed_once}

-- the transition that is listed for a code and a state has them
same_ends : (code state : ℕ) (t : Transition) → applies code state t ≡ true → (code ≡ t.code) × (state ≡ t.from)
same_ends code state t e =
    let code_same = eqb code t.code in
    let state-same = eqb state t.from in
    (eqb-true code t.code (and_left code_same state-same e), eqb-true state t.from (and_right code_same state-same e))

-- what every listed transition passes, the one that is found passes
pub found-passes : (p : Transition → Bool) (ts : List Transition) (code state : ℕ)
    → all p ts ≡ true → eqb (look_up ts code state) 0 ≡ false → p (transition code state (look_up ts code state)) ≡ true
unfolding look_up all
found-passes p [] code state h = λ n. absurd (false≢true (sym n))
found-passes p (t ∷ ts) code state h =
    pick-elim (λ (to : ℕ). eqb to 0 ≡ false → p (transition code state to) ≡ true) (applies code state t)
    (λ e n.
    let ends = same_ends code state t e in
    rw (ends.0, ends.1) (and_left (p t) (all p ts) h))
    (λ e. found-passes p ts code state (and_right (p t) (all p ts) h))

-- and so does each that is listed
pub listed-passes : (p : Transition → Bool) (ts : List Transition) (t : Transition)
    → all p ts ≡ true → is_listed t ts ≡ true → p t ≡ true
unfolding is_listed all
listed-passes p [] t h e = absurd (false≢true e)
listed-passes p (u ∷ us) t h e =
    let here = applies t.code t.from u in
    let to_same = eqb t.to u.to in
    ⊎_elim
    (λ (s : (here && to_same) ≡ true).
    let ends = same_ends t.code t.from u (and_left here to_same s) in
    rw (ends.0, ends.1, eqb-true t.to u.to (and_right here to_same s)) (and_left (p u) (all p us) h))
    (λ (s : is_listed t us ≡ true). listed-passes p us t (and_right (p u) (all p us) h) s)
    (or_cases (here && to_same) (is_listed t us) e)

-- at most one transition for a code and a state
pub listed-once : listed_once event_transitions ≡ true
unfolding listed_once all
listed-once = refl

every-found : all (λ t. eqb (event_leads_to t.code t.from) t.to) event_transitions ≡ true
unfolding event_leads_to look_up all pick
every-found = refl

every-listed : all (λ t. is_listed t event_transitions) event_transitions ≡ true
unfolding is_listed all
every-listed = refl

abbrev pub in_range : Transition → Bool
in_range t = between 1 6 t.code && between R RP t.from && between R RP t.to

every-in-range : all in_range event_transitions ≡ true
unfolding all
every-in-range = refl

-- the event leads to the state that is listed; so there is one at most
pub listed-leads : (code state to : ℕ) → is_listed (transition code state to) event_transitions ≡ true → event_leads_to code state ≡ to
listed-leads code state to e =
    eqb-true (event_leads_to code state) to
    (listed-passes (λ t. eqb (event_leads_to t.code t.from) t.to) event_transitions (transition code state to) every-found e)

pub reached-once : (code state a b : ℕ) → is_listed (transition code state a) event_transitions ≡ true
    → is_listed (transition code state b) event_transitions ≡ true → a ≡ b
reached-once code state a b p q = sym (listed-leads code state a p) ∙ listed-leads code state b q

module _ (code state : ℕ) where
  -- an event that leads on is listed, its code is 1 to 6, and both are states
  module _ (leads : eqb (event_leads_to code state) 0 ≡ false) where
    pub leads-listed : is_listed (transition code state (event_leads_to code state)) event_transitions ≡ true
    unfolding event_leads_to
    leads-listed = found-passes (λ t. is_listed t event_transitions) event_transitions code state every-listed leads

    pub leads-in-range : in_range (transition code state (event_leads_to code state)) ≡ true
    unfolding event_leads_to
    leads-in-range = found-passes in_range event_transitions code state every-in-range leads

  pub no-transition : between 1 6 code ≡ false → event_leads_to code state ≡ 0
  no-transition outside = by-case (eqb (event_leads_to code state) 0) refl where
    by-case : (t : Bool) → eqb (event_leads_to code state) 0 ≡ t → event_leads_to code state ≡ 0
    by-case true e = eqb-true (event_leads_to code state) 0 e
    by-case false e = absurd (false≢true (rw outside at (leads-in-range e)))

pick-or : (t u : Bool) (a b : ℕ) → pick (t || u) a b ≡ pick t a (pick u a b)
unfolding pick
pick-or true u a b = refl
pick-or false u a b = refl

-- the ten transitions, those to one state taken together, as `row` matches them
pub looked-up : (code state : ℕ)
    → event_leads_to code state
    ≡ pick (eqb code 1 && eqb state R) RO
    (pick (eqb code 2 && eqb state RO) U1
    (pick (eqb code 3 && eqb state U1) U2
    (pick (eqb code 3 && eqb state RP || eqb code 4 && eqb state U2) P
    (pick
    (eqb code 5 && eqb state P || eqb code 5 && eqb state RP || eqb code 6 && eqb state RO || eqb code 6 && eqb state U1
    || eqb code 6 && eqb state U2)
    R
    0))))
unfolding event_leads_to look_up
looked-up code state = simp pick-or
