-- Question 18's table of events, as data: a code leads from one state to another.
use Rattle.std.specs.Prelude.{ℕ, List, [], ◌∷◌, Bool, true, false, not, ◌&&◌, ◌||◌, eqb}
use Rattle.fields.specs.Lists.{pick, all}
use Rattle.rules.specs.Codes.{R, RO, U1, U2, P, RP}

pub record Transition : Type 0 where
  pub code : ℕ
  pub from : ℕ
  pub to : ℕ

abbrev pub transition : ℕ → ℕ → ℕ → Transition
transition code from to = record { code = code; from = from; to = to }

-- "Events: 1 R→RO; 2 RO→U1; 3 U1→U2 and RP→P; 4 U2→P; 5 P, RP→R; 6 RO, U1, U2→R."
abbrev pub event_transitions : List Transition
event_transitions =
    transition 1 R RO
    ∷ transition 2 RO U1
    ∷ transition 3 U1 U2
    ∷ transition 3 RP P
    ∷ transition 4 U2 P
    ∷ transition 5 P R
    ∷ transition 5 RP R
    ∷ transition 6 RO R
    ∷ transition 6 U1 R
    ∷ transition 6 U2 R
    ∷ []

-- it is for this code and this state
abbrev pub applies : ℕ → ℕ → Transition → Bool
applies code state t = eqb code t.code && eqb state t.from

-- the state that the code leads to from this state, 0 without a transition
unfoldable pub look_up : List Transition → ℕ → ℕ → ℕ
look_up [] code state = 0
look_up (t ∷ ts) code state = pick (applies code state t) t.to (look_up ts code state)

unfoldable pub event_leads_to : ℕ → ℕ → ℕ
event_leads_to code state = look_up event_transitions code state

unfoldable pub is_listed : Transition → List Transition → Bool
is_listed t [] = false
is_listed t (u ∷ us) = applies t.code t.from u && eqb t.to u.to || is_listed t us

-- no two of them have one code and one state
unfoldable pub listed_once : List Transition → Bool
listed_once [] = true
listed_once (t ∷ ts) = all (λ u. not (applies t.code t.from u)) ts && listed_once ts
