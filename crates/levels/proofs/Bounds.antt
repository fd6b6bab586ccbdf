-- Where the extremes of the lanes fit, every minute does. Assumes nothing.
use Prim.Native.Nat.{ℕ, ◌+◌, ◌-◌, ◌≤◌, ◌<◌}
use mathlib.Core.Path.{◌≡◌, refl, ap, sym, ◌∙◌}
use mathlib.Core.Bool.{Bool, true, false, not, ◌||◌, false≢true}
use mathlib.Core.List.{List}
use native.Mathlib.Omega.{arith}
use lib.Dec.{leb, eqb}
use borrow.Author.Tests.{le-leb, leb-true}
use Rattle.std.proofs.Common.{Option, Some, None, is_some}
use Rattle.std.proofs.lemmas.Option.{none-some}
use Rattle.fields.specs.Lists.{pick}
use Rattle.fields.proofs.Bools.{and_left, and_right, and_both}
use Rattle.fields.proofs.Tests.{all-intro}
use Rattle.quantities.specs.declared.Kilowatt.{Kilowatt}
use Rattle.quantities.specs.declared.Minute.{Minute}
use Rattle.quantities.specs.declared.Period.{Period}
use Rattle.rules.specs.declared.PowerRange.{PowerRange}
use Rattle.rules.specs.Codes.{W1, M1, Z1}
use Rattle.rules.specs.Minutes.{FullRecord, is_none_or, fits_w1_m1, power_of, fits_z1, fits_beside, levels_at, levels_fit, levels_every}
use Rattle.block.specs.declared.Pair.{Pair}
use Rattle.levels.specs.declared.Extremes.{Extremes}
use Rattle.levels.specs.declared.Lanes.{Lanes}
use Rattle.levels.specs.declared.Limits.{Limits}
use Rattle.levels.specs.Lanes.{lane_count, lane_levels}
use Rattle.levels.specs.Extremes.{Between, Covers, with_power, CoversIfSome, CoversType, highest_of, extremes_fit}
use Rattle.levels.specs.Gathered.{GathersLanes}
use Rattle.levels.proofs.Gathered.{gathered}

-- the extremes of the lanes of a type
between-keeps : (e r : Extremes) (p x : Kilowatt) → r ≡ with_power e p → Between e x → Between r x
between-keeps e r p x is b =
    let low = b.low in
    let high = b.high in
    rw is (record { low = omega arith; high = omega arith })

between-adds : (e r : Extremes) (p : Kilowatt) → r ≡ with_power e p → Between r p
between-adds e r p is = rw is (record { low = omega arith; high = omega arith })

-- nothing lies between a lowest power that is above the highest one
none-between : (e : Extremes) → e.highest.0 < e.lowest.0 → (l : Option Kilowatt) → Covers e l → l ≡ None
none-between e o None c = refl
none-between e o (Some p) c =
    let a = c.low in
    let b = c.high in
    absurd (omega arith)

module _ (ls : Lanes) (type : ℕ) (period : Period) {step : Extremes → Minute → Pair → Extremes → Type 0}
    (is : (e : Extremes) (from : Minute) (p : Pair) (r : Extremes) → step e from p r → r ≡ with_power e p.power)
    (e r : Extremes) (g : GathersLanes step ls type period 0 lane_count e r)
  where
    pub extremes-some : CoversType ls type period (Some r)
    extremes-some = record {
      covers = gathered (λ e k x. Between e x) (λ e from p r s k x b. between-keeps e r p.power x (is e from p r s) b)
          (λ e from p r s k a o. between-adds e r p.power (is e from p r s)) ls type period e r g;
    }

    pub extremes_no : r.highest.0 < r.lowest.0 → CoversType ls type period None
    extremes_no o = record { covers = λ k x y. none-between r o _ (extremes-some.covers k x y) }

-- what fits beside the highest deratings fits beside those of a minute
is-none-or-some : (p : Option Kilowatt) (e : Option Extremes) (test less : ℕ → Bool) → CoversIfSome e p
    → ((h k : ℕ) → k ≤ h → test h ≡ true → less k ≡ true) → is_none_or (highest_of e) test ≡ true → is_none_or p less ≡ true
is-none-or-some None e test less c f t = refl
is-none-or-some (Some p) None test less c f t = absurd (none-some p (sym c))
is-none-or-some (Some p) (Some e) test less c f t = f e.highest.0 p.0 c.high t

power-less : (p : Option Kilowatt) (e : Option Extremes) → CoversIfSome e p → power_of p ≤ power_of (highest_of e)
power-less None e c = omega arith
power-less (Some p) None c = absurd (none-some p (sym c))
power-less (Some p) (Some e) c = c.high

some-of : (p : Option Kilowatt) (e : Option Extremes) → CoversIfSome e p → is_some p ≡ true → is_some (highest_of e) ≡ true
some-of None e c t = absurd (false≢true t)
some-of (Some p) None c t = absurd (none-some p (sym c))
some-of (Some p) (Some e) c t = refl

if-there : (a t : Bool) → (a ≡ true → t ≡ true) → (not a || t) ≡ true
if-there true t h = h refl
if-there false t h = refl

there-so : (a t : Bool) → (not a || t) ≡ true → a ≡ true → t ≡ true
there-so true t h e = h
there-so false t h e = absurd (false≢true e)

either-there : (a c x y : Bool) → (a ≡ true → x ≡ true) → (c ≡ true → y ≡ true) → (a || c) ≡ true → (x || y) ≡ true
either-there true c true y f g e = refl
either-there true c false y f g e = absurd (false≢true (f refl))
either-there false true x y f g e = right x y (g refl) where
  right : (x y : Bool) → y ≡ true → (x || y) ≡ true
  right true y e = refl
  right false y e = e
either-there false false x y f g e = absurd (false≢true e)

module _ (range : PowerRange) (ep en : Option Extremes) (p n : Option Kilowatt) (cp : CoversIfSome ep p) (cn : CoversIfSome en n) where
  z1-less : (high level : ℕ) → level ≤ high → fits_z1 range high (highest_of ep) (highest_of en) ≡ true → fits_z1 range level p n ≡ true
  z1-less high level o e =
      let hp = power-less p ep cp in
      let hn = power-less n en cn in
      if-there (is_some p || is_some n) _
      (λ t.
      let sum = leb-true (high + range.min.0 + power_of (highest_of ep) + power_of (highest_of en)) range.max.0
      (there-so (is_some (highest_of ep) || is_some (highest_of en)) _ e
      (either-there (is_some p) (is_some n) _ _ (some-of p ep cp) (some-of n en cn) t)) in
      le-leb (level + range.min.0 + power_of p + power_of n) range.max.0 (omega arith))

  w1-m1-between : (high low level : ℕ) → level ≤ high → low ≤ level → fits_w1_m1 range high (highest_of ep) (highest_of en) ≡ true
      → fits_w1_m1 range low (highest_of ep) (highest_of en) ≡ true → fits_w1_m1 range level p n ≡ true
  w1-m1-between high low level o u up down =
      and_both
      (is-none-or-some p ep (λ p. leb (high + p) range.max.0) (λ p. leb (level + p) range.max.0) cp
      (λ h k a e. let sum = leb-true (high + h) range.max.0 e in le-leb (level + k) range.max.0 (omega arith))
      (and_left _ (is_none_or (highest_of en) (λ n. leb (range.min.0 + n) high)) up))
      (is-none-or-some n en (λ n. leb (range.min.0 + n) low) (λ n. leb (range.min.0 + n) level) cn
      (λ h k a e. let sum = leb-true (range.min.0 + h) low e in le-leb (range.min.0 + k) level (omega arith))
      (and_right (is_none_or (highest_of ep) (λ p. leb (low + p) range.max.0)) _ down))

  between : (z other : Bool) (high low level : ℕ) → level ≤ high → low ≤ level
      → pick z (fits_z1 range high (highest_of ep) (highest_of en)) (other || fits_w1_m1 range high (highest_of ep) (highest_of en)) ≡ true
      → pick z (fits_z1 range low (highest_of ep) (highest_of en)) (other || fits_w1_m1 range low (highest_of ep) (highest_of en)) ≡ true
      → pick z (fits_z1 range level p n) (other || fits_w1_m1 range level p n) ≡ true
  unfolding pick
  between true other high low level o u up down = z1-less high level o up
  between false true high low level o u up down = refl
  between false false high low level o u up down = w1-m1-between high low level o u up down

  module _ (kind : ℕ) where
    abbrev fit : ℕ → Bool
    fit level = fits_beside kind range level (highest_of ep) (highest_of en)

    fits-between : (high low level : ℕ) → level ≤ high → low ≤ level → fit high ≡ true → fit low ≡ true → fits_beside kind range level p n ≡ true
    fits-between = between (eqb kind Z1) (not (eqb kind W1 || eqb kind M1))

    -- a forced level that fits beside the highest deratings
    pub fits-alone : (f : Option Kilowatt) → is_none_or f fit ≡ true → levels_fit kind range (record { forced = f; positive = p; negative = n }) ≡ true
    unfolding levels_fit
    fits-alone None t = refl
    fits-alone (Some f) t = fits-between f.0 f.0 f.0 (omega arith) (omega arith) t t

    extremes-levels : (e : Extremes) (f : Option Kilowatt) → Covers e f → extremes_fit (record { kind = record { 0 = kind }; range = range }) e (highest_of ep) (highest_of en) ≡ true
        → levels_fit kind range (record { forced = f; positive = p; negative = n }) ≡ true
    unfolding levels_fit
    extremes-levels e None c t = refl
    extremes-levels e (Some f) c t =
        fits-between e.highest.0 e.lowest.0 f.0 c.high c.low (and_left (fit e.highest.0) _ t) (and_right (fit e.highest.0) _ t)

module _ (ls : Lanes) (ws : List FullRecord) (direction : ℕ) (period : Period) (u : Limits)
    (same : (m : ℕ) → lane_levels ls m ≡ levels_at ws direction m) where
  abbrev Every : Type 0
  Every = true ≡ levels_every (levels_fit u.kind.0 u.range) ws direction period.start.0 period.end.0

  each : ((k : ℕ) → period.start.0 ≤ k → k < period.end.0 → levels_fit u.kind.0 u.range (lane_levels ls k) ≡ true) → Every
  unfolding levels_every
  each h =
      sym
      (all-intro (λ m. levels_fit u.kind.0 u.range (levels_at ws direction m)) (λ m. m) period.start.0
      (period.end.0 - period.start.0)
      (λ k a o. ap (levels_fit u.kind.0 u.range) (sym (same k)) ∙ h k a (omega arith)))

  pub fits-extremes : {f : Extremes} {p n : Option Extremes} {t : Bool} → CoversType ls 4 period (Some f) → CoversType ls 2 period p
      → CoversType ls 3 period n → t ≡ extremes_fit u f (highest_of p) (highest_of n) → t ≡ true → Every
  unfolding lane_levels
  fits-extremes {f} {p} {n} cf cp cn q t =
      each (λ k a o. extremes-levels u.range p n _ _ (cp.covers k a o) (cn.covers k a o) u.kind.0 f _ (cf.covers k a o) (sym q ∙ t))

  -- no minute has a forced level
  pub fits-unforced : CoversType ls 4 period None → Every
  unfolding lane_levels levels_fit
  fits-unforced cf = each (λ k a o. rw (cf.covers k a o))
