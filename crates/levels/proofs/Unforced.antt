-- Where no record that counts is forced work, or none is a derating, every minute fits. Assumes nothing.
use Prim.Native.Nat.{ℕ, zero, suc, ◌+◌, ◌-◌, ◌≤◌, ◌<◌}
use mathlib.Core.Path.{◌≡◌, refl, ap, sym, ◌∙◌}
use mathlib.Core.Bool.{Bool, true, false, not, ◌&&◌, ◌||◌, false≢true, and-true}
use mathlib.Core.List.{List, ◌∷◌}
use lib.Dec.{eqb}
use lib.ListN.{get_or}
use borrow.Author.Tests.{not-false}
use Rattle.std.proofs.Common.{Option, Some, None}
use Rattle.quantities.specs.declared.Kilowatt.{Kilowatt}
use Rattle.fields.specs.Lists.{pick, all, series}
use Rattle.fields.proofs.Bools.{and_left, and_right}
use Rattle.fields.proofs.Tests.{Tested, tested-none, tested-more, tested-all, all-intro}
use Rattle.rules.specs.declared.PowerRange.{PowerRange}
use Rattle.rules.specs.declared.Record.{Record}
use Rattle.rules.specs.Codes.{W1, M1, Z1, positive_derating, negative_derating, forced_work}
use Rattle.rules.specs.Block.{slot_count, slot_at, record_in}
use Rattle.rules.specs.Questions.{record_at}
use Rattle.rules.specs.Minutes.{FullRecord, level_of, level_among, records_among, levels_at, levels_fit, levels_every}
use Rattle.levels.specs.declared.CountedTypes.{CountedTypes}
use Rattle.levels.specs.declared.Swept.{Swept}
use Rattle.levels.specs.Counted.{report_record, slot_record, counted_records, swept_records}
use Rattle.levels.specs.Extremes.{type_at, some_of_type, with_type, counted_types, swept_types, types_meet}

-- a record of another type has no level of this one
other-type : (type : ℕ) (w : FullRecord) (ws : List FullRecord) (direction m : ℕ) → eqb w.fields.record_type.0 type ≡ false
    → level_among (w ∷ ws) type direction m ≡ level_among ws type direction m
unfolding level_among level_of pick
other-type type w ws direction m e = rw e

module _ (b : List ℕ) (counted : List Bool) (type direction m : ℕ) where
  none-among : (i n : ℕ) → all (λ i. not (type_at b counted type i)) (series (λ i. i) i n) ≡ true
      → level_among (records_among b (λ i. get_or counted i false) i n) type direction m ≡ None
  unfolding level_among records_among all series pick
  none-among i zero e = refl
  none-among i (suc n) e =
      by-case (get_or counted i false) (eqb (record_at b i).record_type.0 type) refl refl
      (and_left (not (type_at b counted type i)) _ e) (none-among (i + 1) n (and_right (not (type_at b counted type i)) _ e))
    where
      by-case : (c f : Bool) → get_or counted i false ≡ c → eqb (record_at b i).record_type.0 type ≡ f → not (c && f) ≡ true
          → level_among (records_among b (λ i. get_or counted i false) (i + 1) n) type direction m ≡ None
          → level_among (records_among b (λ i. get_or counted i false) i (suc n)) type direction m ≡ None
      by-case false f p q t rest = rw p rest
      by-case true false p q t rest = rw p
          (other-type type (slot_record b i) (records_among b (λ i. get_or counted i false) (i + 1) n) direction m q ∙ rest)
      by-case true true p q t rest = absurd (false≢true t)

-- a forced level beside no derating
either_passes : (z x : Bool) → pick z true (not x || true) ≡ true
unfolding pick
either_passes true x = refl
either_passes false true = refl
either_passes false false = refl

alone_fits : (kind : ℕ) (range : PowerRange) (f : Option Kilowatt)
    → levels_fit kind range (record { forced = f; positive = None; negative = None }) ≡ true
unfolding levels_fit
alone_fits kind range None = refl
alone_fits kind range (Some k) = either_passes (eqb kind Z1) (eqb kind W1 || eqb kind M1)

neither : (a c : Bool) → (a || c) ≡ false → (a ≡ false) × (c ≡ false)
neither true c e = absurd (false≢true (sym e))
neither false c e = (refl, e)

none-of-type : (b s : List ℕ) (counted : List Bool) (type direction m : ℕ) → some_of_type b counted type ≡ false
    → level_among (counted_records b counted) type direction m ≡ None
unfolding some_of_type
none-of-type b s counted type direction m e = none-among b counted type direction m 0 slot_count (not-false _ e)

-- the report's record and the slots'
module _ (b s : List ℕ) (swept : Swept) where
  abbrev records : List FullRecord
  records = swept_records b s swept.counted swept.with_report

  -- a type that does not count, by its place among the three
  none-swept : (of : CountedTypes → Bool) (type : ℕ)
      → ((types : CountedTypes) (t : ℕ) → of (with_type types t) ≡ (of types || eqb t type)) → of (counted_types b swept.counted) ≡ some_of_type b swept.counted type
      → (direction m : ℕ) → of (swept_types b s swept) ≡ false → level_among records type direction m ≡ None
  unfolding swept_records swept_types pick
  none-swept of type with same direction m e = by-case swept.with_report refl where
    slots : some_of_type b swept.counted type ≡ false → level_among (counted_records b swept.counted) type direction m ≡ None
    slots = none-of-type b s swept.counted type direction m

    by-case : (w : Bool) → swept.with_report ≡ w → level_among records type direction m ≡ None
    by-case false p = rw p (slots (sym same ∙ ap of (sym (rw p)) ∙ e))
    by-case true p =
        let both = neither (of (counted_types b swept.counted)) _ (sym (with _ _) ∙ ap of (sym (rw p)) ∙ e) in
        rw p (other-type type (report_record s) (counted_records b swept.counted) direction m both.1 ∙ slots (sym same ∙ both.0))

  module _ (kind : ℕ) (range : PowerRange) (direction start end : ℕ) where
    every : ((m : ℕ) → levels_fit kind range (levels_at records direction m) ≡ true)
        → true ≡ levels_every (levels_fit kind range) records direction start end
    unfolding levels_every
    every h =
        sym (all-intro (λ m. levels_fit kind range (levels_at records direction m)) (λ m. m) start (end - start) (λ m a o. h m))

    unforced : (swept_types b s swept).forced ≡ false → (m : ℕ) → levels_fit kind range (levels_at records direction m) ≡ true
    unfolding levels_at levels_fit
    unforced e m = rw (none-swept (λ types. types.forced) forced_work (λ types t. refl) refl direction m e)

    underated : (swept_types b s swept).positive ≡ false → (swept_types b s swept).negative ≡ false → (m : ℕ)
        → levels_fit kind range (levels_at records direction m) ≡ true
    unfolding levels_at
    underated e f m =
        rw (
          none-swept (λ types. types.positive) positive_derating (λ types t. refl) refl direction m e,
          none-swept (λ types. types.negative) negative_derating (λ types t. refl) refl direction m f,
        ) (alone_fits kind range _)

    pub fits-apart : {types : CountedTypes} {t : Bool} → types ≡ swept_types b s swept → t ≡ types_meet types → t ≡ false
        → true ≡ levels_every (levels_fit kind range) records direction start end
    fits-apart {types} counted meet e = by-case types.forced refl where
      by-case : (x : Bool) → types.forced ≡ x → true ≡ levels_every (levels_fit kind range) records direction start end
      by-case false q = every (unforced (rw counted at q))
      by-case true q =
          let none = sym (ap (λ (v : Bool). v && (types.positive || types.negative)) q) ∙ sym meet ∙ e in
          let both = neither types.positive types.negative none in
          every (underated (rw counted at both.0) (rw counted at both.1))

-- a walk over the slots: whether some of them is of a type, so far
module _ (b : List ℕ) (counted : List Bool) (type : ℕ) where
  pub record SomeUpTo (some : Bool) (i : ℕ) : Type 0 where
    pub tested : Tested (λ i. not (type_at b counted type i)) (λ i. i) slot_count (not some) i

  pub some-none : SomeUpTo false 0
  some-none = record { tested = tested-none }

  module _ {some : Bool} {i : ℕ} (h : SomeUpTo some i) (l : i < slot_count) where
    pub some-passed : get_or counted i false ≡ false → SomeUpTo some (i + 1)
    some-passed e = record { tested = rw (and-true (not some)) at (tested-more {r = true} h.tested l (rw e)) }

    not-or : (a c : Bool) → (not a && not c) ≡ not (a || c)
    not-or true c = refl
    not-or false c = refl

    pub some-counted : {z : List ℕ} {r : Record} → get_or counted i false ≡ true → z ≡ slot_at b i → r ≡ record_in z
        → SomeUpTo (some || eqb r.record_type.0 type) (i + 1)
    some-counted {z} {r} e read fields = record {
      tested = rw (not-or some (eqb r.record_type.0 type)) at
          (tested-more {r = not (eqb r.record_type.0 type)} h.tested l (rw (e, fields, read)));
    }

  pub some-all : {some : Bool} {i : ℕ} → SomeUpTo some i → slot_count ≤ i → some ≡ some_of_type b counted type
  unfolding some_of_type
  some-all {some} h l = sym (not-not some) ∙ ap not (tested-all h.tested l) where
    not-not : (a : Bool) → not (not a) ≡ a
    not-not true = refl
    not-not false = refl
