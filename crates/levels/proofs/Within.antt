-- Where every forced level is within its limits, no minute is warned of. Assumes nothing.
use Prim.Native.Nat.{ℕ, zero, suc, ◌+◌, ◌-◌, ◌≤◌, ◌<◌}
use mathlib.Core.Path.{◌≡◌, refl, ap, sym, ◌∙◌, subst}
use mathlib.Core.Bool.{Bool, true, false, not, ◌&&◌, ◌||◌, and-false, and-true}
use mathlib.Core.List.{List}
use native.Mathlib.Omega.{arith}
use lib.Dec.{leb, ltb, eqb}
use lib.ListN.{get_or}
use borrow.Author.Tests.{not-true}
use Rattle.std.proofs.Common.{Option, Some, None, is_none}
use Rattle.std.specs.Option.{option_or}
use Rattle.quantities.specs.declared.Kilowatt.{Kilowatt}
use Rattle.fields.specs.Lists.{all, series}
use Rattle.fields.proofs.Bools.{and_left, and_right, pick-elim}
use Rattle.fields.proofs.Tests.{all-intro, Tested, tested-more, tested-all}
use Rattle.quantities.specs.declared.Minute.{Minute}
use Rattle.rules.specs.declared.Levels.{Levels}
use Rattle.rules.specs.declared.Record.{Record}
use Rattle.rules.specs.Codes.{forced_work}
use Rattle.rules.specs.Block.{pair_start, slot_at, stored_count, pairs_from}
use Rattle.rules.specs.Questions.{record_at}
use Rattle.rules.specs.Minutes.{is_none_or, is_some_and, is_high, is_low, level_in, FullRecord, level_of, level_among, records_among, levels_at, some_minute, above_max, below_min, levels_some}
use Rattle.block.specs.declared.Pair.{Pair}
use Rattle.block.specs.Slot.{pair_at}
use Rattle.levels.specs.declared.Limits.{Limits}
use Rattle.levels.specs.Counted.{slot_record, counted_records}
use Rattle.levels.specs.Within.{power_within, pairs_within, is_forced, slot_within, forced_within, level_warnings}

some-none : (start end : ℕ) (test : ℕ → Bool) → ((m : ℕ) → test m ≡ false) → some_minute start end test ≡ false
some-none start end test h = ap not (all-intro (λ m. not (test m)) (λ m. m) start (end - start) (λ j a b. ap not (h j)))

module _ (u : Limits) where
  -- a level that is not there, or is within
  abbrev pub Within : Option Kilowatt → Type 0
  Within l = is_none_or l (power_within u) ≡ true

  abbrev pair-within : Pair → Bool
  pair-within p = power_within u p.power.0

  slot-level : (z : List ℕ) (i n m : ℕ) (start : Minute) → all pair-within (series (pair_at z) i n) ≡ true
      → Within (level_in (pairs_from z (pair_start i) n start) m)
  unfolding level_in pairs_from all series
  slot-level z i zero m start e = refl
  slot-level z i (suc n) m start e =
      let a : pair_start (i + 1) ≡ pair_start i + 8 = omega arith in
      let p = pair_at z i in
      let rest = slot-level z (i + 1) n m p.end (and_right (pair-within p) (all pair-within (series (pair_at z) (i + 1) n)) e) in
      pick-elim Within (ltb m p.end.0)
      (λ t. and_left (pair-within p) (all pair-within (series (pair_at z) (i + 1) n)) e)
      (λ t. subst (λ (at : ℕ). Within (level_in (pairs_from z at n p.end) m)) a rest)

  module _ (b : List ℕ) (direction m : ℕ) where
    slot-quiet : (i : ℕ) → slot_within b i direction u ≡ true
        → Within (level_of (slot_record b i) forced_work direction m)
    unfolding slot_within pairs_within level_of
    slot-quiet i e =
        pick-elim Within (eqb r.record_type.0 4 && eqb r.direction.0 direction && leb r.period.start.0 m && ltb m
        r.period.end.0)
        (λ t. slot-level z 0 (stored_count z) m r.period.start (pairs (first_two (eqb r.record_type.0 4) (eqb
        r.direction.0 direction) _ _ t)))
        (λ t. refl)
      where
        r : Record
        r = record_at b i

        z : List ℕ
        z = slot_at b i

        first_two : (a c d e : Bool) → (a && c && d && e) ≡ true → (a && c) ≡ true
        first_two a c d e t = and_left (a && c) d (and_left (a && c && d) e t)

        pairs : (is_forced r direction) ≡ true → pairs_within z u ≡ true
        pairs t = sym (ap (λ (v : Bool). not v || pairs_within z u) t) ∙ e

    or-within : (v w : Option Kilowatt) → Within v → Within w → Within (option_or v w)
    or-within None w p q = q
    or-within (Some x) w p q = p

    module _ (counts : ℕ → Bool) where
      abbrev quiet : ℕ → Bool
      quiet i = not (counts i) || slot_within b i direction u

      among-quiet : (i n : ℕ) → all quiet (series (λ i. i) i n) ≡ true
          → Within (level_among (records_among b counts i n) forced_work direction m)
      unfolding level_among records_among all series
      among-quiet i zero e = refl
      among-quiet i (suc n) e =
          let rest = among-quiet (i + 1) n (and_right (quiet i) (all quiet (series (λ i. i) (i + 1) n)) e) in
          pick-elim (λ (ws : List FullRecord). Within (level_among ws forced_work direction m)) (counts i)
          (λ t. or-within _ _ (slot-quiet i (first t)) rest)
          (λ t. rest)
        where
          first : counts i ≡ true → slot_within b i direction u ≡ true
          first t =
              sym (ap (λ (v : Bool). not v || slot_within b i direction u) t)
              ∙ and_left (quiet i) (all quiet (series (λ i. i) (i + 1) n)) e

  -- what a level within its limits says of warnings 2 and 4
  within-not : (test : ℕ → Bool) → ((k : ℕ) → power_within u k ≡ true → test k ≡ false) → (l : Option Kilowatt) → Within l
      → is_some_and l test ≡ false
  within-not test f None h = refl
  within-not test f (Some k) h = f k.0 h

  module _ (l : Levels) (h : Within l.forced) where
    pub not-above : above_max u.kind.0 u.range l ≡ false
    unfolding above_max
    not-above =
        rw (within-not (is_high u.kind.0 u.range)
        (λ k t. not-true (is_high u.kind.0 u.range k) (and_left _ (not (is_low u.kind.0 u.range k)) t)) l.forced h)
        (and-false (is_none l.positive))

    pub not-below : below_min u.kind.0 u.range l ≡ false
    unfolding below_min
    not-below =
        rw (within-not (is_low u.kind.0 u.range)
        (λ k t. not-true (is_low u.kind.0 u.range k) (and_right (not (is_high u.kind.0 u.range k)) _ t)) l.forced h)
        (and-false (is_none l.negative))

  module _ (b : List ℕ) (counted : List Bool) (direction start end : ℕ) where
    -- nothing is beyond the limits
    pub warn-none : {t : Bool} → t ≡ forced_within b counted direction u → t ≡ true
        → record { above = false; below = false } ≡ level_warnings u.kind.0 u.range (counted_records b counted) direction start end
    unfolding forced_within level_warnings levels_some levels_at
    warn-none p t =
        λ i. record {
          above = sym (some-none start end _ (λ m. not-above (levels_at (counted_records b counted) direction m) (forced m))) i;
          below = sym (some-none start end _ (λ m. not-below (levels_at (counted_records b counted) direction m) (forced m))) i;
        }
      where
        forced : (m : ℕ) → Within (level_among (counted_records b counted) forced_work direction m)
        forced m = among-quiet b direction m (λ i. get_or counted i false) 0 8 (sym p ∙ t)

  -- what the code finds of a slot
  pub pair-tested : (z : List ℕ) {n j : ℕ} {p : Pair} {ok r : Bool} → Tested pair-within (pair_at z) n ok j → j < n → p ≡ pair_at z j
      → r ≡ power_within u p.power.0 → Tested pair-within (pair_at z) n (ok && r) (j + 1)
  pair-tested z t l e q = tested-more t l (q ∙ ap pair-within e)

  pub pairs-tested : (z : List ℕ) {n i : ℕ} {ok : Bool} → n ≡ stored_count z → Tested pair-within (pair_at z) n ok i → n ≤ i
      → ok ≡ pairs_within z u
  unfolding pairs_within
  pairs-tested z e t h = tested-all t h ∙ ap (λ (k : ℕ). all pair-within (series (pair_at z) 0 k)) e

  -- and of all
  module _ (b : List ℕ) (counted : List Bool) (direction : ℕ) where
    abbrev pub slot-passes : ℕ → Bool
    slot-passes i = not (get_or counted i false) || slot_within b i direction u

    pub slot-passed : {i : ℕ} {ok : Bool} → Tested slot-passes (λ i. i) 8 ok i → i < 8 → get_or counted i false ≡ false
        → Tested slot-passes (λ i. i) 8 ok (i + 1)
    slot-passed {i} {ok} t l e = rw (and-true ok) at (tested-more {r = true} t l (rw e))

    pub slot-tested : {i : ℕ} {ok r : Bool} → Tested slot-passes (λ i. i) 8 ok i → i < 8 → get_or counted i false ≡ true
        → r ≡ slot_within b i direction u → Tested slot-passes (λ i. i) 8 (ok && r) (i + 1)
    slot-tested {i} {ok} {r} t l e q = tested-more t l (rw e q)

    pub slots-tested : {i : ℕ} {ok : Bool} → Tested slot-passes (λ i. i) 8 ok i → 8 ≤ i → ok ≡ forced_within b counted direction u
    unfolding forced_within
    slots-tested t h = tested-all t h
