-- The puts of one group of fields as one put. Assumes nothing.
use Prim.Native.Nat.{ℕ, ◌+◌}
use mathlib.Core.Path.{◌≡◌, refl, ap, sym, ◌∙◌}
use mathlib.Core.List.{List, [], ◌∷◌}
use Rattle.fields.specs.Fields.{bytes_of}
use Rattle.fields.specs.Lists.{put}
use Rattle.fields.proofs.Numbers.{bytes-length}
use Rattle.fields.proofs.Slices.{put-append}
use Rattle.rules.specs.declared.Record.{Record}
use Rattle.rules.specs.declared.Row.{Row}
use Rattle.rules.specs.Block.{slot_mark}
use Rattle.rules.specs.After.{put_row}
use Rattle.block.specs.declared.Pair.{Pair}
use Rattle.block.specs.Codec.{codes_bytes, times_bytes, pair_bytes_of}

pub codes-put : (z : List ℕ) (r : Record)
    → put (put (put (put (put (put z 0 (bytes_of 2 slot_mark)) 2 (r.record_type.0 ∷ [])) 3 (r.direction.0 ∷ [])) 4
    (r.qualification ∷ [])) 5 (r.start_mark.0 ∷ [])) 6 (bytes_of 2 r.ordinal) ≡ put z 0 (codes_bytes r)
unfolding put bytes_of codes_bytes
codes-put z r = refl

pub times-put : (z : List ℕ) (r : Record) (count : ℕ)
    → put (put (put (put z 24 (bytes_of 4 r.stamp.0)) 28 (bytes_of 4 r.period.start.0)) 32
    (bytes_of 4 r.period.end.0)) 36 (bytes_of 2 count) ≡ put z 24 (times_bytes r count)
unfolding put bytes_of times_bytes
times-put z r count = refl

row_put : (z : List ℕ) (row : Row)
    → put (put (put z 7 (row.state.0 ∷ [])) 8 (row.qualification ∷ [])) 12 (bytes_of 4 row.since.0) ≡ put_row z row
unfolding put bytes_of put_row
row_put z row = refl

pub row_written : (z : List ℕ) (row : Row) {x y w : List ℕ} → x ≡ put z 7 (row.state.0 ∷ [])
    → y ≡ put x 8 (row.qualification ∷ []) → w ≡ put y 12 (bytes_of 4 row.since.0) → w ≡ put_row z row
row_written z row {x} {y} {w} e f g = g ∙ rw (f, e) (row_put z row)

pub pair-written : (z : List ℕ) (at : ℕ) (p : Pair) {y x : List ℕ} → y ≡ put z at (bytes_of 4 p.end.0)
    → x ≡ put y (at + 4) (bytes_of 4 p.power.0) → x ≡ put z at (pair_bytes_of p)
unfolding pair_bytes_of
pair-written z at p e f =
    f ∙ rw e (sym (put-append (bytes_of 4 p.end.0) (bytes_of 4 p.power.0) z at
    ∙ ap (λ (k : ℕ). put (put z at (bytes_of 4 p.end.0)) (at + k) (bytes_of 4 p.power.0)) (bytes-length 4 p.end.0)))
