-- A record's fields, put one after the other into an array of their size, are the record. Assumes nothing.
use Prim.Native.Nat.{ℕ, ◌+◌}
use mathlib.Core.Path.{◌≡◌, refl, sym, ◌∙◌}
use mathlib.Core.List.{List, [], ◌∷◌, ◌++◌}
use native.Mathlib.Omega.{arith}
use native.Mathlib.Nat.{zero-add}
use lib.ListN.{length, replicate, length-append}
use Rattle.std.specs.Int.{w32}
use Rattle.std.proofs.Common.{of_z}
use Rattle.fields.specs.Fields.{bytes_of}
use Rattle.fields.specs.Lists.{part, put}
use Rattle.fields.proofs.Numbers.{bytes-length}
use Rattle.fields.proofs.Slices.{put-append, put-length, part-put, filled-all}
use Rattle.report.specs.declared.Head.{Head}
use Rattle.report.specs.declared.Part.{Part}
use Rattle.report.specs.Report.{report_mark, part_mark}
use Rattle.report.specs.Encoded.{encode_head, encode_part}

-- t holds vs at the front of s, and the next field comes at n
record Reached (s : List ℕ) (vs : List ℕ) (n : ℕ) (t : List ℕ) : Type 0 where
  pub put : t ≡ put s 0 vs
  pub next : n ≡ length vs

-- nothing yet, one stretch more, and one number more
none_yet : (s : List ℕ) → Reached s [] 0 s
unfolding put
none_yet s = record { put = refl; next = refl }

more : {s vs : List ℕ} {n : ℕ} {t : List ℕ} → Reached s vs n t → (ws : List ℕ) (k : ℕ) → length ws ≡ k
    → Reached s (vs ++ ws) (n + k) (put t n ws)
more {s} {vs} {n} {t} r ws k e =
    let m : 0 + length vs ≡ n = zero-add (length vs) ∙ sym (r.next) in
    record {
      put = rw (r.put, ← m) (sym (put-append vs ws s 0));
      next = rw (length-append vs ws, e, r.next);
    }

number : {s vs : List ℕ} {n : ℕ} {t : List ℕ} → Reached s vs n t → (k v : ℕ)
    → Reached s (vs ++ bytes_of k v) (n + k) (put t n (bytes_of k v))
number r k v = more r (bytes_of k v) k (bytes-length k v)

-- all that the array held before is gone
all_put : (s vs : List ℕ) → length vs ≡ length s → put s 0 vs ≡ vs
unfolding part
all_put s vs e = filled-all (put s 0 vs) vs (length vs) (put-length s 0 vs ∙ sym e) (part-put s 0 vs (omega arith))

whole : {s vs : List ℕ} {n : ℕ} {t : List ℕ} → Reached s vs n t → length s ≡ n → t ≡ vs
whole {s} {vs} r e = r.put ∙ all_put s vs (sym (e ∙ r.next))

pub head_put : (h : Head) → length h.identifier ≡ 16
    → put (put (put (put (put (put (put (put (put (put (put (put (replicate 48 0) 0 (bytes_of 2 report_mark)) 2 (bytes_of 2 h.unit)) 4 (bytes_of 2 h.owner))
    6 (h.record_type.0 ∷ h.operation.0 ∷ h.direction.0 ∷ h.start_mark.0 ∷ h.end_mark.0 ∷ h.qualification ∷ []))
    12 (bytes_of 2 h.ordinal)) 14 (bytes_of 2 h.part_count)) 16 h.identifier) 32 (bytes_of 4 h.stamp.0)) 36 (bytes_of 4 h.period.start.0))
    40 (bytes_of 4 h.period.end.0)) 44 (bytes_of 2 h.text_length)) 46 (bytes_of 2 0)
    ≡ encode_head h
unfolding encode_head
head_put h long =
    let owned = number (number (number (none_yet (replicate 48 0)) 2 report_mark) 2 h.unit) 2 h.owner in
    let codes = h.record_type.0 ∷ h.operation.0 ∷ h.direction.0 ∷ h.start_mark.0 ∷ h.end_mark.0 ∷ h.qualification ∷ [] in
    let counted = number (number (more owned codes 6 refl) 2 h.ordinal) 2 h.part_count in
    let stamped = number (more counted h.identifier 16 long) 4 h.stamp.0 in
    let timed = number (number stamped 4 h.period.start.0) 4 h.period.end.0 in
    whole (number (number timed 2 h.text_length) 2 0) refl

pub part_put : (p : Part) → put (put (put (put (put (replicate 16 0) 0 (bytes_of 2 part_mark)) 2 (bytes_of 2 0)) 4 (bytes_of 4 p.period.start.0))
    8 (bytes_of 4 p.period.end.0)) 12 (bytes_of 4 (of_z w32 p.power.0))
    ≡ encode_part p
part_put p =
    let marked = number (number (none_yet (replicate 16 0)) 2 part_mark) 2 0 in
    whole (number (number (number marked 4 p.period.start.0) 4 p.period.end.0) 4 (of_z w32 p.power.0)) refl
