-- A remark's bytes as they are shown. Assumes nothing.
use Prim.Native.Nat.{ℕ, suc, ◌+◌, ◌*◌, ◌<◌}
use mathlib.Core.Path.{◌≡◌, refl, ap, sym, ◌∙◌}
use mathlib.Core.List.{List, [], ◌∷◌, ◌++◌, append_assoc, append-nil}
use native.Mathlib.Omega.{arith}
use lib.ListN.{length, take, get_or}
use lib.Seq.{take-suc}
use Rattle.texts.specs.declared.Text.{Text}
use Rattle.texts.specs.Texts.{Writes}
use Rattle.log_lines.specs.Remarks.{shown_byte, shown}
use Rattle.texts.proofs.Texts.{then, same_text}

shown-append : (xs ys : List ℕ) → shown (xs ++ ys) ≡ shown xs ++ shown ys
unfolding shown
shown-append [] ys = refl
shown-append (x ∷ xs) ys = rw (shown-append xs ys) (sym (append_assoc (shown_byte x) (shown xs) (shown ys)))

shown-next : (bytes : List ℕ) (j v : ℕ) → j < length bytes → v ≡ get_or bytes j 0
    → shown (take j bytes) ++ shown_byte v ≡ shown (take (j + 1) bytes)
unfolding shown
shown-next bytes j v l same =
    let s : j + 1 ≡ suc j = omega arith in
    rw (s, take-suc bytes j 0 l, ← same, shown-append (take j bytes) (v ∷ []), append-nil (shown_byte v))

-- one byte more, where some text lies before them
pub shown-more : (m : ℕ) {a b d : Text} {j v : ℕ} (before bytes : List ℕ) → j < length bytes → v ≡ get_or bytes j 0
    → Writes (m + 4 * j) a (before ++ shown (take j bytes)) b → Writes 4 b (shown_byte v) d
    → Writes (m + 4 * (j + 1)) a (before ++ shown (take (j + 1) bytes)) d
shown-more m {j = j} {v = v} before bytes l same p q =
    same_text (append_assoc before (shown (take j bytes)) (shown_byte v) ∙ ap (λ (z : List ℕ). before ++ z) (shown-next bytes j v l same))
    (omega arith) (then p q)
