-- Lists of bytes, and the numbers in them. Assumes nothing.
use Prim.Native.Nat.{ℕ, zero, suc, ◌+◌, ◌/◌, ◌%◌, ◌<◌}
use mathlib.Core.Path.{◌≡◌}
use mathlib.Core.Bool.{true}
use mathlib.Core.List.{List, [], ◌∷◌, ◌++◌}
use native.Mathlib.Omega.{arith}
use lib.Dec.{leb}
use borrow.Author.Tests.{leb-true}
use Rattle.fields.specs.Lists.{all, series}
use Rattle.fields.specs.Fields.{u16_at, u32_at, uint_at, bytes_of}
use Rattle.fields.proofs.Bools.{and_left, and_right}
use Rattle.fields.proofs.Numbers.{four_bytes}
use Rattle.forms.specs.Form.{printable}
use Rattle.forms.specs.Form.{AreBytes}

pub no_bytes : AreBytes []
no_bytes i = omega arith

pub byte_first : (x : ℕ) (xs : List ℕ) → x < 256 → AreBytes xs → AreBytes (x ∷ xs)
byte_first x xs l bytes zero = l
byte_first x xs l bytes (suc i) = bytes i

pub bytes_append : (xs ys : List ℕ) → AreBytes xs → AreBytes ys → AreBytes (xs ++ ys)
bytes_append [] ys a b = b
bytes_append (x ∷ xs) ys a b =
    byte_first x (xs ++ ys) (a 0) (bytes_append xs ys (λ i. a (suc i)) b)

pub number_bytes : (n v : ℕ) → AreBytes (bytes_of n v)
unfolding bytes_of
number_bytes zero v = no_bytes
number_bytes (suc n) v = byte_first (v % 256) (bytes_of n (v / 256)) (omega arith) (number_bytes n (v / 256))

pub series_bytes : (f : ℕ → ℕ) (i n : ℕ) → ((j : ℕ) → f j < 256) → AreBytes (series f i n)
unfolding series
series_bytes f i zero each = no_bytes
series_bytes f i (suc n) each = byte_first (f i) (series f (i + 1) n) (each i) (series_bytes f (i + 1) n each)

pub printed_bytes : (text : List ℕ) → all printable text ≡ true → AreBytes text
unfolding all
printed_bytes [] e = no_bytes
printed_bytes (c ∷ text) e =
    let most = leb-true c 0x7E (and_right (leb 0x20 c) (leb c 0x7E) (and_left (printable c) (all printable text) e)) in
    byte_first c text (omega arith) (printed_bytes text (and_right (printable c) (all printable text) e))

pub two-small : (s : List ℕ) → AreBytes s → (at : ℕ) → u16_at s at < 65536
unfolding uint_at
two-small s bytes at = omega (arith, bytes at, bytes (at + 1))

pub four-small : (s : List ℕ) → AreBytes s → (at : ℕ) → u32_at s at < 4294967296
four-small s bytes at = omega (arith, four_bytes s at, bytes at, bytes (at + 1), bytes (at + 2), bytes (at + 3))
