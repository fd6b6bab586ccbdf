-- A text as its bytes.
use Rattle.std.specs.Prelude.{ℕ, List, [], ◌∷◌}
use Prim.Native.Char.{code}
use Prim.Native.String.{String, [] as nothing, ◌∷◌ as ◌before◌}

-- the text is ASCII
abbrev pub ascii : String → List ℕ
ascii nothing = []
ascii (c before text) = code c ∷ ascii text
