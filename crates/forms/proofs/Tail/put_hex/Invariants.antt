use Rattle.std.proofs.Common.{◌*◌, ◌-◌, drop}
use Rattle.forms.specs.Tails.{Prepends}
use Rattle.forms.specs.Values.{hex_text}
use Rattle.forms.proofs.Tail.put_hex.Given as goal

abbrev pub invariant-loop-i : goal.invariant-loop-i
invariant-loop-i l = Prepends (2 * l.i) l.fn.self (hex_text (drop (16 - l.i) l.identifier)) l.self
