use Rattle.std.proofs.Common.{rules, ◌<◌, ◌≤◌}
use Rattle.std.proofs.lemmas.Iterator.{first_from_Range}
use mathlib.Core.Path.{refl}
use native.Mathlib.Omega.{arith}
use Rattle.levels.specs.Pairs.{pairs_of}
use Rattle.levels.proofs.Parts.{passed-upto, stepped-hit, stepped-all}
use Rattle.levels.proofs.Source.step_among.Goals as goal

pub returns-in_default : goal.returns-in_default
returns-in_default c =
    let f = pairs_of c.args.self in
    let none = rw c.in_default.is at (first_from_Range _ _ _ c.find.result (λ j. c.args.m.0 < (f j).end.0) (λ j. (f j).end.0 ≤ c.args.m.0)
    c.find.ensures.ran (λ x q k. search (rules, arith)) (λ x q k. (search rules, search (rules, arith)))) in
    rw c.level_at-span.ensures (stepped-all (passed-upto c.requires.passed _ c.requires.passed.most (omega arith) none) refl c.requires.m_bound)

pub returns : goal.returns
returns c =
    let f = pairs_of c.args.self in
    let found = rw c.in-Some.is at (first_from_Range _ _ _ c.find.result (λ j. c.args.m.0 < (f j).end.0) (λ j. (f j).end.0 ≤ c.args.m.0)
    c.find.ensures.ran (λ x q k. search (rules, arith)) (λ x q k. (search rules, search (rules, arith)))) in
    rw c.level_at-span-2.ensures (stepped-hit (passed-upto c.requires.passed _ found.0 (omega (arith, found.1)) found.3) found.1 found.2)
