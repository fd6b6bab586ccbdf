use Rattle.rules.specs.Codes.{positive_derating, negative_derating, forced_work}
use Rattle.levels.proofs.Unforced.{some-none, some-passed, some-counted, some-all}
use Rattle.levels.proofs.counted_types.Goals as goal

pub loop-i-init : goal.loop-i-init
loop-i-init c = record { forced = some-none _ _ _; positive = some-none _ _ _; negative = some-none _ _ _ }

pub loop-i-preserved-then-not-counted-i : goal.loop-i-preserved-then-not-counted-i
loop-i-preserved-then-not-counted-i c =
    let so_far = c.loop-i.invariant in
    let less = c.loop-i-test.true in
    let passed = c.if-not-counted-i.true in
    record {
      forced = some-passed _ _ _ so_far.forced less passed;
      positive = some-passed _ _ _ so_far.positive less passed;
      negative = some-passed _ _ _ so_far.negative less passed;
    }

pub loop-i-preserved : goal.loop-i-preserved
loop-i-preserved c =
    let so_far = c.loop-i.invariant in
    let less = c.loop-i-test.true in
    let counts = c.if-not-counted-i.false in
    let read = c.slot_at-z.ensures in
    let fields = c.record_in.ensures in
    rw c.with_type-types.ensures (record {
      forced = some-counted _ _ forced_work so_far.forced less counts read fields;
      positive = some-counted _ _ positive_derating so_far.positive less counts read fields;
      negative = some-counted _ _ negative_derating so_far.negative less counts read fields;
    })

pub returns : goal.returns
returns c =
    let found = c.loop-i.invariant in
    let past = c.loop-i-test.false in
    let forced = some-all c.args.b.now c.args.counted forced_work found.forced past in
    let positive = some-all c.args.b.now c.args.counted positive_derating found.positive past in
    let negative = some-all c.args.b.now c.args.counted negative_derating found.negative past in
    λ i. record { forced = forced i; positive = positive i; negative = negative i }
