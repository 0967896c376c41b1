use Rattle.std.proofs.Common.{◌≡◌, ◌<◌, ℕ, ap, ◌∙◌, min, arith, length, take}
use lib.ListN.{length-set, length-map, length-take}
use lib.Seq.{get_or-take}
use Rattle.placement.specs.Packed.{disks_in}
use Rattle.disk_entries.specs.Entries.{disk_of, disks_of_entries}
use Rattle.disk_entries.proofs.Lists.{take_least}
use Rattle.disk_entries.proofs.Loops.{one_more}
use Rattle.disk_entries.proofs.pack.Goals as goal

pub loop-i-preserved : goal.loop-i-preserved
loop-i-preserved c =
    let rack = c.args.rack.now in
    let i = c.loop-i.i in
    let passed : i < c.min-count.result = omega (arith, length-take c.min-count.result rack, c.loop-i-test.true) in
    let within : i < length rack = omega arith in (
      length-set c.loop-i.disks i c.from.result ∙ c.loop-i.invariant.0,
      one_more rack i c.loop-i.disks c.from.result _ within (omega arith) c.loop-i.invariant.1
          (c.from.ensures ∙ ap disk_of (get_or-take c.min-count.result rack i _ passed)),
    )

pub returns : goal.returns
returns c =
    let rack = c.args.rack.now in
    let i = c.loop-i.i in
    let same : c.min-count.result ≡ i = omega (arith, length-take c.min-count.result rack, c.loop-i-test.false) in
    let all : i ≡ min (length (disks_of_entries rack)) 65 = omega (arith, length-map rack disk_of) in
    ap (λ (k : ℕ). take k (disks_in c.loop-i.disks)) same ∙ c.loop-i.invariant.1 ∙ take_least 65 (disks_of_entries rack) i all
