-- The disks from `d` on give the verdict on all.
use Rattle.std.proofs.Common.{◌≡◌, ◌+◌, drop}
use Rattle.placement.specs.Packed.{disks_in}
use Rattle.placement.proofs.PackedRacks.{ratios_judged}
use Rattle.placement.proofs.mixed.judge_ratios.Given as goal

abbrev pub invariant-loop-d : goal.invariant-loop-d
invariant-loop-d l =
    ratios_judged (l.slots).0 (l.streams).0 1 (disks_in l.fn.rack) ≡ ratios_judged (l.slots).0 (l.streams).0 (l.d + 1) (disks_in (drop l.d l.fn.rack))
