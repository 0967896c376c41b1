-- The records before i are checked, and the bytes from record i on are left.
use Rattle.std.proofs.Common.{◌≡◌, ◌*◌, drop}
use Rattle.std.specs.Iterator.Adapters.{enumerate_count, enumerate_source}
use Rattle.std.specs.Slice.Iter.{chunks_exact_rest, chunks_exact_size}
use Rattle.demand_list.proofs.Checking.{Checked}
use Rattle.demand_list.proofs.records.judge_records.Given as goal

abbrev pub invariant-loop-i : goal.invariant-loop-i
invariant-loop-i l =
    (goal.iterator-loop-i).can_next l.i-iterator × (goal.iterator-loop-i).is_finite l.i-iterator
    × Checked l.list l.seen (enumerate_count l.i-iterator)
    × (chunks_exact_rest (enumerate_source l.i-iterator) ≡ drop (8 * enumerate_count l.i-iterator) l.list)
    × (chunks_exact_size (enumerate_source l.i-iterator) ≡ 8)
