-- `transfers::stored_copies` meets its contract: a rack of more than 8 disks has no keys, and that of another those of its stored copies.
use mathlib.Core.Path.{◌≡◌, refl, ap}
use mathlib.Core.List.{map}
use Prim.Native.Nat.{◌≤◌}
use native.Mathlib.Omega.{arith}
use lib.ListN.{length, drop, length-append, length-map}
use Rattle.placement.specs.Packed.{disks_in}
use Rattle.placement.specs.Held.{marked_from}
use Rattle.placement.proofs.PackedRacks.{disks_length}
use Rattle.transfer_schedule.specs.Stored.{stored_from}
use Rattle.transfers.specs.Keys.{copy_key}
use Rattle.transfers.proofs.StoredKeys.{slots_few, keys_read}
use Rattle.transfers.proofs.texts.stored_copies.Goals as goal

pub returns : goal.returns
returns c =
    let a = c.args in
    let cs = stored_from 1 (marked_from (disks_in a.rack.now) a.copies.now a.counts.now) in
    let keys = c.put_disks-stored.new.keys in
    let number : c.put_disks-stored.result ≡ length cs = c.put_disks-stored.ensures.value in (
      c.put_disks-stored.result,
      refl,
      omega (arith, number, length-map cs copy_key, ap length c.put_disks-stored.ensures.keys_after, length-append (map copy_key cs) (drop (length (map copy_key cs)) a.keys.now)),
      λ few. keys_read (disks_in a.rack.now) a.copies.now a.counts.now a.keys.now keys c.put_disks-stored.result c.put_disks-stored.ensures.keys_after number,
    )

pub put_disks-stored-requires : goal.put_disks-stored-requires
put_disks-stored-requires c =
    let few : length c.args.rack.now ≤ 8 = omega (arith, c.if-disks-gt-MOST_TRANSFER_DISKS.false) in
    record {
      rack_len_bound = few;
      tables_fit = c.requires.tables_fit;
      rack_in_bounds = omega (arith, slots_few (disks_in c.args.rack.now) c.requires.rack_value (omega (arith, few, disks_length c.args.rack.now)), c.requires.keys_len);
    }
