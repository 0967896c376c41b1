-- One turn of the loops that pack and unpack.
use mathlib.Core.Path.{◌≡◌, sym, ap, ap₂, ◌∙◌}
use mathlib.Core.List.{List, [], ◌∷◌, ◌++◌}
use Prim.Native.Nat.{ℕ, suc, ◌+◌, ◌<◌}
use native.Mathlib.Omega.{arith}
use lib.ListN.{length, get_or, set, take, length-map, get_or-map}
use lib.Seq.{take-suc, take-suc-set}
use Rattle.placement.specs.Rack.{Disk}
use Rattle.placement.specs.Packed.{disk_in, disks_in}
use Rattle.disk_entries.specs.Entries.{disk_of, disks_of_entries}
use Rattle.disk_entries.specs.declared.DiskEntry.{DiskEntry}
use Rattle.disk_entries.proofs.Lists.{over, over_next, map_set}

-- One number more is a disk of the entries.
pub one_more : (ys : List DiskEntry) (i : ℕ) (ds : List ℕ) (r : ℕ) (z : DiskEntry) → i < length ys → i < length ds
    → take i (disks_in ds) ≡ take i (disks_of_entries ys) → disk_in r ≡ disk_of (get_or ys i z) → take (i + 1) (disks_in (set ds i r)) ≡ take (i + 1) (disks_of_entries ys)
one_more ys i ds r z h g so_far said =
    ap₂ (λ (k : ℕ) (l : List Disk). take k l) next (map_set disk_in ds i r)
    ∙ take-suc-set (disks_in ds) i (disk_in r) (omega (arith, g, length-map ds disk_in))
    ∙ ap₂ (λ (l : List Disk) (d : Disk). l ++ (d ∷ [])) so_far (said ∙ sym (get_or-map disk_of ys i z))
    ∙ sym (take-suc (disks_of_entries ys) i (disk_of z) (omega (arith, h, length-map ys disk_of)))
    ∙ ap (λ (k : ℕ). take k (disks_of_entries ys)) (sym next)
  where
    next : i + 1 ≡ suc i
    next = omega arith

-- One entry more is that of a disk held.
pub one_entry_more : (held old : List Disk) (es : List DiskEntry) (i : ℕ) (e : DiskEntry) (z : Disk) → i < length held → i < length old
    → disks_of_entries es ≡ over held old i → disk_of e ≡ get_or held i z → disks_of_entries (set es i e) ≡ over held old (i + 1)
one_entry_more held old es i e z h g so_far said =
    map_set disk_of es i e ∙ ap₂ (λ (l : List Disk) (d : Disk). set l i d) so_far said ∙ over_next held old i z h g
