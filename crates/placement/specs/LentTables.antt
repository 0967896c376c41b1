-- The tables that lent references reach.
use Rattle.std.specs.Prelude.{◌≡◌}
use Rattle.placement.specs.Tables.{Tables, tables}
use Rattle.placement.specs.declared.tables.LentTables.{LentTables}

-- What the lent tables hold.
abbrev pub held : LentTables → Tables
held lent = tables lent.copies.now lent.counts.now lent.left.now

-- The same references: what is written through one is what the lender's slices hold.
pub record SameSlices (old new : LentTables) : Type 0 where
  pub copies : new.copies.ghost_name ≡ old.copies.ghost_name
  pub counts : new.counts.ghost_name ≡ old.counts.ghost_name
  pub left : new.left.ghost_name ≡ old.left.ghost_name
