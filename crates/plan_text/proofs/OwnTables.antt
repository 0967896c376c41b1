-- A list of 64 entries and tables of an operation's own are never too short: reading into them answers as judging does, and they hold the plan.
use mathlib.Core.Path.{◌≡◌, refl, ap, ◌∙◌}
use mathlib.Core.Bool.{true}
use native.Mathlib.Omega.{arith}
use borrow.Author.Tests.{le-leb}
use lib.Dec.{leb}
use mathlib.Core.List.{List}
use Prim.Native.Nat.{ℕ, ◌≤◌}
use lib.ListN.{length, take}
use Rattle.refusal.specs.Verdict.{Verdict, given, refused}
use Rattle.refusal.proofs.Verdicts.{unless_passes}
use Rattle.placement.specs.Rack.{Disk, most_disks}
use Rattle.placement.specs.Tables.{Tables, room_for, own_tables}
use Rattle.placement.specs.Plan.{Plan, well_formed}
use Rattle.placement.specs.Held.{plan_held}
use Rattle.placement.proofs.Racks.{accepted_disks}
use Rattle.placement.proofs.Formed.{left_count, plan_rack, plan_left}
use Rattle.placement.proofs.OwnTables.{own_room}
use Rattle.plan_text.specs.Held.{held_well_formed}
use Rattle.plan_text.specs.ReadCall.{text_verdict, with_tables, rack_given, tables_given, answer_to, judging, reading, rack_after_reading, tables_after_reading}
use Rattle.plan_text.proofs.ReadTables.{holding_rack_lem, holding_held, holding_well_formed}
use Rattle.plan_text.proofs.Verdicts.{verdict_well_formed}

module _ (text : List ℕ) (lent : List Disk) (enough : most_disks ≤ length lent) where
  -- A text's verdict stands: 7 does not apply.
  pub own_verdict : with_tables lent own_tables (text_verdict text) ≡ text_verdict text
  own_verdict = go (text_verdict text) refl
    where
      entries : (p : Plan) → well_formed p ≡ true → leb (length p.rack) (length lent) ≡ true
      entries p formed = le-leb (length p.rack) (length lent) (omega (arith, (accepted_disks p.rack (plan_rack p formed)).1))

      room : (p : Plan) → well_formed p ≡ true → room_for p.rack (length p.left) own_tables ≡ true
      room p formed = own_room p.rack (length p.left) (plan_rack p formed) (left_count p.left (plan_left p formed))

      go : (v : Verdict Plan) → text_verdict text ≡ v → with_tables lent own_tables v ≡ v
      go (given p) e =
          unless_passes (leb (length p.rack) (length lent)) 7 0 _ (entries p (verdict_well_formed text p e))
          ∙ unless_passes (room_for p.rack (length p.left) own_tables) 7 0 (given p) (room p (verdict_well_formed text p e))
      go (refused number second) e = refl

  -- The answer is that of judging.
  pub own_reading : reading text lent own_tables ≡ judging text
  unfolding reading judging
  own_reading = ap answer_to own_verdict

  module _ (p : Plan) (e : text_verdict text ≡ given p) where
    -- The list of entries after reading begins with the rack.
    pub own_rack : take (length p.rack) (rack_after_reading text lent own_tables) ≡ p.rack
    unfolding rack_after_reading
    own_rack = ap (λ (v : Verdict Plan). take (length p.rack) (rack_given lent v)) (own_verdict ∙ e) ∙ holding_rack_lem p lent

    -- The tables after reading are the plan's.
    own_after : tables_after_reading text lent own_tables ≡ tables_given own_tables (given p)
    unfolding tables_after_reading
    own_after = ap (tables_given own_tables) (own_verdict ∙ e)

    -- They hold the plan.
    pub own_held : plan_held p.rack (tables_after_reading text lent own_tables) (length p.left) ≡ p
    own_held =
        ap (λ (t : Tables). plan_held p.rack t (length p.left)) own_after
        ∙ holding_held p own_tables (verdict_well_formed text p e)

    -- They hold it well formed.
    pub own_well_formed : held_well_formed p.rack (tables_after_reading text lent own_tables) (length p.left) ≡ true
    own_well_formed =
        ap (λ (t : Tables). held_well_formed p.rack t (length p.left)) own_after
        ∙ holding_well_formed p own_tables (verdict_well_formed text p e)
