-- The four runs of the text, one behind the other, with S and U summed over the tables.
use Rattle.std.proofs.Common.{◌≡◌, true, [], ◌∷◌, sym, subst, arith}
use Rattle.placement.specs.Rack.{all_slots}
use Rattle.placement.specs.Packed.{disks_in}
use Rattle.placement.specs.Tables.{tables}
use Rattle.placement.proofs.Racks.{accepted_all_slots}
use Rattle.plan_text.specs.Text.{lines, first_line, text_of}
use Rattle.plan_text.specs.WriteCall.{WriteCall, write_call, plan_of, well_formed_call}
use Rattle.writer.specs.Space.{disk_lines}
use Rattle.writer.proofs.Runs.{text_runs}
use Rattle.writer.proofs.Sums.{served_held, unserved_held}
use Rattle.writer.proofs.stated.StatedPlan.put_text.Goals as goal

pub returns : goal.returns
returns g c =
    let p = c.self.inside in
    let stated : WriteCall = write_call (disks_in p.rack.now) (tables p.copies.now p.counts.now p.left.now) p.films in
    let takes = g.S.Sink.takes in
    let more = g.met.S.Sink.more in
    let back = sym c.self.view_is in
    let formed : well_formed_call stated ≡ true = subst (λ (k : WriteCall). well_formed_call k ≡ true) back c.requires in
    let counted : all_slots stated.rack ≡ c.all_slots-places.result =
    omega (arith, c.all_slots-places.ensures, accepted_all_slots stated.rack c.self.invariant.accepted) in
    let served = served_held stated c.self.invariant formed c.total-served.result _ counted c.total-served.ensures in
    let unserved = unserved_held stated c.self.invariant formed c.total-unserved.result (omega arith) c.total-unserved.ensures in
    let first = subst (λ (k : WriteCall). takes c.args.sink.now (lines (first_line k.rack ∷ [])) c.put_first.new.sink) back c.put_first.ensures in
    let disks = subst (λ (k : WriteCall). takes c.put_first.new.sink (disk_lines 1 (plan_of k).copies) c.put_disks.new.sink) back c.put_disks.ensures in
    let sums = rw (served, unserved) at c.put_served.ensures in
    subst (λ (k : WriteCall). takes c.args.sink.now (text_of (plan_of k)) c.put_served.new.sink) c.self.view_is
    (rw (← text_runs (plan_of stated)) (more _ _ _ _ _ first (more _ _ _ _ _ disks (more _ _ _ _ _ c.put_pairs.ensures sums))))
