-- `planner::judge::judge` meets its contract: the tests that led to each `return` give the verdict.
use mathlib.Core.Path.{◌≡◌, refl, sym, ap, ap₂, ◌∙◌}
use mathlib.Core.Bool.{true, false}
use mathlib.Core.List.{List}
use Prim.Native.Nat.{ℕ}
use lib.ListN.{length}
use Rattle.refusal.specs.Verdict.{Verdict, given, refused}
use Rattle.refusal.proofs.Verdicts.{and_then, unless_passes, unless_refuses}
use Rattle.std.proofs.lemmas.Result.{err_from_is_err_and}
use Rattle.placement.specs.Rack.{Disk}
use Rattle.placement.specs.Packed.{disks_in}
use Rattle.placement.specs.Records.{record_count, shape_judged, records_judged, list_judged}
use Rattle.placement.specs.Tables.{Tables, room_in, room_for}
use Rattle.placement.specs.Planning.{call, rack_judged, room_judged, verdict}
use Rattle.placement.proofs.Chains.{rack_then, shape_then}
use Rattle.planner.proofs.judge.judge.Goals as goal

module _ (rack : List Disk) (list : List ℕ) (t : Tables) where
  -- what comes behind the records, and behind the room
  abbrev from_records : Verdict (Unit {0})
  from_records = records_judged list (given tt)

  abbrev from_room : Verdict (Unit {0})
  from_room = room_judged rack (record_count list) t from_records

  rack_refused :
      (v : Verdict (Unit {0})) → v ≡ and_then v (shape_judged list from_room) → v ≡ rack_judged rack (given tt) → v ≡ verdict (call rack list) t
  rack_refused v settles e =
      settles ∙ ap (λ (w : Verdict (Unit {0})). and_then w (shape_judged list from_room)) e ∙ sym (rack_then rack (shape_judged list from_room))

  module _ (accepted : rack_judged {A = Unit {0}} rack (given tt) ≡ given tt) where
    shape_decides : shape_judged list from_room ≡ verdict (call rack list) t
    shape_decides =
        sym (rack_then rack (shape_judged list from_room) ∙ ap (λ (w : Verdict (Unit {0})). and_then w (shape_judged list from_room)) accepted)

    shape_refused : (v : Verdict (Unit {0})) → v ≡ and_then v from_room → v ≡ shape_judged list (given tt) → v ≡ verdict (call rack list) t
    shape_refused v settles e =
        settles ∙ ap (λ (w : Verdict (Unit {0})). and_then w from_room) e ∙ sym (shape_then list from_room) ∙ shape_decides

    room_refused :
        shape_judged {A = Unit {0}} list (given tt) ≡ given tt → room_for rack (record_count list) t ≡ false → refused 7 0 ≡ verdict (call rack list) t
    room_refused passed e =
        sym
        (ap (shape_judged list) (unless_refuses (room_for rack (record_count list) t) 7 0 from_records e)
        ∙ shape_then list (refused 7 0)
        ∙ ap (λ (w : Verdict (Unit {0})). and_then w (refused 7 0)) passed)
        ∙ shape_decides

    list_decides : room_for rack (record_count list) t ≡ true → list_judged list (given tt) ≡ verdict (call rack list) t
    list_decides e = sym (ap (shape_judged list) (unless_passes (room_for rack (record_count list) t) 7 0 from_records e)) ∙ shape_decides

-- tables of these lengths have the room of these lengths
room_by : (rack : List Disk) (n : ℕ) (t : Tables) {copies counts left : ℕ} → length t.copies ≡ copies → length t.counts ≡ counts
    → length t.left ≡ left → room_for rack n t ≡ room_in rack n copies counts left
room_by rack n t {copies} {counts} p q r = ap₂ (λ (a b : ℕ). room_in rack n a b (length t.left)) p q ∙ ap (room_in rack n copies counts) r

pub returns-in_err-judge_rack : goal.returns-in_err-judge_rack
returns-in_err-judge_rack c =
    let p = err_from_is_err_and c.from_residual.result c.from_residual.ensures.1 in
    rw (p.1, p.2)
    (λ t copies counts left.
    let a = c.args in
    rack_refused (disks_in a.rack.now) a.list.now t _ refl c.in_err-judge_rack.ensures)

pub returns-in_err-judge_shape : goal.returns-in_err-judge_shape
returns-in_err-judge_shape c =
    let p = err_from_is_err_and c.from_residual-in_err-judge_shape.result c.from_residual-in_err-judge_shape.ensures.1 in
    let accepted_rack : rack_judged {A = Unit {0}} (disks_in c.args.rack.now) (given tt) ≡ given tt = sym c.in_ok-judge_rack.ensures in
    rw (p.1, p.2)
    (λ t copies counts left.
    let a = c.args in
    shape_refused (disks_in a.rack.now) a.list.now t accepted_rack _ refl c.in_err-judge_shape.ensures)

pub returns-then-not-room : goal.returns-then-not-room
returns-then-not-room c =
    let accepted_rack : rack_judged {A = Unit {0}} (disks_in c.args.rack.now) (given tt) ≡ given tt = sym c.in_ok-judge_rack.ensures in
    λ t copies counts left.
    let a = c.args in
    room_refused (disks_in a.rack.now) a.list.now t accepted_rack (sym c.in_ok-judge_shape.ensures)
    (room_by (disks_in a.rack.now) (record_count a.list.now) t copies counts left ∙ sym c.room.ensures ∙ c.if-not-room.true)

pub returns : goal.returns
returns c =
    let accepted_rack : rack_judged {A = Unit {0}} (disks_in c.args.rack.now) (given tt) ≡ given tt = sym c.in_ok-judge_rack.ensures in
    λ t copies counts left.
    let a = c.args in
    c.judge_list.ensures
    ∙ list_decides (disks_in a.rack.now) a.list.now t accepted_rack
    (room_by (disks_in a.rack.now) (record_count a.list.now) t copies counts left ∙ sym c.room.ensures ∙ c.if-not-room.false)
