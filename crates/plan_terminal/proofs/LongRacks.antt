-- Planning on the terminal for a rack of more than 64 disks is refused 12, so that its first 65 disks stand for it.
use mathlib.Core.Path.{◌≡◌, sym, ap, ◌∙◌}
use mathlib.Core.List.{List}
use Prim.Native.Nat.{ℕ}
use lib.ListN.{take}
use Rattle.refusal.specs.Verdict.{Numbers}
use Rattle.placement.specs.Rack.{Disk}
use Rattle.placement.specs.Tables.{Tables}
use Rattle.placement.specs.Planning.{Call, call, PlanSums, answer_for, tables_for}
use Rattle.placement.proofs.LongRacks.{long_refused, by_cut}
use Rattle.plan_terminal.specs.Terminal.{terminal_verdict, terminal_planning, terminal_tables_after}
use Rattle.plan_terminal.specs.TerminalPromise.{TerminalPromise}
use Rattle.plan_terminal.proofs.TerminalPromise.{terminal_promise}

module _ (rack : List Disk) (list : List ℕ) (t : Tables) where
  abbrev cut : Call
  cut = call (take 65 rack) list

  abbrev asked : Call
  asked = call rack list

  -- Both are refused alike where the rack is long.
  same_numbers : terminal_planning cut t ≡ terminal_planning asked t
  unfolding terminal_planning
  same_numbers =
      by_cut rack (λ e. ap (λ (r : List Disk). answer_for (call r list) (terminal_verdict (call r list) t)) e)
      (λ long short. ap (answer_for cut) (long_refused (take 65 rack) _ short) ∙ sym (ap (answer_for asked) (long_refused rack _ long)))

  same_tables : terminal_tables_after cut t ≡ terminal_tables_after asked t
  unfolding terminal_tables_after
  same_tables =
      by_cut rack (λ e. ap (λ (r : List Disk). tables_for (call r list) t (terminal_verdict (call r list) t)) e)
      (λ long short. ap (tables_for cut t) (long_refused (take 65 rack) _ short) ∙ sym (ap (tables_for asked t) (long_refused rack _ long)))

  -- So its promise for them is its promise for the rack.
  pub cut_terminal : {exit : Tables} {answer : Numbers PlanSums} → TerminalPromise cut t exit answer → TerminalPromise asked t exit answer
  cut_terminal promise = terminal_promise asked t (promise.numbers ∙ same_numbers) (promise.tables ∙ same_tables)
