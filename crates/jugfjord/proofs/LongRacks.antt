-- Writing for a rack of more than 64 disks is refused 12, so that its first 65 disks stand for it.
use mathlib.Core.Path.{◌≡◌, refl, sym, ap, ◌∙◌}
use mathlib.Core.List.{List}
use Prim.Native.Nat.{ℕ}
use lib.ListN.{take}
use Rattle.refusal.specs.Verdict.{Numbers}
use Rattle.placement.specs.Rack.{Disk}
use Rattle.placement.specs.Tables.{Tables}
use Rattle.placement.proofs.LongRacks.{long_refused, by_cut}
use Rattle.plan_text.specs.WriteCall.{WriteCall, write_call, write_verdict, write_answer, space_given, writing, space_after}
use Rattle.writer.specs.WritePromise.{WritePromise}
use Rattle.writer.proofs.Promises.{promise_at}

module _ (rack : List Disk) (t : Tables) (left : ℕ) (room : List ℕ) where
  abbrev cut : WriteCall
  cut = write_call (take 65 rack) t left

  abbrev asked : WriteCall
  asked = write_call rack t left

  -- The answer and the bytes are the same for them,
  same_answer : write_answer (write_verdict cut room) ≡ write_answer (write_verdict asked room)
  same_answer =
      by_cut rack (λ e. ap (λ (r : List Disk). write_answer (write_verdict (write_call r t left) room)) e)
      (λ long short. ap write_answer (long_refused (take 65 rack) _ short) ∙ sym (ap write_answer (long_refused rack _ long)))

  same_bytes : space_given cut room (write_verdict cut room) ≡ space_given asked room (write_verdict asked room)
  same_bytes =
      by_cut rack (λ e. ap (λ (r : List Disk). space_given (write_call r t left) room (write_verdict (write_call r t left) room)) e)
      (λ long short. ap (space_given cut room) (long_refused (take 65 rack) _ short) ∙ sym (ap (space_given asked room) (long_refused rack _ long)))

  -- and so is the promise.
  pub cut_written : {exit : List ℕ} {answer : Numbers ℕ} → WritePromise cut room exit answer → WritePromise asked room exit answer
  unfolding writing space_after
  cut_written {exit} {answer} promise = promise_at refl (promise.numbers ∙ same_answer) (promise.bytes ∙ same_bytes)
