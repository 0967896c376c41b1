-- What `write` promises, as one record: the definition of the answer and of the bytes, and the same in the documents' words.
use Rattle.std.specs.Prelude.{◌≡◌, ℕ, ◌+◌, ◌<◌, ◌≤◌, true, false, List, length, take, drop, ◌≢◌, slice_index_or}
use Rattle.refusal.specs.Verdict.{Numbers}
use Rattle.placement.specs.Rack.{Disk, disk, first_slots, first_load, disks_in_range, same_ratio, all_same_ratio, rack_accepted}
use Rattle.plan_text.specs.Text.{text_of}
use Rattle.plan_text.specs.Accepted.{Accepted}
use Rattle.plan_text.specs.WriteCall.{WriteCall, plan_of, room_stated, well_formed_call, writing, space_after}

-- The bytes of the plan's text.
abbrev pub text_held : WriteCall → List ℕ
text_held c = text_of (plan_of c)

-- Disk d + 1 is the first of another ratio than disk 1.
pub record OtherRatio (rack : List Disk) (d : ℕ) : Type 0 where
  pub inside : d < length rack
  pub before : all_same_ratio (first_slots rack) (first_load rack) (take d rack) ≡ true
  pub other : same_ratio (first_slots rack) (first_load rack) (slice_index_or rack d (disk 0 0)) ≡ false

-- `entry` and `exit` are the bytes of the lent space before and after the call; the answer's value is the text's length.
pub record WritePromise (call : WriteCall) (entry exit : List ℕ) (answer : Numbers ℕ) : Type 0 where
  -- the answer and the bytes are those of the definition
  pub numbers : answer ≡ writing call entry
  pub bytes : exit ≡ space_after call entry
  -- the first refusal that applies is given, and none otherwise
  pub refuses_rack : disks_in_range call.rack ≡ false → answer.refusal ≡ 12
  pub refuses_ratio : disks_in_range call.rack ≡ true → (d : ℕ) → OtherRatio call.rack d → (answer.refusal ≡ 13) × (answer.second ≡ d + 1)
  pub refuses_other : disks_in_range call.rack ≡ true → rack_accepted call.rack ≡ false → answer.refusal ≡ 13
  pub refuses_tables : rack_accepted call.rack ≡ true → room_stated call ≡ false → answer.refusal ≡ 7
  pub refuses_plan : rack_accepted call.rack ≡ true → room_stated call ≡ true → well_formed_call call ≡ false → answer.refusal ≡ 10
  pub refuses_space : rack_accepted call.rack ≡ true → room_stated call ≡ true → well_formed_call call ≡ true → length entry < length (text_held call) → answer.refusal ≡ 11
  pub writes : rack_accepted call.rack ≡ true → room_stated call ≡ true → well_formed_call call ≡ true → length (text_held call) ≤ length entry → answer.refusal ≡ 0
  -- a refusal gives zero for the rest and changes no byte; 13 alone has a second number
  pub no_second : (answer.refusal ≢ 13) → answer.second ≡ 0
  pub no_length : 1 ≤ answer.refusal → answer.values ≡ 0
  pub no_byte : 1 ≤ answer.refusal → exit ≡ entry
  -- without one the tables hold a well-formed plan, the first bytes are its text, and the bytes after the text are untouched
  pub formed : answer.refusal ≡ 0 → well_formed_call call ≡ true
  pub text_length : answer.refusal ≡ 0 → answer.values ≡ length (text_held call)
  pub text : answer.refusal ≡ 0 → take answer.values exit ≡ text_held call
  pub accepted : answer.refusal ≡ 0 → Accepted (take answer.values exit)
  pub after : answer.refusal ≡ 0 → drop answer.values exit ≡ drop answer.values entry
