-- What holds of accepted records and of the plan made of them, and the largest numbers that planning meets.
use Rattle.std.specs.Prelude.{ℕ, ◌+◌, ◌*◌, ◌≤◌, ◌≡◌, true, cond, List, [], ◌∷◌, ◌++◌, leb, length}
use Rattle.placement.specs.Items.{Item, total, list_of}
use Rattle.placement.specs.Rack.{Disk, all_loads, rack_accepted, most_records, most_film, most_plan_film, most_demand}
use Rattle.placement.specs.Window.{Window, within, openings, slidings, window_of}
use Rattle.placement.specs.Disk.{list_after}
use Rattle.placement.specs.FillingOrder.{filling}
use Rattle.placement.specs.Records.{record_count}
use Rattle.placement.specs.Plan.{well_formed, served_of, unserved_of}
use Rattle.placement.specs.Planning.{Call, records_in, plan_in}
use Rattle.placement.specs.Promise.{Distinct}

-- Every member of a list has a property.
abbrev pub Each : {A : Type 0} → (A → Type 0) → List A → Type 0
Each P [] = Unit {0}
Each P (x ∷ xs) = P x × Each P xs

-- An accepted record: film 1 to 49,999, demand at most 1,000,000.
pub record Demanded (x : Item) : Type 0 where
  pub film_least : 1 ≤ x.film
  pub film_most : x.film ≤ most_film
  pub amount_most : x.amount ≤ most_demand

-- The records of a list that planning does not refuse.
pub record RecordsAccepted (records : List Item) : Type 0 where
  pub distinct : Distinct records
  pub demanded : Each Demanded records

-- An entry of the method's list or of a plan: a film that a plan may hold, a number up to `most`.
pub record Entry (most : ℕ) (x : Item) : Type 0 where
  pub film_least : 1 ≤ x.film
  pub film_most : x.film ≤ most_plan_film
  pub amount_most : x.amount ≤ most

-- The windows of a series whose films are summed: up to the first that reaches the load.
abbrev pub summed : ℕ → List Item → List Window → List Window
summed load list [] = []
summed load list (w ∷ ws) =
    let rest = summed load list ws in
    w ∷ cond (leb load (total (within w list))) [] rest

-- The sum of a window is at most the load less 1, plus the largest demand.
abbrev pub SumBounded : ℕ → List Item → Window → Type 0
SumBounded load list w = total (within w list) + 1 ≤ load + most_demand

-- So is that of every opening or sliding window that is summed for a disk, and of the one that is its window.
abbrev pub WindowsBounded : List Disk → List Item → Type 0
WindowsBounded [] list = Unit {0}
WindowsBounded (d ∷ ds) list =
    Each (SumBounded d.load list) (summed d.load list (openings d.slots (length list) ++ slidings d.slots (length list)))
    × SumBounded d.load list (window_of d list)
    × WindowsBounded ds (list_after d list)

-- The largest numbers of a plan with S served and U unserved.
pub record Bounded (disks : List Disk) (records : List Item) (s u : ℕ) : Type 0 where
  pub served : s ≤ all_loads disks
  pub unserved : u ≤ total records
  pub demand : total records ≤ most_demand * length records
  pub windows : WindowsBounded (filling disks) (list_of records)

-- What holds of a call that planning does not refuse: its rack, records and plan are well formed, and its numbers are bounded.
pub record CallWellFormed (c : Call) : Type 0 where
  pub rack : rack_accepted c.rack ≡ true
  pub records_most : record_count c.list ≤ most_records
  pub accepted : RecordsAccepted (records_in c)
  pub plan : well_formed (plan_in c) ≡ true
  -- a place for each record has room for what is left
  pub left_most : length (plan_in c).left ≤ record_count c.list
  pub bounds : Bounded c.rack (records_in c) (served_of (plan_in c)) (unserved_of (plan_in c))
  -- S, total demand and U, in numbers
  pub served_most : served_of (plan_in c) ≤ 4194240
  pub demand_most : total (records_in c) ≤ 1024000000
  pub unserved_most : unserved_of (plan_in c) ≤ 1024000000
