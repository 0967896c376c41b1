-- Reading into as many places as entries are lent, 65 at most, with others behind them: what it says of those places it says of every list of
-- that many entries.
use mathlib.Core.Path.{◌≡◌, refl, sym, ap, ap₂, ◌∙◌, subst}
use mathlib.Core.Bool.{Bool, true, false}
use mathlib.Core.List.{List, ◌++◌, append_assoc, map-append}
use Prim.Native.Nat.{ℕ, ◌≤◌, min}
use native.Mathlib.Omega.{arith}
use borrow.Author.Tests.{leb-true, leb-false, le-leb, lt-leb}
use lib.Dec.{leb}
use lib.ListN.{length, take, drop, replicate, length-map}
use lib.Seq.{take_all, take_at, take-nil, length-take-le}
use Rattle.refusal.specs.Verdict.{Verdict, given, refused, unless, Numbers}
use Rattle.placement.specs.Rack.{Disk, most_disks}
use Rattle.placement.specs.Packed.{disk_in, disks_in}
use Rattle.placement.specs.Tables.{Tables, room_for}
use Rattle.placement.specs.Plan.{Plan}
use Rattle.placement.proofs.Racks.{accepted_disks}
use Rattle.placement.proofs.Formed.{plan_rack}
use Rattle.plan_text.specs.ReadCall.{Told, answer_to, text_verdict, with_tables, rack_given, tables_given, holding_rack, reading, rack_after_reading, tables_after_reading}
use Rattle.plan_text.proofs.Verdicts.{verdict_well_formed}
use Rattle.reader.specs.Promise.{ReadPromise}
use Rattle.reader.proofs.Promises.{read_given, read_short, read_declined}
use Rattle.jugfjord.specs.ReadInto.{ReadInto}

-- The disks that an answer tells, of a list of entries.
abbrev pub told_disks : Numbers Told → List Disk → List Disk
told_disks answer rack = take answer.values.disks rack

module _
    (text : List ℕ) (entries : ℕ) (places : List Disk) (few : length places ≡ min entries 65) {entry exit : Tables} {rack_exit : List Disk}
    {answer : Numbers Told} (rest : List Disk) (promise : ReadPromise text places entry rack_exit exit answer)
  where
    -- What the definitions give for the places.
    numbers_are : (w : Verdict Plan) → with_tables places entry (text_verdict text) ≡ w → answer ≡ answer_to w
    unfolding reading
    numbers_are w e = promise.numbers ∙ ap answer_to e

    rack_is : (w : Verdict Plan) → with_tables places entry (text_verdict text) ≡ w → rack_exit ≡ rack_given places w
    unfolding rack_after_reading
    rack_is w e = promise.rack ∙ ap (rack_given places) e

    tables_are : (w : Verdict Plan) → with_tables places entry (text_verdict text) ≡ w → exit ≡ tables_given entry w
    unfolding tables_after_reading
    tables_are w e = promise.tables ∙ ap (tables_given entry) e

    module _ (lent : List Disk) (many : length lent ≡ entries) where
      -- After a refusal no disk is told, and the entries stay.
      kept_rack : (number second : ℕ) → answer ≡ answer_to (refused number second) → lent ≡ take entries (told_disks answer (rack_exit ++ rest)) ++ drop (length (told_disks answer (rack_exit ++ rest))) lent
      kept_rack number second is =
          sym (ap (λ (ds : List Disk). take entries ds ++ drop (length ds) lent) (ap (λ (a : Numbers Told). told_disks a (rack_exit ++ rest)) is) ∙ ap (λ (ds : List Disk). ds ++ lent) (take-nil entries))

      refused_into :
          {number second : ℕ} → with_tables places entry (text_verdict text) ≡ refused number second → ReadPromise text lent entry lent entry answer
          → ReadPromise text lent entry (take entries (told_disks answer (rack_exit ++ rest)) ++ drop (length (told_disks answer (rack_exit ++ rest))) lent) exit answer
      refused_into {number} {second} e kept =
          subst (λ (rack : List Disk). ReadPromise text lent entry rack exit answer) (kept_rack number second (numbers_are _ e))
          (subst (λ (t : Tables). ReadPromise text lent entry lent t answer) (sym (tables_are _ e)) kept)

      -- A plan that is read.
      module _ (p : Plan) (e : text_verdict text ≡ given p) where
        disks_few : length p.rack ≤ most_disks
        disks_few = (accepted_disks p.rack (plan_rack p (verdict_well_formed text p e))).1

        by_room :
            (enough room : Bool) → leb (length p.rack) (length places) ≡ enough → room_for p.rack (length p.left) entry ≡ room
            → ReadPromise text lent entry (take entries (told_disks answer (rack_exit ++ rest)) ++ drop (length (told_disks answer (rack_exit ++ rest))) lent) exit answer
        by_room true true in_places in_tables =
            subst (λ (rack : List Disk). ReadPromise text lent entry rack exit answer)
            (sym (ap (λ (ds : List Disk). take entries ds ++ drop (length ds) lent) told ∙ ap (λ (ds : List Disk). ds ++ drop (length p.rack) lent) (take_all entries p.rack (omega (arith, fits, few)))))
            (read_given text p e answer (numbers_are _ verdict) lent entry (holding_rack p lent) exit
            (le-leb (length p.rack) (length lent) (omega (arith, fits, few, many))) in_tables refl (tables_are _ verdict))
          where
            fits : length p.rack ≤ length places
            fits = leb-true (length p.rack) (length places) in_places

            verdict : with_tables places entry (text_verdict text) ≡ given p
            verdict = ap (with_tables places entry) e ∙ rw (in_places, in_tables) refl

            told : told_disks answer (rack_exit ++ rest) ≡ p.rack
            told =
                ap₂ (λ (a : Numbers Told) (rack : List Disk). told_disks a (rack ++ rest)) (numbers_are _ verdict) (rack_is _ verdict)
                ∙ ap (take (length p.rack)) (append_assoc p.rack (drop (length p.rack) places) rest)
                ∙ take_at p.rack (drop (length p.rack) places ++ rest) (length p.rack) refl
        by_room true false in_places in_tables =
            refused_into verdict (read_short text p e (answer_to (given p)) refl lent entry answer short (numbers_are _ verdict))
          where
            verdict : with_tables places entry (text_verdict text) ≡ refused 7 0
            verdict = ap (with_tables places entry) e ∙ rw (in_places, in_tables) refl

            short : with_tables lent entry (given p) ≡ refused 7 0
            short = rw (in_tables) (go (leb (length p.rack) (length lent)))
              where
                go : (b : Bool) → unless {A = Plan} b 7 0 (refused 7 0) ≡ refused 7 0
                go true = refl
                go false = refl
        by_room false room in_places in_tables =
            refused_into verdict (read_short text p e (answer_to (given p)) refl lent entry answer short (numbers_are _ verdict))
          where
            verdict : with_tables places entry (text_verdict text) ≡ refused 7 0
            verdict = ap (with_tables places entry) e ∙ rw in_places refl

            short : with_tables lent entry (given p) ≡ refused 7 0
            short = rw (lt-leb (length p.rack) (length lent) (omega (arith, leb-false (length p.rack) (length places) in_places, few, many, disks_few))) refl

      -- It keeps its promise for the lent entries.
      promised : ReadPromise text lent entry (take entries (told_disks answer (rack_exit ++ rest)) ++ drop (length (told_disks answer (rack_exit ++ rest))) lent) exit answer
      promised = go (text_verdict text) refl
        where
          go : (v : Verdict Plan) → text_verdict text ≡ v
              → ReadPromise text lent entry (take entries (told_disks answer (rack_exit ++ rest)) ++ drop (length (told_disks answer (rack_exit ++ rest))) lent) exit answer
          go (given p) e = by_room p e (leb (length p.rack) (length places)) (room_for p.rack (length p.left) entry) refl refl
          go (refused number second) e =
              let verdict : with_tables places entry (text_verdict text) ≡ refused number second = ap (with_tables places entry) e in
              refused_into verdict (read_declined text number second e answer (numbers_are _ verdict) lent entry)

    read_into : ReadInto text entries entry exit answer (told_disks answer (rack_exit ++ rest))
    read_into = promised

-- The same for the first n places of an array of 65 zeros, and for equal numbers.
pub array_into :
    (text : List ℕ) (entries n : ℕ) (last : List ℕ) {entry exit : Tables} {answer fields : Numbers Told} → n ≡ min entries 65 → fields ≡ answer
    → ReadPromise text (disks_in (take n (replicate 65 0))) entry (disks_in last) exit answer
    → ReadInto text entries entry exit fields (told_disks fields (disks_in (last ++ drop n (replicate 65 0))))
array_into text entries n last {entry} {exit} {answer} {fields} count same promise =
    subst (λ (a : Numbers Told). ReadInto text entries entry exit a (told_disks a (disks_in (last ++ drop n (replicate 65 0))))) (sym same)
    (subst (λ (disks : List Disk). ReadInto text entries entry exit answer (told_disks answer disks)) (sym (map-append disk_in last (drop n (replicate 65 0))))
    (read_into text entries (disks_in (take n (replicate 65 0))) places (disks_in (drop n (replicate 65 0))) promise))
  where
    places : length (disks_in (take n (replicate 65 0))) ≡ min entries 65
    places = length-map (take n (replicate 65 0)) disk_in ∙ length-take-le n (replicate 65 0) (omega (arith, count)) ∙ count
