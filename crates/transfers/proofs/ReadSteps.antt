-- Texts read one after the other: what a refusal of one, or its plan, says of both.
use mathlib.Core.Path.{◌≡◌, refl, sym, ap, subst, ◌∙◌}
use mathlib.Core.Bool.{Bool, true, false, ◌&&◌}
use mathlib.Core.List.{List}
use Prim.Native.Nat.{ℕ, ◌≤◌}
use borrow.Author.Tests.{leb-true}
use lib.ListN.{length, take}
use Rattle.refusal.specs.Verdict.{Verdict, given, refused, unless}
use Rattle.placement.specs.Rack.{Disk, most_disks, rack_accepted}
use Rattle.placement.specs.Packed.{disks_in}
use Rattle.placement.specs.Plan.{Plan}
use Rattle.placement.proofs.Conjunctions.{both_true}
use Rattle.placement.proofs.Racks.{accepted_disks}
use Rattle.placement.proofs.Formed.{plan_rack}
use Rattle.plan_text.specs.Text.{first_line}
use Rattle.plan_text.specs.ReadCall.{text_verdict}
use Rattle.plan_text.proofs.Verdicts.{verdict_well_formed}
use Rattle.transfer_schedule.specs.Stored.{stored_copies}
use Rattle.transfer_schedule.specs.Fits.{most_transfer_disks}
use Rattle.transfer_schedule.specs.Transfers.{followed_with, few_disks, same_numbers, racks_judged, plans}
use Rattle.transfers.specs.Keys.{stored_at, StoredText, StoredNew, StoredTexts}

-- The verdict is a value, and the sizes that it has.
abbrev pub IsGiven : Verdict (ℕ × ℕ) → Type 0
IsGiven (given sizes) = Unit {0}
IsGiven (refused number second) = ⊥

abbrev pub sizes_or : ℕ × ℕ → Verdict (ℕ × ℕ) → ℕ × ℕ
sizes_or other (given sizes) = sizes
sizes_or other (refused number second) = other

-- A text that was read: its plan, whose rack and stored copies stand in front.
pub record ReadAs (verdict : Verdict Plan) (rack keys : List ℕ) (disks copies : ℕ) : Type 0 where
  pub plan : Plan
  pub same : verdict ≡ given plan
  pub number : disks ≡ length plan.rack
  pub in_rack : disks_in (take disks rack) ≡ plan.rack
  pub room : copies ≤ length keys
  pub stored : length plan.rack ≤ most_transfer_disks → stored_at copies keys ≡ stored_copies plan

-- Sizes are those of a plan.
pub read_as : (v : Verdict Plan) (rack keys : List ℕ) (disks copies : ℕ) → StoredText v rack keys (given (disks, copies)) → ReadAs v rack keys disks copies
read_as (refused number second) rack keys disks copies s = absurd (subst IsGiven s tt)
read_as (given p) rack keys disks copies (in_rack, (n, e, room, stored)) =
    let first : disks ≡ length p.rack = ap (λ (w : Verdict (ℕ × ℕ)). (sizes_or (0, 0) w).0) e in
    let second : copies ≡ n = ap (λ (w : Verdict (ℕ × ℕ)). (sizes_or (0, 0) w).1) e in
    record {
      plan = p;
      same = refl;
      number = first;
      in_rack = ap (λ (k : ℕ). disks_in (take k rack)) first ∙ in_rack;
      room = subst (λ (k : ℕ). k ≤ length keys) (sym second) room;
      stored = λ few. ap (λ (k : ℕ). stored_at k keys) second ∙ stored few;
    }

-- A refusal is the text's own.
pub read_refusal : (v : Verdict Plan) (rack keys : List ℕ) (number second : ℕ) → StoredText v rack keys (refused number second) → v ≡ refused number second
read_refusal (refused n s) rack keys number second e = sym (ap (λ (w : Verdict (ℕ × ℕ)). refusal_in w) e)
  where
    refusal_in : Verdict (ℕ × ℕ) → Verdict Plan
    refusal_in (given sizes) = refused 0 0
    refusal_in (refused a b) = refused a b
read_refusal (given p) rack keys number second (in_rack, (n, e, room, stored)) = absurd (subst IsGiven (sym e) tt)

-- The plan of a text has at most 64 disks,
pub rack_most : (text : List ℕ) (p : Plan) → text_verdict text ≡ given p → length p.rack ≤ most_disks
rack_most text p e = (accepted_disks p.rack (plan_rack p (verdict_well_formed text p e))).1

-- and an accepted rack.
pub read_accepted : (text rack keys : List ℕ) (disks copies : ℕ) (r : ReadAs (text_verdict text) rack keys disks copies) → rack_accepted (disks_in (take disks rack)) ≡ true
read_accepted text rack keys disks copies r =
    ap rack_accepted r.in_rack ∙ plan_rack r.plan (verdict_well_formed text r.plan r.same)

module _ (p q : Plan) (m n : ℕ) (oldkeys newkeys : List ℕ) (old_room : m ≤ length oldkeys) (new_room : n ≤ length newkeys)
    (olds : length p.rack ≤ most_transfer_disks → stored_at m oldkeys ≡ stored_copies p)
    (news : length q.rack ≤ most_transfer_disks → stored_at n newkeys ≡ stored_copies q) where
  -- Two plans whose racks are judged: refused, or their copies stand in front.
  racks_stored : StoredTexts (racks_judged p.rack q.rack (given (plans p q))) oldkeys newkeys (racks_judged p.rack q.rack (given (m, n)))
  racks_stored = go (few_disks p.rack && few_disks q.rack) refl (same_numbers (first_line p.rack) (first_line q.rack))
    where
      go : (short : Bool) → (few_disks p.rack && few_disks q.rack) ≡ short → (same : Bool)
          → StoredTexts (unless short 14 0 (unless same 15 0 (given (plans p q)))) oldkeys newkeys (unless short 14 0 (unless same 15 0 (given (m, n))))
      go false e same = refl
      go true e false = refl
      go true e true =
          let both = both_true (few_disks p.rack) (few_disks q.rack) e in
          (m, n, refl, old_room, new_room, olds (leb-true (length p.rack) most_transfer_disks both.0), news (leb-true (length q.rack) most_transfer_disks both.1))

-- The new text behind an old one that was read.
pub both_stored :
    (vo vn : Verdict Plan) (rack oldkeys newkeys : List ℕ) (disks copies : ℕ) (r : ReadAs vo rack oldkeys disks copies) (w : Verdict (ℕ × ℕ))
    → StoredNew vn (disks_in (take disks rack)) copies newkeys w
    → StoredTexts (followed_with vo (λ p. followed_with vn (λ q. racks_judged p.rack q.rack (given (plans p q))))) oldkeys newkeys w
both_stored vo vn rack oldkeys newkeys disks copies r w s =
    subst (λ (v : Verdict Plan). StoredTexts (followed_with v (λ p. followed_with vn (λ q. racks_judged p.rack q.rack (given (plans p q))))) oldkeys newkeys w)
    (sym r.same) (go vn s)
  where
    go : (vn : Verdict Plan) → StoredNew vn (disks_in (take disks rack)) copies newkeys w
        → StoredTexts (followed_with vn (λ q. racks_judged r.plan.rack q.rack (given (plans r.plan q)))) oldkeys newkeys w
    go (refused n s) e = e
    go (given q) (n, e, room, stored) =
        subst (StoredTexts (racks_judged r.plan.rack q.rack (given (plans r.plan q))) oldkeys newkeys)
        (ap (λ (old : List Disk). racks_judged old q.rack (given (copies, n))) (sym r.in_rack) ∙ sym e)
        (racks_stored r.plan q copies n oldkeys newkeys r.room room r.stored stored)

-- An old text that is refused.
pub old_refused :
    (vo vn : Verdict Plan) (oldkeys newkeys : List ℕ) (number second : ℕ) → vo ≡ refused number second
    → StoredTexts (followed_with vo (λ p. followed_with vn (λ q. racks_judged p.rack q.rack (given (plans p q))))) oldkeys newkeys (refused number second)
old_refused vo vn oldkeys newkeys number second e =
    subst (λ (v : Verdict Plan). StoredTexts (followed_with v (λ p. followed_with vn (λ q. racks_judged p.rack q.rack (given (plans p q))))) oldkeys newkeys (refused number second))
    (sym e) refl

-- A new text that is refused.
pub new_refused : (vn : Verdict Plan) (old : List Disk) (copies : ℕ) (keys : List ℕ) (number second : ℕ) → vn ≡ refused number second → StoredNew vn old copies keys (refused number second)
new_refused vn old copies keys number second e = subst (λ (v : Verdict Plan). StoredNew v old copies keys (refused number second)) (sym e) refl

-- A new text that was read, with its rack judged.
pub new_judged :
    (vn : Verdict Plan) (rack keys : List ℕ) (disks n : ℕ) (r : ReadAs vn rack keys disks n) (old : List Disk) (copies : ℕ) (w : Verdict (ℕ × ℕ))
    → w ≡ racks_judged old (disks_in (take disks rack)) (given (copies, n)) → StoredNew vn old copies keys w
new_judged vn rack keys disks n r old copies w e =
    subst (λ (v : Verdict Plan). StoredNew v old copies keys w) (sym r.same)
    (n, e ∙ ap (λ (new : List Disk). racks_judged old new (given (copies, n))) r.in_rack, r.room, r.stored)

-- What is judged of two racks is so with another value behind it.
abbrev pub carried : {A : Type 0} → Verdict A → Verdict (Unit {0}) → Verdict A
carried following (given done) = following
carried following (refused number second) = refused number second

pub judged_with :
    {A : Type 0} (old new : List Disk) (following : Verdict A) (v : Verdict (Unit {0})) → v ≡ racks_judged old new (given (tt {0}))
    → carried following v ≡ racks_judged old new following
judged_with old new following v e =
    ap (carried following) e ∙ go (few_disks old && few_disks new) (same_numbers (first_line old) (first_line new))
  where
    go : (short same : Bool) → carried following (unless short 14 0 (unless same 15 0 (given (tt {0})))) ≡ unless short 14 0 (unless same 15 0 following)
    go false same = refl
    go true false = refl
    go true true = refl
