-- A plan's text read line by line. What is determined is compared: the disk's number, S and U.
use Rattle.std.specs.Prelude.{ℕ, suc, ◌+◌, Bool, true, cond, not, ◌&&◌, List, [], ◌∷◌, map}
use Rattle.placement.specs.Items.{Item, total}
use Rattle.placement.specs.Copies.{Copy, unmarked}
use Rattle.placement.specs.Rack.{Disk, disk, rack_of, sizes_in_range, most_disks, rack_accepted, all_equal}
use Rattle.placement.specs.Plan.{Plan, copies_accepted, left_accepted, most_left}
use Rattle.plan_text.specs.Ascii.{ascii}
use Rattle.plan_text.specs.Text.{space, closed, line_feed, mixed_head, disk_head, left_head, served_line}
use Rattle.plan_text.specs.Parse.{Parse, parsed, unparsed, next, or_else, byte, literal, number, pairs, copies}

-- What was read to the end of the text, or the number of lines before the refused one.
pub data Reading (A : Type 0) : Type 0 where
  whole : A → Reading A
  refused_after : ℕ → Reading A

-- A line: its body, its line feed, and the test of what it says.
abbrev pub line : {A : Type 0} → (List ℕ → Parse A) → (A → Bool) → List ℕ → Parse A
line body test text =
    next (body text) (λ a t₁. next (byte line_feed t₁) (λ u t₂. cond (test a) (parsed a t₂) unparsed))

-- The rest's value joined to a line's, or the rest's refusal one line further.
abbrev pub joined : {B C : Type 0} → (B → C) → Reading B → Reading C
joined join (whole b) = whole (join b)
joined join (refused_after n) = refused_after (suc n)

-- A line, then the rest of the text.
abbrev pub line_then : {A B C : Type 0} → (A → B → C) → Parse A → (A → List ℕ → Reading B) → Reading C
line_then join (parsed a after) rest = joined (join a) (rest a after)
line_then join unparsed rest = refused_after 0

-- The three numbers of `(rack N k L)`.
pub record Sizes : Type 0 where
  pub disks : ℕ
  pub slots : ℕ
  pub streams : ℕ

-- What a text says behind its first line.
pub record Tail : Type 0 where
  pub copies : List (List Copy)
  pub left : List Item

-- N, k and L are in range.
abbrev pub sizes_accepted : Sizes → Bool
sizes_accepted z = sizes_in_range z.disks z.slots z.streams

-- The rack that they say.
abbrev pub rack_in : Sizes → List Disk
rack_in z = rack_of z.disks z.slots z.streams

-- `(rack N k L)`.
abbrev pub rack_body : (ℕ → ℕ) → List ℕ → Parse Sizes
rack_body cap text =
    next (literal (ascii "(rack ") text) (λ u₁ t₁.
    next (number cap t₁) (λ n t₂.
    next (byte space t₂) (λ u₂ t₃.
    next (number cap t₃) (λ k t₄.
    next (byte space t₄) (λ u₃ t₅.
    next (number cap t₅) (λ l t₆.
    next (byte closed t₆) (λ u₄ t₇. parsed (record { disks = n; slots = k; streams = l }) t₇)))))))

-- A line's head, then its pairs and closing bracket.
abbrev pub pairs_body : (ℕ → ℕ) → List ℕ → ℕ → List ℕ → Parse (List Item)
pairs_body cap head most text = next (literal head text) (λ u t. pairs cap most t)

-- A disk line's head, then its copies and closing bracket.
abbrev pub copies_body : (ℕ → ℕ) → List ℕ → ℕ → List ℕ → Parse (List Copy)
copies_body cap head most text = next (literal head text) (λ u t. copies cap most t)

-- The disk of a pair, slots then load.
abbrev pub item_disk : Item → Disk
item_disk x = disk x.film x.amount

-- The pairs of a mixed line are those of a rack that is accepted and whose entries differ.
abbrev pub mixed_accepted : List Item → Bool
mixed_accepted xs = rack_accepted (map item_disk xs) && not (all_equal (map item_disk xs))

-- The rack of a line `(rack N k L)`.
abbrev pub equal_read : (ℕ → ℕ) → List ℕ → Parse (List Disk)
equal_read cap text = next (line (rack_body cap) sizes_accepted text) (λ z t. parsed (rack_in z) t)

-- The rack of a line `(mixed (k L) (k L))`.
abbrev pub mixed_read : (ℕ → ℕ) → List ℕ → Parse (List Disk)
mixed_read cap text = next (line (pairs_body cap mixed_head most_disks) mixed_accepted text) (λ xs t. parsed (map item_disk xs) t)

-- The rack of the first line, in either form.
abbrev pub rack_read : (ℕ → ℕ) → List ℕ → Parse (List Disk)
rack_read cap text = or_else (equal_read cap text) (mixed_read cap text)

-- "Bytes after the last line count as the next line."
abbrev pub text_end : List ℕ → Reading (Unit {0})
text_end [] = whole tt
text_end (b ∷ bs) = refused_after 0

-- The served line, with S and U as they must be, and the end.
abbrev pub read_served : ℕ → ℕ → List ℕ → Reading (Unit {0})
read_served s u text = line_then (λ a b. tt) (line (literal (served_line s u)) (λ a. true) text) (λ a. text_end)

-- The left line and what follows, where the disks serve s.
abbrev pub read_left : (ℕ → ℕ) → ℕ → List ℕ → Reading Tail
read_left cap s text =
    line_then (λ left u. record { copies = []; left = left })
    (line (pairs_body cap left_head most_left) left_accepted text) (λ left. read_served s (total left))

-- One more disk in front.
abbrev pub with_disk : List Copy → Tail → Tail
with_disk mine tail = record { copies = mine ∷ tail.copies; left = tail.left }

-- The lines of disks, numbered from `number` on, and what follows, where the disks before serve s.
abbrev pub read_disks : (ℕ → ℕ) → List Disk → (number s : ℕ) → List ℕ → Reading Tail
read_disks cap [] number s text = read_left cap s text
read_disks cap (d ∷ ds) number s text =
    line_then with_disk (line (copies_body cap (disk_head number) d.slots) (copies_accepted d) text)
    (λ mine. read_disks cap ds (suc number) (s + total (map unmarked mine)))

-- The rack and what stands behind its line.
abbrev pub with_rack : List Disk → Tail → Plan
with_rack rack tail = record { rack = rack; copies = tail.copies; left = tail.left }

-- The whole text.
abbrev pub plan_read_with : (ℕ → ℕ) → List ℕ → Reading Plan
plan_read_with cap text = line_then with_rack (rack_read cap text) (λ rack. read_disks cap rack 1 0)

-- With numbers of any size.
unfoldable pub plan_read : List ℕ → Reading Plan
plan_read text = plan_read_with (λ n. n) text
