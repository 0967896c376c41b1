-- The arithmetic of the share: from the counts of full and other disks to kU ≤ S and 4kU² ≤ (S − kU)² (steps 11 and 12 of demand 3's argument).
use mathlib.Core.Path.{◌≡◌, sym, ap, ◌∙◌}
use Prim.Native.Nat.{ℕ, ◌+◌, ◌-◌, ◌*◌, ◌≤◌}
use native.Mathlib.Nat.{mul-add, add-mul, mul_comm, mul_assoc, mul_left_comm, mul_right_comm, mul-le-mul, mul-le-mul_left, mul-le-mul_right, le_trans, le_of_mul-le-mul_right, eq_of_mul-eq-mul_right, le_of_eq}
use native.Mathlib.Omega.{arith}
use Rattle.placement.proofs.Tests.{by_order}

square_sum : (a b : ℕ) → (a + b) * (a + b) ≡ a * a + 2 * (a * b) + b * b
square_sum a b = omega (arith, add-mul a b (a + b), mul-add a a b, mul-add b a b, mul_comm b a)

four_products_ordered : (a b : ℕ) → a ≤ b → 4 * (a * b) ≤ (a + b) * (a + b)
four_products_ordered a b h =
    omega (arith, square_sum a b, product, square, square_sum a (b - a))
  where
    total : a + (b - a) ≡ b
    total = omega arith

    product : a * b ≡ a * a + a * (b - a)
    product = ap (λ (n : ℕ). a * n) (sym total) ∙ mul-add a a (b - a)

    square : (a + (b - a)) * (a + (b - a)) ≡ b * b
    square = ap (λ (n : ℕ). n * n) total

-- Four times a product is at most the square of the sum.
four_products : (a b : ℕ) → 4 * (a * b) ≤ (a + b) * (a + b)
four_products a b =
    by_order a b (λ h. four_products_ordered a b (omega arith))
    (λ h. omega (arith, four_products_ordered b a h, mul_comm a b, square_sum a b, square_sum b a, mul_comm b a))

-- k, the smallest slots, with load l; S served, U unserved; `most` the largest amount left and `films` how many are left; `full` full disks
-- with `full_slots` and `full_load`, the other ones with `other_slots` and `other_load`.
module _
    (k l s u most films full full_slots full_load other_slots other_load : ℕ)
    (some_slots : 1 ≤ k)
    (unserved : u ≤ films * most)
    (few_left : films ≤ full)
    (enough : k * full ≤ full_slots)
    (serves : full_load + most * other_slots ≤ s)
    (loads : s + u ≤ full_load + other_load)
    (full_ratio : full_load * k ≡ l * full_slots)
    (other_ratio : other_load * k ≡ l * other_slots)
    (low : most * k ≤ l)
  where
    left_bound : k * u ≤ most * full_slots
    left_bound =
        le_trans (mul-le-mul_left k (le_trans unserved (mul-le-mul_right most few_left)))
        (omega (arith, mul_assoc k full most, mul-le-mul_right most enough, mul_comm most full_slots))

    -- A ratio bounds the amounts of as many slots by their load.
    ratio_bound : (slots load : ℕ) → load * k ≡ l * slots → most * slots ≤ load
    ratio_bound slots load e =
        le_of_mul-le-mul_right
        (omega (arith, mul_right_comm most slots k, mul-le-mul_right slots low, e))
        some_slots

    -- kU is at most S.
    pub share_bound : k * u ≤ s
    share_bound = omega (arith, left_bound, ratio_bound full_slots full_load full_ratio)

    spare : ℕ
    spare = full_load - most * full_slots

    room : ℕ
    room = other_load - most * other_slots

    cross : full_load * other_slots ≡ other_load * full_slots
    cross =
        eq_of_mul-eq-mul_right k some_slots _ _
        (mul_right_comm full_load other_slots k
        ∙ ap (λ (n : ℕ). n * other_slots) full_ratio
        ∙ mul_right_comm l full_slots other_slots
        ∙ ap (λ (n : ℕ). n * full_slots) (sym other_ratio)
        ∙ mul_right_comm other_load k full_slots)

    spare_room : spare * other_slots ≡ room * full_slots
    unfolding spare room
    spare_room =
        omega (
          arith,
          cross,
          add-mul spare (most * full_slots) other_slots,
          add-mul room (most * other_slots) full_slots,
          ap (λ (n : ℕ). n * other_slots) full_sum,
          ap (λ (n : ℕ). n * full_slots) other_sum,
          mul_right_comm most full_slots other_slots,
        )
      where
        full_sum : spare + most * full_slots ≡ full_load
        full_sum = omega (arith, ratio_bound full_slots full_load full_ratio)

        other_sum : room + most * other_slots ≡ other_load
        other_sum = omega (arith, ratio_bound other_slots other_load other_ratio)

    -- kU² is at most the spare load times the amounts on the other disks.
    unserved_square : k * (u * u) ≤ spare * (most * other_slots)
    unfolding room
    unserved_square =
        le_trans (le_of_eq (sym (mul_assoc k u u)))
        (le_trans (mul-le-mul left_bound fits)
        (le_of_eq
        (mul_assoc most full_slots room
        ∙ ap (λ (n : ℕ). most * n) (mul_comm full_slots room ∙ sym spare_room)
        ∙ mul_left_comm most spare other_slots)))
      where
        fits : u ≤ room
        fits = omega (arith, ratio_bound other_slots other_load other_ratio)

    -- 4kU² is at most (S − kU)².
    pub square_bound : 4 * (k * (u * u)) ≤ (s - k * u) * (s - k * u)
    unfolding spare
    square_bound =
        le_trans (mul-le-mul_left 4 unserved_square)
        (le_trans (four_products spare (most * other_slots)) (mul-le-mul gap gap))
      where
        gap : spare + most * other_slots ≤ s - k * u
        gap = omega (arith, left_bound, ratio_bound full_slots full_load full_ratio)
