-- A number that is written in so many digits is read as that number, each digit in its turn; so a frame's text reads back.
use Rattle.std.proofs.Common.{◌≡◌, ℕ, zero, suc, ◌+◌, ◌*◌, ◌/◌, ◌%◌, ◌^◌, ◌<◌, List, [], ◌∷◌, ◌++◌, length, Some, Ok, sym, refl, ap, ◌∙◌, mod-eq_of_lt, mul_assoc, add-mul, zero-mul, arith}
use native.Mathlib.Nat.{pow-succ', pow-le-pow_right}
use lib.Arith.{mod-mul}
use Rattle.std.proofs.lemmas.List.{append_assoc, get_or_at, length_push}
use Rattle.std.proofs.lemmas.Bool.Decides.{nat_tests}
use Rattle.frames.specs.declared.frame.Frame.TheVariants.{Begin, PlanLine, Opening, Seal, Amount}
use Rattle.frames.specs.Digits.{digit_value, digit_at, more_at, number_at}
use Rattle.frames.specs.Writing.{character, digits, byte, word}
use Rattle.frames.specs.Laws.{TextsReadBack}

pub character-value : (d : ℕ) → d < 16 → digit_value (character d) ≡ Some d
character-value d h = grind (arith, nat_tests)

-- one digit more, in front of the others
power_split : (so_far count n : ℕ) → (so_far * 16 + n / 16 ^ count % 16) * 16 ^ count + n % 16 ^ count ≡ so_far * 16 ^ suc count + n % 16 ^ suc count
power_split so_far count n =
    let some : 0 < 16 ^ count = pow-le-pow_right {n = 16} (omega arith) {i = 0} {j = count} (omega arith) in
    rw (pow-succ' 16 count)
    (omega (arith, add-mul (so_far * 16) (n / 16 ^ count % 16) (16 ^ count), mul_assoc so_far 16 (16 ^ count), mod-mul n {m = 16} {c = 16 ^ count} (omega arith) some))

module _ (n : ℕ) (post : List ℕ) where
  more_written : (count : ℕ) (pre : List ℕ) (at so_far : ℕ) → length pre ≡ at
      → more_at (pre ++ (digits count n ++ post)) at count so_far ≡ Ok (so_far * 16 ^ count + n % 16 ^ count)
  more_written zero pre at so_far h = let e : so_far ≡ so_far * 1 + n % 1 = omega arith in ap Ok e
  more_written (suc count) pre at so_far h =
      let c : ℕ = character (n / 16 ^ count % 16) in
      let rest : List ℕ = digits count n ++ post in
      let read : digit_at (pre ++ (c ∷ rest)) at ≡ Ok (n / 16 ^ count % 16) =
      rw (get_or_at pre c rest 0 at h, character-value (n / 16 ^ count % 16) (omega arith)) in
      let long : length (pre ++ (c ∷ [])) ≡ at + 1 = omega (arith, length_push pre c) in
      rw read
      (ap (λ l. more_at l (at + 1) count (so_far * 16 + n / 16 ^ count % 16)) (sym (append_assoc pre (c ∷ []) rest))
      ∙ more_written count (pre ++ (c ∷ [])) (at + 1) (so_far * 16 + n / 16 ^ count % 16) long
      ∙ ap Ok (power_split so_far count n))

pub number-written : (pre : List ℕ) (count n : ℕ) (post : List ℕ) → n < 16 ^ count → number_at (pre ++ (digits count n ++ post)) (length pre) count ≡ Ok n
unfolding number_at
number-written pre count n post h =
    let e : 0 * 16 ^ count + n % 16 ^ count ≡ n = omega (arith, mod-eq_of_lt h, zero-mul (16 ^ count)) in
    more_written n post count pre (length pre) 0 refl ∙ ap Ok e

pub texts_read_back_lem : TextsReadBack
texts_read_back_lem (Begin rooms wire) h =
    rw (number-written (byte 0x01) 2 rooms (byte wire) h.0, number-written (byte 0x01 ++ byte rooms) 2 wire [] h.1)
texts_read_back_lem (PlanLine room set) h =
    rw (number-written (byte 0x02) 2 room (word set) h.0, number-written (byte 0x02 ++ byte room) 8 set [] h.1)
texts_read_back_lem (Opening base amount) h =
    rw (number-written (byte 0x03) 2 base (word amount) h.0, number-written (byte 0x03 ++ byte base) 8 amount [] h.1)
texts_read_back_lem Seal h = refl
texts_read_back_lem (Amount room base) h =
    rw (number-written (byte 0x20) 2 room (byte base) h.0, number-written (byte 0x20 ++ byte room) 2 base [] h.1)
