-- A number is read digit by digit: what is read and what follows give the number, and it is below that power of sixteen.
use Rattle.std.proofs.Common.{◌≡◌, ℕ, suc, ◌+◌, ◌-◌, ◌*◌, ◌^◌, ◌<◌, ◌≤◌, Ok, ap, ◌∙◌, add_assoc, add-one, pow-suc, arith}
use native.Mathlib.Nat.{pow-le-pow_right}
use Rattle.frames.specs.declared.digits.Fields.{Fields}
use Rattle.frames.specs.Digits.{digit_at, more_at, number_at}

-- so many digits of a number are read, from where the reader stood, and give this
pub record Read (from now : Fields) (digits count number : ℕ) : Type 0 where
  pub stands : now ≡ record from { at = from.at + count }
  pub value : more_at now.line.now now.at (digits - count) number ≡ number_at from.line.now from.at digits
  pub bound : number < 16 ^ count

pub read_none : (from : Fields) (digits : ℕ) → Read from from digits 0 0
unfolding number_at
read_none from digits =
    let none : from.at + 0 ≡ from.at = omega arith in
    let all : digits - 0 ≡ digits = omega arith in
    record { stands = rw none; value = rw all; bound = omega arith }

pub read_more : (from now next : Fields) (digits count number d : ℕ) → count < digits → Read from now digits count number
    → Ok d ≡ digit_at now.line.now now.at → d < 16 → next ≡ record now { at = now.at + 1 }
    → Read from next digits (count + 1) (number * 16 + d)
read_more from now next digits count number d h r e small after =
    let one : digits - count ≡ suc (digits - (count + 1)) = omega arith in
    let value = rw one at r.value in
    rw after
    (record {
      stands = ap (λ (f : Fields). record f { at = f.at + 1 }) r.stands ∙ ap (λ n. record from { at = n }) (add_assoc from.at count 1);
      value = rw (← e) at value;
      bound = rw add-one (omega (arith, pow-suc 16 count, r.bound));
    })

-- one digit more fits 32 bits
pub number_small : (from now : Fields) (digits count number : ℕ) → count < digits → digits ≤ 8 → Read from now digits count number → number < 2 ^ 28
number_small from now digits count number h few r =
    let most : 16 ^ count ≤ 16 ^ 7 = pow-le-pow_right {n = 16} (omega arith) {i = count} {j = 7} (omega arith) in
    omega (arith, r.bound)
