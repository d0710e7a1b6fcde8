-- What it says of a call that no cause holds, and the other way round.
use Rattle.std.proofs.Common.{◌≡◌, ℕ, ◌<◌, ◌≤◌, Bool, true, false, List, get_or, take, is_ok, Some, None, Ok, Err, Option, Result, refl, arith}
use Rattle.std.proofs.lemmas.List.{get_or-take}
use Rattle.std.proofs.lemmas.Bool.{ltb-false}
use Rattle.std.proofs.lemmas.Bool.Decides.{nat_tests}
use Rattle.lists.specs.Words.{any}
use Rattle.refusals.specs.Causes.{answer}
use Rattle.refusals.specs.declared.refusal.Refusal.{Refusal}
use Rattle.sets.specs.Sets.{size}
use Rattle.stock.specs.Stock.{Stock, Writing, write_cause, over_limit, base_cause, amount_cause}
use Rattle.stock.specs.BySet.{write_set_cause}
use Rattle.stock.specs.Openings.{opening_cause}
use Rattle.stock.proofs.Bounds.{small-get_or}

-- a call that is taken is not refused
never_both : {cause : Option Refusal} {e : Refusal} → cause ≡ None → cause ≡ Some e → ⊥
never_both n s = let z : ◌≡◌ {A = ℕ} 0 1 = cc in omega arith

-- a write within the bounds is taken while something is spare
pub write_taken_lem : (s : Stock) (base amount : ℕ) → 0 < s.spare → base < 32 → amount ≤ 1000000000 → write_cause s base amount ≡ None
write_taken_lem s base amount p b a = grind (arith, nat_tests)

-- and then answers so
pub write_ok : {B : Type 0} (holds : B → Stock) (old new : B) (base amount : ℕ) (r : Result Unit Refusal) → write_cause (holds old) base amount ≡ None → Writing holds old new base amount r → is_ok r ≡ true
write_ok holds old new base amount (Ok _) none w = refl
write_ok holds old new base amount (Err e) none w = absurd (never_both none w.why)

-- what is known of a base and an amount that no cause is found against
pub base_taken : (base : ℕ) (x : Unit {0}) → Ok x ≡ answer (base_cause base) tt → base ≤ 31
base_taken base x h = ltb-false 31 base (grind arith)

pub amount_taken : (base amount : ℕ) (x : Unit {0}) → Ok x ≡ answer (amount_cause base amount) tt → (base ≤ 31) × (amount ≤ 1000000000)
amount_taken base amount x h = (ltb-false 31 base (grind arith), ltb-false 1000000000 amount (grind arith))

-- what is known of a book that is opened: its buffer's length fits, and no opening amount is above the limit
pub opening_taken : (fits : Bool) (opening : List ℕ) → opening_cause fits opening ≡ None → (fits ≡ true) × (any over_limit opening ≡ false)
opening_taken fits opening none = (grind arith, grind arith)

module _ (s : Stock) (set : ℕ) (values : List ℕ) (taken : write_set_cause s set values ≡ None) where
  -- each of its amounts is within the limit
  pub set-small : (k : ℕ) → k < size set → get_or values k 0 ≤ 1000000000
  set-small k h =
      let none : any over_limit (take (size set) values) ≡ false = grind (arith, nat_tests) in
      rw (get_or-take (size set) values k 0 h) at (small-get_or (take (size set) values) k none)

  -- and there are at most eight
  pub set-few : size set ≤ 8
  set-few = grind (arith, nat_tests)
