-- What a stock book means: the amount of each base, in grams, and a number of spare entries.
use Rattle.std.specs.Prelude.{◌≡◌, ℕ, ◌+◌, ◌-◌, ◌<◌, ◌≤◌, Bool, cond, ◌||◌, List, [], ◌∷◌, ◌++◌, map, length, replicate, Some, None, Ok, Err, Option, Result, ◌==◌, nat_lt, slice_index}
use Rattle.lists.specs.Words.{member, place, updated}
use Rattle.refusals.specs.Causes.{first_cause, answer}
use Rattle.refusals.specs.declared.refusal.Refusal.{Refusal}
use Rattle.refusals.specs.declared.refusal.Refusal.TheVariants.{TooFewSpare, OverLimit}
use Rattle.sets.specs.Sets.{bases}

-- the amount of each base; only 0 to 31 are bases
abbrev pub Amounts : Type 0
Amounts = ℕ → ℕ

-- the amounts that a list gives the bases in their order; what is no base has none
abbrev pub amounts_in : List ℕ → Amounts
amounts_in values x = cond (nat_lt x 32) (slice_index values x) 0

-- an amount is above the limit of 1,000,000,000
abbrev pub over_limit : ℕ → Bool
over_limit amount = nat_lt 1000000000 amount

-- a book's meaning
pub record Stock : Type 0 where
  pub amounts : Amounts
  pub spare : ℕ

-- every amount is within the limit, and what is no base has none
pub record Sound (s : Stock) : Type 0 where
  pub small : (x : ℕ) → s.amounts x ≤ 1000000000
  pub none_above : (x : ℕ) → 31 < x → s.amounts x ≡ 0

-- why a number is no base
abbrev pub base_cause : ℕ → Option Refusal
base_cause base = first_cause ((nat_lt 31 base, OverLimit) ∷ [])

-- why a base has no such amount: it is no base, or the amount is above the limit
abbrev pub amount_cause : ℕ → ℕ → Option Refusal
amount_cause base amount = first_cause ((nat_lt 31 base || over_limit amount, OverLimit) ∷ [])

-- the answer to the question for an amount
abbrev pub amount_of : Stock → ℕ → Result ℕ Refusal
amount_of s base = answer (base_cause base) (s.amounts base)

-- why a write is refused
abbrev pub write_cause : Stock → ℕ → ℕ → Option Refusal
write_cause s base amount = first_cause (((s.spare == 0), TooFewSpare) ∷ (nat_lt 31 base || over_limit amount, OverLimit) ∷ [])

-- a number of writes takes at most as many spare entries
pub record Spends (writes old new : ℕ) : Type 0 where
  pub at_most : old ≤ new + writes
  pub no_more : new ≤ old

-- what a write that is taken does: one amount is replaced, and the others stay
pub record Written (s t : Stock) (base amount : ℕ) : Type 0 where
  pub taken : write_cause s base amount ≡ None
  pub amounts : t.amounts ≡ updated s.amounts base amount
  pub spare : Spends 1 s.spare t.spare

-- a refused call: the cause that it gives is the right one, and nothing changed
pub record Refused {B : Type 0} (cause : Option Refusal) (given : Refusal) (old new : B) : Type 0 where
  pub why : cause ≡ Some given
  pub same : new ≡ old

-- what a write does to a book of any kind, whose meaning is what it holds
abbrev pub Writing : {B : Type 0} → (B → Stock) → B → B → ℕ → ℕ → Result Unit Refusal → Type 0
Writing holds old new base amount (Ok _) = Written (holds old) (holds new) base amount
Writing holds old new base amount (Err e) = Refused (write_cause (holds old) base amount) e old new

-- the amounts of a set's bases, rising, as eight with 0 after them
abbrev pub packed : ℕ → Amounts → List ℕ
packed set amounts = map amounts (bases set) ++ replicate (8 - length (bases set)) 0

-- amounts with those of a set's bases replaced by a packed list's
abbrev pub laid : ℕ → List ℕ → Amounts → Amounts
laid set values amounts x = cond (member x (bases set)) (slice_index values (place x (bases set))) (amounts x)
