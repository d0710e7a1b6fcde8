-- The amounts of a whole set, written, read and packed.
use Rattle.std.specs.Prelude.{◌≡◌, ℕ, suc, ◌<◌, true, false, cond, not, List, [], ◌∷◌, take, None, Ok, Err, Option, Result, nat_lt, slice_index}
use Rattle.lists.specs.Words.{any, member}
use Rattle.refusals.specs.Causes.{first_cause}
use Rattle.refusals.specs.declared.refusal.Refusal.{Refusal}
use Rattle.refusals.specs.declared.refusal.Refusal.TheVariants.{SetSize, TooFewSpare, OverLimit}
use Rattle.sets.specs.Sets.{bases, size, sized}
use Rattle.stock.specs.Stock.{Amounts, Stock, Spends, Refused, over_limit, packed, laid}

-- why a set's amounts are not written: the set does not have one to eight bases, fewer entries are spare than it has
-- bases, or one of the amounts to be written, one for each base, is above the limit
abbrev pub write_set_cause : Stock → ℕ → List ℕ → Option Refusal
write_set_cause s set values = first_cause (
    (not (sized set), SetSize)
    ∷ (nat_lt s.spare (size set), TooFewSpare)
    ∷ (any over_limit (take (size set) values), OverLimit)
    ∷ [])

-- one write after another, as each leaves its book: to the bases in their order, the values from number k on
abbrev pub Writes : {B : Type 0} → (B → B → ℕ → ℕ → Type 0) → List ℕ → ℕ → List ℕ → B → B → Type 0
Writes leaves [] k values old new = new ≡ old
Writes {B} leaves (x ∷ xs) k values old new = (next : B) × leaves old next x (slice_index values k) × Writes leaves xs (suc k) values next new

module _ {B : Type 0} (holds : B → Stock) (leaves : B → B → ℕ → ℕ → Type 0) where
  -- what writing a set's amounts does to a book where it is taken: exactly these amounts are replaced, by one write a base, rising
  pub record SetWritten (old new : B) (set : ℕ) (values : List ℕ) : Type 0 where
    pub taken : write_set_cause (holds old) set values ≡ None
    pub amounts : (holds new).amounts ≡ laid set values (holds old).amounts
    pub spare : Spends (size set) (holds old).spare (holds new).spare
    pub writes : Writes leaves (bases set) 0 values old new

  -- what writing a set's amounts does to a book of any kind
  abbrev pub SetWriting : B → B → ℕ → List ℕ → Result Unit Refusal → Type 0
  SetWriting old new set values (Ok _) = SetWritten old new set values
  SetWriting old new set values (Err e) = Refused (write_set_cause (holds old) set values) e old new

-- the amounts of a set's bases; the others are left out
abbrev pub only : ℕ → Amounts → Amounts
only set amounts x = cond (member x (bases set)) (amounts x) 0

-- what it is to lay a list over amounts: base number k of the set gets the k-th value, and every other amount stays
pub record Lays (set : ℕ) (values : List ℕ) (amounts : Amounts) : Type 0 where
  pub given : (k : ℕ) → k < size set → laid set values amounts (slice_index (bases set) k) ≡ slice_index values k
  pub kept : (x : ℕ) → member x (bases set) ≡ false → laid set values amounts x ≡ amounts x

-- the law of laid amounts
abbrev pub LaidRight : Type 0
LaidRight = (set : ℕ) (values : List ℕ) (amounts : Amounts) → Lays set values amounts

-- the law of packed amounts: laid over any others they give the set's bases what they had
abbrev pub PackedBack : Type 0
PackedBack = (set : ℕ) (amounts others : Amounts) (x : ℕ) → member x (bases set) ≡ true → laid set (packed set amounts) others x ≡ amounts x
