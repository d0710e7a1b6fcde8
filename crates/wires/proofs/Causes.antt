-- What the causes of a call tell where it is taken.
use Rattle.std.proofs.Common.{◌≡◌, ℕ, ◌<◌, Bool, true, false, not, leb, List, [], ◌∷◌, length, Some, Option, refl, arith}
use Rattle.std.proofs.lemmas.Bool.{ltb-true, and_parts}
use Rattle.std.proofs.lemmas.Bool.Decides.{nat_tests}
use Rattle.std.specs.Bool.{then_some}
use Rattle.lists.specs.Words.{any, all}
use Rattle.stock.specs.Stock.{over_limit}
use Rattle.wire.specs.Wire.{Wire}
use Rattle.wire.specs.Calls.{entry_waits, announcement_waits, amounts_small}
use Rattle.wire.specs.declared.announcement.Announcement.{Announcement}

-- what is given where a test holds
pub then-some : {X : Type 0} (t : Bool) (x y : X) (o : Option X) → o ≡ then_some t x → o ≡ Some y → (t ≡ true) × (y ≡ x)
then-some true x y o e f = (refl, cc)
then-some false x y o e f = let z : ◌≡◌ {A = ℕ} 0 1 = cc in absurd (omega arith)

pub entry_below : (w : Wire) (room : ℕ) → entry_waits w room ≡ true → w.taken room < length w.definitive
entry_below w room h = ltb-true (w.taken room) (length w.definitive) (and_parts _ _ h).0

pub announcement_below : (w : Wire) (room sender : ℕ) → announcement_waits w room sender ≡ true → w.received room sender < length (w.announced sender)
announcement_below w room sender h = ltb-true (w.received room sender) (length (w.announced sender)) h

-- an announcement is over the limit where its amounts are not small
pub over-small : (a : Announcement) → any over_limit a.result.amounts ≡ not (amounts_small a)
over-small a = over a.result.amounts
  where
    over : (xs : List ℕ) → any over_limit xs ≡ not (all (λ amount. leb amount 1000000000) xs)
    over [] = refl
    over (x ∷ xs) = let e = over xs in grind (arith, nat_tests)
