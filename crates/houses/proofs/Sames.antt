-- What a refused call leaves unchanged.
use Rattle.agreement.specs.Calls.{Answer, refused, done, batch, settled, ran, amount_is, picked}
use Rattle.house.specs.Listing.{SameIfRefused}

-- what follows from being unchanged holds where the call was refused
pub same_along : (a : Answer) (P Q : Type 0) → (P → Q) → SameIfRefused a P → SameIfRefused a Q
same_along (refused e) P Q f s = f s
same_along done P Q f s = s
same_along (batch b) P Q f s = s
same_along (settled b ahead thrown) P Q f s = s
same_along (ran outcome step) P Q f s = s
same_along (amount_is n) P Q f s = s
same_along (picked o) P Q f s = s
