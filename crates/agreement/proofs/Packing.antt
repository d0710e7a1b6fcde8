-- Amounts packed for a set's bases and read again: each base's amount is the one packed.
use Rattle.std.proofs.Common.{◌≡◌, ℕ, zero, suc, ◌-◌, Bool, true, false, eqb, leb, List, [], ◌∷◌, map, length, get_or, replicate, sym, refl, ap, ◌∙◌, inl, inr, arith}
use lib.ListN.{length-map}
use Rattle.std.proofs.lemmas.List.{get_or_append_left}
use Rattle.std.proofs.lemmas.Bool.{cases_Bool, eqb-true, leb-true, le-leb, both_ways}
use Rattle.lists.specs.Words.{member, all, place}
use Rattle.lists.proofs.Members.{all_append, all_get_d}
use Rattle.lists.proofs.Places.{place_short}
use Rattle.sets.specs.Sets.{bases}
use Rattle.stock.specs.Stock.{Amounts, packed, laid}
use Rattle.order.proofs.Runs.{Small}
use Rattle.agreement.proofs.Fits.{unpacked}

map-place : (m : Amounts) (l : List ℕ) (x : ℕ) → member x l ≡ true → get_or (map m l) (place x l) 0 ≡ m x
map-place m [] x h = absurd (both_ways false refl h)
map-place m (y ∷ ys) x h = elim (cases_Bool (eqb x y)) [ inl t ↦ rw t (ap m (sym (eqb-true _ _ t))) | inr f ↦ rw f (map-place m ys x (rw f at h)) ]

pub unpacked-packed : (set : ℕ) (m : Amounts) (x : ℕ) → member x (bases set) ≡ true → unpacked set (packed set m) x ≡ m x
unpacked-packed set m x h =
    get_or_append_left (map m (bases set)) (replicate (8 - length (bases set)) 0) 0 (place x (bases set)) (let e = length-map (bases set) m in let u = place_short x (bases set) h in omega (arith, e, u)) ∙ map-place m (bases set) x h

-- no value passes the limit
abbrev pub small_all : List ℕ → Bool
small_all values = all (λ v. leb v 1000000000) values

pub packed-small : (set : ℕ) (m : Amounts) → Small m → small_all (packed set m) ≡ true
packed-small set m h = all_append (λ v. leb v 1000000000) (map m (bases set)) (replicate (8 - length (bases set)) 0) (each (bases set)) (zeros (8 - length (bases set)))
  where
    each : (l : List ℕ) → small_all (map m l) ≡ true
    each [] = refl
    each (x ∷ xs) = let t : leb (m x) 1000000000 ≡ true = le-leb _ _ (h x) in rw t (each xs)

    zeros : (n : ℕ) → small_all (replicate n 0) ≡ true
    zeros zero = refl
    zeros (suc n) = zeros n

pub laid-small : (set : ℕ) (values : List ℕ) (m : Amounts) → small_all values ≡ true → Small m → Small (laid set values m)
laid-small set values m h k x = elim (cases_Bool (member x (bases set))) [
  | inl t ↦ rw t (leb-true _ _ (all_get_d (λ v. leb v 1000000000) values 0 h refl (place x (bases set))))
  | inr f ↦ rw f (k x)
]
