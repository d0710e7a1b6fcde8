-- The books of a house over the memory of its rooms.
use Rattle.std.proofs.Common.{◌≡◌, ℕ, zero, suc, min, List, [], ◌∷◌, map, take, refl, ap, ◌∙◌, arith}
use Rattle.lists.specs.Words.{rising}
use Rattle.stock.specs.Stock.{Amounts, Stock}
use Rattle.openings.specs.Books.{spare_in}
use Rattle.openings.specs.Books.{new_book}
use Rattle.openings.specs.declared.book_memory.BookMemory.{BookMemory}

-- a new book with so many spare entries
abbrev pub with_spare : Amounts → ℕ → Stock
with_spare opening spare = record { amounts = opening; spare = spare }

by_spare : (a : Amounts) (memories : List BookMemory) (rooms : ℕ) → map (λ m. with_spare a (spare_in m)) (take rooms memories) ≡ map (with_spare a) (take rooms (map spare_in memories))
by_spare a [] zero = refl
by_spare a [] (suc rooms) = refl
by_spare a (m ∷ ms) zero = refl
by_spare a (m ∷ ms) (suc rooms) = ap (λ books. with_spare a (spare_in m) ∷ books) (by_spare a ms rooms)

by_room : (a : Amounts) (rooms : ℕ) → map (with_spare a) (take rooms (4096 ∷ 4096 ∷ 1024 ∷ 1024 ∷ [])) ≡ map (new_book a) (rising 0 (min rooms 4))
by_room a zero = refl
by_room a (suc zero) = refl
by_room a (suc (suc zero)) = refl
by_room a (suc (suc (suc zero))) = refl
by_room a (suc (suc (suc (suc zero)))) = refl
by_room a (suc (suc (suc (suc (suc rooms))))) = let four : min (suc (suc (suc (suc (suc rooms))))) 4 ≡ 4 = omega arith in rw four refl

pub opened : (a : Amounts) (memories : List BookMemory) (rooms : ℕ) → map spare_in memories ≡ 4096 ∷ 4096 ∷ 1024 ∷ 1024 ∷ [] →
    map (λ m. with_spare a (spare_in m)) (take rooms memories) ≡ map (new_book a) (rising 0 (min rooms 4))
opened a memories rooms e = by_spare a memories rooms ∙ ap (λ spares. map (with_spare a) (take rooms spares)) e ∙ by_room a rooms
