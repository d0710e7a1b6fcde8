-- Which numbers are bases of a set: those below 32 whose bit is set.
use Rattle.std.proofs.Common.{◌≡◌, ℕ, ◌+◌, ◌<◌, true, ◌&&◌, ltb, leb, List, ◌∷◌, sym, refl, ap, ◌∙◌, arith}
use Rattle.std.proofs.lemmas.Bool.{and_parts, ltb-true, eq-eqb}
use Rattle.lists.specs.Words.{member, rising, Distinct}
use Rattle.lists.proofs.Members.{member-rising}
use Rattle.lists.proofs.Keeps.{member-keep}
use Rattle.lists.proofs.Distincts.{distinct_keep, distinct_rising}
use Rattle.sets.specs.Sets.{has, bases}

pub member-bases : (set x : ℕ) → member x (bases set) ≡ (has set x && ltb x 32)
unfolding bases
member-bases set x = member-keep (has set) x (rising 0 32) ∙ ap (λ b. has set x && b) (member-rising x 0 32 ∙ low x)
  where
    low : (x : ℕ) → (leb 0 x && ltb x (0 + 32)) ≡ ltb x 32
    low x = grind arith

-- none stands twice
pub bases_distinct : (set : ℕ) → Distinct (bases set)
unfolding bases
bases_distinct set = distinct_keep (has set) (rising 0 32) (distinct_rising 0 32)

-- a base is below 32
pub base_below : (set x : ℕ) → member x (bases set) ≡ true → x < 32
base_below set x h = ltb-true x 32 (and_parts (has set x) (ltb x 32) (sym (member-bases set x) ∙ h)).1

-- and so is the first of those that are left
pub first_below : (set : ℕ) (rest : List ℕ) (x : ℕ) → bases set ≡ x ∷ rest → x < 32
first_below set rest x e = base_below set x (rw (e, eq-eqb x x refl) refl)
