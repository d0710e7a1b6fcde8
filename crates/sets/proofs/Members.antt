-- Which bases a set has: a set within another has none that the other lacks, and two sets share a base exactly where
-- some base is in both. All by membership in the list of bases.
use Rattle.std.proofs.Common.{◌≡◌, ℕ, true, false, ltb, sym, ◌∙◌, inl, inr}
use Rattle.std.proofs.lemmas.Bool.{cases_Bool, and_parts, and_from, both_ways}
use Rattle.lists.specs.Words.{member}
use Rattle.lists.proofs.Members.{any-member, some_of, all_at, all_from}
use Rattle.sets.specs.Sets.{has, bases, within, shares}
use Rattle.sets.proofs.Bases.{member-bases}

has_base : (set x : ℕ) → member x (bases set) ≡ true → has set x ≡ true
has_base set x h = (and_parts (has set x) (ltb x 32) (sym (member-bases set x) ∙ h)).0

base_of : (a b x : ℕ) → member x (bases a) ≡ true → has b x ≡ true → member x (bases b) ≡ true
base_of a b x h k = member-bases b x ∙ and_from _ _ k (and_parts (has a x) (ltb x 32) (sym (member-bases a x) ∙ h)).1

pub within_base : (a b x : ℕ) → within a b ≡ true → member x (bases a) ≡ true → member x (bases b) ≡ true
within_base a b x h k = base_of a b x k (all_at (has b) (bases a) h x k)

pub within_trans : (a b c : ℕ) → within a b ≡ true → within b c ≡ true → within a c ≡ true
within_trans a b c h k = all_from (has c) (bases a) (λ x m. has_base c x (within_base b c x k (within_base a b x h m)))

pub shares_base_lem : (a b x : ℕ) → member x (bases a) ≡ true → member x (bases b) ≡ true → shares a b ≡ true
shares_base_lem a b x h k = any-member (has b) x (bases a) (has_base b x k) h

pub shared_base : (a b : ℕ) → shares a b ≡ true → (x : ℕ) × (member x (bases a) ≡ true) × (member x (bases b) ≡ true)
shared_base a b h = let z = some_of (has b) (bases a) h in (z.0, z.1, base_of a b z.0 z.1 z.2)

pub shares_sym : (a b : ℕ) → shares a b ≡ true → shares b a ≡ true
shares_sym a b h = let z = shared_base a b h in shares_base_lem b a z.0 z.2 z.1

pub shares-within : (a b c : ℕ) → within a b ≡ true → shares a c ≡ true → shares b c ≡ true
shares-within a b c h k = let z = shared_base a c k in shares_base_lem b c z.0 (within_base a b z.0 h z.1) z.2

pub apart_base : (a b x : ℕ) → shares a b ≡ false → member x (bases a) ≡ true → member x (bases b) ≡ false
apart_base a b x f h = elim (cases_Bool (member x (bases b))) [ inr n ↦ n | inl t ↦ absurd (both_ways (shares a b) f (shares_base_lem a b x h t)) ]
