-- A table of marks says which numbers a list holds: it starts all false at the empty list, and one mark is set for each
-- number that is put at the end.
use Rattle.std.specs.Prelude.{◌≡◌, ℕ, zero, suc, ◌+◌, ◌<◌, ◌≤◌, Bool, true, false, ◌&&◌, ◌||◌, List, [], ◌∷◌, ◌++◌, length, replicate, ◌==◌, nat_eq, slice_index_or, slice_set}
use Rattle.std.proofs.Math.Path.{refl, ap, fun_ext}
use Rattle.std.proofs.Common.{sym, ◌∙◌, get_or-set_same, get_or-set_other}
use Rattle.std.proofs.Math.Logic.{inl, inr}
use native.Mathlib.Omega.{arith}
use Rattle.std.proofs.lemmas.Bool.{cases_eq, cases_Bool, lt-ltb, eqb-true, both_ways}
use Rattle.lists.specs.Words.{any, member, rising, updated}
use Rattle.wire.specs.declared.announcement.Announcement.{Announcement}
use Rattle.wires.specs.Kept.{announced_in, trues}
use Rattle.lists.proofs.Members.{member-push, any_append}
use Rattle.wires.proofs.Words.{member-below}

pub no_marks : (n k : ℕ) → slice_index_or (replicate n false) k false ≡ false
no_marks zero k = refl
no_marks (suc n) zero = refl
no_marks (suc n) (suc k) = no_marks n k

-- there are no more marks set than marks
pub trues-few : (marks : List Bool) → trues marks ≤ length marks
trues-few [] = omega arith
trues-few (true ∷ ms) = omega (arith, trues-few ms)
trues-few (false ∷ ms) = omega (arith, trues-few ms)

-- a mark more that is not set changes nothing
pub unmarked-push : (marks : List Bool) (b : ℕ) → slice_index_or (marks ++ false ∷ []) b false ≡ slice_index_or marks b false
unmarked-push [] zero = refl
unmarked-push [] (suc b) = refl
unmarked-push (m ∷ ms) zero = refl
unmarked-push (m ∷ ms) (suc b) = unmarked-push ms b

pub trues-push : (marks : List Bool) → trues (marks ++ false ∷ []) ≡ trues marks
trues-push [] = omega arith
trues-push (m ∷ ms) = omega (arith, trues-push ms)

module _ (marks : List Bool) (b : ℕ) (within : b < length marks) where
  -- a mark more is set
  pub mark_set : (k : ℕ) → slice_index_or (slice_set marks b true) k false ≡ (slice_index_or marks k false || k == b)
  mark_set k =
      elim (cases_eq k b) [
        | inl same ↦ rw same (let here = get_or-set_same marks b true false within in grind arith)
        | inr apart ↦ let there = get_or-set_other marks b k true false apart in grind arith
      ]

pub trues-set : (marks : List Bool) (b : ℕ) → b < length marks → slice_index_or marks b false ≡ false → trues (slice_set marks b true) ≡ trues marks + 1
trues-set [] b h e = absurd (omega arith)
trues-set (false ∷ ms) zero h e = omega arith
trues-set (true ∷ ms) zero h e = absurd (both_ways true e refl)
trues-set (m ∷ ms) (suc b) h e = omega (arith, trues-set ms b (omega arith) e)

-- the marks of a list with one more number
pub marks-push : (marks : List Bool) (xs : List ℕ) (b : ℕ) → b < length marks → ((k : ℕ) → slice_index_or marks k false ≡ member k xs) → (k : ℕ) → slice_index_or (slice_set marks b true) k false ≡ member k (xs ++ b ∷ [])
marks-push marks xs b within marked k = mark_set marks b within k ∙ ap (λ t. t || k == b) (marked k) ∙ sym (member-push k xs b)

-- one more value passes the test, at one place
any_one : (f : ℕ → Bool) (at : ℕ) (t : Bool) (xs : List ℕ) → any (λ k. f k || (k == at && t)) xs ≡ (any f xs || (member at xs && t))
any_one f at t [] = grind arith
any_one f at t (x ∷ xs) = let e = any_one f at t xs in let same = swapped at x in or_in (f x) (any f xs) (x == at) (member at xs) t _ _ e same
  where
    swapped : (a b : ℕ) → (a == b) ≡ (b == a)
    swapped a b = grind arith

    or_in : (a b c d t rest left : Bool) → rest ≡ (b || (d && t)) → left ≡ c → ((a || (c && t)) || rest) ≡ ((a || b) || ((left || d) && t))
    or_in a b c d t rest left e g = grind arith

-- the batches announced with one announcement more
module _ (A : ℕ → List Announcement) (sender : ℕ) (a : Announcement) (b : ℕ) where
  said : List Announcement → Bool
  said list = any (λ (x : Announcement). nat_eq x.batch b) list

  one_more : (k : ℕ) → said (updated A sender (A sender ++ a ∷ []) k) ≡ (said (A k) || (k == sender && b == a.batch))
  unfolding said
  one_more k =
      elim (cases_Bool (k == sender)) [
        | inl t ↦ let push = any_append (λ (x : Announcement). nat_eq x.batch b) (A sender) (a ∷ []) in rw (t, eqb-true k sender t) (push ∙ same (said (A sender)) a.batch b)
        | inr f ↦ rw f (none (said (A k)))
      ]
    where
      same : (t : Bool) (x y : ℕ) → (t || (x == y || false)) ≡ (t || (true && y == x))
      same t x y = grind arith

      none : (t : Bool) → t ≡ (t || false)
      none true = refl
      none false = refl

  pub announced-push : sender < 8 → announced_in (updated A sender (A sender ++ a ∷ [])) b ≡ (announced_in A b || b == a.batch)
  unfolding announced_in said
  announced-push small =
      ap (λ (f : ℕ → Bool). any f (rising 0 8)) (fun_ext one_more)
      ∙ any_one (λ k. said (A k)) sender (b == a.batch) (rising 0 8)
      ∙ ap (λ t. any (λ k. said (A k)) (rising 0 8) || (t && b == a.batch)) (member-below sender 8 ∙ lt-ltb sender 8 small)
