-- Amounts laid one after another, by the bases of a set, are the laid amounts: no base of a set comes twice, so that none
-- is laid over another. By induction over the bases.
use Rattle.std.proofs.Common.{◌≡◌, ℕ, suc, ◌+◌, ◌<◌, ◌≤◌, false, cond, eqb, List, [], ◌∷◌, map, length, get_or, drop, refl, ap, ◌∙◌, inl, inr, add-zero, zero-add, arith}
use mathlib.Core.Path.{fun_ext}
use Rattle.std.proofs.lemmas.List.{length-drop, length-map, get_or_append_left, get_or-map}
use Rattle.std.proofs.lemmas.Bool.{cases_Bool, eqb-true}
use Rattle.lists.specs.Words.{member, place, updated, Distinct}
use Rattle.sets.specs.Sets.{bases}
use Rattle.sets.proofs.Bases.{bases_distinct}
use Rattle.stock.specs.Stock.{Amounts, laid}
use Rattle.stock.specs.BySet.{Writes, LaidRight, PackedBack}
use Rattle.stock.proofs.Places.{member-get_or, place-get_or, place-within, get_or-place}

-- one value after another, from value number k on, laid at the bases in turn
abbrev pub laid_from : List ℕ → ℕ → List ℕ → Amounts → Amounts
laid_from [] k values m = m
laid_from (b ∷ bs) k values m = laid_from bs (suc k) values (updated m b (get_or values k 0))

laid_from_at : (bs : List ℕ) (k : ℕ) (values : List ℕ) (m : Amounts) (x : ℕ) → Distinct bs → laid_from bs k values m x ≡ cond (member x bs) (get_or values (k + place x bs) 0) (m x)
laid_from_at [] k values m x d = refl
laid_from_at (b ∷ bs) k values m x d =
    elim (cases_Bool (eqb x b)) [
      | inl t ↦
          let e : x ≡ b = eqb-true x b t in
          let none : member x bs ≡ false = ap (λ y. member y bs) e ∙ d.0 in
          laid_from_at bs (suc k) values (updated m b (get_or values k 0)) x d.1 ∙ rw (none, t, add-zero k)
      | inr f ↦
          let e : suc k + place x bs ≡ k + suc (place x bs) = omega arith in
          laid_from_at bs (suc k) values (updated m b (get_or values k 0)) x d.1 ∙ rw (f, e)
    ]

-- all of them, from the first on
laid_from-first : (set : ℕ) (values : List ℕ) (m : Amounts) → laid_from (bases set) 0 values m ≡ laid set values m
laid_from-first set values m = fun_ext (λ x. laid_from_at (bases set) 0 values m x (bases_distinct set) ∙ rw (zero-add (place x (bases set))))

-- the writes that are left, from a book on, complete those from the start
abbrev pub Leads : {B : Type 0} → (B → B → ℕ → ℕ → Type 0) → List ℕ → List ℕ → B → List ℕ → ℕ → B → Type 0
Leads {B} leaves values all start left k now = (end : B) → Writes leaves left k values now end → Writes leaves all 0 values start end

module _ {B : Type 0} (leaves : B → B → ℕ → ℕ → Type 0) (values all : List ℕ) (start : B) where
  pub leads-done : (left : List ℕ) (k : ℕ) (now : B) → left ≡ [] → Leads leaves values all start left k now → Writes leaves all 0 values start now
  leads-done left k now none lead = lead now (rw none refl)

-- once no base is left, they are laid
pub laid_from-done : (set : ℕ) (left : List ℕ) (k : ℕ) (values : List ℕ) (start m : Amounts) → left ≡ [] → laid_from left k values m ≡ laid_from (bases set) 0 values start → m ≡ laid set values start
laid_from-done set left k values start m none e = rw none at e ∙ laid_from-first set values start

pub laid-right : LaidRight
laid-right set values m = record {
  given = λ k h. rw (member-get_or (bases set) k h, place-get_or (bases set) k (bases_distinct set) h);
  kept = λ x e. rw e;
}

pub packed_back : PackedBack
packed_back set m others x e =
    let h : place x (bases set) < length (bases set) = place-within (bases set) x e in
    let l : place x (bases set) < length (map m (bases set)) = omega (arith, length-map (bases set) m) in
    rw e (get_or_append_left (map m (bases set)) _ 0 (place x (bases set)) l ∙ get_or-map m (bases set) (place x (bases set)) 0 0 h ∙ ap m (get_or-place (bases set) x e))

-- where as many bases are laid as there are values, none is left of at most eight
pub none_left : (left values : List ℕ) (k n : ℕ) → length left + k ≡ n → n ≤ 8 → length values ≡ 8 → length (drop k values) ≡ 0 → left ≡ []
none_left [] values k n e h l z = refl
none_left (b ∷ bs) values k n e h l z = absurd (omega (arith, length-drop k values))
