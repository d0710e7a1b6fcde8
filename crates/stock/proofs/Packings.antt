-- A set's amounts packed, one base a turn: what is packed so far agrees with the amounts of the bases, and is 0 after them.
use Rattle.std.proofs.Common.{◌≡◌, ℕ, zero, suc, ◌+◌, ◌-◌, ◌<◌, ◌≤◌, List, [], ◌∷◌, ◌++◌, map, length, get_or, take, drop, set, replicate, sym, refl, ap, ◌∙◌, inl, inr, arith, below_more}
use Rattle.std.proofs.lemmas.List.{length-set, length-append, length-map, length-replicate, length-take-le, length-drop, drop_more, get_or-take, get_or-map, get_or_past, get_or-set_same, get_or-set_other, ext_get_or, take_all}
use Rattle.std.proofs.lemmas.Bool.{cases_lt}
use Rattle.stock.specs.Stock.{Amounts}
use Rattle.stock.proofs.Bounds.{get_or-zeros}

-- the first of what is left of a list after k stands at k
pub head_at : (xs ys : List ℕ) (k y : ℕ) → drop k xs ≡ y ∷ ys → (k < length xs) × (get_or xs k 0 ≡ y) × (drop (k + 1) xs ≡ ys)
head_at xs ys k y e =
    let h : k < length xs = omega (arith, ap length e, length-drop k xs) in
    let split = drop_more xs k 0 h in
    (h, cc, cc)

get_or_padded : (xs : List ℕ) (n i : ℕ) → get_or (xs ++ replicate n 0) i 0 ≡ get_or xs i 0
get_or_padded [] n i = get_or-zeros n i
get_or_padded (x ∷ xs) n zero = refl
get_or_padded (x ∷ xs) n (suc i) = get_or_padded xs n i

-- the first k of eight are the amounts of the first k bases, and the others are 0
pub record Packing (bs : List ℕ) (m : Amounts) (k : ℕ) (out : List ℕ) : Type 0 where
  pub eight : length out ≡ 8
  pub done : (j : ℕ) → j < k → get_or out j 0 ≡ get_or (map m bs) j 0
  pub left : (j : ℕ) → k ≤ j → get_or out j 0 ≡ 0

pub packing_none : (bs : List ℕ) (m : Amounts) → Packing bs m 0 (replicate 8 0)
packing_none bs m = record { eight = refl; done = λ j h. absurd (omega arith); left = λ j h. get_or-zeros 8 j }

module _ (bs : List ℕ) (m : Amounts) (k : ℕ) (out : List ℕ) (p : Packing bs m k out) where
  -- one base more
  pub packing_more : k < 8 → k < length bs → Packing bs m (k + 1) (set out k (m (get_or bs k 0)))
  packing_more h l =
      let w : k < length out = omega (arith, p.eight) in
      let here : get_or (set out k (m (get_or bs k 0))) k 0 ≡ get_or (map m bs) k 0 = get_or-set_same out k (m (get_or bs k 0)) 0 w ∙ sym (get_or-map m bs k 0 0 l) in
      record {
        eight = length-set out k (m (get_or bs k 0)) ∙ p.eight;
        done = below_more (λ j. get_or (set out k (m (get_or bs k 0))) j 0 ≡ get_or (map m bs) j 0) k (λ j g. get_or-set_other out k j (m (get_or bs k 0)) 0 (λ e. omega arith) ∙ p.done j g) here;
        left = λ j g. get_or-set_other out k j (m (get_or bs k 0)) 0 (λ e. omega arith) ∙ p.left j (omega arith);
      }

  -- no base is left, or eight are packed
  pub packing_done : ((j : ℕ) → k ≤ j → j < 8 → length bs ≤ j) → out ≡ take 8 (map m bs ++ replicate (8 - length bs) 0)
  packing_done none =
      let padded : List ℕ = map m bs ++ replicate (8 - length bs) 0 in
      let n : 8 ≤ length padded = omega (arith, length-append (map m bs) (replicate (8 - length bs) 0), length-map bs m, length-replicate {A = ℕ} (8 - length bs) 0) in
      let same : (j : ℕ) → j < 8 → get_or out j 0 ≡ get_or (map m bs) j 0 = λ j h. elim (cases_lt j k) [
        | inl g ↦ p.done j g
        | inr g ↦ p.left j g ∙ sym (get_or_past (map m bs) j 0 (omega (arith, length-map bs m, none j g h)))
      ] in
      ext_get_or 0 out (take 8 padded) (p.eight ∙ sym (length-take-le 8 padded n))
      (λ j h. let g : j < 8 = omega (arith, p.eight) in same j g ∙ sym (get_or-take 8 padded j 0 g ∙ get_or_padded (map m bs) (8 - length bs) j))

-- a set of at most eight bases is packed whole
pub packed-whole : (bs : List ℕ) (m : Amounts) → length bs ≤ 8 → take 8 (map m bs ++ replicate (8 - length bs) 0) ≡ map m bs ++ replicate (8 - length bs) 0
packed-whole bs m h = take_all 8 (map m bs ++ replicate (8 - length bs) 0) (omega (arith, length-append (map m bs) (replicate (8 - length bs) 0), length-map bs m, length-replicate {A = ℕ} (8 - length bs) 0))
