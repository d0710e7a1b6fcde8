-- Lists that grow at their end: what holds of the empty list, and of a list with one more at its end, holds of every list;
-- and what holds of each element and of one more holds of each element with that one.
use Rattle.std.proofs.Common.{ℕ, ◌<◌, List, [], ◌∷◌, ◌++◌, length, get_or, sym, subst, inl, inr, append_assoc, append-nil, arith, length-append}
use lib.Seq.{get_or-append_seam}
use Rattle.std.proofs.lemmas.List.{get_or_append_left}
use Rattle.std.proofs.lemmas.Bool.{cases_eq}

pub snoc_ind : {X : Type 0} (P : List X → Type 0) → P [] → ((xs : List X) (x : X) → P xs → P (xs ++ x ∷ [])) → (l : List X) → P l
snoc_ind {X} P none more l = go [] l none
  where
    go : (front rest : List X) → P front → P (front ++ rest)
    go front [] p = rw append-nil p
    go front (x ∷ rest) p = rw append_assoc at (go (front ++ x ∷ []) rest (more front x p))

pub each_push : {X : Type 0} (P : ℕ → X → Type 0) (l : List X) (x d : X) → ((j : ℕ) → j < length l → P j (get_or l j d)) → P (length l) x →
    (j : ℕ) → j < length (l ++ x ∷ []) → P j (get_or (l ++ x ∷ []) j d)
each_push P l x d old new j h = elim (cases_eq j (length l)) [
  | inl e ↦ rw (e, get_or-append_seam l x [] d) new
  | inr ne ↦
      let low : j < length l = let z = length-append l (x ∷ []) in omega arith in
      subst (P j) (sym (get_or_append_left l (x ∷ []) d j low)) (old j low)
]
