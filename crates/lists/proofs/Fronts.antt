-- A list that begins with another: places and members of the front are those of the whole.
use Rattle.std.proofs.Common.{◌≡◌, ℕ, ◌<◌, Bool, true, false, ◌⊎◌, List, [], ◌∷◌, ◌++◌, length, get_or, sym, ap, ◌∙◌, inl, inr, arith, length-append}
use lib.Seq.{get_or-append_seam}
use Rattle.std.proofs.lemmas.Bool.{cases_Bool, or_left}
use Rattle.lists.specs.Words.{member, any, first, place}
use Rattle.lists.proofs.Members.{member-append, any_append}
use Rattle.lists.proofs.Places.{first-append, place_in, place_out, place_short, any-short}

module _ (l xs ys : List ℕ) (e : l ≡ xs ++ ys) where
  pub front-member : (q : ℕ) → member q xs ≡ true → member q l ≡ true
  front-member q h = rw (e, member-append q xs ys) (or_left _ _ h)

  pub front-some : (f : ℕ → Bool) → any f xs ≡ true → any f l ≡ true
  front-some f h = rw (e, any_append f xs ys) (or_left _ _ h)

  pub front-place : (q : ℕ) → member q xs ≡ true → (place q l ≡ place q xs) × (place q xs < length xs)
  front-place q h = (rw e (place_in q xs ys h), place_short q xs h)

  pub front-short : (q : ℕ) → place q l < length xs → (member q xs ≡ true) × (place q xs ≡ place q l)
  front-short q h = go (cases_Bool (member q xs))
    where
      k : place q (xs ++ ys) < length xs
      k = rw e at h

      go : (member q xs ≡ true) ⊎ (member q xs ≡ false) → (member q xs ≡ true) × (place q xs ≡ place q l)
      go (inl t) = (t, rw e (sym (place_in q xs ys t)))
      go (inr f) = absurd (let o = place_out q xs ys f in let kk = k in omega (arith, kk))

  pub front-any : (f : ℕ → Bool) → any f xs ≡ true → (first f l ≡ first f xs) × (first f xs < length xs)
  front-any f h = (rw e (let z = first-append f xs ys in grind arith), any-short f xs h)

  pub front-first : (f : ℕ → Bool) → first f l < length xs → first f xs ≡ first f l
  front-first f h = rw e (let z = first-append f xs ys in let k : first f (xs ++ ys) < length xs = rw e at h in grind arith)

  -- the next element after the front
  pub front-next : length xs < length l → (rest : List ℕ) × (l ≡ xs ++ get_or l (length xs) 0 ∷ rest)
  front-next = next l xs ys e
    where
      next : (l xs ys : List ℕ) → l ≡ xs ++ ys → length xs < length l → (rest : List ℕ) × (l ≡ xs ++ get_or l (length xs) 0 ∷ rest)
      next l xs [] e h = absurd (let z = ap (length {A = ℕ}) e in let u = length-append xs [] in omega (arith, z, u, h))
      next l xs (y ∷ ys) e h = (ys, e ∙ ap (λ z. xs ++ z ∷ ys) (sym (ap (λ d. get_or d (length xs) 0) e ∙ get_or-append_seam xs y ys 0)))
